use Rattle.std.proofs.lemmas.Result.{err_from_is_err_and}
use Rattle.engine.proofs.Finding.{found}
use Rattle.engine.proofs.Waiting.{wait_refuses, wait_takes}
use Rattle.engine.proofs.steps.wait.Goals as goal

pub returns-in_err-check_wait : goal.returns-in_err-check_wait
returns-in_err-check_wait c = let p = err_from_is_err_and c.from_residual.result c.from_residual.ensures.1 in rw (p.1, p.2) (wait_refuses (found c.args.component.now.prepared c.requires.0) c.args.d c.in_err-check_wait.ensures)

pub returns : goal.returns
returns c = wait_takes (found c.args.component.now.prepared c.requires.0) c.args.d c.in_ok-check_wait.ensures c.grow_older.ensures c.after_wait-going.ensures
