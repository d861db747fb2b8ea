-- `has_pair` meets its contract. No mutex row from the first up to m has the larger codel.
use Rattle.prepared.proofs.Walks.{Passed}
use Rattle.prepared.proofs.Pairs.{pair_hit}
use Rattle.prepared.proofs.component.Component.has_pair.Given as goal

abbrev pub invariant-loop-m : goal.invariant-loop-m
invariant-loop-m l = Passed (pair_hit l.self.rows l.hi) l.initial.m l.m
