-- `leads` meets its contract. No edge from the first up to e has the target and the mode.
use Rattle.prepared.proofs.Walks.{Passed}
use Rattle.prepared.proofs.Edges.{edge_hit}
use Rattle.prepared.proofs.leads.Given as goal

abbrev pub invariant-loop-e : goal.invariant-loop-e
invariant-loop-e l = Passed (edge_hit l.rows l.target l.pause) l.initial.e l.e
