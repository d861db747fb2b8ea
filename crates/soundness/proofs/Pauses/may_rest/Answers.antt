-- `may_rest` meets its contract.
use Rattle.prepared.proofs.Stored.{most_codels_lem}
use Rattle.soundness.proofs.Marked.{mark_room, marked}
use Rattle.soundness.proofs.Pauses.may_rest.Goals as goal

pub bounds-self-c : goal.bounds-self-c
bounds-self-c c = mark_room _ _ _ _ (most_codels_lem c.args.self.now.component.now.prepared) c.requires c.args.self.now.marked c.in-Codel.is

pub returns-in-Codel : goal.returns-in-Codel
returns-in-Codel c = search (marked, most_codels_lem)
