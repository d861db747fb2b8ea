-- `store` meets its contract.
use Rattle.table.proofs.Storing.{row_stored, store_room, store_mark, store_building}
use Rattle.table.proofs.draft.Draft.store.Goals as goal

pub slot-p-requires : goal.slot-p-requires
slot-p-requires c = (c.requires.0.kind, store_room _ _ c.args.self.now.building _ c.requires.0 c.requires.1)

pub mark_of-mark-requires : goal.mark_of-mark-requires
mark_of-mark-requires c = store_mark _ _ c.args.self.now.building _ c.requires.0 c.requires.1

pub invariant_of-self : goal.invariant_of-self
invariant_of-self c = record {
  building = store_building _ _ c.args.self.now.building _ c.requires.0 c.requires.1 _ _
      (row_stored _ _ _ _ _ _ _ c.slot-p.ensures.0 c.narrow.ensures c.narrow-2.ensures c.narrow-3.ensures)
      (rw c.mark_of-mark.ensures.0);
}

pub returns : goal.returns
returns c = row_stored _ _ _ _ _ _ _ c.slot-p.ensures.0 c.narrow.ensures c.narrow-2.ensures c.narrow-3.ensures
