-- The rows that a step or a place names.
use mathlib.Core.Path.{◌≡◌, sym, ◌∙◌}
use native.Mathlib.Omega.{arith}
use Prim.Native.Nat.{ℕ, ◌≤◌, ◌<◌}
use lib.Dec.{T, ltb, ltb→lt}
use borrow.Author.Tests.{lt-ltb, le-ltb}
use Rattle.model.specs.Tests.{◌and◌}
use Rattle.model.specs.Tables.{Table, is_stop, known}
use Rattle.model.specs.Rules.{stop_of}
use Rattle.model.specs.declared.Place.{Place}
use Rattle.model.specs.declared.Place.TheVariants.{Ether, Codel}
use Rattle.model.specs.declared.ActStep.{ActStep}
use Rattle.model.specs.declared.ActStep.TheVariants.{Lm, Ia, Ea, Cx, Fa}
use Rattle.model.proofs.Tests.{and_l, and_r, need_of}
use Rattle.model.proofs.Asked.{known_codel}
use Rattle.model.proofs.StepsKeep.{first_at_lem}
use Rattle.rules.specs.Local.{naming, row_in}

-- the codel of an activity's stop has a row
pub stop_codel : (K : Table) (a : ℕ) (p : Place) (c : ℕ) → p ≡ stop_of K a → p ≡ Codel c → c < K.ncodels
stop_codel K a p c e f = (first_at_lem K.ncodels (is_stop K a) c (sym e ∙ f)).0

-- the rows that an activity's step names exist: its activity, the codel of `ea`, the target of `fa`
pub act_there : (K : Table) (a : ℕ) (k : ActStep) → naming K a k ≡ 0 → a < K.nacts
unfolding naming
act_there K a (Lm t) h = ltb→lt a _ (and_r (ltb t K.ntasks) _ (need_of (ltb t K.ntasks and ltb a K.nacts) 12 0 tt h).0)
act_there K a Ia h = ltb→lt a _ (need_of (ltb a K.nacts) 12 0 tt h).0
act_there K a (Ea Ether) h = absurd (omega arith)
act_there K a (Ea (Codel c)) h = ltb→lt a _ (and_l (ltb a K.nacts) _ (need_of (ltb a K.nacts and ltb c K.ncodels) 12 0 tt h).0)
act_there K a Cx h = ltb→lt a _ (need_of (ltb a K.nacts) 12 0 tt h).0
act_there K a (Fa p) h = ltb→lt a _ (and_l (ltb a K.nacts) _ (need_of (ltb a K.nacts and known K p) 12 0 tt h).0)

module _ (K : Table) (a : ℕ) (k : ActStep) (h : naming K a k ≡ 0) where
  pub ea_codel : (p : Place) (c : ℕ) → k ≡ Ea p → p ≡ Codel c → c < K.ncodels
  unfolding naming
  ea_codel p c e f =
      let g : naming K a (Ea (Codel c)) ≡ 0 = rw (e, f) at h in
      ltb→lt c _ (and_r (ltb a K.nacts) _ (need_of (ltb a K.nacts and ltb c K.ncodels) 12 0 tt g).0)

  pub fa_place : (p : Place) → k ≡ Fa p → T (known K p)
  unfolding naming
  fa_place p e =
      let g : naming K a (Fa p) ≡ 0 = rw e at h in
      and_r (ltb a K.nacts) _ (need_of (ltb a K.nacts and known K p) 12 0 tt g).0

pub ruleset rows = (known_codel, stop_codel, act_there, ea_codel, fa_place)

-- the row that a number reads
module _ (i n : ℕ) where
  pub row_own : i < n → i ≡ row_in i n
  row_own h = rw (lt-ltb i n h)

  pub row_first : n ≤ i → 0 ≡ row_in i n
  row_first h = rw (le-ltb i n h)
