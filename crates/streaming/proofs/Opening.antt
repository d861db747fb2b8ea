-- The table read from the front of a block: one law for each answer.
use Prim.Native.Nat.{ℕ, ◌≤◌}
use mathlib.Core.Bool.{false}
use mathlib.Core.List.{List, [], ◌∷◌}
use mathlib.Core.Path.{◌≡◌, refl, sym, ap, ◌∙◌}
use native.Mathlib.Omega.{arith}
use lib.ListN.{length, take}
use lib.Seq.{slice, take-take, length-take-le}
use Rattle.std.specs.Prelude.{Option, Some, None, Result, Ok, Err}
use Rattle.std.specs.Result.{result_ok}
use Rattle.std.proofs.lemmas.Option.{none-some, same_Some}
use Rattle.text.specs.Parts.{pick}
use Rattle.text.specs.Put.{Put}
use Rattle.table.specs.Checks.{Said, accepts, says, Passes}
use Rattle.table.specs.Texts.{is_empty, read_table}
use Rattle.table.specs.declared.Table.{Table}
use Rattle.table.specs.declared.fault.Refused.{Refused}
use Rattle.table.proofs.Trips.{read_checks}
use Rattle.stream.specs.Cut.{cut_of}
use Rattle.stream.proofs.Cuts.{cut_within}
use Rattle.streaming.specs.Turns.{opening}
use Rattle.streaming.specs.Lent.{accepted, Opens}
use Rattle.streaming.specs.declared.Opened.{Opened}

-- what is left of a result is its table
accepted_ok : (r : Result Table Refused) → result_ok r ≡ accepted (says r)
accepted_ok (Ok t) = refl
accepted_ok (Err r) = refl

-- the table that a text says, by whether it is accepted
pub accepted_some : (w : Said) (t : Table) → accepted w ≡ Some t → w ≡ accepts t
accepted_some w t e = go w.numbers w.table e
  where
    go : (ns : List ℕ) (u : Table) → pick (is_empty ns) (Some u) None ≡ Some t → record { numbers = ns; table = u } ≡ accepts t
    go [] u e = ap (λ x. accepts x) (same_Some u t e)
    go (n ∷ ns) u e = absurd (none-some _ e)

pub accepted_none : (w : Said) → accepted w ≡ None → is_empty w.numbers ≡ false
accepted_none w e = go w.numbers e
  where
    go : (ns : List ℕ) → pick (is_empty ns) (Some w.table) None ≡ None → is_empty ns ≡ false
    go [] e = absurd (none-some _ (sym e))
    go (n ∷ ns) e = refl

module _ (block : List ℕ) (have : ℕ) (h : have ≤ length block) (cut : ℕ) (e : cut ≡ cut_of (take have block)) where
  -- it lies within the block
  pub table_within : cut ≤ length block
  table_within = omega (arith, cut_within (take have block) cut e, length-take-le have block h)

  table_bytes : take cut block ≡ take (cut_of (take have block)) (take have block)
  table_bytes =
      let l : cut ≤ have = omega (arith, cut_within (take have block) cut e, length-take-le have block h) in
      sym (take-take cut have block l) ∙ ap (λ n. take n (take have block)) e

  -- it is read, and what is told and what is held follow
  pub opened : (r : Result Table Refused) → says r ≡ read_table (take cut block) → (out : List ℕ) (told : ℕ) (after : List ℕ) → Put out 0 (opening (says r).numbers) told after
      → (t : Option Table) → t ≡ result_ok r → (held : ℕ) (rest : List ℕ) → Put block 0 (slice cut have block) held rest
      → Opens (take have block) block out (record { table = t; told = told; held = held }) rest after
  opened r q out told after p t f held rest z =
      let w : says r ≡ read_table (take (cut_of (take have block)) (take have block)) = q ∙ ap read_table table_bytes in
      record {
        table = f ∙ accepted_ok r ∙ ap accepted w;
        told = rw (ap (λ (x : Said). x.numbers) w) at p;
        held = rw e at z;
      }

-- a table that was read is accepted
pub opened_accepted : {hand block out : List ℕ} {r : Opened} {rest after : List ℕ} → Opens hand block out r rest after → (t : Table) → r.table ≡ Some t → Passes t
opened_accepted {hand} o t e =
    let s = take (cut_of hand) hand in
    ap (λ (x : Said). x.numbers) (read_checks s t (accepted_some (read_table s) t (sym o.table ∙ e)))
