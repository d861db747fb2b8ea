-- The promises of the table's reader, check and writer leave no choice: no two answers of the code tell the same.
use Prim.Native.Nat.{ℕ}
use mathlib.Core.List.{List, [], ◌∷◌}
use mathlib.Core.Path.{◌≡◌, refl, sym, ap, ◌∙◌}
use native.Mathlib.Omega.{arith}
use lib.ListN.{length, get_or}
use Rattle.std.specs.Prelude.{Result, Ok, Err}
use Rattle.text.proofs.Unique.{one_value}
use Rattle.table.specs.Faults.{number_of}
use Rattle.table.specs.Checks.{Said, numbers_of, says}
use Rattle.table.specs.Texts.{table_text, write_table, wrote_numbers, written_over}
use Rattle.table.specs.declared.Table.{Table}
use Rattle.table.specs.declared.fault.Fault.{Fault}
use Rattle.table.specs.declared.fault.Fault.TheVariants as fault
use Rattle.table.specs.declared.fault.Refused.{Refused}
use Rattle.table.proofs.Built.{refused_not}

-- the refusal of a number
fault_of : ℕ → Fault
fault_of n = get_or (fault.Form ∷ fault.Form ∷ fault.Order ∷ fault.Limit ∷ fault.Unknown ∷ fault.Graph ∷ fault.End ∷ fault.Missing ∷ []) n fault.NoRoom

fault_back : (f : Fault) → fault_of (number_of f) ≡ f
unfolding fault_of
fault_back fault.Form = refl
fault_back fault.Order = refl
fault_back fault.Limit = refl
fault_back fault.Unknown = refl
fault_back fault.Graph = refl
fault_back fault.End = refl
fault_back fault.Missing = refl
fault_back fault.NoRoom = refl

-- refusals with the same numbers are equal
pub refused_one : (a b : Refused) → number_of a.fault ∷ a.line ∷ [] ≡ number_of b.fault ∷ b.line ∷ [] → a ≡ b
refused_one a b e =
    let n : number_of a.fault ≡ number_of b.fault = cc in
    let l : a.line ≡ b.line = cc in
    let f : a.fault ≡ b.fault = sym (fault_back a.fault) ∙ ap fault_of n ∙ fault_back b.fault in
    ap (λ (x : Fault). record { fault = x; line = a.line }) f ∙ ap (λ (x : ℕ). record { fault = b.fault; line = x }) l

-- answers with the same numbers are equal: one that accepts has none
pub answer_one : (a b : Result (Unit {0}) Refused) → numbers_of a ≡ numbers_of b → a ≡ b
answer_one (Ok x) (Ok y) e = ap Ok refl
answer_one (Ok x) (Err r) e = let z : ◌≡◌ {A = ℕ} 0 1 = cc in absurd (omega arith)
answer_one (Err r) (Ok y) e = let z : ◌≡◌ {A = ℕ} 0 1 = cc in absurd (omega arith)
answer_one (Err r) (Err s) e = ap Err (refused_one r s e)

pub wrote_one : (a b : Result ℕ Refused) → wrote_numbers a ≡ wrote_numbers b → a ≡ b
wrote_one (Ok n) (Ok m) e = let z : n ≡ m = cc in ap Ok z
wrote_one (Ok n) (Err r) e = let z : ◌≡◌ {A = ℕ} 0 1 = cc in absurd (omega arith)
wrote_one (Err r) (Ok m) e = let z : ◌≡◌ {A = ℕ} 0 1 = cc in absurd (omega arith)
wrote_one (Err r) (Err s) e = ap Err (refused_one r s e)

-- two results that satisfy the promise of `read_table`, or that of `check_table`, are equal
pub told_unique : {d : Said} {r r' : Result Table Refused} → says r ≡ d → says r' ≡ d → r ≡ r'
told_unique {r} {r'} p q = same r r' (one_value p q)
  where
    same : (a b : Result Table Refused) → says a ≡ says b → a ≡ b
    same (Ok t) (Ok u) e = ap Ok (ap (λ (x : Said). x.table) e)
    same (Ok t) (Err s) e = refused_not _ _ t (sym e)
    same (Err r) (Ok u) e = refused_not _ _ u e
    same (Err r) (Err s) e = ap Err (refused_one r s (ap (λ (x : Said). x.numbers) e))

-- two answers and two buffers that satisfy the promise of `write_table` are equal
pub written_unique : (t : Table) (buf : List ℕ) {after after' : List ℕ} {r r' : Result ℕ Refused}
    → (wrote_numbers r ≡ write_table t (length buf)) × (after ≡ written_over (write_table t (length buf)) (table_text t) buf)
    → (wrote_numbers r' ≡ write_table t (length buf)) × (after' ≡ written_over (write_table t (length buf)) (table_text t) buf)
    → (r ≡ r') × (after ≡ after')
written_unique t buf {r} {r'} p q = (wrote_one r r' (one_value p.0 q.0), one_value p.1 q.1)
