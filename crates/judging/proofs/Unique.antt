-- The promise of the recorder's call leaves no choice: one result, and one content of the lent buffer. Its 0 means one thing only.
use Prim.Native.Nat.{ℕ, ◌+◌, ◌≤◌, ◌<◌}
use mathlib.Core.List.{List, [], ◌∷◌, ◌++◌}
use mathlib.Core.Path.{◌≡◌}
use native.Mathlib.Omega.{arith}
use lib.ListN.{length, length-append}
use Rattle.text.specs.Put.{Put}
use Rattle.text.proofs.Picks.{order}
use Rattle.text.proofs.Puts.{put_fits, put_short, put_unique}
use Rattle.report.specs.Rows.{head_text}
use Rattle.report.proofs.Lines.{head_length}
use Rattle.table.specs.declared.Table as rows
use Rattle.table.specs.Texts.{read_table}
use Rattle.judging.specs.Report.{log_text, answer_text, report_on}

-- `judge`
pub judge_unique : (table log : List ℕ) {report after₁ after₂ : List ℕ} {r₁ r₂ : ℕ} → Put report 0 (report_on table log) r₁ after₁ → Put report 0 (report_on table log) r₂ after₂
    → (r₁ ≡ r₂) × (after₁ ≡ after₂)
judge_unique table log h k = put_unique h k

-- no report is empty: each begins with the header
pub report_some : (table log : List ℕ) → 0 < length (report_on table log)
unfolding report_on log_text
report_some table log = some (read_table table).table (read_table table).numbers
  where
    begins : (rest : List ℕ) → 0 < length (head_text ++ rest)
    begins rest = omega (arith, length-append head_text rest, head_length)

    some : (t : rows.Table) (ns : List ℕ) → 0 < length (answer_text t log ns)
    some t [] = begins _
    some t (n ∷ ls) = begins _

-- "It gets the report's length, or 0 with the buffer unchanged exactly when the report does not fit."
pub judge_zero : (table log : List ℕ) {report after : List ℕ} {r : ℕ} → Put report 0 (report_on table log) r after
    → (r ≡ 0 → length report < length (report_on table log)) × (length report < length (report_on table log) → (r ≡ 0) × (after ≡ report))
judge_zero table log {report} p = (
  λ e. order (length report) (length (report_on table log)) (λ h. h)
      (λ h. let k : 0 + length (report_on table log) ≤ length report = omega arith in absurd (omega (arith, (put_fits k p).0, report_some table log))),
  λ h. let k : length report < 0 + length (report_on table log) = omega arith in put_short k p,
)
