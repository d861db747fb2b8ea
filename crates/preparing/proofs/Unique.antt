-- The promises on a table's index and on its component leave no choice.
use Prim.Native.Nat.{ℕ}
use mathlib.Core.List.{List}
use mathlib.Core.Path.{◌≡◌}
use mathlib.Core.HLevel.{is_prop→PathP}
use Rattle.std.proofs.Props.{props}
use Rattle.text.proofs.Unique.{one_value}
use Rattle.table.specs.Tables.{table_of}
use Rattle.table.specs.declared.Table.{Table}
use Rattle.prepared.specs.Held.{held}
use Rattle.prepared.specs.Prepared.{table_in, Prepared}
use Rattle.prepared.specs.declared.component.Component.{Component}
use Rattle.preparing.specs.Filling.{index_of}

-- two answers that satisfy the promise of `index_of` are equal
pub index_unique : (t : Table) {r r' : List ℕ} → (r ≡ index_of (table_of t)) × Prepared t.rows r × (table_in t.rows r ≡ table_of t) → (r' ≡ index_of (table_of t)) × Prepared t.rows r' × (table_in t.rows r' ≡ table_of t) → r ≡ r'
index_unique t p q = one_value p.0 q.0

-- components with the same rows and the same index are equal: that the two agree is proved in one way only
component_one : (a b : Component) → a.rows ≡ b.rows → a.index ≡ b.index → a ≡ b
component_one a b p q = λ i. record { rows = p i; index = q i; prepared = is_prop→PathP (λ j. Prepared (p j) (q j)) (λ j. hlevel props) a.prepared b.prepared i }

-- and two that satisfy the promise of `prepare`
pub component_unique : (t : Table) (r r' : Component) → (r.rows ≡ t.rows) × (r.index ≡ index_of (table_of t)) × (held r ≡ table_of t) → (r'.rows ≡ t.rows) × (r'.index ≡ index_of (table_of t)) × (held r' ≡ table_of t) → r ≡ r'
component_unique t r r' p q = component_one r r' (one_value p.0 q.0) (one_value p.1 q.1)
