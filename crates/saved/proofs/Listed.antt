-- N and R of a task by what stands beside the state: the bits of its activities, which stand together, added one after another; and those of a
-- state's records.
use Prim.Native.Nat.{ℕ, zero, suc, ◌+◌, ◌*◌, ◌%◌, ◌≤◌, ◌<◌}
use mathlib.Core.Bool.{Bool, true, false}
use mathlib.Core.List.{List}
use mathlib.Core.Path.{◌≡◌, refl, sym, ap, ◌∙◌}
use native.Mathlib.Numerals.{add-one}
use native.Mathlib.Omega.{arith}
use lib.Dec.{T, leb, eqb}
use lib.ListN.{get_or}
use borrow.Author.Tests.{eq-eqb, ne_eqb, eqb-true}
use mir.Syntax.{w64}
use mir.Val.{Fits}
use Rattle.text.proofs.Picks.{cases, order}
use Rattle.model.specs.Tests.{◌and◌, ◌or◌, ◌implies◌, one, sum}
use Rattle.model.specs.Tables.{Table}
use Rattle.model.specs.States.{task_at, act_at}
use Rattle.model.specs.declared.State.{State}
use Rattle.model.proofs.Soundness.{Sound, fine_in}
use Rattle.prepared.specs.Prepared.{table_in, begin_of, end_of, acts_at, Prepared}
use Rattle.prepared.proofs.Stored.{most_acts_lem}
use Rattle.managing.specs.Listed.{listed_of, listed_in}
use Rattle.managing.proofs.Listed.{listed_at_lem}
use Rattle.saved.specs.Rows.{bit_of, run_bits, halt_bits}
use Rattle.saved.specs.Listed.{run_by, halt_by, ListsOf}
use Rattle.saved.proofs.Bits.{bits_alike}
use Rattle.saved.proofs.Marks.{bits_of, bits_fit}

-- which of the two sets a number names
abbrev pub in_run : List ℕ → ℕ → Bool
in_run l a = eqb (get_or l a 0 % 2) 1

abbrev pub in_halt : List ℕ → ℕ → Bool
in_halt l a = leb 2 (get_or l a 0)

-- bits of none
bits_none : (p : ℕ → Bool) (n : ℕ) → ((a : ℕ) → a < n → p a ≡ false) → sum n (λ a. bit_of (p a) a) ≡ 0
unfolding sum
bits_none p zero h = refl
bits_none p (suc n) h = rw (h n (omega arith), bits_none p n (λ a l. h a (omega arith))) (omega arith)

-- an activity of another task has no bit
other_task : (K : Table) (p : ℕ → Bool) (t a : ℕ) → (K.task a ≡ t → ⊥) → (eqb (K.task a) t and p a) ≡ false
other_task K p t a n = rw (ne_eqb (K.task a) t n)

-- no bit is added where no activity of the task stands
no_more : (K : Table) (p : ℕ → Bool) (t m n : ℕ) → m ≤ n → ((a : ℕ) → m ≤ a → a < n → K.task a ≡ t → ⊥) → bits_of K p t m ≡ bits_of K p t n
unfolding sum
no_more K p t m zero h none = let e : m ≡ 0 = omega arith in ap (bits_of K p t) e
no_more K p t m (suc n) h none =
    order m (suc n)
    (λ l. no_more K p t m n (omega arith) (λ a i j. none a i (omega arith)) ∙ rw (other_task K p t n (none n (omega arith) (omega arith))) (omega arith))
    (λ l. let e : m ≡ suc n = omega arith in ap (bits_of K p t) e)

-- a task's activities begin among them
begin_low : {rows index : List ℕ} (P : Prepared rows index) (t : ℕ) → t < (table_in rows index).ntasks → begin_of index acts_at t ≤ (table_in rows index).nacts
begin_low P zero h = omega arith
begin_low P (suc t) h = P.acts.ends t (omega arith)

module _ {rows index : List ℕ} (P : Prepared rows index) (t : ℕ) (h : t < (table_in rows index).ntasks) where
  pub task_begin : (from : ℕ) → from ≡ begin_of index acts_at t → from ≤ (table_in rows index).nacts
  task_begin from b = omega (arith, begin_low P t h)

  -- no bit stands before them
  pub walk_none : (p : ℕ → Bool) (from : ℕ) → from ≡ begin_of index acts_at t → 0 ≡ bits_of (table_in rows index) p t from
  walk_none p from b = sym (bits_none _ from λ a l. other_task (table_in rows index) p t a λ e. absurd (omega (arith, task_begin from b, (P.acts.outside t a h (omega (arith, task_begin from b)) e).0)))

  -- there is room for one bit more
  pub walk_fits : (p : ℕ → Bool) (end a x v : ℕ) → end ≤ (table_in rows index).nacts → a < end → x ≡ bits_of (table_in rows index) p t a → v ≡ bit_of (p a) a → Fits w64 (x + v)
  walk_fits p end a x v n l e q = bits_fit (table_in rows index) p t a x v e q (omega (arith, most_acts_lem P))

  -- one bit more
  pub walk_more : (p : ℕ → Bool) (from end a x v : ℕ) → from ≡ begin_of index acts_at t → end ≡ end_of index acts_at t → from ≤ a → a < end → x ≡ bits_of (table_in rows index) p t a → v ≡ bit_of (p a) a → x + v ≡ bits_of (table_in rows index) p t (a + 1)
  unfolding sum
  walk_more p from end a x v b n k l e q = rw (add-one a, e, q, eq-eqb ((table_in rows index).task a) t (P.acts.inside t a h (omega arith) (omega arith)))

  -- no bit stands behind them
  walk_all : (p : ℕ → Bool) (end a : ℕ) → end ≡ end_of index acts_at t → end ≤ a → a ≤ (table_in rows index).nacts → bits_of (table_in rows index) p t a ≡ bits_of (table_in rows index) p t (table_in rows index).nacts
  walk_all p end a n k l = no_more (table_in rows index) p t a _ l (λ i f g e. absurd (omega (arith, (P.acts.outside t i h g e).1)))

  pub lists_found : (l : List ℕ) (end a x y : ℕ) → end ≡ end_of index acts_at t → end ≤ a → a ≤ (table_in rows index).nacts → x ≡ bits_of (table_in rows index) (in_run l) t a → y ≡ bits_of (table_in rows index) (in_halt l) t a → ListsOf (table_in rows index) l t (record { run = x; halt = y })
  unfolding run_by halt_by
  lists_found l end a x y n k m e f = record { run = e ∙ walk_all (in_run l) end a n k m; halt = f ∙ walk_all (in_halt l) end a n k m }

-- what stands beside the first n activities of a state says their N and R
pub lists_like : (K : Table) (s : State) (l : List ℕ) (t n : ℕ) → ((a : ℕ) → a < n → get_or l a 0 ≡ listed_of (act_at s a)) → (run_by K l t n ≡ run_bits K s t n) × (halt_by K l t n ≡ halt_bits K s t n)
unfolding run_by halt_by run_bits halt_bits
lists_like K s l t n same =
    (alike (in_run l) (λ a. (act_at s a).run) (λ a h. rw (same a h) (low (act_at s a).run (act_at s a).halt)), alike (in_halt l) (λ a. (act_at s a).halt) (λ a h. rw (same a h) (high (act_at s a).run (act_at s a).halt)))
  where
    alike : (p q : ℕ → Bool) → ((a : ℕ) → a < n → p a ≡ q a) → bits_of K p t n ≡ bits_of K q t n
    alike p q e = bits_alike _ _ n (λ a h. ap (λ b. eqb (K.task a) t and b) (e a h))

    low : (x y : Bool) → eqb ((one x + 2 * one y) % 2) 1 ≡ x
    low true true = refl
    low true false = refl
    low false true = refl
    low false false = refl

    high : (x y : Bool) → leb 2 (one x + 2 * one y) ≡ y
    high true true = refl
    high true false = refl
    high false true = refl
    high false false = refl

pub lists_are : (K : Table) (s : State) (t n : ℕ) → (run_by K (listed_in s) t n ≡ run_bits K s t n) × (halt_by K (listed_in s) t n ≡ halt_bits K s t n)
lists_are K s t n = lists_like K s (listed_in s) t n (λ a h. listed_at_lem s a)

-- "a waiting manager .. has N and R empty"
pub lists_empty : (K : Table) (s : State) → Sound K s → (t : ℕ) → (task_at s t).managing ≡ false → (run_bits K s t K.nacts ≡ 0) × (halt_bits K s t K.nacts ≡ 0)
unfolding run_bits halt_bits
lists_empty K s S t e = (bits_none _ K.nacts (λ a h. (none a h).0), bits_none _ K.nacts (λ a h. (none a h).1))
  where
    neither : (x y m : Bool) → m ≡ false → T ((x or y) implies m) → (x ≡ false) × (y ≡ false)
    neither true y m f z = absurd (rw f at z)
    neither false true m f z = absurd (rw f at z)
    neither false false m f z = (refl, refl)

    none : (a : ℕ) → a < K.nacts → ((eqb (K.task a) t and (act_at s a).run) ≡ false) × ((eqb (K.task a) t and (act_at s a).halt) ≡ false)
    none a h =
        cases (eqb (K.task a) t)
        (λ q. rw q (neither (act_at s a).run (act_at s a).halt (task_at s t).managing e (fine_in K s S t a h (eqb-true (K.task a) t q)).sets))
        (λ q. rw q (refl, refl))
