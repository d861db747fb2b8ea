-- The rows past the first n pass a test just where each row that is past them does.
use Rattle.std.proofs.Common.{◌≡◌, ℕ, suc, ◌+◌, ◌-◌, ◌≤◌, ◌<◌, List, [], ◌∷◌, Bool, true, length, get_or, drop, leb, refl, sym, ap, ◌∙◌, arith, length-drop, get_or-drop}
use Rattle.std.specs.List.{list_all}
use Rattle.std.proofs.lemmas.List.Folds.{list_all_at}
use borrow.Author.Tests.{leb-true, le-leb}
use Rattle.text.proofs.Picks.{cases, false_true}
use Rattle.model.specs.Limits.{most_tasks, most_acts}
use Rattle.model.specs.Tests.{◌and◌, ◌implies◌, each}
use Rattle.model.specs.Tables.{Table}
use Rattle.model.specs.States.{no_task, no_act, act_at}
use Rattle.model.specs.Sound.{is_fresh_task, is_fresh_act, fresh_past}
use Rattle.model.specs.declared.State.{State}
use Rattle.table.proofs.Tests.{agree, each_all, each_at}

module _ {X : Type 0} (p : X → Bool) (d : X) where
  all_of : (ys : List X) → ((k : ℕ) → k < length ys → p (get_or ys k d) ≡ true) → list_all p ys ≡ true
  all_of [] h = refl
  all_of (y ∷ ys) h = rw (h 0 (omega arith)) (all_of ys (λ k l. h (suc k) (omega arith)))

  module _ (xs : List X) (n m : ℕ) (e : length xs ≡ m) where
    long : length (drop n xs) ≡ m - n
    long = rw (length-drop n xs, e)

    row_at : (t : ℕ) → n ≤ t → get_or (drop n xs) (t - n) d ≡ get_or xs t d
    row_at t h = let e : n + (t - n) ≡ t = omega arith in get_or-drop n xs (t - n) d ∙ rw e

    abbrev past : ℕ → Bool
    past t = leb n t implies p (get_or xs t d)

    if_all : list_all p (drop n xs) ≡ true → each m past ≡ true
    if_all a = each_all m past (λ t l. cases (leb n t) (λ f. cases (p (get_or xs t d)) (λ g. rw (f, g)) (λ g. let h = leb-true n t f in absurd (false_true (sym (list_all_at p (drop n xs) (t - n) d (omega (arith, long)) (ap p (row_at t h) ∙ g)) ∙ a)))) (λ f. rw f))

    if_each : each m past ≡ true → list_all p (drop n xs) ≡ true
    if_each a = all_of (drop n xs) (λ k l. ap p (get_or-drop n xs k d) ∙ rw (le-leb n (n + k) (omega arith)) at (each_at m past a (n + k) (omega (arith, long))))

    rows_past : each m past ≡ list_all p (drop n xs)
    rows_past = agree _ _ if_each if_all

-- so the rows past the table's counts are told by what is left of the lists
module _ (K : Table) (s : State) where
  pub tasks_past : length s.tasks ≡ most_tasks → fresh_past K s ≡ (list_all is_fresh_task (drop K.ntasks s.tasks) and each most_acts (λ a. leb K.nacts a implies is_fresh_act (act_at s a)))
  tasks_past h = rw (rows_past is_fresh_task no_task s.tasks K.ntasks most_tasks h)

  pub acts_past : length s.acts ≡ most_acts → each most_acts (λ a. leb K.nacts a implies is_fresh_act (act_at s a)) ≡ list_all is_fresh_act (drop K.nacts s.acts)
  acts_past = rows_past is_fresh_act no_act s.acts K.nacts most_acts
