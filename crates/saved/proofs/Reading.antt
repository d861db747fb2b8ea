-- A row read: its fields taken one after another from its line, and the state that they say.
use Prim.Native.Nat.{ℕ, ◌+◌, ◌*◌, ◌≤◌, ◌<◌}
use mathlib.Core.Bool.{Bool, true, false}
use mathlib.Core.List.{List, [], ◌∷◌, ◌++◌}
use mathlib.Core.Path.{◌≡◌, refl, sym, ap, ◌∙◌}
use native.Mathlib.Omega.{arith}
use lib.Dec.{leb}
use lib.ListN.{length, take, drop, length-take, take-append-drop}
use lib.Seq.{sets}
use borrow.Author.Tests.{le-leb, lt-leb, le-ltb, eq-eqb, ne_eqb}
use Rattle.text.specs.Parts.{split_on, join_on, parts_from}
use Rattle.text.specs.Words.{same_list}
use Rattle.text.proofs.Picks.{cases, order, false_true}
use Rattle.text.proofs.Parts.{join_split, split_cut, parts_cut, parts_none}
use Rattle.text.proofs.Words.{same_self, same_list_lem}
use Rattle.model.specs.Limits.{most_tasks, most_acts}
use Rattle.model.specs.Tables.{Table}
use Rattle.model.specs.declared.State.{State}
use Rattle.logs.specs.Lines.{longest_row}
use Rattle.prepared.specs.Prepared.{table_in, Prepared}
use Rattle.prepared.proofs.Stored.{most_tasks_lem, most_acts_lem}
use Rattle.fields.specs.Forms.{a_number}
use Rattle.fields.specs.Fields.{repeated, part, none, read_fields, took, Took}
use Rattle.std.specs.Prelude.{Option, Some, None}
use Rattle.std.proofs.lemmas.Option.{none-some, same_Some}
use Rattle.fields.proofs.Parts.{length_repeated}
use Rattle.fields.proofs.Taking.{took_append, took_append_bad, took_length, Values, took_is, took_bad, took_ends}
use Rattle.saved.specs.Rows.{state_word, begins_row, task_forms, task_fields, act_forms, act_fields, row_forms, most_values, refused, on_part, part_in, sets_within, state_from, read_state}
use Rattle.saved.specs.Written.{whole_of, ends_at, no_values, whole_values}
use Rattle.saved.proofs.Said.{padded_state, padded_within}
use Rattle.saved.proofs.Back.{length_forms}

-- a line that begins as a row does is its word, a tab and the rest
begins_is : (p : List ℕ) → begins_row p ≡ true → p ≡ state_word ++ 9 ∷ drop 6 p
unfolding begins_row state_word
begins_is p h = sym (take-append-drop 6 p) ∙ ap (◌++ drop 6 p) (same_list_lem (take 6 p) (state_word ++ 9 ∷ []) h)

-- so it has six bytes at least
begins_long : (p : List ℕ) → begins_row p ≡ true → 6 ≤ length p
unfolding begins_row state_word
begins_long p h = let e = ap length (same_list_lem (take 6 p) (state_word ++ 9 ∷ []) h) in omega (arith, length-take 6 p)

-- it is cut at its tabs into its word and the parts behind its first tab
pub begins_split : (p : List ℕ) → begins_row p ≡ true → split_on 9 p ≡ state_word ∷ parts_from 9 p 6
unfolding state_word
begins_split p h = let l = begins_long p h in rw (le-ltb _ _ l) (ap (split_on 9) (begins_is p h) ∙ split_cut 9 state_word (drop 6 p) refl)

-- the parts of a line that begins otherwise are no row
begins_not : (K : Table) (p : List ℕ) → begins_row p ≡ false → part_in K (split_on 9 p) ≡ none
unfolding read_fields row_forms begins_row state_word
begins_not K p h = go (split_on 9 p) (join_split 9 p)
  where
    word : (q : List ℕ) (qs : List (List ℕ)) → join_on 9 (state_word ∷ q ∷ qs) ≡ p → false ≡ true
    word q qs e = sym (ap begins_row e ∙ h)

    go : (ps : List (List ℕ)) → join_on 9 ps ≡ p → part_in K ps ≡ none
    go [] e = refl
    go (w ∷ []) e = cases (same_list w state_word) (λ s. rw s) (λ s. rw s)
    go (w ∷ q ∷ qs) e =
        cases (same_list w state_word)
        (λ s. absurd (false_true (word q qs (rw (same_list_lem w state_word s) at e))))
        (λ s. rw s)

-- a line that begins as a row does has a tab behind its word
pub word_ends : (line : List ℕ) → true ≡ begins_row line → 5 ≤ length line
word_ends line k = omega (arith, begins_long line (sym k))

-- fields that were read end within the line
pub read_ends : (fs : List ℕ) (line : List ℕ) (at i : ℕ) (b : List ℕ) (r : Option ℕ) (after : List ℕ) (e : ℕ) → at ≤ length line → Took (took fs line at i b) r after → r ≡ Some e → e ≤ length line
read_ends fs line at i b r after e h t u = took_ends fs line at i b e h (sym t.end ∙ u)

-- fields that were read into values
module _ (fs : List ℕ) (line : List ℕ) (at i : ℕ) (b : List ℕ) (r : Option ℕ) (after : List ℕ) (t : Took (took fs line at i b) r after) where
  -- there are as many values as before
  pub read_kept : length after ≡ length b
  read_kept = ap length t.values ∙ took_length fs line at i b

  -- so there is room for the activities' behind the tasks'
  pub acts_room : {rows index : List ℕ} → Prepared rows index → length b ≡ most_values → (nt na : ℕ) → nt ≡ (table_in rows index).ntasks → na ≡ (table_in rows index).nacts → 1 + nt * task_fields + na * act_fields ≤ length after
  acts_room P h nt na e f = omega (arith, read_kept, most_tasks_lem P, most_acts_lem P)

-- the fields of a line, read one description after another: one law for each exit
module _ (K : Table) (line : List ℕ) where
  -- where they are taken to an end, they are the line's where that is its end
  by_end : (o : Option ℕ) (vs : List ℕ) → whole_of K line no_values ≡ record { end = o; values = vs } → whole_values K line ≡ ends_at (length line) vs o
  unfolding whole_values
  by_end o vs q = rw q

  -- the line is too long
  pub values_long : longest_row ≤ length line → None ≡ whole_values K line
  values_long h = sym (by_end None no_values (rw (le-leb longest_row (length line) h)))

  module _ (h : length line < longest_row) where
    -- the line begins otherwise
    pub values_other : false ≡ begins_row line → None ≡ whole_values K line
    values_other k = sym (by_end None no_values (rw (lt-leb longest_row (length line) h, ← k)))

    module _ (k : true ≡ begins_row line) where
      -- what is read is what is taken
      whole : whole_of K line no_values ≡ took (row_forms K) line 5 0 no_values
      whole = rw (lt-leb longest_row (length line) h, ← k)

      -- the date's field
      module _ (r : Option ℕ) (b : List ℕ) (t : Took (took (a_number ∷ []) line 5 0 no_values) r b) where
        taken_date : (o : Option ℕ) → r ≡ o → took (a_number ∷ []) line 5 0 no_values ≡ record { end = o; values = b }
        taken_date o e = let q : (took (a_number ∷ []) line 5 0 no_values).end ≡ o = sym t.end ∙ e in rw (t.values, ← q)

        -- it has bad form
        pub date_bad : r ≡ None → None ≡ whole_values K line
        unfolding row_forms
        date_bad e =
            let bad = taken_date None e in
            sym (by_end None b (whole ∙ took_append_bad (a_number ∷ []) (repeated K.ntasks task_forms ++ repeated K.nacts act_forms) line 5 0 no_values (ap (λ x. x.end) bad) ∙ bad))

        module _ (p : ℕ) (e : r ≡ Some p) where
          -- the others are taken behind it
          behind_date : whole_of K line no_values ≡ took (repeated K.ntasks task_forms ++ repeated K.nacts act_forms) line p 1 b
          unfolding row_forms
          behind_date = whole ∙ took_append (a_number ∷ []) (repeated K.ntasks task_forms ++ repeated K.nacts act_forms) line 5 0 no_values p b (taken_date (Some p) e)

          -- the tasks' fields
          module _ (nt : ℕ) (i : nt ≡ K.ntasks) (o : Option ℕ) (d : List ℕ) (v : Took (took (repeated nt task_forms) line p 1 b) o d) where
            taken_tasks : (z : Option ℕ) → o ≡ z → took (repeated nt task_forms) line p 1 b ≡ record { end = z; values = d }
            taken_tasks z x = let q : (took (repeated nt task_forms) line p 1 b).end ≡ z = sym v.end ∙ x in rw (v.values, ← q)

            -- one has bad form
            pub tasks_bad : o ≡ None → None ≡ whole_values K line
            tasks_bad x =
                let bad = taken_tasks None x in
                sym (by_end None d (behind_date ∙ rw (← i) (took_append_bad (repeated nt task_forms) (repeated K.nacts act_forms) line p 1 b (ap (λ x. x.end) bad) ∙ bad)))

            module _ (q : ℕ) (x : o ≡ Some q) where
              -- the activities' are taken behind them
              behind_tasks : whole_of K line no_values ≡ took (repeated K.nacts act_forms) line q (1 + nt * task_fields) d
              behind_tasks =
                  let n = took_append (repeated nt task_forms) (repeated K.nacts act_forms) line p 1 b q d (taken_tasks (Some q) x) in
                  behind_date ∙ rw (← i) (rw (length_repeated nt task_forms) at n)

              -- the activities' fields, which are the last
              module _ (na : ℕ) (j : na ≡ K.nacts) (y : Option ℕ) (after : List ℕ) (w : Took (took (repeated na act_forms) line q (1 + nt * task_fields) d) y after) where
                all_taken : (z : Option ℕ) → y ≡ z → whole_of K line no_values ≡ record { end = z; values = after }
                all_taken z u =
                    let q : (took (repeated na act_forms) line q (1 + nt * task_fields) d).end ≡ z = sym w.end ∙ u in
                    behind_tasks ∙ rw (← j) (rw (w.values, ← q))

                -- one has bad form
                pub acts_bad : y ≡ None → None ≡ whole_values K line
                acts_bad z = sym (by_end None after (all_taken None z))

                module _ (end : ℕ) (z : y ≡ Some end) where
                  -- all are there, and the line ends with them
                  pub acts_end : end ≡ length line → Some after ≡ whole_values K line
                  acts_end f = sym (by_end (Some end) after (all_taken (Some end) z) ∙ rw (eq-eqb end (length line) f))

                  -- it does not
                  pub acts_short : (end ≡ length line → ⊥) → None ≡ whole_values K line
                  acts_short f = sym (by_end (Some end) after (all_taken (Some end) z) ∙ rw (ne_eqb end (length line) f))

-- what was read, and what the line says as a row
module _ (K : Table) (few : K.ntasks ≤ most_tasks) (room : K.nacts ≤ most_acts) (line : List ℕ) where
  -- where the fields are not the line, it is no row; where they are, their values are stored, zeros behind them
  on_whole : {P : Type 0} → (whole_values K line ≡ None → read_state K line ≡ refused 11 → P)
      → ((vs : List ℕ) → length vs ≤ most_values → whole_values K line ≡ Some (sets no_values 0 vs) → read_state K line ≡ on_part K (part vs []) → P) → P
  unfolding read_state whole_values
  on_whole {P} refusing saying =
      order (length line) longest_row
      (λ h. let l = lt-leb longest_row (length line) h in
      cases (begins_row line)
      (λ g. taken l g (took (row_forms K) line 5 0 no_values).end refl)
      (λ g. refusing (rw (l, g)) (rw (l, begins_not K line g))))
      (λ h. let l = le-leb longest_row (length line) h in refusing (rw l) (rw l))
    where
      said : leb longest_row (length line) ≡ false → begins_row line ≡ true → read_state K line ≡ on_part K (read_fields (row_forms K) (parts_from 9 line 6))
      said l g = rw (l, begins_split line g, same_self state_word)

      ended : leb longest_row (length line) ≡ false → begins_row line ≡ true → (e : ℕ) → Values (row_forms K) line 5 0 no_values e (took (row_forms K) line 5 0 no_values).values → (took (row_forms K) line 5 0 no_values).end ≡ Some e → P
      ended l g e v u =
          order e (length line)
          (λ k. refusing (rw (l, g, u, ne_eqb e (length line) (λ q. omega arith))) (said l g ∙ rw (v.reads, parts_cut 9 line (e + 1) (omega arith))))
          (λ k. saying v.vs (omega (arith, v.long, length_forms K)) (rw (l, g, u, eq-eqb e (length line) (omega (arith, v.ends)), v.stored)) (said l g ∙ rw (v.reads, parts_none 9 line (e + 1) (omega arith))))

      taken : leb longest_row (length line) ≡ false → begins_row line ≡ true → (y : Option ℕ) → (took (row_forms K) line 5 0 no_values).end ≡ y → P
      taken l g (Some e) u =
          ended l g e
          (took_is (row_forms K) line 5 0 no_values e _ (omega (arith, begins_long line g)) (ap (λ x. record { end = x; values = (took (row_forms K) line 5 0 no_values).values }) u))
          u
      taken l g None u = refusing (rw (l, g, u)) (said l g ∙ rw (took_bad (row_forms K) line 5 0 no_values u))

  -- the line is no row
  pub state_none : None ≡ whole_values K line → read_state K line ≡ refused 11
  state_none e = on_whole (λ n q. q) (λ vs l s q. absurd (none-some _ (e ∙ s)))

  module _ (after : List ℕ) (e : Some after ≡ whole_values K line) (u : Bool) (k : u ≡ sets_within K after) where
    said_as : {P : Type 0} → ((vs : List ℕ) → length vs ≤ most_values → after ≡ sets no_values 0 vs → read_state K line ≡ on_part K (part vs []) → P) → P
    said_as go = on_whole (λ n q. absurd (none-some _ (sym n ∙ sym e))) (λ vs l s q. go vs l (same_Some _ _ (e ∙ s)) q)

    -- a set of it is not within its task
    pub state_outside : u ≡ false → read_state K line ≡ refused 20
    state_outside g = said_as (λ vs l s q. let z : sets_within K vs ≡ false = sym (padded_within K vs l) ∙ ap (sets_within K) (sym s) ∙ sym k ∙ g in q ∙ rw z)

    -- the state that it says
    pub state_is : u ≡ true → (z : State) → z ≡ state_from K after → read_state K line ≡ record { number = 0; state = z }
    state_is g z f =
        said_as
        (λ vs l s q.
        let y : sets_within K vs ≡ true = sym (padded_within K vs l) ∙ ap (sets_within K) (sym s) ∙ sym k ∙ g in
        let t : z ≡ state_from K vs = f ∙ ap (state_from K) s ∙ padded_state K vs l in
        rw t (q ∙ rw y))
