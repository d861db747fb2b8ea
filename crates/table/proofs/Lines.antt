-- The lines of a text and the rows that they say: lines that are read are the text of accepted rows, and that text is so read.
use Prim.Native.Nat.{ℕ, suc, ◌+◌, ◌-◌, ◌≤◌, ◌<◌}
use mathlib.Core.Path.{◌≡◌, refl, sym, ap, subst, ◌∙◌}
use mathlib.Core.List.{List, [], ◌∷◌, ◌++◌, append_assoc}
use mathlib.Core.Bool.{true}
use native.Mathlib.Omega.{arith}
use lib.ListN.{length}
use lib.Dec.{eqb}
use borrow.Author.Tests.{lt-ltb, eq-eqb, ne_eqb, eqb-true, eqb-false}
use Rattle.text.specs.Parts.{pick, split_on, join_on}
use Rattle.text.proofs.Parts.{split_cut}
use Rattle.text.proofs.Picks.{cases, picked}
use Rattle.row.specs.Kinds.{end_kind, form_of}
use Rattle.row.specs.Row.{read_row, row_line, form_ok, row_ok}
use Rattle.row.specs.declared.Row.{Row}
use Rattle.std.specs.Prelude.{Option, Some, None}
use Rattle.model.specs.Rows.{last_fault}
use Rattle.table.specs.Tables.{add_row, table_of}
use Rattle.table.specs.Checks.{row_fault, Said, accepts, refused, on_fault, closed}
use Rattle.table.specs.Texts.{on_row, row_behind, fault_behind, at_end_row, read_lines, end_row, text_of}
use Rattle.table.specs.declared.Table.{Table}
use Rattle.row.proofs.Rows.{row_reads, row_read, row_free, row_split}
use Rattle.table.proofs.Fields.{ok_fields, ok_worded, ok_limited}
use Rattle.table.proofs.Stored.{added_sized}
use Rattle.table.proofs.Accepted.{Sized, Follows, accepted}
use Rattle.table.proofs.Built.{Built, done, more, refused_not, no_fault, Whole}

-- a text has at least one line
record Lines (ps : List (List ℕ)) : Type 0 where
  first : List ℕ
  rest : List (List ℕ)
  are : ps ≡ first ∷ rest

split_some : (s : List ℕ) → Lines (split_on 10 s)
split_some [] = record { first = []; rest = []; are = refl }
split_some (b ∷ bs) =
    cases (eqb b 10)
    (λ e. rw e record { first = []; rest = split_on 10 bs; are = refl })
    (λ e. rw (e, (split_some bs).are) record { first = b ∷ (split_some bs).first; rest = (split_some bs).rest; are = refl })

-- the first of several lines
abbrev on_line : Table → ℕ → Option Row → List (List ℕ) → Said
on_line t l x ps =
    on_row x
    (λ r. pick (eqb r.kind end_kind) (at_end_row t l r.a ps) (on_fault (row_fault t r) l (read_lines (add_row t r) (l + 1) ps)))
    (refused 1 l)

one_line : (t : Table) (l : ℕ) (p s : List ℕ) → read_lines t l (p ∷ split_on 10 s) ≡ on_line t l (read_row p) (split_on 10 s)
unfolding read_lines
one_line t l p s = rw (split_some s).are

-- the lines are the text of the rows got, which take t to u
pub record Back (t : Table) (l : ℕ) (ps : List (List ℕ)) (u : Table) : Type 0 where
  pub got : List Row
  pub text : join_on 10 ps ≡ text_of (l - 1 + length got) got
  pub whole : Whole t got u

-- nothing stands behind the `end` row
behind_nothing : (p q : List ℕ) (ps : List (List ℕ)) → fault_behind (q ∷ ps) ≡ 0 → join_on 10 (p ∷ q ∷ ps) ≡ p ++ 10 ∷ []
unfolding fault_behind
behind_nothing p [] [] e = refl
behind_nothing p (x ∷ xs) [] e = absurd (omega arith)
behind_nothing p q (x ∷ xs) e = absurd (row (read_row q) e)
  where
    row : (r : Option Row) → row_behind r ≡ 0 → ⊥
    row (Some r) e = omega arith
    row None e = omega arith

-- the `end` row with its count
end_ok : (n : ℕ) → n < 10000000000 → row_ok (end_row n) ≡ true
unfolding row_ok form_ok form_of
end_ok n h = rw (lt-ltb _ _ h)

end_is : (r : Row) (n : ℕ) → r.kind ≡ end_kind → r.a ≡ n → row_ok r ≡ true → r ≡ end_row n
unfolding form_ok form_of
end_is r n k a h =
    let b : r.b ≡ 0 = eqb-true _ _ (rw k at (ok_fields r h 1 (omega arith))) in
    let c : r.c ≡ 0 = eqb-true _ _ (rw k at (ok_fields r h 2 (omega arith))) in
    rw (k, a, b, c)

-- one line more, before them
back_more : {t u : Table} {r : Row} {l : ℕ} {p q : List ℕ} {ps : List (List ℕ)} → 1 ≤ l → row_line r ≡ p → Follows t r
    → Back (add_row t r) (l + 1) (q ∷ ps) u → Back t l (p ∷ q ∷ ps) u
unfolding text_of
back_more {r = r} {l = l} {p = p} {q = q} {ps = ps} h w f b =
    let m : l + 1 - 1 + length b.got ≡ l - 1 + suc (length b.got) = omega arith in
    let n : l + 1 - 1 + length b.got ≡ l - 1 + length (r ∷ b.got) = m in
    record {
      got = r ∷ b.got;
      text = subst (λ (k : ℕ). join_on 10 (p ∷ q ∷ ps) ≡ text_of k (r ∷ b.got)) n (rw (w, append_assoc) (ap (λ (x : List ℕ). p ++ 10 ∷ x) b.text));
      whole = record { built = more f b.whole.built; last = b.whole.last };
    }

-- lines that are read say rows that take t to u
pub lines_back : (ps : List (List ℕ)) (t : Table) (l : ℕ) (u : Table) → Sized t → 1 ≤ l → read_lines t l ps ≡ accepts u → Back t l ps u
unfolding read_lines text_of
lines_back [] t l u s h e = refused_not 6 l u e
lines_back ([] ∷ []) t l u s h e = refused_not 6 l u e
lines_back ((x ∷ xs) ∷ []) t l u s h e = refused_not 1 l u e
lines_back (p ∷ q ∷ ps) t l u s h e =
    row (read_row p) refl e (λ r f. lines_back (q ∷ ps) (add_row t r) (l + 1) u (added_sized f) (omega arith))
  where
    row : (x : Option Row) → read_row p ≡ x → on_line t l x (q ∷ ps) ≡ accepts u
        → ((r : Row) → Follows t r → read_lines (add_row t r) (l + 1) (q ∷ ps) ≡ accepts u → Back (add_row t r) (l + 1) (q ∷ ps) u)
        → Back t l (p ∷ q ∷ ps) u
    row None x e go = refused_not 1 l u e
    row (Some r) x e go =
        let w = row_read p r x in
        cases (eqb r.kind end_kind)
        (λ k.
        let d : at_end_row t l r.a (q ∷ ps) ≡ accepts u = rw k at e in
        let a = picked (eqb r.a (l - 1)) (refused_not 6 l u) d in
        let b = no_fault (fault_behind (q ∷ ps)) (l + 1) (closed t l) u a.1 in
        let c = no_fault (last_fault (table_of t)) l (accepts t) u b.1 in
        let z : t ≡ u = ap (λ (x : Said). x.table) c.1 in
        let y : r ≡ end_row (l - 1 + 0) = end_is r (l - 1 + 0) (eqb-true _ _ k) (omega (arith, eqb-true r.a (l - 1) a.0)) w.1 in
        record {
          got = [];
          text = behind_nothing p q ps b.0 ∙ rw (← y, w.0);
          whole = rw (← z) record { built = done; last = c.0 };
        })
        (λ k.
        let d : on_fault (row_fault t r) l (read_lines (add_row t r) (l + 1) (q ∷ ps)) ≡ accepts u = rw k at e in
        let a = no_fault (row_fault t r) l (read_lines (add_row t r) (l + 1) (q ∷ ps)) u d in
        let f : Follows t r = record { sized = s; worded = ok_worded r (eqb-false _ _ k) w.1; fine = a.0 } in
        back_more h w.0 f (go r f a.1))

-- the text of rows that take t to u is read as u
pub rows_read : {t u : Table} {rs : List Row} (l : ℕ) → Built t rs u → last_fault (table_of u) ≡ 0 → 1 ≤ l → l + length rs < 10000000000
    → read_lines t l (split_on 10 (text_of (l - 1 + length rs) rs)) ≡ accepts u
unfolding text_of fault_behind
rows_read l (done {t = t}) e h b =
    let n : l - 1 + 0 ≡ l - 1 = omega arith in
    let end = end_row (l - 1) in
    let ok : row_ok end ≡ true = end_ok (l - 1) (omega arith) in
    rw (
      n,
      split_cut 10 (row_line end) [] (row_free end),
      one_line t l (row_line end) [],
      row_reads end ok,
      eq-eqb (l - 1) (l - 1) refl,
      e,
    )
rows_read {u = u} l (more {t = t} {r = r} {rs = rs} f b) e h c =
    let m : l - 1 + suc (length rs) ≡ l + 1 - 1 + length rs = omega arith in
    let n : l - 1 + length (r ∷ rs) ≡ l + 1 - 1 + length rs = m in
    let ok : row_ok r ≡ true = ok_limited r f.worded.kind (accepted f).limited in
    let text = text_of (l + 1 - 1 + length rs) rs in
    let no : r.kind ≡ end_kind → ⊥ = λ z. omega (arith, f.worded.kind) in
    subst (λ (k : ℕ). read_lines t l (split_on 10 (text_of k (r ∷ rs))) ≡ accepts u) (sym n)
    (rw (
      row_split r text,
      one_line t l (row_line r) text,
      row_reads r ok,
      ne_eqb r.kind end_kind no,
      f.fine,
    )
    (rows_read (l + 1) b e (omega arith) (omega arith)))
