-- What a reader gives comes to stand behind what a block has.
use Rattle.std.proofs.Common.{◌≡◌, ℕ, ◌+◌, ◌-◌, ◌≤◌, List, ◌++◌, take, drop, sym, ap, ap₂, subst, ◌∙◌, arith, Option, Result, Ok, Err, OnErr}
use Rattle.std.specs.Io.KnownBytes.{Consumes, Keeps}
use Rattle.std.proofs.KnownBytes.{Consumes-trans, Consumes-kept}
use Rattle.std.proofs.lemmas.List.{drop-take}
use lib.Seq.{take-take, take-add, drop-drop}

-- the bytes that stay
pub staying : (b b' b'' : List ℕ) (h a : ℕ) → h ≤ a → take a b'' ≡ take a b' → take h b' ≡ take h b → take h b'' ≡ take h b
staying b b' b'' h a l e f = sym (take-take h a b'' l) ∙ ap (take h) e ∙ take-take h a b' l ∙ f

-- those that came stay too
pub came : (b b' : List ℕ) (h a : ℕ) → h ≤ a → take a b' ≡ take a b → take (a - h) (drop h b') ≡ take (a - h) (drop h b)
came b b' h a l e =
    let p : h + (a - h) ≡ a = omega arith in
    sym (drop-take h (a - h) b') ∙ ap (λ n. drop h (take n b')) p ∙ ap (drop h) e ∙ sym (ap (λ n. drop h (take n b)) p) ∙ drop-take h (a - h) b

-- behind h bytes that stay came those up to a, and g more come behind those
pub coming : (b b' : List ℕ) (h a g : ℕ) → h ≤ a → take a b' ≡ take a b → take (a - h) (drop h b) ++ take g (drop a b') ≡ take (a + g - h) (drop h b')
coming b b' h a g l e =
    let p : h + (a - h) ≡ a = omega arith in
    let q : (a - h) + g ≡ a + g - h = omega arith in
    ap₂ (λ x y. x ++ take g y) (sym (came b b' h a l e)) (sym (drop-drop (a - h) h b' ∙ ap (λ n. drop n b') p))
    ∙ sym (take-add (a - h) g (drop h b')) ∙ ap (λ n. take n (drop h b')) q

-- what came is what the reader gave, also where a read behind it brings more, or fails
module _ (r r' r'' : Option (List ℕ)) (b b' : List ℕ) (h a : ℕ) (l : h ≤ a) (e : take a b' ≡ take a b) (p : Consumes r r' (take (a - h) (drop h b))) where
  pub comes_more : (g : ℕ) → Consumes r' r'' (take g (drop a b')) → Consumes r r'' (take (a + g - h) (drop h b'))
  comes_more g q = subst (Consumes r r'') (coming b b' h a g l e) (Consumes-trans r r' r'' _ _ p q)

  pub comes_kept : Keeps r' r'' → Consumes r r'' (take (a - h) (drop h b'))
  comes_kept q = subst (Consumes r r'') (sym (came b b' h a l e)) (Consumes-kept r r' r'' _ p q)

-- what came at the front, and behind it
pub begins_more : (r r' r'' : Option (List ℕ)) (b b' : List ℕ) (h g : ℕ) → take h b' ≡ take h b → Consumes r r' (take h b) → Consumes r' r'' (take g (drop h b'))
    → Consumes r r'' (take (h + g) b')
begins_more r r' r'' b b' h g e p q =
    subst (Consumes r r'') (ap (λ l. l ++ take g (drop h b')) (sym e) ∙ sym (take-add h g b')) (Consumes-trans r r' r'' _ _ p q)

-- so much came before an error
pub of_error : {T E : Type 0} (r : Result T E) (a b : Option (List ℕ)) (xs : List ℕ) (h n got : ℕ) → h + got ≤ n → Consumes a b (take got (drop h xs))
    → OnErr r ((got : ℕ) × (h + got ≤ n) × Consumes a b (take got (drop h xs)))
of_error (Ok x) a b xs h n got l p = tt
of_error (Err e) a b xs h n got l p = (got, l, p)

-- so much came at the front before an error
pub of_first_error : {T E : Type 0} (r : Result T E) (a b : Option (List ℕ)) (xs : List ℕ) (n got : ℕ) → got ≤ n → Consumes a b (take got xs)
    → OnErr r ((got : ℕ) × (got ≤ n) × Consumes a b (take got xs))
of_first_error (Ok x) a b xs n got l p = tt
of_first_error (Err e) a b xs n got l p = (got, l, p)
