-- Laws of counting, and of the enumeration: `monomials n d` has each monomial of degree d in n variables exactly once, and no other.
--   count_append, count_map, count_same, count_none, count_split, count_keep   counts of tests over lists
--   count_width              tests that agree on width n count alike over monomials n d
--   enumeration_once         a monomial of width n and degree d stands there once
--   enumeration_other_degree, enumeration_other_width   and no other list does
--   enumeration_width, enumeration_degree   so each member has width n and degree d
--   occurrences_in, in_occurrences   a list stands there at least once exactly when it is a member
use mathlib.Core.Path.{◌≡◌, refl, sym, ap, ap₂, ◌∙◌}
use mathlib.Core.Logic.{inl, inr, ◌≢◌}
use mathlib.Core.Bool.{Bool, true, false, ◌&&◌, cond}
use mathlib.Core.List.{List, [], ◌∷◌, ◌++◌, map}
use Prim.Native.Nat.{ℕ, zero, suc, ◌+◌, ◌≤◌, ◌<◌}
use native.Mathlib.Omega.{arith}
use lib.Dec.{eqb}
use lib.ListN.{length}
use lib.IntN.{pos}
use borrow.Author.Tests.{eqb-true, eqb-false, eq-eqb, ne_eqb}
use Rattle.laws.specs.Monomial.{degree}
use Rattle.laws.specs.Ideal.{In}
use Rattle.laws.specs.Count.{bit, count, keep, equal, occurrences, from_first, monomials}
use Rattle.laws.specs.Coefficients.{one, shift}
use Rattle.laws.proofs.Monomial.{cons_eq}
use Rattle.laws.proofs.Integer.{pos_injective}
use Rattle.laws.proofs.Coefficients.{shift_ext, shift_zero, shift_shift, power_at, power_off}

-- counts

pub count_append : (p : List ℕ → Bool) (us vs : List (List ℕ)) → count p (us ++ vs) ≡ count p us + count p vs
count_append p [] vs = omega arith
count_append p (u ∷ us) vs = omega (arith, count_append p us vs)

pub count_map : (p : List ℕ → Bool) (f : List ℕ → List ℕ) (us : List (List ℕ)) → count p (map f us) ≡ count (λ u. p (f u)) us
count_map p f [] = refl
count_map p f (u ∷ us) = omega (arith, count_map p f us)

pub count_same : (p q : List ℕ → Bool) → ((u : List ℕ) → p u ≡ q u) → (us : List (List ℕ)) → count p us ≡ count q us
count_same p q h [] = refl
count_same p q h (u ∷ us) = omega (arith, ap bit (h u), count_same p q h us)

pub count_none : (p : List ℕ → Bool) → ((u : List ℕ) → p u ≡ false) → (us : List (List ℕ)) → count p us ≡ 0
count_none p h [] = refl
count_none p h (u ∷ us) = omega (arith, ap bit (h u), count_none p h us)

pub count_split : (p q r : List ℕ → Bool) → ((u : List ℕ) → bit (p u) ≡ bit (q u) + bit (r u)) → (us : List (List ℕ)) → count p us ≡ count q us + count r us
count_split p q r h [] = refl
count_split p q r h (u ∷ us) = omega (arith, h u, count_split p q r h us)

-- what passes p and then q
pub count_keep : (p q : List ℕ → Bool) (us : List (List ℕ)) → count q (keep p us) ≡ count (λ u. p u && q u) us
count_keep p q [] = refl
count_keep p q (u ∷ us) = go (p u) (count_keep p q us)
  where
    go : (t : Bool) → count q (keep p us) ≡ count (λ u. p u && q u) us → count q (cond t (u ∷ keep p us) (keep p us)) ≡ bit (t && q u) + count (λ u. p u && q u) us
    go true e = omega arith
    go false e = omega arith

pub length_keep : (p : List ℕ → Bool) (us : List (List ℕ)) → length (keep p us) ≡ count p us
length_keep p [] = refl
length_keep p (u ∷ us) = go (p u) (length_keep p us)
  where
    go : (t : Bool) → length (keep p us) ≡ count p us → length (cond t (u ∷ keep p us) (keep p us)) ≡ bit t + count p us
    go true e = omega arith
    go false e = omega arith

-- equal lists

pub equal_refl : (u : List ℕ) → equal u u ≡ true
equal_refl [] = refl
equal_refl (x ∷ u) = ap₂ ◌&&◌ (eq-eqb x x refl) (equal_refl u)

pub equal_eq : (u v : List ℕ) → equal u v ≡ true → u ≡ v
equal_eq [] [] h = refl
equal_eq [] (y ∷ v) h = cc
equal_eq (x ∷ u) [] h = cc
equal_eq (x ∷ u) (y ∷ v) h = go (eqb x y) refl h (equal_eq u v)
  where
    go : (b : Bool) → eqb x y ≡ b → (b && equal u v) ≡ true → (equal u v ≡ true → u ≡ v) → x ∷ u ≡ y ∷ v
    go true p q f = cons_eq (eqb-true x y p) (f q)
    go false p q f = cc

pub in_occurrences : (u : List ℕ) (us : List (List ℕ)) → In u us → 1 ≤ occurrences u us
in_occurrences u [] i = absurd i
in_occurrences u (v ∷ us) (inl e) = omega (arith, ap bit (ap (equal u) (sym e) ∙ equal_refl u))
in_occurrences u (v ∷ us) (inr i) = omega (arith, in_occurrences u us i)

pub occurrences_in : (u : List ℕ) (us : List (List ℕ)) → 1 ≤ occurrences u us → In u us
occurrences_in u [] h = absurd (omega arith)
occurrences_in u (v ∷ us) h = go (equal u v) refl h (occurrences_in u us)
  where
    go : (t : Bool) → equal u v ≡ t → 1 ≤ bit t + occurrences u us → (1 ≤ occurrences u us → In u us) → In u (v ∷ us)
    go true p q f = inl (equal_eq u v p)
    go false p q f = inr (f (omega arith))

-- the enumeration, row by row

row_eq : (x i : ℕ) (u : List ℕ) (us : List (List ℕ)) → x ≡ i → occurrences (x ∷ u) (map (λ v. i ∷ v) us) ≡ occurrences u us
row_eq x i u us h = count_map (equal (x ∷ u)) (λ v. i ∷ v) us ∙ count_same (λ v. equal (x ∷ u) (i ∷ v)) (equal u) (λ v. rw (eq-eqb x i h)) us

row_ne : (x i : ℕ) (u : List ℕ) (us : List (List ℕ)) → x ≢ i → occurrences (x ∷ u) (map (λ v. i ∷ v) us) ≡ 0
row_ne x i u us h = count_map (equal (x ∷ u)) (λ v. i ∷ v) us ∙ count_none (λ v. equal (x ∷ u) (i ∷ v)) (λ v. rw (ne_eqb x i h)) us

module _ (u : List ℕ) (F : ℕ → List (List ℕ)) where
  rows_past : (x i d : ℕ) → x < i → occurrences (x ∷ u) (from_first F i d) ≡ 0
  rows_past x i zero h = row_ne x i u (F zero) (omega arith)
  rows_past x i (suc d) h =
      omega (arith, count_append (equal (x ∷ u)) (map (λ v. i ∷ v) (F (suc d))) (from_first F (suc i) d), row_ne x i u (F (suc d)) (omega arith), rows_past x (suc i) d (omega arith))

  rows_at : (y x i d : ℕ) → x ≡ i + y → pos (occurrences (x ∷ u) (from_first F i d)) ≡ shift y (λ e. pos (occurrences u (F e))) d
  rows_at zero x i zero h = ap pos (row_eq x i u (F zero) (omega arith))
  rows_at zero x i (suc d) h =
      ap pos
      (omega (arith, count_append (equal (x ∷ u)) (map (λ v. i ∷ v) (F (suc d))) (from_first F (suc i) d), row_eq x i u (F (suc d)) (omega arith), rows_past x (suc i) d (omega arith)))
  rows_at (suc y) x i zero h = ap pos (row_ne x i u (F zero) (omega arith))
  rows_at (suc y) x i (suc d) h =
      ap pos (omega (arith, count_append (equal (x ∷ u)) (map (λ v. i ∷ v) (F (suc d))) (from_first F (suc i) d), row_ne x i u (F (suc d)) (omega arith)))
      ∙ rows_at y x (suc i) d (omega arith)

rows_empty : (F : ℕ → List (List ℕ)) (i d : ℕ) → occurrences [] (from_first F i d) ≡ 0
rows_empty F i zero = count_map (equal []) (λ v. i ∷ v) (F zero) ∙ count_none (λ v. false) (λ v. refl) (F zero)
rows_empty F i (suc d) =
    omega (
      arith,
      count_append (equal []) (map (λ v. i ∷ v) (F (suc d))) (from_first F (suc i) d),
      count_map (equal []) (λ v. i ∷ v) (F (suc d)),
      count_none (λ v. false) (λ v. refl) (F (suc d)),
      rows_empty F (suc i) d,
    )

-- a list of width n stands there as often as t^degree has the coefficient at d
of_width : (n : ℕ) (u : List ℕ) (d : ℕ) → length u ≡ n → pos (occurrences u (monomials n d)) ≡ shift (degree u) one d
of_width zero [] zero h = refl
of_width zero [] (suc d) h = refl
of_width zero (x ∷ u) d h = absurd (omega arith)
of_width (suc n) [] d h = absurd (omega arith)
of_width (suc n) (x ∷ u) d h =
    rows_at u (monomials n) x x 0 d (omega arith)
    ∙ shift_ext x (λ e. pos (occurrences u (monomials n e))) (shift (degree u) one) (λ e. of_width n u e (omega arith)) d
    ∙ shift_shift x (degree u) one d

pub enumeration_once : (n : ℕ) (u : List ℕ) (d : ℕ) → length u ≡ n → degree u ≡ d → occurrences u (monomials n d) ≡ 1
enumeration_once n u d h e = pos_injective (occurrences u (monomials n d)) 1 (of_width n u d h ∙ rw e (power_at d))

pub enumeration_other_degree : (n : ℕ) (u : List ℕ) (d : ℕ) → length u ≡ n → degree u ≢ d → occurrences u (monomials n d) ≡ 0
enumeration_other_degree n u d h e = pos_injective (occurrences u (monomials n d)) 0 (of_width n u d h ∙ power_off (degree u) d e)

pub enumeration_other_width : (n : ℕ) (u : List ℕ) (d : ℕ) → length u ≢ n → occurrences u (monomials n d) ≡ 0
enumeration_other_width zero [] d h = absurd (h refl)
enumeration_other_width zero (x ∷ u) zero h = refl
enumeration_other_width zero (x ∷ u) (suc d) h = refl
enumeration_other_width (suc n) [] d h = rows_empty (monomials n) 0 d
enumeration_other_width (suc n) (x ∷ u) d h =
    pos_injective (occurrences (x ∷ u) (monomials (suc n) d)) 0
    (rows_at u (monomials n) x x 0 d (omega arith)
    ∙ shift_zero x (λ e. pos (occurrences u (monomials n e))) (λ e. ap pos (enumeration_other_width n u e (omega arith))) d)

pub enumeration_width : (n d : ℕ) (u : List ℕ) → In u (monomials n d) → length u ≡ n
enumeration_width n d u i = go (eqb (length u) n) refl
  where
    go : (t : Bool) → eqb (length u) n ≡ t → length u ≡ n
    go true p = eqb-true (length u) n p
    go false p = absurd (omega (arith, in_occurrences u (monomials n d) i, enumeration_other_width n u d (eqb-false (length u) n p)))

pub enumeration_degree : (n d : ℕ) (u : List ℕ) → In u (monomials n d) → degree u ≡ d
enumeration_degree n d u i = go (eqb (degree u) d) refl
  where
    go : (t : Bool) → eqb (degree u) d ≡ t → degree u ≡ d
    go true p = eqb-true (degree u) d p
    go false p =
        absurd (omega (arith, in_occurrences u (monomials n d) i, enumeration_other_degree n u d (enumeration_width n d u i) (eqb-false (degree u) d p)))

-- tests that agree on width n

rows_same : (F : ℕ → List (List ℕ)) (p q : List ℕ → Bool) → ((i d : ℕ) → count (λ u. p (i ∷ u)) (F d) ≡ count (λ u. q (i ∷ u)) (F d)) → (i d : ℕ) → count p (from_first F i d) ≡ count q (from_first F i d)
rows_same F p q h i zero = count_map p (λ u. i ∷ u) (F zero) ∙ h i zero ∙ sym (count_map q (λ u. i ∷ u) (F zero))
rows_same F p q h i (suc d) =
    omega (
      arith,
      count_append p (map (λ u. i ∷ u) (F (suc d))) (from_first F (suc i) d),
      count_append q (map (λ u. i ∷ u) (F (suc d))) (from_first F (suc i) d),
      count_map p (λ u. i ∷ u) (F (suc d)),
      count_map q (λ u. i ∷ u) (F (suc d)),
      h i (suc d),
      rows_same F p q h (suc i) d,
    )

pub count_width : (n : ℕ) (p q : List ℕ → Bool) → ((u : List ℕ) → length u ≡ n → p u ≡ q u) → (d : ℕ) → count p (monomials n d) ≡ count q (monomials n d)
count_width zero p q h zero = omega (arith, ap bit (h [] refl))
count_width zero p q h (suc d) = refl
count_width (suc n) p q h d = rows_same (monomials n) p q (λ i k. count_width n (λ u. p (i ∷ u)) (λ u. q (i ∷ u)) (λ u e. h (i ∷ u) (ap suc e)) k) 0 d
