-- Laws of pure powers and of the dimension. A monomial is standard where it is no multiple of L; a_v is the least power of variable v, D = Σ (a_v − 1).
--   pure_power_power               pure_power m v is x ≢ 0 exactly when m is variable v to the x
--   pure_divides                  a pure power divides what has at least its exponent
--   least_power_member             a_v is the power of some member
--   least_power_least              no member has a lesser one
--   least_power_multiple           what has at least the exponent a_v is a multiple
--   finite_power, power_finite    L is finite exactly when each of the n variables has a pure power
--   standard_exponent             an exponent of a standard monomial is below a_v
--   degree_sum                    the degree is the sum of the exponents
--   standard_degree               a standard monomial has at most the degree D
--   hf_above                      HF is 0 above D
--   dimension_sum                 the dimension is HF(0) + .. + HF(D)
--   standards_once                each standard monomial stands exactly once in the list of them
--   standards_other, standards_width   a multiple does not stand there, nor a list of another width
--   standards_member              a member has width n and is standard
--   standards_distinct            no member stands twice
--   dimension_bound               the dimension is at most the product of all a_v
--   dimension_unit                it is 0 with a unit
--   dimension_no_variables        it is 1 without variables and without a unit
--   powers_positive               the product of all a_v is at least 1
--   degree_bound_lt               it is greater than D
--   dimension_lt, hf_lt           where it is below P, so are the dimension and HF(0), .., HF(D)
--   hf_residue                    and the numerator's n-fold sums modulo P are HF
use mathlib.Core.Path.{◌≡◌, refl, sym, ap, ap₂, ◌∙◌}
use mathlib.Core.Logic.{◌⊎◌, inl, inr, ◌≢◌, ◌↔◌}
use mathlib.Core.Bool.{Bool, true, false, not, ◌&&◌, cond, false≢true}
use mathlib.Core.List.{List, [], ◌∷◌}
use Prim.Native.Nat.{ℕ, zero, suc, ◌+◌, ◌*◌, ◌-◌, ◌≤◌, ◌<◌, min}
use native.Mathlib.Omega.{arith}
use native.Mathlib.Nat.{one-le-mul, suc-mul, le-mul_of_pos_right, lt_of_le_of_lt, mod-eq_of_lt}
use lib.Dec.{leb, eqb, eqb-suc-zero}
use lib.ListN.{length, length-append}
use borrow.Author.Tests.{leb-true, leb-false, eqb-true, eqb-false, eq-eqb, ne_eqb, not-true as not_passed}
use Rattle.laws.specs.Monomial.{degree, exponent, divides}
use Rattle.laws.specs.Ideal.{In, Width, Within, multiple, unit_in}
use Rattle.laws.specs.Count.{bit, count, keep, equal, occurrences, monomials, HF}
use Rattle.laws.specs.Sums.{sum_below, product_below, sum, sumsℤ}
use Rattle.laws.specs.Coefficients.{coefficient}
use Rattle.laws.specs.Numerator.{numerator}
use Rattle.laws.specs.Word.{residue}
use Rattle.laws.specs.Dimension.{pure_power, lesser, least_power, finite, degree_bound, powers_product, standards_to, standards, dimension}
use Rattle.laws.proofs.Monomial.{and_left, and_right, not_true, exponents_divide}
use Rattle.laws.proofs.Ideal.{divisor_multiple, unit_all}
use Rattle.laws.proofs.Enumeration.{count_append, count_same, count_none, count_keep, length_keep, equal_eq, in_occurrences, enumeration_once, enumeration_other_degree, enumeration_other_width, enumeration_width, enumeration_degree}
use Rattle.laws.proofs.Sums.{sum_term}
use Rattle.laws.proofs.Counting.{numerator_counts}
use Rattle.laws.proofs.Pigeonhole.{Distinct, once_distinct, InBox, box_bound}

-- exponents and the degree

exponent_degree : (m : List ℕ) (v : ℕ) → exponent m v ≤ degree m
exponent_degree [] v = omega arith
exponent_degree (x ∷ m) zero = omega arith
exponent_degree (x ∷ m) (suc v) = omega (arith, exponent_degree m v)

two_exponents : (m : List ℕ) (v w : ℕ) → w ≢ v → exponent m w + exponent m v ≤ degree m
two_exponents [] v w h = omega arith
two_exponents (x ∷ m) zero zero h = absurd (h refl)
two_exponents (x ∷ m) zero (suc w) h = omega (arith, exponent_degree m w)
two_exponents (x ∷ m) (suc v) zero h = omega (arith, exponent_degree m v)
two_exponents (x ∷ m) (suc v) (suc w) h = omega (arith, two_exponents m v w (omega arith))

no_exponent : (m : List ℕ) → ((w : ℕ) → exponent m w ≡ 0) → degree m ≡ 0
no_exponent [] h = refl
no_exponent (x ∷ m) h = omega (arith, h 0, no_exponent m (λ w. h (suc w)))

one_exponent : (m : List ℕ) (v : ℕ) → ((w : ℕ) → w ≢ v → exponent m w ≡ 0) → degree m ≡ exponent m v
one_exponent [] v h = refl
one_exponent (x ∷ m) zero h = omega (arith, no_exponent m (λ w. h (suc w) (omega arith)))
one_exponent (x ∷ m) (suc v) h = omega (arith, h 0 (omega arith), one_exponent m v (λ w g. h (suc w) (omega arith)))

-- pure powers

pure_degree : (m : List ℕ) (v : ℕ) → pure_power m v ≢ 0 → (degree m ≡ exponent m v) × (exponent m v ≡ pure_power m v)
pure_degree m v h = go (eqb (degree m) (exponent m v)) refl h
  where
    go : (t : Bool) → eqb (degree m) (exponent m v) ≡ t → cond t (exponent m v) 0 ≢ 0 → (degree m ≡ exponent m v) × (exponent m v ≡ cond t (exponent m v) 0)
    go true p q = (eqb-true (degree m) (exponent m v) p, refl)
    go false p q = absurd (q refl)

pure_other : (m : List ℕ) (v w : ℕ) → pure_power m v ≢ 0 → w ≢ v → exponent m w ≡ 0
pure_other m v w h g = omega (arith, (pure_degree m v h).0, two_exponents m v w g)

-- the exponent of v is x, and every other one is 0
pub pure_power_power : (m : List ℕ) (v x : ℕ) → x ≢ 0 → (pure_power m v ≡ x) ↔ ((exponent m v ≡ x) × ((w : ℕ) → w ≢ v → exponent m w ≡ 0))
pure_power_power m v x h = (
  (λ e. let p : pure_power m v ≢ 0 = λ z. h (sym e ∙ z) in ((pure_degree m v p).1 ∙ e, λ w. pure_other m v w p)),
  (λ e. rw (eq-eqb (degree m) (exponent m v) (one_exponent m v e.1)) e.0),
)

-- only the exponent of v needs to be compared
pub pure_divides : (m u : List ℕ) (v : ℕ) → pure_power m v ≢ 0 → pure_power m v ≤ exponent u v → divides m u ≡ true
pure_divides m u v h g = exponents_divide m u (λ w. go w (eqb w v) refl)
  where
    go : (w : ℕ) (t : Bool) → eqb w v ≡ t → exponent m w ≤ exponent u w
    go w true p = rw (eqb-true w v p) (omega (arith, (pure_degree m v h).1))
    go w false p = omega (arith, pure_other m v w h (eqb-false w v p))

-- the lesser of two powers

lesser_none : (x : ℕ) → lesser (suc x) zero ≡ suc x
lesser_none x = rw (eqb-suc-zero x)

lesser_min : (x y : ℕ) → lesser (suc x) (suc y) ≡ min (suc x) (suc y)
lesser_min x y = rw (eqb-suc-zero x, eqb-suc-zero y)

lesser_one : (x y : ℕ) → (lesser x y ≡ x) ⊎ (lesser x y ≡ y)
lesser_one zero y = inr refl
lesser_one (suc x) zero = inl (lesser_none x)
lesser_one (suc x) (suc y) = go (leb x y) refl
  where
    go : (t : Bool) → leb x y ≡ t → (lesser (suc x) (suc y) ≡ suc x) ⊎ (lesser (suc x) (suc y) ≡ suc y)
    go true p = inl (lesser_min x y ∙ omega (arith, leb-true x y p))
    go false p = inr (lesser_min x y ∙ omega (arith, leb-false x y p))

lesser_left : (x y : ℕ) → x ≢ 0 → (lesser x y ≢ 0) × (lesser x y ≤ x)
lesser_left zero y h = absurd (h refl)
lesser_left (suc x) zero h = omega (arith, lesser_none x)
lesser_left (suc x) (suc y) h = omega (arith, lesser_min x y)

lesser_right : (x y : ℕ) → y ≢ 0 → (lesser x y ≢ 0) × (lesser x y ≤ y)
lesser_right zero y h = omega arith
lesser_right (suc x) zero h = absurd (h refl)
lesser_right (suc x) (suc y) h = omega (arith, lesser_min x y)

-- the least power of a variable

-- a member whose power of v is the least
abbrev pub Least : List (List ℕ) → ℕ → Type 0
Least L v = (m : List ℕ) × In m L × (pure_power m v ≡ least_power L v)

-- the least power is reached
pub least_power_member : (L : List (List ℕ)) (v : ℕ) → least_power L v ≢ 0 → Least L v
least_power_member [] v h = absurd (h refl)
least_power_member (m ∷ L) v h = go (lesser_one (pure_power m v) (least_power L v)) (least_power_member L v)
  where
    go : (least_power (m ∷ L) v ≡ pure_power m v) ⊎ (least_power (m ∷ L) v ≡ least_power L v) → (least_power L v ≢ 0 → Least L v) → Least (m ∷ L) v
    go (inl e) f = (m, inl refl, sym e)
    go (inr e) f = let r = f (λ z. h (e ∙ z)) in (r.0, inr r.1, r.2 ∙ sym e)

-- a member's pure power gives the variable a least one, which is at most it
pub least_power_least : (L : List (List ℕ)) (m : List ℕ) (v : ℕ) → In m L → pure_power m v ≢ 0 → (least_power L v ≢ 0) × (least_power L v ≤ pure_power m v)
least_power_least [] m v i h = absurd i
least_power_least (a ∷ L) m v (inl e) h = rw e (lesser_left (pure_power a v) (least_power L v) (rw e at h))
least_power_least (a ∷ L) m v (inr i) h =
    let r = least_power_least L m v i h in
    let s = lesser_right (pure_power a v) (least_power L v) r.0 in
    (s.0, omega (arith, s.1, r.1))

-- the member with the least power divides it
pub least_power_multiple : (L : List (List ℕ)) (u : List ℕ) (v : ℕ) → least_power L v ≢ 0 → least_power L v ≤ exponent u v → multiple L u ≡ true
least_power_multiple L u v h g =
    let r = least_power_member L v h in
    divisor_multiple r.0 L u r.1 (pure_divides r.0 u v (λ z. h (sym r.2 ∙ z)) (omega (arith, r.2)))

-- finite lists

last_power : (n : ℕ) (L : List (List ℕ)) → finite (suc n) L ≡ true → least_power L n ≢ 0
last_power n L f = eqb-false (least_power L n) 0 (not_passed (eqb (least_power L n) 0) (and_left (not (eqb (least_power L n) 0)) (finite n L) f))

-- a finite list has a pure power of each variable
pub finite_power : (n : ℕ) (L : List (List ℕ)) (v : ℕ) → finite n L ≡ true → v < n → least_power L v ≢ 0
finite_power zero L v f h = absurd (omega arith)
finite_power (suc n) L v f h = go (eqb v n) refl (finite_power n L v (and_right (not (eqb (least_power L n) 0)) (finite n L) f))
  where
    go : (t : Bool) → eqb v n ≡ t → (v < n → least_power L v ≢ 0) → least_power L v ≢ 0
    go true p r = rw (eqb-true v n p) (last_power n L f)
    go false p r = r (omega (arith, eqb-false v n p))

-- and a list that has them is finite
pub power_finite : (n : ℕ) (L : List (List ℕ)) → ((v : ℕ) → v < n → least_power L v ≢ 0) → finite n L ≡ true
power_finite zero L h = refl
power_finite (suc n) L h = ap₂ ◌&&◌ (ap not (ne_eqb (least_power L n) 0 (h n (omega arith)))) (power_finite n L (λ v g. h v (omega arith)))

-- exponents and degrees of standard monomials

-- with an exponent of a_v or more it would be a multiple
pub standard_exponent : (n : ℕ) (L : List (List ℕ)) (u : List ℕ) (v : ℕ) → finite n L ≡ true → multiple L u ≡ false → v < n → exponent u v < least_power L v
standard_exponent n L u v f s h =
    let a = least_power L v in
    leb-false a (exponent u v) (not_true (leb a (exponent u v)) (λ p. false≢true (sym s ∙ least_power_multiple L u v (finite_power n L v f h) (leb-true a (exponent u v) p))))

sum_below_first : (n : ℕ) (f : ℕ → ℕ) → sum_below (suc n) f ≡ f 0 + sum_below n (λ v. f (suc v))
sum_below_first zero f = refl
sum_below_first (suc n) f = omega (arith, sum_below_first n f)

sum_below_le : (n : ℕ) (f g : ℕ → ℕ) → ((v : ℕ) → v < n → f v ≤ g v) → sum_below n f ≤ sum_below n g
sum_below_le zero f g h = omega arith
sum_below_le (suc n) f g h = omega (arith, h n (omega arith), sum_below_le n f g (λ v l. h v (omega arith)))

-- over all n variables, from the first exponent on
pub degree_sum : (n : ℕ) (u : List ℕ) → length u ≡ n → degree u ≡ sum_below n (exponent u)
degree_sum zero [] h = refl
degree_sum zero (x ∷ u) h = absurd (omega arith)
degree_sum (suc n) [] h = absurd (omega arith)
degree_sum (suc n) (x ∷ u) h = omega (arith, degree_sum n u (omega arith), sum_below_first n (exponent (x ∷ u)))

-- each exponent adds at most a_v − 1
pub standard_degree : (n : ℕ) (L : List (List ℕ)) (u : List ℕ) → finite n L ≡ true → length u ≡ n → multiple L u ≡ false → degree u ≤ degree_bound n L
standard_degree n L u f w s =
    omega (arith, degree_sum n u w, sum_below_le n (exponent u) (λ v. least_power L v - 1) (λ v h. omega (arith, standard_exponent n L u v f s h)))

-- the Hilbert function

abbrev pub standard : List (List ℕ) → List ℕ → Bool
standard L u = not (multiple L u)

no_member : (p : List ℕ → Bool) (us : List (List ℕ)) → ((u : List ℕ) → In u us → p u ≡ false) → count p us ≡ 0
no_member p [] h = refl
no_member p (u ∷ us) h = omega (arith, ap bit (h u (inl refl)), no_member p us (λ w i. h w (inr i)))

-- no monomial of a degree above D is standard
pub hf_above : (n : ℕ) (L : List (List ℕ)) (d : ℕ) → finite n L ≡ true → degree_bound n L < d → HF L n d ≡ 0
hf_above n L d f h = no_member (standard L) (monomials n d) (λ u i. go u i (multiple L u) refl)
  where
    go : (u : List ℕ) → In u (monomials n d) → (t : Bool) → multiple L u ≡ t → not t ≡ false
    go u i true p = refl
    go u i false p = absurd (omega (arith, enumeration_degree n d u i, standard_degree n L u f (enumeration_width n d u i) p))

standards_to_sum : (n : ℕ) (L : List (List ℕ)) (d : ℕ) → length (standards_to n L d) ≡ sum (HF L n) d
standards_to_sum n L zero = length_keep (standard L) (monomials n zero)
standards_to_sum n L (suc d) =
    omega (
      arith,
      length-append (standards_to n L d) (keep (standard L) (monomials n (suc d))),
      length_keep (standard L) (monomials n (suc d)),
      standards_to_sum n L d,
    )

-- degree by degree; L need not be finite
pub dimension_sum : (n : ℕ) (L : List (List ℕ)) → dimension n L ≡ sum (HF L n) (degree_bound n L)
dimension_sum n L = standards_to_sum n L (degree_bound n L)

-- what a test keeps

and_false : (b : Bool) → (b && false) ≡ false
and_false true = refl
and_false false = refl

occurrences_keep : (p : List ℕ → Bool) (u : List ℕ) (us : List (List ℕ)) → occurrences u (keep p us) ≡ count (λ w. p u && equal u w) us
occurrences_keep p u us = count_keep p (equal u) us ∙ count_same (λ w. p w && equal u w) (λ w. p u && equal u w) (λ w. go w (equal u w) refl) us
  where
    go : (w : List ℕ) (t : Bool) → equal u w ≡ t → (p w && t) ≡ (p u && t)
    go w true e = rw (equal_eq u w e)
    go w false e = and_false (p w) ∙ sym (and_false (p u))

occurrences_passed : (p : List ℕ → Bool) (u : List ℕ) (us : List (List ℕ)) → p u ≡ true → occurrences u (keep p us) ≡ occurrences u us
occurrences_passed p u us h = occurrences_keep p u us ∙ rw h

occurrences_failed : (p : List ℕ → Bool) (u : List ℕ) (us : List (List ℕ)) → p u ≡ false → occurrences u (keep p us) ≡ 0
occurrences_failed p u us h = occurrences_keep p u us ∙ count_none (λ w. p u && equal u w) (λ w. rw h) us

occurrences_none : (p : List ℕ → Bool) (u : List ℕ) (us : List (List ℕ)) → occurrences u us ≡ 0 → occurrences u (keep p us) ≡ 0
occurrences_none p u us h = go (p u) refl
  where
    go : (t : Bool) → p u ≡ t → occurrences u (keep p us) ≡ 0
    go true e = occurrences_passed p u us e ∙ h
    go false e = occurrences_failed p u us e

-- the list of all standard monomials

module _ (n : ℕ) (L : List (List ℕ)) (u : List ℕ) where
  -- how often u is among the standard monomials of degree d
  abbrev times : ℕ → ℕ
  times d = occurrences u (keep (standard L) (monomials n d))

  standards_to_more : (d : ℕ) → occurrences u (standards_to n L (suc d)) ≡ occurrences u (standards_to n L d) + times (suc d)
  standards_to_more d = count_append (equal u) (standards_to n L d) (keep (standard L) (monomials n (suc d)))

  standards_to_none : (d : ℕ) → ((e : ℕ) → e ≤ d → times e ≡ 0) → occurrences u (standards_to n L d) ≡ 0
  standards_to_none zero h = h zero (omega arith)
  standards_to_none (suc d) h = omega (arith, standards_to_more d, h (suc d) (omega arith), standards_to_none d (λ e l. h e (omega arith)))

  times_degree : (d : ℕ) → length u ≡ n → multiple L u ≡ false → degree u ≡ d → times d ≡ 1
  times_degree d w s e = occurrences_passed (standard L) u (monomials n d) (ap not s) ∙ enumeration_once n u d w e

  times_other_degree : (d : ℕ) → length u ≡ n → degree u ≢ d → times d ≡ 0
  times_other_degree d w e = occurrences_none (standard L) u (monomials n d) (enumeration_other_degree n u d w e)

  standards_to_once : (d : ℕ) → length u ≡ n → multiple L u ≡ false → degree u ≤ d → occurrences u (standards_to n L d) ≡ 1
  standards_to_once zero w s h = times_degree zero w s (omega arith)
  standards_to_once (suc d) w s h = go (leb (degree u) d) refl (standards_to_once d w s)
    where
      go : (t : Bool) → leb (degree u) d ≡ t → (degree u ≤ d → occurrences u (standards_to n L d) ≡ 1) → occurrences u (standards_to n L (suc d)) ≡ 1
      go true p f =
          let l : degree u ≤ d = leb-true (degree u) d p in
          omega (arith, standards_to_more d, f l, times_other_degree (suc d) w (omega arith))
      go false p f =
          let l : d < degree u = leb-false (degree u) d p in
          omega (arith, standards_to_more d, standards_to_none d (λ e k. times_other_degree e w (omega arith)), times_degree (suc d) w s (omega arith))

  -- it stands in the part of its degree, and in no other part
  pub standards_once : finite n L ≡ true → length u ≡ n → multiple L u ≡ false → occurrences u (standards n L) ≡ 1
  standards_once f w s = standards_to_once (degree_bound n L) w s (standard_degree n L u f w s)

  -- no multiple is kept
  pub standards_other : multiple L u ≡ true → occurrences u (standards n L) ≡ 0
  standards_other s = standards_to_none (degree_bound n L) (λ e l. occurrences_failed (standard L) u (monomials n e) (ap not s))

  -- no list of another width is enumerated
  pub standards_width : length u ≢ n → occurrences u (standards n L) ≡ 0
  standards_width w = standards_to_none (degree_bound n L) (λ e l. occurrences_none (standard L) u (monomials n e) (enumeration_other_width n u e w))

  -- otherwise it would stand there 0 times
  pub standards_member : In u (standards n L) → (length u ≡ n) × (multiple L u ≡ false)
  standards_member i = (go (eqb (length u) n) refl, not_true (multiple L u) (λ p. omega (arith, once, standards_other p)))
    where
      once : 1 ≤ occurrences u (standards n L)
      once = in_occurrences u (standards n L) i

      go : (t : Bool) → eqb (length u) n ≡ t → length u ≡ n
      go true p = eqb-true (length u) n p
      go false p = absurd (omega (arith, once, standards_width (eqb-false (length u) n p)))

  at_most_once : finite n L ≡ true → occurrences u (standards n L) ≤ 1
  at_most_once f = go (eqb (length u) n) (multiple L u) refl refl
    where
      go : (t s : Bool) → eqb (length u) n ≡ t → multiple L u ≡ s → occurrences u (standards n L) ≤ 1
      go true true p q = omega (arith, standards_other q)
      go true false p q = omega (arith, standards_once f (eqb-true (length u) n p) q)
      go false s p q = omega (arith, standards_width (eqb-false (length u) n p))

-- each stands there once or not at all
pub standards_distinct : (n : ℕ) (L : List (List ℕ)) → finite n L ≡ true → Distinct (standards n L)
standards_distinct n L f = once_distinct (standards n L) (λ u. at_most_once n L u f)

-- the dimension

-- the standard monomials lie in the box below all a_v
pub dimension_bound : (n : ℕ) (L : List (List ℕ)) → finite n L ≡ true → dimension n L ≤ powers_product n L
dimension_bound n L f = box_bound n (least_power L) (standards n L) (standards_distinct n L f) inside
  where
    inside : (u : List ℕ) → In u (standards n L) → InBox n (least_power L) u
    inside u i = let r = standards_member n L u i in (r.0, λ v. standard_exponent n L u v f r.1)

sum_zero : (f : ℕ → ℕ) → ((k : ℕ) → f k ≡ 0) → (d : ℕ) → sum f d ≡ 0
sum_zero f h zero = h zero
sum_zero f h (suc d) = omega (arith, h (suc d), sum_zero f h d)

-- every monomial is a multiple
pub dimension_unit : (n : ℕ) (L : List (List ℕ)) → unit_in L ≡ true → dimension n L ≡ 0
dimension_unit n L h = dimension_sum n L ∙ sum_zero (HF L n) (λ d. count_none (standard L) (λ u. ap not (unit_all L u h)) (monomials n d)) (degree_bound n L)

-- a list of width 0 without a unit is empty, and the unit is standard
pub dimension_no_variables : (L : List (List ℕ)) → unit_in L ≡ false → Width 0 L → dimension 0 L ≡ 1
dimension_no_variables [] h w = refl
dimension_no_variables ([] ∷ L) h w = absurd (false≢true (sym h))
dimension_no_variables ((x ∷ m) ∷ L) h w = absurd (omega (arith, w (x ∷ m) (inl refl)))

-- the product of all a_v

product_positive : (n : ℕ) (f : ℕ → ℕ) → ((v : ℕ) → v < n → f v ≢ 0) → 1 ≤ product_below n f
product_positive zero f h = omega arith
product_positive (suc n) f h = let e = h n (omega arith) in one-le-mul (omega arith) (product_positive n f (λ v l. h v (omega arith)))

one_more_lem : (x s p : ℕ) → x ≢ 0 → s < p → (x - 1) + s < x * p
one_more_lem zero s p h l = absurd (h refl)
one_more_lem (suc x) s p h l = omega (arith, suc-mul x p, le-mul_of_pos_right {m = p} x (omega arith))

sum_product : (n : ℕ) (f : ℕ → ℕ) → ((v : ℕ) → v < n → f v ≢ 0) → sum_below n (λ v. f v - 1) < product_below n f
sum_product zero f h = omega arith
sum_product (suc n) f h =
    one_more_lem (f n) (sum_below n (λ v. f v - 1)) (product_below n f) (h n (omega arith)) (sum_product n f (λ v l. h v (omega arith)))

-- no factor is 0
pub powers_positive : (n : ℕ) (L : List (List ℕ)) → finite n L ≡ true → 1 ≤ powers_product n L
powers_positive n L f = product_positive n (least_power L) (λ v. finite_power n L v f)

-- x − 1 + s < x·p where s < p and x ≥ 1, variable by variable
pub degree_bound_lt : (n : ℕ) (L : List (List ℕ)) → finite n L ≡ true → degree_bound n L < powers_product n L
degree_bound_lt n L f = sum_product n (least_power L) (λ v. finite_power n L v f)

-- the dimension from the numerator's sums

module _ (n : ℕ) (L : List (List ℕ)) (f : finite n L ≡ true) (P : ℕ) (small : powers_product n L < P) where
  pub dimension_lt : dimension n L < P
  dimension_lt = lt_of_le_of_lt (dimension_bound n L f) small

  pub hf_lt : (k : ℕ) → k ≤ degree_bound n L → HF L n k < P
  hf_lt k h = lt_of_le_of_lt (rw (dimension_sum n L) (sum_term (HF L n) (degree_bound n L) k h)) dimension_lt

  -- the n-fold sums of the numerator modulo P are the Hilbert function
  pub hf_residue : (k : ℕ) → Within n L → k ≤ degree_bound n L → residue P (sumsℤ n (coefficient (numerator L)) k) ≡ HF L n k
  hf_residue k w h = ap (residue P) (numerator_counts n L k w) ∙ mod-eq_of_lt (hf_lt k h)
