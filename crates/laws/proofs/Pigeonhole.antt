-- The pigeonhole principle for lists of monomials.
--   Distinct        no member stands twice
--   pigeonhole      a list without repetition whose members are all in K is no longer than K
--   once_distinct   where each monomial stands at most once, no member stands twice
--   InBox           a monomial in n variables has each exponent below a bound of its own, a_v
--   box_bound       of these there are at most the product of all a_v
use mathlib.Core.Path.{◌≡◌, refl, sym, ap, ◌∙◌}
use mathlib.Core.Logic.{inl, inr, ◌≢◌}
use mathlib.Core.Bool.{Bool, true, false}
use mathlib.Core.List.{List, [], ◌∷◌, ◌++◌, map}
use Prim.Native.Nat.{ℕ, zero, suc, ◌*◌, ◌≤◌, ◌<◌}
use native.Mathlib.Omega.{arith}
use native.Mathlib.Nat.{zero-mul, suc-mul, mul_left_comm}
use lib.Dec.{eqb}
use lib.ListN.{length, length-append, length-map}
use borrow.Author.Tests.{eqb-true, eqb-false}
use Rattle.laws.specs.Monomial.{exponent}
use Rattle.laws.specs.Ideal.{In}
use Rattle.laws.specs.Count.{bit, occurrences}
use Rattle.laws.specs.Sums.{product_below}
use Rattle.laws.proofs.Ideal.{in_at, in_append_left, in_append_right}
use Rattle.laws.proofs.Enumeration.{equal_refl, in_occurrences}

-- no member stands twice
abbrev pub Distinct : List (List ℕ) → Type 0
Distinct [] = Unit {0}
Distinct (a ∷ L) = (In a L → ⊥) × Distinct L

-- K without one member

without : (a : List ℕ) (K : List (List ℕ)) → In a K → List (List ℕ)
without a [] i = absurd i
without a (b ∷ K) (inl e) = K
without a (b ∷ K) (inr i) = b ∷ without a K i

length_without : (a : List ℕ) (K : List (List ℕ)) (i : In a K) → length K ≡ suc (length (without a K i))
unfolding without
length_without a [] i = absurd i
length_without a (b ∷ K) (inl e) = refl
length_without a (b ∷ K) (inr i) = ap suc (length_without a K i)

in_without : (a : List ℕ) (K : List (List ℕ)) (i : In a K) (c : List ℕ) → In c K → c ≢ a → In c (without a K i)
unfolding without
in_without a [] i c j h = absurd i
in_without a (b ∷ K) (inl e) c (inl p) h = absurd (h (p ∙ sym e))
in_without a (b ∷ K) (inl e) c (inr j) h = j
in_without a (b ∷ K) (inr i) c (inl p) h = inl p
in_without a (b ∷ K) (inr i) c (inr j) h = inr (in_without a K i c j h)

-- each member of L takes one away from K
pub pigeonhole : (L K : List (List ℕ)) → Distinct L → ((a : List ℕ) → In a L → In a K) → length L ≤ length K
pigeonhole [] K d f = omega arith
pigeonhole (a ∷ L) K d f =
    let i : In a K = f a (inl refl) in
    omega (
      arith,
      length_without a K i,
      pigeonhole L (without a K i) d.1 (λ c j. in_without a K i c (f c (inr j)) (λ e. d.0 (in_at L (sym e) j))),
    )

-- a member that stands again further on would be counted twice
pub once_distinct : (us : List (List ℕ)) → ((u : List ℕ) → occurrences u us ≤ 1) → Distinct us
once_distinct [] h = tt
once_distinct (a ∷ us) h = (λ i. omega (arith, h a, ap bit (equal_refl a), in_occurrences a us i), once_distinct us (λ u. omega (arith, h u)))

-- the box of all monomials in n variables with each exponent below its bound

-- a member of the box, by its exponents
abbrev pub InBox : ℕ → (ℕ → ℕ) → List ℕ → Type 0
InBox n a u = (length u ≡ n) × ((v : ℕ) → v < n → exponent u v < a v)

-- each number below x before each of us
firsts : ℕ → List (List ℕ) → List (List ℕ)
firsts zero us = []
firsts (suc x) us = map (λ u. x ∷ u) us ++ firsts x us

box : ℕ → (ℕ → ℕ) → List (List ℕ)
box zero a = [] ∷ []
box (suc n) a = firsts (a 0) (box n (λ v. a (suc v)))

length_firsts : (x : ℕ) (us : List (List ℕ)) → length (firsts x us) ≡ x * length us
unfolding firsts
length_firsts zero us = sym (zero-mul (length us))
length_firsts (suc x) us =
    omega (arith, length-append (map (λ u. x ∷ u) us) (firsts x us), length-map us (λ u. x ∷ u), length_firsts x us, suc-mul x (length us))

product_below_first : (n : ℕ) (f : ℕ → ℕ) → product_below (suc n) f ≡ f 0 * product_below n (λ v. f (suc v))
product_below_first zero f = refl
product_below_first (suc n) f = ap (λ (p : ℕ). f (suc n) * p) (product_below_first n f) ∙ mul_left_comm (f (suc n)) (f 0) (product_below n (λ v. f (suc v)))

length_box : (n : ℕ) (a : ℕ → ℕ) → length (box n a) ≡ product_below n a
unfolding box
length_box zero a = refl
length_box (suc n) a =
    length_firsts (a 0) (box n (λ v. a (suc v))) ∙ ap (λ (p : ℕ). a 0 * p) (length_box n (λ v. a (suc v))) ∙ sym (product_below_first n a)

in_map : (x : ℕ) (u : List ℕ) (us : List (List ℕ)) → In u us → In (x ∷ u) (map (λ w. x ∷ w) us)
in_map x u [] i = absurd i
in_map x u (w ∷ us) (inl e) = inl (ap (λ (l : List ℕ). x ∷ l) e)
in_map x u (w ∷ us) (inr i) = inr (in_map x u us i)

in_firsts : (x y : ℕ) (u : List ℕ) (us : List (List ℕ)) → y < x → In u us → In (y ∷ u) (firsts x us)
unfolding firsts
in_firsts zero y u us h i = absurd (omega arith)
in_firsts (suc x) y u us h i = go (eqb y x) refl (λ l. in_firsts x y u us l i)
  where
    go : (t : Bool) → eqb y x ≡ t → (y < x → In (y ∷ u) (firsts x us)) → In (y ∷ u) (map (λ w. x ∷ w) us ++ firsts x us)
    go true p f = in_append_left (y ∷ u) (map (λ w. x ∷ w) us) (firsts x us) (rw (eqb-true y x p) (in_map x u us i))
    go false p f = in_append_right (y ∷ u) (map (λ w. x ∷ w) us) (firsts x us) (f (omega (arith, eqb-false y x p)))

in_box : (n : ℕ) (a : ℕ → ℕ) (u : List ℕ) → InBox n a u → In u (box n a)
unfolding box
in_box zero a [] h = inl refl
in_box zero a (x ∷ u) h = absurd (omega (arith, h.0))
in_box (suc n) a [] h = absurd (omega (arith, h.0))
in_box (suc n) a (x ∷ u) h =
    in_firsts (a 0) x u (box n (λ v. a (suc v))) (h.1 0 (omega arith)) (in_box n (λ v. a (suc v)) u (omega (arith, h.0), λ v l. h.1 (suc v) (omega arith)))

-- they are all in the box, which has that many members
pub box_bound : (n : ℕ) (a : ℕ → ℕ) (us : List (List ℕ)) → Distinct us → ((u : List ℕ) → In u us → InBox n a u) → length us ≤ product_below n a
box_bound n a us d h = rw (← length_box n a) (pigeonhole us (box n a) d (λ u i. in_box n a u (h u i)))
