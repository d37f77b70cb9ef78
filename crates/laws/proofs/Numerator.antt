-- Laws of the numerator as a sum over subsets. N_c(L) below is the sum with the monomial c in every lcm: N(L) is N_1(L).
--   numerator_over        the subset sum is N_1
--   over_colon            N_c(L) = t^deg(c) · N(L : c)
--   numerator_cons        N(m, L) = N(L) − t^deg(m) · N(L : m)
--   numerator_append_one  the same with m at the end
--   numerator_split       N(L) = N(p, L) + t^deg(p) · N(L : p), for any p
--   numerator_coprime     of a pairwise coprime list: the product of all 1 − t^deg(m)
--   numerator_unit        0 with a unit
--   numerator_none        1 for the empty list
--   numerator_redundant, numerator_append_redundant   a monomial that a member divides changes nothing
--   numerator_bound       |coefficient| ≤ 2^s
--   numerator_degree      0 past the degree of the lcm of all
--   numerator_coefficient, numerator_trimmed   the trimmed list has these coefficients
use mathlib.Core.Path.{◌≡◌, refl, sym, ap, ap₂, ◌∙◌}
use mathlib.Core.Logic.{inl, inr}
use mathlib.Core.Bool.{true}
use mathlib.Core.List.{List, [], ◌∷◌, ◌++◌, map}
use Prim.Native.Nat.{ℕ, zero, suc, ◌≤◌, ◌<◌, ◌^◌}
use native.Mathlib.Omega.{arith}
use native.Mathlib.Nat.{pow-suc}
use lib.ListN.{length}
use lib.IntN.{ℤ, pos, ◌+ℤ◌, ◌-ℤ◌, neg_ℤ, nat_abs, +ℤ_assoc, +ℤ_idl, +ℤ_idr, neg_ℤ-+ℤ, -ℤ-+ℤ_cancel}
use Rattle.laws.specs.Monomial.{degree, divides, product, quotient, lcm, coprime}
use Rattle.laws.specs.Ideal.{In, multiple, lcm_of, colon, unit_in}
use Rattle.laws.specs.Coefficients.{coefficient, Trimmed, first, one, shift}
use Rattle.laws.specs.Numerator.{subsets, signed, total, numerator_at, numerator}
use Rattle.laws.specs.Room.{coefficients_asked}
use Rattle.laws.proofs.Monomial.{lcm_nil, lcm_assoc, lcm_swap, degree_lcm, degree_absorb, degree_lcm_coprime, coprime_lcm, divides_lcm_left, product_nil, degree_product, lcm_product, unit_divides}
use Rattle.laws.proofs.Ideal.{multiple_divisor, unit_member}
use Rattle.laws.proofs.Integer.{sub_of_sub, sub_self, sub_zero, abs_sub}
use Rattle.laws.proofs.Coefficients.{shift_ext, shift_sub, shift_shift, power_off, coefficient_first, trim_trimmed, trim_coefficient}

-- N_c(L), member by member: with the member in no lcm, less that with it in each
abbrev pub over : List ℕ → List (List ℕ) → ℕ → ℤ
over c [] k = shift (degree c) one k
over c (m ∷ L) k = over c L k -ℤ over (lcm c m) L k

-- the subset sum

total_append : (f : List (List ℕ) → ℤ) (A B : List (List (List ℕ))) → total (map f (A ++ B)) ≡ total (map f A) +ℤ total (map f B)
total_append f [] B = sym (+ℤ_idl (total (map f B)))
total_append f (S ∷ A) B = ap (λ (z : ℤ). f S +ℤ z) (total_append f A B) ∙ sym (+ℤ_assoc (f S) (total (map f A)) (total (map f B)))

total_map : (f : List (List ℕ) → ℤ) (m : List ℕ) (A : List (List (List ℕ))) → total (map f (map (λ S. m ∷ S) A)) ≡ total (map (λ S. f (m ∷ S)) A)
total_map f m [] = refl
total_map f m (S ∷ A) = ap (λ (z : ℤ). f (m ∷ S) +ℤ z) (total_map f m A)

total_neg : (f g : List (List ℕ) → ℤ) → ((S : List (List ℕ)) → f S ≡ neg_ℤ (g S)) → (A : List (List (List ℕ))) → total (map f A) ≡ neg_ℤ (total (map g A))
total_neg f g h [] = refl
total_neg f g h (S ∷ A) = ap₂ ◌+ℤ◌ (h S) (total_neg f g h A) ∙ sym (neg_ℤ-+ℤ (g S) (total (map g A)))

-- what a subset adds to the coefficient of t^k in N_c
term : List ℕ → ℕ → List (List ℕ) → ℤ
term c k S = signed (length S) (shift (degree (lcm c (lcm_of S))) one k)

over_sum : (c : List ℕ) (L : List (List ℕ)) (k : ℕ) → total (map (term c k) (subsets L)) ≡ over c L k
unfolding term
over_sum c [] k = +ℤ_idr (shift (degree (lcm c [])) one k) ∙ ap (λ (a : List ℕ). shift (degree a) one k) (lcm_nil c)
over_sum c (m ∷ L) k =
    total_append (term c k) (subsets L) (map (λ S. m ∷ S) (subsets L))
    ∙ ap₂ ◌+ℤ◌ (over_sum c L k)
    (total_map (term c k) m (subsets L)
    ∙ total_neg (λ S. term c k (m ∷ S)) (term (lcm c m) k) (λ S. ap (λ (a : List ℕ). neg_ℤ (signed (length S) (shift (degree a) one k))) (sym (lcm_assoc c m (lcm_of S)))) (subsets L)
    ∙ ap neg_ℤ (over_sum (lcm c m) L k))

pub numerator_over : (L : List (List ℕ)) (k : ℕ) → numerator_at L k ≡ over [] L k
unfolding term
numerator_over L k = over_sum [] L k

-- the colon

pub over_product : (c e : List ℕ) (L : List (List ℕ)) (k : ℕ) → over (product c e) L k ≡ shift (degree c) (over e (colon L c)) k
over_product c e [] k = rw (degree_product c e) (sym (shift_shift (degree c) (degree e) one k))
over_product c e (m ∷ L) k =
    rw (lcm_product c e m)
    (ap₂ ◌-ℤ◌ (over_product c e L k) (over_product c (lcm e (quotient m c)) L k)
    ∙ sym (shift_sub (degree c) (over e (colon L c)) (over (lcm e (quotient m c)) (colon L c)) k))

pub over_colon : (c : List ℕ) (L : List (List ℕ)) (k : ℕ) → over c L k ≡ shift (degree c) (numerator_at (colon L c)) k
over_colon c L k =
    ap (λ (a : List ℕ). over a L k) (sym (product_nil c))
    ∙ over_product c [] L k
    ∙ shift_ext (degree c) (over [] (colon L c)) (numerator_at (colon L c)) (λ j. sym (numerator_over (colon L c) j)) k

pub numerator_cons : (m : List ℕ) (L : List (List ℕ)) (k : ℕ) → numerator_at (m ∷ L) k ≡ numerator_at L k -ℤ shift (degree m) (numerator_at (colon L m)) k
numerator_cons m L k = numerator_over (m ∷ L) k ∙ ap₂ ◌-ℤ◌ (sym (numerator_over L k)) (over_colon m L k)

pub numerator_split : (p : List ℕ) (L : List (List ℕ)) (k : ℕ) → numerator_at L k ≡ numerator_at (p ∷ L) k +ℤ shift (degree p) (numerator_at (colon L p)) k
numerator_split p L k =
    sym
    (ap (λ (z : ℤ). z +ℤ shift (degree p) (numerator_at (colon L p)) k) (numerator_cons p L k)
    ∙ -ℤ-+ℤ_cancel (numerator_at L k) (shift (degree p) (numerator_at (colon L p)) k))

over_append_one : (c : List ℕ) (L : List (List ℕ)) (g : List ℕ) (k : ℕ) → over c (L ++ g ∷ []) k ≡ over c L k -ℤ over (lcm c g) L k
over_append_one c [] g k = refl
over_append_one c (m ∷ L) g k =
    ap₂ ◌-ℤ◌ (over_append_one c L g k) (over_append_one (lcm c m) L g k ∙ ap (λ (a : List ℕ). over (lcm c m) L k -ℤ over a L k) (lcm_swap c m g))
    ∙ sub_of_sub (over c L k) (over (lcm c g) L k) (over (lcm c m) L k) (over (lcm (lcm c g) m) L k)

pub numerator_append_one : (L : List (List ℕ)) (g : List ℕ) (k : ℕ) → numerator_at (L ++ g ∷ []) k ≡ numerator_at L k -ℤ shift (degree g) (numerator_at (colon L g)) k
numerator_append_one L g k = numerator_over (L ++ g ∷ []) k ∙ over_append_one [] L g k ∙ ap₂ ◌-ℤ◌ (sym (numerator_over L k)) (over_colon g L k)

-- coprime lists

abbrev pub AllCoprime : List ℕ → List (List ℕ) → Type 0
AllCoprime c L = (m : List ℕ) → In m L → coprime c m ≡ true

abbrev pub PairwiseCoprime : List (List ℕ) → Type 0
PairwiseCoprime [] = Unit {0}
PairwiseCoprime (m ∷ L) = AllCoprime m L × PairwiseCoprime L

-- the product of all 1 − t^a
abbrev pub factors : List ℕ → ℕ → ℤ
factors [] k = one k
factors (a ∷ ds) k = factors ds k -ℤ shift a (factors ds) k

over_coprime : (c : List ℕ) (L : List (List ℕ)) (k : ℕ) → AllCoprime c L → PairwiseCoprime L → over c L k ≡ shift (degree c) (factors (map degree L)) k
over_coprime c [] k h g = shift_ext (degree c) one (factors []) (λ j. refl) k
over_coprime c (m ∷ L) k h g =
    ap₂ ◌-ℤ◌ (over_coprime c L k (λ a i. h a (inr i)) g.1)
    (over_coprime (lcm c m) L k (λ a i. coprime_lcm c m a (h a (inr i)) (g.0 a i)) g.1
    ∙ ap (λ (e : ℕ). shift e (factors (map degree L)) k) (degree_lcm_coprime c m (h m (inl refl)))
    ∙ sym (shift_shift (degree c) (degree m) (factors (map degree L)) k))
    ∙ sym (shift_sub (degree c) (factors (map degree L)) (shift (degree m) (factors (map degree L))) k)

pub numerator_coprime : (L : List (List ℕ)) (k : ℕ) → PairwiseCoprime L → numerator_at L k ≡ factors (map degree L) k
numerator_coprime L k g = numerator_over L k ∙ over_coprime [] L k (λ a i. refl) g

-- a member that divides c

over_absorb : (m c : List ℕ) (L : List (List ℕ)) (k : ℕ) → divides m c ≡ true → over (lcm c m) L k ≡ over c L k
over_absorb m c [] k h = rw (degree_absorb m c h)
over_absorb m c (b ∷ L) k h = rw (lcm_swap c m b) (ap₂ ◌-ℤ◌ (over_absorb m c L k h) (over_absorb m (lcm c b) L k (divides_lcm_left m c b h)))

pub over_vanishes : (m c : List ℕ) (L : List (List ℕ)) (k : ℕ) → In m L → divides m c ≡ true → over c L k ≡ pos 0
over_vanishes m c [] k i h = absurd i
over_vanishes m c (b ∷ L) k (inl e) h = rw (← e) (ap (λ (z : ℤ). over c L k -ℤ z) (over_absorb m c L k h) ∙ sub_self (over c L k))
over_vanishes m c (b ∷ L) k (inr i) h = ap₂ ◌-ℤ◌ (over_vanishes m c L k i h) (over_vanishes m (lcm c b) L k i (divides_lcm_left m c b h))

pub numerator_unit : (L : List (List ℕ)) (k : ℕ) → unit_in L ≡ true → numerator_at L k ≡ pos 0
numerator_unit L k h = let r = unit_member L h in numerator_over L k ∙ over_vanishes r.0 [] L k r.1 (unit_divides r.0 [] r.2)

pub numerator_none : (k : ℕ) → numerator_at [] k ≡ one k
numerator_none k = numerator_over [] k

over_redundant : (L : List (List ℕ)) (g : List ℕ) (k : ℕ) → multiple L g ≡ true → over g L k ≡ pos 0
over_redundant L g k h = let d = multiple_divisor L g h in over_vanishes d.0 g L k d.1 d.2

pub numerator_redundant : (L : List (List ℕ)) (g : List ℕ) (k : ℕ) → multiple L g ≡ true → numerator_at (g ∷ L) k ≡ numerator_at L k
numerator_redundant L g k h = numerator_over (g ∷ L) k ∙ ap₂ ◌-ℤ◌ (sym (numerator_over L k)) (over_redundant L g k h) ∙ sub_zero (numerator_at L k)

pub numerator_append_redundant : (L : List (List ℕ)) (g : List ℕ) (k : ℕ) → multiple L g ≡ true → numerator_at (L ++ g ∷ []) k ≡ numerator_at L k
numerator_append_redundant L g k h =
    numerator_over (L ++ g ∷ []) k ∙ over_append_one [] L g k ∙ ap₂ ◌-ℤ◌ (sym (numerator_over L k)) (over_redundant L g k h) ∙ sub_zero (numerator_at L k)

-- how large the coefficients are, and where they end

power_small : (e k : ℕ) → nat_abs (shift e one k) ≤ 1
power_small zero zero = omega arith
power_small zero (suc k) = omega arith
power_small (suc e) zero = omega arith
power_small (suc e) (suc k) = power_small e k

over_bound : (c : List ℕ) (L : List (List ℕ)) (k : ℕ) → nat_abs (over c L k) ≤ 2 ^ length L
over_bound c [] k = omega (arith, power_small (degree c) k)
over_bound c (m ∷ L) k = omega (arith, pow-suc 2 (length L), abs_sub (over c L k) (over (lcm c m) L k), over_bound c L k, over_bound (lcm c m) L k)

pub numerator_bound : (L : List (List ℕ)) (k : ℕ) → nat_abs (numerator_at L k) ≤ 2 ^ length L
numerator_bound L k = rw (numerator_over L k) (over_bound [] L k)

over_degree : (c : List ℕ) (L : List (List ℕ)) (k : ℕ) → degree (lcm c (lcm_of L)) < k → over c L k ≡ pos 0
over_degree c [] k h = power_off (degree c) k (omega (arith, ap degree (lcm_nil c)))
over_degree c (m ∷ L) k h =
    ap₂ ◌-ℤ◌ (over_degree c L k (omega (arith, drop_one))) (over_degree (lcm c m) L k (omega (arith, ap degree (lcm_assoc c m (lcm_of L)))))
  where
    drop_one : degree (lcm c (lcm_of L)) ≤ degree (lcm c (lcm m (lcm_of L)))
    drop_one = rw (← lcm_assoc c m (lcm_of L), lcm_swap c m (lcm_of L)) (degree_lcm (lcm c (lcm_of L)) m)

pub numerator_degree : (L : List (List ℕ)) (k : ℕ) → degree (lcm_of L) < k → numerator_at L k ≡ pos 0
numerator_degree L k h = numerator_over L k ∙ over_degree [] L k h

-- the list of coefficients

pub numerator_coefficient : (L : List (List ℕ)) (k : ℕ) → coefficient (numerator L) k ≡ numerator_at L k
numerator_coefficient L k =
    trim_coefficient (first (coefficients_asked L) (numerator_at L)) k
    ∙ coefficient_first (coefficients_asked L) (numerator_at L) (λ j l. numerator_degree L j l) k

pub numerator_trimmed : (L : List (List ℕ)) → Trimmed (numerator L)
numerator_trimmed L = trim_trimmed (first (coefficients_asked L) (numerator_at L))
