-- The numerator times a polynomial f, the seed: what the engine adds to its output.
--   seeded f c L          == N_c(L) · f: the numerator with the monomial c in every lcm, and f in place of 1
--   seeded_factors f ds    == the product of all 1 − t^d, times f
--   Apart B A             == no member of B has a variable in common with one of A
--   convolved p g         == the product of the list of coefficients p and the polynomial g
-- In this file:
--   seeded_ext, seeded_low              it depends on the values of f, and modulo 2^64 on their residues
--   seeded_colon, seeded_cons, seeded_split   the laws of the numerator, with a seed
--   seeded_apart                        of two lists apart: N(A) · f is the seed of B
--   seeded_coprime                      of a pairwise coprime list: the product
--   seeded_one, seeded_minus            with the seeds 1 and −1
--   seeded_same, seeded_none            it depends on the multiples alone, and is 0 where the numerator is
use mathlib.Core.Path.{◌≡◌, refl, sym, ap, ap₂, ◌∙◌}
use mathlib.Core.Logic.{inl, inr}
use mathlib.Core.Bool.{true}
use mathlib.Core.List.{List, [], ◌∷◌, ◌++◌, map}
use Prim.Native.Nat.{ℕ, zero, suc, ◌+◌, ◌<◌}
use native.Mathlib.Omega.{arith}
use lib.IntN.{ℤ, pos, negsuc, neg_ℤ, ◌+ℤ◌, ◌-ℤ◌, ◌*ℤ◌, +ℤ_idl, +ℤ_idr, *ℤ-zero, *ℤ-one, neg_ℤ-+ℤ, neg_ℤ-neg_ℤ, -ℤ-+ℤ_cancel, +ℤ-neg_ℤ_cancel}
use Rattle.laws.specs.Monomial.{degree, quotient, product, lcm, coprime}
use Rattle.laws.specs.Ideal.{In, Within, Same, colon}
use Rattle.laws.specs.Coefficients.{coefficient, one, shift}
use Rattle.laws.specs.Numerator.{numerator_at}
use Rattle.laws.proofs.Monomial.{cons_eq, product_nil, degree_product, lcm_product, coprime_head, coprime_tail, coprime_lcm}
use Rattle.laws.proofs.Integer.{sub_swap, mul_add}
use Rattle.laws.proofs.Coefficients.{shift_ext, shift_zero, shift_sub, shift_shift}
use Rattle.laws.proofs.Numerator.{over, numerator_over, AllCoprime, PairwiseCoprime}
use Rattle.laws.proofs.Counting.{numerator_same}
use Rattle.laws.proofs.Added.{low, low_sub, low_shift}

abbrev pub seeded : (ℕ → ℤ) → List ℕ → List (List ℕ) → ℕ → ℤ
seeded f c [] k = shift (degree c) f k
seeded f c (m ∷ L) k = seeded f c L k -ℤ seeded f (lcm c m) L k

pub seeded_ext : (f g : ℕ → ℤ) (c : List ℕ) (L : List (List ℕ)) → ((k : ℕ) → f k ≡ g k) → (k : ℕ) → seeded f c L k ≡ seeded g c L k
seeded_ext f g c [] h k = shift_ext (degree c) f g h k
seeded_ext f g c (m ∷ L) h k = ap₂ ◌-ℤ◌ (seeded_ext f g c L h k) (seeded_ext f g (lcm c m) L h k)

pub seeded_low : (z : ℕ) (f g : ℕ → ℤ) (c : List ℕ) (L : List (List ℕ)) → ((k : ℕ) → k < z → low (f k) ≡ low (g k)) → (k : ℕ) → k < z → low (seeded f c L k) ≡ low (seeded g c L k)
seeded_low z f g c [] h k l = low_shift (degree c) z f g h k l
seeded_low z f g c (m ∷ L) h k l = low_sub (seeded f c L k) (seeded f (lcm c m) L k) (seeded g c L k) (seeded g (lcm c m) L k) (seeded_low z f g c L h k l) (seeded_low z f g (lcm c m) L h k l)

-- the colon

seeded_product : (f : ℕ → ℤ) (c e : List ℕ) (L : List (List ℕ)) (k : ℕ) → seeded f (product c e) L k ≡ shift (degree c) (seeded f e (colon L c)) k
seeded_product f c e [] k = rw (degree_product c e) (sym (shift_shift (degree c) (degree e) f k))
seeded_product f c e (m ∷ L) k =
    rw (lcm_product c e m)
    (ap₂ ◌-ℤ◌ (seeded_product f c e L k) (seeded_product f c (lcm e (quotient m c)) L k)
    ∙ sym (shift_sub (degree c) (seeded f e (colon L c)) (seeded f (lcm e (quotient m c)) (colon L c)) k))

pub seeded_colon : (f : ℕ → ℤ) (c : List ℕ) (L : List (List ℕ)) (k : ℕ) → seeded f c L k ≡ shift (degree c) (seeded f [] (colon L c)) k
seeded_colon f c L k = ap (λ (a : List ℕ). seeded f a L k) (sym (product_nil c)) ∙ seeded_product f c [] L k

pub seeded_cons : (f : ℕ → ℤ) (m : List ℕ) (L : List (List ℕ)) (k : ℕ) → seeded f [] (m ∷ L) k ≡ seeded f [] L k -ℤ shift (degree m) (seeded f [] (colon L m)) k
seeded_cons f m L k = ap (λ (z : ℤ). seeded f [] L k -ℤ z) (seeded_colon f m L k)

pub seeded_split : (f : ℕ → ℤ) (p : List ℕ) (L : List (List ℕ)) (k : ℕ) → seeded f [] L k ≡ seeded f [] (p ∷ L) k +ℤ shift (degree p) (seeded f [] (colon L p)) k
seeded_split f p L k =
    sym
    (ap (λ (z : ℤ). z +ℤ shift (degree p) (seeded f [] (colon L p)) k) (seeded_cons f p L k)
    ∙ -ℤ-+ℤ_cancel (seeded f [] L k) (shift (degree p) (seeded f [] (colon L p)) k))

-- lists with no common variable

quotient_coprime : (c m : List ℕ) → coprime c m ≡ true → quotient m c ≡ m
quotient_coprime [] m h = refl
quotient_coprime (x ∷ c) [] h = refl
quotient_coprime (x ∷ c) (y ∷ m) h = cons_eq (omega (arith, coprime_head x y c m h)) (quotient_coprime c m (coprime_tail x y c m h))

colon_coprime : (c : List ℕ) (L : List (List ℕ)) → AllCoprime c L → colon L c ≡ L
colon_coprime c [] h = refl
colon_coprime c (m ∷ L) h = ap₂ {C = List (List ℕ)} ◌∷◌ (quotient_coprime c m (h m (inl refl))) (colon_coprime c L (λ a i. h a (inr i)))

seeded_away : (f : ℕ → ℤ) (c : List ℕ) (L : List (List ℕ)) (k : ℕ) → AllCoprime c L → seeded f c L k ≡ shift (degree c) (seeded f [] L) k
seeded_away f c L k h = seeded_colon f c L k ∙ ap (λ (K : List (List ℕ)). shift (degree c) (seeded f [] K) k) (colon_coprime c L h)

abbrev pub Apart : List (List ℕ) → List (List ℕ) → Type 0
Apart B A = (b : List ℕ) → In b B → AllCoprime b A

apart_from : (f : ℕ → ℤ) (c : List ℕ) (B A : List (List ℕ)) (k : ℕ) → AllCoprime c A → Apart B A → seeded f c (B ++ A) k ≡ seeded (seeded f [] A) c B k
apart_from f c [] A k h g = seeded_away f c A k h
apart_from f c (b ∷ B) A k h g =
    ap₂ ◌-ℤ◌ (apart_from f c B A k h (λ a i. g a (inr i)))
    (apart_from f (lcm c b) B A k (λ a i. coprime_lcm c b a (h a i) (g b (inl refl) a i)) (λ a i. g a (inr i)))

pub seeded_apart : (f : ℕ → ℤ) (B A : List (List ℕ)) (k : ℕ) → Apart B A → seeded f [] (B ++ A) k ≡ seeded (seeded f [] A) [] B k
seeded_apart f B A k g = apart_from f [] B A k (λ a i. refl) g

-- coprime lists

abbrev pub seeded_factors : (ℕ → ℤ) → List ℕ → ℕ → ℤ
seeded_factors f [] k = f k
seeded_factors f (a ∷ ds) k = seeded_factors f ds k -ℤ shift a (seeded_factors f ds) k

pub seeded_coprime : (f : ℕ → ℤ) (L : List (List ℕ)) (k : ℕ) → PairwiseCoprime L → seeded f [] L k ≡ seeded_factors f (map degree L) k
seeded_coprime f [] k h = refl
seeded_coprime f (m ∷ L) k h =
    ap₂ ◌-ℤ◌ (seeded_coprime f L k h.1)
    (seeded_away f m L k h.0 ∙ shift_ext (degree m) (seeded f [] L) (seeded_factors f (map degree L)) (λ j. seeded_coprime f L j h.1) k)

-- the seeds 1 and −1

over_one : (c : List ℕ) (L : List (List ℕ)) (k : ℕ) → seeded one c L k ≡ over c L k
over_one c [] k = refl
over_one c (m ∷ L) k = ap₂ ◌-ℤ◌ (over_one c L k) (over_one (lcm c m) L k)

seed_one : (k : ℕ) → coefficient (pos 1 ∷ []) k ≡ one k
seed_one zero = refl
seed_one (suc k) = refl

pub seeded_one : (L : List (List ℕ)) (k : ℕ) → seeded (coefficient (pos 1 ∷ [])) [] L k ≡ numerator_at L k
seeded_one L k = seeded_ext (coefficient (pos 1 ∷ [])) one [] L seed_one k ∙ over_one [] L k ∙ sym (numerator_over L k)

pub shift_neg : (e : ℕ) (f g : ℕ → ℤ) → ((k : ℕ) → f k ≡ neg_ℤ (g k)) → (k : ℕ) → shift e f k ≡ neg_ℤ (shift e g k)
shift_neg zero f g h k = h k
shift_neg (suc e) f g h zero = refl
shift_neg (suc e) f g h (suc k) = shift_neg e f g h k

seeded_neg : (f g : ℕ → ℤ) (c : List ℕ) (L : List (List ℕ)) → ((k : ℕ) → f k ≡ neg_ℤ (g k)) → (k : ℕ) → seeded f c L k ≡ neg_ℤ (seeded g c L k)
seeded_neg f g c [] h k = shift_neg (degree c) f g h k
seeded_neg f g c (m ∷ L) h k =
    ap₂ ◌-ℤ◌ (seeded_neg f g c L h k) (seeded_neg f g (lcm c m) L h k)
    ∙ sym (neg_ℤ-+ℤ (seeded g c L k) (neg_ℤ (seeded g (lcm c m) L k)))

seed_minus : (k : ℕ) → coefficient (negsuc 0 ∷ []) k ≡ neg_ℤ (one k)
seed_minus zero = refl
seed_minus (suc k) = refl

pub seeded_minus : (L : List (List ℕ)) (k : ℕ) → seeded (coefficient (negsuc 0 ∷ [])) [] L k ≡ neg_ℤ (numerator_at L k)
seeded_minus L k =
    seeded_neg (coefficient (negsuc 0 ∷ [])) one [] L seed_minus k ∙ ap neg_ℤ (over_one [] L k ∙ sym (numerator_over L k))

-- the multiples decide: with a list of coefficients as its seed, it is a sum of numerators, shifted

abbrev convolved : List ℤ → (ℕ → ℤ) → ℕ → ℤ
convolved [] g k = pos 0
convolved (x ∷ p) g k = x *ℤ g k +ℤ shift 1 (convolved p g) k

mul_sub : (x y z : ℤ) → x *ℤ (y -ℤ z) ≡ x *ℤ y -ℤ x *ℤ z
mul_sub x y z =
    sym (+ℤ-neg_ℤ_cancel (x *ℤ (y -ℤ z)) (x *ℤ z))
    ∙ ap (λ (w : ℤ). w -ℤ x *ℤ z) (sym (mul_add x (y -ℤ z) z) ∙ ap (λ (w : ℤ). x *ℤ w) (-ℤ-+ℤ_cancel y z))

convolved_ext : (p : List ℤ) (g h : ℕ → ℤ) → ((k : ℕ) → g k ≡ h k) → (k : ℕ) → convolved p g k ≡ convolved p h k
convolved_ext [] g h e k = refl
convolved_ext (x ∷ p) g h e k = ap₂ ◌+ℤ◌ (ap (λ (z : ℤ). x *ℤ z) (e k)) (shift_ext 1 (convolved p g) (convolved p h) (convolved_ext p g h e) k)

convolved_sub : (p : List ℤ) (g h : ℕ → ℤ) (k : ℕ) → convolved p (λ j. g j -ℤ h j) k ≡ convolved p g k -ℤ convolved p h k
convolved_sub [] g h k = refl
convolved_sub (x ∷ p) g h k =
    ap₂ ◌+ℤ◌ (mul_sub x (g k) (h k))
    (shift_ext 1 (convolved p (λ j. g j -ℤ h j)) (λ j. convolved p g j -ℤ convolved p h j) (convolved_sub p g h) k ∙ shift_sub 1 (convolved p g) (convolved p h) k)
    ∙ sub_swap (x *ℤ g k) (x *ℤ h k) (shift 1 (convolved p g) k) (shift 1 (convolved p h) k)

pub shift_add : (s : ℕ) (f g h : ℕ → ℤ) → ((k : ℕ) → f k ≡ g k +ℤ h k) → (k : ℕ) → shift s f k ≡ shift s g k +ℤ shift s h k
shift_add zero f g h e k = e k
shift_add (suc s) f g h e zero = refl
shift_add (suc s) f g h e (suc k) = shift_add s f g h e k

shift_mul : (s : ℕ) (x : ℤ) (g : ℕ → ℤ) (k : ℕ) → x *ℤ shift s g k ≡ shift s (λ j. x *ℤ g j) k
shift_mul zero x g k = refl
shift_mul (suc s) x g zero = *ℤ-zero x
shift_mul (suc s) x g (suc k) = shift_mul s x g k

shift_swap : (a b : ℕ) (f : ℕ → ℤ) (k : ℕ) → shift a (shift b f) k ≡ shift b (shift a f) k
shift_swap a b f k = let e : a + b ≡ b + a = omega arith in shift_shift a b f k ∙ ap (λ (z : ℕ). shift z f k) e ∙ sym (shift_shift b a f k)

convolved_shift : (p : List ℤ) (e : ℕ) (g : ℕ → ℤ) (k : ℕ) → convolved p (shift e g) k ≡ shift e (convolved p g) k
convolved_shift [] e g k = sym (shift_zero e (λ j. pos 0) (λ j. refl) k)
convolved_shift (x ∷ p) e g k =
    ap₂ ◌+ℤ◌ (shift_mul e x g k) (shift_ext 1 (convolved p (shift e g)) (shift e (convolved p g)) (convolved_shift p e g) k ∙ shift_swap 1 e (convolved p g) k)
    ∙ sym (shift_add e (convolved (x ∷ p) g) (λ j. x *ℤ g j) (shift 1 (convolved p g)) (λ j. refl) k)

convolved_one : (p : List ℤ) (k : ℕ) → convolved p one k ≡ coefficient p k
unfolding lib.IntN.one
convolved_one [] k = refl
convolved_one (x ∷ p) zero = +ℤ_idr (x *ℤ pos 1) ∙ *ℤ-one x
convolved_one (x ∷ p) (suc k) = ap₂ ◌+ℤ◌ (*ℤ-zero x) (convolved_one p k) ∙ +ℤ_idl (coefficient p k)

seeded_convolved : (p : List ℤ) (c : List ℕ) (L : List (List ℕ)) (k : ℕ) → seeded (coefficient p) c L k ≡ convolved p (over c L) k
seeded_convolved p c [] k =
    shift_ext (degree c) (coefficient p) (convolved p one) (λ j. sym (convolved_one p j)) k ∙ sym (convolved_shift p (degree c) one k)
seeded_convolved p c (m ∷ L) k =
    ap₂ ◌-ℤ◌ (seeded_convolved p c L k) (seeded_convolved p (lcm c m) L k) ∙ sym (convolved_sub p (over c L) (over (lcm c m) L) k)

pub seeded_same : (n : ℕ) (p : List ℤ) (L K : List (List ℕ)) → Within n L → Within n K → Same n L K → (k : ℕ) → seeded (coefficient p) [] L k ≡ seeded (coefficient p) [] K k
seeded_same n p L K w v s k =
    seeded_convolved p [] L k
    ∙ convolved_ext p (over [] L) (over [] K) (λ j. sym (numerator_over L j) ∙ numerator_same n L K w v s j ∙ numerator_over K j) k
    ∙ sym (seeded_convolved p [] K k)

pub seeded_none : (p : List ℤ) (L : List (List ℕ)) → ((k : ℕ) → numerator_at L k ≡ pos 0) → (k : ℕ) → seeded (coefficient p) [] L k ≡ pos 0
seeded_none p L h k =
    seeded_convolved p [] L k ∙ convolved_ext p (over [] L) (λ j. pos 0) (λ j. sym (numerator_over L j) ∙ h j) k ∙ none p k
  where
    none : (p : List ℤ) (k : ℕ) → convolved p (λ j. pos 0) k ≡ pos 0
    none [] k = refl
    none (x ∷ p) k = ap₂ ◌+ℤ◌ (*ℤ-zero x) (shift_zero 1 (convolved p (λ j. pos 0)) (none p) k) ∙ +ℤ_idl (pos 0)
