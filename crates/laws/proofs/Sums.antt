-- Laws of prefix sums.
--   sum_ext, sums_ext        by values
--   sum_sub, sums_sub        of a difference
--   sum_shift, sums_shift    of t^e times a polynomial
--   sum_injective, sums_injective  equal sums at every degree have equal terms
--   pos_sum, pos_sums        over naturals, seen over integers
--   sum_below_lem                the prefix sum at d is the sum of the first d + 1 terms
--   sum_add, sums_add        of a sum, over naturals
--   sums_parts               of integers: those of the positive parts less those of the negative ones
--   sums_size                of magnitudes: those of the positive parts and those of the negative ones
--   capped_add               a sum held down to a limit depends on its terms held down alone
--   capped_reaches           a number held down reaches the limit exactly where the number does
--   product_below_ext         a product by values
--   sum_term                 a term is at most the sum
--   residue_sum, residue_sums  sums of residues have the residues of the sums
use mathlib.Core.Path.{◌≡◌, refl, sym, ap, ap₂, ◌∙◌}
use mathlib.Core.Bool.{Bool, true, false}
use Prim.Native.Nat.{ℕ, zero, suc, ◌+◌, ◌*◌, ◌%◌, ◌≤◌, ◌<◌, min}
use native.Mathlib.Nat.{mod-eq_of_lt, add-mod}
use native.Mathlib.Omega.{arith}
use lib.Dec.{leb, eqb}
use borrow.Author.Tests.{leb-true, leb-false, le-leb, lt-leb, eqb-true, eqb-false}
use lib.IntN.{ℤ, pos, negsuc, nat_abs, ◌+ℤ◌, ◌-ℤ◌, +ℤ_idl, +ℤ_idr, pos-+ℤ-pos}
use Rattle.laws.specs.Coefficients.{shift}
use Rattle.laws.specs.Sums.{sum_below, product_below, sum, sums, sumℤ, sumsℤ}
use Rattle.laws.specs.Word.{plus, minus, residue}
use Rattle.laws.proofs.Integer.{sub_swap, cancel_add}
use Rattle.laws.proofs.Coefficients.{shift_ext}
use Rattle.laws.proofs.Word.{residue_add, residue_lt}

pub sum_ext : (f g : ℕ → ℤ) → ((k : ℕ) → f k ≡ g k) → (d : ℕ) → sumℤ f d ≡ sumℤ g d
sum_ext f g h zero = h zero
sum_ext f g h (suc d) = ap₂ ◌+ℤ◌ (h (suc d)) (sum_ext f g h d)

pub sums_ext : (n : ℕ) (f g : ℕ → ℤ) → ((k : ℕ) → f k ≡ g k) → (d : ℕ) → sumsℤ n f d ≡ sumsℤ n g d
sums_ext zero f g h d = h d
sums_ext (suc n) f g h d = sum_ext (sumsℤ n f) (sumsℤ n g) (sums_ext n f g h) d

pub sum_sub : (f g : ℕ → ℤ) (d : ℕ) → sumℤ (λ k. f k -ℤ g k) d ≡ sumℤ f d -ℤ sumℤ g d
sum_sub f g zero = refl
sum_sub f g (suc d) = ap (λ (z : ℤ). (f (suc d) -ℤ g (suc d)) +ℤ z) (sum_sub f g d) ∙ sub_swap (f (suc d)) (g (suc d)) (sumℤ f d) (sumℤ g d)

pub sums_sub : (n : ℕ) (f g : ℕ → ℤ) (d : ℕ) → sumsℤ n (λ k. f k -ℤ g k) d ≡ sumsℤ n f d -ℤ sumsℤ n g d
sums_sub zero f g d = refl
sums_sub (suc n) f g d = sum_ext (sumsℤ n (λ k. f k -ℤ g k)) (λ k. sumsℤ n f k -ℤ sumsℤ n g k) (sums_sub n f g) d ∙ sum_sub (sumsℤ n f) (sumsℤ n g) d

-- shifts pass sums

sum_up : (e : ℕ) (f : ℕ → ℤ) (d : ℕ) → sumℤ (shift (suc e) f) (suc d) ≡ sumℤ (shift e f) d
sum_up e f zero = +ℤ_idr (shift e f zero)
sum_up e f (suc d) = ap (λ (z : ℤ). shift e f (suc d) +ℤ z) (sum_up e f d)

pub sum_shift : (e : ℕ) (f : ℕ → ℤ) (d : ℕ) → sumℤ (shift e f) d ≡ shift e (sumℤ f) d
sum_shift zero f d = sum_ext (shift zero f) f (λ k. refl) d
sum_shift (suc e) f zero = refl
sum_shift (suc e) f (suc d) = sum_up e f d ∙ sum_shift e f d

pub sums_shift : (n e : ℕ) (f : ℕ → ℤ) (d : ℕ) → sumsℤ n (shift e f) d ≡ shift e (sumsℤ n f) d
sums_shift zero e f d = shift_ext e f (sumsℤ zero f) (λ k. refl) d
sums_shift (suc n) e f d = sum_ext (sumsℤ n (shift e f)) (shift e (sumsℤ n f)) (sums_shift n e f) d ∙ sum_shift e (sumsℤ n f) d

-- sums determine their terms

pub sum_injective : (f g : ℕ → ℤ) → ((d : ℕ) → sumℤ f d ≡ sumℤ g d) → (k : ℕ) → f k ≡ g k
sum_injective f g h zero = h zero
sum_injective f g h (suc k) = cancel_add (f (suc k)) (g (suc k)) (sumℤ f k) (sumℤ g k) (h (suc k)) (h k)

pub sums_injective : (n : ℕ) (f g : ℕ → ℤ) → ((d : ℕ) → sumsℤ n f d ≡ sumsℤ n g d) → (k : ℕ) → f k ≡ g k
sums_injective zero f g h k = h k
sums_injective (suc n) f g h k = sums_injective n f g (sum_injective (sumsℤ n f) (sumsℤ n g) h) k

-- over naturals

pub pos_sum : (f : ℕ → ℕ) (d : ℕ) → pos (sum f d) ≡ sumℤ (λ k. pos (f k)) d
pos_sum f zero = refl
pos_sum f (suc d) = sym (pos-+ℤ-pos (f (suc d)) (sum f d)) ∙ ap (λ (z : ℤ). pos (f (suc d)) +ℤ z) (pos_sum f d)

pub pos_sums : (n : ℕ) (f : ℕ → ℕ) (d : ℕ) → pos (sums n f d) ≡ sumsℤ n (λ k. pos (f k)) d
pos_sums zero f d = refl
pos_sums (suc n) f d = pos_sum (sums n f) d ∙ sum_ext (λ k. pos (sums n f k)) (sumsℤ n (λ k. pos (f k))) (pos_sums n f) d

pub sum_below_lem : (f : ℕ → ℕ) (d : ℕ) → sum f d ≡ sum_below (suc d) f
sum_below_lem f zero = omega arith
sum_below_lem f (suc d) = ap (λ (z : ℕ). f (suc d) + z) (sum_below_lem f d)

pub sum_add : (f g : ℕ → ℕ) (d : ℕ) → sum (λ k. f k + g k) d ≡ sum f d + sum g d
sum_add f g zero = refl
sum_add f g (suc d) = omega (arith, sum_add f g d)

sum_same : (f g : ℕ → ℕ) → ((k : ℕ) → f k ≡ g k) → (d : ℕ) → sum f d ≡ sum g d
sum_same f g h zero = h zero
sum_same f g h (suc d) = ap₂ ◌+◌ (h (suc d)) (sum_same f g h d)

sums_same : (n : ℕ) (f g : ℕ → ℕ) → ((k : ℕ) → f k ≡ g k) → (d : ℕ) → sums n f d ≡ sums n g d
sums_same zero f g h d = h d
sums_same (suc n) f g h d = sum_same (sums n f) (sums n g) (sums_same n f g h) d

pub sums_add : (n : ℕ) (f g : ℕ → ℕ) (d : ℕ) → sums n (λ k. f k + g k) d ≡ sums n f d + sums n g d
sums_add zero f g d = refl
sums_add (suc n) f g d = sum_same (sums n (λ k. f k + g k)) (λ k. sums n f k + sums n g k) (sums_add n f g) d ∙ sum_add (sums n f) (sums n g) d

-- an integer by its parts

parts : (z : ℤ) → z ≡ pos (plus z) -ℤ pos (minus z)
parts (pos n) = sym (+ℤ_idr (pos n))
parts (negsuc n) = sym (+ℤ_idl (negsuc n))

parts_size : (z : ℤ) → nat_abs z ≡ plus z + minus z
parts_size (pos n) = omega arith
parts_size (negsuc n) = omega arith

pub sums_parts : (n : ℕ) (f : ℕ → ℤ) (d : ℕ) → sumsℤ n f d ≡ pos (sums n (λ k. plus (f k)) d) -ℤ pos (sums n (λ k. minus (f k)) d)
sums_parts n f d =
    sums_ext n f (λ k. pos (plus (f k)) -ℤ pos (minus (f k))) (λ k. parts (f k)) d
    ∙ sums_sub n (λ k. pos (plus (f k))) (λ k. pos (minus (f k))) d
    ∙ sym (ap₂ ◌-ℤ◌ (pos_sums n (λ k. plus (f k)) d) (pos_sums n (λ k. minus (f k)) d))

pub sums_size : (n : ℕ) (f : ℕ → ℤ) (d : ℕ) → sums n (λ k. nat_abs (f k)) d ≡ sums n (λ k. plus (f k)) d + sums n (λ k. minus (f k)) d
sums_size n f d =
    sums_same n (λ k. nat_abs (f k)) (λ k. plus (f k) + minus (f k)) (λ k. parts_size (f k)) d ∙ sums_add n (λ k. plus (f k)) (λ k. minus (f k)) d

-- held down to a limit

module _ (C : ℕ) where
  pub capped_add : (a a' b b' : ℕ) → min a C ≡ min a' C → min b C ≡ min b' C → min (a + b) C ≡ min (a' + b') C
  capped_add a a' b b' h k = omega arith

  pub capped_reaches : (a : ℕ) → leb C (min a C) ≡ leb C a
  capped_reaches a = go (leb C a) refl
    where
      go : (t : Bool) → leb C a ≡ t → leb C (min a C) ≡ t
      go true e = le-leb C (min a C) (omega (arith, leb-true C a e))
      go false e = lt-leb C (min a C) (omega (arith, leb-false C a e))

-- products and terms

pub product_below_ext : (n : ℕ) (f g : ℕ → ℕ) → ((v : ℕ) → v < n → f v ≡ g v) → product_below n f ≡ product_below n g
product_below_ext zero f g h = refl
product_below_ext (suc n) f g h = ap₂ ◌*◌ (h n (omega arith)) (product_below_ext n f g (λ v l. h v (omega arith)))

-- a term of a sum
pub sum_term : (f : ℕ → ℕ) (d k : ℕ) → k ≤ d → f k ≤ sum f d
sum_term f zero k h = let e : k ≡ 0 = omega arith in rw e (omega arith)
sum_term f (suc d) k h = go (eqb k (suc d)) refl (sum_term f d k)
  where
    go : (t : Bool) → eqb k (suc d) ≡ t → (k ≤ d → f k ≤ sum f d) → f k ≤ sum f (suc d)
    go true e r = rw (eqb-true k (suc d) e) (omega arith)
    go false e r = omega (arith, r (omega (arith, eqb-false k (suc d) e)))

-- sums modulo P

module _ (P : ℕ) where
  module _ (above : 0 < P) where
    residue_mod : (z : ℤ) → residue P z % P ≡ residue P z
    residue_mod z = mod-eq_of_lt (residue_lt P above z)

    -- the sum of residues has the residue of the sum
    pub residue_sum : (m : ℕ) (f : ℕ → ℤ) (x : ℕ → ℕ) → ((k : ℕ) → k < m → x k % P ≡ residue P (f k)) → (k : ℕ) → k < m → sum x k % P ≡ residue P (sumℤ f k)
    residue_sum m f x h zero l = h zero l
    residue_sum m f x h (suc k) l =
        add-mod (x (suc k)) (sum x k) P
        ∙ ap₂ (λ (a b : ℕ). (a + b) % P) (h (suc k) l) (residue_sum m f x h k (omega arith))
        ∙ sym (residue_add P above (f (suc k)) (sumℤ f k))

    -- and n-fold sums
    pub residue_sums : (n m : ℕ) (f : ℕ → ℤ) (x : ℕ → ℕ) → ((k : ℕ) → k < m → x k ≡ residue P (f k)) → (k : ℕ) → k < m → sums n x k % P ≡ residue P (sumsℤ n f k)
    residue_sums zero m f x h k l = ap (λ (a : ℕ). a % P) (h k l) ∙ residue_mod (f k)
    residue_sums (suc n) m f x h k l = residue_sum m (sumsℤ n f) (sums n x) (residue_sums n m f x h) k l
