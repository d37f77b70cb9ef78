-- The Hilbert function's value by binomials.
--   hilbert_sums       Σ p_k · C(d − k + n − 1, n − 1) is the n-fold sum of p at d, for any p and any n
--   hilbert_size_sums  the same for the magnitudes, n ≥ 1
--   hilbert_size_lem       the value's magnitude is at most the sum of the magnitudes, n ≥ 1
--   hilbert_numerator  of a numerator: HF(d)
use mathlib.Core.Path.{◌≡◌, refl, sym, ap, ap₂, ◌∙◌}
use mathlib.Core.List.{List}
use Prim.Native.Nat.{ℕ, zero, suc, ◌+◌, ◌*◌, ◌-◌, ◌≤◌, ◌<◌}
use native.Mathlib.Omega.{arith}
use native.Mathlib.Nat.{suc-add, zero-add, sub_self}
use lib.IntN.{ℤ, pos, nat_abs, ◌+ℤ◌, ◌*ℤ◌, *ℤ_comm, *ℤ-zero, suc_ℤ-*ℤ, zero-*ℤ, +ℤ_idl, +ℤ_idr, +ℤ_assoc, pos-+ℤ-pos, pos-*ℤ-pos}
use Rattle.laws.specs.Ideal.{Within}
use Rattle.laws.specs.Count.{HF}
use Rattle.laws.specs.Coefficients.{coefficient}
use Rattle.laws.specs.Sums.{sum, sums, sumℤ, sumsℤ}
use Rattle.laws.specs.Numerator.{numerator}
use Rattle.laws.specs.Word.{plus, minus}
use Rattle.laws.specs.Hilbert.{binomial, hilbert, hilbert_size}
use Rattle.laws.proofs.Integer.{mul_add, add_swap, pos_injective, abs_sub}
use Rattle.laws.proofs.Sums.{sum_ext, pos_sum, pos_sums, sums_parts, sums_size}
use Rattle.laws.proofs.Counting.{numerator_counts}

-- the polynomial f times the series with the coefficients g
abbrev times : (ℕ → ℤ) → (ℕ → ℕ) → ℕ → ℤ
times f g zero = f zero *ℤ pos (g zero)
times f g (suc d) = f (suc d) *ℤ pos (g zero) +ℤ times f (λ e. g (suc e)) d

-- terms that agree up to d
sum_to : (f g : ℕ → ℤ) (d : ℕ) → ((k : ℕ) → k ≤ d → f k ≡ g k) → sumℤ f d ≡ sumℤ g d
sum_to f g zero h = h zero (omega arith)
sum_to f g (suc d) h = ap₂ ◌+ℤ◌ (h (suc d) (omega arith)) (sum_to f g d (λ k l. h k (omega arith)))

times_sum : (f : ℕ → ℤ) (g : ℕ → ℕ) (d : ℕ) → times f g d ≡ sumℤ (λ k. f k *ℤ pos (g (d - k))) d
times_sum f g zero = refl
times_sum f g (suc d) =
    ap₂ ◌+ℤ◌ (ap (λ (e : ℕ). f (suc d) *ℤ pos (g e)) (sym (sub_self (suc d))))
    (times_sum f (λ e. g (suc e)) d
    ∙ sum_to (λ k. f k *ℤ pos (g (suc (d - k)))) (λ k. f k *ℤ pos (g (suc d - k))) d
    (λ k l. let e : suc (d - k) ≡ suc d - k = omega arith in ap (λ (j : ℕ). f k *ℤ pos (g j)) e))

times_ext : (f : ℕ → ℤ) (g h : ℕ → ℕ) → ((e : ℕ) → g e ≡ h e) → (d : ℕ) → times f g d ≡ times f h d
times_ext f g h q zero = ap (λ (z : ℕ). f zero *ℤ pos z) (q zero)
times_ext f g h q (suc d) = ap₂ ◌+ℤ◌ (ap (λ (z : ℕ). f (suc d) *ℤ pos z) (q zero)) (times_ext f (λ e. g (suc e)) (λ e. h (suc e)) (λ e. q (suc e)) d)

mul_pos_add : (z : ℤ) (a b : ℕ) → z *ℤ pos (a + b) ≡ z *ℤ pos a +ℤ z *ℤ pos b
mul_pos_add z a b = ap (λ (y : ℤ). z *ℤ y) (sym (pos-+ℤ-pos a b)) ∙ mul_add z (pos a) (pos b)

times_add : (f : ℕ → ℤ) (g h : ℕ → ℕ) (d : ℕ) → times f (λ e. g e + h e) d ≡ times f g d +ℤ times f h d
times_add f g h zero = mul_pos_add (f zero) (g zero) (h zero)
times_add f g h (suc d) =
    ap₂ ◌+ℤ◌ (mul_pos_add (f (suc d)) (g zero) (h zero)) (times_add f (λ e. g (suc e)) (λ e. h (suc e)) d)
    ∙ add_swap (f (suc d) *ℤ pos (g zero)) (f (suc d) *ℤ pos (h zero)) (times f (λ e. g (suc e)) d) (times f (λ e. h (suc e)) d)

sum_times : (f : ℕ → ℤ) (g : ℕ → ℕ) (d : ℕ) → sumℤ (times f g) d ≡ times f (sum g) d
sum_times f g zero = refl
sum_times f g (suc d) =
    ap (λ (z : ℤ). (f (suc d) *ℤ pos (g zero) +ℤ times f (λ e. g (suc e)) d) +ℤ z) (sum_times f g d)
    ∙ +ℤ_assoc (f (suc d) *ℤ pos (g zero)) (times f (λ e. g (suc e)) d) (times f (sum g) d)
    ∙ ap (λ (z : ℤ). f (suc d) *ℤ pos (g zero) +ℤ z) (sym (times_add f (λ e. g (suc e)) (sum g) d))

-- 1 and 0 as series
abbrev unit : ℕ → ℕ
unit zero = 1
unit (suc e) = 0

times_none : (f : ℕ → ℤ) (d : ℕ) → times f (λ e. 0) d ≡ pos 0
times_none f zero = *ℤ-zero (f zero)
times_none f (suc d) = ap₂ ◌+ℤ◌ (*ℤ-zero (f (suc d))) (times_none f d)

mul_one : (z : ℤ) → z *ℤ pos 1 ≡ z
mul_one z = *ℤ_comm z (pos 1) ∙ suc_ℤ-*ℤ (pos 0) z ∙ ap (λ (y : ℤ). y +ℤ z) (zero-*ℤ z) ∙ +ℤ_idl z

times_unit : (f : ℕ → ℤ) (d : ℕ) → times f unit d ≡ f d
times_unit f zero = mul_one (f zero)
times_unit f (suc d) = ap₂ ◌+ℤ◌ (mul_one (f (suc d))) (times_none f d) ∙ +ℤ_idr (f (suc d))

sums_times : (n : ℕ) (f : ℕ → ℤ) (d : ℕ) → sumsℤ n f d ≡ times f (sums n unit) d
sums_times zero f d = sym (times_unit f d)
sums_times (suc n) f d = sum_ext (sumsℤ n f) (times f (sums n unit)) (sums_times n f) d ∙ sum_times f (sums n unit) d

-- the sums of 1 are binomials

binomial_above : (m r : ℕ) → m < r → binomial m r ≡ 0
binomial_above m zero h = absurd (omega arith)
binomial_above zero (suc r) h = refl
binomial_above (suc m) (suc r) h = omega (arith, binomial_above m r (omega arith), binomial_above m (suc r) (omega arith))

binomial_self : (r : ℕ) → binomial r r ≡ 1
binomial_self zero = refl
binomial_self (suc r) = omega (arith, binomial_self r, binomial_above r (suc r) (omega arith))

sum_unit : (d : ℕ) → sum unit d ≡ 1
sum_unit zero = refl
sum_unit (suc d) = omega (arith, sum_unit d)

sums_unit : (r e : ℕ) → sums (suc r) unit e ≡ binomial (e + r) r
sums_unit zero e = sum_unit e
sums_unit (suc r) zero = sums_unit r zero ∙ rw (zero-add, zero-add) (binomial_self r ∙ sym (binomial_self (suc r)))
sums_unit (suc r) (suc e) =
    rw (suc-add e (suc r))
    (ap₂ ◌+◌ (sums_unit r (suc e) ∙ ap (λ (m : ℕ). binomial m r) (omega arith)) (sums_unit (suc r) e))

pub hilbert_sums : (p : List ℤ) (n d : ℕ) → hilbert p n d ≡ sumsℤ n (coefficient p) d
hilbert_sums p zero d = refl
hilbert_sums p (suc r) d =
    sym
    (sums_times (suc r) (coefficient p) d
    ∙ times_ext (coefficient p) (sums (suc r) unit) (λ e. binomial (e + r) r) (sums_unit r) d
    ∙ times_sum (coefficient p) (λ e. binomial (e + r) r) d)

pub hilbert_size_sums : (p : List ℤ) (r d : ℕ) → hilbert_size p (suc r) d ≡ sums (suc r) (λ k. nat_abs (coefficient p k)) d
hilbert_size_sums p r d =
    pos_injective (hilbert_size p (suc r) d) (sums (suc r) size d)
    (pos_sum (λ k. size k * binomial (d - k + r) r) d
    ∙ sum_ext (λ k. pos (size k * binomial (d - k + r) r)) (λ k. pos (size k) *ℤ pos (binomial (d - k + r) r)) (λ k. sym (pos-*ℤ-pos (size k) (binomial (d - k + r) r))) d
    ∙ sym (times_sum (λ k. pos (size k)) (λ e. binomial (e + r) r) d)
    ∙ sym (times_ext (λ k. pos (size k)) (sums (suc r) unit) (λ e. binomial (e + r) r) (sums_unit r) d)
    ∙ sym (sums_times (suc r) (λ k. pos (size k)) d)
    ∙ sym (pos_sums (suc r) size d))
  where
    size : ℕ → ℕ
    size k = nat_abs (coefficient p k)

pub hilbert_size_lem : (p : List ℤ) (r d : ℕ) → nat_abs (hilbert p (suc r) d) ≤ hilbert_size p (suc r) d
hilbert_size_lem p r d =
    rw (hilbert_sums p (suc r) d, sums_parts (suc r) (coefficient p) d, hilbert_size_sums p r d, sums_size (suc r) (coefficient p) d)
    (abs_sub (pos (sums (suc r) (λ k. plus (coefficient p k)) d)) (pos (sums (suc r) (λ k. minus (coefficient p k)) d)))

pub hilbert_numerator : (n : ℕ) (L : List (List ℕ)) (d : ℕ) → Within n L → hilbert (numerator L) n d ≡ pos (HF L n d)
hilbert_numerator n L d w = hilbert_sums (numerator L) n d ∙ numerator_counts n L d w
