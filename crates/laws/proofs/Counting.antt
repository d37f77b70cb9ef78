-- The numerator counts: its n-fold sums are the Hilbert function, and it depends on the multiples alone.
--   counts               the n-fold sums of N(L) at d are HF(d)
--   numerator_same       lists with the same multiples have the same numerator, coefficient by coefficient
--   numerator_same_list  and as trimmed lists
--   numerator_unique     a trimmed list whose n-fold sums are HF is the numerator
--   numerator_counts     the numerator's list is such a list
--   hf_same              lists with the same multiples have the same Hilbert function
use mathlib.Core.Path.{◌≡◌, refl, sym, ap, ap₂, ◌∙◌}
use mathlib.Core.Logic.{inl}
use mathlib.Core.Bool.{Bool, true, false, not, ◌&&◌, ◌||◌}
use mathlib.Core.List.{List, [], ◌∷◌, map}
use Prim.Native.Nat.{ℕ, zero, suc, ◌+◌, ◌≤◌, ◌<◌}
use native.Mathlib.Omega.{arith}
use lib.ListN.{length}
use lib.IntN.{ℤ, pos, ◌-ℤ◌}
use borrow.Author.Tests.{le-leb, lt-leb}
use Rattle.laws.specs.Monomial.{degree, divides, lcm}
use Rattle.laws.specs.Ideal.{Within, multiple, Same}
use Rattle.laws.specs.Count.{bit, count, from_first, monomials, HF}
use Rattle.laws.specs.Coefficients.{coefficient, Trimmed, one, shift}
use Rattle.laws.specs.Sums.{sum, sumsℤ}
use Rattle.laws.specs.Numerator.{numerator_at, numerator}
use Rattle.laws.proofs.Monomial.{and_true, lcm_divides, length_lcm}
use Rattle.laws.proofs.Ideal.{within_tail}
use Rattle.laws.proofs.Integer.{pos_sub}
use Rattle.laws.proofs.Coefficients.{shift_ext, shift_shift, trimmed_unique}
use Rattle.laws.proofs.Sums.{sum_ext, sums_ext, sums_sub, sums_shift, sums_injective, pos_sum}
use Rattle.laws.proofs.Enumeration.{count_append, count_map, count_same, count_none, count_split, count_width}
use Rattle.laws.proofs.Numerator.{over, numerator_over, numerator_coefficient, numerator_trimmed}

-- the multiples of c, row by row

row_in : (x i : ℕ) (c : List ℕ) (us : List (List ℕ)) → x ≤ i → count (divides (x ∷ c)) (map (λ u. i ∷ u) us) ≡ count (divides c) us
row_in x i c us h = count_map (divides (x ∷ c)) (λ u. i ∷ u) us ∙ count_same (λ u. divides (x ∷ c) (i ∷ u)) (divides c) (λ u. rw (le-leb x i h)) us

row_out : (x i : ℕ) (c : List ℕ) (us : List (List ℕ)) → i < x → count (divides (x ∷ c)) (map (λ u. i ∷ u) us) ≡ 0
row_out x i c us h = count_map (divides (x ∷ c)) (λ u. i ∷ u) us ∙ count_none (λ u. divides (x ∷ c) (i ∷ u)) (λ u. rw (lt-leb x i h)) us

module _ (c : List ℕ) (F : ℕ → List (List ℕ)) where
  abbrev in_row : ℕ → ℕ
  in_row d = count (divides c) (F d)

  -- from the exponent x on each row counts
  rows_in : (x i d : ℕ) → x ≤ i → count (divides (x ∷ c)) (from_first F i d) ≡ sum in_row d
  rows_in x i zero h = row_in x i c (F zero) h
  rows_in x i (suc d) h =
      count_append (divides (x ∷ c)) (map (λ u. i ∷ u) (F (suc d))) (from_first F (suc i) d)
      ∙ ap₂ ◌+◌ (row_in x i c (F (suc d)) h) (rows_in x (suc i) d (omega arith))

  rows_from : (y x i d : ℕ) → x ≡ i + y → pos (count (divides (x ∷ c)) (from_first F i d)) ≡ shift y (λ e. pos (sum in_row e)) d
  rows_from zero x i d h = ap pos (rows_in x i d (omega arith))
  rows_from (suc y) x i zero h = ap pos (row_out x i c (F zero) (omega arith))
  rows_from (suc y) x i (suc d) h =
      ap pos (omega (arith, count_append (divides (x ∷ c)) (map (λ u. i ∷ u) (F (suc d))) (from_first F (suc i) d), row_out x i c (F (suc d)) (omega arith)))
      ∙ rows_from y x (suc i) d (omega arith)

rows_all : (F : ℕ → List (List ℕ)) (i d : ℕ) → count (divides []) (from_first F i d) ≡ sum (in_row [] F) d
rows_all F i zero = count_map (divides []) (λ u. i ∷ u) (F zero)
rows_all F i (suc d) =
    count_append (divides []) (map (λ u. i ∷ u) (F (suc d))) (from_first F (suc i) d)
    ∙ ap₂ ◌+◌ (count_map (divides []) (λ u. i ∷ u) (F (suc d))) (rows_all F (suc i) d)

-- how many monomials of degree d c divides
counts_one : (n : ℕ) (c : List ℕ) (d : ℕ) → length c ≤ n → pos (count (divides c) (monomials n d)) ≡ sumsℤ n (shift (degree c) one) d
counts_one zero [] zero h = refl
counts_one zero [] (suc d) h = refl
counts_one zero (x ∷ c) d h = absurd (omega arith)
counts_one (suc n) [] d h =
    ap pos (rows_all (monomials n) 0 d)
    ∙ pos_sum (in_row [] (monomials n)) d
    ∙ sum_ext (λ k. pos (in_row [] (monomials n) k)) (sumsℤ n (shift 0 one)) (λ k. counts_one n [] k (omega arith)) d
counts_one (suc n) (x ∷ c) d h =
    rows_from c (monomials n) x x 0 d (omega arith)
    ∙ shift_ext x (λ e. pos (sum (in_row c (monomials n)) e)) (sumsℤ (suc n) (shift (degree c) one))
    (λ e. pos_sum (in_row c (monomials n)) e ∙ sum_ext (λ k. pos (in_row c (monomials n) k)) (sumsℤ n (shift (degree c) one)) (λ k. counts_one n c k (omega arith)) e) d
    ∙ sym (sums_shift (suc n) x (shift (degree c) one) d)
    ∙ sums_ext (suc n) (shift x (shift (degree c) one)) (shift (x + degree c) one) (shift_shift x (degree c) one) d

-- what is left of the multiples of c when those of L are taken away

abbrev left : List ℕ → List (List ℕ) → List ℕ → Bool
left c L u = divides c u && not (multiple L u)

left_bits : (a b r : Bool) → bit (a && not r) ≡ bit (a && not (b || r)) + bit ((a && b) && not r)
left_bits true true true = refl
left_bits true true false = refl
left_bits true false true = refl
left_bits true false false = refl
left_bits false b r = refl

left_split : (c m : List ℕ) (L us : List (List ℕ)) → count (left c L) us ≡ count (left c (m ∷ L)) us + count (left (lcm c m) L) us
left_split c m L us = count_split (left c L) (left c (m ∷ L)) (left (lcm c m) L) (λ u. rw (lcm_divides c m u) (left_bits (divides c u) (divides m u) (multiple L u))) us

counts_over : (n : ℕ) (c : List ℕ) (L : List (List ℕ)) (d : ℕ) → length c ≤ n → Within n L → sumsℤ n (over c L) d ≡ pos (count (left c L) (monomials n d))
counts_over n c [] d h w =
    sums_ext n (over c []) (shift (degree c) one) (λ k. refl) d
    ∙ sym (counts_one n c d h)
    ∙ ap pos (count_same (divides c) (left c []) (λ u. and_true (divides c u)) (monomials n d))
counts_over n c (m ∷ L) d h w =
    sums_ext n (over c (m ∷ L)) (λ k. over c L k -ℤ over (lcm c m) L k) (λ k. refl) d
    ∙ sums_sub n (over c L) (over (lcm c m) L) d
    ∙ ap₂ ◌-ℤ◌
    (counts_over n c L d h (within_tail n m L w) ∙ ap pos (left_split c m L (monomials n d)))
    (counts_over n (lcm c m) L d (omega (arith, length_lcm c m, w m (inl refl))) (within_tail n m L w))
    ∙ pos_sub (count (left c (m ∷ L)) (monomials n d)) (count (left (lcm c m) L) (monomials n d))

pub counts : (n : ℕ) (L : List (List ℕ)) (d : ℕ) → Within n L → sumsℤ n (numerator_at L) d ≡ pos (HF L n d)
counts n L d w = sums_ext n (numerator_at L) (over [] L) (numerator_over L) d ∙ counts_over n [] L d (omega arith) w

-- the multiples decide

pub hf_same : (n : ℕ) (L K : List (List ℕ)) → Same n L K → (d : ℕ) → HF L n d ≡ HF K n d
hf_same n L K s d = count_width n (λ u. not (multiple L u)) (λ u. not (multiple K u)) (λ u e. ap not (s u e)) d

pub numerator_same : (n : ℕ) (L K : List (List ℕ)) → Within n L → Within n K → Same n L K → (k : ℕ) → numerator_at L k ≡ numerator_at K k
numerator_same n L K w v s k = sums_injective n (numerator_at L) (numerator_at K) (λ d. counts n L d w ∙ ap pos (hf_same n L K s d) ∙ sym (counts n K d v)) k

pub numerator_same_list : (n : ℕ) (L K : List (List ℕ)) → Within n L → Within n K → Same n L K → numerator L ≡ numerator K
numerator_same_list n L K w v s =
    trimmed_unique (numerator L) (numerator K) (numerator_trimmed L) (numerator_trimmed K)
    (λ k. numerator_coefficient L k ∙ numerator_same n L K w v s k ∙ sym (numerator_coefficient K k))

pub numerator_counts : (n : ℕ) (L : List (List ℕ)) (d : ℕ) → Within n L → sumsℤ n (coefficient (numerator L)) d ≡ pos (HF L n d)
numerator_counts n L d w = sums_ext n (coefficient (numerator L)) (numerator_at L) (numerator_coefficient L) d ∙ counts n L d w

pub numerator_unique : (n : ℕ) (L : List (List ℕ)) (r : List ℤ) → Within n L → Trimmed r → ((d : ℕ) → sumsℤ n (coefficient r) d ≡ pos (HF L n d)) → r ≡ numerator L
numerator_unique n L r w t h =
    trimmed_unique r (numerator L) t (numerator_trimmed L)
    (sums_injective n (coefficient r) (coefficient (numerator L)) (λ d. h d ∙ sym (numerator_counts n L d w)))
