-- What the sums modulo 2^64 leave is exact, because it fits a signed word.
--   rows_same        the rows of a list of cells have the multiples of the list read from them
--   numerator-fits   with at most 60 monomials every coefficient of a numerator is within ±2^60
--   seeded_listed    the seed 1, from any rows with the multiples of L, gives the numerator of L
--   settled          the numerator's coefficients, from what the steps of the call leave; settled_length, settled_padded: what a caller reads
--   exact            a list of zeros, to which the numerator of L was added, holds its first coefficients
use mathlib.Core.Path.{◌≡◌, refl, sym, ap, ap₂, ◌∙◌}
use mathlib.Core.Bool.{Bool, true, false, ◌||◌}
use mathlib.Core.List.{List, [], ◌∷◌, ◌++◌}
use Prim.Native.Nat.{ℕ, zero, suc, ◌+◌, ◌*◌, ◌-◌, ◌≤◌, ◌<◌, ◌^◌}
use native.Mathlib.Omega.{arith}
use native.Mathlib.Nat.{pow-le-pow_right, suc-mul, zero-mul}
use lib.ListN.{length, take, drop, replicate}
use lib.Seq.{drop-drop}
use lib.IntN.{ℤ, pos, negsuc, nat_abs, ◌+ℤ◌, +ℤ_idl}
use mir.Val.{SFits}
use mir.Syntax.{w64}
use Rattle.laws.specs.Monomial.{divides}
use Rattle.laws.specs.Ideal.{listed, Within, multiple}
use Rattle.laws.specs.Coefficients.{coefficient, shift, first, trim}
use Rattle.laws.specs.Numerator.{numerator_at, numerator}
use Rattle.laws.specs.Room.{coefficients_asked}
use Rattle.laws.proofs.Ideal.{listed_count}
use Rattle.laws.proofs.Numerator.{numerator_bound}
use Rattle.laws.proofs.Rows.{at, rows, rows_within}
use Rattle.laws.proofs.Pass.{Thinned}
use Rattle.laws.proofs.Added.{low, low_exact, AddedTo, Zeros, Words}
use Rattle.laws.proofs.Seed.{seeded, seeded_one, seeded_same}
use Rattle.laws.proofs.Trim.{first_is, trim_pads}

or_swap : (a b c : Bool) → (a || (b || c)) ≡ (b || (a || c))
or_swap true true c = refl
or_swap true false c = refl
or_swap false b c = refl

rows_front : (n k : ℕ) (xs u : List ℕ) → multiple (rows n (suc k) xs) u ≡ (divides (take n xs) u || multiple (rows n k (drop n xs)) u)
rows_front n zero xs u = ap (λ (z : ℕ). divides (take n (drop z xs)) u || false) (zero-mul n)
rows_front n (suc k) xs u =
    let e : suc k * n ≡ n + k * n = omega (arith, suc-mul k n) in
    ap₂ ◌||◌ (ap (λ (z : List ℕ). divides (take n z) u) (ap (λ (z : ℕ). drop z xs) e ∙ sym (drop-drop (k * n) n xs))) (rows_front n k xs u)
    ∙ or_swap (divides (at n k (drop n xs)) u) (divides (take n xs) u) (multiple (rows n k (drop n xs)) u)

pub rows_same : (n k : ℕ) (xs u : List ℕ) → multiple (rows n k xs) u ≡ multiple (listed n k xs) u
rows_same n zero xs u = refl
rows_same n (suc k) xs u = rows_front n k xs u ∙ ap (λ (b : Bool). divides (take n xs) u || b) (rows_same n k (drop n xs) u)

-- a magnitude of at most 2^62 fits a signed word
pub small_fits : (z : ℤ) → nat_abs z ≤ 2 ^ 62 → SFits w64 z
small_fits (pos n) h = record { sfits = omega arith }
small_fits (negsuc n) h = record { sfits = omega arith }

pub numerator_small : (L : List (List ℕ)) (k : ℕ) → length L ≤ 60 → nat_abs (numerator_at L k) ≤ 2 ^ 60
numerator_small L k h =
    let p : 2 ^ length L ≤ 2 ^ 60 = pow-le-pow_right (omega arith) h in
    omega (arith, numerator_bound L k)

pub seeded_listed : (n m : ℕ) (xs : List ℕ) (L : List (List ℕ)) → Within n L → ((u : List ℕ) → multiple (rows n m xs) u ≡ multiple L u) → (k : ℕ) → seeded (coefficient (pos 1 ∷ [])) [] (rows n m xs) k ≡ numerator_at L k
seeded_listed n m xs L w e k =
    seeded_same n (pos 1 ∷ []) (rows n m xs) L (rows_within n m xs) w (λ u h. e u) k ∙ seeded_one L k

pub zeros_words : (z : List ℤ) → Zeros z → Words z
unfolding Zeros
zeros_words z o j = rw (o j) (record { sfits = omega arith })

pub exact : (L : List (List ℕ)) (f : ℕ → ℤ) (z out : List ℤ) → length L ≤ 60 → ((k : ℕ) → f k ≡ numerator_at L k) → Zeros z → AddedTo (shift 0 f) z out → out ≡ first (length z) (numerator_at L)
unfolding Zeros
exact L f z out h e o a = first_is (length z) (numerator_at L) out a.len one
  where
    one : (k : ℕ) → k < length z → coefficient out k ≡ numerator_at L k
    one k l =
        low_exact (coefficient out k) (numerator_at L k) (a.words (zeros_words z o) k) (small_fits (numerator_at L k) (omega (arith, numerator_small L k h)))
        (a.sums k l ∙ ap low (ap₂ ◌+ℤ◌ (o k) (e k) ∙ +ℤ_idl (numerator_at L k)))

-- the whole call: a list with this numerator in the room, thinned, its numerator added to zeros of the asked size
pub settled : (n s w m : ℕ) (cells copied thinned : List ℕ) (z out : List ℤ) → s ≤ 60 → ((k : ℕ) → numerator_at (rows w s copied) k ≡ numerator_at (listed n s cells) k) → Thinned w s copied m thinned
    → Zeros z → length z ≡ coefficients_asked (listed n s cells)
    → AddedTo (shift 0 (seeded (coefficient (pos 1 ∷ [])) [] (rows w m thinned))) z out → out ≡ first (coefficients_asked (listed n s cells)) (numerator_at (listed n s cells))
settled n s w m cells copied thinned z out h r t o e a =
    exact (listed n s cells) (seeded (coefficient (pos 1 ∷ [])) [] (rows w m thinned)) z out (omega (arith, listed_count n s cells))
    (λ k. seeded_listed w m thinned (rows w s copied) (rows_within w s copied) t.same k ∙ r k) o a
    ∙ ap (λ (k : ℕ). first k (numerator_at (listed n s cells))) e

-- what lies there then: the numerator with zeros behind it, and its length
pub settled_length : (L : List (List ℕ)) (out : List ℤ) (r : ℕ) → out ≡ first (coefficients_asked L) (numerator_at L) → r ≡ length (trim out) → r ≡ length (numerator L)
settled_length L out r e h = h ∙ ap (λ (p : List ℤ). length (trim p)) e

pub settled_padded : (L : List (List ℕ)) (out : List ℤ) (k : ℕ) → out ≡ first (coefficients_asked L) (numerator_at L) → length out ≡ k → out ≡ numerator L ++ replicate (k - length (numerator L)) (pos 0)
settled_padded L out k e h =
    trim_pads out ∙ ap₂ (λ (p : List ℤ) (j : ℕ). p ++ replicate (j - length p) (pos 0)) (ap trim e) h
