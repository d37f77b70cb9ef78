-- Divisibility masks: 128 bits a monomial, in two words, the low one first.
--   bits_each n        == b: bits a variable
--   masked n          == how many variables have bits: the first min(n·b, 128)/b
--   threshold b M k   == (k + 1)·M/b rounded down, with M at least 1
--   mask_bit n M m i   == bit i of the mask of m, for width n and greatest exponent M: with i = v·b + k, variable v's exponent is above
--                        threshold k
--   word_of f k        == the number whose bits are f 0 .. f (k − 1), the lowest first
--   mask n M m        == the two words
--   within k p q      == each of the low k bits that is set in p is set in q
--   consistent p q    == each bit that is set in the mask p is set in the mask q
-- Assumes nothing.
use Rattle.std.specs.Prelude.{◌≡◌, refl, Bool, true, false, ◌&&◌, List, [], ◌∷◌, ℕ, zero, suc, ◌+◌, ◌*◌, ◌/◌, ◌%◌, ◌^◌, max, min, leb, ltb, get_or}
use Rattle.laws.specs.Monomial.{exponent, power}
use Rattle.laws.specs.Count.{bit}

-- for n = 0 it is 1, since 128 / 0 is 0, and no variable is used
abbrev pub bits_each : ℕ → ℕ
bits_each n = max (128 / n) 1

abbrev pub masked : ℕ → ℕ
masked n = min (n * bits_each n) 128 / bits_each n

abbrev pub threshold : ℕ → ℕ → ℕ → ℕ
threshold b M k = (k + 1) * max M 1 / b

abbrev pub mask_bit : ℕ → ℕ → List ℕ → ℕ → Bool
mask_bit n M m i = ltb (i / bits_each n) (masked n) && ltb (threshold (bits_each n) M (i % bits_each n)) (exponent m (i / bits_each n))

abbrev pub word_of : (ℕ → Bool) → ℕ → ℕ
word_of f zero = 0
word_of f (suc k) = bit (f k) * 2 ^ k + word_of f k

abbrev pub mask : ℕ → ℕ → List ℕ → List ℕ
mask n M m = word_of (mask_bit n M m) 64 ∷ word_of (λ i. mask_bit n M m (64 + i)) 64 ∷ []

abbrev pub within : ℕ → ℕ → ℕ → Bool
within zero p q = true
within (suc k) p q = leb (p % 2) (q % 2) && within k (p / 2) (q / 2)

abbrev pub consistent : List ℕ → List ℕ → Bool
consistent p q = within 64 (get_or p 0 0) (get_or q 0 0) && within 64 (get_or p 1 0) (get_or q 1 0)

test_thresholds : threshold (bits_each 64) 4 0 ∷ threshold (bits_each 64) 4 1 ∷ [] ≡ 2 ∷ 4 ∷ []
test_thresholds = refl

-- width 64, greatest exponent 4: exponent 3 in variable 32 sets bit 64 only
test_high_word : mask 64 4 (power 64 32 3) ≡ 0 ∷ 1 ∷ []
test_high_word = refl

test_no_variables : mask 0 9 (7 ∷ []) ≡ 0 ∷ 0 ∷ []
test_no_variables = refl

-- variables past the 128th have no bits
test_past : mask 255 1 (power 255 128 9) ≡ 0 ∷ 0 ∷ []
test_past = refl

test_last : mask 255 1 (power 255 127 9) ≡ 0 ∷ 2 ^ 63 ∷ []
test_last = refl

test_consistent : consistent (5 ∷ 2 ^ 63 ∷ []) (7 ∷ (2 ^ 63 + 1) ∷ []) ≡ true
test_consistent = refl

test_inconsistent : consistent (5 ∷ 2 ^ 63 ∷ []) (7 ∷ 1 ∷ []) ≡ false
test_inconsistent = refl
