-- Divisibility masks: if a divides b, the mask of a is consistent with that of b.
-- In this file:
--   the bits of a divisor's mask (mask_bit_mono)
--   words by their bits (word_of_lt, word_of_ext, word_of_shift, word_within), and bit by bit as a loop makes them (shifted_one, word_of_fits,
--   word_of_set, word_of_clear)
--   masks of a divisor (mask_consistent), and what they rule out (mask_rules_out)
--   sizes: bits a variable (each_narrow, each_wide, each_positive, each_le); thresholds fit where exponents do (threshold_lt), and the mask's
--   128 bits suffice (masked_le, masked_bits), so that of these the width alone decides which are used (masked_width, mask_bit_outside,
--   mask_bit_inside)
--   the test on words as the machine has it: p & q == p (within_and, and_within), p & !q == 0 (within_and_not, and_not_within, within_test, within_both)
-- Assumes nothing.
use mathlib.Core.Path.{◌≡◌, refl, sym, ap, ap₂, ◌∙◌}
use mathlib.Core.Bool.{Bool, true, false, ◌&&◌, true≢false}
use mathlib.Core.List.{List}
use Prim.Native.Nat.{ℕ, zero, suc, ◌+◌, ◌*◌, ◌-◌, ◌/◌, ◌%◌, ◌^◌, ◌≤◌, ◌<◌, max, min}
use native.Mathlib.Nat.{one-mul, mod-eq_of_lt, pow-suc, div-eq_of_lt, div-le_self, div-le_of_le-mul, div-mul-le_self, mul-div-le, le-div_iff_mul-le, div-one, mul-le-mul_right, min-le_left, min-le_right}
use native.Mathlib.Numerals.{add-one}
use native.Mathlib.Omega.{arith}
use lib.Bits.{bit_and, and_step, and_zero_l}
use lib.Dec.{leb, ltb, eqb}
use lib.Pow.{pow_mono, pow-lt}
use borrow.Author.Tests.{leb-true, leb-false, ltb-true, lt-ltb, le-ltb, le-leb, eqb-true, eq-eqb}
use Rattle.laws.specs.Count.{bit}
use Rattle.laws.specs.Monomial.{exponent, divides}
use Rattle.laws.proofs.Monomial.{and_left, and_right, bool_ext, divides_exponent}
use Rattle.laws.specs.Mask.{bits_each, masked, threshold, mask_bit, word_of, mask, within, consistent}

-- each bit of a divisor's mask is a bit of the mask
pub mask_bit_mono : (a b : List ℕ) → divides a b ≡ true → (n M i : ℕ) → mask_bit n M a i ≡ true → mask_bit n M b i ≡ true
mask_bit_mono a b h n M i e =
    let v : ℕ = i / bits_each n in
    let t : ℕ = threshold (bits_each n) M (i % bits_each n) in
    let inside : ltb v (masked n) ≡ true = and_left (ltb v (masked n)) (ltb t (exponent a v)) e in
    let above : ltb t (exponent a v) ≡ true = and_right (ltb v (masked n)) (ltb t (exponent a v)) e in
    rw (inside, lt-ltb t (exponent b v) (omega (arith, ltb-true t (exponent a v) above, divides_exponent a b h v)))

-- a word of k bits is below 2^k
pub word_of_lt : (f : ℕ → Bool) (k : ℕ) → word_of f k < 2 ^ k
word_of_lt f zero = omega arith
word_of_lt f (suc k) = go (f k) (word_of_lt f k)
  where
    go : (t : Bool) → word_of f k < 2 ^ k → bit t * 2 ^ k + word_of f k < 2 ^ suc k
    go true h = omega (arith, pow-suc 2 k)
    go false h = omega (arith, pow-suc 2 k)

-- equal bits make equal words
pub word_of_ext : (f g : ℕ → Bool) → ((i : ℕ) → f i ≡ g i) → (k : ℕ) → word_of f k ≡ word_of g k
word_of_ext f g e zero = refl
word_of_ext f g e (suc k) = rw (e k, word_of_ext f g e k)

-- bit i alone, in a word of k bits
pub shifted_one : (k i : ℕ) → i < k → (1 * 2 ^ i) % 2 ^ k ≡ 2 ^ i
shifted_one k i h = rw one-mul (mod-eq_of_lt (pow-lt h))

-- there is room for it above the bits below i
pub word_of_fits : (f : ℕ → Bool) (k i : ℕ) → i < k → word_of f i + 2 ^ i < 2 ^ k
word_of_fits f k i h = omega (arith, word_of_lt f i, pow-suc 2 i, pow_mono {i = suc i} {j = k} h)

-- bit i is set
pub word_of_set : (f : ℕ → Bool) (i : ℕ) → f i ≡ true → word_of f (i + 1) ≡ word_of f i + 2 ^ i
word_of_set f i e = rw (add-one, e) (omega arith)

-- bit i is not set
pub word_of_clear : (f : ℕ → Bool) (i : ℕ) → f i ≡ false → word_of f (i + 1) ≡ word_of f i
word_of_clear f i e = rw (add-one, e) (omega arith)

-- a word by its lowest bit and the word of those above
pub word_of_shift : (f : ℕ → Bool) (k : ℕ) → word_of f (suc k) ≡ bit (f 0) + 2 * word_of (λ i. f (suc i)) k
word_of_shift f zero = omega arith
word_of_shift f (suc k) =
    let doubled : bit (f (suc k)) * 2 ^ suc k ≡ bit (f (suc k)) * (2 ^ k * 2) = ap (λ (x : ℕ). bit (f (suc k)) * x) (pow-suc 2 k) in
    omega (arith, word_of_shift f k)

-- the lowest bit of a word
lowest : (t : Bool) (w : ℕ) → (bit t + 2 * w) % 2 ≡ bit t
lowest true w = omega arith
lowest false w = omega arith

-- the word of the bits above the lowest
rest : (t : Bool) (w : ℕ) → (bit t + 2 * w) / 2 ≡ w
rest true w = omega arith
rest false w = omega arith

-- a bit that is set only where another is, is at most the other
bit_mono : (s t : Bool) → (s ≡ true → t ≡ true) → leb (bit s) (bit t) ≡ true
bit_mono true t h = rw (h refl)
bit_mono false true h = refl
bit_mono false false h = refl

-- words are within one another where their bits are
pub word_within : (k : ℕ) (f g : ℕ → Bool) → ((i : ℕ) → i < k → f i ≡ true → g i ≡ true) → within k (word_of f k) (word_of g k) ≡ true
word_within zero f g h = refl
word_within (suc k) f g h =
    let p : ℕ = word_of (λ i. f (suc i)) k in
    let q : ℕ = word_of (λ i. g (suc i)) k in
    let low : leb (bit (f 0)) (bit (g 0)) ≡ true = bit_mono (f 0) (g 0) (h 0 (omega arith)) in
    rw (word_of_shift f k, word_of_shift g k, lowest (f 0) p, lowest (g 0) q, rest (f 0) p, rest (g 0) q, low)
    (word_within k (λ i. f (suc i)) (λ i. g (suc i)) (λ i l. h (suc i) (omega arith)))

-- a divisor's mask is consistent with the mask
pub mask_consistent : (a b : List ℕ) → divides a b ≡ true → (n M : ℕ) → consistent (mask n M a) (mask n M b) ≡ true
mask_consistent a b h n M =
    let bits = mask_bit_mono a b h n M in
    rw (word_within 64 (mask_bit n M a) (mask_bit n M b) (λ i l. bits i))
    (word_within 64 (λ i. mask_bit n M a (64 + i)) (λ i. mask_bit n M b (64 + i)) (λ i l. bits (64 + i)))

-- masks that are not consistent rule a divisor out
pub mask_rules_out : (a b : List ℕ) (n M : ℕ) → consistent (mask n M a) (mask n M b) ≡ false → divides a b ≡ false
mask_rules_out a b n M e = go (divides a b) refl
  where
    go : (t : Bool) → divides a b ≡ t → divides a b ≡ false
    go true d = absurd (true≢false (sym (mask_consistent a b d n M) ∙ e))
    go false d = d

-- a threshold is at most the greatest exponent, or 1
pub threshold_le : (b M k : ℕ) → k < b → threshold b M k ≤ max M 1
threshold_le b M k h = div-le_of_le-mul b (mul-le-mul_right (max M 1) (omega arith))

-- thresholds fit where exponents do: below 2^16, say
pub threshold_lt : (limit b M k : ℕ) → 1 < limit → M < limit → k < b → threshold b M k < limit
threshold_lt limit b M k one h l = omega (arith, threshold_le b M k l)

-- at most all variables have bits
pub masked_le : (n : ℕ) → masked n ≤ n
masked_le n = div-le_of_le-mul (bits_each n) (omega (arith, min-le_left (n * bits_each n) 128))

-- their bits are at most 128
pub masked_bits : (n : ℕ) → masked n * bits_each n ≤ 128
masked_bits n = omega (arith, div-mul-le_self (min (n * bits_each n) 128) (bits_each n), min-le_right (n * bits_each n) 128)

-- bits a variable, where each variable has its own
pub each_narrow : (n : ℕ) → 0 < n → n ≤ 128 → bits_each n ≡ 128 / n
each_narrow n h l = omega (arith, (le-div_iff_mul-le {k = n} {x = 1} {y = 128} h).1 (omega arith))

-- and where there are too many of them
pub each_wide : (n : ℕ) → 128 < n → bits_each n ≡ 1
each_wide n h = omega (arith, div-eq_of_lt {n = 128} {m = n} h)

-- at least one bit
pub each_positive : (n : ℕ) → 0 < bits_each n
each_positive n = omega arith

-- at most all
pub each_le : (n : ℕ) → bits_each n ≤ 128
each_le n = omega (arith, div-le_self 128 n)

-- the bits of a variable below n are among the 128, if one of them is
bits_inside : (n i : ℕ) → i < 128 → i / bits_each n < n → suc (i / bits_each n) * bits_each n ≤ 128
bits_inside n i h l = go (leb n 128) refl
  where
    go : (t : Bool) → leb n 128 ≡ t → suc (i / bits_each n) * bits_each n ≤ 128
    go true e =
        let b : bits_each n ≡ 128 / n = each_narrow n (omega arith) (leb-true n 128 e) in
        let all : n * bits_each n ≤ 128 = rw b (mul-div-le 128 n) in
        omega (arith, mul-le-mul_right (bits_each n) l)
    go false e = rw (each_wide n (leb-false n 128 e), div-one) (omega arith)

-- of the 128 bits, those of a variable below n are used
pub masked_width : (n i : ℕ) → i < 128 → ltb (i / bits_each n) (masked n) ≡ ltb (i / bits_each n) n
masked_width n i h = bool_ext (ltb v (masked n)) (ltb v n) (λ t. lt-ltb v n (omega (arith, ltb-true v (masked n) t, masked_le n))) (λ t. lt-ltb v (masked n) (used (ltb-true v n t)))
  where
    v : ℕ
    v = i / bits_each n

    used : v < n → v < masked n
    used l =
        let own : suc v * bits_each n ≤ n * bits_each n = mul-le-mul_right (bits_each n) l in
        (le-div_iff_mul-le {k = bits_each n} {x = suc v} {y = min (n * bits_each n) 128} (each_positive n)).1 (omega (arith, bits_inside n i h l))

-- with b bits a variable, variable i / b stands past the width: no bit
pub mask_bit_outside : (n M i b : ℕ) (m : List ℕ) → i < 128 → b ≡ bits_each n → n ≤ i / b → mask_bit n M m i ≡ false
mask_bit_outside n M i b m h e l = rw (masked_width n i h, ← e, le-ltb (i / b) n l)

-- it stands before: its exponent is held against the threshold
pub mask_bit_inside : (n M i b t x : ℕ) (m : List ℕ) → i < 128 → b ≡ bits_each n → i / b < n → t ≡ threshold b M (i % b) → x ≡ exponent m (i / b)
    → mask_bit n M m i ≡ ltb t x
mask_bit_inside n M i b t x m h e l f g = rw (masked_width n i h, ← e, lt-ltb (i / b) n l, ← f, ← g)

-- p within q: p & q is p
pub within_and : (k p q : ℕ) → p < 2 ^ k → within k p q ≡ true → bit_and p q ≡ p
within_and zero p q l h =
    let none : p ≡ 0 = omega arith in
    rw none (and_zero_l q)
within_and (suc k) p q l h =
    let low = and_left (leb (p % 2) (q % 2)) (within k (p / 2) (q / 2)) h in
    let high = and_right (leb (p % 2) (q % 2)) (within k (p / 2) (q / 2)) h in
    let above : bit_and (p / 2) (q / 2) ≡ p / 2 = within_and k (p / 2) (q / 2) (omega (arith, pow-suc 2 k)) high in
    omega (arith, and_step p q, leb-true (p % 2) (q % 2) low)

-- where p & q is p, p is within q
pub and_within : (k p q : ℕ) → bit_and p q ≡ p → within k p q ≡ true
and_within zero p q e = refl
and_within (suc k) p q e =
    let low : p % 2 ≤ q % 2 = omega (arith, and_step p q) in
    rw (le-leb (p % 2) (q % 2) low) (and_within k (p / 2) (q / 2) (omega (arith, and_step p q)))

-- the lowest bit of a complement
complement_low : (k q : ℕ) → q < 2 ^ suc k → (2 ^ suc k - 1 - q) % 2 ≡ 1 - q % 2
complement_low k q l = omega (arith, pow-suc 2 k)

-- the word of a complement's bits above the lowest
complement_rest : (k q : ℕ) → q < 2 ^ suc k → (2 ^ suc k - 1 - q) / 2 ≡ 2 ^ k - 1 - q / 2
complement_rest k q l = omega (arith, pow-suc 2 k)

-- p and the complement of q, by the lowest bit and those above
and_not_step : (k p q : ℕ) → q < 2 ^ suc k → bit_and p (2 ^ suc k - 1 - q) ≡ bit_and (p / 2) (2 ^ k - 1 - q / 2) * 2 + min (p % 2) (1 - q % 2)
and_not_step k p q l = rw (and_step p (2 ^ suc k - 1 - q), complement_low k q l, complement_rest k q l)

-- p within q: p & !q is 0
pub within_and_not : (k p q : ℕ) → p < 2 ^ k → q < 2 ^ k → within k p q ≡ true → bit_and p (2 ^ k - 1 - q) ≡ 0
within_and_not zero p q l m h =
    let none : p ≡ 0 = omega arith in
    rw none (and_zero_l (2 ^ 0 - 1 - q))
within_and_not (suc k) p q l m h =
    let low = and_left (leb (p % 2) (q % 2)) (within k (p / 2) (q / 2)) h in
    let high = and_right (leb (p % 2) (q % 2)) (within k (p / 2) (q / 2)) h in
    let above : bit_and (p / 2) (2 ^ k - 1 - q / 2) ≡ 0 = within_and_not k (p / 2) (q / 2) (omega (arith, pow-suc 2 k)) (omega (arith, pow-suc 2 k)) high in
    omega (arith, and_not_step k p q m, leb-true (p % 2) (q % 2) low)

-- where p & !q is 0, p is within q
pub and_not_within : (k p q : ℕ) → q < 2 ^ k → bit_and p (2 ^ k - 1 - q) ≡ 0 → within k p q ≡ true
and_not_within zero p q m e = refl
and_not_within (suc k) p q m e =
    let low : p % 2 ≤ q % 2 = omega (arith, and_not_step k p q m) in
    rw (le-leb (p % 2) (q % 2) low) (and_not_within k (p / 2) (q / 2) (omega (arith, pow-suc 2 k)) (omega (arith, and_not_step k p q m)))

-- the test as the machine has it
pub within_test : (k p q : ℕ) → p < 2 ^ k → q < 2 ^ k → eqb (bit_and p (2 ^ k - 1 - q)) 0 ≡ within k p q
within_test k p q l m =
    bool_ext (eqb (bit_and p (2 ^ k - 1 - q)) 0) (within k p q) (λ t. and_not_within k p q m (eqb-true (bit_and p (2 ^ k - 1 - q)) 0 t))
    (λ t. eq-eqb (bit_and p (2 ^ k - 1 - q)) 0 (within_and_not k p q l m t))

-- and for two words
pub within_both : (k p q r s : ℕ) → p < 2 ^ k → q < 2 ^ k → r < 2 ^ k → s < 2 ^ k
    → (eqb (bit_and p (2 ^ k - 1 - q)) 0 && eqb (bit_and r (2 ^ k - 1 - s)) 0) ≡ (within k p q && within k r s)
within_both k p q r s g h l m = ap₂ ◌&&◌ (within_test k p q g h) (within_test k r s l m)
