-- Words: sums modulo a base B, each law for every base.
--   Congruent B r z   == r and z differ by a multiple of B
-- In this file:
--   residues of sums, negatives and differences (residue_add, residue_neg, residue_sub), which depend on residues alone (residue_cong_add,
--   residue_cong_sub)
--   a chain of wrapped sums is the wrapped sum (chain), exact where the end fits (chain_exact, chain_exact_signed)
--   two's complement reads back what it holds (signed_residue, residue_signed, signed_exact)
--   two words: the sum of the low words with its carry (low_word), the sum of two pairs (pair_add), and that a pair is below the base's square
--   and determines its words (pair_lt, pair_low, pair_high, pair_inj)
--   two words of a number modulo the base's square (pair_words, words_unique, words_mod), the complement of a pair (pair_flip), the order of
--   pairs (pair_less, pair_order, pair_order_low, pair_reaches, pair_large), the product of two words by their halves (halves_product)
--   the product of a pair with a word: when it reaches H times the base (product_high, product_middle), and its words else (product_words)
--   a signed word keeps the residue (wrap_residue), and the integer itself where it fits (wrap_exact)
--   the machine's signed words are these residues (word_residue, word_signed), and its wrapping sum and difference those of the integers (wrap_add,
--   wrap_sub, wrap_fits)
-- Assumes nothing.
use mathlib.Core.Path.{◌≡◌, refl, sym, ap, ap₂, ◌∙◌}
use mathlib.Core.Logic.{◌≢◌}
use mathlib.Core.Bool.{Bool, true, false}
use mathlib.Core.List.{List, [], ◌∷◌}
use Prim.Native.Nat.{ℕ, zero, suc, ◌+◌, ◌*◌, ◌-◌, ◌%◌, ◌/◌, ◌^◌, ◌≤◌, ◌<◌}
use native.Mathlib.Nat.{add-mul, mul-add, mul-sub, le_of_lt, mul-le-mul_right, mul_assoc, mul_left_comm, add_assoc, add_comm, add_left_comm, mod-lt, mod-eq_of_lt, mod-mod, mod-add-mod, add-mod-mod, mod-add-div, add-mul-mod_self_left, add-mul-div_left, mod-eq-sub-mod, div-eq_of_lt, mul-le-mul_left}
use native.Mathlib.Omega.{arith}
use lib.Arith.{mod-mul}
use lib.Dec.{leb, ltb}
use lib.IntN.{ℤ, pos, negsuc, neg_ℤ, sub_ℕ, ◌+ℤ◌, ◌-ℤ◌, +ℤ_assoc, +ℤ-neg_ℤ_cancel}
use lib.Signed.{mag}
use borrow.Author.Tests.{ltb-true, ltb-false, leb-true, leb-false, lt-ltb, le-ltb, le-leb, lt-leb}
use mir.Syntax.{Width}
use mir.Val.{bits, hbits, SFits, of_z, to_z}
use lib.Pow.{pow_pos}
use mir.ValLaws.{pow-bits, to_z-Fits}
use Rattle.laws.specs.Numerator.{total}
use Rattle.laws.specs.Word.{plus, minus, residue, signed_of, wrap, wrapped, pair, carry}

-- the parts of a difference of natural numbers
difference_parts : (a b : ℕ) → plus (sub_ℕ a b) + b ≡ a + minus (sub_ℕ a b)
difference_parts a b = go (ltb a b) refl
  where
    go : (t : Bool) → ltb a b ≡ t → plus (sub_ℕ a b) + b ≡ a + minus (sub_ℕ a b)
    go true e = rw e (omega (arith, ltb-true a b e))
    go false e = rw e (omega (arith, ltb-false a b e))

-- the parts of a sum
sum_parts : (x y : ℤ) → plus (x +ℤ y) + (minus x + minus y) ≡ plus x + plus y + minus (x +ℤ y)
sum_parts (pos a) (pos b) = omega arith
sum_parts (pos a) (negsuc b) = omega (arith, difference_parts a (suc b))
sum_parts (negsuc a) (pos b) = omega (arith, difference_parts b (suc a))
sum_parts (negsuc a) (negsuc b) = omega arith

-- the parts of a negative
negative_parts : (x : ℤ) → plus (neg_ℤ x) + plus x ≡ minus x + minus (neg_ℤ x)
negative_parts (pos zero) = refl
negative_parts (pos (suc n)) = omega arith
negative_parts (negsuc n) = omega arith

abbrev Congruent : ℕ → ℕ → ℤ → Type 0
Congruent B r z = (k : ℕ) × (l : ℕ) × (r + minus z + B * k ≡ plus z + B * l)

-- a number below B is its own residue
pub residue_small : (B n : ℕ) → n < B → residue B (pos n) ≡ n
residue_small B n h = mod-eq_of_lt h

module _ (B : ℕ) (above : 0 < B) where
  -- a residue is below the base
  pub residue_lt : (z : ℤ) → residue B z < B
  residue_lt (pos n) = mod-lt n above
  residue_lt (negsuc n) = omega (arith, mod-lt n above)

  -- a residue is congruent to its integer
  residue_congruent : (z : ℤ) → Congruent B (residue B z) z
  residue_congruent (pos n) = (n / B, 0, omega (arith, mod-add-div n B))
  residue_congruent (negsuc n) = (0, suc (n / B), omega (arith, mod-add-div n B, mod-lt n above))

  -- what is below the base and congruent is the residue
  congruent_residue : (z : ℤ) (r : ℕ) → r < B → Congruent B r z → residue B z ≡ r
  congruent_residue z r h (k, l, e) =
      let (p, q, d) = residue_congruent z in
      let same : residue B z + B * (p + l) ≡ r + B * (k + q) = omega arith in
      sym (mod-eq_of_lt (residue_lt z)) ∙ sym (add-mul-mod_self_left (residue B z) B (p + l))
      ∙ ap (λ (n : ℕ). n % B) same
      ∙ add-mul-mod_self_left r B (k + q) ∙ mod-eq_of_lt h

  -- the residue of a sum
  pub residue_add : (x y : ℤ) → residue B (x +ℤ y) ≡ (residue B x + residue B y) % B
  residue_add x y =
      let (k, l, d) = residue_congruent x in
      let (p, q, e) = residue_congruent y in
      let s : ℕ = residue B x + residue B y in
      congruent_residue (x +ℤ y) (s % B) (mod-lt s above) (s / B + (k + p), l + q, omega (arith, mod-add-div s B, sum_parts x y))

  -- the residue of a negative
  pub residue_neg : (x : ℤ) → residue B (neg_ℤ x) ≡ (B - residue B x) % B
  residue_neg x =
      let (k, l, d) = residue_congruent x in
      let s : ℕ = B - residue B x in
      congruent_residue (neg_ℤ x) (s % B) (mod-lt s above) (s / B + l, suc k, omega (arith, mod-add-div s B, negative_parts x, residue_lt x))

  -- the residue of a difference
  pub residue_sub : (x y : ℤ) → residue B (x -ℤ y) ≡ (residue B x + (B - residue B y)) % B
  residue_sub x y = rw (residue_add x (neg_ℤ y), residue_neg y, add-mod-mod)

  -- integers with equal residues have sums with equal residues
  pub residue_cong_add : (x x' y y' : ℤ) → residue B x ≡ residue B x' → residue B y ≡ residue B y' → residue B (x +ℤ y) ≡ residue B (x' +ℤ y')
  residue_cong_add x x' y y' d e = cc (residue_add x y, residue_add x' y')

  -- and differences with equal residues
  pub residue_cong_sub : (x x' y y' : ℤ) → residue B x ≡ residue B x' → residue B y ≡ residue B y' → residue B (x -ℤ y) ≡ residue B (x' -ℤ y')
  residue_cong_sub x x' y y' d e = cc (residue_sub x y, residue_sub x' y')

  -- one wrapped sum keeps the residue of the sum
  wrapped_sum : (a : ℕ) (z : ℤ) → residue B (pos ((a + residue B z) % B)) ≡ residue B (pos a +ℤ z)
  wrapped_sum a z = rw (mod-mod, residue_add (pos a) z, mod-add-mod)

  -- a chain of wrapped sums is the wrapped sum
  pub chain : (a : ℕ) (zs : List ℤ) → a < B → wrapped B a zs ≡ residue B (pos a +ℤ total zs)
  chain a [] h = omega (arith, residue_small B (a + 0) (omega arith))
  chain a (z ∷ zs) h =
      let s : ℕ = (a + residue B z) % B in
      chain s zs (mod-lt (a + residue B z) above)
      ∙ residue_cong_add (pos s) (pos a +ℤ z) (total zs) (total zs) (wrapped_sum a z) refl
      ∙ ap (residue B) (+ℤ_assoc (pos a) z (total zs))

  -- a chain whose end is a natural number below the base is exact
  pub chain_exact : (a n : ℕ) (zs : List ℤ) → a < B → n < B → pos a +ℤ total zs ≡ pos n → wrapped B a zs ≡ n
  chain_exact a n zs h k e = chain a zs h ∙ ap (residue B) e ∙ residue_small B n k

-- the integer that two's complement reads from r has the residue r
pub residue_signed : (B r : ℕ) → r < B → residue B (signed_of B r) ≡ r
residue_signed B r h = go (ltb r (B / 2)) refl
  where
    go : (t : Bool) → ltb r (B / 2) ≡ t → residue B (signed_of B r) ≡ r
    go true e = rw e (mod-eq_of_lt h)
    go false e =
        let s : (B - suc r) % B ≡ B - suc r = mod-eq_of_lt (omega arith) in
        rw (e, s) (omega arith)

module _ (B H : ℕ) (even : B ≡ H + H) where
  -- an integer from −H to H − 1 is read back from its residue
  pub signed_residue : (z : ℤ) → mag z < H → signed_of B (residue B z) ≡ z
  signed_residue (pos n) h =
      let s : n % B ≡ n = mod-eq_of_lt (omega arith) in
      let t : ltb n (B / 2) ≡ true = lt-ltb n (B / 2) (omega arith) in
      rw (s, t)
  signed_residue (negsuc n) h =
      let s : n % B ≡ n = mod-eq_of_lt (omega arith) in
      let t : ltb (B - suc n) (B / 2) ≡ false = le-ltb (B - suc n) (B / 2) (omega arith) in
      let u : B - suc (B - suc n) ≡ n = omega arith in
      rw (s, t, u)

  -- two such integers with equal residues are equal
  pub signed_exact : (x y : ℤ) → mag x < H → mag y < H → residue B x ≡ residue B y → x ≡ y
  signed_exact x y h k e = cc (signed_residue x h, signed_residue y k)

  -- a chain whose end is such an integer is exact
  pub chain_exact_signed : (a : ℕ) (z : ℤ) (zs : List ℤ) → a < B → mag z < H → pos a +ℤ total zs ≡ z → signed_of B (wrapped B a zs) ≡ z
  chain_exact_signed a z zs h k e = rw (chain B (omega arith) a zs h, e) (signed_residue z k)

-- the sum of the low words and its carry
pub low_word : (B a c : ℕ) → a < B → c < B → (a + c) % B + B * carry a ((a + c) % B) ≡ a + c
low_word B a c h k = go (ltb (a + c) B) refl
  where
    go : (t : Bool) → ltb (a + c) B ≡ t → (a + c) % B + B * carry a ((a + c) % B) ≡ a + c
    go true e =
        let s : (a + c) % B ≡ a + c = mod-eq_of_lt (ltb-true (a + c) B e) in
        let t : ltb (a + c) a ≡ false = le-ltb (a + c) a (omega arith) in
        rw (s, t) (omega arith)
    go false e =
        let g : B ≤ a + c = ltb-false (a + c) B e in
        let s : (a + c) % B ≡ a + c - B = mod-eq-sub-mod g ∙ mod-eq_of_lt (omega arith) in
        let t : ltb (a + c - B) a ≡ true = lt-ltb (a + c - B) a (omega arith) in
        rw (s, t) (omega arith)

module _ (B : ℕ) where
  -- a pair of words is below the base's square
  pub pair_lt : (a b : ℕ) → a < B → b < B → pair B a b < B * B
  pair_lt a b h k = omega (arith, mul-le-mul_left B k)

  -- the low word of a pair
  pub pair_low : (a b : ℕ) → a < B → pair B a b % B ≡ a
  pair_low a b h = add-mul-mod_self_left a B b ∙ mod-eq_of_lt h

  -- the high word of a pair
  pub pair_high : (a b : ℕ) → a < B → pair B a b / B ≡ b
  pair_high a b h = rw (add-mul-div_left a b {y = B} (omega arith), div-eq_of_lt h) (omega arith)

  -- equal pairs have equal words
  pub pair_inj : (a b c d : ℕ) → a < B → c < B → pair B a b ≡ pair B c d → (a ≡ c) × (b ≡ d)
  pair_inj a b c d h k e =
      (cc (pair_low a b h, pair_low c d k, ap (λ (n : ℕ). n % B) e), cc (pair_high a b h, pair_high c d k, ap (λ (n : ℕ). n / B) e))

  -- a pair modulo the base's square: the high word modulo the base
  pair_mod : (a b : ℕ) → a < B → pair B a b % (B * B) ≡ pair B a (b % B)
  pair_mod a b h =
      rw (mod-mul (pair B a b) {m = B} {c = B} (omega arith) (omega arith), pair_low a b h, pair_high a b h) (omega arith)

  -- the sum of two pairs: the low words' sum, and the high words' sum with the carry
  pub pair_add : (a b c d : ℕ) → a < B → c < B → pair B ((a + c) % B) ((b + d + carry a ((a + c) % B)) % B) ≡ (pair B a b + pair B c d) % (B * B)
  pair_add a b c d h k =
      let s : ℕ = (a + c) % B in
      let sum : pair B a b + pair B c d ≡ pair B s (b + d + carry a s) = omega (arith, low_word B a c h k) in
      rw (sum, pair_mod s (b + d + carry a s) (mod-lt (a + c) (omega arith)))

module _ (B : ℕ) (above : 0 < B) where
  -- the two words of a number are the number modulo the base's square
  pub pair_words : (v : ℕ) → pair B (v % B) (v / B % B) ≡ v % (B * B)
  pair_words v = rw (mod-mul v above above) (omega arith)

  -- two words that are a number modulo the base's square are its words
  pub words_unique : (a b v : ℕ) → a < B → pair B a b ≡ v % (B * B) → (a ≡ v % B) × (b ≡ v / B % B)
  words_unique a b v h e = pair_inj B a b (v % B) (v / B % B) h (mod-lt v above) (e ∙ sym (pair_words v))

  -- numbers that are equal modulo the base's square have the same words
  pub words_mod : (u v : ℕ) → u % (B * B) ≡ v % (B * B) → (u % B ≡ v % B) × (u / B % B ≡ v / B % B)
  words_mod u v e = words_unique (u % B) (u / B % B) v (mod-lt u above) (pair_words u ∙ e)

-- a pair and the pair of its complements make the base's square, less 1
pub pair_flip : (B a b : ℕ) → a < B → b < B → pair B (B - 1 - a) (B - 1 - b) + 1 ≡ B * B - pair B a b
pair_flip B a b h k =
    let e : B * (B - 1 - b) ≡ B * (B - 1) - B * b = mul-sub B (B - 1) b in
    let f : B * (B - 1) ≡ B * B - B * 1 = mul-sub B B 1 in
    omega (arith, mul-le-mul_left B k)

-- a greater high word makes a greater pair
pub pair_less : (B a b c d : ℕ) → a < B → b < d → pair B a b < pair B c d
pair_less B a b c d h k = omega (arith, mul-le-mul_left B k)

-- pairs with different high words are in the order of these
pub pair_order : (B a b c d : ℕ) → a < B → c < B → b ≢ d → ltb b d ≡ ltb (pair B a b) (pair B c d)
pair_order B a b c d h k n = go (ltb b d) refl
  where
    go : (t : Bool) → ltb b d ≡ t → t ≡ ltb (pair B a b) (pair B c d)
    go true e = sym (lt-ltb (pair B a b) (pair B c d) (pair_less B a b c d h (ltb-true b d e)))
    go false e =
        let l : d < b = omega (arith, ltb-false b d e) in
        sym (le-ltb (pair B a b) (pair B c d) (omega (arith, pair_less B c d a b k l)))

-- pairs with one high word are in the order of the low ones
pub pair_order_low : (B a c d : ℕ) → ltb a c ≡ ltb (pair B a d) (pair B c d)
pair_order_low B a c d = go (ltb a c) refl
  where
    go : (t : Bool) → ltb a c ≡ t → t ≡ ltb (pair B a d) (pair B c d)
    go true e = sym (lt-ltb (pair B a d) (pair B c d) (omega (arith, ltb-true a c e)))
    go false e = sym (le-ltb (pair B a d) (pair B c d) (omega (arith, ltb-false a c e)))

-- a pair whose high word reaches H reaches H times the base
pub pair_reaches : (B H a b : ℕ) → H ≤ b → B * H ≤ pair B a b
pair_reaches B H a b h = omega (arith, mul-le-mul_left B h)

-- and only such a pair does
pub pair_large : (B H a b : ℕ) → a < B → leb H b ≡ leb (B * H) (pair B a b)
pair_large B H a b h = go (leb H b) refl
  where
    go : (t : Bool) → leb H b ≡ t → t ≡ leb (B * H) (pair B a b)
    go true e = sym (le-leb (B * H) (pair B a b) (pair_reaches B H a b (leb-true H b e)))
    go false e = sym (lt-leb (B * H) (pair B a b) (omega (arith, mul-le-mul_left B (leb-false H b e))))

-- the product of two numbers by their halves
pub halves_product : (P a₀ a₁ b₀ b₁ : ℕ) → pair (P * P) (a₀ * b₀) (a₁ * b₁) + P * (a₀ * b₁) + P * (a₁ * b₀) ≡ pair P a₀ a₁ * pair P b₀ b₁
halves_product P a₀ a₁ b₀ b₁ = simp (mul-add, add-mul, mul_assoc, mul_left_comm, add_assoc, add_comm, add_left_comm)

-- the product of two words is below the base's square
pub product_lt : (B a b : ℕ) → a < B → b < B → a * b < B * B
product_lt B a b h k = omega (arith, mul-le-mul_left a (le_of_lt k), mul-le-mul_right B h)

module _ (B H a b w : ℕ) (above : 0 < B) (half : H ≤ B) (small : b * w < B * B) where
  high_words : pair B (b * w % B) (b * w / B % B) ≡ b * w
  high_words = pair_words B above (b * w) ∙ mod-eq_of_lt small

  reaches : H ≤ b * w → B * H ≤ pair B a b * w
  reaches l = omega (arith, mul-le-mul_left B l)

  -- where the high word's product has a high word
  pub product_high : b * w / B % B ≢ 0 → B * H ≤ pair B a b * w
  product_high n =
      let l : 1 ≤ b * w / B % B = omega arith in
      reaches (omega (arith, high_words, mul-le-mul_left B l))

  -- where its low word reaches H
  pub product_middle : H ≤ b * w % B → B * H ≤ pair B a b * w
  product_middle l = reaches (omega (arith, high_words))

  -- where it has no high word
  pub product_words : a * w < B * B → b * w / B % B ≡ 0 → pair B (a * w % B) (a * w / B % B + b * w % B) ≡ pair B a b * w
  product_words h z =
      let e : pair B (a * w % B) (a * w / B % B) ≡ a * w = pair_words B above (a * w) ∙ mod-eq_of_lt h in
      let f : b * w % B ≡ b * w = omega (arith, rw z at high_words) in
      omega (arith, ap (λ (x : ℕ). B * x) f)

module _ (w : Width) where
  -- the machine's bits of a signed word are the residue
  pub word_residue : (z : ℤ) → SFits w z → of_z w z ≡ residue (2 ^ bits w) z
  word_residue (pos n) f = sym (mod-eq_of_lt (omega (arith, f.sfits, pow-bits w)))
  word_residue (negsuc n) f =
      let s : n % 2 ^ bits w ≡ n = mod-eq_of_lt (omega (arith, f.sfits, pow-bits w)) in
      rw s

  -- the machine's signed reading of a word is the two's complement
  pub word_signed : (r : ℕ) → to_z w r ≡ signed_of (2 ^ bits w) r
  word_signed r =
      let half : 2 ^ bits w / 2 ≡ 2 ^ hbits w = omega (arith, pow-bits w) in
      rw half

  -- what a signed word keeps fits it
  pub wrap_fits : (z : ℤ) → SFits w (wrap (2 ^ bits w) z)
  unfolding wrap
  wrap_fits z =
      rw (← word_signed (residue (2 ^ bits w) z)) (to_z-Fits w (residue (2 ^ bits w) z) (record { fits = residue_lt (2 ^ bits w) (pow_pos (bits w)) z }))

  -- an integer that fits is kept
  pub wrap_exact : (z : ℤ) → SFits w z → wrap (2 ^ bits w) z ≡ z
  unfolding wrap
  wrap_exact z f = signed_residue (2 ^ bits w) (2 ^ hbits w) (omega (arith, pow-bits w)) z f.sfits

  -- the machine's wrapping sum is what a word keeps of the sum
  pub wrap_add : (a b : ℤ) → SFits w a → SFits w b → wrap (2 ^ bits w) (a +ℤ b) ≡ to_z w ((of_z w a + of_z w b) % 2 ^ bits w)
  unfolding wrap
  wrap_add a b f g =
      ap (signed_of (2 ^ bits w)) (residue_add (2 ^ bits w) (pow_pos (bits w)) a b ∙ sym (ap₂ (λ (x y : ℕ). (x + y) % 2 ^ bits w) (word_residue a f) (word_residue b g)))
      ∙ sym (word_signed ((of_z w a + of_z w b) % 2 ^ bits w))

  -- and its wrapping difference r, of which r + b is a, what it keeps of the difference
  pub wrap_sub : (a b : ℤ) (r : ℕ) → SFits w a → SFits w b → r < 2 ^ bits w → (r + of_z w b) % 2 ^ bits w ≡ of_z w a → wrap (2 ^ bits w) (a -ℤ b) ≡ to_z w r
  unfolding wrap
  wrap_sub a b r f g h e =
      ap (signed_of (2 ^ bits w))
      (residue_cong_sub (2 ^ bits w) (pow_pos (bits w)) a (pos r +ℤ b) b b same refl
      ∙ ap (residue (2 ^ bits w)) (+ℤ-neg_ℤ_cancel (pos r) b)
      ∙ residue_small (2 ^ bits w) r h)
      ∙ sym (word_signed r)
    where
      same : residue (2 ^ bits w) a ≡ residue (2 ^ bits w) (pos r +ℤ b)
      same =
          sym (word_residue a f)
          ∙ sym e
          ∙ ap₂ (λ (x y : ℕ). (x + y) % 2 ^ bits w) (sym (residue_small (2 ^ bits w) r h)) (word_residue b g)
          ∙ sym (residue_add (2 ^ bits w) (pow_pos (bits w)) (pos r) b)

-- what a signed word keeps has the residue
pub wrap_residue : (B : ℕ) → 0 < B → (z : ℤ) → residue B (wrap B z) ≡ residue B z
unfolding wrap
wrap_residue B above z = residue_signed B (residue B z) (residue_lt B above z)
