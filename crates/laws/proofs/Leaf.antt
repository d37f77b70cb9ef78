-- A leaf: the numerator of a pairwise coprime list, as a product.
--   by b y                    == y, or its negative where b holds
--   Product P n i xs z s      == s has z coefficients, those of P times the product of all 1 − t^degree over the first i monomials, modulo 2^64
--   Past P n m xs w z         == from w on that product is 0, up to z
-- In this file: the loops' steps, and that the product added at its shift is the leaf (leaf_sums).
use mathlib.Core.Path.{◌≡◌, refl, sym, ap, ap₂, ◌∙◌}
use mathlib.Core.Logic.{◌⊎◌, inl, inr}
use mathlib.Core.Bool.{Bool, true, false}
use mathlib.Core.List.{List, [], map}
use Prim.Native.Nat.{ℕ, ◌+◌, ◌-◌, ◌≤◌, ◌<◌}
use native.Mathlib.Omega.{arith}
use lib.Dec.{ltb}
use lib.ListN.{length, get_or-eq_default}
use lib.IntN.{ℤ, pos, ◌+ℤ◌, ◌-ℤ◌, neg_ℤ, +ℤ_idl, +ℤ_idr}
use borrow.Author.Tests.{ltb-true, ltb-false}
use Rattle.laws.specs.Monomial.{degree}
use Rattle.laws.specs.Coefficients.{coefficient, shift}
use Rattle.laws.proofs.Coefficients.{shift_at}
use Rattle.laws.proofs.Numerator.{PairwiseCoprime}
use Rattle.laws.proofs.Rows.{at, rows, rows_next}
use Rattle.laws.proofs.Added.{low, low_add, low_sub, low_shift, AddedTo, Zeros, Timed, Adding}
use Rattle.laws.proofs.Seed.{seeded, seeded_coprime, seeded_factors}

-- y, or its negative
abbrev pub by : Bool → ℤ → ℤ
by false y = y
by true y = neg_ℤ y

-- product: of the first i rows
pub record Product (P : List ℤ) (n i : ℕ) (xs : List ℕ) (z : ℕ) (s : List ℤ) : Type 0 where
  pub len : length s ≡ z
  pub is : (k : ℕ) → k < z → low (coefficient s k) ≡ low (seeded_factors (coefficient P) (map degree (rows n i xs)) k)

pub product_none : (P : List ℤ) (n : ℕ) (xs : List ℕ) (s t : List ℤ) → Zeros s → AddedTo (shift 0 (coefficient P)) s t → Product P n 0 xs (length s) t
unfolding Zeros
product_none P n xs s t z a = record { len = a.len; is = λ k l. a.sums k l ∙ ap low (ap (λ (y : ℤ). y +ℤ coefficient P k) (z k) ∙ +ℤ_idl (coefficient P k)) }

pub product_more : (P : List ℤ) (n i d : ℕ) (xs : List ℕ) (z : ℕ) (s t : List ℤ) → d ≡ degree (at n i xs) → Timed d s t → Product P n i xs z s → Product P n (i + 1) xs z t
product_more P n i d xs z s t e w p =
    record {
      len = w.len ∙ p.len;
      is = λ k l. rw (rows_next n i xs, ← e)
          (w.is k (omega (arith, p.len))
          ∙ low_sub (coefficient s k) (shift d (coefficient s) k) (seeded_factors (coefficient P) (map degree (rows n i xs)) k) (shift d (seeded_factors (coefficient P) (map degree (rows n i xs))) k)
          (p.is k l) (low_shift d z (coefficient s) (seeded_factors (coefficient P) (map degree (rows n i xs))) p.is k l));
    }

pub product_as : (P : List ℤ) (n i : ℕ) (xs : List ℕ) (y z : ℕ) (s : List ℤ) → y ≡ z → Product P n i xs y s → Product P n i xs z s
product_as P n i xs y z s e p = record { len = p.len ∙ e; is = λ k l. p.is k (omega arith) }

-- past w it is 0
unfoldable pub Past : List ℤ → ℕ → ℕ → List ℕ → ℕ → ℕ → Type 0
Past P n m xs w z = (j : ℕ) → w ≤ j → j < z → seeded_factors (coefficient P) (map degree (rows n m xs)) j ≡ pos 0

pub past_none : (P : List ℤ) (n : ℕ) (xs : List ℕ) (w z : ℕ) → (w ≡ length P) ⊎ (w ≡ z) → Past P n 0 xs w z
unfolding Past
past_none P n xs w z (inl e) j h l = get_or-eq_default P (pos 0) (omega arith)
past_none P n xs w z (inr e) j h l = absurd (omega arith)

pub past_more : (P : List ℤ) (n i w d z y : ℕ) (xs : List ℕ) → d ≡ degree (at n i xs) → (y ≡ w + d) ⊎ (y ≡ z) → Past P n i xs w z → Past P n (i + 1) xs y z
unfolding Past
past_more P n i w d z y xs e (inl g) s j h l =
    rw (rows_next n i xs, ← e)
    (ap₂ ◌-ℤ◌ (s j (omega arith) l) (shift_at d j (seeded_factors (coefficient P) (map degree (rows n i xs))) (omega arith) ∙ s (j - d) (omega arith) (omega arith)))
past_more P n i w d z y xs e (inr g) s j h l = absurd (omega arith)

pub past_as : (P : List ℤ) (n m w z v y : ℕ) (xs : List ℕ) → w ≡ v → z ≡ y → Past P n m xs w z → Past P n m xs v y
unfolding Past
past_as P n m w z v y xs p q h j a b = h j (omega arith) (omega arith)

-- a leaf
pub leaf_sums : (P : List ℤ) (n m s : ℕ) (xs : List ℕ) (z : ℕ) (p out new : List ℤ) → Past P n m xs z (length out) → PairwiseCoprime (rows n m xs) → Product P n m xs z p → AddedTo (shift s (coefficient p)) out new
    → AddedTo (shift s (seeded (coefficient P) [] (rows n m xs))) out new
unfolding Past
leaf_sums P n m s xs z p out new e c q a =
    record {
      len = a.len;
      sums = λ k l. a.sums k l ∙ low_add (coefficient out k) (shift s (coefficient p) k) (coefficient out k) (shift s (seeded (coefficient P) [] (rows n m xs)) k) refl
          (low_shift s (length out) (coefficient p) (seeded (coefficient P) [] (rows n m xs)) (λ j g. go j g (ltb j z) refl ∙ ap low (sym (seeded_coprime (coefficient P) (rows n m xs) j c))) k l);
      words = a.words;
    }
  where
    go : (j : ℕ) → j < length out → (t : Bool) → ltb j z ≡ t → low (coefficient p j) ≡ low (seeded_factors (coefficient P) (map degree (rows n m xs)) j)
    go j g true r = q.is j (ltb-true j z r)
    go j g false r = ap low (get_or-eq_default p (pos 0) (omega (arith, q.len, ltb-false j z r)) ∙ sym (e j (ltb-false j z r) g))

-- add_shifted's end where the seed is short
pub adding_short : (s : ℕ) (neg : Bool) (p : List ℤ) (out : List ℤ) (k : ℕ) (new : List ℤ) → s ≤ k → length p ≤ k - s → Adding s (λ j. by neg (coefficient p j)) out k new → AddedTo (shift s (λ j. by neg (coefficient p j))) out new
adding_short s neg p out k new h l a = record { len = a.len; sums = λ j g. go j g (ltb j k) refl; words = a.words }
  where
    none : (b : Bool) → by b (pos 0) ≡ pos 0
    none true = refl
    none false = refl

    go : (j : ℕ) → j < length out → (t : Bool) → ltb j k ≡ t → low (coefficient new j) ≡ low (coefficient out j +ℤ shift s (λ j. by neg (coefficient p j)) j)
    go j g true q = a.done j (ltb-true j k q) g
    go j g false q =
        let r : k ≤ j = ltb-false j k q in
        ap low
        (a.todo j r
        ∙ sym (+ℤ_idr (coefficient out j))
        ∙ ap (λ (z : ℤ). coefficient out j +ℤ z) (sym (shift_at s j (λ j. by neg (coefficient p j)) (omega arith) ∙ ap (by neg) (get_or-eq_default p (pos 0) (omega arith)) ∙ none neg)))
