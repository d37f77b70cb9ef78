-- Two parts of a list with no variable in common: the seed times the numerator of the one is the seed of the other.
--   Sided n b m xs v                == no variable below v is both in the first b of the m monomials and in the others
--   Regrouped n m level w xs r ys   == ys has the multiples of xs; if r is not 0, its first r monomials are apart from the others, and level and w
--                                      allow a part
-- In this file: the loops' steps, and that the one part after the other is the whole (parts_sums).
use mathlib.Core.Path.{◌≡◌, refl, sym, ap, ap₂, ◌∙◌}
use mathlib.Core.Logic.{◌⊎◌, inl, inr}
use mathlib.Core.Bool.{Bool, true, false, ◌||◌}
use mathlib.Core.List.{List, [], ◌++◌}
use Prim.Native.Nat.{ℕ, zero, suc, ◌+◌, ◌*◌, ◌-◌, ◌≤◌, ◌<◌, min}
use native.Mathlib.Omega.{arith}
use native.Mathlib.Nat.{add-mul}
use lib.Dec.{ltb, eqb}
use lib.ListN.{length, get_or, take, drop, get_or-eq_default}
use lib.Seq.{get_or-drop, drop-drop}
use lib.IntN.{ℤ, ◌+ℤ◌, +ℤ_idl}
use borrow.Author.Count.{below_more}
use borrow.Author.Tests.{ltb-true, ltb-false, eqb-true, eqb-false, le-leb}
use Rattle.laws.specs.Monomial.{divides, coprime}
use Rattle.laws.specs.Ideal.{multiple}
use Rattle.laws.specs.Coefficients.{coefficient, shift}
use Rattle.laws.specs.Count.{bit}
use Rattle.laws.proofs.Ideal.{within_append, multiple_append}
use Rattle.laws.proofs.Numerator.{AllCoprime}
use Rattle.laws.proofs.Rows.{at, rows, rows_within, at_length, at_cell}
use Rattle.laws.proofs.Column.{above, above_one, coprime_cells}
use Rattle.laws.proofs.Pass.{Thinned}
use Rattle.laws.proofs.Added.{low, low_add, AddedTo, Zeros}
use Rattle.laws.proofs.Seed.{seeded, seeded_low, seeded_same, seeded_apart, Apart}

pub record Regrouped (n m level w : ℕ) (xs : List ℕ) (r : ℕ) (ys : List ℕ) : Type 0 where
  pub len : length ys ≡ length xs
  pub less : r ≤ m
  pub same : (u : List ℕ) → multiple (rows n m ys) u ≡ multiple (rows n m xs) u
  pub found : 0 < r → (level < 16) × (w ≤ 512) × (r < m) × Apart (rows n r ys) (rows n (m - r) (drop (r * n) ys))

-- apart: no variable below v is on both sides
pub record Sided (n b m : ℕ) (xs : List ℕ) (v : ℕ) : Type 0 where
  pub each : (z : ℕ) → z < v → (above n z 1 xs b ≡ 0) ⊎ (above n z 1 xs m ≤ above n z 1 xs b)

pub sided_none : (n b m : ℕ) (xs : List ℕ) → Sided n b m xs 0
sided_none n b m xs = record { each = λ z h. absurd (omega arith) }

pub sided_more : (n b m : ℕ) (xs : List ℕ) (v : ℕ) → (above n v 1 xs b ≡ 0) ⊎ (above n v 1 xs m ≤ above n v 1 xs b) → Sided n b m xs v → Sided n b m xs (v + 1)
sided_more n b m xs v e s = record { each = below_more _ _ s.each e }

above_le : (n v e : ℕ) (xs : List ℕ) (b m : ℕ) → b ≤ m → above n v e xs b ≤ above n v e xs m
above_le n v e xs b zero h = let f : b ≡ 0 = omega arith in rw f (omega arith)
above_le n v e xs b (suc m) h = go (eqb b (suc m)) refl (λ l. above_le n v e xs b m l)
  where
    go : (t : Bool) → eqb b (suc m) ≡ t → (b ≤ m → above n v e xs b ≤ above n v e xs m) → above n v e xs b ≤ above n v e xs (suc m)
    go true p f = let q : b ≡ suc m = eqb-true b (suc m) p in rw q (omega arith)
    go false p f = omega (arith, f (omega (arith, eqb-false b (suc m) p)))

above_grow : (n v e : ℕ) (xs : List ℕ) (b m j : ℕ) → b ≤ j → j < m → e ≤ get_or xs (j * n + v) 0 → above n v e xs b < above n v e xs m
above_grow n v e xs b zero j h l g = absurd (omega arith)
above_grow n v e xs b (suc m) j h l g = go (eqb j m) refl (λ q. above_grow n v e xs b m j h q g)
  where
    go : (t : Bool) → eqb j m ≡ t → (j < m → above n v e xs b < above n v e xs m) → above n v e xs b < above n v e xs (suc m)
    go true p f = let q : j ≡ m = eqb-true j m p in omega (arith, ap bit (le-leb e (get_or xs (m * n + v) 0) (rw (sym q) g)), above_le n v e xs b m (omega arith))
    go false p f = omega (arith, f (omega (arith, eqb-false j m p)))

module _ (n b m : ℕ) (xs : List ℕ) (fits : m * n ≤ length xs) (half : b ≤ m) (s : Sided n b m xs n) where
  side_coprime : (i j : ℕ) → i < b → j < m - b → coprime (at n i xs) (at n j (drop (b * n) xs)) ≡ true
  side_coprime i j h l = coprime_cells (at n i xs) (at n j (drop (b * n) xs)) (λ v. go v (ltb v n) refl)
    where
      e : (b + j) * n ≡ b * n + j * n
      e = add-mul b j n

      zeros : (v : ℕ) → v < n → min (get_or xs (i * n + v) 0) (get_or xs ((b + j) * n + v) 0) ≡ 0
      zeros v g = by_two (ltb 0 (get_or xs (i * n + v) 0)) (ltb 0 (get_or xs ((b + j) * n + v) 0)) refl refl
        where
          no : 1 ≤ get_or xs (i * n + v) 0 → 1 ≤ get_or xs ((b + j) * n + v) 0 → (above n v 1 xs b ≡ 0) ⊎ (above n v 1 xs m ≤ above n v 1 xs b) → ⊥
          no p q (inl z) = omega (arith, above_one n v 1 xs b i h p)
          no p q (inr z) = omega (arith, above_grow n v 1 xs b m (b + j) (omega arith) (omega arith) q)

          by_two : (s t : Bool) → ltb 0 (get_or xs (i * n + v) 0) ≡ s → ltb 0 (get_or xs ((b + j) * n + v) 0) ≡ t → min (get_or xs (i * n + v) 0) (get_or xs ((b + j) * n + v) 0) ≡ 0
          by_two true true p q = absurd (no (omega (arith, ltb-true 0 (get_or xs (i * n + v) 0) p)) (omega (arith, ltb-true 0 (get_or xs ((b + j) * n + v) 0) q)) (s.each v g))
          by_two true false p q = omega (arith, ltb-false 0 (get_or xs ((b + j) * n + v) 0) q)
          by_two false t p q = omega (arith, ltb-false 0 (get_or xs (i * n + v) 0) p)

      go : (v : ℕ) (t : Bool) → ltb v n ≡ t → min (get_or (at n i xs) v 0) (get_or (at n j (drop (b * n) xs)) v 0) ≡ 0
      go v true p =
          let q = ltb-true v n p in
          let f : b * n + (j * n + v) ≡ (b + j) * n + v = omega (arith, e) in
          rw (at_cell n i v xs q, at_cell n j v (drop (b * n) xs) q, get_or-drop (b * n) xs (j * n + v) 0, f) (zeros v q)
      go v false p =
          let k : length (at n i xs) ≡ n = at_length n m i xs (omega arith) fits in
          let d : get_or (at n i xs) v 0 ≡ 0 = get_or-eq_default (at n i xs) 0 (omega (arith, ltb-false v n p)) in
          omega arith

  side_all : (i k : ℕ) → i < b → k ≤ m - b → AllCoprime (at n i xs) (rows n k (drop (b * n) xs))
  side_all i zero h l a e = absurd e
  side_all i (suc k) h l a (inl e) = rw e (side_coprime i k h (omega arith))
  side_all i (suc k) h l a (inr e) = side_all i k h (omega arith) a e

  side_rows : (k : ℕ) → k ≤ b → Apart (rows n k xs) (rows n (m - b) (drop (b * n) xs))
  side_rows zero h a e = absurd e
  side_rows (suc k) h a (inl e) = rw e (side_all k (m - b) (omega arith) (omega arith))
  side_rows (suc k) h a (inr e) = side_rows k (omega arith) a e

  pub sided_end : Apart (rows n b xs) (rows n (m - b) (drop (b * n) xs))
  sided_end = side_rows b (omega arith)

pub regrouped_same : (n m level w : ℕ) (xs ys : List ℕ) → Thinned n m xs m ys → Regrouped n m level w xs 0 ys
regrouped_same n m level w xs ys t = record { len = t.len; less = omega arith; same = t.same; found = λ h. absurd (omega arith) }

pub regrouped_found : (n m level w r : ℕ) (xs ys : List ℕ) → Thinned n m xs m ys → r < m → level < 16 → w ≤ 512 → Apart (rows n r ys) (rows n (m - r) (drop (r * n) ys)) → Regrouped n m level w xs r ys
regrouped_found n m level w r xs ys t h l k a = record { len = t.len; less = omega arith; same = t.same; found = λ p. (l, k, h, a) }

-- two parts: the seed times the numerator of the one is the seed of the other
low_shift_past : (s z : ℕ) (f g : ℕ → ℤ) → ((j : ℕ) → j < z → low (f j) ≡ low (g j)) → (k : ℕ) → k < s + z → low (shift s f k) ≡ low (shift s g k)
low_shift_past zero z f g h k l = h k (omega arith)
low_shift_past (suc s) z f g h zero l = refl
low_shift_past (suc s) z f g h (suc k) l = low_shift_past s z f g h k (omega arith)

rows_two : (n b a : ℕ) (xs u : List ℕ) → multiple (rows n (b + a) xs) u ≡ (multiple (rows n b xs) u || multiple (rows n a (drop (b * n) xs)) u)
rows_two n b zero xs u = ap (λ (z : ℕ). multiple (rows n z xs) u) e ∙ or_none (multiple (rows n b xs) u)
  where
    e : b + 0 ≡ b
    e = omega arith

    or_none : (x : Bool) → x ≡ (x || false)
    or_none true = refl
    or_none false = refl
rows_two n b (suc a) xs u =
    ap (λ (z : ℕ). multiple (rows n z xs) u) e
    ∙ ap₂ ◌||◌ (ap (λ (z : List ℕ). divides (take n z) u) f) (rows_two n b a xs u)
    ∙ or_swap (divides (at n a (drop (b * n) xs)) u) (multiple (rows n b xs) u) (multiple (rows n a (drop (b * n) xs)) u)
  where
    e : b + suc a ≡ suc (b + a)
    e = omega arith

    f : drop ((b + a) * n) xs ≡ drop (a * n) (drop (b * n) xs)
    f = ap (λ (z : ℕ). drop z xs) (add-mul b a n) ∙ sym (drop-drop (a * n) (b * n) xs)

    or_swap : (x y z : Bool) → (x || (y || z)) ≡ (y || (x || z))
    or_swap true true z = refl
    or_swap true false z = refl
    or_swap false y z = refl

pub parts_sums : (P Q : List ℤ) (n b a s : ℕ) (xs ys T : List ℕ) (q₀ q out new : List ℤ) → rows n b ys ≡ rows n b xs → T ≡ drop (b * n) xs → Apart (rows n b xs) (rows n a (drop (b * n) xs))
    → Zeros q₀ → length q₀ ≡ length out - s → s ≤ length out → AddedTo (shift 0 (seeded (coefficient P) [] (rows n a T))) q₀ q → ((k : ℕ) → coefficient Q k ≡ coefficient q k)
    → AddedTo (shift s (seeded (coefficient Q) [] (rows n b ys))) out new → AddedTo (shift s (seeded (coefficient P) [] (rows n (b + a) xs))) out new
unfolding Zeros
parts_sums P Q n b a s xs ys T q₀ q out new er et ap' z0 l0 h w eq v =
    record {
      len = v.len;
      sums = λ k l. v.sums k l ∙ low_add (coefficient out k) (shift s (seeded (coefficient Q) [] (rows n b ys)) k) (coefficient out k) (shift s (seeded (coefficient P) [] (rows n (b + a) xs)) k) refl
          (low_shift_past s (length q₀) (seeded (coefficient Q) [] (rows n b ys)) (seeded (coefficient P) [] (rows n (b + a) xs)) one k (omega arith));
      words = v.words;
    }
  where
    A : List (List ℕ)
    A = rows n a (drop (b * n) xs)

    B : List (List ℕ)
    B = rows n b xs

    seed : (j : ℕ) → j < length q₀ → low (coefficient Q j) ≡ low (seeded (coefficient P) [] A j)
    seed j l =
        ap low (eq j) ∙ w.sums j l
        ∙ ap low (ap₂ ◌+ℤ◌ (z0 j) (ap (λ (Z : List ℕ). seeded (coefficient P) [] (rows n a Z) j) et) ∙ +ℤ_idl (seeded (coefficient P) [] A j))

    one : (j : ℕ) → j < length q₀ → low (seeded (coefficient Q) [] (rows n b ys) j) ≡ low (seeded (coefficient P) [] (rows n (b + a) xs) j)
    one j l =
        ap (λ (L : List (List ℕ)). low (seeded (coefficient Q) [] L j)) er
        ∙ seeded_low (length q₀) (coefficient Q) (seeded (coefficient P) [] A) [] B seed j l
        ∙ ap low
        (sym (seeded_apart (coefficient P) B A j ap')
        ∙ seeded_same n P (B ++ A) (rows n (b + a) xs) (within_append n B A (rows_within n b xs) (rows_within n a (drop (b * n) xs))) (rows_within n (b + a) xs) (λ u g. multiple_append B A u ∙ sym (rows_two n b a xs u)) j)
