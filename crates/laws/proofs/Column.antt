-- One variable's exponents in the first i monomials of a list of cells, and the choice of a variable to split on.
--   above n v e xs i                == how many of the first i monomials have variable v at least e times
--   Choosing n m xs count v e       == two monomials reach v to the e, where count is two or more; else the list is pairwise coprime
-- In this file: how `above` grows, and that a list each of whose variables is in one monomial at most is pairwise coprime.
use mathlib.Core.Path.{◌≡◌, refl, sym, ap, ap₂}
use mathlib.Core.Logic.{inl, inr}
use mathlib.Core.Bool.{Bool, true, false, ◌&&◌}
use mathlib.Core.List.{List, [], ◌∷◌}
use Prim.Native.Nat.{ℕ, zero, suc, ◌+◌, ◌*◌, ◌≤◌, ◌<◌, min}
use native.Mathlib.Omega.{arith}
use native.Mathlib.Numerals.{add-one}
use lib.Dec.{leb, ltb, eqb}
use lib.ListN.{length, get_or, get_or-eq_default}
use borrow.Author.Tests.{le-leb, lt-leb, leb-true, leb-false, ltb-true, ltb-false, eqb-true, eqb-false}
use Rattle.laws.specs.Monomial.{coprime}
use Rattle.laws.specs.Count.{bit}
use Rattle.laws.proofs.Monomial.{min_apart}
use Rattle.laws.proofs.Numerator.{AllCoprime, PairwiseCoprime}
use Rattle.laws.proofs.Rows.{at, rows, at_length, at_cell}

-- how many of the first i rows have the variable v at least e times
abbrev pub above : ℕ → ℕ → ℕ → List ℕ → ℕ → ℕ
above n v e xs zero = 0
above n v e xs (suc i) = bit (leb e (get_or xs (i * n + v) 0)) + above n v e xs i

pub above_yes : (n v e i : ℕ) (xs : List ℕ) → e ≤ get_or xs (i * n + v) 0 → above n v e xs (i + 1) ≡ 1 + above n v e xs i
above_yes n v e i xs h = rw (add-one i, le-leb e (get_or xs (i * n + v) 0) h)

pub above_no : (n v e i : ℕ) (xs : List ℕ) → get_or xs (i * n + v) 0 < e → above n v e xs (i + 1) ≡ above n v e xs i
above_no n v e i xs h = rw (add-one i, lt-leb e (get_or xs (i * n + v) 0) h) (omega arith)

bit_leb : (d e x : ℕ) → d ≤ e → bit (leb e x) ≤ bit (leb d x)
bit_leb d e x h = go (leb d x) (leb e x) refl refl
  where
    go : (s t : Bool) → leb d x ≡ s → leb e x ≡ t → bit t ≤ bit s
    go true true p q = omega arith
    go true false p q = omega arith
    go false true p q = absurd (omega (arith, leb-false d x p, leb-true e x q))
    go false false p q = omega arith

-- a greater bound counts no more
pub above_mono : (n v d e : ℕ) (xs : List ℕ) (i : ℕ) → d ≤ e → above n v e xs i ≤ above n v d xs i
above_mono n v d e xs zero h = omega arith
above_mono n v d e xs (suc i) h = omega (arith, bit_leb d e (get_or xs (i * n + v) 0) h, above_mono n v d e xs i h)

-- two rows that both have v
pub above_one : (n v e : ℕ) (xs : List ℕ) (i j : ℕ) → j < i → e ≤ get_or xs (j * n + v) 0 → 1 ≤ above n v e xs i
above_one n v e xs zero j h g = absurd (omega arith)
above_one n v e xs (suc i) j h g = go (eqb j i) refl (λ l. above_one n v e xs i j l g)
  where
    go : (t : Bool) → eqb j i ≡ t → (j < i → 1 ≤ above n v e xs i) → 1 ≤ above n v e xs (suc i)
    go true p f =
        let q : j ≡ i = eqb-true j i p in
        omega (arith, ap bit (le-leb e (get_or xs (i * n + v) 0) (rw (sym q) g)))
    go false p f = omega (arith, f (omega (arith, eqb-false j i p)))

above_two : (n v e : ℕ) (xs : List ℕ) (k i j : ℕ) → j < i → i < k → e ≤ get_or xs (j * n + v) 0 → e ≤ get_or xs (i * n + v) 0 → 2 ≤ above n v e xs k
above_two n v e xs zero i j h l g f = absurd (omega arith)
above_two n v e xs (suc k) i j h l g f = go (eqb i k) refl (λ q. above_two n v e xs k i j h q g f)
  where
    go : (t : Bool) → eqb i k ≡ t → (i < k → 2 ≤ above n v e xs k) → 2 ≤ above n v e xs (suc k)
    go true p r =
        let q : i ≡ k = eqb-true i k p in
        omega (arith, ap bit (le-leb e (get_or xs (k * n + v) 0) (rw (sym q) f)), above_one n v e xs k j (omega arith) g)
    go false p r = omega (arith, r (omega (arith, eqb-false i k p)))

-- rows no two of which have a variable in common
pub coprime_cells : (a b : List ℕ) → ((v : ℕ) → min (get_or a v 0) (get_or b v 0) ≡ 0) → coprime a b ≡ true
coprime_cells [] b h = refl
coprime_cells (x ∷ a) [] h = refl
coprime_cells (x ∷ a) (y ∷ b) h = ap₂ ◌&&◌ (min_apart x y (h 0)) (coprime_cells a b (λ v. h (suc v)))

module _ (n m : ℕ) (xs : List ℕ) (fits : m * n ≤ length xs) (few : (v : ℕ) → v < n → above n v 1 xs m < 2) where
  coprime_rows : (i j : ℕ) → j < i → i < m → coprime (at n i xs) (at n j xs) ≡ true
  coprime_rows i j h l = coprime_cells (at n i xs) (at n j xs) (λ v. go v (ltb v n) refl)
    where
      zeros : (v : ℕ) → v < n → min (get_or xs (i * n + v) 0) (get_or xs (j * n + v) 0) ≡ 0
      zeros v g = by (ltb 0 (get_or xs (i * n + v) 0)) (ltb 0 (get_or xs (j * n + v) 0)) refl refl
        where
          by : (s t : Bool) → ltb 0 (get_or xs (i * n + v) 0) ≡ s → ltb 0 (get_or xs (j * n + v) 0) ≡ t → min (get_or xs (i * n + v) 0) (get_or xs (j * n + v) 0) ≡ 0
          by true true p q = absurd (omega (arith, few v g, above_two n v 1 xs m i j h l (omega (arith, ltb-true 0 (get_or xs (j * n + v) 0) q)) (omega (arith, ltb-true 0 (get_or xs (i * n + v) 0) p))))
          by true false p q = omega (arith, ltb-false 0 (get_or xs (j * n + v) 0) q)
          by false t p q = omega (arith, ltb-false 0 (get_or xs (i * n + v) 0) p)

      go : (v : ℕ) (t : Bool) → ltb v n ≡ t → min (get_or (at n i xs) v 0) (get_or (at n j xs) v 0) ≡ 0
      go v true p = rw (at_cell n i v xs (ltb-true v n p), at_cell n j v xs (ltb-true v n p)) (zeros v (ltb-true v n p))
      go v false p =
          let e : length (at n i xs) ≡ n = at_length n m i xs l fits in
          let d : get_or (at n i xs) v 0 ≡ 0 = get_or-eq_default (at n i xs) 0 (omega (arith, ltb-false v n p)) in
          omega arith

  all_coprime : (i k : ℕ) → k ≤ i → i < m → AllCoprime (at n i xs) (rows n k xs)
  all_coprime i zero h l a j = absurd j
  all_coprime i (suc k) h l a (inl e) = rw e (coprime_rows i k (omega arith) l)
  all_coprime i (suc k) h l a (inr j) = all_coprime i k (omega arith) l a j

  pub pairwise_coprime : (k : ℕ) → k ≤ m → PairwiseCoprime (rows n k xs)
  pairwise_coprime zero h = tt
  pairwise_coprime (suc k) h = (all_coprime k k (omega arith) (omega arith), pairwise_coprime k (omega arith))

-- what the choice says
pub record Choosing (n m : ℕ) (xs : List ℕ) (count v e : ℕ) : Type 0 where
  pub shared : 2 ≤ count → (v < n) × (0 < e) × (2 ≤ above n v e xs m)
  pub coprime : count < 2 → PairwiseCoprime (rows n m xs)
