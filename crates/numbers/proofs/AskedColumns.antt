-- The sizes asked, variable by variable.
--   Counted n L v count k == `count` different exponents of variable v are not among those from the cell k on
--   Summed n L sum v      == `sum` pairs have a variable below v
-- In this file:
--   counted-..    the loop over the exponents of one variable
--   summed-..     the loop over the variables, whose greatest exponents are known; column-..: one of them
--   degree_known  the degree of the greatest exponents
use Rattle.std.proofs.Common.{◌≡◌, ℕ, suc, ◌+◌, ◌*◌, ◌/◌, ◌%◌, ◌<◌, ◌≤◌, Bool, true, false, cond, ◌||◌, eqb, ◌⊎◌, List, get_or, sym, ap, ◌∙◌, inl, inr, mod-eq_of_lt, arith, w64, Fits, eq-eqb, ne_eqb}
use native.Mathlib.Nat.{div-eq_of_lt, add-mod_right}
use Rattle.laws.specs.Monomial.{degree}
use Rattle.laws.specs.Room.{column, coefficients_asked, distinct, holds}
use Rattle.laws.specs.Sums.{sum_below}
use Rattle.laws.proofs.Asked.{Lists, both, coefficients_are, columns, distinct_end, distinct_most, distinct_next, sum_below_next}
use Rattle.laws.proofs.Columns.{Greatest, degree_greatest, distinct_at}
use Rattle.numbers.proofs.AskedCells.{Found, behind, cell_at, found_held, found_new, from, from_next, row_below, row_past}

-- the loop over the exponents of one variable

abbrev pub Counted : ℕ → List (List ℕ) → ℕ → ℕ → ℕ → Type 0
Counted n L v count k = (k % n ≡ v) × (count + distinct (from n L k) ≡ distinct (column L v)) × (count ≤ k)

pub counted_none : (n : ℕ) (L : List (List ℕ)) (v : ℕ) → v < n → Counted n L v 0 v
counted_none n L v h = (mod-eq_of_lt h, rw (mod-eq_of_lt h, div-eq_of_lt h) (omega arith), omega arith)

module _ {n s t : ℕ} {xs ys : List ℕ} (l : Lists n s xs t ys) (z : 0 < n) (v count k : ℕ) (q : Counted n (both n s xs t ys) v count k) where
  module _ (g : k < s * n + t * n) (x : ℕ) (e : x ≡ cell_at n (both n s xs t ys) k) where
    counted : (new : ℕ) (b : Bool) → (eqb x 0 || holds x (behind n (both n s xs t ys) k)) ≡ b → new ≡ cond b count (count + 1) → Counted n (both n s xs t ys) v new (k + n)
    counted new b f i = (add-mod_right k n ∙ q.0, sums b f i, few b i)
      where
        here : distinct (from n (both n s xs t ys) k) ≡ cond (eqb x 0 || holds x (behind n (both n s xs t ys) k)) (distinct (behind n (both n s xs t ys) k)) (suc (distinct (behind n (both n s xs t ys) k)))
        here = distinct_next (column (both n s xs t ys) (k % n)) (k / n) (row_below l z k g) ∙ rw (sym e)

        sums : (b : Bool) → (eqb x 0 || holds x (behind n (both n s xs t ys) k)) ≡ b → new ≡ cond b count (count + 1) → new + distinct (from n (both n s xs t ys) (k + n)) ≡ distinct (column (both n s xs t ys) v)
        sums true f i = omega (arith, q.1, rw f at here, ap distinct (from_next n (both n s xs t ys) k z))
        sums false f i = omega (arith, q.1, rw f at here, ap distinct (from_next n (both n s xs t ys) k z))

        few : (b : Bool) → new ≡ cond b count (count + 1) → new ≤ k + n
        few true i = omega (arith, q.2)
        few false i = omega (arith, q.2)

    pub counted_zero : (new : ℕ) → x ≡ 0 → new ≡ count → Counted n (both n s xs t ys) v new (k + n)
    counted_zero new h i = counted new true (ap (λ (b : Bool). b || holds x (behind n (both n s xs t ys) k)) (eq-eqb x 0 h)) i

    module _ (h : x ≡ 0 → ⊥) (y : ℕ) (f : Found n (both n s xs t ys) (k + n) x y) (new : ℕ) where
      some : (b : Bool) → holds x (behind n (both n s xs t ys) k) ≡ b → (eqb x 0 || holds x (behind n (both n s xs t ys) k)) ≡ b
      some b p = ap (λ (c : Bool). c || holds x (behind n (both n s xs t ys) k)) (ne_eqb x 0 h) ∙ p

      pub counted_held : x ≡ y → new ≡ count → Counted n (both n s xs t ys) v new (k + n)
      counted_held w i = counted new true (some true (found_held n (both n s xs t ys) k x y z f h w)) i

      pub counted_new : (x ≡ y → ⊥) → new ≡ count + 1 → Counted n (both n s xs t ys) v new (k + n)
      counted_new w i = counted new false (some false (found_new n (both n s xs t ys) k x y z f w)) i

  pub counted_all : s * n + t * n ≤ k → count ≡ distinct (column (both n s xs t ys) v)
  counted_all g = omega (arith, q.1, distinct_end (column (both n s xs t ys) (k % n)) (k / n) (row_past l z k g))

-- the loop over the variables, whose greatest exponents are known

abbrev pub Summed : ℕ → List (List ℕ) → ℕ → ℕ → Type 0
Summed n L sum v = (v ≤ n) × (sum ≡ sum_below v (λ w. distinct (column L w))) × (sum ≤ v * 4096)

module _ {n s t : ℕ} {xs ys : List ℕ} (l : Lists n s xs t ys) (v : ℕ) (g : v < n) where
  module _ {us : List ℕ} (k : Greatest n (both n s xs t ys) us) where
    pub column_pairs : (p : ℕ) → ((1 < get_or us v 0) × (p ≡ distinct (column (both n s xs t ys) v))) ⊎ ((get_or us v 0 ≤ 1) × (p ≡ get_or us v 0)) → p ≡ distinct (column (both n s xs t ys) v)
    column_pairs p (inl w) = w.1
    column_pairs p (inr w) = w.1 ∙ sym (distinct_at k v g w.0)

  module _ (sum : ℕ) (q : Summed n (both n s xs t ys) sum v) (p : ℕ) (e : p ≡ distinct (column (both n s xs t ys) v)) where
    few : p ≤ 4096
    few = omega (arith, distinct_most (column (both n s xs t ys) v), columns l v, l.count)

    pub pairs_more : Fits w64 (sum + p)
    pairs_more = omega (arith, few, q.2, l.width)

    pub summed_next : Summed n (both n s xs t ys) (sum + p) (v + 1)
    summed_next = (omega arith, sum_below_next v sum p (λ w. distinct (column (both n s xs t ys) w)) e q.1, omega (arith, few, q.2))

-- the degree of the greatest exponents
pub degree_known : {n s t : ℕ} {xs ys us : List ℕ} → Lists n s xs t ys → Greatest n (both n s xs t ys) us → (d : ℕ) → (d ≡ degree us) × (d ≤ 4294901760) → (d + 1 ≡ coefficients_asked (both n s xs t ys)) × (d ≤ 8192 * 4096 * 65535)
degree_known l k d e = (ap (λ (q : ℕ). q + 1) (e.0 ∙ degree_greatest k) ∙ coefficients_are l, omega (arith, e.1))
