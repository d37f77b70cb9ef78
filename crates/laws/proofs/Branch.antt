-- The branch I + (x_v^e): the monomials that x_v^e does not divide are copied behind the list, and x_v^e behind them.
--   Summed n m v e xs i k ys   == k of the first i monomials were copied behind the m monomials of xs; with x_v^e they have the multiples of x_v^e
--                                 and those i
--   Branched n m v e xs r ys   == behind the m monomials of xs lie r, fewer, which have the multiples of x_v^e and those m
use mathlib.Core.Path.{◌≡◌, refl, sym, ap, ◌∙◌}
use mathlib.Core.Logic.{inl}
use mathlib.Core.Bool.{Bool, true, false, ◌||◌, false≢true}
use mathlib.Core.List.{List, ◌∷◌}
use Prim.Native.Nat.{ℕ, suc, ◌+◌, ◌*◌, ◌-◌, ◌≤◌, ◌<◌}
use native.Mathlib.Omega.{arith}
use native.Mathlib.Nat.{suc-mul}
use lib.Dec.{ltb}
use lib.ListN.{length, length-drop, take, drop, get_or, get_or-eq_default}
use lib.Seq.{get_or-drop}
use borrow.Author.Tests.{ltb-true, ltb-false}
use Rattle.laws.specs.Monomial.{divides}
use Rattle.laws.specs.Ideal.{multiple}
use Rattle.laws.proofs.Monomial.{divides_trans}
use Rattle.laws.proofs.Rows.{at, rows, rows_next, row_end, at_length, at_cell, at_ext, rows_ext, Wrote, axis, axis_divides, axis_length, divides_cells}
use Rattle.laws.proofs.Column.{above, above_yes, above_no}

pub record Summed (n m v e : ℕ) (xs : List ℕ) (i k : ℕ) (ys : List ℕ) : Type 0 where
  pub len : length ys ≡ length xs
  pub few : k + above n v e xs i ≡ i
  pub kept : (j : ℕ) → j < m * n → get_or ys j 0 ≡ get_or xs j 0
  pub same : (u : List ℕ) → multiple (axis v e ∷ rows n k (drop (m * n) ys)) u ≡ multiple (axis v e ∷ rows n i xs) u

pub record Branched (n m v e : ℕ) (xs : List ℕ) (r : ℕ) (ys : List ℕ) : Type 0 where
  pub len : length ys ≡ length xs
  pub less : r < m
  pub kept : rows n m ys ≡ rows n m xs
  pub same : (u : List ℕ) → multiple (rows n r (drop (m * n) ys)) u ≡ multiple (axis v e ∷ rows n m xs) u

pub summed_none : (n m v e : ℕ) (xs : List ℕ) → Summed n m v e xs 0 0 xs
summed_none n m v e xs = record { len = refl; few = refl; kept = λ j h. refl; same = λ u. refl }

or_skip : (a b c d : Bool) → (b ≡ true → a ≡ true) → (a || c) ≡ (a || d) → (a || c) ≡ (a || (b || d))
or_skip true b c d f e = refl
or_skip false true c d f e = absurd (false≢true (f refl))
or_skip false false c d f e = e

or_keep : (a b c d : Bool) → (a || c) ≡ (a || d) → (a || (b || c)) ≡ (a || (b || d))
or_keep true b c d e = refl
or_keep false true c d e = refl
or_keep false false c d e = e

pub summed_skip : (n m v e : ℕ) (xs : List ℕ) (i k : ℕ) (ys : List ℕ) → v < n → e ≤ get_or xs (i * n + v) 0 → Summed n m v e xs i k ys → Summed n m v e xs (i + 1) k ys
summed_skip n m v e xs i k ys l h s =
    record {
      len = s.len;
      few = omega (arith, s.few, above_yes n v e i xs h);
      kept = s.kept;
      same = λ u. rw (rows_next n i xs)
          (or_skip (divides (axis v e) u) (divides (at n i xs) u) (multiple (rows n k (drop (m * n) ys)) u) (multiple (rows n i xs) u)
          (divides_trans (axis v e) (at n i xs) u (axis_divides v e (at n i xs) (rw (at_cell n i v xs l) h)))
          (s.same u));
    }

module _ (n m k : ℕ) (ys zs : List ℕ) (f : ℕ → ℕ) (fits : m * n + m * n ≤ length ys) (less : k < m) (w : Wrote ys f (m * n + k * n) n zs) where
  tail_length : length (drop (m * n) zs) ≡ length ys - m * n
  tail_length = length-drop (m * n) zs ∙ ap (λ (z : ℕ). z - m * n) w.len

  tail_kept : rows n k (drop (m * n) zs) ≡ rows n k (drop (m * n) ys)
  tail_kept =
      rows_ext n k (drop (m * n) zs) (drop (m * n) ys) (omega (arith, tail_length, row_end n m k less)) (rw length-drop (omega (arith, row_end n m k less)))
      (λ j h. get_or-drop (m * n) zs j 0 ∙ w.other (m * n + j) (inl (omega arith)) ∙ sym (get_or-drop (m * n) ys j 0))

  tail_row : (a : ℕ) (ws : List ℕ) → a + n ≤ length ws → ((j : ℕ) → j < n → f j ≡ get_or ws (a + j) 0) → at n k (drop (m * n) zs) ≡ take n (drop a ws)
  tail_row a ws h e =
      at_ext n k (drop (m * n) zs) ws a (omega (arith, tail_length, row_end n m k less)) h
      (λ j l. get_or-drop (m * n) zs (k * n + j) 0 ∙ ap (λ (z : ℕ). get_or zs z 0) (omega arith) ∙ w.there j l ∙ e j l)

  front : (j : ℕ) → j < m * n → get_or zs j 0 ≡ get_or ys j 0
  front j h = w.other j (inl (omega arith))

pub summed_keep : (n m v e : ℕ) (xs : List ℕ) (i k : ℕ) (ys zs : List ℕ) → m * n + m * n ≤ length xs → i < m → k < m → get_or xs (i * n + v) 0 < e
    → Wrote ys (λ t. get_or ys (i * n + t) 0) (m * n + k * n) n zs → Summed n m v e xs i k ys → Summed n m v e xs (i + 1) (k + 1) zs
summed_keep n m v e xs i k ys zs g l q h w s =
    record {
      len = w.len ∙ s.len;
      few = omega (arith, s.few, above_no n v e i xs h);
      kept = λ j r. front n m k ys zs (λ t. get_or ys (i * n + t) 0) g' q w j r ∙ s.kept j r;
      same = λ u. rw (rows_next n i xs, rows_next n k (drop (m * n) zs), row, tail_kept n m k ys zs (λ t. get_or ys (i * n + t) 0) g' q w)
          (or_keep (divides (axis v e) u) (divides (at n i xs) u) (multiple (rows n k (drop (m * n) ys)) u) (multiple (rows n i xs) u) (s.same u));
    }
  where
    g' : m * n + m * n ≤ length ys
    g' = omega (arith, s.len)

    row : at n k (drop (m * n) zs) ≡ at n i xs
    row = tail_row n m k ys zs (λ t. get_or ys (i * n + t) 0) g' q w (i * n) xs (omega (arith, row_end n m i l)) (λ j r. s.kept (i * n + j) (omega (arith, row_end n m i l)))

pub summed_end : (n m v e : ℕ) (xs : List ℕ) (k : ℕ) (ys zs : List ℕ) → m * n + m * n ≤ length xs → v < n → 2 ≤ above n v e xs m
    → Wrote ys (λ t. get_or (axis v e) t 0) (m * n + k * n) n zs → Summed n m v e xs m k ys → Branched n m v e xs (k + 1) zs
summed_end n m v e xs k ys zs g l h w s =
    record {
      len = w.len ∙ s.len;
      less = omega (arith, s.few);
      kept = rows_ext n m zs xs (omega (arith, w.len, s.len)) (omega arith) (λ j r. front n m k ys zs (λ t. get_or (axis v e) t 0) g' q w j r ∙ s.kept j r);
      same = λ u. rw (rows_next n k (drop (m * n) zs), tail_kept n m k ys zs (λ t. get_or (axis v e) t 0) g' q w)
          (ap (λ (b : Bool). b || multiple (rows n k (drop (m * n) ys)) u) (divides_cells (at n k (drop (m * n) zs)) (axis v e) u (λ j. go j (ltb j n) refl)) ∙ s.same u);
    }
  where
    g' : m * n + m * n ≤ length ys
    g' = omega (arith, s.len)

    q : k < m
    q = omega (arith, s.few)

    a : length (at n k (drop (m * n) zs)) ≡ n
    a = at_length n (suc k) k (drop (m * n) zs) (omega arith) (omega (arith, tail_length n m k ys zs (λ t. get_or (axis v e) t 0) g' q w, row_end n m k q, suc-mul k n))

    go : (j : ℕ) (t : Bool) → ltb j n ≡ t → get_or (at n k (drop (m * n) zs)) j 0 ≡ get_or (axis v e) j 0
    go j true p =
        at_cell n k j (drop (m * n) zs) (ltb-true j n p)
        ∙ get_or-drop (m * n) zs (k * n + j) 0
        ∙ ap (λ (z : ℕ). get_or zs z 0) (omega arith)
        ∙ w.there j (ltb-true j n p)
    go j false p =
        get_or-eq_default (at n k (drop (m * n) zs)) 0 (omega (arith, a, ltb-false j n p))
        ∙ sym (get_or-eq_default (axis v e) 0 (omega (arith, axis_length v e, ltb-false j n p)))

pub summed_at : (n m v e : ℕ) (xs : List ℕ) (i k : ℕ) (ys : List ℕ) → i ≤ m → m ≤ i → Summed n m v e xs i k ys → Summed n m v e xs m k ys
summed_at n m v e xs i k ys h g s = let q : i ≡ m = omega arith in rw q at s

pub summed_less : (n m v e : ℕ) (xs : List ℕ) (i k : ℕ) (ys : List ℕ) → i ≤ m → m ≤ i → 2 ≤ above n v e xs m → Summed n m v e xs i k ys → k + 2 ≤ m
summed_less n m v e xs i k ys h g l s = let t = summed_at n m v e xs i k ys h g s in omega (arith, t.few)
