-- One turn of the engine: N(I) = N(I + (x_v^e)) + t^e · N(I : x_v^e), each side read from the cells.
--   split          lists with the multiples of the two sides
--   turn           the two sides as the code leaves them
--   running_same   the same multiples in another order
use mathlib.Core.Path.{◌≡◌, sym, ap, ap₂, ◌∙◌}
use mathlib.Core.List.{List, [], ◌∷◌}
use Prim.Native.Nat.{ℕ, ◌+◌, ◌*◌, ◌-◌, ◌≤◌, ◌<◌}
use native.Mathlib.Omega.{arith}
use lib.ListN.{length, take, drop}
use lib.IntN.{ℤ, ◌+ℤ◌}
use borrow.Rule.Slice.PartMut.{put_mid}
use Rattle.laws.specs.Ideal.{Within, multiple, colon}
use Rattle.laws.specs.Coefficients.{coefficient, shift}
use Rattle.laws.proofs.Ideal.{within_cons}
use Rattle.laws.proofs.Coefficients.{shift_ext, shift_shift}
use Rattle.laws.proofs.Rows.{rows, rows_within, axis, axis_degree, axis_length}
use Rattle.laws.proofs.Pass.{ColonOf}
use Rattle.laws.proofs.Branch.{Branched}
use Rattle.laws.proofs.Room.{put_rows, part_whole, colon_within}
use Rattle.laws.proofs.Added.{low, Running}
use Rattle.laws.proofs.Seed.{seeded, seeded_split, seeded_same, shift_add}

pub split : (P : List ℤ) (n v e s : ℕ) (L A B : List (List ℕ)) → v < n → Within n L → Within n A → Within n B → Within n (colon L (axis v e)) → ((u : List ℕ) → multiple A u ≡ multiple (axis v e ∷ L) u) → ((u : List ℕ) → multiple B u ≡ multiple (colon L (axis v e)) u)
    → (k : ℕ) → shift s (seeded (coefficient P) [] L) k ≡ shift s (seeded (coefficient P) [] A) k +ℤ shift (s + e) (seeded (coefficient P) [] B) k
split P n v e s L A B h wl wa wb wc ea eb k =
    shift_add s (seeded (coefficient P) [] L) (seeded (coefficient P) [] A) (shift e (seeded (coefficient P) [] B)) one k
    ∙ ap (λ (z : ℤ). shift s (seeded (coefficient P) [] A) k +ℤ z) (shift_shift s e (seeded (coefficient P) [] B) k)
  where
    p : Within n (axis v e ∷ L)
    p = within_cons n (axis v e) L (omega (arith, axis_length v e)) wl

    one : (j : ℕ) → seeded (coefficient P) [] L j ≡ seeded (coefficient P) [] A j +ℤ shift e (seeded (coefficient P) [] B) j
    one j =
        seeded_split (coefficient P) (axis v e) L j
        ∙ ap₂ ◌+ℤ◌ (seeded_same n P (axis v e ∷ L) A p wa (λ u q. sym (ea u)) j)
        (ap (λ (z : ℕ). shift z (seeded (coefficient P) [] (colon L (axis v e))) j) (axis_degree v e)
        ∙ shift_ext e (seeded (coefficient P) [] (colon L (axis v e))) (seeded (coefficient P) [] B) (λ i. seeded_same n P (colon L (axis v e)) B wc wb (λ u q. sym (eb u)) i) j)

pub turn : (P : List ℤ) (n left v e s k l : ℕ) (xs A G Z : List ℕ) → v < n → left * n ≤ length A → Branched n left v e xs k A
    → length G ≡ length (take (length A - left * n) (drop (left * n) A)) → ColonOf n left v e (put_mid (left * n) (length A - left * n) A G) l Z
    → (j : ℕ) → shift s (seeded (coefficient P) [] (rows n left xs)) j ≡ shift s (seeded (coefficient P) [] (rows n k (take (length A - left * n) (drop (left * n) A)))) j +ℤ shift (s + e) (seeded (coefficient P) [] (rows n l Z)) j
turn P n left v e s k l xs A G Z h g b q d =
    split P n v e s (rows n left xs) (rows n k (take (length A - left * n) (drop (left * n) A))) (rows n l Z) h
    (rows_within n left xs) (rows_within n k (take (length A - left * n) (drop (left * n) A))) (rows_within n l Z) (colon_within n (rows n left xs) (axis v e) (rows_within n left xs))
    (λ u. ap (λ (T : List ℕ). multiple (rows n k T) u) (part_whole (left * n) A) ∙ b.same u)
    (λ u. d.same u ∙ ap (λ (L : List (List ℕ)). multiple (colon L (axis v e)) u) (put_rows n left A G g q ∙ b.kept))

-- the same multiples in another order
pub running_same : (P : List ℤ) (f : ℕ → ℤ) (out : List ℤ) (n m k s : ℕ) (xs ys : List ℕ) (new : List ℤ) → ((u : List ℕ) → multiple (rows n k ys) u ≡ multiple (rows n m xs) u)
    → Running f out (shift s (seeded (coefficient P) [] (rows n m xs))) new → Running f out (shift s (seeded (coefficient P) [] (rows n k ys))) new
running_same P f out n m k s xs ys new e r =
    record {
      len = r.len;
      sums = λ j l. ap low (ap (λ (z : ℤ). coefficient new j +ℤ z)
          (shift_ext s (seeded (coefficient P) [] (rows n k ys)) (seeded (coefficient P) [] (rows n m xs)) (seeded_same n P (rows n k ys) (rows n m xs) (rows_within n k ys) (rows_within n m xs) (λ u q. e u)) j))
          ∙ r.sums j l;
      words = r.words;
    }
