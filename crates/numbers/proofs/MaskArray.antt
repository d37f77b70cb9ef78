-- The masks of a list, as the loop that fills their array finds them.
--   words_of o    == the two words of a mask, zeros where it was refused
-- In this file:
--   words_are    at a width that is not refused they are the mask
--   masks_next   one mask more
use Rattle.std.proofs.Common.{◌≡◌, ℕ, suc, ◌+◌, ◌-◌, ◌<◌, ◌≤◌, List, [], ◌∷◌, ◌++◌, map, length, set, replicate, ap, ◌∙◌, append_assoc, arith, le-ltb}
use mathlib.Core.List.{map-append}
use lib.ListN.{length-map}
use lib.Seq.{set_at}
use Rattle.laws.specs.Ideal.{listed}
use Rattle.laws.specs.Mask.{mask}
use Rattle.laws.proofs.Ideal.{listed_count}
use Rattle.laws.proofs.Rows.{at}
use Rattle.laws.proofs.Grown.{listed_next}
use Rattle.monomials.specs.Mask.{mask_answer}
use Rattle.std.specs.Prelude.{Result, Ok, Err}
use Rattle.monomials.specs.declared.refusal.Refusal.{Refusal}
use Rattle.monomials.specs.declared.divmask.DivMask.{DivMask}

abbrev pub words_of : Result DivMask Refusal → List ℕ
words_of (Ok m) = m.low ∷ m.high ∷ []
words_of (Err r) = 0 ∷ 0 ∷ []

pub words_are : (n M : ℕ) (row : List ℕ) (a : Result DivMask Refusal) → n ≤ 255 → a ≡ mask_answer 255 n M row → words_of a ≡ mask n M row
words_are n M row a h e = ap (λ (b : Result DivMask Refusal). words_of b) e ∙ rw (le-ltb 255 n h)

module _ (n M : ℕ) (xs : List ℕ) (i : ℕ) (h : i < 60) where
  left : 60 - i ≡ suc (60 - (i + 1))
  left = omega arith

  len : length (map (mask n M) (listed n i xs)) ≡ i
  len = length-map (listed n i xs) (mask n M) ∙ listed_count n i xs

  pub masks_next : (m : List (List ℕ)) (p : List ℕ) → p ≡ mask n M (at n i xs) → m ≡ map (mask n M) (listed n i xs) ++ replicate (60 - i) (0 ∷ 0 ∷ [])
      → set m i p ≡ map (mask n M) (listed n (i + 1) xs) ++ replicate (60 - (i + 1)) (0 ∷ 0 ∷ [])
  masks_next m p q e =
      rw (e, left, q, set_at (map (mask n M) (listed n i xs)) (0 ∷ 0 ∷ []) (replicate (60 - (i + 1)) (0 ∷ 0 ∷ [])) (mask n M (at n i xs)) i len)
      (rw (listed_next n i xs, map-append, append_assoc))
