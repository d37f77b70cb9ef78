-- Counts and cells, one by one.
--   total_next, total_none    what is left to add, at one count more and at the end
--   spaced_first, spaced_next, spaced_none  the cells of a variable: from the first on, one and those after it, none past the end
-- Assumes nothing.
use Rattle.std.proofs.Common.{◌≡◌, ℕ, zero, suc, ◌+◌, ◌%◌, ◌^◌, ◌<◌, ◌≤◌, List, [], ◌∷◌, length, get_or, drop, refl, sym, ap, ◌∙◌, arith, drop_of_length-le}
use Rattle.std.proofs.lemmas.List.{drop-drop}
use Rattle.laws.proofs.Lists.{drop_next}
use Rattle.vectors.specs.Counts.{total}
use Rattle.vectors.specs.Asked.{spaced}

pub total_next : (xs : List ℕ) (i sum next t : ℕ) → i < length xs → next ≡ (sum + get_or xs i 0) % 2 ^ 64 → (sum + total (drop i xs)) % 2 ^ 64 ≡ t
    → (next + total (drop (i + 1) xs)) % 2 ^ 64 ≡ t
total_next xs i sum next t h e k = omega (arith, ap total (drop_next xs i h))

pub total_none : (xs : List ℕ) (i sum t : ℕ) → length xs ≤ i → sum < 2 ^ 64 → (sum + total (drop i xs)) % 2 ^ 64 ≡ t → sum ≡ t
total_none xs i sum t h f k = omega (arith, ap total (drop_of_length-le xs h))

spaced_pass : (g j : ℕ) (xs : List ℕ) → spaced g j xs ≡ spaced g 0 (drop j xs)
spaced_pass g zero xs = refl
spaced_pass g (suc j) [] = refl
spaced_pass g (suc j) (x ∷ xs) = spaced_pass g j xs

module _ (g : ℕ) (cells : List ℕ) where
  pub spaced_first : spaced g 0 (drop g cells) ≡ spaced g g cells
  spaced_first = sym (spaced_pass g g cells)

  pub spaced_next : (i : ℕ) → i < length cells → spaced g 0 (drop i cells) ≡ get_or cells i 0 ∷ spaced g 0 (drop (i + (g + 1)) cells)
  spaced_next i h =
      let e : i + 1 + g ≡ i + (g + 1) = omega arith in
      rw (drop_next cells i h) (ap (λ (xs : List ℕ). get_or cells i 0 ∷ xs) (spaced_pass g g (drop (i + 1) cells) ∙ ap (spaced g 0) (drop-drop g (i + 1) cells ∙ ap (λ (k : ℕ). drop k cells) e)))

  pub spaced_none : (i : ℕ) → length cells ≤ i → spaced g 0 (drop i cells) ≡ []
  spaced_none i h = ap (spaced g 0) (drop_of_length-le cells h)
