-- A part of a list that is written at once, `xs[a..a + k]`, and what a method of std writes there, as a run of cells.
--   part_length, part_below, part_in, part_above   its length and its cells
--   wrote_part    the part's new cells are f 0, f 1, ..
--   wrote_whole   the whole list is written
--   wrote_copy    cells copied within the list
--   wrote_as      the same run, said otherwise
use Rattle.std.proofs.Common.{◌≡◌, ℕ, ◌+◌, ◌<◌, ◌≤◌, List, length, get_or, inl, inr, arith, rules, sym, ◌⊎◌, ◌∙◌, ap}
use Rattle.std.proofs.lemmas.List.{places, get_or_past}
use Rattle.std.specs.List.{CopiedTo, SameBelow, SameFrom}
use Rattle.laws.proofs.Rows.{Wrote}
use borrow.Rule.Slice.PartMut.{put_mid}

pub part_length : (a k : ℕ) (xs ys : List ℕ) → a + k ≤ length xs → length ys ≡ k → length (put_mid a k xs ys) ≡ length xs
part_length a k xs ys h e = search (rules, places)

pub part_below : (a k : ℕ) (xs ys : List ℕ) → a + k ≤ length xs → (i : ℕ) → i < a → get_or (put_mid a k xs ys) i 0 ≡ get_or xs i 0
part_below a k xs ys h i l = search (rules, places)

pub part_in : (a k : ℕ) (xs ys : List ℕ) → a + k ≤ length xs → length ys ≡ k → (j : ℕ) → j < k → get_or (put_mid a k xs ys) (a + j) 0 ≡ get_or ys j 0
part_in a k xs ys h e j l = search (rules, places)

pub part_above : (a k : ℕ) (xs ys : List ℕ) → a + k ≤ length xs → length ys ≡ k → (i : ℕ) → a + k ≤ i → get_or (put_mid a k xs ys) i 0 ≡ get_or xs i 0
part_above a k xs ys h e i l = search (rules, places)

pub wrote_part : (xs : List ℕ) (f : ℕ → ℕ) (to n k : ℕ) (ys : List ℕ) → to + n ≤ length xs → k ≡ n → length ys ≡ k → ((j : ℕ) → j < n → get_or ys j 0 ≡ f j) → Wrote xs f to n (put_mid to k xs ys)
wrote_part xs f to n k ys h q e w =
    record { len = part_length to k xs ys (omega arith) e; there = λ j l. part_in to k xs ys (omega arith) e j (omega arith) ∙ w j l; other = λ i o. go i o }
  where
    go : (i : ℕ) → (i < to) ⊎ (to + n ≤ i) → get_or (put_mid to k xs ys) i 0 ≡ get_or xs i 0
    go i (inl l) = part_below to k xs ys (omega arith) i l
    go i (inr l) = part_above to k xs ys (omega arith) e i (omega arith)

pub wrote_whole : (xs ys : List ℕ) (f : ℕ → ℕ) → length ys ≡ length xs → ((j : ℕ) → j < length xs → get_or ys j 0 ≡ f j) → Wrote xs f 0 (length xs) ys
wrote_whole xs ys f e w = record { len = e; there = λ j l. ap (λ (i : ℕ). get_or ys i 0) (omega arith) ∙ w j l; other = λ i o. go i o }
  where
    go : (i : ℕ) → (i < 0) ⊎ (0 + length xs ≤ i) → get_or ys i 0 ≡ get_or xs i 0
    go i (inl l) = absurd (omega arith)
    go i (inr l) = get_or_past ys i 0 (omega arith) ∙ sym (get_or_past xs i 0 (omega arith))

pub wrote_copy : (xs ys : List ℕ) (from to n k : ℕ) → k ≡ n → length ys ≡ length xs → CopiedTo xs ys from to k × SameBelow xs ys to × SameFrom xs ys (to + k) → Wrote xs (λ j. get_or xs (from + j) 0) to n ys
wrote_copy xs ys from to n k q e (c, b, f) =
    record { len = e; there = λ j l. c (to + j) 0 (omega arith) (omega arith) ∙ ap (λ (i : ℕ). get_or xs i 0) (omega arith); other = λ i o. go i o }
  where
    go : (i : ℕ) → (i < to) ⊎ (to + n ≤ i) → get_or ys i 0 ≡ get_or xs i 0
    go i (inl l) = b i 0 l
    go i (inr l) = f i 0 (omega arith)

pub wrote_as : {xs ys : List ℕ} {f : ℕ → ℕ} (g : ℕ → ℕ) {to n : ℕ} (k : ℕ) → n ≡ k → ((j : ℕ) → j < k → f j ≡ g j) → Wrote xs f to n ys → Wrote xs g to k ys
wrote_as {xs} {ys} {f} g {to} {n} k q e w =
    record { len = w.len; there = λ j l. w.there j (omega arith) ∙ e j l; other = λ i o. w.other i (rw q o) }
