use Rattle.std.proofs.Common.{◌≡◌, ℕ, ◌+◌, ◌*◌, ◌<◌, ◌≤◌, ◌⊎◌, List, ◌++◌, length, get_or, take, drop, inl, inr, arith, rules}
use Rattle.std.proofs.lemmas.List.{places}
use Rattle.laws.proofs.Pass.{Swapped}
use Rattle.laws.proofs.Rows.{row_end}
use borrow.Rule.Slice.PartMut.{put_mid}
use Rattle.numbers.proofs.rows.swap.Goals as goal

-- the part before b with its n cells from a on written, and behind it the rest with its first n cells written
module _ (a b n k : ℕ) (xs front back fs bs : List ℕ) (h : a + n ≤ b) (g : b + n ≤ length xs) (q : k ≡ n) (s : front ≡ take b xs) (t : back ≡ drop b xs) (ef : fs ≡ take n back) (eb : bs ≡ take n (drop a front)) where
  parts : List ℕ
  parts = put_mid a n (take b xs) (take n (drop b xs)) ++ (take n (drop a (take b xs)) ++ drop n (drop b xs))

  other : (i : ℕ) → (i < a) ⊎ (a + n ≤ i) → (i < b) ⊎ (b + n ≤ i) → get_or parts i 0 ≡ get_or xs i 0
  unfolding parts
  other i (inl l) m = search (rules, places)
  other i (inr l) (inl m) = search (rules, places)
  other i (inr l) (inr m) = search (rules, places)

  swapped_parts : Swapped a b xs n (put_mid a k front fs ++ (bs ++ drop n back))
  unfolding parts
  swapped_parts =
      rw (q, ef, eb, s, t) (record { len = search (rules, places); first = λ j l. search (rules, places); second = λ j l. search (rules, places); other = other })

pub returns : goal.returns
returns c =
    let a = c.args in
    let s = c.split_at_mut-front in
    let w = c.swap_with_slice in
    let h : a.i * a.n + a.n ≤ a.j * a.n = omega (arith, row_end a.n a.j a.i c.requires.0) in
    let g : a.j * a.n + a.n ≤ length a.room.now = omega (arith, row_end a.n (a.j + 1) a.j) in
    swapped_parts (a.i * a.n) (a.j * a.n) a.n _ a.room.now s.result.0.now s.result.1.now w.new.self w.new.other h g (omega arith) s.ensures.front s.ensures.back (search rules) (search rules)
