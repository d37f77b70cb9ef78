-- What the private functions over monomials in cells do. No public contract cites this file.
--   row n cells i     == the monomial of width n at place i of the cells
--   rows_at n cells ps == the monomials at the places ps
--   members l, member l i, members_at l ps == the monomials of the code's list l: all, that at place i, those at the places ps
--   Below s ps        == each of the places ps is below s
--   is_less, is_equal, is_greater o == what the comparison o says
--   above a L         == a is greater than the first of L by DegRevLex, if L has one
--   stands L          == each member of L is greater than the next, and divided by no later one
--   header_stands C bytes == version, length field, count and size of bytes are those of a record of at most C monomials
--   Ample rec cells   == the cells have room for the exponents of every record, or of every one that is no longer than rec
--   seat_of a K        == how many of K are greater than a, before the first that is not
--   same_at a K        == a is the first of K
-- Assumes nothing.
use Rattle.std.specs.Prelude.{Bool, true, false, not, ◌&&◌, cond, List, [], ◌∷◌, map, ◌⊎◌, leb, eqb, length, get_or, take, drop}
use Rattle.std.specs.List.{All}
use Prim.Native.Nat.{ℕ, suc, ◌+◌, ◌*◌, ◌-◌, ◌≤◌, ◌<◌, Ordering}
use Rattle.laws.specs.Ideal.{listed, multiple}
use Rattle.laws.specs.Order.{degrevlex}
use Rattle.laws.specs.Record.{value, width_in, count_in}
use Rattle.records.specs.declared.list.MonomialList.{MonomialList}

abbrev pub row : ℕ → List ℕ → ℕ → List ℕ
row n cells i = take n (drop (i * n) cells)

abbrev pub rows_at : ℕ → List ℕ → List ℕ → List (List ℕ)
rows_at n cells ps = map (row n cells) ps

abbrev pub members : MonomialList → List (List ℕ)
members l = listed l.width l.count l.cells.now

abbrev pub member : MonomialList → ℕ → List ℕ
member l i = row l.width l.cells.now i

abbrev pub members_at : MonomialList → List ℕ → List (List ℕ)
members_at l ps = rows_at l.width l.cells.now ps

abbrev pub Below : ℕ → List ℕ → Type 0
Below s ps = All (λ p. p < s) ps

abbrev pub is_less : Ordering → Bool
is_less Ordering.lt = true
is_less Ordering.eq = false
is_less Ordering.gt = false

abbrev pub is_equal : Ordering → Bool
is_equal Ordering.lt = false
is_equal Ordering.eq = true
is_equal Ordering.gt = false

abbrev pub is_greater : Ordering → Bool
is_greater Ordering.lt = false
is_greater Ordering.eq = false
is_greater Ordering.gt = true

abbrev pub above : List ℕ → List (List ℕ) → Bool
above a [] = true
above a (b ∷ L) = is_greater (degrevlex a b)

abbrev pub stands : List (List ℕ) → Bool
stands [] = true
stands (a ∷ L) = above a L && (not (multiple L a) && stands L)

abbrev pub header_stands : ℕ → List ℕ → Bool
header_stands C bytes =
    eqb (get_or bytes 0 0) 1
    && (eqb (value (take 4 (drop 1 bytes))) (length bytes - 5)
    && (leb (count_in bytes) C
    && eqb (length bytes) (7 + 2 * (count_in bytes * width_in bytes))))

abbrev pub Ample : List ℕ → List ℕ → Type 0
Ample rec cells = (15300 ≤ length cells) ⊎ (length rec ≤ 2 * length cells + 7)

abbrev pub seat_of : List ℕ → List (List ℕ) → ℕ
seat_of a [] = 0
seat_of a (k ∷ K) = cond (is_less (degrevlex a k)) (suc (seat_of a K)) 0

abbrev pub same_at : List ℕ → List (List ℕ) → Bool
same_at a [] = false
same_at a (k ∷ K) = is_equal (degrevlex a k)
