-- Monomials in cells, in the words of the crate laws.
--   row_end, row_within, row_length   the cells of one monomial
--   part_end                       its exponent bytes in a record
--   area                           how many exponents a record has at most
--   less_told, equal_told, greater_told   what `==` on the code's orders says
--   listed_next, listed_end        the list from monomial i on
--   rows_listed                    the same by its places
--   all_minimal, any_multiple      a test of each place, or of some place
-- Assumes nothing.
use mathlib.Core.Path.{◌≡◌, refl, sym, ap, ◌∙◌}
use mathlib.Core.Bool.{Bool, not, ◌&&◌, ◌||◌}
use mathlib.Core.List.{List, [], ◌∷◌}
use Prim.Native.Nat.{ℕ, zero, suc, ◌+◌, ◌*◌, ◌≤◌, ◌<◌, Ordering}
use native.Mathlib.Omega.{arith}
use native.Mathlib.Nat.{mul_assoc, mul_comm, mul-le-mul, mul-le-mul_right, suc-mul}
use native.Mathlib.Numerals.{add-one}
use lib.ListN.{length, drop, length-take, length-drop, drop_of_length-le}
use lib.Seq.{drop-cons}
use Rattle.laws.specs.Monomial.{divides}
use Rattle.laws.specs.Ideal.{listed, multiple}
use Rattle.laws.specs.Minimal.{proper, minimal_in}
use Rattle.laws.proofs.Ideal.{listed_count}
use Rattle.laws.proofs.Reading.{listed_at}
use Rattle.monomials.specs.Monomial.{order_of}
use Rattle.std.specs.declared.cmp.Ordering.{Ordering as Order}
use Rattle.std.specs.declared.cmp.Ordering.TheVariants.{Less, Equal, Greater}
use Rattle.std.specs.List.{list_all, list_any, range_with_len}
use Rattle.std.specs.Ordering.{ordering_index}
use Rattle.std.specs.Prelude.{◌==◌}
use Rattle.records.specs.Rows.{row, rows_at, is_less, is_equal, is_greater}

-- the cells of monomial i of s end within s * n
pub row_end : (n s i : ℕ) → i < s → i * n + n ≤ s * n
row_end n s i h = omega (arith, mul-le-mul_right n h, suc-mul i n)

-- and so within the cells
pub row_within : (n s i : ℕ) (cells : List ℕ) → length cells ≡ s * n → i < s → i * n + n ≤ length cells
row_within n s i cells e h = omega (arith, row_end n s i h)

-- the exponent bytes of one monomial end within those of all
pub part_end : (n m k : ℕ) → k < m → 2 * n * k + 2 * n ≤ 2 * (m * n)
part_end n m k h = omega (arith, mul_assoc 2 n k, mul_comm n k, row_end n m k h)

-- all exponents of a record
pub area : (m n : ℕ) → m ≤ 60 → n ≤ 255 → m * n ≤ 15300
area m n h g = mul-le-mul h g

pub row_length : (n i : ℕ) (cells : List ℕ) → i * n + n ≤ length cells → length (row n cells i) ≡ n
row_length n i cells h = simp (length-take, length-drop) (omega arith)

-- comparisons as the code has them

pub less_told : (o : Ordering) (r : Order) → r ≡ order_of o → (ordering_index r == ordering_index Less) ≡ is_less o
less_told Ordering.lt r p = ap (λ (x : Order). (ordering_index x == ordering_index Less)) p
less_told Ordering.eq r p = ap (λ (x : Order). (ordering_index x == ordering_index Less)) p
less_told Ordering.gt r p = ap (λ (x : Order). (ordering_index x == ordering_index Less)) p

pub equal_told : (o : Ordering) (r : Order) → r ≡ order_of o → (ordering_index r == ordering_index Equal) ≡ is_equal o
equal_told Ordering.lt r p = ap (λ (x : Order). (ordering_index x == ordering_index Equal)) p
equal_told Ordering.eq r p = ap (λ (x : Order). (ordering_index x == ordering_index Equal)) p
equal_told Ordering.gt r p = ap (λ (x : Order). (ordering_index x == ordering_index Equal)) p

pub greater_told : (o : Ordering) (r : Order) → r ≡ order_of o → (ordering_index r == ordering_index Greater) ≡ is_greater o
greater_told Ordering.lt r p = ap (λ (x : Order). (ordering_index x == ordering_index Greater)) p
greater_told Ordering.eq r p = ap (λ (x : Order). (ordering_index x == ordering_index Greater)) p
greater_told Ordering.gt r p = ap (λ (x : Order). (ordering_index x == ordering_index Greater)) p

-- monomial i, and those after it
pub listed_next : (n s i : ℕ) (cells : List ℕ) → i < s → drop i (listed n s cells) ≡ row n cells i ∷ drop (i + 1) (listed n s cells)
listed_next n s i cells h =
    let l : i < length (listed n s cells) = omega (arith, listed_count n s cells) in
    rw (add-one i) (drop-cons (listed n s cells) i [] l ∙ ap (λ (m : List ℕ). m ∷ drop (suc i) (listed n s cells)) (listed_at n s i cells h))

-- none is left
pub listed_end : (n s i : ℕ) (cells : List ℕ) → s ≤ i → drop i (listed n s cells) ≡ []
listed_end n s i cells h = drop_of_length-le (listed n s cells) {i = i} (omega (arith, listed_count n s cells))

-- monomials by their places: all of them from place j on
pub rows_listed : (n s : ℕ) (cells : List ℕ) (k j : ℕ) → j + k ≡ s → rows_at n cells (range_with_len j k) ≡ drop j (listed n s cells)
rows_listed n s cells zero j e = sym (listed_end n s j cells (omega arith))
rows_listed n s cells (suc k) j e =
    ap (λ (r : List (List ℕ)). row n cells j ∷ r) (rows_listed n s cells k (j + 1) (omega arith)) ∙ sym (listed_next n s j cells (omega arith))

-- none at these places is a proper divisor
pub all_minimal : (n : ℕ) (cells a ps : List ℕ) → list_all (λ j. not (proper (row n cells j) a)) ps ≡ minimal_in (rows_at n cells ps) a
all_minimal n cells a [] = refl
all_minimal n cells a (p ∷ ps) = ap (λ (t : Bool). not (proper (row n cells p) a) && t) (all_minimal n cells a ps)

-- one of them divides u
pub any_multiple : (n : ℕ) (cells u ps : List ℕ) → list_any (λ j. divides (row n cells j) u) ps ≡ multiple (rows_at n cells ps) u
any_multiple n cells u [] = refl
any_multiple n cells u (p ∷ ps) = ap (λ (t : Bool). divides (row n cells p) u || t) (any_multiple n cells u ps)
