-- Within the limits of document 01, and with the rooms as large as asked, a call refuses nothing.
-- Assumes nothing.
use mathlib.Core.Path.{◌≡◌, refl}
use mathlib.Core.Bool.{Bool, true, false}
use mathlib.Core.List.{List, ◌++◌}
use mathlib.Core.Option.{none}
use Prim.Native.Nat.{ℕ, ◌+◌, ◌*◌, ◌^◌, ◌≤◌, ◌<◌}
use lib.IntN.{ℤ}
use lib.ListN.{length}
use borrow.Author.Tests.{le-ltb, lt-leb, eq-eqb}
use Rattle.laws.specs.Dimension.{degree_bound, powers_product}
use Rattle.laws.specs.Hilbert.{hilbert_size}
use Rattle.laws.specs.Ideal.{listed}
use Rattle.laws.specs.Room.{cells_asked, coefficients_asked, update_asked}
use Rattle.monomials.specs.Refusal.{refusal}
use Rattle.numbers.specs.Dimension.{at_once, no_dimension, dimension_checks}
use Rattle.numbers.specs.Hilbert.{hilbert_checks}
use Rattle.numbers.specs.Numerator.{numerator_checks}
use Rattle.numbers.specs.Update.{beyond, update_checks}
use Rattle.records.specs.Ideal.{record_of, write_checks}

pub numerator_done : (n s : ℕ) (cells room : List ℕ) (p q : List ℤ) → n ≤ 255 → s ≤ 60 → length cells ≡ s * n
    → cells_asked n (listed n s cells) ≤ length room
    → coefficients_asked (listed n s cells) ≤ length p
    → coefficients_asked (listed n s cells) ≤ length q
    → refusal (numerator_checks 255 60 n s cells room p q) ≡ none
numerator_done n s cells room p q w m i c k l =
    let L : List (List ℕ) = listed n s cells in
    rw (le-ltb 255 n w, le-ltb 60 s m, eq-eqb (length cells) (s * n) i, le-ltb (length room) (cells_asked n L) c, le-ltb (length p) (coefficients_asked L) k, le-ltb (length q) (coefficients_asked L) l)

pub update_done : (n : ℕ) (G : List ℤ) (s0 : ℕ) (existing : List ℕ) (s1 : ℕ) (added room : List ℕ) (p q : List ℤ)
    → n ≤ 255 → s0 + s1 ≤ 60 → length existing ≡ s0 * n → length added ≡ s1 * n → beyond (2 ^ 61) G ≡ false
    → cells_asked n (listed n s0 existing ++ listed n s1 added) ≤ length room
    → update_asked G (listed n s0 existing ++ listed n s1 added) ≤ length p
    → update_asked G (listed n s0 existing ++ listed n s1 added) ≤ length q
    → refusal (update_checks 255 60 (2 ^ 61) n G s0 existing s1 added room p q) ≡ none
update_done n G s0 existing s1 added room p q w m i j b c k l =
    let J : List (List ℕ) = listed n s0 existing ++ listed n s1 added in
    rw (le-ltb 255 n w, le-ltb 60 (s0 + s1) m, eq-eqb (length existing) (s0 * n) i, eq-eqb (length added) (s1 * n) j, b, le-ltb (length room) (cells_asked n J) c, le-ltb (length p) (update_asked G J) k, le-ltb (length q) (update_asked G J) l)

pub value_done : (n : ℕ) (p : List ℤ) (d : ℕ) (sums : List ℕ) → n ≤ 255 → d ≤ 65536 → hilbert_size p n d < 2 ^ 127 → 4 * (d + 1) ≤ length sums → refusal (hilbert_checks 255 65536 n p d sums) ≡ none
value_done n p d sums w m b l =
    rw (le-ltb 255 n w, le-ltb 65536 d m, le-ltb (length sums) (4 * (d + 1)) l, lt-leb (2 ^ 127) (hilbert_size p n d) b)

-- a unit, and no variables, ask nothing more
pub dimension_done : (n s : ℕ) (cells room : List ℕ) (p q : List ℤ) (sums : List ℕ) → n ≤ 255 → s ≤ 60 → length cells ≡ s * n
    → (at_once n (listed n s cells) ≡ false
    → (no_dimension 65536 n (listed n s cells) ≡ false)
    × (powers_product n (listed n s cells) < 2 ^ 127)
    × (cells_asked n (listed n s cells) ≤ length room)
    × (coefficients_asked (listed n s cells) ≤ length p)
    × (coefficients_asked (listed n s cells) ≤ length q)
    × (2 * (degree_bound n (listed n s cells) + 1) ≤ length sums))
    → refusal (dimension_checks 255 60 65536 n s cells room p q sums) ≡ none
dimension_done n s cells room p q sums w m i enough = go (at_once n (listed n s cells)) refl
  where
    go : (t : Bool) → at_once n (listed n s cells) ≡ t → refusal (dimension_checks 255 60 65536 n s cells room p q sums) ≡ none
    go true e = rw (le-ltb 255 n w, le-ltb 60 s m, eq-eqb (length cells) (s * n) i, e)
    go false e =
        let L : List (List ℕ) = listed n s cells in
        let (a, b, c, d, f, g) = enough e in
        rw (le-ltb 255 n w, le-ltb 60 s m, eq-eqb (length cells) (s * n) i, e, a, lt-leb (2 ^ 127) (powers_product n L) b, le-ltb (length room) (cells_asked n L) c, le-ltb (length p) (coefficients_asked L) d, le-ltb (length q) (coefficients_asked L) f, le-ltb (length sums) (2 * (degree_bound n L + 1)) g)

pub writes : (n s : ℕ) (cells out : List ℕ) → n ≤ 255 → s ≤ 60 → length cells ≡ s * n → length (record_of n s cells) ≤ length out → refusal (write_checks 255 60 n s cells out) ≡ none
writes n s cells out a b c d =
    rw (le-ltb 255 n a, le-ltb 60 s b, eq-eqb (length cells) (s * n) c, le-ltb (length out) (length (record_of n s cells)) d)
