-- What the contracts of the measuring of two lists speak of; no public contract cites it.
--   all x        == the two lists of x, one behind the other
--   exponent x k == the exponent in their cell k
-- Assumes nothing.
use Rattle.std.specs.Prelude.{ℕ, ◌/◌, ◌%◌, List, ◌++◌, slice_index}
use Rattle.laws.specs.Ideal.{listed}
use Rattle.laws.specs.Room.{column}
use Rattle.numbers.specs.declared.extent.TwoLists.{TwoLists}

abbrev pub all : TwoLists → List (List ℕ)
all x = listed x.n x.s x.xs.now ++ listed x.n x.t x.ys.now

abbrev pub exponent : TwoLists → ℕ → ℕ
exponent x k = slice_index (column (all x) (k % x.n)) (k / x.n)
