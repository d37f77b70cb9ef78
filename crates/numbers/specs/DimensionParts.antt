-- What the private steps of `quotient_dimension` promise to one another; no public contract cites it.
--   Cells n s cells      == the cells are those of s monomials in n variables, few enough for the numerator: what a `CheckedList` keeps
--   Powers n L powers    == the first n cells hold the least power of each variable in L
--   decision_as once w d   == the dimension w where it is known at once, or else d
--   bound_answer M n L    == D, or the refusal by 13 or 11
--   BoundOf M n powers r == r is that answer for any list with these powers
--   list_answer W C M n s cells == the refusal by 1, 2 or 3, the dimension where it is known at once, or else that answer
--   Bounded n L d        == L has a dimension below 2^127, and D is d
--   Lent n L d room p q sums == the rooms have the sizes asked
-- Assumes nothing.
use Rattle.std.specs.Prelude.{◌≡◌, ℕ, ◌*◌, ◌^◌, ◌<◌, ◌≤◌, Bool, true, false, cond, List, [], ◌++◌, length, ℤ, slice_index, Result}
use Rattle.laws.specs.Ideal.{listed, unit_in}
use Rattle.laws.specs.Dimension.{least_power, finite, degree_bound, powers_product, dimension}
use Rattle.laws.specs.Room.{cells_asked, coefficients_asked, dimension_words}
use Rattle.monomials.specs.Refusal.{refusal, answer}
use Rattle.monomials.specs.declared.refusal.Refusal.{Refusal}
use Rattle.numbers.specs.Dimension.{at_once, bound_checks}
use Rattle.numbers.specs.Numerator.{list_checks}
use Rattle.numbers.specs.Wide.{wide}
use Rattle.numbers.specs.declared.dimension.Decision.{Decision}

pub record Cells (n s : ℕ) (cells : List ℕ) : Type 0 where
  pub there : length cells ≡ s * n
  pub width : n ≤ 255
  pub count : s ≤ 60

abbrev pub Powers : ℕ → List (List ℕ) → List ℕ → Type 0
Powers n L powers = (v : ℕ) → v < n → slice_index powers v ≡ least_power L v

abbrev pub decision_as : Bool → ℕ → ℕ → Decision
decision_as true w d = Decision.Known (wide w)
decision_as false w d = Decision.Bound d

abbrev pub bound_answer : ℕ → ℕ → List (List ℕ) → Result ℕ Refusal
bound_answer M n L = answer (refusal (bound_checks M n L)) (degree_bound n L)

abbrev pub BoundOf : ℕ → ℕ → List ℕ → Result ℕ Refusal → Type 0
BoundOf M n powers r = (L : List (List ℕ)) → Powers n L powers → r ≡ bound_answer M n L

abbrev pub list_answer : ℕ → ℕ → ℕ → ℕ → ℕ → List ℕ → Result Decision Refusal
list_answer W C M n s cells =
    answer
    (refusal (list_checks W C n s cells ++ cond (at_once n (listed n s cells)) [] (bound_checks M n (listed n s cells))))
    (decision_as (at_once n (listed n s cells)) (dimension n (listed n s cells)) (degree_bound n (listed n s cells)))

pub record Bounded (n : ℕ) (L : List (List ℕ)) (d : ℕ) : Type 0 where
  pub plain : unit_in L ≡ false
  pub powers : finite n L ≡ true
  pub bound : d ≡ degree_bound n L
  pub small : d ≤ 65536
  pub product : powers_product n L < 2 ^ 127

pub record Lent (n : ℕ) (L : List (List ℕ)) (d : ℕ) (room : List ℕ) (p q : List ℤ) (sums : List ℕ) : Type 0 where
  pub cells : length room ≡ cells_asked n L
  pub first : length p ≡ coefficients_asked L
  pub second : length q ≡ coefficients_asked L
  pub words : length sums ≡ dimension_words d
