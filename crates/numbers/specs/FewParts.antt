-- What the private steps of `few` promise to one another; no public contract cites it.
--   DegreesAre d a b == d has the degrees of a, of b and of the quotient a : b, each small enough for a word of 32 bits
-- Assumes nothing.
use Rattle.std.specs.Prelude.{ℕ, List}
use Rattle.laws.specs.Monomial.{quotient}
use Rattle.laws.proofs.Few.{DegreeIs}
use Rattle.numbers.specs.declared.few.Degrees.{Degrees}

abbrev pub DegreesAre : Degrees → List ℕ → List ℕ → Type 0
DegreesAre d a b = DegreeIs d.a a × DegreeIs d.b b × DegreeIs d.ab (quotient a b)
