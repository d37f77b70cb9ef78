use Rattle.std.proofs.Common.{◌≡◌, take}
use Rattle.laws.specs.Coefficients.{trim}
use Rattle.numbers.proofs.coefficients.trimmed_length.Given as goal

abbrev pub invariant-loop-k : goal.invariant-loop-k
invariant-loop-k l = trim (take l.k l.coeffs) ≡ trim l.coeffs
