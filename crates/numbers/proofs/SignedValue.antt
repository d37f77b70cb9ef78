-- A signed two-word number read back: the answer of `hf_at` is the Hilbert function's value itself. Assumes nothing.
use Rattle.std.proofs.Common.{◌≡◌, ℕ, zero, suc, ◌^◌, ◌<◌, List, ℤ, pos, negsuc, nat_abs, refl, ap, ◌∙◌, suc-le-suc, le_trans, arith, lit<, lit≤, w64, SFits}
use lib.Signed.{mag}
use Rattle.laws.specs.Coefficients.{coefficient}
use Rattle.laws.specs.Word.{residue, signed_of}
use Rattle.laws.specs.Hilbert.{hilbert, hilbert_size}
use Rattle.laws.proofs.Hilbert.{hilbert_size_lem}
use Rattle.laws.proofs.Word.{residue_lt, signed_residue}
use Rattle.numbers.specs.Wide.{wide_of, signed_value}
use Rattle.numbers.proofs.TwoWords.{value_exact}

-- an integer from −2^127 to 2^127 − 1 is read back from its two words
pub signed_back : (z : ℤ) → mag z < 2 ^ 127 → signed_value (wide_of z) ≡ z
signed_back z h =
    ap (signed_of (2 ^ 128)) (value_exact (residue (2 ^ 128) z) (residue_lt (2 ^ 128) (lit< tt) z)) ∙ signed_residue (2 ^ 128) (2 ^ 127) refl z h

below : (z : ℤ) (m : ℕ) → nat_abs z < m → mag z < m
below (pos n) m h = h
below (negsuc n) m h = omega arith

-- what `hf_at` answers where it does not refuse is the value
pub hilbert_exact : (p : List ℤ) (n d : ℕ) → SFits w64 (coefficient p d) → hilbert_size p n d < 2 ^ 127 → signed_value (wide_of (hilbert p n d)) ≡ hilbert p n d
hilbert_exact p zero d f h = signed_back (coefficient p d) (le_trans f.sfits (lit≤ tt))
hilbert_exact p (suc r) d f h = signed_back (hilbert p (suc r) d) (below (hilbert p (suc r) d) (2 ^ 127) (le_trans (suc-le-suc (hilbert_size_lem p r d)) h))
