-- Words: numbers modulo a base B, which is 2^64 for one word and 2^128 for two.
--   plus z, minus z   == the two parts of an integer: z is plus z − minus z, and one of them is 0
--   residue B z       == the integer z modulo B, from 0 to B − 1: what wrapping sums keep of z
--   signed_of B r      == the integer from −B/2 to B/2 − 1 that has the residue r: two's complement
--   wrap B z          == the integer from −B/2 to B/2 − 1 that differs from z by a multiple of B: what a signed word keeps of z
--   wrapped B a zs    == a chain of wrapping sums: from a, each of zs added in its turn, modulo B
--   pair B low high   == the number that two words are
--   carry a s         == 1 where s, the wrapped sum of a and some word, lost a base: where s < a; else 0
-- Assumes nothing.
use Rattle.std.specs.Prelude.{◌≡◌, refl, cond, List, [], ◌∷◌, ℕ, suc, ◌+◌, ◌*◌, ◌-◌, ◌%◌, ◌/◌, ltb, ℤ, pos, negsuc}
use Rattle.laws.specs.Count.{bit}

abbrev pub plus : ℤ → ℕ
plus (pos n) = n
plus (negsuc n) = 0

abbrev pub minus : ℤ → ℕ
minus (pos n) = 0
minus (negsuc n) = suc n

abbrev pub residue : ℕ → ℤ → ℕ
residue B (pos n) = n % B
residue B (negsuc n) = B - suc (n % B)

abbrev pub signed_of : ℕ → ℕ → ℤ
signed_of B r = cond (ltb r (B / 2)) (pos r) (negsuc (B - suc r))

unfoldable pub wrap : ℕ → ℤ → ℤ
wrap B z = signed_of B (residue B z)

abbrev pub wrapped : ℕ → ℕ → List ℤ → ℕ
wrapped B a [] = a
wrapped B a (z ∷ zs) = wrapped B ((a + residue B z) % B) zs

abbrev pub pair : ℕ → ℕ → ℕ → ℕ
pair B low high = low + B * high

abbrev pub carry : ℕ → ℕ → ℕ
carry a s = bit (ltb s a)

test_residue : residue 256 (negsuc 0) ≡ 255
test_residue = refl

test_signed : signed_of 256 128 ≡ negsuc 127
test_signed = refl

-- the ends of the word are passed on the way
test_wrapped : signed_of 256 (wrapped 256 0 (pos 100 ∷ pos 100 ∷ negsuc 149 ∷ [])) ≡ pos 50
test_wrapped = refl
