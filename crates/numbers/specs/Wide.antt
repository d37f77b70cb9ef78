-- Two-word numbers.
--   value w            == the number that the two words are
--   wide v             == the two words of v modulo 2^128
--   wide_of z           == the two words of the integer z modulo 2^128: two's complement
--   signed_value w      == the integer from −2^127 to 2^127 − 1 whose two words w has
--   product_answer v    == the product v where it is below 2^127, else none
-- Assumes nothing.
use Rattle.std.specs.Prelude.{◌≡◌, ℕ, ◌-◌, ◌/◌, ◌%◌, ◌^◌, cond, ℤ, negsuc, nat_lt, refl, Option, Some, None}
use Rattle.laws.specs.Word.{residue, signed_of, pair}
use Rattle.numbers.specs.declared.wide.Wide.{Wide}

abbrev pub value : Wide → ℕ
value w = pair (2 ^ 64) w.low w.high

abbrev pub wide : ℕ → Wide
wide v = record { low = v % 2 ^ 64; high = v / 2 ^ 64 % 2 ^ 64 }

abbrev pub wide_of : ℤ → Wide
wide_of z = wide (residue (2 ^ 128) z)

abbrev pub signed_value : Wide → ℤ
signed_value w = signed_of (2 ^ 128) (value w)

abbrev pub product_answer : ℕ → Option Wide
product_answer v = cond (nat_lt v (2 ^ 127)) (Some (wide v)) None

test_low : wide_of (negsuc 0) ≡ record { low = 2 ^ 64 - 1; high = 2 ^ 64 - 1 }
test_low = refl

test_back : signed_value (wide_of (negsuc (2 ^ 127 - 1))) ≡ negsuc (2 ^ 127 - 1)
test_back = refl
