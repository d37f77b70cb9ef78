use Rattle.std.proofs.Common.{◌≡◌, ℕ, ℤ, ◌+◌, ◌-◌, ◌%◌, ◌^◌, ◌<◌, of_z, sym, arith, lit<, w64, SFits}
use Rattle.laws.proofs.Word.{residue_lt, word_residue, wrap_sub}
use Rattle.numbers.proofs.signed.wrapping_sub.Goals as goal

bits_lt : (a : ℤ) → SFits w64 a → of_z w64 a < 2 ^ 64
bits_lt a f = rw (word_residue w64 a f) (residue_lt (2 ^ 64) (lit< tt) a)

difference : (p q : ℕ) → p < 2 ^ 64 → q < 2 ^ 64 → ((p + (2 ^ 64 - q)) % 2 ^ 64 + q) % 2 ^ 64 ≡ p
difference p q h k = omega arith

pub returns : goal.returns
returns c =
    let a = c.args.a in
    let b = c.args.b in
    sym (wrap_sub w64 a b ((of_z w64 a + (2 ^ 64 - of_z w64 b)) % 2 ^ 64) c.ranges.a c.ranges.b (omega arith)
    (difference (of_z w64 a) (of_z w64 b) (bits_lt a c.ranges.a) (bits_lt b c.ranges.b)))
