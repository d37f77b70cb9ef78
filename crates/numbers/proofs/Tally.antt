-- The sum of the first exponents of a monomial, in a word of 32 bits.
--   Tally xs i d       == d is the sum of the first i exponents of xs, each below 2^16
--   Tallies a b i d    == d has these sums of a, of b and of the quotient a : b
-- In this file:
--   tally_next, tally_all       of one more, and of all: the degree
--   tallies_next, tallies_all   the same of two monomials and the quotient of the one by the other
--   quotient_at                 an exponent of a quotient
use Rattle.std.proofs.Common.{◌≡◌, ℕ, ◌+◌, ◌-◌, ◌*◌, ◌<◌, ◌≤◌, List, length, get_or, drop, arith}
use Rattle.laws.proofs.Few.{DegreeIs, quotient_cell}
use Rattle.laws.proofs.Monomial.{length_quotient}
use Rattle.laws.proofs.Rows.{degree_drop, degree_end}
use Rattle.laws.specs.Monomial.{degree, quotient}
use Rattle.numbers.specs.FewParts.{DegreesAre}
use Rattle.numbers.specs.declared.few.Degrees.{Degrees}

pub record Tally (xs : List ℕ) (i d : ℕ) : Type 0 where
  pub most : d ≤ 65535 * i
  pub rest : d + degree (drop i xs) ≡ degree xs

module _ {xs : List ℕ} {i d : ℕ} (s : Tally xs i d) where
  pub tally_next : (x : ℕ) → i < length xs → x ≡ get_or xs i 0 → x < 65536 → Tally xs (i + 1) (d + x)
  tally_next x h e f =
      let g : degree (drop i xs) ≡ get_or xs i 0 + degree (drop (i + 1) xs) = degree_drop xs i h in
      record { most = omega (arith, s.most); rest = omega (arith, s.rest, g, e) }

  pub tally_all : (L : ℕ) → length xs ≤ i → i ≤ L → L ≤ 65536 → DegreeIs d xs
  tally_all L h g l = (omega (arith, s.rest, degree_end xs i h), omega (arith, s.most))

pub quotient_at : (a b : List ℕ) (i x y : ℕ) → x ≡ get_or a i 0 → y ≡ get_or b i 0 → x - y ≡ get_or (quotient a b) i 0
quotient_at a b i x y e f = omega (arith, quotient_cell a b i)

pub record Tallies (a b : List ℕ) (i : ℕ) (d : Degrees) : Type 0 where
  pub first : Tally a i d.a
  pub second : Tally b i d.b
  pub divided : Tally (quotient a b) i d.ab

module _ {a b : List ℕ} {i : ℕ} {d : Degrees} (t : Tallies a b i d) (e : length a ≡ length b) where
  pub tallies_next : (x y : ℕ) (n : Degrees) → i < length a → x ≡ get_or a i 0 → y ≡ get_or b i 0 → x < 65536 → y < 65536
      → (n.a ≡ d.a + x) × (n.b ≡ d.b + y) × (n.ab ≡ d.ab + (x - y)) → Tallies a b (i + 1) n
  tallies_next x y n h f g k l m =
      record {
        first = rw m.0 (tally_next t.first x h f k);
        second = rw m.1 (tally_next t.second y (omega arith) g l);
        divided = rw m.2 (tally_next t.divided (x - y) (omega (arith, length_quotient a b)) (quotient_at a b i x y f g) (omega arith));
      }

  pub tallies_all : length a ≤ i → i ≤ length a → length a ≤ 65536 → DegreesAre d a b
  tallies_all h g l =
      (tally_all t.first (length a) h g l, tally_all t.second (length a) (omega arith) g l, tally_all t.divided (length a) (omega (arith, length_quotient a b)) g l)
