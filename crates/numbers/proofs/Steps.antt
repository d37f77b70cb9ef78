-- What a step of a loop asks of its numbers.
--   next-..      the next place, i + 1
--   row_in       monomial i of m, n exponents each, in a list of L cells
use Rattle.std.proofs.Common.{◌≡◌, ℕ, ◌+◌, ◌-◌, ◌*◌, ◌<◌, ◌≤◌, arith}
use Rattle.laws.proofs.Rows.{row_end}

pub next_within : (i m : ℕ) → i < m → i + 1 ≤ m
next_within i m h = omega arith

pub row_in : (n m i L : ℕ) → i < m → m * n ≤ L → i * n + n ≤ L
row_in n m i L h g = omega (arith, row_end n m i h)

-- counting down
pub last_below : (i m : ℕ) → 0 < i → i ≤ m → i - 1 < m
last_below i m h g = omega arith

pub last_next : (i : ℕ) → 0 < i → i ≡ i - 1 + 1
last_next i h = omega arith

pub some_there : (i m : ℕ) → i < m → 1 ≤ m
some_there i m h = omega arith
