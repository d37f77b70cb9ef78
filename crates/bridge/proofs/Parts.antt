-- The part that a record hands back is no longer than the exponent bytes of a monomial of the greatest width.
use native.Mathlib.Omega.{arith}
use mathlib.Core.List.{List, []}
use mathlib.Core.Option.{Option, none, some}
use Prim.Native.Nat.{ℕ, ◌+◌, ◌*◌, ◌≤◌, ◌<◌}
use lib.ListN.{length, drop, length-take}
use Rattle.laws.specs.Record.{width_in, part_of}
use Rattle.monomials.specs.Refusal.{refusal, after}
use Rattle.monomials.specs.declared.refusal.Refusal.{Refusal}
use Rattle.records.specs.Ideal.{place_checks, place_part}

after_fits : (rec : List ℕ) (k : ℕ) (r : Option Refusal) → width_in rec < 256 → length (after r (part_of rec k) []) ≤ 510
after_fits rec k none h = omega (arith, length-take (2 * width_in rec) (drop (7 + 2 * width_in rec * k) rec))
after_fits rec k (some r) h = omega arith

pub part_fits : (C : ℕ) (rec : List ℕ) (k : ℕ) → width_in rec < 256 → length (place_part C rec k) ≤ 510
part_fits C rec k h = after_fits rec k (refusal (place_checks C rec k)) h
