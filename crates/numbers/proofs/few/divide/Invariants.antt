use Rattle.std.proofs.Common.{◌≡◌, ℕ, ◌+◌, ◌-◌, ◌<◌, true, get_or}
use Rattle.laws.proofs.Rows.{Wrote}
use Rattle.numbers.proofs.few.divide.Given as goal

abbrev pub invariant-loop-i : goal.invariant-loop-i
invariant-loop-i l =
    Wrote l.initial.room (λ j. get_or l.initial.room (l.from + j) 0 - get_or l.initial.room (l.by + j) 0) l.to l.i l.room
    × (l.unit ≡ true → (j : ℕ) → j < l.i → get_or l.initial.room (l.from + j) 0 - get_or l.initial.room (l.by + j) 0 ≡ 0)
