use Rattle.std.proofs.Common.{ℕ}
use Rattle.vectors.specs.Rooms.{wanted}
use Rattle.vectors.proofs.Holding.{Filling}
use Rattle.vectors.proofs.rooms.put.Given as goal

abbrev pub invariant-loop-j : goal.invariant-loop-j
invariant-loop-j g l = Filling l.text l.contents (λ (j : ℕ). g.T.Element.of_bits (wanted l.text l.contents j)) l.initial.room l.j l.next l.room
