use Rattle.std.proofs.Common.{◌≡◌, ◌-◌, [], ◌∷◌, ◌++◌, map, replicate}
use Rattle.laws.specs.Ideal.{listed}
use Rattle.laws.specs.Mask.{mask}
use Rattle.numbers.proofs.masks.masks_of.Given as goal

abbrev pub invariant-loop-i : goal.invariant-loop-i
invariant-loop-i l = l.m ≡ map (mask l.list.n l.most) (listed l.list.n l.i l.list.cells.now) ++ replicate (60 - l.i) (0 ∷ 0 ∷ [])
