-- `put` meets its contract: the first j elements are those of the contents. Rests on `filling_more`.
use Rattle.std.proofs.Common.{ap, ◌∙◌, arith}
use Rattle.vectors.proofs.Holding.{filling_more}
use Rattle.vectors.proofs.rooms.put.Goals as goal

pub loop-j-preserved : goal.loop-j-preserved
loop-j-preserved g c =
    filling_more _ _ _ _ _ c.loop-j.invariant (omega arith) (c.of_bits.ensures ∙ ap g.T.Element.of_bits c.wanted_at-want.ensures.0) c.wanted_at-want.ensures.1
