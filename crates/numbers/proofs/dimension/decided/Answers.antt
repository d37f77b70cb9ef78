use Rattle.std.proofs.Common.{sym, ◌∙◌}
use Rattle.numbers.proofs.DimensionCall.{decides_unit}
use Rattle.numbers.proofs.dimension.decided.Goals as goal

pub returns-then-has_unit : goal.returns-then-has_unit
returns-then-has_unit c =
    let a = c.args in
    decides_unit 255 60 65536 a.n a.s a.cells.now c.if-n-gt-MAX_WIDTH.false c.if-s-gt-MAX_COUNT.false c.if-cells-s.false (sym c.has_unit.ensures ∙ c.if-has_unit.true)
