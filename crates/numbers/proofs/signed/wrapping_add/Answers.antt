use Rattle.std.proofs.Common.{sym, w64}
use Rattle.laws.proofs.Word.{wrap_add}
use Rattle.numbers.proofs.signed.wrapping_add.Goals as goal

pub returns : goal.returns
returns c = sym (wrap_add w64 c.args.a c.args.b c.ranges.a c.ranges.b)
