-- `pt_place` meets its contract: the output holds the part, and the check's answer is told. Rests on `part_fits`.
use native.Mathlib.Omega.{arith}
use mathlib.Core.Path.{ap}
use lib.ListN.{length}
use Rattle.bridge.proofs.Parts.{part_fits}
use Rattle.bridge.proofs.ideal.pt_place.Goals as goal

pub copy_front-requires : goal.copy_front-requires
copy_front-requires c =
    let a = c.args in omega (arith, ap length c.place-part.ensures, part_fits 60 a.rec.now a.k (omega (arith, c.type_inv.rec 5)))
