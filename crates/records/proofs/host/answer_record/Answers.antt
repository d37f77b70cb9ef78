-- `answer_record` meets its contract, return by return.
use lib.Dec.{lit<}
use native.Mathlib.Omega.{arith}
use Rattle.records.proofs.HostCall.{top_fits, told_is}
use Rattle.records.proofs.host.answer_record.Goals as goal

pub tell-requires : goal.tell-requires
tell-requires c =
    record { top_fits = rw c.dimension_of.ensures (top_fits 255 60 65536 c.args.rec.now (lit< tt)); out_len = omega arith }

pub returns : goal.returns
returns c =
    let t = told_is 255 60 65536 c.args.rec.now 26 c.args.out.now (omega arith) c.tell.result c.tell.new.out (rw c.dimension_of.ensures at c.tell.ensures.value) (rw c.dimension_of.ensures at c.tell.ensures.out_after) in
    record { value = t.0; out_after = t.1 }
