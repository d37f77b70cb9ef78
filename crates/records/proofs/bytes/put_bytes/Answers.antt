-- `put_bytes` meets its contract: what is copied is a run of places.
use native.Mathlib.Omega.{arith}
use Prim.Native.Nat.{◌+◌, ◌-◌}
use lib.ListN.{length}
use Rattle.records.proofs.PutBytes.{put_run}
use Rattle.records.proofs.bytes.put_bytes.Goals as goal

pub returns : goal.returns
returns c =
    let a = c.args in
    rw c.copy_from_slice.ensures.after (put_run a.at (a.at + length a.bytes.now - a.at) a.out.now a.bytes.now (omega arith) c.requires)
