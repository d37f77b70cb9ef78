-- `put_cells` meets its contract: the bytes of the first i exponents are written. Rests on `sets_append` and `monomial_bytes_next`.
use native.Mathlib.Omega.{arith}
use mathlib.Core.Path.{◌≡◌, sym, ◌∙◌}
use Prim.Native.Nat.{◌+◌, ◌*◌}
use lib.ListN.{length, take, get_or, length-take}
use Rattle.laws.specs.Record.{big_endian, monomial_bytes}
use Rattle.laws.proofs.Record.{monomial_bytes_length}
use Rattle.laws.proofs.Writing.{sets_append, monomial_bytes_next}
use Rattle.records.proofs.PutBytes.{big_endian_is}
use Rattle.records.proofs.bytes.put_cells.Goals as goal

pub loop-i-preserved : goal.loop-i-preserved
loop-i-preserved c =
    let a = c.args in let l = c.loop-i in let m = a.cells.now in let b = monomial_bytes (take l.i m) in
    let e : a.at + 2 * l.i ≡ a.at + length b = omega (arith, monomial_bytes_length (take l.i m), length-take l.i m) in
    c.put_bytes.ensures
    ∙ rw (l.invariant, c.to_be_bytes.ensures ∙ big_endian_is 2 (get_or m l.i 0), e, monomial_bytes_next m l.i (omega arith))
    (sym (sets_append a.out.now a.at b (big_endian 2 (get_or m l.i 0))))
