-- `divides_consistent_with` meets its contract. Rests on `within_both`.
use native.Mathlib.Omega.{arith}
use mathlib.Core.Path.{sym, ap, ◌∙◌}
use mathlib.Core.Bool.{Bool, ◌&&◌}
use Prim.Native.Nat.{◌-◌, ◌^◌}
use lib.Dec.{eqb}
use lib.Bits.{bit_and}
use borrow.Author.Tests.{eq-eqb, ne_eqb}
use Rattle.laws.proofs.Mask.{within_both}
use Rattle.monomials.proofs.divmask.divides_consistent_with.Goals as goal

pub returns-then-a-b-eq0 : goal.returns-then-a-b-eq0
returns-then-a-b-eq0 c =
    let a = c.args.a in
    let b = c.args.b in
    let both = within_both 64 a.low b.low a.high b.high (omega arith) (omega arith) (omega arith) (omega arith) in
    sym (ap (λ (t : Bool). t && eqb (bit_and a.high (2 ^ 64 - 1 - b.high)) 0) (eq-eqb _ _ c.if-a-b-eq0.true)) ∙ both

pub returns-else-a-b-eq0 : goal.returns-else-a-b-eq0
returns-else-a-b-eq0 c =
    let a = c.args.a in
    let b = c.args.b in
    let both = within_both 64 a.low b.low a.high b.high (omega arith) (omega arith) (omega arith) (omega arith) in
    let no = ne_eqb _ _ c.if-a-b-eq0.false in
    no ∙ sym (ap (λ (t : Bool). t && eqb (bit_and a.high (2 ^ 64 - 1 - b.high)) 0) no) ∙ both
