use Rattle.std.proofs.Common.{◌≡◌, ℕ, subst, arith}
use Rattle.laws.proofs.Parts.{Sided, sided_end}
use Rattle.numbers.proofs.parts.apart.Goals as goal

pub returns : goal.returns
returns c =
    let l = c.args.list.now in
    let ended : c.loop-v.v ≡ l.n = omega arith in
    λ h. sided_end l.n c.args.b l.count l.cells.now l.in_cells c.requires (subst (λ (v : ℕ). Sided l.n c.args.b l.count l.cells.now v) ended c.loop-v.invariant)
