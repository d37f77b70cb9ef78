-- The cells that `write_cells` leaves are the lcm. Rests on `lcm_cells`.
use Rattle.std.proofs.Common.{rules, ◌≡◌}
use Rattle.laws.specs.Monomial.{lcm}
use Rattle.monomials.proofs.Pairs.{lcm_cells}
use Rattle.monomials.proofs.monomial.lcm.Goals as goal

pub returns-clause-out_after : goal.returns-clause-out_after
returns-clause-out_after c =
    let e : c.write_cells.new.out ≡ lcm c.args.a.now c.args.b.now = lcm_cells c.args.a.now c.args.b.now c.write_cells.new.out (search rules) (search rules) (λ k h. search (rules, c.write_cells.ensures k h)) in
    search (rules, e)
