-- The cells that `write_cells` leaves are the quotient. Rests on `quotient_cells`.
use Rattle.std.proofs.Common.{rules, ◌≡◌}
use Rattle.laws.specs.Monomial.{quotient}
use Rattle.monomials.proofs.Pairs.{quotient_cells}
use Rattle.monomials.proofs.monomial.quotient.Goals as goal

pub returns-clause-out_after : goal.returns-clause-out_after
returns-clause-out_after c =
    let e : c.write_cells.new.out ≡ quotient c.args.a.now c.args.b.now = quotient_cells c.args.a.now c.args.b.now c.write_cells.new.out (search rules) (search rules) (λ k h. search (rules, c.write_cells.ensures k h)) in
    search (rules, e)
