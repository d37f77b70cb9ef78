-- The sums fit where the test passed, and the cells that `write_cells` leaves are the product. Rests on `sum_fits` and `product_cells`.
use Rattle.std.proofs.Common.{rules, arith, sym, ◌≡◌}
use Rattle.laws.specs.Monomial.{product}
use Rattle.monomials.proofs.Pairs.{product_cells, sum_fits}
use Rattle.monomials.proofs.monomial.product.Goals as goal

pub write_cells-requires-clause-callable : goal.write_cells-requires-clause-callable
write_cells-requires-clause-callable c k h κs ptr met range =
    omega (arith, sum_fits 65535 c.args.a.now c.args.b.now k (sym c.if-not-all_sums_fit.ensures) h (search rules))

pub returns-clause-out_after : goal.returns-clause-out_after
returns-clause-out_after c =
    let e : c.write_cells.new.out ≡ product c.args.a.now c.args.b.now = product_cells c.args.a.now c.args.b.now c.write_cells.new.out (search rules) (search rules) (λ k h. search (rules, c.write_cells.ensures k h)) in
    search (rules, e)
