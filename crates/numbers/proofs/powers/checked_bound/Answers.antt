use Rattle.std.proofs.Common.{◌-◌, get_or, replicate, sym, refl, ◌∙◌, le_trans, le_of_eq, le_refl, arith}
use lib.ListN.{get_or-replicate}
use Rattle.numbers.proofs.LeastPowers.{powers_next, powers_none, row_length}
use Rattle.numbers.proofs.Steps.{last_below, last_next}
use Rattle.numbers.proofs.powers.checked_bound.Goals as goal

pub loop-i-init : goal.loop-i-init
loop-i-init c =
    let a = c.args.list.now in
    (refl, λ v h. powers_none a.n a.count a.cells.now a.in_cells c.requires a.count v (get_or (replicate 255 0) v 0) (le_refl a.count) (get_or-replicate 255 v 0 0 (le_trans h c.requires)))

pub loop-i-preserved : goal.loop-i-preserved
loop-i-preserved c =
    let a = c.args.list.now in
    let l = c.loop-i in
    let k = c.take_in in
    let r = c.row in
    let h = last_below l.i a.count c.loop-i-test.true (omega arith) in
    let w = le_of_eq (sym (row_length a.n a.count a.cells.now a.in_cells c.requires (l.i - 1) r.result.now h r.ensures)) in (
      k.auto.powers ∙ l.invariant.0,
      λ v g. powers_next a.n a.count a.cells.now a.in_cells c.requires (l.i - 1) r.result.now h r.ensures l.i v (get_or l.powers v 0) (get_or k.new.powers v 0) (last_next l.i c.loop-i-test.true)
          (l.invariant.1 v g) (k.ensures v (le_trans g w)),
    )
