use Rattle.std.proofs.Common.{◌+◌, List, ℕ, length, ◌∙◌, subst, arith}
use Rattle.laws.proofs.Added.{AddedTo}
use Rattle.laws.proofs.Asked.{both, both_within}
use Rattle.laws.proofs.Grown.{grown_more, listed_next, taken, taken_added}
use Rattle.laws.proofs.Rows.{at}
use Rattle.laws.specs.Ideal.{listed}
use Rattle.numbers.proofs.Steps.{row_in}
use Rattle.numbers.proofs.update.add_each.Goals as goal

pub loop-i-preserved : goal.loop-i-preserved
loop-i-preserved c =
    let a = c.args in
    let l = a.lists.now in
    let i = c.loop-i.i in
    let same = c.loop-i.invariant in
    let g = c.row-g.result.now in
    let second = c.add_numerator.ensures.scratch_len_unchanged in
    let L = listed l.n l.s l.xs.now in
    let M = both l.n l.s l.xs.now i l.ys.now in
    let new = c.add_numerator.new.out in
    let within = both_within l.n l.s l.xs.now i l.ys.now in
    let off = taken_added l.n c.quotients-m.result c.degree.result M g c.loop-i.room c.quotients-m.new.room c.loop-i.first new
    within c.degree.ensures.0 c.quotients-m.ensures.1 c.add_numerator.ensures.added_to in
    let step = subst (λ (g : List ℕ). AddedTo (taken M g) c.loop-i.first new) c.row-g.ensures off in (
      c.add_numerator.auto.room ∙ c.quotients-m.auto.room ∙ same.0,
      second.0 ∙ same.1,
      second.1,
      grown_more L (listed l.n i l.ys.now) (listed l.n (i + 1) l.ys.now) (at l.n i l.ys.now) a.first.now c.loop-i.first new (listed_next l.n i l.ys.now) same.3 step,
    )

pub row-g-requires : goal.row-g-requires
row-g-requires c =
    let l = c.args.lists.now in row_in l.n l.t c.loop-i.i (length l.ys.now) (omega arith) l.second
