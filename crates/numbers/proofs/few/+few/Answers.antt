use Rattle.std.proofs.Common.{◌≡◌, ◌≤◌, ◌+◌, ◌-◌, ◌*◌, Bool, not, [], length, refl, sym, ap, ◌∙◌, subst, le_trans, le_of_eq, arith}
use borrow.Rule.Slice.PartMut.{mid_of, put_same}
use Rattle.laws.specs.Coefficients.{coefficient}
use Rattle.laws.specs.Monomial.{degree}
use Rattle.laws.proofs.Added.{running_leaf, running_more}
use Rattle.laws.proofs.Few.{Quotients, added_none, added_past, few_step, unit_none}
use Rattle.laws.proofs.Leaf.{by}
use Rattle.laws.proofs.Room.{part_enough, put_length}
use Rattle.laws.proofs.Rows.{rows}
use Rattle.laws.proofs.Seed.{seeded}
use Rattle.numbers.proofs.ToLaws.{last_falls, last_one_more, last_room, last_two, shift_below}
use Rattle.numbers.proofs.few.+few.Goals as goal

pub returns-then-shift-out : goal.returns-then-shift-out
returns-then-shift-out t c =
    let a = c.args in
    added_past a.shift (λ k. by a.neg (seeded (coefficient a.seed.now) [] (rows a.n a.m a.room.now) k)) a.out.now c.if-shift-out.true

pub few-requires : goal.few-requires
few-requires t c =
    let a = c.args in
    let left = c.loop-left.left in
    let most : left ≤ a.m = omega arith in
    let k = left - 1 in
    let same = c.loop-left.invariant in
    let some = c.loop-left-test.true in
    let lent = c.quotients-unit.new.room in
    let enough = last_room a.n a.m left (length a.room.now) most some c.requires.0 in
    let as_long = sym (c.quotients-unit.ensures.len ∙ same.1) in (
      last_falls left a.m t c.decreases some most,
      (
        part_enough (k * a.n + a.n) (k * k * a.n) lent (le_trans enough (le_of_eq as_long)),
        c.requires.1,
        shift_below a.shift c.degree-d.result (length a.out.now) c.if-shift-out.false (omega arith) c.degree-d.ensures.1,
      ),
    )

pub loop-left-preserved-then-not-unit : goal.loop-left-preserved-then-not-unit
loop-left-preserved-then-not-unit t c =
    let a = c.args in
    let left = c.loop-left.left in
    let most : left ≤ a.m = omega arith in
    let k = left - 1 in
    let same = c.loop-left.invariant in
    let some = c.loop-left-test.true in
    let enough = c.requires.0 in
    let L = length a.room.now in
    let ys = c.quotients-unit.new.room in
    let step = few_step a.seed.now a.n k left c.degree-d.result a.shift a.neg c.quotients-unit.result c.loop-left.room ys c.few.new.room
    (last_one_more a.n a.m left L most some enough)
    (le_trans (last_two a.n a.m left L most some enough) (le_of_eq (sym same.1)))
    (c.degree-d.ensures.0 ∙ ap degree c.row.ensures)
    c.quotients-unit.ensures
    c.few.auto.room in (
      omega arith,
      put_length (k * a.n + a.n) ys c.few.new.room c.few.auto.room ∙ (c.quotients-unit.ensures.len ∙ same.1),
      running_more _ _ _ _ _ _ _ step c.few.ensures same.2,
    )

-- the quotients, of which one is the unit, stay as they are
pub loop-left-preserved : goal.loop-left-preserved
loop-left-preserved t c =
    let a = c.args in
    let left = c.loop-left.left in
    let most : left ≤ a.m = omega arith in
    let k = left - 1 in
    let same = c.loop-left.invariant in
    let some = c.loop-left-test.true in
    let enough = c.requires.0 in
    let L = length a.room.now in
    let ys = c.quotients-unit.new.room in
    let b = k * a.n + a.n in
    let step = few_step a.seed.now a.n k left c.degree-d.result a.shift a.neg c.quotients-unit.result c.loop-left.room ys (mid_of b (length ys - b) ys)
    (last_one_more a.n a.m left L most some enough)
    (le_trans (last_two a.n a.m left L most some enough) (le_of_eq (sym same.1)))
    (c.degree-d.ensures.0 ∙ ap degree c.row.ensures)
    c.quotients-unit.ensures
    refl in
    let unit = unit_none a.n k c.loop-left.room ys (subst (λ (u : Bool). Quotients a.n k c.loop-left.room k u ys) c.if-not-unit.false c.quotients-unit.ensures) in
    let none = added_none a.seed.now a.n k (a.shift + c.degree-d.result) (not a.neg) (mid_of b (length ys - b) ys) c.loop-left.out unit in
    let more = running_more _ _ _ _ _ _ _ step none same.2 in (
      omega arith,
      c.quotients-unit.ensures.len ∙ same.1,
      rw (put_same b (length ys - b) ys) at more,
    )

pub returns : goal.returns
returns t c =
    let a = c.args in
    let l = c.loop-left in
    let e : c.min.result ≡ l.left = omega arith in
    running_leaf _ a.out.now _ l.out c.at_most_three.new.out (rw e at c.at_most_three.ensures) l.invariant.2
