use Rattle.std.proofs.Common.{◌+◌, arith}
use Rattle.numbers.proofs.AskedColumns.{Counted, counted_all, counted_held, counted_new, counted_none, counted_zero}
use Rattle.numbers.proofs.BothLists.{there}
use Rattle.numbers.proofs.Steps.{some_there}
use Rattle.numbers.specs.BothLists.{all}
use Rattle.numbers.proofs.extent.TwoLists.distinct.Goals as goal
use Rattle.numbers.proofs.extent.TwoLists.distinct.Goals.{then-x-ne0+then-x-later, else-x-ne0, else-x-ne0-via-then-x-ne0+else-x-later, else-x-ne0-via-else-x-ne0}

pub loop-k-init : goal.loop-k-init
loop-k-init c =
    counted_none c.args.self.now.n (all c.args.self.now) c.args.v c.requires

pub loop-k-preserved : goal.loop-k-preserved
loop-k-preserved c =
    let l = there c.args.self.now in
    let v = c.args.v in
    let z = some_there v c.args.self.now.n c.requires in
    let k = c.loop-k.k in
    let q = c.loop-k.invariant in
    let x = c.cell-x in
    let j = c.if-x-ne0 in
    elim j.branch [
      | then-x-ne0+then-x-later w ↦ counted_new l z v c.loop-k.count k q (omega arith) x.result x.ensures w.if-x-ne0.true w.later.result w.later.ensures j.count w.if-x-later.true w.count-is
      | else-x-ne0 w ↦ elim w.else-x-ne0.branch [
        | else-x-ne0-via-then-x-ne0+else-x-later u ↦ counted_held l z v c.loop-k.count k q (omega arith) x.result x.ensures u.if-x-ne0.true u.later.result u.later.ensures j.count u.if-x-later.false w.count-is
        | else-x-ne0-via-else-x-ne0 u ↦ counted_zero l z v c.loop-k.count k q (omega arith) x.result x.ensures j.count u.if-x-ne0.false w.count-is
      ]
    ]

pub returns-after-x-ne0 : goal.returns-after-x-ne0
returns-after-x-ne0 c =
    let l = there c.args.self.now in
    let v = c.args.v in
    let z = some_there v c.args.self.now.n c.requires in
    let k = c.loop-k.k in
    let q = c.loop-k.invariant in
    let x = c.cell-x in
    let j = c.if-x-ne0 in
    let n = c.args.self.now.n in
    let L = all c.args.self.now in
    let e : Counted n L v j.count (k + n) = elim j.branch [
      | then-x-ne0+then-x-later w ↦ counted_new l z v c.loop-k.count k q (omega arith) x.result x.ensures w.if-x-ne0.true w.later.result w.later.ensures j.count w.if-x-later.true w.count-is
      | else-x-ne0 w ↦ elim w.else-x-ne0.branch [
        | else-x-ne0-via-then-x-ne0+else-x-later u ↦ counted_held l z v c.loop-k.count k q (omega arith) x.result x.ensures u.if-x-ne0.true u.later.result u.later.ensures j.count u.if-x-later.false w.count-is
        | else-x-ne0-via-else-x-ne0 u ↦ counted_zero l z v c.loop-k.count k q (omega arith) x.result x.ensures j.count u.if-x-ne0.false w.count-is
      ]
    ] in
    counted_all l z v j.count (k + n) e (omega arith)

pub returns : goal.returns
returns c =
    counted_all (there c.args.self.now) (some_there c.args.v c.args.self.now.n c.requires) c.args.v c.loop-k.count c.loop-k.k c.loop-k.invariant (omega arith)
