use Rattle.std.proofs.Common.{ℕ, ◌+◌, ◌*◌, ◌≡◌, refl, ap, ◌∙◌, arith}
use Rattle.laws.specs.Ideal.{listed}
use Rattle.laws.specs.Room.{coefficients_asked, pairs}
use Rattle.laws.specs.Sums.{sum_below}
use Rattle.numbers.proofs.AskedCells.{degree_all, degree_least, new_degree, new_pair, pairs_all, pairs_least, turned_held, turned_new, turned_zero}
use Rattle.numbers.proofs.BothLists.{there}
use Rattle.numbers.specs.BothLists.{all}
use Rattle.numbers.proofs.extent.TwoLists.added.Goals as goal
use Rattle.numbers.proofs.extent.TwoLists.added.Goals.{then-x-ne0+then-x-y, then-x-ne0+else-x-y, else-x-ne0}

pub loop-k-preserved : goal.loop-k-preserved
loop-k-preserved c =
    let l = there c.args.self.now in
    let q = c.loop-k in
    let i = q.invariant in
    let g = c.loop-k-test.true in
    let j = c.if-x-ne0 in
    elim j.branch [
      | then-x-ne0+then-x-y w ↦ turned_new l q.k q.pairs q.degree g i.0 i.1 i.2 i.3 _ refl w.if-x-ne0.true w.later-y.result w.later-y.ensures j.pairs j.degree w.saturating_sub.result
          w.if-x-y.true w.saturating_sub.type_inv w.saturating_sub.ensures w.pairs-is w.degree-is
      | then-x-ne0+else-x-y w ↦ turned_held l q.k q.pairs q.degree g i.0 i.1 i.2 i.3 _ refl w.if-x-ne0.true w.later-y.result w.later-y.ensures j.pairs j.degree w.if-x-y.false
          w.pairs-is w.degree-is
      | else-x-ne0 w ↦ turned_zero l q.k q.pairs q.degree g i.0 i.1 i.2 i.3 _ refl j.pairs j.degree w.if-x-ne0.false w.pairs-is w.degree-is
    ]

pub returns-clause-pairs_added : goal.returns-clause-pairs_added
returns-clause-pairs_added c =
    let x = c.args.self.now in
    let q = c.loop-k in
    let e : q.k ≡ x.s * x.n = omega arith in (
      ap (λ (p : ℕ). p + pairs x.n (listed x.n x.t x.ys.now)) (q.invariant.0 ∙ ap (λ (k : ℕ). sum_below k (new_pair x.n (all x))) e) ∙ pairs_all x.n x.s x.xs.now x.t x.ys.now (there x),
      pairs_least (there x) q.k (omega arith) q.pairs q.invariant.2,
    )

pub returns-clause-degree_added : goal.returns-clause-degree_added
returns-clause-degree_added c =
    let x = c.args.self.now in
    let q = c.loop-k in
    let e : q.k ≡ x.s * x.n = omega arith in (
      ap (λ (d : ℕ). d + coefficients_asked (listed x.n x.t x.ys.now)) (q.invariant.1 ∙ ap (λ (k : ℕ). sum_below k (new_degree x.n (all x))) e) ∙ degree_all x.n x.s x.xs.now x.t x.ys.now (there x),
      degree_least (there x) q.k (omega arith) q.degree q.invariant.3,
    )
