use Rattle.std.proofs.Common.{◌≡◌, ℕ, List, ap, ◌∙◌, ap₂, arith}
use Rattle.laws.proofs.Few.{three_sums, two_sums}
use Rattle.laws.specs.Monomial.{degree, quotient}
use Rattle.numbers.proofs.few.at_most_three.Goals as goal

-- the degree of a quotient of monomials that are rows
divided : {a b x y : List ℕ} → a ≡ x → b ≡ y → degree (quotient a b) ≡ degree (quotient x y)
divided e f = ap₂ (λ (x y : List ℕ). degree (quotient x y)) e f

pub returns-then-list-eq2 : goal.returns-then-list-eq2
returns-then-list-eq2 c =
    let a = c.args in
    let l = a.list.now in
    let d = c.pair_degrees.result in
    let is = c.pair_degrees.ensures in
    let e : l.count ≡ 2 = c.if-list-eq2.true in
    rw e (two_sums a.seed.now l.n a.shift d.a d.b d.ab a.neg l.cells.now a.out.now c.add_pair.new.out (is.0.0 ∙ ap degree c.row-a.ensures) (is.1.0 ∙ ap degree c.row-b.ensures)
    (is.2.0 ∙ divided c.row-a.ensures c.row-b.ensures) c.add_pair.ensures)

pub returns : goal.returns
returns c =
    let a = c.args in
    let l = a.list.now in
    let d = c.triple_degrees-d.result in
    let is = c.triple_degrees-d.ensures.listed in
    let by = c.triple_degrees-d.ensures.quotients in
    let x = c.row-a.ensures in
    let y = c.row-b.ensures in
    let z = c.row.ensures in
    let e : l.count ≡ 3 = omega (arith, c.if-list-eq2.false, c.if-list-eq1.false, c.if-list-eq0.false, c.requires.0) in
    rw e (three_sums a.seed.now l.n a.shift a.neg l.cells.now d.first.a d.first.b d.first.ab d.c d.by_c.a d.by_c.b d.by_c.ab a.out.now c.add_pair-2.new.out c.add_pair-3.new.out
    (is.0.0.0 ∙ ap degree x) (is.0.1.0 ∙ ap degree y) (is.0.2.0 ∙ divided x y) (is.1.0 ∙ ap degree z)
    (by.0.0 ∙ divided x z) (by.1.0 ∙ divided y z) (by.2.0 ∙ divided (ap₂ quotient x z) (ap₂ quotient y z)) c.add_pair-2.ensures c.add_pair-3.ensures)
