use Rattle.std.proofs.Common.{◌≡◌, ℕ, ◌*◌, ◌-◌, ◌<◌, ◌≢◌, true, Option, Some, None, is_some, IfSome, ◌∙◌, sym, arith}
use Rattle.laws.proofs.Pass.{thinned_more}
use Rattle.laws.proofs.Rows.{at}
use Rattle.laws.specs.Monomial.{divides}
use Rattle.numbers.proofs.Runs.{wrote_copy}
use Rattle.numbers.proofs.minimal.minimalize.Goals as goal

found : (P : ℕ → Type 0) (r : Option ℕ) → is_some r ≡ true → IfSome r P → (k : ℕ) × P k
found P (Some k) e h = (k, h)
found P None e h = cc

pub loop-i-preserved-then-is_some : goal.loop-i-preserved-then-is_some
loop-i-preserved-then-is_some c =
    let a = c.args in
    let l = c.loop-i in
    let n = a.n in
    let room = l.room in
    let d = found (λ (k : ℕ). (k < l.left) × (k ≢ l.i) × (divides (at n k room) (at n l.i room) ≡ true)) c.divisor.result (sym c.is_some.ensures ∙ c.if-is_some.true) c.divisor.ensures in
    let w = wrote_copy room c.copy_within.new.self ((l.left - 1) * n) (l.i * n) n _ (omega arith) c.copy_within.ensures.len c.copy_within.ensures.by_index in
    (omega arith, thinned_more n a.m a.room.now l.left l.i d.0 room c.copy_within.new.self c.requires c.loop-i-test.true d.1.0 d.1.1 d.1.2 w l.invariant.1)
