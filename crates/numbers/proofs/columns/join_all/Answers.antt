use Rattle.std.proofs.Common.{◌≡◌, ℕ, max, get_or, ◌∙◌, subst, arith}
use Rattle.laws.proofs.Columns.{Unshared, joined_more, single_more}
use Rattle.laws.proofs.Rows.{Wrote}
use Rattle.numbers.proofs.columns.join_all.Goals as goal

both_zero : (c r d : ℕ) → d ≡ max c r → d ≡ 0 → (c ≡ 0) × (r ≡ 0)
both_zero c r d e z = (omega arith, omega arith)

pub loop-i-preserved : goal.loop-i-preserved
loop-i-preserved c =
    let l = c.loop-i in
    let a = c.args.list.now in
    let e = l.invariant.1 in
    let m = c.row.result.now in
    let w = subst (λ (k : ℕ). Wrote l.us (λ j. max (get_or l.us j 0) (get_or m j 0)) 0 k c.join.new.us) e c.join.ensures.wrote in (
      omega arith,
      c.join.ensures.wrote.len ∙ e,
      joined_more a.n a.count l.i a.cells.now l.us c.join.new.us m c.loop-i-test.true c.row.ensures w l.invariant.2,
      λ z.
          let o = both_zero l.common c.join.result c.max-common.result c.max-common.ensures z in
          single_more a.n a.count l.i a.cells.now l.us m c.loop-i-test.true c.row.ensures (subst (λ (k : ℕ). Unshared l.us m k) e (c.join.ensures.unshared o.1)) l.invariant.2 (l.invariant.3 o.0),
    )
