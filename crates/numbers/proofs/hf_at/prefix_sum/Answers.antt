use Rattle.std.proofs.Common.{◌+◌, ◌∙◌, add-one}
use Rattle.laws.specs.Coefficients.{coefficient}
use Rattle.numbers.specs.HilbertParts.{number_at}
use Rattle.numbers.proofs.KeptSums.{kept_stage}
use Rattle.numbers.proofs.hf_at.prefix_sum.Goals as goal

pub loop-done-preserved : goal.loop-done-preserved
loop-done-preserved g c =
    let t = g.T.Terms in
    let s = c.stage in
    let l = c.loop-done in
    let a = c.args in (
      l.invariant.0,
      s.auto.words ∙ l.invariant.1,
      λ k h. rw (add-one l._done) (kept_stage t.kept g.met.T.Terms.laws l._done (a.d + 1) (λ j. t.term (coefficient a.coeffs.now j)) (number_at l.words) (number_at s.new.words) l.invariant.2 s.ensures k h),
    )
