-- `replay` meets its contract: what the lines from a place on make of the counts, all lines make. Rests on `replay_more`.
use Rattle.std.proofs.Common.{ℕ, Bool, List, Option, [], ap₂, ◌∙◌, arith, refl}
use Rattle.vectors.specs.Replay.{ReadFrom, Replays}
use Rattle.vectors.proofs.Replaying.{replays_case, replays_comment, replay_more}
use Rattle.vectors.proofs.comparison.replay.Goals as goal
use Rattle.vectors.proofs.comparison.replay.Goals.{then-code-ne0+in-Some, then-code-ne0+in-None, else-code-ne0}

pub loop-at-preserved : goal.loop-at-preserved
loop-at-preserved g c =
    let Says : ℕ → ℕ → Option Bool → Type 0 = ReadFrom c.args.text.now (g.C.Comparison.says c.args.by.now) in
    let s = c.args.text.now in
    let at = c.loop-at.at in
    let code = c.integer_at-code.result in
    let is = c.integer_at-code.ensures in
    let p : List ℕ × ℕ = (c.loop-at.counts, c.loop-at.apart) in
    let q : List ℕ × ℕ = (c.if-code-ne0.counts, c.if-code-ne0.apart) in
    let line : Replays s Says p at q = elim c.if-code-ne0.branch [
      | then-code-ne0+in-Some w ↦ replays_case Says s at p q code is w.compare.result w.if-code-ne0.true (_, refl, refl, w.compare.ensures) (rw w.in-Some.is (ap₂ (λ (a : List ℕ) (b : ℕ). (a, b)) (w.counts-is ∙ w.tally.ensures) w.apart-is))
      | then-code-ne0+in-None w ↦ replays_case Says s at p q code is w.compare.result w.if-code-ne0.true (_, refl, refl, w.compare.ensures) (rw w.in-None.is (ap₂ (λ (a : List ℕ) (b : ℕ). (a, b)) w.counts-is w.apart-is))
      | else-code-ne0 w ↦ replays_comment Says s at p q code is w.if-code-ne0.false (ap₂ (λ (a : List ℕ) (b : ℕ). (a, b)) w.counts-is w.apart-is)
    ] in
    replay_more (Replays s Says) s at c.line_after-at.result p q c.loop-at.invariant (omega arith) c.line_after-at.ensures.0 line

pub returns : goal.returns
returns g c = c.loop-at.invariant [] (c.loop-at.counts, c.loop-at.apart) (omega arith) refl
