use Rattle.std.proofs.Common.{◌≡◌, ℕ, ◌⊎◌, Bool, true, false, min, inl, inr, refl, ap, ◌∙◌, arith}
use borrow.Author.Tests.{ltb-true, ltb-false}
use lib.Dec.{ltb}
use Rattle.laws.proofs.Leaf.{past_more, past_none}
use Rattle.laws.specs.Monomial.{degree}
use Rattle.numbers.proofs.leaf.span.Goals as goal

-- the smaller of two numbers is one of them
either : (x y r : ℕ) → r ≡ min x y → (r ≡ x) ⊎ (r ≡ y)
either x y r e = go (ltb x y) refl
  where
    go : (t : Bool) → ltb x y ≡ t → (r ≡ x) ⊎ (r ≡ y)
    go true q = inl (omega (arith, ltb-true x y q))
    go false q = inr (omega (arith, ltb-false x y q))

pub loop-i-init : goal.loop-i-init
loop-i-init c =
    let w = c.min-w in
    (omega arith, past_none c.args.seed.now c.args.list.now.n c.args.list.now.cells.now w.result c.args.cap (either _ _ _ w.ensures))

pub loop-i-preserved : goal.loop-i-preserved
loop-i-preserved c =
    let w = c.min-w-in-loop-i in
    (omega arith, past_more c.args.seed.now c.args.list.now.n c.loop-i.i c.loop-i.w c.degree-d.result c.args.cap w.result c.args.list.now.cells.now (c.degree-d.ensures.0 ∙ ap degree c.row.ensures) (either _ _ _ w.ensures) c.loop-i.invariant.1)
