use Rattle.std.proofs.Common.{◌≡◌, ℕ, ◌+◌, ◌-◌, ◌≤◌, ◌^◌, min, List, length, Bool, true, false, ◌+ℤ◌, refl, sym, ap, ◌∙◌, ℤ, arith, to_z-of_z, w64, to_z}
use Rattle.laws.proofs.Added.{AddedTo, Adding, adding_end, adding_more, adding_none}
use Rattle.laws.proofs.Leaf.{adding_short, by}
use Rattle.laws.specs.Coefficients.{coefficient, shift}
use Rattle.laws.specs.Word.{wrap}
use borrow.Author.Rules.{sfits_of}
use borrow.Author.Tests.{ltb-true, ltb-false}
use lib.Dec.{ltb}
use Rattle.numbers.proofs.leaf.add_shifted.Goals as goal
use Rattle.numbers.proofs.leaf.add_shifted.Goals.{then-neg, else-neg}

-- either the seed ends first or the output does
added : (s e k : ℕ) (neg : Bool) (p out new : List ℤ) → e ≡ s + min (length p) (length out - s) → s ≤ k → e ≤ k → Adding s (λ j. by neg (coefficient p j)) out k new → AddedTo (shift s (λ j. by neg (coefficient p j))) out new
added s e k neg p out new q h g a = go (ltb (k - s) (length p)) refl
  where
    go : (t : Bool) → ltb (k - s) (length p) ≡ t → AddedTo (shift s (λ j. by neg (coefficient p j))) out new
    go true r = adding_end s (λ j. by neg (coefficient p j)) out k new (omega (arith, ltb-true (k - s) (length p) r)) a
    go false r = adding_short s neg p out k new h (omega (arith, ltb-false (k - s) (length p) r)) a

pub loop-k-init : goal.loop-k-init
loop-k-init c =
    adding_none c.args.shift _ c.args.out.now

pub loop-k-preserved : goal.loop-k-preserved
loop-k-preserved c =
    let s = c.args.shift in
    let k = c.loop-k.k in
    let z = to_z w64 c.if-neg.z-bits in
    let e : z ≡ wrap (2 ^ 64) (coefficient c.loop-k.out k +ℤ by c.args.neg (coefficient c.args.seed.now (k - s))) =
    elim c.if-neg.branch [
      | then-neg w ↦ w.z-is ∙ to_z-of_z {w = w64} (sfits_of w.wrapping_sub-z.type_inv) ∙ rw (to_z-of_z {w = w64} (sfits_of c.x-1.given), to_z-of_z {w = w64} (sfits_of c.y-1.given)) at w.wrapping_sub-z.ensures ∙ ap (λ (b : Bool). wrap (2 ^ 64) (coefficient c.loop-k.out k +ℤ by b (coefficient c.args.seed.now (k - s)))) (sym w.if-neg.true)
      | else-neg w ↦ w.z-is ∙ to_z-of_z {w = w64} (sfits_of w.wrapping_add-z.type_inv) ∙ rw (to_z-of_z {w = w64} (sfits_of c.x-1.given), to_z-of_z {w = w64} (sfits_of c.y-1.given)) at w.wrapping_add-z.ensures ∙ ap (λ (b : Bool). wrap (2 ^ 64) (coefficient c.loop-k.out k +ℤ by b (coefficient c.args.seed.now (k - s)))) (sym w.if-neg.false)
    ] in
    adding_more s (λ j. by c.args.neg (coefficient c.args.seed.now j)) c.args.out.now k c.loop-k.out z (omega arith) (omega (arith, c.loop-k.invariant.len)) e c.loop-k.invariant

pub returns : goal.returns
returns c =
    added c.args.shift _ c.loop-k.k c.args.neg c.args.seed.now c.args.out.now c.loop-k.out refl (omega arith) (omega arith) c.loop-k.invariant
