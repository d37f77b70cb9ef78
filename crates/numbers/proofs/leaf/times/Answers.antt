use Rattle.std.proofs.Common.{◌≡◌, ◌-◌, ◌^◌, ◌-ℤ◌, get_or, pos, ◌∙◌, ℤ, SFits, arith, of_z, to_z, to_z-of_z, w64}
use borrow.Author.Rules.{sfits_of}
use Rattle.laws.proofs.Added.{timing_end, timing_more}
use Rattle.laws.specs.Word.{wrap}
use Rattle.numbers.proofs.leaf.times.Goals as goal

-- a difference of two words that are read back from their bits
difference : (x y r : ℤ) → SFits w64 x → SFits w64 y → r ≡ wrap (2 ^ 64) (to_z w64 (of_z w64 x) -ℤ to_z w64 (of_z w64 y)) → r ≡ wrap (2 ^ 64) (x -ℤ y)
difference x y r f g e = rw (to_z-of_z {w = w64} f, to_z-of_z {w = w64} g) at e

pub loop-k-preserved : goal.loop-k-preserved
loop-k-preserved c =
    let l = c.loop-k in
    let e = difference (get_or l.c (l.k - 1) (pos 0)) (get_or l.c (l.k - 1 - c.args.a) (pos 0)) c.wrapping_sub.result (sfits_of c.x-1.given) (sfits_of c.y-1.given) c.wrapping_sub.ensures in
    timing_more _ _ _ _ _ _ (omega arith) (omega arith) (omega arith) (to_z-of_z {w = w64} (sfits_of c.wrapping_sub.type_inv) ∙ e) c.loop-k.invariant

pub returns : goal.returns
returns c =
    timing_end _ _ _ _ c.loop-k-test.false c.loop-k.invariant
