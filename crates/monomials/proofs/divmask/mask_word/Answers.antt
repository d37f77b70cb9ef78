-- `mask_word` meets its contract: the word so far is that of the bits passed. Rests on `word_of_fits`.
use native.Mathlib.Omega.{arith}
use mathlib.Core.Path.{◌≡◌}
use Prim.Native.Nat.{ℕ, ◌+◌}
use Rattle.laws.specs.Mask.{mask_bit}
use Rattle.laws.proofs.Mask.{shifted_one, word_of_fits}
use Rattle.monomials.proofs.divmask.mask_word.Goals as goal

pub overflow_add-word : goal.overflow_add-word
overflow_add-word c =
    let a = c.args in
    let i = c.loop-i.i in
    omega (arith, shifted_one 64 i (omega arith), word_of_fits (λ (j : ℕ). mask_bit a.n a.max_deg a.exps.now (a.start + j)) 64 i (omega arith))

pub returns : goal.returns
returns c =
    let a = c.args in
    let i = c.loop-i.i in
    let e : i ≡ 64 = omega arith in
    rw e at c.loop-i.invariant
