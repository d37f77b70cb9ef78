use mathlib.Core.Path.{◌≡◌}
use Prim.Native.Nat.{◌+◌}
use Rattle.laws.specs.Mask.{mask_bit, word_of}
use Rattle.monomials.proofs.divmask.mask_word.Given as goal

abbrev pub invariant-loop-i : goal.invariant-loop-i
invariant-loop-i l = l.word ≡ word_of (λ j. mask_bit l.n l.max_deg l.exps (l.start + j)) l.i
