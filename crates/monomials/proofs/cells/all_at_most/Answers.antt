-- The first eight, and the eights from the end. Rests on `overlapping_divide`.
use mathlib.Core.Path.{sym, ap, ◌∙◌}
use Prim.Native.Nat.{ℕ, ◌%◌}
use native.Mathlib.Omega.{arith}
use Rattle.monomials.proofs.Chunks.{overlapping_divide}
use Rattle.monomials.proofs.cells.all_at_most.Goals as goal

pub returns-then-eight_at_most : goal.returns-then-eight_at_most
returns-then-eight_at_most c =
    let eights = c.in-Some-Some in
    c.eights_at_most.ensures
    ∙ sym (overlapping_divide 8 _ _ _ _ _ _ _ (omega arith) (ap (λ (n : ℕ). n % 8) c.requires) eights.ensures.cases.same eights.ensures'.cases.same c.if-eight_at_most.ensures)
