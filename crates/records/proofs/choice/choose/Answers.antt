-- `choose` meets its contract: the places are those of the minimal monomials from i on. Rests on `chosen_more` and `chosen_same`.
use native.Mathlib.Omega.{arith}
use mathlib.Core.Path.{◌≡◌, refl, sym, ◌∙◌}
use Prim.Native.Nat.{ℕ, ◌+◌, ◌-◌, ◌<◌}
use Rattle.std.proofs.lemmas.List.Elements.{All-nil}
use Rattle.records.proofs.Cells.{listed_end}
use Rattle.records.proofs.Choosing.{chosen_more, chosen_same}
use Rattle.records.proofs.choice.choose.Goals as goal

pub loop-i-init : goal.loop-i-init
loop-i-init c =
    let l = c.args.list.now in
    rw c.requires record { rows = rw (listed_end l.width l.count l.count l.cells.now (omega arith)) refl; few = omega arith; below = All-nil (λ (q : ℕ). q < l.count) }

pub loop-i-preserved-then-is_minimal : goal.loop-i-preserved-then-is_minimal
loop-i-preserved-then-is_minimal c =
    let l = c.args.list.now in let i = c.loop-i.i in let e : i - 1 + 1 ≡ i = omega arith in record {
      rows = c.insert_row.ensures.rows ∙ rw c.loop-i.invariant.rows (sym (rw e at (chosen_more l.width l.count (i - 1) l.cells.now (omega arith) (sym c.is_minimal.ensures ∙ c.if-is_minimal.true))));
      few = omega arith;
      below = c.insert_row.ensures.below;
    }

pub loop-i-preserved : goal.loop-i-preserved
loop-i-preserved c =
    let l = c.args.list.now in let i = c.loop-i.i in let e : i - 1 + 1 ≡ i = omega arith in record {
      rows = c.loop-i.invariant.rows ∙ sym (rw e at (chosen_same l.width l.count (i - 1) l.cells.now (omega arith) (sym c.is_minimal.ensures ∙ c.if-is_minimal.false)));
      few = omega arith;
      below = c.loop-i.invariant.below;
    }
