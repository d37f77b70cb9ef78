-- `copy_cells` meets its contract: the first i cells are exponents of the record. Rests on `written_next` and `exponents_in_at`.
use native.Mathlib.Omega.{arith}
use mathlib.Core.Path.{◌≡◌, sym, ap, ◌∙◌}
use mathlib.Core.List.{List, ◌++◌}
use Prim.Native.Nat.{ℕ}
use lib.ListN.{length, take, drop, length-take, length-drop}
use Rattle.laws.specs.Record.{exponents_in}
use Rattle.laws.proofs.Lists.{written_next, written_all}
use Rattle.laws.proofs.Reading.{cells_in_length, exponents_in_at}
use Rattle.records.proofs.bytes.copy_cells.Goals as goal

pub loop-i-preserved : goal.loop-i-preserved
loop-i-preserved c =
    let rec = c.args.rec.now in let d = take c.args.count c.args.cells.now in let l = c.loop-i in
    let e : length (exponents_in rec) ≡ c.args.count = cells_in_length (drop 7 rec) ∙ omega (arith, length-drop 7 rec) in
    let k : length d ≡ c.args.count = simp length-take (omega arith) in
    rw l.invariant (written_next (exponents_in rec) d l.i c.cell_at.result (omega arith) (omega arith) (exponents_in_at rec l.i (omega arith) ∙ sym c.cell_at.ensures))

pub returns : goal.returns
returns c =
    let rec = c.args.rec.now in let d = take c.args.count c.args.cells.now in let l = c.loop-i in
    let e : length (exponents_in rec) ≡ c.args.count = cells_in_length (drop 7 rec) ∙ omega (arith, length-drop 7 rec) in
    let k : length d ≡ c.args.count = simp length-take (omega arith) in
    ap (λ (r : List ℕ). r ++ drop c.args.count c.args.cells.now) (l.invariant ∙ written_all (exponents_in rec) d l.i (omega arith) (omega arith))
