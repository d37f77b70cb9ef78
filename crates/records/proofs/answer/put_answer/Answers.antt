-- `put_answer` meets its contract, run by run. Rests on `answer_sets`.
use mathlib.Core.Path.{ap, ◌∙◌}
use mathlib.Core.List.{◌++◌}
use Prim.Native.Nat.{ℕ, ◌*◌, ◌^◌}
use native.Mathlib.Nat.{add_comm}
use lib.ListN.{drop}
use Rattle.laws.specs.Record.{answer_record}
use Rattle.laws.proofs.Writing.{answer_sets}
use borrow.Author.Rules.{rules}
use Rattle.records.proofs.PutBytes.{big_endian_is}
use Rattle.records.proofs.answer.put_answer.Goals as goal

pub returns : goal.returns
returns c =
    let a = c.args in
    c.put_bytes-4.ensures
    ∙ rw (c.put_bytes-3.ensures, c.put_bytes-2.ensures, c.put_bytes.ensures)
    (rw (c.to_be_bytes.ensures ∙ big_endian_is 4 21, c.to_be_bytes-2.ensures ∙ big_endian_is 8 a.dimension.high, c.to_be_bytes-3.ensures ∙ big_endian_is 8 a.dimension.low, c.to_be_bytes-4.ensures ∙ big_endian_is 4 a.top)
    (answer_sets a.status a.dimension.low a.dimension.high a.top a.out.now (search rules) c.requires ∙ ap (λ (x : ℕ). answer_record a.status x a.top ++ drop 26 a.out.now) (add_comm (2 ^ 64 * a.dimension.high) a.dimension.low)))
