-- `seat` meets its contract: the first place that is not passed is sought.
use native.Mathlib.Omega.{arith}
use mathlib.Core.Path.{◌≡◌, refl, sym, ◌∙◌}
use mathlib.Core.Bool.{true, false}
use mathlib.Core.List.{List}
use Prim.Native.Nat.{ℕ}
use borrow.Author.Rules.{rules}
use borrow.Author.Tests.{tests}
use Rattle.std.proofs.lemmas.Iterator.{YieldsList-from_slice, IsFirst-from_position, index_from_first}
use Rattle.laws.specs.Order.{degrevlex}
use Rattle.records.specs.Rows.{member, members_at, seat_of, is_less}
use Rattle.records.proofs.Cells.{less_told}
use Rattle.records.proofs.choice.seat.Goals as goal

pub returns-clause-seat : goal.returns-clause-seat
returns-clause-seat c =
    let l = c.args.list.now in let a = member l c.args.i in
    c.unwrap_or.ensures
    ∙ sym (index_from_first (λ (ps : List ℕ). seat_of a (members_at l ps)) (λ (p : ℕ). is_less (degrevlex a (member l p)) ≡ false) (λ (p : ℕ). is_less (degrevlex a (member l p)) ≡ true)
    refl (λ x xs h. rw h refl) (λ x xs h. rw h (omega arith)) c.args.places.now c.position.result
    (IsFirst-from_position _ _ _ (λ (p : ℕ). is_less (degrevlex a (member l p)) ≡ false) (λ (p : ℕ). is_less (degrevlex a (member l p)) ≡ true) c.position.ensures.ran (YieldsList-from_slice c.args.places.now c.iter.ensures.rest) (λ x q k. search (rules, tests, less_told)) (λ x q k. search (rules, tests, less_told))))
