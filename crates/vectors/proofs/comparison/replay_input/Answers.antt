-- `replay_input` meets its contract: the text is what was read.
use Rattle.std.proofs.Common.{◌≡◌, ◌≤◌, take, length, arith, rules, refl, length-take-le}
use Rattle.vectors.proofs.comparison.replay_input.Goals as goal

pub returns : goal.returns
returns g c =
    let n = c.in_ok-size.size in
    let room = c.read_full.new.room in
    let inside : n ≤ length room = search (rules, c.in_ok-size.ensures.within) in
    let size : length (take n room) ≡ n = length-take-le n room inside in
    record {
      size = search rules;
      replayed = (take n room, omega arith, rw size refl, c.in_ok-size.ensures.bytes, (λ h. c.in_ok-size.ensures.end (omega arith)), (c.replay-apart.ensures.0, c.replay-apart.ensures.1, c.replay-apart.ensures.2));
    }
