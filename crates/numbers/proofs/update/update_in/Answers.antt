use Rattle.std.proofs.Common.{ℕ, length, replicate, pos, sym, ap, ◌∙◌}
use Rattle.laws.proofs.Grown.{updated, updated_length, updated_padded}
use Rattle.laws.proofs.Trim.{zeros_all}
use Rattle.laws.specs.Ideal.{listed}
use Rattle.numbers.proofs.ToLaws.{listed_few, zeros_filled}
use Rattle.numbers.proofs.update.update_in.Goals as goal

pub returns : goal.returns
returns c =
    let a = c.args in
    let l = a.lists.now in
    let G = a.given.now in
    let L = listed l.n l.s l.xs.now in
    let K = listed l.n l.t l.ys.now in
    let new = c.add_each.new.first in
    let added = c.add_each.ensures.added_to in
    let second = c.add_each.ensures.second_len_unchanged in
    let first = c.fill.ensures.after (λ y e. e) in
    let few = listed_few l.n l.s l.xs.now l.t l.ys.now c.requires.existing_len.1 in
    let e = updated G L K c.fill.new.self c.add_shifted.new.out new few c.requires.first_len.2 (zeros_filled _ _ first) c.add_shifted.ensures added (c.fill.ensures.len ∙ c.requires.first_len.0) in
    record {
      value = (updated_length G L K new c.trimmed_length.result e c.trimmed_length.ensures, c.fill-3.ensures.after (λ y e. e) ∙ ap (λ (k : ℕ). replicate k 0) c.add_each.auto.room);
      first_after = updated_padded G L K new (length a.first.now) e (added.len ∙ c.add_shifted.ensures.len ∙ c.fill.ensures.len);
      second_after = zeros_all c.add_each.new.second second.1 ∙ ap (λ (k : ℕ). replicate k (pos 0)) (second.0 ∙ c.fill-2.ensures.len);
    }

pub add_each-requires-clause-second_len : goal.add_each-requires-clause-second_len
add_each-requires-clause-second_len c =
    (c.fill-2.ensures.len ∙ c.requires.first_len.1 ∙ sym (c.add_shifted.ensures.len ∙ c.fill.ensures.len), zeros_filled _ _ (c.fill-2.ensures.after (λ y e. e)))
