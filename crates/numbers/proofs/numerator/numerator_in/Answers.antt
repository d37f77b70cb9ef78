use Rattle.std.proofs.Common.{◌≡◌, ℕ, ◌*◌, ◌≤◌, length, replicate, pos, sym, ap, ◌∙◌, le_trans, le_of_eq, mul-le-mul_left}
use Rattle.laws.proofs.Exact.{settled, settled_length, settled_padded}
use Rattle.laws.proofs.Trim.{zeros_all}
use Rattle.laws.specs.Ideal.{listed}
use Rattle.numbers.proofs.ToLaws.{zeros_filled}
use Rattle.numbers.proofs.numerator.numerator_in.Goals as goal

-- fewer variables need no more cells
narrow_one : (w n s L K : ℕ) → w ≤ n → s * n ≤ L → K ≡ L → s * w ≤ K
narrow_one w n s L K h g e = le_trans (mul-le-mul_left s h) (le_trans g (le_of_eq (sym e)))

pub returns : goal.returns
returns c =
    let a = c.args in
    let l = a.list.now in
    let L = listed l.n l.count l.cells.now in
    let out = c.add_numerator.new.out in
    let added = c.add_numerator.ensures.added_to in
    let scratch = c.add_numerator.ensures.scratch_len_unchanged in
    let first = c.fill.ensures.after (λ y e. e) in
    let e = settled l.n l.count c.put_list-w.result c.starting_list-m.result l.cells.now c.put_list-w.new.room c.starting_list-m.new.room c.fill.new.self out
    l.checked.count c.put_list-w.ensures.same c.starting_list-m.ensures (zeros_filled _ _ first) (c.fill.ensures.len ∙ c.requires.first_len.0) added in
    record {
      value = (
        settled_length L out c.trimmed_length.result e c.trimmed_length.ensures,
        c.fill-3.ensures.after (λ y e. e) ∙ ap (λ (k : ℕ). replicate k 0) (c.add_numerator.auto.room ∙ c.starting_list-m.ensures.len ∙ c.put_list-w.ensures.len),
      );
      first_after = settled_padded L out (length a.first.now) e (added.len ∙ c.fill.ensures.len);
      second_after = zeros_all c.add_numerator.new.scratch scratch.1 ∙ ap (λ (k : ℕ). replicate k (pos 0)) (scratch.0 ∙ c.fill-2.ensures.len);
    }

pub add_numerator-requires-clause-scratch_len : goal.add_numerator-requires-clause-scratch_len
add_numerator-requires-clause-scratch_len c =
    (c.fill-2.ensures.len ∙ c.requires.first_len.1 ∙ sym c.fill.ensures.len, zeros_filled _ _ (c.fill-2.ensures.after (λ y e. e)))
