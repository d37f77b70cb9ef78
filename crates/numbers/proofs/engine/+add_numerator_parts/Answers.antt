use Rattle.std.proofs.Common.{◌≡◌, ℕ, ◌+◌, ◌-◌, ◌*◌, ◌≤◌, List, [], ◌++◌, length, take, drop, replicate, ℤ, pos, sym, refl, ap, ◌∙◌, subst, le_trans, lt_trans, le_of_eq, le_of_lt, length-take-le, take_at}
use borrow.Rule.Slice.PartMut.{put_mid}
use lib.Seq.{length_front, take-append-le}
use Rattle.laws.specs.Coefficients.{coefficient, shift as shifted, trim}
use Rattle.laws.proofs.Added.{AddedTo, Zeros, running_leaf, running_more, running_past, zeros_back, zeros_part}
use Rattle.laws.proofs.Lists.{replicate_constant}
use Rattle.laws.proofs.Parts.{parts_sums}
use Rattle.laws.proofs.Room.{above_most, part_enough, part_whole, put_length, put_rows, room_first, room_one, room_parts, room_rest, room_square, room_two}
use Rattle.laws.proofs.Rows.{rows}
use Rattle.laws.proofs.Seed.{seeded}
use Rattle.laws.proofs.Trim.{trim_length, trim_take}
use Rattle.laws.proofs.Turn.{running_same, turn}
use Rattle.numbers.proofs.ToLaws.{branch_falls, first_falls, inner_falls, last_of_sum, parts_falls, rest_sum, rest_there, second_falls, sum_first, width_left}
use Rattle.numbers.proofs.Steps.{next_within}
use Rattle.numbers.proofs.engine.+add_numerator_parts.Goals as goal

-- the array before the first part
abbrev cleared : List ℤ
cleared = replicate 512 (pos 0)

cleared_zeros : Zeros cleared
unfolding Zeros
cleared_zeros = replicate_constant (pos 0) 512

-- t^s times the seed P times the numerator of the first m monomials in xs
abbrev term : List ℤ → ℕ → ℕ → ℕ → List ℕ → ℕ → ℤ
term P s n m xs = shifted s (seeded (coefficient P) [] (rows n m xs))

-- q, the coefficients of the first part, at the front of the array z: as many as are left when trimmed
module _ (w r : ℕ) (q z : List ℤ) (e : length q ≡ length (take w z)) (h : w ≤ length z) (f : r ≡ length (trim (take w (q ++ drop w z)))) where
  trimmed_count : r ≡ length (trim q)
  trimmed_count = f ∙ ap (λ (s : List ℤ). length (trim s)) (take_at q (drop w z) w (e ∙ length-take-le w z h))

  trimmed_front : r ≤ length (q ++ drop w z)
  trimmed_front =
      le_trans
      (le_of_eq trimmed_count)
      (le_trans (trim_length q) (le_trans (le_of_eq (e ∙ length-take-le w z h)) (le_trans h (le_of_eq (sym (length_front z q w e))))))

  trimmed_seed : (k : ℕ) → coefficient (take r (q ++ drop w z)) k ≡ coefficient q k
  trimmed_seed k =
      ap (λ (s : List ℤ). coefficient s k)
      (take-append-le r q (drop w z) (le_trans (le_of_eq trimmed_count) (trim_length q)) ∙ ap (λ (j : ℕ). take j q) trimmed_count)
      ∙ trim_take q k

pub add_numerator-parts-requires : goal.add_numerator-parts-requires
add_numerator-parts-requires t c =
    let a = c.args in
    let left = c.loop-at.left in
    let same = c.loop-at.invariant in
    let b = c.in-Some-regroup.b in
    let found = c.in-Some-regroup.ensures.found in
    let less = le_of_lt found.2 in
    let enough = room_parts a.n a.m left b (length a.room.now) same.0 less c.requires.n_in_bounds.0 in (
      parts_falls a.m left b t c.decreases same.0 less,
      (
        (
          le_trans enough (le_of_eq (sym (c.regroup.ensures.same.len ∙ same.1))),
          c.requires.n_in_bounds.1,
          c.in-Some-regroup.ensures.some,
          rest_there left b found.2,
          next_within a.level 16 found.0,
        ),
        (
          (same.2 ∙ c.requires.scratch_len.0 ∙ sym same.4.len, same.3, le_of_lt c.loop-at-test.true, found.1),
          found.3,
        ),
      ),
    )

pub add_numerator-returns-in-Some-regroup : goal.add_numerator-returns-in-Some-regroup
add_numerator-returns-in-Some-regroup t c =
    let a = c.args in
    let l = c.loop-at in
    let ys = c.regroup.new.room in
    let regrouped = running_same a.seed.now _ a.out.now a.n l.left l.left l.at l.room ys l.out c.regroup.ensures.same.same l.invariant.4 in
    let added = c.parts.ensures.added_to in
    let whole = subst (λ (k : ℕ). AddedTo (term a.seed.now l.at a.n k ys) l.out c.parts.new.out) (rest_sum l.left c.in-Some-regroup.b (le_of_lt c.in-Some-regroup.ensures.found.2)) added in
    let zeros = c.parts.ensures.scratch_len_unchanged in
    record {
      added_to = running_leaf _ a.out.now _ l.out c.parts.new.out whole regrouped;
      scratch_len_unchanged = (zeros.0 ∙ l.invariant.2, zeros.1);
    }

pub add_numerator-returns-in_default-choose : goal.add_numerator-returns-in_default-choose
add_numerator-returns-in_default-choose t c =
    let a = c.args in
    let l = c.loop-at in
    let regrouped = running_same a.seed.now _ a.out.now a.n l.left l.left l.at l.room c.regroup.new.room l.out c.regroup.ensures.same.same l.invariant.4 in
    let zeros = c.leaf.ensures.scratch_len_unchanged in
    record {
      added_to = running_leaf _ a.out.now _ l.out c.leaf.new.out c.leaf.ensures.added_to regrouped;
      scratch_len_unchanged = (zeros.0 ∙ l.invariant.2, zeros.1);
    }

pub add_numerator-sum_branch-k-requires : goal.add_numerator-sum_branch-k-requires
add_numerator-sum_branch-k-requires t c =
    let a = c.args in
    let left = c.loop-at.left in
    let p = c.in-Some-choose.p in
    let shared = c.in-Some-choose.ensures in
    let two = le_trans shared.2 (above_most a.n p.v p.e c.regroup.new.room left) in
    let enough = room_two a.n a.m left (length a.room.now) c.loop-at.invariant.0 two c.requires.n_in_bounds.0 in
    (le_trans enough (le_of_eq (sym (c.regroup.ensures.same.len ∙ c.loop-at.invariant.1))), shared.0, shared.2)

pub add_numerator-add_numerator-requires : goal.add_numerator-add_numerator-requires
add_numerator-add_numerator-requires t c =
    let a = c.args in
    let left = c.loop-at.left in
    let same = c.loop-at.invariant in
    let k = c.sum_branch-k.result in
    let less = c.sum_branch-k.ensures.less in
    let ys = c.sum_branch-k.new.room in
    let enough = room_rest a.n a.m left k (length a.room.now) same.0 less c.requires.n_in_bounds.0 in
    let as_long = sym (c.sum_branch-k.ensures.len ∙ (c.regroup.ensures.same.len ∙ same.1)) in (
      branch_falls a.m left k t c.decreases same.0 less,
      (
        (part_enough (left * a.n) (k * k * a.n) ys (le_trans enough (le_of_eq as_long)), c.requires.n_in_bounds.1, c.requires.n_in_bounds.2),
        (same.2 ∙ c.requires.scratch_len.0 ∙ sym same.4.len, same.3),
      ),
    )

pub add_numerator-colon-left-requires : goal.add_numerator-colon-left-requires
add_numerator-colon-left-requires t c =
    let a = c.args in
    let left = c.loop-at.left in
    let same = c.loop-at.invariant in
    let back = put_length (left * a.n) c.sum_branch-k.new.room c.add_numerator.new.room c.add_numerator.auto.room in
    let as_long = back ∙ (c.sum_branch-k.ensures.len ∙ (c.regroup.ensures.same.len ∙ same.1)) in
    let enough = room_one a.n a.m left (length a.room.now) same.0 c.requires.n_in_bounds.0 in
    (le_trans enough (le_of_eq (sym as_long)), c.in-Some-choose.ensures.0)

pub add_numerator-loop-at-preserved : goal.add_numerator-loop-at-preserved
add_numerator-loop-at-preserved t c =
    let a = c.args in
    let l = c.loop-at in
    let same = l.invariant in
    let p = c.in-Some-choose.p in
    let xs = c.regroup.new.room in
    let ys = c.sum_branch-k.new.room in
    let zs = c.add_numerator.new.room in
    let before = c.sum_branch-k.ensures.len ∙ (c.regroup.ensures.same.len ∙ same.1) in
    let enough = room_one a.n a.m l.left (length a.room.now) same.0 c.requires.n_in_bounds.0 in
    let step = turn a.seed.now a.n l.left p.v p.e l.at c.sum_branch-k.result c.colon-left.result xs ys zs c.colon-left.new.room
    c.in-Some-choose.ensures.0 (le_trans enough (le_of_eq (sym before))) c.sum_branch-k.ensures c.add_numerator.auto.room c.colon-left.ensures in
    let regrouped = running_same a.seed.now _ a.out.now a.n l.left l.left l.at l.room xs l.out c.regroup.ensures.same.same same.4 in (
      le_trans c.colon-left.ensures.less same.0,
      c.colon-left.ensures.len ∙ put_length (l.left * a.n) ys zs c.add_numerator.auto.room ∙ before,
      c.add_numerator.ensures.scratch_len_unchanged.0 ∙ same.2,
      c.add_numerator.ensures.scratch_len_unchanged.1,
      running_more _ _ _ _ _ _ _ step c.add_numerator.ensures.added_to regrouped,
    )

pub add_numerator-returns : goal.add_numerator-returns
add_numerator-returns t c =
    let a = c.args in
    let l = c.loop-at in
    let past = le_trans (le_of_eq (sym l.invariant.4.len)) c.loop-at-test.false in
    record {
      added_to = running_past _ a.out.now l.at (seeded (coefficient a.seed.now) [] (rows a.n l.left l.room)) l.out past l.invariant.4;
      scratch_len_unchanged = (l.invariant.2, l.invariant.3);
    }

pub parts-add_numerator-requires : goal.parts-add_numerator-requires
parts-add_numerator-requires t c =
    let a = c.args in
    let asked = c.requires.n_in_bounds in
    let m = a.b + a.a in
    let w = length a.out.now - a.shift in
    let within = le_trans (width_left w (length a.out.now) a.shift refl) (le_of_eq (sym c.requires.scratch_len.0)) in (
      lt_trans (first_falls a.b a.a (m + m + m) refl asked.2) (inner_falls (m + m + m) t c.decreases),
      (
        (part_enough (a.b * a.n) (a.a * a.a * a.n) a.room.now (room_first a.n a.a a.b (length a.room.now) asked.2 asked.0), asked.1, asked.4),
        (
          length-take-le w a.scratch.now within ∙ sym (length-take-le w cleared c.requires.scratch_len.3),
          zeros_part a.scratch.now w c.requires.scratch_len.1,
        ),
      ),
    )

pub parts-slice_bounds-q-end-3 : goal.parts-slice_bounds-q-end-3
parts-slice_bounds-q-end-3 t c =
    trimmed_front (length c.args.out.now - c.args.shift) c.trimmed_length-r.result c.add_numerator.new.out cleared
    c.add_numerator.ensures.added_to.len c.requires.scratch_len.3 c.trimmed_length-r.ensures

pub parts-slice_bounds-add_numerator-end-5 : goal.parts-slice_bounds-add_numerator-end-5
parts-slice_bounds-add_numerator-end-5 t c =
    let w = length c.args.out.now - c.args.shift in
    let r = c.trimmed_length-r.result in
    let q = c.add_numerator.new.out in
    sym (length-take-le r (q ++ drop w cleared) (trimmed_front w r q cleared c.add_numerator.ensures.added_to.len c.requires.scratch_len.3 c.trimmed_length-r.ensures))

pub parts-add_numerator-requires-2 : goal.parts-add_numerator-requires-2
parts-add_numerator-requires-2 t c =
    let a = c.args in
    let asked = c.requires.n_in_bounds in
    let m = a.b + a.a in
    let w = length a.out.now - a.shift in
    let within = le_trans (width_left w (length a.out.now) a.shift refl) (le_of_eq (sym c.requires.scratch_len.0)) in
    let zs = c.add_numerator.new.scratch in
    let zeros = c.add_numerator.ensures.scratch_len_unchanged in
    let enough = room_square a.n (a.a + a.b) a.b (length a.room.now) (last_of_sum a.a a.b) asked.0 in
    let as_long = sym (put_length (a.b * a.n) a.room.now c.add_numerator.new.room c.add_numerator.auto.room) in (
      lt_trans (second_falls a.b a.a (m + m + m) refl asked.3) (inner_falls (m + m + m) t c.decreases),
      (
        (le_trans enough (le_of_eq as_long), asked.1, asked.4),
        (
          length_front a.scratch.now zs w zeros.0 ∙ c.requires.scratch_len.0,
          zeros_back a.scratch.now zs w (zeros.0 ∙ length-take-le w a.scratch.now within) c.requires.scratch_len.1 zeros.1,
        ),
      ),
    )

pub parts-returns : goal.parts-returns
parts-returns t c =
    let a = c.args in
    let xs = a.room.now in
    let ys = c.add_numerator.new.room in
    let base = a.b * a.n in
    let w = length a.out.now - a.shift in
    let q = c.add_numerator.new.out in
    let fits = c.requires.scratch_len.3 in
    let rest = take (length xs - base) (drop base xs) in
    let kept = put_rows a.n a.b xs ys (sum_first base (a.a * a.a * a.n) (length xs) (room_first a.n a.a a.b (length xs) c.requires.n_in_bounds.2 c.requires.n_in_bounds.0)) c.add_numerator.auto.room in
    let front = trimmed_seed w c.trimmed_length-r.result q cleared c.add_numerator.ensures.added_to.len fits c.trimmed_length-r.ensures in
    let zeros = c.add_numerator-2.ensures.scratch_len_unchanged in
    record {
      added_to = parts_sums a.seed.now (take c.trimmed_length-r.result (q ++ drop w cleared)) a.n a.b a.a a.shift xs (put_mid base (length xs - base) xs ys) rest
          (take w cleared) q a.out.now c.add_numerator-2.new.out kept (part_whole base xs) c.requires.apart (zeros_part cleared w cleared_zeros)
          (length-take-le w cleared fits) c.requires.scratch_len.2 c.add_numerator.ensures.added_to front c.add_numerator-2.ensures.added_to;
      scratch_len_unchanged = (
        zeros.0 ∙ length_front a.scratch.now c.add_numerator.new.scratch w c.add_numerator.ensures.scratch_len_unchanged.0,
        zeros.1,
      );
    }
