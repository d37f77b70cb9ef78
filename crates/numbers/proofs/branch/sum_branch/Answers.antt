use Rattle.std.proofs.Common.{◌≡◌, ℕ, ◌+◌, ◌*◌, ◌^◌, ◌<◌, ◌≤◌, List, get_or, refl, ap, ◌∙◌, suc-mul, zero-mul, add-one, arith, w64, Fits}
use Rattle.laws.proofs.Branch.{summed_at, summed_end}
use Rattle.laws.proofs.Rows.{Wrote, axis}
use Rattle.numbers.proofs.ToLaws.{summed_none_more, summed_one, wrote_within}
use Rattle.numbers.proofs.branch.sum_branch.Goals as goal
use Rattle.numbers.proofs.branch.sum_branch.Goals.{then-room-at, else-room-at}

two_less : (k m : ℕ) → k + 2 ≤ m → k < m
two_less k m h = omega arith

two_fits : (k m : ℕ) → k + 2 ≤ m → Fits w64 m → Fits w64 (k + 1)
two_fits k m h f = omega arith

-- the place behind the copies, as the loop counts it up
first_place : (a n : ℕ) → a ≡ a + 0 * n
first_place a n = omega (arith, zero-mul n)

next_place : (a n k to next j : ℕ) → next ≡ to + n → to ≡ a + k * n → j ≡ k + 1 → next ≡ a + j * n
next_place a n k to next j p q r = omega (arith, ap (λ (z : ℕ). z * n) r, suc-mul k n, add-one k)

same_place : (a n k j : ℕ) → j ≡ k → a + k * n ≡ a + j * n
same_place a n k j r = omega (arith, ap (λ (z : ℕ). z * n) r)

place_there : (to z n L : ℕ) → to ≡ z → z + n ≤ L → to + n ≤ L
place_there to z n L e h = omega arith

place_past : (a to z : ℕ) → to ≡ z → a ≤ z → a ≤ to
place_past a to z e h = omega arith

place_fits : (to z n K L : ℕ) → to ≡ z → z + n ≤ K → K ≡ L → L < 2 ^ 64 → Fits w64 (to + n)
place_fits to z n K L e h l f = omega arith

at_place : (xs : List ℕ) (f : ℕ → ℕ) (to z n : ℕ) (ys : List ℕ) → to ≡ z → Wrote xs f to n ys → Wrote xs f z n ys
at_place xs f to z n ys e w = rw e at w

pub loop-i-preserved : goal.loop-i-preserved
loop-i-preserved c =
    let a = c.args in
    let l = c.loop-i in
    let p = c.if-room-at in
    let from = l.i * a.n in
    elim p.branch [
      | then-room-at w ↦
          let ys = w.copy_within.new.self in
          let copied = wrote_within l.room ys from l.to (from + a.n) a.n refl w.copy_within.ensures.len w.copy_within.ensures.by_index in
          let t = summed_one a.n a.m a.v a.e l.i l.k a.room.now l.room c.requires.0 l.invariant.2 c.loop-i-test.true c.requires.1 l.invariant.0 p.k p.room ys w.if-room-at.true (at_place l.room _ _ _ a.n ys l.invariant.1 copied) w.room-is w.k-is in
          (t.0, next_place _ _ _ _ _ _ w.to-is l.invariant.1 w.k-is, t.1)
      | else-room-at w ↦
          let t = summed_none_more a.n a.m a.v a.e l.i l.k a.room.now l.room c.requires.0 l.invariant.2 c.loop-i-test.true c.requires.1 l.invariant.0 p.k p.room w.if-room-at.false w.room-is w.k-is in
          (t.0, w.to-is ∙ l.invariant.1 ∙ same_place _ a.n _ _ w.k-is, t.1)
    ]

pub returns : goal.returns
returns c =
    let a = c.args in
    let l = c.loop-i in
    let put = at_place l.room (λ j. get_or (axis a.v a.e) j 0) _ _ a.n c.put_power.new.room l.invariant.1 c.put_power.ensures in
    summed_end a.n a.m a.v a.e a.room.now l.k l.room c.put_power.new.room c.requires.0 c.requires.1 c.requires.2 put (summed_at a.n a.m a.v a.e a.room.now l.i l.k l.room (omega arith) c.loop-i-test.false l.invariant.2)
