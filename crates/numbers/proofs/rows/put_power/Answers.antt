use Rattle.std.proofs.Common.{◌≡◌, ℕ, ◌+◌, ◌<◌, ◌≤◌, Bool, true, false, eqb, ◌≢◌, ◌⊎◌, List, length, get_or, set, sym, refl, ◌∙◌, inl, inr, arith, length-set, get_or-set_other, get_or-set_same, eqb-true, rules}
use borrow.Author.Tests.{eqb-false}
use Rattle.laws.proofs.Rows.{Wrote, axis, axis_other, axis_same}
use Rattle.numbers.proofs.Runs.{wrote_part}
use Rattle.numbers.proofs.rows.put_power.Goals as goal

-- zeros, and e in place v of them
wrote_power : (xs ys : List ℕ) (to n v e : ℕ) → to + n ≤ length xs → v < n → Wrote xs (λ j. 0) to n ys → Wrote xs (λ j. get_or (axis v e) j 0) to n (set ys (to + v) e)
wrote_power xs ys to n v e h l w =
    record {
      len = length-set ys (to + v) e ∙ w.len;
      there = λ j q. go j q (eqb j v) refl;
      other = λ k q. get_or-set_other ys (to + v) k e 0 (far k q) ∙ w.other k q;
    }
  where
    far : (k : ℕ) → (k < to) ⊎ (to + n ≤ k) → k ≢ to + v
    far k (inl q) r = omega arith
    far k (inr q) r = omega arith

    go : (j : ℕ) → j < n → (t : Bool) → eqb j v ≡ t → get_or (set ys (to + v) e) (to + j) 0 ≡ get_or (axis v e) j 0
    go j q true p =
        let r : j ≡ v = eqb-true j v p in
        rw r (get_or-set_same ys (to + v) e 0 (omega (arith, w.len)) ∙ sym (axis_same v e))
    go j q false p = get_or-set_other ys (to + v) (to + j) e 0 (λ r. eqb-false j v p (omega arith)) ∙ w.there j q ∙ sym (axis_other v e j (eqb-false j v p))

pub returns : goal.returns
returns c =
    let a = c.args in
    let f = c.fill in
    wrote_power a.room.now _ a.to a.n a.v a.e c.requires.0 c.requires.1
    (wrote_part a.room.now (λ j. 0) a.to a.n _ f.new.self c.requires.0 (omega arith) (search rules) (search rules))
