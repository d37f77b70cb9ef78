-- Two lists in a `TwoLists`.
--   there   they lie in their cells, and no size asked for them overflows a word
--   wide    where there is a cell there is a variable
--   alone   the first one, where there is no second
use Rattle.std.proofs.Common.{◌≡◌, ℕ, ◌+◌, ◌*◌, ◌<◌, ◌++◌, sym, ap, arith, add-mul}
use Rattle.laws.specs.Ideal.{listed}
use Rattle.laws.proofs.Asked.{Lists, both}
use Rattle.numbers.proofs.AskedCells.{variables}
use Rattle.numbers.specs.BothLists.{all}
use Rattle.numbers.specs.declared.extent.TwoLists.{TwoLists}

module _ (x : TwoLists) where
  pub there : Lists x.n x.s x.xs.now x.t x.ys.now
  there = record { first = x.first; second = x.second; width = omega (arith, x.width); count = x.count }

  pub wide : (k : ℕ) → k < x.s * x.n + x.t * x.n → 0 < x.n
  wide k g = variables x.n (x.s + x.t) k (omega (arith, add-mul x.s x.t x.n))

  pub alone : x.t ≡ 0 → both x.n x.s x.xs.now 0 x.xs.now ≡ all x
  alone e = ap (λ (k : ℕ). listed x.n x.s x.xs.now ++ listed x.n k x.ys.now) (sym e)
