-- The cells of few monomials, as the code reads them. Assumes nothing.
use Rattle.std.proofs.Common.{◌≡◌, ℕ, ◌+◌, ◌<◌, Bool, true, false, eqb, refl, arith, eqb-true}
use borrow.Author.Tests.{eqb-false}

pub zeros_more : (f : ℕ → ℕ) (i : ℕ) → ((j : ℕ) → j < i → f j ≡ 0) → f i ≡ 0 → (j : ℕ) → j < i + 1 → f j ≡ 0
zeros_more f i h e j l = go (eqb j i) refl
  where
    go : (b : Bool) → eqb j i ≡ b → f j ≡ 0
    go true p = let q : j ≡ i = eqb-true j i p in rw q e
    go false p = h j (omega (arith, eqb-false j i p))
