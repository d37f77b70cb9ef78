-- The words in which the promises are stated, beside those of document 01.
--   Slice X       == a lent slice of cells; `.now` is the list of what they hold
--   MutSlice X    == a slice of cells lent to be written, before a call and after it
--   a ⨾ b ⨾ tt    == the arguments of a call, in their order
--   Rule          == a condition, and document 01's number for it
--   First rules k == k is the number of the first rule whose condition holds, and 0 where none holds
--   Below B xs    == each of xs is below B: with B = 2^8 and 2^16, what the types of bytes and of exponents say
--   Signed64 p    == each of p is a signed word: what the type of a slice of them says
--   After k w x y == a slice that held x holds w after a call that answered the number k: y after 0, and x, what it held, after a refusal
-- Assumes nothing.
use Rattle.std.specs.Prelude.{◌≡◌, ◌≢◌, ◌⊎◌, List, [], ◌∷◌, ℕ, ◌<◌, ℤ, get_or}
use Rattle.std.specs.Int.{w64}
use Rattle.std.proofs.Common.{SFits}
use Rattle.std.specs.Borrow.{Bor, MutBor}
use Rattle.laws.specs.Coefficients.{coefficient}

abbrev pub Slice : Type 0 → Type 0
Slice X = Bor (List X)

abbrev pub MutSlice : Type 0 → Type 0
MutSlice X = MutBor (List X)

infixr 5 ◌⨾◌
abbrev pub ◌⨾◌ : {A B : Type 0} → A → B → A × B
a ⨾ b = (a, b)

abbrev pub Rule : Type 1
Rule = Type 0 × ℕ

abbrev pub Decided : List Rule → ℕ → Type 0
Decided [] k = k ≡ 0
Decided (c ∷ cs) k = (c.0 × (k ≡ c.1)) ⊎ ((c.0 → ⊥) × Decided cs k)

pub record First (rules : List Rule) (k : ℕ) : Type 0 where
  pub decided : Decided rules k

abbrev pub After : {A : Type 0} → ℕ → A → A → A → Type 0
After k w x y = (k ≡ 0 → w ≡ y) × (k ≢ 0 → w ≡ x)

abbrev pub Below : ℕ → List ℕ → Type 0
Below B xs = (i : ℕ) → get_or xs i 0 < B

abbrev pub Signed64 : List ℤ → Type 0
Signed64 p = (k : ℕ) → SFits w64 (coefficient p k)
