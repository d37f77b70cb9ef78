-- The minimal members of a list: the one list that a record holds.
--   proper k m    == k divides m, and m does not divide k
--   minimal_in L m == no member of L is a proper divisor of m
--   insert m K    == m put into its place in K, which falls; K itself where m is in it
--   falling K     == the members of K, each once, DegRevLex greatest first
--   minimal L     == the minimal members of L, each once, DegRevLex greatest first
--   Minimal n L   == each member has n exponents, and no member divides another
--   Falling L     == each member is greater by DegRevLex than all that follow it
-- Assumes nothing.
use Rattle.std.specs.Prelude.{◌≡◌, refl, Bool, true, not, ◌&&◌, List, [], ◌∷◌, length}
use Prim.Native.Nat.{ℕ, Ordering}
use Rattle.laws.specs.Monomial.{divides}
use Rattle.laws.specs.Ideal.{In}
use Rattle.laws.specs.Count.{keep}
use Rattle.laws.specs.Order.{degrevlex}

abbrev pub proper : List ℕ → List ℕ → Bool
proper k m = divides k m && not (divides m k)

abbrev pub minimal_in : List (List ℕ) → List ℕ → Bool
minimal_in [] m = true
minimal_in (k ∷ L) m = not (proper k m) && minimal_in L m

-- by how m compares with the first of k ∷ K; r is m put into K
abbrev pub place : Ordering → List ℕ → List ℕ → List (List ℕ) → List (List ℕ) → List (List ℕ)
place Ordering.gt m k K r = m ∷ k ∷ K
place Ordering.eq m k K r = k ∷ K
place Ordering.lt m k K r = k ∷ r

abbrev pub insert : List ℕ → List (List ℕ) → List (List ℕ)
insert m [] = m ∷ []
insert m (k ∷ K) = place (degrevlex m k) m k K (insert m K)

abbrev pub falling : List (List ℕ) → List (List ℕ)
falling [] = []
falling (m ∷ K) = insert m (falling K)

abbrev pub minimal : List (List ℕ) → List (List ℕ)
minimal L = falling (keep (minimal_in L) L)

pub record Minimal (n : ℕ) (L : List (List ℕ)) : Type 0 where
  pub width : (a : List ℕ) → In a L → length a ≡ n
  pub apart : (a b : List ℕ) → In a L → In b L → divides a b ≡ true → a ≡ b

abbrev pub Falling : List (List ℕ) → Type 0
Falling [] = Unit {0}
Falling (a ∷ L) = ((b : List ℕ) → In b L → degrevlex a b ≡ Ordering.gt) × Falling L

test_minimal : minimal ((0 ∷ 2 ∷ []) ∷ (2 ∷ 1 ∷ []) ∷ (2 ∷ 0 ∷ []) ∷ (1 ∷ 1 ∷ []) ∷ (2 ∷ 0 ∷ []) ∷ []) ≡ (2 ∷ 0 ∷ []) ∷ (1 ∷ 1 ∷ []) ∷ (0 ∷ 2 ∷ []) ∷ []
test_minimal = refl

test_repeated : minimal ((5 ∷ []) ∷ (3 ∷ []) ∷ (3 ∷ []) ∷ []) ≡ (3 ∷ []) ∷ []
test_repeated = refl
