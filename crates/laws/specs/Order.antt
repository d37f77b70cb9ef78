-- The two orders of monomials, for two of equal width.
--   or_else o p    == o, or p where o says equal
--   lex a b       == a against b: the first variable in which they differ decides, and the greater exponent is the greater monomial
--   degrevlex a b == a against b: the greater degree is the greater; at equal degree the last variable in which they differ decides, and the
--                    smaller exponent is the greater monomial
-- Assumes nothing.
use Rattle.std.specs.Prelude.{◌≡◌, refl, List, [], ◌∷◌}
use Prim.Native.Nat.{ℕ, compare, Ordering}
use Rattle.laws.specs.Monomial.{degree}

abbrev pub or_else : Ordering → Ordering → Ordering
or_else Ordering.lt p = Ordering.lt
or_else Ordering.eq p = p
or_else Ordering.gt p = Ordering.gt

abbrev pub lex : List ℕ → List ℕ → Ordering
lex [] [] = Ordering.eq
lex [] (y ∷ b) = Ordering.lt
lex (x ∷ a) [] = Ordering.gt
lex (x ∷ a) (y ∷ b) = or_else (compare x y) (lex a b)

-- the later variables decide first
abbrev pub revlex : List ℕ → List ℕ → Ordering
revlex [] [] = Ordering.eq
revlex [] (y ∷ b) = Ordering.lt
revlex (x ∷ a) [] = Ordering.gt
revlex (x ∷ a) (y ∷ b) = or_else (revlex a b) (compare y x)

abbrev pub degrevlex : List ℕ → List ℕ → Ordering
degrevlex a b = or_else (compare (degree a) (degree b)) (revlex a b)

test_lex : lex (1 ∷ 0 ∷ 0 ∷ []) (0 ∷ 5 ∷ 5 ∷ []) ≡ Ordering.gt
test_lex = refl

test_degree_first : degrevlex (1 ∷ 0 ∷ 0 ∷ []) (0 ∷ 5 ∷ 5 ∷ []) ≡ Ordering.lt
test_degree_first = refl

-- of equal degree: the last variable decides, and the first one would say otherwise
test_last_variable : degrevlex (0 ∷ 2 ∷ 0 ∷ []) (1 ∷ 0 ∷ 1 ∷ []) ≡ Ordering.gt
test_last_variable = refl

test_equal : degrevlex (1 ∷ 2 ∷ []) (1 ∷ 2 ∷ []) ≡ Ordering.eq
test_equal = refl
