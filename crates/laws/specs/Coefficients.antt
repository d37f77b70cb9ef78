-- Polynomials in t with integer coefficients: as functions of the degree, and as lists, the constant first.
--   coefficient p k == the coefficient of t^k in the list p, 0 past its end
--   Trimmed p       == p does not end in 0
--   trim p          == p without the zeros at its end
--   first n f       == the list of f 0, f 1, .., f (n − 1)
--   one             == the polynomial 1
--   shift e f       == t^e times f
-- Assumes nothing.
use Rattle.std.specs.Prelude.{◌≡◌, refl, ◌≢◌, List, [], ◌∷◌, ℕ, zero, suc, get_or, ℤ, pos, negsuc}

abbrev pub coefficient : List ℤ → ℕ → ℤ
coefficient p k = get_or p k (pos 0)

abbrev pub Trimmed : List ℤ → Type 0
Trimmed [] = Unit {0}
Trimmed (x ∷ []) = x ≢ pos 0
Trimmed (x ∷ y ∷ p) = Trimmed (y ∷ p)

-- x in front of a trimmed list
abbrev pub trim_cons : ℤ → List ℤ → List ℤ
trim_cons x (y ∷ p) = x ∷ y ∷ p
trim_cons (pos zero) [] = []
trim_cons (pos (suc n)) [] = pos (suc n) ∷ []
trim_cons (negsuc n) [] = negsuc n ∷ []

abbrev pub trim : List ℤ → List ℤ
trim [] = []
trim (x ∷ p) = trim_cons x (trim p)

abbrev pub first {ℓ} : {A : Type ℓ} → ℕ → (ℕ → A) → List A
first zero f = []
first (suc n) f = f zero ∷ first n (λ k. f (suc k))

abbrev pub one : ℕ → ℤ
one zero = pos 1
one (suc k) = pos 0

abbrev pub shift : ℕ → (ℕ → ℤ) → ℕ → ℤ
shift zero f k = f k
shift (suc e) f zero = pos 0
shift (suc e) f (suc k) = shift e f k

test_trim : trim (pos 1 ∷ pos 0 ∷ negsuc 2 ∷ pos 0 ∷ pos 0 ∷ []) ≡ pos 1 ∷ pos 0 ∷ negsuc 2 ∷ []
test_trim = refl

test_trim_zero : trim (pos 0 ∷ pos 0 ∷ []) ≡ []
test_trim_zero = refl

test_shift : first 4 (shift 2 one) ≡ pos 0 ∷ pos 0 ∷ pos 1 ∷ pos 0 ∷ []
test_shift = refl
