-- Laws of polynomials as functions of the degree and as lists of coefficients.
--   shift_ext, shift_zero, shift_sub, shift_shift  t^e times a polynomial: by values, of 0, of a difference, twice
--   shift_below, shift_at                          its coefficients below e and from e on
--   coefficient_first                              a list made of the first n values has them as coefficients, and 0 from n on
--   coefficient_padded                             zeros behind a list change no coefficient
--   trim_trimmed, trim_coefficient                 trimming leaves no 0 at the end and keeps each coefficient
--   trimmed_unique                                 trimmed lists with the same coefficients are equal
--   trim_unique, trim_same                         the trimmed list of a list, by its coefficients
--   trim_end_zero, trim_end                        of a list that ends in 0, and of one that does not, the rest being the first n places
use mathlib.Core.Path.{◌≡◌, refl, sym, ap, ap₂, ◌∙◌}
use mathlib.Core.Logic.{◌≢◌}
use mathlib.Core.List.{List, [], ◌∷◌, ◌++◌}
use Prim.Native.Nat.{ℕ, zero, suc, ◌+◌, ◌-◌, ◌≤◌, ◌<◌}
use native.Mathlib.Omega.{arith}
use native.Mathlib.Nat.{zero-add, suc-add}
use lib.IntN.{ℤ, pos, negsuc, ◌-ℤ◌, pos-ne-negsuc}
use lib.ListN.{length, take, replicate, length-append}
use lib.Seq.{take-suc, length-take-le}
use Rattle.laws.specs.Coefficients.{coefficient, Trimmed, trim_cons, trim, first, one, shift}

-- shifts

pub shift_ext : (e : ℕ) (f g : ℕ → ℤ) → ((k : ℕ) → f k ≡ g k) → (k : ℕ) → shift e f k ≡ shift e g k
shift_ext zero f g h k = h k
shift_ext (suc e) f g h zero = refl
shift_ext (suc e) f g h (suc k) = shift_ext e f g h k

pub shift_zero : (e : ℕ) (f : ℕ → ℤ) → ((k : ℕ) → f k ≡ pos 0) → (k : ℕ) → shift e f k ≡ pos 0
shift_zero zero f h k = h k
shift_zero (suc e) f h zero = refl
shift_zero (suc e) f h (suc k) = shift_zero e f h k

pub shift_sub : (e : ℕ) (f g : ℕ → ℤ) (k : ℕ) → shift e (λ j. f j -ℤ g j) k ≡ shift e f k -ℤ shift e g k
shift_sub zero f g k = refl
shift_sub (suc e) f g zero = refl
shift_sub (suc e) f g (suc k) = shift_sub e f g k

pub shift_shift : (a b : ℕ) (f : ℕ → ℤ) (k : ℕ) → shift a (shift b f) k ≡ shift (a + b) f k
shift_shift zero b f k = rw zero-add
shift_shift (suc a) b f zero = rw suc-add
shift_shift (suc a) b f (suc k) = rw suc-add (shift_shift a b f k)

pub shift_below : (e k : ℕ) (f : ℕ → ℤ) → k < e → shift e f k ≡ pos 0
shift_below zero k f h = absurd (omega arith)
shift_below (suc e) zero f h = refl
shift_below (suc e) (suc k) f h = shift_below e k f (omega arith)

pub shift_at : (e k : ℕ) (f : ℕ → ℤ) → e ≤ k → shift e f k ≡ f (k - e)
shift_at zero k f h = ap f (omega arith)
shift_at (suc e) zero f h = absurd (omega arith)
shift_at (suc e) (suc k) f h = shift_at e k f (omega arith) ∙ ap f (omega arith)

-- t^e has the coefficient 1 at e and 0 elsewhere
pub power_at : (e : ℕ) → shift e one e ≡ pos 1
power_at zero = refl
power_at (suc e) = power_at e

pub power_off : (e k : ℕ) → e ≢ k → shift e one k ≡ pos 0
power_off zero zero h = absurd (h refl)
power_off zero (suc k) h = refl
power_off (suc e) zero h = refl
power_off (suc e) (suc k) h = power_off e k (omega arith)

-- the first n values

pub first_length : (n : ℕ) (f : ℕ → ℤ) → length (first n f) ≡ n
first_length zero f = refl
first_length (suc n) f = ap suc (first_length n (λ k. f (suc k)))

pub coefficient_first : (n : ℕ) (f : ℕ → ℤ) → ((k : ℕ) → n ≤ k → f k ≡ pos 0) → (k : ℕ) → coefficient (first n f) k ≡ f k
coefficient_first zero f h k = sym (h k (omega arith))
coefficient_first (suc n) f h zero = refl
coefficient_first (suc n) f h (suc k) = coefficient_first n (λ j. f (suc j)) (λ j l. h (suc j) (omega arith)) k

-- trimmed lists

trimmed_tail : (x : ℤ) (p : List ℤ) → Trimmed (x ∷ p) → Trimmed p
trimmed_tail x [] t = tt
trimmed_tail x (y ∷ p) t = t

trimmed_some : (x : ℤ) (p : List ℤ) → Trimmed (x ∷ p) → ((k : ℕ) → coefficient (x ∷ p) k ≡ pos 0) → ⊥
trimmed_some x [] t h = t (h 0)
trimmed_some x (y ∷ p) t h = trimmed_some y p t (λ k. h (suc k))

pub trimmed_unique : (p q : List ℤ) → Trimmed p → Trimmed q → ((k : ℕ) → coefficient p k ≡ coefficient q k) → p ≡ q
trimmed_unique [] [] s t h = refl
trimmed_unique [] (y ∷ q) s t h = absurd (trimmed_some y q t (λ k. sym (h k)))
trimmed_unique (x ∷ p) [] s t h = absurd (trimmed_some x p s h)
trimmed_unique (x ∷ p) (y ∷ q) s t h =
    ap₂ {C = List ℤ} ◌∷◌ (h 0) (trimmed_unique p q (trimmed_tail x p s) (trimmed_tail y q t) (λ k. h (suc k)))

trim_cons_trimmed : (x : ℤ) (p : List ℤ) → Trimmed p → Trimmed (trim_cons x p)
trim_cons_trimmed x (y ∷ p) t = t
trim_cons_trimmed (pos zero) [] t = tt
trim_cons_trimmed (pos (suc n)) [] t = λ e. let z : suc n ≡ 0 = cc in omega arith
trim_cons_trimmed (negsuc n) [] t = λ e. pos-ne-negsuc 0 n (sym e)

pub trim_trimmed : (p : List ℤ) → Trimmed (trim p)
trim_trimmed [] = tt
trim_trimmed (x ∷ p) = trim_cons_trimmed x (trim p) (trim_trimmed p)

trim_cons_coefficient : (x : ℤ) (p : List ℤ) (k : ℕ) → coefficient (trim_cons x p) k ≡ coefficient (x ∷ p) k
trim_cons_coefficient x (y ∷ p) k = refl
trim_cons_coefficient (pos zero) [] zero = refl
trim_cons_coefficient (pos zero) [] (suc k) = refl
trim_cons_coefficient (pos (suc n)) [] k = refl
trim_cons_coefficient (negsuc n) [] k = refl

pub trim_coefficient : (p : List ℤ) (k : ℕ) → coefficient (trim p) k ≡ coefficient p k
trim_coefficient [] k = refl
trim_coefficient (x ∷ p) zero = trim_cons_coefficient x (trim p) zero
trim_coefficient (x ∷ p) (suc k) = trim_cons_coefficient x (trim p) (suc k) ∙ trim_coefficient p k

pub trim_unique : (p q : List ℤ) → Trimmed p → ((k : ℕ) → coefficient p k ≡ coefficient q k) → p ≡ trim q
trim_unique p q t h = trimmed_unique p (trim q) t (trim_trimmed q) (λ k. h k ∙ sym (trim_coefficient q k))

pub trim_same : (p q : List ℤ) → ((k : ℕ) → coefficient p k ≡ coefficient q k) → trim p ≡ trim q
trim_same p q h = trim_unique (trim p) q (trim_trimmed p) (λ k. trim_coefficient p k ∙ h k)

trim_snoc_zero : (p : List ℤ) → trim (p ++ (pos 0 ∷ [])) ≡ trim p
trim_snoc_zero [] = refl
trim_snoc_zero (x ∷ p) = ap (trim_cons x) (trim_snoc_zero p)

trim_snoc : (p : List ℤ) (x : ℤ) → x ≢ pos 0 → trim (p ++ (x ∷ [])) ≡ p ++ (x ∷ [])
trim_snoc [] (pos zero) h = absurd (h refl)
trim_snoc [] (pos (suc n)) h = refl
trim_snoc [] (negsuc n) h = refl
trim_snoc (y ∷ []) x h = ap (trim_cons y) (trim_snoc [] x h)
trim_snoc (y ∷ z ∷ p) x h = ap (trim_cons y) (trim_snoc (z ∷ p) x h)

pub trim_end_zero : (p : List ℤ) (n : ℕ) → 0 < n → n ≤ length p → coefficient p (n - 1) ≡ pos 0 → trim (take n p) ≡ trim (take (n - 1) p)
trim_end_zero p zero l h e = absurd (omega arith)
trim_end_zero p (suc n) l h e =
    let q : suc n - 1 ≡ n = omega arith in
    rw (q, take-suc p n (pos 0) h, rw q at e) (trim_snoc_zero (take n p))

pub trim_end : (p : List ℤ) (n : ℕ) → 0 < n → n ≤ length p → coefficient p (n - 1) ≢ pos 0 → length (trim (take n p)) ≡ n
trim_end p zero l h e = absurd (omega arith)
trim_end p (suc n) l h e =
    let q : suc n - 1 ≡ n = omega arith in
    rw (take-suc p n (pos 0) h, trim_snoc (take n p) (coefficient p n) (rw q at e), length-append) (omega (arith, length-take-le n p (omega arith)))

-- zeros behind a list are no coefficients

zeros_coefficient : (j k : ℕ) → coefficient (replicate j (pos 0)) k ≡ pos 0
zeros_coefficient zero k = refl
zeros_coefficient (suc j) zero = refl
zeros_coefficient (suc j) (suc k) = zeros_coefficient j k

pub coefficient_padded : (p : List ℤ) (j k : ℕ) → coefficient (p ++ replicate j (pos 0)) k ≡ coefficient p k
coefficient_padded [] j k = zeros_coefficient j k
coefficient_padded (x ∷ p) j zero = refl
coefficient_padded (x ∷ p) j (suc k) = coefficient_padded p j k
