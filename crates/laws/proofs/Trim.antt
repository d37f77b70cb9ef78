-- Coefficients without the zeros at their end, as a loop finds them.
--   Trims s r     == r coefficients of s are left: those from r on are 0, and the one before them is not
-- In this file:
--   trims-..      the steps of a loop that goes from the end of s
--   trims_length  r is the length of the trimmed list
--   trim_take     the trimmed list is the front of s
--   trim_pads     s is its trimmed list with zeros behind it
--   first_is      a list by its first values
--   zeros_all     a list of zeros
use mathlib.Core.Path.{◌≡◌, refl, sym, ap, ap₂, ◌∙◌}
use mathlib.Core.Logic.{◌≢◌}
use mathlib.Core.Bool.{Bool, true, false}
use mathlib.Core.List.{List, [], ◌∷◌, ◌++◌}
use Prim.Native.Nat.{ℕ, zero, suc, ◌+◌, ◌-◌, ◌≤◌, ◌<◌}
use native.Mathlib.Omega.{arith}
use lib.Dec.{ltb}
use lib.ListN.{length, take, replicate, length-append, length-replicate, get_or-replicate, get_or-eq_default, get_or-append}
use lib.Seq.{get_or-take, get_or-append-add, length-take-le, ext_get_or}
use lib.IntN.{ℤ, pos, negsuc}
use borrow.Author.Tests.{ltb-true, ltb-false}
use Rattle.laws.specs.Coefficients.{coefficient, Trimmed, trim_cons, trim, first}
use Rattle.laws.proofs.Coefficients.{trim_coefficient, trim_unique}
use Rattle.laws.proofs.Added.{Zeros}

pub record Trims (s : List ℤ) (r : ℕ) : Type 0 where
  pub less : r ≤ length s
  pub zeros : (k : ℕ) → r ≤ k → coefficient s k ≡ pos 0
  pub last : 0 < r → coefficient s (r - 1) ≢ pos 0

pub trims_none : (s : List ℤ) (k : ℕ) → length s ≤ k → coefficient s k ≡ pos 0
trims_none s k h = get_or-eq_default s (pos 0) h

pub trims_more : (s : List ℤ) (r : ℕ) → 0 < r → coefficient s (r - 1) ≡ pos 0 → ((k : ℕ) → r ≤ k → coefficient s k ≡ pos 0) → (k : ℕ) → r - 1 ≤ k → coefficient s k ≡ pos 0
trims_more s r h e z k l = go (ltb (r - 1) k) refl
  where
    go : (t : Bool) → ltb (r - 1) k ≡ t → coefficient s k ≡ pos 0
    go true p = z k (omega (arith, ltb-true (r - 1) k p))
    go false p = let q : k ≡ r - 1 = omega (arith, ltb-false (r - 1) k p) in rw q e

trims_take : (s : List ℤ) (r : ℕ) → Trims s r → (k : ℕ) → coefficient (take r s) k ≡ coefficient s k
trims_take s r t k = go (ltb k r) refl
  where
    go : (b : Bool) → ltb k r ≡ b → coefficient (take r s) k ≡ coefficient s k
    go true p = get_or-take r s k (pos 0) (ltb-true k r p)
    go false p = get_or-eq_default (take r s) (pos 0) (rw (length-take-le r s t.less) (ltb-false k r p)) ∙ sym (t.zeros k (ltb-false k r p))

-- a list whose last is not 0 is trimmed
last_trimmed : (s : List ℤ) → (0 < length s → coefficient s (length s - 1) ≢ pos 0) → Trimmed s
last_trimmed [] h = tt
last_trimmed (x ∷ []) h = h (omega arith)
last_trimmed (x ∷ y ∷ s) h =
    let f : length (x ∷ y ∷ s) - 1 ≡ suc (length (y ∷ s) - 1) = omega arith in
    last_trimmed (y ∷ s) (λ l e. h (omega arith) (ap (λ (z : ℕ). coefficient (x ∷ y ∷ s) z) f ∙ e))

trims_trim : (s : List ℤ) (r : ℕ) → Trims s r → take r s ≡ trim s
trims_trim s r t = trim_unique (take r s) s (last_trimmed (take r s) last) (trims_take s r t)
  where
    size : length (take r s) ≡ r
    size = length-take-le r s t.less

    last : 0 < length (take r s) → coefficient (take r s) (length (take r s) - 1) ≢ pos 0
    last l q =
        let p : 0 < r = omega (arith, size) in
        t.last p (sym (get_or-take r s (r - 1) (pos 0) (omega arith)) ∙ ap (λ (z : ℕ). coefficient (take r s) (z - 1)) (sym size) ∙ q)

trims_length : (s : List ℤ) (r : ℕ) → Trims s r → r ≡ length (trim s)
trims_length s r t = sym (length-take-le r s t.less) ∙ ap length (trims_trim s r t)

-- the loop's two ends: at a coefficient that is not 0, and with nothing left
pub trims_last : (s : List ℤ) (r : ℕ) → r ≤ length s → ((k : ℕ) → r ≤ k → coefficient s k ≡ pos 0) → coefficient s (r - 1) ≢ pos 0 → r ≡ length (trim s)
trims_last s r h z e = trims_length s r (record { less = h; zeros = z; last = λ p. e })

pub trims_nothing : (s : List ℤ) (r : ℕ) → r ≤ 0 → ((k : ℕ) → r ≤ k → coefficient s k ≡ pos 0) → r ≡ length (trim s)
trims_nothing s r h z = trims_length s r (record { less = omega arith; zeros = z; last = λ p. absurd (omega arith) })

trim_cons_length : (x : ℤ) (p : List ℤ) → length (trim_cons x p) ≤ suc (length p)
trim_cons_length x (y ∷ p) = omega arith
trim_cons_length (pos zero) [] = omega arith
trim_cons_length (pos (suc n)) [] = omega arith
trim_cons_length (negsuc n) [] = omega arith

pub trim_length : (s : List ℤ) → length (trim s) ≤ length s
trim_length [] = omega arith
trim_length (x ∷ s) = omega (arith, trim_cons_length x (trim s), trim_length s)

module _ (s : List ℤ) where
  -- a coefficient of the zeros behind
  behind : (m k : ℕ) → coefficient (replicate m (pos 0)) k ≡ pos 0
  behind m k = go (ltb k m) refl
    where
      go : (t : Bool) → ltb k m ≡ t → coefficient (replicate m (pos 0)) k ≡ pos 0
      go true p = get_or-replicate m k (pos 0) (pos 0) (ltb-true k m p)
      go false p = get_or-eq_default (replicate m (pos 0)) (pos 0) (rw length-replicate (ltb-false k m p))

  pub trim_pads : s ≡ trim s ++ replicate (length s - length (trim s)) (pos 0)
  trim_pads =
      ext_get_or (pos 0) s (trim s ++ replicate (length s - length (trim s)) (pos 0))
      (sym (simp (length-append, length-replicate) (omega (arith, trim_length s))))
      (λ k h. go k (ltb k (length (trim s))) refl)
    where
      go : (k : ℕ) (t : Bool) → ltb k (length (trim s)) ≡ t → coefficient s k ≡ coefficient (trim s ++ replicate (length s - length (trim s)) (pos 0)) k
      go k true p =
          sym (get_or-append (trim s) (replicate (length s - length (trim s)) (pos 0)) (pos 0) k (ltb-true k (length (trim s)) p) ∙ trim_coefficient s k)
      go k false p =
          let l : length (trim s) ≤ k = ltb-false k (length (trim s)) p in
          let e : k ≡ length (trim s) + (k - length (trim s)) = omega arith in
          sym (trim_coefficient s k)
          ∙ get_or-eq_default (trim s) (pos 0) l
          ∙ sym
          (ap (coefficient (trim s ++ replicate (length s - length (trim s)) (pos 0))) e
          ∙ get_or-append-add (trim s) (replicate (length s - length (trim s)) (pos 0)) (k - length (trim s)) (pos 0)
          ∙ behind (length s - length (trim s)) (k - length (trim s)))

  pub trim_take : (k : ℕ) → coefficient (take (length (trim s)) s) k ≡ coefficient s k
  trim_take k = go (ltb k (length (trim s))) refl
    where
      go : (b : Bool) → ltb k (length (trim s)) ≡ b → coefficient (take (length (trim s)) s) k ≡ coefficient s k
      go true p = get_or-take (length (trim s)) s k (pos 0) (ltb-true k (length (trim s)) p)
      go false p =
          get_or-eq_default (take (length (trim s)) s) (pos 0) (rw (length-take-le (length (trim s)) s (trim_length s)) (ltb-false k (length (trim s)) p))
          ∙ sym (get_or-eq_default (trim s) (pos 0) (ltb-false k (length (trim s)) p))
          ∙ trim_coefficient s k

  pub zeros_all : Zeros s → s ≡ replicate (length s) (pos 0)
  unfolding Zeros
  zeros_all z =
      ext_get_or (pos 0) s (replicate (length s) (pos 0)) (sym (length-replicate (length s) (pos 0)))
      (λ k h. z k ∙ sym (get_or-replicate (length s) k (pos 0) (pos 0) h))

pub first_is : (n : ℕ) (f : ℕ → ℤ) (s : List ℤ) → length s ≡ n → ((k : ℕ) → k < n → coefficient s k ≡ f k) → s ≡ first n f
first_is zero f [] h e = refl
first_is zero f (x ∷ s) h e = absurd (omega arith)
first_is (suc n) f [] h e = absurd (omega arith)
first_is (suc n) f (x ∷ s) h e = ap₂ {C = List ℤ} ◌∷◌ (e 0 (omega arith)) (first_is n (λ k. f (suc k)) s (omega arith) (λ k l. e (suc k) (omega arith)))
