-- Laws of the update, G + N(both) − N(existing).
--   update_coefficient  the updated list has the stated coefficients
--   update_trimmed      and is trimmed
--   update_direct       where G is N(existing) it is N(both)
--   update_none         with nothing new it is G, trimmed
--   update_step         one new monomial g more takes t^deg(g) · N((existing, new so far) : g) away
--   update_redundant    one that an earlier monomial divides changes nothing
use mathlib.Core.Path.{◌≡◌, refl, sym, ap, ap₂, ◌∙◌}
use mathlib.Core.Bool.{true}
use mathlib.Core.List.{List, [], ◌∷◌, ◌++◌, append_assoc, append-nil}
use Prim.Native.Nat.{ℕ, ◌≤◌}
use native.Mathlib.Omega.{arith}
use lib.ListN.{get_or-eq_default}
use lib.IntN.{ℤ, pos, neg_ℤ, ◌+ℤ◌, ◌-ℤ◌, +ℤ_comm, +ℤ_assoc, +ℤ-neg_ℤ_cancel}
use Rattle.laws.specs.Monomial.{degree, lcm}
use Rattle.laws.specs.Ideal.{multiple, lcm_of, colon}
use Rattle.laws.specs.Coefficients.{coefficient, Trimmed, trim, first, shift}
use Rattle.laws.specs.Numerator.{numerator_at, numerator, update_at, update}
use Rattle.laws.specs.Room.{update_asked}
use Rattle.laws.proofs.Monomial.{degree_lcm, lcm_assoc}
use Rattle.laws.proofs.Coefficients.{coefficient_first, trim_trimmed, trim_coefficient, trimmed_unique, trim_unique}
use Rattle.laws.proofs.Numerator.{numerator_degree, numerator_coefficient, numerator_trimmed, numerator_append_one, numerator_append_redundant}

lcm_of_append : (L K : List (List ℕ)) → lcm_of (L ++ K) ≡ lcm (lcm_of L) (lcm_of K)
lcm_of_append [] K = refl
lcm_of_append (m ∷ L) K = ap (lcm m) (lcm_of_append L K) ∙ sym (lcm_assoc m (lcm_of L) (lcm_of K))

-- the existing list's lcm has at most the degree of both lists'
pub degree_both : (L K : List (List ℕ)) → degree (lcm_of L) ≤ degree (lcm_of (L ++ K))
degree_both L K = rw (lcm_of_append L K) (degree_lcm (lcm_of L) (lcm_of K))

-- the stated coefficients end within the asked size
update_ends : (G : List ℤ) (L K : List (List ℕ)) (k : ℕ) → update_asked G (L ++ K) ≤ k → update_at G L K k ≡ pos 0
update_ends G L K k h =
    ap₂ ◌-ℤ◌
    (ap₂ ◌+ℤ◌ (get_or-eq_default G (pos 0) (omega arith)) (numerator_degree (L ++ K) k (omega arith)))
    (numerator_degree L k (omega (arith, degree_both L K)))

pub update_coefficient : (G : List ℤ) (L K : List (List ℕ)) (k : ℕ) → coefficient (update G L K) k ≡ update_at G L K k
update_coefficient G L K k =
    trim_coefficient (first (update_asked G (L ++ K)) (update_at G L K)) k
    ∙ coefficient_first (update_asked G (L ++ K)) (update_at G L K) (update_ends G L K) k

pub update_trimmed : (G : List ℤ) (L K : List (List ℕ)) → Trimmed (update G L K)
update_trimmed G L K = trim_trimmed (first (update_asked G (L ++ K)) (update_at G L K))

-- (a + b) − a = b
add_sub : (a b : ℤ) → (a +ℤ b) -ℤ a ≡ b
add_sub a b = ap (λ (z : ℤ). z -ℤ a) (+ℤ_comm a b) ∙ +ℤ-neg_ℤ_cancel b a

pub update_direct : (L K : List (List ℕ)) → update (numerator L) L K ≡ numerator (L ++ K)
update_direct L K =
    trimmed_unique (update (numerator L) L K) (numerator (L ++ K)) (update_trimmed (numerator L) L K) (numerator_trimmed (L ++ K))
    (λ k. update_coefficient (numerator L) L K k
    ∙ ap (λ (z : ℤ). (z +ℤ numerator_at (L ++ K) k) -ℤ numerator_at L k) (numerator_coefficient L k)
    ∙ add_sub (numerator_at L k) (numerator_at (L ++ K) k)
    ∙ sym (numerator_coefficient (L ++ K) k))

pub update_at_none : (G : List ℤ) (L : List (List ℕ)) (k : ℕ) → update_at G L [] k ≡ coefficient G k
update_at_none G L k =
    ap (λ (J : List (List ℕ)). (coefficient G k +ℤ numerator_at J k) -ℤ numerator_at L k) (append-nil L)
    ∙ +ℤ-neg_ℤ_cancel (coefficient G k) (numerator_at L k)

pub update_none : (G : List ℤ) (L : List (List ℕ)) → update G L [] ≡ trim G
update_none G L = trim_unique (update G L []) G (update_trimmed G L []) (λ k. update_coefficient G L [] k ∙ update_at_none G L k)

-- ((a + (b − s)) − c) = ((a + b) − c) − s
move_out : (a b c s : ℤ) → (a +ℤ (b -ℤ s)) -ℤ c ≡ ((a +ℤ b) -ℤ c) -ℤ s
move_out a b c s =
    ap (λ (z : ℤ). z -ℤ c) (sym (+ℤ_assoc a b (neg_ℤ s)))
    ∙ +ℤ_assoc (a +ℤ b) (neg_ℤ s) (neg_ℤ c)
    ∙ ap (λ (z : ℤ). (a +ℤ b) +ℤ z) (+ℤ_comm (neg_ℤ s) (neg_ℤ c))
    ∙ sym (+ℤ_assoc (a +ℤ b) (neg_ℤ c) (neg_ℤ s))

pub update_step : (G : List ℤ) (L K : List (List ℕ)) (g : List ℕ) (k : ℕ) → update_at G L (K ++ g ∷ []) k ≡ update_at G L K k -ℤ shift (degree g) (numerator_at (colon (L ++ K) g)) k
update_step G L K g k =
    ap (λ (J : List (List ℕ)). (coefficient G k +ℤ numerator_at J k) -ℤ numerator_at L k) (sym (append_assoc L K (g ∷ [])))
    ∙ ap (λ (z : ℤ). (coefficient G k +ℤ z) -ℤ numerator_at L k) (numerator_append_one (L ++ K) g k)
    ∙ move_out (coefficient G k) (numerator_at (L ++ K) k) (numerator_at L k) (shift (degree g) (numerator_at (colon (L ++ K) g)) k)

pub update_redundant : (G : List ℤ) (L K : List (List ℕ)) (g : List ℕ) (k : ℕ) → multiple (L ++ K) g ≡ true → update_at G L (K ++ g ∷ []) k ≡ update_at G L K k
update_redundant G L K g k h =
    ap (λ (J : List (List ℕ)). (coefficient G k +ℤ numerator_at J k) -ℤ numerator_at L k) (sym (append_assoc L K (g ∷ [])))
    ∙ ap (λ (z : ℤ). (coefficient G k +ℤ z) -ℤ numerator_at L k) (numerator_append_redundant (L ++ K) g k h)
