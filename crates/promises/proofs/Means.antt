-- What the checks of the calls say in words, and what the calls leave: for pairs of monomials, rooms, the sum room of `hf_at`, the host's output.
-- Assumes nothing.
use mathlib.Core.Path.{◌≡◌, refl, ap, ◌∙◌}
use mathlib.Core.Logic.{◌≢◌, ◌↔◌, ◌⊎◌, inl, inr}
use mathlib.Core.Bool.{Bool, true, false}
use mathlib.Core.List.{List, [], ◌∷◌, ◌++◌}
use Prim.Native.Nat.{ℕ, ◌≤◌, ◌<◌}
use native.Mathlib.Omega.{arith}
use lib.Dec.{ltb}
use lib.IntN.{ℤ}
use lib.ListN.{length, drop}
use borrow.Author.Tests.{lt-ltb, le-ltb}
use Rattle.laws.specs.Dimension.{dimension, top_degree}
use Rattle.laws.specs.Record.{width_in, list_in}
use Rattle.monomials.specs.Monomial.{pair_checks, write_checks}
use Rattle.monomials.specs.Refusal.{number, refusal, after}
use Rattle.monomials.specs.declared.refusal.Refusal.{Refusal}
use Rattle.monomials.specs.declared.refusal.Refusal.TheVariants.{Width, SumRoom, Degree, Value, Output}
use Rattle.numbers.specs.Numerator.{cell_room, coefficient_rooms}
use Rattle.records.specs.Answer.{answer_of, answer_bytes}
use Rattle.records.specs.Host.{status}
use Rattle.promises.proofs.Checks.{Means, above, differs, either}

-- what checks 7 and 8 say
pub rooms_means : (c k : ℕ) (room : List ℕ) (p q : List ℤ)
    → Means (cell_room c room ∷ coefficient_rooms k p q ∷ []) ((length room < c, 7) ∷ ((length p < k) ⊎ (length q < k), 8) ∷ [])
rooms_means c k room p q =
    (above (length room) c, (refl, (either (ltb (length p) k) (ltb (length q) k) (above (length p) k) (above (length q) k), (refl, tt))))

-- what checks 1 and 3 of two monomials and an output say
pub write_means : (a b out : List ℕ) → Means (write_checks 255 a b out) ((255 < length a, 1) ∷ (length b ≢ length a, 3) ∷ (length out ≢ length a, 3) ∷ [])
write_means a b out = (above 255 (length a), (refl, (differs (length b) (length a), (refl, (differs (length out) (length a), (refl, tt))))))

-- and with one check more
pub last_means : {P : Type 0} (a b out : List ℕ) (t : Bool) (q : Refusal) → (t ≡ true) ↔ P
    → Means (write_checks 255 a b out ++ (t, q) ∷ []) ((255 < length a, 1) ∷ (length b ≢ length a, 3) ∷ (length out ≢ length a, 3) ∷ (P, number q) ∷ [])
last_means a b out t q f =
    (above 255 (length a), (refl, (differs (length b) (length a), (refl, (differs (length out) (length a), (refl, (f, (refl, tt))))))))

-- what checks 1 and 3 of two monomials say
pub pair_means : (a b : List ℕ) → Means (pair_checks 255 a b) ((255 < length a, 1) ∷ (length b ≢ length a, 3) ∷ [])
pair_means a b = (above 255 (length a), (refl, (differs (length b) (length a), (refl, tt))))

-- what `hf_at` leaves in the sum room, by its four checks
pub sums_left : (a b c t : Bool) (w y x : List ℕ) → w ≡ after (refusal ((a, Width) ∷ (b, Degree) ∷ (c, SumRoom) ∷ [])) y x
    → let k = status (refusal ((a, Width) ∷ (b, Degree) ∷ (c, SumRoom) ∷ (t, Value) ∷ [])) in
    ((k ≡ 0) ⊎ (k ≡ 11) → w ≡ y) × (k ≢ 0 → k ≢ 11 → w ≡ x)
sums_left true b c t w y x e = (λ h. absurd (elim h [ inl p ↦ omega arith | inr p ↦ omega arith ]), λ h g. e)
sums_left false true c t w y x e = (λ h. absurd (elim h [ inl p ↦ omega arith | inr p ↦ omega arith ]), λ h g. e)
sums_left false false true t w y x e = (λ h. absurd (elim h [ inl p ↦ omega arith | inr p ↦ omega arith ]), λ h g. e)
sums_left false false false true w y x e = (λ h. e, λ h g. absurd (g refl))
sums_left false false false false w y x e = (λ h. e, λ h g. absurd (h refl))

-- what the host's call leaves in the output
module _ (rec out out' : List ℕ) (k : ℕ) (e : out' ≡ answer_bytes 26 k (dimension (width_in rec) (list_in rec)) (top_degree (width_in rec) (list_in rec)) out) where
  pub host_kept : length out < 26 → out' ≡ out
  host_kept h = e ∙ rw (lt-ltb (length out) 26 h)

  pub host_written : 26 ≤ length out → out' ≡ answer_of k (dimension (width_in rec) (list_in rec)) (top_degree (width_in rec) (list_in rec)) ++ drop 26 out
  host_written h = e ∙ ap (λ (t : Bool). after (refusal ((t, Output) ∷ [])) (answer_of k (dimension (width_in rec) (list_in rec)) (top_degree (width_in rec) (list_in rec)) ++ drop 26 out) out) (le-ltb (length out) 26 h)
