-- The outcomes of `add_generators`: that the four equations of its contract hold, where a check refuses and where none does.
--   Outcome r a b d    == the answer r, and a, b, d in the exponent room and the two coefficient rooms, are what the contract says
-- In this file:
--   within           check 15, coefficient by coefficient
--   refuses, gives   the outcomes
use Rattle.std.proofs.Common.{◌≡◌, ℕ, zero, suc, ◌-◌, ◌≤◌, Bool, false, ltb, List, [], ◌∷◌, ◌++◌, length, drop, replicate, ℤ, pos, nat_abs, sym, ap, ◌∙◌, arith, ltb-false}
use mathlib.Core.Option.{none, some}
use Rattle.laws.specs.Coefficients.{coefficient}
use Rattle.laws.specs.Ideal.{listed}
use Rattle.laws.specs.Numerator.{update}
use Rattle.monomials.specs.Refusal.{refusal}
use Rattle.monomials.specs.declared.refusal.Refusal.{Refusal}
use Rattle.numbers.specs.Update.{beyond, update_checks, update_answer, update_room, update_first, update_second}
use Rattle.numbers.specs.declared.asked.Sizes.{Sizes}
use Rattle.numbers.proofs.RoomsCall.{Passed, checks, outcome, refused_is}
use Rattle.numbers.proofs.ToLaws.{neither}
use Rattle.std.specs.Prelude.{Result, Ok, Err}

-- check 15, coefficient by coefficient

pub within : (M : ℕ) (G : List ℤ) → beyond M G ≡ false → (k : ℕ) → nat_abs (coefficient G k) ≤ M
within M [] h k = omega arith
within M (z ∷ G) h zero = ltb-false M (nat_abs z) (neither (ltb M (nat_abs z)) (beyond M G) h).0
within M (z ∷ G) h (suc k) = within M G (neither (ltb M (nat_abs z)) (beyond M G) h).1 k

module _ (M n : ℕ) (G : List ℤ) (s0 : ℕ) (existing : List ℕ) (s1 : ℕ) (added room : List ℕ) (p q : List ℤ) (b : Bool) (eb : b ≡ beyond M G) where
  abbrev pub Outcome : Result ℕ Refusal → List ℕ → List ℤ → List ℤ → Type 0
  Outcome r a c d =
      (r ≡ update_answer 255 60 M n G s0 existing s1 added room p q)
      × ((a ≡ update_room 255 60 M n G s0 existing s1 added room p q)
      × ((c ≡ update_first 255 60 M n G s0 existing s1 added room p q)
      × (d ≡ update_second 255 60 M n G s0 existing s1 added room p q)))

  same : refusal (checks n s0 existing s1 added b (length G) (length room) (length p) (length q)) ≡ refusal (update_checks 255 60 M n G s0 existing s1 added room p q)
  same = ap (λ (l : Bool). refusal (checks n s0 existing s1 added l (length G) (length room) (length p) (length q))) eb

  pub refuses : (x : Refusal) (r : Result ℕ Refusal) → Err x ≡ outcome n s0 existing s1 added b (length G) (length room) (length p) (length q) → r ≡ Err x
      → Outcome r room p q
  refuses x r f h =
      let e : refusal (update_checks 255 60 M n G s0 existing s1 added room p q) ≡ some x = sym same ∙ refused_is n s0 existing s1 added b (length G) (length room) (length p) (length q) x f in
      (rw e h, (rw e, (rw e, rw e)))

  module _ (a : Sizes) (h : Passed n s0 existing s1 added b (length G) (length room) (length p) (length q) a) where
    -- with i, j and k the lengths of the parts that were lent
    pub gives : (i j k x : ℕ) (r : Result ℕ Refusal) (A : List ℕ) (B D : List ℤ) → i ≡ a.cells → j ≡ a.coefficients → k ≡ a.coefficients → r ≡ Ok x
        → (x ≡ length (update G (listed n s0 existing) (listed n s1 added))) × (A ≡ replicate i 0)
        → B ≡ update G (listed n s0 existing) (listed n s1 added) ++ replicate (j - length (update G (listed n s0 existing) (listed n s1 added))) (pos 0) → D ≡ replicate k (pos 0)
        → Outcome r (A ++ drop a.cells room) (B ++ drop a.coefficients p) (D ++ drop a.coefficients q)
    gives i j k x r A B D ei ej ek e v eB eD =
        let y : refusal (update_checks 255 60 M n G s0 existing s1 added room p q) ≡ none = sym same ∙ h.none in
        let N = update G (listed n s0 existing) (listed n s1 added) in (
          rw y (e ∙ ap (λ (z : ℕ). Ok z) v.0),
          (
            rw y (ap (λ (z : List ℕ). z ++ drop a.cells room) (v.1 ∙ ap (λ (z : ℕ). replicate z 0) ei) ∙ ap (λ (z : ℕ). replicate z 0 ++ drop z room) h.cells_are),
            (
              rw y (ap (λ (z : List ℤ). z ++ drop a.coefficients p) (eB ∙ ap (λ (z : ℕ). N ++ replicate (z - length N) (pos 0)) ej) ∙ ap (λ (z : ℕ). N ++ replicate (z - length N) (pos 0) ++ drop z p) h.coefficients_are),
              rw y (ap (λ (z : List ℤ). z ++ drop a.coefficients q) (eD ∙ ap (λ (z : ℕ). replicate z (pos 0)) ek) ∙ ap (λ (z : ℕ). replicate z (pos 0) ++ drop z q) h.coefficients_are),
            ),
          ),
        )
