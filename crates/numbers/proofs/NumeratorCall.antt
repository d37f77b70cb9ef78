-- The outcomes of `hilbert_numerator`: that the four equations of its contract hold, where a check refuses and where none does.
--   Outcome r a b d    == the answer r, and a, b, d in the exponent room and the two coefficient rooms, are what the contract says
use Rattle.std.proofs.Common.{◌≡◌, ℕ, ◌-◌, false, List, [], ◌++◌, length, drop, replicate, ℤ, pos, sym, ap, ◌∙◌}
use mathlib.Core.Option.{none, some}
use Rattle.laws.specs.Ideal.{listed}
use Rattle.laws.specs.Numerator.{numerator}
use Rattle.laws.specs.Room.{cells_asked, coefficients_asked}
use Rattle.monomials.specs.Refusal.{refusal}
use Rattle.monomials.specs.declared.refusal.Refusal.{Refusal}
use Rattle.numbers.specs.Numerator.{numerator_checks, numerator_answer, numerator_room, numerator_first, numerator_second}
use Rattle.numbers.specs.declared.asked.Sizes.{Sizes}
use Rattle.numbers.proofs.RoomsCall.{Passed, checks, one_cells, one_checks, one_coefficients, outcome, refused_is}
use Rattle.std.specs.Prelude.{Result, Ok, Err}

module _ (n s : ℕ) (cells room : List ℕ) (p q : List ℤ) where
  abbrev pub Outcome : Result ℕ Refusal → List ℕ → List ℤ → List ℤ → Type 0
  Outcome r a b d =
      (r ≡ numerator_answer 255 60 n s cells room p q)
      × ((a ≡ numerator_room 255 60 n s cells room p q)
      × ((b ≡ numerator_first 255 60 n s cells room p q)
      × (d ≡ numerator_second 255 60 n s cells room p q)))

  same : refusal (checks n s cells 0 [] false 0 (length room) (length p) (length q)) ≡ refusal (numerator_checks 255 60 n s cells room p q)
  same = one_checks n s cells (length room) (length p) (length q)

  pub refuses : (x : Refusal) (r : Result ℕ Refusal) → Err x ≡ outcome n s cells 0 [] false 0 (length room) (length p) (length q) → r ≡ Err x
      → Outcome r room p q
  refuses x r f h =
      let e : refusal (numerator_checks 255 60 n s cells room p q) ≡ some x = sym same ∙ refused_is n s cells 0 [] false 0 (length room) (length p) (length q) x f in
      (rw e h, (rw e, (rw e, rw e)))

  module _ (a : Sizes) (h : Passed n s cells 0 [] false 0 (length room) (length p) (length q) a) where
    pub is_cells : a.cells ≡ cells_asked n (listed n s cells)
    is_cells = h.cells_are ∙ one_cells n s cells (length room) (length p) (length q)

    pub is_coefficients : a.coefficients ≡ coefficients_asked (listed n s cells)
    is_coefficients = h.coefficients_are ∙ one_coefficients n s cells (length room) (length p) (length q)

    -- with i, j and k the lengths of the parts that were lent
    pub gives : (i j k x : ℕ) (r : Result ℕ Refusal) (A : List ℕ) (B D : List ℤ) → i ≡ a.cells → j ≡ a.coefficients → k ≡ a.coefficients → r ≡ Ok x
        → (x ≡ length (numerator (listed n s cells))) × (A ≡ replicate i 0) → B ≡ numerator (listed n s cells) ++ replicate (j - length (numerator (listed n s cells))) (pos 0) → D ≡ replicate k (pos 0)
        → Outcome r (A ++ drop a.cells room) (B ++ drop a.coefficients p) (D ++ drop a.coefficients q)
    gives i j k x r A B D ei ej ek e v eB eD =
        let o : refusal (numerator_checks 255 60 n s cells room p q) ≡ none = sym same ∙ h.none in
        let N = numerator (listed n s cells) in (
          rw o (e ∙ ap (λ (y : ℕ). Ok y) v.0),
          (
            rw o (ap (λ (y : List ℕ). y ++ drop a.cells room) (v.1 ∙ ap (λ (y : ℕ). replicate y 0) ei) ∙ ap (λ (y : ℕ). replicate y 0 ++ drop y room) is_cells),
            (
              rw o (ap (λ (y : List ℤ). y ++ drop a.coefficients p) (eB ∙ ap (λ (y : ℕ). N ++ replicate (y - length N) (pos 0)) ej) ∙ ap (λ (y : ℕ). N ++ replicate (y - length N) (pos 0) ++ drop y p) is_coefficients),
              rw o (ap (λ (y : List ℤ). y ++ drop a.coefficients q) (eD ∙ ap (λ (y : ℕ). replicate y (pos 0)) ek) ∙ ap (λ (y : ℕ). replicate y (pos 0) ++ drop y q) is_coefficients),
            ),
          ),
        )
