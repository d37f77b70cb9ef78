-- Any two outcomes that the contract of a call allows are equal: for the dimension.
-- Assumes nothing.
use Rattle.std.proofs.Common.{◌≡◌, sym, ◌∙◌}
use contract.Lifetimes.{Lfts}
use Rattle.numbers.proofs.dimension.quotient_dimension.Reads as quotient_dimension
use Rattle.std.specs.Prelude.{Result}
use Rattle.numbers.specs.declared.dimension.Dimension.{Dimension}
use Rattle.monomials.specs.declared.refusal.Refusal.{Refusal}

-- of the answer and of what the exponent room, the two coefficient rooms and the sum room then hold
pub quotient_dimension_determined : (κs : Lfts 5) (a : _) (r r' : Result Dimension Refusal) (s s' : _) → quotient_dimension.Post κs a r s → quotient_dimension.Post κs a r' s'
    → (r ≡ r')
    × (s.1.1.1.0.now ≡ s'.1.1.1.0.now)
    × (s.1.1.1.1.0.now ≡ s'.1.1.1.1.0.now)
    × (s.1.1.1.1.1.0.now ≡ s'.1.1.1.1.1.0.now)
    × (s.1.1.1.1.1.1.0.now ≡ s'.1.1.1.1.1.1.0.now)
quotient_dimension_determined κs a r r' s s' p q =
    (p.0 ∙ sym q.0, p.1.0 ∙ sym q.1.0, p.1.1.0 ∙ sym q.1.1.0, p.1.1.1.0 ∙ sym q.1.1.1.0, p.1.1.1.1 ∙ sym q.1.1.1.1)
