-- Any two outcomes that the contract of a call allows are equal: for the numerator and its update.
-- Assumes nothing.
use Rattle.std.proofs.Common.{◌≡◌, sym, ◌∙◌}
use contract.Lifetimes.{Lfts}
use Rattle.numbers.proofs.numerator.hilbert_numerator.Reads as hilbert_numerator
use Rattle.numbers.proofs.update.add_generators.Reads as add_generators
use Rattle.std.specs.Prelude.{Result, ℕ}
use Rattle.monomials.specs.declared.refusal.Refusal.{Refusal}

-- of the answer and of what the exponent room and the two coefficient rooms then hold
pub hilbert_numerator_determined : (κs : Lfts 4) (a : _) (r r' : Result ℕ Refusal) (s s' : _) → hilbert_numerator.Post κs a r s → hilbert_numerator.Post κs a r' s'
    → (r ≡ r') × (s.1.1.1.0.now ≡ s'.1.1.1.0.now) × (s.1.1.1.1.0.now ≡ s'.1.1.1.1.0.now) × (s.1.1.1.1.1.0.now ≡ s'.1.1.1.1.1.0.now)
hilbert_numerator_determined κs a r r' s s' p q = (p.0 ∙ sym q.0, p.1.0 ∙ sym q.1.0, p.1.1.0 ∙ sym q.1.1.0, p.1.1.1 ∙ sym q.1.1.1)

pub add_generators_determined : (κs : Lfts 6) (a : _) (r r' : Result ℕ Refusal) (s s' : _) → add_generators.Post κs a r s → add_generators.Post κs a r' s'
    → (r ≡ r') × (s.1.1.1.1.1.1.0.now ≡ s'.1.1.1.1.1.1.0.now) × (s.1.1.1.1.1.1.1.0.now ≡ s'.1.1.1.1.1.1.1.0.now) × (s.1.1.1.1.1.1.1.1.0.now ≡ s'.1.1.1.1.1.1.1.1.0.now)
add_generators_determined κs a r r' s s' p q = (p.0 ∙ sym q.0, p.1.0 ∙ sym q.1.0, p.1.1.0 ∙ sym q.1.1.0, p.1.1.1 ∙ sym q.1.1.1)
