-- Any two outcomes that the contract of a call allows are equal: for signed words, two-word numbers, coefficient lists and the Hilbert function.
-- The limits that the code names are those of document 01.
-- Assumes nothing.
use Rattle.std.proofs.Common.{◌≡◌, ℕ, ◌+◌, Bool, ℤ, sym, ◌∙◌}
use seplogic.Ra.Ura.{Ura}
use base.Logic.{SProp, ent, sep, via, fst∗, snd∗}
use prog.Memory.{Memory}
use prog.Routine.{Routine}
use types.Logic.{Logic}
use contract.Monad.{Fun, fact, fact_use, fact_mono}
use contract.Lifetimes.{Lfts}
use Rattle.numbers.specs.Wide.{value, wide}
use Rattle.numbers.specs.Hilbert.{hilbert_answer}
use Rattle.numbers.specs.declared.wide.Wide.{Wide}
use Rattle.std.specs.Prelude.{Option, Result}
use Rattle.numbers.proofs.signed.magnitude.Reads as magnitude
use Rattle.numbers.proofs.signed.wrapping_add.Reads as signed_add
use Rattle.numbers.proofs.signed.wrapping_sub.Reads as signed_sub
use Rattle.numbers.proofs.signed.to_bits.Reads as to_bits
use Rattle.numbers.proofs.signed.from_bits.Reads as from_bits
use Rattle.numbers.proofs.wide.Wide.from_word.Reads as from_word
use Rattle.numbers.proofs.wide.Wide.from_signed.Reads as from_signed
use Rattle.numbers.proofs.wide.Wide.wrapping_add.Reads as wrapping_add
use Rattle.numbers.proofs.wide.Wide.wrapping_neg.Reads as wrapping_neg
use Rattle.numbers.proofs.wide.Wide.wrapping_sub.Reads as wrapping_sub
use Rattle.numbers.proofs.wide.Wide.less_than.Reads as less_than
use Rattle.numbers.proofs.wide.Wide.is_large.Reads as is_large
use Rattle.numbers.proofs.wide.Wide.product.Reads as product
use Rattle.numbers.proofs.wide.Wide.times.Reads as times
use Rattle.numbers.specs.contracts.wide.add_into as add_into
use Rattle.numbers.proofs.coefficients.is_zero.Reads as is_zero
use Rattle.numbers.proofs.coefficients.degree.Reads as degree
use Rattle.numbers.proofs.coefficients.coeff.Reads as coeff
use Rattle.numbers.proofs.hf_at.hf_at.Reads as hf_at
use Rattle.monomials.specs.declared.refusal.Refusal.{Refusal}

pub magnitude_determined : (κs : Lfts 0) (a : _) (r r' : ℕ) (s s' : _) → magnitude.Post κs a r s → magnitude.Post κs a r' s' → r ≡ r'
magnitude_determined κs a r r' s s' p q = p ∙ sym q

pub signed_add_determined : (κs : Lfts 0) (a : _) (r r' : ℤ) (s s' : _) → signed_add.Post κs a r s → signed_add.Post κs a r' s' → r ≡ r'
signed_add_determined κs a r r' s s' p q = p ∙ sym q

pub signed_sub_determined : (κs : Lfts 0) (a : _) (r r' : ℤ) (s s' : _) → signed_sub.Post κs a r s → signed_sub.Post κs a r' s' → r ≡ r'
signed_sub_determined κs a r r' s s' p q = p ∙ sym q

pub to_bits_determined : (κs : Lfts 0) (a : _) (r r' : ℕ) (s s' : _) → to_bits.Post κs a r s → to_bits.Post κs a r' s' → r ≡ r'
to_bits_determined κs a r r' s s' p q = p ∙ sym q

pub from_bits_determined : (κs : Lfts 0) (a : _) (r r' : ℤ) (s s' : _) → from_bits.Post κs a r s → from_bits.Post κs a r' s' → r ≡ r'
from_bits_determined κs a r r' s s' p q = p ∙ sym q

pub from_word_determined : (κs : Lfts 0) (a : _) (r r' : Wide) (s s' : _) → from_word.Post κs a r s → from_word.Post κs a r' s' → r ≡ r'
from_word_determined κs a r r' s s' p q = p ∙ sym q

pub from_signed_determined : (κs : Lfts 0) (a : _) (r r' : Wide) (s s' : _) → from_signed.Post κs a r s → from_signed.Post κs a r' s' → r ≡ r'
from_signed_determined κs a r r' s s' p q = p ∙ sym q

pub wrapping_add_determined : (κs : Lfts 0) (a : _) (r r' : Wide) (s s' : _) → wrapping_add.Post κs a r s → wrapping_add.Post κs a r' s' → r ≡ r'
wrapping_add_determined κs a r r' s s' p q = p ∙ sym q

pub wrapping_neg_determined : (κs : Lfts 0) (a : _) (r r' : Wide) (s s' : _) → wrapping_neg.Post κs a r s → wrapping_neg.Post κs a r' s' → r ≡ r'
wrapping_neg_determined κs a r r' s s' p q = p ∙ sym q

pub wrapping_sub_determined : (κs : Lfts 0) (a : _) (r r' : Wide) (s s' : _) → wrapping_sub.Post κs a r s → wrapping_sub.Post κs a r' s' → r ≡ r'
wrapping_sub_determined κs a r r' s s' p q = p ∙ sym q

pub less_than_determined : (κs : Lfts 0) (a : _) (r r' : Bool) (s s' : _) → less_than.Post κs a r s → less_than.Post κs a r' s' → r ≡ r'
less_than_determined κs a r r' s s' p q = p ∙ sym q

pub is_large_determined : (κs : Lfts 0) (a : _) (r r' : Bool) (s s' : _) → is_large.Post κs a r s → is_large.Post κs a r' s' → r ≡ r'
is_large_determined κs a r r' s s' p q = p ∙ sym q

pub product_determined : (κs : Lfts 0) (a : _) (r r' : Wide) (s s' : _) → product.Post κs a r s → product.Post κs a r' s' → r ≡ r'
product_determined κs a r r' s s' p q = p ∙ sym q

pub times_determined : (κs : Lfts 0) (a : _) (r r' : Option Wide) (s s' : _) → times.Post κs a r s → times.Post κs a r' s' → r ≡ r'
times_determined κs a r r' s s' p q = p ∙ sym q

-- of what the total then is, over the clause itself
pub add_into_determined : {M : Type 1} {𝓤 : Ura M} (𝓛 : Logic 𝓤) (at_mem : Memory → SProp 𝓤) (run : Routine → Fun 𝓤) (κs : Lfts 1) (a : _) (r r' : _) (s s' : _)
    → ent 𝓤 (sep 𝓤 ((add_into.clauses 𝓛 at_mem run κs a).ensures tt r s) ((add_into.clauses 𝓛 at_mem run κs a).ensures tt r' s')) (fact 𝓤 (s.0.now ≡ s'.0.now))
add_into_determined {𝓤 = 𝓤} 𝓛 at_mem run κs a r r' s s' =
    let sum : Wide = wide (value a.0.now + value a.1.0) in
    let first : Type 0 = s.0.now ≡ sum in
    let second : Type 0 = s'.0.now ≡ sum in
    fact_use 𝓤 first (fst∗ 𝓤 (fact 𝓤 first) (fact 𝓤 second))
    (λ p. via 𝓤 (fact 𝓤 second) (snd∗ 𝓤 (fact 𝓤 first) (fact 𝓤 second)) (fact_mono 𝓤 second (s.0.now ≡ s'.0.now) (λ q. p ∙ sym q)))

pub is_zero_determined : (κs : Lfts 1) (a : _) (r r' : Bool) (s s' : _) → is_zero.Post κs a r s → is_zero.Post κs a r' s' → r ≡ r'
is_zero_determined κs a r r' s s' p q = p ∙ sym q

pub degree_determined : (κs : Lfts 1) (a : _) (r r' : Option ℕ) (s s' : _) → degree.Post κs a r s → degree.Post κs a r' s' → r ≡ r'
degree_determined κs a r r' s s' p q = p ∙ sym q

pub coeff_determined : (κs : Lfts 1) (a : _) (r r' : ℤ) (s s' : _) → coeff.Post κs a r s → coeff.Post κs a r' s' → r ≡ r'
coeff_determined κs a r r' s s' p q = p ∙ sym q

-- of the answer and of what the room then holds
pub hf_at_determined : (κs : Lfts 2) (a : _) (r r' : Result Wide Refusal) (s s' : _) → hf_at.Post κs a r s → hf_at.Post κs a r' s' → (r ≡ r') × (s.1.1.1.0.now ≡ s'.1.1.1.0.now)
hf_at_determined κs a r r' s s' p q = (p.0 ∙ sym q.0, p.1 ∙ sym q.1)

-- the greatest width and the greatest degree, in numbers
pub hf_at_limits : (κs : Lfts 2) (a : _) (r : Result Wide Refusal) (s : _) → hf_at.Post κs a r s → r ≡ hilbert_answer 255 65536 a.0 a.1.0.now a.1.1.0 a.1.1.1.0.now
hf_at_limits κs a r s p = p.0
