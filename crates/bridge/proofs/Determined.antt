-- Any two outcomes that the contract of an exported function allows are equal: the number, and what the lent words or cells hold.
use mathlib.Core.Path.{◌≡◌, sym, ◌∙◌}
use Prim.Native.Nat.{ℕ}
use contract.Lifetimes.{Lfts}
use Rattle.bridge.proofs.monomial.pt_degree.Reads as degree
use Rattle.bridge.proofs.monomial.pt_exponent.Reads as exponent
use Rattle.bridge.proofs.monomial.pt_power.Reads as power
use Rattle.bridge.proofs.monomial.pt_product.Reads as product
use Rattle.bridge.proofs.monomial.pt_quotient.Reads as quotient
use Rattle.bridge.proofs.monomial.pt_lcm.Reads as lcm
use Rattle.bridge.proofs.monomial.pt_gcd.Reads as gcd
use Rattle.bridge.proofs.monomial.pt_divides.Reads as divides
use Rattle.bridge.proofs.monomial.pt_coprime.Reads as coprime
use Rattle.bridge.proofs.monomial.pt_lex.Reads as lex
use Rattle.bridge.proofs.monomial.pt_degrevlex.Reads as degrevlex
use Rattle.bridge.proofs.mask.pt_mask.Reads as mask
use Rattle.bridge.proofs.coefficients.pt_is_zero.Reads as is_zero
use Rattle.bridge.proofs.coefficients.pt_coeff_degree.Reads as coeff_degree
use Rattle.bridge.proofs.coefficients.pt_coeff.Reads as coeff
use Rattle.bridge.proofs.hilbert.pt_hf_at.Reads as hf_at
use Rattle.bridge.proofs.numerator.pt_numerator.Reads as numerator
use Rattle.bridge.proofs.numerator.pt_update.Reads as update
use Rattle.bridge.proofs.dimension.pt_dimension.Reads as dimension
use Rattle.bridge.proofs.ideal.pt_write_record.Reads as write_record
use Rattle.bridge.proofs.ideal.pt_check_place.Reads as check_place
use Rattle.bridge.proofs.ideal.pt_place.Reads as place
use Rattle.bridge.proofs.ideal.pt_copy_record.Reads as copy_record

-- what equals the same is equal, in two places at once
both : {A B : Type 0} {x x' a : A} {y y' b : B} → (x ≡ a) × (y ≡ b) → (x' ≡ a) × (y' ≡ b) → (x ≡ x') × (y ≡ y')
both p q = (p.0 ∙ sym q.0, p.1 ∙ sym q.1)

pub pt_degree : (κs : Lfts 2) (a : _) (r r' : ℕ) (s s' : _) → degree.Post κs a r s → degree.Post κs a r' s' → (r ≡ r') × (s.1.0.now ≡ s'.1.0.now)
pt_degree κs a r r' s s' p q = both p q

pub pt_exponent : (κs : Lfts 2) (a : _) (r r' : ℕ) (s s' : _) → exponent.Post κs a r s → exponent.Post κs a r' s' → (r ≡ r') × (s.1.1.0.now ≡ s'.1.1.0.now)
pt_exponent κs a r r' s s' p q = both p q

pub pt_power : (κs : Lfts 1) (a : _) (r r' : ℕ) (s s' : _) → power.Post κs a r s → power.Post κs a r' s' → (r ≡ r') × (s.1.1.1.0.now ≡ s'.1.1.1.0.now)
pt_power κs a r r' s s' p q = both p q

pub pt_product : (κs : Lfts 3) (a : _) (r r' : ℕ) (s s' : _) → product.Post κs a r s → product.Post κs a r' s' → (r ≡ r') × (s.1.1.0.now ≡ s'.1.1.0.now)
pt_product κs a r r' s s' p q = both p q

pub pt_quotient : (κs : Lfts 3) (a : _) (r r' : ℕ) (s s' : _) → quotient.Post κs a r s → quotient.Post κs a r' s' → (r ≡ r') × (s.1.1.0.now ≡ s'.1.1.0.now)
pt_quotient κs a r r' s s' p q = both p q

pub pt_lcm : (κs : Lfts 3) (a : _) (r r' : ℕ) (s s' : _) → lcm.Post κs a r s → lcm.Post κs a r' s' → (r ≡ r') × (s.1.1.0.now ≡ s'.1.1.0.now)
pt_lcm κs a r r' s s' p q = both p q

pub pt_gcd : (κs : Lfts 3) (a : _) (r r' : ℕ) (s s' : _) → gcd.Post κs a r s → gcd.Post κs a r' s' → (r ≡ r') × (s.1.1.0.now ≡ s'.1.1.0.now)
pt_gcd κs a r r' s s' p q = both p q

pub pt_divides : (κs : Lfts 3) (a : _) (r r' : ℕ) (s s' : _) → divides.Post κs a r s → divides.Post κs a r' s' → (r ≡ r') × (s.1.1.0.now ≡ s'.1.1.0.now)
pt_divides κs a r r' s s' p q = both p q

pub pt_coprime : (κs : Lfts 3) (a : _) (r r' : ℕ) (s s' : _) → coprime.Post κs a r s → coprime.Post κs a r' s' → (r ≡ r') × (s.1.1.0.now ≡ s'.1.1.0.now)
pt_coprime κs a r r' s s' p q = both p q

pub pt_lex : (κs : Lfts 3) (a : _) (r r' : ℕ) (s s' : _) → lex.Post κs a r s → lex.Post κs a r' s' → (r ≡ r') × (s.1.1.0.now ≡ s'.1.1.0.now)
pt_lex κs a r r' s s' p q = both p q

pub pt_degrevlex : (κs : Lfts 3) (a : _) (r r' : ℕ) (s s' : _) → degrevlex.Post κs a r s → degrevlex.Post κs a r' s' → (r ≡ r') × (s.1.1.0.now ≡ s'.1.1.0.now)
pt_degrevlex κs a r r' s s' p q = both p q

pub pt_mask : (κs : Lfts 2) (a : _) (r r' : ℕ) (s s' : _) → mask.Post κs a r s → mask.Post κs a r' s' → (r ≡ r') × (s.1.1.1.0.now ≡ s'.1.1.1.0.now)
pt_mask κs a r r' s s' p q = both p q

pub pt_is_zero : (κs : Lfts 2) (a : _) (r r' : ℕ) (s s' : _) → is_zero.Post κs a r s → is_zero.Post κs a r' s' → (r ≡ r') × (s.1.0.now ≡ s'.1.0.now)
pt_is_zero κs a r r' s s' p q = both p q

pub pt_coeff_degree : (κs : Lfts 2) (a : _) (r r' : ℕ) (s s' : _) → coeff_degree.Post κs a r s → coeff_degree.Post κs a r' s' → (r ≡ r') × (s.1.0.now ≡ s'.1.0.now)
pt_coeff_degree κs a r r' s s' p q = both p q

pub pt_coeff : (κs : Lfts 2) (a : _) (r r' : ℕ) (s s' : _) → coeff.Post κs a r s → coeff.Post κs a r' s' → (r ≡ r') × (s.1.1.0.now ≡ s'.1.1.0.now)
pt_coeff κs a r r' s s' p q = both p q

pub pt_hf_at : (κs : Lfts 3) (a : _) (r r' : ℕ) (s s' : _) → hf_at.Post κs a r s → hf_at.Post κs a r' s' → (r ≡ r') × ((s.1.1.1.0.now ≡ s'.1.1.1.0.now) × (s.1.1.1.1.0.now ≡ s'.1.1.1.1.0.now))
pt_hf_at κs a r r' s s' p q = (p.0 ∙ sym q.0, both p.1 q.1)

pub pt_numerator : (κs : Lfts 5) (a : _) (r r' : ℕ) (s s' : _) → numerator.Post κs a r s → numerator.Post κs a r' s' → (r ≡ r') × ((s.1.1.1.0.now ≡ s'.1.1.1.0.now) × ((s.1.1.1.1.0.now ≡ s'.1.1.1.1.0.now) × ((s.1.1.1.1.1.0.now ≡ s'.1.1.1.1.1.0.now) × (s.1.1.1.1.1.1.0.now ≡ s'.1.1.1.1.1.1.0.now))))
pt_numerator κs a r r' s s' p q =
    (p.0 ∙ sym q.0, (p.1.0 ∙ sym q.1.0, (p.1.1.0 ∙ sym q.1.1.0, both p.1.1.1 q.1.1.1)))

pub pt_update : (κs : Lfts 7) (a : _) (r r' : ℕ) (s s' : _) → update.Post κs a r s → update.Post κs a r' s' → (r ≡ r') × ((s.1.1.1.1.1.1.0.now ≡ s'.1.1.1.1.1.1.0.now) × ((s.1.1.1.1.1.1.1.0.now ≡ s'.1.1.1.1.1.1.1.0.now) × ((s.1.1.1.1.1.1.1.1.0.now ≡ s'.1.1.1.1.1.1.1.1.0.now) × (s.1.1.1.1.1.1.1.1.1.0.now ≡ s'.1.1.1.1.1.1.1.1.1.0.now))))
pt_update κs a r r' s s' p q = (p.0 ∙ sym q.0, (p.1.0 ∙ sym q.1.0, (p.1.1.0 ∙ sym q.1.1.0, both p.1.1.1 q.1.1.1)))

pub pt_dimension : (κs : Lfts 6) (a : _) (r r' : ℕ) (s s' : _) → dimension.Post κs a r s → dimension.Post κs a r' s' → (r ≡ r') × ((s.1.1.1.0.now ≡ s'.1.1.1.0.now) × ((s.1.1.1.1.0.now ≡ s'.1.1.1.1.0.now) × ((s.1.1.1.1.1.0.now ≡ s'.1.1.1.1.1.0.now) × ((s.1.1.1.1.1.1.0.now ≡ s'.1.1.1.1.1.1.0.now) × (s.1.1.1.1.1.1.1.0.now ≡ s'.1.1.1.1.1.1.1.0.now)))))
pt_dimension κs a r r' s s' p q = (p.0 ∙ sym q.0, (p.1.0 ∙ sym q.1.0, (p.1.1.0 ∙ sym q.1.1.0, (p.1.1.1.0 ∙ sym q.1.1.1.0, both p.1.1.1.1 q.1.1.1.1))))

pub pt_write_record : (κs : Lfts 3) (a : _) (r r' : ℕ) (s s' : _) → write_record.Post κs a r s → write_record.Post κs a r' s' → (r ≡ r') × ((s.1.1.1.0.now ≡ s'.1.1.1.0.now) × (s.1.1.1.1.0.now ≡ s'.1.1.1.1.0.now))
pt_write_record κs a r r' s s' p q = (p.0 ∙ sym q.0, both p.1 q.1)

pub pt_check_place : (κs : Lfts 1) (a : _) (r r' : ℕ) (s s' : _) → check_place.Post κs a r s → check_place.Post κs a r' s' → r ≡ r'
pt_check_place κs a r r' s s' p q = p ∙ sym q

pub pt_place : (κs : Lfts 3) (a : _) (r r' : ℕ) (s s' : _) → place.Post κs a r s → place.Post κs a r' s' → (r ≡ r') × ((s.1.1.0.now ≡ s'.1.1.0.now) × (s.1.1.1.0.now ≡ s'.1.1.1.0.now))
pt_place κs a r r' s s' p q = (p.0 ∙ sym q.0, both p.1 q.1)

pub pt_copy_record : (κs : Lfts 3) (a : _) (r r' : ℕ) (s s' : _) → copy_record.Post κs a r s → copy_record.Post κs a r' s' → (r ≡ r') × ((s.1.0.now ≡ s'.1.0.now) × (s.1.1.0.now ≡ s'.1.1.0.now))
pt_copy_record κs a r r' s s' p q = (p.0 ∙ sym q.0, both p.1 q.1)
