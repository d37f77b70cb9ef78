-- Any two outcomes that the contract of a public call allows are equal: the answer, and what the lent slice holds afterwards. Each is stated
-- over what the contract says of the arguments a, an answer r and what is left at exit s.
-- Assumes nothing.
use mathlib.Core.Path.{◌≡◌, sym, ◌∙◌}
use mathlib.Core.Bool.{Bool}
use Prim.Native.Nat.{ℕ}
use contract.Lifetimes.{Lfts}
use Rattle.std.specs.Prelude.{Result, ⊤}
use Rattle.std.specs.declared.cmp.Ordering.{Ordering as Order}
use Rattle.monomials.specs.declared.refusal.Refusal.{Refusal}
use Rattle.monomials.specs.declared.divmask.DivMask.{DivMask}
use Rattle.monomials.proofs.refusal.number_of.Reads as number_of_reads
use Rattle.monomials.proofs.divmask.mask.Reads as mask_reads_lem
use Rattle.monomials.proofs.divmask.divides_consistent_with.Reads as divides_consistent_with_reads
use Rattle.monomials.proofs.monomial.total_degree.Reads as total_degree_reads
use Rattle.monomials.proofs.monomial.exponent.Reads as exponent_reads
use Rattle.monomials.proofs.monomial.power.Reads as power_reads
use Rattle.monomials.proofs.monomial.product.Reads as product_reads
use Rattle.monomials.proofs.monomial.quotient.Reads as quotient_reads_lem
use Rattle.monomials.proofs.monomial.lcm.Reads as lcm_reads
use Rattle.monomials.proofs.monomial.gcd.Reads as gcd_reads
use Rattle.monomials.proofs.monomial.divides.Reads as divides_reads
use Rattle.monomials.proofs.monomial.is_coprime.Reads as is_coprime_reads
use Rattle.monomials.proofs.monomial.cmp_lex.Reads as cmp_lex_reads
use Rattle.monomials.proofs.monomial.cmp_degrevlex.Reads as cmp_degrevlex_reads

pub number_of_determined : (κs : Lfts 0) (a : _) (r r' : ℕ) (s s' : _) → number_of_reads.Post κs a r s → number_of_reads.Post κs a r' s' → r ≡ r'
number_of_determined κs a r r' s s' p q = p ∙ sym q

pub mask_determined : (κs : Lfts 1) (a : _) (r r' : Result DivMask Refusal) (s s' : _) → mask_reads_lem.Post κs a r s → mask_reads_lem.Post κs a r' s' → r ≡ r'
mask_determined κs a r r' s s' p q = p ∙ sym q

pub divides_consistent_with_determined : (κs : Lfts 0) (a : _) (r r' : Bool) (s s' : _) → divides_consistent_with_reads.Post κs a r s → divides_consistent_with_reads.Post κs a r' s' → r ≡ r'
divides_consistent_with_determined κs a r r' s s' p q = p ∙ sym q

pub total_degree_determined : (κs : Lfts 1) (a : _) (r r' : Result ℕ Refusal) (s s' : _) → total_degree_reads.Post κs a r s → total_degree_reads.Post κs a r' s' → r ≡ r'
total_degree_determined κs a r r' s s' p q = p ∙ sym q

pub exponent_determined : (κs : Lfts 1) (a : _) (r r' : Result ℕ Refusal) (s s' : _) → exponent_reads.Post κs a r s → exponent_reads.Post κs a r' s' → r ≡ r'
exponent_determined κs a r r' s s' p q = p ∙ sym q

pub power_determined : (κs : Lfts 1) (a : _) (r r' : Result ⊤ Refusal) (s s' : _) → power_reads.Post κs a r s → power_reads.Post κs a r' s' → (r ≡ r') × (s.1.1.1.0.now ≡ s'.1.1.1.0.now)
power_determined κs a r r' s s' p q = (p.0 ∙ sym q.0, p.1 ∙ sym q.1)

pub product_determined : (κs : Lfts 3) (a : _) (r r' : Result ⊤ Refusal) (s s' : _) → product_reads.Post κs a r s → product_reads.Post κs a r' s' → (r ≡ r') × (s.1.1.0.now ≡ s'.1.1.0.now)
product_determined κs a r r' s s' p q = (p.0 ∙ sym q.0, p.1 ∙ sym q.1)

pub quotient_determined : (κs : Lfts 3) (a : _) (r r' : Result ⊤ Refusal) (s s' : _) → quotient_reads_lem.Post κs a r s → quotient_reads_lem.Post κs a r' s' → (r ≡ r') × (s.1.1.0.now ≡ s'.1.1.0.now)
quotient_determined κs a r r' s s' p q = (p.0 ∙ sym q.0, p.1 ∙ sym q.1)

pub lcm_determined : (κs : Lfts 3) (a : _) (r r' : Result ⊤ Refusal) (s s' : _) → lcm_reads.Post κs a r s → lcm_reads.Post κs a r' s' → (r ≡ r') × (s.1.1.0.now ≡ s'.1.1.0.now)
lcm_determined κs a r r' s s' p q = (p.0 ∙ sym q.0, p.1 ∙ sym q.1)

pub gcd_determined : (κs : Lfts 3) (a : _) (r r' : Result ⊤ Refusal) (s s' : _) → gcd_reads.Post κs a r s → gcd_reads.Post κs a r' s' → (r ≡ r') × (s.1.1.0.now ≡ s'.1.1.0.now)
gcd_determined κs a r r' s s' p q = (p.0 ∙ sym q.0, p.1 ∙ sym q.1)

pub divides_determined : (κs : Lfts 2) (a : _) (r r' : Result Bool Refusal) (s s' : _) → divides_reads.Post κs a r s → divides_reads.Post κs a r' s' → r ≡ r'
divides_determined κs a r r' s s' p q = p ∙ sym q

pub is_coprime_determined : (κs : Lfts 2) (a : _) (r r' : Result Bool Refusal) (s s' : _) → is_coprime_reads.Post κs a r s → is_coprime_reads.Post κs a r' s' → r ≡ r'
is_coprime_determined κs a r r' s s' p q = p ∙ sym q

pub cmp_lex_determined : (κs : Lfts 2) (a : _) (r r' : Result Order Refusal) (s s' : _) → cmp_lex_reads.Post κs a r s → cmp_lex_reads.Post κs a r' s' → r ≡ r'
cmp_lex_determined κs a r r' s s' p q = p ∙ sym q

pub cmp_degrevlex_determined : (κs : Lfts 2) (a : _) (r r' : Result Order Refusal) (s s' : _) → cmp_degrevlex_reads.Post κs a r s → cmp_degrevlex_reads.Post κs a r' s' → r ≡ r'
cmp_degrevlex_determined κs a r r' s s' p q = p ∙ sym q
