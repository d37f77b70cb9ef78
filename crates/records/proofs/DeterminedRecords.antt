-- Any two outcomes that the contract of a public call on records allows are equal: the answer, what the lent slice holds afterwards, and the
-- part that is handed back. Each is stated over what the contract says of the arguments a, an answer r and what is left at exit s.
-- Assumes nothing.
use mathlib.Core.Path.{◌≡◌, sym, ◌∙◌}
use Prim.Native.Nat.{ℕ}
use contract.Lifetimes.{Lfts}
use Rattle.records.proofs.ideal.write_record.Reads as write_record_reads
use Rattle.records.proofs.ideal.check_place.Reads as check_place_reads
use Rattle.records.proofs.ideal.place.Reads as place_reads_lem
use Rattle.records.proofs.ideal.copy_record.Reads as copy_record_reads
use Rattle.records.proofs.answer.write_answer.Reads as write_answer_reads
use Rattle.records.proofs.host.answer_record.Reads as answer_record_reads
use Rattle.records.proofs.host.purlthicket_dim.Reads as purlthicket_dim_reads
use Rattle.std.specs.Prelude.{Result, ⊤}
use Rattle.monomials.specs.declared.refusal.Refusal.{Refusal}
use Rattle.records.specs.declared.ideal.Shape.{Shape}

pub write_record_determined : (κs : Lfts 2) (a : _) (r r' : Result ℕ Refusal) (s s' : _) → write_record_reads.Post κs a r s → write_record_reads.Post κs a r' s' → (r ≡ r') × (s.1.1.1.0.now ≡ s'.1.1.1.0.now)
write_record_determined κs a r r' s s' p q = (p.0 ∙ sym q.0, p.1 ∙ sym q.1)

pub check_place_determined : (κs : Lfts 1) (a : _) (r r' : Result ⊤ Refusal) (s s' : _) → check_place_reads.Post κs a r s → check_place_reads.Post κs a r' s' → r ≡ r'
check_place_determined κs a r r' s s' p q = p ∙ sym q

pub place_determined : (κs : Lfts 1) (a : _) (r r' : _) (s s' : _) → place_reads_lem.Post κs a r s → place_reads_lem.Post κs a r' s' → r.now ≡ r'.now
place_determined κs a r r' s s' p q = p ∙ sym q

pub copy_record_determined : (κs : Lfts 2) (a : _) (r r' : Result Shape Refusal) (s s' : _) → copy_record_reads.Post κs a r s → copy_record_reads.Post κs a r' s' → (r ≡ r') × (s.1.0.now ≡ s'.1.0.now)
copy_record_determined κs a r r' s s' p q = (p.0 ∙ sym q.0, p.1 ∙ sym q.1)

pub write_answer_determined : (κs : Lfts 1) (a : _) (r r' : Result ⊤ Refusal) (s s' : _) → write_answer_reads.Post κs a r s → write_answer_reads.Post κs a r' s' → (r ≡ r') × (s.1.1.1.0.now ≡ s'.1.1.1.0.now)
write_answer_determined κs a r r' s s' p q = (p.0 ∙ sym q.0, p.1 ∙ sym q.1)

pub answer_record_determined : (κs : Lfts 2) (a : _) (r r' : Result ⊤ Refusal) (s s' : _) → answer_record_reads.Post κs a r s → answer_record_reads.Post κs a r' s' → (r ≡ r') × (s.1.0.now ≡ s'.1.0.now)
answer_record_determined κs a r r' s s' p q = (p.0 ∙ sym q.0, p.1 ∙ sym q.1)

pub purlthicket_dim_determined : (κs : Lfts 2) (a : _) (r r' : ℕ) (s s' : _) → purlthicket_dim_reads.Post κs a r s → purlthicket_dim_reads.Post κs a r' s' → (r ≡ r') × (s.1.0.now ≡ s'.1.0.now)
purlthicket_dim_determined κs a r r' s s' p q = (p.0 ∙ sym q.0, p.1 ∙ sym q.1)
