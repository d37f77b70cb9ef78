-- Any two outcomes that a contract of the reader allows are equal.
-- Assumes nothing.
use Rattle.std.proofs.Common.{◌≡◌, ℕ, ◌<◌, ◌≤◌, Bool, List, ◌++◌, Option, None, Some, Ok, MatchOption, length, drop, take, refl, sym, ap, ap₂, ◌∙◌, subst, arith}
use contract.Lifetimes.{Lfts}
use denote.Param.Laws.{Laws}
use denote.RattleType.{RattleType}
use mir.Syntax.{Dict}
use Rattle.std.specs.List.{FoldsTo}
use Rattle.std.specs.Io.KnownBytes.{Consumes, IsAtEnd}
use Rattle.std.specs.declared.io.traits.Read.{Ghosts as ReadGhosts}
use Rattle.std.specs.declared.io.traits.Write.{Ghosts}
use Rattle.vectors.specs.Text.{integer_at as integer_at_of}
use Rattle.vectors.specs.Rooms.{wanted, list_of, wiped as wiped_by}
use Rattle.vectors.specs.Replay.{AreLines, ReadFrom, Replays}
use Rattle.vectors.specs.declared.Integer.{Integer}
use Rattle.vectors.specs.declared.rooms.Contents.{Contents}
use Rattle.vectors.specs.declared.rooms.Compared.{Compared}
use Rattle.vectors.specs.declared.told.Told.{Told}
use Rattle.vectors.specs.declared.reader.Reader.{Reader}
use Rattle.vectors.specs.declared.replay.Calls.{Ghosts as CallsGhosts}
use Rattle.vectors.specs.declared.comparison.Comparison.{Ghosts as ComparisonGhosts}
use Rattle.vectors.proofs.integer_at.Reads as integer_at
use Rattle.vectors.proofs.line_after.Reads as line_after
use Rattle.vectors.proofs.is_line_end.Reads as is_line_end
use Rattle.vectors.proofs.rooms.list_at.Reads as list_at
use Rattle.vectors.proofs.rooms.wiped.Reads as wiped
use Rattle.vectors.proofs.rooms.at_most.Reads as at_most
use Rattle.vectors.proofs.rooms.put.Reads as put
use Rattle.vectors.proofs.rooms.compare.Reads as compare
use Rattle.vectors.proofs.counts.tally.Reads as tally
use Rattle.vectors.proofs.counts.say_counts.Reads as say_counts
use Rattle.vectors.proofs.asked.cells_asked.Reads as cells_asked
use Rattle.vectors.proofs.asked.coefficients_asked.Reads as coefficients_asked
use Rattle.vectors.proofs.told.refused.Reads as refused
use Rattle.vectors.proofs.told.told_by.Reads as told_by
use Rattle.vectors.proofs.told.done.Reads as done
use Rattle.vectors.proofs.told.is_told.Reads as is_told
use Rattle.vectors.proofs.told.is_answer.Reads as is_answer
use Rattle.vectors.proofs.told.output_at.Reads as output_at
use Rattle.vectors.proofs.reader.Reader.word.Reads as reader_word
use Rattle.vectors.proofs.reader.Reader.size.Reads as reader_size
use Rattle.vectors.proofs.reader.Reader.lend.Reads as reader_lend
use Rattle.vectors.proofs.reader.Reader.fill.Reads as reader_fill
use Rattle.vectors.proofs.reader.Reader.holds.Reads as reader_holds
use Rattle.vectors.proofs.reader.Reader.is_told.Reads as reader_is_told
use Rattle.vectors.proofs.reader.Reader.is_answer.Reads as reader_is_answer
use Rattle.vectors.proofs.reader.Reader.is_line_end.Reads as reader_is_line_end
use Rattle.vectors.proofs.reader.Reader.is_written.Reads as reader_is_written
use Rattle.vectors.proofs.replay.replay.Reads as replay
use Rattle.vectors.proofs.replay.replay_input.Reads as replay_input
use Rattle.vectors.proofs.comparison.replay.Reads as comparison_replay
use Rattle.vectors.proofs.comparison.replay_input.Reads as comparison_replay_input
use Rattle.vectors.proofs.Replaying.{OneAnswer, counts_determined, taken}

pub integer_at_determined : (κs : Lfts 1) (a : _) (r r' : Integer) (s s' : _) → integer_at.Post κs a r s → integer_at.Post κs a r' s' → r ≡ r'
integer_at_determined κs a r r' s s' p q = p ∙ sym q

pub line_after_determined : (κs : Lfts 1) (a : _) (r r' : ℕ) (s s' : _) → line_after.Post κs a r s → line_after.Post κs a r' s' → r ≡ r'
line_after_determined κs a r r' s s' p q = p.0 ∙ sym q.0

pub is_line_end_determined : (κs : Lfts 1) (a : _) (r r' : Bool) (s s' : _) → is_line_end.Post κs a r s → is_line_end.Post κs a r' s' → r ≡ r'
is_line_end_determined κs a r r' s s' p q = p ∙ sym q

pub list_at_determined : (κs : Lfts 1) (a : _) (r r' : Contents) (s s' : _) → list_at.Post κs a r s → list_at.Post κs a r' s' → r ≡ r'
list_at_determined κs a r r' s s' p q = p ∙ sym q

pub wiped_determined : (κs : Lfts 0) (a : _) (r r' : Contents) (s s' : _) → wiped.Post κs a r s → wiped.Post κs a r' s' → r ≡ r'
wiped_determined κs a r r' s s' p q = p ∙ sym q

pub at_most_determined : (κs : Lfts 0) (a : _) (r r' : ℕ) (s s' : _) → at_most.Post κs a r s → at_most.Post κs a r' s' → r ≡ r'
at_most_determined κs a r r' s s' p q = p ∙ sym q

-- of the place and of what the slice then holds, at every type of element
pub put_determined : (T : RattleType) (laws : Laws T) (copy : _) (element : _) (dict : Dict) (clone : _) (clone_dict : Dict) (κs : Lfts 3) (a : _) (r r' : ℕ) (s s' : _) → put.Post T laws copy element dict clone clone_dict κs a r s → put.Post T laws copy element dict clone clone_dict κs a r' s' → (r ≡ r') × (s.1.1.0.now ≡ s'.1.1.0.now)
put_determined T laws copy element dict clone clone_dict κs a r r' s s' p q = (p.0 ∙ sym q.0, p.1 ∙ sym q.1)

pub compare_determined : (T : RattleType) (laws : Laws T) (copy : _) (element : _) (dict : Dict) (clone : _) (clone_dict : Dict) (κs : Lfts 3) (a : _) (r r' : Compared) (s s' : _) → compare.Post T laws copy element dict clone clone_dict κs a r s → compare.Post T laws copy element dict clone clone_dict κs a r' s' → r ≡ r'
compare_determined T laws copy element dict clone clone_dict κs a r r' s s' p q = p ∙ sym q

-- of what the counts then are
pub tally_determined : (κs : Lfts 1) (a : _) (r r' : _) (s s' : _) → tally.Post κs a r s → tally.Post κs a r' s' → s.0.now ≡ s'.0.now
tally_determined κs a r r' s s' p q = p ∙ sym q

-- of how many cases were compared, where all could be written
pub say_counts_determined : (W : RattleType) (laws : Laws W) (write : Ghosts W.Denot) (dict : Dict) (κs : Lfts 3) (a : _) (n n' : ℕ) (s s' : _) → say_counts.Post W laws write dict κs a (Ok n) s → say_counts.Post W laws write dict κs a (Ok n') s' → n ≡ n'
say_counts_determined W laws write dict κs a n n' s s' p q = p ∙ sym q

pub cells_asked_determined : (κs : Lfts 1) (a : _) (r r' : ℕ) (s s' : _) → cells_asked.Post κs a r s → cells_asked.Post κs a r' s' → r ≡ r'
cells_asked_determined κs a r r' s s' p q = p ∙ sym q

pub coefficients_asked_determined : (κs : Lfts 1) (a : _) (r r' : ℕ) (s s' : _) → coefficients_asked.Post κs a r s → coefficients_asked.Post κs a r' s' → r ≡ r'
coefficients_asked_determined κs a r r' s s' p q = p ∙ sym q

pub refused_determined : (κs : Lfts 0) (a : _) (r r' : Told) (s s' : _) → refused.Post κs a r s → refused.Post κs a r' s' → r ≡ r'
refused_determined κs a r r' s s' p q = p ∙ sym q

pub told_by_determined : (κs : Lfts 0) (a : _) (r r' : Told) (s s' : _) → told_by.Post κs a r s → told_by.Post κs a r' s' → r ≡ r'
told_by_determined κs a r r' s s' p q = p ∙ sym q

pub done_determined : (κs : Lfts 0) (a : _) (r r' : Told) (s s' : _) → done.Post κs a r s → done.Post κs a r' s' → r ≡ r'
done_determined κs a r r' s s' p q = p ∙ sym q

pub is_told_determined : (κs : Lfts 1) (a : _) (r r' : Compared) (s s' : _) → is_told.Post κs a r s → is_told.Post κs a r' s' → r ≡ r'
is_told_determined κs a r r' s s' p q = p ∙ sym q

pub is_answer_determined : (κs : Lfts 1) (a : _) (r r' : Bool) (s s' : _) → is_answer.Post κs a r s → is_answer.Post κs a r' s' → r ≡ r'
is_answer_determined κs a r r' s s' p q = p ∙ sym q

pub output_at_determined : (κs : Lfts 1) (a : _) (r r' : Contents) (s s' : _) → output_at.Post κs a r s → output_at.Post κs a r' s' → r ≡ r'
output_at_determined κs a r r' s s' p q = p ∙ sym q

reader_determined : (x y : Reader) → x.text ≡ y.text → x.at ≡ y.at → x ≡ y
reader_determined x y p q = ap₂ (λ (t : _) (z : ℕ). record { text = t; at = z }) p q

-- of what a reader's methods answer, of the room after, and of the reader
pub reader_word_determined : (κs : _) (a : _) (r r' : ℕ) (s s' : _) → reader_word.Post κs a r s → reader_word.Post κs a r' s' → (r ≡ r') × (s.0.now ≡ s'.0.now)
reader_word_determined κs a r r' s s' p q = (p.0 ∙ sym q.0, reader_determined s.0.now s'.0.now (p.1.0 ∙ sym q.1.0) (p.1.1 ∙ sym q.1.1))

pub reader_size_determined : (κs : _) (a : _) (r r' : ℕ) (s s' : _) → reader_size.Post κs a r s → reader_size.Post κs a r' s' → (r ≡ r') × (s.0.now ≡ s'.0.now)
reader_size_determined κs a r r' s s' p q = (p.0 ∙ sym q.0, reader_determined s.0.now s'.0.now (p.1.0 ∙ sym q.1.0) (p.1.1 ∙ sym q.1.1))

lent_determined : (m k : ℕ) (r r' : Option ℕ) → MatchOption r (k < m) (λ (n : ℕ). (n ≡ m) × (n ≤ k)) → MatchOption r' (k < m) (λ (n : ℕ). (n ≡ m) × (n ≤ k)) → r ≡ r'
lent_determined m k None None p q = refl
lent_determined m k None (Some n) p q = absurd (omega (arith, p, q.0, q.1))
lent_determined m k (Some n) None p q = absurd (omega (arith, q, p.0, p.1))
lent_determined m k (Some n) (Some n') p q = ap (λ (x : ℕ). Some x) (p.0 ∙ sym q.0)

wiped_room_determined : {A : Type 0} (old : List A) (f : ℕ → List A) (x y : List A) (r : Option ℕ) → MatchOption r (x ≡ old) (λ (n : ℕ). x ≡ f n) → MatchOption r (y ≡ old) (λ (n : ℕ). y ≡ f n) → x ≡ y
wiped_room_determined old f x y None p q = p ∙ sym q
wiped_room_determined old f x y (Some n) p q = p ∙ sym q

pub reader_lend_determined : (T : RattleType) (laws : Laws T) (copy : _) (element : _) (dict : Dict) (clone : _) (clone_dict : Dict) (κs : _) (a : _) (r r' : Option ℕ) (s s' : _) → reader_lend.Post T laws copy element dict clone clone_dict κs a r s → reader_lend.Post T laws copy element dict clone clone_dict κs a r' s' → (r ≡ r') × (s.1.0.now ≡ s'.1.0.now) × (s.0.now ≡ s'.0.now)
reader_lend_determined T laws copy element dict clone clone_dict κs a r r' s s' p q =
    let text = a.0.now.text.now in
    let old = a.1.0.now in
    let f : ℕ → List T.Denot = λ n. list_of n (λ (j : ℕ). element.of_bits (wanted text (wiped_by 0) j)) ++ drop n old in
    let e = lent_determined (integer_at_of text a.0.now.at).magnitude (length old) r r' p.0 q.0 in (
      e,
      wiped_room_determined old f s.1.0.now s'.1.0.now r' (subst (λ (o : Option ℕ). MatchOption o (s.1.0.now ≡ old) (λ (n : ℕ). s.1.0.now ≡ f n)) e p.1.1.0) q.1.1.0,
      reader_determined s.0.now s'.0.now (p.1.1.1.0 ∙ sym q.1.1.1.0) (p.1.1.1.1 ∙ sym q.1.1.1.1),
    )

pub reader_fill_determined : (T : RattleType) (laws : Laws T) (copy : _) (element : _) (dict : Dict) (clone : _) (clone_dict : Dict) (κs : _) (a : _) (r r' : ℕ) (s s' : _) → reader_fill.Post T laws copy element dict clone clone_dict κs a r s → reader_fill.Post T laws copy element dict clone clone_dict κs a r' s' → (r ≡ r') × (s.1.0.now ≡ s'.1.0.now) × (s.0.now ≡ s'.0.now)
reader_fill_determined T laws copy element dict clone clone_dict κs a r r' s s' p q = (p.0 ∙ sym q.0, p.1.1.0 ∙ sym q.1.1.0, reader_determined s.0.now s'.0.now (p.1.1.1.0 ∙ sym q.1.1.1.0) (p.1.1.1.1 ∙ sym q.1.1.1.1))

pub reader_holds_determined : (T : RattleType) (laws : Laws T) (copy : _) (element : _) (dict : Dict) (clone : _) (clone_dict : Dict) (κs : _) (a : _) (r r' : Bool) (s s' : _) → reader_holds.Post T laws copy element dict clone clone_dict κs a r s → reader_holds.Post T laws copy element dict clone clone_dict κs a r' s' → (r ≡ r') × (s.0.now ≡ s'.0.now)
reader_holds_determined T laws copy element dict clone clone_dict κs a r r' s s' p q = (p.0 ∙ sym q.0, reader_determined s.0.now s'.0.now (p.1.0 ∙ sym q.1.0) (p.1.1 ∙ sym q.1.1))

pub reader_is_told_determined : (κs : _) (a : _) (r r' : Bool) (s s' : _) → reader_is_told.Post κs a r s → reader_is_told.Post κs a r' s' → (r ≡ r') × (s.0.now ≡ s'.0.now)
reader_is_told_determined κs a r r' s s' p q = (p.0 ∙ sym q.0, reader_determined s.0.now s'.0.now (p.1.0 ∙ sym q.1.0) (p.1.1 ∙ sym q.1.1))

pub reader_is_answer_determined : (κs : _) (a : _) (r r' : Bool) (s s' : _) → reader_is_answer.Post κs a r s → reader_is_answer.Post κs a r' s' → r ≡ r'
reader_is_answer_determined κs a r r' s s' p q = p ∙ sym q

pub reader_is_line_end_determined : (κs : _) (a : _) (r r' : Bool) (s s' : _) → reader_is_line_end.Post κs a r s → reader_is_line_end.Post κs a r' s' → r ≡ r'
reader_is_line_end_determined κs a r r' s s' p q = p ∙ sym q

pub reader_is_written_determined : (T : RattleType) (laws : Laws T) (copy : _) (element : _) (dict : Dict) (clone : _) (clone_dict : Dict) (κs : _) (a : _) (r r' : Bool) (s s' : _) → reader_is_written.Post T laws copy element dict clone clone_dict κs a r s → reader_is_written.Post T laws copy element dict clone clone_dict κs a r' s' → r ≡ r'
reader_is_written_determined T laws copy element dict clone clone_dict κs a r r' s s' p q = p ∙ sym q

answer_and_counts : {p q : List ℕ × ℕ} → p ≡ q → (p.1 ≡ q.1) × (p.0 ≡ q.0)
answer_and_counts e = (ap (λ (c : List ℕ × ℕ). c.1) e, ap (λ (c : List ℕ × ℕ). c.0) e)

-- of the answer and of what the counts then are, where no case is answered in two ways
pub replay_determined : (C : RattleType) (laws : Laws C) (calls : CallsGhosts C.Denot) (dict : Dict) → OneAnswer calls.says → (κs : _) (a : _) (r r' : ℕ) (s s' : _) → replay.Post C laws calls dict κs a r s → replay.Post C laws calls dict κs a r' s' → (r ≡ r') × (s.1.0.now ≡ s'.1.0.now)
replay_determined C laws calls dict one κs a r r' s s' p q =
    answer_and_counts (counts_determined calls.says one a.0.now (a.1.0.now, 0) (s.1.0.now, r) (s'.1.0.now, r') p q)

-- what is read of an input, and what it makes of the counts
abbrev Taken : (ℕ → Reader → Option Bool → Type 0) → List ℕ → Option (List ℕ) → Option (List ℕ) → List ℕ × ℕ → List ℕ × ℕ → Type 0
Taken Says room old new from to =
    (text : List ℕ) × (length text ≤ length room) × (take (length text) room ≡ text) × Consumes old new text × (length text < length room → IsAtEnd new)
    × ((lines : List ℕ) × AreLines text 0 lines × FoldsTo (Replays text (ReadFrom text Says)) from lines to)

taken_determined : (Says : ℕ → Reader → Option Bool → Type 0) → OneAnswer Says → (k : ℕ) (bytes room room' : List ℕ) (old new new' : Option (List ℕ)) (from to to' : List ℕ × ℕ)
    → length room ≡ k → length room' ≡ k → old ≡ Some bytes → Taken Says room old new from to → Taken Says room' old new' from to' → to ≡ to'
taken_determined Says one k bytes room room' old new new' from to to' h h' known p q =
    let same : p.0 ≡ q.0 = taken k bytes p.0 old new known p.3 (omega (arith, h, p.1)) (λ l. p.4 (omega (arith, h, l))) ∙ sym (taken k bytes q.0 old new' known q.3 (omega (arith, h', q.1)) (λ l. q.4 (omega (arith, h', l)))) in
    counts_determined Says one p.0 from to to' p.5 (subst (λ (t : List ℕ). (lines : List ℕ) × AreLines t 0 lines × FoldsTo (Replays t (ReadFrom t Says)) from lines to') (sym same) q.5)

-- of the answer and of what the counts then are, where all could be read and written, at every reader whose bytes a contract can name
pub replay_input_determined : (C R W : RattleType) (laws : Laws C) (read_laws : Laws R) (write_laws : Laws W) (calls : CallsGhosts C.Denot) (dict : Dict) (read : ReadGhosts R.Denot) (read_dict : Dict) (write : Ghosts W.Denot) (write_dict : Dict) → OneAnswer calls.says → (κs : _) (a : _) (r r' : ℕ) (s s' : _)
    → replay_input.Post C R W laws read_laws write_laws calls dict read read_dict write write_dict κs a (Ok r) s → replay_input.Post C R W laws read_laws write_laws calls dict read read_dict write write_dict κs a (Ok r') s'
    → (bytes : List ℕ) → read.remaining a.0.now ≡ Some bytes → (r ≡ r') × (s.1.1.1.0.now ≡ s'.1.1.1.0.now)
replay_input_determined C R W laws read_laws write_laws calls dict read read_dict write write_dict one κs a r r' s s' p q bytes known =
    answer_and_counts (taken_determined calls.says one (length a.1.1.0.now) bytes _ _ _ _ _ (a.1.1.1.0.now, 0) (s.1.1.1.0.now, r) (s'.1.1.1.0.now, r') p.0 q.0 known p.1 q.1)

-- the same of the calls by a value that compares
pub comparison_replay_determined : (C : RattleType) (laws : Laws C) (comparison : ComparisonGhosts C.Denot) (dict : Dict) (κs : _) (a : _) (r r' : ℕ) (s s' : _) → comparison_replay.Post C laws comparison dict κs a r s → comparison_replay.Post C laws comparison dict κs a r' s' → OneAnswer (comparison.says a.1.1.0.now) → (r ≡ r') × (s.1.0.now ≡ s'.1.0.now)
comparison_replay_determined C laws comparison dict κs a r r' s s' p q one =
    answer_and_counts (counts_determined (comparison.says a.1.1.0.now) one a.0.now (a.1.0.now, 0) (s.1.0.now, r) (s'.1.0.now, r') p q)

pub comparison_replay_input_determined : (R W C : RattleType) (read_laws : Laws R) (write_laws : Laws W) (laws : Laws C) (read : ReadGhosts R.Denot) (read_dict : Dict) (write : Ghosts W.Denot) (write_dict : Dict) (comparison : ComparisonGhosts C.Denot) (dict : Dict) (κs : _) (a : _) (r r' : ℕ) (s s' : _)
    → comparison_replay_input.Post R W C read_laws write_laws laws read read_dict write write_dict comparison dict κs a (Ok r) s → comparison_replay_input.Post R W C read_laws write_laws laws read read_dict write write_dict comparison dict κs a (Ok r') s'
    → OneAnswer (comparison.says a.1.1.1.1.0.now) → (bytes : List ℕ) → read.remaining a.0.now ≡ Some bytes → (r ≡ r') × (s.1.1.1.0.now ≡ s'.1.1.1.0.now)
comparison_replay_input_determined R W C read_laws write_laws laws read read_dict write write_dict comparison dict κs a r r' s s' p q one bytes known =
    answer_and_counts (taken_determined (comparison.says a.1.1.1.1.0.now) one (length a.1.1.0.now) bytes _ _ _ _ _ (a.1.1.1.0.now, 0) (s.1.1.1.0.now, r) (s'.1.1.1.0.now, r') p.0 q.0 known p.1 q.1)
