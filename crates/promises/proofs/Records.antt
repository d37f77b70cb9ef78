-- Demand 3: "One ideal, one record." Each law speaks of any outcome that the call's contract allows, as the source states it. Cells are 16-bit
-- numbers and bytes 8-bit numbers, as the types of the slices say.
--   same_bytes                two accepted lists
--   record_shortest, record_size   the list in the record
--   place_takes, copy_takes   which bytes are taken as a record
--   written_taken             what was written is taken
-- Assumes nothing.
use mathlib.Core.Path.{◌≡◌, refl, sym, ap, ap₂, subst, ◌∙◌}
use mathlib.Core.Logic.{◌≢◌, ◌↔◌}
use mathlib.Core.Bool.{Bool, true, false, not, ◌&&◌, false≢true}
use mathlib.Core.List.{List, [], ◌∷◌, ◌++◌}
use mathlib.Core.Option.{Option, none, some}
use Prim.Native.Nat.{ℕ, ◌+◌, ◌*◌, ◌≤◌}
use native.Mathlib.Omega.{arith}
use lib.Dec.{leb, ltb, eqb}
use lib.ListN.{length, take, drop}
use lib.Seq.{take_at}
use borrow.Author.Tests.{leb-true, le-leb, ltb-false, eqb-true, eq-eqb, not-false}
use contract.Lifetimes.{Lfts}
use Rattle.laws.specs.Count.{equal}
use Rattle.laws.specs.Ideal.{listed, Width, Same}
use Rattle.laws.specs.Minimal.{minimal, Falling}
use Rattle.laws.specs.Record.{ideal_record, is_record, width_in, count_in, exponents_in, list_in}
use Rattle.laws.proofs.Enumeration.{equal_refl}
use Rattle.laws.proofs.Ideal.{listed_width, listed_count, same_refl}
use Rattle.laws.proofs.Minimal.{minimal_same, minimal_shortest, minimal_falling}
use Rattle.laws.proofs.Monomial.{and_left, and_right}
use Rattle.laws.proofs.Reading.{listed_small, record_again, record_list, record_is}
use Rattle.laws.proofs.Record.{record_same, record_length}
use Rattle.monomials.specs.Refusal.{number, refusal, after, answer}
use Rattle.monomials.specs.declared.refusal.Refusal.{Refusal}
use Rattle.monomials.specs.declared.refusal.Refusal.TheVariants.{Width as TooWide, Count, Cells, Place, Record, Output}
use Rattle.records.specs.Host.{status}
use Rattle.records.specs.Ideal.{write_checks, write_answer, write_bytes, place_checks, copy_checks}
use Rattle.records.proofs.ideal.write_record.Reads as write_record_call
use Rattle.records.proofs.ideal.check_place.Reads as check_place_call
use Rattle.records.proofs.ideal.copy_record.Reads as copy_record_call
use Rattle.bridge.specs.Told.{number_in}
use Rattle.bridge.specs.Records.{of_check, of_copy, shape_words}
use Rattle.promises.specs.Promise.{Slice, MutSlice, ◌⨾◌, Below}
use Rattle.promises.proofs.Checks.{passes}
use Rattle.promises.proofs.Given.{writes}
use Rattle.bridge.specs.Monomials.{number_words}
use Rattle.promises.proofs.Answers.{told_number}
use Rattle.std.specs.Prelude.{Result, Ok, ⊤}
use Rattle.records.specs.declared.ideal.Shape.{Shape}

-- an answer with the size k: nothing was refused, and the first k bytes of the output are the record
bytes_there : (o : Option Refusal) (bytes out : List ℕ) (k : ℕ) → (answer o (length bytes)) ≡ Ok k
    → (o ≡ none) × (length bytes ≡ k) × (take k (after o (bytes ++ drop (length bytes) out) out) ≡ bytes)
bytes_there none bytes out k e = let h : length bytes ≡ k = cc in (refl, h, take_at bytes (drop (length bytes) out) k h)
bytes_there (some r) bytes out k e = let z : ◌≡◌ {A = ℕ} 0 1 = cc in absurd (omega arith)

pub bytes_put : (o : Option Refusal) (bytes rec out : List ℕ) → o ≡ none → bytes ≡ rec
    → ((answer o (length bytes)) ≡ Ok (length rec)) × (take (length rec) (after o (bytes ++ drop (length bytes) out) out) ≡ rec)
bytes_put o bytes rec out h e = rw (h, e) (refl, take_at rec (drop (length rec) out) (length rec) refl)

-- what the checks of the writer leave
accepted : (n s : ℕ) (cells out : List ℕ) → refusal (write_checks 255 60 n s cells out) ≡ none → (n ≤ 255) × (s ≤ 60) × (length cells ≡ s * n)
accepted n s cells out e =
    let cs = write_checks 255 60 n s cells out in
    let wide = passes (ltb 255 n) TooWide (drop 1 cs) e in
    let many = passes (ltb 60 s) Count (drop 2 cs) wide.1 in
    let rest = passes (not (eqb (length cells) (s * n))) Cells (drop 3 cs) many.1 in
    (ltb-false 255 n wide.0, ltb-false 60 s many.0, eqb-true (length cells) (s * n) (not-false (eqb (length cells) (s * n)) rest.0))

module _ (κs : Lfts 2) (n s : ℕ) (cells : Slice ℕ) (out : MutSlice ℕ) (r : Result ℕ Refusal) (out' : MutSlice ℕ)
    (outcome : write_record_call.Post κs (n ⨾ s ⨾ cells ⨾ out ⨾ tt) r (n ⨾ s ⨾ cells ⨾ out' ⨾ tt))
    (k : ℕ) (answer : r ≡ Ok k) where
  written : (take k out'.now ≡ ideal_record n (listed n s cells.now)) × (length (ideal_record n (listed n s cells.now)) ≡ k) × Width n (listed n s cells.now) × (s ≤ 60)
  written =
      let L : List (List ℕ) = listed n s cells.now in
      let (o, l, t) = bytes_there (refusal (write_checks 255 60 n s cells.now out.now)) (ideal_record n L) out.now k ((sym outcome.0) ∙ answer) in
      let (w, c, e) = accepted n s cells.now out.now o in
      (ap (take k) outcome.1 ∙ t, l, listed_width n s cells.now (omega arith), c)

  -- "Size 7 + 2·m·n", m being the number of minimal monomials.
  pub record_size : k ≡ 7 + 2 * (length (minimal (listed n s cells.now)) * n)
  record_size = sym written.1 ∙ record_length n (listed n s cells.now) written.2

  -- "No list with those multiples is shorter than the one in the record": it has the multiples of the list given, it falls by DegRevLex, and
  -- it is no longer than any list of that width with the same multiples.
  pub record_shortest : Below 65536 cells.now
      → Same n (listed n s cells.now) (list_in (take k out'.now))
      × Falling (list_in (take k out'.now))
      × ((K : List (List ℕ)) → Width n K → Same n (listed n s cells.now) K → length (list_in (take k out'.now)) ≤ length K)
  record_shortest fit =
      let L : List (List ℕ) = listed n s cells.now in
      rw (written.0, record_list n L written.2 (listed_small n s cells.now fit))
      (minimal_same n L, minimal_falling L, λ K w h. minimal_shortest n L K written.2 w h)

-- two accepted lists
module _ (κs λs : Lfts 2) (n s t : ℕ) (cells : Slice ℕ) (out : MutSlice ℕ) (cells₂ : Slice ℕ) (out₂ : MutSlice ℕ) (r r₂ : Result ℕ Refusal) (out' out₂' : MutSlice ℕ)
    (outcome : write_record_call.Post κs (n ⨾ s ⨾ cells ⨾ out ⨾ tt) r (n ⨾ s ⨾ cells ⨾ out' ⨾ tt))
    (outcome₂ : write_record_call.Post λs (n ⨾ t ⨾ cells₂ ⨾ out₂ ⨾ tt) r₂ (n ⨾ t ⨾ cells₂ ⨾ out₂' ⨾ tt)) where
  -- "Two accepted lists over the same number of variables get the same record bytes exactly when they have the same multiples."
  pub same_bytes : (j k : ℕ) → r ≡ Ok j → r₂ ≡ Ok k → Below 65536 cells.now → Below 65536 cells₂.now
      → (take j out'.now ≡ take k out₂'.now) ↔ Same n (listed n s cells.now) (listed n t cells₂.now)
  same_bytes j k answer answer₂ fit fit₂ =
      let one = written κs n s cells out r out' outcome j answer in
      let two = written λs n t cells₂ out₂ r₂ out₂' outcome₂ k answer₂ in
      rw (one.0, two.0)
      (record_same n (listed n s cells.now) (listed n t cells₂.now) one.2 two.2 (listed_small n s cells.now fit) (listed_small n t cells₂.now fit₂))

-- the answer is 12 exactly when the first of two checks refuses
not_twelve : (b t : Bool) (q : Refusal) → number q ≢ 12 → (status (refusal ((not b, Record) ∷ (t, q) ∷ [])) ≢ 12) ↔ (b ≡ true)
not_twelve true true q h = (λ g. refl, λ g. h)
not_twelve true false q h = (λ g. refl, λ g e. omega arith)
not_twelve false t q h = (λ g. absurd (g refl), λ g. absurd (false≢true g))

-- What was written is taken.
module _ (κs : Lfts 2) (n s : ℕ) (cells : Slice ℕ) (out : MutSlice ℕ) (r : Result ℕ Refusal) (out' : MutSlice ℕ)
    (outcome : write_record_call.Post κs (n ⨾ s ⨾ cells ⨾ out ⨾ tt) r (n ⨾ s ⨾ cells ⨾ out' ⨾ tt))
    (k : ℕ) (answer : r ≡ Ok k) (fit : Below 65536 cells.now) where
  is_record_lem : is_record 60 (take k out'.now) ≡ true
  is_record_lem =
      let L : List (List ℕ) = listed n s cells.now in
      let (bytes, size, w, c) = written κs n s cells out r out' outcome k answer in
      let few : length (minimal L) ≤ 60 = omega (arith, minimal_shortest n L L w w (same_refl n L), listed_count n s cells.now) in
      ap (is_record 60) bytes ∙ record_is 60 n L w (listed_small n s cells.now fit) few

  pub written_taken : (λs : Lfts 1) (rec : Slice ℕ) (i : ℕ) (c : Result ⊤ Refusal) → check_place_call.Post λs (rec ⨾ i ⨾ tt) c (rec ⨾ i ⨾ tt)
      → rec.now ≡ take k out'.now → number_in (of_check c 0) ≢ 12
  written_taken λs rec i c p e =
      let cs = place_checks 60 rec.now i in
      let taken : is_record 60 rec.now ≡ true = ap (is_record 60) e ∙ is_record_lem in
      rw (ap (λ (a : Result ⊤ Refusal). number_in (of_check a 0)) p ∙ told_number (λ _. number_words 0) tt (refusal cs))
      ((not_twelve (is_record 60 rec.now) (leb (count_in rec.now) i) Place (λ z. omega arith)).1 taken)

-- bytes are a record exactly when writing out what they list gives those bytes
module _ (rec out : List ℕ) where
  again : Below 256 rec → length rec ≤ length out → is_record 60 rec ≡ true
      → (refusal (write_checks 255 60 (width_in rec) (count_in rec) (exponents_in rec) out) ≡ none) × (ideal_record (width_in rec) (list_in rec) ≡ rec)
  again fit l r =
      let n = width_in rec in
      let m = count_in rec in
      let whole = eqb (length (exponents_in rec)) (m * n) in
      let same = equal rec (ideal_record n (list_in rec)) in
      let few : m ≤ 60 = leb-true m 60 (and_left (leb m 60) (whole && same) r) in
      let e : ideal_record n (list_in rec) ≡ rec = record_again 60 rec r in
      let size : length (ideal_record n (list_in rec)) ≤ length out = subst (λ (z : ℕ). z ≤ length out) (sym (ap length e)) l in
      (writes n m (exponents_in rec) out (omega (arith, fit 5)) few (eqb-true (length (exponents_in rec)) (m * n) (and_left whole same (and_right (leb m 60) (whole && same) r))) size, e)

  back : count_in rec ≤ 60 → length (exponents_in rec) ≡ count_in rec * width_in rec → ideal_record (width_in rec) (list_in rec) ≡ rec → is_record 60 rec ≡ true
  back c w e =
      let n = width_in rec in
      let m = count_in rec in
      ap₂ ◌&&◌ (le-leb m 60 c) (ap₂ ◌&&◌ (eq-eqb (length (exponents_in rec)) (m * n) w) (ap (equal rec) e ∙ equal_refl rec))

  again_iff : (w : Result ℕ Refusal) (out' : List ℕ) → length rec ≤ length out → Below 256 rec
      → w ≡ write_answer 255 60 (width_in rec) (count_in rec) (exponents_in rec) out → out' ≡ write_bytes 255 60 (width_in rec) (count_in rec) (exponents_in rec) out
      → (is_record 60 rec ≡ true) ↔ ((w ≡ Ok (length rec)) × (take (length rec) out' ≡ rec))
  again_iff w out' l fit p q = (forth, λ h. fro h.0 h.1)
    where
      forth : is_record 60 rec ≡ true → (w ≡ Ok (length rec)) × (take (length rec) out' ≡ rec)
      forth h =
          let (o, e) = again fit l h in
          let (a, b) = bytes_put (refusal (write_checks 255 60 (width_in rec) (count_in rec) (exponents_in rec) out)) (ideal_record (width_in rec) (list_in rec)) rec out o e in
          (p ∙ a, ap (take (length rec)) q ∙ b)

      fro : w ≡ Ok (length rec) → take (length rec) out' ≡ rec → is_record 60 rec ≡ true
      fro h g =
          let (o, e, t) = bytes_there (refusal (write_checks 255 60 (width_in rec) (count_in rec) (exponents_in rec) out)) (ideal_record (width_in rec) (list_in rec)) out (length rec) ((sym p) ∙ h) in
          let (x, y, z) = accepted (width_in rec) (count_in rec) (exponents_in rec) out o in
          back y z (sym t ∙ ap (take (length rec)) (sym q) ∙ g)

-- "Bytes are taken as a record exactly when writing out what they list gives those bytes again": of any bytes `rec`, the width, count and
-- exponents that they list are handed to the writer, with an output that has room for as many bytes; the readers then answer something
-- other than 12 exactly when the writer answers that size and writes those bytes.
module _ (κs : Lfts 2) (rec exponents : Slice ℕ) (out : MutSlice ℕ) (w : Result ℕ Refusal) (out' : MutSlice ℕ)
    (outcome : write_record_call.Post κs (width_in rec.now ⨾ count_in rec.now ⨾ exponents ⨾ out ⨾ tt) w (width_in rec.now ⨾ count_in rec.now ⨾ exponents ⨾ out' ⨾ tt))
    (listed_there : exponents.now ≡ exponents_in rec.now) (room : length rec.now ≤ length out.now) (bytes : Below 256 rec.now) where
  abbrev Again : Type 0
  Again = (w ≡ Ok (length rec.now)) × (take (length rec.now) out'.now ≡ rec.now)

  record_again_iff : (is_record 60 rec.now ≡ true) ↔ Again
  record_again_iff =
      let n = width_in rec.now in
      let m = count_in rec.now in
      again_iff rec.now out.now w out'.now room bytes
      (outcome.0 ∙ ap (λ (cells : List ℕ). write_answer 255 60 n m cells out.now) listed_there)
      (outcome.1 ∙ ap (λ (cells : List ℕ). write_bytes 255 60 n m cells out.now) listed_there)

  pub place_takes : (λs : Lfts 1) (k : ℕ) (c : Result ⊤ Refusal) → check_place_call.Post λs (rec ⨾ k ⨾ tt) c (rec ⨾ k ⨾ tt)
      → (number_in (of_check c 0) ≢ 12)
      ↔ ((w ≡ Ok (length rec.now)) × (take (length rec.now) out'.now ≡ rec.now))
  place_takes λs k c p =
      let f = not_twelve (is_record 60 rec.now) (leb (count_in rec.now) k) Place (λ e. omega arith) in
      let e : number_in (of_check c 0) ≡ status (refusal (place_checks 60 rec.now k)) = ap (λ (a : Result ⊤ Refusal). number_in (of_check a 0)) p ∙ told_number (λ _. number_words 0) tt (refusal (place_checks 60 rec.now k)) in
      rw e (λ h. record_again_iff.0 (f.0 h), λ h. f.1 (record_again_iff.1 h))

  pub copy_takes : (λs : Lfts 2) (cells : MutSlice ℕ) (c : Result Shape Refusal) (cells' : MutSlice ℕ) → copy_record_call.Post λs (rec ⨾ cells ⨾ tt) c (rec ⨾ cells' ⨾ tt)
      → (number_in (of_copy c) ≢ 12)
      ↔ ((w ≡ Ok (length rec.now)) × (take (length rec.now) out'.now ≡ rec.now))
  copy_takes λs cells c cells' p =
      let cs = copy_checks 60 rec.now cells.now in
      let f = not_twelve (is_record 60 rec.now) (ltb (length cells.now) (count_in rec.now * width_in rec.now)) Output (λ e. omega arith) in
      let e : number_in (of_copy c) ≡ status (refusal cs) = ap (λ (a : Result Shape Refusal). number_in (of_copy a)) p.0 ∙ told_number shape_words (record { n = (width_in rec.now); m = (count_in rec.now) }) (refusal cs) in
      rw e (λ h. record_again_iff.0 (f.0 h), λ h. f.1 (record_again_iff.1 h))
