-- The examples of document 01 that are proved: one law (`holds`) turns a row's test into what the row says of the calls, and the whole table is
-- tested at once (`table`). `star 0` to `star 9` are 01's ten lines that carry a ★.
-- Assumes nothing.
use mathlib.Core.Path.{◌≡◌, refl, sym, ap, ap₂, subst, ◌∙◌}
use mathlib.Core.Bool.{Bool, true, false, not, ◌&&◌, ◌||◌, false≢true}
use mathlib.Core.List.{List, [], ◌∷◌, ◌++◌, append_assoc}
use mathlib.Core.Option.{Option, none}
use Prim.Native.Nat.{ℕ, zero, suc, ◌+◌, ◌*◌, ◌-◌, ◌^◌, ◌≤◌}
use lib.Dec.{leb, ltb, eqb}
use lib.IntN.{ℤ, pos, negsuc}
use lib.ListN.{length, take, drop, replicate, get_or}
use lib.Seq.{take_at}
use borrow.Author.Tests.{leb-true, le-ltb, ltb-true, eqb-true, eq-eqb, not-true}
use contract.Lifetimes.{Lfts}
use Rattle.laws.specs.Coefficients.{first as first_of}
use Rattle.laws.specs.Count.{equal, HF}
use Rattle.laws.specs.Dimension.{powers_product, dimension, top_degree}
use Rattle.laws.specs.Hilbert.{hilbert, hilbert_size}
use Rattle.laws.specs.Ideal.{listed}
use Rattle.laws.specs.Numerator.{numerator, update}
use Rattle.laws.specs.Record.{ideal_record, width_in, list_in}
use Rattle.laws.specs.Room.{pairs, cells_asked, coefficients_asked, update_asked}
use Rattle.laws.proofs.Enumeration.{equal_eq}
use Rattle.laws.proofs.Monomial.{and_left, and_right}
use Rattle.monomials.specs.Refusal.{refusal, after, answer}
use Rattle.monomials.specs.declared.refusal.Refusal.{Refusal}
use Rattle.monomials.specs.declared.refusal.Refusal.TheVariants.{Output}
use Rattle.numbers.specs.Dimension.{at_once, no_dimension, dimension_is, dimension_answer}
use Rattle.numbers.specs.Update.{beyond, update_checks, update_answer, update_first}
use Rattle.numbers.specs.Hilbert.{hilbert_answer}
use Rattle.numbers.specs.Wide.{value, wide, wide_of, signed_value}
use Rattle.numbers.specs.Numerator.{padded, numerator_checks, numerator_answer, numerator_first}
use Rattle.records.specs.Answer.{answer_of as answer_bytes_of}
use Rattle.records.specs.Host.{record_checks, host_checks, host_number, status}
use Rattle.records.specs.Ideal.{not_record, write_checks, write_answer, write_bytes}
use Rattle.records.proofs.host.purlthicket_dim.Reads as purlthicket_dim_call
use Rattle.bridge.specs.Told.{number_in}
use Rattle.bridge.specs.Numbers.{of_dimension}
use Rattle.promises.specs.Promise.{Slice, MutSlice, ◌⨾◌}
use Rattle.promises.specs.Stars.{Row, Says, SaysLine, stars}
use Rattle.promises.proofs.Refusals.{purlthicket_dim}
use Rattle.promises.proofs.Given.{numerator_done, update_done, value_done, dimension_done, writes}
use Rattle.promises.proofs.Records.{bytes_put}
use Rattle.promises.specs.Stars.Row.{coefficients, counts, dimension_of, no_dimension_of, record_of, answer_of, sizes, updated, value_at}
use Rattle.std.specs.Prelude.{Result, Ok}
use Rattle.numbers.specs.declared.wide.Wide.{Wide}
use Rattle.numbers.specs.declared.dimension.Dimension.{Dimension as Counted}

-- the tests

abbrev same : ℤ → ℤ → Bool
same (pos a) (pos b) = eqb a b
same (pos a) (negsuc b) = false
same (negsuc a) (pos b) = false
same (negsuc a) (negsuc b) = eqb a b

abbrev same_all : List ℤ → List ℤ → Bool
same_all [] [] = true
same_all [] (y ∷ q) = false
same_all (x ∷ p) [] = false
same_all (x ∷ p) (y ∷ q) = same x y && same_all p q

-- the number of the host's checks after 14
abbrev record_status : List ℕ → ℕ
record_status rec = status (refusal (not_record 60 rec ∷ record_checks 255 60 65536 rec))

-- checks 1, 2 and 3 pass
abbrev is_list : ℕ → ℕ → List ℕ → Bool
is_list n s cells = leb n 255 && (leb s 60 && eqb (length cells) (s * n))

-- checks 13 and 11 pass, where they are made
abbrev has_dimension : ℕ → List (List ℕ) → Bool
has_dimension n L = at_once n L || (not (no_dimension 65536 n L) && ltb (powers_product n L) (2 ^ 127))

-- the checks of the host that come after 14 pass
abbrev answer_test : List ℕ → List ℕ → Bool
answer_test rec bytes = eqb (record_status rec) 0 && (eqb (length bytes) 26 && equal (answer_bytes_of 0 (dimension (width_in rec) (list_in rec)) (top_degree (width_in rec) (list_in rec))) bytes)

abbrev test : Row → Bool
test (coefficients n s cells N) = is_list n s cells && same_all (numerator (listed n s cells)) N
test (counts n s cells values) = equal (first_of (length values) (HF (listed n s cells) n)) values
test (dimension_of n s cells x) = is_list n s cells && (has_dimension n (listed n s cells) && eqb (value (wide (dimension n (listed n s cells)))) x)
test (no_dimension_of n s cells) = is_list n s cells && (not (at_once n (listed n s cells)) && no_dimension 65536 n (listed n s cells))
test (record_of n s cells bytes) = is_list n s cells && equal (ideal_record n (listed n s cells)) bytes
test (answer_of n s cells bytes) = answer_test (ideal_record n (listed n s cells)) bytes
test (sizes n s cells e c k) = eqb (pairs n (listed n s cells)) e && (eqb (cells_asked n (listed n s cells)) c && eqb (coefficients_asked (listed n s cells)) k)
test (updated n G s0 existing s1 added N) =
    leb n 255
    && (leb (s0 + s1) 60
    && (eqb (length existing) (s0 * n)
    && (eqb (length added) (s1 * n)
    && (not (beyond (2 ^ 61) G) && same_all (update G (listed n s0 existing) (listed n s1 added)) N))))
test (value_at p n d z) = leb n 255 && (leb d 65536 && (ltb (hilbert_size p n d) (2 ^ 127) && same (signed_value (wide_of (hilbert p n d))) z))

abbrev test_line : List Row → Bool
test_line [] = true
test_line (row ∷ line) = test row && test_line line

abbrev test_all : List (List Row) → Bool
test_all [] = true
test_all (line ∷ lines) = test_line line && test_all lines

-- what a test that passes says

same_eq : (x y : ℤ) → same x y ≡ true → x ≡ y
same_eq (pos a) (pos b) h = ap pos (eqb-true a b h)
same_eq (pos a) (negsuc b) h = absurd (false≢true h)
same_eq (negsuc a) (pos b) h = absurd (false≢true h)
same_eq (negsuc a) (negsuc b) h = ap negsuc (eqb-true a b h)

same_all_eq : (p q : List ℤ) → same_all p q ≡ true → p ≡ q
same_all_eq [] [] h = refl
same_all_eq [] (y ∷ q) h = absurd (false≢true h)
same_all_eq (x ∷ p) [] h = absurd (false≢true h)
same_all_eq (x ∷ p) (y ∷ q) h = ap₂ {C = List ℤ} ◌∷◌ (same_eq x y (and_left (same x y) (same_all p q) h)) (same_all_eq p q (and_right (same x y) (same_all p q) h))

-- the two parts of a test
both : (a b : Bool) → (a && b) ≡ true → (a ≡ true) × (b ≡ true)
both a b h = (and_left a b h, and_right a b h)

list_fits : (n s : ℕ) (cells : List ℕ) → is_list n s cells ≡ true → (n ≤ 255) × (s ≤ 60) × (length cells ≡ s * n)
list_fits n s cells h =
    let (a, g) = both (leb n 255) (leb s 60 && eqb (length cells) (s * n)) h in
    let (b, c) = both (leb s 60) (eqb (length cells) (s * n)) g in
    (leb-true n 255 a, leb-true s 60 b, eqb-true (length cells) (s * n) c)

-- coefficients of a call that refuses nothing
coefficients_put : (o : Option Refusal) (M N p : List ℤ) (asked : ℕ) → o ≡ none → M ≡ N
    → ((answer o (length M)) ≡ Ok (length N)) × (take (length N) (after o (padded (pos 0) asked M p) p) ≡ N)
coefficients_put o M N p asked h e =
    let zeros = replicate (asked - length N) (pos 0) in
    rw (h, e) (refl, ap (take (length N)) (append_assoc N zeros (drop asked p)) ∙ take_at N (zeros ++ drop asked p) (length N) refl)

coefficients_hold : (n s : ℕ) (cells : List ℕ) (N : List ℤ) → test (coefficients n s cells N) ≡ true → Says (coefficients n s cells N)
coefficients_hold n s cells N h κs list room first second r room' first' second' p e c k l =
    let L : List (List ℕ) = listed n s cells in
    let (f, g) = both (is_list n s cells) (same_all (numerator L) N) h in
    let (w, m, i) = list_fits n s cells f in
    let none_refused = numerator_done n s cells room.now first.now second.now w m i c k l in
    let (a, b) = coefficients_put (refusal (numerator_checks 255 60 n s cells room.now first.now second.now)) (numerator L) N first.now (coefficients_asked L) none_refused (same_all_eq (numerator L) N g) in (
      (p.0 ∙ ap (λ (cs : List ℕ). numerator_answer 255 60 n s cs room.now first.now second.now) e) ∙ a,
      ap (take (length N)) (p.1.1.0 ∙ ap (λ (cs : List ℕ). numerator_first 255 60 n s cs room.now first.now second.now) e) ∙ b,
    )

dimension_refused : (n s : ℕ) (cells room : List ℕ) (p q : List ℤ) (sums : List ℕ) → n ≤ 255 → s ≤ 60 → length cells ≡ s * n → at_once n (listed n s cells) ≡ false → no_dimension 65536 n (listed n s cells) ≡ true
    → number_in (of_dimension (dimension_answer 255 60 65536 n s cells room p q sums)) ≡ 13
dimension_refused n s cells room p q sums w m i a b = rw (le-ltb 255 n w, le-ltb 60 s m, eq-eqb (length cells) (s * n) i, a, b)

dimension_holds : (n s : ℕ) (cells : List ℕ) (x : ℕ) → test (dimension_of n s cells x) ≡ true → Says (dimension_of n s cells x)
dimension_holds n s cells x h κs list room first second sums r room' first' second' sums' p e enough =
    let L : List (List ℕ) = listed n s cells in
    let (f, g) = both (is_list n s cells) (has_dimension n L && eqb (value (wide (dimension n L))) x) h in
    let (a, b) = both (has_dimension n L) (eqb (value (wide (dimension n L))) x) g in
    let (w, m, i) = list_fits n s cells f in
    let o = dimension_done n s cells room.now first.now second.now sums.now w m i
    (λ once.
    let (c, d) = both (not (no_dimension 65536 n L)) (ltb (powers_product n L) (2 ^ 127)) (rw once at a) in
    let (j, k, l, t) = enough once in
    (not-true (no_dimension 65536 n L) c, ltb-true (powers_product n L) (2 ^ 127) d, j, k, l, t)) in (
      record { dimension = wide (dimension n L); top = top_degree n L },
      (p.0 ∙ ap (λ (cs : List ℕ). dimension_answer 255 60 65536 n s cs room.now first.now second.now sums.now) e) ∙ ap (λ (v : Option Refusal). (dimension_is v n L)) o,
      eqb-true (value (wide (dimension n L))) x b,
    )

no_dimension_holds : (n s : ℕ) (cells : List ℕ) → test (no_dimension_of n s cells) ≡ true → Says (no_dimension_of n s cells)
no_dimension_holds n s cells h κs list room first second sums r room' first' second' sums' p e =
    let L : List (List ℕ) = listed n s cells in
    let (f, g) = both (is_list n s cells) (not (at_once n L) && no_dimension 65536 n L) h in
    let (a, b) = both (not (at_once n L)) (no_dimension 65536 n L) g in
    let (w, m, i) = list_fits n s cells f in
    ap (λ (y : Result Counted Refusal). number_in (of_dimension y)) (p.0 ∙ ap (λ (cs : List ℕ). dimension_answer 255 60 65536 n s cs room.now first.now second.now sums.now) e)
    ∙ dimension_refused n s cells room.now first.now second.now sums.now w m i (not-true (at_once n L) a) b

record_holds : (n s : ℕ) (cells bytes : List ℕ) → test (record_of n s cells bytes) ≡ true → Says (record_of n s cells bytes)
record_holds n s cells bytes h κs list out r out' p e l =
    let L : List (List ℕ) = listed n s cells in
    let (f, g) = both (is_list n s cells) (equal (ideal_record n L) bytes) h in
    let (w, m, i) = list_fits n s cells f in
    let written = equal_eq (ideal_record n L) bytes g in
    let o = writes n s cells out.now w m i (subst (λ (z : ℕ). z ≤ length out.now) (sym (ap length written)) l) in
    let (a, b) = bytes_put (refusal (write_checks 255 60 n s cells out.now)) (ideal_record n L) bytes out.now o written in (
      (p.0 ∙ ap (λ (cs : List ℕ). write_answer 255 60 n s cs out.now) e) ∙ a,
      ap (take (length bytes)) (p.1 ∙ ap (λ (cs : List ℕ). write_bytes 255 60 n s cs out.now) e) ∙ b,
    )

answer_holds : (rec bytes : List ℕ) → answer_test rec bytes ≡ true → (κs : Lfts 2) (given : Slice ℕ) (out : MutSlice ℕ) (r : ℕ) (out' : MutSlice ℕ)
    → purlthicket_dim_call.Post κs (given ⨾ out ⨾ tt) r (given ⨾ out' ⨾ tt) → given.now ≡ rec → 26 ≤ length out.now → (r ≡ 0) × (take 26 out'.now ≡ bytes)
answer_holds rec bytes h κs given out r out' p e l =
    let said = answer_bytes_of 0 (dimension (width_in rec) (list_in rec)) (top_degree (width_in rec) (list_in rec)) in
    let (a, g) = both (eqb (record_status rec) 0) (eqb (length bytes) 26 && equal said bytes) h in
    let (b, c) = both (eqb (length bytes) 26) (equal said bytes) g in
    let done : r ≡ 0 =
    p.0
    ∙ ap (λ (bs : List ℕ). host_number 255 60 65536 26 bs out.now) e
    ∙ ap (λ (t : Bool). status (refusal ((t, Output) ∷ drop 1 (host_checks 255 60 65536 26 rec out.now)))) (le-ltb (length out.now) 26 l)
    ∙ eqb-true (record_status rec) 0 a in
    let whole = (purlthicket_dim κs given out r out' p).2 l in (
      done,
      ap (take 26) (whole ∙ ap₂ (λ (k : ℕ) (bs : List ℕ). answer_bytes_of k (dimension (width_in bs) (list_in bs)) (top_degree (width_in bs) (list_in bs)) ++ drop 26 out.now) done e ∙ ap (λ (bs : List ℕ). bs ++ drop 26 out.now) (equal_eq said bytes c))
          ∙ take_at bytes (drop 26 out.now) 26 (eqb-true (length bytes) 26 b),
    )

sizes_hold : (n s : ℕ) (cells : List ℕ) (e c k : ℕ) → test (sizes n s cells e c k) ≡ true → Says (sizes n s cells e c k)
sizes_hold n s cells e c k h =
    let L : List (List ℕ) = listed n s cells in
    let (a, g) = both (eqb (pairs n L) e) (eqb (cells_asked n L) c && eqb (coefficients_asked L) k) h in
    let (b, d) = both (eqb (cells_asked n L) c) (eqb (coefficients_asked L) k) g in
    (eqb-true (pairs n L) e a, eqb-true (cells_asked n L) c b, eqb-true (coefficients_asked L) k d)

update_holds : (n : ℕ) (G : List ℤ) (s0 : ℕ) (existing : List ℕ) (s1 : ℕ) (added : List ℕ) (N : List ℤ) → test (updated n G s0 existing s1 added N) ≡ true → Says (updated n G s0 existing s1 added N)
update_holds n G s0 existing s1 added N h κs given old new room first second r room' first' second' p eg eo en c k l =
    let U : List ℤ = update G (listed n s0 existing) (listed n s1 added) in
    let asked : ℕ = update_asked G (listed n s0 existing ++ listed n s1 added) in
    let (w, h₁) = both (leb n 255) _ h in
    let (m, h₂) = both (leb (s0 + s1) 60) _ h₁ in
    let (i, h₃) = both (eqb (length existing) (s0 * n)) _ h₂ in
    let (j, h₄) = both (eqb (length added) (s1 * n)) _ h₃ in
    let (b, f) = both (not (beyond (2 ^ 61) G)) (same_all U N) h₄ in
    let o = update_done n G s0 existing s1 added room.now first.now second.now (leb-true n 255 w) (leb-true (s0 + s1) 60 m) (eqb-true (length existing) (s0 * n) i) (eqb-true (length added) (s1 * n) j) (not-true (beyond (2 ^ 61) G) b) c k l in
    let (x, y) = coefficients_put (refusal (update_checks 255 60 (2 ^ 61) n G s0 existing s1 added room.now first.now second.now)) U N first.now asked o (same_all_eq U N f) in (
      ap (λ (a : Result ℕ Refusal). a)
          (p.0
          ∙ ap (λ (g : List ℤ). update_answer 255 60 (2 ^ 61) n g s0 old.now s1 new.now room.now first.now second.now) eg
          ∙ ap₂ (λ (a b : List ℕ). update_answer 255 60 (2 ^ 61) n G s0 a s1 b room.now first.now second.now) eo en)
          ∙ x,
      ap (take (length N))
          (p.1.1.0
          ∙ ap (λ (g : List ℤ). update_first 255 60 (2 ^ 61) n g s0 old.now s1 new.now room.now first.now second.now) eg
          ∙ ap₂ (λ (a b : List ℕ). update_first 255 60 (2 ^ 61) n G s0 a s1 b room.now first.now second.now) eo en)
          ∙ y,
    )

value_holds : (p : List ℤ) (n d : ℕ) (z : ℤ) → test (value_at p n d z) ≡ true → Says (value_at p n d z)
value_holds p n d z h κs given sums r sums' o e l =
    let x : ℤ = hilbert p n d in
    let (w, h₁) = both (leb n 255) _ h in
    let (m, h₂) = both (leb d 65536) _ h₁ in
    let (b, f) = both (ltb (hilbert_size p n d) (2 ^ 127)) (same (signed_value (wide_of x)) z) h₂ in
    let none_refused = value_done n p d sums.now (leb-true n 255 w) (leb-true d 65536 m) (ltb-true (hilbert_size p n d) (2 ^ 127) b) l in (
      wide_of x,
      (o.0 ∙ ap (λ (g : List ℤ). hilbert_answer 255 65536 n g d sums.now) e) ∙ ap (λ (v : Option Refusal). (answer v (wide_of x))) none_refused,
      same_eq (signed_value (wide_of x)) z f,
    )

-- the law: a row whose test passes holds
holds : (row : Row) → test row ≡ true → Says row
holds (coefficients n s cells N) h = coefficients_hold n s cells N h
holds (counts n s cells values) h = equal_eq (first_of (length values) (HF (listed n s cells) n)) values h
holds (dimension_of n s cells x) h = dimension_holds n s cells x h
holds (no_dimension_of n s cells) h = no_dimension_holds n s cells h
holds (record_of n s cells bytes) h = record_holds n s cells bytes h
holds (answer_of n s cells bytes) h = answer_holds (ideal_record n (listed n s cells)) bytes h
holds (sizes n s cells e c k) h = sizes_hold n s cells e c k h
holds (updated n G s0 existing s1 added N) h = update_holds n G s0 existing s1 added N h
holds (value_at p n d z) h = value_holds p n d z h

holds_line : (line : List Row) → test_line line ≡ true → SaysLine line
holds_line [] h = tt
holds_line (row ∷ line) h = let (a, b) = both (test row) (test_line line) h in (holds row a, holds_line line b)

holds_at : (lines : List (List Row)) → test_all lines ≡ true → (i : ℕ) → SaysLine (get_or lines i [])
holds_at [] h i = tt
holds_at (line ∷ lines) h zero = holds_line line (both (test_line line) (test_all lines) h).0
holds_at (line ∷ lines) h (suc i) = holds_at lines (both (test_line line) (test_all lines) h).1 i

-- the table, tested at once
table : test_all stars ≡ true
table = refl

-- each line of it holds
pub star : (i : ℕ) → SaysLine (get_or stars i [])
star i = holds_at stars table i
