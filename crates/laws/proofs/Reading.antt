-- Laws of reading an ideal record: what a reader tests, and what it then has.
--   byte_at, bytes_drop, bytes_take      bytes, one of them and a part of them
--   bytes_by                             numbers below 256 are bytes
--   value_field                          the number in bytes 1 to 4
--   cells_in_length, cells_in_at, cells_in_small    the numbers in bytes: half as many, one of them, each below 65536
--   exponents_in_at                       one exponent of a record, by its bytes
--   cells_in_monomial_bytes                exponents written, then read
--   monomial_bytes_cells                  bytes read, then written
--   listed_at                            one of the monomials that lie in cells
--   listed_written                       a list written as exponent bytes and read again
--   written_listed                       exponent bytes read as a list and written again
--   Tests C bytes                        == what a reader tests of bytes that list at most C monomials
--   record_tests                         bytes are a record exactly when they pass those tests
--   record_again                         what a record lists has that record
--   record_minimal                       what a record lists is its own minimal list
--   record_width, record_count, record_list    what the record of an ideal says it holds
--   record_is                            the record of an ideal is one
use mathlib.Core.Path.{◌≡◌, refl, sym, ap, ap₂, ◌∙◌}
use mathlib.Core.Logic.{inl, inr, ◌↔◌}
use mathlib.Core.Bool.{true, ◌&&◌}
use mathlib.Core.List.{List, [], ◌∷◌, ◌++◌}
use Prim.Native.Nat.{ℕ, zero, suc, ◌+◌, ◌*◌, ◌-◌, ◌≤◌, ◌<◌, ◌/◌, ◌^◌}
use native.Mathlib.Omega.{arith}
use native.Mathlib.Nat.{suc-mul, zero-mul, mul-le-mul, mod-eq_of_lt}
use lib.Dec.{leb, ltb, eqb}
use lib.ListN.{length, get_or, take, drop, length-take, length-drop, take-append-drop}
use lib.Seq.{take_at, drop_at, drop-cons, drop-drop, get_or-drop}
use lib.Pow.{are_bytes}
use borrow.Author.Tests.{lt-ltb, leb-true, le-leb, eqb-true, eq-eqb}
use Rattle.laws.specs.Monomial.{exponent}
use Rattle.laws.specs.Ideal.{listed, Width}
use Rattle.laws.specs.Count.{equal}
use Rattle.laws.specs.Minimal.{minimal}
use Rattle.laws.specs.Record.{big_endian, value, framed, monomial_bytes, exponent_bytes, header, written, ideal_record, cells_in, width_in, count_in, exponents_in, list_in, is_record}
use Rattle.laws.proofs.Monomial.{and_left, and_right, cons_eq}
use Rattle.laws.proofs.Ideal.{listed_width, listed_count}
use Rattle.laws.proofs.Enumeration.{equal_refl, equal_eq}
use Rattle.laws.proofs.Minimal.{minimal_width, minimal_test, Chain, Undivided}
use Rattle.laws.proofs.Record.{first_byte, other_bytes, value_big_endian, big_endian_value, exponent_bytes_length, record_length, Small, minimal_small, record_read}

-- bytes

-- each is below 256
pub byte_at : (bs : List ℕ) (i : ℕ) → are_bytes bs ≡ true → get_or bs i 0 < 256
byte_at [] i h = omega arith
byte_at (b ∷ bs) zero h = first_byte b bs h
byte_at (b ∷ bs) (suc i) h = byte_at bs i (other_bytes b bs h)

-- those that are left are bytes
pub bytes_drop : (i : ℕ) (bs : List ℕ) → are_bytes bs ≡ true → are_bytes (drop i bs) ≡ true
bytes_drop zero bs h = h
bytes_drop (suc i) [] h = h
bytes_drop (suc i) (b ∷ bs) h = bytes_drop i bs (other_bytes b bs h)

-- and so are the first
pub bytes_take : (i : ℕ) (bs : List ℕ) → are_bytes bs ≡ true → are_bytes (take i bs) ≡ true
bytes_take zero bs h = refl
bytes_take (suc i) [] h = refl
bytes_take (suc i) (b ∷ bs) h = ap₂ ◌&&◌ (and_left (ltb b 256) (are_bytes bs) h) (bytes_take i bs (other_bytes b bs h))

-- numbers below 256 are bytes
pub bytes_by : (bs : List ℕ) → ((i : ℕ) → i < length bs → get_or bs i 0 < 256) → are_bytes bs ≡ true
bytes_by [] h = refl
bytes_by (b ∷ bs) h = ap₂ ◌&&◌ (lt-ltb b 256 (h 0 (omega arith))) (bytes_by bs (λ i l. h (suc i) (omega arith)))

-- the length field, by its bytes
pub value_field : (bs : List ℕ) → 5 ≤ length bs → value (take 4 (drop 1 bs)) ≡ 65536 * (256 * get_or bs 1 0 + get_or bs 2 0) + (256 * get_or bs 3 0 + get_or bs 4 0)
value_field [] h = absurd (omega arith)
value_field (a ∷ []) h = absurd (omega arith)
value_field (a ∷ b ∷ []) h = absurd (omega arith)
value_field (a ∷ b ∷ c ∷ []) h = absurd (omega arith)
value_field (a ∷ b ∷ c ∷ d ∷ []) h = absurd (omega arith)
value_field (a ∷ b ∷ c ∷ d ∷ e ∷ bs) h = omega arith

-- numbers of two bytes

-- half as many
pub cells_in_length : (bs : List ℕ) → length (cells_in bs) ≡ length bs / 2
cells_in_length [] = refl
cells_in_length (x ∷ []) = refl
cells_in_length (x ∷ y ∷ bs) = omega (arith, cells_in_length bs)

-- one of them
pub cells_in_at : (bs : List ℕ) (i : ℕ) → 2 * i + 1 < length bs → get_or (cells_in bs) i 0 ≡ 256 * get_or bs (2 * i) 0 + get_or bs (2 * i + 1) 0
cells_in_at [] i h = absurd (omega arith)
cells_in_at (x ∷ []) i h = absurd (omega arith)
cells_in_at (x ∷ y ∷ bs) zero h = refl
cells_in_at (x ∷ y ∷ bs) (suc i) h =
    let p : 2 * suc i ≡ suc (suc (2 * i)) = omega arith in
    let q : 2 * suc i + 1 ≡ suc (suc (2 * i + 1)) = omega arith in
    rw (q, p) (cells_in_at bs i (omega arith))

-- the exponents of a record, by its bytes
pub exponents_in_at : (bytes : List ℕ) (i : ℕ) → 7 + 2 * i + 1 < length bytes → get_or (exponents_in bytes) i 0 ≡ 256 * get_or bytes (7 + 2 * i) 0 + get_or bytes (7 + 2 * i + 1) 0
exponents_in_at bytes i h =
    let e : 7 + (2 * i + 1) ≡ 7 + 2 * i + 1 = omega arith in
    cells_in_at (drop 7 bytes) i (rw length-drop (omega arith)) ∙ rw (get_or-drop 7 bytes (2 * i) 0, get_or-drop 7 bytes (2 * i + 1) 0, e)

-- each fits into two bytes
pub cells_in_small : (bs : List ℕ) → are_bytes bs ≡ true → (v : ℕ) → exponent (cells_in bs) v < 65536
cells_in_small [] h v = omega arith
cells_in_small (x ∷ []) h v = omega arith
cells_in_small (x ∷ y ∷ bs) h zero = omega (arith, first_byte x (y ∷ bs) h, first_byte y bs (other_bytes x (y ∷ bs) h))
cells_in_small (x ∷ y ∷ bs) h (suc v) = cells_in_small bs (other_bytes y bs (other_bytes x (y ∷ bs) h)) v

-- written, then read
pub cells_in_monomial_bytes : (m bs : List ℕ) → ((v : ℕ) → exponent m v < 65536) → cells_in (monomial_bytes m ++ bs) ≡ m ++ cells_in bs
cells_in_monomial_bytes [] bs h = refl
cells_in_monomial_bytes (x ∷ m) bs h = cons_eq (omega (arith, h 0)) (cells_in_monomial_bytes m bs (λ v. h (suc v)))

-- read, then written
pub monomial_bytes_cells : (k : ℕ) (bs : List ℕ) → are_bytes bs ≡ true → length bs ≡ 2 * k → monomial_bytes (cells_in bs) ≡ bs
monomial_bytes_cells zero [] h e = refl
monomial_bytes_cells zero (x ∷ bs) h e = absurd (omega arith)
monomial_bytes_cells (suc k) [] h e = absurd (omega arith)
monomial_bytes_cells (suc k) (x ∷ []) h e = absurd (omega arith)
monomial_bytes_cells (suc k) (x ∷ y ∷ bs) h e =
    let p : x < 256 = first_byte x (y ∷ bs) h in
    let q : y < 256 = first_byte y bs (other_bytes x (y ∷ bs) h) in
    cons_eq (omega arith) (cons_eq (omega arith) (monomial_bytes_cells k bs (other_bytes y bs (other_bytes x (y ∷ bs) h)) (omega arith)))

-- lists of monomials

-- one of the monomials that lie in cells
pub listed_at : (n s i : ℕ) (cells : List ℕ) → i < s → get_or (listed n s cells) i [] ≡ take n (drop (i * n) cells)
listed_at n zero i cells h = absurd (omega arith)
listed_at n (suc s) zero cells h = rw (zero-mul n)
listed_at n (suc s) (suc i) cells h =
    let e : n + i * n ≡ suc i * n = omega (arith, suc-mul i n) in
    listed_at n s i (drop n cells) (omega arith) ∙ ap (take n) (drop-drop (i * n) n cells ∙ ap (λ (j : ℕ). drop j cells) e)

-- n exponents at a time
pub listed_written : (n : ℕ) (L : List (List ℕ)) → Width n L → Small L → listed n (length L) (cells_in (exponent_bytes L)) ≡ L
listed_written n [] w s = refl
listed_written n (m ∷ L) w s =
    let c = cells_in_monomial_bytes m (exponent_bytes L) (s m (inl refl)) in
    let l : length m ≡ n = w m (inl refl) in
    ap₂ {C = List (List ℕ)} ◌∷◌
    (ap (take n) c ∙ take_at m (cells_in (exponent_bytes L)) n l)
    (ap (listed n (length L)) (ap (drop n) c ∙ drop_at m (cells_in (exponent_bytes L)) n l) ∙ listed_written n L (λ a i. w a (inr i)) (λ a i. s a (inr i)))

monomial_bytes_append : (a b : List ℕ) → monomial_bytes (a ++ b) ≡ monomial_bytes a ++ monomial_bytes b
monomial_bytes_append [] b = refl
monomial_bytes_append (x ∷ a) b = ap (λ (r : List ℕ). big_endian 2 x ++ r) (monomial_bytes_append a b)

exponent_bytes_listed : (n s : ℕ) (cells : List ℕ) → length cells ≡ s * n → exponent_bytes (listed n s cells) ≡ monomial_bytes cells
exponent_bytes_listed n zero [] h = refl
exponent_bytes_listed n zero (x ∷ cells) h = absurd (omega (arith, zero-mul n))
exponent_bytes_listed n (suc s) cells h =
    ap (λ (r : List ℕ). monomial_bytes (take n cells) ++ r) (exponent_bytes_listed n s (drop n cells) (length-drop n cells ∙ omega (arith, suc-mul s n)))
    ∙ sym (monomial_bytes_append (take n cells) (drop n cells))
    ∙ ap monomial_bytes (take-append-drop n cells)

-- bytes of s monomials of n exponents, read and written again
pub written_listed : (n s : ℕ) (bs : List ℕ) → are_bytes bs ≡ true → length bs ≡ 2 * (s * n) → exponent_bytes (listed n s (cells_in bs)) ≡ bs
written_listed n s bs h e =
    exponent_bytes_listed n s (cells_in bs) (cells_in_length bs ∙ omega arith) ∙ monomial_bytes_cells (s * n) bs h e

take_small : (n : ℕ) (cells : List ℕ) → ((v : ℕ) → exponent cells v < 65536) → (v : ℕ) → exponent (take n cells) v < 65536
take_small zero cells h v = omega arith
take_small (suc n) [] h v = h v
take_small (suc n) (x ∷ cells) h zero = h 0
take_small (suc n) (x ∷ cells) h (suc v) = take_small n cells (λ j. h (suc j)) v

-- monomials read from small cells are small
pub listed_small : (n s : ℕ) (cells : List ℕ) → ((v : ℕ) → exponent cells v < 65536) → Small (listed n s cells)
listed_small n zero cells h m i = absurd i
listed_small n (suc s) cells h m (inl e) = λ v. rw e (take_small n cells h v)
listed_small n (suc s) cells h m (inr i) = listed_small n s (drop n cells) (λ v. rw (get_or-drop n cells v 0) (h (n + v))) m i

-- what a reader tests

-- version 1; the length of all that follows bytes 1 to 4 in these bytes; a count of at most C; exactly the exponents; each monomial
-- greater than the next by DegRevLex, and divided by no later one
pub record Tests (C : ℕ) (bytes : List ℕ) : Type 0 where
  pub version : get_or bytes 0 0 ≡ 1
  pub field : value (take 4 (drop 1 bytes)) ≡ length bytes - 5
  pub few : count_in bytes ≤ C
  pub total : length bytes ≡ 7 + 2 * (count_in bytes * width_in bytes)
  pub chain : Chain (list_in bytes)
  pub undivided : Undivided (list_in bytes)

-- bytes by their parts
cut : (bytes : List ℕ) → 7 ≤ length bytes → bytes ≡ get_or bytes 0 0 ∷ take 4 (drop 1 bytes) ++ (width_in bytes ∷ count_in bytes ∷ drop 7 bytes)
cut bytes h =
    drop-cons bytes 0 0 (omega arith)
    ∙ cons_eq refl
    (sym (take-append-drop 4 (drop 1 bytes))
    ∙ ap (λ (r : List ℕ). take 4 (drop 1 bytes) ++ r)
    (drop-drop 4 1 bytes ∙ drop-cons bytes 5 0 (omega arith) ∙ cons_eq refl (drop-cons bytes 6 0 (omega arith))))

-- four bytes that stand for x
field_bytes : (f : List ℕ) (x : ℕ) → are_bytes f ≡ true → length f ≡ 4 → value f ≡ x → big_endian 4 x ≡ f
field_bytes f x h e q = ap (big_endian 4) (sym q) ∙ ap (λ (k : ℕ). big_endian k (value f)) (sym e) ∙ big_endian_value f h

-- a written list by its parts
written_parts : (n m : ℕ) (L : List (List ℕ)) (f d : List ℕ) → length L ≡ m → exponent_bytes L ≡ d → big_endian 4 (length (n ∷ m ∷ d)) ≡ f → written n L ≡ 1 ∷ f ++ (n ∷ m ∷ d)
written_parts n m L f d p q r = ap (framed 1) (cons_eq refl (cons_eq p q)) ∙ ap (λ (g : List ℕ). 1 ∷ g ++ (n ∷ m ∷ d)) r

-- what the header of a written list says
written_read : (n : ℕ) (L : List (List ℕ)) (bytes : List ℕ) → bytes ≡ written n L
    → (get_or bytes 0 0 ≡ 1) × (take 4 (drop 1 bytes) ≡ big_endian 4 (length (header n (length L) ++ exponent_bytes L))) × (count_in bytes ≡ length L) × (drop 7 bytes ≡ exponent_bytes L)
written_read n L bytes e = (ap (λ (b : List ℕ). get_or b 0 0) e, ap (λ (b : List ℕ). take 4 (drop 1 b)) e, ap count_in e, ap (drop 7) e)

body_small : (m n x : ℕ) → m < 256 → n < 256 → x ≡ 2 + 2 * (m * n) → x < 256 ^ 4
body_small m n x h g e = omega (arith, mul-le-mul {n₁ = m} {m₁ = n} {n₂ = 255} {m₂ = 255} (omega arith) (omega arith))

module _ (C : ℕ) (bytes : List ℕ) (h : are_bytes bytes ≡ true) where
  -- bytes that pass are what they list, written out
  tests_written : Tests C bytes → written (width_in bytes) (list_in bytes) ≡ bytes
  tests_written t =
      let n = width_in bytes in
      let m = count_in bytes in
      let d = drop 7 bytes in
      let f = take 4 (drop 1 bytes) in
      let l : length d ≡ 2 * (m * n) = length-drop 7 bytes ∙ omega (arith, t.total) in
      let x : length bytes - 5 ≡ length (n ∷ m ∷ d) = omega (arith, t.total) in
      let k : length f ≡ 4 = length-take 4 (drop 1 bytes) ∙ omega (arith, length-drop 1 bytes, t.total) in
      written_parts n m (list_in bytes) f d (listed_count n m (cells_in d)) (written_listed n m d (bytes_drop 7 bytes h) l)
      (field_bytes f (length (n ∷ m ∷ d)) (bytes_take 4 (drop 1 bytes) (bytes_drop 1 bytes h)) k (t.field ∙ x))
      ∙ ap (λ (v : ℕ). v ∷ f ++ (n ∷ m ∷ d)) (sym t.version)
      ∙ sym (cut bytes (omega (arith, t.total)))

  tests_record : Tests C bytes → is_record C bytes ≡ true
  tests_record t =
      let n = width_in bytes in
      let m = count_in bytes in
      let l : length (exponents_in bytes) ≡ m * n = cells_in_length (drop 7 bytes) ∙ omega (arith, t.total, length-drop 7 bytes) in
      let e : minimal (list_in bytes) ≡ list_in bytes = (minimal_test n (list_in bytes) (listed_width n m (exponents_in bytes) (omega arith))).0 (t.chain, t.undivided) in
      let r : ideal_record n (list_in bytes) ≡ bytes = ap (written n) e ∙ tests_written t in
      ap₂ ◌&&◌ (le-leb m C t.few) (ap₂ ◌&&◌ (eq-eqb (length (exponents_in bytes)) (m * n) l) (ap (equal bytes) r ∙ equal_refl bytes))

  record_passes : is_record C bytes ≡ true → Tests C bytes
  record_passes r =
      let n = width_in bytes in
      let m = count_in bytes in
      let L = list_in bytes in
      let K = minimal L in
      let few = leb m C in
      let whole = eqb (length (exponents_in bytes)) (m * n) in
      let same = equal bytes (ideal_record n L) in
      let r' : (whole && same) ≡ true = and_right few (whole && same) r in
      let l : length (exponents_in bytes) ≡ m * n = eqb-true (length (exponents_in bytes)) (m * n) (and_left whole same r') in
      let e : bytes ≡ ideal_record n L = equal_eq bytes (ideal_record n L) (and_right whole same r') in
      let w : Width n L = listed_width n m (exponents_in bytes) (omega arith) in
      let v : Width n K = minimal_width n L w in
      let s : Small K = minimal_small L (listed_small n m (exponents_in bytes) (cells_in_small (drop 7 bytes) (bytes_drop 7 bytes h))) in
      let q = written_read n K bytes e in
      let k : L ≡ K = ap₂ (λ (j : ℕ) (d : List ℕ). listed n j (cells_in d)) q.2 q.3 ∙ listed_written n K v s in
      let t : length bytes ≡ 7 + 2 * (m * n) = ap length e ∙ record_length n L w ∙ ap (λ (j : ℕ). 7 + 2 * (j * n)) (sym q.2) in
      let b : length (header n (length K) ++ exponent_bytes K) ≡ 2 + 2 * (m * n) = omega (arith, exponent_bytes_length n K v, ap (λ (j : ℕ). j * n) q.2) in
      let z = body_small m n (length (header n (length K) ++ exponent_bytes K)) (byte_at bytes 6 h) (byte_at bytes 5 h) b in
      let c = (minimal_test n L w).1 (sym k) in
      record {
        version = q.0;
        field = ap value q.1 ∙ value_big_endian 4 (length (header n (length K) ++ exponent_bytes K)) ∙ mod-eq_of_lt z ∙ omega arith;
        few = leb-true m C (and_left few (whole && same) r);
        total = t;
        chain = c.0;
        undivided = c.1;
      }

  -- and they are a record exactly when they pass
  pub record_tests : (is_record C bytes ≡ true) ↔ Tests C bytes
  record_tests = (record_passes, tests_record)

-- what a record gives its reader

-- the record of what it lists
pub record_again : (C : ℕ) (bytes : List ℕ) → is_record C bytes ≡ true → ideal_record (width_in bytes) (list_in bytes) ≡ bytes
record_again C bytes r =
    let n = width_in bytes in
    let m = count_in bytes in
    let whole = eqb (length (exponents_in bytes)) (m * n) in
    let same = equal bytes (ideal_record n (list_in bytes)) in
    sym (equal_eq bytes (ideal_record n (list_in bytes)) (and_right whole same (and_right (leb m C) (whole && same) r)))

-- a list of minimal members, greatest first
pub record_minimal : (C : ℕ) (bytes : List ℕ) → are_bytes bytes ≡ true → is_record C bytes ≡ true → minimal (list_in bytes) ≡ list_in bytes
record_minimal C bytes h r =
    let t = (record_tests C bytes h).0 r in
    let l = cells_in_length (drop 7 bytes) in
    (minimal_test (width_in bytes) (list_in bytes)
    (listed_width (width_in bytes) (count_in bytes) (exponents_in bytes) (omega (arith, t.total, length-drop 7 bytes)))
    ).0 (t.chain, t.undivided)

-- what is written is a record

-- its width
pub record_width : (n : ℕ) (L : List (List ℕ)) → width_in (ideal_record n L) ≡ n
record_width n L = refl

-- its count
pub record_count : (n : ℕ) (L : List (List ℕ)) → count_in (ideal_record n L) ≡ length (minimal L)
record_count n L = refl

-- its list
pub record_list : (n : ℕ) (L : List (List ℕ)) → Width n L → Small L → list_in (ideal_record n L) ≡ minimal L
record_list n L w s = listed_written n (minimal L) (minimal_width n L w) (minimal_small L s)

-- and it passes
pub record_is : (C n : ℕ) (L : List (List ℕ)) → Width n L → Small L → length (minimal L) ≤ C → is_record C (ideal_record n L) ≡ true
record_is C n L w s h =
    let K = minimal L in
    let e : ideal_record n (list_in (ideal_record n L)) ≡ ideal_record n L = ap (ideal_record n) (record_list n L w s) ∙ record_read n L w in
    let l : length (cells_in (exponent_bytes K)) ≡ length K * n = cells_in_length (exponent_bytes K) ∙ omega (arith, exponent_bytes_length n K (minimal_width n L w)) in
    ap₂ ◌&&◌ (le-leb (length K) C h)
    (ap₂ ◌&&◌ (eq-eqb (length (cells_in (exponent_bytes K))) (length K * n) l) (ap (equal (ideal_record n L)) e ∙ equal_refl (ideal_record n L)))
