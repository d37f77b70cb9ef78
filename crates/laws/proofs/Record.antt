-- Laws of the bytes of the ideal record.
--   append_parts                        two equal joined lists with first parts of equal length have equal parts
--   first_byte, other_bytes             bytes, one by one
--   big_endian_length, big_endian_bytes   k bytes of x are k numbers, each below 256
--   value_big_endian                     read back, they give x modulo 256^k
--   big_endian_inj                       two numbers below 256^k with the same k bytes are equal
--   big_endian_high                      the low k bytes do not depend on what stands above them
--   value_lt, big_endian_value           bytes read as a number and written again are the same bytes
--   framed_length, framed_inj           the length of a framed body; two bodies framed the same are equal
--   monomial_bytes_length, exponent_bytes_length    two bytes for each exponent
--   written_length                      the size of a record is 7 + 2·m·n
--   written_bytes                       it is made of bytes, for width and count below 256
--   written_inj                         two lists of one width, with exponents below 65536, that are written the same are equal
--   minimal_small                       the minimal members have small exponents too
--   record_length                       the size of the record of an ideal, m the count of its minimal members
--   record_same                         the same record exactly when the same multiples
--   record_read                         writing out what a record lists gives it again
--   record_test                         a list written as it stands is its own record exactly when it falls and no member is divided by a later one
use mathlib.Core.Path.{◌≡◌, refl, sym, ap, ap₂, ◌∙◌}
use mathlib.Core.Logic.{inl, inr, ◌↔◌}
use mathlib.Core.Bool.{true, ◌&&◌}
use mathlib.Core.List.{List, [], ◌∷◌, ◌++◌, head-eq_of_cons-eq, tail-eq_of_cons-eq}
use Prim.Native.Nat.{ℕ, zero, suc, ◌+◌, ◌*◌, ◌<◌, ◌/◌, ◌%◌, ◌^◌}
use native.Mathlib.Omega.{arith}
use native.Mathlib.Nat.{suc-mul, zero-mul, mul_assoc, pow-succ', one-le-pow, mod-lt, mod-eq_of_lt, mul-add-div_right, mul-add-mod_self_right}
use lib.Arith.{mod-mul, digits_lt, digits_div}
use lib.Dec.{ltb}
use lib.ListN.{length, length-append}
use lib.Pow.{are_bytes}
use borrow.Author.Tests.{ltb-true, lt-ltb}
use Rattle.laws.specs.Monomial.{exponent}
use Rattle.laws.specs.Ideal.{In, Width, Same}
use Rattle.laws.specs.Minimal.{minimal}
use Rattle.laws.specs.Record.{big_endian, value, framed, monomial_bytes, exponent_bytes, header, written, ideal_record}
use Rattle.laws.proofs.Monomial.{and_left, and_right, cons_eq}
use Rattle.laws.proofs.Minimal.{minimal_members, minimal_width, minimal_same_iff, minimal_again, Chain, Undivided, minimal_test}

-- lists one after another

-- equal lists, cut at the same place
pub append_parts : (a b c d : List ℕ) → length a ≡ length b → a ++ c ≡ b ++ d → (a ≡ b) × (c ≡ d)
append_parts [] [] c d e h = (refl, h)
append_parts [] (y ∷ b) c d e h = absurd (omega arith)
append_parts (x ∷ a) [] c d e h = absurd (omega arith)
append_parts (x ∷ a) (y ∷ b) c d e h =
    let r = append_parts a b c d (omega arith) (tail-eq_of_cons-eq h) in
    (cons_eq (head-eq_of_cons-eq h) r.0, r.1)

-- the first is below 256
pub first_byte : (b : ℕ) (bs : List ℕ) → are_bytes (b ∷ bs) ≡ true → b < 256
first_byte b bs h = ltb-true b 256 (and_left (ltb b 256) (are_bytes bs) h)

-- and those after it are bytes
pub other_bytes : (b : ℕ) (bs : List ℕ) → are_bytes (b ∷ bs) ≡ true → are_bytes bs ≡ true
other_bytes b bs h = and_right (ltb b 256) (are_bytes bs) h

bytes_append : (a b : List ℕ) → are_bytes a ≡ true → are_bytes b ≡ true → are_bytes (a ++ b) ≡ true
bytes_append [] b h g = g
bytes_append (x ∷ a) b h g = ap₂ ◌&&◌ (lt-ltb x 256 (first_byte x a h)) (bytes_append a b (other_bytes x a h) g)

-- big-endian numbers

power_positive : (k : ℕ) → 0 < 256 ^ k
power_positive k = one-le-pow k 256 (omega arith)

-- k bytes
pub big_endian_length : (k x : ℕ) → length (big_endian k x) ≡ k
big_endian_length zero x = refl
big_endian_length (suc k) x = ap suc (big_endian_length k x)

-- each below 256
pub big_endian_bytes : (k x : ℕ) → are_bytes (big_endian k x) ≡ true
big_endian_bytes zero x = refl
big_endian_bytes (suc k) x = ap₂ ◌&&◌ (lt-ltb (x / 256 ^ k % 256) 256 (mod-lt (x / 256 ^ k) (omega arith))) (big_endian_bytes k x)

-- written, then read
pub value_big_endian : (k x : ℕ) → value (big_endian k x) ≡ x % 256 ^ k
value_big_endian zero x = omega arith
value_big_endian (suc k) x =
    ap₂ ◌+◌ (ap (λ (j : ℕ). x / 256 ^ k % 256 * 256 ^ j) (big_endian_length k x)) (value_big_endian k x)
    ∙ sym (mod-mul x (omega arith) (power_positive k))
    ∙ ap (λ (j : ℕ). x % j) (sym (pow-succ' 256 k))

-- different numbers, different bytes
pub big_endian_inj : (k x y : ℕ) → x < 256 ^ k → y < 256 ^ k → big_endian k x ≡ big_endian k y → x ≡ y
big_endian_inj k x y h g e = sym (read x h) ∙ ap value e ∙ read y g
  where
    read : (z : ℕ) → z < 256 ^ k → value (big_endian k z) ≡ z
    read z l = value_big_endian k z ∙ mod-eq_of_lt l

-- what stands before a number's own k bytes does not change them
pub big_endian_high : (k q x : ℕ) → big_endian k (q * 256 ^ k + x) ≡ big_endian k x
big_endian_high zero q x = refl
big_endian_high (suc k) q x =
    let e : q * 256 ^ suc k + x ≡ q * 256 * 256 ^ k + x = ap (λ (j : ℕ). j + x) (ap (λ (j : ℕ). q * j) (pow-succ' 256 k) ∙ sym (mul_assoc q 256 (256 ^ k))) in
    ap (big_endian (suc k)) e
    ∙ cons_eq (ap (λ (j : ℕ). j % 256) (mul-add-div_right (power_positive k) (q * 256) x) ∙ mul-add-mod_self_right q 256 (x / 256 ^ k)) (big_endian_high k (q * 256) x)

-- k bytes read below 256^k
pub value_lt : (bs : List ℕ) → are_bytes bs ≡ true → value bs < 256 ^ length bs
value_lt [] h = omega arith
value_lt (b ∷ bs) h = rw (pow-succ' 256 (length bs)) (digits_lt (first_byte b bs h) (value_lt bs (other_bytes b bs h)))

-- read, then written
pub big_endian_value : (bs : List ℕ) → are_bytes bs ≡ true → big_endian (length bs) (value bs) ≡ bs
big_endian_value [] h = refl
big_endian_value (b ∷ bs) h =
    cons_eq (ap (λ (j : ℕ). j % 256) (digits_div b (value_lt bs (other_bytes b bs h))) ∙ mod-eq_of_lt (first_byte b bs h))
    (big_endian_high (length bs) b (value bs) ∙ big_endian_value bs (other_bytes b bs h))

-- a version, the length, the body

-- one byte for the version, four for the length
pub framed_length : (v : ℕ) (body : List ℕ) → length (framed v body) ≡ 5 + length body
framed_length v body = omega arith

framed_bytes : (v : ℕ) (body : List ℕ) → v < 256 → are_bytes body ≡ true → are_bytes (framed v body) ≡ true
framed_bytes v body h g = ap₂ ◌&&◌ (lt-ltb v 256 h) (bytes_append (big_endian 4 (length body)) body (big_endian_bytes 4 (length body)) g)

-- different bodies, different frames
pub framed_inj : (v : ℕ) (b c : List ℕ) → framed v b ≡ framed v c → b ≡ c
framed_inj v b c e = (append_parts (big_endian 4 (length b)) (big_endian 4 (length c)) b c refl (tail-eq_of_cons-eq e)).1

-- the exponents

-- each exponent fits into two bytes
abbrev pub Small : List (List ℕ) → Type 0
Small L = (m : List ℕ) → In m L → (v : ℕ) → exponent m v < 65536

-- two bytes an exponent
pub monomial_bytes_length : (m : List ℕ) → length (monomial_bytes m) ≡ 2 * length m
monomial_bytes_length [] = refl
monomial_bytes_length (x ∷ m) = omega (arith, monomial_bytes_length m)

-- for m monomials of n exponents
pub exponent_bytes_length : (n : ℕ) (L : List (List ℕ)) → Width n L → length (exponent_bytes L) ≡ 2 * (length L * n)
exponent_bytes_length n [] w = omega (arith, zero-mul n)
exponent_bytes_length n (m ∷ L) w =
    length-append (monomial_bytes m) (exponent_bytes L)
    ∙ omega (arith, monomial_bytes_length m, w m (inl refl), exponent_bytes_length n L (λ a i. w a (inr i)), suc-mul (length L) n)

-- size 7 + 2·m·n
pub written_length : (n : ℕ) (L : List (List ℕ)) → Width n L → length (written n L) ≡ 7 + 2 * (length L * n)
written_length n L w = framed_length 1 (header n (length L) ++ exponent_bytes L) ∙ omega (arith, exponent_bytes_length n L w)

monomial_bytes_bytes : (m : List ℕ) → are_bytes (monomial_bytes m) ≡ true
monomial_bytes_bytes [] = refl
monomial_bytes_bytes (x ∷ m) = bytes_append (big_endian 2 x) (monomial_bytes m) (big_endian_bytes 2 x) (monomial_bytes_bytes m)

exponent_bytes_bytes : (L : List (List ℕ)) → are_bytes (exponent_bytes L) ≡ true
exponent_bytes_bytes [] = refl
exponent_bytes_bytes (m ∷ L) = bytes_append (monomial_bytes m) (exponent_bytes L) (monomial_bytes_bytes m) (exponent_bytes_bytes L)

-- each below 256
pub written_bytes : (n : ℕ) (L : List (List ℕ)) → n < 256 → length L < 256 → are_bytes (written n L) ≡ true
written_bytes n L h g =
    framed_bytes 1 (header n (length L) ++ exponent_bytes L) (omega arith)
    (ap₂ ◌&&◌ (lt-ltb n 256 h) (ap₂ ◌&&◌ (lt-ltb (length L) 256 g) (exponent_bytes_bytes L)))

-- one list, one writing

monomial_bytes_inj : (a b : List ℕ) → length a ≡ length b → ((v : ℕ) → exponent a v < 65536) → ((v : ℕ) → exponent b v < 65536) → monomial_bytes a ≡ monomial_bytes b → a ≡ b
monomial_bytes_inj [] [] e h g p = refl
monomial_bytes_inj [] (y ∷ b) e h g p = absurd (omega arith)
monomial_bytes_inj (x ∷ a) [] e h g p = absurd (omega arith)
monomial_bytes_inj (x ∷ a) (y ∷ b) e h g p =
    let r = append_parts (big_endian 2 x) (big_endian 2 y) (monomial_bytes a) (monomial_bytes b) refl p in
    cons_eq (big_endian_inj 2 x y (h 0) (g 0) r.0) (monomial_bytes_inj a b (omega arith) (λ v. h (suc v)) (λ v. g (suc v)) r.1)

exponent_bytes_inj : (n : ℕ) (L K : List (List ℕ)) → Width n L → Width n K → Small L → Small K → length L ≡ length K → exponent_bytes L ≡ exponent_bytes K → L ≡ K
exponent_bytes_inj n [] [] w v s t e p = refl
exponent_bytes_inj n [] (b ∷ K) w v s t e p = absurd (omega arith)
exponent_bytes_inj n (a ∷ L) [] w v s t e p = absurd (omega arith)
exponent_bytes_inj n (a ∷ L) (b ∷ K) w v s t e p =
    let l : length a ≡ length b = w a (inl refl) ∙ sym (v b (inl refl)) in
    let r = append_parts (monomial_bytes a) (monomial_bytes b) (exponent_bytes L) (exponent_bytes K) (omega (arith, monomial_bytes_length a, monomial_bytes_length b)) p in
    ap₂ {C = List (List ℕ)} ◌∷◌ (monomial_bytes_inj a b l (s a (inl refl)) (t b (inl refl)) r.0)
    (exponent_bytes_inj n L K (λ m i. w m (inr i)) (λ m i. v m (inr i)) (λ m i. s m (inr i)) (λ m i. t m (inr i)) (omega arith) r.1)

-- different lists, different records
pub written_inj : (n : ℕ) (L K : List (List ℕ)) → Width n L → Width n K → Small L → Small K → written n L ≡ written n K → L ≡ K
written_inj n L K w v s t e =
    let body = framed_inj 1 (header n (length L) ++ exponent_bytes L) (header n (length K) ++ exponent_bytes K) e in
    let rest : length L ∷ exponent_bytes L ≡ length K ∷ exponent_bytes K = tail-eq_of_cons-eq body in
    exponent_bytes_inj n L K w v s t (head-eq_of_cons-eq rest) (tail-eq_of_cons-eq rest)

-- one ideal, one record

-- the minimal members are members
pub minimal_small : (L : List (List ℕ)) → Small L → Small (minimal L)
minimal_small L s m i = s m ((minimal_members L m).0 i).0

-- size 7 + 2·m·n, m the count of the minimal members
pub record_length : (n : ℕ) (L : List (List ℕ)) → Width n L → length (ideal_record n L) ≡ 7 + 2 * (length (minimal L) * n)
record_length n L w = written_length n (minimal L) (minimal_width n L w)

-- the same bytes exactly when the same multiples
pub record_same : (n : ℕ) (L K : List (List ℕ)) → Width n L → Width n K → Small L → Small K → (ideal_record n L ≡ ideal_record n K) ↔ Same n L K
record_same n L K w v s t =
    let iff = minimal_same_iff n L K w v in (
      λ e. iff.1 (written_inj n (minimal L) (minimal K) (minimal_width n L w) (minimal_width n K v) (minimal_small L s) (minimal_small K t) e),
      λ h. ap (written n) (iff.0 h),
    )

-- what a record lists has that record
pub record_read : (n : ℕ) (L : List (List ℕ)) → Width n L → ideal_record n (minimal L) ≡ ideal_record n L
record_read n L w = ap (written n) (minimal_again n L w)

-- a list is written as its own record exactly when it passes both tests
pub record_test : (n : ℕ) (L : List (List ℕ)) → Width n L → Small L → (Chain L × Undivided L) ↔ (ideal_record n L ≡ written n L)
record_test n L w s =
    let iff = minimal_test n L w in
    (λ h. ap (written n) (iff.0 h), λ e. iff.1 (written_inj n (minimal L) L (minimal_width n L w) w (minimal_small L s) s e))
