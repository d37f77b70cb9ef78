-- Laws of writing bytes into a list, a run of places at a time: `sets l i vs` is l with vs from place i on.
--   sets_append                  a run after a run
--   sets_front                   a run from the start
--   big_endian_append             the bytes of a number in two runs
--   big_endian_words              sixteen bytes of a number of two words
--   monomial_bytes_next, exponent_bytes_next    the bytes of one exponent more, and of one monomial more
--   written_sets, answer_sets    a record written part by part, over what an output held
use mathlib.Core.Path.{◌≡◌, refl, sym, ap, ap₂, ◌∙◌}
use mathlib.Core.List.{List, [], ◌∷◌, ◌++◌, append_assoc, append-nil}
use Prim.Native.Nat.{ℕ, zero, suc, ◌+◌, ◌*◌, ◌≤◌, ◌<◌, ◌/◌, ◌%◌, ◌^◌}
use native.Mathlib.Omega.{arith}
use native.Mathlib.Nat.{add-zero, mul_comm, div-div-eq-div-mul}
use lib.Arith.{digits_div}
use lib.Pow.{pow-add}
use lib.ListN.{length, get_or, take, drop, set}
use lib.Seq.{sets, sets-eq}
use Rattle.laws.specs.Ideal.{Width}
use Rattle.laws.specs.Record.{big_endian, framed, monomial_bytes, exponent_bytes, header, written, answer_record}
use Rattle.laws.proofs.Monomial.{cons_eq}
use Rattle.laws.proofs.Record.{big_endian_high, exponent_bytes_length}

-- runs of places

-- b after a
pub sets_append : (l : List ℕ) (i : ℕ) (a b : List ℕ) → sets l i (a ++ b) ≡ sets (sets l i a) (i + length a) b
sets_append l i [] b = ap (λ (j : ℕ). sets l j b) (sym (add-zero i))
sets_append l i (x ∷ a) b = sets_append (set l i x) (suc i) a b ∙ ap (λ (j : ℕ). sets (sets (set l i x) (suc i) a) j b) (omega arith)

-- from the start
pub sets_front : (l vs : List ℕ) → length vs ≤ length l → sets l 0 vs ≡ vs ++ drop (length vs) l
sets_front l vs h =
    let e : 0 + length vs ≡ length vs = omega arith in
    sets-eq vs l 0 (omega arith) ∙ ap (λ (j : ℕ). vs ++ drop j l) e

-- numbers

-- the first a bytes, and the other b
pub big_endian_append : (a b x : ℕ) → big_endian (a + b) x ≡ big_endian a (x / 256 ^ b) ++ big_endian b x
big_endian_append zero b x = let e : 0 + b ≡ b = omega arith in ap (λ (j : ℕ). big_endian j x) e
big_endian_append (suc a) b x =
    let e : suc a + b ≡ suc (a + b) = omega arith in
    let f : a + b ≡ b + a = omega arith in
    let d : x / 256 ^ (a + b) ≡ x / 256 ^ b / 256 ^ a = ap (λ (j : ℕ). x / j) (ap (λ (j : ℕ). 256 ^ j) f ∙ pow-add 256 b a) ∙ sym (div-div-eq-div-mul x (256 ^ b) (256 ^ a)) in
    rw e (cons_eq (ap (λ (j : ℕ). j % 256) d) (big_endian_append a b x))

-- the high word, then the low one
pub big_endian_words : (low high : ℕ) → low < 2 ^ 64 → big_endian 16 (2 ^ 64 * high + low) ≡ big_endian 8 high ++ big_endian 8 low
big_endian_words low high h =
    let e : 2 ^ 64 * high + low ≡ high * 256 ^ 8 + low = ap (λ (j : ℕ). j + low) (mul_comm (256 ^ 8) high) in
    ap (big_endian 16) e ∙ big_endian_append 8 8 (high * 256 ^ 8 + low) ∙ ap₂ ◌++◌ (ap (big_endian 8) (digits_div high h)) (big_endian_high 8 high low)

-- exponents

-- one exponent more
pub monomial_bytes_next : (m : List ℕ) (i : ℕ) → i < length m → monomial_bytes (take (i + 1) m) ≡ monomial_bytes (take i m) ++ big_endian 2 (get_or m i 0)
monomial_bytes_next [] i h = absurd (omega arith)
monomial_bytes_next (x ∷ m) zero h = refl
monomial_bytes_next (x ∷ m) (suc i) h =
    let e : suc i + 1 ≡ suc (i + 1) = omega arith in
    rw e (ap (λ (r : List ℕ). big_endian 2 x ++ r) (monomial_bytes_next m i (omega arith)))

-- one monomial more
pub exponent_bytes_next : (L : List (List ℕ)) (m : List ℕ) → exponent_bytes (L ++ m ∷ []) ≡ exponent_bytes L ++ monomial_bytes m
exponent_bytes_next [] m = append-nil (monomial_bytes m)
exponent_bytes_next (a ∷ L) m = ap (λ (r : List ℕ). monomial_bytes a ++ r) (exponent_bytes_next L m) ∙ sym (append_assoc (monomial_bytes a) (exponent_bytes L) (monomial_bytes m))

-- records

-- the header, then the exponents
pub written_sets : (n : ℕ) (K : List (List ℕ)) (out : List ℕ) → Width n K → length (written n K) ≤ length out
    → sets (sets out 0 (1 ∷ big_endian 4 (2 + 2 * (length K * n)) ++ n ∷ length K ∷ [])) 7 (exponent_bytes K) ≡ written n K ++ drop (length (written n K)) out
written_sets n K out w h =
    let e : 2 + 2 * (length K * n) ≡ length (header n (length K) ++ exponent_bytes K) = omega (arith, exponent_bytes_length n K w) in
    ap (λ (x : ℕ). sets (sets out 0 (1 ∷ big_endian 4 x ++ n ∷ length K ∷ [])) 7 (exponent_bytes K)) e
    ∙ sym (sets_append out 0 (1 ∷ big_endian 4 (length (header n (length K) ++ exponent_bytes K)) ++ n ∷ length K ∷ []) (exponent_bytes K))
    ∙ sets_front out (written n K) h

-- version, length, status, two words and the top degree
pub answer_sets : (status low high top : ℕ) (out : List ℕ) → low < 2 ^ 64 → 26 ≤ length out
    → sets (sets (sets (set (sets (set out 0 1) 1 (big_endian 4 21)) 5 status) 6 (big_endian 8 high)) 14 (big_endian 8 low)) 22 (big_endian 4 top)
    ≡ answer_record status (2 ^ 64 * high + low) top ++ drop 26 out
answer_sets status low high top out h g =
    sets_front out (framed 1 (status ∷ (big_endian 8 high ++ big_endian 8 low) ++ big_endian 4 top)) g
    ∙ ap (λ (r : List ℕ). framed 1 (status ∷ r ++ big_endian 4 top) ++ drop 26 out) (sym (big_endian_words low high h))
