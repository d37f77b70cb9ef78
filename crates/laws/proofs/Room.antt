-- The cells that the engine wants: m · m · n of them for m monomials of width n.
--   room-..       what is left of them suffices for the list, for a branch behind it, and for parts
--   part-..       the rest of the room, lent to a branch from the cell b
--   put-..        the room when that branch has left G there
--   colon_within  quotients have the width
use mathlib.Core.Path.{◌≡◌, refl, ap, ◌∙◌}
use mathlib.Core.Logic.{inl, inr}
use mathlib.Core.Bool.{Bool, true, false}
use mathlib.Core.List.{List, [], ◌∷◌, ◌++◌}
use Prim.Native.Nat.{ℕ, zero, suc, ◌+◌, ◌*◌, ◌-◌, ◌≤◌, ◌<◌}
use native.Mathlib.Omega.{arith}
use native.Mathlib.Nat.{mul-le-mul_right, mul-le-mul, suc-mul, add-mul}
use lib.Dec.{leb}
use lib.ListN.{length, get_or, take, drop, length-take, length-drop, get_or-append}
use lib.Seq.{get_or-take, take_all, length-take-le}
use borrow.Rule.Slice.PartMut.{put_mid, same_len_mid}
use Rattle.laws.specs.Ideal.{Within, colon}
use Rattle.laws.specs.Count.{bit}
use Rattle.laws.proofs.Monomial.{length_quotient}
use Rattle.laws.proofs.Rows.{rows, rows_ext}
use Rattle.laws.proofs.Column.{above}

bit_one : (b : Bool) → bit b ≤ 1
bit_one true = omega arith
bit_one false = omega arith

pub above_most : (n v e : ℕ) (xs : List ℕ) (i : ℕ) → above n v e xs i ≤ i
above_most n v e xs zero = omega arith
above_most n v e xs (suc i) = omega (arith, bit_one (leb e (get_or xs (i * n + v) 0)), above_most n v e xs i)

pub square : (m : ℕ) → m ≤ m * m
square zero = omega arith
square (suc m) = omega (arith, suc-mul m (suc m))

pub room_one : (n m left z : ℕ) → left ≤ m → m * m * n ≤ z → left * n ≤ z
room_one n m left z h g = omega (arith, mul-le-mul_right n h, mul-le-mul_right n (square m))

pub room_two : (n m left z : ℕ) → left ≤ m → 2 ≤ left → m * m * n ≤ z → left * n + left * n ≤ z
room_two n m left z h l g =
    let a : 2 * left ≤ m * m = mul-le-mul (omega arith) h in
    let b : (left + left) * n ≤ m * m * n = mul-le-mul_right n (omega arith) in
    omega (arith, add-mul left left n)

pub room_rest : (n m left k z : ℕ) → left ≤ m → k < left → m * m * n ≤ z → left * n + k * k * n ≤ z
room_rest n m left k z h l g =
    let a : suc k * left ≤ m * m = mul-le-mul (omega arith) h in
    let b : k * k ≤ k * left = mul-le-mul (omega arith) (omega arith) in
    let d : (left + k * k) * n ≤ m * m * n = mul-le-mul_right n (omega (arith, suc-mul k left)) in
    omega (arith, add-mul left (k * k) n)

-- one turn: the rest of the room, from the cell b, was lent to the branch I + (x_v^e), which left G there
pub part_enough : (b z : ℕ) (A : List ℕ) → b + z ≤ length A → z ≤ length (take (length A - b) (drop b A))
part_enough b z A h = simp (length-take, length-drop) (omega arith)

pub part_whole : (b : ℕ) (A : List ℕ) → take (length A - b) (drop b A) ≡ drop b A
part_whole b A = take_all (length A - b) (drop b A) (simp length-drop (omega arith))

pub put_length : (b : ℕ) (A G : List ℕ) → length G ≡ length (take (length A - b) (drop b A)) → length (put_mid b (length A - b) A G) ≡ length A
put_length b A G e = same_len_mid b (length A - b) A G e

pub put_rows : (n k : ℕ) (A G : List ℕ) → k * n ≤ length A → length G ≡ length (take (length A - k * n) (drop (k * n) A)) → rows n k (put_mid (k * n) (length A - k * n) A G) ≡ rows n k A
put_rows n k A G h e =
    rows_ext n k (put_mid (k * n) (length A - k * n) A G) A (omega (arith, put_length (k * n) A G e)) h
    (λ j l. get_or-append (take (k * n) A) (G ++ drop (length A - k * n) (drop (k * n) A)) 0 j (rw (length-take-le (k * n) A h) l) ∙ get_or-take (k * n) A j 0 l)

pub colon_within : (n : ℕ) (L : List (List ℕ)) (c : List ℕ) → Within n L → Within n (colon L c)
colon_within n [] c w a i = absurd i
colon_within n (m ∷ L) c w a (inl e) = omega (arith, ap length e, length_quotient m c, w m (inl refl))
colon_within n (m ∷ L) c w a (inr i) = colon_within n L c (λ b j. w b (inr j)) a i

pub room_square : (n m left z : ℕ) → left ≤ m → m * m * n ≤ z → left * left * n ≤ z
room_square n m left z h g =
    let a : left * left ≤ m * m = mul-le-mul h h in
    omega (arith, mul-le-mul_right n a)

pub room_parts : (n m left b z : ℕ) → left ≤ m → b ≤ left → m * m * n ≤ z → (left - b + b) * (left - b + b) * n ≤ z
room_parts n m left b z h l g = room_square n m (left - b + b) z (omega arith) g

-- b rows before, and the square of the a others
pub room_first : (n a b z : ℕ) → 0 < b → (a + b) * (a + b) * n ≤ z → b * n + a * a * n ≤ z
room_first n a b z h g =
    let r = room_rest n (a + b) (a + b) a z (omega arith) (omega arith) g in
    let s : b * n ≤ (a + b) * n = mul-le-mul_right n (omega arith) in
    omega arith
