-- Few monomials: N(L, a) = N(L) − t^deg(a) · N(L : a), the last monomial first, the quotients written behind the list.
--   Unit L                       == a member of L is 1
--   Quotients n k xs i unit ys   == the quotients of the first i monomials by number k lie behind the first k + 1; where `unit` holds, those that were
--                                   not written do not matter: one of the cells' monomials is 1, and one of the k quotients
--   DegreeIs d a                 == d is the degree of a, and fits a word of 32 bits
--   factor P d neg               == P (1 - t^d), or less that
--   pair P d e q neg             == P times the numerator of two monomials of degrees d and e, the first's quotient by the second of degree q, or less that
-- In this file: the loop's steps, one turn (few_step), a branch that is dropped (unit_none, added_none, added_past), the cells wanted, one, two and
-- three monomials by degrees (factor_sums, single_sums, pair_sums, two_sums, three_sums).
use mathlib.Core.Path.{◌≡◌, refl, sym, ap, ap₂, ◌∙◌}
use mathlib.Core.Logic.{inl, inr}
use mathlib.Core.Bool.{Bool, true, false, not, false≢true}
use mathlib.Core.List.{List, [], ◌∷◌, ◌++◌}
use Prim.Native.Nat.{ℕ, zero, suc, ◌+◌, ◌*◌, ◌-◌, ◌≤◌, ◌<◌}
use native.Mathlib.Omega.{arith}
use native.Mathlib.Nat.{mul-le-mul_right, suc-mul}
use native.Mathlib.Numerals.{add-one}
use lib.Dec.{eqb}
use lib.ListN.{length, get_or, take, drop, length-take, length-drop, get_or-append}
use lib.Seq.{get_or-take, get_or-drop, length-take-le, ext_get_or}
use lib.IntN.{ℤ, pos, ◌+ℤ◌, ◌-ℤ◌, neg_ℤ, +ℤ_idr, +ℤ_comm, neg_ℤ-+ℤ, neg_ℤ-neg_ℤ}
use borrow.Author.Tests.{eqb-true, eqb-false}
use borrow.Rule.Slice.PartMut.{put_mid}
use Rattle.laws.specs.Monomial.{degree, quotient}
use Rattle.laws.specs.Ideal.{In, colon}
use Rattle.laws.specs.Coefficients.{coefficient, shift}
use Rattle.laws.specs.Numerator.{numerator_at}
use Rattle.laws.proofs.Monomial.{length_quotient, unit_divides}
use Rattle.laws.proofs.Coefficients.{shift_ext, shift_shift, shift_below}
use Rattle.laws.proofs.Numerator.{over_vanishes, numerator_over}
use Rattle.laws.proofs.Rows.{at, rows, rows_next, rows_ext, row_end, at_cell, Wrote}
use Rattle.laws.proofs.Room.{put_length, part_whole, room_rest, square}
use Rattle.laws.proofs.Added.{low, AddedTo, running_none, running_more, running_leaf}
use Rattle.laws.proofs.Seed.{seeded, seeded_cons, seeded_none, shift_add}
use Rattle.laws.proofs.Leaf.{by}

abbrev Unit : List (List ℕ) → Type 0
Unit L = (a : List ℕ) × In a L × (degree a ≡ 0)

-- the quotients: the first i of them are written
pub record Quotients (n k : ℕ) (xs : List ℕ) (i : ℕ) (unit : Bool) (ys : List ℕ) : Type 0 where
  pub len : length ys ≡ length xs
  pub kept : (j : ℕ) → j < (k + 1) * n → get_or ys j 0 ≡ get_or xs j 0
  pub is : unit ≡ false → rows n i (drop ((k + 1) * n) ys) ≡ colon (rows n i xs) (at n k xs)
  pub one : unit ≡ true → Unit (rows n k (drop ((k + 1) * n) ys)) × Unit (colon (rows n k xs) (at n k xs))

pub quotients_none : (n k : ℕ) (xs : List ℕ) → Quotients n k xs 0 false xs
quotients_none n k xs = record { len = refl; kept = λ j h. refl; is = λ h. refl; one = λ h. absurd (false≢true h) }

pub quotient_cell : (a c : List ℕ) (j : ℕ) → get_or (quotient a c) j 0 ≡ get_or a j 0 - get_or c j 0
quotient_cell a [] j = omega arith
quotient_cell [] (y ∷ c) j = omega arith
quotient_cell (x ∷ a) (y ∷ c) zero = refl
quotient_cell (x ∷ a) (y ∷ c) (suc j) = quotient_cell a c j

-- quotient number i, by its cells
quotient_is : (n k : ℕ) (xs : List ℕ) (i : ℕ) (ys zs : List ℕ) → (k + 1) * n + k * n ≤ length xs → i < k
    → Wrote ys (λ t. get_or ys (i * n + t) 0 - get_or ys (k * n + t) 0) ((k + 1) * n + i * n) n zs
    → Quotients n k xs i false ys → at n i (drop ((k + 1) * n) zs) ≡ quotient (at n i xs) (at n k xs)
quotient_is n k xs i ys zs g l w q =
    ext_get_or 0 (at n i (drop base zs)) (quotient (at n i xs) (at n k xs)) (lz ∙ sym (length_quotient (at n i xs) (at n k xs) ∙ lx))
    (λ j h. let p : j < n = omega (arith, lz) in
    at_cell n i j (drop base zs) p
    ∙ get_or-drop base zs (i * n + j) 0
    ∙ ap (λ (z : ℕ). get_or zs z 0) (add_assoc_sym base (i * n) j)
    ∙ w.there j p
    ∙ ap₂ ◌-◌ (q.kept (i * n + j) (omega (arith, r, s)) ∙ sym (at_cell n i j xs p)) (q.kept (k * n + j) (omega (arith, s)) ∙ sym (at_cell n k j xs p))
    ∙ sym (quotient_cell (at n i xs) (at n k xs) j))
  where
    base : ℕ
    base = (k + 1) * n

    r : i * n + n ≤ k * n
    r = row_end n k i l

    s : (k + 1) * n ≡ k * n + n
    s = omega (arith, suc-mul k n, add-one k)

    lz : length (at n i (drop base zs)) ≡ n
    lz = simp (length-take, length-drop) (omega (arith, w.len, q.len, r))

    lx : length (at n i xs) ≡ n
    lx = simp (length-take, length-drop) (omega (arith, r))

    add_assoc_sym : (a b c : ℕ) → a + (b + c) ≡ a + b + c
    add_assoc_sym a b c = omega arith

pub quotients_more : (n k : ℕ) (xs : List ℕ) (i : ℕ) (ys zs : List ℕ) → (k + 1) * n + k * n ≤ length xs → i < k
    → Wrote ys (λ t. get_or ys (i * n + t) 0 - get_or ys (k * n + t) 0) ((k + 1) * n + i * n) n zs
    → Quotients n k xs i false ys → Quotients n k xs (i + 1) false zs
quotients_more n k xs i ys zs g l w q =
    record {
      len = w.len ∙ q.len;
      kept = λ j h. w.other j (inl (omega arith)) ∙ q.kept j h;
      is = λ h. rw (rows_next n i (drop base zs), rows_next n i xs) (ap₂ {C = List (List ℕ)} ◌∷◌ (quotient_is n k xs i ys zs g l w q) (below ∙ q.is refl));
      one = λ h. absurd (false≢true h);
    }
  where
    base : ℕ
    base = (k + 1) * n

    r : i * n + n ≤ k * n
    r = row_end n k i l

    below : rows n i (drop base zs) ≡ rows n i (drop base ys)
    below =
        rows_ext n i (drop base zs) (drop base ys) (rw length-drop (omega (arith, w.len, q.len, r))) (rw length-drop (omega (arith, q.len, r)))
        (λ j h. get_or-drop base zs j 0 ∙ w.other (base + j) (inl (omega arith)) ∙ sym (get_or-drop base ys j 0))

degree_none : (a : List ℕ) → ((j : ℕ) → j < length a → get_or a j 0 ≡ 0) → degree a ≡ 0
degree_none [] h = refl
degree_none (x ∷ a) h = omega (arith, h 0 (omega arith), degree_none a (λ j l. h (suc j) (omega arith)))

in_rows : (n k i : ℕ) (xs : List ℕ) → i < k → In (at n i xs) (rows n k xs)
in_rows n zero i xs l = elim l [ ]
in_rows n (suc k) i xs l = go (λ h. in_rows n k i xs h) (eqb i k) refl
  where
    go : (i < k → In (at n i xs) (rows n k xs)) → (b : Bool) → eqb i k ≡ b → In (at n i xs) (rows n (suc k) xs)
    go f true e = let p : i ≡ k = eqb-true i k e in rw p (inl refl)
    go f false e = inr (f (omega (arith, eqb-false i k e)))

in_colon : (a c : List ℕ) (L : List (List ℕ)) → In a L → In (quotient a c) (colon L c)
in_colon a c [] x' = elim x' [ ]
in_colon a c (b ∷ L) (inl e) = inl (ap (λ (z : List ℕ). quotient z c) e)
in_colon a c (b ∷ L) (inr i) = inr (in_colon a c L i)

-- quotient number i is 1: the others need not be written
pub quotients_unit : (n k : ℕ) (xs : List ℕ) (i : ℕ) (ys zs : List ℕ) → (k + 1) * n + k * n ≤ length xs → i < k
    → Wrote ys (λ t. get_or ys (i * n + t) 0 - get_or ys (k * n + t) 0) ((k + 1) * n + i * n) n zs
    → ((j : ℕ) → j < n → get_or ys (i * n + j) 0 - get_or ys (k * n + j) 0 ≡ 0)
    → Quotients n k xs i false ys → Quotients n k xs k true zs
quotients_unit n k xs i ys zs g l w o q =
    record {
      len = w.len ∙ q.len;
      kept = λ j h. w.other j (inl (omega arith)) ∙ q.kept j h;
      is = λ h. absurd (false≢true (sym h));
      one = λ h. (
        (at n i (drop base zs), in_rows n k i (drop base zs) l, none),
        (quotient (at n i xs) (at n k xs), in_colon (at n i xs) (at n k xs) (rows n k xs) (in_rows n k i xs l), ap degree (sym here) ∙ none),
      );
    }
  where
    base : ℕ
    base = (k + 1) * n

    here : at n i (drop base zs) ≡ quotient (at n i xs) (at n k xs)
    here = quotient_is n k xs i ys zs g l w q

    none : degree (at n i (drop base zs)) ≡ 0
    none =
        degree_none (at n i (drop base zs))
        (λ j h. let p : j < n = omega (arith, lz) in
        at_cell n i j (drop base zs) p ∙ get_or-drop base zs (i * n + j) 0 ∙ ap (λ (z : ℕ). get_or zs z 0) (add_assoc_sym base (i * n) j) ∙ w.there j p ∙ o j p)
      where
        lz : length (at n i (drop base zs)) ≡ n
        lz = simp (length-take, length-drop) (omega (arith, w.len, q.len, row_end n k i l))

        add_assoc_sym : (a b c : ℕ) → a + (b + c) ≡ a + b + c
        add_assoc_sym a b c = omega arith

-- the sum over the parts: one turn
by_sub : (b : Bool) (x y : ℤ) → by b (x -ℤ y) ≡ by (not b) y +ℤ by b x
by_sub false x y = +ℤ_comm x (neg_ℤ y)
by_sub true x y = neg_ℤ-+ℤ x (neg_ℤ y) ∙ ap (λ (z : ℤ). neg_ℤ x +ℤ z) (neg_ℤ-neg_ℤ y) ∙ +ℤ_comm (neg_ℤ x) y

by_shift : (b : Bool) (d : ℕ) (f : ℕ → ℤ) (k : ℕ) → by b (shift d f k) ≡ shift d (λ j. by b (f j)) k
by_shift b zero f k = refl
by_shift true (suc d) f zero = refl
by_shift false (suc d) f zero = refl
by_shift b (suc d) f (suc k) = by_shift b d f k

cons_one : (P : List ℤ) (neg : Bool) (m : List ℕ) (L : List (List ℕ)) (j : ℕ) → by neg (seeded (coefficient P) [] (m ∷ L) j)
    ≡ shift (degree m) (λ i. by (not neg) (seeded (coefficient P) [] (colon L m) i)) j +ℤ by neg (seeded (coefficient P) [] L j)
cons_one P neg m L j =
    ap (by neg) (seeded_cons (coefficient P) m L j)
    ∙ by_sub neg (seeded (coefficient P) [] L j) (shift (degree m) (seeded (coefficient P) [] (colon L m)) j)
    ∙ ap (λ (z : ℤ). z +ℤ by neg (seeded (coefficient P) [] L j)) (by_shift (not neg) (degree m) (seeded (coefficient P) [] (colon L m)) j)

pub cons_turn : (P : List ℤ) (s : ℕ) (neg : Bool) (m : List ℕ) (L : List (List ℕ)) (k : ℕ) → shift s (λ j. by neg (seeded (coefficient P) [] (m ∷ L) j)) k
    ≡ shift (s + degree m) (λ j. by (not neg) (seeded (coefficient P) [] (colon L m) j)) k +ℤ shift s (λ j. by neg (seeded (coefficient P) [] L j)) k
cons_turn P s neg m L k =
    shift_add s (λ j. by neg (seeded (coefficient P) [] (m ∷ L) j)) (shift (degree m) (λ j. by (not neg) (seeded (coefficient P) [] (colon L m) j))) (λ j. by neg (seeded (coefficient P) [] L j)) (cons_one P neg m L) k
    ∙ ap (λ (z : ℤ). z +ℤ shift s (λ j. by neg (seeded (coefficient P) [] L j)) k) (shift_shift s (degree m) (λ j. by (not neg) (seeded (coefficient P) [] (colon L m) j)) k)

-- a unit: the numerator is 0
unit_zero : (L : List (List ℕ)) → Unit L → (k : ℕ) → numerator_at L k ≡ pos 0
unit_zero L u k = numerator_over L k ∙ over_vanishes u.0 [] L k u.1 (unit_divides u.0 [] u.2)

pub unit_none : (n l : ℕ) (xs A : List ℕ) → Quotients n l xs l true A → (k : ℕ) → numerator_at (rows n l (take (length A - (l * n + n)) (drop (l * n + n) A))) k ≡ pos 0
unit_none n l xs A q k =
    ap (λ (T : List ℕ). numerator_at (rows n l T) k) (part_whole (l * n + n) A ∙ ap (λ (z : ℕ). drop z A) b)
    ∙ unit_zero (rows n l (drop ((l + 1) * n) A)) (q.one refl).0 k
  where
    b : l * n + n ≡ (l + 1) * n
    b = omega (arith, suc-mul l n, add-one l)

-- the quotients' numerator, whether all are written or one is 1
quotients_seeded : (P : List ℤ) (n l : ℕ) (xs A : List ℕ) (unit : Bool) → Quotients n l xs l unit A
    → (k : ℕ) → seeded (coefficient P) [] (colon (rows n l xs) (at n l xs)) k ≡ seeded (coefficient P) [] (rows n l (take (length A - (l * n + n)) (drop (l * n + n) A))) k
quotients_seeded P n l xs A true q k =
    seeded_none P (colon (rows n l xs) (at n l xs)) (unit_zero (colon (rows n l xs) (at n l xs)) (q.one refl).1) k
    ∙ sym (seeded_none P (rows n l (take (length A - (l * n + n)) (drop (l * n + n) A))) (unit_none n l xs A q) k)
quotients_seeded P n l xs A false q k =
    let b : l * n + n ≡ (l + 1) * n = omega (arith, suc-mul l n, add-one l) in
    ap (λ (L : List (List ℕ)). seeded (coefficient P) [] L k) (sym (ap (rows n l) (part_whole (l * n + n) A) ∙ ap (λ (z : ℕ). rows n l (drop z A)) b ∙ q.is refl))

pub few_turn : (P : List ℤ) (n l d s : ℕ) (neg unit : Bool) (xs A G : List ℕ) → (l + 1) * n + l * n ≤ length xs → d ≡ degree (take n (drop (l * n) xs)) → Quotients n l xs l unit A
    → length G ≡ length (take (length A - (l * n + n)) (drop (l * n + n) A))
    → (k : ℕ) → shift s (λ j. by neg (seeded (coefficient P) [] (rows n (l + 1) xs) j)) k
    ≡ shift (s + d) (λ j. by (not neg) (seeded (coefficient P) [] (rows n l (take (length A - (l * n + n)) (drop (l * n + n) A))) j)) k
    +ℤ shift s (λ j. by neg (seeded (coefficient P) [] (rows n l (put_mid (l * n + n) (length A - (l * n + n)) A G)) j)) k
few_turn P n l d s neg unit xs A G fits e q g k =
    ap (λ (L : List (List ℕ)). shift s (λ j. by neg (seeded (coefficient P) [] L j)) k) (rows_next n l xs)
    ∙ cons_turn P s neg (at n l xs) (rows n l xs) k
    ∙ ap₂ ◌+ℤ◌
    (shift_ext (s + degree (at n l xs)) (λ j. by (not neg) (seeded (coefficient P) [] (colon (rows n l xs) (at n l xs)) j)) (λ j. by (not neg) (seeded (coefficient P) [] Q j))
    (λ j. ap (by (not neg)) (quotients_seeded P n l xs A unit q j)) k
    ∙ ap (λ (z : ℕ). shift (s + z) (λ j. by (not neg) (seeded (coefficient P) [] Q j)) k) (sym e))
    (ap (λ (L : List (List ℕ)). shift s (λ j. by neg (seeded (coefficient P) [] L j)) k) (sym Z_is))
  where
    Z : List ℕ
    Z = put_mid (l * n + n) (length A - (l * n + n)) A G

    Q : List (List ℕ)
    Q = rows n l (take (length A - (l * n + n)) (drop (l * n + n) A))

    b : (l + 1) * n ≡ l * n + n
    b = omega (arith, suc-mul l n, add-one l)

    Z_is : rows n l Z ≡ rows n l xs
    Z_is =
        rows_ext n l Z xs (omega (arith, put_length (l * n + n) A G g, q.len, b)) (omega (arith, b))
        (λ j h. get_or-append (take (l * n + n) A) (G ++ drop (length A - (l * n + n)) (drop (l * n + n) A)) 0 j (rw (length-take-le (l * n + n) A (omega (arith, q.len, b))) (omega arith))
        ∙ get_or-take (l * n + n) A j 0 (omega arith)
        ∙ q.kept j (omega (arith, b)))

-- nothing is added
pub added_none : (P : List ℤ) (n m s : ℕ) (neg : Bool) (xs : List ℕ) (out : List ℤ) → ((k : ℕ) → numerator_at (rows n m xs) k ≡ pos 0) → AddedTo (shift s (λ k. by neg (seeded (coefficient P) [] (rows n m xs) k))) out out
added_none P n m s neg xs out h =
    record {
      len = refl;
      sums = λ k l. ap low (sym (+ℤ_idr (coefficient out k)) ∙ ap (λ (z : ℤ). coefficient out k +ℤ z) (sym (shift_ext s (λ j. by neg (seeded (coefficient P) [] (rows n m xs) j)) (λ j. pos 0) (λ j. ap (by neg) (seeded_none P (rows n m xs) h j) ∙ none neg) k ∙ zeros s k)));
      words = λ w. w;
    }
  where
    none : (b : Bool) → by b (pos 0) ≡ pos 0
    none true = refl
    none false = refl

    zeros : (e k : ℕ) → shift e (λ j. pos 0) k ≡ pos 0
    zeros zero k = refl
    zeros (suc e) zero = refl
    zeros (suc e) (suc k) = zeros e k

pub added_past : (s : ℕ) (f : ℕ → ℤ) (out : List ℤ) → length out ≤ s → AddedTo (shift s f) out out
added_past s f out h =
    record { len = refl; sums = λ k l. ap low (sym (+ℤ_idr (coefficient out k)) ∙ ap (λ (z : ℤ). coefficient out k +ℤ z) (sym (shift_below s k f (omega arith)))); words = λ w. w }

-- the cells that a turn wants: l + 1 rows, l quotients, and l * l for the recursion
pub few_room : (n m l z : ℕ) → l < m → m * m * n ≤ z → (l + 1) * n + l * l * n ≤ z
few_room n m l z h g = room_rest n m (l + 1) l z (omega arith) (omega arith) g

pub few_two : (n m l z : ℕ) → l < m → m * m * n ≤ z → (l + 1) * n + l * n ≤ z
few_two n m l z h g =
    let a = few_room n m l z h g in
    let b : l * n ≤ l * l * n = mul-le-mul_right n (square l) in
    omega arith

pub few_step : (P : List ℤ) (n l m d s : ℕ) (neg unit : Bool) (xs A G : List ℕ) → l + 1 ≡ m → (l + 1) * n + l * n ≤ length xs → d ≡ degree (take n (drop (l * n) xs)) → Quotients n l xs l unit A
    → length G ≡ length (take (length A - (l * n + n)) (drop (l * n + n) A))
    → (k : ℕ) → shift s (λ j. by neg (seeded (coefficient P) [] (rows n m xs) j)) k
    ≡ shift (s + d) (λ j. by (not neg) (seeded (coefficient P) [] (rows n l (take (length A - (l * n + n)) (drop (l * n + n) A))) j)) k
    +ℤ shift s (λ j. by neg (seeded (coefficient P) [] (rows n l (put_mid (l * n + n) (length A - (l * n + n)) A G)) j)) k
few_step P n l m d s neg unit xs A G h fits e q g k =
    ap (λ (z : ℕ). shift s (λ j. by neg (seeded (coefficient P) [] (rows n z xs) j)) k) (sym h) ∙ few_turn P n l d s neg unit xs A G fits e q g k

-- one monomial, two and three, by degrees
abbrev pub DegreeIs : ℕ → List ℕ → Type 0
DegreeIs d a = (d ≡ degree a) × (d ≤ 4294901760)

-- what is added in two steps
added_both : (f g h : ℕ → ℤ) (out mid new : List ℤ) → ((k : ℕ) → f k ≡ g k +ℤ h k) → AddedTo g out mid → AddedTo h mid new → AddedTo f out new
added_both f g h out mid new e u v = running_leaf f out h mid new v (running_more f out f g h out mid e u (running_none f out))

abbrev pub factor : List ℤ → ℕ → Bool → ℕ → ℤ
factor P d neg k = by neg (coefficient P k -ℤ shift d (coefficient P) k)

pub factor_sums : (P : List ℤ) (s d : ℕ) (neg : Bool) (out mid new : List ℤ) → AddedTo (shift s (λ k. by neg (coefficient P k))) out mid → AddedTo (shift (s + d) (λ k. by (not neg) (coefficient P k))) mid new
    → AddedTo (shift s (factor P d neg)) out new
factor_sums P s d neg out mid new = added_both (shift s (factor P d neg)) (shift s (λ k. by neg (coefficient P k))) (shift (s + d) (λ k. by (not neg) (coefficient P k))) out mid new turn
  where
    turn : (k : ℕ) → shift s (factor P d neg) k ≡ shift s (λ j. by neg (coefficient P j)) k +ℤ shift (s + d) (λ j. by (not neg) (coefficient P j)) k
    turn k =
        shift_add s (factor P d neg) (λ j. by neg (coefficient P j)) (shift d (λ j. by (not neg) (coefficient P j)))
        (λ j. by_sub neg (coefficient P j) (shift d (coefficient P) j) ∙ +ℤ_comm (by (not neg) (shift d (coefficient P) j)) (by neg (coefficient P j)) ∙ ap (λ (z : ℤ). by neg (coefficient P j) +ℤ z) (by_shift (not neg) d (coefficient P) j)) k
        ∙ ap (λ (z : ℤ). shift s (λ j. by neg (coefficient P j)) k +ℤ z) (shift_shift s d (λ j. by (not neg) (coefficient P j)) k)

pub single_sums : (P : List ℤ) (n s d : ℕ) (neg : Bool) (xs : List ℕ) (out new : List ℤ) → d ≡ degree (at n 0 xs) → AddedTo (shift s (factor P d neg)) out new
    → AddedTo (shift s (λ k. by neg (seeded (coefficient P) [] (rows n 1 xs) k))) out new
single_sums P n s d neg xs out new e a = rw (← e) a

abbrev pub pair : List ℤ → ℕ → ℕ → ℕ → Bool → ℕ → ℤ
pair P d e q neg k = shift e (factor P q (not neg)) k +ℤ factor P d neg k

pub pair_sums : (P : List ℤ) (s d e q : ℕ) (neg : Bool) (out mid new : List ℤ) → AddedTo (shift (s + e) (factor P q (not neg))) out mid → AddedTo (shift s (factor P d neg)) mid new
    → AddedTo (shift s (pair P d e q neg)) out new
pair_sums P s d e q neg out mid new =
    added_both (shift s (pair P d e q neg)) (shift (s + e) (factor P q (not neg))) (shift s (factor P d neg)) out mid new
    (λ k. shift_add s (pair P d e q neg) (shift e (factor P q (not neg))) (factor P d neg) (λ j. refl) k
    ∙ ap (λ (z : ℤ). z +ℤ shift s (factor P d neg) k) (shift_shift s e (factor P q (not neg)) k))

pair_is : (P : List ℤ) (neg : Bool) (a b : List ℕ) (d e q : ℕ) → d ≡ degree a → e ≡ degree b → q ≡ degree (quotient a b)
    → (k : ℕ) → by neg (seeded (coefficient P) [] (b ∷ a ∷ []) k) ≡ pair P d e q neg k
pair_is P neg a b d e q f g h k = rw (f, g, h) (cons_one P neg b (a ∷ []) k)

pub two_sums : (P : List ℤ) (n s d e q : ℕ) (neg : Bool) (xs : List ℕ) (out new : List ℤ) → d ≡ degree (at n 0 xs) → e ≡ degree (at n 1 xs) → q ≡ degree (quotient (at n 0 xs) (at n 1 xs))
    → AddedTo (shift s (pair P d e q neg)) out new → AddedTo (shift s (λ k. by neg (seeded (coefficient P) [] (rows n 2 xs) k))) out new
two_sums P n s d e q neg xs out new f g h a =
    record {
      len = a.len;
      sums = λ k l. a.sums k l ∙ ap (λ (z : ℤ). low (coefficient out k +ℤ z)) (sym (shift_ext s (λ j. by neg (seeded (coefficient P) [] (rows n 2 xs) j)) (pair P d e q neg) (pair_is P neg (at n 0 xs) (at n 1 xs) d e q f g h) k));
      words = a.words;
    }

-- the third monomial, then what it leaves of the first two
pub three_sums : (P : List ℤ) (n s : ℕ) (neg : Bool) (xs : List ℕ) (d e q c d' e' q' : ℕ) (out mid new : List ℤ) → d ≡ degree (at n 0 xs) → e ≡ degree (at n 1 xs) → q ≡ degree (quotient (at n 0 xs) (at n 1 xs))
    → c ≡ degree (at n 2 xs) → d' ≡ degree (quotient (at n 0 xs) (at n 2 xs)) → e' ≡ degree (quotient (at n 1 xs) (at n 2 xs))
    → q' ≡ degree (quotient (quotient (at n 0 xs) (at n 2 xs)) (quotient (at n 1 xs) (at n 2 xs)))
    → AddedTo (shift (s + c) (pair P d' e' q' (not neg))) out mid → AddedTo (shift s (pair P d e q neg)) mid new
    → AddedTo (shift s (λ k. by neg (seeded (coefficient P) [] (rows n 3 xs) k))) out new
three_sums P n s neg xs d e q c d' e' q' out mid new fd fe fq fc gd ge gq =
    added_both (shift s (λ k. by neg (seeded (coefficient P) [] (rows n 3 xs) k))) (shift (s + c) (pair P d' e' q' (not neg))) (shift s (pair P d e q neg)) out mid new
    (λ k. cons_turn P s neg z (y ∷ x ∷ []) k
    ∙ ap₂ ◌+ℤ◌
    (shift_ext (s + degree z) (λ j. by (not neg) (seeded (coefficient P) [] (colon (y ∷ x ∷ []) z) j)) (pair P d' e' q' (not neg)) (pair_is P (not neg) (quotient x z) (quotient y z) d' e' q' gd ge gq) k
    ∙ ap (λ (t : ℕ). shift (s + t) (pair P d' e' q' (not neg)) k) (sym fc))
    (shift_ext s (λ j. by neg (seeded (coefficient P) [] (y ∷ x ∷ []) j)) (pair P d e q neg) (pair_is P neg x y d e q fd fe fq) k))
  where
    x : List ℕ
    x = at n 0 xs

    y : List ℕ
    y = at n 1 xs

    z : List ℕ
    z = at n 2 xs
