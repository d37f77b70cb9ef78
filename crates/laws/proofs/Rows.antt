-- The monomials that lie flat in a list of cells, width n: number i has the n cells from i · n.
--   at n i xs            == monomial number i of the cells xs
--   rows n k xs          == the first k of them, the last first
--   Hits n k xs u        == a monomial of the first k that divides u, by its number
--   Wrote xs f to n ys   == ys is xs with f 0, .., f (n − 1) written in the n cells from `to`
--   axis v e             == variable v to the e, written out in v + 1 variables
-- In this file:
--   at_ext, rows_ext, rows_within      rows by their cells, and their width
--   hits, hit                          a multiple of the rows is a multiple of one by its number
--   wrote_none, wrote_more, wrote_read a loop that writes a run of cells
--   row_kept, row_copied               the rows after one of them was written
--   axis-..                            the exponents, degree, multiples and quotient of a power
--   divides_cells                      what a monomial divides depends on its exponents alone
--   filled                             a loop that writes zeros
--   degree_drop, degree_end            the degree, cell by cell
--   divides_step, divides_stop, divides_end   the test, cell by cell
--   part_is, part_len                  a part that is lent, `&room[a..a + n]`
use mathlib.Core.Path.{◌≡◌, refl, sym, ap, ap₂, ◌∙◌}
use mathlib.Core.Logic.{◌⊎◌, inl, inr, ◌≢◌}
use mathlib.Core.Bool.{Bool, true, false, ◌&&◌, ◌||◌, false≢true}
use mathlib.Core.List.{List, [], ◌∷◌, ◌++◌, append-nil}
use Prim.Native.Nat.{ℕ, zero, suc, ◌+◌, ◌*◌, ◌-◌, ◌≤◌, ◌<◌}
use native.Mathlib.Omega.{arith}
use native.Mathlib.Nat.{mul-le-mul_right, suc-mul}
use native.Mathlib.Numerals.{add-one}
use lib.Dec.{leb, ltb, eqb}
use lib.ListN.{drop_of_length-le, length, replicate, length-take, length-drop, take, drop, get_or, set, length-set}
use lib.Seq.{drop-cons, get_or-take, get_or-drop, ext_get_or, get_or-set_same, get_or-set_other}
use borrow.Author.Tests.{le-leb, lt-leb, ltb-true, ltb-false, eqb-true, eqb-false}
use Rattle.laws.specs.Monomial.{degree, divides, quotient}
use Rattle.laws.specs.Ideal.{Within, multiple}
use Rattle.laws.proofs.Monomial.{or_right, bool_ext, cons_eq, divides_exponent, exponents_divide}
use Rattle.laws.proofs.Ideal.{within_cons}

abbrev pub at : ℕ → ℕ → List ℕ → List ℕ
at n i xs = take n (drop (i * n) xs)

abbrev pub rows : ℕ → ℕ → List ℕ → List (List ℕ)
rows n zero xs = []
rows n (suc k) xs = at n k xs ∷ rows n k xs

-- the cells of number i of k are below k * n
pub row_end : (n k i : ℕ) → i < k → i * n + n ≤ k * n
row_end n k i h = omega (arith, mul-le-mul_right n h, suc-mul i n)

pub at_length : (n k i : ℕ) (xs : List ℕ) → i < k → k * n ≤ length xs → length (at n i xs) ≡ n
at_length n k i xs h g = simp (length-take, length-drop) (omega (arith, row_end n k i h))

pub at_cell : (n i j : ℕ) (xs : List ℕ) → j < n → get_or (at n i xs) j 0 ≡ get_or xs (i * n + j) 0
at_cell n i j xs h = rw (get_or-take, get_or-drop)

-- by cells
pub at_ext : (n i : ℕ) (xs ys : List ℕ) (a : ℕ) → i * n + n ≤ length xs → a + n ≤ length ys → ((j : ℕ) → j < n → get_or xs (i * n + j) 0 ≡ get_or ys (a + j) 0) → at n i xs ≡ take n (drop a ys)
at_ext n i xs ys a h g e =
    ext_get_or 0 (at n i xs) (take n (drop a ys)) (l ∙ sym r)
    (λ j q. let p : j < n = omega (arith, l) in get_or-take n (drop (i * n) xs) j 0 p ∙ get_or-drop (i * n) xs j 0 ∙ e j p ∙ sym (get_or-take n (drop a ys) j 0 p ∙ get_or-drop a ys j 0))
  where
    l : length (at n i xs) ≡ n
    l = simp (length-take, length-drop) (omega arith)

    r : length (take n (drop a ys)) ≡ n
    r = simp (length-take, length-drop) (omega arith)

pub rows_ext : (n k : ℕ) (xs ys : List ℕ) → k * n ≤ length xs → k * n ≤ length ys → ((j : ℕ) → j < k * n → get_or xs j 0 ≡ get_or ys j 0) → rows n k xs ≡ rows n k ys
rows_ext n zero xs ys h g e = refl
rows_ext n (suc k) xs ys h g e =
    let s = suc-mul k n in
    ap₂ {C = List (List ℕ)} ◌∷◌
    (at_ext n k xs ys (k * n) (omega (arith, s)) (omega (arith, s)) (λ j q. e (k * n + j) (omega (arith, s))))
    (rows_ext n k xs ys (omega (arith, s)) (omega (arith, s)) (λ j q. e j (omega (arith, s))))

pub rows_next : (n i : ℕ) (xs : List ℕ) → rows n (i + 1) xs ≡ at n i xs ∷ rows n i xs
rows_next n i xs = rw (add-one i)

pub rows_within : (n k : ℕ) (xs : List ℕ) → Within n (rows n k xs)
rows_within n zero xs = λ m i. absurd i
rows_within n (suc k) xs = within_cons n (at n k xs) (rows n k xs) (simp length-take (omega arith)) (rows_within n k xs)

-- a multiple of one of the rows, by its number
unfoldable pub Hits : ℕ → ℕ → List ℕ → List ℕ → Type 0
Hits n k xs u = (i : ℕ) × (i < k) × (divides (at n i xs) u ≡ true)

or_left : (a b : Bool) → a ≡ true → (a || b) ≡ true
or_left true b h = refl
or_left false b h = cc

hits_cons : (n k : ℕ) (xs u : List ℕ) → (multiple (rows n k xs) u ≡ true → Hits n k xs u) → (t : Bool) → divides (at n k xs) u ≡ t → (t || multiple (rows n k xs) u) ≡ true → Hits n (suc k) xs u
unfolding Hits
hits_cons n k xs u f true p q = (k, omega arith, p)
hits_cons n k xs u f false p q = let r = f q in (r.0, (let l = r.1 in omega arith), r.2)

pub hits : (n k : ℕ) (xs u : List ℕ) → multiple (rows n k xs) u ≡ true → Hits n k xs u
hits n zero xs u h = absurd (false≢true h)
hits n (suc k) xs u h = hits_cons n k xs u (hits n k xs u) (divides (at n k xs) u) refl h

hit_cons : (n k i : ℕ) (xs u : List ℕ) → i < suc k → divides (at n i xs) u ≡ true → (i < k → multiple (rows n k xs) u ≡ true) → (t : Bool) → eqb i k ≡ t → multiple (rows n (suc k) xs) u ≡ true
hit_cons n k i xs u h e f true p = or_left (divides (at n k xs) u) (multiple (rows n k xs) u) (ap (λ (z : ℕ). divides (at n z xs) u) (sym (eqb-true i k p)) ∙ e)
hit_cons n k i xs u h e f false p = or_right (divides (at n k xs) u) (multiple (rows n k xs) u) (f (omega (arith, eqb-false i k p)))

pub hit : (n k i : ℕ) (xs u : List ℕ) → i < k → divides (at n i xs) u ≡ true → multiple (rows n k xs) u ≡ true
hit n zero i xs u h e = absurd (omega arith)
hit n (suc k) i xs u h e = hit_cons n k i xs u h e (λ l. hit n k i xs u l e) (eqb i k) refl

-- a run of n cells from `to` is written
pub record Wrote (xs : List ℕ) (f : ℕ → ℕ) (to n : ℕ) (ys : List ℕ) : Type 0 where
  pub len : length ys ≡ length xs
  pub there : (j : ℕ) → j < n → get_or ys (to + j) 0 ≡ f j
  pub other : (k : ℕ) → (k < to) ⊎ (to + n ≤ k) → get_or ys k 0 ≡ get_or xs k 0

pub wrote_none : (xs : List ℕ) (f : ℕ → ℕ) (to : ℕ) → Wrote xs f to 0 xs
wrote_none xs f to = record { len = refl; there = λ j h. absurd (omega arith); other = λ k h. refl }

pub wrote_more : (xs : List ℕ) (f : ℕ → ℕ) (to i y : ℕ) (ys : List ℕ) → to + i < length xs → y ≡ f i → Wrote xs f to i ys → Wrote xs f to (i + 1) (set ys (to + i) y)
wrote_more xs f to i y ys h e w =
    record {
      len = length-set ys (to + i) y ∙ w.len;
      there = λ j l. go j l (eqb j i) refl;
      other = λ k l. get_or-set_other ys (to + i) k y 0 (far k l) ∙ w.other k (more k l);
    }
  where
    far : (k : ℕ) → (k < to) ⊎ (to + (i + 1) ≤ k) → k ≢ to + i
    far k (inl l) q = omega arith
    far k (inr l) q = omega arith

    more : (k : ℕ) → (k < to) ⊎ (to + (i + 1) ≤ k) → (k < to) ⊎ (to + i ≤ k)
    more k (inl l) = inl l
    more k (inr l) = inr (omega arith)

    go : (j : ℕ) → j < i + 1 → (t : Bool) → eqb j i ≡ t → get_or (set ys (to + i) y) (to + j) 0 ≡ f j
    go j l true q =
        let r : j ≡ i = eqb-true j i q in
        rw r (get_or-set_same ys (to + i) y 0 (omega (arith, w.len)) ∙ e)
    go j l false q = get_or-set_other ys (to + i) (to + j) y 0 (λ r. eqb-false j i q (omega arith)) ∙ w.there j (omega (arith, eqb-false j i q))

-- what is read where nothing was written
pub wrote_read : (xs : List ℕ) (f : ℕ → ℕ) (to i from n : ℕ) (ys : List ℕ) → i < n → (to ≤ from) ⊎ (from + n ≤ to) → Wrote xs f to i ys → get_or ys (from + i) 0 ≡ get_or xs (from + i) 0
wrote_read xs f to i from n ys h (inl l) w = w.other (from + i) (inr (omega arith))
wrote_read xs f to i from n ys h (inr l) w = w.other (from + i) (inl (omega arith))

-- the rows after a row was written
pub apart : (n i j t : ℕ) → j ≢ i → t < n → (j * n + t < i * n) ⊎ (i * n + n ≤ j * n + t)
apart n i j t h l = go (ltb j i) refl
  where
    go : (b : Bool) → ltb j i ≡ b → (j * n + t < i * n) ⊎ (i * n + n ≤ j * n + t)
    go true p = inl (omega (arith, row_end n i j (ltb-true j i p)))
    go false p = inr (omega (arith, row_end n j i (omega (arith, ltb-false j i p))))

pub row_kept : (n i j k : ℕ) (xs ys : List ℕ) (f : ℕ → ℕ) → j < k → k * n ≤ length xs → j ≢ i → Wrote xs f (i * n) n ys → at n j ys ≡ at n j xs
row_kept n i j k xs ys f h g d w =
    at_ext n j ys xs (j * n) (omega (arith, row_end n k j h, w.len)) (omega (arith, row_end n k j h)) (λ t l. w.other (j * n + t) (apart n i j t d l))

pub row_copied : (n i j k : ℕ) (xs ys : List ℕ) → i < k → j < k → k * n ≤ length xs → Wrote xs (λ t. get_or xs (j * n + t) 0) (i * n) n ys → at n i ys ≡ at n j xs
row_copied n i j k xs ys hi hj g w =
    at_ext n i ys xs (j * n) (omega (arith, row_end n k i hi, w.len)) (omega (arith, row_end n k j hj)) w.there

-- x_v^e
abbrev pub axis : ℕ → ℕ → List ℕ
axis zero e = e ∷ []
axis (suc v) e = 0 ∷ axis v e

pub axis_same : (v e : ℕ) → get_or (axis v e) v 0 ≡ e
axis_same zero e = refl
axis_same (suc v) e = axis_same v e

pub axis_other : (v e j : ℕ) → j ≢ v → get_or (axis v e) j 0 ≡ 0
axis_other zero e zero h = absurd (h refl)
axis_other zero e (suc j) h = refl
axis_other (suc v) e zero h = refl
axis_other (suc v) e (suc j) h = axis_other v e j (omega arith)

pub axis_degree : (v e : ℕ) → degree (axis v e) ≡ e
axis_degree zero e = omega arith
axis_degree (suc v) e = omega (arith, axis_degree v e)

pub axis_length : (v e : ℕ) → length (axis v e) ≡ suc v
axis_length zero e = refl
axis_length (suc v) e = ap suc (axis_length v e)

pub axis_divides : (v e : ℕ) (u : List ℕ) → e ≤ get_or u v 0 → divides (axis v e) u ≡ true
axis_divides zero e [] h = ap₂ ◌&&◌ (le-leb e 0 h) refl
axis_divides zero e (x ∷ u) h = ap₂ ◌&&◌ (le-leb e x h) refl
axis_divides (suc v) e [] h = ap₂ ◌&&◌ (le-leb 0 0 (omega arith)) (axis_divides v e [] h)
axis_divides (suc v) e (x ∷ u) h = ap₂ ◌&&◌ (le-leb 0 x (omega arith)) (axis_divides v e u h)

pub axis_quotient : (v e : ℕ) (a : List ℕ) → quotient a (axis v e) ≡ set a v (get_or a v 0 - e)
axis_quotient zero e [] = refl
axis_quotient zero e (x ∷ a) = refl
axis_quotient (suc v) e [] = refl
axis_quotient (suc v) e (x ∷ a) = cons_eq (omega arith) (axis_quotient v e a)

-- a monomial's multiples go by its exponents
pub divides_cells : (a b u : List ℕ) → ((j : ℕ) → get_or a j 0 ≡ get_or b j 0) → divides a u ≡ divides b u
divides_cells a b u e =
    bool_ext (divides a u) (divides b u)
    (λ h. exponents_divide b u (λ v. omega (arith, e v, divides_exponent a u h v)))
    (λ h. exponents_divide a u (λ v. omega (arith, e v, divides_exponent b u h v)))

pub degree_drop : (a : List ℕ) (i : ℕ) → i < length a → degree (drop i a) ≡ get_or a i 0 + degree (drop (i + 1) a)
degree_drop a i h = rw (add-one i) (ap degree (drop-cons a i 0 h))

pub degree_end : (a : List ℕ) (i : ℕ) → length a ≤ i → degree (drop i a) ≡ 0
degree_end a i h = ap degree (drop_of_length-le a h)

-- a part that is lent, `&room[a..a + n]`
pub part_is : (n a : ℕ) (xs : List ℕ) → take (a + n - a) (drop a xs) ≡ take n (drop a xs)
part_is n a xs = let f : a + n - a ≡ n = omega arith in ap (λ (z : ℕ). take z (drop a xs)) f

pub part_len : (n k i : ℕ) (xs : List ℕ) → i < k → k * n ≤ length xs → length (take (i * n + n - i * n) (drop (i * n) xs)) ≡ n
part_len n k i xs h g = ap length (part_is n (i * n) xs) ∙ at_length n k i xs h g

-- divides, cell by cell: what is left of the two decides

divides_from : (a b : List ℕ) (i : ℕ) → i < length a → i < length b → divides (drop i a) (drop i b) ≡ (leb (get_or a i 0) (get_or b i 0) && divides (drop (i + 1) a) (drop (i + 1) b))
divides_from a b i h g = rw (add-one i) (ap₂ divides (drop-cons a i 0 h) (drop-cons b i 0 g))

pub divides_step : (a b : List ℕ) (i : ℕ) → i < length a → i < length b → get_or a i 0 ≤ get_or b i 0 → divides a b ≡ divides (drop i a) (drop i b) → divides a b ≡ divides (drop (i + 1) a) (drop (i + 1) b)
divides_step a b i h g l e = e ∙ divides_from a b i h g ∙ rw (le-leb (get_or a i 0) (get_or b i 0) l)

pub divides_stop : (a b : List ℕ) (i : ℕ) → i < length a → i < length b → get_or b i 0 < get_or a i 0 → divides a b ≡ divides (drop i a) (drop i b) → false ≡ divides a b
divides_stop a b i h g l e = sym (e ∙ divides_from a b i h g ∙ rw (lt-leb (get_or a i 0) (get_or b i 0) l))

pub divides_end : (a b : List ℕ) (i : ℕ) → length a ≤ i → divides a b ≡ divides (drop i a) (drop i b) → true ≡ divides a b
divides_end a b i h e = sym (e ∙ ap (λ (z : List ℕ). divides z (drop i b)) (drop_of_length-le a h))

-- a loop that writes zeros has written them all
pub filled : (i : ℕ) (xs ys : List ℕ) → i ≤ length xs → length xs ≤ i → ys ≡ replicate i 0 ++ drop i xs → ys ≡ replicate (length xs) 0
filled i xs ys h g e =
    let f : i ≡ length xs = omega arith in
    e ∙ ap (λ (zs : List ℕ). replicate i 0 ++ zs) (drop_of_length-le xs g) ∙ append-nil (replicate i 0) ∙ ap (λ (z : ℕ). replicate z 0) f
