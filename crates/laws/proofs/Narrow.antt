-- A list written without the variables that no monomial has: its numerator is the same.
--   keep us m                 == the exponents of m at the variables where us is not 0
--   Marks us m                == where us is 0, m is 0
--   Placing us v ps w         == the first w of ps are the places below v at which us is not 0
--   Kept n w ps cells xs i ys == ys is as long as xs and has at its front of each of the first i monomials of the cells the exponents at the first w of ps
--   Narrowed n s cells xs w ys == at the front of ys lie s monomials of width w with the numerator of the s in the cells
-- In this file:
--   keep_degree, keep_quotient, keep_numerator   what is kept where us marks all
--   placing_none, placing_on, placing_past, kept_none, kept_more   the loops
--   narrowed_copy, narrowed_kept                 what the two ways to write the list leave
use mathlib.Core.Path.{◌≡◌, refl, sym, ap, ap₂, ◌∙◌}
use mathlib.Core.Logic.{inl, inr, ◌≢◌}
use mathlib.Core.Bool.{Bool, true, false}
use mathlib.Core.List.{List, [], ◌∷◌, map}
use Prim.Native.Nat.{ℕ, zero, suc, ◌+◌, ◌*◌, ◌≤◌, ◌<◌}
use native.Mathlib.Omega.{arith}
use native.Mathlib.Nat.{mul-le-mul_left}
use native.Mathlib.Numerals.{add-one}
use lib.Dec.{eqb, ltb}
use lib.ListN.{length, drop, get_or, set, get_or-eq_default}
use lib.Seq.{drop-cons, drop-drop, drop-length, ext_get_or, get_or-drop, get_or-set_same, get_or-set_other}
use lib.IntN.{◌-ℤ◌}
use borrow.Author.Tests.{ltb-true, ltb-false, eqb-true, eqb-false}
use Rattle.laws.specs.Monomial.{degree, quotient}
use Rattle.laws.specs.Ideal.{listed, In, Width, colon}
use Rattle.laws.specs.Coefficients.{shift}
use Rattle.laws.specs.Numerator.{numerator_at}
use Rattle.laws.proofs.Monomial.{cons_eq, length_quotient}
use Rattle.laws.proofs.Ideal.{in_colon, listed_within}
use Rattle.laws.proofs.Coefficients.{shift_ext}
use Rattle.laws.proofs.Numerator.{numerator_cons}
use Rattle.laws.proofs.Counting.{numerator_same}
use Rattle.laws.proofs.Few.{quotient_cell}
use Rattle.laws.proofs.Rows.{at, rows, rows_ext, rows_within, at_cell, at_length, apart, Wrote}
use Rattle.laws.proofs.Exact.{rows_same}
use Rattle.laws.proofs.Columns.{Joined, joined_zero}

abbrev pub keep : List ℕ → List ℕ → List ℕ
keep [] m = []
keep (u ∷ us) [] = []
keep (zero ∷ us) (x ∷ m) = keep us m
keep (suc u ∷ us) (x ∷ m) = x ∷ keep us m

abbrev pub Marks : List ℕ → List ℕ → Type 0
Marks us m = (j : ℕ) → get_or us j 0 ≡ 0 → get_or m j 0 ≡ 0

degree_none : (m : List ℕ) → ((j : ℕ) → get_or m j 0 ≡ 0) → degree m ≡ 0
degree_none [] h = refl
degree_none (x ∷ m) h = omega (arith, h 0, degree_none m (λ j. h (suc j)))

pub keep_degree : (us m : List ℕ) → Marks us m → degree (keep us m) ≡ degree m
keep_degree [] m h = sym (degree_none m (λ j. h j refl))
keep_degree (u ∷ us) [] h = refl
keep_degree (zero ∷ us) (x ∷ m) h = omega (arith, h 0 refl, keep_degree us m (λ j. h (suc j)))
keep_degree (suc u ∷ us) (x ∷ m) h = ap (λ (z : ℕ). x + z) (keep_degree us m (λ j. h (suc j)))

pub keep_quotient : (us a b : List ℕ) → length a ≡ length b → quotient (keep us a) (keep us b) ≡ keep us (quotient a b)
keep_quotient [] a b e = refl
keep_quotient (u ∷ us) [] [] e = refl
keep_quotient (u ∷ us) [] (y ∷ b) e = absurd (omega arith)
keep_quotient (u ∷ us) (x ∷ a) [] e = absurd (omega arith)
keep_quotient (zero ∷ us) (x ∷ a) (y ∷ b) e = keep_quotient us a b (omega arith)
keep_quotient (suc u ∷ us) (x ∷ a) (y ∷ b) e = cons_eq refl (keep_quotient us a b (omega arith))

-- lists of one width, all marked
keep_colon : (n : ℕ) (us : List ℕ) (L : List (List ℕ)) (p : List ℕ) → Width n L → length p ≡ n → colon (map (keep us) L) (keep us p) ≡ map (keep us) (colon L p)
keep_colon n us [] p w e = refl
keep_colon n us (m ∷ L) p w e =
    ap₂ {C = List (List ℕ)} ◌∷◌ (keep_quotient us m p (w m (inl refl) ∙ sym e)) (keep_colon n us L p (λ a i. w a (inr i)) e)

colon_length : (L : List (List ℕ)) (p : List ℕ) → length (colon L p) ≡ length L
colon_length [] p = refl
colon_length (m ∷ L) p = ap suc (colon_length L p)

colon_width : (n : ℕ) (L : List (List ℕ)) (p : List ℕ) → Width n L → Width n (colon L p)
colon_width n L p w a i = let r = in_colon L p a i in ap length r.2 ∙ length_quotient r.0 p ∙ w r.0 r.1

colon_marked : (us : List ℕ) (L : List (List ℕ)) (p : List ℕ) → ((m : List ℕ) → In m L → Marks us m) → (m : List ℕ) → In m (colon L p) → Marks us m
colon_marked us L p h a i j e =
    let r = in_colon L p a i in
    ap (λ (m : List ℕ). get_or m j 0) r.2 ∙ omega (arith, quotient_cell r.0 p j, h r.0 r.1 j e)

-- what is kept of each list of s monomials has its numerator
abbrev Keeps : ℕ → List ℕ → ℕ → Type 0
Keeps n us s = (L : List (List ℕ)) → length L ≡ s → Width n L → ((m : List ℕ) → In m L → Marks us m) → (k : ℕ) → numerator_at (map (keep us) L) k ≡ numerator_at L k

keeps_none : (n : ℕ) (us : List ℕ) → Keeps n us 0
keeps_none n us [] e w h k = refl
keeps_none n us (m ∷ L) e w h k = absurd (omega arith)

keeps_more : (n : ℕ) (us : List ℕ) (s : ℕ) → Keeps n us s → Keeps n us (suc s)
keeps_more n us s f [] e w h k = absurd (omega arith)
keeps_more n us s f (m ∷ L) e w h k =
    numerator_cons (keep us m) (map (keep us) L) k
    ∙ ap₂ ◌-ℤ◌ (f L (omega arith) width marked k)
    (ap (λ (d : ℕ). shift d (numerator_at (colon (map (keep us) L) (keep us m))) k) (keep_degree us m (h m (inl refl)))
    ∙ shift_ext (degree m) (numerator_at (colon (map (keep us) L) (keep us m))) (numerator_at (colon L m)) there k)
    ∙ sym (numerator_cons m L k)
  where
    width : Width n L
    width a i = w a (inr i)

    marked : (a : List ℕ) → In a L → Marks us a
    marked a i = h a (inr i)

    there : (j : ℕ) → numerator_at (colon (map (keep us) L) (keep us m)) j ≡ numerator_at (colon L m) j
    there j =
        ap (λ (K : List (List ℕ)). numerator_at K j) (keep_colon n us L m width (w m (inl refl)))
        ∙ f (colon L m) (colon_length L m ∙ omega arith) (colon_width n L m width) (colon_marked us L m marked) j

keeps : (n : ℕ) (us : List ℕ) (s : ℕ) → Keeps n us s
keeps n us zero = keeps_none n us
keeps n us (suc s) = keeps_more n us s (keeps n us s)

pub keep_numerator : (n : ℕ) (us : List ℕ) (L : List (List ℕ)) → Width n L → ((m : List ℕ) → In m L → Marks us m) → (k : ℕ) → numerator_at (map (keep us) L) k ≡ numerator_at L k
keep_numerator n us L = keeps n us (length L) L refl

-- the places of the variables that some monomial has
pub record Placing (us : List ℕ) (v : ℕ) (ps : List ℕ) (w : ℕ) : Type 0 where
  pub most : w ≤ v
  pub below : (j : ℕ) → j < w → get_or ps j 0 < v
  pub ahead : (m : List ℕ) → length m ≡ length us → drop w (keep us m) ≡ keep (drop v us) (drop v m)
  pub count : (m : List ℕ) → length m ≡ length us → w + length (keep (drop v us) (drop v m)) ≡ length (keep us m)
  pub picks : (m : List ℕ) → length m ≡ length us → (j : ℕ) → j < w → get_or m (get_or ps j 0) 0 ≡ get_or (keep us m) j 0

keep_cons : (u x : ℕ) (us m : List ℕ) → 0 < u → keep (u ∷ us) (x ∷ m) ≡ x ∷ keep us m
keep_cons zero x us m h = absurd (omega arith)
keep_cons (suc u) x us m h = refl

keep_zero : (u x : ℕ) (us m : List ℕ) → u ≡ 0 → keep (u ∷ us) (x ∷ m) ≡ keep us m
keep_zero zero x us m h = refl
keep_zero (suc u) x us m h = absurd (omega arith)

from : (us m : List ℕ) (v : ℕ) → v < length us → length m ≡ length us → keep (drop v us) (drop v m) ≡ keep (get_or us v 0 ∷ drop (v + 1) us) (get_or m v 0 ∷ drop (v + 1) m)
from us m v h e = rw (add-one v) (ap₂ keep (drop-cons us v 0 h) (drop-cons m v 0 (omega arith)))

on : (us m : List ℕ) (v : ℕ) → v < length us → length m ≡ length us → 0 < get_or us v 0 → keep (drop v us) (drop v m) ≡ get_or m v 0 ∷ keep (drop (v + 1) us) (drop (v + 1) m)
on us m v h e g = from us m v h e ∙ keep_cons (get_or us v 0) (get_or m v 0) (drop (v + 1) us) (drop (v + 1) m) g

past : (us m : List ℕ) (v : ℕ) → v < length us → length m ≡ length us → get_or us v 0 ≡ 0 → keep (drop v us) (drop v m) ≡ keep (drop (v + 1) us) (drop (v + 1) m)
past us m v h e g = from us m v h e ∙ keep_zero (get_or us v 0) (get_or m v 0) (drop (v + 1) us) (drop (v + 1) m) g

pub placing_none : (us ps : List ℕ) → Placing us 0 ps 0
placing_none us ps =
    record { most = omega arith; below = λ j h. absurd (omega arith); ahead = λ m e. refl; count = λ m e. omega arith; picks = λ m e j h. absurd (omega arith) }

pub placing_past : (us : List ℕ) (v : ℕ) (ps : List ℕ) (w y : ℕ) → v < length us → get_or us v 0 ≡ 0 → Placing us v ps w → Placing us (v + 1) (set ps w y) w
placing_past us v ps w y h g p =
    record {
      most = omega (arith, p.most);
      below = λ j l. omega (arith, p.below j l, same j l);
      ahead = λ m e. p.ahead m e ∙ past us m v h e g;
      count = λ m e. ap (λ (K : List ℕ). w + length K) (sym (past us m v h e g)) ∙ p.count m e;
      picks = λ m e j l. ap (λ (k : ℕ). get_or m k 0) (same j l) ∙ p.picks m e j l;
    }
  where
    same : (j : ℕ) → j < w → get_or (set ps w y) j 0 ≡ get_or ps j 0
    same j l = get_or-set_other ps w j y 0 (omega arith)

pub placing_on : (us : List ℕ) (v : ℕ) (ps : List ℕ) (w : ℕ) → v < length us → length us ≤ length ps → 0 < get_or us v 0 → Placing us v ps w → Placing us (v + 1) (set ps w v) (w + 1)
placing_on us v ps w h r g p =
    record {
      most = omega (arith, p.most);
      below = λ j l. under j l (eqb j w) refl;
      ahead = λ m e. sym (drop-drop 1 w (keep us m)) ∙ ap (drop 1) (p.ahead m e ∙ on us m v h e g);
      count = λ m e. omega (arith, ap length (on us m v h e g), p.count m e);
      picks = λ m e j l. pick m e j l (eqb j w) refl;
    }
  where
    there : get_or (set ps w v) w 0 ≡ v
    there = get_or-set_same ps w v 0 (omega (arith, p.most))

    same : (j : ℕ) → j < w + 1 → j ≢ w → get_or (set ps w v) j 0 ≡ get_or ps j 0
    same j l d = get_or-set_other ps w j v 0 d

    under : (j : ℕ) → j < w + 1 → (b : Bool) → eqb j w ≡ b → get_or (set ps w v) j 0 < v + 1
    under j l true q = rw (eqb-true j w q) (omega (arith, there))
    under j l false q = omega (arith, same j l (eqb-false j w q), p.below j (omega (arith, eqb-false j w q)))

    -- the next one kept
    next : (m : List ℕ) → length m ≡ length us → get_or m v 0 ≡ get_or (keep us m) w 0
    next m e =
        let f : w + 0 ≡ w = omega arith in
        sym (ap (λ (K : List ℕ). get_or K 0 0) (p.ahead m e ∙ on us m v h e g)) ∙ get_or-drop w (keep us m) 0 0 ∙ ap (λ (k : ℕ). get_or (keep us m) k 0) f

    pick : (m : List ℕ) → length m ≡ length us → (j : ℕ) → j < w + 1 → (b : Bool) → eqb j w ≡ b → get_or m (get_or (set ps w v) j 0) 0 ≡ get_or (keep us m) j 0
    pick m e j l true q = rw (eqb-true j w q) (ap (λ (k : ℕ). get_or m k 0) there ∙ next m e)
    pick m e j l false q =
        ap (λ (k : ℕ). get_or m k 0) (same j l (eqb-false j w q)) ∙ p.picks m e j (omega (arith, eqb-false j w q))

-- the monomials, written one after another
pub record Kept (n w : ℕ) (ps cells xs : List ℕ) (i : ℕ) (ys : List ℕ) : Type 0 where
  pub len : length ys ≡ length xs
  pub done : (t j : ℕ) → t < i → j < w → get_or ys (t * w + j) 0 ≡ get_or (at n t cells) (get_or ps j 0) 0

pub kept_none : (n w : ℕ) (ps cells xs : List ℕ) → Kept n w ps cells xs 0 xs
kept_none n w ps cells xs = record { len = refl; done = λ t j h. absurd (omega arith) }

pub kept_more : (n w : ℕ) (ps cells xs : List ℕ) (i : ℕ) (ys zs m : List ℕ) → m ≡ at n i cells → Wrote ys (λ j. get_or m (get_or ps j 0) 0) (i * w) w zs → Kept n w ps cells xs i ys → Kept n w ps cells xs (i + 1) zs
kept_more n w ps cells xs i ys zs m p o k =
    record {
      len = o.len ∙ k.len;
      done = λ t j h l. go t j h l (eqb t i) refl;
    }
  where
    go : (t j : ℕ) → t < i + 1 → j < w → (b : Bool) → eqb t i ≡ b → get_or zs (t * w + j) 0 ≡ get_or (at n t cells) (get_or ps j 0) 0
    go t j h l true q = rw (eqb-true t i q) (o.there j l ∙ ap (λ (y : List ℕ). get_or y (get_or ps j 0) 0) p)
    go t j h l false q =
        o.other (t * w + j) (apart w i t j (eqb-false t i q) l) ∙ k.done t j (omega (arith, eqb-false t i q)) l

-- the list as it is then
pub record Narrowed (n s : ℕ) (cells xs : List ℕ) (w : ℕ) (ys : List ℕ) : Type 0 where
  pub len : length ys ≡ length xs
  pub less : w ≤ n
  pub same : (k : ℕ) → numerator_at (rows w s ys) k ≡ numerator_at (listed n s cells) k

listed_same : (n s : ℕ) (cells : List ℕ) (k : ℕ) → numerator_at (rows n s cells) k ≡ numerator_at (listed n s cells) k
listed_same n s cells k =
    numerator_same n (rows n s cells) (listed n s cells) (rows_within n s cells) (listed_within n s cells) (λ u h. rows_same n s cells u) k

pub narrowed_copy : (n s : ℕ) (cells xs ys : List ℕ) → length cells ≡ s * n → s * n ≤ length xs → Wrote xs (λ j. get_or cells j 0) 0 (length cells) ys → Narrowed n s cells xs n ys
narrowed_copy n s cells xs ys l r w =
    record { len = w.len; less = omega arith; same = λ k. ap (λ (L : List (List ℕ)). numerator_at L k) (rows_ext n s ys cells (omega (arith, w.len)) (omega arith) there) ∙ listed_same n s cells k }
  where
    there : (j : ℕ) → j < s * n → get_or ys j 0 ≡ get_or cells j 0
    there j g =
        let f : j ≡ 0 + j = omega arith in
        ap (λ (k : ℕ). get_or ys k 0) f ∙ w.there j (omega arith)

pub narrowed_kept : (n s : ℕ) (us cells xs : List ℕ) (w : ℕ) (ys ps : List ℕ) → length us ≡ n → length cells ≡ s * n → s * n ≤ length xs → Joined n s cells s us → Placing us (length us) ps w
    → Kept n w ps cells xs s ys → Narrowed n s cells xs w ys
narrowed_kept n s us cells xs w ys ps e l r u p k =
    record {
      len = k.len;
      less = omega (arith, p.most);
      same = λ j. ap (λ (L : List (List ℕ)). numerator_at L j) (all s (omega arith)) ∙ keep_numerator n us (rows n s cells) (width s (omega arith)) (marked s (omega arith)) j ∙ listed_same n s cells j;
    }
  where
    row : (i : ℕ) → i < s → length (at n i cells) ≡ n
    row i h = at_length n s i cells h (omega arith)

    fits : s * w ≤ length ys
    fits = omega (arith, k.len, mul-le-mul_left s p.most, ap (λ (z : ℕ). s * z) e)

    wide : (i : ℕ) → i < s → length (keep us (at n i cells)) ≡ w
    wide i h =
        let f = p.count (at n i cells) (row i h ∙ sym e) in
        let z : length (keep (drop (length us) us) (drop (length us) (at n i cells))) ≡ 0 = ap (λ (q : List ℕ). length (keep q (drop (length us) (at n i cells)))) (drop-length us) in
        omega arith

    here : (i : ℕ) → i < s → at w i ys ≡ keep us (at n i cells)
    here i h =
        let a : length (at w i ys) ≡ w = at_length w s i ys h fits in
        ext_get_or 0 (at w i ys) (keep us (at n i cells)) (a ∙ sym (wide i h))
        (λ j g. let q : j < w = omega (arith, a) in at_cell w i j ys q ∙ k.done i j h q ∙ p.picks (at n i cells) (row i h ∙ sym e) j q)

    all : (i : ℕ) → i ≤ s → rows w i ys ≡ map (keep us) (rows n i cells)
    all zero h = refl
    all (suc i) h = ap₂ {C = List (List ℕ)} ◌∷◌ (here i (omega arith)) (all i (omega arith))

    width : (i : ℕ) → i ≤ s → Width n (rows n i cells)
    width zero h m q = absurd q
    width (suc i) h m (inl q) = ap length q ∙ row i (omega arith)
    width (suc i) h m (inr q) = width i (omega arith) m q

    cell : (i j : ℕ) → i < s → get_or us j 0 ≡ 0 → (b : Bool) → ltb j n ≡ b → get_or (at n i cells) j 0 ≡ 0
    cell i j h z true q = let g : j < n = ltb-true j n q in at_cell n i j cells g ∙ joined_zero n s cells us u i j h g z
    cell i j h z false q = get_or-eq_default (at n i cells) 0 (omega (arith, row i h, ltb-false j n q))

    marked : (i : ℕ) → i ≤ s → (m : List ℕ) → In m (rows n i cells) → Marks us m
    marked zero h m q = absurd q
    marked (suc i) h m (inl q) = λ j z. ap (λ (y : List ℕ). get_or y j 0) q ∙ cell i j (omega arith) z (ltb j n) refl
    marked (suc i) h m (inr q) = marked i (omega arith) m q
