-- The sizes asked, cell by cell: the cell p of both lists is the exponent of variable p % n in monomial p / n.
--   cell_at n L p     == that exponent
--   from n L p       == the exponents of that variable from that monomial on; behind n L p: those of the monomials behind it
--   new_pair n L p    == what the cell p adds to the different pairs that the cells behind it have
--   new_degree n L p  == what it adds to the degree of their lcm
--   Sought n L a x best k == x is not among the exponents from a to k, of which `best` is the greatest
--   Found n L a x r       == r is x, if it is one of the exponents from a on, and otherwise the greatest of them
-- In this file:
--   from_next                 the exponents behind a cell
--   cell_is                   a cell of the two lists; row_below, row_past: whether its monomial is one of theirs
--   sought-..                 the loop that looks for x in the cells from a on; found-..: what it has found
--   turned-..                 one turn of the loop over the cells
--   grid                      a sum over the cells, variable by variable
--   pairs_all, degree_all     what a list adds to the list behind it; pairs_both, degree_both: both lists; added_measured: the first alone
--   pairs_least, .., degrees_most   how large the sums get, and the product of them
use Rattle.std.proofs.Common.{◌≡◌, ℕ, zero, suc, ◌+◌, ◌-◌, ◌*◌, ◌/◌, ◌%◌, ◌<◌, ◌≤◌, max, Bool, true, false, cond, ◌||◌, eqb, ◌⊎◌, List, [], ◌∷◌, ◌++◌, length, get_or, drop, sym, refl, ap, ◌∙◌, ap₂, inl, inr, append-nil, mod-lt, mod-eq_of_lt, suc-mul, div-lt_iff_lt-mul, add-mul, mul-zero, div-add-mod', le-div_iff_mul-le, zero-mul, add-one, arith, w64, Fits, eq-eqb, ne_eqb}
use native.Mathlib.Nat.{div-eq_of_lt, add-div_right, add-mod_right, add-mul-div_right, add-mul-mod_self_right}
use Rattle.laws.specs.Ideal.{listed}
use Rattle.laws.specs.Room.{cells_asked, column, coefficients_asked, distinct, holds, pairs}
use Rattle.laws.specs.Sums.{sum_below}
use Rattle.laws.proofs.Asked.{Lists, Measured, asked_is, asked_small, at_first, at_second, both, both_within, cells_small, columns, distinct_next, greatest, greatest_end, greatest_next, holds_end, holds_next, lcm_degree, pairs_small, sum_below_ext, sum_below_next}
use Rattle.laws.proofs.Columns.{greatest_held, held_most}
use Rattle.laws.proofs.Ideal.{listed_count, listed_within}

abbrev pub from : ℕ → List (List ℕ) → ℕ → List ℕ
from n L p = drop (p / n) (column L (p % n))

abbrev pub cell_at : ℕ → List (List ℕ) → ℕ → ℕ
cell_at n L p = get_or (column L (p % n)) (p / n) 0

abbrev pub behind : ℕ → List (List ℕ) → ℕ → List ℕ
behind n L p = drop (p / n + 1) (column L (p % n))

abbrev pub new_pair : ℕ → List (List ℕ) → ℕ → ℕ
new_pair n L p = cond (eqb (cell_at n L p) 0 || holds (cell_at n L p) (behind n L p)) 0 1

abbrev pub new_degree : ℕ → List (List ℕ) → ℕ → ℕ
new_degree n L p = cell_at n L p - greatest (behind n L p)

pub from_next : (n : ℕ) (L : List (List ℕ)) (k : ℕ) → 0 < n → from n L (k + n) ≡ behind n L k
from_next n L k z = ap₂ (λ (i v : ℕ). drop i (column L v)) (add-div_right k z) (add-mod_right k n)

-- no place in the lists is a large number
pub cells_below : {n s t : ℕ} {xs ys : List ℕ} → Lists n s xs t ys → s * n + t * n ≤ 16777216
cells_below {n} {s} {t} l = omega (arith, cells_small l, add-mul s t n)

-- the cells of two lists

module _ {n s t : ℕ} {xs ys : List ℕ} (l : Lists n s xs t ys) (z : 0 < n) (p : ℕ) where
  cell_first : p < s * n → get_or xs p 0 ≡ cell_at n (both n s xs t ys) p
  cell_first h =
      sym (at_first l (p % n) (p / n) (mod-lt p z) ((div-lt_iff_lt-mul z).1 h) ∙ ap (λ (q : ℕ). get_or xs q 0) (div-add-mod' p n))

  cell_second : s * n ≤ p → p < s * n + t * n → get_or ys (p - s * n) 0 ≡ cell_at n (both n s xs t ys) p
  cell_second h g =
      let i : s ≤ p / n = (le-div_iff_mul-le z).1 h in
      let k : p / n < s + t = (div-lt_iff_lt-mul z).1 (omega (arith, add-mul s t n)) in
      let e : p / n - s + s ≡ p / n = omega arith in
      let f : (p / n - s) * n + s * n ≡ p / n * n = sym (add-mul (p / n - s) s n) ∙ ap (λ (q : ℕ). q * n) e in
      let q : (p / n - s) * n + p % n ≡ p - s * n = omega (arith, div-add-mod' p n) in
      sym (at_second l (p % n) (p / n) (mod-lt p z) i k ∙ ap (λ (r : ℕ). get_or ys r 0) q)

  pub cell_is : (y : ℕ) → p < s * n + t * n → ((p < s * n) × (y ≡ get_or xs p 0)) ⊎ ((s * n ≤ p) × (y ≡ get_or ys (p - s * n) 0)) → y ≡ cell_at n (both n s xs t ys) p
  cell_is y g (inl w) = w.1 ∙ cell_first w.0
  cell_is y g (inr w) = w.1 ∙ cell_second w.0 g

  pub row_below : p < s * n + t * n → p / n < length (column (both n s xs t ys) (p % n))
  row_below g = rw (columns l (p % n)) ((div-lt_iff_lt-mul z).1 (omega (arith, add-mul s t n)))

  pub row_past : s * n + t * n ≤ p → length (column (both n s xs t ys) (p % n)) ≤ p / n
  row_past g = rw (columns l (p % n)) ((le-div_iff_mul-le z).1 (omega (arith, add-mul s t n)))

-- the loop that looks for x

abbrev pub Sought : ℕ → List (List ℕ) → ℕ → ℕ → ℕ → ℕ → Type 0
Sought n L a x best k = (k % n ≡ a % n) × (holds x (from n L a) ≡ holds x (from n L k)) × (max best (greatest (from n L k)) ≡ greatest (from n L a))

abbrev pub Found : ℕ → List (List ℕ) → ℕ → ℕ → ℕ → Type 0
Found n L a x r = r ≡ cond (holds x (from n L a)) x (greatest (from n L a))

module _ {n s t : ℕ} {xs ys : List ℕ} (l : Lists n s xs t ys) (z : 0 < n) (a x best k : ℕ) (q : Sought n (both n s xs t ys) a x best k) where
  module _ (g : k < s * n + t * n) (y : ℕ) (e : y ≡ cell_at n (both n s xs t ys) k) where
    here : holds x (from n (both n s xs t ys) k) ≡ (eqb x y || holds x (behind n (both n s xs t ys) k))
    here = holds_next x (column (both n s xs t ys) (k % n)) (k / n) (row_below l z k g) ∙ ap (λ (w : ℕ). eqb x w || holds x (behind n (both n s xs t ys) k)) (sym e)

    next : from n (both n s xs t ys) (k + n) ≡ behind n (both n s xs t ys) k
    next = from_next n (both n s xs t ys) k z

    pub sought_here : x ≡ y → Found n (both n s xs t ys) a x x
    sought_here h =
        let f : holds x (from n (both n s xs t ys) a) ≡ true = q.1 ∙ here ∙ ap (λ (b : Bool). b || holds x (behind n (both n s xs t ys) k)) (eq-eqb x y h) in
        rw f

    pub sought_next : (new : ℕ) → (x ≡ y → ⊥) → new ≡ max best y → Sought n (both n s xs t ys) a x new (k + n)
    sought_next new h f = (
      add-mod_right k n ∙ q.0,
      q.1 ∙ here ∙ ap (λ (b : Bool). b || holds x (behind n (both n s xs t ys) k)) (ne_eqb x y h) ∙ ap (holds x) (sym next),
      ap (λ (w : ℕ). max w (greatest (from n (both n s xs t ys) (k + n)))) f
          ∙ ap (λ (w : List ℕ). max (max best y) (greatest w)) next
          ∙ omega (arith, greatest_next (column (both n s xs t ys) (k % n)) (k / n) (row_below l z k g), q.2),
    )

  pub sought_end : s * n + t * n ≤ k → Found n (both n s xs t ys) a x best
  sought_end g =
      let f : holds x (from n (both n s xs t ys) a) ≡ false = q.1 ∙ holds_end x (column (both n s xs t ys) (k % n)) (k / n) (row_past l z k g) in
      rw f (omega (arith, greatest_end (column (both n s xs t ys) (k % n)) (k / n) (row_past l z k g), q.2))

-- what was found behind the cell k

module _ (n : ℕ) (L : List (List ℕ)) (k x y : ℕ) (z : 0 < n) (f : Found n L (k + n) x y) where
  pub found_behind : y ≡ cond (holds x (behind n L k)) x (greatest (behind n L k))
  found_behind = f ∙ ap (λ (w : List ℕ). cond (holds x w) x (greatest w)) (from_next n L k z)

  pub found_held : (x ≡ 0 → ⊥) → x ≡ y → holds x (behind n L k) ≡ true
  found_held h i = go (holds x (behind n L k)) refl
    where
      go : (b : Bool) → holds x (behind n L k) ≡ b → holds x (behind n L k) ≡ true
      go true q = q
      go false q = greatest_held x (behind n L k) (i ∙ (rw q at found_behind)) h

  pub found_new : (x ≡ y → ⊥) → holds x (behind n L k) ≡ false
  found_new i = go (holds x (behind n L k)) refl
    where
      go : (b : Bool) → holds x (behind n L k) ≡ b → holds x (behind n L k) ≡ false
      go true q = absurd (i (sym (rw q at found_behind)))
      go false q = q

-- a list has cells only where there are variables
pub variables : (n s k : ℕ) → k < s * n → 0 < n
variables zero s k g = absurd (omega (arith, mul-zero s))
variables (suc n) s k g = omega arith

-- one turn of the loop over the cells of the first list

module _ {n s t : ℕ} {xs ys : List ℕ} (l : Lists n s xs t ys) (k pairs degree : ℕ) (g : k < s * n)
    (ep : pairs ≡ sum_below k (new_pair n (both n s xs t ys))) (ed : degree ≡ sum_below k (new_degree n (both n s xs t ys)))
    (bp : pairs ≤ k) (bd : degree ≤ k * 65535) (x : ℕ) (e : x ≡ get_or xs k 0) where
  abbrev pub Turned : ℕ → ℕ → Type 0
  Turned p d = (p ≡ sum_below (k + 1) (new_pair n (both n s xs t ys))) × (d ≡ sum_below (k + 1) (new_degree n (both n s xs t ys))) × (p ≤ k + 1) × (d ≤ (k + 1) * 65535)

  wide : 0 < n
  wide = variables n s k g

  is : cell_at n (both n s xs t ys) k ≡ x
  is = sym (cell_is l wide k x (omega arith) (inl (g, e)))

  turned : (p d : ℕ) → new_pair n (both n s xs t ys) k ≡ p - pairs → new_degree n (both n s xs t ys) k ≡ d - degree → pairs ≤ p → degree ≤ d → p ≤ k + 1 → d ≤ (k + 1) * 65535 → Turned p d
  turned p d fp fd lp ld np nd =
      let a : pairs + (p - pairs) ≡ p = omega arith in
      let b : degree + (d - degree) ≡ d = omega arith in
      (sym a ∙ sum_below_next k pairs (p - pairs) (new_pair n (both n s xs t ys)) (sym fp) ep, sym b ∙ sum_below_next k degree (d - degree) (new_degree n (both n s xs t ys)) (sym fd) ed, np, nd)

  pub turned_zero : (p d : ℕ) → x ≡ 0 → p ≡ pairs → d ≡ degree → Turned p d
  turned_zero p d h fp fd =
      turned p d (rw (is, h) (omega arith)) (rw (is, h) (omega arith)) (omega arith) (omega arith) (omega arith) (omega arith)

  module _ (h : x ≡ 0 → ⊥) (y : ℕ) (f : Found n (both n s xs t ys) (k + n) x y) where
    found : y ≡ cond (holds x (behind n (both n s xs t ys) k)) x (greatest (behind n (both n s xs t ys) k))
    found = found_behind n (both n s xs t ys) k x y wide f

    pub turned_held : (p d : ℕ) → x ≡ y → p ≡ pairs → d ≡ degree → Turned p d
    turned_held p d i fp fd =
        let q = found_held n (both n s xs t ys) k x y wide f h i in
        turned p d (rw (is, ne_eqb x 0 h, q) (omega arith)) (rw is (omega (arith, held_most x (behind n (both n s xs t ys) k) q))) (omega arith) (omega arith) (omega arith) (omega arith)

    pub turned_new : (p d c : ℕ) → (x ≡ y → ⊥) → c < 65536 → c ≡ x - y → p ≡ pairs + 1 → d ≡ degree + c → Turned p d
    turned_new p d c i r fc fp fd =
        let q = found_new n (both n s xs t ys) k x y wide f i in
        let w : y ≡ greatest (behind n (both n s xs t ys) k) = rw q at found in
        turned p d (rw (is, ne_eqb x 0 h, q) (omega arith)) (rw (is, sym w) (omega arith)) (omega arith) (omega arith) (omega arith) (omega arith)

-- sums over the cells, variable by variable

sum_below_add : (n m : ℕ) (f : ℕ → ℕ) → sum_below (n + m) f ≡ sum_below n (λ v. f (v + m)) + sum_below m f
sum_below_add zero m f = let e : 0 + m ≡ m = omega arith in ap (λ (q : ℕ). sum_below q f) e ∙ omega arith
sum_below_add (suc n) m f =
    let e : suc n + m ≡ suc (n + m) = omega arith in
    ap (λ (q : ℕ). sum_below q f) e ∙ omega (arith, sum_below_add n m f)

sum_below_plus : (n : ℕ) (f g : ℕ → ℕ) → sum_below n f + sum_below n g ≡ sum_below n (λ v. f v + g v)
sum_below_plus zero f g = refl
sum_below_plus (suc n) f g = omega (arith, sum_below_plus n f g)

sum_below_none : (n : ℕ) → sum_below n (λ v. 0) ≡ 0
sum_below_none zero = refl
sum_below_none (suc n) = omega (arith, sum_below_none n)

grid : (n s : ℕ) (F : ℕ → ℕ → ℕ) → 0 < n → sum_below (s * n) (λ p. F (p / n) (p % n)) ≡ sum_below n (λ v. sum_below s (λ i. F i v))
grid n zero F z = ap (λ (q : ℕ). sum_below q (λ p. F (p / n) (p % n))) (zero-mul n) ∙ sym (sum_below_none n)
grid n (suc s) F z =
    let e : suc s * n ≡ n + s * n = omega (arith, suc-mul s n) in
    ap (λ (q : ℕ). sum_below q (λ p. F (p / n) (p % n))) e
    ∙ sum_below_add n (s * n) (λ p. F (p / n) (p % n))
    ∙ ap₂ ◌+◌ (sum_below_ext n (λ v. F ((v + s * n) / n) ((v + s * n) % n)) (F s) (λ v h. ap₂ F (add-mul-div_right v s z ∙ row v h) (add-mul-mod_self_right v s n ∙ mod-eq_of_lt h))) (grid n s F z)
    ∙ sum_below_plus n (F s) (λ v. sum_below s (λ i. F i v))
  where
    row : (v : ℕ) → v < n → v / n + s ≡ s
    row v h = omega (arith, div-eq_of_lt h)

-- numbers whose differences are added
falls : (s : ℕ) (F G : ℕ → ℕ) → ((i : ℕ) → i < s → F i + G (i + 1) ≡ G i) → sum_below s F + G s ≡ G 0
falls zero F G h = omega arith
falls (suc s) F G h = omega (arith, h s (omega arith), ap G (add-one s), falls s F G (λ i l. h i (omega arith)))

module _ (n s : ℕ) (F G : ℕ → ℕ → ℕ) (z : 0 < n) (h : (i v : ℕ) → i < s → v < n → F i v + G (i + 1) v ≡ G i v) where
  falls_all : sum_below (s * n) (λ p. F (p / n) (p % n)) + sum_below n (G s) ≡ sum_below n (G 0)
  falls_all =
      ap (λ (q : ℕ). q + sum_below n (G s)) (grid n s F z)
      ∙ sum_below_plus n (λ v. sum_below s (λ i. F i v)) (G s)
      ∙ sum_below_ext n (λ v. sum_below s (λ i. F i v) + G s v) (G 0) (λ v l. falls s (λ i. F i v) (λ i. G i v) (λ i k. h i v k l))

-- what the first list adds

column_behind : (L K : List (List ℕ)) (v : ℕ) → drop (length L) (column (L ++ K) v) ≡ column K v
column_behind [] K v = refl
column_behind (m ∷ L) K v = column_behind L K v

pair_step : (b : Bool) (d : ℕ) → cond b 0 1 + d ≡ cond b d (suc d)
pair_step true d = omega arith
pair_step false d = omega arith

module _ {n s t : ℕ} {xs ys : List ℕ} (l : Lists n s xs t ys) where
  second : (v : ℕ) → drop s (column (both n s xs t ys) v) ≡ column (listed n t ys) v
  second v =
      ap (λ (i : ℕ). drop i (column (both n s xs t ys) v)) (sym (listed_count n s xs))
      ∙ column_behind (listed n s xs) (listed n t ys) v

  below : (i v : ℕ) → i < s → i < length (column (both n s xs t ys) v)
  below i v h = omega (arith, columns l v)

  pub pairs_added : 0 < n → sum_below (s * n) (new_pair n (both n s xs t ys)) + pairs n (listed n t ys) ≡ pairs n (both n s xs t ys)
  pairs_added z =
      ap (λ (q : ℕ). sum_below (s * n) (new_pair n (both n s xs t ys)) + q)
      (sum_below_ext n (λ v. distinct (column (listed n t ys) v)) (λ v. distinct (drop s (column (both n s xs t ys) v))) (λ v h. ap distinct (sym (second v))))
      ∙ falls_all n s (λ i v. cond (eqb (get_or (column (both n s xs t ys) v) i 0) 0 || holds (get_or (column (both n s xs t ys) v) i 0) (drop (i + 1) (column (both n s xs t ys) v))) 0 1) (λ i v. distinct (drop i (column (both n s xs t ys) v))) z
      (λ i v h k. pair_step (eqb (get_or (column (both n s xs t ys) v) i 0) 0 || holds (get_or (column (both n s xs t ys) v) i 0) (drop (i + 1) (column (both n s xs t ys) v))) (distinct (drop (i + 1) (column (both n s xs t ys) v))) ∙ sym (distinct_next (column (both n s xs t ys) v) i (below i v h)))

  pub degree_added : 0 < n → sum_below (s * n) (new_degree n (both n s xs t ys)) + coefficients_asked (listed n t ys) ≡ coefficients_asked (both n s xs t ys)
  degree_added z =
      let a = lcm_degree n (listed n t ys) (listed_within n t ys) in
      let b = lcm_degree n (both n s xs t ys) (both_within n s xs t ys) in
      let c = sum_below_ext n (λ v. greatest (column (listed n t ys) v)) (λ v. greatest (drop s (column (both n s xs t ys) v))) (λ v h. ap greatest (sym (second v))) in
      let d = falls_all n s (λ i v. get_or (column (both n s xs t ys) v) i 0 - greatest (drop (i + 1) (column (both n s xs t ys) v))) (λ i v. greatest (drop i (column (both n s xs t ys) v))) z
      (λ i v h k. omega (arith, greatest_next (column (both n s xs t ys) v) i (below i v h))) in
      omega (arith, a, b, c, d)

-- also where there is no variable
pub pairs_all : (n s : ℕ) (xs : List ℕ) (t : ℕ) (ys : List ℕ) → Lists n s xs t ys → sum_below (s * n) (new_pair n (both n s xs t ys)) + pairs n (listed n t ys) ≡ pairs n (both n s xs t ys)
pairs_all zero s xs t ys l = ap (λ (q : ℕ). sum_below q (new_pair 0 (both 0 s xs t ys)) + 0) (mul-zero s)
pairs_all (suc n) s xs t ys l = pairs_added l (omega arith)

pub degree_all : (n s : ℕ) (xs : List ℕ) (t : ℕ) (ys : List ℕ) → Lists n s xs t ys → sum_below (s * n) (new_degree n (both n s xs t ys)) + coefficients_asked (listed n t ys) ≡ coefficients_asked (both n s xs t ys)
degree_all zero s xs t ys l =
    omega (arith, ap (λ (q : ℕ). sum_below q (new_degree 0 (both 0 s xs t ys))) (mul-zero s), lcm_degree 0 (listed 0 t ys) (listed_within 0 t ys), lcm_degree 0 (both 0 s xs t ys) (both_within 0 s xs t ys))
degree_all (suc n) s xs t ys l = degree_added l (omega arith)

-- the second list, with none behind it
pub alone : {n s t : ℕ} {xs ys : List ℕ} → Lists n s xs t ys → Lists n t ys 0 ys
alone {n} l = record { first = l.second; second = rw (zero-mul n) (omega arith); width = l.width; count = omega (arith, l.count) }

pairs_none : (n : ℕ) → pairs n [] ≡ 0
pairs_none n = sum_below_none n

module _ (n s : ℕ) (xs : List ℕ) (t : ℕ) (ys : List ℕ) (a b : ℕ) where
  pub pairs_both : a + pairs n (listed n t ys) ≡ pairs n (both n s xs t ys) → b + pairs n (listed n 0 ys) ≡ pairs n (both n t ys 0 ys) → a + b ≡ pairs n (both n s xs t ys)
  pairs_both e f = omega (arith, pairs_none n, ap (pairs n) (append-nil (listed n t ys)))

  pub degree_both : a + coefficients_asked (listed n t ys) ≡ coefficients_asked (both n s xs t ys) → b + coefficients_asked (listed n 0 ys) ≡ coefficients_asked (both n t ys 0 ys) → a + b + 1 ≡ coefficients_asked (both n s xs t ys)
  degree_both e f = omega (arith, ap coefficients_asked (append-nil (listed n t ys)))

-- what the first list adds is all there is, where there is no second one
pub added_measured : (n s : ℕ) (xs : List ℕ) (t : ℕ) (ys : List ℕ) → t ≤ 0 → (p d : ℕ)
    → ((p + pairs n (listed n t ys) ≡ pairs n (both n s xs t ys)) × (p ≤ 4096 * 4096)) × ((d + coefficients_asked (listed n t ys) ≡ coefficients_asked (both n s xs t ys)) × (d ≤ 4096 * 4096 * 65535)) → Measured n (both n s xs t ys) p d
added_measured n s xs zero ys z p d e = record { count = omega (arith, e.0.0, pairs_none n); sum = e.1.0; most = omega (arith, e.1.1) }
added_measured n s xs (suc t) ys z p d e = absurd (omega arith)

-- the sizes themselves
module _ {n s t : ℕ} {xs ys : List ℕ} (l : Lists n s xs t ys) where
  -- what the cells so far add
  module _ (k : ℕ) (h : k ≤ s * n) where
    pub pairs_least : (p : ℕ) → p ≤ k → p ≤ 4096 * 4096
    pairs_least p f = omega (arith, cells_below l)

    pub degree_least : (d : ℕ) → d ≤ k * 65535 → d ≤ 4096 * 4096 * 65535
    degree_least d f = omega (arith, cells_below l)

  -- the product of which the cells are asked
  module _ (p : ℕ) (e : p ≡ pairs n (both n s xs t ys)) where
    pub factor_fits : Fits w64 (s + t + p)
    factor_fits = omega (arith, l.count, pairs_small l)

    pub product_fits : Fits w64 ((s + t) * n * (s + t + p))
    product_fits =
        let f : (s + t) * n * (s + t + p) ≤ 4096 * 4096 * (4096 + 4096 * 4096) = rw e (asked_small l) in
        omega arith

    pub product_is : (s + t) * n * (s + t + p) ≡ cells_asked n (both n s xs t ys)
    product_is = rw e (asked_is l)

pub degrees_most : (p q : ℕ) → p ≤ 4096 * 4096 * 65535 → q ≤ 4096 * 4096 * 65535 → p + q ≤ 8192 * 4096 * 65535
degrees_most p q h g = omega arith
