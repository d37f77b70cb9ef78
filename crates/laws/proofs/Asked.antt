-- The sizes asked of the rooms, as loops over the cells find them.
--   both n s xs t ys   == the s monomials in the cells xs and the t in ys, one list
--   Lists n s xs t ys  == those cells hold the two lists, and no size asked for them overflows a word
--   greatest xs        == the greatest number in xs, 0 for none
--   Measured n L p d   == p is e of L, and d the degree of the lcm, which is no large number
-- In this file:
--   column_listed, column_count   a column of a list in cells, and its length
--   at_first, at_second, columns   a column of both lists, cell by cell, and its length
--   holds_next, holds_end        whether a number stands in the rest of a list
--   distinct_next, distinct_end  how many different numbers stand in the rest; distinct_most: at most its length
--   greatest_next, greatest_end  the greatest of the rest
--   pairs_most                   e is at most n times the count
--   lcm_degree                   the degree of the lcm of all: the greatest exponents added
--   sum_below_ext, sum_below_next  sums of equal values, and one value more
--   cells_enough, enough, enough_both   what is asked suffices for the engine
use mathlib.Core.Path.{◌≡◌, refl, sym, ap, ap₂, ◌∙◌}
use mathlib.Core.Logic.{inl}
use mathlib.Core.Bool.{Bool, true, false, ◌||◌, cond}
use mathlib.Core.List.{List, [], ◌∷◌, ◌++◌}
use Prim.Native.Nat.{ℕ, zero, suc, ◌+◌, ◌*◌, ◌-◌, ◌≤◌, ◌<◌, max}
use native.Mathlib.Omega.{arith}
use native.Mathlib.Nat.{suc-mul, zero-mul, mul-le-mul, mul-le-mul_left, mul_comm, mul_assoc}
use native.Mathlib.Numerals.{add-one}
use lib.Dec.{eqb}
use lib.ListN.{length, length-append, get_or-append, drop, get_or, drop_of_length-le, get_or-eq_default}
use lib.Seq.{get_or-take, get_or-drop, get_or-append-add}
use Rattle.laws.specs.Monomial.{degree, exponent, lcm}
use Rattle.laws.specs.Ideal.{listed, Within, lcm_of}
use Rattle.laws.specs.Room.{holds, distinct, column, pairs, cells_asked, coefficients_asked}
use Rattle.laws.specs.Sums.{sum_below}
use Rattle.laws.proofs.Lists.{drop_next}
use Rattle.laws.proofs.Monomial.{length_lcm}
use Rattle.laws.proofs.Ideal.{within_tail, within_append, listed_within, listed_count}
use Rattle.laws.proofs.Dimension.{degree_sum}

-- columns of two lists read from cells, one after the other

abbrev pub both : ℕ → ℕ → List ℕ → ℕ → List ℕ → List (List ℕ)
both n s xs t ys = listed n s xs ++ listed n t ys

pub column_listed : (n s : ℕ) (cells : List ℕ) (v i : ℕ) → v < n → i < s → get_or (column (listed n s cells) v) i 0 ≡ get_or cells (i * n + v) 0
column_listed n zero cells v i h l = absurd (omega arith)
column_listed n (suc s) cells v zero h l = get_or-take n cells v 0 h ∙ ap (λ (z : ℕ). get_or cells z 0) (omega (arith, zero-mul n))
column_listed n (suc s) cells v (suc i) h l =
    column_listed n s (drop n cells) v i h (omega arith)
    ∙ get_or-drop n cells (i * n + v) 0
    ∙ ap (λ (z : ℕ). get_or cells z 0) (omega (arith, suc-mul i n))

column_append : (L K : List (List ℕ)) (v : ℕ) → column (L ++ K) v ≡ column L v ++ column K v
column_append [] K v = refl
column_append (m ∷ L) K v = ap (λ (xs : List ℕ). exponent m v ∷ xs) (column_append L K v)

pub column_count : (L : List (List ℕ)) (v : ℕ) → length (column L v) ≡ length L
column_count [] v = refl
column_count (m ∷ L) v = ap suc (column_count L v)

module _ (n s : ℕ) (xs : List ℕ) (t : ℕ) (ys : List ℕ) where
  pub both_count : length (both n s xs t ys) ≡ s + t
  both_count = simp (length-append, listed_count)

  pub both_within : Within n (both n s xs t ys)
  both_within = within_append n (listed n s xs) (listed n t ys) (listed_within n s xs) (listed_within n t ys)

  column_length : (v : ℕ) → length (column (both n s xs t ys) v) ≡ s + t
  column_length v = column_count (both n s xs t ys) v ∙ both_count

  column_first : (v i : ℕ) → v < n → i < s → get_or (column (both n s xs t ys) v) i 0 ≡ get_or xs (i * n + v) 0
  column_first v i h l =
      ap (λ (zs : List ℕ). get_or zs i 0) (column_append (listed n s xs) (listed n t ys) v)
      ∙ get_or-append (column (listed n s xs) v) (column (listed n t ys) v) 0 i (omega (arith, column_count (listed n s xs) v, listed_count n s xs))
      ∙ column_listed n s xs v i h l

  column_second : (v i : ℕ) → v < n → s ≤ i → i < s + t → get_or (column (both n s xs t ys) v) i 0 ≡ get_or ys ((i - s) * n + v) 0
  column_second v i h l g =
      let e : i ≡ length (column (listed n s xs) v) + (i - s) = omega (arith, column_count (listed n s xs) v, listed_count n s xs) in
      ap₂ (λ (zs : List ℕ) (z : ℕ). get_or zs z 0) (column_append (listed n s xs) (listed n t ys) v) e
      ∙ get_or-append-add (column (listed n s xs) v) (column (listed n t ys) v) (i - s) 0
      ∙ column_listed n t ys v (i - s) h (omega arith)

-- the rest of a list, from its place i on

pub holds_next : (x : ℕ) (xs : List ℕ) (i : ℕ) → i < length xs → holds x (drop i xs) ≡ (eqb x (get_or xs i 0) || holds x (drop (i + 1) xs))
holds_next x xs i h = ap (holds x) (drop_next xs i h)

pub holds_end : (x : ℕ) (xs : List ℕ) (i : ℕ) → length xs ≤ i → holds x (drop i xs) ≡ false
holds_end x xs i h = ap (holds x) (drop_of_length-le xs h)

pub distinct_next : (xs : List ℕ) (i : ℕ) → i < length xs → distinct (drop i xs) ≡ cond (eqb (get_or xs i 0) 0 || holds (get_or xs i 0) (drop (i + 1) xs)) (distinct (drop (i + 1) xs)) (suc (distinct (drop (i + 1) xs)))
distinct_next xs i h = ap distinct (drop_next xs i h)

pub distinct_end : (xs : List ℕ) (i : ℕ) → length xs ≤ i → distinct (drop i xs) ≡ 0
distinct_end xs i h = ap distinct (drop_of_length-le xs h)

distinct_one : (b : Bool) (x y : ℕ) → x ≤ y → cond b x (suc x) ≤ suc y
distinct_one true x y h = omega arith
distinct_one false x y h = omega arith

pub distinct_most : (xs : List ℕ) → distinct xs ≤ length xs
distinct_most [] = omega arith
distinct_most (x ∷ xs) = distinct_one (eqb x 0 || holds x xs) (distinct xs) (length xs) (distinct_most xs)

abbrev pub greatest : List ℕ → ℕ
greatest [] = 0
greatest (x ∷ xs) = max x (greatest xs)

pub greatest_next : (xs : List ℕ) (i : ℕ) → i < length xs → greatest (drop i xs) ≡ max (get_or xs i 0) (greatest (drop (i + 1) xs))
greatest_next xs i h = ap greatest (drop_next xs i h)

pub greatest_end : (xs : List ℕ) (i : ℕ) → length xs ≤ i → greatest (drop i xs) ≡ 0
greatest_end xs i h = ap greatest (drop_of_length-le xs h)

-- sums over the variables

pub sum_below_ext : (n : ℕ) (f g : ℕ → ℕ) → ((v : ℕ) → v < n → f v ≡ g v) → sum_below n f ≡ sum_below n g
sum_below_ext zero f g h = refl
sum_below_ext (suc n) f g h = ap₂ ◌+◌ (h n (omega arith)) (sum_below_ext n f g (λ v l. h v (omega arith)))

pub sum_below_next : (v d x : ℕ) (f : ℕ → ℕ) → x ≡ f v → d ≡ sum_below v f → d + x ≡ sum_below (v + 1) f
sum_below_next v d x f e h = rw (add-one v) (omega arith)

sum_below_most : (n k : ℕ) (f : ℕ → ℕ) → ((v : ℕ) → f v ≤ k) → sum_below n f ≤ n * k
sum_below_most zero k f h = omega arith
sum_below_most (suc n) k f h = omega (arith, h n, sum_below_most n k f h, suc-mul n k)

pub pairs_most : (n : ℕ) (L : List (List ℕ)) → pairs n L ≤ n * length L
pairs_most n L =
    sum_below_most n (length L) (λ v. distinct (column L v)) (λ v. omega (arith, distinct_most (column L v), column_count L v))

-- the degree of the lcm

exponent_lcm : (a b : List ℕ) (v : ℕ) → exponent (lcm a b) v ≡ max (exponent a v) (exponent b v)
exponent_lcm [] b v = omega arith
exponent_lcm (x ∷ a) [] v = omega arith
exponent_lcm (x ∷ a) (y ∷ b) zero = refl
exponent_lcm (x ∷ a) (y ∷ b) (suc v) = exponent_lcm a b v

exponent_lcm_of : (L : List (List ℕ)) (v : ℕ) → exponent (lcm_of L) v ≡ greatest (column L v)
exponent_lcm_of [] v = refl
exponent_lcm_of (m ∷ L) v = exponent_lcm m (lcm_of L) v ∙ ap (max (exponent m v)) (exponent_lcm_of L v)

lcm_of_within : (n : ℕ) (L : List (List ℕ)) → Within n L → length (lcm_of L) ≤ n
lcm_of_within n [] w = omega arith
lcm_of_within n (m ∷ L) w = omega (arith, length_lcm m (lcm_of L), w m (inl refl), lcm_of_within n L (within_tail n m L w))

-- variables past the width add nothing
sum_below_past : (d a : ℕ) (f : ℕ → ℕ) → ((v : ℕ) → a ≤ v → f v ≡ 0) → sum_below (d + a) f ≡ sum_below a f
sum_below_past zero a f h = let e : 0 + a ≡ a = omega arith in ap (λ (z : ℕ). sum_below z f) e
sum_below_past (suc d) a f h =
    let e : suc d + a ≡ suc (d + a) = omega arith in
    let g : sum_below (suc (d + a)) f ≡ sum_below a f = omega (arith, h (d + a) (omega arith), sum_below_past d a f h) in
    ap (λ (z : ℕ). sum_below z f) e ∙ g

degree_within : (n : ℕ) (u : List ℕ) → length u ≤ n → degree u ≡ sum_below n (exponent u)
degree_within n u h =
    let e : n - length u + length u ≡ n = omega arith in
    degree_sum (length u) u refl
    ∙ sym (sum_below_past (n - length u) (length u) (exponent u) (λ v l. get_or-eq_default u 0 l))
    ∙ ap (λ (z : ℕ). sum_below z (exponent u)) e

pub lcm_degree : (n : ℕ) (L : List (List ℕ)) → Within n L → degree (lcm_of L) ≡ sum_below n (λ v. greatest (column L v))
lcm_degree n L w =
    degree_within n (lcm_of L) (lcm_of_within n L w)
    ∙ sum_below_ext n (exponent (lcm_of L)) (λ v. greatest (column L v)) (λ v l. exponent_lcm_of L v)

-- s · s · n cells are asked at least
pub cells_enough : (n : ℕ) (L : List (List ℕ)) → length L * length L * n ≤ cells_asked n L
cells_enough n L =
    let a : length L * n * length L ≤ length L * n * (length L + pairs n L) = mul-le-mul_left (length L * n) (omega arith) in
    let b : length L * length L * n ≡ length L * n * length L = mul_assoc (length L) (length L) n ∙ ap (λ (z : ℕ). length L * z) (mul_comm (length L) n) ∙ sym (mul_assoc (length L) n (length L)) in
    omega arith

-- two lists in their cells, small enough that no size asked for them overflows a word
pub record Lists (n s : ℕ) (xs : List ℕ) (t : ℕ) (ys : List ℕ) : Type 0 where
  pub first : s * n ≤ length xs
  pub second : t * n ≤ length ys
  pub width : n ≤ 4096
  pub count : s + t ≤ 4096

module _ {n s t : ℕ} {xs ys : List ℕ} (l : Lists n s xs t ys) where
  pub at_first : (v i : ℕ) → v < n → i < s → get_or (column (both n s xs t ys) v) i 0 ≡ get_or xs (i * n + v) 0
  at_first = column_first n s xs t ys

  pub at_second : (v i : ℕ) → v < n → s ≤ i → i < s + t → get_or (column (both n s xs t ys) v) i 0 ≡ get_or ys ((i - s) * n + v) 0
  at_second = column_second n s xs t ys

  pub columns : (v : ℕ) → length (column (both n s xs t ys) v) ≡ s + t
  columns = column_length n s xs t ys

  -- no size overflows
  pub pairs_small : pairs n (both n s xs t ys) ≤ 4096 * 4096
  pairs_small =
      let a : n * (s + t) ≤ 4096 * 4096 = mul-le-mul l.width l.count in
      omega (arith, pairs_most n (both n s xs t ys), ap (λ (z : ℕ). n * z) (both_count n s xs t ys))

  pub cells_small : (s + t) * n ≤ 4096 * 4096
  cells_small = mul-le-mul l.count l.width

  pub asked_small : (s + t) * n * (s + t + pairs n (both n s xs t ys)) ≤ 4096 * 4096 * (4096 + 4096 * 4096)
  asked_small =
      let a : s + t + pairs n (both n s xs t ys) ≤ 4096 + 4096 * 4096 = omega (arith, pairs_small, l.count) in
      mul-le-mul cells_small a

  pub asked_is : (s + t) * n * (s + t + pairs n (both n s xs t ys)) ≡ cells_asked n (both n s xs t ys)
  asked_is = rw (both_count n s xs t ys)

  pub coefficients_are : sum_below n (λ v. greatest (column (both n s xs t ys) v)) + 1 ≡ coefficients_asked (both n s xs t ys)
  coefficients_are = omega (arith, lcm_degree n (both n s xs t ys) (both_within n s xs t ys))

pub record Measured (n : ℕ) (L : List (List ℕ)) (p d : ℕ) : Type 0 where
  pub count : p ≡ pairs n L
  pub sum : d + 1 ≡ coefficients_asked L
  pub most : d ≤ 8192 * 4096 * 65535

-- a room of the asked size has the cells that the engine wants
pub enough : (n s : ℕ) (cells room : List ℕ) → length room ≡ cells_asked n (listed n s cells) → s * s * n ≤ length room
enough n s cells room e =
    let h : length (listed n s cells) * length (listed n s cells) * n ≤ length room = rw e (cells_enough n (listed n s cells)) in
    rw (listed_count n s cells) at h

pub enough_both : (n s : ℕ) (xs : List ℕ) (t : ℕ) (ys room : List ℕ) → length room ≡ cells_asked n (both n s xs t ys) → (s + t) * (s + t) * n ≤ length room
enough_both n s xs t ys room e =
    let h : length (both n s xs t ys) * length (both n s xs t ys) * n ≤ length room = rw e (cells_enough n (both n s xs t ys)) in
    rw (both_count n s xs t ys) at h
