-- What one turn of a pass, a branch or a count leaves, over plain numbers and lists: laws for the proofs of the functions that loop.
use Rattle.std.proofs.Common.{◌≡◌, ℕ, ◌+◌, ◌-◌, ◌*◌, ◌^◌, ◌<◌, ◌≤◌, Bool, true, false, ◌||◌, ltb, ◌⊎◌, List, length, get_or, replicate, ℤ, pos, sym, refl, ap, ◌∙◌, inl, inr, suc-mul, mul-le-mul, one-mul, zero-mul, add-one, arith, length-take, w64, Fits, lt-ltb}
use mathlib.Core.Bool.{false≢true}
use Rattle.std.specs.List.{CopiedTo, SameBelow, SameFrom}
use Rattle.laws.proofs.Added.{Zeros}
use Rattle.laws.proofs.Lists.{replicate_constant}
use Rattle.laws.proofs.Few.{Quotients, few_room, few_two, quotients_more, quotients_unit}
use Rattle.laws.specs.Ideal.{listed}
use Rattle.laws.proofs.Ideal.{listed_count}
use Rattle.laws.proofs.Branch.{Summed, summed_keep, summed_skip}
use Rattle.laws.proofs.Rows.{Wrote, at, row_end}

-- a list that was filled with zeros
pub zeros_filled : (n : ℕ) (s : List ℤ) → s ≡ replicate n (pos 0) → Zeros s
unfolding Zeros
zeros_filled n s e k = rw e (replicate_constant (pos 0) n k)

-- a run of cells that `copy_within` copied
pub wrote_within : (xs ys : List ℕ) (from to end n : ℕ) → end ≡ from + n → length ys ≡ length xs
    → CopiedTo xs ys from to (end - from) × SameBelow xs ys to × SameFrom xs ys (to + (end - from)) → Wrote xs (λ t. get_or xs (from + t) 0) to n ys
wrote_within xs ys from to end n e len c =
    record {
      len = len;
      there = λ j h. c.0 (to + j) 0 (omega arith) (omega arith) ∙ ap (λ (i : ℕ). get_or xs i 0) (omega arith);
      other = λ k h. elim h [ inl l ↦ c.1 k 0 l | inr g ↦ c.2 k 0 (omega arith) ];
    }

-- Branch: a list of m monomials in xs, and behind it k of the first i
module _ (n m v e i k : ℕ) (xs ys : List ℕ) (g : m * n + m * n ≤ length xs) (s : Summed n m v e xs i k ys) where
  module _ (b : i < m) (l : v < n) where
    module _ (q : k ≤ i) (j : ℕ) (zs : List ℕ) where
      abbrev pub SummedNext : Type 0
      SummedNext = (j ≤ i + 1) × Summed n m v e xs (i + 1) j zs

      pub summed_one : (ws : List ℕ) → get_or ys (i * n + v) 0 < e → Wrote ys (λ t. get_or ys (i * n + t) 0) (m * n + k * n) n ws → zs ≡ ws → j ≡ k + 1 → SummedNext
      summed_one ws h w y z = rw (y, z) (omega arith, summed_keep n m v e xs i k ys ws g b (omega arith) (omega (arith, s.kept (i * n + v) (omega (arith, row_end n m i b)))) w s)

      pub summed_none_more : e ≤ get_or ys (i * n + v) 0 → zs ≡ ys → j ≡ k → SummedNext
      summed_none_more h y z = rw (y, z) (omega arith, summed_skip n m v e xs i k ys l (omega (arith, s.kept (i * n + v) (omega (arith, row_end n m i b)))) s)

-- two tests of which neither holds
pub neither : (a b : Bool) → (a || b) ≡ false → (a ≡ false) × (b ≡ false)
neither true b e = absurd (false≢true (sym e))
neither false b e = (refl, e)

-- one of two numbers that is below k
pub either_short : (k x y z : ℕ) → (z ≡ x) ⊎ (z ≡ y) → z < k → (ltb x k || ltb y k) ≡ true
either_short k x y z (inl e) h = rw (lt-ltb x k (rw e at h))
either_short k x y z (inr e) h = rw (lt-ltb y k (rw e at h)) (or_true (ltb x k))
  where
    or_true : (b : Bool) → (b || true) ≡ true
    or_true true = refl
    or_true false = refl

-- Asked: a list within the limits
pub list_fits : (n s : ℕ) → n ≤ 255 → s ≤ 60 → Fits w64 (s * n)
list_fits n s h g = omega (arith, mul-le-mul g h)

pub count_within : (s : ℕ) → s ≤ 60 → s ≤ 4096
count_within s h = omega arith

pub listed_few : (n s : ℕ) (xs : List ℕ) (t : ℕ) (ys : List ℕ) → s + t ≤ 60 → length (listed n s xs) + length (listed n t ys) ≤ 60
listed_few n s xs t ys h = omega (arith, listed_count n s xs, listed_count n t ys)

-- a count of two lists, tested without their sum
pub few_both : (s t : ℕ) → s ≤ 60 → t ≤ 60 - s → s + t ≤ 60
few_both s t h g = omega arith

pub many_first : (s t : ℕ) → 60 < s → 60 < s + t
many_first s t h = omega arith

pub many_both : (s t : ℕ) → s ≤ 60 → 60 - s < t → 60 < s + t
many_both s t h g = omega arith

-- Turn: the measures of the engine's cycle fall
pub branch_falls : (m left k t : ℕ) → m + m + m + 2 ≡ t → left ≤ m → k < left → k + k + k + 2 < t
branch_falls m left k t e h g = omega arith

pub parts_falls : (m left b t : ℕ) → m + m + m + 2 ≡ t → left ≤ m → b ≤ left → b + (left - b) + (b + (left - b)) + (b + (left - b)) + 1 < t
parts_falls m left b t e h g = omega arith

pub inner_falls : (a t : ℕ) → a + 1 ≡ t → a < t
inner_falls a t e = omega arith

pub first_falls : (b a t : ℕ) → b + a + (b + a) + (b + a) ≡ t → 0 < b → a + a + a + 2 < t
first_falls b a t e h = omega arith

pub second_falls : (b a t : ℕ) → b + a + (b + a) + (b + a) ≡ t → 0 < a → b + b + b + 2 < t
second_falls b a t e h = omega arith

pub place_fits : (i e L K : ℕ) → i < L → L ≡ K → K * 8 < 2 ^ 63 → e < 65536 → Fits w64 (i + e)
place_fits i e L K h q f g = omega arith

pub rest_there : (a b : ℕ) → b < a → 0 < a - b
rest_there a b h = omega arith

pub rest_sum : (a b : ℕ) → b ≤ a → b + (a - b) ≡ a
rest_sum a b h = omega arith

pub sum_first : (a b L : ℕ) → a + b ≤ L → a ≤ L
sum_first a b L h = omega arith

pub width_left : (k L s : ℕ) → k ≡ L - s → k ≤ L
width_left k L s e = omega arith

pub last_of_sum : (a b : ℕ) → b ≤ a + b
last_of_sum a b = omega arith

-- Few: the quotients of k monomials in xs by number k, behind those k + 1, the place written as the code has it
module _ (n k : ℕ) (xs : List ℕ) (g : (k + 1) * n + k * n ≤ length xs) where
  behind : k * n + n ≡ (k + 1) * n
  behind = omega (arith, suc-mul k n, add-one k)

  module _ (i : ℕ) (h : i < k) where
    module _ (ys zs : List ℕ) (q : Quotients n k xs i false ys)
        (w : Wrote ys (λ t. get_or ys (i * n + t) 0 - get_or ys (k * n + t) 0) (k * n + n + i * n) n zs) where
      pub quotients_next : Quotients n k xs (i + 1) false zs
      quotients_next = quotients_more n k xs i ys zs g h (rw behind at w) q

      pub quotients_one : ((j : ℕ) → j < n → get_or ys (i * n + j) 0 - get_or ys (k * n + j) 0 ≡ 0) → Quotients n k xs k true zs
      quotients_one o = quotients_unit n k xs i ys zs g h (rw behind at w) o q

-- Rows: the first two monomials
pub first_there : (n L : ℕ) → n ≤ L → 0 * n + n ≤ L
first_there n L h = omega (arith, zero-mul n)

pub second_there : (n L : ℕ) → n + n ≤ L → 1 * n + n ≤ L
second_there n L h = omega (arith, one-mul n)

pub row_within : (n i z : ℕ) (xs a : List ℕ) → a ≡ at n i xs → n ≤ z → length a ≤ z
row_within n i z xs a e h = rw (e, length-take) (omega arith)

-- Few: one turn, of a list of left monomials by its last one
module _ (n m left L : ℕ) (h : left ≤ m) (s : 3 < left) (g : m * m * n ≤ L) where
  pub last_below_all : left - 1 < m
  last_below_all = omega arith

  pub last_two : (left - 1 + 1) * n + (left - 1) * n ≤ L
  last_two = few_two n m (left - 1) L last_below_all g

  pub last_room : (left - 1) * n + n + (left - 1) * (left - 1) * n ≤ L
  last_room = omega (arith, few_room n m (left - 1) L last_below_all g, suc-mul (left - 1) n, add-one (left - 1))

  pub last_one_more : left - 1 + 1 ≡ left
  last_one_more = omega arith

pub last_falls : (left m t : ℕ) → m ≡ t → 3 < left → left ≤ m → left - 1 < t
last_falls left m t e h g = omega arith

pub shift_below : (s d L : ℕ) → s < L → L * 8 < 2 ^ 63 → d ≤ 4294901760 → s + d < 2305843009213693952
shift_below s d L h f g = omega arith
