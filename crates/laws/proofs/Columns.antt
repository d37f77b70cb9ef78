-- The greatest exponent of each variable, monomial by monomial.
--   Joined n s cells i us     == in us stands for each of n variables the greatest of its first i exponents in the s monomials
--   Unshared us m v           == no variable below v has an exponent above 0 in both us and m
--   Single n s cells i        == each of n variables has an exponent above 0 in one of the first i monomials at most: its exponents add up to the greatest
--   Greatest n L us           == us has for each of n variables its greatest exponent in L
-- In this file:
--   joined_none, joined_more, joined_first   no monomial, one more, and the first, copied
--   joined_all                all: the greatest of each variable
--   joined_zero               where it is 0, every monomial has 0
--   unshared-.., single-..    monomials of which no two have a variable in common, cell by cell and one by one
--   held_most, greatest_held  what stands in a list is at most its greatest, and that stands in it
--   distinct_at, degree_greatest, pairs_greatest   the different exponents of a variable, the degree of the lcm and e by these
--   few_distinct              a greatest of at most 1 is how many different ones other than 0 there are
--   single_distinct           numbers that add up to their greatest: one of them at most is not 0
--   pairs_single              e where no two monomials have a variable in common: how many greatest exponents are not 0
use mathlib.Core.Path.{◌≡◌, refl, sym, ap, ap₂, ◌∙◌}
use mathlib.Core.Bool.{Bool, true, false, ◌||◌, cond, false≢true}
use mathlib.Core.List.{List, [], ◌∷◌, append-nil}
use Prim.Native.Nat.{ℕ, zero, suc, ◌+◌, ◌*◌, ◌≤◌, ◌<◌, max, min}
use native.Mathlib.Omega.{arith}
use native.Mathlib.Numerals.{add-one}
use lib.Dec.{eqb, leb}
use lib.ListN.{length, get_or, take}
use lib.Seq.{take_all}
use borrow.Author.Tests.{eqb-true, eqb-false, le-leb, lt-leb}
use Rattle.laws.specs.Count.{bit}
use Rattle.laws.specs.Ideal.{listed}
use Rattle.laws.specs.Monomial.{degree, exponent}
use Rattle.laws.specs.Room.{holds, distinct, column, pairs}
use Rattle.laws.specs.Sums.{sum_below}
use Rattle.laws.proofs.Asked.{both, column_count, column_listed, greatest, sum_below_ext}
use Rattle.laws.proofs.Column.{above}
use Rattle.laws.proofs.Dimension.{degree_sum}
use Rattle.laws.proofs.Ideal.{listed_count}
use Rattle.laws.proofs.Rows.{at, at_cell, Wrote}

-- the greatest of a list

pub held_most : (x : ℕ) (zs : List ℕ) → holds x zs ≡ true → x ≤ greatest zs
held_most x [] h = absurd (false≢true h)
held_most x (y ∷ zs) h = go (eqb x y) refl h (held_most x zs)
  where
    go : (b : Bool) → eqb x y ≡ b → (b || holds x zs) ≡ true → (holds x zs ≡ true → x ≤ greatest zs) → x ≤ max y (greatest zs)
    go true e i f = omega (arith, eqb-true x y e)
    go false e i f = omega (arith, f i)

pub greatest_held : (x : ℕ) (zs : List ℕ) → x ≡ greatest zs → (x ≡ 0 → ⊥) → holds x zs ≡ true
greatest_held x [] e h = absurd (h e)
greatest_held x (y ∷ zs) e h = go (eqb x y) refl (λ i. greatest_held x zs i h)
  where
    go : (b : Bool) → eqb x y ≡ b → (x ≡ greatest zs → holds x zs ≡ true) → (b || holds x zs) ≡ true
    go true f i = refl
    go false f i = i (omega (arith, eqb-false x y f))

pub few_distinct : (zs : List ℕ) → greatest zs ≤ 1 → distinct zs ≡ greatest zs
few_distinct [] h = refl
few_distinct (x ∷ zs) h = go (eqb x 0) refl (holds x zs) refl (few_distinct zs (omega arith))
  where
    none : (y : ℕ) → greatest zs ≡ y → (x ≡ 0 → ⊥) → holds x zs ≡ false → y ≡ 0
    none zero e f g = refl
    none (suc y) e f g = absurd (false≢true (sym g ∙ greatest_held x zs (omega (arith, f)) f))

    go : (b : Bool) → eqb x 0 ≡ b → (c : Bool) → holds x zs ≡ c → distinct zs ≡ greatest zs → cond (b || c) (distinct zs) (suc (distinct zs)) ≡ max x (greatest zs)
    go true e c f i = omega (arith, eqb-true x 0 e)
    go false e true f i = omega (arith, held_most x zs f)
    go false e false f i = omega (arith, eqb-false x 0 e, none (greatest zs) refl (eqb-false x 0 e) f)

-- numbers that add up to their greatest

greatest_sum : (zs : List ℕ) → greatest zs ≤ degree zs
greatest_sum [] = omega arith
greatest_sum (x ∷ zs) = omega (arith, greatest_sum zs)

pub single_distinct : (zs : List ℕ) → degree zs ≡ greatest zs → distinct zs ≡ min (greatest zs) 1
single_distinct [] h = refl
single_distinct (x ∷ zs) h = go (eqb x 0) refl (holds x zs) refl (single_distinct zs)
  where
    go : (b : Bool) → eqb x 0 ≡ b → (c : Bool) → holds x zs ≡ c → (degree zs ≡ greatest zs → distinct zs ≡ min (greatest zs) 1) → cond (b || c) (distinct zs) (suc (distinct zs)) ≡ min (max x (greatest zs)) 1
    go true e c f i = omega (arith, eqb-true x 0 e, i (omega (arith, eqb-true x 0 e)))
    go false e true f i = absurd (omega (arith, eqb-false x 0 e, held_most x zs f, greatest_sum zs))
    go false e false f i =
        let z : greatest zs ≡ 0 = omega (arith, eqb-false x 0 e, greatest_sum zs) in
        omega (arith, eqb-false x 0 e, few_distinct zs (omega arith))

greatest_most : (zs : List ℕ) (i : ℕ) → get_or zs i 0 ≤ greatest zs
greatest_most [] i = omega arith
greatest_most (x ∷ zs) zero = omega arith
greatest_most (x ∷ zs) (suc i) = omega (arith, greatest_most zs i)

greatest_take : (xs : List ℕ) (k : ℕ) → greatest (take (suc k) xs) ≡ max (greatest (take k xs)) (get_or xs k 0)
greatest_take [] zero = refl
greatest_take [] (suc k) = refl
greatest_take (x ∷ xs) zero = omega arith
greatest_take (x ∷ xs) (suc k) = omega (arith, greatest_take xs k)

degree_take : (xs : List ℕ) (k : ℕ) → degree (take (suc k) xs) ≡ degree (take k xs) + get_or xs k 0
degree_take [] zero = refl
degree_take [] (suc k) = refl
degree_take (x ∷ xs) zero = omega arith
degree_take (x ∷ xs) (suc k) = omega (arith, degree_take xs k)

-- the greatest exponents, monomial by monomial

unfoldable pub Joined : ℕ → ℕ → List ℕ → ℕ → List ℕ → Type 0
Joined n s cells i us = (j : ℕ) → j < n → get_or us j 0 ≡ greatest (take i (column (listed n s cells) j))

pub joined_none : (n s : ℕ) (cells us : List ℕ) → ((j : ℕ) → get_or us j 0 ≡ 0) → Joined n s cells 0 us
unfolding Joined
joined_none n s cells us z j h = z j

-- exponent j of monomial number k
cell_of : (n s k : ℕ) (cells m : List ℕ) → k < s → m ≡ at n k cells → (j : ℕ) → j < n → get_or m j 0 ≡ get_or (column (listed n s cells) j) k 0
cell_of n s k cells m h e j l = ap (λ (y : List ℕ). get_or y j 0) e ∙ at_cell n k j cells l ∙ sym (column_listed n s cells j k l h)

pub joined_more : (n s k : ℕ) (cells us vs m : List ℕ) → k < s → m ≡ at n k cells → Wrote us (λ j. max (get_or us j 0) (get_or m j 0)) 0 n vs → Joined n s cells k us → Joined n s cells (k + 1) vs
unfolding Joined
joined_more n s k cells us vs m h e w g j l =
    rw (add-one k) (omega (arith, here, cell_of n s k cells m h e j l, g j l, greatest_take (column (listed n s cells) j) k))
  where
    here : get_or vs j 0 ≡ max (get_or us j 0) (get_or m j 0)
    here = let f : j ≡ 0 + j = omega arith in ap (λ (y : ℕ). get_or vs y 0) f ∙ w.there j l

-- monomials of which no two have a variable in common

abbrev pub Unshared : List ℕ → List ℕ → ℕ → Type 0
Unshared us m v = (j : ℕ) → j < v → min (get_or us j 0) (get_or m j 0) ≡ 0

pub unshared_none : (us m : List ℕ) → Unshared us m 0
unshared_none us m j h = absurd (omega arith)

-- c and d are 0 only where there is none below v, and below v + 1
pub unshared_more : (us m : List ℕ) (v c d : ℕ) → d ≡ max c (min (get_or us v 0) (get_or m v 0)) → (c ≡ 0 → Unshared us m v) → d ≡ 0 → Unshared us m (v + 1)
unshared_more us m v c d e f z j h = go (eqb j v) refl
  where
    go : (b : Bool) → eqb j v ≡ b → min (get_or us j 0) (get_or m j 0) ≡ 0
    go true q = rw (eqb-true j v q) (omega arith)
    go false q = f (omega arith) j (omega (arith, eqb-false j v q))

unfoldable pub Single : ℕ → ℕ → List ℕ → ℕ → Type 0
Single n s cells i = (j : ℕ) → j < n → degree (take i (column (listed n s cells) j)) ≡ greatest (take i (column (listed n s cells) j))

pub single_none : (n s : ℕ) (cells : List ℕ) → Single n s cells 0
unfolding Single
single_none n s cells j h = refl

pub single_more : (n s k : ℕ) (cells us m : List ℕ) → k < s → m ≡ at n k cells → Unshared us m n → Joined n s cells k us → Single n s cells k → Single n s cells (k + 1)
unfolding Joined Single
single_more n s k cells us m h e a g f j l =
    rw (add-one k)
    (omega (arith, a j l, cell_of n s k cells m h e j l, g j l, f j l, greatest_take (column (listed n s cells) j) k, degree_take (column (listed n s cells) j) k))

-- the first monomial, copied to zeros
pub joined_first : (n s : ℕ) (cells us vs m : List ℕ) → 0 < s → m ≡ at n 0 cells → ((j : ℕ) → get_or us j 0 ≡ 0) → Wrote us (λ j. get_or m j 0) 0 n vs → Joined n s cells 1 vs × Single n s cells 1
joined_first n s cells us vs m h e z w = (
  joined_more n s 0 cells us vs m h e (record { len = w.len; there = λ j l. w.there j l ∙ over j; other = w.other }) none,
  single_more n s 0 cells us m h e (λ j l. omega (arith, z j)) none (single_none n s cells),
)
  where
    none : Joined n s cells 0 us
    none = joined_none n s cells us z

    over : (j : ℕ) → get_or m j 0 ≡ max (get_or us j 0) (get_or m j 0)
    over j = omega (arith, z j)

whole : (n s : ℕ) (cells : List ℕ) (v : ℕ) → take s (column (listed n s cells) v) ≡ column (listed n s cells) v
whole n s cells v = take_all s (column (listed n s cells) v) (omega (arith, column_count (listed n s cells) v, listed_count n s cells))

-- the columns of the list are also those of it and none behind it
alone : (n s : ℕ) (cells : List ℕ) (v : ℕ) → take s (column (listed n s cells) v) ≡ column (both n s cells 0 cells) v
alone n s cells v = whole n s cells v ∙ ap (λ (L : List (List ℕ)). column L v) (sym (append-nil (listed n s cells)))

-- the greatest of each variable of a list

pub record Greatest (n : ℕ) (L : List (List ℕ)) (us : List ℕ) : Type 0 where
  pub len : length us ≡ n
  pub each : (v : ℕ) → v < n → get_or us v 0 ≡ greatest (column L v)

module _ {n : ℕ} {L : List (List ℕ)} {us : List ℕ} (g : Greatest n L us) where
  pub distinct_at : (v : ℕ) → v < n → get_or us v 0 ≤ 1 → distinct (column L v) ≡ get_or us v 0
  distinct_at v h r = few_distinct (column L v) (omega (arith, g.each v h)) ∙ sym (g.each v h)

  -- its degree is that of the lcm
  pub degree_greatest : degree us ≡ sum_below n (λ v. greatest (column L v))
  degree_greatest = degree_sum n us g.len ∙ sum_below_ext n (exponent us) (λ v. greatest (column L v)) g.each

  pub pairs_greatest : greatest us ≤ 1 → degree us ≡ pairs n L
  pairs_greatest r =
      degree_sum n us g.len
      ∙ sum_below_ext n (exponent us) (λ v. distinct (column L v)) (λ v h. sym (distinct_at v h (omega (arith, greatest_most us v))))

  pub pairs_single : ((v : ℕ) → v < n → degree (column L v) ≡ greatest (column L v)) → above 1 0 1 us n ≡ pairs n L
  pairs_single f = go n (omega arith)
    where
      some : (x d : ℕ) → d ≡ min x 1 → bit (leb 1 x) ≡ d
      some zero d e = omega (arith, ap bit (lt-leb 1 0 (omega arith)))
      some (suc x) d e = omega (arith, ap bit (le-leb 1 (suc x) (omega arith)))

      one : (v : ℕ) → v < n → bit (leb 1 (get_or us (v * 1 + 0) 0)) ≡ distinct (column L v)
      one v h =
          let e : v * 1 + 0 ≡ v = omega arith in
          rw e (some (get_or us v 0) (distinct (column L v)) (single_distinct (column L v) (f v h) ∙ ap (λ (x : ℕ). min x 1) (sym (g.each v h))))

      go : (k : ℕ) → k ≤ n → above 1 0 1 us k ≡ sum_below k (λ v. distinct (column L v))
      go zero h = refl
      go (suc k) h = ap₂ ◌+◌ (one k (omega arith)) (go k (omega arith))

-- the monomials of a list, all joined
pub joined_all : (n s : ℕ) (cells us vs : List ℕ) → length us ≡ n → (length vs ≡ length us) × Joined (length us) s cells s vs → Greatest n (both n s cells 0 cells) vs
unfolding Joined
joined_all n s cells us vs e f =
    record {
      len = f.0 ∙ e;
      each = λ v h. omega (arith, f.1 v (omega arith), same v);
    }
  where
    same : (v : ℕ) → greatest (take s (column (listed (length us) s cells) v)) ≡ greatest (column (both n s cells 0 cells) v)
    same v = rw e (ap greatest (alone n s cells v))

pub single_all : (n s : ℕ) (cells : List ℕ) → Single n s cells s → (v : ℕ) → v < n → degree (column (both n s cells 0 cells) v) ≡ greatest (column (both n s cells 0 cells) v)
unfolding Single
single_all n s cells f v h = rw (sym (alone n s cells v)) (f v h)

pub joined_zero : (n s : ℕ) (cells us : List ℕ) → Joined n s cells s us → (i j : ℕ) → i < s → j < n → get_or us j 0 ≡ 0 → get_or cells (i * n + j) 0 ≡ 0
unfolding Joined
joined_zero n s cells us f i j h l z =
    sym (column_listed n s cells j i l h)
    ∙ omega (arith, greatest_most (column (listed n s cells) j) i, f j l, ap greatest (whole n s cells j))
