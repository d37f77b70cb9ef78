-- What std's words on two lists are in the words of the crate laws.
--   degree_sum                          a degree as a sum
--   all_coprime, all_fits               tests of each pair of exponents, the second on equal widths
--   fold_divides                        each pair tested, with no stop at one that fails
--   sum_fits                            what the second says of one pair
--   product_cells, quotient_cells, lcm_cells, gcd_cells  a list that holds what is made of each pair, on equal widths
--   cmp_numbers                         how two numbers compare
-- Assumes nothing.
use mathlib.Core.Path.{◌≡◌, refl, sym, ap, ◌∙◌}
use mathlib.Core.Bool.{Bool, true, false, ◌&&◌, ◌||◌}
use mathlib.Core.List.{List, [], ◌∷◌}
use Prim.Native.Nat.{ℕ, zero, suc, ◌+◌, ◌-◌, ◌≤◌, ◌<◌, max, min, compare, Ordering}
use native.Mathlib.Omega.{arith}
use lib.Dec.{leb, eqb}
use lib.ListN.{length, get_or}
use Rattle.std.specs.List.{zip, list_all, fold, sum_by}
use Rattle.std.specs.Ordering.{nat_cmp}
use Rattle.std.specs.Cmp.{nat_cmp_is}
use Rattle.std.proofs.lemmas.List.Sums.{sum_by-cons}
use Rattle.laws.specs.Monomial.{degree, divides, product, quotient, lcm, gcd, coprime}
use Rattle.laws.proofs.Monomial.{and_right, head_le, cons_eq}
use Rattle.laws.proofs.Order.{Says, compare_says}
use Rattle.monomials.specs.Monomial.{order_of, at_most}

pub degree_sum : (a : List ℕ) → sum_by (λ x. x) a ≡ degree a
degree_sum [] = refl
degree_sum (x ∷ a) = sum_by-cons (λ x. x) x a ∙ ap (λ n. x + n) (degree_sum a)

-- the tests

pub all_coprime : (a b : List ℕ) → list_all (λ (p : ℕ × ℕ). eqb p.0 0 || eqb p.1 0) (zip a b) ≡ coprime a b
all_coprime [] b = refl
all_coprime (x ∷ a) [] = refl
all_coprime (x ∷ a) (y ∷ b) = ap (λ (t : Bool). (eqb x 0 || eqb y 0) && t) (all_coprime a b)

pub all_fits : (E : ℕ) (a b : List ℕ) → length b ≡ length a → list_all (λ (p : ℕ × ℕ). leb (p.0 + p.1) E) (zip a b) ≡ at_most E (product a b)
all_fits E [] [] e = refl
all_fits E [] (y ∷ b) e = absurd (omega arith)
all_fits E (x ∷ a) [] e = absurd (omega arith)
all_fits E (x ∷ a) (y ∷ b) e = ap (λ (t : Bool). leb (x + y) E && t) (all_fits E a b (omega arith))

pub fold_divides : (t : Bool) (a b : List ℕ) → length b ≡ length a → fold (λ (t : Bool) (p : ℕ × ℕ). t && leb p.0 p.1) t (zip a b) ≡ (t && divides a b)
fold_divides true [] [] e = refl
fold_divides false [] [] e = refl
fold_divides t [] (y ∷ b) e = absurd (omega arith)
fold_divides t (x ∷ a) [] e = absurd (omega arith)
fold_divides true (x ∷ a) (y ∷ b) e = fold_divides (leb x y) a b (omega arith)
fold_divides false (x ∷ a) (y ∷ b) e = fold_divides false a b (omega arith)

-- so each sum fits
pub sum_fits : (E : ℕ) (a b : List ℕ) (k : ℕ) → at_most E (product a b) ≡ true → k < length a → k < length b → get_or a k 0 + get_or b k 0 ≤ E
sum_fits E [] b k h i j = absurd (omega arith)
sum_fits E (x ∷ a) [] k h i j = absurd (omega arith)
sum_fits E (x ∷ a) (y ∷ b) zero h i j = head_le (x + y) E (at_most E (product a b)) h
sum_fits E (x ∷ a) (y ∷ b) (suc k) h i j = sum_fits E a b k (and_right (leb (x + y) E) (at_most E (product a b)) h) (omega arith) (omega arith)

-- the monomials that are written

module _ (f : ℕ → ℕ → ℕ) (g : List ℕ → List ℕ → List ℕ) (none : g [] [] ≡ []) (more : (x y : ℕ) (a b : List ℕ) → g (x ∷ a) (y ∷ b) ≡ f x y ∷ g a b) where
  -- each cell decides
  by_cells : (a b out : List ℕ) → length b ≡ length a → length out ≡ length a → ((k : ℕ) → k < length a → get_or out k 0 ≡ f (get_or a k 0) (get_or b k 0)) → out ≡ g a b
  by_cells [] [] [] e d h = sym none
  by_cells [] [] (z ∷ out) e d h = absurd (omega arith)
  by_cells [] (y ∷ b) out e d h = absurd (omega arith)
  by_cells (x ∷ a) [] out e d h = absurd (omega arith)
  by_cells (x ∷ a) (y ∷ b) [] e d h = absurd (omega arith)
  by_cells (x ∷ a) (y ∷ b) (z ∷ out) e d h = cons_eq (h 0 (omega arith)) (by_cells a b out (omega arith) (omega arith) (λ k l. h (suc k) (omega arith))) ∙ sym (more x y a b)

-- such a list, and what is asked of its cells
abbrev Cells : (ℕ → ℕ → ℕ) → (List ℕ → List ℕ → List ℕ) → Type 0
Cells f g = (a b out : List ℕ) → length b ≡ length a → length out ≡ length a → ((k : ℕ) → k < length a → get_or out k 0 ≡ f (get_or a k 0) (get_or b k 0)) → out ≡ g a b

pub product_cells : Cells ◌+◌ product
product_cells = by_cells ◌+◌ product refl (λ x y a b. refl)

pub quotient_cells : Cells ◌-◌ quotient
quotient_cells = by_cells ◌-◌ quotient refl (λ x y a b. refl)

pub lcm_cells : Cells max lcm
lcm_cells = by_cells max lcm refl (λ x y a b. refl)

pub gcd_cells : Cells min gcd
gcd_cells = by_cells min gcd refl (λ x y a b. refl)

-- two numbers

pub cmp_numbers : (x y : ℕ) → nat_cmp x y ≡ order_of (compare x y)
cmp_numbers x y = go (compare x y) (compare_says (compare x y) x y refl)
  where
    go : (o : Ordering) → Says o x y → nat_cmp x y ≡ order_of o
    go Ordering.lt h = sym (nat_cmp_is x y _ h)
    go Ordering.eq h = sym (nat_cmp_is x y _ h)
    go Ordering.gt h = sym (nat_cmp_is x y _ h)
