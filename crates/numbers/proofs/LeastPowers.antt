-- The degree bound and the product of the least powers, as loops over them find them. Assumes nothing.
use Rattle.std.proofs.Common.{◌≡◌, ℕ, ◌+◌, ◌-◌, ◌*◌, ◌^◌, ◌<◌, ◌≤◌, Bool, true, false, ltb, ◌≢◌, List, ◌∷◌, length, get_or, sym, refl, ap, ◌∙◌, le_trans, mul_comm, le-mul_of_pos_right, arith, lit≤, ltb-false, ltb-true, le-ltb, lt-ltb, ne_eqb, le-leb}
use borrow.Author.Tests.{lt-leb}
use Rattle.laws.specs.Monomial.{degree}
use Rattle.laws.specs.Ideal.{listed, unit_in}
use Rattle.laws.specs.Sums.{sum_below, product_below}
use Rattle.laws.specs.Dimension.{pure_power, lesser, least_power, finite, degree_bound, powers_product}
use Rattle.laws.proofs.Monomial.{not_true}
use Rattle.laws.proofs.Ideal.{listed_from, listed_next, listed_none}
use Rattle.laws.proofs.Rows.{at, at_length, part_is}
use Rattle.laws.proofs.Sums.{product_below_ext}
use Rattle.laws.proofs.Asked.{sum_below_ext}
use Rattle.laws.proofs.Dimension.{finite_power, power_finite}
use Rattle.monomials.specs.declared.refusal.Refusal.TheVariants.{Dimension, Value}
use Rattle.numbers.specs.Wide.{value, wide, product_answer}
use Rattle.numbers.specs.DimensionParts.{Powers, BoundOf}
use Rattle.numbers.specs.declared.wide.Wide.{Wide}
use Rattle.std.specs.Prelude.{Option, Some, None, Ok, Err}
use Rattle.numbers.proofs.TwoWords.{value_exact, passes}

-- what a product's answer says

pub product_some : (q : ℕ) (w : Wide) → product_answer q ≡ Some w → (q < 2 ^ 127) × (w ≡ wide q)
product_some q w e = go (ltb q (2 ^ 127)) refl
  where
    go : (t : Bool) → ltb q (2 ^ 127) ≡ t → (q < 2 ^ 127) × (w ≡ wide q)
    go true l = (ltb-true q (2 ^ 127) l, cc (rw l at e))
    go false l = let z : ◌≡◌ {A = ℕ} 0 1 = cc (rw l at e) in absurd (omega arith)

pub product_none : (q : ℕ) → product_answer q ≡ None → 2 ^ 127 ≤ q
product_none q e = go (ltb q (2 ^ 127)) refl
  where
    go : (t : Bool) → ltb q (2 ^ 127) ≡ t → 2 ^ 127 ≤ q
    go true l = let z : ◌≡◌ {A = ℕ} 0 1 = cc (rw l at e) in absurd (omega arith)
    go false l = ltb-false q (2 ^ 127) l

-- a product and one factor more
module _ (q x : ℕ) (a : Option Wide) (e : a ≡ product_answer q) where
  pub times_some : (w : Wide) (r : Option Wide) → a ≡ Some w → r ≡ product_answer (value w * x) → r ≡ product_answer (x * q)
  times_some w r g h =
      let (l, k) = product_some q w (sym e ∙ g) in
      let v : value w ≡ q = ap value k ∙ value_exact q (le_trans l (lit≤ tt)) in
      h ∙ ap product_answer (ap (λ (y : ℕ). y * x) v ∙ mul_comm q x)

  pub times_none : x ≢ 0 → a ≡ None → None ≡ product_answer (x * q)
  times_none n g = passes (x * q) (le_trans (product_none q (sym e ∙ g)) (rw (mul_comm x q) (le-mul_of_pos_right q (omega arith))))

-- the checks 13 and 11 by the least powers

module _ (M n : ℕ) (powers : List ℕ) where
  -- a variable has no power
  pub bound_missing : (v : ℕ) → v < n → get_or powers v 0 ≡ 0 → BoundOf M n powers (Err Dimension)
  bound_missing v h z L p =
      let e : finite n L ≡ false = not_true (finite n L) (λ t. finite_power n L v t h (sym (p v h) ∙ z)) in
      rw e

  -- each has one
  module _ (d : ℕ) (e : d ≡ sum_below n (λ v. get_or powers v 0 - 1)) (some : (v : ℕ) → v < n → get_or powers v 0 ≢ 0) where
    all : (L : List (List ℕ)) → Powers n L powers → finite n L ≡ true
    all L p = power_finite n L (λ v h z. some v h (p v h ∙ z))

    bound : (L : List (List ℕ)) → Powers n L powers → d ≡ degree_bound n L
    bound L p = e ∙ sum_below_ext n (λ v. get_or powers v 0 - 1) (λ v. least_power L v - 1) (λ v h. ap (λ (x : ℕ). x - 1) (p v h))

    pub bound_large : M < d → BoundOf M n powers (Err Dimension)
    bound_large h L p = rw (all L p, ← bound L p, lt-ltb M d h)

    module _ (h : d ≤ M) (a : Option Wide) (f : a ≡ product_answer (product_below n (λ v. get_or powers v 0))) where
      answer : (L : List (List ℕ)) → Powers n L powers → a ≡ product_answer (powers_product n L)
      answer L p = f ∙ ap product_answer (product_below_ext n (λ v. get_or powers v 0) (least_power L) p)

      pub bound_none : a ≡ None → BoundOf M n powers (Err Value)
      bound_none g L p =
          rw (all L p, ← bound L p, le-ltb M d h, le-leb (2 ^ 127) (powers_product n L) (product_none (powers_product n L) (sym (answer L p) ∙ g)))

      pub bound_some : (w : Wide) → a ≡ Some w → BoundOf M n powers (Ok d)
      bound_some w g L p =
          rw (all L p, ← bound L p, le-ltb M d h, lt-leb (2 ^ 127) (powers_product n L) (product_some (powers_product n L) w (sym (answer L p) ∙ g)).0)

-- the listed monomials in their cells, one after the other: a is number i
module _ (n s : ℕ) (cells : List ℕ) (c : s * n ≤ length cells) (w : n ≤ 255) (i : ℕ) where
  module _ (a : List ℕ) (h : i < s) (e : a ≡ at n i cells) where
    pub row_length : length a ≡ n
    row_length = ap length e ∙ at_length n s i cells h c

    split : listed_from n s i cells ≡ a ∷ listed_from n s (i + 1) cells
    split = listed_next n s i cells h ∙ ap (λ (y : List ℕ). y ∷ listed_from n s (i + 1) cells) (part_is n (i * n) cells ∙ sym e)

    module _ (d : ℕ) (g : d ≡ degree a) (u : unit_in (listed n s cells) ≡ unit_in (listed_from n s i cells)) where
      pub unit_next : d ≢ 0 → unit_in (listed n s cells) ≡ unit_in (listed_from n s (i + 1) cells)
      unit_next z = u ∙ ap unit_in split ∙ rw (ne_eqb (degree a) 0 (λ w. z (g ∙ w)))

    pub powers_next : (j v x y : ℕ) → j ≡ i + 1 → x ≡ least_power (listed_from n s j cells) v → y ≡ lesser (pure_power a v) x → y ≡ least_power (listed_from n s i cells) v
    powers_next j v x y k q f = f ∙ rw (q, k) (sym (ap (λ (L : List (List ℕ)). least_power L v) split))

  pub unit_none : s ≤ i → unit_in (listed n s cells) ≡ unit_in (listed_from n s i cells) → false ≡ unit_in (listed n s cells)
  unit_none h e = sym (e ∙ ap unit_in (listed_none n s i cells h))

  pub powers_none : (v x : ℕ) → s ≤ i → x ≡ 0 → x ≡ least_power (listed_from n s i cells) v
  powers_none v x h e = e ∙ sym (ap (λ (L : List (List ℕ)). least_power L v) (listed_none n s i cells h))
