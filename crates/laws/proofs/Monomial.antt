-- Laws of single monomials.
--   divides_refl, divides_trans, divides_antisym   divides is an order on equal widths
--   divides_exponent, exponents_divide             divides, exponent by exponent
--   divides_degree                                 a divisor has at most the degree
--   lcm_divides                                    the lcm divides u exactly when both do
--   divides_lcm_left, divides_lcm_right            each divides the lcm
--   lcm_swap, lcm_nil, lcm_comm, lcm_assoc         the lcm's order does not matter
--   degree_lcm, degree_lcm_coprime, degree_absorb  the degree of an lcm
--   quotient_divides                               m / gcd(m, p) divides u exactly when m divides p·u
--   product_nil, degree_product, length_product    the product
--   lcm_product                                    lcm(c·e, m) = c·lcm(e, m / gcd(m, c))
--   length_lcm, length_quotient                    widths
use mathlib.Core.Path.{◌≡◌, refl, sym, ap, ap₂, ◌∙◌}
use mathlib.Core.Bool.{Bool, true, false, ◌&&◌, ◌||◌, false≢true}
use mathlib.Core.List.{List, [], ◌∷◌}
use Prim.Native.Nat.{ℕ, zero, suc, ◌+◌, ◌-◌, ◌≤◌, max, min}
use native.Mathlib.Omega.{arith}
use lib.Dec.{leb, eqb}
use lib.ListN.{length}
use borrow.Author.Tests.{leb-true, leb-false, le-leb, lt-leb, eqb-true, eqb-false}
use Rattle.laws.specs.Monomial.{degree, exponent, divides, product, quotient, lcm, coprime}

-- tests

pub and_left : (a b : Bool) → (a && b) ≡ true → a ≡ true
and_left true b h = refl
and_left false b h = h

pub and_right : (a b : Bool) → (a && b) ≡ true → b ≡ true
and_right true b h = h
and_right false b h = cc

pub or_right : (a b : Bool) → b ≡ true → (a || b) ≡ true
or_right true b h = refl
or_right false b h = h

pub and_true : (a : Bool) → a ≡ (a && true)
and_true true = refl
and_true false = refl

and_swap : (a b c d : Bool) → ((a && c) && (b && d)) ≡ ((a && b) && (c && d))
and_swap true true c d = refl
and_swap true false true d = refl
and_swap true false false d = refl
and_swap false b c d = refl

-- two tests that imply one another are one
pub bool_ext : (a b : Bool) → (a ≡ true → b ≡ true) → (b ≡ true → a ≡ true) → a ≡ b
bool_ext true b f g = sym (f refl)
bool_ext false true f g = g refl
bool_ext false false f g = refl

-- a test that fails where another would give a contradiction
pub not_true : (a : Bool) → (a ≡ true → ⊥) → a ≡ false
not_true true f = absurd (f refl)
not_true false f = refl

pub cons_eq : {x y : ℕ} {a b : List ℕ} → x ≡ y → a ≡ b → x ∷ a ≡ y ∷ b
cons_eq p q = ap₂ {C = List ℕ} ◌∷◌ p q

-- the exponents of the first variable, from a test that passed
pub head_le : (x y : ℕ) (b : Bool) → (leb x y && b) ≡ true → x ≤ y
head_le x y b h = leb-true x y (and_left (leb x y) b h)

-- divides

pub divides_refl : (a : List ℕ) → divides a a ≡ true
divides_refl [] = refl
divides_refl (x ∷ a) = ap₂ ◌&&◌ (le-leb x x (omega arith)) (divides_refl a)

pub divides_trans : (a b c : List ℕ) → divides a b ≡ true → divides b c ≡ true → divides a c ≡ true
divides_trans [] b c h g = refl
divides_trans (x ∷ a) [] [] h g = h
divides_trans (x ∷ a) [] (z ∷ c) h g =
    ap₂ ◌&&◌ (le-leb x z (omega (arith, head_le x 0 (divides a []) h))) (divides_trans a [] c (and_right (leb x 0) (divides a []) h) refl)
divides_trans (x ∷ a) (y ∷ b) [] h g =
    ap₂ ◌&&◌ (le-leb x 0 (omega (arith, head_le x y (divides a b) h, head_le y 0 (divides b []) g)))
    (divides_trans a b [] (and_right (leb x y) (divides a b) h) (and_right (leb y 0) (divides b []) g))
divides_trans (x ∷ a) (y ∷ b) (z ∷ c) h g =
    ap₂ ◌&&◌ (le-leb x z (omega (arith, head_le x y (divides a b) h, head_le y z (divides b c) g)))
    (divides_trans a b c (and_right (leb x y) (divides a b) h) (and_right (leb y z) (divides b c) g))

pub divides_antisym : (a b : List ℕ) → length a ≡ length b → divides a b ≡ true → divides b a ≡ true → a ≡ b
divides_antisym [] [] e h g = refl
divides_antisym [] (y ∷ b) e h g = absurd (omega arith)
divides_antisym (x ∷ a) [] e h g = absurd (omega arith)
divides_antisym (x ∷ a) (y ∷ b) e h g =
    cons_eq (omega (arith, head_le x y (divides a b) h, head_le y x (divides b a) g))
    (divides_antisym a b (omega arith) (and_right (leb x y) (divides a b) h) (and_right (leb y x) (divides b a) g))

pub divides_degree : (a b : List ℕ) → divides a b ≡ true → degree a ≤ degree b
divides_degree [] b h = omega arith
divides_degree (x ∷ a) [] h = omega (arith, head_le x 0 (divides a []) h, divides_degree a [] (and_right (leb x 0) (divides a []) h))
divides_degree (x ∷ a) (y ∷ b) h = omega (arith, head_le x y (divides a b) h, divides_degree a b (and_right (leb x y) (divides a b) h))

pub divides_exponent : (a b : List ℕ) → divides a b ≡ true → (v : ℕ) → exponent a v ≤ exponent b v
divides_exponent [] b h v = omega arith
divides_exponent (x ∷ a) [] h zero = head_le x 0 (divides a []) h
divides_exponent (x ∷ a) [] h (suc v) = divides_exponent a [] (and_right (leb x 0) (divides a []) h) v
divides_exponent (x ∷ a) (y ∷ b) h zero = head_le x y (divides a b) h
divides_exponent (x ∷ a) (y ∷ b) h (suc v) = divides_exponent a b (and_right (leb x y) (divides a b) h) v

pub exponents_divide : (a b : List ℕ) → ((v : ℕ) → exponent a v ≤ exponent b v) → divides a b ≡ true
exponents_divide [] b h = refl
exponents_divide (x ∷ a) [] h = ap₂ ◌&&◌ (le-leb x 0 (h 0)) (exponents_divide a [] (λ v. h (suc v)))
exponents_divide (x ∷ a) (y ∷ b) h = ap₂ ◌&&◌ (le-leb x y (h 0)) (exponents_divide a b (λ v. h (suc v)))

-- the unit divides every monomial
pub unit_divides : (m u : List ℕ) → degree m ≡ 0 → divides m u ≡ true
unit_divides [] u h = refl
unit_divides (x ∷ m) [] h = ap₂ ◌&&◌ (le-leb x 0 (omega arith)) (unit_divides m [] (omega arith))
unit_divides (x ∷ m) (y ∷ u) h = ap₂ ◌&&◌ (le-leb x y (omega arith)) (unit_divides m u (omega arith))

-- the lcm

leb_max : (x y z : ℕ) → leb (max x y) z ≡ (leb x z && leb y z)
leb_max x y z = go (leb x z) (leb y z) refl refl
  where
    go : (a b : Bool) → leb x z ≡ a → leb y z ≡ b → leb (max x y) z ≡ (a && b)
    go true true p q = le-leb (max x y) z (omega (arith, leb-true, leb-true))
    go true false p q = lt-leb (max x y) z (omega (arith, leb-true, leb-false))
    go false b p q = lt-leb (max x y) z (omega (arith, leb-false))

pub lcm_divides : (a b u : List ℕ) → divides (lcm a b) u ≡ (divides a u && divides b u)
lcm_divides [] b u = refl
lcm_divides (x ∷ a) [] [] = and_true (leb x 0 && divides a [])
lcm_divides (x ∷ a) [] (z ∷ u) = and_true (leb x z && divides a u)
lcm_divides (x ∷ a) (y ∷ b) [] = ap₂ ◌&&◌ (leb_max x y 0) (lcm_divides a b []) ∙ and_swap (leb x 0) (divides a []) (leb y 0) (divides b [])
lcm_divides (x ∷ a) (y ∷ b) (z ∷ u) = ap₂ ◌&&◌ (leb_max x y z) (lcm_divides a b u) ∙ and_swap (leb x z) (divides a u) (leb y z) (divides b u)

pub divides_lcm_left : (m a b : List ℕ) → divides m a ≡ true → divides m (lcm a b) ≡ true
divides_lcm_left m a b h = divides_trans m a (lcm a b) h (and_left (divides a (lcm a b)) (divides b (lcm a b)) (sym (lcm_divides a b (lcm a b)) ∙ divides_refl (lcm a b)))

pub divides_lcm_right : (m a b : List ℕ) → divides m b ≡ true → divides m (lcm a b) ≡ true
divides_lcm_right m a b h = divides_trans m b (lcm a b) h (and_right (divides a (lcm a b)) (divides b (lcm a b)) (sym (lcm_divides a b (lcm a b)) ∙ divides_refl (lcm a b)))

pub lcm_nil : (a : List ℕ) → lcm a [] ≡ a
lcm_nil [] = refl
lcm_nil (x ∷ a) = refl

pub lcm_comm : (a b : List ℕ) → lcm a b ≡ lcm b a
lcm_comm [] b = sym (lcm_nil b)
lcm_comm (x ∷ a) [] = refl
lcm_comm (x ∷ a) (y ∷ b) = cons_eq (omega arith) (lcm_comm a b)

pub lcm_assoc : (a b c : List ℕ) → lcm (lcm a b) c ≡ lcm a (lcm b c)
lcm_assoc [] b c = refl
lcm_assoc (x ∷ a) [] c = refl
lcm_assoc (x ∷ a) (y ∷ b) [] = refl
lcm_assoc (x ∷ a) (y ∷ b) (z ∷ c) = cons_eq (omega arith) (lcm_assoc a b c)

pub lcm_swap : (c m b : List ℕ) → lcm (lcm c m) b ≡ lcm (lcm c b) m
lcm_swap c m b = lcm_assoc c m b ∙ ap (lcm c) (lcm_comm m b) ∙ sym (lcm_assoc c b m)

pub length_lcm : (a b : List ℕ) → length (lcm a b) ≡ max (length a) (length b)
length_lcm [] b = omega arith
length_lcm (x ∷ a) [] = omega arith
length_lcm (x ∷ a) (y ∷ b) = omega (arith, length_lcm a b)

pub degree_lcm : (a b : List ℕ) → degree a ≤ degree (lcm a b)
degree_lcm a b = divides_degree a (lcm a b) (divides_lcm_left a a b (divides_refl a))

-- the lcm with a divisor has the same degree
pub degree_absorb : (m c : List ℕ) → divides m c ≡ true → degree (lcm c m) ≡ degree c
degree_absorb [] [] h = refl
degree_absorb [] (y ∷ c) h = refl
degree_absorb (x ∷ m) [] h = omega (arith, head_le x 0 (divides m []) h, degree_absorb m [] (and_right (leb x 0) (divides m []) h))
degree_absorb (x ∷ m) (y ∷ c) h = omega (arith, head_le x y (divides m c) h, degree_absorb m c (and_right (leb x y) (divides m c) h))

-- coprime monomials

-- a variable is in at most one of the two
pub apart_min : (x y : ℕ) → (eqb x 0 || eqb y 0) ≡ true → min x y ≡ 0
apart_min x y h = go (eqb x 0) (eqb y 0) refl refl h
  where
    go : (s t : Bool) → eqb x 0 ≡ s → eqb y 0 ≡ t → (s || t) ≡ true → min x y ≡ 0
    go true t p q r = omega (arith, eqb-true x 0 p)
    go false true p q r = omega (arith, eqb-true y 0 q)
    go false false p q r = absurd (false≢true r)

pub min_apart : (x y : ℕ) → min x y ≡ 0 → (eqb x 0 || eqb y 0) ≡ true
min_apart x y h = go (eqb x 0) (eqb y 0) refl refl
  where
    go : (s t : Bool) → eqb x 0 ≡ s → eqb y 0 ≡ t → (s || t) ≡ true
    go true t p q = refl
    go false true p q = refl
    go false false p q = absurd (omega (arith, eqb-false x 0 p, eqb-false y 0 q))

pub coprime_head : (x y : ℕ) (a b : List ℕ) → coprime (x ∷ a) (y ∷ b) ≡ true → min x y ≡ 0
coprime_head x y a b h = apart_min x y (and_left (eqb x 0 || eqb y 0) (coprime a b) h)

pub coprime_tail : (x y : ℕ) (a b : List ℕ) → coprime (x ∷ a) (y ∷ b) ≡ true → coprime a b ≡ true
coprime_tail x y a b h = and_right (eqb x 0 || eqb y 0) (coprime a b) h

pub degree_lcm_coprime : (a b : List ℕ) → coprime a b ≡ true → degree (lcm a b) ≡ degree a + degree b
degree_lcm_coprime [] b h = omega arith
degree_lcm_coprime (x ∷ a) [] h = omega arith
degree_lcm_coprime (x ∷ a) (y ∷ b) h = omega (arith, coprime_head x y a b h, degree_lcm_coprime a b (coprime_tail x y a b h))

pub coprime_lcm : (a b m : List ℕ) → coprime a m ≡ true → coprime b m ≡ true → coprime (lcm a b) m ≡ true
coprime_lcm [] b m h g = g
coprime_lcm (x ∷ a) [] m h g = h
coprime_lcm (x ∷ a) (y ∷ b) [] h g = refl
coprime_lcm (x ∷ a) (y ∷ b) (z ∷ m) h g =
    ap₂ ◌&&◌ (min_apart (max x y) z (omega (arith, coprime_head x z a m h, coprime_head y z b m g)))
    (coprime_lcm a b m (coprime_tail x z a m h) (coprime_tail y z b m g))

-- products and quotients

pub product_nil : (a : List ℕ) → product a [] ≡ a
product_nil [] = refl
product_nil (x ∷ a) = refl

pub degree_product : (a b : List ℕ) → degree (product a b) ≡ degree a + degree b
degree_product [] b = omega arith
degree_product (x ∷ a) [] = omega arith
degree_product (x ∷ a) (y ∷ b) = omega (arith, degree_product a b)

pub length_product : (a b : List ℕ) → length (product a b) ≡ max (length a) (length b)
length_product [] b = omega arith
length_product (x ∷ a) [] = omega arith
length_product (x ∷ a) (y ∷ b) = omega (arith, length_product a b)

pub length_quotient : (a b : List ℕ) → length (quotient a b) ≡ length a
length_quotient a [] = refl
length_quotient [] (y ∷ b) = refl
length_quotient (x ∷ a) (y ∷ b) = ap suc (length_quotient a b)

leb_sub : (x y z : ℕ) → leb (x - y) z ≡ leb x (y + z)
leb_sub x y z = go (leb (x - y) z) refl
  where
    go : (t : Bool) → leb (x - y) z ≡ t → t ≡ leb x (y + z)
    go true p = sym (le-leb x (y + z) (omega (arith, leb-true (x - y) z p)))
    go false p = sym (lt-leb x (y + z) (omega (arith, leb-false (x - y) z p)))

pub quotient_divides : (m p u : List ℕ) → divides (quotient m p) u ≡ divides m (product p u)
quotient_divides m [] u = refl
quotient_divides [] (y ∷ p) u = refl
quotient_divides (x ∷ m) (y ∷ p) [] = ap₂ ◌&&◌ (leb_sub x y 0 ∙ ap (leb x) (omega arith)) (quotient_divides m p [] ∙ ap (divides m) (product_nil p))
quotient_divides (x ∷ m) (y ∷ p) (z ∷ u) = ap₂ ◌&&◌ (leb_sub x y z) (quotient_divides m p u)

lcm_quotient : (c m : List ℕ) → lcm c m ≡ product c (quotient m c)
lcm_quotient [] m = refl
lcm_quotient (x ∷ c) [] = refl
lcm_quotient (x ∷ c) (y ∷ m) = cons_eq (omega arith) (lcm_quotient c m)

pub lcm_product : (c e m : List ℕ) → lcm (product c e) m ≡ product c (lcm e (quotient m c))
lcm_product [] e m = refl
lcm_product (x ∷ c) [] m = lcm_quotient (x ∷ c) m
lcm_product (x ∷ c) (y ∷ e) [] = refl
lcm_product (x ∷ c) (y ∷ e) (z ∷ m) = cons_eq (omega arith) (lcm_product c e m)
