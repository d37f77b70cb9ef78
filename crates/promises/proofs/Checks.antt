-- From an order of checks, which the contracts have as a list of tests, to rules in words: the first that holds decides.
--   Means cs rs         == each test of cs passes exactly when the condition of its rule holds, and asks for the rule's number
--   first_holds         the number is that of the first rule that holds
--   first_unique, first_exactly   no other number is
--   passes              the first check of a call that is done
--   after_status        what a lent slice holds after a refusal, and after none
-- Assumes nothing.
use mathlib.Core.Path.{◌≡◌, refl, sym, ap, ◌∙◌}
use mathlib.Core.Logic.{◌≢◌, ◌↔◌, ◌⊎◌, inl, inr}
use mathlib.Core.Bool.{Bool, true, false, not, ◌&&◌, ◌||◌, cond, false≢true}
use mathlib.Core.List.{List, [], ◌∷◌, ◌++◌}
use mathlib.Core.Option.{Option, none, some}
use Prim.Native.Nat.{ℕ, zero, suc, ◌+◌, ◌*◌, ◌≤◌, ◌<◌}
use native.Mathlib.Omega.{arith}
use lib.Dec.{leb, ltb, eqb}
use borrow.Author.Tests.{ltb-true, lt-ltb, leb-true, leb-false, le-leb, lt-leb, eq-eqb, eqb-true, eqb-false, ne_eqb, not-true}
use lib.IntN.{ℤ, nat_abs}
use lib.ListN.{length, drop}
use Rattle.laws.specs.Monomial.{degree, exponent, product, divides}
use Rattle.laws.specs.Coefficients.{coefficient}
use Rattle.laws.specs.Dimension.{least_power, finite, degree_bound}
use Rattle.laws.specs.Ideal.{In, unit_in}
use Rattle.laws.proofs.Monomial.{or_right, not_true as if_not}
use Rattle.laws.proofs.Dimension.{finite_power}
use Rattle.laws.proofs.Ideal.{unit_member}
use Rattle.numbers.specs.Dimension.{no_dimension}
use Rattle.numbers.specs.Numerator.{list_checks}
use Rattle.numbers.specs.Update.{beyond}
use Rattle.monomials.specs.Monomial.{at_most}
use Rattle.monomials.specs.Refusal.{number, Check, refusal, after}
use Rattle.monomials.specs.declared.refusal.Refusal.{Refusal}
use Rattle.monomials.specs.declared.refusal.Refusal.TheVariants.{Width, Count, Cells, Place, Exponent, Division, CellRoom, CoefficientRoom, SumRoom, Degree, Value, Record, Dimension, Output, Coefficient}
use Rattle.records.specs.Host.{status}
use Rattle.promises.specs.Promise.{Rule, Decided, First, After}

abbrev pub Means : List Check → List Rule → Type 0
Means [] [] = Unit {0}
Means [] (r ∷ rs) = ⊥
Means (c ∷ cs) [] = ⊥
Means (c ∷ cs) (r ∷ rs) = ((c.0 ≡ true) ↔ r.0) × ((number c.1 ≡ r.1) × Means cs rs)

pub first_holds : (cs : List Check) (rs : List Rule) → Means cs rs → Decided rs (status (refusal cs))
first_holds [] [] m = refl
first_holds [] (r ∷ rs) m = absurd m
first_holds (c ∷ cs) [] m = absurd m
first_holds ((true, q) ∷ cs) (r ∷ rs) m = inl (m.0.0 refl, m.1.0)
first_holds ((false, q) ∷ cs) (r ∷ rs) m = inr (λ h. false≢true (m.0.1 h), first_holds cs rs m.1.1)

pub first_unique : (rs : List Rule) (j k : ℕ) → Decided rs j → Decided rs k → j ≡ k
first_unique [] j k p q = p ∙ sym q
first_unique (r ∷ rs) j k (inl p) (inl q) = p.1 ∙ sym q.1
first_unique (r ∷ rs) j k (inl p) (inr q) = absurd (q.0 p.0)
first_unique (r ∷ rs) j k (inr p) (inl q) = absurd (p.0 q.0)
first_unique (r ∷ rs) j k (inr p) (inr q) = first_unique rs j k p.1 q.1

-- the number is k exactly when k is that of the first rule that holds
pub first_exactly : {rs : List Rule} {j : ℕ} → First rs j → (k : ℕ) → (j ≡ k) ↔ First rs k
first_exactly {rs} {j} p k = (λ e. rw e at p, λ q. first_unique rs j k p.decided q.decided)

-- 2, where check 1 passes and check 2 does not
pub too_many : {n s k : ℕ} {rs : List Rule} → First ((255 < n, 1) ∷ (60 < s, 2) ∷ rs) k → n ≤ 255 → 60 < s → k ≡ 2
too_many f w m = (first_exactly f 2).1 (record { decided = inr (λ h. omega arith, inl (m, refl)) })

-- tests and conditions

pub above : (a b : ℕ) → (ltb a b ≡ true) ↔ (a < b)
above a b = (ltb-true a b, lt-ltb a b)

pub reaches : (a b : ℕ) → (leb a b ≡ true) ↔ (a ≤ b)
reaches a b = (leb-true a b, le-leb a b)

pub differs : (a b : ℕ) → (not (eqb a b) ≡ true) ↔ (a ≢ b)
differs a b = (λ h. eqb-false a b (not-true (eqb a b) h), λ h. ap not (ne_eqb a b h))

pub equals : (a b : ℕ) → (eqb a b ≡ true) ↔ (a ≡ b)
equals a b = (eqb-true a b, eq-eqb a b)

pub fails : (t : Bool) → (not t ≡ true) ↔ (t ≡ false)
fails t = (not-true t, λ h. ap not h)

pub twice : {P : Type 0} (t : Bool) → (t ≡ true) ↔ P → ((t || t) ≡ true) ↔ P
twice true f = f
twice false f = f

pub either : {P Q : Type 0} (s t : Bool) → (s ≡ true) ↔ P → (t ≡ true) ↔ Q → ((s || t) ≡ true) ↔ (P ⊎ Q)
either true t f g = (λ h. inl (f.0 refl), λ h. refl)
either false t f g = (λ h. inr (g.0 h), λ h. elim h [ inl p ↦ absurd (false≢true (f.1 p)) | inr q ↦ g.1 q ])

-- no refusal has the number 0
pub number_there : (r : Refusal) → number r ≢ 0
number_there Width e = absurd (omega arith)
number_there Count e = absurd (omega arith)
number_there Cells e = absurd (omega arith)
number_there Place e = absurd (omega arith)
number_there Exponent e = absurd (omega arith)
number_there Division e = absurd (omega arith)
number_there CellRoom e = absurd (omega arith)
number_there CoefficientRoom e = absurd (omega arith)
number_there SumRoom e = absurd (omega arith)
number_there Degree e = absurd (omega arith)
number_there Value e = absurd (omega arith)
number_there Record e = absurd (omega arith)
number_there Dimension e = absurd (omega arith)
number_there Output e = absurd (omega arith)
number_there Coefficient e = absurd (omega arith)

pub done_none : (o : Option Refusal) → status o ≡ 0 → o ≡ none
done_none none e = refl
done_none (some r) e = absurd (number_there r e)

-- where nothing is refused, the first check passes, and those after it refuse nothing
pub passes : (t : Bool) (q : Refusal) (cs : List Check) → refusal ((t, q) ∷ cs) ≡ none → (t ≡ false) × (refusal cs ≡ none)
passes true q cs e = let z : ◌≡◌ {A = ℕ} 0 1 = cc in absurd (omega arith)
passes false q cs e = (refl, e)

-- what a lent slice holds

pub after_status : {A : Type 0} (o : Option Refusal) (x y : A) → After (status o) (after o y x) x y
after_status none x y = (λ h. refl, λ h. absurd (h refl))
after_status (some r) x y = (λ h. absurd (number_there r h), λ h. refl)

-- answers that come before the later checks

-- one check in front of others
pub cons_first : {P : Type 0} (t : Bool) (q : Refusal) (cs : List Check) {rs : List Rule} → (t ≡ true) ↔ P → First rs (status (refusal cs)) → First ((P, number q) ∷ rs) (status (refusal ((t, q) ∷ cs)))
cons_first true q cs f g = record { decided = inl (f.0 refl, refl) }
cons_first false q cs f g = record { decided = inr (λ h. false≢true (f.1 h), g.decided) }

-- checks 1, 2 and 3 of a list
pub list_first : (n s : ℕ) (cells : List ℕ) (ds : List Check) {qs : List Rule} → First qs (status (refusal ds))
    → First ((255 < n, 1) ∷ (60 < s, 2) ∷ (length cells ≢ s * n, 3) ∷ qs) (status (refusal (list_checks 255 60 n s cells ++ ds)))
list_first n s cells ds f =
    cons_first (ltb 255 n) Width (drop 1 (list_checks 255 60 n s cells ++ ds)) (above 255 n)
    (cons_first (ltb 60 s) Count (drop 2 (list_checks 255 60 n s cells ++ ds)) (above 60 s)
    (cons_first (not (eqb (length cells) (s * n))) Cells ds (differs (length cells) (s * n)) f))

-- two conditions under which nothing more is looked at
pub early_first : {P Q : Type 0} (s t : Bool) (ds : List Check) {rs : List Rule} → (s ≡ true) ↔ P → (t ≡ true) ↔ Q → Means ds rs → First ((P, 0) ∷ (Q, 0) ∷ rs) (status (refusal (cond (s || t) [] ds)))
early_first true t ds f g m = record { decided = inl (f.0 refl, refl) }
early_first false true ds f g m = record { decided = inr (λ h. false≢true (f.1 h), inl (g.0 refl, refl)) }
early_first false false ds {rs} f g m = record { decided = inr (λ h. false≢true (f.1 h), inr (λ h. false≢true (g.1 h), first_holds ds rs m)) }

-- the conditions of 01 that are not comparisons

-- at the first place, or at a later one
pub somewhere : {P : ℕ → Type 0} (s t : Bool) → (s ≡ true) ↔ P 0 → (t ≡ true) ↔ ((v : ℕ) × P (suc v)) → ((s || t) ≡ true) ↔ ((v : ℕ) × P v)
somewhere {P} true t f g = (λ h. (0, f.0 refl), λ h. refl)
somewhere {P} false t f g = (λ h. let (v, p) = g.0 h in (suc v, p), λ h. back h.0 h.1)
  where
    back : (v : ℕ) → P v → t ≡ true
    back zero p = absurd (false≢true (f.1 p))
    back (suc v) p = g.1 (v, p)

not_both : (s t : Bool) → not (s && t) ≡ (not s || not t)
not_both true t = refl
not_both false t = refl

-- a list of no cells has no exponent above another
nowhere : {P : ℕ → Type 0} → ((v : ℕ) → P v → ⊥) → (false ≡ true) ↔ ((v : ℕ) × P v)
nowhere f = (λ h. absurd (false≢true h), λ h. absurd (f h.0 h.1))

above_not : (x E : ℕ) → (not (leb x E) ≡ true) ↔ (E < x)
above_not x E = (λ h. leb-false x E (not-true (leb x E) h), λ h. ap not (lt-leb x E h))

above_at : (E : ℕ) (m : List ℕ) → (not (at_most E m) ≡ true) ↔ ((v : ℕ) × (E < exponent m v))
above_at E [] = nowhere (λ v h. omega arith)
above_at E (x ∷ m) = rw (not_both (leb x E) (at_most E m)) (somewhere (not (leb x E)) (not (at_most E m)) (above_not x E) (above_at E m))

product_exponent : (a b : List ℕ) (v : ℕ) → exponent (product a b) v ≡ exponent a v + exponent b v
product_exponent [] b v = omega arith
product_exponent (x ∷ a) [] v = omega arith
product_exponent (x ∷ a) (y ∷ b) zero = refl
product_exponent (x ∷ a) (y ∷ b) (suc v) = product_exponent a b v

pub product_above : (E : ℕ) (a b : List ℕ) → (not (at_most E (product a b)) ≡ true) ↔ ((v : ℕ) × (E < exponent a v + exponent b v))
product_above E a b = (
  λ h. let (v, l) = (above_at E (product a b)).0 h in (v, rw (product_exponent a b v) at l),
  λ h. (above_at E (product a b)).1 (h.0, rw (product_exponent a b h.0) h.1),
)

pub not_divides : (b a : List ℕ) → (not (divides b a) ≡ true) ↔ ((v : ℕ) × (exponent a v < exponent b v))
not_divides [] a = nowhere (λ v h. omega arith)
not_divides (y ∷ b) [] = rw (not_both (leb y 0) (divides b [])) (somewhere (not (leb y 0)) (not (divides b [])) (above_not y 0) (not_divides b []))
not_divides (y ∷ b) (x ∷ a) = rw (not_both (leb y x) (divides b a)) (somewhere (not (leb y x)) (not (divides b a)) (above_not y x) (not_divides b a))

pub coefficient_beyond : (M : ℕ) (G : List ℤ) → (beyond M G ≡ true) ↔ ((k : ℕ) × (M < nat_abs (coefficient G k)))
coefficient_beyond M [] = nowhere (λ k h. omega arith)
coefficient_beyond M (z ∷ G) = somewhere (ltb M (nat_abs z)) (beyond M G) (above M (nat_abs z)) (coefficient_beyond M G)

pub unit_in_lem : (L : List (List ℕ)) → (unit_in L ≡ true) ↔ ((m : List ℕ) × In m L × (degree m ≡ 0))
unit_in_lem L = (unit_member L, λ h. there L h.0 h.1 h.2)
  where
    there : (L : List (List ℕ)) (m : List ℕ) → In m L → degree m ≡ 0 → unit_in L ≡ true
    there [] m i e = absurd i
    there (a ∷ L) m (inl p) e = ap (λ (t : Bool). t || unit_in L) (eq-eqb (degree a) 0 (ap degree (sym p) ∙ e))
    there (a ∷ L) m (inr i) e = or_right (eqb (degree a) 0) (unit_in L) (there L m i e)

-- some variable has no pure power
no_power : (n : ℕ) (L : List (List ℕ)) → (not (finite n L) ≡ true) ↔ ((v : ℕ) × (v < n) × (least_power L v ≡ 0))
no_power n L = (missing n, λ h. ap not (if_not (finite n L) (λ f. finite_power n L h.0 f h.1 h.2)))
  where
    missing : (n : ℕ) → not (finite n L) ≡ true → (v : ℕ) × (v < n) × (least_power L v ≡ 0)
    missing zero h = absurd (false≢true h)
    missing (suc n) h = go (eqb (least_power L n) 0) refl (missing n)
      where
        go : (t : Bool) → eqb (least_power L n) 0 ≡ t → (not (finite n L) ≡ true → (v : ℕ) × (v < n) × (least_power L v ≡ 0)) → (v : ℕ) × (v < suc n) × (least_power L v ≡ 0)
        go true e f = (n, omega arith, eqb-true (least_power L n) 0 e)
        go false e f = let (v, l, p) = f (rw e at h) in (v, omega arith, p)

pub no_dimension_lem : (M n : ℕ) (L : List (List ℕ)) → (no_dimension M n L ≡ true) ↔ (((v : ℕ) × (v < n) × (least_power L v ≡ 0)) ⊎ (M < degree_bound n L))
no_dimension_lem M n L = either (not (finite n L)) (ltb M (degree_bound n L)) (no_power n L) (above M (degree_bound n L))
