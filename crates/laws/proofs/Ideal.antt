-- Laws of lists of monomials and their multiples.
--   divisor_multiple, multiple_divisor    u is a multiple exactly when some member divides it
--   multiple_up                           what a multiple divides is a multiple
--   multiple_append                       the multiples of two lists together
--   multiple_colon                        u is a multiple of L : p exactly when p·u is one of L
--   same_covered                          two lists whose members are multiples of one another have the same multiples
--   same_drop                             a member that another divides may go
--   same_cons, same_append, same_colon    the same multiples stay the same
--   unit_all                              with a unit every monomial is a multiple
--   listed_width, listed_count            a list read from cells has its width and its count
--   listed_from n s i cells                == its monomials from number i on
--   listed_all, listed_none, listed_next  from 0 on, past the end, and from i on by number i and the rest
--   multiple-lcmOf                        each member divides the lcm of all
use mathlib.Core.Path.{◌≡◌, refl, sym, ap, ap₂, ◌∙◌}
use mathlib.Core.Logic.{◌⊎◌, inl, inr}
use mathlib.Core.Bool.{Bool, true, false, ◌||◌, false≢true}
use mathlib.Core.List.{List, [], ◌∷◌, ◌++◌}
use Prim.Native.Nat.{ℕ, zero, suc, ◌+◌, ◌*◌, ◌-◌, ◌≤◌, ◌<◌}
use native.Mathlib.Omega.{arith}
use native.Mathlib.Nat.{suc-mul, zero-mul}
use native.Mathlib.Numerals.{add-one}
use lib.Dec.{eqb}
use lib.ListN.{length, take, drop, length-take, length-drop}
use lib.Seq.{drop-drop}
use borrow.Author.Tests.{eqb-true}
use Rattle.laws.specs.Monomial.{degree, divides, product, quotient}
use Rattle.laws.specs.Ideal.{listed, In, Width, Within, multiple, Same, lcm_of, colon, unit_in}
use Rattle.laws.proofs.Monomial.{or_right, bool_ext, divides_refl, divides_trans, quotient_divides, length_product, length_quotient, unit_divides, divides_lcm_left, divides_lcm_right}

-- members

pub in_at : {a b : List ℕ} (L : List (List ℕ)) → a ≡ b → In b L → In a L
in_at L e i = rw e i

pub in_append_left : (m : List ℕ) (L K : List (List ℕ)) → In m L → In m (L ++ K)
in_append_left m [] K i = absurd i
in_append_left m (a ∷ L) K (inl e) = inl e
in_append_left m (a ∷ L) K (inr i) = inr (in_append_left m L K i)

pub in_append_right : (m : List ℕ) (L K : List (List ℕ)) → In m K → In m (L ++ K)
in_append_right m [] K i = i
in_append_right m (a ∷ L) K i = inr (in_append_right m L K i)

pub in_append : (m : List ℕ) (L K : List (List ℕ)) → In m (L ++ K) → In m L ⊎ In m K
in_append m [] K i = inr i
in_append m (a ∷ L) K (inl e) = inl (inl e)
in_append m (a ∷ L) K (inr i) = go (in_append m L K i)
  where
    go : In m L ⊎ In m K → In m (a ∷ L) ⊎ In m K
    go (inl j) = inl (inr j)
    go (inr j) = inr j

pub width_within : (n : ℕ) (L : List (List ℕ)) → Width n L → Within n L
width_within n L w m i = omega (arith, w m i)

pub within_cons : (n : ℕ) (m : List ℕ) (L : List (List ℕ)) → length m ≤ n → Within n L → Within n (m ∷ L)
within_cons n m L h w a (inl e) = omega (arith, ap length e)
within_cons n m L h w a (inr i) = w a i

pub within_tail : (n : ℕ) (m : List ℕ) (L : List (List ℕ)) → Within n (m ∷ L) → Within n L
within_tail n m L w a i = w a (inr i)

pub within_append : (n : ℕ) (L K : List (List ℕ)) → Within n L → Within n K → Within n (L ++ K)
within_append n L K w v a i = go (in_append a L K i)
  where
    go : In a L ⊎ In a K → length a ≤ n
    go (inl j) = w a j
    go (inr j) = v a j

-- multiples by members

pub divisor_multiple : (m : List ℕ) (L : List (List ℕ)) (u : List ℕ) → In m L → divides m u ≡ true → multiple L u ≡ true
divisor_multiple m [] u i h = absurd i
divisor_multiple m (a ∷ L) u (inl e) h = rw (← e, h)
divisor_multiple m (a ∷ L) u (inr i) h = or_right (divides a u) (multiple L u) (divisor_multiple m L u i h)

abbrev pub Divisor : List (List ℕ) → List ℕ → Type 0
Divisor L u = (m : List ℕ) × In m L × (divides m u ≡ true)

pub multiple_divisor : (L : List (List ℕ)) (u : List ℕ) → multiple L u ≡ true → Divisor L u
multiple_divisor [] u h = absurd (false≢true h)
multiple_divisor (a ∷ L) u h = go (divides a u) refl h (multiple_divisor L u)
  where
    go : (t : Bool) → divides a u ≡ t → (t || multiple L u) ≡ true → (multiple L u ≡ true → Divisor L u) → Divisor (a ∷ L) u
    go true p q f = (a, inl refl, p)
    go false p q f = ((f q).0, inr (f q).1, (f q).2)

pub member_multiple : (m : List ℕ) (L : List (List ℕ)) → In m L → multiple L m ≡ true
member_multiple m L i = divisor_multiple m L m i (divides_refl m)

pub multiple_up : (L : List (List ℕ)) (u v : List ℕ) → multiple L u ≡ true → divides u v ≡ true → multiple L v ≡ true
multiple_up L u v h g =
    let d = multiple_divisor L u h in
    divisor_multiple d.0 L v d.1 (divides_trans d.0 u v d.2 g)

or_assoc : (a b c : Bool) → (a || (b || c)) ≡ ((a || b) || c)
or_assoc true b c = refl
or_assoc false b c = refl

pub multiple_append : (L K : List (List ℕ)) (u : List ℕ) → multiple (L ++ K) u ≡ (multiple L u || multiple K u)
multiple_append [] K u = refl
multiple_append (m ∷ L) K u = ap (λ (b : Bool). divides m u || b) (multiple_append L K u) ∙ or_assoc (divides m u) (multiple L u) (multiple K u)

pub multiple_colon : (L : List (List ℕ)) (p u : List ℕ) → multiple (colon L p) u ≡ multiple L (product p u)
multiple_colon [] p u = refl
multiple_colon (m ∷ L) p u = ap₂ ◌||◌ (quotient_divides m p u) (multiple_colon L p u)

-- the same multiples

pub same_refl : (n : ℕ) (L : List (List ℕ)) → Same n L L
same_refl n L u e = refl

pub same_sym : (n : ℕ) (L K : List (List ℕ)) → Same n L K → Same n K L
same_sym n L K s u e = sym (s u e)

pub same_trans : (n : ℕ) (L K J : List (List ℕ)) → Same n L K → Same n K J → Same n L J
same_trans n L K J s t u e = s u e ∙ t u e

-- each member of L is a multiple of K
abbrev pub Covers : List (List ℕ) → List (List ℕ) → Type 0
Covers K L = (m : List ℕ) → In m L → multiple K m ≡ true

pub covers_multiple : (K L : List (List ℕ)) → Covers K L → (u : List ℕ) → multiple L u ≡ true → multiple K u ≡ true
covers_multiple K L c u h =
    let d = multiple_divisor L u h in
    multiple_up K d.0 u (c d.0 d.1) d.2

pub same_covered : (n : ℕ) (L K : List (List ℕ)) → Covers K L → Covers L K → Same n L K
same_covered n L K f g u e = bool_ext (multiple L u) (multiple K u) (covers_multiple K L f u) (covers_multiple L K g u)

or_same : (a b : Bool) → (a ≡ true → b ≡ true) → (a || b) ≡ b
or_same true b f = sym (f refl)
or_same false b f = refl

pub same_drop : (n : ℕ) (L : List (List ℕ)) (m : List ℕ) → multiple L m ≡ true → Same n (m ∷ L) L
same_drop n L m h u e = or_same (divides m u) (multiple L u) (multiple_up L m u h)

pub same_cons : (n : ℕ) (L K : List (List ℕ)) (m : List ℕ) → Same n L K → Same n (m ∷ L) (m ∷ K)
same_cons n L K m s u e = ap (λ (b : Bool). divides m u || b) (s u e)

pub same_append : (n : ℕ) (L K J : List (List ℕ)) → Same n L K → Same n (L ++ J) (K ++ J)
same_append n L K J s u e = multiple_append L J u ∙ ap (λ (b : Bool). b || multiple J u) (s u e) ∙ sym (multiple_append K J u)

or_comm : (a b : Bool) → (a || b) ≡ (b || a)
or_comm true true = refl
or_comm true false = refl
or_comm false true = refl
or_comm false false = refl

pub same_flip : (n : ℕ) (L K : List (List ℕ)) → Same n (L ++ K) (K ++ L)
same_flip n L K u e = multiple_append L K u ∙ or_comm (multiple L u) (multiple K u) ∙ sym (multiple_append K L u)

pub same_colon : (n : ℕ) (L K : List (List ℕ)) (p : List ℕ) → length p ≡ n → Same n L K → Same n (colon L p) (colon K p)
same_colon n L K p h s u e =
    multiple_colon L p u ∙ s (product p u) (length_product p u ∙ omega arith) ∙ sym (multiple_colon K p u)

pub in_colon : (L : List (List ℕ)) (p a : List ℕ) → In a (colon L p) → (m : List ℕ) × In m L × (a ≡ quotient m p)
in_colon [] p a i = absurd i
in_colon (m ∷ L) p a (inl e) = (m, inl refl, e)
in_colon (m ∷ L) p a (inr i) = let r = in_colon L p a i in (r.0, inr r.1, r.2)

pub within_colon : (n : ℕ) (L : List (List ℕ)) (p : List ℕ) → Within n L → Within n (colon L p)
within_colon n L p w a i =
    let r = in_colon L p a i in
    omega (arith, ap length r.2, length_quotient r.0 p, w r.0 r.1)

-- the unit

pub unit_member : (L : List (List ℕ)) → unit_in L ≡ true → (m : List ℕ) × In m L × (degree m ≡ 0)
unit_member [] h = absurd (false≢true h)
unit_member (m ∷ L) h = go (eqb (degree m) 0) refl h (unit_member L)
  where
    go : (t : Bool) → eqb (degree m) 0 ≡ t → (t || unit_in L) ≡ true → (unit_in L ≡ true → (a : List ℕ) × In a L × (degree a ≡ 0)) → (a : List ℕ) × In a (m ∷ L) × (degree a ≡ 0)
    go true p q f = (m, inl refl, eqb-true (degree m) 0 p)
    go false p q f = let r = f q in (r.0, inr r.1, r.2)

pub unit_all : (L : List (List ℕ)) (u : List ℕ) → unit_in L ≡ true → multiple L u ≡ true
unit_all L u h = let r = unit_member L h in divisor_multiple r.0 L u r.1 (unit_divides r.0 u r.2)

-- the lcm of all

pub lcm_of_divides : (L : List (List ℕ)) (m : List ℕ) → In m L → divides m (lcm_of L) ≡ true
lcm_of_divides [] m i = absurd i
lcm_of_divides (a ∷ L) m (inl e) = divides_lcm_left m a (lcm_of L) (rw e (divides_refl a))
lcm_of_divides (a ∷ L) m (inr i) = divides_lcm_right m a (lcm_of L) (lcm_of_divides L m i)

-- a list read from cells

pub listed_count : (n s : ℕ) (cells : List ℕ) → length (listed n s cells) ≡ s
listed_count n zero cells = refl
listed_count n (suc s) cells = ap suc (listed_count n s (drop n cells))

pub listed_within : (n s : ℕ) (cells : List ℕ) → Within n (listed n s cells)
listed_within n zero cells m i = absurd i
listed_within n (suc s) cells m (inl e) = omega (arith, ap length e, length-take n cells)
listed_within n (suc s) cells m (inr i) = listed_within n s (drop n cells) m i

pub listed_width : (n s : ℕ) (cells : List ℕ) → s * n ≤ length cells → Width n (listed n s cells)
listed_width n zero cells h m i = absurd i
listed_width n (suc s) cells h m (inl e) = ap length e ∙ length-take n cells ∙ omega (arith, suc-mul s n)
listed_width n (suc s) cells h m (inr i) = listed_width n s (drop n cells) (rw length-drop (omega (arith, suc-mul s n))) m i

-- monomial by monomial

-- the listed monomials from number i on
abbrev pub listed_from : ℕ → ℕ → ℕ → List ℕ → List (List ℕ)
listed_from n s i cells = listed n (s - i) (drop (i * n) cells)

pub listed_all : (n s : ℕ) (cells : List ℕ) → listed_from n s 0 cells ≡ listed n s cells
listed_all n s cells = let e : s - 0 ≡ s = omega arith in rw (zero-mul n, e)

pub listed_none : (n s i : ℕ) (cells : List ℕ) → s ≤ i → listed_from n s i cells ≡ []
listed_none n s i cells h = let e : s - i ≡ 0 = omega arith in rw e

-- a part `&cells[i * n..i * n + n]`, then the rest
pub listed_next : (n s i : ℕ) (cells : List ℕ) → i < s → listed_from n s i cells ≡ take (i * n + n - i * n) (drop (i * n) cells) ∷ listed_from n s (i + 1) cells
listed_next n s i cells h =
    let e : s - i ≡ suc (s - (i + 1)) = omega arith in
    let f : i * n + n - i * n ≡ n = omega arith in
    let g : i * n + n ≡ (i + 1) * n = rw (add-one i) (sym (suc-mul i n)) in
    rw (e, f) (ap (λ (t : List ℕ). take n (drop (i * n) cells) ∷ listed n (s - (i + 1)) t) (drop-drop n (i * n) cells ∙ ap (λ (k : ℕ). drop k cells) g))
