-- Laws of the two orders of monomials. They hold for lists of any widths, not only of equal ones.
--   or_else_eq, or_else_opposite       o or else p says equal exactly when both do; its opposite
--   compare_says, says_compare       compare x y is less, equal or greater exactly when x < y, x = y, x > y
--   Total                            a strict total order: equal exactly when the same, the opposite when turned round, transitive
--   total_opposite                   such an order turned round is one
--   total_self                       each is equal to itself
--   total_turn                       a is greater than b exactly when b is less than a
--   total_greater                    greater is transitive too
--   total_differ, total_not_both     the greater of two is not the other, and only one of two is the greater
--   compare_total                    the order of numbers is a strict total order
--   lex_total, degrevlex_total       and so are Lex and DegRevLex
--   revlex_total                     and the order that decides at equal degree
--   degrevlex_degree                 the smaller degree is the smaller monomial by DegRevLex
--   degrevlex_greater_degree         the greater by DegRevLex has at least the degree
--   or_else_same, or_else_differ       equal numbers leave it to what follows, unequal ones decide
--   lex_next, lex_differ             Lex, from the first variable on
--   revlex_same, revlex_differ       what DegRevLex asks at equal degree, from the last variable down
use mathlib.Core.Path.{◌≡◌, refl, sym, ap, ap₂, ◌∙◌}
use mathlib.Core.Logic.{◌↔◌}
use mathlib.Core.Bool.{Bool, true, false}
use mathlib.Core.List.{List, [], ◌∷◌}
use Prim.Native.Nat.{ℕ, zero, suc, ◌+◌, ◌≤◌, ◌<◌, compare, Ordering}
use native.Mathlib.Numerals.{add-one}
use native.Mathlib.Omega.{arith}
use lib.Dec.{leb, is_le, compare_is_eq}
use lib.ListN.{length, get_or, drop}
use borrow.Author.Tests.{leb-true, leb-false, eqb-true, eqb-false}
use Rattle.laws.specs.Monomial.{degree}
use Rattle.laws.specs.Order.{or_else, lex, revlex, degrevlex}
use Rattle.laws.proofs.Lists.{drop_next}
use Rattle.laws.proofs.Monomial.{cons_eq}

-- orderings

-- the other way round
abbrev pub opposite : Ordering → Ordering
opposite Ordering.lt = Ordering.gt
opposite Ordering.eq = Ordering.eq
opposite Ordering.gt = Ordering.lt

-- equal only if both say equal
pub or_else_eq : (o p : Ordering) → (or_else o p ≡ Ordering.eq) ↔ ((o ≡ Ordering.eq) × (p ≡ Ordering.eq))
or_else_eq Ordering.lt p = (λ h. (h, cc), λ h. h.0)
or_else_eq Ordering.eq p = (λ h. (refl, h), λ h. h.1)
or_else_eq Ordering.gt p = (λ h. (h, cc), λ h. h.0)

-- turned round part by part
pub or_else_opposite : (o p : Ordering) → or_else (opposite o) (opposite p) ≡ opposite (or_else o p)
or_else_opposite Ordering.lt p = refl
or_else_opposite Ordering.eq p = refl
or_else_opposite Ordering.gt p = refl

eq_not_gt : Ordering.eq ≡ Ordering.gt → ⊥
eq_not_gt h = let z : ◌≡◌ {A = ℕ} 0 1 = cc in omega arith

lt_not_gt : Ordering.lt ≡ Ordering.gt → ⊥
lt_not_gt h = let z : ◌≡◌ {A = ℕ} 0 1 = cc in omega arith

-- o of a and b, p of b and c and r of a and c fit together
record Joined (o p r : Ordering) : Type 0 where
  less : o ≡ Ordering.lt → p ≡ Ordering.lt → r ≡ Ordering.lt
  left : o ≡ Ordering.eq → r ≡ p
  right : p ≡ Ordering.eq → r ≡ o

-- they do where equal means the same, and less is transitive
joined_by : {X : Type 0} (cmp : X → X → Ordering) → ((a b : X) → cmp a b ≡ Ordering.eq → a ≡ b) → (a b c : X)
    → (cmp a b ≡ Ordering.lt → cmp b c ≡ Ordering.lt → cmp a c ≡ Ordering.lt) → Joined (cmp a b) (cmp b c) (cmp a c)
joined_by cmp same a b c h = record { less = h; left = λ e. rw (same a b e); right = λ e. rw (same b c e) }

-- and they do where each is decided first by one, then by another
joined_or_else : {o p r o' p' r' : Ordering} → Joined o p r → Joined o' p' r' → Joined (or_else o o') (or_else p p') (or_else r r')
joined_or_else {o} {p} {r} {o'} {p'} {r'} j k =
    record {
      less = less o p j;
      left = λ h. ap₂ or_else (j.left ((or_else_eq o o').0 h).0) (k.left ((or_else_eq o o').0 h).1);
      right = λ h. ap₂ or_else (j.right ((or_else_eq p p').0 h).0) (k.right ((or_else_eq p p').0 h).1);
    }
  where
    less : (s t : Ordering) → Joined s t r → or_else s o' ≡ Ordering.lt → or_else t p' ≡ Ordering.lt → or_else r r' ≡ Ordering.lt
    less Ordering.lt Ordering.lt i h g = rw (i.less refl refl)
    less Ordering.lt Ordering.eq i h g = rw (i.right refl)
    less Ordering.lt Ordering.gt i h g = cc
    less Ordering.eq Ordering.lt i h g = rw (i.left refl)
    less Ordering.eq Ordering.eq i h g = rw (i.left refl) (k.less h g)
    less Ordering.eq Ordering.gt i h g = cc
    less Ordering.gt t i h g = cc

-- numbers

-- what an ordering says of two numbers
abbrev pub Says : Ordering → ℕ → ℕ → Type 0
Says Ordering.lt x y = x < y
Says Ordering.eq x y = x ≡ y
Says Ordering.gt x y = y < x

-- what the answer of `compare` tells of the numbers
pub compare_says : (o : Ordering) (x y : ℕ) → compare x y ≡ o → Says o x y
compare_says Ordering.lt x y h = omega (arith, leb-true x y (ap is_le h), eqb-false x y (ap compare_is_eq h))
compare_says Ordering.eq x y h = eqb-true x y (ap compare_is_eq h)
compare_says Ordering.gt x y h = leb-false x y (ap is_le h)

-- and it answers what holds
pub says_compare : (o : Ordering) (x y : ℕ) → Says o x y → compare x y ≡ o
says_compare o x y h = go o (compare x y) h (compare_says (compare x y) x y refl)
  where
    go : (o p : Ordering) → Says o x y → Says p x y → p ≡ o
    go Ordering.lt Ordering.lt h g = refl
    go Ordering.lt Ordering.eq h g = absurd (omega arith)
    go Ordering.lt Ordering.gt h g = absurd (omega arith)
    go Ordering.eq Ordering.lt h g = absurd (omega arith)
    go Ordering.eq Ordering.eq h g = refl
    go Ordering.eq Ordering.gt h g = absurd (omega arith)
    go Ordering.gt Ordering.lt h g = absurd (omega arith)
    go Ordering.gt Ordering.eq h g = absurd (omega arith)
    go Ordering.gt Ordering.gt h g = refl

compare_flip : (x y : ℕ) → compare y x ≡ opposite (compare x y)
compare_flip x y = says_compare (opposite (compare x y)) y x (go (compare x y) (compare_says (compare x y) x y refl))
  where
    go : (o : Ordering) → Says o x y → Says (opposite o) y x
    go Ordering.lt h = h
    go Ordering.eq h = sym h
    go Ordering.gt h = h

-- strict total orders

-- one record for both orders, and for numbers
pub record Total {X : Type 0} (cmp : X → X → Ordering) : Type 0 where
  pub same : (a b : X) → (cmp a b ≡ Ordering.eq) ↔ (a ≡ b)
  pub flip : (a b : X) → cmp b a ≡ opposite (cmp a b)
  pub trans : (a b c : X) → cmp a b ≡ Ordering.lt → cmp b c ≡ Ordering.lt → cmp a c ≡ Ordering.lt

-- numbers
pub compare_total : Total compare
compare_total =
    record {
      same = λ x y. (compare_says Ordering.eq x y, says_compare Ordering.eq x y);
      flip = compare_flip;
      trans = λ x y z h g. says_compare Ordering.lt x z (omega (arith, compare_says Ordering.lt x y h, compare_says Ordering.lt y z g));
    }

-- the order turned round
pub total_opposite : {X : Type 0} {cmp : X → X → Ordering} → Total cmp → Total (λ a b. cmp b a)
total_opposite t =
    record {
      same = λ a b. (λ h. sym ((t.same b a).0 h), λ e. (t.same b a).1 (sym e));
      flip = λ a b. t.flip b a;
      trans = λ a b c h g. t.trans c b a g h;
    }

module _ {X : Type 0} (cmp : X → X → Ordering) (t : Total cmp) where
  -- nothing differs from itself
  pub total_self : (a : X) → cmp a a ≡ Ordering.eq
  total_self a = (t.same a a).1 refl

  -- a is the greater exactly when b is the smaller
  pub total_turn : (a b : X) → (cmp a b ≡ Ordering.gt) ↔ (cmp b a ≡ Ordering.lt)
  total_turn a b = (λ h. t.flip a b ∙ ap opposite h, λ h. t.flip b a ∙ ap opposite h)

  -- greater than the greater is greater
  pub total_greater : (a b c : X) → cmp a b ≡ Ordering.gt → cmp b c ≡ Ordering.gt → cmp a c ≡ Ordering.gt
  total_greater a b c h g = (total_turn a c).1 (t.trans c b a ((total_turn b c).0 g) ((total_turn a b).0 h))

  -- the greater is another one
  pub total_differ : (a b : X) → cmp a b ≡ Ordering.gt → a ≡ b → ⊥
  total_differ a b h e = let z : Ordering.eq ≡ Ordering.gt = sym ((t.same a b).1 e) ∙ h in eq_not_gt z

  -- two are not each greater than the other
  pub total_not_both : (a b : X) → cmp a b ≡ Ordering.gt → cmp b a ≡ Ordering.gt → ⊥
  total_not_both a b h g = total_differ a a (total_greater a b a h g) refl

  total_joined : (a b c : X) → Joined (cmp a b) (cmp b c) (cmp a c)
  total_joined a b c = joined_by cmp (λ x y. (t.same x y).0) a b c (t.trans a b c)

-- orders that go through two lists at once: `step` decides by the first exponents, compared by `num`, and by what follows them

record Step (step : Ordering → Ordering → Ordering) : Type 0 where
  both : (o p : Ordering) → (step o p ≡ Ordering.eq) ↔ ((o ≡ Ordering.eq) × (p ≡ Ordering.eq))
  turned : (o p : Ordering) → step (opposite o) (opposite p) ≡ opposite (step o p)
  joined : {o p r o' p' r' : Ordering} → Joined o p r → Joined o' p' r' → Joined (step o o') (step p p') (step r r')

record Walks (num : ℕ → ℕ → Ordering) (step : Ordering → Ordering → Ordering) (cmp : List ℕ → List ℕ → Ordering) : Type 0 where
  none : cmp [] [] ≡ Ordering.eq
  shorter : (y : ℕ) (b : List ℕ) → cmp [] (y ∷ b) ≡ Ordering.lt
  longer : (x : ℕ) (a : List ℕ) → cmp (x ∷ a) [] ≡ Ordering.gt
  next : (x y : ℕ) (a b : List ℕ) → cmp (x ∷ a) (y ∷ b) ≡ step (num x y) (cmp a b)

module _ (num : ℕ → ℕ → Ordering) (step : Ordering → Ordering → Ordering) (cmp : List ℕ → List ℕ → Ordering) (t : Total num) (s : Step step) (w : Walks num step cmp) where
  walk_same : (a b : List ℕ) → cmp a b ≡ Ordering.eq → a ≡ b
  walk_same [] [] h = refl
  walk_same [] (y ∷ b) h = cc (w.shorter y b)
  walk_same (x ∷ a) [] h = cc (w.longer x a)
  walk_same (x ∷ a) (y ∷ b) h =
      let e = (s.both (num x y) (cmp a b)).0 (sym (w.next x y a b) ∙ h) in
      cons_eq ((t.same x y).0 e.0) (walk_same a b e.1)

  walk_self : (a : List ℕ) → cmp a a ≡ Ordering.eq
  walk_self [] = w.none
  walk_self (x ∷ a) = w.next x x a a ∙ (s.both (num x x) (cmp a a)).1 ((t.same x x).1 refl, walk_self a)

  walk_flip : (a b : List ℕ) → cmp b a ≡ opposite (cmp a b)
  walk_flip [] [] = rw w.none
  walk_flip [] (y ∷ b) = rw (w.longer y b, w.shorter y b)
  walk_flip (x ∷ a) [] = rw (w.shorter x a, w.longer x a)
  walk_flip (x ∷ a) (y ∷ b) = w.next y x b a ∙ ap₂ step (t.flip x y) (walk_flip a b) ∙ s.turned (num x y) (cmp a b) ∙ sym (ap opposite (w.next x y a b))

  walk_trans : (a b c : List ℕ) → cmp a b ≡ Ordering.lt → cmp b c ≡ Ordering.lt → cmp a c ≡ Ordering.lt
  walk_trans [] b [] h g = cc (walk_flip [] b, ap opposite h)
  walk_trans [] b (z ∷ c) h g = w.shorter z c
  walk_trans (x ∷ a) [] c h g = cc (w.longer x a)
  walk_trans (x ∷ a) (y ∷ b) [] h g = cc (w.longer y b)
  walk_trans (x ∷ a) (y ∷ b) (z ∷ c) h g =
      let j : Joined (cmp a b) (cmp b c) (cmp a c) = joined_by cmp walk_same a b c (walk_trans a b c) in
      w.next x z a c ∙ (s.joined (total_joined num t x y z) j).less (sym (w.next x y a b) ∙ h) (sym (w.next y z b c) ∙ g)

  walk_total : Total cmp
  walk_total = record { same = λ a b. (walk_same a b, λ e. rw e (walk_self b)); flip = walk_flip; trans = walk_trans }

-- the first exponents decide before what follows them, or after it

first_decides : Step or_else
first_decides = record { both = or_else_eq; turned = or_else_opposite; joined = joined_or_else }

last_decides : Step (λ o p. or_else p o)
last_decides =
    record {
      both = λ o p. (λ h. (((or_else_eq p o).0 h).1, ((or_else_eq p o).0 h).0), λ h. (or_else_eq p o).1 (h.1, h.0));
      turned = λ o p. or_else_opposite p o;
      joined = λ j k. joined_or_else k j;
    }

-- Lex
pub lex_total : Total lex
lex_total =
    walk_total compare or_else lex compare_total first_decides
    (record { none = refl; shorter = λ y b. refl; longer = λ x a. refl; next = λ x y a b. refl })

-- what DegRevLex asks at equal degree
pub revlex_total : Total revlex
revlex_total =
    walk_total (λ x y. compare y x) (λ o p. or_else p o) revlex (total_opposite compare_total) last_decides
    (record { none = refl; shorter = λ y b. refl; longer = λ x a. refl; next = λ x y a b. refl })

-- DegRevLex

-- DegRevLex
pub degrevlex_total : Total degrevlex
degrevlex_total =
    record {
      same = λ a b. (λ h. (revlex_total.same a b).0 ((or_else_eq (compare (degree a) (degree b)) (revlex a b)).0 h).1, λ e. rw e (self b));
      flip = λ a b. ap₂ or_else (compare_flip (degree a) (degree b)) (revlex_total.flip a b) ∙ or_else_opposite (compare (degree a) (degree b)) (revlex a b);
      trans = λ a b c. (joined_or_else (total_joined compare compare_total (degree a) (degree b) (degree c)) (total_joined revlex revlex_total a b c)).less;
    }
  where
    self : (a : List ℕ) → degrevlex a a ≡ Ordering.eq
    self a = ap₂ or_else (total_self compare compare_total (degree a)) (total_self revlex revlex_total a)

-- the degree decides first
pub degrevlex_degree : (a b : List ℕ) → degree a < degree b → degrevlex a b ≡ Ordering.lt
degrevlex_degree a b h = rw (says_compare Ordering.lt (degree a) (degree b) h)

-- so the greater one has no smaller degree
pub degrevlex_greater_degree : (a b : List ℕ) → degrevlex a b ≡ Ordering.gt → degree b ≤ degree a
degrevlex_greater_degree a b h = go (leb (degree b) (degree a)) refl
  where
    go : (t : Bool) → leb (degree b) (degree a) ≡ t → degree b ≤ degree a
    go true p = leb-true (degree b) (degree a) p
    go false p = absurd (lt_not_gt (sym (degrevlex_degree a b (leb-false (degree b) (degree a) p)) ∙ h))

-- the orders, variable by variable

-- equal numbers leave it to what follows
pub or_else_same : (x y : ℕ) (p : Ordering) → x ≡ y → or_else (compare x y) p ≡ p
or_else_same x y p e = rw (says_compare Ordering.eq x y e)

-- unequal ones decide
pub or_else_differ : (x y : ℕ) (p : Ordering) → (x ≡ y → ⊥) → or_else (compare x y) p ≡ compare x y
or_else_differ x y p d = go (compare x y) refl
  where
    go : (o : Ordering) → compare x y ≡ o → or_else o p ≡ o
    go Ordering.lt e = refl
    go Ordering.eq e = absurd (d (compare_says Ordering.eq x y e))
    go Ordering.gt e = refl

-- Lex goes on where two exponents are equal
pub lex_next : (a b : List ℕ) (i : ℕ) → i < length a → i < length b → get_or a i 0 ≡ get_or b i 0 → lex (drop i a) (drop i b) ≡ lex (drop (i + 1) a) (drop (i + 1) b)
lex_next a b i h k e = rw (drop_next a i h, drop_next b i k) (or_else_same (get_or a i 0) (get_or b i 0) (lex (drop (i + 1) a) (drop (i + 1) b)) e)

-- and the first two that differ decide it
pub lex_differ : (a b : List ℕ) (i : ℕ) → i < length a → i < length b → (get_or a i 0 ≡ get_or b i 0 → ⊥) → lex (drop i a) (drop i b) ≡ compare (get_or a i 0) (get_or b i 0)
lex_differ a b i h k d = rw (drop_next a i h, drop_next b i k) (or_else_differ (get_or a i 0) (get_or b i 0) (lex (drop (i + 1) a) (drop (i + 1) b)) d)

-- nothing differs
pub revlex_same : (a b : List ℕ) → a ≡ b → revlex a b ≡ Ordering.eq
revlex_same a b e = (revlex_total.same a b).1 e

-- of the variables, i is the last in which they differ
pub revlex_differ : (a b : List ℕ) (i : ℕ) → i < length a → i < length b → drop (i + 1) a ≡ drop (i + 1) b → (get_or a i 0 ≡ get_or b i 0 → ⊥)
    → revlex a b ≡ compare (get_or b i 0) (get_or a i 0)
revlex_differ a b i h k e d = go a b i h k (rw add-one at e) d
  where
    go : (a b : List ℕ) (i : ℕ) → i < length a → i < length b → drop (suc i) a ≡ drop (suc i) b → (get_or a i 0 ≡ get_or b i 0 → ⊥)
        → revlex a b ≡ compare (get_or b i 0) (get_or a i 0)
    go [] b i h k e d = absurd (omega arith)
    go (x ∷ a) [] i h k e d = absurd (omega arith)
    go (x ∷ a) (y ∷ b) zero h k e d = rw (revlex_same a b e)
    go (x ∷ a) (y ∷ b) (suc i) h k e d = rw (go a b i (omega arith) (omega arith) e d) (or_else_differ (get_or b i 0) (get_or a i 0) (compare y x) (λ z. d (sym z)))
