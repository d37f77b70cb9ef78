-- Laws of minimal lists.
--   minimal_in_lem           a minimal list's members are in every list with the same multiples
--   inside_same          lists with the same members have the same multiples
--   same_minimal         two minimal lists have the same multiples exactly when they have the same members
--   shortest             no list with the same multiples is shorter than a minimal one whose members stand once each
--   falling_distinct     in a list that falls each member stands once
--   falling_unique       two lists that fall and have the same members are equal
--   canonical            and so are two minimal ones that fall and have the same multiples
--   falling_in, in_falling, falling_falls     falling L has the members of L, and falls
--   keep_in, in_keep     what is kept are the members that pass the test
--   divides_back         a divisor with at least the degree is divided in turn
--   proper_degree        a proper divisor has a smaller degree
--   minimal_divisor, proper_divisor           what it means to be minimal in L, and not to be
--   minimal_members      the members of minimal L are those of L that are minimal in L
--   minimal_width        they have the width
--   minimal_same         minimal L has the multiples of L
--   minimal_minimal, minimal_falling          minimal L is minimal, and falls
--   minimal_shortest     no list with the multiples of L is shorter than minimal L
--   minimal_unique       minimal L is the only minimal list that falls and has the multiples of L
--   minimal_same_iff     the same multiples exactly when the same minimal list
--   minimal_fixed, minimal_again              a minimal list that falls is its own minimal list
--   chain_falling        a list falls exactly when each member is greater than the next
--   undivided_minimal    a list that falls is minimal exactly when no member is divided by a later one
--   minimal_test         those two tests pass exactly when L is its own minimal list
use mathlib.Core.Path.{◌≡◌, refl, sym, ap, ap₂, ◌∙◌}
use mathlib.Core.Logic.{inl, inr, ◌↔◌}
use mathlib.Core.Bool.{Bool, true, false, not, ◌&&◌, false≢true, cond}
use mathlib.Core.List.{List, [], ◌∷◌}
use Prim.Native.Nat.{ℕ, zero, suc, ◌≤◌, ◌<◌, Ordering}
use native.Mathlib.Omega.{arith}
use lib.Dec.{leb}
use lib.ListN.{length}
use borrow.Author.Tests.{leb-true, leb-false, le-leb, not-true as not_passed}
use Rattle.laws.specs.Monomial.{degree, divides}
use Rattle.laws.specs.Ideal.{In, Width, multiple, Same}
use Rattle.laws.specs.Count.{keep}
use Rattle.laws.specs.Order.{degrevlex}
use Rattle.laws.specs.Minimal.{proper, minimal_in, place, insert, falling, minimal, Minimal, Falling}
use Rattle.laws.proofs.Monomial.{and_left, and_right, head_le, not_true, divides_trans, divides_antisym, divides_degree, unit_divides}
use Rattle.laws.proofs.Ideal.{in_at, Divisor, divisor_multiple, multiple_divisor, member_multiple, multiple_up, same_refl, same_sym, same_trans, same_covered}
use Rattle.laws.proofs.Pigeonhole.{Distinct, pigeonhole}
use Rattle.laws.proofs.Order.{degrevlex_total, total_turn, total_greater, total_differ, total_not_both, degrevlex_greater_degree}

-- members

-- each member of L is one of K
abbrev pub Inside : List (List ℕ) → List (List ℕ) → Type 0
Inside L K = (a : List ℕ) → In a L → In a K

-- minimal lists

-- each member a is a multiple of some b of K, b of some member of L, which divides a and so is a
pub minimal_in_lem : (n : ℕ) (L K : List (List ℕ)) → Minimal n L → Width n K → Same n L K → Inside L K
minimal_in_lem n L K m w s a i =
    let d : Divisor K a = multiple_divisor K a (sym (s a (m.width a i)) ∙ member_multiple a L i) in
    let b : List ℕ = d.0 in
    let e : Divisor L b = multiple_divisor L b (s b (w b d.1) ∙ member_multiple b K d.1) in
    let q : e.0 ≡ a = m.apart e.0 a e.1 i (divides_trans e.0 b a e.2 d.2) in
    in_at K (divides_antisym a b (m.width a i ∙ sym (w b d.1)) (rw q at e.2) d.2) d.1

-- the same members, the same multiples
pub inside_same : (n : ℕ) (L K : List (List ℕ)) → Inside L K → Inside K L → Same n L K
inside_same n L K f g = same_covered n L K (λ a i. member_multiple a K (f a i)) (λ a i. member_multiple a L (g a i))

-- for minimal lists the same multiples are the same members
pub same_minimal : (n : ℕ) (L K : List (List ℕ)) → Minimal n L → Minimal n K → Same n L K ↔ (Inside L K × Inside K L)
same_minimal n L K m w =
    (λ s. (minimal_in_lem n L K m w.width s, minimal_in_lem n K L w m.width (same_sym n L K s)), λ f. inside_same n L K f.0 f.1)

-- a minimal list is the shortest with its multiples
pub shortest : (n : ℕ) (L K : List (List ℕ)) → Minimal n L → Distinct L → Width n K → Same n L K → length L ≤ length K
shortest n L K m d w s = pigeonhole L K d (minimal_in_lem n L K m w s)

-- lists that fall

-- no member is greater than itself
pub falling_distinct : (L : List (List ℕ)) → Falling L → Distinct L
falling_distinct [] s = tt
falling_distinct (a ∷ L) s = (λ i. total_differ degrevlex degrevlex_total a a (s.0 a i) refl, falling_distinct L s.1)

same_head : (a b : List ℕ) (L K : List (List ℕ)) → Falling (a ∷ L) → Falling (b ∷ K) → In a (b ∷ K) → In b (a ∷ L) → a ≡ b
same_head a b L K s t (inl e) j = e
same_head a b L K s t (inr i) (inl e) = sym e
same_head a b L K s t (inr i) (inr j) = absurd (total_not_both degrevlex degrevlex_total a b (s.0 b j) (t.0 a i))

-- what follows the head is not the head
later : (a b : List ℕ) (L K : List (List ℕ)) → Falling (a ∷ L) → a ≡ b → Inside (a ∷ L) (b ∷ K) → Inside L K
later a b L K s e f c i = go (f c (inr i))
  where
    go : In c (b ∷ K) → In c K
    go (inl p) = absurd (total_differ degrevlex degrevlex_total a c (s.0 c i) (e ∙ sym p))
    go (inr j) = j

-- the members decide a list that falls
pub falling_unique : (L K : List (List ℕ)) → Falling L → Falling K → Inside L K → Inside K L → L ≡ K
falling_unique [] [] s t f g = refl
falling_unique [] (b ∷ K) s t f g = absurd (g b (inl refl))
falling_unique (a ∷ L) [] s t f g = absurd (f a (inl refl))
falling_unique (a ∷ L) (b ∷ K) s t f g =
    let e : a ≡ b = same_head a b L K s t (f a (inl refl)) (g b (inl refl)) in
    ap₂ {C = List (List ℕ)} ◌∷◌ e (falling_unique L K s.1 t.1 (later a b L K s e f) (later b a K L t (sym e) g))

-- so the multiples decide a minimal list that falls
pub canonical : (n : ℕ) (L K : List (List ℕ)) → Minimal n L → Minimal n K → Falling L → Falling K → Same n L K → L ≡ K
canonical n L K m w s t h = let i = (same_minimal n L K m w).0 h in falling_unique L K s t i.0 i.1

-- put into its place

insert_in : (m : List ℕ) (K : List (List ℕ)) → Inside (insert m K) (m ∷ K)
insert_in m [] a i = i
insert_in m (k ∷ K) a i = go (degrevlex m k) i (insert_in m K a)
  where
    go : (o : Ordering) → In a (place o m k K (insert m K)) → (In a (insert m K) → In a (m ∷ K)) → In a (m ∷ k ∷ K)
    go Ordering.gt j f = j
    go Ordering.eq j f = inr j
    go Ordering.lt (inl e) f = inr (inl e)
    go Ordering.lt (inr j) f = elim (f j) [ inl e ↦ inl e | inr l ↦ inr (inr l) ]

in_insert : (m : List ℕ) (K : List (List ℕ)) → Inside (m ∷ K) (insert m K)
in_insert m [] a i = i
in_insert m (k ∷ K) a i = go (degrevlex m k) refl i (in_insert m K a)
  where
    go : (o : Ordering) → degrevlex m k ≡ o → In a (m ∷ k ∷ K) → (In a (m ∷ K) → In a (insert m K)) → In a (place o m k K (insert m K))
    go Ordering.gt p j f = j
    go Ordering.eq p (inl e) f = inl (e ∙ (degrevlex_total.same m k).0 p)
    go Ordering.eq p (inr j) f = j
    go Ordering.lt p (inl e) f = inr (f (inl e))
    go Ordering.lt p (inr (inl e)) f = inl e
    go Ordering.lt p (inr (inr j)) f = inr (f (inr j))

insert_falls : (m : List ℕ) (K : List (List ℕ)) → Falling K → Falling (insert m K)
insert_falls m [] s = (λ b i. absurd i, tt)
insert_falls m (k ∷ K) s = go (degrevlex m k) refl (insert_falls m K s.1)
  where
    above : degrevlex m k ≡ Ordering.gt → (b : List ℕ) → In b (k ∷ K) → degrevlex m b ≡ Ordering.gt
    above p b (inl e) = rw e p
    above p b (inr i) = total_greater degrevlex degrevlex_total m k b p (s.0 b i)

    below : degrevlex m k ≡ Ordering.lt → (b : List ℕ) → In b (m ∷ K) → degrevlex k b ≡ Ordering.gt
    below p b (inl e) = rw e ((total_turn degrevlex degrevlex_total k m).1 p)
    below p b (inr i) = s.0 b i

    go : (o : Ordering) → degrevlex m k ≡ o → Falling (insert m K) → Falling (place o m k K (insert m K))
    go Ordering.gt p f = (above p, s)
    go Ordering.eq p f = s
    go Ordering.lt p f = (λ b i. below p b (insert_in m K b i), f)

-- sorting brings in no member
pub falling_in : (L : List (List ℕ)) → Inside (falling L) L
falling_in [] a i = i
falling_in (m ∷ L) a i = elim (insert_in m (falling L) a i) [ inl e ↦ inl e | inr j ↦ inr (falling_in L a j) ]

-- and loses none
pub in_falling : (L : List (List ℕ)) → Inside L (falling L)
in_falling [] a i = i
in_falling (m ∷ L) a (inl e) = in_insert m (falling L) a (inl e)
in_falling (m ∷ L) a (inr i) = in_insert m (falling L) a (inr (in_falling L a i))

-- and what comes out falls
pub falling_falls : (L : List (List ℕ)) → Falling (falling L)
falling_falls [] = tt
falling_falls (m ∷ L) = insert_falls m (falling L) (falling_falls L)

-- those that pass a test

-- what is kept was there, and passes
pub keep_in : (p : List ℕ → Bool) (L : List (List ℕ)) (a : List ℕ) → In a (keep p L) → In a L × (p a ≡ true)
keep_in p [] a i = absurd i
keep_in p (b ∷ L) a i = go (p b) refl i (keep_in p L a)
  where
    go : (t : Bool) → p b ≡ t → In a (cond t (b ∷ keep p L) (keep p L)) → (In a (keep p L) → In a L × (p a ≡ true)) → In a (b ∷ L) × (p a ≡ true)
    go true h (inl e) f = (inl e, rw e h)
    go true h (inr j) f = (inr (f j).0, (f j).1)
    go false h j f = (inr (f j).0, (f j).1)

-- and what passes is kept
pub in_keep : (p : List ℕ → Bool) (L : List (List ℕ)) (a : List ℕ) → In a L → p a ≡ true → In a (keep p L)
in_keep p [] a i h = absurd i
in_keep p (b ∷ L) a i h = go (p b) refl i (λ j. in_keep p L a j h)
  where
    go : (t : Bool) → p b ≡ t → In a (b ∷ L) → (In a L → In a (keep p L)) → In a (cond t (b ∷ keep p L) (keep p L))
    go true g (inl e) f = inl e
    go true g (inr j) f = inr (f j)
    go false g (inl e) f = absurd (false≢true (sym g ∙ ap p (sym e) ∙ h))
    go false g (inr j) f = f j

-- proper divisors

-- a divisor of no smaller degree is divided in turn
pub divides_back : (a b : List ℕ) → divides a b ≡ true → degree b ≤ degree a → divides b a ≡ true
divides_back [] b h g = unit_divides b [] (omega arith)
divides_back (x ∷ a) [] h g = refl
divides_back (x ∷ a) (y ∷ b) h g =
    let t : divides a b ≡ true = and_right (leb x y) (divides a b) h in
    let d : degree a ≤ degree b = divides_degree a b t in
    ap₂ ◌&&◌ (le-leb y x (omega arith)) (divides_back a b t (omega (arith, head_le x y (divides a b) h)))

-- a proper divisor has a smaller degree
pub proper_degree : (k m : List ℕ) → divides k m ≡ true → divides m k ≡ false → degree k < degree m
proper_degree k m h g = go (leb (degree m) (degree k)) refl
  where
    go : (t : Bool) → leb (degree m) (degree k) ≡ t → degree k < degree m
    go true p = absurd (false≢true (sym g ∙ divides_back k m h (leb-true (degree m) (degree k) p)))
    go false p = leb-false (degree m) (degree k) p

not_and_not : (s t : Bool) → not (s && not t) ≡ true → s ≡ true → t ≡ true
not_and_not true true h g = refl
not_and_not true false h g = h
not_and_not false t h g = absurd (false≢true g)

-- a divisor of a minimal member is divided by it
pub minimal_divisor : (L : List (List ℕ)) (m : List ℕ) → minimal_in L m ≡ true → (k : List ℕ) → In k L → divides k m ≡ true → divides m k ≡ true
minimal_divisor [] m h k i g = absurd i
minimal_divisor (a ∷ L) m h k (inl e) g =
    not_and_not (divides k m) (divides m k) (ap (λ (z : List ℕ). not (proper z m)) e ∙ and_left (not (proper a m)) (minimal_in L m) h) g
minimal_divisor (a ∷ L) m h k (inr i) g = minimal_divisor L m (and_right (not (proper a m)) (minimal_in L m) h) k i g

-- some member of L is a proper divisor of m
abbrev pub Proper : List (List ℕ) → List ℕ → Type 0
Proper L m = (k : List ℕ) × In k L × (divides k m ≡ true) × (divides m k ≡ false)

-- a member that is not minimal has a proper divisor
pub proper_divisor : (L : List (List ℕ)) (m : List ℕ) → minimal_in L m ≡ false → Proper L m
proper_divisor [] m h = absurd (false≢true (sym h))
proper_divisor (a ∷ L) m h = go (proper a m) refl h (proper_divisor L m)
  where
    go : (t : Bool) → proper a m ≡ t → (not t && minimal_in L m) ≡ false → (minimal_in L m ≡ false → Proper L m) → Proper (a ∷ L) m
    go true p q f = (a, inl refl, and_left (divides a m) (not (divides m a)) p, not_passed (divides m a) (and_right (divides a m) (not (divides m a)) p))
    go false p q f = let r = f q in (r.0, inr r.1, r.2, r.3)

-- the minimal members

-- a member of the minimal list is a member of L that is minimal in it
pub minimal_members : (L : List (List ℕ)) (a : List ℕ) → In a (minimal L) ↔ (In a L × (minimal_in L a ≡ true))
minimal_members L a =
    (λ i. keep_in (minimal_in L) L a (falling_in (keep (minimal_in L) L) a i), λ h. in_falling (keep (minimal_in L) L) a (in_keep (minimal_in L) L a h.0 h.1))

-- so it has the width of L
pub minimal_width : (n : ℕ) (L : List (List ℕ)) → Width n L → Width n (minimal L)
minimal_width n L w a i = w a ((minimal_members L a).0 i).0

-- by descent on the degree: what is not minimal has a proper divisor, whose degree is smaller
covered : (L : List (List ℕ)) (d : ℕ) (m : List ℕ) → degree m < d → In m L → multiple (minimal L) m ≡ true
covered L zero m h i = absurd (omega arith)
covered L (suc d) m h i = go (minimal_in L m) refl (covered L d)
  where
    go : (t : Bool) → minimal_in L m ≡ t → ((k : List ℕ) → degree k < d → In k L → multiple (minimal L) k ≡ true) → multiple (minimal L) m ≡ true
    go true p f = member_multiple m (minimal L) ((minimal_members L m).1 (i, p))
    go false p f =
        let r = proper_divisor L m p in
        multiple_up (minimal L) r.0 m (f r.0 (omega (arith, proper_degree r.0 m r.2 r.3)) r.1) r.2

-- the minimal list has the same multiples
pub minimal_same : (n : ℕ) (L : List (List ℕ)) → Same n L (minimal L)
minimal_same n L =
    same_covered n L (minimal L) (λ m i. covered L (suc (degree m)) m (omega arith) i) (λ m i. member_multiple m L ((minimal_members L m).0 i).0)

-- no minimal member divides another
pub minimal_minimal : (n : ℕ) (L : List (List ℕ)) → Width n L → Minimal n (minimal L)
minimal_minimal n L w = record { width = minimal_width n L w; apart = apart }
  where
    apart : (a b : List ℕ) → In a (minimal L) → In b (minimal L) → divides a b ≡ true → a ≡ b
    apart a b i j h =
        let p = (minimal_members L a).0 i in
        let q = (minimal_members L b).0 j in
        divides_antisym a b (w a p.0 ∙ sym (w b q.0)) h (minimal_divisor L b q.1 a p.0 h)

-- they stand greatest first, once each
pub minimal_falling : (L : List (List ℕ)) → Falling (minimal L)
minimal_falling L = falling_falls (keep (minimal_in L) L)

minimal_like : (n : ℕ) (L K : List (List ℕ)) → Same n L K → Same n (minimal L) K
minimal_like n L K s = same_trans n (minimal L) L K (same_sym n L (minimal L) (minimal_same n L)) s

-- no list with the multiples of L is shorter
pub minimal_shortest : (n : ℕ) (L K : List (List ℕ)) → Width n L → Width n K → Same n L K → length (minimal L) ≤ length K
minimal_shortest n L K w v s =
    shortest n (minimal L) K (minimal_minimal n L w) (falling_distinct (minimal L) (minimal_falling L)) v (minimal_like n L K s)

-- no other minimal list that falls has the multiples of L
pub minimal_unique : (n : ℕ) (L K : List (List ℕ)) → Width n L → Minimal n K → Falling K → Same n L K → minimal L ≡ K
minimal_unique n L K w m f s =
    canonical n (minimal L) K (minimal_minimal n L w) m (minimal_falling L) f (minimal_like n L K s)

-- one ideal, one minimal list
pub minimal_same_iff : (n : ℕ) (L K : List (List ℕ)) → Width n L → Width n K → Same n L K ↔ (minimal L ≡ minimal K)
minimal_same_iff n L K w v = (
  λ s. minimal_unique n L (minimal K) w (minimal_minimal n K v) (minimal_falling K) (same_trans n L K (minimal K) s (minimal_same n K)),
  λ e. same_trans n L (minimal L) K (minimal_same n L) (rw e (minimal_like n K K (same_refl n K))),
)

-- a minimal list that falls stays as it is
pub minimal_fixed : (n : ℕ) (K : List (List ℕ)) → Minimal n K → Falling K → minimal K ≡ K
minimal_fixed n K m f = minimal_unique n K K m.width m f (same_refl n K)

-- so to minimize twice is to minimize once
pub minimal_again : (n : ℕ) (L : List (List ℕ)) → Width n L → minimal (minimal L) ≡ minimal L
minimal_again n L w = minimal_fixed n (minimal L) (minimal_minimal n L w) (minimal_falling L)

-- what a reader of records tests

-- each member is greater by DegRevLex than the next one
abbrev pub Chain : List (List ℕ) → Type 0
Chain [] = Unit {0}
Chain (a ∷ []) = Unit {0}
Chain (a ∷ b ∷ L) = (degrevlex a b ≡ Ordering.gt) × Chain (b ∷ L)

-- no member is divided by a later one
abbrev pub Undivided : List (List ℕ) → Type 0
Undivided [] = Unit {0}
Undivided (a ∷ L) = (multiple L a ≡ false) × Undivided L

chain_above : (a : List ℕ) (L : List (List ℕ)) → Chain (a ∷ L) → (c : List ℕ) → In c L → degrevlex a c ≡ Ordering.gt
chain_above a [] h c i = absurd i
chain_above a (b ∷ L) h c (inl e) = rw e h.0
chain_above a (b ∷ L) h c (inr i) = total_greater degrevlex degrevlex_total a b c h.0 (chain_above b L h.1 c i)

-- it is enough to compare neighbours
pub chain_falling : (L : List (List ℕ)) → Chain L ↔ Falling L
chain_falling [] = (λ h. tt, λ h. tt)
chain_falling (a ∷ []) = (λ h. (λ b i. absurd i, tt), λ h. tt)
chain_falling (a ∷ b ∷ L) =
    (λ h. (chain_above a (b ∷ L) h, (chain_falling (b ∷ L)).0 h.1), λ h. (h.0 b (inl refl), (chain_falling (b ∷ L)).1 h.1))

undivided_apart : (n : ℕ) (L : List (List ℕ)) → Width n L → Falling L → Undivided L → (a b : List ℕ) → In a L → In b L → divides a b ≡ true → a ≡ b
undivided_apart n [] w f u a b i j h = absurd i
undivided_apart n (c ∷ L) w f u a b (inl p) (inl q) h = p ∙ sym q
undivided_apart n (c ∷ L) w f u a b (inl p) (inr j) h =
    divides_antisym a b (w a (inl p) ∙ sym (w b (inr j))) h
    (divides_back a b h (rw p (degrevlex_greater_degree c b (f.0 b j))))
undivided_apart n (c ∷ L) w f u a b (inr i) (inl q) h = absurd (false≢true (sym u.0 ∙ divisor_multiple a L c i (rw q at h)))
undivided_apart n (c ∷ L) w f u a b (inr i) (inr j) h = undivided_apart n L (λ m l. w m (inr l)) f.1 u.1 a b i j h

minimal_undivided : (n : ℕ) (L : List (List ℕ)) → Minimal n L → Falling L → Undivided L
minimal_undivided n [] m f = tt
minimal_undivided n (a ∷ L) m f = (not_true (multiple L a) none, minimal_undivided n L tail f.1)
  where
    none : multiple L a ≡ true → ⊥
    none h =
        let d = multiple_divisor L a h in
        total_differ degrevlex degrevlex_total a d.0 (f.0 d.0 d.1) (sym (m.apart d.0 a (inr d.1) (inl refl) d.2))

    tail : Minimal n L
    tail = record { width = λ b i. m.width b (inr i); apart = λ b c i j. m.apart b c (inr i) (inr j) }

-- an earlier member never divides a later one, for its degree is no smaller and they differ
pub undivided_minimal : (n : ℕ) (L : List (List ℕ)) → Width n L → Falling L → Undivided L ↔ Minimal n L
undivided_minimal n L w f = (λ u. record { width = w; apart = undivided_apart n L w f u }, λ m. minimal_undivided n L m f)

-- both tests together
pub minimal_test : (n : ℕ) (L : List (List ℕ)) → Width n L → (Chain L × Undivided L) ↔ (minimal L ≡ L)
minimal_test n L w = (λ h. fore ((chain_falling L).0 h.0) h.1, back)
  where
    fore : Falling L → Undivided L → minimal L ≡ L
    fore f u = minimal_fixed n L ((undivided_minimal n L w f).0 u) f

    back : minimal L ≡ L → Chain L × Undivided L
    back e =
        let f : Falling L = rw e at (minimal_falling L) in
        ((chain_falling L).1 f, minimal_undivided n L (rw e at (minimal_minimal n L w)) f)
