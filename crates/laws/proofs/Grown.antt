-- The numerator of a list that grows by one monomial after another.
--   Carries n m L xs ys      == the first m monomials of ys have the multiples of L; ys is as long as xs
--   taken L g k              == what the monomial g adds to the numerator of L: −t^deg(g) · N(L : g)
--   grown L K k              == what the monomials K add to it: N(L and K) − N(L)
-- In this file:
--   listed_append, listed_next   lists read from cells, one behind another
--   divided-by-..                 the steps of the loop that divides
--   taken_added                  the seed −1 at the shift deg(g)
--   grown_none, grown_more       the steps of the loop over the new monomials
--   updated                      the update's coefficients, exact; updated_length, updated_padded: what a caller reads
use mathlib.Core.Path.{◌≡◌, refl, sym, ap, ap₂, ◌∙◌}
use mathlib.Core.Bool.{false}
use mathlib.Core.List.{List, [], ◌∷◌, ◌++◌, append_assoc, append-nil}
use Prim.Native.Nat.{ℕ, zero, suc, ◌+◌, ◌*◌, ◌-◌, ◌≤◌, ◌<◌, ◌^◌}
use native.Mathlib.Omega.{arith}
use native.Mathlib.Nat.{suc-mul, zero-mul}
use native.Mathlib.Numerals.{add-one}
use lib.ListN.{length, replicate, length-append, length-drop, take, drop}
use lib.Seq.{drop-drop, take-append-le, drop-append-le}
use lib.IntN.{ℤ, pos, negsuc, nat_abs, neg_ℤ, ◌+ℤ◌, ◌-ℤ◌, +ℤ_idl, +ℤ_idr, +ℤ_assoc, +ℤ_comm}
use mir.Val.{SFits}
use mir.Syntax.{w64}
use Rattle.laws.specs.Monomial.{degree}
use Rattle.laws.specs.Ideal.{listed, Within, multiple, colon}
use Rattle.laws.specs.Coefficients.{coefficient, shift, first, trim}
use Rattle.laws.specs.Numerator.{numerator_at, update_at, update}
use Rattle.laws.specs.Room.{update_asked}
use Rattle.laws.proofs.Ideal.{within_colon}
use Rattle.laws.proofs.Integer.{sub_self, abs_add, abs_sub}
use Rattle.laws.proofs.Numerator.{numerator_append_one}
use Rattle.laws.proofs.Rows.{at, rows, rows_within, part_is}
use Rattle.laws.proofs.Added.{low, low_add, low_exact, AddedTo, Zeros}
use Rattle.laws.proofs.Seed.{seeded, shift_neg, seeded_minus, seeded_same}
use Rattle.laws.proofs.Trim.{first_is, trim_pads}
use Rattle.laws.proofs.Leaf.{by}
use Rattle.laws.proofs.Exact.{small_fits, numerator_small, zeros_words}

pub listed_append : (n s t : ℕ) (xs ys : List ℕ) → length xs ≡ s * n → listed n (s + t) (xs ++ ys) ≡ listed n s xs ++ listed n t ys
listed_append n zero t [] ys e = let f : 0 + t ≡ t = omega arith in ap (λ (z : ℕ). listed n z ys) f
listed_append n zero t (x ∷ xs) ys e = absurd (omega (arith, zero-mul n))
listed_append n (suc s) t xs ys e =
    let f : suc s + t ≡ suc (s + t) = omega arith in
    let h : n ≤ length xs = omega (arith, suc-mul s n) in
    ap (λ (z : ℕ). listed n z (xs ++ ys)) f
    ∙ ap₂ {C = List (List ℕ)} ◌∷◌ (take-append-le n xs ys h)
    (ap (listed n (s + t)) (drop-append-le n xs ys h) ∙ listed_append n s t (drop n xs) ys (simp length-drop (omega (arith, suc-mul s n))))

listed_more : (n t : ℕ) (ys : List ℕ) → listed n (suc t) ys ≡ listed n t ys ++ at n t ys ∷ []
listed_more n zero ys = ap (λ (z : ℕ). take n (drop z ys) ∷ []) (sym (zero-mul n))
listed_more n (suc t) ys =
    let e : n + t * n ≡ suc t * n = omega (arith, suc-mul t n) in
    ap (λ (K : List (List ℕ)). take n ys ∷ K)
    (listed_more n t (drop n ys)
    ∙ ap (λ (z : List ℕ). listed n t (drop n ys) ++ take n z ∷ []) (drop-drop (t * n) n ys ∙ ap (λ (z : ℕ). drop z ys) e))

pub listed_next : (n t : ℕ) (ys : List ℕ) → listed n (t + 1) ys ≡ listed n t ys ++ at n t ys ∷ []
listed_next n t ys = rw (add-one t) (listed_more n t ys)

-- both lists, and their quotients, in the room

pub record Carries (n m : ℕ) (L : List (List ℕ)) (xs ys : List ℕ) : Type 0 where
  pub len : length ys ≡ length xs
  pub same : (u : List ℕ) → multiple (rows n m ys) u ≡ multiple L u

-- what new monomials add to the numerator

abbrev pub taken : List (List ℕ) → List ℕ → ℕ → ℤ
taken L g k = neg_ℤ (shift (degree g) (numerator_at (colon L g)) k)

pub taken_added : (n m d : ℕ) (L : List (List ℕ)) (g room xs : List ℕ) (out new : List ℤ) → Within n L → d ≡ degree g → Carries n m (colon L g) room xs
    → AddedTo (shift d (seeded (coefficient (negsuc 0 ∷ [])) [] (rows n m xs))) out new → AddedTo (taken L g) out new
taken_added n m d L g room xs out new w e c a =
    record { len = a.len; sums = λ k l. a.sums k l ∙ ap (λ (z : ℤ). low (coefficient out k +ℤ z)) (is k); words = a.words }
  where
    is : (k : ℕ) → shift d (seeded (coefficient (negsuc 0 ∷ [])) [] (rows n m xs)) k ≡ taken L g k
    is k =
        ap (λ (z : ℕ). shift z (seeded (coefficient (negsuc 0 ∷ [])) [] (rows n m xs)) k) e
        ∙ shift_neg (degree g) (seeded (coefficient (negsuc 0 ∷ [])) [] (rows n m xs)) (numerator_at (colon L g))
        (λ j. seeded_same n (negsuc 0 ∷ []) (rows n m xs) (colon L g) (rows_within n m xs) (within_colon n L g w) (λ u h. c.same u) j ∙ seeded_minus (colon L g) j) k

pub taken_part : (n a : ℕ) (ys : List ℕ) (L : List (List ℕ)) (out new : List ℤ) → AddedTo (taken L (take (a + n - a) (drop a ys))) out new → AddedTo (taken L (take n (drop a ys))) out new
taken_part n a ys L out new h = rw (part_is n a ys) at h

abbrev pub grown : List (List ℕ) → List (List ℕ) → ℕ → ℤ
grown L K k = numerator_at (L ++ K) k -ℤ numerator_at L k

pub grown_none : (L : List (List ℕ)) (out : List ℤ) → AddedTo (grown L []) out out
grown_none L out = record { len = refl; sums = λ k l. ap low (sym (ap (λ (z : ℤ). coefficient out k +ℤ z) (is k) ∙ +ℤ_idr (coefficient out k))); words = λ w. w }
  where
    is : (k : ℕ) → grown L [] k ≡ pos 0
    is k = ap (λ (J : List (List ℕ)). numerator_at J k -ℤ numerator_at L k) (append-nil L) ∙ sub_self (numerator_at L k)

-- (o + (x − y)) + t = o + ((x + t) − y)
move_in : (o x y t : ℤ) → (o +ℤ (x -ℤ y)) +ℤ t ≡ o +ℤ ((x +ℤ t) -ℤ y)
move_in o x y t =
    +ℤ_assoc o (x -ℤ y) t
    ∙ ap (λ (z : ℤ). o +ℤ z)
    (+ℤ_assoc x (neg_ℤ y) t ∙ ap (λ (z : ℤ). x +ℤ z) (+ℤ_comm (neg_ℤ y) t) ∙ sym (+ℤ_assoc x t (neg_ℤ y)))

pub grown_more : (L K J : List (List ℕ)) (g : List ℕ) (out a b : List ℤ) → J ≡ K ++ g ∷ [] → AddedTo (grown L K) out a → AddedTo (taken (L ++ K) g) a b → AddedTo (grown L J) out b
grown_more L K J g out a b e p q =
    record {
      len = q.len ∙ p.len;
      sums = λ k l. q.sums k (omega (arith, p.len))
          ∙ low_add (coefficient a k) (taken (L ++ K) g k) (coefficient out k +ℤ grown L K k) (taken (L ++ K) g k) (p.sums k l) refl
          ∙ ap low (move_in (coefficient out k) (numerator_at (L ++ K) k) (numerator_at L k) (taken (L ++ K) g k))
          ∙ ap (λ (z : ℤ). low (coefficient out k +ℤ (z -ℤ numerator_at L k))) (is k);
      words = λ w. q.words (p.words w);
    }
  where
    is : (k : ℕ) → numerator_at (L ++ K) k +ℤ taken (L ++ K) g k ≡ numerator_at (L ++ J) k
    is k =
        sym (numerator_append_one (L ++ K) g k)
        ∙ ap (λ (I : List (List ℕ)). numerator_at I k) (append_assoc L K (g ∷ []) ∙ ap (λ (I : List (List ℕ)). L ++ I) (sym e))

-- the whole call

module _ (G : List ℤ) (L K : List (List ℕ)) where
  pub updated : (z start out : List ℤ) → length L + length K ≤ 60 → ((k : ℕ) → nat_abs (coefficient G k) ≤ 2 ^ 61) → Zeros z → AddedTo (shift 0 (λ k. by false (coefficient G k))) z start → AddedTo (grown L K) start out
      → length z ≡ update_asked G (L ++ K) → out ≡ first (update_asked G (L ++ K)) (update_at G L K)
  unfolding Zeros
  updated z start out h m o a b e =
      first_is (update_asked G (L ++ K)) (update_at G L K) out (b.len ∙ a.len ∙ e) (λ k l. one k (omega arith))
    where
      fits : (k : ℕ) → SFits w64 (update_at G L K k)
      fits k =
          small_fits (update_at G L K k)
          (omega (arith, abs_sub (coefficient G k +ℤ numerator_at (L ++ K) k) (numerator_at L k), abs_add (coefficient G k) (numerator_at (L ++ K) k), m k, numerator_small (L ++ K) k (rw length-append h), numerator_small L k (omega arith)))

      one : (k : ℕ) → k < length z → coefficient out k ≡ update_at G L K k
      one k l =
          low_exact (coefficient out k) (update_at G L K k) (b.words (a.words (zeros_words z o)) k) (fits k)
          (b.sums k (omega (arith, a.len))
          ∙ low_add (coefficient start k) (grown L K k) (coefficient G k) (grown L K k) (a.sums k l ∙ ap low (ap (λ (x : ℤ). x +ℤ coefficient G k) (o k) ∙ +ℤ_idl (coefficient G k))) refl
          ∙ ap low (sym (+ℤ_assoc (coefficient G k) (numerator_at (L ++ K) k) (neg_ℤ (numerator_at L k)))))

  pub updated_length : (out : List ℤ) (r : ℕ) → out ≡ first (update_asked G (L ++ K)) (update_at G L K) → r ≡ length (trim out) → r ≡ length (update G L K)
  updated_length out r e h = h ∙ ap (λ (p : List ℤ). length (trim p)) e

  pub updated_padded : (out : List ℤ) (k : ℕ) → out ≡ first (update_asked G (L ++ K)) (update_at G L K) → length out ≡ k → out ≡ update G L K ++ replicate (k - length (update G L K)) (pos 0)
  updated_padded out k e h = trim_pads out ∙ ap₂ (λ (p : List ℤ) (j : ℕ). p ++ replicate (j - length p) (pos 0)) (ap trim e) h
