-- The choice of places: what the writer's private functions do, in the words of the crate laws.
--   rows_at_next, rows_at_end      the monomials from place number k on
--   insert_seat, insert_there      a monomial put into a list that falls, at its seat or not at all
--   inserted, inserted_below       the same for its place
--   rows_at_width, spread_next     the bytes of the monomials at places, one monomial more
--   chosen_more, chosen_same       the minimal monomials from place i on, greatest first
-- Assumes nothing.
use mathlib.Core.Path.{◌≡◌, refl, sym, ap, ◌∙◌}
use mathlib.Core.Logic.{inl, inr}
use mathlib.Core.Bool.{true, false, cond}
use mathlib.Core.List.{List, [], ◌∷◌, ◌++◌}
use Prim.Native.Nat.{ℕ, suc, ◌+◌, ◌*◌, ◌≤◌, ◌<◌, Ordering}
use native.Mathlib.Omega.{arith}
use native.Mathlib.Numerals.{add-one}
use lib.ListN.{length, get_or, take, drop, length-take, length-map, drop_of_length-le}
use lib.Seq.{drop-cons, take-suc, sets}
use Rattle.std.proofs.lemmas.List.{map-append, take-map, drop-map}
use Rattle.laws.specs.Ideal.{listed, Width}
use Rattle.laws.specs.Count.{keep}
use Rattle.laws.specs.Order.{degrevlex}
use Rattle.laws.specs.Minimal.{minimal_in, place, insert, falling}
use Rattle.laws.specs.Record.{monomial_bytes, exponent_bytes}
use Rattle.laws.proofs.Record.{exponent_bytes_length}
use Rattle.laws.proofs.Writing.{sets_append, exponent_bytes_next}
use Rattle.std.proofs.lemmas.List.Elements.{All-head, All-tail, All-cons, All-append, All-take, All-drop}
use Rattle.records.specs.Rows.{row, rows_at, Below, is_less, is_equal, seat_of, same_at}
use Rattle.records.proofs.Cells.{row_length, row_within, listed_next}

-- the monomials at places

module _ (n : ℕ) (cells : List ℕ) (k : ℕ) (ps : List ℕ) where
  -- the monomial at place number k, and those after it
  pub rows_at_next : k < length ps → drop k (rows_at n cells ps) ≡ row n cells (get_or ps k 0) ∷ drop (k + 1) (rows_at n cells ps)
  rows_at_next h = drop-map (row n cells) k ps ∙ ap (rows_at n cells) (drop-cons ps k 0 h) ∙ rw (add-one k, drop-map) refl

  -- none is left
  pub rows_at_end : length ps ≤ k → drop k (rows_at n cells ps) ≡ []
  rows_at_end h = drop_of_length-le (rows_at n cells ps) {i = k} (omega (arith, length-map ps (row n cells)))

-- the seat of a monomial

-- not there: at the seat
pub insert_seat : (a : List ℕ) (K : List (List ℕ)) → same_at a (drop (seat_of a K) K) ≡ false → insert a K ≡ take (seat_of a K) K ++ a ∷ drop (seat_of a K) K
insert_seat a [] h = refl
insert_seat a (k ∷ K) h = go (degrevlex a k) refl h (insert_seat a K)
  where
    go : (o : Ordering) → degrevlex a k ≡ o
        → same_at a (drop (cond (is_less o) (suc (seat_of a K)) 0) (k ∷ K)) ≡ false
        → (same_at a (drop (seat_of a K) K) ≡ false → insert a K ≡ take (seat_of a K) K ++ a ∷ drop (seat_of a K) K)
        → place o a k K (insert a K) ≡ take (cond (is_less o) (suc (seat_of a K)) 0) (k ∷ K) ++ a ∷ drop (cond (is_less o) (suc (seat_of a K)) 0) (k ∷ K)
    go Ordering.lt e g f = ap (λ (r : List (List ℕ)). k ∷ r) (f g)
    go Ordering.eq e g f = cc (ap is_equal e)
    go Ordering.gt e g f = refl

-- there: nowhere
pub insert_there : (a : List ℕ) (K : List (List ℕ)) → same_at a (drop (seat_of a K) K) ≡ true → insert a K ≡ K
insert_there a [] h = cc
insert_there a (k ∷ K) h = go (degrevlex a k) refl h (insert_there a K)
  where
    go : (o : Ordering) → degrevlex a k ≡ o
        → same_at a (drop (cond (is_less o) (suc (seat_of a K)) 0) (k ∷ K)) ≡ true
        → (same_at a (drop (seat_of a K) K) ≡ true → insert a K ≡ K)
        → place o a k K (insert a K) ≡ k ∷ K
    go Ordering.lt e g f = ap (λ (r : List (List ℕ)). k ∷ r) (f g)
    go Ordering.eq e g f = refl
    go Ordering.gt e g f = cc (ap is_equal e)

-- place i put among places, at the seat of its monomial
pub inserted : (n p i : ℕ) (cells ps d : List ℕ) → d ≡ take p ps ++ i ∷ drop p ps
    → p ≡ seat_of (row n cells i) (rows_at n cells ps) → same_at (row n cells i) (drop p (rows_at n cells ps)) ≡ false
    → rows_at n cells d ≡ insert (row n cells i) (rows_at n cells ps)
inserted n p i cells ps d e f g =
    ap (rows_at n cells) e
    ∙ map-append (row n cells) (take p ps) (i ∷ drop p ps)
    ∙ rw (← take-map (row n cells) p ps, ← drop-map (row n cells) p ps, f)
    (sym (insert_seat (row n cells i) (rows_at n cells ps) (rw f at g)))

-- it is below s, as they are
pub inserted_below : (s p i : ℕ) (ps : List ℕ) → Below s ps → i < s → Below s (take p ps ++ i ∷ drop p ps)
inserted_below s p i ps b l =
    All-append (λ (q : ℕ). q < s) (take p ps) (i ∷ drop p ps) (All-take (λ (q : ℕ). q < s) p ps b) (All-cons (λ (q : ℕ). q < s) i (drop p ps) l (All-drop (λ (q : ℕ). q < s) p ps b))

-- the bytes of the monomials at places

module _ (n s : ℕ) (cells : List ℕ) (h : length cells ≡ s * n) where
  pub rows_at_width : (ps : List ℕ) → Below s ps → Width n (rows_at n cells ps)
  rows_at_width [] b m i = absurd i
  rows_at_width (p ∷ ps) b m (inl e) = ap length e ∙ row_length n p cells (row_within n s p cells h (All-head (λ (q : ℕ). q < s) p ps b))
  rows_at_width (p ∷ ps) b m (inr i) = rows_at_width ps (All-tail (λ (q : ℕ). q < s) p ps b) m i

  -- one monomial more
  pub spread_next : (out ps : List ℕ) (k : ℕ) → Below s ps → k < length ps
      → sets (sets out 7 (exponent_bytes (rows_at n cells (take k ps)))) (7 + 2 * (k * n)) (monomial_bytes (row n cells (get_or ps k 0)))
      ≡ sets out 7 (exponent_bytes (rows_at n cells (take (k + 1) ps)))
  spread_next out ps k b l =
      let K = rows_at n cells (take k ps) in
      let x = row n cells (get_or ps k 0) in
      let w : Width n K = rows_at_width (take k ps) (All-take (λ (q : ℕ). q < s) k ps b) in
      let c : length K ≡ k = length-map (take k ps) (row n cells) ∙ length-take k ps ∙ omega arith in
      let e : 7 + 2 * (k * n) ≡ 7 + length (exponent_bytes K) = omega (arith, exponent_bytes_length n K w, ap (λ (j : ℕ). j * n) c) in
      let d : take (k + 1) ps ≡ take k ps ++ get_or ps k 0 ∷ [] = rw (add-one k) (take-suc ps k 0 l) in
      rw (e, d, map-append (row n cells) (take k ps) (get_or ps k 0 ∷ []), exponent_bytes_next K x) (sym (sets_append out 7 (exponent_bytes K) (monomial_bytes x)))

-- the minimal ones from monomial i on, greatest first
module _ (n s i : ℕ) (cells : List ℕ) (h : i < s) where
  abbrev chosen : ℕ → List (List ℕ)
  chosen j = falling (keep (minimal_in (listed n s cells)) (drop j (listed n s cells)))

  from_here : chosen i ≡ falling (cond (minimal_in (listed n s cells) (row n cells i)) (row n cells i ∷ keep (minimal_in (listed n s cells)) (drop (i + 1) (listed n s cells))) (keep (minimal_in (listed n s cells)) (drop (i + 1) (listed n s cells))))
  from_here = ap (λ (L : List (List ℕ)). falling (keep (minimal_in (listed n s cells)) L)) (listed_next n s i cells h)

  -- monomial i is minimal
  pub chosen_more : minimal_in (listed n s cells) (row n cells i) ≡ true → chosen i ≡ insert (row n cells i) (chosen (i + 1))
  chosen_more e = from_here ∙ rw e

  -- it is not
  pub chosen_same : minimal_in (listed n s cells) (row n cells i) ≡ false → chosen i ≡ chosen (i + 1)
  chosen_same e = from_here ∙ rw e
