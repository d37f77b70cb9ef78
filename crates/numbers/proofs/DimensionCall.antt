-- The outcomes of `quotient_dimension` and of its steps: which check decides, and that the equations of the contracts then hold.
--   Left n L room p q sums r a b d e   == the answer r, and a, b, d, e in the exponent room, the two coefficient rooms and the sum room, are what
--                                         the checks of the rooms leave
--   Outcome r a b d e                  == they are what the call's contract says
-- Assumes nothing.
use Rattle.std.proofs.Common.{◌≡◌, ℕ, suc, ◌*◌, ◌%◌, ◌^◌, ◌<◌, ◌≤◌, Bool, true, false, cond, not, ◌||◌, eqb, ltb, leb, ◌⊎◌, List, [], ◌∷◌, ◌++◌, length, drop, replicate, ℤ, pos, sym, refl, ap, ◌∙◌, append-nil, le_trans, le_refl, mod-eq_of_lt, arith, lit<, lit≤, ltb-false, le-ltb, lt-ltb, eq-eqb, eqb-true, leb-false}
use mathlib.Core.Bool.{false≢true}
use mathlib.Core.Option.{Option, none, some}
use Rattle.std.specs.Prelude.{Result, Ok, Err}
use native.Mathlib.Nat.{mod-mod}
use borrow.Author.Tests.{not-false}
use Rattle.laws.specs.Ideal.{listed, Within, unit_in}
use Rattle.laws.specs.Coefficients.{coefficient}
use Rattle.laws.specs.Count.{HF}
use Rattle.laws.specs.Numerator.{numerator}
use Rattle.laws.specs.Sums.{sum, sumsℤ}
use Rattle.laws.specs.Word.{residue}
use Rattle.laws.specs.Dimension.{finite, degree_bound, powers_product, dimension}
use Rattle.laws.specs.Room.{cells_asked, coefficients_asked, dimension_words}
use Rattle.laws.proofs.Coefficients.{coefficient_padded}
use Rattle.laws.proofs.Sums.{sums_ext, residue_sum}
use Rattle.laws.proofs.Word.{residue_lt}
use Rattle.laws.proofs.Dimension.{dimension_unit, hf_residue, dimension_sum}
use Rattle.monomials.specs.Refusal.{Check, refusal, after, too_wide}
use Rattle.monomials.proofs.Outcomes.{ok_passes, ok_value}
use Rattle.monomials.specs.declared.refusal.Refusal.{Refusal}
use Rattle.monomials.specs.declared.refusal.Refusal.TheVariants.{CellRoom, CoefficientRoom, SumRoom}
use Rattle.numbers.specs.Wide.{wide, wide_of}
use Rattle.numbers.specs.Numerator.{wiped, too_many, not_cells, list_checks}
use Rattle.numbers.specs.Dimension.{dimension_is, at_once, no_dimension, bound_checks, room_checks, dimension_checks, dimension_answer, dimension_room, dimension_first, dimension_second, dimension_sums}
use Rattle.numbers.specs.DimensionParts.{Bounded, Cells as CellsOf, decision_as, list_answer}
use Rattle.numbers.specs.declared.wide.Wide.{Wide}
use Rattle.numbers.specs.declared.dimension.Decision.{Decision}
use Rattle.numbers.specs.declared.dimension.Dimension.{Dimension}
use Rattle.numbers.proofs.ToLaws.{either_short, neither}
use Rattle.numbers.proofs.TwoWords.{wide_mod}

-- the checks 13 and 11

no_other : (a b : Bool) → (not a || b) ≡ false → (a ≡ true) × (b ≡ false)
no_other true b e = (refl, e)
no_other false b e = absurd (false≢true (sym e))

module _ (M n : ℕ) (L : List (List ℕ)) where
  -- a list that passes 13
  pub has_dimension_lem : no_dimension M n L ≡ false → (finite n L ≡ true) × (degree_bound n L ≤ M)
  has_dimension_lem e =
      let (f, l) = no_other (finite n L) (ltb M (degree_bound n L)) e in
      (f, ltb-false M (degree_bound n L) l)

  -- a list that passes both
  pub bounded : (d : ℕ) → unit_in L ≡ false → M ≤ 65536 → refusal (bound_checks M n L) ≡ none → d ≡ degree_bound n L → Bounded n L d
  bounded d u m e k = go (no_dimension M n L) (leb (2 ^ 127) (powers_product n L)) refl refl
    where
      go : (s t : Bool) → no_dimension M n L ≡ s → leb (2 ^ 127) (powers_product n L) ≡ t → Bounded n L d
      go true t h g = let z : ◌≡◌ {A = ℕ} 0 1 = cc (rw h at e) in absurd (omega arith)
      go false true h g = let z : ◌≡◌ {A = ℕ} 0 1 = cc (rw (h, g) at e) in absurd (omega arith)
      go false false h g =
          let (f, l) = has_dimension_lem h in
          record { plain = u; powers = f; bound = k; small = rw k (le_trans l m); product = leb-false (2 ^ 127) (powers_product n L) g }

-- what the list decides, read back

module _ (t : Bool) (w b : ℕ) where
  is_bound : (d : ℕ) → Decision.Bound d ≡ decision_as t w b → (t ≡ false) × (d ≡ b)
  is_bound d e = go t refl
    where
      go : (y : Bool) → t ≡ y → (t ≡ false) × (d ≡ b)
      go true g = let z : ◌≡◌ {A = ℕ} 0 1 = cc (rw g at e) in absurd (omega arith)
      go false g = (g, cc (rw g at e))

-- counting

module _ (n d : ℕ) (L : List (List ℕ)) (b : Bounded n L d) where
  -- the n-fold sums modulo 2^128 are the Hilbert function
  values : Within n L → (p : List ℤ) (j : ℕ) → p ≡ numerator L ++ replicate j (pos 0) → (k : ℕ) → k < suc d → residue (2 ^ 128) (sumsℤ n (coefficient p) k) ≡ HF L n k
  values w p j e k h =
      ap (residue (2 ^ 128)) (sums_ext n (coefficient p) (coefficient (numerator L)) (λ i. ap (λ (l : List ℤ). coefficient l i) e ∙ coefficient_padded (numerator L) j i) k)
      ∙ hf_residue n L b.powers (2 ^ 128) (le_trans b.product (lit≤ tt)) k w (omega (arith, b.bound))

  -- and their sum is the dimension
  pub counted : Within n L → (p : List ℤ) (j : ℕ) → p ≡ numerator L ++ replicate j (pos 0) → (r : Wide) → r ≡ wide_of (sumsℤ (suc n) (coefficient p) d) → r ≡ wide (dimension n L)
  counted w p j e r g =
      g
      ∙ ap wide (sym (residue_sum (2 ^ 128) (lit< tt) (suc d) (sumsℤ n (coefficient p)) (HF L n) (λ k h. let v = values w p j e k h in rw (← v) (mod-eq_of_lt (residue_lt (2 ^ 128) (lit< tt) (sumsℤ n (coefficient p) k)))) d (omega arith)))
      ∙ wide_mod (sum (HF L n) d % 2 ^ 128) (sum (HF L n) d) (mod-mod (sum (HF L n) d) (2 ^ 128))
      ∙ ap wide (ap (sum (HF L n)) b.bound ∙ sym (dimension_sum n L))

-- the rooms' checks

module _ (n : ℕ) (L : List (List ℕ)) (room : List ℕ) (p q : List ℤ) (sums : List ℕ) where
  abbrev pub Left : Result Dimension Refusal → List ℕ → List ℤ → List ℤ → List ℕ → Type 0
  Left r a b d e =
      (r ≡ dimension_is (refusal (room_checks n L room p q sums)) n L)
      × ((a ≡ after (refusal (room_checks n L room p q sums)) (wiped 0 (cells_asked n L) room) room)
      × ((b ≡ after (refusal (room_checks n L room p q sums)) (wiped (pos 0) (coefficients_asked L) p) p)
      × ((d ≡ after (refusal (room_checks n L room p q sums)) (wiped (pos 0) (coefficients_asked L) q) q)
      × (e ≡ after (refusal (room_checks n L room p q sums)) (wiped 0 (dimension_words (degree_bound n L)) sums) sums))))

  stops : (x : Refusal) (r : Result Dimension Refusal) → refusal (room_checks n L room p q sums) ≡ some x → r ≡ Err x → Left r room p q sums
  stops x r e h = (rw e h, (rw e, (rw e, (rw e, rw e))))

  module _ (c k d : ℕ) (ec : c ≡ cells_asked n (L ++ [])) (ek : k ≡ coefficients_asked (L ++ [])) (ed : d ≡ degree_bound n L) where
    pub room_size : c ≡ cells_asked n L
    room_size = ec ∙ ap (cells_asked n) (append-nil L)

    pub list_size : k ≡ coefficients_asked L
    list_size = ek ∙ ap coefficients_asked (append-nil L)

    pub sums_size : dimension_words d ≡ dimension_words (degree_bound n L)
    sums_size = ap dimension_words ed

    pub stops_room : (r : Result Dimension Refusal) → length room < c → r ≡ Err CellRoom → Left r room p q sums
    stops_room r l e = stops CellRoom r (rw (lt-ltb (length room) (cells_asked n L) (rw room_size at l))) e

    module _ (l : c ≤ length room) where
      pub stops_coefficients : (r : Result Dimension Refusal) (y : ℕ) → (y ≡ length p) ⊎ (y ≡ length q) → y < k → r ≡ Err CoefficientRoom → Left r room p q sums
      stops_coefficients r y o a e =
          stops CoefficientRoom r
          (rw (le-ltb (length room) (cells_asked n L) (rw room_size at l), either_short (coefficients_asked L) (length p) (length q) y o (rw list_size at a))) e

      module _ (a : k ≤ length p) where
        module _ (b : k ≤ length q) where
          pub stops_sums : (r : Result Dimension Refusal) → length sums < dimension_words d → r ≡ Err SumRoom → Left r room p q sums
          stops_sums r h e =
              stops SumRoom r
              (rw (le-ltb (length room) (cells_asked n L) (rw room_size at l), le-ltb (length p) (coefficients_asked L) (rw list_size at a), le-ltb (length q) (coefficients_asked L) (rw list_size at b), lt-ltb (length sums) (dimension_words (degree_bound n L)) (rw sums_size at h))) e

          passes : dimension_words d ≤ length sums → refusal (room_checks n L room p q sums) ≡ none
          passes h =
              rw (le-ltb (length room) (cells_asked n L) (rw room_size at l), le-ltb (length p) (coefficients_asked L) (rw list_size at a), le-ltb (length q) (coefficients_asked L) (rw list_size at b), le-ltb (length sums) (dimension_words (degree_bound n L)) (rw sums_size at h))

          pub gives : unit_in L ≡ false → dimension_words d ≤ length sums → (r : Result Dimension Refusal) (x : Wide) (A : List ℕ) (B D : List ℤ) (E : List ℕ)
              → r ≡ Ok (record { dimension = x; top = d }) → x ≡ wide (dimension n L)
              → A ≡ replicate c 0 → B ≡ replicate k (pos 0) → D ≡ replicate k (pos 0) → E ≡ replicate (dimension_words d) 0
              → Left r (A ++ drop c room) (B ++ drop k p) (D ++ drop k q) (E ++ drop (dimension_words d) sums)
          gives u h r x A B D E e v eA eB eD eE =
              let o = passes h in (
                rw (o, u) (e ∙ rw (v, ed)),
                (
                  rw o (ap (λ (y : List ℕ). y ++ drop c room) eA ∙ ap (λ (y : ℕ). wiped 0 y room) room_size),
                  (
                    rw o (ap (λ (y : List ℤ). y ++ drop k p) eB ∙ ap (λ (y : ℕ). wiped (pos 0) y p) list_size),
                    (
                      rw o (ap (λ (y : List ℤ). y ++ drop k q) eD ∙ ap (λ (y : ℕ). wiped (pos 0) y q) list_size),
                      rw o (ap (λ (y : List ℕ). y ++ drop (dimension_words d) sums) eE ∙ ap (λ (y : ℕ). wiped 0 y sums) sums_size),
                    ),
                  ),
                ),
              )

-- the whole call

-- the first checks decide, or the others
refusal_first : (xs ys : List Check) (r : Refusal) → refusal xs ≡ some r → refusal (xs ++ ys) ≡ some r
refusal_first [] ys r e = let z : ◌≡◌ {A = ℕ} 0 1 = cc in absurd (omega arith)
refusal_first (x ∷ xs) ys r e = go x.0 refl (refusal_first xs ys r)
  where
    go : (t : Bool) → x.0 ≡ t → (refusal xs ≡ some r → refusal (xs ++ ys) ≡ some r) → refusal ((x ∷ xs) ++ ys) ≡ some r
    go true h f = rw h (rw h at e)
    go false h f = rw h (f (rw h at e))

refusal_then : (xs ys : List Check) → refusal xs ≡ none → refusal (xs ++ ys) ≡ refusal ys
refusal_then [] ys e = refl
refusal_then (x ∷ xs) ys e = go x.0 refl (refusal_then xs ys)
  where
    go : (t : Bool) → x.0 ≡ t → (refusal xs ≡ none → refusal (xs ++ ys) ≡ refusal ys) → refusal ((x ∷ xs) ++ ys) ≡ refusal ys
    go true h f = let z : ◌≡◌ {A = ℕ} 0 1 = cc (rw h at e) in absurd (omega arith)
    go false h f = rw h (f (rw h at e))

-- no check refuses
pub refusal_none : (x : Check) (xs : List Check) → refusal (x ∷ xs) ≡ none → (x.0 ≡ false) × (refusal xs ≡ none)
refusal_none x xs e = go x.0 refl
  where
    go : (t : Bool) → x.0 ≡ t → (t ≡ false) × (refusal xs ≡ none)
    go true h = let z : ◌≡◌ {A = ℕ} 0 1 = cc (rw h at e) in absurd (omega arith)
    go false h = (refl, rw h at e)

-- what the list alone decides

abbrev known : ℕ → Result Decision Refusal
known x = Ok (Decision.Known (wide x))

abbrev bound : ℕ → Result Decision Refusal
bound d = Ok (Decision.Bound d)

module _ (W C M n s : ℕ) (cells : List ℕ) where
  module _ (h : n ≤ W) (g : s ≤ C) (f : length cells ≡ s * n) where
    pub decides_unit : unit_in (listed n s cells) ≡ true → Ok (Decision.Known (wide 0)) ≡ list_answer W C M n s cells
    decides_unit u =
        rw (le-ltb W n h, le-ltb C s g, eq-eqb (length cells) (s * n) f, u) (ap known (sym (dimension_unit n (listed n s cells) u)))

  -- the checks that it passes
  abbrev pub decides : Option Refusal
  decides = refusal (list_checks W C n s cells ++ cond (at_once n (listed n s cells)) [] (bound_checks M n (listed n s cells)))

  module _ (e : decides ≡ none) where
    pub is_list_lem : (n ≤ W) × (s ≤ C) × (length cells ≡ s * n)
    is_list_lem =
        let (a, b) = refusal_none (too_wide W n) (too_many C s ∷ not_cells n s cells ∷ cond (at_once n (listed n s cells)) [] (bound_checks M n (listed n s cells))) e in
        let (c, d) = refusal_none (too_many C s) (not_cells n s cells ∷ cond (at_once n (listed n s cells)) [] (bound_checks M n (listed n s cells))) b in
        let (i, j) = refusal_none (not_cells n s cells) (cond (at_once n (listed n s cells)) [] (bound_checks M n (listed n s cells))) d in
        (ltb-false W n a, ltb-false C s c, eqb-true (length cells) (s * n) (not-false (eqb (length cells) (s * n)) i))

    pub is_plain : at_once n (listed n s cells) ≡ false → unit_in (listed n s cells) ≡ false
    is_plain o = (neither (unit_in (listed n s cells)) (eqb n 0) o).0

    pub passes_bound : at_once n (listed n s cells) ≡ false → refusal (bound_checks M n (listed n s cells)) ≡ none
    passes_bound o =
        let (a, b, c) = is_list_lem in
        rw (le-ltb W n a, le-ltb C s b, eq-eqb (length cells) (s * n) c, o) at e

-- a list whose degree bound is d
pub record Found (n s : ℕ) (cells : List ℕ) (d : ℕ) : Type 0 where
  pub none : decides 255 60 65536 n s cells ≡ none
  pub later : at_once n (listed n s cells) ≡ false
  pub there : CellsOf n s cells
  pub bounded : Bounded n (listed n s cells) d

pub found : (n s : ℕ) (cells : List ℕ) (w : Decision) (d : ℕ) → Ok w ≡ list_answer 255 60 65536 n s cells → w ≡ Decision.Bound d → Found n s cells d
found n s cells w d f g =
    let own = decision_as (at_once n (listed n s cells)) (dimension n (listed n s cells)) (degree_bound n (listed n s cells)) in
    let e = ok_passes (decides 255 60 65536 n s cells) own w (sym f) in
    let (o, b) = is_bound (at_once n (listed n s cells)) (dimension n (listed n s cells)) (degree_bound n (listed n s cells)) d (sym g ∙ ok_value (decides 255 60 65536 n s cells) own w (sym f)) in
    let (h, k, l) = is_list_lem 255 60 65536 n s cells e in
    record { none = e; later = o; there = record { there = l; width = h; count = k }; bounded = bounded 65536 n (listed n s cells) d (is_plain 255 60 65536 n s cells e o) (le_refl 65536) (passes_bound 255 60 65536 n s cells e o) b }

module _ (W C M n s : ℕ) (cells room : List ℕ) (p q : List ℤ) (sums : List ℕ) where
  abbrev pub Outcome : Result Dimension Refusal → List ℕ → List ℤ → List ℤ → List ℕ → Type 0
  Outcome r a b d e =
      (r ≡ dimension_answer W C M n s cells room p q sums)
      × ((a ≡ dimension_room W C M n s cells room p q sums)
      × ((b ≡ dimension_first W C M n s cells room p q sums)
      × ((d ≡ dimension_second W C M n s cells room p q sums)
      × (e ≡ dimension_sums W C M n s cells room p q sums))))

  module _ (e : decides W C M n s cells ≡ none) where
    pub leaves : (r : Result Dimension Refusal) (a : List ℕ) (b d : List ℤ) (c : List ℕ) → at_once n (listed n s cells) ≡ false → Left n (listed n s cells) room p q sums r a b d c → Outcome r a b d c
    leaves r a b d c o l =
        let m : refusal (dimension_checks W C M n s cells room p q sums) ≡ refusal (room_checks n (listed n s cells) room p q sums) = rw o (refusal_then (list_checks W C n s cells ++ bound_checks M n (listed n s cells)) (room_checks n (listed n s cells) room p q sums) (rw o at e)) in
        (rw m l.0, (rw (m, o) l.1.0, (rw (m, o) l.1.1.0, (rw (m, o) l.1.1.1.0, rw (m, o) l.1.1.1.1))))
