-- The checks that the calls on lists share: which one decides, and what holds of a call that passes them.
--   checks, outcome       == `rooms_checks` and `rooms_answer`
--   Passed                == what holds where none of them refuses
-- In this file:
--   stops-.., asks        the outcomes, check by check
--   refused_is, asked_is  an outcome read back; `passed` is `asked_is` with all but its two facts left to be found
--   one_checks, one-..    a call on one list, with no given coefficients
use Rattle.std.proofs.Common.{◌≡◌, ℕ, ◌+◌, ◌*◌, ◌<◌, ◌≤◌, max, Bool, true, false, not, ◌||◌, eqb, ltb, List, [], ◌∷◌, ◌++◌, length, ℤ, sym, ap, ◌∙◌, ap₂, append-nil, add-zero, zero-mul, arith, ltb-false, le-ltb, lt-ltb, eq-eqb, ne_eqb, eqb-true}
use mathlib.Core.Option.{none, some}
use Rattle.std.specs.Prelude.{Result, Ok, Err}
use borrow.Author.Tests.{not-false}
use Rattle.laws.specs.Ideal.{listed}
use Rattle.laws.specs.Room.{cells_asked, coefficients_asked, dimension_words}
use Rattle.laws.proofs.Asked.{both}
use Rattle.laws.proofs.Monomial.{or_right}
use Rattle.monomials.specs.Refusal.{Check, refusal}
use Rattle.monomials.proofs.Outcomes.{ok_passes, ok_value, err_refuses}
use Rattle.monomials.specs.declared.refusal.Refusal.{Refusal}
use Rattle.monomials.specs.declared.refusal.Refusal.TheVariants.{Width, Count, Cells, Coefficient, CellRoom, CoefficientRoom}
use Rattle.numbers.specs.Numerator.{list_checks, not_cells, too_many}
use Rattle.laws.specs.Dimension.{degree_bound}
use Rattle.numbers.specs.Dimension.{room_checks, sum_room}
use Rattle.numbers.specs.DimensionParts.{Cells as CellsOf}
use Rattle.numbers.specs.RoomsParts.{rooms_answer, rooms_checks}
use Rattle.numbers.proofs.DimensionCall.{Left, refusal_none}
use Rattle.numbers.proofs.ToLaws.{neither}
use Rattle.numbers.specs.declared.asked.Sizes.{Sizes}
use Rattle.numbers.specs.declared.dimension.Dimension.{Dimension}

module _ (n s : ℕ) (xs : List ℕ) (t : ℕ) (ys : List ℕ) (large : Bool) (least room first second : ℕ) where
  abbrev pub cells : ℕ
  cells = cells_asked n (both n s xs t ys)

  abbrev pub coefficients : ℕ
  coefficients = max (coefficients_asked (both n s xs t ys)) least

  abbrev pub checks : List Check
  checks = rooms_checks n s xs t ys large least room first second

  abbrev pub outcome : Result Sizes Refusal
  outcome = rooms_answer n s xs t ys large least room first second

  stops : (x : Refusal) → refusal checks ≡ some x → Err x ≡ outcome
  unfolding rooms_answer
  stops x e = rw e

  pub stops_width : 255 < n → Err Width ≡ outcome
  stops_width h = stops Width (rw (lt-ltb 255 n h))

  module _ (h : n ≤ 255) where
    pub stops_count : 60 < s + t → Err Count ≡ outcome
    stops_count g = stops Count (rw (le-ltb 255 n h, lt-ltb 60 (s + t) g))

    module _ (g : s + t ≤ 60) where
      pub stops_first : (length xs ≡ s * n → ⊥) → Err Cells ≡ outcome
      stops_first f = stops Cells (rw (le-ltb 255 n h, le-ltb 60 (s + t) g, ne_eqb (length xs) (s * n) f))

      module _ (f : length xs ≡ s * n) where
        pub stops_second : (length ys ≡ t * n → ⊥) → Err Cells ≡ outcome
        stops_second k = stops Cells (rw (le-ltb 255 n h, le-ltb 60 (s + t) g, eq-eqb (length xs) (s * n) f, ne_eqb (length ys) (t * n) k))

        module _ (k : length ys ≡ t * n) where
          pub stops_large : large ≡ true → Err Coefficient ≡ outcome
          stops_large o = stops Coefficient (rw (le-ltb 255 n h, le-ltb 60 (s + t) g, eq-eqb (length xs) (s * n) f, eq-eqb (length ys) (t * n) k, o))

          module _ (o : large ≡ false) (a : Sizes) (ea : a.cells ≡ cells) (eb : a.coefficients ≡ coefficients) where
            first_four : refusal checks ≡ refusal ((ltb room cells, CellRoom) ∷ (ltb first coefficients || ltb second coefficients, CoefficientRoom) ∷ [])
            first_four = rw (le-ltb 255 n h, le-ltb 60 (s + t) g, eq-eqb (length xs) (s * n) f, eq-eqb (length ys) (t * n) k, o)

            pub stops_room : room < a.cells → Err CellRoom ≡ outcome
            stops_room l = stops CellRoom (first_four ∙ rw (lt-ltb room cells (rw ea at l)))

            module _ (l : a.cells ≤ room) where
              enough : ltb room cells ≡ false
              enough = le-ltb room cells (rw ea at l)

              pub stops_coefficients : first < a.coefficients → Err CoefficientRoom ≡ outcome
              stops_coefficients b = stops CoefficientRoom (first_four ∙ rw (enough, lt-ltb first coefficients (rw eb at b)))

              pub stops_coefficients_2 : second < a.coefficients → Err CoefficientRoom ≡ outcome
              stops_coefficients_2 b =
                  stops CoefficientRoom
                  (first_four ∙ rw (enough, or_right (ltb first coefficients) (ltb second coefficients) (lt-ltb second coefficients (rw eb at b))))

              pub asks : a.coefficients ≤ first → a.coefficients ≤ second → Ok a ≡ outcome
              unfolding rooms_answer
              asks b d =
                  let e : refusal checks ≡ none = first_four ∙ rw (enough, le-ltb first coefficients (rw eb at b), le-ltb second coefficients (rw eb at d)) in
                  rw e (ap₂ (λ (x y : ℕ). Ok (record { cells = x; coefficients = y })) ea eb)

  -- a call that passes
  pub record Passed (a : Sizes) : Type 0 where
    pub none : refusal checks ≡ none
    pub width : n ≤ 255
    pub count : s + t ≤ 60
    pub first_there : length xs ≡ s * n
    pub second_there : length ys ≡ t * n
    pub small : large ≡ false
    pub cells_are : a.cells ≡ cells
    pub coefficients_are : a.coefficients ≡ coefficients
    pub room_lent : a.cells ≤ room
    pub first_lent : a.coefficients ≤ first
    pub second_lent : a.coefficients ≤ second

  pub refused_is : (x : Refusal) → Err x ≡ outcome → refusal checks ≡ some x
  unfolding rooms_answer
  refused_is x e = err_refuses (refusal checks) (record { cells = cells; coefficients = coefficients }) x (sym e)

  pub asked_is : (a : Sizes) → Ok a ≡ outcome → Passed a
  unfolding rooms_answer
  asked_is a e =
      let own : Sizes = record { cells = cells; coefficients = coefficients } in
      let o = ok_passes (refusal checks) own a (sym e) in
      let i = ok_value (refusal checks) own a (sym e) in
      let (o1, p1) = refusal_none (ltb 255 n, Width) (too_many 60 (s + t) ∷ not_cells n s xs ∷ not_cells n t ys ∷ (large, Coefficient) ∷ (ltb room cells, CellRoom) ∷ (ltb first coefficients || ltb second coefficients, CoefficientRoom) ∷ []) o in
      let (o2, p2) = refusal_none (ltb 60 (s + t), Count) (not_cells n s xs ∷ not_cells n t ys ∷ (large, Coefficient) ∷ (ltb room cells, CellRoom) ∷ (ltb first coefficients || ltb second coefficients, CoefficientRoom) ∷ []) p1 in
      let (o3, p3) = refusal_none (not (eqb (length xs) (s * n)), Cells) (not_cells n t ys ∷ (large, Coefficient) ∷ (ltb room cells, CellRoom) ∷ (ltb first coefficients || ltb second coefficients, CoefficientRoom) ∷ []) p2 in
      let (o4, p4) = refusal_none (not (eqb (length ys) (t * n)), Cells) ((large, Coefficient) ∷ (ltb room cells, CellRoom) ∷ (ltb first coefficients || ltb second coefficients, CoefficientRoom) ∷ []) p3 in
      let (o5, p5) = refusal_none (large, Coefficient) ((ltb room cells, CellRoom) ∷ (ltb first coefficients || ltb second coefficients, CoefficientRoom) ∷ []) p4 in
      let (o6, p6) = refusal_none (ltb room cells, CellRoom) ((ltb first coefficients || ltb second coefficients, CoefficientRoom) ∷ []) p5 in
      let (o7, p7) = refusal_none (ltb first coefficients || ltb second coefficients, CoefficientRoom) [] p6 in
      let (u, v) = neither (ltb first coefficients) (ltb second coefficients) o7 in
      let ea : a.cells ≡ cells = ap (λ (b : Sizes). b.cells) i in
      let eb : a.coefficients ≡ coefficients = ap (λ (b : Sizes). b.coefficients) i in
      record {
        none = o;
        width = ltb-false 255 n o1;
        count = ltb-false 60 (s + t) o2;
        first_there = eqb-true (length xs) (s * n) (not-false (eqb (length xs) (s * n)) o3);
        second_there = eqb-true (length ys) (t * n) (not-false (eqb (length ys) (t * n)) o4);
        small = o5;
        cells_are = ea;
        coefficients_are = eb;
        room_lent = rw ea (ltb-false room cells o6);
        first_lent = rw eb (ltb-false first coefficients u);
        second_lent = rw eb (ltb-false second coefficients v);
      }

pub passed : {n s t : ℕ} {xs ys : List ℕ} {large : Bool} {least room first second : ℕ} {a : Sizes} → Ok a ≡ outcome n s xs t ys large least room first second
    → Passed n s xs t ys large least room first second a
passed e = asked_is _ _ _ _ _ _ _ _ _ _ _ e

-- a call on one list: no second list, no given coefficients
module _ (n s : ℕ) (xs : List ℕ) (room first second : ℕ) where
  pub one_cells : cells_asked n (both n s xs 0 []) ≡ cells_asked n (listed n s xs)
  one_cells = ap (cells_asked n) (append-nil (listed n s xs))

  pub one_coefficients : max (coefficients_asked (both n s xs 0 [])) 0 ≡ coefficients_asked (listed n s xs)
  one_coefficients = omega (arith, ap coefficients_asked (append-nil (listed n s xs)))

  pub one_checks : refusal (checks n s xs 0 [] false 0 room first second)
      ≡ refusal (list_checks 255 60 n s xs ++ (ltb room (cells_asked n (listed n s xs)), CellRoom) ∷ (ltb first (coefficients_asked (listed n s xs)) || ltb second (coefficients_asked (listed n s xs)), CoefficientRoom) ∷ [])
  one_checks = rw (add-zero s, zero-mul n, one_cells, one_coefficients)

  -- where the list is known to be within the limits
  module _ (h : CellsOf n s xs) where
    pub one_rooms : refusal (checks n s xs 0 [] false 0 room first second)
        ≡ refusal ((ltb room (cells_asked n (listed n s xs)), CellRoom) ∷ (ltb first (coefficients_asked (listed n s xs)) || ltb second (coefficients_asked (listed n s xs)), CoefficientRoom) ∷ [])
    one_rooms = one_checks ∙ rw (le-ltb 255 n h.width, le-ltb 60 s h.count, eq-eqb (length xs) (s * n) h.there)

-- two checks, with one behind them
two_decide : (a b : Bool) (u v : Refusal) (c : Check) (x : Refusal) → refusal ((a, u) ∷ (b, v) ∷ []) ≡ some x → refusal ((a, u) ∷ (b, v) ∷ c ∷ []) ≡ some x
two_decide true b u v c x e = e
two_decide false true u v c x e = e
two_decide false false u v c x e = let z : ◌≡◌ {A = ℕ} 0 1 = cc in absurd (omega arith)

-- the rooms of a dimension
module _ (n s : ℕ) (xs room : List ℕ) (p q : List ℤ) (sums : List ℕ) where
  pub stops_rooms : CellsOf n s xs → (x : Refusal) (r : Result Dimension Refusal) → Err x ≡ outcome n s xs 0 [] false 0 (length room) (length p) (length q)
      → r ≡ Err x → Left n (listed n s xs) room p q sums r room p q sums
  stops_rooms h x r f i =
      let o = refused_is n s xs 0 [] false 0 (length room) (length p) (length q) x f in
      let e : refusal (room_checks n (listed n s xs) room p q sums) ≡ some x = two_decide (ltb (length room) (cells_asked n (listed n s xs))) (ltb (length p) (coefficients_asked (listed n s xs)) || ltb (length q) (coefficients_asked (listed n s xs))) CellRoom CoefficientRoom (sum_room (dimension_words (degree_bound n (listed n s xs))) sums) x (sym (one_rooms n s xs (length room) (length p) (length q) h) ∙ o) in
      (rw e i, (rw e, (rw e, (rw e, rw e))))

  pub one_asked : (k : ℕ) → k ≡ max (coefficients_asked (both n s xs 0 [])) 0 → k ≡ coefficients_asked (both n s xs 0 [])
  one_asked k e = omega arith
