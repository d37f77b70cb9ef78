-- Demand 2: "for any list not refused, up to 255 variables and 60 monomials, the numerator gives for each degree the number of monomials that no
-- listed one divides; a dimension is the count of all such monomials." Each law speaks of any outcome that the call's contract allows, as the source states it: r is the answer,
-- and what has a prime is what a lent slice holds afterwards.
--   enumerated                        the list behind HF has each monomial of its degree and width exactly once, and nothing else
--   numerator_given, numerator_counts, numerator_only  hilbert_numerator
--   update_adds, update_counts, update_direct_call   add_generators
--   hf_at_value                       hf_at
--   dimension_given, dimension_counts, dimension_only, dimension_top   quotient_dimension
--   host_counts                       purlthicket_dim
-- Assumes nothing.
use mathlib.Core.Path.{◌≡◌, refl, sym, ap, ◌∙◌}
use mathlib.Core.Logic.{◌≢◌, ◌⊎◌, inl, inr}
use mathlib.Core.Bool.{Bool, true, false, not, ◌&&◌, ◌||◌, cond, false≢true}
use mathlib.Core.List.{List, [], ◌∷◌, ◌++◌, append_assoc}
use mathlib.Core.Option.{Option, none, some}
use Prim.Native.Nat.{ℕ, zero, suc, ◌+◌, ◌*◌, ◌-◌, ◌^◌, ◌≤◌, ◌<◌, suc-le-suc}
use native.Mathlib.Nat.{le_trans, mod-eq_of_lt}
use native.Mathlib.Omega.{arith}
use lib.Dec.{leb, ltb, eqb, lit<, lit≤}
use lib.IntN.{ℤ, pos, ◌+ℤ◌, ◌-ℤ◌}
use lib.ListN.{length, take, drop, replicate}
use lib.Seq.{take_at}
use contract.Lifetimes.{Lfts}
use borrow.Author.Tests.{ltb-false, leb-false, le-ltb, eqb-true, eqb-false, not-false}
use Rattle.laws.specs.Coefficients.{Trimmed, coefficient}
use Rattle.laws.specs.Count.{bit, occurrences, monomials, HF}
use Rattle.laws.specs.Dimension.{least_power, finite, degree_bound, powers_product, standards, dimension, top_degree}
use Rattle.laws.specs.Hilbert.{hilbert, hilbert_size}
use Rattle.laws.specs.Ideal.{listed, Within, multiple, unit_in}
use Rattle.laws.specs.Monomial.{degree}
use Rattle.laws.specs.Numerator.{numerator, numerator_at, update}
use Rattle.laws.specs.Record.{is_record, width_in, count_in, exponents_in, list_in, answer_record}
use Rattle.laws.specs.Room.{cells_asked, coefficients_asked, update_asked}
use Rattle.laws.proofs.Coefficients.{trimmed_unique}
use Rattle.laws.proofs.Counting.{numerator_unique}
use Rattle.laws.proofs.Dimension.{power_finite, standards_once, standards_other, standards_width, dimension_bound, dimension_unit}
use Rattle.laws.proofs.Enumeration.{in_occurrences, occurrences_in, enumeration_once, enumeration_other_degree, enumeration_other_width}
use Rattle.laws.proofs.Grown.{listed_append}
use Rattle.laws.proofs.Hilbert.{hilbert_numerator, hilbert_sums}
use Rattle.laws.proofs.Ideal.{listed_within, within_append, unit_all}
use Rattle.laws.proofs.Numerator.{numerator_trimmed, numerator_coefficient}
use Rattle.laws.proofs.Pigeonhole.{pigeonhole, once_distinct}
use Rattle.laws.proofs.Sums.{sums_injective}
use Rattle.laws.proofs.Update.{update_coefficient, update_trimmed, update_direct}
use Rattle.laws.proofs.Word.{pair_words}
use Rattle.monomials.specs.Refusal.{Check, refusal, after, answer}
use Rattle.monomials.specs.declared.refusal.Refusal.{Refusal}
use Rattle.monomials.specs.declared.refusal.Refusal.TheVariants.{Width, Count, Cells, SumRoom, Degree, Value, Record, Dimension, Output}
use Rattle.numbers.specs.Wide.{value, wide, wide_of, signed_value}
use Rattle.numbers.specs.Dimension.{dimension_is, at_once, no_dimension, bound_checks, room_checks, dimension_checks}
use Rattle.numbers.specs.Hilbert.{value_check, hilbert_checks}
use Rattle.numbers.specs.Numerator.{padded, numerator_checks}
use Rattle.numbers.specs.Update.{update_checks}
use Rattle.numbers.specs.declared.wide.Wide.{Wide}
use Rattle.numbers.specs.declared.dimension.Dimension.{Dimension as DimensionValue}
use Rattle.numbers.proofs.SignedValue.{hilbert_exact}
use Rattle.numbers.proofs.numerator.hilbert_numerator.Reads as hilbert_numerator_call
use Rattle.numbers.proofs.update.add_generators.Reads as add_generators_call
use Rattle.numbers.proofs.hf_at.hf_at.Reads as hf_at_call
use Rattle.numbers.proofs.dimension.quotient_dimension.Reads as quotient_dimension_call
use Rattle.records.specs.Answer.{answer_of}
use Rattle.records.specs.Host.{own_cells, own_coefficients, own_words, host_checks}
use Rattle.records.proofs.host.purlthicket_dim.Reads as purlthicket_dim_call
use Rattle.promises.specs.Promise.{Slice, MutSlice, ◌⨾◌, Signed64}
use Rattle.promises.proofs.Checks.{passes, done_none}
use Rattle.promises.proofs.Given.{numerator_done, dimension_done}
use Rattle.promises.proofs.Refusals.{purlthicket_dim}
use Rattle.std.specs.Prelude.{Result, Ok}
use Rattle.numbers.specs.declared.dimension.Dimension.{Dimension as Counted}

-- "HF(d) is the number of degree-d monomials in n variables that are no multiple": HF counts over this list, which has each monomial of
-- degree d in n variables exactly once, and nothing else.
pub enumerated : (n d : ℕ) (u : List ℕ) → occurrences u (monomials n d) ≡ bit (eqb (length u) n && eqb (degree u) d)
enumerated n d u = go (eqb (length u) n) (eqb (degree u) d) refl refl
  where
    go : (s t : Bool) → eqb (length u) n ≡ s → eqb (degree u) d ≡ t → occurrences u (monomials n d) ≡ bit (s && t)
    go true true p q = enumeration_once n u d (eqb-true (length u) n p) (eqb-true (degree u) d q)
    go true false p q = enumeration_other_degree n u d (eqb-true (length u) n p) (eqb-false (degree u) d q)
    go false t p q = enumeration_other_width n u d (eqb-false (length u) n p)

-- an answer with the length k: nothing was refused, and the first k of the coefficient room are the coefficients N
coefficients_there : (o : Option Refusal) (N p : List ℤ) (asked k : ℕ) → (answer o (length N)) ≡ Ok k
    → (length N ≡ k) × (take k (after o (padded (pos 0) asked N p) p) ≡ N) × (o ≡ none)
coefficients_there none N p asked k e = let h : length N ≡ k = cc in let zeros = replicate (asked - length N) (pos 0) in (h, ap (take k) (append_assoc N zeros (drop asked p)) ∙ take_at N (zeros ++ drop asked p) k h, refl)
coefficients_there (some r) N p asked k e = let z : ◌≡◌ {A = ℕ} 0 1 = cc in absurd (omega arith)

-- check 3, after 1 and 2
counted : (s t : Bool) (a b : ℕ) (cs : List Check) → refusal ((s, Width) ∷ (t, Count) ∷ (not (eqb a b), Cells) ∷ cs) ≡ none → a ≡ b
counted s t a b cs e =
    let wide = passes s Width ((t, Count) ∷ (not (eqb a b), Cells) ∷ cs) e in
    let many = passes t Count ((not (eqb a b), Cells) ∷ cs) wide.1 in
    eqb-true a b (not-false (eqb a b) (passes (not (eqb a b)) Cells cs many.1).0)

-- A list within the limits, with the rooms as asked, is not refused.
pub numerator_given : (κs : Lfts 4) (n s : ℕ) (cells : Slice ℕ) (room : MutSlice ℕ) (first second : MutSlice ℤ) (r : Result ℕ Refusal) (room' : MutSlice ℕ) (first' second' : MutSlice ℤ)
    → hilbert_numerator_call.Post κs (n ⨾ s ⨾ cells ⨾ room ⨾ first ⨾ second ⨾ tt) r (n ⨾ s ⨾ cells ⨾ room' ⨾ first' ⨾ second' ⨾ tt)
    → n ≤ 255 → s ≤ 60 → length cells.now ≡ s * n
    → cells_asked n (listed n s cells.now) ≤ length room.now
    → coefficients_asked (listed n s cells.now) ≤ length first.now
    → coefficients_asked (listed n s cells.now) ≤ length second.now
    → (k : ℕ) × (r ≡ Ok k)
numerator_given κs n s cells room first second r room' first' second' outcome w m i c a b =
    let k = length (numerator (listed n s cells.now)) in
    (k, outcome.0 ∙ ap (λ (o : Option Refusal). (answer o k)) (numerator_done n s cells.now room.now first.now second.now w m i c a b))

module _ (κs : Lfts 4) (n s : ℕ) (cells : Slice ℕ) (room : MutSlice ℕ) (first second : MutSlice ℤ) (r : Result ℕ Refusal) (room' : MutSlice ℕ) (first' second' : MutSlice ℤ)
    (outcome : hilbert_numerator_call.Post κs (n ⨾ s ⨾ cells ⨾ room ⨾ first ⨾ second ⨾ tt) r (n ⨾ s ⨾ cells ⨾ room' ⨾ first' ⨾ second' ⨾ tt))
    (k : ℕ) (answer : r ≡ Ok k) where
  there : (length (numerator (listed n s cells.now)) ≡ k) × (take k first'.now ≡ numerator (listed n s cells.now))
  there =
      let L : List (List ℕ) = listed n s cells.now in
      let o = refusal (numerator_checks 255 60 n s cells.now room.now first.now second.now) in
      let e = coefficients_there o (numerator L) first.now (coefficients_asked L) k ((sym outcome.0) ∙ answer) in
      (e.0, ap (take k) outcome.1.1.0 ∙ e.1)

  -- "The numerator gives for each degree the number of monomials that no listed one divides": the coefficients in the first room are trimmed,
  -- as many as the answer says, and for every degree d 01's sum of them is HF(d).
  pub numerator_counts :
      (length (take k first'.now) ≡ k)
      × Trimmed (take k first'.now)
      × ((d : ℕ) → hilbert (take k first'.now) n d ≡ pos (HF (listed n s cells.now) n d))
  numerator_counts =
      let L = listed n s cells.now in
      rw there.1 (there.0, numerator_trimmed L, λ d. hilbert_numerator n L d (listed_within n s cells.now))

  -- No other list of coefficients is trimmed and has these sums.
  pub numerator_only : (N : List ℤ) → Trimmed N → ((d : ℕ) → hilbert N n d ≡ pos (HF (listed n s cells.now) n d)) → N ≡ take k first'.now
  numerator_only N t h =
      let L = listed n s cells.now in
      numerator_unique n L N (listed_within n s cells.now) t (λ d. sym (hilbert_sums N n d) ∙ h d) ∙ sym there.1

-- coefficients whose sums are HF of L are those of the numerator, and updated they are those of both lists
update_right : (n : ℕ) (G : List ℤ) (L K : List (List ℕ)) → Within n L → ((d : ℕ) → hilbert G n d ≡ pos (HF L n d)) → update G L K ≡ numerator (L ++ K)
update_right n G L K w h =
    let N = numerator L in
    let same : (i : ℕ) → coefficient G i ≡ coefficient N i = sums_injective n (coefficient G) (coefficient N) (λ d. sym (hilbert_sums G n d) ∙ h d ∙ sym (hilbert_numerator n L d w) ∙ hilbert_sums N n d) in
    trimmed_unique (update G L K) (numerator (L ++ K)) (update_trimmed G L K) (numerator_trimmed (L ++ K))
    (λ i. update_coefficient G L K i
    ∙ ap (λ (z : ℤ). (z +ℤ numerator_at (L ++ K) i) -ℤ numerator_at L i) (same i)
    ∙ sym (update_coefficient N L K i)
    ∙ ap (λ (p : List ℤ). coefficient p i) (update_direct L K))

module _ (κs : Lfts 6) (n : ℕ) (given : Slice ℤ) (s0 : ℕ) (existing : Slice ℕ) (s1 : ℕ) (added : Slice ℕ) (room : MutSlice ℕ) (first second : MutSlice ℤ) (r : Result ℕ Refusal)
    (room' : MutSlice ℕ) (first' second' : MutSlice ℤ)
    (outcome : add_generators_call.Post κs (n ⨾ given ⨾ s0 ⨾ existing ⨾ s1 ⨾ added ⨾ room ⨾ first ⨾ second ⨾ tt) r (n ⨾ given ⨾ s0 ⨾ existing ⨾ s1 ⨾ added ⨾ room' ⨾ first' ⨾ second' ⨾ tt))
    (k : ℕ) (answer : r ≡ Ok k) where
  updated : let U = update given.now (listed n s0 existing.now) (listed n s1 added.now) in (length U ≡ k) × (take k first'.now ≡ U) × (length existing.now ≡ s0 * n)
  updated =
      let L : List (List ℕ) = listed n s0 existing.now in
      let K : List (List ℕ) = listed n s1 added.now in
      let cs = update_checks 255 60 (2 ^ 61) n given.now s0 existing.now s1 added.now room.now first.now second.now in
      let e = coefficients_there (refusal cs) (update given.now L K) first.now (update_asked given.now (L ++ K)) k ((sym outcome.0) ∙ answer) in
      (e.0, ap (take k) outcome.1.1.0 ∙ e.1, counted (ltb 255 n) (ltb 60 (s0 + s1)) (length existing.now) (s0 * n) (drop 3 cs) e.2)

  -- "The answer is G + N(existing and new) − N(existing), trimmed."
  pub update_adds : let L = listed n s0 existing.now in let K = listed n s1 added.now in
      (length (take k first'.now) ≡ k)
      × Trimmed (take k first'.now)
      × ((i : ℕ) → coefficient (take k first'.now) i ≡ (coefficient given.now i +ℤ coefficient (numerator (L ++ K)) i) -ℤ coefficient (numerator L) i)
  update_adds =
      let L : List (List ℕ) = listed n s0 existing.now in
      let K : List (List ℕ) = listed n s1 added.now in
      rw updated.1 (updated.0, update_trimmed given.now L K, λ i. rw (numerator_coefficient (L ++ K) i, numerator_coefficient L i) (update_coefficient given.now L K i))

  -- "Where G is N(existing), this is the direct numerator": where the sums of G count what the existing monomials leave, those of the answer
  -- count what both lists leave;
  pub update_counts : ((d : ℕ) → hilbert given.now n d ≡ pos (HF (listed n s0 existing.now) n d))
      → (d : ℕ) → hilbert (take k first'.now) n d ≡ pos (HF (listed n s0 existing.now ++ listed n s1 added.now) n d)
  update_counts h d =
      let L : List (List ℕ) = listed n s0 existing.now in
      let K : List (List ℕ) = listed n s1 added.now in
      let w = listed_within n s0 existing.now in
      rw (updated.1, update_right n given.now L K w h) (hilbert_numerator n (L ++ K) d (within_append n L K w (listed_within n s1 added.now)))

  -- and the coefficients are those that the numerator's call gives for both lists together.
  pub update_direct_call : ((d : ℕ) → hilbert given.now n d ≡ pos (HF (listed n s0 existing.now) n d))
      → (λs : Lfts 4) (cells : Slice ℕ) (space : MutSlice ℕ) (p q : MutSlice ℤ) (a : Result ℕ Refusal) (space' : MutSlice ℕ) (p' q' : MutSlice ℤ)
      → hilbert_numerator_call.Post λs (n ⨾ s0 + s1 ⨾ cells ⨾ space ⨾ p ⨾ q ⨾ tt) a (n ⨾ s0 + s1 ⨾ cells ⨾ space' ⨾ p' ⨾ q' ⨾ tt)
      → cells.now ≡ existing.now ++ added.now → (j : ℕ) → a ≡ Ok j
      → (k ≡ j) × (take k first'.now ≡ take j p'.now)
  update_direct_call h λs cells space p q a space' p' q' direct joined j e =
      let L : List (List ℕ) = listed n s0 existing.now in
      let K : List (List ℕ) = listed n s1 added.now in
      let both : listed n (s0 + s1) cells.now ≡ L ++ K = ap (listed n (s0 + s1)) joined ∙ listed_append n s0 s1 existing.now added.now updated.2 in
      let (l, t) = there λs n (s0 + s1) cells space p q a space' p' q' direct j e in
      let same = update_right n given.now L K (listed_within n s0 existing.now) h in
      (sym updated.0 ∙ ap length (same ∙ ap numerator (sym both)) ∙ l, updated.1 ∙ same ∙ ap numerator (sym both) ∙ sym t)

-- an answer with the value w: nothing was refused, and w is the integer z
signed_there : (o : Option Refusal) (z : ℤ) (w : Wide) → (answer o (wide_of z)) ≡ Ok w → (o ≡ none) × (wide_of z ≡ w)
signed_there none z w e = (refl, cc)
signed_there (some r) z w e = let y : ◌≡◌ {A = ℕ} 0 1 = cc in absurd (omega arith)

-- the last of four checks
last_passes : (a b c t : Bool) → refusal ((a, Width) ∷ (b, Degree) ∷ (c, SumRoom) ∷ (t, Value) ∷ []) ≡ none → t ≡ false
last_passes a b c t e =
    let wide = passes a Width ((b, Degree) ∷ (c, SumRoom) ∷ (t, Value) ∷ []) e in
    let high = passes b Degree ((c, SumRoom) ∷ (t, Value) ∷ []) wide.1 in
    (passes t Value [] (passes c SumRoom ((t, Value) ∷ []) high.1).1).0

module _ (κs : Lfts 2) (n : ℕ) (given : Slice ℤ) (d : ℕ) (sums : MutSlice ℕ) (r : Result Wide Refusal) (sums' : MutSlice ℕ)
    (outcome : hf_at_call.Post κs (n ⨾ given ⨾ d ⨾ sums ⨾ tt) r (n ⨾ given ⨾ d ⨾ sums' ⨾ tt))
    (w : Wide) (answer : r ≡ Ok w) where
  -- "`hf_at` takes any coefficient list and answers a signed 128-bit number": the binomial sum.
  pub hf_at_value : Signed64 given.now → signed_value w ≡ hilbert given.now n d
  hf_at_value fits =
      let p = given.now in
      let (o, e) = signed_there (refusal (hilbert_checks 255 65536 n p d sums.now)) (hilbert p n d) w ((sym outcome.0) ∙ answer) in
      let small = leb-false (2 ^ 127) (hilbert_size p n d) (last_passes (ltb 255 n) (ltb 65536 d) (ltb (length sums.now) (4 * (d + 1))) (leb (2 ^ 127) (hilbert_size p n d)) o) in
      ap signed_value (sym e) ∙ hilbert_exact p n d (fits d) small

-- each monomial in n variables that is no multiple of L stands in us exactly once, and nothing else does
abbrev pub Standards : ℕ → List (List ℕ) → List (List ℕ) → Type 0
Standards n L us = (u : List ℕ) → occurrences u us ≡ bit (eqb (length u) n && not (multiple L u))

-- a list that is not refused has a unit, or a pure power of each variable and a small product of them
abbrev Finite : ℕ → List (List ℕ) → Type 0
Finite n L = (unit_in L ≡ true) ⊎ ((finite n L ≡ true) × (powers_product n L < 2 ^ 127))

standards_exactly : (n : ℕ) (L : List (List ℕ)) → Finite n L → Standards n L (standards n L)
standards_exactly n L f u = go (eqb (length u) n) (multiple L u) refl refl f
  where
    go : (s t : Bool) → eqb (length u) n ≡ s → multiple L u ≡ t → Finite n L → occurrences u (standards n L) ≡ bit (s && not t)
    go true true p q f = standards_other n L u q
    go true false p q (inl h) = absurd (false≢true (sym q ∙ unit_all L u h))
    go true false p q (inr h) = standards_once n L u h.0 (eqb-true (length u) n p) q
    go false t p q f = standards_width n L u (eqb-false (length u) n p)

-- two lists that have the same monomials exactly once have one length
standards_length : (n : ℕ) (L us vs : List (List ℕ)) → Standards n L us → Standards n L vs → length us ≤ length vs
standards_length n L us vs f g =
    pigeonhole us vs (once_distinct us (λ u. rw (f u) (at_most_one (eqb (length u) n && not (multiple L u)))))
    (λ u i. occurrences_in u vs (rw (g u, ← f u) (in_occurrences u us i)))
  where
    at_most_one : (b : Bool) → bit b ≤ 1
    at_most_one true = omega arith
    at_most_one false = omega arith

-- the dimension fits two words
dimension_value : (n : ℕ) (L : List (List ℕ)) → Finite n L → value (wide (dimension n L)) ≡ dimension n L
dimension_value n L (inl h) = rw (dimension_unit n L h)
dimension_value n L (inr h) = pair_words (2 ^ 64) (lit< tt) (dimension n L) ∙ mod-eq_of_lt (le_trans (suc-le-suc (dimension_bound n L h.0)) (le_trans h.1 (lit≤ tt)))

-- what checks 13 and 11 leave
bounded : (M n : ℕ) (L : List (List ℕ)) (cs : List Check) → refusal (bound_checks M n L ++ cs) ≡ none → Finite n L
bounded M n L cs e =
    let first = passes (no_dimension M n L) Dimension (value_check (powers_product n L) ∷ cs) e in
    let second = passes (leb (2 ^ 127) (powers_product n L)) Value cs first.1 in
    inr (or_left (finite n L) (ltb M (degree_bound n L)) first.0, leb-false (2 ^ 127) (powers_product n L) second.0)
  where
    or_left : (a b : Bool) → (not a || b) ≡ false → a ≡ true
    or_left true b h = refl
    or_left false b h = absurd (false≢true (sym h))

accepted : (n s : ℕ) (cells room : List ℕ) (p q : List ℤ) (sums : List ℕ) → refusal (dimension_checks 255 60 65536 n s cells room p q sums) ≡ none → Finite n (listed n s cells)
accepted n s cells room p q sums e =
    let cs = dimension_checks 255 60 65536 n s cells room p q sums in
    let wide = passes (ltb 255 n) Width (drop 1 cs) e in
    let many = passes (ltb 60 s) Count (drop 2 cs) wide.1 in
    let rest = (passes (not (eqb (length cells) (s * n))) Cells (drop 3 cs) many.1).1 in
    go (unit_in (listed n s cells)) (eqb n 0) refl refl rest
  where
    go : (t z : Bool) → unit_in (listed n s cells) ≡ t → eqb n 0 ≡ z
        → refusal (cond (t || z) [] (bound_checks 65536 n (listed n s cells) ++ room_checks n (listed n s cells) room p q sums)) ≡ none → Finite n (listed n s cells)
    go true z h g o = inl h
    go false true h g o = inr (none_needed n (listed n s cells) (eqb-true n 0 g))
      where
        none_needed : (n : ℕ) (L : List (List ℕ)) → n ≡ 0 → (finite n L ≡ true) × (powers_product n L < 2 ^ 127)
        none_needed zero L i = (refl, lit< tt)
        none_needed (suc n) L i = absurd (omega arith)
    go false false h g o = bounded 65536 n (listed n s cells) (room_checks n (listed n s cells) room p q sums) o

bounded_by : (M n : ℕ) (L : List (List ℕ)) → finite n L ≡ true → degree_bound n L ≤ M → no_dimension M n L ≡ false
bounded_by M n L f b = rw (f, le-ltb M (degree_bound n L) b)

dimension_there : (o : Option Refusal) (n : ℕ) (L : List (List ℕ)) (x : DimensionValue) → (dimension_is o n L) ≡ Ok x
    → (o ≡ none) × (wide (dimension n L) ≡ x.dimension) × (top_degree n L ≡ x.top)
dimension_there none n L x e = let h : record { dimension = wide (dimension n L); top = top_degree n L } ≡ x = cc in (refl, ap (λ (y : DimensionValue). y.dimension) h, ap (λ (y : DimensionValue). y.top) h)
dimension_there (some r) n L x e = let z : ◌≡◌ {A = ℕ} 0 1 = cc in absurd (omega arith)

-- A list within the limits, with a pure power of each variable and the rooms as asked, is not refused; one with a unit, or of width 0, asks
-- nothing more.
pub dimension_given : (κs : Lfts 5) (n s : ℕ) (cells : Slice ℕ) (room : MutSlice ℕ) (first second : MutSlice ℤ) (sums : MutSlice ℕ) (r : Result Counted Refusal) (room' : MutSlice ℕ) (first' second' : MutSlice ℤ) (sums' : MutSlice ℕ)
    → quotient_dimension_call.Post κs (n ⨾ s ⨾ cells ⨾ room ⨾ first ⨾ second ⨾ sums ⨾ tt) r (n ⨾ s ⨾ cells ⨾ room' ⨾ first' ⨾ second' ⨾ sums' ⨾ tt)
    → n ≤ 255 → s ≤ 60 → length cells.now ≡ s * n
    → (at_once n (listed n s cells.now) ≡ false
    → ((v : ℕ) → v < n → least_power (listed n s cells.now) v ≢ 0)
    × (degree_bound n (listed n s cells.now) ≤ 65536)
    × (powers_product n (listed n s cells.now) < 2 ^ 127)
    × (cells_asked n (listed n s cells.now) ≤ length room.now)
    × (coefficients_asked (listed n s cells.now) ≤ length first.now)
    × (coefficients_asked (listed n s cells.now) ≤ length second.now)
    × (2 * (degree_bound n (listed n s cells.now) + 1) ≤ length sums.now))
    → (x : DimensionValue) × (r ≡ Ok x)
dimension_given κs n s cells room first second sums r room' first' second' sums' outcome w m i enough =
    let L : List (List ℕ) = listed n s cells.now in
    let none_refused = dimension_done n s cells.now room.now first.now second.now sums.now w m i
    (λ once.
    let (p, b, c, d, e, f, g) = enough once in
    (bounded_by 65536 n L (power_finite n L p) b, c, d, e, f, g)) in (
      record { dimension = wide (dimension n L); top = top_degree n L },
      outcome.0 ∙ ap (λ (o : Option Refusal). (dimension_is o n L)) none_refused,
    )

module _ (κs : Lfts 5) (n s : ℕ) (cells : Slice ℕ) (room : MutSlice ℕ) (first second : MutSlice ℤ) (sums : MutSlice ℕ) (r : Result Counted Refusal) (room' : MutSlice ℕ) (first' second' : MutSlice ℤ) (sums' : MutSlice ℕ)
    (outcome : quotient_dimension_call.Post κs (n ⨾ s ⨾ cells ⨾ room ⨾ first ⨾ second ⨾ sums ⨾ tt) r (n ⨾ s ⨾ cells ⨾ room' ⨾ first' ⨾ second' ⨾ sums' ⨾ tt))
    (x : DimensionValue) (answer : r ≡ Ok x) where
  given_dimension : Finite n (listed n s cells.now) × (wide (dimension n (listed n s cells.now)) ≡ x.dimension) × (top_degree n (listed n s cells.now) ≡ x.top)
  given_dimension =
      let L : List (List ℕ) = listed n s cells.now in
      let (o, e, t) = dimension_there (refusal (dimension_checks 255 60 65536 n s cells.now room.now first.now second.now sums.now)) n L x ((sym outcome.0) ∙ answer) in
      (accepted n s cells.now room.now first.now second.now sums.now o, e, t)

  -- "A dimension is the count of all such monomials": the length of a list that has each of them exactly once and nothing else.
  pub dimension_counts : let L = listed n s cells.now in Standards n L (standards n L) × (value x.dimension ≡ length (standards n L))
  dimension_counts =
      let L : List (List ℕ) = listed n s cells.now in
      let (f, e, t) = given_dimension in
      (standards_exactly n L f, ap value (sym e) ∙ dimension_value n L f)

  -- Whatever list has each of them exactly once and nothing else, it has that length.
  pub dimension_only : (us : List (List ℕ)) → Standards n (listed n s cells.now) us → length us ≡ value x.dimension
  dimension_only us f =
      let L : List (List ℕ) = listed n s cells.now in
      let (g, e) = dimension_counts in
      omega (arith, e, standards_length n L us (standards n L) f g, standards_length n L (standards n L) us g f)

  -- "Top degree is D; it is 0 for an ideal with a unit, or for n = 0."
  pub dimension_top : x.top ≡ top_degree n (listed n s cells.now)
  dimension_top = sym given_dimension.2

-- The host's answer record carries that number, for what the ideal record lists.
module _ (κs : Lfts 2) (rec : Slice ℕ) (out : MutSlice ℕ) (r : ℕ) (out' : MutSlice ℕ) (outcome : purlthicket_dim_call.Post κs (rec ⨾ out ⨾ tt) r (rec ⨾ out' ⨾ tt)) (done : r ≡ 0) where
  pub host_counts : let n = width_in rec.now in let L = list_in rec.now in
      Standards n L (standards n L) × (out'.now ≡ answer_record 0 (length (standards n L)) (top_degree n L) ++ drop 26 out.now)
  host_counts =
      let cs = host_checks 255 60 65536 26 rec.now out.now in
      let n = width_in rec.now in
      let L : List (List ℕ) = list_in rec.now in
      let room = passes (ltb (length out.now) 26) Output (drop 1 cs) (done_none (refusal cs) (sym outcome.0 ∙ done)) in
      let taken = passes (not (is_record 60 rec.now)) Record (drop 2 cs) room.1 in
      let f = accepted n (count_in rec.now) (exponents_in rec.now) own_cells own_coefficients own_coefficients own_words taken.1 in
      let written = (purlthicket_dim κs rec out r out' outcome).2 (ltb-false (length out.now) 26 room.0) in
      (standards_exactly n L f, written ∙ ap (λ (k : ℕ). answer_of k (dimension n L) (top_degree n L) ++ drop 26 out.now) done)
