-- Demand 1: "No list, number or record can make it misbehave or run on. Every public call checks its own input and refuses by number, under
-- exactly the condition that document 01 states, and 01 says what each buffer then holds." That each call returns and does nothing undefined,
-- whatever it is given, is what the checker proves of every function without a `requires`; here are the conditions and the buffers. Each law
-- speaks of any outcome that the call's contract allows, as the source states it: r is the answer, `number_in (of.. r)` its number, and what
-- has a prime is what a lent slice holds afterwards. `First` says which of 01's conditions decides, and no other number is possible
-- (`first_exactly`); `After` says what a slice holds. Calls that are not named here have no refusal to tell.
-- Assumes nothing.
use mathlib.Core.Path.{◌≡◌, refl, sym, ap, ◌∙◌}
use mathlib.Core.Logic.{◌≢◌, ◌⊎◌}
use mathlib.Core.Bool.{false, not, cond}
use mathlib.Core.List.{List, [], ◌∷◌, ◌++◌}
use Prim.Native.Nat.{ℕ, ◌+◌, ◌*◌, ◌^◌, ◌≤◌, ◌<◌}
use lib.Dec.{leb, ltb, eqb, lit<, lit≤}
use lib.IntN.{ℤ, pos, nat_abs}
use lib.ListN.{length, get_or, drop}
use contract.Lifetimes.{Lfts}
use Rattle.laws.specs.Coefficients.{coefficient}
use Rattle.laws.specs.Dimension.{least_power, degree_bound, powers_product, dimension, top_degree}
use Rattle.laws.specs.Hilbert.{hilbert, hilbert_size}
use Rattle.laws.specs.Ideal.{listed, In, unit_in}
use Rattle.laws.specs.Mask.{mask}
use Rattle.laws.specs.Monomial.{degree, exponent, divides, product, quotient, lcm, gcd, coprime, power}
use Rattle.laws.specs.Numerator.{numerator, update}
use Rattle.laws.specs.Record.{ideal_record, is_record, width_in, count_in, exponents_in, list_in, part_of}
use Rattle.laws.specs.Room.{cells_asked, coefficients_asked, update_asked}
use Rattle.laws.specs.Order.{lex, degrevlex}
use Rattle.laws.proofs.Reading.{bytes_by}
use Rattle.monomials.specs.Mask.{of_words}
use Rattle.monomials.specs.Monomial.{at_most, pair_checks, write_checks, power_checks, product_checks, quotient_checks, order_of}
use Rattle.monomials.specs.Refusal.{refusal, too_wide}
use Rattle.monomials.specs.declared.refusal.Refusal.TheVariants.{Place, Exponent, Division, Record, Output}
use Rattle.monomials.proofs.monomial.total_degree.Reads as total_degree_call
use Rattle.monomials.proofs.monomial.exponent.Reads as exponent_call
use Rattle.monomials.proofs.monomial.power.Reads as power_call
use Rattle.monomials.proofs.monomial.product.Reads as product_call
use Rattle.monomials.proofs.monomial.quotient.Reads as quotient_call
use Rattle.monomials.proofs.monomial.lcm.Reads as lcm_call
use Rattle.monomials.proofs.monomial.gcd.Reads as gcd_call
use Rattle.monomials.proofs.monomial.divides.Reads as divides_call
use Rattle.monomials.proofs.monomial.is_coprime.Reads as is_coprime_call
use Rattle.monomials.proofs.monomial.cmp_lex.Reads as cmp_lex_call
use Rattle.monomials.proofs.monomial.cmp_degrevlex.Reads as cmp_degrevlex_call
use Rattle.monomials.proofs.divmask.mask.Reads as mask_call
use Rattle.numbers.specs.Dimension.{at_once, bound_checks, room_checks, dimension_checks}
use Rattle.numbers.specs.Hilbert.{hilbert_checks}
use Rattle.numbers.specs.Wide.{value, wide, wide_of}
use Rattle.numbers.specs.Numerator.{wiped, padded, numerator_checks}
use Rattle.numbers.specs.Update.{update_checks}
use Rattle.numbers.specs.declared.wide.Wide.{Wide}
use Rattle.numbers.proofs.numerator.hilbert_numerator.Reads as hilbert_numerator_call
use Rattle.numbers.proofs.update.add_generators.Reads as add_generators_call
use Rattle.numbers.proofs.hf_at.hf_at.Reads as hf_at_call
use Rattle.numbers.proofs.dimension.quotient_dimension.Reads as quotient_dimension_call
use Rattle.records.specs.Answer.{answer_checks, answer_of}
use Rattle.records.specs.Host.{own_cells, own_coefficients, own_words, record_checks, host_checks, status}
use Rattle.records.specs.Ideal.{write_checks as write_record_checks, place_checks, copy_checks}
use Rattle.records.proofs.ideal.write_record.Reads as write_record_call
use Rattle.records.proofs.ideal.check_place.Reads as check_place_call
use Rattle.records.proofs.ideal.place.Reads as place_call
use Rattle.records.proofs.ideal.copy_record.Reads as copy_record_call
use Rattle.records.proofs.Statuses.{status_written, status_never}
use Rattle.records.proofs.answer.write_answer.Reads as write_answer_call
use Rattle.records.proofs.host.answer_record.Reads as answer_record_call
use Rattle.records.proofs.host.purlthicket_dim.Reads as purlthicket_dim_call
use Rattle.bridge.specs.Told.{number_in}
use Rattle.bridge.specs.Monomials.{of_number, of_write, of_test, of_order, of_mask, mask_words, no_words, number_words, order_words, test_words}
use Rattle.bridge.specs.Numbers.{of_signed, of_length, of_dimension, dimension_words, signed_words}
use Rattle.bridge.specs.Records.{of_size, of_check, of_copy, shape_words}
use Rattle.promises.specs.Promise.{Slice, MutSlice, ◌⨾◌, Rule, First, After, Below}
use Rattle.promises.proofs.Checks.{too_many, cons_first, list_first, early_first, above, reaches, differs, equals, fails, twice, either, product_above, not_divides, coefficient_beyond, unit_in_lem, no_dimension_lem}
use Rattle.promises.proofs.Means.{rooms_means, write_means, last_means, pair_means, sums_left, host_kept, host_written}
use Rattle.promises.proofs.Answers.{told_first, told_after, told_number}
use Rattle.std.specs.Prelude.{Result, ⊤}
use Rattle.monomials.specs.declared.refusal.Refusal.{Refusal}
use Rattle.monomials.specs.declared.divmask.DivMask.{DivMask}
use Rattle.std.specs.declared.cmp.Ordering.{Ordering as Order}
use Rattle.records.specs.declared.ideal.Shape.{Shape}
use Rattle.numbers.specs.declared.dimension.Dimension.{Dimension as Counted}
use Rattle.std.specs.Prelude.{Bool}

-- "Monomials: 1, 3, 4, 5, 6, as they apply; the width is the number given, or else the first monomial's length. Masks: 1 only."

pub total_degree : (κs : Lfts 1) (a : Slice ℕ) (r : Result ℕ Refusal) → total_degree_call.Post κs (a ⨾ tt) r (a ⨾ tt)
    → First ((255 < length a.now, 1) ∷ []) (number_in (of_number r))
total_degree κs a r p = told_first number_words (degree a.now) (too_wide 255 (length a.now) ∷ []) p (above 255 (length a.now), (refl, tt))

pub exponent_of : (κs : Lfts 1) (a : Slice ℕ) (v : ℕ) (r : Result ℕ Refusal) → exponent_call.Post κs (a ⨾ v ⨾ tt) r (a ⨾ v ⨾ tt)
    → First ((255 < length a.now, 1) ∷ (length a.now ≤ v, 4) ∷ []) (number_in (of_number r))
exponent_of κs a v r p =
    told_first number_words (exponent a.now v) (too_wide 255 (length a.now) ∷ (leb (length a.now) v, Place) ∷ []) p
    (above 255 (length a.now), (refl, (reaches (length a.now) v, (refl, tt))))

pub power_of : (κs : Lfts 1) (n v x : ℕ) (out : MutSlice ℕ) (r : Result ⊤ Refusal) (out' : MutSlice ℕ) → power_call.Post κs (n ⨾ v ⨾ x ⨾ out ⨾ tt) r (n ⨾ v ⨾ x ⨾ out' ⨾ tt)
    → First ((255 < n, 1) ∷ (length out.now ≢ n, 3) ∷ (n ≤ v, 4) ∷ []) (number_in (of_write r))
    × After (number_in (of_write r)) out'.now out.now (power n v x)
power_of κs n v x out r out' p =
    let cs = power_checks 255 n v out.now in (
      told_first no_words tt cs p.0 (above 255 n, (refl, (differs (length out.now) n, (refl, (reaches n v, (refl, tt)))))),
      told_after no_words tt (refusal cs) p.0 p.1,
    )

pub product_of : (κs : Lfts 3) (a b : Slice ℕ) (out : MutSlice ℕ) (r : Result ⊤ Refusal) (out' : MutSlice ℕ) → product_call.Post κs (a ⨾ b ⨾ out ⨾ tt) r (a ⨾ b ⨾ out' ⨾ tt)
    → First
    ((255 < length a.now, 1) ∷ (length b.now ≢ length a.now, 3) ∷ (length out.now ≢ length a.now, 3)
    ∷ ((v : ℕ) × (65535 < exponent a.now v + exponent b.now v), 5) ∷ [])
    (number_in (of_write r))
    × After (number_in (of_write r)) out'.now out.now (product a.now b.now)
product_of κs a b out r out' p =
    let cs = product_checks 255 65535 a.now b.now out.now in (
      told_first no_words tt cs p.0 (last_means a.now b.now out.now (not (at_most 65535 (product a.now b.now))) Exponent (product_above 65535 a.now b.now)),
      told_after no_words tt (refusal cs) p.0 p.1,
    )

pub quotient_of : (κs : Lfts 3) (a b : Slice ℕ) (out : MutSlice ℕ) (r : Result ⊤ Refusal) (out' : MutSlice ℕ) → quotient_call.Post κs (a ⨾ b ⨾ out ⨾ tt) r (a ⨾ b ⨾ out' ⨾ tt)
    → First
    ((255 < length a.now, 1) ∷ (length b.now ≢ length a.now, 3) ∷ (length out.now ≢ length a.now, 3)
    ∷ ((v : ℕ) × (exponent a.now v < exponent b.now v), 6) ∷ [])
    (number_in (of_write r))
    × After (number_in (of_write r)) out'.now out.now (quotient a.now b.now)
quotient_of κs a b out r out' p =
    let cs = quotient_checks 255 a.now b.now out.now in (
      told_first no_words tt cs p.0 (last_means a.now b.now out.now (not (divides b.now a.now)) Division (not_divides b.now a.now)),
      told_after no_words tt (refusal cs) p.0 p.1,
    )

pub lcm_of : (κs : Lfts 3) (a b : Slice ℕ) (out : MutSlice ℕ) (r : Result ⊤ Refusal) (out' : MutSlice ℕ) → lcm_call.Post κs (a ⨾ b ⨾ out ⨾ tt) r (a ⨾ b ⨾ out' ⨾ tt)
    → First
    ((255 < length a.now, 1) ∷ (length b.now ≢ length a.now, 3) ∷ (length out.now ≢ length a.now, 3) ∷ [])
    (number_in (of_write r))
    × After (number_in (of_write r)) out'.now out.now (lcm a.now b.now)
lcm_of κs a b out r out' p =
    let cs = write_checks 255 a.now b.now out.now in (
      told_first no_words tt cs p.0 (write_means a.now b.now out.now),
      told_after no_words tt (refusal cs) p.0 p.1,
    )

pub gcd_of : (κs : Lfts 3) (a b : Slice ℕ) (out : MutSlice ℕ) (r : Result ⊤ Refusal) (out' : MutSlice ℕ) → gcd_call.Post κs (a ⨾ b ⨾ out ⨾ tt) r (a ⨾ b ⨾ out' ⨾ tt)
    → First
    ((255 < length a.now, 1) ∷ (length b.now ≢ length a.now, 3) ∷ (length out.now ≢ length a.now, 3) ∷ [])
    (number_in (of_write r))
    × After (number_in (of_write r)) out'.now out.now (gcd a.now b.now)
gcd_of κs a b out r out' p =
    let cs = write_checks 255 a.now b.now out.now in (
      told_first no_words tt cs p.0 (write_means a.now b.now out.now),
      told_after no_words tt (refusal cs) p.0 p.1,
    )

pub divides_of : (κs : Lfts 2) (a b : Slice ℕ) (r : Result Bool Refusal) → divides_call.Post κs (a ⨾ b ⨾ tt) r (a ⨾ b ⨾ tt)
    → First ((255 < length a.now, 1) ∷ (length b.now ≢ length a.now, 3) ∷ []) (number_in (of_test r))
divides_of κs a b r p = told_first test_words (divides a.now b.now) (pair_checks 255 a.now b.now) p (pair_means a.now b.now)

pub is_coprime : (κs : Lfts 2) (a b : Slice ℕ) (r : Result Bool Refusal) → is_coprime_call.Post κs (a ⨾ b ⨾ tt) r (a ⨾ b ⨾ tt)
    → First ((255 < length a.now, 1) ∷ (length b.now ≢ length a.now, 3) ∷ []) (number_in (of_test r))
is_coprime κs a b r p = told_first test_words (coprime a.now b.now) (pair_checks 255 a.now b.now) p (pair_means a.now b.now)

pub cmp_lex : (κs : Lfts 2) (a b : Slice ℕ) (r : Result Order Refusal) → cmp_lex_call.Post κs (a ⨾ b ⨾ tt) r (a ⨾ b ⨾ tt)
    → First ((255 < length a.now, 1) ∷ (length b.now ≢ length a.now, 3) ∷ []) (number_in (of_order r))
cmp_lex κs a b r p = told_first order_words (order_of (lex a.now b.now)) (pair_checks 255 a.now b.now) p (pair_means a.now b.now)

pub cmp_degrevlex : (κs : Lfts 2) (a b : Slice ℕ) (r : Result Order Refusal) → cmp_degrevlex_call.Post κs (a ⨾ b ⨾ tt) r (a ⨾ b ⨾ tt)
    → First ((255 < length a.now, 1) ∷ (length b.now ≢ length a.now, 3) ∷ []) (number_in (of_order r))
cmp_degrevlex κs a b r p = told_first order_words (order_of (degrevlex a.now b.now)) (pair_checks 255 a.now b.now) p (pair_means a.now b.now)

-- exponents past n are ignored, and missing ones are 0: the slice is not looked at
pub mask_of : (κs : Lfts 1) (n most : ℕ) (exponents : Slice ℕ) (r : Result DivMask Refusal) → mask_call.Post κs (n ⨾ most ⨾ exponents ⨾ tt) r (n ⨾ most ⨾ exponents ⨾ tt)
    → First ((255 < n, 1) ∷ []) (number_in (of_mask r))
mask_of κs n most exponents r p = told_first mask_words (of_words (mask n most exponents.now)) (too_wide 255 n ∷ []) p (above 255 n, (refl, tt))

-- "Numerator: 1, 2, 3, 7, 8. Update: 1, 2, 3 existing, 3 new, 15, 7, 8." "After success it is the first coefficient room: the coefficients, then
-- zeros up to the asked size. Every other room is zero in its asked part; cells beyond are untouched."

module _ (κs : Lfts 4) (n s : ℕ) (cells : Slice ℕ) (room : MutSlice ℕ) (first second : MutSlice ℤ) (r : Result ℕ Refusal) (room' : MutSlice ℕ) (first' second' : MutSlice ℤ)
    (outcome : hilbert_numerator_call.Post κs (n ⨾ s ⨾ cells ⨾ room ⨾ first ⨾ second ⨾ tt) r (n ⨾ s ⨾ cells ⨾ room' ⨾ first' ⨾ second' ⨾ tt)) where
  pub hilbert_numerator : let L = listed n s cells.now in let k = number_in (of_length r) in
      First
      ((255 < n, 1)
      ∷ (60 < s, 2)
      ∷ (length cells.now ≢ s * n, 3)
      ∷ (length room.now < cells_asked n L, 7)
      ∷ ((length first.now < coefficients_asked L) ⊎ (length second.now < coefficients_asked L), 8)
      ∷ []) k
      × After k room'.now room.now (wiped 0 (cells_asked n L) room.now)
      × After k first'.now first.now (padded (pos 0) (coefficients_asked L) (numerator L) first.now)
      × After k second'.now second.now (wiped (pos 0) (coefficients_asked L) second.now)
  hilbert_numerator =
      let L : List (List ℕ) = listed n s cells.now in
      let cs = numerator_checks 255 60 n s cells.now room.now first.now second.now in
      let j = length (numerator L) in (
        told_first number_words j cs outcome.0
            (above 255 n, (refl, (above 60 s, (refl, (differs (length cells.now) (s * n), (refl, rooms_means (cells_asked n L) (coefficients_asked L) room.now first.now second.now)))))),
        told_after number_words j (refusal cs) outcome.0 outcome.1.0,
        told_after number_words j (refusal cs) outcome.0 outcome.1.1.0,
        told_after number_words j (refusal cs) outcome.0 outcome.1.1.1,
      )

module _ (κs : Lfts 6) (n : ℕ) (given : Slice ℤ) (s0 : ℕ) (existing : Slice ℕ) (s1 : ℕ) (added : Slice ℕ) (room : MutSlice ℕ) (first second : MutSlice ℤ) (r : Result ℕ Refusal)
    (room' : MutSlice ℕ) (first' second' : MutSlice ℤ)
    (outcome : add_generators_call.Post κs (n ⨾ given ⨾ s0 ⨾ existing ⨾ s1 ⨾ added ⨾ room ⨾ first ⨾ second ⨾ tt) r (n ⨾ given ⨾ s0 ⨾ existing ⨾ s1 ⨾ added ⨾ room' ⨾ first' ⨾ second' ⨾ tt)) where
  pub add_generators : let L = listed n s0 existing.now in let K = listed n s1 added.now in let G = given.now in let k = number_in (of_length r) in
      First
      ((255 < n, 1)
      ∷ (60 < s0 + s1, 2)
      ∷ (length existing.now ≢ s0 * n, 3)
      ∷ (length added.now ≢ s1 * n, 3)
      ∷ ((i : ℕ) × (2 ^ 61 < nat_abs (coefficient G i)), 15)
      ∷ (length room.now < cells_asked n (L ++ K), 7)
      ∷ ((length first.now < update_asked G (L ++ K)) ⊎ (length second.now < update_asked G (L ++ K)), 8)
      ∷ []) k
      × After k room'.now room.now (wiped 0 (cells_asked n (L ++ K)) room.now)
      × After k first'.now first.now (padded (pos 0) (update_asked G (L ++ K)) (update G L K) first.now)
      × After k second'.now second.now (wiped (pos 0) (update_asked G (L ++ K)) second.now)
  add_generators =
      let L : List (List ℕ) = listed n s0 existing.now in
      let K : List (List ℕ) = listed n s1 added.now in
      let G : List ℤ = given.now in
      let cs = update_checks 255 60 (2 ^ 61) n G s0 existing.now s1 added.now room.now first.now second.now in
      let j = length (update G L K) in (
        told_first number_words j cs outcome.0
            (above 255 n, (refl, (above 60 (s0 + s1), (refl, (differs (length existing.now) (s0 * n), (refl, (differs (length added.now) (s1 * n), (refl, (coefficient_beyond (2 ^ 61) G, (refl, rooms_means (cells_asked n (L ++ K)) (update_asked G (L ++ K)) room.now first.now second.now)))))))))),
        told_after number_words j (refusal cs) outcome.0 outcome.1.0,
        told_after number_words j (refusal cs) outcome.0 outcome.1.1.0,
        told_after number_words j (refusal cs) outcome.0 outcome.1.1.1,
      )

-- "hf_at: 1, 10, 9, 11." The first exception: "the sum room after 11 of `hf_at`, zero in its asked part".
module _ (κs : Lfts 2) (n : ℕ) (given : Slice ℤ) (d : ℕ) (sums : MutSlice ℕ) (r : Result Wide Refusal) (sums' : MutSlice ℕ)
    (outcome : hf_at_call.Post κs (n ⨾ given ⨾ d ⨾ sums ⨾ tt) r (n ⨾ given ⨾ d ⨾ sums' ⨾ tt)) where
  pub hf_at : let k = number_in (of_signed r) in
      First
      ((255 < n, 1) ∷ (65536 < d, 10) ∷ (length sums.now < 4 * (d + 1), 9) ∷ (2 ^ 127 ≤ hilbert_size given.now n d, 11) ∷ []) k
      × ((k ≡ 0) ⊎ (k ≡ 11) → sums'.now ≡ wiped 0 (4 * (d + 1)) sums.now)
      × (k ≢ 0 → k ≢ 11 → sums'.now ≡ sums.now)
  hf_at =
      let cs = hilbert_checks 255 65536 n given.now d sums.now in
      let k = number_in (of_signed r) in
      let e : k ≡ status (refusal cs) = ap (λ (a : Result Wide Refusal). number_in (of_signed a)) outcome.0 ∙ told_number signed_words (wide_of (hilbert given.now n d)) (refusal cs) in
      let left = sums_left (ltb 255 n) (ltb 65536 d) (ltb (length sums.now) (4 * (d + 1))) (leb (2 ^ 127) (hilbert_size given.now n d)) sums'.now (wiped 0 (4 * (d + 1)) sums.now) sums.now outcome.1 in (
        told_first signed_words (wide_of (hilbert given.now n d)) cs outcome.0
            (above 255 n, (refl, (above 65536 d, (refl, (above (length sums.now) (4 * (d + 1)), (refl, (reaches (2 ^ 127) (hilbert_size given.now n d), (refl, tt)))))))),
        λ h. left.0 (rw e at h),
        λ h g. left.1 (rw e at h) (rw e at g),
      )

-- "Dimension: 1, 2, 3; then unit gives 0; then n = 0 gives 1; then 13, 11, 7, 8, 9." "A dimension with a unit or n = 0 touches no room."
module _ (κs : Lfts 5) (n s : ℕ) (cells : Slice ℕ) (room : MutSlice ℕ) (first second : MutSlice ℤ) (sums : MutSlice ℕ) (r : Result Counted Refusal) (room' : MutSlice ℕ) (first' second' : MutSlice ℤ) (sums' : MutSlice ℕ)
    (outcome : quotient_dimension_call.Post κs (n ⨾ s ⨾ cells ⨾ room ⨾ first ⨾ second ⨾ sums ⨾ tt) r (n ⨾ s ⨾ cells ⨾ room' ⨾ first' ⨾ second' ⨾ sums' ⨾ tt)) where
  pub quotient_dimension : let L = listed n s cells.now in let k = number_in (of_dimension r) in
      First
      ((255 < n, 1)
      ∷ (60 < s, 2)
      ∷ (length cells.now ≢ s * n, 3)
      ∷ ((m : List ℕ) × In m L × (degree m ≡ 0), 0)
      ∷ (n ≡ 0, 0)
      ∷ (((v : ℕ) × (v < n) × (least_power L v ≡ 0)) ⊎ (65536 < degree_bound n L), 13)
      ∷ (2 ^ 127 ≤ powers_product n L, 11)
      ∷ (length room.now < cells_asked n L, 7)
      ∷ ((length first.now < coefficients_asked L) ⊎ (length second.now < coefficients_asked L), 8)
      ∷ (length sums.now < 2 * (degree_bound n L + 1), 9)
      ∷ []) k
      × After k room'.now room.now (cond (at_once n L) room.now (wiped 0 (cells_asked n L) room.now))
      × After k first'.now first.now (cond (at_once n L) first.now (wiped (pos 0) (coefficients_asked L) first.now))
      × After k second'.now second.now (cond (at_once n L) second.now (wiped (pos 0) (coefficients_asked L) second.now))
      × After k sums'.now sums.now (cond (at_once n L) sums.now (wiped 0 (2 * (degree_bound n L + 1)) sums.now))
  quotient_dimension =
      let L : List (List ℕ) = listed n s cells.now in
      let cs = dimension_checks 255 60 65536 n s cells.now room.now first.now second.now sums.now in
      let ds = bound_checks 65536 n L ++ room_checks n L room.now first.now second.now sums.now in
      let e : number_in (of_dimension r) ≡ status (refusal cs) = ap (λ (a : Result Counted Refusal). number_in (of_dimension a)) outcome.0 ∙ told_number dimension_words (record { dimension = wide (dimension n L); top = top_degree n L }) (refusal cs) in (
        rw e (list_first n s cells.now (cond (at_once n L) [] ds) (early_first (unit_in L) (eqb n 0) ds (unit_in_lem L) (equals n 0)
            (no_dimension_lem 65536 n L, (refl, (reaches (2 ^ 127) (powers_product n L), (refl, (above (length room.now) (cells_asked n L), (refl, (either (ltb (length first.now) (coefficients_asked L)) (ltb (length second.now) (coefficients_asked L)) (above (length first.now) (coefficients_asked L)) (above (length second.now) (coefficients_asked L)), (refl, (above (length sums.now) (2 * (degree_bound n L + 1)), (refl, tt)))))))))))),
        told_after dimension_words (record { dimension = wide (dimension n L); top = top_degree n L }) (refusal cs) outcome.0 outcome.1.0,
        told_after dimension_words (record { dimension = wide (dimension n L); top = top_degree n L }) (refusal cs) outcome.0 outcome.1.1.0,
        told_after dimension_words (record { dimension = wide (dimension n L); top = top_degree n L }) (refusal cs) outcome.0 outcome.1.1.1.0,
        told_after dimension_words (record { dimension = wide (dimension n L); top = top_degree n L }) (refusal cs) outcome.0 outcome.1.1.1.1,
      )

-- "Record writer: 1, 2, 3, 14. Reader: 12, 4 for a place; 12, 14 for the copy."

module _ (κs : Lfts 2) (n s : ℕ) (cells : Slice ℕ) (out : MutSlice ℕ) (r : Result ℕ Refusal) (out' : MutSlice ℕ)
    (outcome : write_record_call.Post κs (n ⨾ s ⨾ cells ⨾ out ⨾ tt) r (n ⨾ s ⨾ cells ⨾ out' ⨾ tt)) where
  pub write_record : let record_bytes = ideal_record n (listed n s cells.now) in let k = number_in (of_size r) in
      First ((255 < n, 1) ∷ (60 < s, 2) ∷ (length cells.now ≢ s * n, 3) ∷ (length out.now < length record_bytes, 14) ∷ []) k
      × After k out'.now out.now (record_bytes ++ drop (length record_bytes) out.now)
  write_record =
      let cs = write_record_checks 255 60 n s cells.now out.now in
      let j = length (ideal_record n (listed n s cells.now)) in (
        told_first number_words j cs outcome.0
            (above 255 n, (refl, (above 60 s, (refl, (differs (length cells.now) (s * n), (refl, (above (length out.now) j, (refl, tt)))))))),
        told_after number_words j (refusal cs) outcome.0 outcome.1,
      )

-- what bytes are a record is demand 3's to say
module _ (κs : Lfts 1) (rec : Slice ℕ) (k : ℕ) (r : Result ⊤ Refusal) (outcome : check_place_call.Post κs (rec ⨾ k ⨾ tt) r (rec ⨾ k ⨾ tt)) where
  pub check_place : First ((is_record 60 rec.now ≡ false, 12) ∷ (count_in rec.now ≤ k, 4) ∷ []) (number_in (of_check r 0))
  check_place = told_first (λ _. number_words 0) tt (place_checks 60 rec.now k) outcome (fails (is_record 60 rec.now), (refl, (reaches (count_in rec.now) k, (refl, tt))))

  -- "Where it refuses, the part is empty, and a check call on the same record and place gives the number."
  pub place : (λs : Lfts 1) (part : Slice ℕ) → place_call.Post λs (rec ⨾ k ⨾ tt) part (rec ⨾ k ⨾ tt) → After (number_in (of_check r 0)) part.now [] (part_of rec.now k)
  place λs part p = told_after (λ _. number_words 0) tt (refusal (place_checks 60 rec.now k)) outcome p

module _ (κs : Lfts 2) (rec : Slice ℕ) (cells : MutSlice ℕ) (r : Result Shape Refusal) (cells' : MutSlice ℕ) (outcome : copy_record_call.Post κs (rec ⨾ cells ⨾ tt) r (rec ⨾ cells' ⨾ tt)) where
  pub copy_record : let k = number_in (of_copy r) in let size = count_in rec.now * width_in rec.now in
      First ((is_record 60 rec.now ≡ false, 12) ∷ (length cells.now < size, 14) ∷ []) k
      × After k cells'.now cells.now (exponents_in rec.now ++ drop size cells.now)
  copy_record =
      let cs = copy_checks 60 rec.now cells.now in
      let size = count_in rec.now * width_in rec.now in (
        told_first shape_words (record { n = (width_in rec.now); m = (count_in rec.now) }) cs outcome.0 (fails (is_record 60 rec.now), (refl, (above (length cells.now) size, (refl, tt)))),
        told_after shape_words (record { n = (width_in rec.now); m = (count_in rec.now) }) (refusal cs) outcome.0 outcome.1,
      )

module _ (κs : Lfts 1) (code : ℕ) (x : Wide) (top : ℕ) (out : MutSlice ℕ) (r : Result ⊤ Refusal) (out' : MutSlice ℕ)
    (outcome : write_answer_call.Post κs (code ⨾ x ⨾ top ⨾ out ⨾ tt) r (code ⨾ x ⨾ top ⨾ out' ⨾ tt)) where
  pub write_answer : let k = number_in (of_check r 0) in
      First ((length out.now < 26, 14) ∷ []) k
      × After k out'.now out.now (answer_of code (value x) top ++ drop 26 out.now)
  write_answer =
      let cs = answer_checks 26 out.now in
      (told_first (λ _. number_words 0) tt cs outcome.0 (above (length out.now) 26, (refl, tt)), told_after (λ _. number_words 0) tt (refusal cs) outcome.0 outcome.1)

-- "Host call: 14, 12, then the dimension's", in the call's own rooms.
abbrev pub host_rules : List ℕ → List ℕ → List Rule
host_rules rec out =
    let n = width_in rec in
    let L = list_in rec in
    (length out < 26, 14)
    ∷ (is_record 60 rec ≡ false, 12)
    ∷ (255 < n, 1)
    ∷ (60 < count_in rec, 2)
    ∷ (length (exponents_in rec) ≢ count_in rec * n, 3)
    ∷ ((m : List ℕ) × In m L × (degree m ≡ 0), 0)
    ∷ (n ≡ 0, 0)
    ∷ (((v : ℕ) × (v < n) × (least_power L v ≡ 0)) ⊎ (65536 < degree_bound n L), 13)
    ∷ (2 ^ 127 ≤ powers_product n L, 11)
    ∷ (16384 < cells_asked n L, 7)
    ∷ (4096 < coefficients_asked L, 8)
    ∷ (4096 < 2 * (degree_bound n L + 1), 9)
    ∷ []

host_first : (rec out : List ℕ) → First (host_rules rec out) (status (refusal (host_checks 255 60 65536 26 rec out)))
host_first rec out =
    let n = width_in rec in
    let L = list_in rec in
    let ds = bound_checks 65536 n L ++ room_checks n L own_cells own_coefficients own_coefficients own_words in
    cons_first (ltb (length out) 26) Output (drop 1 (host_checks 255 60 65536 26 rec out)) (above (length out) 26)
    (cons_first (not (is_record 60 rec)) Record (record_checks 255 60 65536 rec) (fails (is_record 60 rec))
    (list_first n (count_in rec) (exponents_in rec) (cond (at_once n L) [] ds) (early_first (unit_in L) (eqb n 0) ds (unit_in_lem L) (equals n 0)
    (no_dimension_lem 65536 n L, (refl, (reaches (2 ^ 127) (powers_product n L), (refl, (above 16384 (cells_asked n L), (refl, (twice (ltb 4096 (coefficients_asked L)) (above 4096 (coefficients_asked L)), (refl, (above 4096 (2 * (degree_bound n L + 1)), (refl, tt)))))))))))))

-- The second exception: "after 14 nothing is written, after any other refusal the answer record carries it", with both numbers 0.
module _ (κs : Lfts 2) (rec : Slice ℕ) (out : MutSlice ℕ) (r : Result ⊤ Refusal) (out' : MutSlice ℕ) (outcome : answer_record_call.Post κs (rec ⨾ out ⨾ tt) r (rec ⨾ out' ⨾ tt)) where
  pub answer_record : let n = width_in rec.now in let L = list_in rec.now in let k = number_in (of_check r 0) in
      First (host_rules rec.now out.now) k
      × (length out.now < 26 → out'.now ≡ out.now)
      × (26 ≤ length out.now → out'.now ≡ answer_of k (dimension n L) (top_degree n L) ++ drop 26 out.now)
  answer_record =
      let cs = host_checks 255 60 65536 26 rec.now out.now in
      let e : number_in (of_check r 0) ≡ status (refusal cs) = ap (λ (a : Result ⊤ Refusal). number_in (of_check a 0)) outcome.0 ∙ told_number (λ _. number_words 0) tt (refusal cs) in
      rw e (host_first rec.now out.now, host_kept rec.now out.now out'.now (status (refusal cs)) outcome.1, host_written rec.now out.now out'.now (status (refusal cs)) outcome.1)

module _ (κs : Lfts 2) (rec : Slice ℕ) (out : MutSlice ℕ) (r : ℕ) (out' : MutSlice ℕ) (outcome : purlthicket_dim_call.Post κs (rec ⨾ out ⨾ tt) r (rec ⨾ out' ⨾ tt)) where
  pub purlthicket_dim : let n = width_in rec.now in let L = list_in rec.now in
      First (host_rules rec.now out.now) r
      × (length out.now < 26 → out'.now ≡ out.now)
      × (26 ≤ length out.now → out'.now ≡ answer_of r (dimension n L) (top_degree n L) ++ drop 26 out.now)
  purlthicket_dim =
      let k = status (refusal (host_checks 255 60 65536 26 rec.now out.now)) in
      rw outcome.0 (host_first rec.now out.now, host_kept rec.now out.now out'.now k outcome.1, host_written rec.now out.now out'.now k outcome.1)

  -- A record has a width below 256, at most 60 monomials and all their exponents: where the answer record is written, its status, byte 5, is
  -- the number, and is never 1, 2, 3 or 14.
  pub host_status : Below 256 rec.now → 26 ≤ length out.now → let k = get_or out'.now 5 0 in (k ≡ r) × (k ≢ 1) × (k ≢ 2) × (k ≢ 3) × (k ≢ 14)
  host_status bytes room =
      let (a, b, c, d) = status_never 255 60 65536 26 rec.now out.now room (bytes_by rec.now (λ i l. bytes i)) (lit≤ tt) in
      rw outcome.1 (status_written 255 60 65536 26 rec.now out.now room ∙ sym outcome.0, a, b, c, d)

-- No product is formed that could wrap: s = 2^63 with n = 2 is 2, whatever the cells, and so are 2^63 existing and 2^63 new monomials

pub numerator_too_many : (κs : Lfts 4) (cells : Slice ℕ) (room : MutSlice ℕ) (p q : MutSlice ℤ) (r : Result ℕ Refusal) (room' : MutSlice ℕ) (p' q' : MutSlice ℤ)
    → hilbert_numerator_call.Post κs (2 ⨾ 2 ^ 63 ⨾ cells ⨾ room ⨾ p ⨾ q ⨾ tt) r (2 ⨾ 2 ^ 63 ⨾ cells ⨾ room' ⨾ p' ⨾ q' ⨾ tt) → number_in (of_length r) ≡ 2
numerator_too_many κs cells room p q r room' p' q' o = too_many (hilbert_numerator κs 2 (2 ^ 63) cells room p q r room' p' q' o).0 (lit≤ tt) (lit< tt)

pub update_too_many : (κs : Lfts 6) (given : Slice ℤ) (old new : Slice ℕ) (room : MutSlice ℕ) (p q : MutSlice ℤ) (r : Result ℕ Refusal) (room' : MutSlice ℕ) (p' q' : MutSlice ℤ)
    → add_generators_call.Post κs (2 ⨾ given ⨾ 2 ^ 63 ⨾ old ⨾ 2 ^ 63 ⨾ new ⨾ room ⨾ p ⨾ q ⨾ tt) r (2 ⨾ given ⨾ 2 ^ 63 ⨾ old ⨾ 2 ^ 63 ⨾ new ⨾ room' ⨾ p' ⨾ q' ⨾ tt) → number_in (of_length r) ≡ 2
update_too_many κs given old new room p q r room' p' q' o = too_many (add_generators κs 2 given (2 ^ 63) old (2 ^ 63) new room p q r room' p' q' o).0 (lit≤ tt) (lit< tt)

pub dimension_too_many : (κs : Lfts 5) (cells : Slice ℕ) (room : MutSlice ℕ) (p q : MutSlice ℤ) (sums : MutSlice ℕ) (r : Result Counted Refusal) (room' : MutSlice ℕ) (p' q' : MutSlice ℤ) (sums' : MutSlice ℕ)
    → quotient_dimension_call.Post κs (2 ⨾ 2 ^ 63 ⨾ cells ⨾ room ⨾ p ⨾ q ⨾ sums ⨾ tt) r (2 ⨾ 2 ^ 63 ⨾ cells ⨾ room' ⨾ p' ⨾ q' ⨾ sums' ⨾ tt) → number_in (of_dimension r) ≡ 2
dimension_too_many κs cells room p q sums r room' p' q' sums' o = too_many (quotient_dimension κs 2 (2 ^ 63) cells room p q sums r room' p' q' sums' o).0 (lit≤ tt) (lit< tt)

pub record_too_many : (κs : Lfts 2) (cells : Slice ℕ) (out : MutSlice ℕ) (r : Result ℕ Refusal) (out' : MutSlice ℕ)
    → write_record_call.Post κs (2 ⨾ 2 ^ 63 ⨾ cells ⨾ out ⨾ tt) r (2 ⨾ 2 ^ 63 ⨾ cells ⨾ out' ⨾ tt) → number_in (of_size r) ≡ 2
record_too_many κs cells out r out' o = too_many (write_record κs 2 (2 ^ 63) cells out r out' o).0 (lit≤ tt) (lit< tt)
