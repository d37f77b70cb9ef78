-- The examples of document 01 that are proved: each line that 01 marks with ★ is a list of rows, and a row says something of the calls.
--   Row          == one value of an example; n, s and the cells are the list
--   Says row     == what it says: of any outcome that the call's contract allows, where the rooms are as large as asked
--   SaysLine line == all that a line of 01 says
--   stars        == 01's ten lines
-- Assumes nothing.
use Rattle.std.specs.Prelude.{◌≡◌, false, List, [], ◌∷◌, ◌++◌, ℕ, ◌+◌, ◌*◌, ◌-◌, ◌^◌, ◌≤◌, ℤ, pos, negsuc, length, take}
use contract.Lifetimes.{Lfts}
use Rattle.laws.specs.Coefficients.{first}
use Rattle.laws.specs.Count.{HF}
use Rattle.laws.specs.Dimension.{degree_bound}
use Rattle.laws.specs.Ideal.{listed}
use Rattle.laws.specs.Record.{ideal_record}
use Rattle.laws.specs.Room.{pairs, cells_asked, coefficients_asked, update_asked}
use Rattle.numbers.specs.Dimension.{at_once}
use Rattle.numbers.specs.Wide.{value, signed_value}
use Rattle.numbers.specs.declared.dimension.Dimension.{Dimension}
use Rattle.numbers.specs.declared.wide.Wide.{Wide}
use Rattle.numbers.proofs.dimension.quotient_dimension.Reads as quotient_dimension_call
use Rattle.numbers.proofs.hf_at.hf_at.Reads as hf_at_call
use Rattle.numbers.proofs.numerator.hilbert_numerator.Reads as hilbert_numerator_call
use Rattle.numbers.proofs.update.add_generators.Reads as add_generators_call
use Rattle.records.proofs.ideal.write_record.Reads as write_record_call
use Rattle.records.proofs.host.purlthicket_dim.Reads as purlthicket_dim_call
use Rattle.bridge.specs.Told.{number_in}
use Rattle.bridge.specs.Numbers.{of_dimension}
use Rattle.promises.specs.Promise.{Slice, MutSlice, ◌⨾◌}
use Rattle.std.specs.Prelude.{Result, Ok}
use Rattle.monomials.specs.declared.refusal.Refusal.{Refusal}

pub data Row : Type 0 where
  -- the numerator's coefficients
  coefficients : (n s : ℕ) (cells : List ℕ) (N : List ℤ) → Row
  -- HF(0), HF(1), ..
  counts : (n s : ℕ) (cells : List ℕ) (values : List ℕ) → Row
  dimension_of : (n s : ℕ) (cells : List ℕ) (x : ℕ) → Row
  -- refusal 13
  no_dimension_of : (n s : ℕ) (cells : List ℕ) → Row
  -- the ideal record
  record_of : (n s : ℕ) (cells : List ℕ) (bytes : List ℕ) → Row
  -- the answer record that the host is given for the list's ideal record
  answer_of : (n s : ℕ) (cells : List ℕ) (bytes : List ℕ) → Row
  -- e, the cells and the coefficients asked
  sizes : (n s : ℕ) (cells : List ℕ) (e c k : ℕ) → Row
  -- given coefficients, an existing and a new list: the updated coefficients
  updated : (n : ℕ) (G : List ℤ) (s0 : ℕ) (existing : List ℕ) (s1 : ℕ) (added : List ℕ) (N : List ℤ) → Row
  -- given coefficients, and the degree asked for
  value_at : (p : List ℤ) (n d : ℕ) (z : ℤ) → Row

abbrev pub Says : Row → Type 0
Says (coefficients n s cells N) =
    (κs : Lfts 4) (list : Slice ℕ) (room : MutSlice ℕ) (first second : MutSlice ℤ) (r : Result ℕ Refusal) (room' : MutSlice ℕ) (first' second' : MutSlice ℤ)
    → hilbert_numerator_call.Post κs (n ⨾ s ⨾ list ⨾ room ⨾ first ⨾ second ⨾ tt) r (n ⨾ s ⨾ list ⨾ room' ⨾ first' ⨾ second' ⨾ tt)
    → list.now ≡ cells
    → cells_asked n (listed n s cells) ≤ length room.now
    → coefficients_asked (listed n s cells) ≤ length first.now
    → coefficients_asked (listed n s cells) ≤ length second.now
    → (r ≡ Ok (length N)) × (take (length N) first'.now ≡ N)
Says (counts n s cells values) = first (length values) (HF (listed n s cells) n) ≡ values
Says (dimension_of n s cells x) =
    (κs : Lfts 5) (list : Slice ℕ) (room : MutSlice ℕ) (first second : MutSlice ℤ) (sums : MutSlice ℕ) (r : Result Dimension Refusal) (room' : MutSlice ℕ) (first' second' : MutSlice ℤ) (sums' : MutSlice ℕ)
    → quotient_dimension_call.Post κs (n ⨾ s ⨾ list ⨾ room ⨾ first ⨾ second ⨾ sums ⨾ tt) r (n ⨾ s ⨾ list ⨾ room' ⨾ first' ⨾ second' ⨾ sums' ⨾ tt)
    → list.now ≡ cells
    → (at_once n (listed n s cells) ≡ false
    → (cells_asked n (listed n s cells) ≤ length room.now)
    × (coefficients_asked (listed n s cells) ≤ length first.now)
    × (coefficients_asked (listed n s cells) ≤ length second.now)
    × (2 * (degree_bound n (listed n s cells) + 1) ≤ length sums.now))
    → (y : Dimension) × (r ≡ Ok y) × (value y.dimension ≡ x)
Says (no_dimension_of n s cells) =
    (κs : Lfts 5) (list : Slice ℕ) (room : MutSlice ℕ) (first second : MutSlice ℤ) (sums : MutSlice ℕ) (r : Result Dimension Refusal) (room' : MutSlice ℕ) (first' second' : MutSlice ℤ) (sums' : MutSlice ℕ)
    → quotient_dimension_call.Post κs (n ⨾ s ⨾ list ⨾ room ⨾ first ⨾ second ⨾ sums ⨾ tt) r (n ⨾ s ⨾ list ⨾ room' ⨾ first' ⨾ second' ⨾ sums' ⨾ tt)
    → list.now ≡ cells
    → number_in (of_dimension r) ≡ 13
Says (record_of n s cells bytes) =
    (κs : Lfts 2) (list : Slice ℕ) (out : MutSlice ℕ) (r : Result ℕ Refusal) (out' : MutSlice ℕ)
    → write_record_call.Post κs (n ⨾ s ⨾ list ⨾ out ⨾ tt) r (n ⨾ s ⨾ list ⨾ out' ⨾ tt)
    → list.now ≡ cells
    → length bytes ≤ length out.now
    → (r ≡ Ok (length bytes)) × (take (length bytes) out'.now ≡ bytes)
Says (answer_of n s cells bytes) =
    (κs : Lfts 2) (rec : Slice ℕ) (out : MutSlice ℕ) (r : ℕ) (out' : MutSlice ℕ)
    → purlthicket_dim_call.Post κs (rec ⨾ out ⨾ tt) r (rec ⨾ out' ⨾ tt)
    → rec.now ≡ ideal_record n (listed n s cells)
    → 26 ≤ length out.now
    → (r ≡ 0) × (take 26 out'.now ≡ bytes)
Says (sizes n s cells e c k) = (pairs n (listed n s cells) ≡ e) × (cells_asked n (listed n s cells) ≡ c) × (coefficients_asked (listed n s cells) ≡ k)
Says (updated n G s0 existing s1 added N) =
    (κs : Lfts 6) (given : Slice ℤ) (old new : Slice ℕ) (room : MutSlice ℕ) (first second : MutSlice ℤ) (r : Result ℕ Refusal) (room' : MutSlice ℕ) (first' second' : MutSlice ℤ)
    → add_generators_call.Post κs (n ⨾ given ⨾ s0 ⨾ old ⨾ s1 ⨾ new ⨾ room ⨾ first ⨾ second ⨾ tt) r (n ⨾ given ⨾ s0 ⨾ old ⨾ s1 ⨾ new ⨾ room' ⨾ first' ⨾ second' ⨾ tt)
    → given.now ≡ G
    → old.now ≡ existing
    → new.now ≡ added
    → cells_asked n (listed n s0 existing ++ listed n s1 added) ≤ length room.now
    → update_asked G (listed n s0 existing ++ listed n s1 added) ≤ length first.now
    → update_asked G (listed n s0 existing ++ listed n s1 added) ≤ length second.now
    → (r ≡ Ok (length N)) × (take (length N) first'.now ≡ N)
Says (value_at p n d z) =
    (κs : Lfts 2) (given : Slice ℤ) (sums : MutSlice ℕ) (r : Result Wide Refusal) (sums' : MutSlice ℕ)
    → hf_at_call.Post κs (n ⨾ given ⨾ d ⨾ sums ⨾ tt) r (n ⨾ given ⨾ d ⨾ sums' ⨾ tt)
    → given.now ≡ p
    → 4 * (d + 1) ≤ length sums.now
    → (w : Wide) × (r ≡ Ok w) × (signed_value w ≡ z)

abbrev pub SaysLine : List Row → Type 0
SaysLine [] = Unit {0}
SaysLine (row ∷ line) = Says row × SaysLine line

-- the table

abbrev pub stars : List (List Row)
stars =
    -- n=3, none: [1]; dimension 13
    (coefficients 3 0 [] (pos 1 ∷ []) ∷ no_dimension_of 3 0 [] ∷ [])
    -- n=2, (0,0): []; dimension 0
    ∷ (coefficients 2 1 (0 ∷ 0 ∷ []) [] ∷ dimension_of 2 1 (0 ∷ 0 ∷ []) 0 ∷ [])
    -- n=0, none: [1]; dimension 1
    ∷ (coefficients 0 0 [] (pos 1 ∷ []) ∷ dimension_of 0 0 [] 1 ∷ [])
    -- n=0, one unit: []; dimension 0; record 01 00000002 00 01
    ∷ (coefficients 0 1 [] [] ∷ dimension_of 0 1 [] 0 ∷ record_of 0 1 [] (1 ∷ 0 ∷ 0 ∷ 0 ∷ 2 ∷ 0 ∷ 1 ∷ []) ∷ [])
    -- n=2, (2,0)(1,1)(0,2): [1,0,−3,2]; HF 1, 2, 0; dimension 3; e=4, 42 cells, 5 coefficients;
    -- record 01 0000000E 02 03 0002 0000 0001 0001 0000 0002; answer record 01 00000015 00, fifteen 00, 03, 00000002
    ∷ (coefficients 2 3 (2 ∷ 0 ∷ 1 ∷ 1 ∷ 0 ∷ 2 ∷ []) (pos 1 ∷ pos 0 ∷ negsuc 2 ∷ pos 2 ∷ [])
    ∷ counts 2 3 (2 ∷ 0 ∷ 1 ∷ 1 ∷ 0 ∷ 2 ∷ []) (1 ∷ 2 ∷ 0 ∷ [])
    ∷ dimension_of 2 3 (2 ∷ 0 ∷ 1 ∷ 1 ∷ 0 ∷ 2 ∷ []) 3
    ∷ sizes 2 3 (2 ∷ 0 ∷ 1 ∷ 1 ∷ 0 ∷ 2 ∷ []) 4 42 5
    ∷ record_of 2 3 (2 ∷ 0 ∷ 1 ∷ 1 ∷ 0 ∷ 2 ∷ []) (1 ∷ 0 ∷ 0 ∷ 0 ∷ 14 ∷ 2 ∷ 3 ∷ 0 ∷ 2 ∷ 0 ∷ 0 ∷ 0 ∷ 1 ∷ 0 ∷ 1 ∷ 0 ∷ 0 ∷ 0 ∷ 2 ∷ [])
    ∷ answer_of 2 3 (2 ∷ 0 ∷ 1 ∷ 1 ∷ 0 ∷ 2 ∷ []) (1 ∷ 0 ∷ 0 ∷ 0 ∷ 21 ∷ 0 ∷ 0 ∷ 0 ∷ 0 ∷ 0 ∷ 0 ∷ 0 ∷ 0 ∷ 0 ∷ 0 ∷ 0 ∷ 0 ∷ 0 ∷ 0 ∷ 0 ∷ 0 ∷ 3 ∷ 0 ∷ 0 ∷ 0 ∷ 2 ∷ [])
    ∷ [])
    -- n=2, (3,0)(0,2): [1,0,−1,−1,0,1]; HF 1, 2, 2, 1; dimension 6
    ∷ (coefficients 2 2 (3 ∷ 0 ∷ 0 ∷ 2 ∷ []) (pos 1 ∷ pos 0 ∷ negsuc 0 ∷ negsuc 0 ∷ pos 0 ∷ pos 1 ∷ [])
    ∷ counts 2 2 (3 ∷ 0 ∷ 0 ∷ 2 ∷ []) (1 ∷ 2 ∷ 2 ∷ 1 ∷ [])
    ∷ dimension_of 2 2 (3 ∷ 0 ∷ 0 ∷ 2 ∷ []) 6
    ∷ [])
    -- n=3, (1,1,0)(0,1,1)(1,0,1): [1,0,−3,2]; HF 1, 3, 3, 3; dimension 13
    ∷ (coefficients 3 3 (1 ∷ 1 ∷ 0 ∷ 0 ∷ 1 ∷ 1 ∷ 1 ∷ 0 ∷ 1 ∷ []) (pos 1 ∷ pos 0 ∷ negsuc 2 ∷ pos 2 ∷ [])
    ∷ counts 3 3 (1 ∷ 1 ∷ 0 ∷ 0 ∷ 1 ∷ 1 ∷ 1 ∷ 0 ∷ 1 ∷ []) (1 ∷ 3 ∷ 3 ∷ 3 ∷ [])
    ∷ no_dimension_of 3 3 (1 ∷ 1 ∷ 0 ∷ 0 ∷ 1 ∷ 1 ∷ 1 ∷ 0 ∷ 1 ∷ [])
    ∷ [])
    -- n=1, (5)(3)(3): [1,0,0,−1]; dimension 3; one monomial in the record
    ∷ (coefficients 1 3 (5 ∷ 3 ∷ 3 ∷ []) (pos 1 ∷ pos 0 ∷ pos 0 ∷ negsuc 0 ∷ [])
    ∷ dimension_of 1 3 (5 ∷ 3 ∷ 3 ∷ []) 3
    ∷ record_of 1 3 (5 ∷ 3 ∷ 3 ∷ []) (1 ∷ 0 ∷ 0 ∷ 0 ∷ 4 ∷ 1 ∷ 1 ∷ 0 ∷ 3 ∷ [])
    ∷ [])
    -- n=1, G=[1,0,0,0,0,−1], existing (5), new (3): [1,0,0,−1]
    ∷ (updated 1 (pos 1 ∷ pos 0 ∷ pos 0 ∷ pos 0 ∷ pos 0 ∷ negsuc 0 ∷ []) 1 (5 ∷ []) 1 (3 ∷ []) (pos 1 ∷ pos 0 ∷ pos 0 ∷ negsuc 0 ∷ []) ∷ [])
    -- coefficients [−2^63], n=1, d=0: −2^63
    ∷ (value_at (negsuc (2 ^ 63 - 1) ∷ []) 1 0 (negsuc (2 ^ 63 - 1)) ∷ [])
    ∷ []
