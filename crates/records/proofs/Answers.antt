-- The returns of the public functions on ideal records, in the words of their contracts.
--   write_refused, write_done     the writer's answer and output, by the first check that holds
--   write_wide, write_many, write_cells, write_short, write_passes   which check that is
--   size_is, record_out           the size of the record, and the output that holds it
--   place_none, place_past, place_there   which check of a place holds
--   place_told_lem, place_given, part_is      the answer, and the part that is handed back
--   copy_none, copy_short, copy_passes    which check of a copy holds
--   copy_refused, copy_done               its answer and its cells
--   read_refused, read_done               the same of a copy into cells that are enough
-- Assumes nothing.
use mathlib.Core.Path.{◌≡◌, sym, ap, ap₂, ◌∙◌}
use mathlib.Core.Bool.{Bool, true, false, not, cond, false≢true}
use mathlib.Core.List.{List, [], ◌∷◌, ◌++◌}
use mathlib.Core.Option.{Option, none, some}
use Prim.Native.Nat.{ℕ, ◌+◌, ◌*◌, ◌-◌, ◌≤◌, ◌<◌}
use native.Mathlib.Omega.{arith}
use lib.Dec.{ltb, leb}
use lib.ListN.{length, take, drop, length-map}
use lib.Seq.{sets}
use borrow.Author.Tests.{lt-ltb, le-ltb, le-leb, lt-leb, eq-eqb, ne_eqb}
use Rattle.laws.specs.Ideal.{listed, Width}
use Rattle.laws.specs.Minimal.{minimal}
use Rattle.laws.specs.Record.{big_endian, exponent_bytes, is_record, exponents_in, width_in, count_in, part_of}
use Rattle.laws.proofs.Ideal.{listed_width}
use Rattle.laws.proofs.Minimal.{minimal_width}
use Rattle.laws.proofs.Record.{record_length}
use Rattle.laws.proofs.Writing.{written_sets}
use Rattle.monomials.specs.Refusal.{Check, refusal, after, answer}
use Rattle.monomials.specs.declared.refusal.Refusal.{Refusal}
use Rattle.monomials.specs.declared.refusal.Refusal.TheVariants.{Width as TooWide, Count, Cells, Place, Record, Output}
use Rattle.records.specs.Ideal.{record_of, write_checks, write_answer, write_bytes, not_record, place_checks, place_answer, place_part, copy_checks, copy_answer, copy_cells}
use Rattle.records.specs.Rows.{row, rows_at}
use Rattle.std.specs.Prelude.{Result, ⊤}
use Rattle.records.specs.declared.ideal.Shape.{Shape}

-- the writer

module _ (W C n s : ℕ) (cells out : List ℕ) where
  pub write_refused : (x : Refusal) (a : Result ℕ Refusal) → a ≡ answer (some x) 0 → refusal (write_checks W C n s cells out) ≡ some x
      → (a ≡ write_answer W C n s cells out) × (out ≡ write_bytes W C n s cells out)
  write_refused x a p e = (
    p ∙ ap (λ (r : Option Refusal). answer r (length (record_of n s cells))) (sym e),
    ap (λ (r : Option Refusal). after r (record_of n s cells ++ drop (length (record_of n s cells)) out) out) (sym e),
  )

  pub write_done : (N : ℕ) (d : List ℕ) → refusal (write_checks W C n s cells out) ≡ none → N ≡ length (record_of n s cells) → d ≡ record_of n s cells ++ drop (length (record_of n s cells)) out
      → (answer none N ≡ write_answer W C n s cells out) × (d ≡ write_bytes W C n s cells out)
  write_done N d e p q = (
    ap (answer none) p ∙ ap (λ (r : Option Refusal). answer r (length (record_of n s cells))) (sym e),
    q ∙ ap (λ (r : Option Refusal). after r (record_of n s cells ++ drop (length (record_of n s cells)) out) out) (sym e),
  )

  pub write_wide : W < n → refusal (write_checks W C n s cells out) ≡ some TooWide
  write_wide h = rw (lt-ltb W n h)

  module _ (h : n ≤ W) where
    pub write_many : C < s → refusal (write_checks W C n s cells out) ≡ some Count
    write_many g = rw (le-ltb W n h, lt-ltb C s g)

    module _ (g : s ≤ C) where
      pub write_cells : (length cells ≡ s * n → ⊥) → refusal (write_checks W C n s cells out) ≡ some Cells
      write_cells f = rw (le-ltb W n h, le-ltb C s g, ne_eqb (length cells) (s * n) f)

      module _ (f : length cells ≡ s * n) where
        pub write_short : length out < length (record_of n s cells) → refusal (write_checks W C n s cells out) ≡ some Output
        write_short e = rw (le-ltb W n h, le-ltb C s g, eq-eqb (length cells) (s * n) f, lt-ltb (length out) (length (record_of n s cells)) e)

        pub write_passes : length (record_of n s cells) ≤ length out → refusal (write_checks W C n s cells out) ≡ none
        write_passes e = rw (le-ltb W n h, le-ltb C s g, eq-eqb (length cells) (s * n) f, le-ltb (length out) (length (record_of n s cells)) e)

module _ (n s : ℕ) (cells places : List ℕ) (h : length cells ≡ s * n) (e : rows_at n cells places ≡ minimal (listed n s cells)) where
  width : Width n (listed n s cells)
  width = listed_width n s cells (omega arith)

  -- as many places as minimal monomials
  count : length places ≡ length (minimal (listed n s cells))
  count = sym (length-map places (row n cells)) ∙ ap length e

  pub size_is : 7 + 2 * (length places * n) ≡ length (record_of n s cells)
  size_is = ap (λ (k : ℕ). 7 + 2 * (k * n)) count ∙ sym (record_length n (listed n s cells) width)

  pub record_out : (out : List ℕ) → 7 + 2 * (length places * n) ≤ length out
      → sets (sets out 0 (1 ∷ big_endian 4 (2 + 2 * (length places * n)) ++ n ∷ length places ∷ [])) 7 (exponent_bytes (rows_at n cells places)) ≡ record_of n s cells ++ drop (length (record_of n s cells)) out
  record_out out l =
      ap₂ (λ (k : ℕ) (K : List (List ℕ)). sets (sets out 0 (1 ∷ big_endian 4 (2 + 2 * (k * n)) ++ n ∷ k ∷ [])) 7 (exponent_bytes K)) count e
      ∙ written_sets n (minimal (listed n s cells)) out (minimal_width n (listed n s cells) width) (rw (← size_is) l)

-- the readers

module _ (C : ℕ) (rec : List ℕ) where
  -- bytes that are no record are refused first
  pub no_record : (cs : List Check) → is_record C rec ≡ false → refusal (not_record C rec ∷ cs) ≡ some Record
  no_record cs e = ap (λ (t : Bool). cond (not t) (some Record) (refusal cs)) e

  -- else the other checks decide
  pub a_record : (cs : List Check) → is_record C rec ≡ true → refusal (not_record C rec ∷ cs) ≡ refusal cs
  a_record cs e = ap (λ (t : Bool). cond (not t) (some Record) (refusal cs)) e

  module _ (k : ℕ) where
    pub place_none : is_record C rec ≡ false → refusal (place_checks C rec k) ≡ some Record
    place_none e = no_record ((leb (count_in rec) k, Place) ∷ []) e

    pub place_past : is_record C rec ≡ true → count_in rec ≤ k → refusal (place_checks C rec k) ≡ some Place
    place_past e h = a_record ((leb (count_in rec) k, Place) ∷ []) e ∙ ap (λ (t : Bool). cond t (some Place) none) (le-leb (count_in rec) k h)

    pub place_there : is_record C rec ≡ true → k < count_in rec → refusal (place_checks C rec k) ≡ none
    place_there e h = a_record ((leb (count_in rec) k, Place) ∷ []) e ∙ ap (λ (t : Bool). cond t (some Place) none) (lt-leb (count_in rec) k h)

    pub place_told_lem : (r : Option Refusal) → refusal (place_checks C rec k) ≡ r → answer {A = ⊤} r tt ≡ place_answer C rec k
    place_told_lem r e = ap (λ (x : Option Refusal). answer {A = ⊤} x tt) (sym e)

    pub place_given : (r : Option Refusal) → refusal (place_checks C rec k) ≡ r → after r (part_of rec k) [] ≡ place_part C rec k
    place_given r e = ap (λ (x : Option Refusal). after x (part_of rec k) []) (sym e)

    -- the part from its start up to its end
    pub part_is : (n : ℕ) → n ≡ width_in rec → take (7 + 2 * n * k + 2 * n - (7 + 2 * n * k)) (drop (7 + 2 * n * k) rec) ≡ part_of rec k
    part_is n e =
        let z : 7 + 2 * n * k + 2 * n - (7 + 2 * n * k) ≡ 2 * n = omega arith in
        rw z (ap (λ (w : ℕ). take (2 * w) (drop (7 + 2 * w * k) rec)) e)

  module _ (cells : List ℕ) where
    pub copy_none : is_record C rec ≡ false → refusal (copy_checks C rec cells) ≡ some Record
    copy_none e = no_record ((ltb (length cells) (count_in rec * width_in rec), Output) ∷ []) e

    pub copy_short : is_record C rec ≡ true → length cells < count_in rec * width_in rec → refusal (copy_checks C rec cells) ≡ some Output
    copy_short e h =
        a_record ((ltb (length cells) (count_in rec * width_in rec), Output) ∷ []) e
        ∙ ap (λ (t : Bool). cond t (some Output) none) (lt-ltb (length cells) (count_in rec * width_in rec) h)

    pub copy_passes : is_record C rec ≡ true → count_in rec * width_in rec ≤ length cells → refusal (copy_checks C rec cells) ≡ none
    copy_passes e h =
        a_record ((ltb (length cells) (count_in rec * width_in rec), Output) ∷ []) e
        ∙ ap (λ (t : Bool). cond t (some Output) none) (le-ltb (length cells) (count_in rec * width_in rec) h)

module _ (C : ℕ) (rec cells : List ℕ) where
  pub copy_refused : (x : Refusal) (a : Result Shape Refusal) → a ≡ answer (some x) (record { n = 0; m = 0 }) → refusal (copy_checks C rec cells) ≡ some x
      → (a ≡ copy_answer C rec cells) × (cells ≡ copy_cells C rec cells)
  copy_refused x a p e = (
    p ∙ ap (λ (r : Option Refusal). answer r (record { n = (width_in rec); m = (count_in rec) })) (sym e),
    ap (λ (r : Option Refusal). after r (exponents_in rec ++ drop (count_in rec * width_in rec) cells) cells) (sym e),
  )

  pub copy_done : (n m : ℕ) (d : List ℕ) → refusal (copy_checks C rec cells) ≡ none → n ≡ width_in rec → m ≡ count_in rec → d ≡ exponents_in rec ++ drop (count_in rec * width_in rec) cells
      → (answer none (record { n = n; m = m }) ≡ copy_answer C rec cells) × (d ≡ copy_cells C rec cells)
  copy_done n m d e p q f = (
    ap₂ (λ (x y : ℕ). answer none (record { n = x; m = y })) p q ∙ ap (λ (r : Option Refusal). answer r (record { n = (width_in rec); m = (count_in rec) })) (sym e),
    f ∙ ap (λ (r : Option Refusal). after r (exponents_in rec ++ drop (count_in rec * width_in rec) cells) cells) (sym e),
  )

  pub read_refused : (d : List ℕ) (a : Result Shape Refusal) → a ≡ answer (some Record) (record { n = 0; m = 0 }) → is_record C rec ≡ false
      → (a ≡ copy_answer C rec cells) × (is_record C rec ≡ true → d ≡ copy_cells C rec cells)
  read_refused d a p e = ((copy_refused Record a p (copy_none C rec cells e)).0, λ t. absurd (false≢true (sym e ∙ t)))

  pub read_done : (n m : ℕ) (d : List ℕ) → is_record C rec ≡ true → count_in rec * width_in rec ≤ length cells → n ≡ width_in rec → m ≡ count_in rec → d ≡ exponents_in rec ++ drop (count_in rec * width_in rec) cells
      → (answer none (record { n = n; m = m }) ≡ copy_answer C rec cells) × (is_record C rec ≡ true → d ≡ copy_cells C rec cells)
  read_done n m d e h p q f = let (a, b) = copy_done n m d (copy_passes C rec cells e h) p q f in (a, λ _. b)
