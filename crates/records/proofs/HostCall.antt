-- The steps behind the host call, in the words of its contract.
--   first_passes, both_pass        where nothing is refused no check holds
--   larger_rooms, own_rooms        a dimension is told alike of rooms as large or larger, and so of the call's own
--   dimension_small                a dimension that is not refused is below 2^127, and its top degree at most M
--   top_fits                       so the top degree of a record's answer fits four bytes
--   short_is                       what the contract says where the output has no room for an answer record
--   roomy, roomy_bytes, told_is    and where it has: 12 and the dimension's checks decide, and the record's answer is written
--   done_number, refused_number    the number of the call's answer
--   copied_shape, copied_refused   what copying a record into cells enough for every record tells
--   record_area, record_fits       how many cells these are
--   record_dimension, no_record_dimension   the dimension of what was copied is the record's answer
-- Assumes nothing.
use mathlib.Core.Path.{◌≡◌, refl, sym, ap, ◌∙◌}
use mathlib.Core.Bool.{Bool, true, false, not, ◌||◌, cond, false≢true}
use mathlib.Core.List.{List, [], ◌∷◌, ◌++◌}
use mathlib.Core.Option.{Option, none, some}
use Prim.Native.Nat.{ℕ, ◌*◌, ◌^◌, ◌≤◌, ◌<◌}
use native.Mathlib.Nat.{lt_of_le_of_lt, lt_of_lt_of_le, mod-eq_of_lt}
use native.Mathlib.Omega.{arith}
use lib.Dec.{leb, ltb, eqb, lit≤, lit<}
use lib.IntN.{ℤ, pos}
use lib.ListN.{length, drop, replicate, length-replicate}
use lib.Pow.{are_bytes}
use borrow.Author.Tests.{lt-ltb, le-ltb, leb-false, ltb-false, eqb-true, not-false}
use Rattle.laws.specs.Dimension.{finite, degree_bound, powers_product, dimension, top_degree}
use Rattle.laws.specs.Ideal.{listed, Width, unit_in}
use Rattle.laws.specs.Room.{cells_asked, coefficients_asked, dimension_words}
use Rattle.laws.specs.Record.{is_record, exponents_in, list_in, width_in, count_in}
use Rattle.laws.proofs.Dimension.{dimension_unit, dimension_no_variables, dimension_lt}
use Rattle.laws.proofs.Ideal.{listed_width}
use Rattle.laws.proofs.Reading.{byte_at, record_tests}
use Rattle.laws.proofs.Word.{pair_words}
use Rattle.monomials.specs.Refusal.{Check, refusal, number, too_wide, after, answer}
use Rattle.monomials.specs.declared.refusal.Refusal.{Refusal}
use Rattle.monomials.specs.declared.refusal.Refusal.TheVariants.{Width as TooWide, Count, Cells, Place, Exponent, Division, CellRoom, CoefficientRoom, SumRoom, Degree, Value, Record, Dimension, Output, Coefficient}
use Rattle.numbers.specs.Wide.{value, wide}
use Rattle.numbers.specs.Numerator.{list_checks, too_many, not_cells, cell_room, coefficient_rooms}
use Rattle.numbers.specs.Dimension.{at_once, no_dimension, bound_checks, sum_room, room_checks, dimension_checks, dimension_answer, dimension_is}
use Rattle.records.specs.Answer.{answer_of}
use Rattle.records.specs.Ideal.{not_record, copy_checks, copy_answer, copy_cells}
use Rattle.records.specs.Host.{own_cells, own_coefficients, own_words, record_checks, host_checks, status, host_answer, host_number, host_bytes}
use Rattle.records.specs.HostParts.{record_answer, told, told_bytes}
use Rattle.records.specs.Rows.{Ample}
use Rattle.numbers.specs.declared.dimension.Dimension.{Dimension as Counted}
use Rattle.std.specs.Prelude.{Result, Ok, Err, ⊤, IfOk}
use Rattle.monomials.proofs.Outcomes.{ok_passes, ok_value, err_refuses}
use Rattle.records.specs.declared.ideal.Shape.{Shape}
use Rattle.records.proofs.Answers.{copy_none, copy_passes, a_record, no_record}
use Rattle.records.proofs.Cells.{area}
use Rattle.records.proofs.Standing.{record_header, header_fits}

-- checks that pass

pub first_passes : (c : Check) (cs : List Check) → refusal (c ∷ cs) ≡ none → (c.0 ≡ false) × (refusal cs ≡ none)
first_passes c cs e = go c.0 refl
  where
    go : (t : Bool) → c.0 ≡ t → (t ≡ false) × (refusal cs ≡ none)
    go true h = let z : ◌≡◌ {A = ℕ} 0 1 = cc (rw h at e) in absurd (omega arith)
    go false h = (refl, rw h at e)

pub both_pass : (cs ds : List Check) → refusal (cs ++ ds) ≡ none → (refusal cs ≡ none) × (refusal ds ≡ none)
both_pass [] ds e = (refl, e)
both_pass (c ∷ cs) ds e =
    let (h, g) = first_passes c (cs ++ ds) e in
    let (p, q) = both_pass cs ds g in
    (rw h p, q)

or_none : (a b : Bool) → (not a || b) ≡ false → (a ≡ true) × (b ≡ false)
or_none true b e = (refl, e)
or_none false b e = absurd (false≢true (sym e))

still_pass : (cs ds : List Check) → refusal cs ≡ none → refusal ds ≡ none → refusal (cs ++ ds) ≡ none
still_pass [] ds p q = q
still_pass (c ∷ cs) ds p q = let (h, g) = first_passes c cs p in rw h (still_pass cs ds g q)

-- rooms as large or larger

done_of : (r r' : Option Refusal) (n : ℕ) (L : List (List ℕ)) → (r ≡ none → r' ≡ none) → (x : Counted) → Ok x ≡ dimension_is r n L → Ok x ≡ dimension_is r' n L
done_of none r' n L f x e = rw (f refl) e
done_of (some r) r' n L f x e = let z : ◌≡◌ {A = ℕ} 0 1 = cc in absurd (omega arith)

either_false : (a : Bool) → (a || a) ≡ false → a ≡ false
either_false true e = e
either_false false e = refl

module _ (room room' : List ℕ) (p p' : List ℤ) (sums sums' : List ℕ) (h : length room ≤ length room') (g : length p ≤ length p') (f : length sums ≤ length sums') where
  longer : {A : Type 0} (xs ys : List A) (k : ℕ) → length xs ≤ length ys → ltb (length xs) k ≡ false → ltb (length ys) k ≡ false
  longer xs ys k l e = le-ltb (length ys) k (omega (arith, ltb-false (length xs) k e, l))

  rooms_pass : (n : ℕ) (L : List (List ℕ)) → refusal (room_checks n L room p p sums) ≡ none → refusal (room_checks n L room' p' p' sums') ≡ none
  rooms_pass n L e =
      let (a, r) = first_passes (cell_room (cells_asked n L) room) (coefficient_rooms (coefficients_asked L) p p ∷ sum_room (dimension_words (degree_bound n L)) sums ∷ []) e in
      let (b, q) = first_passes (coefficient_rooms (coefficients_asked L) p p) (sum_room (dimension_words (degree_bound n L)) sums ∷ []) r in
      let (c, _) = first_passes (sum_room (dimension_words (degree_bound n L)) sums) [] q in
      rw (longer room room' (cells_asked n L) h a, longer p p' (coefficients_asked L) g (either_false (ltb (length p) (coefficients_asked L)) b), longer sums sums' (dimension_words (degree_bound n L)) f c) refl

  checks_pass : (W C M n s : ℕ) (cells : List ℕ) → refusal (dimension_checks W C M n s cells room p p sums) ≡ none → refusal (dimension_checks W C M n s cells room' p' p' sums') ≡ none
  checks_pass W C M n s cells e =
      let (a, b) = both_pass (list_checks W C n s cells) (cond (at_once n (listed n s cells)) [] (bound_checks M n (listed n s cells) ++ room_checks n (listed n s cells) room p p sums)) e in
      still_pass (list_checks W C n s cells) (cond (at_once n (listed n s cells)) [] (bound_checks M n (listed n s cells) ++ room_checks n (listed n s cells) room' p' p' sums')) a (go (at_once n (listed n s cells)) b)
    where
      go : (t : Bool) → refusal (cond t [] (bound_checks M n (listed n s cells) ++ room_checks n (listed n s cells) room p p sums)) ≡ none → refusal (cond t [] (bound_checks M n (listed n s cells) ++ room_checks n (listed n s cells) room' p' p' sums')) ≡ none
      go true b = refl
      go false b =
          let (x, y) = both_pass (bound_checks M n (listed n s cells)) (room_checks n (listed n s cells) room p p sums) b in
          still_pass (bound_checks M n (listed n s cells)) (room_checks n (listed n s cells) room' p' p' sums') x (rooms_pass n (listed n s cells) y)

  larger_rooms : (W C M n s : ℕ) (cells : List ℕ) (x : Counted) → Ok x ≡ dimension_answer W C M n s cells room p p sums → Ok x ≡ dimension_answer W C M n s cells room' p' p' sums'
  larger_rooms W C M n s cells = done_of (refusal (dimension_checks W C M n s cells room p p sums)) (refusal (dimension_checks W C M n s cells room' p' p' sums')) n (listed n s cells) (checks_pass W C M n s cells)

-- the call's own rooms hold more than rooms of these sizes
pub own_rooms : (k j i : ℕ) → k ≤ 16384 → j ≤ 4096 → i ≤ 4096 → (W C M n s : ℕ) (cells : List ℕ) (x : Counted)
    → Ok x ≡ dimension_answer W C M n s cells (replicate k 0) (replicate j (pos 0)) (replicate j (pos 0)) (replicate i 0)
    → Ok x ≡ dimension_answer W C M n s cells own_cells own_coefficients own_coefficients own_words
own_rooms k j i h g f =
    larger_rooms (replicate k 0) own_cells (replicate j (pos 0)) own_coefficients (replicate i 0) own_words
    (rw (length-replicate {A = ℕ} k 0, length-replicate {A = ℕ} 16384 0) h)
    (rw (length-replicate j (pos 0), length-replicate 4096 (pos 0)) g)
    (rw (length-replicate {A = ℕ} i 0, length-replicate {A = ℕ} 4096 0) f)

-- a dimension that is not refused

module _ (M n : ℕ) (L : List (List ℕ)) (rooms : List Check) (w : Width n L) (e : refusal (cond (at_once n L) [] (bound_checks M n L ++ rooms)) ≡ none) where
  bound_passes : unit_in L ≡ false → eqb n 0 ≡ false → (finite n L ≡ true) × (degree_bound n L ≤ M) × (powers_product n L < 2 ^ 127)
  bound_passes u z =
      let (d, g) = first_passes (no_dimension M n L, Dimension) ((leb (2 ^ 127) (powers_product n L), Value) ∷ []) (both_pass (bound_checks M n L) rooms (rw (u, z) at e)).0 in
      let (f, l) = or_none (finite n L) (ltb M (degree_bound n L)) d in
      (f, ltb-false M (degree_bound n L) l, leb-false (2 ^ 127) (powers_product n L) (first_passes (leb (2 ^ 127) (powers_product n L), Value) [] g).0)

  bounded : (dimension n L < 2 ^ 127) × (top_degree n L ≤ M)
  bounded = go (unit_in L) (eqb n 0) refl refl
    where
      go : (u z : Bool) → unit_in L ≡ u → eqb n 0 ≡ z → (dimension n L < 2 ^ 127) × (top_degree n L ≤ M)
      go true z h k = (rw (dimension_unit n L h) (lit< tt), rw h (omega arith))
      go false true h k =
          let i = eqb-true n 0 k in
          (rw i (rw (dimension_no_variables L h (rw i at w)) (lit< tt)), rw (h, i) (omega arith))
      go false false h k =
          let (f, l, s) = bound_passes h k in
          (dimension_lt n L f (2 ^ 127) s, rw h l)

module _ (W C M n s : ℕ) (cells room : List ℕ) (p q : List ℤ) (sums : List ℕ) (e : refusal (dimension_checks W C M n s cells room p q sums) ≡ none) where
  parts : (refusal (list_checks W C n s cells) ≡ none) × (refusal (cond (at_once n (listed n s cells)) [] (bound_checks M n (listed n s cells) ++ room_checks n (listed n s cells) room p q sums)) ≡ none)
  parts = both_pass (list_checks W C n s cells) (cond (at_once n (listed n s cells)) [] (bound_checks M n (listed n s cells) ++ room_checks n (listed n s cells) room p q sums)) e

  there : length cells ≡ s * n
  there =
      eqb-true (length cells) (s * n)
      (not-false (eqb (length cells) (s * n)) (first_passes (not_cells n s cells) [] (both_pass (too_wide W n ∷ too_many C s ∷ []) (not_cells n s cells ∷ []) parts.0).1).0)

  pub dimension_small : (dimension n (listed n s cells) < 2 ^ 127) × (top_degree n (listed n s cells) ≤ M)
  dimension_small = bounded M n (listed n s cells) (room_checks n (listed n s cells) room p q sums) (listed_width n s cells (omega (arith, there))) parts.1

-- the answer record that carries a record's answer

value_exact : (v : ℕ) → v < 2 ^ 127 → value (wide v) ≡ v
value_exact v h = pair_words (2 ^ 64) (lit< tt) v ∙ mod-eq_of_lt (lt_of_lt_of_le h (lit≤ tt))

number_there : (x : Refusal) → eqb (number x) 0 ≡ false
number_there TooWide = refl
number_there Count = refl
number_there Cells = refl
number_there Place = refl
number_there Exponent = refl
number_there Division = refl
number_there CellRoom = refl
number_there CoefficientRoom = refl
number_there SumRoom = refl
number_there Degree = refl
number_there Value = refl
number_there Record = refl
number_there Dimension = refl
number_there Output = refl
number_there Coefficient = refl

told_outcome : (o : Option Refusal) (n : ℕ) (L : List (List ℕ)) → told (dimension_is o n L) ≡ answer o tt
told_outcome none n L = refl
told_outcome (some x) n L = refl

told_bytes_lem : (o : Option Refusal) (n : ℕ) (L : List (List ℕ)) → (o ≡ none → dimension n L < 2 ^ 127) → told_bytes (dimension_is o n L) ≡ answer_of (status o) (dimension n L) (top_degree n L)
told_bytes_lem none n L h = ap (λ (x : ℕ). answer_of 0 x (top_degree n L)) (value_exact (dimension n L) (h refl))
told_bytes_lem (some x) n L h = rw (number_there x)

module _ (W C M : ℕ) (rec : List ℕ) where
  passed : refusal (not_record C rec ∷ record_checks W C M rec) ≡ none → (dimension (width_in rec) (list_in rec) < 2 ^ 127) × (top_degree (width_in rec) (list_in rec) ≤ M)
  passed e =
      dimension_small W C M (width_in rec) (count_in rec) (exponents_in rec) own_cells own_coefficients own_coefficients own_words
      (first_passes (not_record C rec) (record_checks W C M rec) e).1

  pub top_fits : M < 2 ^ 32 → IfOk (record_answer W C M rec) (λ counted. counted.top < 2 ^ 32)
  top_fits m = go (refusal (not_record C rec ∷ record_checks W C M rec)) refl
    where
      go : (o : Option Refusal) → refusal (not_record C rec ∷ record_checks W C M rec) ≡ o → IfOk (dimension_is o (width_in rec) (list_in rec)) (λ counted. counted.top < 2 ^ 32)
      go none e = lt_of_le_of_lt (passed e).1 m
      go (some x) e = tt

  module _ (S : ℕ) (out : List ℕ) where
    pub short_is : length out < S → (answer (some Output) tt ≡ host_answer W C M S rec out) × (out ≡ host_bytes W C M S rec out)
    short_is h = (
      ap (λ (t : Bool). answer (cond t (some Output) (refusal (not_record C rec ∷ record_checks W C M rec))) tt) (sym (lt-ltb (length out) S h)),
      ap (λ (t : Bool). after (cond t (some Output) none) (answer_of (host_number W C M S rec out) (dimension (width_in rec) (list_in rec)) (top_degree (width_in rec) (list_in rec)) ++ drop S out) out) (sym (lt-ltb (length out) S h)),
    )

    -- with room for the answer record 12 and the dimension's checks decide
    pub roomy : S ≤ length out → refusal (host_checks W C M S rec out) ≡ refusal (not_record C rec ∷ record_checks W C M rec)
    roomy h = ap (λ (t : Bool). cond t (some Output) (refusal (not_record C rec ∷ record_checks W C M rec))) (le-ltb (length out) S h)

    -- and it is written
    pub roomy_bytes : S ≤ length out → host_bytes W C M S rec out ≡ answer_of (host_number W C M S rec out) (dimension (width_in rec) (list_in rec)) (top_degree (width_in rec) (list_in rec)) ++ drop S out
    roomy_bytes h =
        ap (λ (t : Bool). after (cond t (some Output) none) (answer_of (host_number W C M S rec out) (dimension (width_in rec) (list_in rec)) (top_degree (width_in rec) (list_in rec)) ++ drop S out) out) (le-ltb (length out) S h)

    pub told_is : S ≤ length out → (r : Result ⊤ Refusal) (d : List ℕ) → r ≡ told (record_answer W C M rec) → d ≡ told_bytes (record_answer W C M rec) ++ drop S out
        → (r ≡ host_answer W C M S rec out) × (d ≡ host_bytes W C M S rec out)
    told_is h r d er ed = (
      er ∙ told_outcome (refusal (not_record C rec ∷ record_checks W C M rec)) (width_in rec) (list_in rec) ∙ ap (λ (o : Option Refusal). answer {A = ⊤} o tt) (sym (roomy h)),
      ed
          ∙ ap (λ (x : List ℕ). x ++ drop S out) (told_bytes_lem (refusal (not_record C rec ∷ record_checks W C M rec)) (width_in rec) (list_in rec) (λ e. (passed e).0))
          ∙ ap (λ (o : Option Refusal). answer_of (status o) (dimension (width_in rec) (list_in rec)) (top_degree (width_in rec) (list_in rec)) ++ drop S out) (sym (roomy h))
          ∙ sym (roomy_bytes h),
    )

-- the number of an answer

pub done_number : (o : Option Refusal) → Ok tt ≡ answer {A = ⊤} o tt → 0 ≡ status o
done_number none e = refl
done_number (some x) e = let z : ◌≡◌ {A = ℕ} 0 1 = cc in absurd (omega arith)

pub refused_number : (o : Option Refusal) (x : Refusal) → Err x ≡ answer {A = ⊤} o tt → number x ≡ status o
refused_number o x e = rw (err_refuses {A = ⊤} o tt x (sym e))

-- what was copied

module _ (C : ℕ) (rec cells : List ℕ) where
  -- a shape is a record's
  pub copied_shape : (s : Shape) → Ok s ≡ copy_answer C rec cells → (is_record C rec ≡ true) × (s.n ≡ width_in rec) × (s.m ≡ count_in rec) × (copy_cells C rec cells ≡ exponents_in rec ++ drop (count_in rec * width_in rec) cells)
  copied_shape s e =
      let own : Shape = record { n = width_in rec; m = count_in rec } in
      let k = ok_passes (refusal (copy_checks C rec cells)) own s (sym e) in
      let z = ok_value (refusal (copy_checks C rec cells)) own s (sym e) in
      (not-false (is_record C rec) (first_passes (not_record C rec) ((ltb (length cells) (count_in rec * width_in rec), Output) ∷ []) k).0, ap (λ (x : Shape). x.n) z, ap (λ (x : Shape). x.m) z, ap (λ (x : Option Refusal). after x (exponents_in rec ++ drop (count_in rec * width_in rec) cells) cells) k)

  -- with cells enough for every record only 12 is refused
  pub copied_refused : (x : Refusal) → Err x ≡ copy_answer C rec cells → (is_record C rec ≡ true → count_in rec * width_in rec ≤ length cells) → (is_record C rec ≡ false) × (x ≡ Record)
  copied_refused x e l = go (is_record C rec) refl
    where
      own : Shape
      own = record { n = width_in rec; m = count_in rec }

      refused : refusal (copy_checks C rec cells) ≡ some x
      refused = err_refuses (refusal (copy_checks C rec cells)) own x (sym e)

      go : (t : Bool) → is_record C rec ≡ t → (t ≡ false) × (x ≡ Record)
      go true k = let y = copy_passes C rec cells k (l k) in let z : ◌≡◌ {A = ℕ} 0 1 = cc (sym y ∙ refused) in absurd (omega arith)
      go false k = let y = copy_none C rec cells k in (refl, cc (sym refused ∙ y))

-- all exponents of a record find room in so many cells
pub record_area : (rec : List ℕ) → are_bytes rec ≡ true → is_record 60 rec ≡ true → count_in rec * width_in rec ≤ 15300
record_area rec h e =
    area (count_in rec) (width_in rec) ((record_tests 60 rec h).0 e).few (omega (arith, byte_at rec 5 h))

-- and in ample cells
pub record_fits : (rec cells : List ℕ) → are_bytes rec ≡ true → Ample rec cells → is_record 60 rec ≡ true → count_in rec * width_in rec ≤ length cells
record_fits rec cells h a e = header_fits rec cells h a (record_header 60 rec h e)

-- the dimension of what was copied

module _ (W C M : ℕ) (rec : List ℕ) where
  pub record_dimension : (n m : ℕ) (cells : List ℕ) (r : Result Counted Refusal) → is_record C rec ≡ true → n ≡ width_in rec → m ≡ count_in rec → cells ≡ exponents_in rec
      → r ≡ dimension_answer W C M n m cells own_cells own_coefficients own_coefficients own_words → r ≡ record_answer W C M rec
  record_dimension n m cells r t en em ec e =
      e
      ∙ ap (λ (x : ℕ). dimension_answer W C M x m cells own_cells own_coefficients own_coefficients own_words) en
      ∙ ap (λ (x : ℕ). dimension_answer W C M (width_in rec) x cells own_cells own_coefficients own_coefficients own_words) em
      ∙ ap (λ (x : List ℕ). dimension_answer W C M (width_in rec) (count_in rec) x own_cells own_coefficients own_coefficients own_words) ec
      ∙ ap (λ (o : Option Refusal). dimension_is o (width_in rec) (list_in rec)) (sym (a_record C rec (record_checks W C M rec) t))

  pub no_record_dimension : (x : Refusal) (r : Result Counted Refusal) → is_record C rec ≡ false → x ≡ Record → r ≡ Err x → r ≡ record_answer W C M rec
  no_record_dimension x r t e f =
      f
      ∙ ap (λ (y : Refusal). Err y) e
      ∙ ap (λ (o : Option Refusal). dimension_is o (width_in rec) (list_in rec)) (sym (no_record C rec (record_checks W C M rec) t))
