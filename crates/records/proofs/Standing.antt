-- What a reader tests, as the tests that its private functions answer.
--   stands_iff        a list stands exactly when each member is greater than the next and divided by no later one
--   all_stand         the same for the places from j on, each asked for itself
--   header_short      bytes too short for a header have none that stands
--   record_stands     bytes are a record exactly when their header and their list stand
--   record_list_stands, record_header_falls, record_header   the header first, then the list
--   header_few, header_total   what a header that stands says
--   header_fits       as many exponents as it says have room in ample cells
--   copied_front   the cells that were copied
-- Assumes nothing.
use mathlib.Core.Path.{◌≡◌, refl, sym, ap, ap₂, ◌∙◌}
use mathlib.Core.Logic.{◌↔◌, inl, inr}
use mathlib.Core.Bool.{Bool, true, false, not, ◌&&◌}
use mathlib.Core.List.{List, [], ◌∷◌, ◌++◌}
use Prim.Native.Nat.{ℕ, zero, suc, ◌+◌, ◌*◌, ◌-◌, ◌≤◌, ◌<◌, Ordering}
use native.Mathlib.Omega.{arith}
use lib.Dec.{leb, eqb}
use lib.ListN.{length, get_or, take, drop, length-drop}
use lib.Seq.{take_at}
use lib.Pow.{are_bytes}
use borrow.Author.Tests.{eqb-true, eq-eqb, ne_eqb, leb-true, le-leb, not-true as not_passed}
use Rattle.laws.specs.Ideal.{listed, multiple}
use Rattle.laws.specs.Order.{degrevlex}
use Rattle.laws.specs.Record.{value, is_record, exponents_in, list_in, width_in, count_in}
use Rattle.laws.proofs.Monomial.{and_left, and_right, bool_ext}
use Rattle.laws.proofs.Minimal.{Chain, Undivided}
use Rattle.laws.proofs.Reading.{byte_at, cells_in_length, record_tests}
use Rattle.records.specs.Rows.{row, is_greater, above, stands, header_stands, Ample}
use Rattle.std.specs.List.{list_all, range_with_len}
use Rattle.records.proofs.Cells.{listed_next, listed_end, area}

greater_is : (o : Ordering) → is_greater o ≡ true → o ≡ Ordering.gt
greater_is Ordering.lt h = cc
greater_is Ordering.eq h = cc
greater_is Ordering.gt h = refl

stands_chain : (L : List (List ℕ)) → stands L ≡ true → Chain L × Undivided L
stands_chain [] h = (tt, tt)
stands_chain (a ∷ []) h = (tt, (refl, tt))
stands_chain (a ∷ b ∷ L) h =
    let rest = not (multiple (b ∷ L) a) && stands (b ∷ L) in
    let r : rest ≡ true = and_right (above a (b ∷ L)) rest h in
    let t = stands_chain (b ∷ L) (and_right (not (multiple (b ∷ L) a)) (stands (b ∷ L)) r) in
    ((greater_is (degrevlex a b) (and_left (above a (b ∷ L)) rest h), t.0), (not_passed (multiple (b ∷ L) a) (and_left (not (multiple (b ∷ L) a)) (stands (b ∷ L)) r), t.1))

chain_stands : (L : List (List ℕ)) → Chain L → Undivided L → stands L ≡ true
chain_stands [] c u = refl
chain_stands (a ∷ []) c u = refl
chain_stands (a ∷ b ∷ L) c u = ap₂ ◌&&◌ (ap is_greater c.0) (ap₂ ◌&&◌ (ap not u.0) (chain_stands (b ∷ L) c.1 u.1))

-- the two tests of a list in one
pub stands_iff : (L : List (List ℕ)) → (stands L ≡ true) ↔ (Chain L × Undivided L)
stands_iff L = (stands_chain L, λ h. chain_stands L h.0 h.1)

and_assoc : (a b c : Bool) → ((a && b) && c) ≡ (a && (b && c))
and_assoc true b c = refl
and_assoc false b c = refl

-- the places from j on, each asked for itself
pub all_stand : (n m : ℕ) (cells : List ℕ) (k j : ℕ) → j + k ≡ m
    → list_all (λ i. above (row n cells i) (drop (i + 1) (listed n m cells)) && not (multiple (drop (i + 1) (listed n m cells)) (row n cells i))) (range_with_len j k) ≡ stands (drop j (listed n m cells))
all_stand n m cells zero j e = sym (ap stands (listed_end n m j cells (omega arith)))
all_stand n m cells (suc k) j e =
    let a = above (row n cells j) (drop (j + 1) (listed n m cells)) in
    let b = not (multiple (drop (j + 1) (listed n m cells)) (row n cells j)) in
    ap (λ (t : Bool). (a && b) && t) (all_stand n m cells k (j + 1) (omega arith))
    ∙ and_assoc a b (stands (drop (j + 1) (listed n m cells)))
    ∙ sym (ap stands (listed_next n m j cells (omega arith)))

and_false : (b : Bool) → (b && false) ≡ false
and_false true = refl
and_false false = refl

-- seven bytes at least
pub header_short : (C : ℕ) (bytes : List ℕ) → length bytes < 7 → header_stands C bytes ≡ false
header_short C bytes h =
    rw (ne_eqb (length bytes) (7 + 2 * (count_in bytes * width_in bytes)) (λ e. omega arith), and_false (leb (count_in bytes) C), and_false (eqb (value (take 4 (drop 1 bytes))) (length bytes - 5)))
    (and_false (eqb (get_or bytes 0 0) 1))

module _ (C : ℕ) (bytes : List ℕ) (h : are_bytes bytes ≡ true) where
  stands_record : (header_stands C bytes && stands (list_in bytes)) ≡ true → is_record C bytes ≡ true
  stands_record e =
      let v = eqb (get_or bytes 0 0) 1 in
      let f = eqb (value (take 4 (drop 1 bytes))) (length bytes - 5) in
      let k = leb (count_in bytes) C in
      let t = eqb (length bytes) (7 + 2 * (count_in bytes * width_in bytes)) in
      let p : (v && (f && (k && t))) ≡ true = and_left (header_stands C bytes) (stands (list_in bytes)) e in
      let q : (f && (k && t)) ≡ true = and_right v (f && (k && t)) p in
      let r : (k && t) ≡ true = and_right f (k && t) q in
      let s = stands_chain (list_in bytes) (and_right (header_stands C bytes) (stands (list_in bytes)) e) in
      (record_tests C bytes h).1 (record {
        version = eqb-true (get_or bytes 0 0) 1 (and_left v (f && (k && t)) p);
        field = eqb-true (value (take 4 (drop 1 bytes))) (length bytes - 5) (and_left f (k && t) q);
        few = leb-true (count_in bytes) C (and_left k t r);
        total = eqb-true (length bytes) (7 + 2 * (count_in bytes * width_in bytes)) (and_right k t r);
        chain = s.0;
        undivided = s.1;
      })

  record_holds : is_record C bytes ≡ true → (header_stands C bytes && stands (list_in bytes)) ≡ true
  record_holds e =
      let t = (record_tests C bytes h).0 e in
      ap₂ ◌&&◌
      (ap₂ ◌&&◌ (eq-eqb (get_or bytes 0 0) 1 t.version)
      (ap₂ ◌&&◌ (eq-eqb (value (take 4 (drop 1 bytes))) (length bytes - 5) t.field)
      (ap₂ ◌&&◌ (le-leb (count_in bytes) C t.few) (eq-eqb (length bytes) (7 + 2 * (count_in bytes * width_in bytes)) t.total))))
      (chain_stands (list_in bytes) t.chain t.undivided)

  -- so a record is known by its header and its list
  pub record_stands : is_record C bytes ≡ (header_stands C bytes && stands (list_in bytes))
  record_stands = bool_ext (is_record C bytes) (header_stands C bytes && stands (list_in bytes)) record_holds stands_record

  -- the list decides where the header stands
  pub record_list_stands : header_stands C bytes ≡ true → stands (list_in bytes) ≡ is_record C bytes
  record_list_stands e = sym (record_stands ∙ ap (λ (t : Bool). t && stands (list_in bytes)) e)

  -- and bytes whose header does not stand are no record
  pub record_header_falls : header_stands C bytes ≡ false → false ≡ is_record C bytes
  record_header_falls e = sym (record_stands ∙ ap (λ (t : Bool). t && stands (list_in bytes)) e)

  pub record_header : is_record C bytes ≡ true → header_stands C bytes ≡ true
  record_header e = and_left (header_stands C bytes) (stands (list_in bytes)) (record_holds e)

-- what a header that stands says

module _ (C : ℕ) (bytes : List ℕ) (h : header_stands C bytes ≡ true) where
  counted : (leb (count_in bytes) C && eqb (length bytes) (7 + 2 * (count_in bytes * width_in bytes))) ≡ true
  counted =
      let f = eqb (value (take 4 (drop 1 bytes))) (length bytes - 5) in
      let r = leb (count_in bytes) C && eqb (length bytes) (7 + 2 * (count_in bytes * width_in bytes)) in
      and_right f r (and_right (eqb (get_or bytes 0 0) 1) (f && r) h)

  pub header_few : count_in bytes ≤ C
  header_few = leb-true (count_in bytes) C (and_left (leb (count_in bytes) C) (eqb (length bytes) (7 + 2 * (count_in bytes * width_in bytes))) counted)

  pub header_total : length bytes ≡ 7 + 2 * (count_in bytes * width_in bytes)
  header_total =
      eqb-true (length bytes) (7 + 2 * (count_in bytes * width_in bytes))
      (and_right (leb (count_in bytes) C) (eqb (length bytes) (7 + 2 * (count_in bytes * width_in bytes))) counted)

pub header_fits : (rec cells : List ℕ) → are_bytes rec ≡ true → Ample rec cells → header_stands 60 rec ≡ true → count_in rec * width_in rec ≤ length cells
header_fits rec cells b (inl l) h =
    omega (arith, area (count_in rec) (width_in rec) (header_few 60 rec h) (omega (arith, byte_at rec 5 b)), l)
header_fits rec cells b (inr l) h = omega (arith, header_total 60 rec h, l)

-- the cells that were copied, whatever stands behind them
pub copied_front : (count : ℕ) (bytes d cells : List ℕ) → length bytes ≡ 7 + 2 * count → cells ≡ exponents_in bytes ++ d → take count cells ≡ exponents_in bytes
copied_front count bytes d cells h e = rw e (take_at (exponents_in bytes) d count (cells_in_length (drop 7 bytes) ∙ omega (arith, length-drop 7 bytes)))
