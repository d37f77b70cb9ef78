-- Which statuses stand in an answer record that the host call writes. A record that is taken has a width that fits a byte, at most C
-- monomials and all their exponents, so 1, 2 and 3 are never met; and 14 writes no record.
--   is_status k       == k is 0, 7, 8, 9, 11, 12 or 13
--   Never k          == k is none of 1, 2, 3 and 14
--   status_written   in an output with room for it, byte 5 of the answer record is the call's number
--   status_is        which is 0, 7, 8, 9, 11, 12 or 13
--   status_never     and so none of 1, 2, 3 and 14
-- Assumes nothing.
use mathlib.Core.Path.{◌≡◌, refl, sym, ap, ◌∙◌}
use mathlib.Core.Logic.{◌≢◌}
use mathlib.Core.Bool.{Bool, true, false, ◌||◌, cond, false≢true}
use mathlib.Core.List.{List, [], ◌∷◌, ◌++◌}
use mathlib.Core.Option.{Option, some}
use Prim.Native.Nat.{ℕ, ◌*◌, ◌≤◌}
use native.Mathlib.Omega.{arith}
use lib.Dec.{eqb}
use lib.ListN.{length, get_or, drop, length-drop}
use lib.Pow.{are_bytes}
use borrow.Author.Tests.{le-ltb, eq-eqb, eqb-true}
use Rattle.laws.specs.Dimension.{dimension, top_degree}
use Rattle.laws.specs.Record.{answer_record, is_record, exponents_in, list_in, width_in, count_in}
use Rattle.laws.proofs.Reading.{byte_at, cells_in_length, record_tests}
use Rattle.monomials.specs.Refusal.{Check, refusal, number}
use Rattle.monomials.specs.declared.refusal.Refusal.{Refusal}
use Rattle.numbers.specs.Numerator.{list_checks}
use Rattle.numbers.specs.Dimension.{at_once, bound_checks, room_checks}
use Rattle.records.specs.Answer.{answer_of}
use Rattle.records.specs.Ideal.{not_record}
use Rattle.records.specs.Host.{own_cells, own_coefficients, own_words, record_checks, status, host_number, host_bytes}
use Rattle.records.proofs.Answers.{a_record, no_record}
use Rattle.records.proofs.HostCall.{roomy, roomy_bytes}

abbrev pub is_status : ℕ → Bool
is_status k = eqb k 0 || (eqb k 7 || (eqb k 8 || (eqb k 9 || (eqb k 11 || (eqb k 12 || eqb k 13)))))

abbrev pub Never : ℕ → Type 0
Never k = (k ≢ 1) × (k ≢ 2) × (k ≢ 3) × (k ≢ 14)

-- checks that ask for such refusals alone

abbrev Asks : List Check → Type 0
Asks [] = Unit {0}
Asks (c ∷ cs) = (is_status (number c.1) ≡ true) × Asks cs

asked_first : (t : Bool) (x : Refusal) (o : Option Refusal) → is_status (number x) ≡ true → is_status (status o) ≡ true → is_status (status (cond t (some x) o)) ≡ true
asked_first true x o a b = a
asked_first false x o a b = b

asked : (cs : List Check) → Asks cs → is_status (status (refusal cs)) ≡ true
asked [] a = refl
asked (c ∷ cs) a = asked_first c.0 c.1 (refusal cs) a.0 (asked cs a.1)

-- the checks of a list pass where its width, count and cells are right
list_passes : (W C n s : ℕ) (cells : List ℕ) (cs : List Check) → n ≤ W → s ≤ C → length cells ≡ s * n → refusal (list_checks W C n s cells ++ cs) ≡ refusal cs
list_passes W C n s cells cs h g f = rw (le-ltb W n h, le-ltb C s g, eq-eqb (length cells) (s * n) f)

module _ (W C M : ℕ) (rec : List ℕ) (bytes : are_bytes rec ≡ true) (w : 255 ≤ W) where
  -- the checks of a record that are left when those of its list have passed
  abbrev left : Bool → List Check
  left t = cond t [] (bound_checks M (width_in rec) (list_in rec) ++ room_checks (width_in rec) (list_in rec) own_cells own_coefficients own_coefficients own_words)

  left_asked : (t : Bool) → is_status (status (refusal (left t))) ≡ true
  left_asked true = refl
  left_asked false = asked (left false) (refl, (refl, (refl, (refl, (refl, tt)))))

  taken : is_record C rec ≡ true → is_status (status (refusal (record_checks W C M rec))) ≡ true
  taken e =
      let t = (record_tests C rec bytes).0 e in
      let l : length (exponents_in rec) ≡ count_in rec * width_in rec = cells_in_length (drop 7 rec) ∙ omega (arith, length-drop 7 rec, t.total) in
      ap (λ (o : Option Refusal). is_status (status o)) (list_passes W C (width_in rec) (count_in rec) (exponents_in rec) (left (at_once (width_in rec) (list_in rec))) (omega (arith, byte_at rec 5 bytes)) t.few l)
      ∙ left_asked (at_once (width_in rec) (list_in rec))

  number_is : is_status (status (refusal (not_record C rec ∷ record_checks W C M rec))) ≡ true
  number_is = go (is_record C rec) refl
    where
      go : (t : Bool) → is_record C rec ≡ t → is_status (status (refusal (not_record C rec ∷ record_checks W C M rec))) ≡ true
      go true e = ap (λ (o : Option Refusal). is_status (status o)) (a_record C rec (record_checks W C M rec) e) ∙ taken e
      go false e = ap (λ (o : Option Refusal). is_status (status o)) (no_record C rec (record_checks W C M rec) e)

-- byte 5 of an answer record
status_at : (k x t : ℕ) (rest : List ℕ) → get_or (answer_of k x t ++ rest) 5 0 ≡ k
status_at k x t rest = go (eqb k 0) refl
  where
    go : (b : Bool) → eqb k 0 ≡ b → get_or (cond b (answer_record 0 x t) (answer_record k 0 0) ++ rest) 5 0 ≡ k
    go true e = sym (eqb-true k 0 e)
    go false e = refl

is_never : (k : ℕ) → is_status k ≡ true → Never k
is_never k h = (never 1 refl, never 2 refl, never 3 refl, never 14 refl)
  where
    never : (j : ℕ) → is_status j ≡ false → k ≢ j
    never j f e = false≢true (sym f ∙ ap is_status (sym e) ∙ h)

module _ (W C M S : ℕ) (rec out : List ℕ) (room : S ≤ length out) where
  pub status_written : get_or (host_bytes W C M S rec out) 5 0 ≡ host_number W C M S rec out
  status_written =
      ap (λ (l : List ℕ). get_or l 5 0) (roomy_bytes W C M rec S out room)
      ∙ status_at (host_number W C M S rec out) (dimension (width_in rec) (list_in rec)) (top_degree (width_in rec) (list_in rec)) (drop S out)

  module _ (bytes : are_bytes rec ≡ true) (w : 255 ≤ W) where
    pub status_is : is_status (get_or (host_bytes W C M S rec out) 5 0) ≡ true
    status_is =
        ap is_status status_written
        ∙ ap (λ (o : Option Refusal). is_status (status o)) (roomy W C M rec S out room)
        ∙ number_is W C M rec bytes w

    pub status_never : Never (get_or (host_bytes W C M S rec out) 5 0)
    status_never = is_never (get_or (host_bytes W C M S rec out) 5 0) status_is
