-- Bytes that are longer than every record. The program `dim` reads one byte more than the longest record has and no further: what it answers is
-- the answer to its whole input.
--   no_record_bytes   to bytes that are no record the answer is 12
--   too_long          bytes longer than the longest record of at most C monomials are none
--   cut_input         the first k bytes of an input are answered as the whole, where k is more than the longest record has
-- Assumes nothing.
use mathlib.Core.Path.{◌≡◌, refl, sym, ap, ◌∙◌}
use mathlib.Core.Bool.{Bool, true, false, cond}
use mathlib.Core.List.{List, ◌++◌}
use mathlib.Core.Option.{Option, none, some}
use Prim.Native.Nat.{ℕ, ◌+◌, ◌*◌, ◌≤◌, ◌<◌}
use native.Mathlib.Omega.{arith}
use native.Mathlib.Nat.{mul-le-mul}
use lib.Dec.{ltb}
use lib.ListN.{length, take, drop, length-take}
use lib.Seq.{take_all}
use lib.Pow.{are_bytes}
use borrow.Author.Tests.{ltb-true, ltb-false}
use Rattle.laws.specs.Dimension.{dimension, top_degree}
use Rattle.laws.specs.Record.{is_record, list_in, width_in}
use Rattle.laws.proofs.Reading.{byte_at, bytes_take, record_tests}
use Rattle.monomials.specs.Refusal.{after}
use Rattle.monomials.specs.declared.refusal.Refusal.{Refusal}
use Rattle.monomials.specs.declared.refusal.Refusal.TheVariants.{Output, Record}
use Rattle.records.specs.Answer.{answer_of, answer_bytes}
use Rattle.records.specs.Host.{record_checks, status, host_bytes}
use Rattle.records.proofs.Answers.{no_record}

pub no_record_bytes : (W C M S : ℕ) (rec out : List ℕ) → is_record C rec ≡ false → host_bytes W C M S rec out ≡ answer_bytes S 12 0 0 out
no_record_bytes W C M S rec out e =
    ap (λ (o : Option Refusal). answer_bytes S (status (cond (ltb (length out) S) (some Output) o)) (dimension (width_in rec) (list_in rec)) (top_degree (width_in rec) (list_in rec)) out) (no_record C rec (record_checks W C M rec) e)
    ∙ go (ltb (length out) S)
  where
    go : (t : Bool) → after (cond t (some Output) none) (answer_of (status (cond t (some Output) (some Record))) (dimension (width_in rec) (list_in rec)) (top_degree (width_in rec) (list_in rec)) ++ drop S out) out
        ≡ after (cond t (some Output) none) (answer_of 12 0 0 ++ drop S out) out
    go true = refl
    go false = refl

pub too_long : (C : ℕ) (bytes : List ℕ) → are_bytes bytes ≡ true → 7 + 2 * (C * 255) < length bytes → is_record C bytes ≡ false
too_long C bytes h l = go (is_record C bytes) refl
  where
    go : (t : Bool) → is_record C bytes ≡ t → t ≡ false
    go true e =
        let t = (record_tests C bytes h).0 e in
        let w : width_in bytes ≤ 255 = omega (arith, byte_at bytes 5 h) in
        absurd (omega (arith, t.total, mul-le-mul t.few w))
    go false e = refl

pub cut_input : (W C M S k : ℕ) (rec out : List ℕ) → are_bytes rec ≡ true → 7 + 2 * (C * 255) < k → host_bytes W C M S (take k rec) out ≡ host_bytes W C M S rec out
cut_input W C M S k rec out h l = go (ltb k (length rec)) refl
  where
    go : (t : Bool) → ltb k (length rec) ≡ t → host_bytes W C M S (take k rec) out ≡ host_bytes W C M S rec out
    go true e =
        let g : k < length rec = ltb-true k (length rec) e in
        no_record_bytes W C M S (take k rec) out (too_long C (take k rec) (bytes_take k rec h) (omega (arith, length-take k rec)))
        ∙ sym (no_record_bytes W C M S rec out (too_long C rec h (omega arith)))
    go false e = ap (λ (l : List ℕ). host_bytes W C M S l out) (take_all k rec (ltb-false k (length rec) e))
