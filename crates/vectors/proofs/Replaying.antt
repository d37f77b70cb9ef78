-- A text of cases, line by line.
--   replays_case, replays_comment  what the line at a place does
--   replay_more                    what follows from the lines from a place on follows from those after its line
--   OneAnswer, counts_determined   where no case is answered in two ways, a text makes one thing of the counts
--   taken                          what is read of an input
-- Assumes nothing.
use Rattle.std.proofs.Common.{◌≡◌, ◌≢◌, ℕ, ◌<◌, ◌≤◌, eqb, leb, ◌⊎◌, inl, inr, Bool, true, false, List, [], ◌∷◌, ◌++◌, Option, None, Some, length, take, refl, sym, ap, ap₂, ◌∙◌, subst, arith, append-nil, take_all, leb-true, leb-false}
use Rattle.std.proofs.lemmas.Bool.Decides.{eqb_tells}
use Rattle.std.proofs.Math.Seq.{take-append_seam}
use Rattle.std.specs.List.{FoldsTo}
use Rattle.std.specs.Io.KnownBytes.{Consumes, IsAtEnd}
use Rattle.vectors.specs.Text.{integer_at, line_after}
use Rattle.vectors.specs.Replay.{AreLines, counted, ReadFrom, Replays}
use Rattle.vectors.specs.declared.reader.Reader.{Reader}
use Rattle.vectors.specs.declared.Integer.{Integer}

module _ (Says : ℕ → ℕ → Option Bool → Type 0) (s : List ℕ) (at : ℕ) (p q : List ℕ × ℕ) (code : Integer) (is : code ≡ integer_at s at) where
  abbrev Does : Integer → Type 0
  Does i = (i.magnitude ≡ 0 → q ≡ p) × (i.magnitude ≢ 0 → (says : Option Bool) × Says i.magnitude i.next says × (q ≡ counted i.magnitude says p))

  pub replays_case : (says : Option Bool) → code.magnitude ≢ 0 → Says code.magnitude code.next says → q ≡ counted code.magnitude says p → Replays s Says p at q
  replays_case says h said e = subst Does is ((λ z. absurd (h z)), (λ n. (says, said, e)))

  pub replays_comment : code.magnitude ≡ 0 → q ≡ p → Replays s Says p at q
  replays_comment h e = subst Does is ((λ z. e), (λ n. absurd (n h)))

pub replay_more : (R : List ℕ × ℕ → ℕ → List ℕ × ℕ → Type 0) {Out : List ℕ × ℕ → Type 0} (s : List ℕ) (at next : ℕ) (p p' : List ℕ × ℕ)
    → ((lines : List ℕ) (q : List ℕ × ℕ) → AreLines s at lines → FoldsTo R p lines q → Out q) → at < length s → next ≡ line_after s at → R p at p'
    → (lines : List ℕ) (q : List ℕ × ℕ) → AreLines s next lines → FoldsTo R p' lines q → Out q
replay_more R s at next p p' inv h e step lines q lined folded = inv (at ∷ lines) q (refl, h, subst (λ (n : ℕ). AreLines s n lines) e lined) (p', step, folded)

-- no case is answered in two ways
abbrev pub OneAnswer : (ℕ → Reader → Option Bool → Type 0) → Type 0
OneAnswer Says =
    (code : ℕ) (case case' : Reader) (r r' : Option Bool) → case.text.now ≡ case'.text.now → case.at ≡ case'.at → Says code case r → Says code case' r' → r ≡ r'

lines_determined : (s : List ℕ) (at : ℕ) (xs ys : List ℕ) → AreLines s at xs → AreLines s at ys → xs ≡ ys
lines_determined s at [] [] p q = refl
lines_determined s at [] (y ∷ ys) p q = absurd (omega (arith, p, q.1))
lines_determined s at (x ∷ xs) [] p q = absurd (omega (arith, q, p.1))
lines_determined s at (x ∷ xs) (y ∷ ys) p q = ap₂ (λ (z : ℕ) (zs : List ℕ). z ∷ zs) (p.0 ∙ sym q.0) (lines_determined s (line_after s at) xs ys p.2 q.2)

module _ (Says : ℕ → Reader → Option Bool → Type 0) (one : OneAnswer Says) (s : List ℕ) where
  read_determined : (code at : ℕ) (r r' : Option Bool) → ReadFrom s Says code at r → ReadFrom s Says code at r' → r ≡ r'
  read_determined code at r r' p q = one code p.0 q.0 r r' (p.1 ∙ sym q.1) (p.2 ∙ sym q.2) p.3 q.3

  line_determined : (p : List ℕ × ℕ) (at : ℕ) (q q' : List ℕ × ℕ) → Replays s (ReadFrom s Says) p at q → Replays s (ReadFrom s Says) p at q' → q ≡ q'
  line_determined p at q q' x y = go (eqb_tells (integer_at s at).magnitude 0)
    where
      case : (integer_at s at).magnitude ≢ 0 → q ≡ q'
      case h =
          let a = x.1 h in
          let b = y.1 h in
          a.2 ∙ ap (λ (says : Option Bool). counted (integer_at s at).magnitude says p) (read_determined (integer_at s at).magnitude (integer_at s at).next a.0 b.0 a.1 b.1) ∙ sym b.2

      go : ((eqb (integer_at s at).magnitude 0 ≡ true) × ((integer_at s at).magnitude ≡ 0)) ⊎ ((eqb (integer_at s at).magnitude 0 ≡ false) × ((integer_at s at).magnitude ≢ 0)) → q ≡ q'
      go (inl h) = x.0 h.1 ∙ sym (y.0 h.1)
      go (inr h) = case h.1

  folds_determined : (p : List ℕ × ℕ) (lines : List ℕ) (q q' : List ℕ × ℕ) → FoldsTo (Replays s (ReadFrom s Says)) p lines q → FoldsTo (Replays s (ReadFrom s Says)) p lines q' → q ≡ q'
  folds_determined p [] q q' x y = sym x ∙ y
  folds_determined p (at ∷ lines) q q' x y =
      folds_determined x.0 lines q q' x.2 (subst (λ (j : List ℕ × ℕ). FoldsTo (Replays s (ReadFrom s Says)) j lines q') (sym (line_determined p at x.0 y.0 x.1 y.1)) y.2)

  -- what a text makes of the counts
  pub counts_determined : (p q q' : List ℕ × ℕ) → ((lines : List ℕ) × AreLines s 0 lines × FoldsTo (Replays s (ReadFrom s Says)) p lines q)
      → ((lines : List ℕ) × AreLines s 0 lines × FoldsTo (Replays s (ReadFrom s Says)) p lines q') → q ≡ q'
  counts_determined p q q' x y =
      folds_determined p x.0 q q' x.2 (subst (λ (lines : List ℕ). FoldsTo (Replays s (ReadFrom s Says)) p lines q') (sym (lines_determined s 0 x.0 y.0 x.1 y.1)) y.2)

-- what is read of an input: as much as there is, up to k bytes
taken_first : (k : ℕ) (bytes text rest : List ℕ) → bytes ≡ text ++ rest → length text ≤ k → (length text < k → rest ≡ []) → text ≡ take k bytes
taken_first k bytes text rest e h end = go (leb k (length text)) refl
  where
    go : (t : Bool) → leb k (length text) ≡ t → text ≡ take k bytes
    go true w =
        let same : k ≡ length text = omega (arith, h, leb-true k (length text) w) in
        rw (e, same) (sym (take-append_seam text rest))
    go false w =
        let all : bytes ≡ text = e ∙ ap (λ (xs : List ℕ). text ++ xs) (end (leb-false k (length text) w)) ∙ append-nil text in
        rw all (sym (take_all k text h))

pub taken : (k : ℕ) (bytes text : List ℕ) (old new : Option (List ℕ)) → old ≡ Some bytes → Consumes old new text → length text ≤ k → (length text < k → IsAtEnd new) → text ≡ take k bytes
taken k bytes text old new e consumed h end = go new (subst (λ (o : Option (List ℕ)). Consumes o new text) e consumed) end
  where
    go : (left : Option (List ℕ)) → Consumes (Some bytes) left text → (length text < k → IsAtEnd left) → text ≡ take k bytes
    go None c at_end = absurd c
    go (Some rest) c at_end = taken_first k bytes text rest c h at_end
