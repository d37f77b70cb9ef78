-- Sums of coefficients modulo 2^64.
--   low z                    == z modulo 2^64
--   Words s                  == each coefficient of s is a signed word
--   AddedTo f out new        == new is out with the polynomial f added, modulo 2^64, and as long
--   Zeros s                  == each coefficient of s is 0
--   Timed a c₀ c             == c is c₀ times 1 − t^a, modulo 2^64, and as long; Timing: from the coefficient k on
--   Adding s f out k new     == new is out with t^s · f added below the coefficient k
--   Running f out g new      == new with g still to be added is out with f added
-- In this file: low of sums and differences, and that it decides where both fit; the steps and ends of the loops.
use mathlib.Core.Path.{◌≡◌, refl, sym, ap, ap₂, ◌∙◌}
use mathlib.Core.Bool.{Bool, true, false}
use mathlib.Core.List.{List, ◌++◌}
use Prim.Native.Nat.{ℕ, zero, suc, ◌+◌, ◌-◌, ◌≤◌, ◌<◌, ◌^◌}
use native.Mathlib.Omega.{arith}
use lib.Dec.{ltb, eqb}
use lib.ListN.{length, set, length-set, take, drop, get_or-eq_default, get_or-append}
use lib.Seq.{get_or-set_same, get_or-set_other, set_out, get_or-drop, get_or-append-add}
use lib.IntN.{ℤ, pos, ◌+ℤ◌, ◌-ℤ◌, +ℤ_idr, +ℤ_assoc}
use borrow.Author.Tests.{ltb-true, ltb-false, eqb-true, eqb-false}
use mir.Val.{SFits}
use mir.Syntax.{w64}
use Rattle.laws.specs.Coefficients.{coefficient, shift}
use Rattle.laws.specs.Word.{residue, wrap}
use Rattle.laws.proofs.Lists.{take_constant}
use Rattle.laws.proofs.Coefficients.{shift_below, shift_at}
use Rattle.laws.proofs.Word.{residue_cong_add, residue_cong_sub, wrap_residue, wrap_fits, signed_exact}

unfoldable pub low : ℤ → ℕ
low z = residue (2 ^ 64) z

pub low_add : (a b c d : ℤ) → low a ≡ low c → low b ≡ low d → low (a +ℤ b) ≡ low (c +ℤ d)
unfolding low
low_add a b c d p q = residue_cong_add (2 ^ 64) (omega arith) a c b d p q

pub low_sub : (a b c d : ℤ) → low a ≡ low c → low b ≡ low d → low (a -ℤ b) ≡ low (c -ℤ d)
unfolding low
low_sub a b c d p q = residue_cong_sub (2 ^ 64) (omega arith) a c b d p q

pub low_wrap : (z : ℤ) → low (wrap (2 ^ 64) z) ≡ low z
unfolding low
low_wrap z = wrap_residue (2 ^ 64) (omega arith) z

-- where both fit a signed word they are equal
pub low_exact : (a b : ℤ) → SFits w64 a → SFits w64 b → low a ≡ low b → a ≡ b
unfolding low
low_exact a b f g e = signed_exact (2 ^ 64) (2 ^ 63) (omega arith) a b f.sfits g.sfits e

pub low_shift : (s n : ℕ) (f g : ℕ → ℤ) → ((j : ℕ) → j < n → low (f j) ≡ low (g j)) → (k : ℕ) → k < n → low (shift s f k) ≡ low (shift s g k)
low_shift zero n f g h k l = h k l
low_shift (suc s) n f g h zero l = refl
low_shift (suc s) n f g h (suc k) l = low_shift s n f g h k (omega arith)

-- each is a signed word
abbrev pub Words : List ℤ → Type 0
Words s = (k : ℕ) → SFits w64 (coefficient s k)

set_words : (s : List ℤ) (i : ℕ) (v : ℤ) → SFits w64 v → Words s → Words (set s i v)
set_words s i v f g k = go (eqb k i) (ltb i (length s)) refl refl
  where
    go : (t r : Bool) → eqb k i ≡ t → ltb i (length s) ≡ r → SFits w64 (coefficient (set s i v) k)
    go true true p q = let e : k ≡ i = eqb-true k i p in rw (e, get_or-set_same s i v (pos 0) (ltb-true i (length s) q)) f
    go true false p q = rw (set_out s i v (ltb-false i (length s) q)) (g k)
    go false r p q = rw (get_or-set_other s i k v (pos 0) (eqb-false k i p)) (g k)

-- f is added to a list of coefficients
pub record AddedTo (f : ℕ → ℤ) (out new : List ℤ) : Type 0 where
  pub len : length new ≡ length out
  pub sums : (k : ℕ) → k < length out → low (coefficient new k) ≡ low (coefficient out k +ℤ f k)
  pub words : Words out → Words new

unfoldable pub Zeros : List ℤ → Type 0
Zeros s = (k : ℕ) → coefficient s k ≡ pos 0

-- times: from k on it is done
pub record Timing (a : ℕ) (c₀ : List ℤ) (k : ℕ) (c : List ℤ) : Type 0 where
  pub len : length c ≡ length c₀
  pub todo : (j : ℕ) → j < k → coefficient c j ≡ coefficient c₀ j
  pub done : (j : ℕ) → k ≤ j → j < length c₀ → low (coefficient c j) ≡ low (coefficient c₀ j -ℤ shift a (coefficient c₀) j)

pub record Timed (a : ℕ) (c₀ c : List ℤ) : Type 0 where
  pub len : length c ≡ length c₀
  pub is : (j : ℕ) → j < length c₀ → low (coefficient c j) ≡ low (coefficient c₀ j -ℤ shift a (coefficient c₀) j)

pub timing_none : (a : ℕ) (c : List ℤ) → Timing a c (length c) c
timing_none a c = record { len = refl; todo = λ j l. refl; done = λ j l g. absurd (omega arith) }

pub timing_more : (a k i : ℕ) (c₀ c : List ℤ) (v : ℤ) → i + 1 ≡ k → k ≤ length c₀ → a ≤ i → v ≡ wrap (2 ^ 64) (coefficient c i -ℤ coefficient c (i - a)) → Timing a c₀ k c → Timing a c₀ i (set c i v)
timing_more a k i c₀ c v e h q w t =
    record {
      len = length-set c i v ∙ t.len;
      todo = λ j l. get_or-set_other c i j v (pos 0) (omega arith) ∙ t.todo j (omega arith);
      done = λ j l g. go j l g (ltb i j) refl;
    }
  where
    go : (j : ℕ) → i ≤ j → j < length c₀ → (s : Bool) → ltb i j ≡ s → low (coefficient (set c i v) j) ≡ low (coefficient c₀ j -ℤ shift a (coefficient c₀) j)
    go j l g true r = ap low (get_or-set_other c i j v (pos 0) (omega (arith, ltb-true i j r))) ∙ t.done j (omega (arith, ltb-true i j r)) g
    go j l g false r =
        let f : j ≡ i = omega (arith, ltb-false i j r) in
        rw f
        (ap low (get_or-set_same c i v (pos 0) (omega (arith, t.len)) ∙ w)
        ∙ low_wrap (coefficient c i -ℤ coefficient c (i - a))
        ∙ ap low (ap₂ ◌-ℤ◌ (t.todo i (omega arith)) (t.todo (i - a) (omega arith) ∙ sym (shift_at a i (coefficient c₀) q))))

pub timing_end : (a k : ℕ) (c₀ c : List ℤ) → k ≤ a → Timing a c₀ k c → Timed a c₀ c
timing_end a k c₀ c h t = record { len = t.len; is = λ j l. go j l (ltb j k) refl }
  where
    go : (j : ℕ) → j < length c₀ → (s : Bool) → ltb j k ≡ s → low (coefficient c j) ≡ low (coefficient c₀ j -ℤ shift a (coefficient c₀) j)
    go j l true r =
        ap low
        (t.todo j (ltb-true j k r) ∙ sym (+ℤ_idr (coefficient c₀ j)) ∙ ap (λ (z : ℤ). coefficient c₀ j -ℤ z) (sym (shift_below a j (coefficient c₀) (omega (arith, ltb-true j k r)))))
    go j l false r = t.done j (ltb-false j k r) l

-- add_shifted: below k it is done
pub record Adding (s : ℕ) (f : ℕ → ℤ) (out : List ℤ) (k : ℕ) (new : List ℤ) : Type 0 where
  pub len : length new ≡ length out
  pub done : (j : ℕ) → j < k → j < length out → low (coefficient new j) ≡ low (coefficient out j +ℤ shift s f j)
  pub todo : (j : ℕ) → k ≤ j → coefficient new j ≡ coefficient out j
  pub words : Words out → Words new

pub adding_none : (s : ℕ) (f : ℕ → ℤ) (out : List ℤ) → Adding s f out s out
adding_none s f out =
    record { len = refl; done = λ j l g. ap low (sym (+ℤ_idr (coefficient out j)) ∙ ap (λ (z : ℤ). coefficient out j +ℤ z) (sym (shift_below s j f l))); todo = λ j l. refl; words = λ w. w }

pub adding_more : (s : ℕ) (f : ℕ → ℤ) (out : List ℤ) (k : ℕ) (new : List ℤ) (v : ℤ) → s ≤ k → k < length out → v ≡ wrap (2 ^ 64) (coefficient new k +ℤ f (k - s)) → Adding s f out k new → Adding s f out (k + 1) (set new k v)
adding_more s f out k new v h l e a =
    record {
      len = length-set new k v ∙ a.len;
      done = λ j p q. go j p q (eqb j k) refl;
      todo = λ j p. get_or-set_other new k j v (pos 0) (omega arith) ∙ a.todo j (omega arith);
      words = λ w. set_words new k v (rw e (wrap_fits w64 (coefficient new k +ℤ f (k - s)))) (a.words w);
    }
  where
    go : (j : ℕ) → j < k + 1 → j < length out → (t : Bool) → eqb j k ≡ t → low (coefficient (set new k v) j) ≡ low (coefficient out j +ℤ shift s f j)
    go j p q true r =
        let g : j ≡ k = eqb-true j k r in
        rw g
        (ap low (get_or-set_same new k v (pos 0) (omega (arith, a.len)) ∙ e)
        ∙ low_wrap (coefficient new k +ℤ f (k - s))
        ∙ ap low (ap₂ ◌+ℤ◌ (a.todo k (omega arith)) (sym (shift_at s k f h))))
    go j p q false r = ap low (get_or-set_other new k j v (pos 0) (eqb-false j k r)) ∙ a.done j (omega (arith, eqb-false j k r)) q

pub adding_end : (s : ℕ) (f : ℕ → ℤ) (out : List ℤ) (k : ℕ) (new : List ℤ) → length out ≤ k → Adding s f out k new → AddedTo (shift s f) out new
adding_end s f out k new h a = record { len = a.len; sums = λ j l. a.done j (omega arith) l; words = a.words }

-- a part of the zeros
pub zeros_part : (s : List ℤ) (w : ℕ) → Zeros s → Zeros (take w s)
unfolding Zeros
zeros_part s w z = take_constant (pos 0) s w z

pub zeros_back : (s p : List ℤ) (w : ℕ) → length p ≡ w → Zeros s → Zeros p → Zeros (p ++ drop w s)
unfolding Zeros
zeros_back s p w e z q k = go (ltb k w) refl
  where
    go : (t : Bool) → ltb k w ≡ t → coefficient (p ++ drop w s) k ≡ pos 0
    go true r = get_or-append p (drop w s) (pos 0) k (omega (arith, ltb-true k w r)) ∙ q k
    go false r =
        let f : k ≡ length p + (k - w) = omega (arith, ltb-false k w r) in
        ap (coefficient (p ++ drop w s)) f ∙ get_or-append-add p (drop w s) (k - w) (pos 0) ∙ get_or-drop w s (k - w) (pos 0) ∙ z (w + (k - w))

-- what is done and what is left, together
pub record Running (f : ℕ → ℤ) (out : List ℤ) (g : ℕ → ℤ) (new : List ℤ) : Type 0 where
  pub len : length new ≡ length out
  pub sums : (k : ℕ) → k < length out → low (coefficient new k +ℤ g k) ≡ low (coefficient out k +ℤ f k)
  pub words : Words out → Words new

pub running_none : (f : ℕ → ℤ) (out : List ℤ) → Running f out f out
running_none f out = record { len = refl; sums = λ k l. refl; words = λ w. w }

pub running_more : (f : ℕ → ℤ) (out : List ℤ) (g a b : ℕ → ℤ) (new newer : List ℤ) → ((k : ℕ) → g k ≡ a k +ℤ b k) → AddedTo a new newer → Running f out g new → Running f out b newer
running_more f out g a b new newer e w r =
    record {
      len = w.len ∙ r.len;
      sums = λ k l. low_add (coefficient newer k) (b k) (coefficient new k +ℤ a k) (b k) (w.sums k (omega (arith, r.len))) refl
          ∙ ap low (+ℤ_assoc (coefficient new k) (a k) (b k) ∙ ap (λ (z : ℤ). coefficient new k +ℤ z) (sym (e k)))
          ∙ r.sums k l;
      words = λ q. w.words (r.words q);
    }

pub running_leaf : (f : ℕ → ℤ) (out : List ℤ) (g : ℕ → ℤ) (new newer : List ℤ) → AddedTo g new newer → Running f out g new → AddedTo f out newer
running_leaf f out g new newer w r = record { len = w.len ∙ r.len; sums = λ k l. w.sums k (omega (arith, r.len)) ∙ r.sums k l; words = λ q. w.words (r.words q) }

pub running_past : (f : ℕ → ℤ) (out : List ℤ) (s : ℕ) (g : ℕ → ℤ) (new : List ℤ) → length out ≤ s → Running f out (shift s g) new → AddedTo f out new
running_past f out s g new h r =
    record {
      len = r.len;
      sums = λ k l. ap low (sym (+ℤ_idr (coefficient new k)) ∙ ap (λ (z : ℤ). coefficient new k +ℤ z) (sym (shift_below s k g (omega arith)))) ∙ r.sums k l;
      words = r.words;
    }

pub zeros_more : (s : List ℤ) (i : ℕ) → i < length s → ((k : ℕ) → k < i → coefficient s k ≡ pos 0) → (k : ℕ) → k < i + 1 → coefficient (set s i (pos 0)) k ≡ pos 0
zeros_more s i h f k l = go (eqb k i) refl
  where
    go : (t : Bool) → eqb k i ≡ t → coefficient (set s i (pos 0)) k ≡ pos 0
    go true p = let e : k ≡ i = eqb-true k i p in rw e (get_or-set_same s i (pos 0) (pos 0) h)
    go false p = get_or-set_other s i k (pos 0) (pos 0) (eqb-false k i p) ∙ f k (omega (arith, eqb-false k i p))

pub zeros_end : (s : List ℤ) (i : ℕ) → length s ≤ i → ((k : ℕ) → k < i → coefficient s k ≡ pos 0) → Zeros s
unfolding Zeros
zeros_end s i h f k = go (ltb k (length s)) refl
  where
    go : (t : Bool) → ltb k (length s) ≡ t → coefficient s k ≡ pos 0
    go true p = f k (omega (arith, ltb-true k (length s) p))
    go false p = get_or-eq_default s (pos 0) (ltb-false k (length s) p)
