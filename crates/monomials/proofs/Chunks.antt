-- That one monomial divides another is told by parts of both.
--   split_divides       the first n exponents, and the others
--   chunks_divide       all chunks, where together they have all exponents
--   overlapping_divide  the first n exponents, and those from some place among them on
-- Assumes nothing.
use mathlib.Core.Path.{◌≡◌, refl, sym, ap, ap₂, ◌∙◌}
use mathlib.Core.Bool.{Bool, true, false, ◌&&◌, and_assoc, false≢true}
use mathlib.Core.List.{List, [], ◌∷◌}
use Prim.Native.Nat.{ℕ, zero, suc, ◌*◌, ◌≤◌}
use native.Mathlib.Omega.{arith}
use native.Mathlib.Nat.{suc-mul, zero-mul}
use lib.Dec.{leb}
use lib.ListN.{length, take, drop, length-drop}
use lib.Seq.{drop-nil, take-nil, take-take}
use Rattle.std.specs.List.{zip, list_all}
use Rattle.std.specs.Simd.{first_chunks}
use Rattle.laws.specs.Monomial.{divides}

split_divides : (n : ℕ) (a b : List ℕ) → divides a b ≡ (divides (take n a) (take n b) && divides (drop n a) (drop n b))
split_divides zero a b = refl
split_divides (suc n) [] b = refl
split_divides (suc n) (x ∷ a) [] =
    ap (λ (t : Bool). leb x 0 && t) (split_divides n a [] ∙ ap₂ ◌&&◌ (ap (divides (take n a)) (take-nil n)) (ap (divides (drop n a)) (drop-nil n)))
    ∙ sym (and_assoc (leb x 0) (divides (take n a) []) (divides (drop n a) []))
split_divides (suc n) (x ∷ a) (y ∷ b) =
    ap (λ (t : Bool). leb x y && t) (split_divides n a b) ∙ sym (and_assoc (leb x y) (divides (take n a) (take n b)) (divides (drop n a) (drop n b)))

-- the chunks

pub chunks_divide : (n k : ℕ) (a b : List ℕ) → length a ≤ k * n → list_all (λ (p : List ℕ × List ℕ). divides p.0 p.1) (zip (first_chunks n k a) (first_chunks n k b)) ≡ divides a b
chunks_divide n zero [] b h = refl
chunks_divide n zero (x ∷ a) b h = absurd (omega (arith, zero-mul n))
chunks_divide n (suc k) a b h =
    ap (λ (t : Bool). divides (take n a) (take n b) && t) (chunks_divide n k (drop n a) (drop n b) (omega (arith, suc-mul k n, length-drop n a)))
    ∙ sym (split_divides n a b)

-- parts that may overlap

pub overlapping_divide : (n r s : ℕ) (a b x y : List ℕ) (t : Bool) → r ≤ n → s ≡ r → x ≡ take n a → y ≡ take n b → t ≡ divides x y → divides a b ≡ (t && divides (drop r a) (drop s b))
overlapping_divide n r s a b x y t h e p q k =
    go _ _ _ _ (divides (take n a) (take n b)) (divides (take r a) (take r b)) (split_divides n a b) (split_divides r a b)
    (split_divides r (take n a) (take n b) ∙ ap₂ (λ (u v : List ℕ). divides u v && divides (drop r (take n a)) (drop r (take n b))) (take-take r n a h) (take-take r n b h))
    ∙ ap₂ ◌&&◌ (sym (k ∙ ap₂ divides p q)) (ap (λ (i : ℕ). divides (drop r a) (drop i b)) (sym e))
  where
    go : (p d e f t q : Bool) → p ≡ (t && d) → p ≡ (q && e) → t ≡ (q && f) → p ≡ (t && e)
    go p d e f true true i j k = j
    go p d e f true false i j k = absurd (false≢true (sym k))
    go p d e f false q i j k = i
