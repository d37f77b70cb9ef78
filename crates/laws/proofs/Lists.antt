-- Lists as loops go through them, one cell a turn.
--   drop_next       what is left of a list, by its next cell
--   written_next    a list whose first i cells have become those of another: one cell more
--   written_length  it keeps its length
--   written_all     all cells are written
--   drop_back       two lists that are equal from cell i + 1 on and in cell i are equal from cell i on
--   replicate_constant, take_constant   a list of one value, and a part of it, read anywhere with that value as the default
-- Assumes nothing.
use mathlib.Core.Path.{◌≡◌, refl, ap, ap₂}
use mathlib.Core.List.{List, [], ◌∷◌, ◌++◌, append-nil}
use Prim.Native.Nat.{ℕ, zero, suc, ◌+◌, ◌≤◌, ◌<◌}
use native.Mathlib.Numerals.{add-one}
use native.Mathlib.Omega.{arith}
use lib.ListN.{length, get_or, take, drop, set, replicate, length-append, length-take, length-drop, drop_of_length-le}
use lib.Seq.{drop-cons, take_all}

-- what is left before cell i: cell i, and what is left after it
pub drop_next : (l : List ℕ) (i : ℕ) → i < length l → drop i l ≡ get_or l i 0 ∷ drop (i + 1) l
drop_next l i h = rw (add-one, drop-cons l i 0)

-- cell i is written too
written_suc : (s d : List ℕ) (i : ℕ) → i < length s → i < length d → set (take i s ++ drop i d) i (get_or s i 0) ≡ take (suc i) s ++ drop (suc i) d
written_suc [] d i h k = absurd (omega arith)
written_suc (x ∷ s) [] i h k = absurd (omega arith)
written_suc (x ∷ s) (y ∷ d) zero h k = refl
written_suc (x ∷ s) (y ∷ d) (suc i) h k = ap (λ (t : List ℕ). x ∷ t) (written_suc s d i (omega arith) (omega arith))

-- the first i cells of d are those of s; x, the next of s, is written after them
pub written_next : (s d : List ℕ) (i x : ℕ) → i < length s → i < length d → get_or s i 0 ≡ x → set (take i s ++ drop i d) i x ≡ take (i + 1) s ++ drop (i + 1) d
written_next s d i x h k e = rw (add-one, ← e) (written_suc s d i h k)

-- and the length is that of d
pub written_length : (s d : List ℕ) (i : ℕ) → length s ≡ length d → length (take i s ++ drop i d) ≡ length d
written_length s d i e = simp (length-append, length-take, length-drop) (omega arith)

-- the end: s stands in its place
pub written_all : (s d : List ℕ) (i : ℕ) → length s ≡ length d → length d ≤ i → take i s ++ drop i d ≡ s
written_all s d i e h = rw (take_all i s (omega arith), drop_of_length-le d h) (append-nil s)

-- one cell back
pub drop_back : (a b : List ℕ) (i : ℕ) → i < length a → i < length b → get_or a i 0 ≡ get_or b i 0 → drop (i + 1) a ≡ drop (i + 1) b → drop i a ≡ drop i b
drop_back a b i h k e d = rw (drop_next a i h, drop_next b i k) (ap₂ {C = List ℕ} ◌∷◌ e d)

-- one value throughout
pub replicate_constant : {A : Type 0} (d : A) (n k : ℕ) → get_or (replicate n d) k d ≡ d
replicate_constant d zero k = refl
replicate_constant d (suc n) zero = refl
replicate_constant d (suc n) (suc k) = replicate_constant d n k

pub take_constant : {A : Type 0} (d : A) (l : List A) (w : ℕ) → ((k : ℕ) → get_or l k d ≡ d) → (k : ℕ) → get_or (take w l) k d ≡ d
take_constant d l zero h k = refl
take_constant d [] (suc w) h k = refl
take_constant d (x ∷ l) (suc w) h zero = h 0
take_constant d (x ∷ l) (suc w) h (suc k) = take_constant d l w (λ j. h (suc j)) k
