-- Slices, element by element.
--   bits_negative                 the bits of a negative integer
--   wanted_integer, wanted_left   an element of the contents: an integer, or what stands after them
--   place_none, place_more, place_same   the place after no element, and after one more
--   Checking, checking_none, checking_more, checking_all   a slice that is compared: no element yet, one more, all
--   Filling, filling_none, filling_more, filling_all       a slice that is filled
-- Assumes nothing.
use Rattle.std.proofs.Common.{◌≡◌, ℕ, zero, suc, ◌+◌, ◌-◌, ◌%◌, ◌^◌, ◌<◌, ◌≤◌, min, Bool, true, cond, ◌&&◌, eqb, ltb, leb, List, [], ◌∷◌, ◌++◌, length, get_or, drop, set, sym, refl, ap, ◌∙◌, ap₂, append_assoc, append-nil, add-one, arith, length-append, length-set, drop_of_length-le, drop-cons, le-ltb, lt-ltb}
use lib.Seq.{set_at}
use Rattle.vectors.specs.Text.{integer_at}
use Rattle.vectors.specs.Rooms.{bits_of, place_in, wanted, list_of, every, compared}
use Rattle.vectors.specs.declared.rooms.Contents.{Contents}
use Rattle.vectors.specs.declared.rooms.Compared.{Compared}

pub bits_negative : (r m : ℕ) → r < 2 ^ 64 → m < 2 ^ 64 → (r + m) % 2 ^ 64 ≡ 0 → r ≡ (2 ^ 64 - m) % 2 ^ 64
bits_negative r m h g e = omega arith

pub place_none : (s : List ℕ) (c : Contents) → c.at ≡ place_in s c 0
place_none s c = let e : min 0 c.count ≡ 0 = omega arith in rw e

module _ (s : List ℕ) (c : Contents) (j : ℕ) where
  pub place_more : j < c.count → place_in s c (j + 1) ≡ (integer_at s (place_in s c j)).next
  place_more h =
      let e : min (j + 1) c.count ≡ suc j = omega arith in
      let f : min j c.count ≡ j = omega arith in
      rw (e, f)

  pub place_same : c.count ≤ j → place_in s c (j + 1) ≡ place_in s c j
  place_same h = let e : min (j + 1) c.count ≡ min j c.count = omega arith in rw e

  pub wanted_integer : j < c.count → wanted s c j ≡ bits_of (integer_at s (place_in s c j))
  wanted_integer h = let f : min j c.count ≡ j = omega arith in rw (lt-ltb j c.count h, f)

  pub wanted_left : c.count ≤ j → wanted s c j ≡ cond (ltb j c.zeros) 0 (7 + j % 5)
  wanted_left h = rw (le-ltb j c.count h)

-- the first j elements of xs are looked at: whether they are right, and the place after their integers
pub record Checking (s : List ℕ) (c : Contents) (xs : List ℕ) (j next : ℕ) (right : Bool) : Type 0 where
  pub within : j ≤ length xs
  pub place : next ≡ place_in s c j
  pub test : right ≡ every j (λ (i : ℕ). eqb (get_or xs i 0) (wanted s c i))

module _ (s : List ℕ) (c : Contents) (xs : List ℕ) where
  pub checking_none : Checking s c xs 0 c.at true
  checking_none = record { within = omega arith; place = place_none s c; test = refl }

  -- one more, which is x
  pub checking_more : {j next next' : ℕ} {right r : Bool} (x y : ℕ) → Checking s c xs j next right → j < length xs → x ≡ get_or xs j 0
      → (y ≡ wanted s c j) × (next' ≡ place_in s c (j + 1)) → r ≡ (right && eqb x y) → Checking s c xs (j + 1) next' r
  checking_more {j} x y k h e w g =
      record { within = omega arith; place = w.1; test = rw (add-one j, ← k.test, ← e, ← w.0) g }

  -- all
  pub checking_all : {j next n : ℕ} {right : Bool} (r : Compared) → Checking s c xs j next right → n ≡ length xs → n ≤ j
      → (r.right ≡ (right && leb c.count n)) × (r.next ≡ next) → r ≡ compared s c xs
  checking_all {j} r k e h g =
      let l : j ≡ length xs = omega (arith, k.within) in
      ap₂ (λ (a : Bool) (b : ℕ). record { right = a; next = b }) (g.0 ∙ rw (k.test, l, e)) (g.1 ∙ k.place ∙ ap (place_in s c) l)

-- the first j elements have become f 0, .., f (j − 1)
pub record Filling {A : Type 0} (s : List ℕ) (c : Contents) (f : ℕ → A) (old : List A) (j next : ℕ) (room : List A) : Type 0 where
  pub within : j ≤ length old
  pub size : length room ≡ length old
  pub place : next ≡ place_in s c j
  pub done : room ≡ list_of j f ++ drop j old

module _ {A : Type 0} (s : List ℕ) (c : Contents) (f : ℕ → A) (old : List A) where
  list_of_length : (n : ℕ) → length (list_of n f) ≡ n
  list_of_length zero = refl
  list_of_length (suc n) = simp length-append (omega (arith, list_of_length n))

  put_next : (i : ℕ) → i < length old → set (list_of i f ++ drop i old) i (f i) ≡ list_of (i + 1) f ++ drop (i + 1) old
  put_next i h =
      rw (add-one i, drop-cons old i (f i) h) (set_at (list_of i f) _ (drop (suc i) old) (f i) i (list_of_length i) ∙ sym (append_assoc (list_of i f) (f i ∷ []) (drop (suc i) old)))

  pub filling_none : Filling s c f old 0 c.at old
  filling_none = record { within = omega arith; size = refl; place = place_none s c; done = refl }

  -- one more, which is x
  pub filling_more : {j next next' : ℕ} {room : List A} (x : A) → Filling s c f old j next room → j < length old → x ≡ f j
      → next' ≡ place_in s c (j + 1) → Filling s c f old (j + 1) next' (set room j x)
  filling_more {j} {room = room} x k h e w =
      record { within = omega arith; size = length-set room j x ∙ k.size; place = w; done = rw (k.done, e) (put_next j h) }

  -- all
  pub filling_all : {j next : ℕ} {room : List A} → Filling s c f old j next room → length old ≤ j
      → (next ≡ place_in s c (length old)) × (room ≡ list_of (length old) f)
  filling_all {j} k h =
      let l : j ≡ length old = omega (arith, k.within) in
      (k.place ∙ ap (place_in s c) l, k.done ∙ rw (drop_of_length-le old h, append-nil (list_of j f)) (ap (λ (n : ℕ). list_of n f) l))
