-- The outcomes of `hf_at`: which check decides, and that the two equations of its contract then hold.
--   Outcome r a    == the answer r, and a in the sum room, are what the contract says
use Rattle.std.proofs.Common.{◌≡◌, ℕ, ◌+◌, ◌-◌, ◌*◌, ◌^◌, ◌≤◌, true, false, leb, List, ◌++◌, length, drop, replicate, ℤ, sym, ap, ◌∙◌, ap₂, arith, drop-drop, le-ltb}
use lib.Seq.{drop-append-add}
use Rattle.laws.specs.Coefficients.{coefficient}
use Rattle.laws.specs.Hilbert.{hilbert_size}
use Rattle.laws.specs.Sums.{sumsℤ}
use Rattle.laws.proofs.Hilbert.{hilbert_sums}
use Rattle.monomials.specs.declared.refusal.Refusal.TheVariants.{Value}
use Rattle.numbers.specs.Wide.{wide_of}
use Rattle.numbers.specs.Hilbert.{hilbert_answer, hilbert_room}
use Rattle.numbers.specs.declared.wide.Wide.{Wide}
use Rattle.std.specs.Prelude.{Result, Ok, Err}
use Rattle.monomials.specs.declared.refusal.Refusal.{Refusal}

-- a front of h cells that was lent leaves what stands past z
past_front : (xs ys : List ℕ) (h z : ℕ) → h ≤ z → length ys ≡ h → drop z (ys ++ drop h xs) ≡ drop z xs
past_front xs ys h z k l =
    let q : length ys + (z - h) ≡ z = omega arith in
    let r : h + (z - h) ≡ z = omega arith in
    ap (λ (j : ℕ). drop j (ys ++ drop h xs)) (sym q) ∙ drop-append-add ys (drop h xs) (z - h) ∙ drop-drop (z - h) h xs ∙ ap (λ (j : ℕ). drop j xs) r

module _ (W D n : ℕ) (p : List ℤ) (d : ℕ) (room : List ℕ) where
  abbrev pub Outcome : Result Wide Refusal → List ℕ → Type 0
  Outcome r a = (r ≡ hilbert_answer W D n p d room) × (a ≡ hilbert_room W D n d room)

  module _ (h : n ≤ W) where
    module _ (g : d ≤ D) where
      -- k cells of the room were lent and left as x, and then all that are asked, and left as y
      module _ (l : 4 * (d + 1) ≤ length room) (x y : List ℕ) (k : ℕ) (i : k ≤ 4 * (d + 1)) (lx : length x ≡ k) (ey : y ≡ replicate (4 * (d + 1)) 0) where
        room_left : y ++ drop (4 * (d + 1)) (x ++ drop k room) ≡ hilbert_room W D n d room
        room_left =
            rw (le-ltb W n h, le-ltb D d g, le-ltb (length room) (4 * (d + 1)) l) (ap₂ ◌++◌ ey (past_front room x k (4 * (d + 1)) i lx))

        pub refuses_value : (r : Result Wide Refusal) → leb (2 ^ 127) (hilbert_size p n d) ≡ true → r ≡ Err Value → Outcome r (y ++ drop (4 * (d + 1)) (x ++ drop k room))
        refuses_value r t e = (rw (le-ltb W n h, le-ltb D d g, le-ltb (length room) (4 * (d + 1)) l, t) e, room_left)

        pub gives : (w : Wide) → leb (2 ^ 127) (hilbert_size p n d) ≡ false → w ≡ wide_of (sumsℤ n (coefficient p) d) → Outcome (Ok w) (y ++ drop (4 * (d + 1)) (x ++ drop k room))
        gives w t e =
            (rw (le-ltb W n h, le-ltb D d g, le-ltb (length room) (4 * (d + 1)) l, t) (rw (e, hilbert_sums p n d)), room_left)
