-- A text, byte by byte.
--   minus_inside                        a minus stands inside the text
--   digit_test                          what lies between 0 and 9 is a digit
--   value_more, value_here, value_none  the number so far, at a digit, at another byte, at the end
--   end_more, end_here, end_none        where the number ends
--   line_more, line_here, line_none     where the line ends
-- Assumes nothing.
use Rattle.std.proofs.Common.{◌≡◌, ℕ, ◌+◌, ◌-◌, ◌*◌, ◌<◌, ◌≤◌, min, Bool, true, false, leb, List, [], ◌∷◌, length, get_or, drop, sym, refl, arith, length-drop, drop_of_length-le, eq-eqb, ne_eqb, eqb-true, leb-false, leb-true, le-leb}
use lib.ListN.{get_or-eq_default}
use Rattle.laws.proofs.Lists.{drop_next}
use Rattle.vectors.specs.Text.{largest, is_digit, is_minus, digits, value_of, end_of, line_after}

pub minus_inside : (s : List ℕ) (at : ℕ) → is_minus s at ≡ true → at < length s
minus_inside s at h = go (leb (length s) at) refl
  where
    go : (t : Bool) → leb (length s) at ≡ t → at < length s
    go true e = absurd (omega (arith, eqb-true (get_or s at 0) 45 h, get_or-eq_default s 0 (leb-true (length s) at e)))
    go false e = leb-false (length s) at e

pub digit_test : (b : ℕ) → 48 ≤ b → b ≤ 57 → is_digit b ≡ true
digit_test b h g = rw (le-leb 48 b h, le-leb b 57 g)

-- more digits make no smaller number
value_ge : (v : ℕ) (ds : List ℕ) → v ≤ value_of v ds
value_ge v [] = omega arith
value_ge v (d ∷ ds) = omega (arith, value_ge (v * 10 + d) ds)

-- what is cut to the largest word on the way is cut at the end
capped : (v : ℕ) (ds : List ℕ) → min (value_of (min v largest) ds) largest ≡ min (value_of v ds) largest
capped v ds = go (leb v largest) refl
  where
    go : (t : Bool) → leb v largest ≡ t → min (value_of (min v largest) ds) largest ≡ min (value_of v ds) largest
    go true e =
        let same : min v largest ≡ v = omega (arith, leb-true v largest e) in
        rw same
    go false e = omega (arith, leb-false v largest e, value_ge v ds, value_ge (min v largest) ds)

module _ (s : List ℕ) (i : ℕ) (inside : i < length s) where
  digits_more : is_digit (get_or s i 0) ≡ true → digits (drop i s) ≡ (get_or s i 0 - 48) ∷ digits (drop (i + 1) s)
  digits_more e = rw (drop_next s i inside, e)

  digits_here : is_digit (get_or s i 0) ≡ false → digits (drop i s) ≡ []
  digits_here e = rw (drop_next s i inside, e)

  -- a digit goes to the number
  pub value_more : (v w : ℕ) → is_digit (get_or s i 0) ≡ true → w ≡ min (v * 10 + (get_or s i 0 - 48)) largest
      → min (value_of v (digits (drop i s))) largest ≡ min (value_of w (digits (drop (i + 1) s))) largest
  value_more v w e d = rw (digits_more e, d) (sym (capped (v * 10 + (get_or s i 0 - 48)) (digits (drop (i + 1) s))))

  -- another byte ends it
  pub value_here : (v : ℕ) → is_digit (get_or s i 0) ≡ false → min (value_of v (digits (drop i s))) largest ≡ min v largest
  value_here v e = rw (digits_here e)

  pub end_more : is_digit (get_or s i 0) ≡ true → end_of s i ≡ end_of s (i + 1)
  end_more e = rw (digits_more e) (omega (arith, length-drop i s, length-drop (i + 1) s))

  pub end_here : is_digit (get_or s i 0) ≡ false → end_of s i ≡ i + 1
  end_here e = rw (digits_here e) (omega (arith, length-drop i s))

  pub line_more : (get_or s i 0 ≡ 10 → ⊥) → line_after s i ≡ line_after s (i + 1)
  line_more e = rw (drop_next s i inside, ne_eqb (get_or s i 0) 10 e) (omega arith)

  pub line_here : get_or s i 0 ≡ 10 → line_after s i ≡ i + 1
  line_here e = rw (drop_next s i inside, eq-eqb (get_or s i 0) 10 e)

module _ (s : List ℕ) (i : ℕ) (past : length s ≤ i) where
  pub value_none : (v : ℕ) → min (value_of v (digits (drop i s))) largest ≡ min v largest
  value_none v = rw (drop_of_length-le s past)

  pub end_none : end_of s i ≡ i
  end_none = rw (drop_of_length-le s past) (omega arith)

  pub line_none : line_after s i ≡ i
  line_none = rw (drop_of_length-le s past) (omega arith)
