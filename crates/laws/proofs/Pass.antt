-- What a pass over the monomials in a list of cells leaves.
--   Thinned n m xs k ys        == the first k monomials of ys have the multiples of the first m of xs
--   Divided n m v e xs i ys    == the first i monomials of ys are the quotients by variable v to the e of those of xs; the cells behind them are those of xs
--   ColonOf n m v e xs k ys    == the first k monomials of ys have the multiples of the first m of xs, : variable v to the e
--   Swapped a b xs t ys        == ys is xs with the t cells from a and the t cells from b exchanged
-- In this file: the steps of the loops that drop a divided monomial, divide by a power, and exchange two monomials.
use mathlib.Core.Path.{◌≡◌, refl, sym, ap, ap₂, ◌∙◌}
use mathlib.Core.Logic.{◌⊎◌, inl, inr, ◌≢◌}
use mathlib.Core.Bool.{Bool, true, false}
use mathlib.Core.List.{List, ◌∷◌}
use Prim.Native.Nat.{ℕ, suc, ◌+◌, ◌*◌, ◌-◌, ◌≤◌, ◌<◌}
use native.Mathlib.Omega.{arith}
use native.Mathlib.Nat.{mul-le-mul_right, suc-mul}
use native.Mathlib.Numerals.{add-one}
use lib.Dec.{eqb}
use lib.ListN.{length, length-take, length-drop, get_or, set, length-set}
use lib.Seq.{ext_get_or, get_or-set_same, get_or-set_other}
use borrow.Author.Tests.{eqb-true, eqb-false}
use Rattle.laws.specs.Monomial.{divides, quotient}
use Rattle.laws.specs.Ideal.{multiple, colon}
use Rattle.laws.proofs.Monomial.{bool_ext, divides_trans}
use Rattle.laws.proofs.Rows.{at, rows, rows_next, row_end, at_cell, at_ext, rows_ext, Hits, hits, hit, Wrote, row_kept, row_copied, apart, axis, axis_quotient}

-- minimalize: row i is dropped, and the last row takes its place
pub dropped : (n m i r : ℕ) (xs ys : List ℕ) → i ≤ m → suc m * n ≤ length xs → r < suc m → r ≢ i → divides (at n r xs) (at n i xs) ≡ true
    → Wrote xs (λ t. get_or xs (m * n + t) 0) (i * n) n ys → (u : List ℕ) → multiple (rows n m ys) u ≡ multiple (rows n (suc m) xs) u
unfolding Hits
dropped n m i r xs ys h g l d e w u = bool_ext (multiple (rows n m ys) u) (multiple (rows n (suc m) xs) u) fore back
  where
    other : (k : ℕ) → k < suc m → k ≢ i → at n k ys ≡ at n k xs
    other k q s = row_kept n i k (suc m) xs ys (λ t. get_or xs (m * n + t) 0) q g s w

    last : at n i ys ≡ at n m xs
    last = row_copied n i m (suc m) xs ys (omega arith) (omega arith) g w

    fore : multiple (rows n m ys) u ≡ true → multiple (rows n (suc m) xs) u ≡ true
    fore q = let s = hits n m ys u q in go s.0 s.1 s.2 (eqb s.0 i) refl
      where
        go : (k : ℕ) → k < m → divides (at n k ys) u ≡ true → (t : Bool) → eqb k i ≡ t → multiple (rows n (suc m) xs) u ≡ true
        go k a b true p = hit n (suc m) m xs u (omega arith) (ap (λ (z : List ℕ). divides z u) (sym last ∙ ap (λ (z : ℕ). at n z ys) (sym (eqb-true k i p))) ∙ b)
        go k a b false p = hit n (suc m) k xs u (omega arith) (ap (λ (z : List ℕ). divides z u) (sym (other k (omega arith) (eqb-false k i p))) ∙ b)

    -- a row of xs other than i
    there : (k : ℕ) → k < suc m → k ≢ i → divides (at n k xs) u ≡ true → multiple (rows n m ys) u ≡ true
    there k a s b = go (eqb k m) refl
      where
        go : (t : Bool) → eqb k m ≡ t → multiple (rows n m ys) u ≡ true
        go true p =
            let q : k ≡ m = eqb-true k m p in
            hit n m i ys u (omega (arith, s)) (ap (λ (z : List ℕ). divides z u) (last ∙ ap (λ (z : ℕ). at n z xs) (sym q)) ∙ b)
        go false p = hit n m k ys u (omega (arith, eqb-false k m p)) (ap (λ (z : List ℕ). divides z u) (other k a s) ∙ b)

    back : multiple (rows n (suc m) xs) u ≡ true → multiple (rows n m ys) u ≡ true
    back q = let s = hits n (suc m) xs u q in go s.0 s.1 s.2 (eqb s.0 i) refl
      where
        go : (k : ℕ) → k < suc m → divides (at n k xs) u ≡ true → (t : Bool) → eqb k i ≡ t → multiple (rows n m ys) u ≡ true
        go k a b true p = there r l d (divides_trans (at n r xs) (at n i xs) u e (ap (λ (z : ℕ). divides (at n z xs) u) (sym (eqb-true k i p)) ∙ b))
        go k a b false p = there k a (eqb-false k i p) b

pub record Thinned (n m : ℕ) (xs : List ℕ) (k : ℕ) (ys : List ℕ) : Type 0 where
  pub len : length ys ≡ length xs
  pub less : k ≤ m
  pub same : (u : List ℕ) → multiple (rows n k ys) u ≡ multiple (rows n m xs) u

pub thinned_none : (n m : ℕ) (xs : List ℕ) → Thinned n m xs m xs
thinned_none n m xs = record { len = refl; less = omega arith; same = λ u. refl }

pub thinned_more : (n m : ℕ) (xs : List ℕ) (k i r : ℕ) (ys zs : List ℕ) → m * n ≤ length xs → i < k → r < k → r ≢ i → divides (at n r ys) (at n i ys) ≡ true
    → Wrote ys (λ t. get_or ys ((k - 1) * n + t) 0) (i * n) n zs → Thinned n m xs k ys → Thinned n m xs (k - 1) zs
thinned_more n m xs k i r ys zs g h l d e w t =
    record {
      len = w.len ∙ t.len;
      less = omega (arith, t.less);
      same = λ u. dropped n (k - 1) i r ys zs (omega arith) (rw f (omega (arith, t.len, mul-le-mul_right n t.less))) (omega arith) d e w u ∙ ap (λ (z : ℕ). multiple (rows n z ys) u) f ∙ t.same u;
    }
  where
    f : suc (k - 1) ≡ k
    f = omega arith

-- colon: the first i rows are done
pub record Divided (n m v e : ℕ) (xs : List ℕ) (i : ℕ) (ys : List ℕ) : Type 0 where
  pub len : length ys ≡ length xs
  pub todo : (j : ℕ) → i * n ≤ j → get_or ys j 0 ≡ get_or xs j 0
  pub done : rows n i ys ≡ colon (rows n i xs) (axis v e)

pub divided_none : (n m v e : ℕ) (xs : List ℕ) → Divided n m v e xs 0 xs
divided_none n m v e xs = record { len = refl; todo = λ j h. refl; done = refl }

pub divided_more : (n m v e : ℕ) (xs : List ℕ) (i y : ℕ) (ys : List ℕ) → m * n ≤ length xs → i < m → v < n → y ≡ get_or ys (i * n + v) 0 - e → Divided n m v e xs i ys → Divided n m v e xs (i + 1) (set ys (i * n + v) y)
divided_more n m v e xs i y ys g h l q d =
    record {
      len = length-set ys (i * n + v) y ∙ d.len;
      todo = λ j s. get_or-set_other ys (i * n + v) j y 0 (λ r. omega (arith, suc-mul i n, add-one i)) ∙ d.todo j (omega (arith, suc-mul i n, add-one i));
      done = rw (rows_next n i (set ys (i * n + v) y), rows_next n i xs) (ap₂ {C = List (List ℕ)} ◌∷◌ here below);
    }
  where
    r : i * n + n ≤ m * n
    r = row_end n m i h

    below : rows n i (set ys (i * n + v) y) ≡ colon (rows n i xs) (axis v e)
    below =
        rows_ext n i (set ys (i * n + v) y) ys (rw length-set (omega (arith, d.len, r))) (omega (arith, d.len, r)) (λ j s. get_or-set_other ys (i * n + v) j y 0 (omega arith))
        ∙ d.done

    here : at n i (set ys (i * n + v) y) ≡ quotient (at n i xs) (axis v e)
    here = ext_get_or 0 (at n i (set ys (i * n + v) y)) (quotient (at n i xs) (axis v e)) (a ∙ sym b) (λ j s. go j (omega (arith, a)) (eqb j v) refl)
      where
        a : length (at n i (set ys (i * n + v) y)) ≡ n
        a = simp (length-take, length-drop, length-set) (omega (arith, d.len, r))

        c : length (at n i xs) ≡ n
        c = simp (length-take, length-drop) (omega (arith, r))

        b : length (quotient (at n i xs) (axis v e)) ≡ n
        b = ap length (axis_quotient v e (at n i xs)) ∙ length-set (at n i xs) v (get_or (at n i xs) v 0 - e) ∙ c

        go : (j : ℕ) → j < n → (t : Bool) → eqb j v ≡ t → get_or (at n i (set ys (i * n + v) y)) j 0 ≡ get_or (quotient (at n i xs) (axis v e)) j 0
        go j s true p =
            let f : j ≡ v = eqb-true j v p in
            rw (f, at_cell n i v (set ys (i * n + v) y) l, axis_quotient v e (at n i xs))
            (get_or-set_same ys (i * n + v) y 0 (omega (arith, d.len, r))
            ∙ q
            ∙ ap (λ (z : ℕ). z - e) (d.todo (i * n + v) (omega arith) ∙ sym (at_cell n i v xs l))
            ∙ sym (get_or-set_same (at n i xs) v (get_or (at n i xs) v 0 - e) 0 (omega (arith, c))))
        go j s false p =
            rw (at_cell n i j (set ys (i * n + v) y) s, axis_quotient v e (at n i xs))
            (get_or-set_other ys (i * n + v) (i * n + j) y 0 (λ f. eqb-false j v p (omega arith))
            ∙ d.todo (i * n + j) (omega arith)
            ∙ sym (at_cell n i j xs s)
            ∙ sym (get_or-set_other (at n i xs) v j (get_or (at n i xs) v 0 - e) 0 (eqb-false j v p)))

pub record ColonOf (n m v e : ℕ) (xs : List ℕ) (k : ℕ) (ys : List ℕ) : Type 0 where
  pub len : length ys ≡ length xs
  pub less : k ≤ m
  pub same : (u : List ℕ) → multiple (rows n k ys) u ≡ multiple (colon (rows n m xs) (axis v e)) u

pub colon_of : (n m v e : ℕ) (xs ys : List ℕ) (k : ℕ) (zs : List ℕ) → Divided n m v e xs m ys → Thinned n m ys k zs → ColonOf n m v e xs k zs
colon_of n m v e xs ys k zs d t = record { len = t.len ∙ d.len; less = t.less; same = λ u. t.same u ∙ ap (λ (L : List (List ℕ)). multiple L u) d.done }

-- two rows exchange their first t cells
pub record Swapped (a b : ℕ) (xs : List ℕ) (t : ℕ) (ys : List ℕ) : Type 0 where
  pub len : length ys ≡ length xs
  pub first : (j : ℕ) → j < t → get_or ys (a + j) 0 ≡ get_or xs (b + j) 0
  pub second : (j : ℕ) → j < t → get_or ys (b + j) 0 ≡ get_or xs (a + j) 0
  pub other : (k : ℕ) → (k < a) ⊎ (a + t ≤ k) → (k < b) ⊎ (b + t ≤ k) → get_or ys k 0 ≡ get_or xs k 0

pub swapped_none : (a b : ℕ) (xs : List ℕ) → Swapped a b xs 0 xs
swapped_none a b xs = record { len = refl; first = λ j h. absurd (omega arith); second = λ j h. absurd (omega arith); other = λ k h g. refl }

pub swapped_more : (n a b : ℕ) (xs : List ℕ) (t x y : ℕ) (ys : List ℕ) → a + n ≤ b → b + n ≤ length xs → t < n → x ≡ get_or ys (a + t) 0 → y ≡ get_or ys (b + t) 0 → Swapped a b xs t ys
    → Swapped a b xs (t + 1) (set (set ys (a + t) y) (b + t) x)
swapped_more n a b xs t x y ys h g l p q s =
    record {
      len = length-set (set ys (a + t) y) (b + t) x ∙ length-set ys (a + t) y ∙ s.len;
      first = λ j r. fst j r (eqb j t) refl;
      second = λ j r. snd j r (eqb j t) refl;
      other = λ k r o. get_or-set_other (set ys (a + t) y) (b + t) k x 0 (far b k o) ∙ get_or-set_other ys (a + t) k y 0 (far a k r) ∙ s.other k (more a k r) (more b k o);
    }
  where
    far : (z k : ℕ) → (k < z) ⊎ (z + (t + 1) ≤ k) → k ≢ z + t
    far z k (inl r) e = omega arith
    far z k (inr r) e = omega arith

    more : (z k : ℕ) → (k < z) ⊎ (z + (t + 1) ≤ k) → (k < z) ⊎ (z + t ≤ k)
    more z k (inl r) = inl r
    more z k (inr r) = inr (omega arith)

    fst : (j : ℕ) → j < t + 1 → (u : Bool) → eqb j t ≡ u → get_or (set (set ys (a + t) y) (b + t) x) (a + j) 0 ≡ get_or xs (b + j) 0
    fst j r true e =
        let f : j ≡ t = eqb-true j t e in
        rw f
        (get_or-set_other (set ys (a + t) y) (b + t) (a + t) x 0 (λ w. omega arith)
        ∙ get_or-set_same ys (a + t) y 0 (omega (arith, s.len))
        ∙ q
        ∙ s.other (b + t) (inr (omega arith)) (inr (omega arith)))
    fst j r false e =
        get_or-set_other (set ys (a + t) y) (b + t) (a + j) x 0 (λ w. omega arith)
        ∙ get_or-set_other ys (a + t) (a + j) y 0 (λ w. eqb-false j t e (omega arith))
        ∙ s.first j (omega (arith, eqb-false j t e))

    snd : (j : ℕ) → j < t + 1 → (u : Bool) → eqb j t ≡ u → get_or (set (set ys (a + t) y) (b + t) x) (b + j) 0 ≡ get_or xs (a + j) 0
    snd j r true e =
        let f : j ≡ t = eqb-true j t e in
        rw f
        (get_or-set_same (set ys (a + t) y) (b + t) x 0 (rw length-set (omega (arith, s.len)))
        ∙ p
        ∙ s.other (a + t) (inr (omega arith)) (inl (omega arith)))
    snd j r false e =
        get_or-set_other (set ys (a + t) y) (b + t) (b + j) x 0 (λ w. eqb-false j t e (omega arith))
        ∙ get_or-set_other ys (a + t) (b + j) y 0 (λ w. omega arith)
        ∙ s.second j (omega (arith, eqb-false j t e))

-- an exchange keeps the multiples
through : (n m : ℕ) (xs ys : List ℕ) (i j : ℕ) → i < m → j < m → at n i ys ≡ at n j xs → at n j ys ≡ at n i xs → ((k : ℕ) → k < m → k ≢ i → k ≢ j → at n k ys ≡ at n k xs)
    → (u : List ℕ) → multiple (rows n m ys) u ≡ true → multiple (rows n m xs) u ≡ true
unfolding Hits
through n m xs ys i j hi hj p q o u h = let s = hits n m ys u h in go s.0 s.1 s.2 (eqb s.0 i) (eqb s.0 j) refl refl
  where
    go : (k : ℕ) → k < m → divides (at n k ys) u ≡ true → (a b : Bool) → eqb k i ≡ a → eqb k j ≡ b → multiple (rows n m xs) u ≡ true
    go k l d true b e f = hit n m j xs u hj (ap (λ (z : List ℕ). divides z u) (sym p ∙ ap (λ (z : ℕ). at n z ys) (sym (eqb-true k i e))) ∙ d)
    go k l d false true e f = hit n m i xs u hi (ap (λ (z : List ℕ). divides z u) (sym q ∙ ap (λ (z : ℕ). at n z ys) (sym (eqb-true k j f))) ∙ d)
    go k l d false false e f = hit n m k xs u l (ap (λ (z : List ℕ). divides z u) (sym (o k l (eqb-false k i e) (eqb-false k j f))) ∙ d)

pub swapped_multiple : (n m i j : ℕ) (xs ys : List ℕ) → i < j → j < m → m * n ≤ length xs → Swapped (i * n) (j * n) xs n ys → (u : List ℕ) → multiple (rows n m ys) u ≡ multiple (rows n m xs) u
swapped_multiple n m i j xs ys h l g s u =
    bool_ext (multiple (rows n m ys) u) (multiple (rows n m xs) u)
    (through n m xs ys i j (omega arith) l p q o u)
    (through n m ys xs i j (omega arith) l (sym q) (sym p) (λ k a b d. sym (o k a b d)) u)
  where
    ri : i * n + n ≤ m * n
    ri = row_end n m i (omega arith)

    rj : j * n + n ≤ m * n
    rj = row_end n m j l

    p : at n i ys ≡ at n j xs
    p = at_ext n i ys xs (j * n) (omega (arith, ri, s.len)) (omega (arith, rj)) s.first

    q : at n j ys ≡ at n i xs
    q = at_ext n j ys xs (i * n) (omega (arith, rj, s.len)) (omega (arith, ri)) s.second

    o : (k : ℕ) → k < m → k ≢ i → k ≢ j → at n k ys ≡ at n k xs
    o k a b d =
        let r = row_end n m k a in
        at_ext n k ys xs (k * n) (omega (arith, s.len)) (omega arith) (λ t f. s.other (k * n + t) (apart n i k t b f) (apart n j k t d f))

pub thinned_swap : (n m i j : ℕ) (xs ys zs : List ℕ) → i < j → j < m → m * n ≤ length xs → Swapped (i * n) (j * n) ys n zs → Thinned n m xs m ys → Thinned n m xs m zs
thinned_swap n m i j xs ys zs h l g s t =
    record { len = s.len ∙ t.len; less = omega arith; same = λ u. swapped_multiple n m i j ys zs h l (omega (arith, t.len)) s u ∙ t.same u }
