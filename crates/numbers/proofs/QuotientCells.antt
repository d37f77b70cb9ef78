-- Quotients by a monomial, written cell by cell: the cell j of a list has the variable j % n.
--   turned            the place in the monomial, one cell on
--   rows_divided      the rows of the cells so written are the quotients
--   carries_divided   both lists divided, and then thinned
use Rattle.std.proofs.Common.{◌≡◌, ℕ, zero, suc, ◌+◌, ◌-◌, ◌*◌, ◌%◌, ◌<◌, ◌≤◌, Bool, true, false, ltb, ◌⊎◌, List, ◌∷◌, ◌++◌, length, get_or, take, sym, refl, ap, ◌∙◌, ap₂, inl, inr, mod-lt, mod-eq_of_lt, suc-mul, add-mul, arith, length-append, length-take, get_or-take, get_or-append-add, ext_get_or, ltb-false, ltb-true}
use native.Mathlib.Nat.{mod-add-mod, mod_self, mul-add-mod_self_right}
use lib.ListN.{get_or-append}
use Rattle.laws.specs.Monomial.{quotient, product}
use Rattle.laws.specs.Ideal.{colon, multiple}
use Rattle.laws.proofs.Monomial.{length_quotient}
use Rattle.laws.proofs.Ideal.{multiple_colon}
use Rattle.laws.proofs.Rows.{Wrote, at, at_cell, at_length, rows}
use Rattle.laws.proofs.Pass.{Thinned}
use Rattle.laws.proofs.Asked.{both}
use Rattle.laws.proofs.Few.{quotient_cell}
use Rattle.laws.proofs.Exact.{rows_same}
use Rattle.laws.proofs.Grown.{Carries, listed_append}

pub turned : (n i v w : ℕ) → v < n → v ≡ i % n → ((v + 1 ≡ n) × (w ≡ 0)) ⊎ ((v + 1 ≡ n → ⊥) × (w ≡ v + 1)) → (w < n) × (w ≡ (i + 1) % n)
turned n i v w h e (inl (f, g)) =
    (omega arith, g ∙ sym (mod_self n) ∙ ap (λ (z : ℕ). z % n) (sym f ∙ ap (λ (z : ℕ). z + 1) e) ∙ mod-add-mod i n 1)
turned n i v w h e (inr (f, g)) =
    let l : v + 1 < n = omega arith in
    (omega arith, g ∙ sym (mod-eq_of_lt l) ∙ ap (λ (z : ℕ). (z + 1) % n) e ∙ mod-add-mod i n 1)

module _ (n : ℕ) (zs ws g : List ℕ) (e : length g ≡ n) where
  rows_divided : (m : ℕ) → m * n ≤ length zs → m * n ≤ length ws → ((j : ℕ) → j < m * n → get_or ws j 0 ≡ get_or zs j 0 - get_or g (j % n) 0) → rows n m ws ≡ colon (rows n m zs) g
  rows_divided zero h l f = refl
  rows_divided (suc m) h l f =
      ap₂ {C = List (List ℕ)} ◌∷◌
      (ext_get_or 0 (at n m ws) (quotient (at n m zs) g) (a ∙ sym (length_quotient (at n m zs) g ∙ at_length n (suc m) m zs (omega arith) h)) (λ j s. cell j (omega (arith, a))))
      (rows_divided m (omega (arith, suc-mul m n)) (omega (arith, suc-mul m n)) (λ j s. f j (omega (arith, suc-mul m n))))
    where
      a : length (at n m ws) ≡ n
      a = at_length n (suc m) m ws (omega arith) l

      cell : (j : ℕ) → j < n → get_or (at n m ws) j 0 ≡ get_or (quotient (at n m zs) g) j 0
      cell j s =
          at_cell n m j ws s
          ∙ f (m * n + j) (omega (arith, suc-mul m n))
          ∙ ap₂ (λ (x v : ℕ). x - get_or g v 0) (sym (at_cell n m j zs s)) (mul-add-mod_self_right m n j ∙ mod-eq_of_lt s)
          ∙ sym (quotient_cell (at n m zs) g j)

module _ (n s t m k : ℕ) (xs ys g room a b c : List ℕ) (e : length g ≡ n) (h : length xs ≡ s * n) (l : t * n ≤ length ys) (r : (s + t) * n ≤ length room) (em : m ≡ t * n)
    (v : Wrote room (λ j. get_or xs j 0 - get_or g (j % length g) 0) 0 (length xs) a)
    (w : Wrote a (λ j. get_or (take m ys) j 0 - get_or g (j % length g) 0) (length xs) (length (take m ys)) b) where
  both_cell : (j : ℕ) → j < (s + t) * n → get_or b j 0 ≡ get_or (xs ++ ys) j 0 - get_or g (j % n) 0
  both_cell j q = go (ltb j (length xs)) refl
    where
      go : (o : Bool) → ltb j (length xs) ≡ o → get_or b j 0 ≡ get_or (xs ++ ys) j 0 - get_or g (j % n) 0
      go true p =
          let i : j ≡ 0 + j = omega arith in
          w.other j (inl (ltb-true j (length xs) p))
          ∙ ap (λ (z : ℕ). get_or a z 0) i
          ∙ v.there j (ltb-true j (length xs) p)
          ∙ ap₂ (λ (x z : ℕ). x - get_or g (j % z) 0) (sym (get_or-append xs ys 0 j (ltb-true j (length xs) p))) e
      go false p =
          let i : j ≡ length xs + (j - length xs) = omega (arith, ltb-false j (length xs) p) in
          let d : j - length xs < t * n = omega (arith, ltb-false j (length xs) p, add-mul s t n) in
          let x : j ≡ s * n + (j - length xs) = omega arith in
          ap (λ (z : ℕ). get_or b z 0) i
          ∙ w.there (j - length xs) (simp length-take (omega arith))
          ∙ ap₂ (λ (y z : ℕ). y - get_or g ((j - length xs) % z) 0) (get_or-take m ys (j - length xs) 0 (omega arith)) e
          ∙ ap₂ (λ (y z : ℕ). y - get_or g z 0) (sym (ap (λ (z : ℕ). get_or (xs ++ ys) z 0) i ∙ get_or-append-add xs ys (j - length xs) 0)) (sym (ap (λ (z : ℕ). z % n) x ∙ mul-add-mod_self_right s n (j - length xs)))

  pub carries_divided : Thinned n (s + t) b k c → (k ≤ s + t) × Carries n k (colon (both n s xs t ys) g) room c
  carries_divided y = (
    y.less,
    record {
      len = y.len ∙ w.len ∙ v.len;
      same = λ u. y.same u
          ∙ ap (λ (K : List (List ℕ)). multiple K u) (rows_divided n (xs ++ ys) b g e (s + t) (rw length-append (omega (arith, add-mul s t n))) (omega (arith, w.len, v.len)) both_cell)
          ∙ multiple_colon (rows n (s + t) (xs ++ ys)) g u
          ∙ rows_same n (s + t) (xs ++ ys) (product g u)
          ∙ ap (λ (L : List (List ℕ)). multiple L (product g u)) (listed_append n s t xs ys h)
          ∙ sym (multiple_colon (both n s xs t ys) g u);
    },
  )

-- one turn of the loop over the cells
module _ (cells g : List ℕ) (q : 0 < length cells → 0 < length g) (i v : ℕ) (h : i < length cells) (e : v ≡ i % length g) where
  pub place_in : v < length g
  place_in = rw e (mod-lt i (q (omega arith)))

  pub cell_less : (y : ℕ) → y ≡ get_or cells i 0 - get_or g v 0 → y ≡ get_or cells i 0 - get_or g (i % length g) 0
  cell_less y f = f ∙ ap (λ (z : ℕ). get_or cells i 0 - get_or g z 0) e
