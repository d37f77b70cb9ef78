-- Laws of the integers that the library lacks.
--   add_swap           (a + b) + (c + d) = (a + c) + (b + d)
--   sub_swap           (a − b) + (c − d) = (a + c) − (b + d)
--   sub_of_sub         (a − b) − (c − d) = (a − c) − (b − d)
--   sub_self, sub_zero a − a = 0, a − 0 = a
--   pos_sub            (a + b) − b = a, for naturals
--   cancel_add         sums with equal second parts are equal only where the first parts are
--   mul_add            x · (y + z) = x · y + x · z
--   abs_add, abs_sub   the magnitude of a sum or difference is at most the sum of the magnitudes
--   abs_neg            −z has the magnitude of z
--   pos_injective      naturals that are equal as integers are equal
use mathlib.Core.Path.{◌≡◌, refl, sym, ap, ap₂, ◌∙◌}
use mathlib.Core.Bool.{Bool, true, false, cond}
use Prim.Native.Nat.{ℕ, zero, suc, ◌+◌, ◌-◌, ◌≤◌}
use native.Mathlib.Omega.{arith}
use lib.Dec.{ltb}
use borrow.Author.Tests.{ltb-true, ltb-false}
use lib.IntN.{ℤ, pos, negsuc, neg_ℤ, nat_abs, sub_ℕ, pred_ℤ, ◌+ℤ◌, ◌-ℤ◌, ◌*ℤ◌, +ℤ_comm, +ℤ_assoc, +ℤ_idl, +ℤ_idr, +ℤ_invr, +ℤ-suc_ℤ, +ℤ-pred_ℤ, suc_ℤ-*ℤ, pred_ℤ-*ℤ, zero-*ℤ, *ℤ_comm, neg_ℤ-+ℤ, +ℤ-neg_ℤ_cancel, pos-+ℤ-pos}

pub pos_injective : (a b : ℕ) → pos a ≡ pos b → a ≡ b
pos_injective a b e = cc

pub add_swap : (a b c d : ℤ) → (a +ℤ b) +ℤ (c +ℤ d) ≡ (a +ℤ c) +ℤ (b +ℤ d)
add_swap a b c d =
    +ℤ_assoc a b (c +ℤ d)
    ∙ ap (λ (z : ℤ). a +ℤ z) (sym (+ℤ_assoc b c d) ∙ ap (λ (z : ℤ). z +ℤ d) (+ℤ_comm b c) ∙ +ℤ_assoc c b d)
    ∙ sym (+ℤ_assoc a c (b +ℤ d))

pub sub_swap : (a b c d : ℤ) → (a -ℤ b) +ℤ (c -ℤ d) ≡ (a +ℤ c) -ℤ (b +ℤ d)
sub_swap a b c d = add_swap a (neg_ℤ b) c (neg_ℤ d) ∙ ap (λ (z : ℤ). (a +ℤ c) +ℤ z) (sym (neg_ℤ-+ℤ b d))

pub sub_of_sub : (a b c d : ℤ) → (a -ℤ b) -ℤ (c -ℤ d) ≡ (a -ℤ c) -ℤ (b -ℤ d)
sub_of_sub a b c d =
    ap (λ (z : ℤ). (a -ℤ b) +ℤ z) (neg_ℤ-+ℤ c (neg_ℤ d))
    ∙ add_swap a (neg_ℤ b) (neg_ℤ c) (neg_ℤ (neg_ℤ d))
    ∙ ap (λ (z : ℤ). (a -ℤ c) +ℤ z) (sym (neg_ℤ-+ℤ b (neg_ℤ d)))

pub sub_self : (a : ℤ) → a -ℤ a ≡ pos 0
sub_self a = +ℤ_invr a

pub sub_zero : (a : ℤ) → a -ℤ pos 0 ≡ a
sub_zero a = +ℤ_idr a

pub pos_sub : (a b : ℕ) → pos (a + b) -ℤ pos b ≡ pos a
pos_sub a b = ap (λ (z : ℤ). z -ℤ pos b) (sym (pos-+ℤ-pos a b)) ∙ +ℤ-neg_ℤ_cancel (pos a) (pos b)

pub cancel_add : (a b c e : ℤ) → a +ℤ c ≡ b +ℤ e → c ≡ e → a ≡ b
cancel_add a b c e h q = sym (+ℤ-neg_ℤ_cancel a c) ∙ ap₂ ◌-ℤ◌ h q ∙ +ℤ-neg_ℤ_cancel b e

-- products, by steps of the second part of the sum

add_mul_up : (a : ℤ) (n : ℕ) (c : ℤ) → (a +ℤ pos n) *ℤ c ≡ a *ℤ c +ℤ pos n *ℤ c
add_mul_up a zero c = rw (+ℤ_idr a, zero-*ℤ c, +ℤ_idr)
add_mul_up a (suc n) c =
    ap (λ (z : ℤ). z *ℤ c) (+ℤ-suc_ℤ a (pos n))
    ∙ suc_ℤ-*ℤ (a +ℤ pos n) c
    ∙ ap (λ (z : ℤ). z +ℤ c) (add_mul_up a n c)
    ∙ +ℤ_assoc (a *ℤ c) (pos n *ℤ c) c
    ∙ ap (λ (z : ℤ). a *ℤ c +ℤ z) (sym (suc_ℤ-*ℤ (pos n) c))

add_mul_down : (a : ℤ) (n : ℕ) (c : ℤ) → (a +ℤ negsuc n) *ℤ c ≡ a *ℤ c +ℤ negsuc n *ℤ c
add_mul_down a zero c =
    ap (λ (z : ℤ). z *ℤ c) (+ℤ-pred_ℤ a (pos zero) ∙ ap pred_ℤ (+ℤ_idr a))
    ∙ pred_ℤ-*ℤ a c
    ∙ ap (λ (z : ℤ). a *ℤ c +ℤ z) (sym (pred_ℤ-*ℤ (pos zero) c ∙ ap (λ (z : ℤ). z -ℤ c) (zero-*ℤ c) ∙ +ℤ_idl (neg_ℤ c)))
add_mul_down a (suc n) c =
    ap (λ (z : ℤ). z *ℤ c) (+ℤ-pred_ℤ a (negsuc n))
    ∙ pred_ℤ-*ℤ (a +ℤ negsuc n) c
    ∙ ap (λ (z : ℤ). z -ℤ c) (add_mul_down a n c)
    ∙ +ℤ_assoc (a *ℤ c) (negsuc n *ℤ c) (neg_ℤ c)
    ∙ ap (λ (z : ℤ). a *ℤ c +ℤ z) (sym (pred_ℤ-*ℤ (negsuc n) c))

add_mul : (a b c : ℤ) → (a +ℤ b) *ℤ c ≡ a *ℤ c +ℤ b *ℤ c
add_mul a (pos n) c = add_mul_up a n c
add_mul a (negsuc n) c = add_mul_down a n c

pub mul_add : (x y z : ℤ) → x *ℤ (y +ℤ z) ≡ x *ℤ y +ℤ x *ℤ z
mul_add x y z = *ℤ_comm x (y +ℤ z) ∙ add_mul y z x ∙ ap₂ ◌+ℤ◌ (*ℤ_comm y x) (*ℤ_comm z x)

-- magnitudes

pub abs_neg : (z : ℤ) → nat_abs (neg_ℤ z) ≡ nat_abs z
abs_neg (pos zero) = refl
abs_neg (pos (suc n)) = refl
abs_neg (negsuc n) = refl

abs_mixed : (m n : ℕ) → nat_abs (sub_ℕ m (suc n)) ≤ m + suc n
abs_mixed m n = go (ltb m (suc n)) refl
  where
    go : (b : Bool) → ltb m (suc n) ≡ b → nat_abs (cond b (negsuc (suc n - suc m)) (pos (m - suc n))) ≤ m + suc n
    go true e = omega (arith, ltb-true m (suc n) e)
    go false e = omega (arith, ltb-false m (suc n) e)

pub abs_add : (a b : ℤ) → nat_abs (a +ℤ b) ≤ nat_abs a + nat_abs b
abs_add (pos m) (pos n) = omega arith
abs_add (pos m) (negsuc n) = abs_mixed m n
abs_add (negsuc m) (pos n) = omega (arith, abs_mixed n m)
abs_add (negsuc m) (negsuc n) = omega arith

pub abs_sub : (a b : ℤ) → nat_abs (a -ℤ b) ≤ nat_abs a + nat_abs b
abs_sub a b = omega (arith, abs_add a (neg_ℤ b), abs_neg b)
