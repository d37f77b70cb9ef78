-- What is known of a call after its checks: the answer that they give says whether they passed.
--   passed, refused   the call's answer, where they passed and where they refused
--   width_passed      check 1 passed, so the width is allowed
-- Assumes nothing.
use mathlib.Core.Path.{◌≡◌, refl}
use mathlib.Core.Bool.{Bool, true, false, cond}
use mathlib.Core.List.{[], ◌∷◌}
use mathlib.Core.Option.{Option, none, some}
use Prim.Native.Nat.{ℕ, ◌≤◌}
use lib.Dec.{ltb}
use borrow.Author.Tests.{ltb-false}
use Rattle.std.specs.Prelude.{Ok, Err, ⊤}
use Rattle.monomials.specs.Refusal.{refusal, answer, too_wide}
use Rattle.monomials.specs.declared.refusal.Refusal.{Refusal}
use Rattle.monomials.specs.declared.refusal.Refusal.TheVariants.{Width}

pub passed : {A : Type 0} (r : Option Refusal) (x : A) (u : ⊤) → Ok u ≡ answer r tt → Ok x ≡ answer r x
passed none x u h = refl
passed (some q) x u h = cc

pub refused : {A : Type 0} (r : Option Refusal) (x : A) (q : Refusal) → Err q ≡ answer {A = ⊤} r tt → Err q ≡ answer r x
refused none x q h = cc
refused (some p) x q h = cc

pub width_passed : (W n : ℕ) (u : ⊤) → Ok u ≡ answer (refusal (too_wide W n ∷ [])) tt → n ≤ W
width_passed W n u h = ltb-false W n (go (ltb W n) h)
  where
    go : (t : Bool) → Ok u ≡ answer (cond t (some Width) none) tt → t ≡ false
    go true e = cc
    go false e = refl
