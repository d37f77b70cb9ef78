-- What an answer tells of a call's checks.
--   ok_passes, ok_value   a value: no check refuses, and the value is the call's own
--   err_refuses           a refusal: it is that of the first check that refuses
-- Assumes nothing.
use mathlib.Core.Path.{◌≡◌, refl, ap}
use mathlib.Core.Option.{Option, none, some}
use Rattle.std.proofs.Common.{ℕ, arith}
use Rattle.std.specs.Prelude.{Ok, Err}
use Rattle.monomials.specs.Refusal.{answer}
use Rattle.monomials.specs.declared.refusal.Refusal.{Refusal}

pub ok_passes : {A : Type 0} (o : Option Refusal) (x y : A) → answer o x ≡ Ok y → o ≡ none
ok_passes none x y e = refl
ok_passes (some r) x y e = let z : ◌≡◌ {A = ℕ} 0 1 = cc in absurd (omega arith)

pub ok_value : {A : Type 0} (o : Option Refusal) (x y : A) → answer o x ≡ Ok y → y ≡ x
ok_value none x y e = cc
ok_value (some r) x y e = let z : ◌≡◌ {A = ℕ} 0 1 = cc in absurd (omega arith)

pub err_refuses : {A : Type 0} (o : Option Refusal) (x : A) (r : Refusal) → answer o x ≡ Err r → o ≡ some r
err_refuses none x r e = let z : ◌≡◌ {A = ℕ} 0 1 = cc in absurd (omega arith)
err_refuses (some q) x r e = ap some (cc)
