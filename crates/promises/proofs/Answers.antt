-- An answer and its number: each answer is made of what was refused, if anything, and a value.
--   told_number       its number is that of what was refused
--   told_first        so it is that of the first rule that holds
--   told_after        and it tells what a lent slice holds
-- Assumes nothing.
use mathlib.Core.Path.{◌≡◌, refl}
use mathlib.Core.List.{List}
use mathlib.Core.Option.{Option, none, some}
use Prim.Native.Nat.{ℕ}
use Rattle.monomials.specs.declared.refusal.Refusal.{Refusal}
use Rattle.monomials.specs.Refusal.{Check, refusal, after, answer}
use Rattle.records.specs.Host.{status}
use Rattle.bridge.specs.Told.{number_in, told_by}
use Rattle.promises.specs.Promise.{Rule, First, After}
use Rattle.promises.proofs.Checks.{Means, first_holds, after_status}
use Rattle.std.specs.Prelude.{Result}

pub told_number : {A : Type 0} (words : A → List ℕ) (x : A) (o : Option Refusal) → number_in (told_by words (answer o x)) ≡ status o
told_number words x none = refl
told_number words x (some r) = refl

pub told_first : {A : Type 0} (words : A → List ℕ) (x : A) (cs : List Check) {a : Result A Refusal} {rs : List Rule} → a ≡ answer (refusal cs) x → Means cs rs → First rs (number_in (told_by words a))
told_first words x cs {rs = rs} p m = record { decided = rw (p, told_number words x (refusal cs)) (first_holds cs rs m) }

pub told_after : {A B : Type 0} (words : A → List ℕ) (x : A) (o : Option Refusal) {a : Result A Refusal} {w y z : B} → a ≡ answer o x → w ≡ after o z y → After (number_in (told_by words a)) w y z
told_after words x o {y = y} {z = z} p q = rw (q, p, told_number words x o) (after_status o y z)
