-- How the bridge tells a call's answer: by document 01's number, and by the words that `values` then holds.
--   told_by f a      == the words of a value, or the refusal
--   number_in t      == the number that is returned: 0, or the refusal's
--   values_in t held == what `values` holds after the call, where it held `held`
--   bit_of b         == 1 for true, 0 for false
-- Assumes nothing.
use Rattle.std.specs.Prelude.{Bool, cond, List, [], ◌∷◌, ◌++◌, ℕ, Result, Ok, Err}
use Rattle.monomials.specs.Refusal.{number}
use Rattle.monomials.specs.declared.refusal.Refusal.{Refusal}

abbrev pub told_by : {A : Type 0} → (A → List ℕ) → Result A Refusal → Result (List ℕ) Refusal
told_by words (Ok x) = Ok (words x)
told_by words (Err r) = Err r

abbrev pub number_in : Result (List ℕ) Refusal → ℕ
number_in (Ok words) = 0
number_in (Err r) = number r

abbrev pub values_in : Result (List ℕ) Refusal → List ℕ → List ℕ
values_in (Ok words) held = words ++ 0 ∷ []
values_in (Err r) held = held

abbrev pub bit_of : Bool → ℕ
bit_of b = cond b 1 0
