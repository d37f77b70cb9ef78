-- The refusals' numbers, and a call's order of checks: a list of condition and refusal, of which the first that holds decides.
--   number r      == document 01's number of a refusal
--   Check         == a condition, and the refusal that it asks for
--   refusal cs    == the first refusal whose condition holds, if any
--   too_wide W n   == check 1 of every call: the width n is above W
--   answer r x    == a call's answer: x where nothing was refused, else the refusal
--   after r y x   == what a lent slice holds: y where nothing was refused, else x, what it held
-- Assumes nothing.
use Rattle.std.specs.Prelude.{Bool, cond, List, [], ◌∷◌, ℕ, ltb, Result, Ok, Err}
use Rattle.std.proofs.Math.Option.{Option, none, some}
use Rattle.monomials.specs.declared.refusal.Refusal.{Refusal}
use Rattle.monomials.specs.declared.refusal.Refusal.TheVariants.{Width, Count, Cells, Place, Exponent, Division, CellRoom, CoefficientRoom, SumRoom, Degree, Value, Record, Dimension, Output, Coefficient}

abbrev pub number : Refusal → ℕ
number Width = 1
number Count = 2
number Cells = 3
number Place = 4
number Exponent = 5
number Division = 6
number CellRoom = 7
number CoefficientRoom = 8
number SumRoom = 9
number Degree = 10
number Value = 11
number Record = 12
number Dimension = 13
number Output = 14
number Coefficient = 15

abbrev pub Check : Type 0
Check = Bool × Refusal

abbrev pub refusal : List Check → Option Refusal
refusal [] = none
refusal (c ∷ cs) = cond c.0 (some c.1) (refusal cs)

abbrev pub too_wide : ℕ → ℕ → Check
too_wide W n = (ltb W n, Width)

abbrev pub answer : {A : Type 0} → Option Refusal → A → Result A Refusal
answer none x = Ok x
answer (some r) x = Err r

abbrev pub after : {A : Type 0} → Option Refusal → A → A → A
after none y x = y
after (some r) y x = x
