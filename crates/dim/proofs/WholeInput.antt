-- The 30,608 bytes that `dim` reads at most are answered as the whole input. Rests on `cut_input`.
-- Assumes nothing.
use mathlib.Core.Path.{◌≡◌}
use mathlib.Core.Bool.{true}
use mathlib.Core.List.{List}
use Prim.Native.Nat.{ℕ}
use lib.Dec.{lit<}
use lib.ListN.{take, replicate}
use lib.Pow.{are_bytes}
use Rattle.records.proofs.LongInput.{cut_input}
use Rattle.dim.specs.Dim.{dim_bytes}

pub whole_input : (input : List ℕ) → are_bytes input ≡ true → dim_bytes 255 60 65536 26 (take 30608 input) ≡ dim_bytes 255 60 65536 26 input
whole_input input h = cut_input 255 60 65536 26 30608 input (replicate 26 0) h (lit< tt)
