-- Bytes as the code writes them.
--   put_run       a part of an output that other bytes were copied into is a run of places
--   big_endian_is bytes of a number, the greatest first, are those of the crate laws
-- Assumes nothing.
use mathlib.Core.Path.{◌≡◌, refl, sym, ◌∙◌}
use mathlib.Core.List.{List, append_assoc}
use Prim.Native.Nat.{ℕ, zero, suc, ◌+◌, ◌≤◌}
use native.Mathlib.Nat.{div-one}
use borrow.Rule.Slice.PartMut.{put_mid}
use lib.ListN.{length, take, drop}
use lib.Seq.{drop-drop, sets, sets-eq}
use Rattle.std.specs.Int.{bytes_high_first}
use Rattle.laws.specs.Record.{big_endian}
use Rattle.laws.proofs.Monomial.{cons_eq}

pub put_run : (at k : ℕ) (out bytes : List ℕ) → k ≡ length bytes → at + length bytes ≤ length out → put_mid at k out bytes ≡ sets out at bytes
put_run at k out bytes e h = rw (e, drop-drop) (sym (sets-eq bytes out at h ∙ append_assoc (take at out) bytes (drop (at + length bytes) out)))

pub big_endian_is : (k x : ℕ) → bytes_high_first k x ≡ big_endian k x
big_endian_is zero x = refl
big_endian_is (suc zero) x = rw div-one refl
big_endian_is (suc (suc k)) x = cons_eq refl (big_endian_is (suc k) x)
