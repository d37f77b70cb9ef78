-- `compare` meets its contract: whether the first j elements are right. Rests on `checking_more`.
use Rattle.std.proofs.Common.{◌≡◌, ◌<◌, length, get_or, map, sym, ap, ◌∙◌, arith, refl}
use Rattle.std.proofs.lemmas.List.{get_or_read}
use lib.ListN.{length-map, get_or-map}
use Rattle.vectors.proofs.Holding.{checking_more}
use Rattle.vectors.proofs.rooms.compare.Goals as goal

pub loop-j-preserved : goal.loop-j-preserved
loop-j-preserved g c =
    let f = g.T.Element.bits in
    let xs = c.args.room.now in
    let j = c.loop-j.j in
    let z = c.index-room-j.result in
    let inside : j < length (map f xs) = simp length-map (omega arith) in
    let same : f z ≡ get_or (map f xs) j (f z) = ap f c.index-room-j.is ∙ sym (get_or-map f xs j z) in
    checking_more _ _ _ c.bits.result c.wanted_at-want.result.bits c.loop-j.invariant inside (c.bits.ensures ∙ get_or_read (map f xs) j (f z) inside same 0) c.wanted_at-want.ensures refl
