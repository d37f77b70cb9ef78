use Rattle.std.proofs.Common.{◌≡◌, ℕ, ◌+◌, ◌*◌, ◌<◌, ◌≤◌, subst, ap, get_or, get_or-take, length-take-le, mul-le-mul_left, arith}
use Rattle.laws.proofs.Narrow.{Kept, kept_more, narrowed_kept}
use Rattle.laws.proofs.Rows.{row_end}
use Rattle.numbers.proofs.Runs.{wrote_as}
use Rattle.numbers.proofs.narrow.put_used.Goals as goal

kept_row : (i s w a n L : ℕ) → i < s → w ≤ a → a ≡ n → s * n ≤ L → i * w + w ≤ L
kept_row i s w a n L h g e l = let f : w ≤ n = omega arith in omega (arith, row_end w s i h, mul-le-mul_left s f)

pub loop-i-preserved : goal.loop-i-preserved
loop-i-preserved c =
    let w = c.places-w.result in
    let ps = c.places-w.new.ps in
    let m = c.row.result.now in
    let e = length-take-le w ps (omega arith) in
    let k = wrote_as (λ j. get_or m (get_or ps j 0) 0) w e (λ j l. ap (λ (i : ℕ). get_or m i 0) (get_or-take w ps j 0 l)) c.pick.ensures in
    kept_more c.args.list.now.n w ps c.args.list.now.cells.now c.args.room.now c.loop-i.i c.loop-i.room c.pick.new.room m c.row.ensures k c.loop-i.invariant

pub returns : goal.returns
returns c =
    let a = c.args.list.now in
    let j = c.join_all.ensures.joined in
    let k = subst (λ (k : ℕ). Kept a.n c.places-w.result c.places-w.new.ps a.cells.now c.args.room.now k c.loop-i.room) (omega arith) c.loop-i.invariant in
    narrowed_kept a.n a.count c.join_all.new.us a.cells.now c.args.room.now c.places-w.result c.loop-i.room c.places-w.new.ps j.0 c.requires.fits.0 c.requires.fits.1 j.1 c.places-w.ensures.1 k
