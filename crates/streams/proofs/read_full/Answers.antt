-- What the reads so far gave, and what the next one gives, stands at the front of the slice.
use Rattle.std.proofs.Common.{◌≡◌, ℕ, ◌+◌, ◌-◌, ◌≤◌, List, Option, Some, None, ◌++◌, length, take, ap, ◌∙◌, sym, subst, append_assoc, arith}
use Rattle.std.proofs.lemmas.List.{take-append-le}
use Rattle.std.proofs.Math.Seq.{take-append-add, length-take-le}
use Rattle.std.specs.Io.KnownBytes.{Consumes}
use borrow.Rule.Slice.PartMut.{put_mid, post_of}
use Rattle.streams.proofs.read_full.Goals as goal

front : (a k n : ℕ) (xs ys : List ℕ) → a ≤ length xs → n ≤ length ys → take (a + n) (put_mid a k xs ys) ≡ take a xs ++ take n ys
front a k n xs ys h g =
    let p = take a xs in
    let rest = ys ++ post_of a k xs in
    let e : a + n ≡ length p + n = omega (arith, length-take-le a xs h) in
    ap (λ m. take m (p ++ rest)) e ∙ take-append-add p rest n ∙ ap (λ l. p ++ l) (take-append-le n ys (post_of a k xs) g)

Consumes-both : (a b c : Option (List ℕ)) (xs ys : List ℕ) → Consumes a b xs → Consumes b c ys → Consumes a c (xs ++ ys)
Consumes-both None b c xs ys p q = tt
Consumes-both (Some l) None c xs ys p q = absurd p
Consumes-both (Some l) (Some m) None xs ys p q = absurd q
Consumes-both (Some l) (Some m) (Some n) xs ys p q = p ∙ ap (λ k. xs ++ k) q ∙ sym (append_assoc xs ys n)

pub loop-size-preserved : goal.loop-size-preserved
loop-size-preserved g c =
    let size = c.loop-size.size in
    let room = c.loop-size.room in
    (omega (arith, c.in_ok-n.ensures.bound.0), subst (Consumes _ _) (sym (front size (length room - size) c.in_ok-n.n room c.read.new.buf (omega arith) c.in_ok-n.ensures.bound.0)) (Consumes-both _ _ _ _ _ c.loop-size.invariant.1 c.in_ok-n.ensures.bytes.0))
