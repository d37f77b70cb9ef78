-- What is read of an input is answered as the whole. Rests on `whole_input`.
use Rattle.std.proofs.Common.{◌≡◌, ℕ, ◌≤◌, ◌<◌, Bool, true, false, List, [], ◌∷◌, ◌++◌, Option, Some, None, length, take, refl, sym, ap, ◌∙◌, subst, append-nil, arith, ltb, lt-ltb, IfSome, All}
use Rattle.std.proofs.lemmas.List.{take_at}
use Rattle.std.proofs.lemmas.List.Elements.{All-head, All-tail}
use Rattle.std.proofs.lemmas.Result.{on_ok_weaker}
use Rattle.std.proofs.Math.Nat.{sub-zero}
use Rattle.std.proofs.Math.Pow.{are_bytes}
use Rattle.std.proofs.Math.Seq.{length-take-le, take_all}
use Rattle.std.specs.Io.KnownBytes.{Appends, Consumes, IsAtEnd}
use borrow.Author.Tests.{ltb-true, ltb-false}
use Rattle.dim.specs.Dim.{dim_bytes}
use Rattle.dim.proofs.WholeInput.{whole_input}
use Rattle.dim.proofs.answer.Goals as goal

-- what is read into k bytes is an input, or its first k bytes
taken : (k n : ℕ) (room xs ys : List ℕ) → length room ≡ k → n ≤ length room → xs ≡ take n room ++ ys → (n < length room → ys ≡ []) → take k xs ≡ take n room
taken k n room xs ys s h p e = go (ltb n k) refl
  where
    size : length (take n room) ≡ n
    size = length-take-le n room h

    go : (t : Bool) → ltb n k ≡ t → take k xs ≡ take n room
    go true w =
        let none : ys ≡ [] = e (omega (arith, ltb-true n k w, s)) in
        let all : xs ≡ take n room = p ∙ ap (λ l. take n room ++ l) none ∙ append-nil (take n room) in
        take_all k xs (omega (arith, ap length all, size, h)) ∙ all
    go false w =
        let same : k ≡ n = omega (arith, ltb-false n k w) in
        ap (λ m. take m xs) same ∙ ap (take n) p ∙ take_at (take n room) ys n size

are_bytes-below : (xs : List ℕ) → All (λ byte. byte < 256) xs → are_bytes xs ≡ true
are_bytes-below [] h = refl
are_bytes-below (x ∷ xs) h =
    let low : x < 256 = All-head (λ byte. byte < 256) x xs h in
    rw (lt-ltb x 256 low) (are_bytes-below xs (All-tail (λ byte. byte < 256) x xs h))

-- a is what the input had, b what is left of it; old is what the output held, new what it holds when out is written
written : (n : ℕ) (room out : List ℕ) (a b old new : Option (List ℕ)) → length room ≡ 30608 → n ≤ length room → Consumes a b (take n room)
    → (n < length room → IsAtEnd b) → out ≡ dim_bytes 255 60 65536 26 (take n room) → Appends old new out
    → IfSome a (λ bytes. All (λ byte. byte < 256) bytes → Appends old new (dim_bytes 255 60 65536 26 bytes))
written n room out None b old new s h p e g w = tt
written n room out (Some xs) None old new s h p e g w = absurd p
written n room out (Some xs) (Some ys) old new s h p e g w =
    λ f. subst (Appends old new) (g ∙ ap (dim_bytes 255 60 65536 26) (sym (taken 30608 n room xs ys s h p e)) ∙ whole_input xs (are_bytes-below xs f)) w

pub returns : goal.returns
returns g c =
    let n = c.in_ok-size.size in
    let room = c.read_full.new.room in
    on_ok_weaker c.write_all.result (written n room _ _ _ _ _ (omega arith) c.in_ok-size.ensures.within.0 c.in_ok-size.ensures.bytes c.in_ok-size.ensures.end (c.answer_to-out.ensures ∙ ap (λ m. dim_bytes 255 60 65536 26 (take m room)) (sub-zero n))) c.write_all.ensures.bytes
