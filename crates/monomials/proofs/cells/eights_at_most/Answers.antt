-- The chain tests each pair of chunks. Rests on `chunks_divide`.
use mathlib.Core.Path.{ap, ap₂, ◌∙◌}
use mathlib.Core.List.{List}
use Prim.Native.Nat.{ℕ, ◌/◌, ◌%◌}
use native.Mathlib.Omega.{arith}
use lib.ListN.{length, drop, length-drop}
use Rattle.std.proofs.Common.{rules}
use borrow.Author.Tests.{tests}
use Rattle.std.proofs.lemmas.Iterator.{YieldsList-from_slice, YieldsList-from_zip}
use Rattle.std.proofs.lemmas.Iterator.Search.{all_from_yields_List}
use Rattle.std.specs.List.{zip, list_all}
use Rattle.std.specs.Simd.{first_chunks}
use Rattle.laws.specs.Monomial.{divides}
use Rattle.monomials.proofs.Chunks.{chunks_divide}
use Rattle.monomials.proofs.cells.eights_at_most.Goals as goal

pub returns : goal.returns
returns c =
    let a = c.args.a.now in
    let b = c.args.b.now in
    let xs = c.as_rchunks.ensures.back in
    let ys = c.as_rchunks-2.ensures.back in
    all_from_yields_List (λ p. divides p.0 p.1) c.all.new.self _ c.all.result c.all.ensures.ran (YieldsList-from_zip (YieldsList-from_slice c.as_rchunks.result.1.now (cc)) (YieldsList-from_slice c.as_rchunks-2.result.1.now (cc))) (λ x b q k. search (rules, tests))
    ∙ ap₂ (λ (us vs : List (List ℕ)). list_all (λ (p : List ℕ × List ℕ). divides p.0 p.1) (zip us vs)) xs (ys ∙ ap (λ (n : ℕ). first_chunks 8 (n / 8) (drop (length b % 8) b)) c.requires)
    ∙ chunks_divide 8 (length a / 8) (drop (length a % 8) a) (drop (length b % 8) b) (omega (arith, length-drop (length a % 8) a))
