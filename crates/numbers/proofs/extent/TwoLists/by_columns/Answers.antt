use Rattle.std.proofs.Common.{◌≡◌, ℕ, ◌<◌, List, length, refl, sym, ap, ◌∙◌, subst, arith}
use Rattle.laws.specs.Monomial.{degree}
use Rattle.laws.specs.Room.{column}
use Rattle.laws.proofs.Asked.{greatest}
use Rattle.laws.proofs.Column.{above}
use Rattle.laws.proofs.Columns.{Greatest, Joined, Single, joined_all, pairs_greatest, pairs_single, single_all}
use Rattle.numbers.proofs.AskedColumns.{degree_known}
use Rattle.numbers.proofs.BothLists.{alone, there}
use Rattle.numbers.specs.BothLists.{all}
use Rattle.numbers.specs.declared.extent.TwoLists.{TwoLists}
use Rattle.numbers.proofs.extent.TwoLists.by_columns.Goals as goal

-- the first list is all there is
module _ (x : TwoLists) (e : x.t ≡ 0) (vs : List ℕ) where
  most : (length vs ≡ x.n) × Joined x.n x.s x.xs.now x.s vs → Greatest x.n (all x) vs
  most j = subst (λ (L : List (List ℕ)). Greatest x.n L vs) (alone x e) (joined_all x.n x.s x.xs.now vs vs j.0 (refl, subst (λ (k : ℕ). Joined k x.s x.xs.now x.s vs) (sym j.0) j.1))

  single : Single x.n x.s x.xs.now x.s → (v : ℕ) → v < x.n → degree (column (all x) v) ≡ greatest (column (all x) v)
  single s = subst (λ (L : List (List ℕ)). (v : ℕ) → v < x.n → degree (column L v) ≡ greatest (column L v)) (alone x e) (single_all x.n x.s x.xs.now s)

pub pairs_by_columns-requires : goal.pairs_by_columns-requires
pairs_by_columns-requires c =
    let j = c.join_all-common in
    most c.args.self.now c.requires.alone j.new.us j.ensures.joined

pub returns-then-common-eq0 : goal.returns-then-common-eq0
returns-then-common-eq0 c =
    let x = c.args.self.now in
    let j = c.join_all-common in
    let g = most x c.requires.alone j.new.us j.ensures.joined in
    let f = single x c.requires.alone j.new.us (j.ensures.single c.if-common-eq0.true) in
    let d = degree_known (there x) g c.degree-degree.result c.degree-degree.ensures in
    record { count = c.used.ensures ∙ ap (above 1 0 1 j.new.us) g.len ∙ pairs_single g f; sum = d.0; most = d.1 }

pub returns-then-greatest_of-lt2 : goal.returns-then-greatest_of-lt2
returns-then-greatest_of-lt2 c =
    let x = c.args.self.now in
    let j = c.join_all-common in
    let g = most x c.requires.alone j.new.us j.ensures.joined in
    let e = c.degree-degree in
    let d = degree_known (there x) g e.result e.ensures in
    record { count = e.ensures.0 ∙ pairs_greatest g (omega (arith, c.if-greatest_of-lt2.true, c.greatest_of.ensures)); sum = d.0; most = d.1 }

pub returns-else-greatest_of-lt2 : goal.returns-else-greatest_of-lt2
returns-else-greatest_of-lt2 c =
    let x = c.args.self.now in
    let j = c.join_all-common in
    let g = most x c.requires.alone j.new.us j.ensures.joined in
    let d = degree_known (there x) g c.degree-degree.result c.degree-degree.ensures in
    record { count = c.pairs_by_columns.ensures; sum = d.0; most = d.1 }
