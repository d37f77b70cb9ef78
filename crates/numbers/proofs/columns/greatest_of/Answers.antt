use Rattle.std.proofs.Common.{◌≡◌, ℕ, max, List, [], ◌∷◌, fold, ◌∙◌, arith, rules}
use Rattle.laws.proofs.Asked.{greatest}
use Rattle.numbers.proofs.columns.greatest_of.Goals as goal

fold_max : (xs : List ℕ) (b : ℕ) → fold max b xs ≡ max b (greatest xs)
fold_max [] b = omega arith
fold_max (x ∷ xs) b = fold_max xs (max b x) ∙ omega arith

pub returns : goal.returns
returns c =
    let e : c.fold.result ≡ fold max 0 c.args.cells.now = search rules in
    omega (arith, e, fold_max c.args.cells.now 0)
