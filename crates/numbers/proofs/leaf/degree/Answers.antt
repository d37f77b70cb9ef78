use Rattle.std.proofs.Common.{◌≡◌, ℕ, ◌+◌, ◌*◌, ◌<◌, ◌≤◌, List, [], ◌∷◌, length, get_or, fold, sum, suc, arith, rules}
use Rattle.laws.specs.Monomial.{degree}
use Rattle.numbers.proofs.leaf.degree.Goals as goal

fold_degree : (xs : List ℕ) (d : ℕ) → fold ◌+◌ d xs ≡ d + degree xs
fold_degree [] d = omega arith
fold_degree (x ∷ xs) d = omega (arith, fold_degree xs (d + x))

degree_most : (xs : List ℕ) → ((k : ℕ) → get_or xs k 0 < 65536) → degree xs ≤ length xs * 65535
degree_most [] f = omega arith
degree_most (x ∷ xs) f = omega (arith, f 0, degree_most xs (λ k. f (suc k)))

pub returns : goal.returns
returns c =
    let a = c.args.a.now in
    let e : c.sum-degree.result ≡ sum a = search rules in
    let m = degree_most a (λ k. omega (arith, c.type_inv.a k)) in
    (omega (arith, e, fold_degree a 0), omega (arith, e, fold_degree a 0, m))
