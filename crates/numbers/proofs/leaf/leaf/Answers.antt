use Rattle.std.proofs.Common.{◌≡◌, ℕ, ◌≤◌, false, List, ◌++◌, length, take, drop, ℤ, sym, ◌∙◌, subst, le_trans, le_of_eq, length-take-le, take_at, drop_at, replicate, pos, rules}
use Rattle.laws.proofs.Lists.{replicate_constant}
use Rattle.laws.proofs.Added.{AddedTo, Zeros, zeros_back, zeros_part}
use Rattle.laws.proofs.Leaf.{by, leaf_sums, past_as}
use Rattle.laws.specs.Coefficients.{coefficient, shift}
use lib.Seq.{length_front}
use Rattle.numbers.proofs.leaf.leaf.Goals as goal

-- q at the front of s, w cells, and then z in its place
front_held : (w : ℕ) (q s : List ℤ) → length q ≡ length (take w s) → w ≤ length s → w ≤ length (q ++ drop w s)
front_held w q s h g = le_trans g (le_of_eq (sym (length_front s q w h)))

front_length : (w : ℕ) (q s : List ℤ) → length q ≡ length (take w s) → w ≤ length s → length (take w (q ++ drop w s)) ≡ w
front_length w q s h g = length-take-le w (q ++ drop w s) (front_held w q s h g)

back_length : (w : ℕ) (q s z : List ℤ) → length q ≡ length (take w s) → length z ≡ length (take w (q ++ drop w s)) → length (z ++ drop w (q ++ drop w s)) ≡ length s
back_length w q s z h f = length_front (q ++ drop w s) z w f ∙ length_front s q w h

back_zeros : (w : ℕ) (q s z : List ℤ) → length q ≡ length (take w s) → w ≤ length s → length z ≡ length (take w (q ++ drop w s)) → Zeros s → Zeros z → Zeros (z ++ drop w (q ++ drop w s))
back_zeros w q s z h g f a b =
    subst (λ (x : List ℤ). Zeros (z ++ x)) (sym (drop_at q (drop w s) w (h ∙ length-take-le w s g))) (zeros_back s z w (f ∙ front_length w q s h g) a b)

zeros_filled : (n : ℕ) (z : List ℤ) → z ≡ replicate n (pos 0) → Zeros z
unfolding Zeros
zeros_filled n z e k = rw e (replicate_constant (pos 0) n k)

pub product-requires : goal.product-requires
product-requires c =
    record { width = c.requires.width; zeros = zeros_part c.args.scratch.now c.span-w.result c.requires.scratch_len.1 }

pub returns : goal.returns
returns c =
    let a = c.args in
    let w = c.span-w.result in
    let q = c.product.new.scratch in
    let s = a.scratch.now in
    let g = c.span-w.ensures.0 in
    let e = length-take-le w s g in
    let h = c.product.ensures.len in
    let f : c.fill.new.self ≡ replicate (length (take w (q ++ drop w s))) (pos 0) = search rules in
    let z : Zeros c.fill.new.self = zeros_filled _ c.fill.new.self f in
    record {
      added_to =
          leaf_sums a.seed.now a.list.now.n a.list.now.count a.shift a.list.now.cells.now (length (take w s)) q a.out.now c.add_shifted.new.out (past_as _ _ _ _ _ _ _ _ (sym e) c.requires.scratch_len.0 c.span-w.ensures.1) c.requires.pairwise_coprime c.product.ensures
          (subst (λ (x : List ℤ). AddedTo (shift a.shift (λ k. by false (coefficient x k))) a.out.now c.add_shifted.new.out) (take_at q (drop w s) w (h ∙ e)) c.add_shifted.ensures);
      scratch_len_unchanged = (
        back_length w q s c.fill.new.self h c.fill.ensures.len,
        back_zeros w q s c.fill.new.self h g c.fill.ensures.len c.requires.scratch_len.1 z,
      );
    }
