use Rattle.std.proofs.Common.{◌≡◌, get_or, length, refl, arith}
use Rattle.laws.proofs.Monomial.{length_quotient}
use Rattle.laws.specs.Monomial.{quotient}
use Rattle.numbers.proofs.Tally.{quotient_at, tallies_all, tallies_next, tally_all, tally_next}
use Rattle.numbers.proofs.few.triple_degrees.Goals as goal

pub loop-i-preserved : goal.loop-i-preserved
loop-i-preserved c =
    let i = c.loop-i.i in
    let a = c.args in
    let t = c.loop-i.invariant in
    let x = get_or a.a.now i 0 in
    let y = get_or a.b.now i 0 in
    let z = get_or a.c.now i 0 in
    let e : length (quotient a.a.now a.c.now) ≡ length (quotient a.b.now a.c.now) = omega (arith, length_quotient a.a.now a.c.now, length_quotient a.b.now a.c.now) in (
      tallies_next t.0 c.requires.0 x y c.add.new.self (omega arith) refl refl (omega arith) (omega arith) c.add.ensures,
      tally_next t.1 z (omega arith) refl (omega arith),
      tallies_next t.2 e c.saturating_sub-p.result c.saturating_sub-q.result c.add-in-loop-i.new.self (omega (arith, length_quotient a.a.now a.c.now))
          (omega (arith, quotient_at a.a.now a.c.now i x z refl refl)) (omega (arith, quotient_at a.b.now a.c.now i y z refl refl)) (omega arith) (omega arith) c.add-in-loop-i.ensures,
    )

pub returns : goal.returns
returns c =
    let a = c.args in
    let t = c.loop-i.invariant in
    let e : length (quotient a.a.now a.c.now) ≡ length (quotient a.b.now a.c.now) = omega (arith, length_quotient a.a.now a.c.now, length_quotient a.b.now a.c.now) in
    record {
      listed = (
        tallies_all t.0 c.requires.0 c.loop-i-test.false (omega arith) c.requires.2,
        tally_all t.1 (length a.a.now) (omega arith) (omega arith) c.requires.2,
      );
      quotients = tallies_all t.2 e (omega (arith, length_quotient a.a.now a.c.now)) (omega (arith, length_quotient a.a.now a.c.now)) (omega (arith, length_quotient a.a.now a.c.now));
    }
