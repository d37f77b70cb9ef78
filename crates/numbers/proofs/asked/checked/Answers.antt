use Rattle.numbers.proofs.RoomsCall.{asks, stops_coefficients, stops_coefficients_2, stops_count, stops_first, stops_large, stops_room, stops_second, stops_width}
use Rattle.numbers.proofs.ToLaws.{few_both, many_both, many_first}
use Rattle.numbers.proofs.asked.checked.Goals as goal

pub returns-then-n-gt-MAX_WIDTH : goal.returns-then-n-gt-MAX_WIDTH
returns-then-n-gt-MAX_WIDTH c =
    let a = c.args in
    stops_width a.n a.s a.xs.now a.t a.ys.now a.large a.least a.room a.first a.second c.if-n-gt-MAX_WIDTH.true

pub returns-then-s-gt-MAX_COUNT : goal.returns-then-s-gt-MAX_COUNT
returns-then-s-gt-MAX_COUNT c =
    let a = c.args in
    let many = many_first a.s a.t c.if-s-gt-MAX_COUNT.true in
    stops_count a.n a.s a.xs.now a.t a.ys.now a.large a.least a.room a.first a.second c.if-n-gt-MAX_WIDTH.false many

pub returns-then-s-t : goal.returns-then-s-t
returns-then-s-t c =
    let a = c.args in
    let many = many_both a.s a.t c.if-s-gt-MAX_COUNT.false c.if-s-t.true in
    stops_count a.n a.s a.xs.now a.t a.ys.now a.large a.least a.room a.first a.second c.if-n-gt-MAX_WIDTH.false many

pub returns-then-xs-s : goal.returns-then-xs-s
returns-then-xs-s c =
    let a = c.args in
    let few = few_both a.s a.t c.if-s-gt-MAX_COUNT.false c.if-s-t.false in
    stops_first a.n a.s a.xs.now a.t a.ys.now a.large a.least a.room a.first a.second c.if-n-gt-MAX_WIDTH.false few c.if-xs-s.true

pub returns-then-ys-t : goal.returns-then-ys-t
returns-then-ys-t c =
    let a = c.args in
    let few = few_both a.s a.t c.if-s-gt-MAX_COUNT.false c.if-s-t.false in
    stops_second a.n a.s a.xs.now a.t a.ys.now a.large a.least a.room a.first a.second c.if-n-gt-MAX_WIDTH.false few c.if-xs-s.false c.if-ys-t.true

pub returns-then-large : goal.returns-then-large
returns-then-large c =
    let a = c.args in
    let few = few_both a.s a.t c.if-s-gt-MAX_COUNT.false c.if-s-t.false in
    stops_large a.n a.s a.xs.now a.t a.ys.now a.large a.least a.room a.first a.second c.if-n-gt-MAX_WIDTH.false few c.if-xs-s.false c.if-ys-t.false c.if-large.true

pub returns-then-room-a : goal.returns-then-room-a
returns-then-room-a c =
    let a = c.args in
    let k = c.asked-a in
    let few = few_both a.s a.t c.if-s-gt-MAX_COUNT.false c.if-s-t.false in
    stops_room a.n a.s a.xs.now a.t a.ys.now a.large a.least a.room a.first a.second c.if-n-gt-MAX_WIDTH.false few c.if-xs-s.false c.if-ys-t.false c.if-large.false k.result k.ensures.0 k.ensures.1
    c.if-room-a.true

pub returns-then-first-a : goal.returns-then-first-a
returns-then-first-a c =
    let a = c.args in
    let k = c.asked-a in
    let few = few_both a.s a.t c.if-s-gt-MAX_COUNT.false c.if-s-t.false in
    stops_coefficients a.n a.s a.xs.now a.t a.ys.now a.large a.least a.room a.first a.second c.if-n-gt-MAX_WIDTH.false few c.if-xs-s.false c.if-ys-t.false c.if-large.false k.result k.ensures.0 k.ensures.1
    c.if-room-a.false c.if-first-a.true

pub returns-then-second-a : goal.returns-then-second-a
returns-then-second-a c =
    let a = c.args in
    let k = c.asked-a in
    let few = few_both a.s a.t c.if-s-gt-MAX_COUNT.false c.if-s-t.false in
    stops_coefficients_2 a.n a.s a.xs.now a.t a.ys.now a.large a.least a.room a.first a.second c.if-n-gt-MAX_WIDTH.false few c.if-xs-s.false c.if-ys-t.false c.if-large.false k.result k.ensures.0 k.ensures.1
    c.if-room-a.false c.if-second-a.true

pub returns : goal.returns
returns c =
    let a = c.args in
    let k = c.asked-a in
    let few = few_both a.s a.t c.if-s-gt-MAX_COUNT.false c.if-s-t.false in
    asks a.n a.s a.xs.now a.t a.ys.now a.large a.least a.room a.first a.second c.if-n-gt-MAX_WIDTH.false few c.if-xs-s.false c.if-ys-t.false c.if-large.false k.result k.ensures.0 k.ensures.1
    c.if-room-a.false c.if-first-a.false c.if-second-a.false
