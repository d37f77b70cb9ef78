use Rattle.std.proofs.Common.{◌≡◌, ◌+◌, ◌%◌, ◌^◌, ◌<◌, drop}
use Rattle.vectors.specs.Counts.{total}
use Rattle.vectors.proofs.counts.say_counts.Given as goal

abbrev pub invariant-loop-code : goal.invariant-loop-code
invariant-loop-code g l =
    (l.compared < 2 ^ 64) × ((l.compared + total (drop l.code l.counts)) % 2 ^ 64 ≡ total (drop 1 l.counts) % 2 ^ 64)
