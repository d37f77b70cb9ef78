use Rattle.std.proofs.Common.{ℕ, ◌-◌, List, length}
use Rattle.std.specs.List.{FoldsTo}
use Rattle.vectors.specs.Replay.{AreLines, ReadFrom, Replays}
use Rattle.vectors.proofs.comparison.replay.Given as goal

abbrev pub invariant-loop-at : goal.invariant-loop-at
invariant-loop-at g l =
    (lines : List ℕ) (q : List ℕ × ℕ) → AreLines l.text l.at lines → FoldsTo (Replays l.text (ReadFrom l.text (g.C.Comparison.says l.by))) (l.counts, l.apart) lines q
    → (all : List ℕ) × AreLines l.text 0 all × FoldsTo (Replays l.text (ReadFrom l.text (g.C.Comparison.says l.by))) (l.initial.counts, 0) all q

abbrev pub decreases-loop-at : goal.decreases-loop-at
decreases-loop-at g l = length l.text - l.at
