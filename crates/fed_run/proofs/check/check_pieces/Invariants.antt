use Rattle.std.proofs.Common.{◌≡◌, ◌≤◌, ◌-◌, ℕ, List, length}
use Rattle.std.specs.Io.KnownBytes.{Consumes}
use Rattle.fed_run.specs.Checks.{IsCheckedTo}
use Rattle.fed_run.proofs.check.check_pieces.Given as goal

-- These bytes were taken, and what was found in them is written.
abbrev pub invariant-loop-count : goal.invariant-loop-count
invariant-loop-count g l = record {
  bytes : List ℕ;
  consumed : Consumes (g.S.Source.left l.fn.source) (g.S.Source.left l.source) bytes;
  count : l.count ≡ length bytes;
  within : l.count ≤ 67108864;
  at : IsCheckedTo l.checker l.bad (g.K.Sink.taken l.fn.sink) (g.K.Sink.taken l.sink) bytes;
  source_later : g.S.Source.faults l.fn.source ≤ g.S.Source.faults l.source;
  sink_later : g.K.Sink.faults l.fn.sink ≤ g.K.Sink.faults l.sink;
}

abbrev pub decreases-loop-count : goal.decreases-loop-count
decreases-loop-count g l = 67108864 - l.count
