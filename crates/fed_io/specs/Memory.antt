-- What contracts see of a source and a sink in memory.
use Rattle.std.specs.Prelude.{ℕ, ◌-◌, List, ◌++◌, take, drop, Result, Ok, Err}
use Rattle.fed_io.specs.declared.error.Failed.{Failed}
use Rattle.fed_io.specs.Io.{counted}

pub record MemorySource : Type 0 where
  pub left : List ℕ
  -- the most bytes that one call gives
  pub most : ℕ
  -- the numbers of the calls that fail
  pub fail : List ℕ
  pub calls : ℕ
  pub faults : ℕ

pub record MemorySink : Type 0 where
  pub taken : List ℕ
  -- how many more bytes it takes
  pub room : ℕ
  pub most : ℕ
  pub fail : List ℕ
  pub calls : ℕ
  pub faults : ℕ

-- the source after a call that answered so: what the call gave is no longer left
abbrev pub source_after : MemorySource → Result ℕ Failed → MemorySource
source_after s (Ok n) = record s { left = drop n s.left; calls = counted s.calls }
source_after s (Err _) = record s { calls = counted s.calls; faults = counted s.faults }

-- the sink after a call with this piece that answered so: the front of the piece was taken, and there is less room
abbrev pub sink_after : MemorySink → List ℕ → Result ℕ Failed → MemorySink
sink_after s piece (Ok n) = record s { taken = s.taken ++ take n piece; room = s.room - n; calls = counted s.calls }
sink_after s piece (Err _) = record s { calls = counted s.calls; faults = counted s.faults }
