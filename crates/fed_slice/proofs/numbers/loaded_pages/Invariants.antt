use Rattle.std.proofs.Common.{drop}
use Rattle.fed_slice.proofs.joined.Loaded.{Finds}
use Rattle.fed_slice.proofs.numbers.loaded_pages.Given as goal

abbrev pub invariant-loop-numbered : goal.invariant-loop-numbered
invariant-loop-numbered l = Finds l.events (drop l.numbered-index l.events) l.pages.keys
