use Rattle.std.proofs.Common.{◌≡◌, ◌++◌, take}
use Rattle.fed_print.specs.Lines.{text_of}
use Rattle.fed_print.proofs.lines.RecordLines.push_all.Given as goal

-- the lines of the records so far
abbrev pub invariant-loop-out : goal.invariant-loop-out
invariant-loop-out l = l.self ≡ l.initial.self ++ text_of (take l.out-index l.outs)
