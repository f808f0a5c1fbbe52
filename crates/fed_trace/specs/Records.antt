-- The records of a row.
use Rattle.std.specs.Prelude.{ℕ, List, [], ◌∷◌, ◌++◌, Option, Some, None}
use Rattle.std.specs.List.{filter_map}
use Rattle.fed_consent.specs.Ask.{kind_of}
use Rattle.fed_request.specs.Request.{request_bytes}
use Rattle.fed_trace.specs.declared.out.Out.{Out}
use Rattle.fed_trace.specs.declared.out.Out.TheVariants as outs
use Rattle.fed_trace.specs.Effect.{Effect, Sent, Dropped, Shown, Window, Result, Ignored}
use Rattle.fed_trace.specs.Trace.{Row}

-- the record of an effect in a row of this line, if the effect is written
abbrev pub record_of : ℕ → Effect → Option Out
record_of line (Sent kind call provider ask cookies) = Some (outs.Request line call provider (kind_of ask) (request_bytes ask cookies))
record_of line (Dropped call provider failure) = Some (outs.Dropped line call provider failure)
record_of line (Shown call dialog) = Some (outs.Dialog line call dialog)
record_of line (Window call provider url) = Some (outs.Window line call provider url)
record_of line (Result call page finish) = Some (outs.Answer line call page finish)
record_of line (Ignored why) = Some (outs.Ignored line why)
record_of line _ = None

-- the records of effects in a row of this line, in their order
abbrev pub records_of : ℕ → List Effect → List Out
records_of line effects = filter_map (record_of line) effects

-- the records of a row
abbrev pub records : Row → List Out
records row = records_of row.line row.effects

-- the records of rows, of which the newest comes first, in the order in which they are written
abbrev pub records_in : List Row → List Out
records_in [] = []
records_in (row ∷ rows) = records_in rows ++ records row
