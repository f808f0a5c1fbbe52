-- What of effects a part has.
use Rattle.std.specs.Prelude.{Bool, true, false, List, Option, Some, None, if◌then◌else◌}
use Rattle.fed_jar.specs.Changes.{domain_of}
use Rattle.fed_trace.specs.Effect.{Effect}
use Rattle.fed_trace.specs.Effect as does
use Rattle.fed_trace.specs.Trace.{Row, all_said}
use Rattle.fed_slice.specs.Part.{Part, has, has_triple}

-- an effect on what stands is in the part
abbrev pub is_mine : Part → Effect → Bool
is_mine p (does.Time time) = true
is_mine p (does.Page page origin) = p.pages page
is_mine p (does.Closed page) = p.pages page
is_mine p (does.Cookie change) = has p (domain_of change)
is_mine p (does.Login origin status) = has p origin.host
is_mine p (does.Begin begun) = p.calls begun.call
is_mine p (does.Move kind call stage) = p.calls call
is_mine p (does.Kept triple stays) = has_triple p triple
is_mine p (does.Flag origin stays) = has p origin.host
is_mine p (does.Sent kind call provider ask cookies) = false
is_mine p (does.Dropped call provider failure) = false
is_mine p (does.Shown call dialog) = false
is_mine p (does.Window call provider url) = false
is_mine p (does.Result call page finish) = false
is_mine p (does.Ignored why) = false

abbrev pub mine : Part → Effect → Option Effect
mine p effect = if is_mine p effect then Some effect else None

-- what the part has of rows, in their order
abbrev pub view : Part → List Row → List Effect
view p rows = all_said (mine p) rows
