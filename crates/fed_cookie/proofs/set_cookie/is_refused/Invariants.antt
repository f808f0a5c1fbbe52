use Rattle.std.proofs.Common.{◌≡◌, ◌||◌, drop}
use Rattle.std.specs.List.{list_any}
use Rattle.fed_cookie.specs.Fields.{is_refused}
use Rattle.fed_cookie.proofs.set_cookie.is_refused.Given as goal

abbrev pub invariant-loop-b : goal.invariant-loop-b
invariant-loop-b l = (l.found || list_any is_refused (drop l.b-index l.field)) ≡ list_any is_refused l.field
