use Rattle.std.proofs.Common.{◌≡◌, ◌∙◌, ap, sym, true, Some, nat_eq, is_some}
use Rattle.std.specs.Map.{lookup}
use Rattle.fed_origin.specs.Origin.{is_trustworthy}
use Rattle.fed_trace.specs.Begun.{ToGet}
use Rattle.fed_trace.specs.Call.{first_row}
use Rattle.fed_session.specs.StepParts.{cookies_of, call_records, world_in, awaited_in}
use Rattle.fed_session.proofs.events.Begin.{begin_records, begun_idle}
use Rattle.fed_session.proofs.get.get.Goals as goal

pub returns-clause-outs : goal.returns-clause-outs
returns-clause-outs g c =
    let found : lookup (nat_eq c.args.page) c.args.tabs.now.pages ≡ Some c.in-Some.origin.now = sym c.in-Some.ensures in
    let trusted : is_trustworthy c.in-Some.origin.now ≡ true =
    ap is_trustworthy (sym c.get.ensures) ∙ sym c.is_trustworthy.ensures ∙ c.if-not-is_trustworthy.false in
    c.in_ok-outs.ensures ∙ ap (λ s. call_records c.args.line (cookies_of s) c.args.call c.args.page c.in_ok-kept.effects) c.in_ok-kept.ensures.sight
    ∙ ap (call_records c.args.line (cookies_of c.args.sight.now) c.args.call c.args.page) c.in_ok-kept.ensures.effects
    ∙ ap (λ b. call_records c.args.line (cookies_of c.args.sight.now) c.args.call c.args.page
    (first_row (world_in c.args.sight.now) b c.in-Some.origin.now (ToGet c.args.options.now)).effects) c.is_busy.ensures
    ∙ begin_records c.args.line (world_in c.args.sight.now) (cookies_of c.args.sight.now)
    (lookup (nat_eq c.args.page) c.args.tabs.now.pages) c.in-Some.origin.now (is_some (lookup (nat_eq c.args.page) c.args.tabs.now.gets))
    c.args.page c.args.call (ToGet c.args.options.now) found trusted

pub begin-requires-2-clause-idle : goal.begin-requires-2-clause-idle
begin-requires-2-clause-idle g c =
    ap awaited_in c.in_ok-kept.ensures.kept
    ∙ begun_idle (world_in c.args.sight.now) c.is_busy.result
    (record { call = c.args.call; page = c.args.page; origin = c.in-Some.origin.now; options = ToGet c.args.options.now }) c.requires.some
