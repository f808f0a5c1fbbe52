use Rattle.std.proofs.Common.{◌≤◌, ◌<◌, ◌+◌, ◌*◌, ◌∙◌, length, sym, ap, subst, refl, nat_eq, arith}
use Rattle.indexmap.specs.IndexMap.{insert_entry}
use Rattle.fed_table.specs.Lists.{with_key, emptied}
use Rattle.fed_script.specs.declared.event.Event.TheVariants as events
use Rattle.fed_session.specs.declared.sight.Sight.{Sight}
use Rattle.fed_session.specs.Session.{State, Stands}
use Rattle.fed_session.specs.StepParts.{revived}
use Rattle.fed_session.specs.Tabs.{Ends}
use Rattle.fed_trace.specs.Row.{cookies_from, set_cookies, set_cookie_name}
use Rattle.fed_session.proofs.clauses.Cookies.{room_after, few_load, few_loaded}
use Rattle.fed_session.proofs.events.Event.{owes_load}
use Rattle.fed_trace.proofs.events.Aside.{load_records}
use Rattle.fed_session.proofs.stands.Stands.{stands_after}
use Rattle.fed_session.proofs.session.Session.load.Goals as goal

pub returns-clause-row : goal.returns-clause-row
returns-clause-row g c = λ T line h.
    let before = subst (λ (s : State). Stands (revived s) T) (sym c.self.view_is) h in (
      c.new.ensures ∙ load_records T line c.args.page c.args.url.now c.args.raw.now,
      stands_after _ _ T line (events.Load c.args.page c.args.url.now c.args.raw.now) before tt refl refl
          (owes_load _ _ T line c.args.page c.args.url.now c.args.raw.now before c.in_ok-take_head.ensures
          (subst (λ origin. Ends c.args.page (insert_entry nat_eq c.self.inside.tabs.pages c.args.page origin)
          (with_key nat_eq c.args.page (emptied (nat_eq c.args.page) c.self.inside.tabs.table.pages)) c.self.inside.tabs c.load.new.self)
          c.in_ok-origin.ensures c.in_ok-load.ensures.ok)),
    )

pub take_head-requires : goal.take_head-requires
take_head-requires g c =
    let low = subst (λ (s : State). s.entered ≤ 128 * s.steps) (sym c.self.view_is) c.requires.room in
    let few = subst (λ (s : State). s.steps < 1000000) (sym c.self.view_is) c.requires.few in
    let most : length (set_cookies c.args.raw.now) ≤ 128 = few_loaded set_cookie_name c.args.raw.now in
    omega (arith, low, few, most)

pub returns-clause-room : goal.returns-clause-room
returns-clause-room g c =
    let sight = c.self.inside.sight in
    let more =
    room_after sight.time sight.cookies (cookies_from sight.cookies.rules c.args.url.now sight.time (set_cookies c.args.raw.now))
    c.take_head.new.sight.cookies.entered (ap (λ (s : Sight). s.cookies.entered) c.in_ok-take_head.ensures)
    (few_load sight.cookies.rules c.args.url.now sight.time c.args.raw.now) in
    subst (λ (s : State). c.take_head.new.sight.cookies.entered ≤ s.entered + 128) c.self.view_is more
