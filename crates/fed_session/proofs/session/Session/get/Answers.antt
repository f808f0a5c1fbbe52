use Rattle.std.proofs.Common.{◌≡◌, ◌∙◌, sym, subst, refl, nat_eq, false}
use Rattle.std.specs.List.{list_any}
use Rattle.fed_script.specs.declared.event.Event.TheVariants as events
use Rattle.fed_trace.specs.Row.{with_event}
use Rattle.fed_trace.specs.Begun.{ToGet}
use Rattle.fed_session.specs.Session.{State, Stands}
use Rattle.fed_session.specs.StepParts.{revived, stepped}
use Rattle.fed_session.specs.contracts.session.Session.{the_view}
use Rattle.fed_session.specs.declared.sight.Sight.{Sight}
use Rattle.fed_session.proofs.events.Begin.{BeginsBy, owes_begin, begin_records-stand, is_new}
use Rattle.fed_session.proofs.stands.Stands.{stands_after}
use Rattle.fed_session.proofs.session.Session.get.Goals as goal

pub returns-clause-row : goal.returns-clause-row
returns-clause-row g c = λ T h.
    let before = subst (λ (s : State). Stands (revived s) T) (sym c.self.view_is) h in
    let fresh = subst (λ (s : State). list_any (nat_eq c.args.call) s.tabs.taken ≡ false) (sym c.self.view_is) c.requires.fresh in
    let event = events.Get c.args.page c.args.call c.args.options.now in
    let begins : BeginsBy T event c.args.page c.args.call (ToGet c.args.options.now) = record { effects = refl; inputs = λ q k. refl } in (
      c.in_ok-outs.ensures.outs ∙ begin_records-stand _ T c.args.line event c.args.page c.args.call (ToGet c.args.options.now) before
          begins,
      subst {A = Sight}
          (λ sight. Stands (stepped (the_view (record {
            alloc = c.self.inside.alloc;
            alive = c.self.inside.alive;
            steps = c.self.inside.steps;
            sight = sight;
            tabs = c.get.new.tabs;
          }))) (with_event T c.args.line event)) (sym c.in_ok-outs.ensures.sight)
          (stands_after _ _ T c.args.line event before (is_new _ T c.args.call before fresh, c.requires.some) refl refl
          (owes_begin _ _ T c.args.line event c.args.page c.args.call (ToGet c.args.options.now) before begins fresh c.requires.some refl
          c.in_ok-outs.ensures.tabs)),
    )
