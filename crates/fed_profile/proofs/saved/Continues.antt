-- The lines that are saved bring back what stands, so further events do after them what they would have done.
use Rattle.std.proofs.Common.{◌≡◌, ℕ, suc, List, [], ◌∷◌, ◌++◌, map, Option, Some, None, Result, Ok, Err}
use Rattle.std.proofs.Common.{refl, sym, ap, ap₂, subst, ◌∙◌}
use Rattle.std.specs.Prelude.{slice_get, IfSome}
use Rattle.std.specs.List.{AllZip}
use Rattle.fed_origin.specs.declared.stage.Stage.{Stage}
use Rattle.fed_suffix.specs.Rule.{RuleSet}
use Rattle.fed_print.specs.Lines.{line_of}
use Rattle.fed_script.specs.declared.cause.LineCause.{LineCause}
use Rattle.fed_script.specs.declared.event.Event.{Event}
use Rattle.fed_script.specs.declared.event.Header.{Header}
use Rattle.fed_script.specs.Line.{event_named}
use Rattle.fed_session.specs.declared.view.View.{View}
use Rattle.fed_session.specs.Session.{Shows, with_stage}
use Rattle.fed_trace.specs.Effect.{PendingCall}
use Rattle.fed_trace.specs.OfScript.{start, with_events}
use Rattle.fed_trace.specs.Trace.{Trace, pending, staged_by, stage_at, now_at, logins, kept, flags, cookies, pages}
use Rattle.fed_profile.specs.Continues.{SavedContinues, with_ends}
use Rattle.fed_profile.specs.Item.{Item, all_items, item_again, item_of, item_read}
use Rattle.fed_profile.specs.Lines.{header_members, item_members, item_lines, bare_line}
use Rattle.fed_profile.specs.Restores.{Restores}
use Rattle.fed_suffix.specs.RulesText.{rules_text}
use Rattle.fed_profile.specs.Save.{first_call, items_of, saved_of}
use Rattle.fed_profile.specs.Saved.{AreRestored, items_at, events_of}
use Rattle.fed_profile.proofs.saved.Goes.{saved_goes_on_lem}
use Rattle.fed_profile.proofs.saved.Restore.{lines_restore_lem}

-- the event of a line that restores an item
record EventOf (rules : RuleSet) (now : ℕ) (item : Item) : Type 0 where
  event : Event
  named : event_named (bare_line (item_members now item)) ≡ Ok event
  brings : item_of rules now event ≡ Some (item_again now item)

event_of : (rules : RuleSet) (now : ℕ) (item : Item) → Restores rules now item → EventOf rules now item
event_of rules now item h = go (event_named (bare_line (item_members now item))) refl h
  where
    go : (r : Result Event LineCause) → event_named (bare_line (item_members now item)) ≡ r
        → item_read rules now r ≡ Some (item_again now item) → EventOf rules now item
    go (Ok event) at is = record { event = event; named = at; brings = is }
    go (Err cause) at is = absurd (cc)

-- the events of all lines
pub record EventsOf (rules : RuleSet) (now : ℕ) (items : List Item) : Type 0 where
  pub events : List Event
  pub named : AllZip (λ line event. event_named line ≡ Ok event) (map (λ item. bare_line (item_members now item)) items) events
  pub bring : AllZip (λ item event. item_of rules now event ≡ Some (item_again now item)) items events

pub events_all : (rules : RuleSet) (now : ℕ) (items : List Item) → ((k : ℕ) → IfSome (slice_get items k) (Restores rules now))
    → EventsOf rules now items
events_all rules now [] all = record { events = []; named = tt; bring = tt }
events_all rules now (item ∷ items) all =
    let one = event_of rules now item (all 0) in
    let more = events_all rules now items (λ k. all (suc k)) in
    record {
      events = one.event ∷ more.events;
      named = (one.named, more.named);
      bring = (one.brings, more.bring);
    }

-- the text of the lines
text_of_lines : (now : ℕ) (items : List Item)
    → item_lines now items ≡ with_ends (map (λ item. bare_line (item_members now item)) items)
unfolding line_of
text_of_lines now [] = refl
text_of_lines now (item ∷ items) = ap (λ l. (bare_line (item_members now item) ++ 10 ∷ []) ++ l) (text_of_lines now items)

pub whole_text : (view : View) (rules : RuleSet) → saved_of view rules
    ≡ with_ends (bare_line (header_members view.now (rules_text rules))
    ∷ map (λ item. bare_line (item_members view.now item)) (items_of view))
unfolding line_of
whole_text view rules =
    ap (λ l. (bare_line (header_members view.now (rules_text rules)) ++ 10 ∷ []) ++ l) (text_of_lines view.now (items_of view))

-- no call is pending where the view shows none
none_first : (calls : List (ℕ × ℕ × Stage)) → first_call calls ≡ None → calls ≡ []
none_first [] none = refl
none_first (call ∷ calls) none = absurd (cc)

none_staged : (stage : ℕ → Option Stage) (calls : List (ℕ × PendingCall)) → map (staged_by stage) calls ≡ [] → calls ≡ []
none_staged stage [] none = refl
none_staged stage (call ∷ calls) none = absurd (cc)

pub none_pending : (view : View) (T : Trace) → Shows view T → first_call view.calls ≡ None → pending T ≡ []
none_pending view T shows none =
    none_staged (stage_at T) (pending T) (sym shows.calls ∙ ap (map with_stage) (none_first view.calls none))

pub items_same : (view : View) (T : Trace) → Shows view T → items_of view ≡ items_at T
items_same view T shows =
    ap₂ (λ l k. all_items l k view.silent view.cookies view.pages) shows.login shows.kept
    ∙ ap₂ (λ f c. all_items (logins T) (kept T) f c view.pages) shows.silent shows.cookies
    ∙ ap (all_items (logins T) (kept T) (flags T) (cookies T)) shows.pages

pub saved_continues_lem : SavedContinues
saved_continues_lem T view text run shows saves =
    let rules = T.header.rules in
    let all = events_all rules view.now (items_of view) (λ k. saves.1 (suc k)) in
    let header : Header = record { rules = rules; now = view.now } in
    record {
      header = header;
      events = all.events;
      read =
          record {
            first = bare_line (header_members view.now (rules_text rules));
            lines = map (λ item. bare_line (item_members view.now item)) (items_of view);
            text_is = saves.2 ∙ whole_text view rules;
            header_is = saves.1 0;
            events_are = all.named;
          };
      goes_on = λ saved x y same events on.
          let bring : AllZip (λ item event. item_of rules (now_at T) event ≡ Some (item_again (now_at T) item)) (items_at T) all.events =
          subst (λ n. AllZip (λ item event. item_of rules n event ≡ Some (item_again n item)) (items_at T) all.events) shows.now
          (subst (λ is. AllZip (λ item event. item_of rules view.now event ≡ Some (item_again view.now item)) is all.events)
          (items_same view T shows) all.bring) in
          let are : AreRestored T header (events_of saved) =
          record {
            rules = refl;
            now = shows.now;
            items = subst (AllZip (λ item event. item_of rules (now_at T) event ≡ Some (item_again (now_at T) item)) (items_at T))
                (sym same) bring;
          } in
          saved_goes_on_lem T (with_events (start header) saved) run (none_pending view T shows saves.0)
          (lines_restore_lem T header saved run are) x y events on;
    }
