-- What stands of a disconnect call since it began: once it awaits its answer, an earlier row sent its request.
use Rattle.std.proofs.Common.{◌≡◌, ℕ, Bool, true, false, nat_eq, List, [], ◌∷◌, Option, Some, None, map, refl, sym, ap, subst}
use Rattle.std.proofs.Common.{◌∙◌}
use Rattle.std.proofs.Common.{◌⊎◌, inl, inr}
use Rattle.std.specs.Prelude.{Result as Answer, Ok, Err, option_map, unwrap_or}
use Rattle.std.specs.List.{filter_map, list_any}
use Rattle.url.specs.Parts.{Parts}
use Rattle.fed_origin.specs.declared.origin.Origin.{Origin}
use Rattle.fed_origin.specs.declared.scheme.Scheme.{Scheme}
use Rattle.fed_origin.specs.declared.scheme.Scheme.TheVariants.{Http, Https}
use Rattle.fed_origin.specs.declared.stage.Stage.{Stage}
use Rattle.fed_origin.specs.declared.stage.Stage.TheVariants.{Reading, Gathering, Window, Asserting, Ended}
use Rattle.fed_origin.specs.WebUrl.{scheme_of}
use Rattle.fed_provider.specs.declared.first_replies.FirstReplies.{FirstReplies}
use Rattle.fed_provider.specs.declared.step.ProviderStep.{ProviderStep}
use Rattle.fed_provider.specs.WellKnown.{WellKnownUrlOf}
use Rattle.fed_status.specs.Kept.{has_pair}
use Rattle.fed_status.specs.Shared.{World}
use Rattle.fed_call.specs.Facts.{Facts}
use Rattle.fed_call.specs.Facts as get
use Rattle.fed_call.specs.WindowRows.{resumed}
use Rattle.fed_consent.specs.declared.table.ask.Ask.TheVariants as asks
use Rattle.fed_consent.specs.declared.table.finish.Finish.{Finish}
use Rattle.fed_consent.specs.declared.table.input.Input.{Input}
use Rattle.fed_consent.specs.declared.table.input.Input.TheVariants as inputs
use Rattle.fed_consent.specs.declared.table.why.Why.TheVariants.{NoCall}
use Rattle.fed_consent.specs.Outcomes as outcomes
use Rattle.fed_consent.specs.Outcomes.{Outcome}
use Rattle.fed_disconnect.specs.Facts.{DisconnectFacts, DisconnectOptions, provider_origin}
use Rattle.fed_disconnect.specs.Facts as disconnect
use Rattle.fed_disconnect.specs.Rows.{asks_disconnect, by_kept, by_scheme, by_site, disconnect_start_row}
use Rattle.fed_script.specs.declared.event.Event.{Event}
use Rattle.fed_script.specs.declared.event.Header.{Header}
use Rattle.fed_trace.specs.Begun.{Begun, CallOptions, DisconnectCall, ToGet, ToDisconnect, kind_asked}
use Rattle.fed_trace.specs.Call.{OfGet, OfDisconnect, at_stage, first_row, fresh, input_row}
use Rattle.fed_trace.specs.Effect.{Ignored, Move, PendingCall, begins, call_change, last_of}
use Rattle.fed_trace.specs.Keyed.{last_said}
use Rattle.fed_trace.specs.Known.{input_to, is_begun, known_at, known_in, world_at}
use Rattle.fed_trace.specs.OfCall.{disturbs, given, replaces}
use Rattle.fed_trace.specs.Row.{IsNew, IsRun, cookies_with, effects_of, outcome_effects, row_of, with_event}
use Rattle.fed_trace.specs.Trace.{Row, Trace, kept}
use Rattle.fed_trace.proofs.happens.Ends.{Happens, Left, Ends as EndsNow, Started, Took, Resumed, Leaves, Starts}
use Rattle.fed_trace.proofs.happens.First.{FirstTurn, FailsFirst, ReadsFirst, GathersFirst, HasSome, first_turn, is_beginning, is_first}
use Rattle.fed_trace.proofs.happens.First.{known_begun}
use Rattle.fed_trace.proofs.happens.Gets.{Taking, ByGet, ByDisconnect, ByNone, taking}
use Rattle.fed_trace.proofs.happens.Happens.{happens}
use Rattle.fed_trace.proofs.happens.Over.{still_over}
use Rattle.fed_trace.proofs.happens.Resumed.{known_resumed}
use Rattle.fed_trace.proofs.happens.Says.{finish_of, outcome_begins, outcome_gives, outcome_pending}
use Rattle.fed_trace.proofs.happens.Taken.{Knows, does_it, knows, known_taken}
use Rattle.fed_trace.proofs.known.Known.{known_moved, known_same, over, said_of}
use Rattle.fed_trace.proofs.known.Stages.{Goes, goes_or_ends}
use Rattle.fed_laws.specs.Cause.{AskedToDisconnect, Undisturbed, config_brought, wellknown_brought}
use Rattle.fed_laws.proofs.disconnects.Files.{FilesBy, FilesIn, FilesStep, BothGood, OneRefused, OneAwaited, files_apart, files_step}
use Rattle.fed_laws.proofs.pending.Asked.{row_is}
use Rattle.fed_laws.proofs.pending.Begun.{begun_now}
use Rattle.fed_laws.proofs.pending.Stood.{Going, apart_page, calm, going_on, not_some, undisturbed_on}
use Rattle.fed_laws.proofs.pending.Taken.{input_keeps_pages, still_pending}
use Rattle.fed_laws.proofs.disconnects.Turns.{Way, Sends, Answers, Ends, Rests, way_of}

-- a pending disconnect call of this page
abbrev pub disconnect_at : ℕ → PendingCall
disconnect_at page = record { page = page; kind = DisconnectCall }

-- The files that came of the provider of a disconnect call since it began, when a permission of its pair was kept.
pub record Reads (T : Trace) (call : ℕ) (begun : Begun) (options : DisconnectOptions) (replies : FirstReplies) : Type 0 where
  pub undisturbed : Undisturbed T.rows call begun
  pub was_kept : has_pair (kept (record { header = T.header; rows = undisturbed.before })) begun.origin (provider_origin options) ≡ true
  pub files : FilesIn T.header.rules options.config replies call undisturbed.since

-- what stands of a disconnect call of which this is known
pub record Sending (T : Trace) (call : ℕ) (f : DisconnectFacts) : Type 0 where
  pub begun : Begun
  pub going : Going T call (disconnect_at f.page) begun
  pub of_origin : f.origin ≡ begun.origin
  pub is_disconnect : begun.options ≡ ToDisconnect f.options
  pub reads : f.stage ≡ Reading → Reads T call begun f.options f.replies
  pub asked : f.stage ≡ Asserting → AskedToDisconnect T.rows call f.origin f.options

-- ---- one row more

asked_on : (rows : List Row) (row : Row) (call : ℕ) (page : Origin) (options : DisconnectOptions)
    → AskedToDisconnect rows call page options → AskedToDisconnect (row ∷ rows) call page options
asked_on rows row call page options a =
    record {
      since = row ∷ a.since;
      asking = a.asking;
      before = a.before;
      rows_are = ap (λ rs. row ∷ rs) a.rows_are;
      to = a.to;
      cookies = a.cookies;
      sends = a.sends;
    }

reads_on : (T : Trace) (line : ℕ) (event : Event) (call : ℕ) (begun : Begun) (options : DisconnectOptions) (replies now : FirstReplies)
    → (r : Reads T call begun options replies) → disturbs call begun.page (row_of T line event) ≡ false
    → FilesBy T.header.rules options.config now call r.undisturbed.since event → Reads (with_event T line event) call begun options now
unfolding undisturbed_on
reads_on T line event call begun options replies now r calm_row files =
    record {
      undisturbed = undisturbed_on T.rows (row_of T line event) call begun calm_row r.undisturbed;
      was_kept = r.was_kept;
      files = files;
    }

-- a row that neither loads nor closes the page of the call, nor gives it anything
calm_at : (T : Trace) (line : ℕ) (event : Event) (call page : ℕ) (begun : Begun) → page ≡ begun.page → replaces page event ≡ false
    → filter_map (given call) (effects_of T event) ≡ [] → disturbs call begun.page (row_of T line event) ≡ false
calm_at T line event call page begun is kept_page gives =
    subst (λ p. disturbs call p (row_of T line event) ≡ false) is (calm T line event call page kept_page gives)

-- an event that leaves a call that began brings it nothing
brings_none : (T : Trace) (event : Event) (call : ℕ) → Leaves T event call → is_begun T call ≡ true → input_to call event ≡ None
brings_none T event call l begun = go l.untaken
  where
    go : (input_to call event ≡ None) ⊎ ((effects_of T event ≡ Ignored NoCall ∷ []) × (is_begun T call ≡ false))
        → input_to call event ≡ None
    go (inl none) = none
    go (inr untaken) = let no : true ≡ false = sym begun ∙ untaken.1 in absurd (cc)

reads_left : (T : Trace) (line : ℕ) (event : Event) (call : ℕ) (begun : Begun) (options : DisconnectOptions) (replies : FirstReplies)
    → Reads T call begun options replies → disturbs call begun.page (row_of T line event) ≡ false → input_to call event ≡ None
    → Reads (with_event T line event) call begun options replies
reads_left T line event call begun options replies r calm_row none =
    reads_on T line event call begun options replies replies r calm_row
    (files_apart T.header.rules options.config replies call r.undisturbed.since event r.files (ap wellknown_brought none)
    (ap config_brought none))

sending_left : (T : Trace) (line : ℕ) (event : Event) (call : ℕ) (f : DisconnectFacts) → Leaves T event call → Sending T call f
    → Sending (with_event T line event) call f
sending_left T line event call f l s =
    let apart = apart_page T event call (disconnect_at f.page) s.begun.origin l s.going.pending s.going.page in
    record {
      begun = s.begun;
      going =
          going_on T line event call (disconnect_at f.page) s.begun s.going apart l.quiet.pending l.quiet.begins_none l.quiet.gives;
      of_origin = s.of_origin;
      is_disconnect = s.is_disconnect;
      reads = λ at.
          reads_left T line event call s.begun f.options f.replies (s.reads at)
          (calm_at T line event call f.page s.begun s.going.of_page apart l.quiet.gives)
          (brings_none T event call l s.going.is_taken);
      asked = λ at. asked_on T.rows (row_of T line event) call f.origin f.options (s.asked at);
    }

-- ---- the call begins

-- it reads only where a permission of its pair is kept (rows E3, E4)
kept_by : (config wellknown : Parts) (kept : Bool) → (by_kept config wellknown kept).stage ≡ Some Reading → kept ≡ true
kept_by config wellknown true is = refl
kept_by config wellknown false is = absurd (cc)

site_by : (config : Parts) (wellknown : Answer Parts ProviderStep) (kept : Bool) → (by_site config wellknown kept).stage ≡ Some Reading
    → kept ≡ true
site_by config (Err step) kept is = absurd (cc)
site_by config (Ok wellknown) kept is = kept_by config wellknown kept is

scheme_by : (scheme : Scheme) (config : Parts) (wellknown : Answer Parts ProviderStep) (kept : Bool)
    → (by_scheme scheme config wellknown kept).stage ≡ Some Reading → kept ≡ true
scheme_by Http config wellknown kept is = absurd (cc)
scheme_by Https config wellknown kept is = site_by config wellknown kept is

kept_first : (world : World) (origin : Origin) (options : DisconnectOptions)
    → (disconnect_start_row world origin options).stage ≡ Some Reading → has_pair world.kept origin (provider_origin options) ≡ true
kept_first world origin options is =
    scheme_by (scheme_of options.config) options.config (WellKnownUrlOf world.rules options.config)
    (has_pair world.kept origin (provider_origin options)) is

not_of_get : {A : Type 0} (o : Option Facts) (f : DisconnectFacts) → option_map OfGet o ≡ Some (OfDisconnect f) → A
not_of_get None f is = absurd (cc)
not_of_get (Some g) f is = absurd (cc)

sending_begun : (T : Trace) (line : ℕ) (event : Event) (call : ℕ) (f : DisconnectFacts) → IsNew T.rows event → Starts T event call
    → known_at (with_event T line event) call ≡ Some (OfDisconnect f) → Sending (with_event T line event) call f
sending_begun T line event call f new s is =
    subst (λ c. Sending (with_event T line event) c f) s.is_call
    (go b.options refl (first_turn (world_at T) s.busy b.origin b.options one))
  where
    b : Begun
    b = s.begun

    o : Outcome
    o = first_row (world_at T) s.busy b.origin b.options

    one : HasSome b.options
    one = (is_first T event b.page b.call b.options new s.is_event).some

    known : (stage : Stage) → o.stage ≡ Some stage → (options : CallOptions) → b.options ≡ options
        → at_stage stage (fresh (world_at T) b.call b.page b.origin options) ≡ Some (OfDisconnect f)
    known stage at options asked =
        ap (λ x. at_stage stage (fresh (world_at T) b.call b.page b.origin x)) (sym asked)
        ∙ sym (known_begun T line event b o stage s.effects at)
        ∙ subst (λ c. known_at (with_event T line event) c ≡ Some (OfDisconnect f)) (sym s.is_call) is

    goes_on : (options : DisconnectOptions) → b.options ≡ ToDisconnect options → (stage : Stage) → o.stage ≡ Some stage
        → (stage ≡ Ended → ⊥) → (stage ≡ Asserting → ⊥)
        → Some (OfDisconnect (record (disconnect.fresh b.call b.page b.origin options) { stage = stage })) ≡ Some (OfDisconnect f)
        → Sending (with_event T line event) b.call f
    goes_on options asked stage is_stage other later whole =
        let same : record (disconnect.fresh b.call b.page b.origin options) { stage = stage } ≡ f = cc in
        let g = begun_now T line event b
        (is_beginning event b.page b.call b.options s.is_event) s.stands o stage is_stage other s.effects in
        subst (Sending (with_event T line event) b.call) same
        (record {
          begun = b;
          going = subst (λ at. Going (with_event T line event) b.call at b)
              (ap (λ x. let v : PendingCall = record { page = b.page; kind = kind_asked x } in v) asked) g;
          of_origin = refl;
          is_disconnect = asked;
          reads = λ at. record {
            undisturbed = record {
              since = [];
              beginning = row_of T line event;
              before = T.rows;
              rows_are = refl;
              begins_it = record {
                before = [];
                after = outcome_effects (world_at T) (cookies_with T) (kind_asked b.options) b.call b.page o;
                all = s.effects;
              };
              is_it = refl;
              stands = refl;
            };
            was_kept = kept_first (world_at T) b.origin options
                (ap (λ x. (first_row (world_at T) s.busy b.origin x).stage) (sym asked) ∙ is_stage ∙ ap Some at);
            files = record { wellknown_is = refl; config_is = refl };
          };
          asked = λ at. absurd (later at);
        })

    go : (options : CallOptions) → b.options ≡ options → FirstTurn o → Sending (with_event T line event) b.call f
    go (ToGet options) asked (ReadsFirst reading none gives) =
        not_of_get (get.at_stage Reading (get.fresh (world_at T) b.call b.page b.origin options)) f (known Reading reading
        (ToGet options) asked)
    go (ToGet options) asked (GathersFirst gathering none gives) =
        not_of_get (get.at_stage Gathering (get.fresh (world_at T) b.call b.page b.origin options)) f
        (known Gathering gathering (ToGet options) asked)
    go (ToGet options) asked (FailsFirst failure ended none gives) =
        not_of_get (get.at_stage Ended (get.fresh (world_at T) b.call b.page b.origin options)) f (known Ended ended (ToGet options) asked)
    go (ToDisconnect options) asked (FailsFirst failure ended none gives) =
        let no : None ≡ Some (OfDisconnect f) = known Ended ended (ToDisconnect options) asked in absurd (cc)
    go (ToDisconnect options) asked (ReadsFirst reading none gives) =
        goes_on options asked Reading reading (λ h. cc) (λ h. cc) (known Reading reading (ToDisconnect options) asked)
    go (ToDisconnect options) asked (GathersFirst gathering none gives) =
        goes_on options asked Gathering gathering (λ h. cc) (λ h. cc) (known Gathering gathering (ToDisconnect options) asked)

-- ---- an input

-- a call that has both files goes on or ends
asks_moves : {A : Type 0} (origin : Origin) (options : DisconnectOptions) (to : Option Parts)
    → (asks_disconnect origin options to).stage ≡ None → A
asks_moves origin options None is = absurd (cc)
asks_moves origin options (Some to) is = absurd (cc)

-- what an input leaves of what the call began with
record SameCall (f w : DisconnectFacts) : Type 0 where
  page : w.page ≡ f.page
  origin : w.origin ≡ f.origin
  options : w.options ≡ f.options

same_call : (world : World) (ignored : Bool) (input : Input) (f : DisconnectFacts)
    → SameCall f (disconnect.with_input world ignored input f)
same_call world true input f = record { page = refl; origin = refl; options = refl }
same_call world false (inputs.Reply place kind raw) f = record { page = refl; origin = refl; options = refl }
same_call world false (inputs.Choose place account) f = record { page = refl; origin = refl; options = refl }
same_call world false inputs.GoOn f = record { page = refl; origin = refl; options = refl }
same_call world false inputs.Cancel f = record { page = refl; origin = refl; options = refl }
same_call world false inputs.SignIn f = record { page = refl; origin = refl; options = refl }
same_call world false inputs.Shut f = record { page = refl; origin = refl; options = refl }
same_call world false inputs.Resume f = record { page = refl; origin = refl; options = refl }
same_call world false inputs.Abort f = record { page = refl; origin = refl; options = refl }

-- a call that goes on is at the stage that it comes to
record After (w f : DisconnectFacts) (stage : Stage) : Type 0 where
  is : f ≡ record w { stage = stage }
  going : Goes stage

after_by : (stage : Stage) (w f : DisconnectFacts) → at_stage stage (OfDisconnect w) ≡ Some (OfDisconnect f) → After w f stage
after_by stage w f h = go (goes_or_ends stage)
  where
    go : (stage ≡ Ended) ⊎ Goes stage → After w f stage
    go (inl ended) =
        not_some (at_stage stage (OfDisconnect w)) (OfDisconnect f) (ap (λ st. at_stage st (OfDisconnect w)) ended) h
    go (inr going) =
        let whole : Some (OfDisconnect (record w { stage = stage })) ≡ Some (OfDisconnect f) = sym (going.kept (OfDisconnect w)) ∙ h in
        let is : record w { stage = stage } ≡ f = cc in
        record { is = sym is; going = going }

sending_taken : (T : Trace) (line : ℕ) (event : Event) (call : ℕ) (f f' : DisconnectFacts) → Knows T event call (OfDisconnect f)
    → Sending T call f → known_at (with_event T line event) call ≡ Some (OfDisconnect f')
    → Sending (with_event T line event) call f'
sending_taken T line event call f f' m s is = go (way_of (world_at T) f input)
  where
    input : Input
    input = m.takes.input

    o : Outcome
    o = input_row (world_at T) (OfDisconnect f) input

    w : DisconnectFacts
    w = disconnect.with_input (world_at T) (list_any outcomes.is_ignored o.effects) input f

    after : After w f' (unwrap_or o.stage f.stage)
    after = after_by (unwrap_or o.stage f.stage) w f' (sym (known_taken T line event call (OfDisconnect f) m) ∙ is)

    same : SameCall f w
    same = same_call (world_at T) (list_any outcomes.is_ignored o.effects) input f

    page : f'.page ≡ f.page
    page = ap (λ g. g.page) after.is ∙ same.page

    origin : f'.origin ≡ f.origin
    origin = ap (λ g. g.origin) after.is ∙ same.origin

    options : f'.options ≡ f.options
    options = ap (λ g. g.options) after.is ∙ same.options

    does : effects_of T event ≡ outcome_effects (world_at T) (cookies_with T) DisconnectCall call f.page o
    does = does_it T event call (OfDisconnect f) m

    stage_is : f'.stage ≡ unwrap_or o.stage f.stage
    stage_is = ap (λ g. g.stage) after.is

    gives_at : filter_map finish_of o.effects ≡ [] → filter_map (given call) (effects_of T event) ≡ []
    gives_at gives =
        ap (filter_map (given call)) does ∙ outcome_gives (world_at T) (cookies_with T) DisconnectCall call f.page o
        ∙ ap (map {B = ℕ × Finish} (λ finish. (f.page, finish))) gives

    leaves_page : replaces f.page event ≡ false
    leaves_page = input_keeps_pages event call input f.page m.takes.is_event

    -- it awaits its files still
    still_reads : filter_map finish_of o.effects ≡ [] → o.stage ≡ None → f'.stage ≡ Reading
        → Reads (with_event T line event) call s.begun f.options f'.replies
    still_reads gives stays at =
        subst (Reads (with_event T line event) call s.begun f.options) (sym (ap (λ g. g.replies) after.is))
        (step (files_step (world_at T) f call r.undisturbed.since event r.files input was m.takes.input_is))
      where
        was : f.stage ≡ Reading
        was = sym (stage_is ∙ ap (λ st. unwrap_or st f.stage) stays) ∙ at

        r : Reads T call s.begun f.options f.replies
        r = s.reads was

        step : FilesStep (world_at T) f input call r.undisturbed.since event o
            → Reads (with_event T line event) call s.begun f.options w.replies
        step (BothGood files both) =
            asks_moves f.origin f.options files.config.disconnect (sym (ap (λ x. x.stage) both) ∙ stays)
        step (OneRefused failure fails_so) = let no : Some Ended ≡ None = sym (ap (λ x. x.stage) fails_so) ∙ stays in absurd (cc)
        step (OneAwaited rests files) =
            reads_on T line event call s.begun f.options f.replies w.replies r
            (calm_at T line event call f.page s.begun s.going.of_page leaves_page (gives_at gives)) files

    -- it goes on, given nothing
    on : filter_map finish_of o.effects ≡ []
        → (f'.stage ≡ Reading → Reads (with_event T line event) call s.begun f.options f'.replies)
        → (f'.stage ≡ Asserting → AskedToDisconnect (with_event T line event).rows call f.origin f.options)
        → Sending (with_event T line event) call f'
    on gives reads asked =
        record {
          begun = s.begun;
          going = subst (λ p. Going (with_event T line event) call (disconnect_at p) s.begun) (sym page)
              (going_on T line event call (disconnect_at f.page) s.begun s.going leaves_page
              (ap (last_said nat_eq call_change call) does
              ∙ outcome_pending (world_at T) (cookies_with T) DisconnectCall call f.page call o
              ∙ still_pending DisconnectCall call (OfDisconnect w) f.stage o.stage after.going)
              (ap (last_of (begins call)) does ∙ outcome_begins (world_at T) (cookies_with T) DisconnectCall call f.page call o)
              (gives_at gives));
          of_origin = origin ∙ s.of_origin;
          is_disconnect = s.is_disconnect ∙ ap ToDisconnect (sym options);
          reads = λ at. subst (λ x. Reads (with_event T line event) call s.begun x f'.replies) (sym options) (reads at);
          asked = λ at.
              subst (λ x. AskedToDisconnect (with_event T line event).rows call x f'.options) (sym origin)
              (subst (λ x. AskedToDisconnect (with_event T line event).rows call f.origin x) (sym options) (asked at));
        }

    ends : o.stage ≡ Some Ended → Sending (with_event T line event) call f'
    ends ended =
        not_some (known_at (with_event T line event) call) (OfDisconnect f')
        (known_taken T line event call (OfDisconnect f) m
        ∙ ap (λ st. at_stage (unwrap_or st f.stage) (OfDisconnect w)) ended) is

    go : Way (world_at T) f input o → Sending (with_event T line event) call f'
    go (Sends to reading sends) =
        on (ap (λ x. filter_map finish_of x.effects) sends)
        (λ at. let no : Asserting ≡ Reading = sym (stage_is ∙ ap (λ x. unwrap_or x.stage f.stage) sends) ∙ at in absurd (cc))
        (λ at. record {
          since = [];
          asking = row_of T line event;
          before = T.rows;
          rows_are = refl;
          to = to;
          cookies = cookies_with T (asks.Disconnect to f.options.client f.options.hint f.origin);
          sends = record {
            before = [];
            after = Move DisconnectCall call Asserting ∷ [];
            all = does ∙ ap (outcome_effects (world_at T) (cookies_with T) DisconnectCall call f.page) sends;
          };
        })
    go (Answers raw at is_reply answers none) = ends (ap (λ x. x.stage) answers)
    go (Ends ended leaves none) = ends ended
    go (Rests stays gives leaves none) =
        on gives (still_reads gives stays)
        (λ at. asked_on T.rows (row_of T line event) call f.origin f.options
        (s.asked (sym (stage_is ∙ ap (λ st. unwrap_or st f.stage) stays) ∙ at)))

-- ---- every row

sending_row : (T : Trace) (line : ℕ) (event : Event) (call : ℕ) (f : DisconnectFacts) → IsNew T.rows event
    → ((g : DisconnectFacts) → known_at T call ≡ Some (OfDisconnect g) → Sending T call g)
    → known_at (with_event T line event) call ≡ Some (OfDisconnect f) → Sending (with_event T line event) call f
sending_row T line event call f new earlier is = go (happens T event call)
  where
    taken : Taking T event call → Sending (with_event T line event) call f
    taken (ByGet g m) =
        not_of_get (get.facts_after (world_at T) g m.takes.input (input_row (world_at T) (OfGet g) m.takes.input)) f
        (sym (known_taken T line event call (OfGet g) (knows T event call g m)) ∙ is)
    taken (ByDisconnect g m) = sending_taken T line event call g f m (earlier g m.found) is
    taken (ByNone t none) = not_some (known_at (with_event T line event) call) (OfDisconnect f) (still_over T line event call t none) is

    go : Happens T event call → Sending (with_event T line event) call f
    go (Left l) =
        sending_left T line event call f l
        (earlier f (sym (known_same T line event call l.quiet.stage l.quiet.begins_none l.same) ∙ is))
    go (EndsNow e) =
        not_some (known_at (with_event T line event) call) (OfDisconnect f)
        (known_moved T line event call (Some (Some Ended)) None e.stage e.begins_none
        ∙ over (option_map (said_of T event call) (known_in T.header T.rows call))) is
    go (Started s) = sending_begun T line event call f new s is
    go (Took t) = taken (taking T event call t)
    go (Resumed r) =
        not_of_get (get.at_stage (unwrap_or (resumed r.facts Window).stage Window) r.facts) f
        (sym (known_resumed T line event call r) ∙ is)

pub sending : (header : Header) (rows : List Row) (call : ℕ) → IsRun header rows → (f : DisconnectFacts)
    → known_at (record { header = header; rows = rows }) call ≡ Some (OfDisconnect f)
    → Sending (record { header = header; rows = rows }) call f
sending header [] call run f is = absurd (cc)
sending header (row ∷ rows) call run f is =
    let T : Trace = record { header = header; rows = rows } in
    let same = row_is T row run.0 in
    subst (λ r. Sending (record { header = header; rows = r ∷ rows }) call f) (sym same)
    (sending_row T row.line row.event call f run.1 (sending header rows call run.2)
    (subst (λ r. known_at (record { header = header; rows = r ∷ rows }) call ≡ Some (OfDisconnect f)) same is))
