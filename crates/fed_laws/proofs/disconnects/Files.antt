-- The two files of a disconnect call's provider: which came, and what one reply more makes of them.
use Rattle.std.proofs.Common.{◌≡◌, ◌==◌, ℕ, Bool, true, false, cond, inl, inr, List, Option, Some, None, refl, sym, ap, subst}
use Rattle.std.proofs.Common.{◌∙◌, arith}
use Rattle.std.proofs.lemmas.Bool.Decides.{nat_tests}
use Rattle.std.specs.Prelude.{Result as Answer, Ok, Err}
use Rattle.std.specs.Option.{option_or}
use Rattle.std.specs.List.{list_any}
use Rattle.url.specs.Parts.{Parts}
use Rattle.fed_origin.specs.declared.stage.Endpoint.{Endpoint}
use Rattle.fed_origin.specs.declared.stage.ReplyKind.{ReplyKind}
use Rattle.fed_origin.specs.declared.stage.ReplyKind.TheVariants as kinds
use Rattle.fed_origin.specs.declared.stage.Stage.TheVariants.{Reading}
use Rattle.fed_suffix.specs.Rule.{RuleSet}
use Rattle.fed_provider.specs.declared.config.Config.{Config}
use Rattle.fed_provider.specs.declared.first_replies.FirstReplies.{FirstReplies}
use Rattle.fed_provider.specs.declared.first_replies.Heard.{Heard}
use Rattle.fed_provider.specs.declared.first_replies.Heard.TheVariants as heard
use Rattle.fed_provider.specs.declared.step.ProviderStep.{ProviderStep}
use Rattle.fed_provider.specs.declared.step.ProviderStep.TheVariants.{ConfigOther}
use Rattle.fed_provider.specs.declared.wellknown.WellKnown.{WellKnown}
use Rattle.fed_provider.specs.Config.{ConfigOf}
use Rattle.fed_provider.specs.FirstReplies.{by_agreement, config_heard, reply_heard, wellknown_heard, wellknown_read}
use Rattle.fed_provider.specs.WellKnown.{agrees}
use Rattle.fed_status.specs.Shared.{World}
use Rattle.fed_consent.specs.declared.table.failure.Failure.{Failure}
use Rattle.fed_consent.specs.declared.table.input.Input.{Input}
use Rattle.fed_consent.specs.declared.table.input.Input.TheVariants as inputs
use Rattle.fed_consent.specs.Outcomes.{Outcome, fails, is_ignored, only_place}
use Rattle.fed_disconnect.specs.Facts.{DisconnectFacts, taken, with_input}
use Rattle.fed_disconnect.specs.Rows.{asks_disconnect, by_heard, input_row, provider_reply, stage_reply}
use Rattle.fed_script.specs.declared.event.Event.{Event}
use Rattle.fed_trace.specs.Known.{input_to}
use Rattle.fed_trace.specs.Trace.{Row}
use Rattle.fed_trace.proofs.effects.Outcome.{option_or-none}
use Rattle.fed_laws.specs.Cause.{FilesAreGood, config_brought, first_by, first_in, wellknown_brought}

-- ---- what came

-- a well-known file that was taken is the first that came
abbrev pub WellKnownIs : RuleSet → Parts → Option WellKnown → Option (List ℕ) → Type 0
WellKnownIs rules url None came = came ≡ None
WellKnownIs rules url (Some said) came = (raw : List ℕ) × (came ≡ Some raw) × (wellknown_read rules url raw ≡ Ok said)

-- a configuration that was taken is in the first reply that came
abbrev pub ConfigIs : Parts → Option Config → Option (List ℕ) → Type 0
ConfigIs url None came = came ≡ None
ConfigIs url (Some config) came = (raw : List ℕ) × (came ≡ Some raw) × (ConfigOf raw url ≡ Ok config)

pub record FilesAre (rules : RuleSet) (url : Parts) (replies : FirstReplies) (first second : Option (List ℕ)) : Type 0 where
  pub wellknown_is : WellKnownIs rules url replies.wellknown first
  pub config_is : ConfigIs url replies.config second

-- those of the rows
abbrev pub FilesIn : RuleSet → Parts → FirstReplies → ℕ → List Row → Type 0
FilesIn rules url replies call since =
    FilesAre rules url replies (first_in wellknown_brought call since) (first_in config_brought call since)

-- those of the rows and then an event
abbrev pub FilesBy : RuleSet → Parts → FirstReplies → ℕ → List Row → Event → Type 0
FilesBy rules url replies call since event =
    FilesAre rules url replies (first_by wellknown_brought call since event) (first_by config_brought call since event)

-- ---- one event more

came_apart : (first brought : Option (List ℕ)) → brought ≡ None → option_or first brought ≡ first
came_apart first brought none = ap (option_or first) none ∙ option_or-none first

came_now : (first brought : Option (List ℕ)) (raw : List ℕ) → first ≡ None → brought ≡ Some raw → option_or first brought ≡ Some raw
came_now first brought raw none is = ap (λ o. option_or o brought) none ∙ is

wellknown_stays : (rules : RuleSet) (url : Parts) (said : WellKnown) (first brought : Option (List ℕ))
    → WellKnownIs rules url (Some said) first → WellKnownIs rules url (Some said) (option_or first brought)
wellknown_stays rules url said first brought is = (is.0, ap (λ o. option_or o brought) is.1, is.2)

config_stays : (url : Parts) (config : Config) (first brought : Option (List ℕ)) → ConfigIs url (Some config) first
    → ConfigIs url (Some config) (option_or first brought)
config_stays url config first brought is = (is.0, ap (λ o. option_or o brought) is.1, is.2)

-- an event that brings neither file
pub files_apart : (rules : RuleSet) (url : Parts) (replies : FirstReplies) (call : ℕ) (since : List Row) (event : Event)
    → FilesIn rules url replies call since → wellknown_brought (input_to call event) ≡ None → config_brought (input_to call event) ≡ None
    → FilesBy rules url replies call since event
files_apart rules url replies call since event files first second =
    record {
      wellknown_is =
          subst (WellKnownIs rules url replies.wellknown)
          (sym (came_apart (first_in wellknown_brought call since) (wellknown_brought (input_to call event)) first)) files.wellknown_is;
      config_is =
          subst (ConfigIs url replies.config)
          (sym (came_apart (first_in config_brought call since) (config_brought (input_to call event)) second)) files.config_is;
    }

-- ---- what a reply of the provider comes to

pub data Hearing (rules : RuleSet) (url : Parts) (call : ℕ) (since : List Row) (event : Event) (replies : FirstReplies) (h : Heard) : Type 0
  where
    Refuses : (step : ProviderStep) → h ≡ heard.Refused step → Hearing rules url call since event replies h
    Hears : (now : FirstReplies) → h ≡ heard.Waits now → FilesBy rules url now call since event
        → Hearing rules url call since event replies h
    Declines : (now : FirstReplies) → h ≡ heard.NotWaited now → FilesBy rules url replies call since event
        → Hearing rules url call since event replies h
    Completes : (files : FilesAreGood rules url call since event) → h ≡ heard.Both files.config
        → Hearing rules url call since event replies h

module _ (rules : RuleSet) (url : Parts) (call : ℕ) (since : List Row) (event : Event) (raw : List ℕ) where
  abbrev Heard_of : FirstReplies → Heard → Type 0
  Heard_of replies h = Hearing rules url call since event replies h

  -- both files came and are good: they agree, or the call fails
  heard_both : (replies : FirstReplies) (config : Config) (other : Option Endpoint)
      → (other ≡ None → (files : FilesAreGood rules url call since event) × (config ≡ files.config))
      → Heard_of replies (by_agreement config other)
  heard_both replies config None good = let both = good refl in Completes both.0 (ap heard.Both both.1)
  heard_both replies config (Some endpoint) good = Refuses (ConfigOther endpoint) refl

  -- a well-known reply, by what was taken before
  heard_wellknown : (wellknown : Option WellKnown) (config : Option Config)
      → input_to call event ≡ Some (inputs.Reply only_place kinds.WellKnown raw)
      → FilesIn rules url (record { wellknown = wellknown; config = config }) call since
      → Heard_of (record { wellknown = wellknown; config = config }) (wellknown_heard wellknown config (wellknown_read rules url raw))
  heard_wellknown (Some said) config is files =
      Declines _ refl
      (record {
        wellknown_is = wellknown_stays rules url said _ _ files.wellknown_is;
        config_is = subst (ConfigIs url config) (sym (came_apart _ _ (ap config_brought is))) files.config_is;
      })
  heard_wellknown None None is files = go (wellknown_read rules url raw) refl
    where
      go : (read : Answer WellKnown ProviderStep) → wellknown_read rules url raw ≡ read
          → Heard_of (record { wellknown = None; config = None }) (wellknown_heard None None read)
      go (Err step) reads = Refuses step refl
      go (Ok said) reads =
          Hears _ refl
          (record {
            wellknown_is = (raw, came_now _ _ raw files.wellknown_is (ap wellknown_brought is), reads);
            config_is = came_apart _ _ (ap config_brought is) ∙ files.config_is;
          })
  heard_wellknown None (Some config) is files = go (wellknown_read rules url raw) refl
    where
      go : (read : Answer WellKnown ProviderStep) → wellknown_read rules url raw ≡ read
          → Heard_of (record { wellknown = None; config = Some config }) (wellknown_heard None (Some config) read)
      go (Err step) reads = Refuses step refl
      go (Ok said) reads =
          heard_both _ config (agrees said config)
          (λ agree. (
            record {
              wellknown = raw;
              wellknown_came = came_now _ _ raw files.wellknown_is (ap wellknown_brought is);
              said = said;
              names_it = reads;
              file = files.config_is.0;
              file_came = came_apart _ _ (ap config_brought is) ∙ files.config_is.1;
              config = config;
              holds = files.config_is.2;
              agree = agree;
              not_before = inl files.wellknown_is;
            },
            refl,
          ))

  -- a configuration reply
  heard_config : (wellknown : Option WellKnown) (config : Option Config)
      → input_to call event ≡ Some (inputs.Reply only_place kinds.Config raw)
      → FilesIn rules url (record { wellknown = wellknown; config = config }) call since
      → Heard_of (record { wellknown = wellknown; config = config }) (config_heard wellknown config (ConfigOf raw url))
  heard_config wellknown (Some config) is files =
      Declines _ refl
      (record {
        wellknown_is = subst (WellKnownIs rules url wellknown) (sym (came_apart _ _ (ap wellknown_brought is))) files.wellknown_is;
        config_is = config_stays url config _ _ files.config_is;
      })
  heard_config None None is files = go (ConfigOf raw url) refl
    where
      go : (read : Answer Config ProviderStep) → ConfigOf raw url ≡ read
          → Heard_of (record { wellknown = None; config = None }) (config_heard None None read)
      go (Err step) reads = Refuses step refl
      go (Ok config) reads =
          Hears _ refl
          (record {
            wellknown_is = came_apart _ _ (ap wellknown_brought is) ∙ files.wellknown_is;
            config_is = (raw, came_now _ _ raw files.config_is (ap config_brought is), reads);
          })
  heard_config (Some said) None is files = go (ConfigOf raw url) refl
    where
      go : (read : Answer Config ProviderStep) → ConfigOf raw url ≡ read
          → Heard_of (record { wellknown = Some said; config = None }) (config_heard (Some said) None read)
      go (Err step) reads = Refuses step refl
      go (Ok config) reads =
          heard_both _ config (agrees said config)
          (λ agree. (
            record {
              wellknown = files.wellknown_is.0;
              wellknown_came = came_apart _ _ (ap wellknown_brought is) ∙ files.wellknown_is.1;
              said = said;
              names_it = files.wellknown_is.2;
              file = raw;
              file_came = came_now _ _ raw files.config_is (ap config_brought is);
              config = config;
              holds = reads;
              agree = agree;
              not_before = inr files.config_is;
            },
            refl,
          ))

  -- a reply of any kind
  heard_by : (kind : ReplyKind) (replies : FirstReplies) → input_to call event ≡ Some (inputs.Reply only_place kind raw)
      → FilesIn rules url replies call since → Heard_of replies (reply_heard rules replies url kind raw)
  heard_by kinds.WellKnown replies is files = heard_wellknown replies.wellknown replies.config is files
  heard_by kinds.Config replies is files = heard_config replies.wellknown replies.config is files
  heard_by kinds.Accounts replies is files =
      Declines _ refl (files_apart rules url replies call since event files (ap wellknown_brought is) (ap config_brought is))
  heard_by kinds.Metadata replies is files =
      Declines _ refl (files_apart rules url replies call since event files (ap wellknown_brought is) (ap config_brought is))
  heard_by kinds.Assertion replies is files =
      Declines _ refl (files_apart rules url replies call since event files (ap wellknown_brought is) (ap config_brought is))
  heard_by kinds.Disconnect replies is files =
      Declines _ refl (files_apart rules url replies call since event files (ap wellknown_brought is) (ap config_brought is))

-- ---- what an input makes of a call that awaits its files

-- what is known of the call then
abbrev pub told : World → DisconnectFacts → Input → Outcome → DisconnectFacts
told world f input o = with_input world (list_any is_ignored o.effects) input f

pub data FilesStep (world : World) (f : DisconnectFacts) (input : Input) (call : ℕ) (since : List Row) (event : Event) (o : Outcome)
    : Type 0 where
  -- both are good
  BothGood : (files : FilesAreGood world.rules f.options.config call since event)
      → o ≡ asks_disconnect f.origin f.options files.config.disconnect → FilesStep world f input call since event o
  -- one is refused
  OneRefused : (failure : Failure) → o ≡ fails failure → FilesStep world f input call since event o
  -- one is awaited still
  OneAwaited : o.stage ≡ None → FilesBy world.rules f.options.config (told world f input o).replies call since event
      → FilesStep world f input call since event o

module _ (world : World) (f : DisconnectFacts) (call : ℕ) (since : List Row) (event : Event)
    (files : FilesIn world.rules f.options.config f.replies call since) where
  -- by what a reply of the provider comes to
  abbrev Then : ReplyKind → List ℕ → Heard → Type 0
  Then kind raw h = FilesStep world f (inputs.Reply only_place kind raw) call since event (by_heard f.origin f.options h)

  step_heard : (kind : ReplyKind) (raw : List ℕ) (h : Heard) → reply_heard world.rules f.replies f.options.config kind raw ≡ h
      → Hearing world.rules f.options.config call since event f.replies h → Then kind raw h
  step_heard kind raw h is (Refuses step refused) = subst (Then kind raw) (sym refused) (OneRefused _ refl)
  step_heard kind raw h is (Hears now waits files_now) =
      subst (Then kind raw) (sym waits)
      (OneAwaited refl (subst (λ r. FilesBy world.rules f.options.config r call since event) (sym (ap taken (is ∙ waits))) files_now))
  step_heard kind raw h is (Declines now declined files_now) = subst (Then kind raw) (sym declined) (OneAwaited refl files_now)
  step_heard kind raw h is (Completes good both) = subst (Then kind raw) (sym both) (BothGood good refl)

  -- an input that is ignored, and brings no file
  step_ignored : (input : Input) (o : Outcome) → o.stage ≡ None → list_any is_ignored o.effects ≡ true
      → wellknown_brought (input_to call event) ≡ None → config_brought (input_to call event) ≡ None
      → FilesStep world f input call since event o
  step_ignored input o rests ignores first second =
      OneAwaited rests
      (subst (λ b. FilesBy world.rules f.options.config (with_input world b input f).replies call since event) (sym ignores)
      (files_apart world.rules f.options.config f.replies call since event files first second))

  step_reply : (place : ℕ) (kind : ReplyKind) (raw : List ℕ) → f.stage ≡ Reading
      → input_to call event ≡ Some (inputs.Reply place kind raw) → (own : Bool) → (place == only_place) ≡ own
      → FilesStep world f (inputs.Reply place kind raw) call since event (provider_reply world f own kind raw)
  step_reply place kind raw at is false other =
      step_ignored _ _ refl refl (ap wellknown_brought is ∙ none kind) (ap config_brought is ∙ none_too kind)
    where
      none : (kind : ReplyKind) → wellknown_brought (Some (inputs.Reply place kind raw)) ≡ None
      none kinds.WellKnown = ap (λ b. cond b (Some raw) None) other
      none kinds.Config = refl
      none kinds.Accounts = refl
      none kinds.Metadata = refl
      none kinds.Assertion = refl
      none kinds.Disconnect = refl

      none_too : (kind : ReplyKind) → config_brought (Some (inputs.Reply place kind raw)) ≡ None
      none_too kinds.WellKnown = refl
      none_too kinds.Config = ap (λ b. cond b (Some raw) None) other
      none_too kinds.Accounts = refl
      none_too kinds.Metadata = refl
      none_too kinds.Assertion = refl
      none_too kinds.Disconnect = refl
  step_reply place kind raw at is true own =
      let here : place ≡ only_place = grind (arith, nat_tests, own) in
      subst (λ p. FilesStep world f (inputs.Reply p kind raw) call since event (stage_reply world f f.stage kind raw)) (sym here)
      (subst (λ stage. FilesStep world f (inputs.Reply only_place kind raw) call since event (stage_reply world f stage kind raw)) (sym at)
      (step_heard kind raw _ refl
      (heard_by world.rules f.options.config call since event raw kind f.replies
      (is ∙ ap (λ p. Some (inputs.Reply p kind raw)) here) files)))

  pub files_step : (input : Input) → f.stage ≡ Reading → input_to call event ≡ Some input
      → FilesStep world f input call since event (input_row world f input)
  files_step (inputs.Reply place kind raw) at is = step_reply place kind raw at is (place == only_place) refl
  files_step (inputs.Choose place account) at is = step_ignored _ _ refl refl (ap wellknown_brought is) (ap config_brought is)
  files_step inputs.GoOn at is = step_ignored _ _ refl refl (ap wellknown_brought is) (ap config_brought is)
  files_step inputs.Cancel at is = step_ignored _ _ refl refl (ap wellknown_brought is) (ap config_brought is)
  files_step inputs.SignIn at is = step_ignored _ _ refl refl (ap wellknown_brought is) (ap config_brought is)
  files_step inputs.Shut at is = step_ignored _ _ refl refl (ap wellknown_brought is) (ap config_brought is)
  files_step inputs.Resume at is = step_ignored _ _ refl refl (ap wellknown_brought is) (ap config_brought is)
  files_step inputs.Abort at is = step_ignored _ _ refl refl (ap wellknown_brought is) (ap config_brought is)
