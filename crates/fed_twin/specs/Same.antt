-- What is the same of a call, and of all that happened, in two worlds that providers cannot tell apart.
use Rattle.std.specs.Prelude.{◌≡◌, ℕ, Bool, true, false, List, Option, Some, None, IfSome, ⊤}
use Rattle.std.specs.List.{AllByRecursion, AllZip}
use Rattle.fed_origin.specs.declared.options.GetOptions.{GetOptions}
use Rattle.fed_origin.specs.declared.options.ProviderOptions.{ProviderOptions}
use Rattle.fed_origin.specs.declared.origin.Origin.{Origin}
use Rattle.fed_origin.specs.declared.stage.Stage.{Stage}
use Rattle.fed_origin.specs.declared.stage.Stage.TheVariants as stages
use Rattle.fed_origin.specs.WebUrl.{host_of}
use Rattle.fed_status.specs.Flags.{has_flag}
use Rattle.fed_provider.specs.declared.config.Config.{Config}
use Rattle.fed_call.specs.declared.progress.Progress.{Progress}
use Rattle.fed_call.specs.declared.progress.Progress.TheVariants as progress_is
use Rattle.fed_call.specs.Accounts.{Offered}
use Rattle.fed_call.specs.Facts.{Facts}
use Rattle.fed_trace.specs.Known.{facts_at}
use Rattle.fed_trace.specs.Trace.{Trace, flags}
use Rattle.fed_twin.specs.Providers.{Providers, is_provider}
use Rattle.fed_twin.specs.Seen.{view}
use Rattle.fed_twin.specs.Twin.{SharesProvider}

-- both are there and so related, or neither is
abbrev pub IfBoth : {A B : Type 0} → (A → B → Type 0) → Option A → Option B → Type 0
IfBoth R None None = ⊤
IfBoth R (Some a) (Some b) = R a b
IfBoth R None (Some b) = ⊥
IfBoth R (Some a) None = ⊥

-- ---- one call

-- the same provider, which is one of those that the worlds speak of
pub record SameProvider (p : Providers) (a b : ProviderOptions) : Type 0 where
  pub shares : SharesProvider a b
  pub known : is_provider p (host_of a.config) ≡ true

pub record SameOptions (p : Providers) (a b : GetOptions) : Type 0 where
  pub mediation : a.mediation ≡ b.mediation
  pub mode : a.mode ≡ b.mode
  pub activation : a.activation ≡ b.activation
  pub providers : AllZip (SameProvider p) a.providers b.providers

-- the same account of the same provider is offered; whether it is connected is not said
pub record SameOffered (p : Providers) (a b : Offered) : Type 0 where
  pub place : a.place ≡ b.place
  pub options : SameProvider p a.options b.options
  pub config : a.config ≡ b.config
  pub account : a.candidate.account ≡ b.candidate.account

-- a configuration has its accounts at the party of a provider
abbrev pub IsOwn : Providers → Config → Type 0
IsOwn p config = is_provider p (host_of config.accounts) ≡ true

-- so has the one that a provider of a call has come to
abbrev pub HasOwn : Providers → Progress → Type 0
HasOwn p (progress_is.Reading replies) = IfSome replies.config (IsOwn p)
HasOwn p (progress_is.Listing config) = IsOwn p config
HasOwn p (progress_is.Listed config accounts) = ⊤
HasOwn p (progress_is.Dropped failure) = ⊤

-- a call goes on, and asked for no token
abbrev pub is_open : Stage → Bool
is_open stages.Reading = true
is_open stages.Listing = true
is_open stages.Gathering = true
is_open stages.Mismatch = true
is_open stages.Window = true
is_open stages.Choosing = true
is_open stages.Prompting = true
is_open stages.Asserting = false
is_open stages.Ended = false

-- What the replies and the user said is the same. Which accounts are connected, which one is shown and whether a prompt waits is not said.
pub record SameData (p : Providers) (f f' : Facts) : Type 0 where
  pub options : SameOptions p f.options f'.options
  pub progress : f.progress ≡ f'.progress
  pub known : AllByRecursion (HasOwn p) f.progress
  pub offered : AllZip (SameOffered p) f.offered f'.offered

pub record SameFacts (p : Providers) (f f' : Facts) : Type 0 where
  pub stage : f.stage ≡ f'.stage
  pub goes_on : is_open f.stage ≡ true
  pub said : SameData p f f'

-- The call is the same in both worlds: it is over or never began in both, or goes on in the same way. Events without a call use three facts
-- of it alone: the stages are equal; it holds again where what is known is what it was; and where nothing is known in either world.
abbrev pub SameCall : Providers → Option Facts → Option Facts → Type 0
SameCall p f f' = IfBoth (SameFacts p) f f'

-- ---- the worlds

pub record SameWorlds (p : Providers) (T U : Trace) : Type 0 where
  pub rules : T.header.rules ≡ p.rules
  pub rules' : U.header.rules ≡ p.rules
  pub now : T.header.now ≡ U.header.now
  -- providers could tell the same of what happened
  pub seen : view p T.rows ≡ view p U.rows
  pub calls : (call : ℕ) → SameCall p (facts_at T call) (facts_at U call)

-- Of each of these pairs of origins, which the scripts name together, the flag is set in both worlds or in neither.
abbrev pub SameFlags : List (Origin × Origin) → Trace → Trace → Type 0
SameFlags named T U = AllByRecursion (λ o. has_flag (flags T) o.0 ≡ has_flag (flags U) o.1) named
