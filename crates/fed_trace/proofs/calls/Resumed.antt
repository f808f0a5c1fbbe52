-- Calls that ask for their accounts again where a page of their provider says that the user has signed in.
use Rattle.std.proofs.Common.{◌≡◌, ℕ, Bool, true, false, nat_eq, ◌||◌, cond, List, [], ◌∷◌, Option, Some, None, refl, ap, ◌∙◌, arith}
use Rattle.std.proofs.lemmas.Bool.Decides.{nat_tests}
use Rattle.std.specs.Option.{option_or}
use Rattle.std.specs.List.{flat_map, list_any}
use Rattle.url.specs.Parts.{Parts}
use Rattle.fed_origin.specs.declared.origin.Origin.{Origin}
use Rattle.fed_origin.specs.declared.stage.Stage.{Stage}
use Rattle.fed_origin.specs.declared.stage.Stage.TheVariants.{Reading, Listing, Gathering, Mismatch, Window, Choosing, Prompting}
use Rattle.fed_origin.specs.declared.stage.Stage.TheVariants.{Asserting, Ended}
use Rattle.fed_origin.specs.Origin.{is_trustworthy}
use Rattle.fed_provider.specs.declared.config.Config.{Config}
use Rattle.fed_status.specs.Shared.{World}
use Rattle.fed_consent.specs.declared.table.ask.Ask.{Ask}
use Rattle.fed_consent.specs.declared.table.ask.Ask.TheVariants.{Accounts}
use Rattle.fed_consent.specs.declared.table.input.Input.TheVariants.{Resume}
use Rattle.fed_consent.specs.declared.table.why.Why.{Why}
use Rattle.fed_consent.specs.declared.table.why.Why.TheVariants.{NoPage, PageInsecure, CallEnded, NotOffered, NobodyWaits}
use Rattle.fed_consent.specs.Outcomes.{only_place}
use Rattle.fed_call.specs.Facts.{Facts, config_at}
use Rattle.fed_call.specs.WindowRows.{asks_again, resumed}
use Rattle.fed_trace.specs.Begun.{CallKind, GetCall}
use Rattle.fed_trace.specs.Call.{Known, OfGet, OfDisconnect}
use Rattle.fed_trace.specs.Effect.{Effect, Move, Sent, Ignored, stage_change}
use Rattle.fed_trace.specs.Keyed.{last_said}
use Rattle.fed_trace.specs.Row.{outcome_effects, input_effects, resume_effects, waiting_effects, standing_resumes, idpclose_effects}
use Rattle.fed_trace.proofs.effects.Outcome.{option_or-none, last_said-append}
use Rattle.fed_trace.proofs.effects.Silent.{AllSilent, silent_append, silent_is}

-- what a call does: it asks for its accounts, or nothing comes of it
pub data Resuming (call : ℕ) (effects : List Effect) : Type 0 where
  Rests : effects ≡ [] → Resuming call effects
  Refuses : (why : Why) → effects ≡ Ignored why ∷ [] → Resuming call effects
  AsksAgain : (kind : CallKind) (provider : ℕ) (to : Parts) (cookies : List ℕ)
      → effects ≡ Sent kind call provider (Accounts to) cookies ∷ Move kind call Listing ∷ [] → Resuming call effects

asking : (world : World) (cookies : Ask → List ℕ) (call page : ℕ) (config : Option Config)
    → Resuming call (outcome_effects world cookies GetCall call page (asks_again only_place config))
asking world cookies call page None = Rests refl
asking world cookies call page (Some config) = AsksAgain GetCall only_place config.accounts (cookies (Accounts config.accounts)) refl

get_resuming : (world : World) (cookies : Ask → List ℕ) (call : ℕ) (facts : Facts) (stage : Stage)
    → Resuming call (outcome_effects world cookies GetCall call facts.page (resumed facts stage))
get_resuming world cookies call facts Window = asking world cookies call facts.page (config_at only_place facts)
get_resuming world cookies call facts Reading = Refuses NotOffered refl
get_resuming world cookies call facts Listing = Refuses NotOffered refl
get_resuming world cookies call facts Mismatch = Refuses NotOffered refl
get_resuming world cookies call facts Gathering = Refuses NotOffered refl
get_resuming world cookies call facts Choosing = Refuses NotOffered refl
get_resuming world cookies call facts Prompting = Refuses NotOffered refl
get_resuming world cookies call facts Asserting = Refuses NotOffered refl
get_resuming world cookies call facts Ended = Refuses NotOffered refl

pub resuming : (world : World) (cookies : Ask → List ℕ) (call : ℕ) (known : Option Known)
    → Resuming call (input_effects world cookies true call known Resume)
resuming world cookies call None = Refuses CallEnded refl
resuming world cookies call (Some (OfGet facts)) = get_resuming world cookies call facts facts.stage
resuming world cookies call (Some (OfDisconnect facts)) = Refuses NotOffered refl

-- ---- what they say nothing of

-- what is silent on accounts requests, on moves to Listing and on reasons
pub record IsUnasked {A : Type 0} (said : Effect → Option A) : Type 0 where
  pub ignored : (why : Why) → said (Ignored why) ≡ None
  pub sent : (kind : CallKind) (call provider : ℕ) (to : Parts) (cookies : List ℕ)
      → said (Sent kind call provider (Accounts to) cookies) ≡ None
  pub move : (kind : CallKind) (call : ℕ) → said (Move kind call Listing) ≡ None

resuming_silent : {A : Type 0} (said : Effect → Option A) → IsUnasked said → (call : ℕ) (effects : List Effect)
    → Resuming call effects → AllSilent said effects
resuming_silent said un call effects (Rests is) = silent_is said effects [] is tt
resuming_silent said un call effects (Refuses why is) = silent_is said effects (Ignored why ∷ []) is (un.ignored why, tt)
resuming_silent said un call effects (AsksAgain kind provider to cookies is) =
    silent_is said effects (Sent kind call provider (Accounts to) cookies ∷ Move kind call Listing ∷ []) is
    (un.sent kind call provider to cookies, (un.move kind call, tt))

pub resumes_silent : {A : Type 0} (said : Effect → Option A) → IsUnasked said
    → (world : World) (cookies : Ask → List ℕ) (known : ℕ → Option Known) (calls : List ℕ)
    → AllSilent said (flat_map (resume_effects world cookies known) calls)
resumes_silent said un world cookies known [] = tt
resumes_silent said un world cookies known (call ∷ calls) =
    silent_append said (resume_effects world cookies known call) (flat_map (resume_effects world cookies known) calls)
    (resuming_silent said un call (resume_effects world cookies known call) (resuming world cookies call (known call)))
    (resumes_silent said un world cookies known calls)

-- a page that says that the user has signed in
pub idpclose_silent : {A : Type 0} (said : Effect → Option A) → IsUnasked said
    → (world : World) (cookies : Ask → List ℕ) (known : ℕ → Option Known) (waiting : Origin → List ℕ) (o : Option Origin)
    → AllSilent said (idpclose_effects world cookies known waiting o)
idpclose_silent said un world cookies known waiting None = (un.ignored NoPage, tt)
idpclose_silent said un world cookies known waiting (Some origin) = standing (is_trustworthy origin)
  where
    goes : (calls : List ℕ) → AllSilent said (waiting_effects world cookies known calls)
    goes [] = (un.ignored NobodyWaits, tt)
    goes (call ∷ calls) = resumes_silent said un world cookies known (call ∷ calls)

    standing : (trusted : Bool) → AllSilent said (standing_resumes world cookies known (waiting origin) trusted)
    standing true = goes (waiting origin)
    standing false = (un.ignored PageInsecure, tt)

-- ---- what they say of stages

-- a call says nothing of the stage of another
apart_stage : (q call : ℕ) → nat_eq q call ≡ false → (effects : List Effect) → Resuming call effects
    → last_said nat_eq stage_change q effects ≡ None
apart_stage q call ne effects (Rests is) = ap (last_said nat_eq stage_change q) is
apart_stage q call ne effects (Refuses why is) = ap (last_said nat_eq stage_change q) is
apart_stage q call ne effects (AsksAgain kind provider to cookies is) =
    ap (last_said nat_eq stage_change q) is ∙ ap (λ b. option_or (option_or None (cond b (Some (Some Listing)) None)) None) ne

or_same : {A : Type 0} (o : Option A) → option_or o o ≡ o
or_same None = refl
or_same (Some x) = refl

-- of the stage of one of the calls all say what it says itself
pub stages_resumed : (world : World) (cookies : Ask → List ℕ) (known : ℕ → Option Known) (q : ℕ) (calls : List ℕ)
    → last_said nat_eq stage_change q (flat_map (resume_effects world cookies known) calls)
    ≡ cond (list_any (nat_eq q) calls) (last_said nat_eq stage_change q (resume_effects world cookies known q)) None
stages_resumed world cookies known q [] = refl
stages_resumed world cookies known q (call ∷ calls) =
    last_said-append nat_eq stage_change q (resume_effects world cookies known call) (flat_map (resume_effects world cookies known) calls)
    ∙ ap (λ o. option_or o (says call)) (stages_resumed world cookies known q calls) ∙ go (nat_eq q call) refl
  where
    says : ℕ → Option (Option Stage)
    says c = last_said nat_eq stage_change q (resume_effects world cookies known c)

    both : (b : Bool) → option_or (cond b (says q) None) (says q) ≡ says q
    both true = or_same (says q)
    both false = refl

    go : (b : Bool) → nat_eq q call ≡ b
        → option_or (cond (list_any (nat_eq q) calls) (says q) None) (says call) ≡ cond (b || list_any (nat_eq q) calls) (says q) None
    go true is =
        let same : call ≡ q = grind (arith, nat_tests, is) in
        ap (λ c. option_or (cond (list_any (nat_eq q) calls) (says q) None) (says c)) same ∙ both (list_any (nat_eq q) calls)
    go false is =
        ap (option_or (cond (list_any (nat_eq q) calls) (says q) None))
        (apart_stage q call is (resume_effects world cookies known call) (resuming world cookies call (known call)))
        ∙ option_or-none (cond (list_any (nat_eq q) calls) (says q) None)
