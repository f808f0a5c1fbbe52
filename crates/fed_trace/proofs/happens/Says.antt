-- What an outcome of a call says, of it and of other calls.
use Rattle.std.proofs.Common.{◌≡◌, ℕ, true, false, nat_eq, List, [], ◌∷◌, ◌++◌, Option, Some, None, map, refl, ap}
use Rattle.std.proofs.Common.{◌∙◌, arith, cond}
use Rattle.std.proofs.Common.{append-nil}
use Rattle.std.proofs.lemmas.Bool.Decides.{nat_tests}
use Rattle.std.proofs.lemmas.List.Elements.{filter_map-append}
use Rattle.std.specs.List.{filter_map, cons_option, flat_map}
use Rattle.fed_origin.specs.declared.stage.Stage.{Stage}
use Rattle.fed_origin.specs.declared.stage.Stage.TheVariants.{Reading, Listing, Gathering, Mismatch, Window, Choosing, Prompting}
use Rattle.fed_origin.specs.declared.stage.Stage.TheVariants.{Asserting, Ended}
use Rattle.fed_consent.specs.declared.table.ask.Ask.{Ask}
use Rattle.fed_consent.specs.declared.table.effect.Effect.{Effect as CallEffect}
use Rattle.fed_consent.specs.Outcomes.{Outcome}
use Rattle.fed_consent.specs.declared.table.finish.Finish.{Finish}
use Rattle.fed_consent.specs.Consent.{AssertionFields}
use Rattle.fed_consent.specs.declared.table.ask.Ask.TheVariants as asks
use Rattle.fed_consent.specs.declared.table.effect.Effect.TheVariants as does
use Rattle.fed_trace.specs.OfCall.{asked, given, dropped}
use Rattle.fed_trace.specs.Begun.{CallKind}
use Rattle.fed_trace.specs.Effect.{Effect, Move, Sent, last_of, page_change, call_change, stage_change, begins, Kept}
use Rattle.fed_trace.specs.Keyed.{last_said}
use Rattle.fed_trace.specs.Row.{call_effects, moves, outcome_effects}
use Rattle.fed_trace.proofs.effects.Outcome.{last_said_after, moves_no_other}
use Rattle.fed_trace.proofs.calls.Pending.{outcome_silent}
use Rattle.fed_trace.proofs.effects.Silent.{AllSilent, said_silent, last_silent, last_said_silent, silent_call, silent_append, silent_map}
use Rattle.fed_trace.proofs.effects.Silent.{goes_silent}
use Rattle.fed_status.specs.Kept.{triples_of_pair}
use Rattle.fed_status.specs.Shared.{World}

-- effects that say nothing of the call
pub record Quiet (call : ℕ) (effects : List Effect) : Type 0 where
  pub stage : last_said nat_eq stage_change call effects ≡ None
  pub pending : last_said nat_eq call_change call effects ≡ None
  pub begins_none : last_of (begins call) effects ≡ None
  pub asks : filter_map (asked call) effects ≡ []
  pub gives : filter_map (given call) effects ≡ []
  pub drops : filter_map (dropped call) effects ≡ []

-- ---- what a call's outcome says of it

pub own : (call : ℕ) → nat_eq call call ≡ true
own call = grind (arith, nat_tests)

-- the request for a token that an effect is, with the place of its provider
abbrev pub asks_token : CallEffect → Option (ℕ × AssertionFields)
asks_token (does.Send provider (asks.Assertion ask)) = Some (provider, ask)
asks_token _ = None

does_ask : (world : World) (cookies : Ask → List ℕ) (kind : CallKind) (call page : ℕ) (effects : List CallEffect)
    → filter_map (asked call) (flat_map (call_effects world cookies kind call page) effects) ≡ filter_map asks_token effects
does_ask world cookies kind call page [] = refl
does_ask world cookies kind call page (does.Send provider (asks.WellKnown to) ∷ effects) = does_ask world cookies kind call page effects
does_ask world cookies kind call page (does.Send provider (asks.Config to) ∷ effects) = does_ask world cookies kind call page effects
does_ask world cookies kind call page (does.Send provider (asks.Accounts to) ∷ effects) = does_ask world cookies kind call page effects
does_ask world cookies kind call page (does.Send provider (asks.Metadata to client origin) ∷ effects) =
    does_ask world cookies kind call page effects
does_ask world cookies kind call page (does.Send provider (asks.Disconnect to client hint origin) ∷ effects) =
    does_ask world cookies kind call page effects
does_ask world cookies kind call page (does.Send provider (asks.Assertion ask) ∷ effects) =
    ap (λ b. cons_option (cond b (Some (provider, ask)) None)
    (filter_map (asked call) (flat_map (call_effects world cookies kind call page) effects))) (own call)
    ∙ ap (λ xs. (provider, ask) ∷ xs) (does_ask world cookies kind call page effects)
does_ask world cookies kind call page (does.Finish finish ∷ effects) = does_ask world cookies kind call page effects
does_ask world cookies kind call page (does.Ignored why ∷ effects) = does_ask world cookies kind call page effects
does_ask world cookies kind call page (does.Dialog dialog ∷ effects) = does_ask world cookies kind call page effects
does_ask world cookies kind call page (does.Dropped place failure ∷ effects) = does_ask world cookies kind call page effects
does_ask world cookies kind call page (does.Window place url ∷ effects) = does_ask world cookies kind call page effects
does_ask world cookies kind call page (does.SetLogin origin status ∷ effects) = does_ask world cookies kind call page effects
does_ask world cookies kind call page (does.Keep triple ∷ effects) = does_ask world cookies kind call page effects
does_ask world cookies kind call page (does.Forget triple ∷ effects) = does_ask world cookies kind call page effects
does_ask world cookies kind call page (does.ForgetPair p q ∷ effects) =
    goes_silent (asked call) (λ t. refl) (triples_of_pair world.kept p q) (flat_map (call_effects world cookies kind call page) effects)
    ∙ does_ask world cookies kind call page effects
does_ask world cookies kind call page (does.ClearFlag origin ∷ effects) = does_ask world cookies kind call page effects

-- what the page gets by an effect
abbrev pub finish_of : CallEffect → Option Finish
finish_of (does.Finish finish) = Some finish
finish_of _ = None

does_give : (world : World) (cookies : Ask → List ℕ) (kind : CallKind) (call page : ℕ) (effects : List CallEffect)
    → filter_map (given call) (flat_map (call_effects world cookies kind call page) effects)
    ≡ map (λ finish. (page, finish)) (filter_map finish_of effects)
does_give world cookies kind call page [] = refl
does_give world cookies kind call page (does.Finish finish ∷ effects) =
    ap (λ b. cons_option (cond b (Some (page, finish)) None)
    (filter_map (given call) (flat_map (call_effects world cookies kind call page) effects))) (own call)
    ∙ ap (λ xs. (page, finish) ∷ xs) (does_give world cookies kind call page effects)
does_give world cookies kind call page (does.Send provider ask ∷ effects) = does_give world cookies kind call page effects
does_give world cookies kind call page (does.Ignored why ∷ effects) = does_give world cookies kind call page effects
does_give world cookies kind call page (does.Dialog dialog ∷ effects) = does_give world cookies kind call page effects
does_give world cookies kind call page (does.Dropped place failure ∷ effects) = does_give world cookies kind call page effects
does_give world cookies kind call page (does.Window place url ∷ effects) = does_give world cookies kind call page effects
does_give world cookies kind call page (does.SetLogin origin status ∷ effects) = does_give world cookies kind call page effects
does_give world cookies kind call page (does.Keep triple ∷ effects) = does_give world cookies kind call page effects
does_give world cookies kind call page (does.Forget triple ∷ effects) = does_give world cookies kind call page effects
does_give world cookies kind call page (does.ForgetPair p q ∷ effects) =
    goes_silent (given call) (λ t. refl) (triples_of_pair world.kept p q) (flat_map (call_effects world cookies kind call page) effects)
    ∙ does_give world cookies kind call page effects
does_give world cookies kind call page (does.ClearFlag origin ∷ effects) = does_give world cookies kind call page effects

-- the place of the provider that drops out by an effect
abbrev pub drop_of : CallEffect → Option ℕ
drop_of (does.Dropped place failure) = Some place
drop_of _ = None

does_drop : (world : World) (cookies : Ask → List ℕ) (kind : CallKind) (call page : ℕ) (effects : List CallEffect)
    → filter_map (dropped call) (flat_map (call_effects world cookies kind call page) effects)
    ≡ filter_map drop_of effects
does_drop world cookies kind call page [] = refl
does_drop world cookies kind call page (does.Finish finish ∷ effects) = does_drop world cookies kind call page effects
does_drop world cookies kind call page (does.Send provider ask ∷ effects) = does_drop world cookies kind call page effects
does_drop world cookies kind call page (does.Ignored why ∷ effects) = does_drop world cookies kind call page effects
does_drop world cookies kind call page (does.Dialog dialog ∷ effects) = does_drop world cookies kind call page effects
does_drop world cookies kind call page (does.Dropped place failure ∷ effects) =
    ap (λ b. cons_option (cond b (Some place) None)
    (filter_map (dropped call) (flat_map (call_effects world cookies kind call page) effects))) (own call)
    ∙ ap (λ xs. place ∷ xs) (does_drop world cookies kind call page effects)
does_drop world cookies kind call page (does.Window place url ∷ effects) = does_drop world cookies kind call page effects
does_drop world cookies kind call page (does.SetLogin origin status ∷ effects) = does_drop world cookies kind call page effects
does_drop world cookies kind call page (does.Keep triple ∷ effects) = does_drop world cookies kind call page effects
does_drop world cookies kind call page (does.Forget triple ∷ effects) = does_drop world cookies kind call page effects
does_drop world cookies kind call page (does.ForgetPair p q ∷ effects) =
    goes_silent (dropped call) (λ t. refl) (triples_of_pair world.kept p q) (flat_map (call_effects world cookies kind call page) effects)
    ∙ does_drop world cookies kind call page effects
does_drop world cookies kind call page (does.ClearFlag origin ∷ effects) = does_drop world cookies kind call page effects

-- before a move that says nothing
pub unmoved : {A : Type 0} (said : Effect → Option A)
    → ((kind : CallKind) (call : ℕ) (stage : Stage) → said (Move kind call stage) ≡ None)
    → (kind : CallKind) (call : ℕ) (stage : Option Stage) (xs : List Effect)
    → filter_map said (xs ++ moves kind call stage) ≡ filter_map said xs
unmoved said move kind call None xs = ap (filter_map said) (append-nil xs)
unmoved said move kind call (Some stage) xs =
    filter_map-append said xs (Move kind call stage ∷ []) ∙ ap (λ o. filter_map said xs ++ cons_option o []) (move kind call stage)
    ∙ append-nil (filter_map said xs)

pub outcome_asks : (world : World) (cookies : Ask → List ℕ) (kind : CallKind) (call page : ℕ) (outcome : Outcome)
    → filter_map (asked call) (outcome_effects world cookies kind call page outcome) ≡ filter_map asks_token outcome.effects
outcome_asks world cookies kind call page outcome =
    unmoved (asked call) (λ n c s. refl) kind call outcome.stage (flat_map (call_effects world cookies kind call page) outcome.effects)
    ∙ does_ask world cookies kind call page outcome.effects

pub outcome_gives : (world : World) (cookies : Ask → List ℕ) (kind : CallKind) (call page : ℕ) (outcome : Outcome)
    → filter_map (given call) (outcome_effects world cookies kind call page outcome)
    ≡ map (λ finish. (page, finish)) (filter_map finish_of outcome.effects)
outcome_gives world cookies kind call page outcome =
    unmoved (given call) (λ n c s. refl) kind call outcome.stage (flat_map (call_effects world cookies kind call page) outcome.effects)
    ∙ does_give world cookies kind call page outcome.effects

pub outcome_drops : (world : World) (cookies : Ask → List ℕ) (kind : CallKind) (call page : ℕ) (outcome : Outcome)
    → filter_map (dropped call) (outcome_effects world cookies kind call page outcome) ≡ filter_map drop_of outcome.effects
outcome_drops world cookies kind call page outcome =
    unmoved (dropped call) (λ n c s. refl) kind call outcome.stage (flat_map (call_effects world cookies kind call page) outcome.effects)
    ∙ does_drop world cookies kind call page outcome.effects

pub outcome_begins : (world : World) (cookies : Ask → List ℕ) (kind : CallKind) (call page q : ℕ) (outcome : Outcome)
    → last_of (begins q) (outcome_effects world cookies kind call page outcome) ≡ None
outcome_begins world cookies kind call page q outcome =
    last_silent (begins q) (outcome_effects world cookies kind call page outcome)
    (outcome_silent (begins q) (λ n c p a k. refl) (λ c d. refl) (λ c p f. refl) (λ c p u. refl) (λ o s. refl) (λ t k. refl) (λ o k. refl)
    (λ c p f. refl)
    (λ w. refl) (λ n c s. refl) world cookies kind call page outcome)

pub outcome_pages : (world : World) (cookies : Ask → List ℕ) (kind : CallKind) (call page q : ℕ) (outcome : Outcome)
    → last_said nat_eq page_change q (outcome_effects world cookies kind call page outcome) ≡ None
outcome_pages world cookies kind call page q outcome =
    last_said_silent nat_eq page_change q (outcome_effects world cookies kind call page outcome)
    (outcome_silent page_change (λ n c p a k. refl) (λ c d. refl) (λ c p f. refl) (λ c p u. refl) (λ o s. refl) (λ t k. refl) (λ o k. refl)
    (λ c p f. refl)
    (λ w. refl) (λ n c s. refl) world cookies kind call page outcome)

-- of pending calls it says what its move says
pub outcome_pending : (world : World) (cookies : Ask → List ℕ) (kind : CallKind) (call page q : ℕ) (outcome : Outcome)
    → last_said nat_eq call_change q (outcome_effects world cookies kind call page outcome)
    ≡ last_said nat_eq call_change q (moves kind call outcome.stage)
outcome_pending world cookies kind call page q outcome =
    last_said_after nat_eq call_change q (flat_map (call_effects world cookies kind call page) outcome.effects)
    (moves kind call outcome.stage)
    (silent_call call_change (λ n c p a k. refl) (λ c d. refl) (λ c p f. refl) (λ c p u. refl) (λ o s. refl) (λ t k. refl) (λ o k. refl)
    (λ c p f. refl)
    (λ w. refl) world cookies kind call page outcome.effects)

-- ---- what it says of other calls

asks_no_other : (q : ℕ) (kind : CallKind) (call : ℕ) → nat_eq q call ≡ false → (provider : ℕ) (ask : Ask) (cookies : List ℕ)
    → asked q (Sent kind call provider ask cookies) ≡ None
asks_no_other q kind call ne provider (asks.Assertion ask) cookies = ap (λ b. cond b (Some (provider, ask)) None) ne
asks_no_other q kind call ne provider (asks.WellKnown to) cookies = refl
asks_no_other q kind call ne provider (asks.Config to) cookies = refl
asks_no_other q kind call ne provider (asks.Accounts to) cookies = refl
asks_no_other q kind call ne provider (asks.Metadata to client origin) cookies = refl
asks_no_other q kind call ne provider (asks.Disconnect to client hint origin) cookies = refl

other_asks : (world : World) (cookies : Ask → List ℕ) (q : ℕ) (kind : CallKind) (call page : ℕ) → nat_eq q call ≡ false
    → (effects : List CallEffect)
    → AllSilent (asked q) (flat_map (call_effects world cookies kind call page) effects)
other_asks world cookies q kind call page ne [] = tt
other_asks world cookies q kind call page ne (does.Send provider ask ∷ effects) =
    (asks_no_other q kind call ne provider ask (cookies ask), other_asks world cookies q kind call page ne effects)
other_asks world cookies q kind call page ne (does.Finish finish ∷ effects) = (refl, other_asks world cookies q kind call page ne effects)
other_asks world cookies q kind call page ne (does.Ignored why ∷ effects) = (refl, other_asks world cookies q kind call page ne effects)
other_asks world cookies q kind call page ne (does.Dialog dialog ∷ effects) = (refl, other_asks world cookies q kind call page ne effects)
other_asks world cookies q kind call page ne (does.Dropped place failure ∷ effects) =
    (refl, other_asks world cookies q kind call page ne effects)
other_asks world cookies q kind call page ne (does.Window place url ∷ effects) =
    (refl, other_asks world cookies q kind call page ne effects)
other_asks world cookies q kind call page ne (does.SetLogin origin status ∷ effects) =
    (refl, other_asks world cookies q kind call page ne effects)
other_asks world cookies q kind call page ne (does.Keep triple ∷ effects) = (refl, other_asks world cookies q kind call page ne effects)
other_asks world cookies q kind call page ne (does.Forget triple ∷ effects) = (refl, other_asks world cookies q kind call page ne effects)
other_asks world cookies q kind call page ne (does.ForgetPair p r ∷ effects) =
    silent_append (asked q) (map (λ triple. Kept triple false) (triples_of_pair world.kept p r))
    (flat_map (call_effects world cookies kind call page) effects)
    (silent_map (asked q) (λ triple. Kept triple false) (λ triple. refl) (triples_of_pair world.kept p r))
    (other_asks world cookies q kind call page ne effects)
other_asks world cookies q kind call page ne (does.ClearFlag origin ∷ effects) =
    (refl, other_asks world cookies q kind call page ne effects)

other_gives : (world : World) (cookies : Ask → List ℕ) (q : ℕ) (kind : CallKind) (call page : ℕ) → nat_eq q call ≡ false
    → (effects : List CallEffect)
    → AllSilent (given q) (flat_map (call_effects world cookies kind call page) effects)
other_gives world cookies q kind call page ne [] = tt
other_gives world cookies q kind call page ne (does.Finish finish ∷ effects) =
    (ap (λ b. cond b (Some (page, finish)) None) ne, other_gives world cookies q kind call page ne effects)
other_gives world cookies q kind call page ne (does.Send provider ask ∷ effects) =
    (refl, other_gives world cookies q kind call page ne effects)
other_gives world cookies q kind call page ne (does.Ignored why ∷ effects) = (refl, other_gives world cookies q kind call page ne effects)
other_gives world cookies q kind call page ne (does.Dialog dialog ∷ effects) =
    (refl, other_gives world cookies q kind call page ne effects)
other_gives world cookies q kind call page ne (does.Dropped place failure ∷ effects) =
    (refl, other_gives world cookies q kind call page ne effects)
other_gives world cookies q kind call page ne (does.Window place url ∷ effects) =
    (refl, other_gives world cookies q kind call page ne effects)
other_gives world cookies q kind call page ne (does.SetLogin origin status ∷ effects) =
    (refl, other_gives world cookies q kind call page ne effects)
other_gives world cookies q kind call page ne (does.Keep triple ∷ effects) = (refl, other_gives world cookies q kind call page ne effects)
other_gives world cookies q kind call page ne (does.Forget triple ∷ effects) =
    (refl, other_gives world cookies q kind call page ne effects)
other_gives world cookies q kind call page ne (does.ForgetPair p r ∷ effects) =
    silent_append (given q) (map (λ triple. Kept triple false) (triples_of_pair world.kept p r))
    (flat_map (call_effects world cookies kind call page) effects)
    (silent_map (given q) (λ triple. Kept triple false) (λ triple. refl) (triples_of_pair world.kept p r))
    (other_gives world cookies q kind call page ne effects)
other_gives world cookies q kind call page ne (does.ClearFlag origin ∷ effects) =
    (refl, other_gives world cookies q kind call page ne effects)

other_drops : (world : World) (cookies : Ask → List ℕ) (q : ℕ) (kind : CallKind) (call page : ℕ) → nat_eq q call ≡ false
    → (effects : List CallEffect)
    → AllSilent (dropped q) (flat_map (call_effects world cookies kind call page) effects)
other_drops world cookies q kind call page ne [] = tt
other_drops world cookies q kind call page ne (does.Finish finish ∷ effects) =
    (refl, other_drops world cookies q kind call page ne effects)
other_drops world cookies q kind call page ne (does.Send provider ask ∷ effects) =
    (refl, other_drops world cookies q kind call page ne effects)
other_drops world cookies q kind call page ne (does.Ignored why ∷ effects) = (refl, other_drops world cookies q kind call page ne effects)
other_drops world cookies q kind call page ne (does.Dialog dialog ∷ effects) =
    (refl, other_drops world cookies q kind call page ne effects)
other_drops world cookies q kind call page ne (does.Dropped place failure ∷ effects) =
    (ap (λ b. cond b (Some place) None) ne, other_drops world cookies q kind call page ne effects)
other_drops world cookies q kind call page ne (does.Window place url ∷ effects) =
    (refl, other_drops world cookies q kind call page ne effects)
other_drops world cookies q kind call page ne (does.SetLogin origin status ∷ effects) =
    (refl, other_drops world cookies q kind call page ne effects)
other_drops world cookies q kind call page ne (does.Keep triple ∷ effects) = (refl, other_drops world cookies q kind call page ne effects)
other_drops world cookies q kind call page ne (does.Forget triple ∷ effects) =
    (refl, other_drops world cookies q kind call page ne effects)
other_drops world cookies q kind call page ne (does.ForgetPair p r ∷ effects) =
    silent_append (dropped q) (map (λ triple. Kept triple false) (triples_of_pair world.kept p r))
    (flat_map (call_effects world cookies kind call page) effects)
    (silent_map (dropped q) (λ triple. Kept triple false) (λ triple. refl) (triples_of_pair world.kept p r))
    (other_drops world cookies q kind call page ne effects)
other_drops world cookies q kind call page ne (does.ClearFlag origin ∷ effects) =
    (refl, other_drops world cookies q kind call page ne effects)

pending_no_other : (q : ℕ) (kind : CallKind) (call : ℕ) → nat_eq q call ≡ false → (stage : Option Stage)
    → last_said nat_eq call_change q (moves kind call stage) ≡ None
pending_no_other q kind call ne None = refl
pending_no_other q kind call ne (Some Ended) = ap (λ b. cond b (Some None) None) ne
pending_no_other q kind call ne (Some Reading) = refl
pending_no_other q kind call ne (Some Listing) = refl
pending_no_other q kind call ne (Some Mismatch) = refl
pending_no_other q kind call ne (Some Gathering) = refl
pending_no_other q kind call ne (Some Window) = refl
pending_no_other q kind call ne (Some Choosing) = refl
pending_no_other q kind call ne (Some Prompting) = refl
pending_no_other q kind call ne (Some Asserting) = refl

-- of another call an outcome says nothing
pub quiet_other : (world : World) (cookies : Ask → List ℕ) (q : ℕ) (kind : CallKind) (call page : ℕ) → nat_eq q call ≡ false
    → (outcome : Outcome) → Quiet q (outcome_effects world cookies kind call page outcome)
quiet_other world cookies q kind call page ne outcome =
    let does = flat_map (call_effects world cookies kind call page) outcome.effects in
    record {
      stage = moves_no_other world cookies kind call page outcome q ne;
      pending = outcome_pending world cookies kind call page q outcome ∙ pending_no_other q kind call ne outcome.stage;
      begins_none = outcome_begins world cookies kind call page q outcome;
      asks =
          unmoved (asked q) (λ n c s. refl) kind call outcome.stage does
          ∙ said_silent (asked q) does (other_asks world cookies q kind call page ne outcome.effects);
      gives =
          unmoved (given q) (λ n c s. refl) kind call outcome.stage does
          ∙ said_silent (given q) does (other_gives world cookies q kind call page ne outcome.effects);
      drops =
          unmoved (dropped q) (λ n c s. refl) kind call outcome.stage does
          ∙ said_silent (dropped q) does (other_drops world cookies q kind call page ne outcome.effects);
    }
