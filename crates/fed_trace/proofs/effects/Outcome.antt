-- What an outcome of a call says.
use Rattle.std.proofs.Common.{◌≡◌, ℕ, Bool, true, false, nat_eq, ◌||◌, List, [], ◌∷◌, ◌++◌, Some, None, refl, sym, ap}
use Rattle.std.proofs.Common.{◌∙◌, cond}
use Rattle.std.proofs.lemmas.List.Folds.{list_any-append}
use Rattle.std.specs.Prelude.{Option, option_map, map, ⊤}
use Rattle.std.specs.Option.{option_or}
use Rattle.std.specs.List.{list_any, flat_map}
use Rattle.fed_origin.specs.declared.stage.Stage.{Stage}
use Rattle.fed_consent.specs.declared.table.ask.Ask.{Ask}
use Rattle.fed_consent.specs.declared.table.effect.Effect.{Effect as CallEffect}
use Rattle.fed_trace.specs.Begun.{CallKind}
use Rattle.fed_consent.specs.Outcomes.{Outcome}
use Rattle.fed_consent.specs.declared.table.effect.Effect.TheVariants as does
use Rattle.fed_consent.specs.Outcomes as outcomes
use Rattle.fed_trace.specs.Effect.{Effect, PendingCall, call_change, stage_change, window_change, is_ignored, Kept}
use Rattle.fed_trace.specs.Keyed.{Change, entries_after, last_said, says}
use Rattle.fed_trace.specs.Row.{call_effects, moves, outcome_effects}
use Rattle.fed_trace.proofs.keyed.Keyed.{entries_after-append}
use Rattle.fed_trace.proofs.effects.Silent.{AllSilent, entries_silent, silent_call}
use Rattle.fed_origin.specs.declared.status.Triple.{Triple}
use Rattle.fed_status.specs.Kept.{triples_of_pair}
use Rattle.fed_status.specs.Shared.{World}

pub option_or-none : {A : Type 0} (o : Option A) → option_or o None ≡ o
option_or-none None = refl
option_or-none (Some x) = refl

-- after silence what follows is said
pub last_said_after : {K V : Type 0} (same : K → K → Bool) (change : Effect → Option (Change K V)) (q : K) (xs ys : List Effect)
    → AllSilent change xs
    → last_said same change q (xs ++ ys) ≡ last_said same change q ys
last_said_after same change q [] ys h = refl
last_said_after same change q (x ∷ xs) ys h =
    ap (λ c. option_or (last_said same change q (xs ++ ys)) (says same q c)) h.0 ∙ option_or-none (last_said same change q (xs ++ ys))
    ∙ last_said_after same change q xs ys h.1

or_assoc : {A : Type 0} (later said before : Option A) → option_or (option_or later said) before ≡ option_or later (option_or said before)
or_assoc None said before = refl
or_assoc (Some x) said before = refl

-- of effects and then others, what the others say counts first
pub last_said-append : {K V : Type 0} (same : K → K → Bool) (change : Effect → Option (Change K V)) (q : K) (xs ys : List Effect)
    → last_said same change q (xs ++ ys) ≡ option_or (last_said same change q ys) (last_said same change q xs)
last_said-append same change q [] ys = sym (option_or-none (last_said same change q ys))
last_said-append same change q (x ∷ xs) ys =
    ap (λ o. option_or o (says same q (change x))) (last_said-append same change q xs ys)
    ∙ or_assoc (last_said same change q ys) (last_said same change q xs) (says same q (change x))

-- of pending calls an outcome says what its move says
pub outcome_calls : (world : World) (cookies : Ask
    → List ℕ) (kind : CallKind) (call page : ℕ) (outcome : Outcome) (es : List (ℕ × PendingCall))
    → entries_after nat_eq call_change (outcome_effects world cookies kind call page outcome) es
    ≡ entries_after nat_eq call_change (moves kind call outcome.stage) es
outcome_calls world cookies kind call page outcome es =
    let does = flat_map (call_effects world cookies kind call page) outcome.effects in
    entries_after-append nat_eq call_change does (moves kind call outcome.stage) es
    ∙ ap (entries_after nat_eq call_change (moves kind call outcome.stage))
    (entries_silent nat_eq call_change does es (silent_call call_change (λ n c p a k. refl) (λ c d. refl) (λ c p f. refl)
    (λ c p u. refl) (λ o s. refl)
    (λ t k. refl) (λ o k. refl) (λ c p f. refl) (λ w. refl) world cookies kind call page outcome.effects))

-- of calls in Window too
pub outcome_windows : (world : World) (cookies : Ask
    → List ℕ) (kind : CallKind) (call page : ℕ) (outcome : Outcome) (es : List (ℕ × ⊤))
    → entries_after nat_eq window_change (outcome_effects world cookies kind call page outcome) es
    ≡ entries_after nat_eq window_change (moves kind call outcome.stage) es
outcome_windows world cookies kind call page outcome es =
    let does = flat_map (call_effects world cookies kind call page) outcome.effects in
    entries_after-append nat_eq window_change does (moves kind call outcome.stage) es
    ∙ ap (entries_after nat_eq window_change (moves kind call outcome.stage))
    (entries_silent nat_eq window_change does es (silent_call window_change (λ n c p a k. refl) (λ c d. refl) (λ c p f. refl)
    (λ c p u. refl)
    (λ o s. refl) (λ t k. refl) (λ o k. refl) (λ c p f. refl) (λ w. refl) world cookies kind call page outcome.effects))

-- of stages too
outcome_moves : (world : World) (cookies : Ask → List ℕ) (kind : CallKind) (call page : ℕ) (outcome : Outcome) (q : ℕ)
    → last_said nat_eq stage_change q (outcome_effects world cookies kind call page outcome)
    ≡ last_said nat_eq stage_change q (moves kind call outcome.stage)
outcome_moves world cookies kind call page outcome q =
    last_said_after nat_eq stage_change q (flat_map (call_effects world cookies kind call page) outcome.effects)
    (moves kind call outcome.stage)
    (silent_call stage_change (λ n c p a k. refl) (λ c d. refl) (λ c p f. refl) (λ c p u. refl) (λ o s. refl) (λ t k. refl) (λ o k. refl)
    (λ c p f. refl)
    (λ w. refl) world cookies kind call page outcome.effects)

pub moves_call : (world : World) (cookies : Ask → List ℕ) (kind : CallKind) (call page : ℕ) (outcome : Outcome) (q : ℕ)
    → nat_eq q call ≡ true
    → last_said nat_eq stage_change q (outcome_effects world cookies kind call page outcome) ≡ option_map Some outcome.stage
moves_call world cookies kind call page outcome q is = outcome_moves world cookies kind call page outcome q ∙ go outcome.stage
  where
    go : (stage : Option Stage) → last_said nat_eq stage_change q (moves kind call stage) ≡ option_map Some stage
    go None = refl
    go (Some stage) = ap (λ b. cond b (Some (Some stage)) None) is

pub moves_no_other : (world : World) (cookies : Ask → List ℕ) (kind : CallKind) (call page : ℕ) (outcome : Outcome) (q : ℕ)
    → nat_eq q call ≡ false
    → last_said nat_eq stage_change q (outcome_effects world cookies kind call page outcome) ≡ None
moves_no_other world cookies kind call page outcome q is = outcome_moves world cookies kind call page outcome q ∙ go outcome.stage
  where
    go : (stage : Option Stage) → last_said nat_eq stage_change q (moves kind call stage) ≡ None
    go None = refl
    go (Some stage) = ap (λ b. cond b (Some (Some stage)) None) is

-- an outcome is ignored where one of its effects is
or_false : (b : Bool) → b || false ≡ b
or_false true = refl
or_false false = refl

ignored_effects : (world : World) (cookies : Ask → List ℕ) (kind : CallKind) (call page : ℕ) (effects : List CallEffect)
    → list_any is_ignored (flat_map (call_effects world cookies kind call page) effects) ≡ list_any outcomes.is_ignored effects
ignored_effects world cookies kind call page [] = refl
ignored_effects world cookies kind call page (does.Send provider ask ∷ effects) = ignored_effects world cookies kind call page effects
ignored_effects world cookies kind call page (does.Finish finish ∷ effects) = ignored_effects world cookies kind call page effects
ignored_effects world cookies kind call page (does.Ignored why ∷ effects) = refl
ignored_effects world cookies kind call page (does.Dialog dialog ∷ effects) = ignored_effects world cookies kind call page effects
ignored_effects world cookies kind call page (does.Dropped place failure ∷ effects) = ignored_effects world cookies kind call page effects
ignored_effects world cookies kind call page (does.Window place url ∷ effects) = ignored_effects world cookies kind call page effects
ignored_effects world cookies kind call page (does.SetLogin origin status ∷ effects) =
    ignored_effects world cookies kind call page effects
ignored_effects world cookies kind call page (does.Keep triple ∷ effects) = ignored_effects world cookies kind call page effects
ignored_effects world cookies kind call page (does.Forget triple ∷ effects) = ignored_effects world cookies kind call page effects
ignored_effects world cookies kind call page (does.ForgetPair p q ∷ effects) =
    goes (ignored_effects world cookies kind call page effects) (triples_of_pair world.kept p q)
  where
    goes : list_any is_ignored (flat_map (call_effects world cookies kind call page) effects) ≡ list_any outcomes.is_ignored effects
        → (triples : List Triple)
        → list_any is_ignored (map (λ triple. Kept triple false) triples ++ flat_map (call_effects world cookies kind call page) effects)
        ≡ list_any outcomes.is_ignored effects
    goes rest [] = rest
    goes rest (t ∷ triples) = goes rest triples
ignored_effects world cookies kind call page (does.ClearFlag origin ∷ effects) = ignored_effects world cookies kind call page effects

pub ignored_outcome : (world : World) (cookies : Ask → List ℕ) (kind : CallKind) (call page : ℕ) (outcome : Outcome)
    → list_any is_ignored (outcome_effects world cookies kind call page outcome) ≡ list_any outcomes.is_ignored outcome.effects
ignored_outcome world cookies kind call page outcome =
    list_any-append is_ignored (flat_map (call_effects world cookies kind call page) outcome.effects) (moves kind call outcome.stage)
    ∙ ap (λ b. list_any is_ignored (flat_map (call_effects world cookies kind call page) outcome.effects) || b) (go outcome.stage)
    ∙ or_false (list_any is_ignored (flat_map (call_effects world cookies kind call page) outcome.effects))
    ∙ ignored_effects world cookies kind call page outcome.effects
  where
    go : (stage : Option Stage) → list_any is_ignored (moves kind call stage) ≡ false
    go None = refl
    go (Some stage) = refl
