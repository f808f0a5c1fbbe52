-- By which events a permission may come or go.
use Rattle.std.proofs.Common.{◌≡◌, ℕ, Bool, false, List, [], ◌∷◌, ◌++◌, Option, Some, None, refl, subst}
use Rattle.std.specs.List.{AllByRecursion, flat_map, list_any}
use Rattle.fed_origin.specs.declared.origin.Origin.{Origin}
use Rattle.fed_origin.specs.declared.stage.Stage.{Stage}
use Rattle.fed_origin.specs.declared.status.Triple.{Triple}
use Rattle.fed_status.specs.Shared.{World}
use Rattle.fed_consent.specs.declared.table.ask.Ask.{Ask}
use Rattle.fed_consent.specs.declared.table.effect.Effect.{Effect as CallEffect}
use Rattle.fed_consent.specs.declared.table.effect.Effect.TheVariants as does
use Rattle.fed_consent.specs.Outcomes.{Outcome}
use Rattle.fed_trace.specs.Begun.{CallKind}
use Rattle.fed_trace.specs.Effect.{Effect, Kept, kept_change}
use Rattle.fed_trace.specs.OfCall.{Has}
use Rattle.fed_trace.specs.Row.{call_effects, close_effects, moves, outcome_effects}
use Rattle.fed_trace.proofs.effects.Silent.{AllSilent, silent_append}
use Rattle.fed_trace.proofs.events.Aside.{close_silent}
use Rattle.fed_laws.proofs.turns.Turn.{LeavesKept, changes_kept}

-- ---- an effect among effects

-- what holds of each effect holds of one among them
pub has_all : (P : Effect → Type 0) (effects : List Effect) (e : Effect) → AllByRecursion P effects → Has effects e → P e
has_all P effects e all has = go has.before (subst (AllByRecursion P) has.all all)
  where
    go : (before : List Effect) → AllByRecursion P (before ++ e ∷ has.after) → P e
    go [] h = h.0
    go (x ∷ before) h = go before h.1

-- and what holds of each of two lists holds of both in a row
pub all_both : (P : Effect → Type 0) (xs ys : List Effect) → AllByRecursion P xs → AllByRecursion P ys → AllByRecursion P (xs ++ ys)
all_both P [] ys first then = then
all_both P (x ∷ xs) ys first then = (first.0, all_both P xs ys first.1 then)

-- no permission comes or goes among effects that do not speak of it
pub unchanged : {A : Type 0} (effects : List Effect) (triple : Triple) (stays : Bool) → AllSilent kept_change effects
    → Has effects (Kept triple stays) → A
unchanged effects triple stays silent has =
    let no : Some _ ≡ None = has_all (λ e. kept_change e ≡ None) effects (Kept triple stays) silent has in absurd (cc)

-- ---- outcomes

does_leave : (world : World) (cookies : Ask → List ℕ) (kind : CallKind) (call page : ℕ) (effects : List CallEffect)
    → list_any changes_kept effects ≡ false
    → AllSilent kept_change (flat_map (call_effects world cookies kind call page) effects)
does_leave world cookies kind call page [] none = tt
does_leave world cookies kind call page (does.Send provider ask ∷ effects) none =
    (refl, does_leave world cookies kind call page effects none)
does_leave world cookies kind call page (does.Finish finish ∷ effects) none =
    (refl, does_leave world cookies kind call page effects none)
does_leave world cookies kind call page (does.Ignored why ∷ effects) none = (refl, does_leave world cookies kind call page effects none)
does_leave world cookies kind call page (does.Dialog dialog ∷ effects) none =
    (refl, does_leave world cookies kind call page effects none)
does_leave world cookies kind call page (does.Dropped place failure ∷ effects) none =
    (refl, does_leave world cookies kind call page effects none)
does_leave world cookies kind call page (does.Window place url ∷ effects) none =
    (refl, does_leave world cookies kind call page effects none)
does_leave world cookies kind call page (does.SetLogin origin status ∷ effects) none =
    (refl, does_leave world cookies kind call page effects none)
does_leave world cookies kind call page (does.ClearFlag origin ∷ effects) none =
    (refl, does_leave world cookies kind call page effects none)
does_leave world cookies kind call page (does.Keep triple ∷ effects) none = absurd (cc)
does_leave world cookies kind call page (does.Forget triple ∷ effects) none = absurd (cc)
does_leave world cookies kind call page (does.ForgetPair p q ∷ effects) none = absurd (cc)

pub outcome_leaves : (world : World) (cookies : Ask → List ℕ) (kind : CallKind) (call page : ℕ) (o : Outcome) → LeavesKept o
    → AllSilent kept_change (outcome_effects world cookies kind call page o)
outcome_leaves world cookies kind call page o none =
    silent_append kept_change (flat_map (call_effects world cookies kind call page) o.effects) (moves kind call o.stage)
    (does_leave world cookies kind call page o.effects none) (go o.stage)
  where
    go : (stage : Option Stage) → AllSilent kept_change (moves kind call stage)
    go None = tt
    go (Some stage) = (refl, tt)

-- ---- a page that closes

pub close_leaves : (calls : List (ℕ × CallKind)) (page : ℕ) (o : Option Origin) → AllSilent kept_change (close_effects calls page o)
close_leaves calls page None = (refl, tt)
close_leaves calls page (Some origin) = close_silent kept_change (λ n c. refl) (λ p. refl) calls page
