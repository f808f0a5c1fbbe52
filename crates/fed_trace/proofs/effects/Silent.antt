-- Effects that say nothing of a kind.
use Rattle.std.proofs.Common.{◌≡◌, ℕ, Bool, true, false, List, [], ◌∷◌, ◌++◌, None, map, refl, sym, ap, subst, ◌∙◌}
use Rattle.std.specs.Prelude.{Option}
use Rattle.std.specs.Option.{option_or}
use Rattle.std.specs.List.{filter_map, flat_map, cons_option, AllByRecursion}
use Rattle.url.specs.Parts.{Parts}
use Rattle.fed_origin.specs.declared.origin.Origin.{Origin}
use Rattle.fed_origin.specs.declared.status.LoginStatus.{LoginStatus}
use Rattle.fed_origin.specs.declared.status.Triple.{Triple}
use Rattle.fed_status.specs.Kept.{triples_of_pair}
use Rattle.fed_status.specs.Shared.{World}
use Rattle.fed_consent.specs.declared.table.ask.Ask.{Ask}
use Rattle.fed_consent.specs.declared.table.dialog.Dialog.{Dialog}
use Rattle.fed_consent.specs.declared.table.effect.Effect.{Effect as CallEffect}
use Rattle.fed_consent.specs.declared.table.effect.Effect.TheVariants as does
use Rattle.fed_consent.specs.declared.table.failure.Failure.{Failure}
use Rattle.fed_consent.specs.declared.table.finish.Finish.{Finish}
use Rattle.fed_consent.specs.declared.table.why.Why.{Why}
use Rattle.fed_trace.specs.Begun.{CallKind}
use Rattle.fed_trace.specs.Effect.{Effect, Login, Sent, Dropped, Shown, Window, Kept, Flag, Result, Ignored, last_of}
use Rattle.fed_trace.specs.Keyed.{Change, changed, entries_after, last_said, says}
use Rattle.fed_trace.specs.Row.{call_effects}

-- each of the effects says nothing
abbrev pub AllSilent : {A : Type 0} → (Effect → Option A) → List Effect → Type 0
AllSilent said effects = AllByRecursion (λ e. said e ≡ None) effects

-- ---- what silence leaves

pub entries_silent : {K V : Type 0} (same : K → K → Bool) (change : Effect
    → Option (Change K V)) (effects : List Effect) (es : List (K × V)) → AllSilent change effects
    → entries_after same change effects es ≡ es
entries_silent same change [] es h = refl
entries_silent same change (e ∷ effects) es h =
    ap (λ c. entries_after same change effects (changed same c es)) h.0 ∙ entries_silent same change effects es h.1

pub said_silent : {A : Type 0} (said : Effect → Option A) (effects : List Effect) → AllSilent said effects → filter_map said effects ≡ []
said_silent said [] h = refl
said_silent said (e ∷ effects) h = ap (λ o. cons_option o (filter_map said effects)) h.0 ∙ said_silent said effects h.1

pub last_silent : {A : Type 0} (said : Effect → Option A) (effects : List Effect) → AllSilent said effects → last_of said effects ≡ None
last_silent said [] h = refl
last_silent said (e ∷ effects) h = ap (λ o. option_or o (said e)) (last_silent said effects h.1) ∙ h.0

pub last_said_silent : {K V : Type 0} (same : K → K → Bool) (change : Effect → Option (Change K V)) (k : K) (effects : List Effect)
    → AllSilent change effects
    → last_said same change k effects ≡ None
last_said_silent same change k [] h = refl
last_said_silent same change k (e ∷ effects) h =
    ap (λ o. option_or o (says same k (change e))) (last_said_silent same change k effects h.1) ∙ ap (says same k) h.0

-- ---- which effects are silent

pub silent_map : {A X : Type 0} (said : Effect → Option A) (f : X → Effect) → ((x : X) → said (f x) ≡ None) → (xs : List X)
    → AllSilent said (map f xs)
silent_map said f h [] = tt
silent_map said f h (x ∷ xs) = (h x, silent_map said f h xs)

pub silent_append : {A : Type 0} (said : Effect → Option A) (xs ys : List Effect) → AllSilent said xs → AllSilent said ys
    → AllSilent said (xs ++ ys)
silent_append said [] ys h k = k
silent_append said (x ∷ xs) ys h k = (h.0, silent_append said xs ys h.1 k)

-- what is silent on each effect of a call but its moves is silent on all that it does
pub silent_call : {A : Type 0} (said : Effect → Option A)
    → ((kind : CallKind) (call provider : ℕ) (ask : Ask) (cookies : List ℕ) → said (Sent kind call provider ask cookies) ≡ None)
    → ((call : ℕ) (dialog : Dialog) → said (Shown call dialog) ≡ None)
    → ((call provider : ℕ) (failure : Failure) → said (Dropped call provider failure) ≡ None)
    → ((call provider : ℕ) (url : Parts) → said (Window call provider url) ≡ None)
    → ((origin : Origin) (status : LoginStatus) → said (Login origin status) ≡ None)
    → ((triple : Triple) (stays : Bool) → said (Kept triple stays) ≡ None)
    → ((origin : Origin) (stays : Bool) → said (Flag origin stays) ≡ None)
    → ((call page : ℕ) (finish : Finish) → said (Result call page finish) ≡ None)
    → ((why : Why) → said (Ignored why) ≡ None)
    → (world : World) (cookies : Ask → List ℕ) (kind : CallKind) (call page : ℕ) (effects : List CallEffect)
    → AllSilent said (flat_map (call_effects world cookies kind call page) effects)
silent_call said sent shown dropped window login kept flag result ignored world cookies kind call page effects = all effects
  where
    all : (effects : List CallEffect) → AllSilent said (flat_map (call_effects world cookies kind call page) effects)
    all [] = tt
    all (does.Send provider ask ∷ effects) = (sent kind call provider ask (cookies ask), all effects)
    all (does.Finish finish ∷ effects) = (result call page finish, all effects)
    all (does.Ignored why ∷ effects) = (ignored why, all effects)
    all (does.Dialog dialog ∷ effects) = (shown call dialog, all effects)
    all (does.Dropped place failure ∷ effects) = (dropped call place failure, all effects)
    all (does.Window place url ∷ effects) = (window call place url, all effects)
    all (does.SetLogin origin status ∷ effects) = (login origin status, all effects)
    all (does.Keep triple ∷ effects) = (kept triple true, all effects)
    all (does.Forget triple ∷ effects) = (kept triple false, all effects)
    all (does.ForgetPair p q ∷ effects) =
        silent_append said (map (λ triple. Kept triple false) (triples_of_pair world.kept p q))
        (flat_map (call_effects world cookies kind call page) effects)
        (silent_map said (λ triple. Kept triple false) (λ triple. kept triple false) (triples_of_pair world.kept p q)) (all effects)
    all (does.ClearFlag origin ∷ effects) = (flag origin false, all effects)

-- effects that are silent ones are silent
pub silent_is : {A : Type 0} (said : Effect → Option A) (effects others : List Effect) → effects ≡ others → AllSilent said others
    → AllSilent said effects
silent_is said effects others is h = subst (AllSilent said) (sym is) h

-- ---- the permissions of a pair go

-- before other effects, they say nothing of what permissions do not say
pub goes_silent : {A : Type 0} (said : Effect → Option A) → ((triple : Triple) → said (Kept triple false) ≡ None)
    → (triples : List Triple) (rest : List Effect)
    → filter_map said (map (λ triple. Kept triple false) triples ++ rest) ≡ filter_map said rest
goes_silent said h [] rest = refl
goes_silent said h (t ∷ triples) rest =
    ap (λ o. cons_option o (filter_map said (map (λ triple. Kept triple false) triples ++ rest))) (h t) ∙ goes_silent said h triples rest

pub goes_changes_none : {K V : Type 0} (same : K → K → Bool) (change : Effect → Option (Change K V))
    → ((triple : Triple) → change (Kept triple false) ≡ None)
    → (triples : List Triple) (rest : List Effect) (es : List (K × V))
    → entries_after same change (map (λ triple. Kept triple false) triples ++ rest) es ≡ entries_after same change rest es
goes_changes_none same change h [] rest es = refl
goes_changes_none same change h (t ∷ triples) rest es =
    ap (λ c. entries_after same change (map (λ triple. Kept triple false) triples ++ rest) (changed same c es)) (h t)
    ∙ goes_changes_none same change h triples rest es
