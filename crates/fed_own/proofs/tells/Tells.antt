-- What a row tells: the requests and tokens among its effects, by what they are known by.
use Rattle.std.proofs.Common.{◌≡◌, ℕ, Bool, false, ◌&&◌, ◌||◌, ◌==◌, List, [], ◌∷◌, Option, Some, None, map, refl, ap, ap₂, ◌∙◌, arith}
use Rattle.std.proofs.lemmas.Bool.Decides.{nat_tests}
use Rattle.std.specs.Prelude.{⊤}
use Rattle.std.specs.List.{filter_map, flat_map, list_any}
use Rattle.fed_status.specs.Kept.{triples_of_pair}
use Rattle.fed_status.specs.Shared.{World}
use Rattle.fed_consent.specs.Ask.{kind_of}
use Rattle.fed_consent.specs.Outcomes.{Outcome}
use Rattle.fed_consent.specs.declared.table.ask.Ask.{Ask}
use Rattle.fed_consent.specs.declared.table.effect.Effect.{Effect as CallEffect}
use Rattle.fed_consent.specs.declared.table.effect.Effect.TheVariants as does
use Rattle.fed_consent.specs.declared.table.finish.Finish.TheVariants.{Token, Disconnected, Failed, ProviderError}
use Rattle.fed_trace.specs.Begun.{CallKind}
use Rattle.fed_trace.specs.Effect.{Effect, Sent, Dropped, Time, Page, Closed, Cookie, Login, Begin, Move, Shown, Window, Kept, Flag, Result}
use Rattle.fed_trace.specs.Effect.{Ignored}
use Rattle.fed_trace.specs.Records.{records_of}
use Rattle.fed_trace.specs.Row.{call_effects, outcome_effects}
use Rattle.fed_trace.proofs.effects.Silent.{goes_silent}
use Rattle.fed_trace.proofs.happens.Says.{unmoved}
use Rattle.fed_audit.specs.declared.aspect.Key.{Key}
use Rattle.fed_audit.specs.Told.{same_key}
use Rattle.fed_audit.specs.Words.{subject_of, subject_place}
use Rattle.fed_own.specs.Once.{AreApart, key_told}

-- what an effect is known by, if it sends a request or gives a token
abbrev pub key_sent : Effect → Option Key
key_sent (Sent kind call provider ask cookies) =
    Some (record { call = call; provider = provider; subject = subject_place (subject_of (kind_of ask)) })
key_sent (Result call page (Token auto provider token)) = Some (record { call = call; provider = provider; subject = 6 })
key_sent _ = None

-- the records of effects tell what the effects do
pub told_keys : (line : ℕ) (effects : List Effect) → filter_map key_told (records_of line effects) ≡ filter_map key_sent effects
told_keys line [] = refl
told_keys line (Sent kind call provider ask cookies ∷ effects) =
    ap (λ ks. record { call = call; provider = provider; subject = subject_place (subject_of (kind_of ask)) } ∷ ks) (told_keys line effects)
told_keys line (Result call page (Token auto provider token) ∷ effects) =
    ap (λ ks. record { call = call; provider = provider; subject = 6 } ∷ ks) (told_keys line effects)
told_keys line (Result call page Disconnected ∷ effects) = told_keys line effects
told_keys line (Result call page (Failed failure) ∷ effects) = told_keys line effects
told_keys line (Result call page (ProviderError code url) ∷ effects) = told_keys line effects
told_keys line (Dropped call place failure ∷ effects) = told_keys line effects
told_keys line (Shown call dialog ∷ effects) = told_keys line effects
told_keys line (Window call provider url ∷ effects) = told_keys line effects
told_keys line (Ignored why ∷ effects) = told_keys line effects
told_keys line (Time time ∷ effects) = told_keys line effects
told_keys line (Page page origin ∷ effects) = told_keys line effects
told_keys line (Closed page ∷ effects) = told_keys line effects
told_keys line (Cookie cookie ∷ effects) = told_keys line effects
told_keys line (Login origin status ∷ effects) = told_keys line effects
told_keys line (Begin begun ∷ effects) = told_keys line effects
told_keys line (Move kind call stage ∷ effects) = told_keys line effects
told_keys line (Kept triple stays ∷ effects) = told_keys line effects
told_keys line (Flag origin stays ∷ effects) = told_keys line effects

-- ---- what one call does

-- the provider and the subject of a request or a token of a call
abbrev pub call_tells : CallEffect → Option (ℕ × ℕ)
call_tells (does.Send provider ask) = Some (provider, subject_place (subject_of (kind_of ask)))
call_tells (does.Finish (Token auto provider token)) = Some (provider, 6)
call_tells _ = None

abbrev pub told_by_call : Outcome → List (ℕ × ℕ)
told_by_call o = filter_map call_tells o.effects

abbrev pub key_for : ℕ → ℕ × ℕ → Key
key_for call pair = record { call = call; provider = pair.0; subject = pair.1 }

does_tell : (world : World) (cookies : Ask → List ℕ) (kind : CallKind) (call page : ℕ) (effects : List CallEffect)
    → filter_map key_sent (flat_map (call_effects world cookies kind call page) effects)
    ≡ map (key_for call) (filter_map call_tells effects)
does_tell world cookies kind call page [] = refl
does_tell world cookies kind call page (does.Send provider ask ∷ effects) =
    ap (λ ks. record { call = call; provider = provider; subject = subject_place (subject_of (kind_of ask)) } ∷ ks)
    (does_tell world cookies kind call page effects)
does_tell world cookies kind call page (does.Finish (Token auto provider token) ∷ effects) =
    ap (λ ks. record { call = call; provider = provider; subject = 6 } ∷ ks) (does_tell world cookies kind call page effects)
does_tell world cookies kind call page (does.Finish Disconnected ∷ effects) = does_tell world cookies kind call page effects
does_tell world cookies kind call page (does.Finish (Failed failure) ∷ effects) = does_tell world cookies kind call page effects
does_tell world cookies kind call page (does.Finish (ProviderError code url) ∷ effects) = does_tell world cookies kind call page effects
does_tell world cookies kind call page (does.Ignored why ∷ effects) = does_tell world cookies kind call page effects
does_tell world cookies kind call page (does.Dialog dialog ∷ effects) = does_tell world cookies kind call page effects
does_tell world cookies kind call page (does.Dropped place failure ∷ effects) = does_tell world cookies kind call page effects
does_tell world cookies kind call page (does.Window place url ∷ effects) = does_tell world cookies kind call page effects
does_tell world cookies kind call page (does.SetLogin origin status ∷ effects) = does_tell world cookies kind call page effects
does_tell world cookies kind call page (does.Keep triple ∷ effects) = does_tell world cookies kind call page effects
does_tell world cookies kind call page (does.Forget triple ∷ effects) = does_tell world cookies kind call page effects
does_tell world cookies kind call page (does.ForgetPair p q ∷ effects) =
    goes_silent key_sent (λ t. refl) (triples_of_pair world.kept p q) (flat_map (call_effects world cookies kind call page) effects)
    ∙ does_tell world cookies kind call page effects
does_tell world cookies kind call page (does.ClearFlag origin ∷ effects) = does_tell world cookies kind call page effects

pub outcome_tells : (world : World) (cookies : Ask → List ℕ) (kind : CallKind) (call page : ℕ) (o : Outcome)
    → filter_map key_sent (outcome_effects world cookies kind call page o) ≡ map (key_for call) (told_by_call o)
outcome_tells world cookies kind call page o =
    unmoved key_sent (λ n c s. refl) kind call o.stage (flat_map (call_effects world cookies kind call page) o.effects)
    ∙ does_tell world cookies kind call page o.effects

-- ---- no two the same

abbrev pub same_pair : ℕ × ℕ → ℕ × ℕ → Bool
same_pair a b = a.0 == b.0 && a.1 == b.1

-- no two of the same provider and subject
abbrev pub AreSplit : List (ℕ × ℕ) → Type 0
AreSplit [] = ⊤
AreSplit (p ∷ ps) = (list_any (same_pair p) ps ≡ false) × AreSplit ps

same_for : (call : ℕ) (a b : ℕ × ℕ) → same_key (key_for call a) (key_for call b) ≡ same_pair a b
same_for call a b = grind (arith, nat_tests)

any_for : (call : ℕ) (p : ℕ × ℕ) (ps : List (ℕ × ℕ))
    → list_any (same_key (key_for call p)) (map (key_for call) ps) ≡ list_any (same_pair p) ps
any_for call p [] = refl
any_for call p (q ∷ ps) = ap₂ (λ x y. x || y) (same_for call p q) (any_for call p ps)

pub apart_for : (call : ℕ) (ps : List (ℕ × ℕ)) → AreSplit ps → AreApart (map (key_for call) ps)
apart_for call [] h = tt
apart_for call (p ∷ ps) h = (any_for call p ps ∙ h.0, apart_for call ps h.1)
