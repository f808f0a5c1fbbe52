-- The calls whose login window is open are those in Window.
use Rattle.std.proofs.Common.{◌≡◌, ℕ, Bool, true, false, nat_eq, ◌&&◌, cond, List, [], ◌∷◌, Option, Some, None, refl, sym, ap, ap₂}
use Rattle.std.proofs.Common.{◌∙◌, arith}
use Rattle.std.proofs.lemmas.Bool.Decides.{nat_tests}
use Rattle.std.proofs.lemmas.Map.Made.{is_some-lookup}
use Rattle.std.proofs.lemmas.Map.Views.{any-filter_same}
use Rattle.std.specs.Prelude.{option_map, option_and_then, unwrap_or, filter, is_some, ⊤}
use Rattle.std.specs.Option.{option_or}
use Rattle.std.specs.List.{list_any}
use Rattle.fed_origin.specs.declared.stage.Stage.{Stage}
use Rattle.fed_origin.specs.declared.stage.Stage.TheVariants as stages
use Rattle.fed_script.specs.declared.event.Event.{Event}
use Rattle.fed_trace.specs.Begun.{Begun}
use Rattle.fed_trace.specs.Effect.{Effect, Time, Page, Closed, Cookie, Login, Begin, Move, Sent, Dropped, Shown, Window, Kept, Flag}
use Rattle.fed_trace.specs.Effect.{Result, Ignored}
use Rattle.fed_trace.specs.Effect.{key_change, is_window, stage_change, window_change, last_of, begins}
use Rattle.fed_trace.specs.Keyed.{last_said, says}
use Rattle.fed_trace.specs.OfCall.{call_at}
use Rattle.fed_trace.specs.Row.{effects_of, with_event}
use Rattle.fed_trace.specs.Trace.{Row, Trace, standing, last_value, stage_at}
use Rattle.fed_trace.specs.Windows.{open_windows, provider_asked, provider_of}
use Rattle.fed_trace.proofs.keyed.Keyed.{lookup-standing}

-- what a stage says of a call's window
abbrev pub open_at : Option Stage → Option ⊤
open_at None = None
open_at (Some stage) = cond (is_window stage) (Some tt) None

moves_window : (q call : ℕ) (stage : Stage) (opened : Bool) → is_window stage ≡ opened
    → says nat_eq q (Some (key_change call opened)) ≡ option_map open_at (says nat_eq q (Some (call, Some stage)))
moves_window q call stage true is = go (nat_eq q call)
  where
    go : (b : Bool) → cond b (Some (Some tt)) None ≡ option_map open_at (cond b (Some (Some stage)) None)
    go true = ap (λ t. Some (cond t (Some tt) None)) (sym is)
    go false = refl
moves_window q call stage false is = go (nat_eq q call)
  where
    go : (b : Bool) → cond b (Some None) None ≡ option_map open_at (cond b (Some (Some stage)) None)
    go true = ap (λ t. Some (cond t (Some tt) None)) (sym is)
    go false = refl

says_window : (q : ℕ) (e : Effect) → says nat_eq q (window_change e) ≡ option_map open_at (says nat_eq q (stage_change e))
says_window q (Move kind call stage) = moves_window q call stage (is_window stage) refl
says_window q (Time time) = refl
says_window q (Page page origin) = refl
says_window q (Closed page) = refl
says_window q (Cookie cookie) = refl
says_window q (Login origin status) = refl
says_window q (Begin begun) = refl
says_window q (Sent kind call provider ask cookies) = refl
says_window q (Shown call dialog) = refl
says_window q (Dropped call provider failure) = refl
says_window q (Window call provider url) = refl
says_window q (Kept triple stays) = refl
says_window q (Flag origin stays) = refl
says_window q (Result call page finish) = refl
says_window q (Ignored why) = refl

or_mapped : {A B : Type 0} (f : A → B) (later said : Option A)
    → option_or (option_map f later) (option_map f said) ≡ option_map f (option_or later said)
or_mapped f None said = refl
or_mapped f (Some x) said = refl

last_window : (q : ℕ) (effects : List Effect)
    → last_said nat_eq window_change q effects ≡ option_map open_at (last_said nat_eq stage_change q effects)
last_window q [] = refl
last_window q (e ∷ effects) =
    ap₂ option_or (last_window q effects) (says_window q e)
    ∙ or_mapped open_at (last_said nat_eq stage_change q effects) (says nat_eq q (stage_change e))

unwrap_mapped : {A B : Type 0} (f : A → B) (o : Option A) (x : A) → unwrap_or (option_map f o) (f x) ≡ f (unwrap_or o x)
unwrap_mapped f None x = refl
unwrap_mapped f (Some y) x = refl

pub window_value : (q : ℕ) (rows : List Row) → last_value nat_eq window_change q rows ≡ open_at (last_value nat_eq stage_change q rows)
window_value q [] = refl
window_value q (row ∷ rows) =
    ap₂ unwrap_or (last_window q row.effects) (window_value q rows)
    ∙ unwrap_mapped open_at (last_said nat_eq stage_change q row.effects) (last_value nat_eq stage_change q rows)

-- the provider of a call that an event does not begin stays
pub provider_same : (T : Trace) (line : ℕ) (event : Event) (q : ℕ) → last_of (begins q) (effects_of T event) ≡ None
    → provider_of (with_event T line event).rows q ≡ provider_of T.rows q
provider_same T line event q none =
    ap (λ (o : Option Begun). option_and_then (λ begun. provider_asked begun.options) (option_or o (call_at T.rows q))) none

-- ---- members of lists

-- one that is left by a test is in the list, and passes it
pub in_filter : (q : ℕ) (p : ℕ → Bool) (xs : List ℕ) → list_any (nat_eq q) (filter p xs) ≡ true
    → (list_any (nat_eq q) xs ≡ true) × (p q ≡ true)
in_filter q p xs h = go (p q) (list_any (nat_eq q) xs) (sym (any-filter_same (nat_eq q) p (p q) same xs) ∙ h)
  where
    same : (k : ℕ) → nat_eq q k ≡ true → p k ≡ p q
    same k is = let key : k ≡ q = grind (arith, nat_tests, is) in ap p key

    go : (passes found : Bool) → passes && found ≡ true → (found ≡ true) × (passes ≡ true)
    go true found h = (h, refl)
    go false found h = absurd (cc)

-- ---- calls in Window

at_window : (stage : Option Stage) → is_some (open_at stage) ≡ true → stage ≡ Some stages.Window
at_window None h = absurd (cc)
at_window (Some stages.Window) h = refl
at_window (Some stages.Reading) h = absurd (cc)
at_window (Some stages.Listing) h = absurd (cc)
at_window (Some stages.Mismatch) h = absurd (cc)
at_window (Some stages.Gathering) h = absurd (cc)
at_window (Some stages.Choosing) h = absurd (cc)
at_window (Some stages.Prompting) h = absurd (cc)
at_window (Some stages.Asserting) h = absurd (cc)
at_window (Some stages.Ended) h = absurd (cc)

-- a call whose window is open is in Window
pub in_window : (T : Trace) (q : ℕ) → list_any (nat_eq q) (open_windows T) ≡ true → stage_at T q ≡ Some stages.Window
in_window T q h =
    at_window (stage_at T q)
    (sym (ap is_some (lookup-standing window_change q T.rows ∙ window_value q T.rows))
    ∙ is_some-lookup (nat_eq q) (standing nat_eq window_change T.rows) ∙ h)
