-- The time after an event.
use Rattle.std.proofs.Common.{◌≡◌, ℕ, ◌+◌, ◌≤◌, Bool, false, List, [], ◌∷◌, Option, Some, None, refl, ap, arith}
use Rattle.std.specs.Prelude.{unwrap_or, IfSome}
use Rattle.std.specs.Option.{option_or}
use Rattle.std.specs.List.{AllByRecursion}
use Rattle.fed_script.specs.declared.event.Event.{Event}
use Rattle.fed_script.specs.declared.event.Event.TheVariants as events
use Rattle.fed_script.specs.Used.{time_after}
use Rattle.fed_trace.specs.Effect.{last_of, time_of}
use Rattle.fed_trace.specs.Row.{effects_of, with_event}
use Rattle.fed_trace.specs.Trace.{Trace, now_at, last_in}
use Rattle.fed_trace.specs.Windows.{windows_of}
use Rattle.fed_profile.specs.Saved.{NamesNone, IsOnward}
use Rattle.fed_profile.proofs.saved.Steps.{steps, later}

abbrev nobody : ℕ → Bool
nobody call = false

all_new : (calls : List ℕ) → AllByRecursion (λ q. nobody q ≡ false) calls
all_new [] = tt
all_new (q ∷ calls) = (refl, all_new calls)

names_nobody : (e : Event) → NamesNone nobody e
names_nobody (events.Get page call options) = refl
names_nobody (events.Disconnect page call config client hint) = refl
names_nobody (events.Abort call) = refl
names_nobody (events.GoOn call) = refl
names_nobody (events.Cancel call) = refl
names_nobody (events.SignIn call) = refl
names_nobody (events.ShutWindow call) = refl
names_nobody (events.Reply call provider kind raw) = refl
names_nobody (events.Choose call provider account) = refl
names_nobody (events.Have have) = tt
names_nobody (events.At time) = tt
names_nobody (events.Load page url raw) = tt
names_nobody (events.ClosePage page) = tt
names_nobody (events.IdpClose page) = tt
names_nobody (events.Prevent page) = tt
names_nobody (events.SetStatus page status) = tt

-- what is at least every number is none
none_of : (o : Option ℕ) → ((now : ℕ) → IfSome o (λ t. now ≤ t)) → o ≡ None
none_of None h = refl
none_of (Some t) h = let more : t + 1 ≤ t = h (t + 1) in absurd (omega (arith, more))

no_time : (T : Trace) (e : Event) → ((now : ℕ) → IsOnward now e) → last_of time_of (effects_of T e) ≡ None
no_time T e on =
    none_of (last_of time_of (effects_of T e))
    (λ now. later nobody now (effects_of T e) (steps nobody now T (λ origin. all_new (windows_of T origin)) e (names_nobody e) (on now)))

still : (T : Trace) (line : ℕ) (e : Event) → ((now : ℕ) → IsOnward now e) → now_at (with_event T line e) ≡ now_at T
still T line e on = ap (λ o. unwrap_or (option_or o (last_in time_of T.rows)) T.header.now) (no_time T e on)

-- it is what the event says, or as it was
pub time_then : (T : Trace) (line : ℕ) (e : Event) → now_at (with_event T line e) ≡ time_after e (now_at T)
time_then T line (events.At time) = refl
time_then T line (events.Get page call options) = still T line (events.Get page call options) (λ now. tt)
time_then T line (events.Disconnect page call config client hint) =
    still T line (events.Disconnect page call config client hint) (λ now. tt)
time_then T line (events.Abort call) = still T line (events.Abort call) (λ now. tt)
time_then T line (events.GoOn call) = still T line (events.GoOn call) (λ now. tt)
time_then T line (events.Cancel call) = still T line (events.Cancel call) (λ now. tt)
time_then T line (events.SignIn call) = still T line (events.SignIn call) (λ now. tt)
time_then T line (events.ShutWindow call) = still T line (events.ShutWindow call) (λ now. tt)
time_then T line (events.Reply call provider kind raw) = still T line (events.Reply call provider kind raw) (λ now. tt)
time_then T line (events.Choose call provider account) = still T line (events.Choose call provider account) (λ now. tt)
time_then T line (events.Have have) = still T line (events.Have have) (λ now. tt)
time_then T line (events.Load page url raw) = still T line (events.Load page url raw) (λ now. tt)
time_then T line (events.ClosePage page) = still T line (events.ClosePage page) (λ now. tt)
time_then T line (events.IdpClose page) = still T line (events.IdpClose page) (λ now. tt)
time_then T line (events.Prevent page) = still T line (events.Prevent page) (λ now. tt)
time_then T line (events.SetStatus page status) = still T line (events.SetStatus page status) (λ now. tt)
