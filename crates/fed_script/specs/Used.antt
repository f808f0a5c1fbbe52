-- What the events before a line leave for it.
use Rattle.std.specs.Prelude.{◌≡◌, ◌≢◌, ◌≤◌, ℕ, ◌+◌, Bool, true, false, nat_eq, nat_lt, List, [], ◌∷◌, ◌++◌, length, ⊤}
use Rattle.std.specs.List.{list_any}
use Rattle.fed_origin.specs.declared.status.LoginStatus.{LoginStatus}
use Rattle.fed_origin.specs.declared.status.LoginStatus.TheVariants.{Unknown}
use Rattle.fed_script.specs.declared.event.Event.{Event}
use Rattle.fed_script.specs.declared.event.Event.TheVariants as events
use Rattle.fed_script.specs.declared.event.Have.{Have}
use Rattle.fed_script.specs.declared.event.Have.TheVariants.{Login}

pub record UsedState : Type 0 where
  -- the numbers of the calls, in the order of their lines
  pub calls : List ℕ
  -- an event other than a `have` came
  pub started : Bool
  -- how many events there were
  pub events : ℕ
  -- in seconds since 1970
  pub time : ℕ

-- before the first event
abbrev pub unused : ℕ → UsedState
unused time = record { calls = []; started = false; events = 0; time = time }

-- an earlier line used the number of this get or disconnect
abbrev pub is_used : UsedState → Event → Bool
is_used used (events.Get page call options) = list_any (nat_eq call) used.calls
is_used used (events.Disconnect page call config client hint) = list_any (nat_eq call) used.calls
is_used used _ = false

-- a `have` after an event of another kind
abbrev pub is_late : UsedState → Event → Bool
is_late used (events.Have have) = used.started
is_late used _ = false

-- an `at` whose time is below the time before it
abbrev pub is_back : UsedState → Event → Bool
is_back used (events.At time) = nat_lt time used.time
is_back used _ = false

-- no earlier line used the number of this get or disconnect
abbrev pub IsUnused : UsedState → Event → Type 0
IsUnused used event = is_used used event ≡ false

-- a get has one to ten providers
abbrev pub HasProviders : Event → Type 0
HasProviders (events.Get page call options) = (1 ≤ length options.providers) × (length options.providers ≤ 10)
HasProviders _ = ⊤

-- a status that was said
abbrev pub IsKnown : LoginStatus → Type 0
IsKnown status = status ≢ Unknown

-- what is said of the time before the script has no unknown status
abbrev pub SaysKnown : Have → Type 0
SaysKnown (Login origin status) = IsKnown status
SaysKnown _ = ⊤

-- an event has no unknown status
abbrev pub HasKnownStatus : Event → Type 0
HasKnownStatus (events.Have have) = SaysKnown have
HasKnownStatus (events.SetStatus page status) = IsKnown status
HasKnownStatus _ = ⊤

-- the numbers of the calls after an event
abbrev pub calls_after : Event → List ℕ → List ℕ
calls_after (events.Get page call options) calls = calls ++ call ∷ []
calls_after (events.Disconnect page call config client hint) calls = calls ++ call ∷ []
calls_after _ calls = calls

-- whether an event other than a `have` came, after an event
abbrev pub started_after : Event → Bool → Bool
started_after (events.Have have) started = started
started_after _ started = true

-- the time after an event
abbrev pub time_after : Event → ℕ → ℕ
time_after (events.At time) before = time
time_after _ before = before

-- what is used after an event
abbrev pub used_after : Event → UsedState → UsedState
used_after event used =
    record {
      calls = calls_after event used.calls;
      started = started_after event used.started;
      events = used.events + 1;
      time = time_after event used.time;
    }
