-- What a line is read as by itself, and after others.
use Rattle.std.proofs.Common.{◌≡◌, ℕ, List, Some, None, Result, Ok, Err, refl, sym, ap}
use Rattle.std.specs.Prelude.{⊤}
use Rattle.fed_suffix.specs.Rule.{RuleSet}
use Rattle.fed_script.specs.declared.cause.LineCause.{LineCause}
use Rattle.fed_script.specs.declared.event.Event.{Event}
use Rattle.fed_script.specs.declared.event.Event.TheVariants as events
use Rattle.fed_script.specs.Line.{event_named, event_of, allowed}
use Rattle.fed_script.specs.Member.{◌>>=◌}
use Rattle.fed_script.specs.Used.{UsedState, unused}
use Rattle.fed_profile.specs.Item.{item_of, item_read, item_in}

-- an event after others, where the lines before it allow it
abbrev pub after : UsedState → Event → Result Event LineCause
after used event = allowed used event >>= λ good. Ok event

after_is : (used : UsedState) (event e : Event) → after used event ≡ Ok e → event ≡ e
after_is used event e is = go (allowed used event) is
  where
    go : (r : Result ⊤ LineCause) → (r >>= λ good. Ok event) ≡ Ok e → event ≡ e
    go (Ok good) is = cc
    go (Err cause) is = absurd (cc)

-- what is read after others is what the line names
pub names_it : (line : List ℕ) (used : UsedState) (e : Event) → event_of line used ≡ Ok e → event_named line ≡ Ok e
names_it line used e is = go (event_named line) is
  where
    go : (r : Result Event LineCause) → (r >>= after used) ≡ Ok e → r ≡ Ok e
    go (Ok event) is = ap Ok (after_is used event e is)
    go (Err cause) is = absurd (cc)

no_item : (rules : RuleSet) (now : ℕ) (event : Event) (cause : LineCause) → after (unused now) event ≡ Err cause
    → item_of rules now event ≡ None
no_item rules now (events.Have have) cause is = absurd (cc)
no_item rules now (events.Load page url None) cause is = absurd (cc)
no_item rules now (events.Load page url (Some raw)) cause is = refl
no_item rules now (events.At time) cause is = refl
no_item rules now (events.ClosePage page) cause is = refl
no_item rules now (events.Get page call options) cause is = refl
no_item rules now (events.Abort call) cause is = refl
no_item rules now (events.GoOn call) cause is = refl
no_item rules now (events.Cancel call) cause is = refl
no_item rules now (events.SignIn call) cause is = refl
no_item rules now (events.ShutWindow call) cause is = refl
no_item rules now (events.Reply call provider kind raw) cause is = refl
no_item rules now (events.Choose call provider account) cause is = refl
no_item rules now (events.IdpClose page) cause is = refl
no_item rules now (events.Prevent page) cause is = refl
no_item rules now (events.SetStatus page status) cause is = refl
no_item rules now (events.Disconnect page call config client hint) cause is = refl

-- a line that is refused after the header brings no item
pub none_read : (rules : RuleSet) (now : ℕ) (line : List ℕ) (cause : LineCause) → event_of line (unused now) ≡ Err cause
    → item_in rules now line ≡ None
none_read rules now line cause is = go (event_named line) is
  where
    go : (r : Result Event LineCause) → (r >>= after (unused now)) ≡ Err cause → item_read rules now r ≡ None
    go (Ok event) is = no_item rules now event cause is
    go (Err other) is = refl

pub some_read : (rules : RuleSet) (now : ℕ) (line : List ℕ) (used : UsedState) (e : Event) → event_of line used ≡ Ok e
    → item_of rules now e ≡ item_in rules now line
some_read rules now line used e is = sym (ap (item_read rules now) (names_it line used e is))
