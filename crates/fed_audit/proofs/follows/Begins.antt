-- Which call an event begins.
use Rattle.std.proofs.Common.{◌≡◌, ℕ, Bool, true, false, nat_eq, Option, Some, None, refl, sym, ap, ◌∙◌, cond}
use Rattle.std.specs.Prelude.{if◌then◌else◌}
use Rattle.std.specs.Option.{option_or}
use Rattle.fed_origin.specs.declared.origin.Origin.{Origin}
use Rattle.fed_origin.specs.Origin.{is_trustworthy}
use Rattle.fed_disconnect.specs.Facts.{disconnect_options}
use Rattle.fed_script.specs.declared.event.Event.{Event}
use Rattle.fed_script.specs.declared.event.Event.TheVariants.{Get, Disconnect}
use Rattle.fed_trace.specs.Begun.{Begun, CallOptions, ToGet, ToDisconnect, kind_asked}
use Rattle.fed_trace.specs.Call.{Known, first_row, input_row, kind_of, page_of}
use Rattle.fed_trace.specs.Effect.{begins, last_of}
use Rattle.fed_trace.specs.Known.{world_at, known_at}
use Rattle.fed_trace.specs.Row.{effects_of, begin_effects, cookies_with, input_effects, is_busy, standing_call}
use Rattle.fed_trace.specs.Trace.{Trace, gets, page_at}
use Rattle.fed_trace.proofs.happens.Ends.{Happens, Left, Ends, Started, Took, Resumed, Starts, beginning}
use Rattle.fed_trace.proofs.happens.Happens.{happens}
use Rattle.fed_trace.proofs.happens.Says.{outcome_begins}

-- how a call of a page with this origin begins, where it is taken
abbrev pub begun_with : Option Origin → ℕ → ℕ → CallOptions → Option Begun
begun_with None page call options = None
begun_with (Some origin) page call options =
    if is_trustworthy origin then Some (record { call = call; page = page; origin = origin; options = options }) else None

-- how the call begins that the event begins, if it begins one
abbrev pub begun_by : Trace → Event → Option Begun
begun_by T (Get page call options) = begun_with (page_at T page) page call (ToGet options)
begun_by T (Disconnect page call config client hint) =
    begun_with (page_at T page) page call (ToDisconnect (disconnect_options config client hint))
begun_by T _ = None

-- it, where it is of this call
abbrev pub if_of : ℕ → Option Begun → Option Begun
if_of call None = None
if_of call (Some b) = if nat_eq call b.call then Some b else None

-- ---- a get and a disconnect

standing : (T : Trace) (busy : Bool) (b : Begun) (q : ℕ) (trusted : Bool) → is_trustworthy b.origin ≡ trusted
    → last_of (begins q) (standing_call (world_at T) (cookies_with T) trusted busy b)
    ≡ if_of q (cond trusted (Some b) None)
standing T busy b q false is = refl
standing T busy b q true is =
    ap (λ x. option_or x (cond (nat_eq q b.call) (Some b) None)) (outcome_begins (world_at T) (cookies_with T) (kind_asked b.options) b.call
    b.page q (first_row (world_at T) busy b.origin b.options))

beginning_says : (T : Trace) (page call : ℕ) (options : CallOptions) (busy : Bool) (q : ℕ) (origin : Option Origin)
    → last_of (begins q) (begin_effects (world_at T) (cookies_with T) origin busy page call options)
    ≡ if_of q (begun_with origin page call options)
beginning_says T page call options busy q None = refl
beginning_says T page call options busy q (Some origin) =
    standing T busy (record { call = call; page = page; origin = origin; options = options }) q (is_trustworthy origin) refl

-- ---- other events

is_beginning : Event → Bool
is_beginning (Get page call options) = true
is_beginning (Disconnect page call config client hint) = true
is_beginning _ = false

begins_so : (page call : ℕ) (options : CallOptions) → is_beginning (beginning page call options) ≡ true
unfolding is_beginning
begins_so page call (ToGet options) = refl
begins_so page call (ToDisconnect options) = refl

input_says : (T : Trace) (call : ℕ) (q : ℕ) (known : Option Known) (input : _)
    → last_of (begins q) (input_effects (world_at T) (cookies_with T) true call known input) ≡ None
input_says T call q None input = refl
input_says T call q (Some known) input =
    outcome_begins (world_at T) (cookies_with T) (kind_of known) call (page_of known) q (input_row (world_at T) known input)

others : (T : Trace) (event : Event) (q : ℕ) → is_beginning event ≡ false → last_of (begins q) (effects_of T event) ≡ None
others T event q other = go (happens T event q)
  where
    started : Starts T event q → last_of (begins q) (effects_of T event) ≡ None
    started s =
        let no : true ≡ false =
        sym (begins_so s.begun.page s.begun.call s.begun.options) ∙ sym (ap is_beginning s.is_event) ∙ other in
        absurd (cc)

    go : Happens T event q → last_of (begins q) (effects_of T event) ≡ None
    go (Left l) = l.quiet.begins_none
    go (Ends e) = e.begins_none
    go (Started s) = started s
    go (Took t) = ap (last_of (begins q)) t.effects ∙ input_says T q q (known_at T q) t.input
    go (Resumed r) = r.begins_none

-- what the effects of an event say that a call begins with
pub begins_is : (T : Trace) (event : Event) (q : ℕ) → last_of (begins q) (effects_of T event) ≡ if_of q (begun_by T event)
unfolding is_beginning
begins_is T (Get page call options) q =
    beginning_says T page call (ToGet options) (is_busy page (gets T)) q (page_at T page)
begins_is T (Disconnect page call config client hint) q =
    beginning_says T page call (ToDisconnect (disconnect_options config client hint)) (is_busy page (gets T)) q (page_at T page)
begins_is T event q = others T event q refl
