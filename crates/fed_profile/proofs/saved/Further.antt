-- Further lines behind a script, and behind the lines that it is saved as.
use Rattle.std.proofs.Common.{◌≡◌, ℕ, ◌+◌, ◌≤◌, Bool, true, false, cond, nat_eq, nat_lt, not, List, [], ◌∷◌, ◌++◌, None}
use Rattle.std.proofs.Common.{Result, Ok, Err, refl, sym, ap, ap₂, subst, ◌∙◌, arith}
use Rattle.std.proofs.lemmas.Bool.Decides.{nat_tests}
use Rattle.std.specs.Prelude.{fold, ⊤}
use Rattle.std.specs.List.{AllByRecursion, list_any}
use Rattle.fed_script.specs.declared.cause.LineCause.{LineCause}
use Rattle.fed_script.specs.declared.cause.LineCause.TheVariants.{CallTwice, HaveLate, TimeBack, TooManyEvents}
use Rattle.fed_script.specs.declared.event.Event.{Event}
use Rattle.fed_script.specs.declared.event.Event.TheVariants as events
use Rattle.fed_script.specs.declared.event.Header.{Header}
use Rattle.fed_script.specs.declared.event.Numbered.{Numbered}
use Rattle.fed_script.specs.Line.{event_of, allowed}
use Rattle.fed_script.specs.Member.{◌>>=◌, unless}
use Rattle.fed_script.specs.Script.{Script, Events, AreRead, IsRead, is_blank, events_of, after_line, script_of_lines, lines_of}
use Rattle.fed_script.specs.Used.{UsedState, unused, used_after, calls_after, time_after, is_used, is_late, is_back}
use Rattle.fed_script.proofs.scripts.Read.{are_read}
use Rattle.fed_trace.specs.Known.{is_begun}
use Rattle.fed_trace.specs.OfScript.{start, with_events, trace_of}
use Rattle.fed_trace.specs.Row.{effects_of, with_event}
use Rattle.fed_trace.specs.Trace.{Trace, begun, now_at}
use Rattle.fed_trace.proofs.runs.Scripts.{script_runs}
use Rattle.fed_trace.proofs.runs.Untaken.{IsUntaken, untaken_after}
use Rattle.fed_profile.specs.declared.state.Saved.TheVariants.{Lines}
use Rattle.fed_profile.specs.Save.{Saves}
use Rattle.fed_profile.specs.Saved as saved
use Rattle.fed_profile.specs.Saved.{NamesNone, IsOnward, GoOn, does_after}
use Rattle.fed_profile.specs.Scripts.{ScriptGoesOn, is_call_of}
use Rattle.fed_profile.proofs.read.Events.{after, names_it}
use Rattle.fed_profile.proofs.saved.Back.{read_back}
use Rattle.fed_profile.proofs.saved.Continues.{none_pending}
use Rattle.fed_profile.proofs.saved.Goes.{saved_goes_on_lem}
use Rattle.fed_profile.proofs.saved.Restore.{headers}
use Rattle.fed_profile.proofs.saved.Script.{reads_to}
use Rattle.fed_profile.proofs.saved.Times.{time_then}

-- what is used after events
abbrev pub uses : UsedState → List Numbered → UsedState
uses used [] = used
uses used (n ∷ ns) = uses (used_after n.event used) ns

-- ---- further lines behind lines of which none is bad

record Grows (used : UsedState) (short long : Events) (more : List (List ℕ)) : Type 0 where
  line : ℕ
  good : long.good ≡ short.good ++ (events_of (uses used short.good) line more).good
  bad : long.bad ≡ (events_of (uses used short.good) line more).bad

grows : (used : UsedState) (n : ℕ) (lines more : List (List ℕ)) → (events_of used n lines).bad ≡ None
    → Grows used (events_of used n lines) (events_of used n (lines ++ more)) more
grows used n [] more none = record { line = n; good = refl; bad = refl }
grows used n (line ∷ lines) more none =
    go (is_blank line) (event_of line used) (λ after. grows after (n + 1) lines more) none
  where
    short : UsedState → Events
    short after = events_of after (n + 1) lines

    long : UsedState → Events
    long after = events_of after (n + 1) (lines ++ more)

    go : (blank : Bool) (r : Result Event LineCause)
        → ((after : UsedState) → (short after).bad ≡ None → Grows after (short after) (long after) more)
        → (cond blank (short used) (after_line n used r short)).bad ≡ None
        → Grows used (cond blank (short used) (after_line n used r short)) (cond blank (long used) (after_line n used r long)) more
    go true r later none = later used none
    go false (Err cause) later none = absurd (cc)
    go false (Ok event) later none =
        let on = later (used_after event used) none in
        let m : Numbered = record { line = n; event = event } in
        record { line = on.line; good = ap (λ l. m ∷ l) on.good; bad = on.bad }

-- a script, and the further lines behind it
record IsMore (script whole : Script) (more : List (List ℕ)) : Type 0 where
  header : whole.header ≡ script.header
  line : ℕ
  events : whole.events ≡ script.events ++ (events_of (uses (unused script.header.now) script.events) line more).good
  none : (events_of (uses (unused script.header.now) script.events) line more).bad ≡ None

is_more : (lines more : List (List ℕ)) (script whole : Script) → script_of_lines lines ≡ Ok script
    → script_of_lines (lines ++ more) ≡ Ok whole
    → IsMore script whole more
is_more [] more script whole is all = absurd (cc)
is_more (first ∷ lines) more script whole is all =
    let short = reads_to first lines script is in
    let long = reads_to first (lines ++ more) whole all in
    let twice : Ok whole.header ≡ Ok script.header = sym long.header_is ∙ short.header_is in
    let header : whole.header ≡ script.header = cc in
    let on = grows (unused script.header.now) 2 lines more short.none in
    record {
      header = header;
      line = on.line;
      events =
          sym long.good ∙ ap (λ (h : Header). (events_of (unused h.now) 2 (lines ++ more)).good) header ∙ on.good
          ∙ ap (λ ns. ns ++ (events_of (uses (unused script.header.now) ns) on.line more).good) short.good;
      none =
          ap (λ ns. (events_of (uses (unused script.header.now) ns) on.line more).bad) (sym short.good) ∙ sym on.bad
          ∙ ap (λ (h : Header). (events_of (unused h.now) 2 (lines ++ more)).bad) (sym header) ∙ long.none;
    }

-- ---- lines that are read behind two scripts

same_named : (line : List ℕ) (used other : UsedState) (e f : Event) → event_of line used ≡ Ok e → event_of line other ≡ Ok f → e ≡ f
same_named line used other e f a b =
    let same : Ok e ≡ Ok f = sym (names_it line used e a) ∙ names_it line other f b in cc

same_events : (used other : UsedState) (n m : ℕ) (lines : List (List ℕ)) → (events_of used n lines).bad ≡ None
    → (events_of other m lines).bad ≡ None → saved.events_of (events_of used n lines).good ≡ saved.events_of (events_of other m lines).good
same_events used other n m [] a b = refl
same_events used other n m (line ∷ lines) a b =
    go (is_blank line) (event_of line used) (event_of line other) refl refl (λ u v. same_events u v (n + 1) (m + 1) lines) a b
  where
    one : UsedState → Events
    one after = events_of after (n + 1) lines

    two : UsedState → Events
    two after = events_of after (m + 1) lines

    go : (blank : Bool) (r s : Result Event LineCause) → event_of line used ≡ r → event_of line other ≡ s
        → ((u v : UsedState) → (one u).bad ≡ None → (two v).bad ≡ None → saved.events_of (one u).good ≡ saved.events_of (two v).good)
        → (cond blank (one used) (after_line n used r one)).bad ≡ None → (cond blank (two other) (after_line m other s two)).bad ≡ None
        → saved.events_of (cond blank (one used) (after_line n used r one)).good
        ≡ saved.events_of (cond blank (two other) (after_line m other s two)).good
    go true r s at to later a b = later used other a b
    go false (Err cause) s at to later a b = absurd (cc)
    go false (Ok e) (Err cause) at to later a b = absurd (cc)
    go false (Ok e) (Ok f) at to later a b =
        ap₂ (λ x l. x ∷ l) (same_named line used other e f at to) (later (used_after e used) (used_after f other) a b)

-- ---- what stands of a script when further lines come

-- nothing that a script does not name began, and its time is that of the trace
record IsAt (used : UsedState) (T : Trace) : Type 0 where
  untaken : IsUntaken used.calls (begun T.rows)
  time : now_at T ≡ used.time

at_start : (header : Header) → IsAt (unused header.now) (start header)
at_start header = record { untaken = λ call free. refl; time = refl }

at_then : (used : UsedState) (T : Trace) (n : Numbered) → IsAt used T → IsAt (used_after n.event used) (with_event T n.line n.event)
at_then used T n h =
    record {
      untaken = untaken_after T n.line n.event used h.untaken;
      time = time_then T n.line n.event ∙ ap (time_after n.event) h.time;
    }

at_end : (used : UsedState) (T : Trace) (ns : List Numbered) → IsAt used T → IsAt (uses used ns) (with_events T ns)
at_end used T [] h = h
at_end used T (n ∷ ns) h = at_end (used_after n.event used) (with_event T n.line n.event) ns (at_then used T n h)

-- the calls that are used
used_calls : (used : UsedState) (ns : List Numbered)
    → (uses used ns).calls ≡ fold (λ (calls : List ℕ) (m : Numbered). calls_after m.event calls) used.calls ns
used_calls used [] = refl
used_calls used (n ∷ ns) = used_calls (used_after n.event used) ns

-- ---- further events go on

third : (a b c d : Bool)
    → (unless a CallTwice >>= λ x. unless b HaveLate >>= λ y. unless c TimeBack >>= λ z. unless d TooManyEvents) ≡ Ok tt → c ≡ false
third false false false d is = refl
third false false true d is = absurd (cc)
third false true c d is = absurd (cc)
third true b c d is = absurd (cc)

is_onward : (used : UsedState) (e : Event) → is_back used e ≡ false → IsOnward used.time e
is_onward used (events.At time) free = let le : used.time ≤ time = grind (arith, nat_tests, free) in le
is_onward used (events.Get page call options) free = tt
is_onward used (events.Disconnect page call config client hint) free = tt
is_onward used (events.Abort call) free = tt
is_onward used (events.GoOn call) free = tt
is_onward used (events.Cancel call) free = tt
is_onward used (events.SignIn call) free = tt
is_onward used (events.ShutWindow call) free = tt
is_onward used (events.Reply call provider kind raw) free = tt
is_onward used (events.Choose call provider account) free = tt
is_onward used (events.Have have) free = tt
is_onward used (events.Load page url raw) free = tt
is_onward used (events.ClosePage page) free = tt
is_onward used (events.IdpClose page) free = tt
is_onward used (events.Prevent page) free = tt
is_onward used (events.SetStatus page status) free = tt

-- an event that is read after others does not turn the time back
read_onward : (line : List ℕ) (used : UsedState) (e : Event) → event_of line used ≡ Ok e → IsOnward used.time e
read_onward line used e is =
    is_onward used e (third (is_used used e) (is_late used e) (is_back used e) (not (nat_lt used.events 1000000))
    (passes (allowed used e) read))
  where
    read : (allowed used e >>= λ good. Ok e) ≡ Ok e
    read = sym (ap (λ r. r >>= after used) (names_it line used e is)) ∙ is

    passes : (r : Result ⊤ LineCause) → (r >>= λ good. Ok e) ≡ Ok e → r ≡ Ok tt
    passes (Ok good) is = refl
    passes (Err cause) is = absurd (cc)

-- what names none of more calls names none of fewer
names_less : (few many : ℕ → Bool) → ((q : ℕ) → many q ≡ false → few q ≡ false) → (e : Event) → NamesNone many e → NamesNone few e
names_less few many less (events.Get page call options) h = less call h
names_less few many less (events.Disconnect page call config client hint) h = less call h
names_less few many less (events.Abort call) h = less call h
names_less few many less (events.GoOn call) h = less call h
names_less few many less (events.Cancel call) h = less call h
names_less few many less (events.SignIn call) h = less call h
names_less few many less (events.ShutWindow call) h = less call h
names_less few many less (events.Reply call provider kind raw) h = less call h
names_less few many less (events.Choose call provider account) h = less call h
names_less few many less (events.Have have) h = tt
names_less few many less (events.At time) h = tt
names_less few many less (events.Load page url raw) h = tt
names_less few many less (events.ClosePage page) h = tt
names_less few many less (events.IdpClose page) h = tt
names_less few many less (events.Prevent page) h = tt
names_less few many less (events.SetStatus page status) h = tt

go_on : (few many : ℕ → Bool) → ((q : ℕ) → many q ≡ false → few q ≡ false) → (used : UsedState) (T : Trace) (n : ℕ) (lines : List (List ℕ))
    → IsAt used T → (events_of used n lines).bad ≡ None → AllByRecursion (λ m. NamesNone many m.event) (events_of used n lines).good
    → GoOn few T (events_of used n lines).good
go_on few many less used T n [] at none names = tt
go_on few many less used T n (line ∷ lines) at none names =
    go (is_blank line) (event_of line used) refl (λ u V. go_on few many less u V (n + 1) lines) none names
  where
    rest : UsedState → Events
    rest after = events_of after (n + 1) lines

    go : (blank : Bool) (r : Result Event LineCause) → event_of line used ≡ r
        → ((u : UsedState) (V : Trace) → IsAt u V → (rest u).bad ≡ None → AllByRecursion (λ m. NamesNone many m.event) (rest u).good
        → GoOn few V (rest u).good)
        → (cond blank (rest used) (after_line n used r rest)).bad ≡ None
        → AllByRecursion (λ m. NamesNone many m.event) (cond blank (rest used) (after_line n used r rest)).good
        → GoOn few T (cond blank (rest used) (after_line n used r rest)).good
    go true r is later none names = later used T at none names
    go false (Err cause) is later none names = absurd (cc)
    go false (Ok e) is later none names =
        let m : Numbered = record { line = n; event = e } in (
          names_less few many less e names.0,
          subst (λ t. IsOnward t e) (sym at.time) (read_onward line used e is),
          later (used_after e used) (with_event T n e) (at_then used T m at) none names.1,
        )

-- ---- the whole

does_append : (T : Trace) (xs ys : List Numbered) → does_after T (xs ++ ys) ≡ does_after T xs ++ does_after (with_events T xs) ys
does_append T [] ys = refl
does_append T (n ∷ ns) ys = ap (λ l. effects_of T n.event ∷ l) (does_append (with_event T n.line n.event) ns ys)

-- what stands behind the same front is the same
behind : (xs ys zs : List Numbered) → xs ++ ys ≡ xs ++ zs → ys ≡ zs
behind [] ys zs e = e
behind (x ∷ xs) ys zs e = let rest : xs ++ ys ≡ xs ++ zs = cc in behind xs ys zs rest

readable : (lines : List (List ℕ)) (script : Script) → script_of_lines lines ≡ Ok script → IsRead script
readable [] script is = absurd (cc)
readable (first ∷ lines) script is =
    let to = reads_to first lines script is in
    subst (λ ns. AreRead (unused script.header.now) ns) to.good (are_read (unused script.header.now) 2 lines)

pub script_goes_on_lem : ScriptGoesOn
script_goes_on_lem lines more script whole kept longer view text further is all shows saves reads behind_it further_is names =
    let T = trace_of script in
    let U = trace_of kept in
    let run = script_runs script (readable lines script is) in
    let its = subst (λ (h : Header). Saves view h.rules (Lines text)) (sym (headers (start script.header) script.events)) saves in
    let back = read_back T view text kept run shows its reads in
    let one = is_more lines more script whole is all in
    let two = is_more (lines_of text) more kept longer reads behind_it in
    let used = uses (unused script.header.now) script.events in
    let other = uses (unused kept.header.now) kept.events in
    let xs = (events_of used one.line more).good in
    let ys = (events_of other two.line more).good in
    let same = same_events used other one.line two.line more one.none two.none in
    let at = at_end (unused script.header.now) (start script.header) script.events (at_start script.header) in
    let less : (q : ℕ) → is_call_of script q ≡ false → is_begun T q ≡ false =
    λ q free. at.untaken q (ap (list_any (nat_eq q)) (used_calls (unused script.header.now) script.events) ∙ free) in
    let named = subst (λ ns. AllByRecursion (λ n. NamesNone (is_call_of script) n.event) ns)
    (behind script.events further xs (sym further_is ∙ one.events)) names in
    let on = go_on (is_begun T) (is_call_of script) less used T one.line more at one.none named in
    let does = saved_goes_on_lem T U run (none_pending view T shows saves.0) back.back xs ys same on in
    record {
      more = does_after T xs;
      whole_does =
          ap₂ (λ h ns. does_after (start h) ns) one.header one.events ∙ does_append (start script.header) script.events xs;
      after_does =
          ap₂ (λ h ns. does_after (start h) ns) two.header two.events ∙ does_append (start kept.header) kept.events ys
          ∙ ap (λ l. does_after (start kept.header) kept.events ++ l) (sym does);
    }
