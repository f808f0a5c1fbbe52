-- The events of lines may follow one another.
use Rattle.std.proofs.Common.{◌≡◌, ◌∙◌, ℕ, ◌+◌, ◌<◌, Bool, true, false, cond, not, List}
use Rattle.std.proofs.Common.{[], ◌∷◌, Option, Some, None, refl, sym, ap, subst, arith}
use Rattle.std.proofs.lemmas.Bool.Decides.{nat_tests}
use Rattle.std.specs.Prelude.{Result, Ok, Err, ⊤, nat_lt}
use Rattle.fed_script.specs.declared.cause.LineCause.{LineCause}
use Rattle.fed_script.specs.declared.cause.LineCause.TheVariants.{CallTwice, HaveLate, TimeBack, TooManyEvents}
use Rattle.fed_script.specs.declared.event.Event.{Event}
use Rattle.fed_script.specs.declared.event.Header.{Header}
use Rattle.fed_script.specs.declared.event.Numbered.{Numbered}
use Rattle.fed_script.specs.Line.{allowed, event_named, event_of, header_of}
use Rattle.fed_script.specs.Member.{◌>>=◌, unless}
use Rattle.fed_script.specs.Script.{Script, MayFollow, AreRead, IsRead, Events, events_of, after_line as events_after}
use Rattle.fed_script.specs.Script.{is_blank, lines_of, script_of, script_of_lines, script_after, ended_by}
use Rattle.fed_script.specs.Used.{UsedState, unused, used_after, is_used, is_late, is_back, IsUnused}
use Rattle.fed_script.proofs.events.Event.{named-good}

-- what is allowed is unused, and there is room for it
record IsAllowed (used : UsedState) (event : Event) : Type 0 where
  pub few : used.events < 1000000
  pub once : IsUnused used event

below : (n : ℕ) (test : Bool) → nat_lt n 1000000 ≡ test → unless (not test) TooManyEvents ≡ Ok tt → n < 1000000
below n true is good = grind (arith, nat_tests)
below n false is good = absurd (cc)

may_be : (used : UsedState) (event : Event) (a b c : Bool) → is_used used event ≡ a
    → (unless a CallTwice >>= λ once. unless b HaveLate >>= λ early. unless c TimeBack >>= λ onward.
    unless (not (nat_lt used.events 1000000)) TooManyEvents) ≡ Ok tt
    → IsAllowed used event
may_be used event true b c once good = absurd (cc)
may_be used event false true c once good = absurd (cc)
may_be used event false false true once good = absurd (cc)
may_be used event false false false once good = record { few = below used.events _ refl good; once = once }

is_allowed : (used : UsedState) (event : Event) → allowed used event ≡ Ok tt → IsAllowed used event
is_allowed used event good = may_be used event (is_used used event) (is_late used event) (is_back used event) refl good

-- an event that a line is read as may follow the events before it
pub may_follow : (line : List ℕ) (used : UsedState) (event : Event) → event_of line used ≡ Ok event → MayFollow used event
may_follow line used event reads = by_name (event_named line) refl reads
  where
    by_test : (named : Event) → event_named line ≡ Ok named → (test : Result ⊤ LineCause) → allowed used named ≡ test
        → (test >>= λ good. Ok named) ≡ Ok event → MayFollow used event
    by_test named is (Err cause) tests reads = absurd (cc)
    by_test named is (Ok good) tests reads =
        let same : named ≡ event = cc in
        let may = is_allowed used event (ap (allowed used) (sym same) ∙ tests) in
        let good = named-good line event (is ∙ ap Ok same) in
        record { few = may.few; once = may.once; provider = good.0; status = good.1 }

    by_name : (r : Result Event LineCause) → event_named line ≡ r → (r >>= λ named. allowed used named >>= λ good. Ok named) ≡ Ok event
        → MayFollow used event
    by_name (Err cause) is reads = absurd (cc)
    by_name (Ok named) is reads = by_test named is (allowed used named) refl reads

-- the events of lines may follow one another
pub are_read : (used : UsedState) (n : ℕ) (lines : List (List ℕ)) → AreRead used (events_of used n lines).good
are_read used n [] = tt
are_read used n (line ∷ lines) =
    by_blank (is_blank line) (event_of line used) refl (are_read used (n + 1) lines) (λ after. are_read after (n + 1) lines)
  where
    by_blank : (blank : Bool) (r : Result Event LineCause) → event_of line used ≡ r → AreRead used (events_of used (n + 1) lines).good
        → ((after : UsedState) → AreRead after (events_of after (n + 1) lines).good)
        → AreRead used (cond blank (events_of used (n + 1) lines) (events_after n used r (λ after. events_of after (n + 1) lines))).good
    by_blank true r is same further = same
    by_blank false (Err cause) is same further = tt
    by_blank false (Ok event) is same further = (may_follow line used event is, further (used_after event used))

-- a script of some events, of which no line is bad, is readable
is_read : (header : Header) (good : List Numbered) (bad : Option (ℕ × LineCause)) (script : Script) → AreRead (unused header.now) good
    → ended_by header good bad ≡ Ok script → IsRead script
is_read header good None script read is = let same : record { header = header; events = good } ≡ script = cc in subst IsRead same read
is_read header good (Some bad) script read is = absurd (cc)

-- a script of lines is readable
lines_readable : (lines : List (List ℕ)) (script : Script) → script_of_lines lines ≡ Ok script → IsRead script
lines_readable [] script is = absurd (cc)
lines_readable (line ∷ lines) script is = by_header (header_of line) is
  where
    by_header : (r : Result Header LineCause) → script_after r lines ≡ Ok script → IsRead script
    by_header (Err cause) is = absurd (cc)
    by_header (Ok header) is =
        let found = events_of (unused header.now) 2 lines in
        is_read header found.good found.bad script (are_read (unused header.now) 2 lines) is

-- a script of bytes is readable
pub readable : (bytes : List ℕ) (script : Script) → script_of bytes ≡ Ok script → IsRead script
readable bytes script is = lines_readable (lines_of bytes) script is

-- a header and the events of the lines after it are a readable script
pub found_readable : (header : Header) (lines : List (List ℕ)) (good : List Numbered) (bad : Option (ℕ × LineCause))
    → record { good = good; bad = bad } ≡ events_of (unused header.now) 2 lines → IsRead (record { header = header; events = good })
found_readable header lines good bad is =
    let same : good ≡ (events_of (unused header.now) 2 lines).good = ap (λ (found : Events). found.good) is in
    subst (AreRead (unused header.now)) (sym same) (are_read (unused header.now) 2 lines)
