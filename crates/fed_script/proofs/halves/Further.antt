-- What was read of lines, and then what is left, is the whole.
use Rattle.std.proofs.Common.{◌≡◌, ◌∙◌, ℕ, ◌+◌, List, [], ◌∷◌, Option, Some, None, refl, sym, ap, append-nil}
use Rattle.fed_script.specs.declared.cause.LineCause.{LineCause}
use Rattle.fed_script.specs.declared.event.Numbered.{Numbered}
use Rattle.fed_script.specs.Further.{with_events, goes_on}
use Rattle.fed_script.specs.Script.{Events, events_of, first_line, lines_of, no_events}
use Rattle.fed_script.specs.Used.{UsedState}

-- what a line leaves, with whatever lines follow it
abbrev Leaves : List Numbered → List Numbered → UsedState → UsedState → ℕ → List ℕ → Option LineCause → Type 0
Leaves events events' used used' n line cause =
    (more : List (List ℕ)) → with_events events' (goes_on cause n used' more) ≡ with_events events (events_of used n (line ∷ more))

-- after a line the rest goes on to the whole
pub goes_further : (events events' : List Numbered) (used used' : UsedState) {whole : Events} {cause : Option LineCause} (n : ℕ)
    (rest line further : List ℕ)
    → cause ≡ None
    → Leaves events events' used used' n line cause
    → lines_of rest ≡ line ∷ lines_of further
    → with_events events (events_of used n (lines_of rest)) ≡ whole
    → with_events events' (events_of used' (n + 1) (lines_of further)) ≡ whole
goes_further events events' used used' n rest line further good leaves lines before =
    ap (λ o. with_events events' (goes_on o n used' (lines_of further))) (sym good)
    ∙ leaves (lines_of further)
    ∙ ap (λ ls. with_events events (events_of used n ls)) (sym lines)
    ∙ before

-- events and no more
no_more : (events : List Numbered) (bad : Option (ℕ × LineCause)) → record { good = events; bad = bad } ≡ with_events events (no_events bad)
no_more events bad = ap (λ (found : List Numbered). record { good = found; bad = bad }) (sym (append-nil events))

-- at a bad line the whole ends
pub stops_here : (events events' : List Numbered) (used used' : UsedState) {whole : Events} {found : Option LineCause} {cause : LineCause}
    (n : ℕ) (rest line further : List ℕ)
    → found ≡ Some cause
    → Leaves events events' used used' n line found
    → lines_of rest ≡ line ∷ lines_of further
    → with_events events (events_of used n (lines_of rest)) ≡ whole
    → record { good = events'; bad = Some (n, cause) } ≡ whole
stops_here events events' used used' {cause = cause} n rest line further bad leaves lines before =
    no_more events' (Some (n, cause))
    ∙ ap (λ o. with_events events' (goes_on o n used' (lines_of further))) (sym bad)
    ∙ leaves (lines_of further)
    ∙ ap (λ ls. with_events events (events_of used n ls)) (sym lines)
    ∙ before

-- bytes without a first line have no line
pub no_line : (rest : List ℕ) → first_line rest ≡ None → lines_of rest ≡ []
no_line [] none = refl
no_line (b ∷ rest) none = absurd (cc)

-- where no line is left the whole ends
pub ends_here : (events : List Numbered) (used : UsedState) {whole : Events} (n : ℕ) (rest : List ℕ)
    → first_line rest ≡ None
    → with_events events (events_of used n (lines_of rest)) ≡ whole
    → record { good = events; bad = None } ≡ whole
ends_here events used n rest none before =
    no_more events None ∙ ap (λ ls. with_events events (events_of used n ls)) (sym (no_line rest none)) ∙ before
