-- A record meets the own one about the same, or leaves it.
use Rattle.std.proofs.Common.{◌≡◌, ℕ, suc, Bool, true, false, List, ◌∷◌, Option, Some, None, refl, sym, ap, subst, ◌∙◌, arith}
use Rattle.std.specs.Prelude.{◌==◌}
use Rattle.std.proofs.lemmas.Bool.Decides.{nat_tests}
use Rattle.std.specs.Map.{lookup}
use Rattle.indexmap.specs.IndexMap.{shift_remove_entry}
use Rattle.fed_script.specs.Script.{AreRead, is_blank}
use Rattle.fed_session.specs.Session.{Stands}
use Rattle.fed_trace.specs.declared.out.Out.{Out}
use Rattle.fed_audit.specs.declared.aspect.About.{About}
use Rattle.fed_audit.specs.declared.aspect.Aspect.TheVariants as aspects
use Rattle.fed_audit.specs.declared.differ.Finding.{Finding}
use Rattle.fed_audit.specs.declared.difference.Difference.{Difference}
use Rattle.fed_audit.specs.declared.own.Rows.{Rows}
use Rattle.fed_audit.specs.declared.record.Record.{Record}
use Rattle.fed_audit.specs.declared.record.Record.TheVariants as records
use Rattle.fed_audit.specs.Audit.{ByBlank}
use Rattle.fed_audit.specs.Compare.{At, Arrival, Comes, Lacks, Leaves, Meets, Arrives, IfAbout, SaysLine, DifferIn, arrive, found_of}
use Rattle.fed_audit.specs.Compare.{is_request, own_about}
use Rattle.fed_audit.specs.Differ.{bare}
use Rattle.fed_audit.specs.Record.{record_of, line_of}
use Rattle.fed_audit.specs.Rows.{IsAt, HasArrived, MeetsAnd, MeetsNot, GoesOn, StopsHere, rows_after}
use Rattle.fed_audit.specs.Told.{about_said, key_of, same_key}

-- ---- the own record

same_line : (a b : ℕ) → a ≡ b → (a == b) ≡ true
same_line a b h = grind (arith, nat_tests)

other_line : (a b : ℕ) → ¬ (a ≡ b) → (a == b) ≡ false
other_line a b h = grind (arith, nat_tests)

pub own_elsewhere : (line : ℕ) (about : About) (at : At) → ¬ (at.line ≡ line) → own_about line about at ≡ None
own_elsewhere line about at h = rw (other_line at.line line h) refl

pub own_here : (line : ℕ) (about : About) (at : At) → at.line ≡ line
    → own_about line about at ≡ lookup (same_key (key_of about)) at.left
own_here line about at h = rw (same_line at.line line h) refl

-- ---- what is found of it

pub is_further : (said : Record) (line : ℕ) (about : About) (at : At) (d : Difference) → own_about line about at ≡ None
    → d ≡ found_of line (Some about) (bare aspects.Further) → MeetsNot said line about at d
is_further said line about at d none is = λ number lines.
    subst (λ o. Meets (λ n. Leaves n number lines (Some d)) said line about at o (Some d)) (sym none) (ap Some is)

pub is_found : (said : Record) (line : ℕ) (about : About) (at : At) (own : Out) (found : Finding) (d : Difference)
    → own_about line about at ≡ Some own → DifferIn own said (Some found) → d ≡ found_of line (Some about) found
    → MeetsNot said line about at d
is_found said line about at own found d is differ d_is = λ number lines.
    subst (λ o. Meets (λ n. Leaves n number lines (Some d)) said line about at o (Some d)) (sym is) (Some found, differ, ap Some d_is)

-- what is left after the own record met its counterpart
abbrev pub without : About → At → At
without about at = record at { left = shift_remove_entry (same_key (key_of about)) at.left }

pub is_met : (said : Record) (line : ℕ) (about : About) (at : At) (own : Out) → own_about line about at ≡ Some own → DifferIn own said None
    → MeetsAnd said line about at (without about at)
is_met said line about at own is differ = λ number lines d leaves.
    subst (λ o. Meets (λ n. Leaves n number lines d) said line about at o d) (sym is) (None, differ, leaves)

pub at_without : (old new : Rows) (about : About) (at : At) → (h : IsAt old at) → new.session ≡ old.session → new.line ≡ old.line
    → new.events ≡ old.events → new.left ≡ shift_remove_entry (same_key (key_of about)) old.left → IsAt new (without about at)
at_without old new about at h session_is line_is events_are left_is =
    record {
      trace = h.trace;
      stands = subst (λ s. Stands s h.trace) (sym session_is) h.stands;
      line = h.line ∙ sym line_is;
      left = ap (shift_remove_entry (same_key (key_of about))) h.left ∙ sym left_is;
      more = h.more ∙ ap (λ es. rows_after h.trace es.now) (sym events_are);
      used = h.used;
      untaken = h.untaken;
      count = h.count;
      read = subst (λ es. AreRead h.used es.now) (sym events_are) h.read;
    }

-- ---- how a way ended

-- it came to a row
pub record Came (rows : Rows) (a : Arrival) : Type 0 where
  pub at : At
  pub is : a ≡ Comes at
  pub stands : IsAt rows at

pub came : (rows : Rows) (a : Arrival) (found : Option Difference) → HasArrived rows a found → found ≡ None → Came rows a
came rows (Comes at) found h is = record { at = at; is = refl; stands = h.1 }
came rows (Lacks missing) found h is = absurd (cc)

-- ---- a line

other_by : (b : Bool) (P Q : Type 0) → b ≡ false → Q → ByBlank b P Q
other_by false P Q is h = h
other_by true P Q is h = absurd (cc)

blank_by : (b : Bool) (P Q : Type 0) → b ≡ true → P → ByBlank b P Q
blank_by true P Q is h = h
blank_by false P Q is h = absurd (cc)

pub blank_on : (number : ℕ) (line : List ℕ) (at : At) → is_blank line ≡ true → GoesOn number line at at
blank_on number line at is = λ lines d h.
    blank_by (is_blank line) (Leaves at (suc number) lines d)
    (SaysLine (λ n. Leaves n (suc number) lines d) number at (record_of line) d) is h

-- what a line that is not blank says
says : (number : ℕ) (line : List ℕ) (at : At) (lines : List (List ℕ)) (r : Option Record) (d : Option Difference) → is_blank line ≡ false
    → record_of line ≡ r → SaysLine (λ n. Leaves n (suc number) lines d) number at r d → Leaves at number (line ∷ lines) d
says number line at lines r d stands is h =
    other_by (is_blank line) (Leaves at (suc number) lines d)
    (SaysLine (λ n. Leaves n (suc number) lines d) number at (record_of line) d) stands
    (subst (λ r. SaysLine (λ n. Leaves n (suc number) lines d) number at r d) (sym is) h)

pub unread_stops : (number : ℕ) (line : List ℕ) (at : At) (d : Difference) → is_blank line ≡ false → record_of line ≡ None
    → d ≡ found_of number None (bare aspects.Record) → StopsHere number line at d
unread_stops number line at d stands none is = λ lines. says number line at lines None (Some d) stands none (ap Some is)

pub passes_other : (number : ℕ) (line : List ℕ) (at : At) (said : Record) → is_blank line ≡ false → record_of line ≡ Some said
    → about_said said ≡ None → GoesOn number line at at
passes_other number line at said stands is other = λ lines d leaves.
    says number line at lines (Some said) d stands is
    (subst (λ a. IfAbout (λ n. Leaves n (suc number) lines d) at said (line_of said) a d) (sym other)
    (by_line lines d (line_of said) leaves))
  where
    by_line : (lines : List (List ℕ)) (d : Option Difference) (l : Option ℕ) → Leaves at (suc number) lines d
        → IfAbout (λ n. Leaves n (suc number) lines d) at said l None d
    by_line lines d (Some place) leaves = leaves
    by_line lines d None leaves = leaves

pub other_is_none : (said : Record) → about_said said ≡ None → is_request (Some said) ≡ false
other_is_none (records.Request line call provider kind bytes) is = absurd (cc)
other_is_none (records.Token line call provider token page auto) is = refl
other_is_none (records.Answer line call) is = refl
other_is_none (records.Other line) is = refl
other_is_none records.End is = refl

-- a record about this comes from its line
pub record Says (line : List ℕ) (said : Record) (place : ℕ) (about : About) : Type 0 where
  pub stands : is_blank line ≡ false
  pub is : record_of line ≡ Some said
  pub line_is : line_of said ≡ Some place
  pub about_is : about_said said ≡ Some about

-- it comes to its row so
says_about : (number : ℕ) (line : List ℕ) (at : At) (said : Record) (place : ℕ) (about : About) (a : Arrival) (lines : List (List ℕ))
    (d : Option Difference) → Says line said place about → arrive place at.line at.left at.rows ≡ a
    → Arrives (λ n. Leaves n (suc number) lines d) said place about a d → Leaves at number (line ∷ lines) d
says_about number line at said place about a lines d s arrival h =
    says number line at lines (Some said) d s.stands s.is
    (subst (λ l. IfAbout (λ n. Leaves n (suc number) lines d) at said l (about_said said) d) (sym s.line_is)
    (subst (λ b. IfAbout (λ n. Leaves n (suc number) lines d) at said (Some place) b d) (sym s.about_is)
    (subst (λ x. Arrives (λ n. Leaves n (suc number) lines d) said place about x d) (sym arrival) h)))

pub met_stops : (number : ℕ) (line : List ℕ) (at here : At) (said : Record) (place : ℕ) (about : About) (d : Difference)
    → Says line said place about → arrive place at.line at.left at.rows ≡ Comes here → MeetsNot said place about here d
    → StopsHere number line at d
met_stops number line at here said place about d s comes h = λ lines.
    says_about number line at said place about (Comes here) lines (Some d) s comes (h (suc number) lines)

pub met_on : (number : ℕ) (line : List ℕ) (at here next : At) (said : Record) (place : ℕ) (about : About)
    → Says line said place about → arrive place at.line at.left at.rows ≡ Comes here → MeetsAnd said place about here next
    → GoesOn number line at next
met_on number line at here next said place about s comes h = λ lines d leaves.
    says_about number line at said place about (Comes here) lines d s comes (h (suc number) lines d leaves)
