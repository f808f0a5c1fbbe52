-- A record is judged, and what is kept is that of it too where it passes.
use Rattle.std.proofs.Common.{◌≡◌, ℕ, ◌<◌, Bool, true, false, List, ◌∷◌, Option, Some, None, refl, sym, ap, subst, ◌∙◌, arith}
use Rattle.std.specs.Prelude.{is_some, not, option_map}
use Rattle.fed_origin.specs.declared.stage.ReplyKind.{ReplyKind}
use Rattle.fed_origin.specs.declared.stage.ReplyKind.TheVariants as kinds
use Rattle.fed_trace.specs.Begun.{Begun}
use Rattle.fed_trace.specs.OfCall.{call_at}
use Rattle.fed_audit.specs.declared.fault.AuditClause.{AuditClause}
use Rattle.fed_audit.specs.declared.fault.AuditClause.TheVariants as clauses
use Rattle.fed_audit.specs.declared.record.Record.{Record}
use Rattle.fed_audit.specs.declared.record.Record.TheVariants.{Request, Token, Answer}
use Rattle.fed_audit.specs.declared.seen.Seen.{Seen}
use Rattle.fed_audit.specs.Clauses.{Meets, HasBegun, place}
use Rattle.fed_audit.specs.Follow.{Notes, asked_with, answered_with, call_kept, last_place}
use Rattle.fed_audit.specs.Found.{IsFirst}
use Rattle.fed_audit.specs.Scene.{Scene}
use Rattle.fed_audit.proofs.consents.Consents.{is_first}
use Rattle.fed_audit.proofs.follows.Notes.{notes_same, notes_result, notes_request}

-- the record is judged so, and what is kept then is that of it too where it passes
abbrev pub Judged : Scene → Record → Option AuditClause → Seen → Type 0
Judged s r fault seen = IsFirst s r fault × (fault ≡ None → Notes seen (r ∷ s.earlier))

pub judged_fault : (s : Scene) (r : Record) (fault : Option AuditClause) (seen : Seen) (b : Bool) → IsFirst s r fault
    → is_some fault ≡ not b → b ≡ false → Judged s r fault seen
judged_fault s r fault seen b first is over = (
  first,
  λ none. let never : false ≡ true = sym (ap is_some none) ∙ (is ∙ ap not over) in absurd (cc),
)

-- ---- requests

request_notes : (s : Scene) (line call provider : ℕ) (kind : ReplyKind) (bytes : List ℕ) (seen : Seen)
    → ((c : AuditClause) → Meets c s (Request line call provider kind bytes)) → Notes seen s.earlier
    → Notes (record seen { asked = asked_with kind call provider seen.asked }) (Request line call provider kind bytes ∷ s.earlier)
request_notes s line call provider kinds.Assertion bytes seen meets n =
    notes_request seen line call provider bytes s.earlier
    (sym (is_first s call (last_place call s.earlier) refl) ∙ (meets clauses.Consent).1.first) n
request_notes s line call provider kinds.WellKnown bytes seen meets n = notes_same seen _ s.earlier (λ q. refl) (λ q. refl) n
request_notes s line call provider kinds.Config bytes seen meets n = notes_same seen _ s.earlier (λ q. refl) (λ q. refl) n
request_notes s line call provider kinds.Accounts bytes seen meets n = notes_same seen _ s.earlier (λ q. refl) (λ q. refl) n
request_notes s line call provider kinds.Metadata bytes seen meets n = notes_same seen _ s.earlier (λ q. refl) (λ q. refl) n
request_notes s line call provider kinds.Disconnect bytes seen meets n = notes_same seen _ s.earlier (λ q. refl) (λ q. refl) n

pub judged_request : (s : Scene) (line call provider : ℕ) (kind : ReplyKind) (bytes : List ℕ) (fault : Option AuditClause) (seen new : Seen)
    → IsFirst s (Request line call provider kind bytes) fault → Notes seen s.earlier
    → new ≡ record seen { asked = new.asked } → new.asked ≡ asked_with kind call provider seen.asked
    → Judged s (Request line call provider kind bytes) fault new
judged_request s line call provider kind bytes fault seen new first n frame is = (
  first,
  λ none.
      let whole : new ≡ record seen { asked = asked_with kind call provider seen.asked } =
      frame ∙ ap (λ (xs : List (ℕ × ℕ)). let x : Seen = record seen { asked = xs } in x) is in
      subst (λ (x : Seen). Notes x (Request line call provider kind bytes ∷ s.earlier)) (sym whole)
      (request_notes s line call provider kind bytes seen
      (subst (IsFirst s (Request line call provider kind bytes)) none first) n),
)

-- ---- results

pub judged_token : (s : Scene) (line call provider : ℕ) (token : List ℕ) (page : Option ℕ) (auto : Option Bool) (fault : Option AuditClause)
    (seen new : Seen)
    → IsFirst s (Token line call provider token page auto) fault → Notes seen s.earlier
    → new ≡ record seen { answered = new.answered } → new.answered ≡ answered_with call seen.answered
    → Judged s (Token line call provider token page auto) fault new
judged_token s line call provider token page auto fault seen new first n frame is = (
  first,
  λ none.
      let whole : new ≡ record seen { answered = answered_with call seen.answered } =
      frame ∙ ap (λ (xs : List ℕ). let x : Seen = record seen { answered = xs } in x) is in
      subst (λ (x : Seen). Notes x (Token line call provider token page auto ∷ s.earlier)) (sym whole)
      (notes_result seen (Token line call provider token page auto) call s.earlier (λ q. refl) (λ q. refl) n),
)

only_record : (s : Scene) (line call : ℕ) → (c : AuditClause) → place c < 1 → Meets c s (Answer line call)
only_record s line call clauses.Record h = tt
only_record s line call clauses.Call h = absurd (omega (arith, h))
only_record s line call clauses.Head h = tt
only_record s line call clauses.Origin h = tt
only_record s line call clauses.Cookie h = tt
only_record s line call clauses.Consent h = tt
only_record s line call clauses.Token h = tt

meets_answer : (s : Scene) (line call : ℕ) → HasBegun s call → (c : AuditClause) → Meets c s (Answer line call)
meets_answer s line call has clauses.Record = tt
meets_answer s line call has clauses.Call = has
meets_answer s line call has clauses.Head = tt
meets_answer s line call has clauses.Origin = tt
meets_answer s line call has clauses.Cookie = tt
meets_answer s line call has clauses.Consent = tt
meets_answer s line call has clauses.Token = tt

-- a call of which something is kept began
begun_or : (s : Scene) (call : ℕ) (b : Bool) (o : Option Begun) → call_at (s.row ∷ s.before) call ≡ o
    → b ≡ is_some (option_map (call_kept call (s.row ∷ s.before)) o) → b ≡ true → HasBegun s call
begun_or s call b (Some begun) at is h = (begun, at)
begun_or s call b None at is h = let never : false ≡ true = sym is ∙ h in absurd (cc)

pub judged_answer : (s : Scene) (line call : ℕ) (seen new : Seen) (b : Bool) → Notes seen s.earlier
    → new ≡ record seen { answered = new.answered } → new.answered ≡ answered_with call seen.answered
    → b ≡ is_some (option_map (call_kept call (s.row ∷ s.before)) (call_at (s.row ∷ s.before) call)) → b ≡ true
    → Judged s (Answer line call) None new
judged_answer s line call seen new b n frame is kept h = (
  meets_answer s line call (begun_or s call b (call_at (s.row ∷ s.before) call) refl kept h),
  λ none.
      let whole : new ≡ record seen { answered = answered_with call seen.answered } =
      frame ∙ ap (λ (xs : List ℕ). let x : Seen = record seen { answered = xs } in x) is in
      subst (λ (x : Seen). Notes x (Answer line call ∷ s.earlier)) (sym whole)
      (notes_result seen (Answer line call) call s.earlier (λ q. refl) (λ q. refl) n),
)

pub judged_unbegun : (s : Scene) (line call : ℕ) (seen : Seen) (b : Bool)
    → b ≡ is_some (option_map (call_kept call (s.row ∷ s.before)) (call_at (s.row ∷ s.before) call)) → b ≡ false
    → Judged s (Answer line call) (Some clauses.Call) seen
judged_unbegun s line call seen b kept h = (
  record {
    before = only_record s line call;
    fails = λ has.
        let never : true ≡ false =
        sym (ap (λ o. is_some (option_map (call_kept call (s.row ∷ s.before)) o)) has.1) ∙ (sym kept ∙ h) in
        absurd (cc);
  },
  λ none. absurd (cc),
)
