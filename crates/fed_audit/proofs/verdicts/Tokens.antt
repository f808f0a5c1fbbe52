-- Which clause a token fails first.
use Rattle.std.proofs.Common.{◌≡◌, ℕ, suc, ◌<◌, ◌≤◌, ◌&&◌, ◌||◌, Bool, true, false, nat_lt, List, [], ◌∷◌, length, Option, Some, None, refl}
use Rattle.std.proofs.Common.{sym, ap, ap₂, ◌∙◌, arith, cond}
use Rattle.std.proofs.lemmas.Bool.Decides.{nat_tests}
use Rattle.std.proofs.lemmas.Slice.Eq.{bytes_eq-Decides}
use Rattle.std.specs.Prelude.{is_some, not, Result, Ok, Err}
use Rattle.std.specs.List.{list_any}
use Rattle.fed_origin.specs.declared.origin.Origin.{Origin}
use Rattle.fed_origin.specs.declared.stage.ReplyKind.TheVariants as kinds
use Rattle.fed_origin.specs.Origin.{origin_text}
use Rattle.fed_script.specs.declared.event.Event.{Event}
use Rattle.fed_script.specs.declared.event.Event.TheVariants as events
use Rattle.fed_script.specs.declared.event.Event.TheVariants.{Reply}
use Rattle.fed_token.specs.declared.step.TokenStep.{TokenStep}
use Rattle.fed_token.specs.Read.{AssertionOf}
use Rattle.fed_trace.specs.Begun.{Begun}
use Rattle.fed_trace.specs.Effect.{begins, last_of}
use Rattle.fed_trace.specs.OfCall.{replaces}
use Rattle.fed_trace.specs.Trace.{Row}
use Rattle.fed_audit.specs.declared.fault.AuditClause.{AuditClause}
use Rattle.fed_audit.specs.declared.fault.AuditClause.TheVariants as clauses
use Rattle.fed_audit.specs.declared.record.Record.TheVariants.{Token}
use Rattle.fed_audit.specs.Clauses.{Meets, FailsFirst, HasProvider, place}
use Rattle.fed_audit.specs.Follow.{is_place, row_begun, row_replaced}
use Rattle.fed_audit.specs.Found.{is_read, is_reply, has_token, reply_in}
use Rattle.fed_audit.specs.Record.{is_result_of}
use Rattle.fed_audit.specs.Scene.{Scene, Began}
use Rattle.fed_audit.specs.Token.{IsGiven, is_replaced, rows_since}

-- ---- the clauses

met : (s : Scene) (line call provider : ℕ) (token : List ℕ) (page : Option ℕ) (auto : Option Bool) (n : ℕ) → HasProvider s call provider
    → n ≤ 6
    → (c : AuditClause) → place c < n → Meets c s (Token line call provider token page auto)
met s line call provider token page auto n has few clauses.Record h = tt
met s line call provider token page auto n has few clauses.Call h = has
met s line call provider token page auto n has few clauses.Head h = tt
met s line call provider token page auto n has few clauses.Origin h = tt
met s line call provider token page auto n has few clauses.Cookie h = tt
met s line call provider token page auto n has few clauses.Consent h = tt
met s line call provider token page auto n has few clauses.Token h = absurd (omega (arith, few, h))

only_record : (s : Scene) (line call provider : ℕ) (token : List ℕ) (page : Option ℕ) (auto : Option Bool) → (c : AuditClause) → place c < 1
    → Meets c s (Token line call provider token page auto)
only_record s line call provider token page auto clauses.Record h = tt
only_record s line call provider token page auto clauses.Call h = absurd (omega (arith, h))
only_record s line call provider token page auto clauses.Head h = tt
only_record s line call provider token page auto clauses.Origin h = tt
only_record s line call provider token page auto clauses.Cookie h = tt
only_record s line call provider token page auto clauses.Consent h = tt
only_record s line call provider token page auto clauses.Token h = absurd (omega (arith, h))

pub fails_call : (s : Scene) (line call provider : ℕ) (token : List ℕ) (page : Option ℕ) (auto : Option Bool)
    → (HasProvider s call provider → ⊥)
    → FailsFirst clauses.Call s (Token line call provider token page auto)
fails_call s line call provider token page auto lacks = record { before = only_record s line call provider token page auto; fails = lacks }

pub fails_token : (s : Scene) (line call provider : ℕ) (token : List ℕ) (page : Option ℕ) (auto : Option Bool) → HasProvider s call provider
    → (IsGiven s call provider token → ⊥) → FailsFirst clauses.Token s (Token line call provider token page auto)
fails_token s line call provider token page auto has lacks =
    record { before = met s line call provider token page auto 6 has (omega arith); fails = lacks }

pub passes_token : (s : Scene) (line call provider : ℕ) (token : List ℕ) (page : Option ℕ) (auto : Option Bool)
    → HasProvider s call provider → IsGiven s call provider token
    → (c : AuditClause) → Meets c s (Token line call provider token page auto)
passes_token s line call provider token page auto has given clauses.Record = tt
passes_token s line call provider token page auto has given clauses.Call = has
passes_token s line call provider token page auto has given clauses.Head = tt
passes_token s line call provider token page auto has given clauses.Origin = tt
passes_token s line call provider token page auto has given clauses.Cookie = tt
passes_token s line call provider token page auto has given clauses.Consent = tt
passes_token s line call provider token page auto has given clauses.Token = given

-- ---- the page since the call began

few_begun : (call : ℕ) (rows : List Row) → row_begun call rows ≤ length rows
few_begun call [] = omega arith
few_begun call (row ∷ rows) = go (is_some (last_of (begins call) row.effects)) (few_begun call rows)
  where
    go : (b : Bool) → row_begun call rows ≤ length rows → cond b (suc (length rows)) (row_begun call rows) ≤ suc (length rows)
    go true h = omega arith
    go false h = omega (arith, h)

few_replaced : (page : ℕ) (rows : List Row) → row_replaced page rows ≤ length rows
few_replaced page [] = omega arith
few_replaced page (row ∷ rows) = go (replaces page row.event) (few_replaced page rows)
  where
    go : (b : Bool) → row_replaced page rows ≤ length rows → cond b (suc (length rows)) (row_replaced page rows) ≤ suc (length rows)
    go true h = omega arith
    go false h = omega (arith, h)

since_is : (call page : ℕ) (row : Row) (rows : List Row) (b : Bool)
    → list_any (λ row. replaces page row.event) (cond b [] (row ∷ rows_since call rows))
    ≡ cond b false (replaces page row.event || is_replaced call page rows)
since_is call page row rows true = refl
since_is call page row rows false = refl

step_is : (b r old : Bool) (n begun replaced : ℕ) → old ≡ nat_lt begun replaced → begun ≤ n → replaced ≤ n
    → cond b false (r || old) ≡ nat_lt (cond b (suc n) begun) (cond r (suc n) replaced)
step_is true true old n begun replaced h f g = grind (arith, nat_tests)
step_is true false old n begun replaced h f g = grind (arith, nat_tests, g)
step_is false true old n begun replaced h f g = grind (arith, nat_tests, f)
step_is false false old n begun replaced h f g = h

pub replaced_is : (call page : ℕ) (rows : List Row) → is_replaced call page rows ≡ nat_lt (row_begun call rows) (row_replaced page rows)
replaced_is call page [] = refl
replaced_is call page (row ∷ rows) =
    since_is call page row rows (is_some (last_of (begins call) row.effects))
    ∙ step_is (is_some (last_of (begins call) row.effects)) (replaces page row.event) (is_replaced call page rows) (length rows)
    (row_begun call rows) (row_replaced page rows) (replaced_is call page rows) (few_begun call rows) (few_replaced page rows)

-- ---- the reply

-- the event is the reply with the token
record IsReply (event : Event) (call provider : ℕ) (page : Origin) (token : List ℕ) : Type 0 where
  raw : List ℕ
  is : event ≡ Reply call provider kinds.Assertion raw
  reads : AssertionOf raw (origin_text page) ≡ Ok token

read_is : (r : Result (List ℕ) TokenStep) (token : List ℕ) → is_read r token ≡ true → r ≡ Ok token
read_is (Ok read) token h = ap Ok ((bytes_eq-Decides read token).0 h)
read_is (Err step) token h = absurd (cc)

-- the bytes of a reply for a token that an event brings
reply_is : (event : Event) (call provider : ℕ) (raw : List ℕ) → reply_in call provider event ≡ Some raw
    → event ≡ Reply call provider kinds.Assertion raw
reply_is (Reply c p kinds.Assertion bytes) call provider raw h = grind (arith, nat_tests, h)
reply_is (Reply c p kinds.WellKnown bytes) call provider raw h = absurd (cc)
reply_is (Reply c p kinds.Config bytes) call provider raw h = absurd (cc)
reply_is (Reply c p kinds.Accounts bytes) call provider raw h = absurd (cc)
reply_is (Reply c p kinds.Metadata bytes) call provider raw h = absurd (cc)
reply_is (Reply c p kinds.Disconnect bytes) call provider raw h = absurd (cc)
reply_is (events.Have have) call provider raw h = absurd (cc)
reply_is (events.At time) call provider raw h = absurd (cc)
reply_is (events.Load page url bytes) call provider raw h = absurd (cc)
reply_is (events.ClosePage page) call provider raw h = absurd (cc)
reply_is (events.Get page c options) call provider raw h = absurd (cc)
reply_is (events.Abort c) call provider raw h = absurd (cc)
reply_is (events.GoOn c) call provider raw h = absurd (cc)
reply_is (events.Cancel c) call provider raw h = absurd (cc)
reply_is (events.SignIn c) call provider raw h = absurd (cc)
reply_is (events.ShutWindow c) call provider raw h = absurd (cc)
reply_is (events.Choose c p account) call provider raw h = absurd (cc)
reply_is (events.IdpClose page) call provider raw h = absurd (cc)
reply_is (events.Prevent page) call provider raw h = absurd (cc)
reply_is (events.SetStatus page status) call provider raw h = absurd (cc)
reply_is (events.Disconnect page c config client hint) call provider raw h = absurd (cc)

told_reply : (event : Event) (call provider : ℕ) (page : Origin) (token : List ℕ) → is_reply call provider event page token ≡ true
    → IsReply event call provider page token
told_reply event call provider page token h = go (reply_in call provider event) refl h
  where
    go : (o : Option (List ℕ)) → reply_in call provider event ≡ o → has_token o page token ≡ true
        → IsReply event call provider page token
    go None is h = absurd (cc)
    go (Some raw) is h =
        record {
          raw = raw;
          is = reply_is event call provider raw is;
          reads = read_is (AssertionOf raw (origin_text page)) token h;
        }

own_reply : (call provider : ℕ) (raw : List ℕ) → reply_in call provider (Reply call provider kinds.Assertion raw) ≡ Some raw
own_reply call provider raw = grind (arith, nat_tests)

reply_told : (event : Event) (call provider : ℕ) (page : Origin) (token raw : List ℕ) → event ≡ Reply call provider kinds.Assertion raw
    → AssertionOf raw (origin_text page) ≡ Ok token → is_reply call provider event page token ≡ true
reply_told event call provider page token raw is reads =
    ap (λ o. has_token o page token) (ap (reply_in call provider) is ∙ own_reply call provider raw)
    ∙ (ap (λ r. is_read r token) reads ∙ (bytes_eq-Decides token token).1 refl)

-- ---- together

and_left : (a b : Bool) → a && b ≡ true → a ≡ true
and_left true b h = refl
and_left false b h = h

and_right : (a b : Bool) → a && b ≡ true → b ≡ true
and_right true b h = h
and_right false b h = absurd (cc)

not_true : (b : Bool) → not b ≡ true → b ≡ false
not_true true h = sym h
not_true false h = refl

-- what is found of a token
abbrev pub gives : Bool → Bool → Bool → Bool → Bool
gives asked answered replaced reply = asked && (not answered && (not replaced && reply))

pub record FoundToken (s : Scene) (call provider : ℕ) (token : List ℕ) (asked answered replaced reply : Bool) : Type 0 where
  pub begun : Begun
  pub began : Began s call begun
  pub asked_is : asked ≡ list_any (is_place call provider) s.earlier
  pub answered_is : answered ≡ list_any (is_result_of call) s.earlier
  pub replaced_is : replaced ≡ is_replaced call begun.page (s.row ∷ s.before)
  pub reply_is : reply ≡ is_reply call provider s.row.event begun.origin token

pub given : (s : Scene) (call provider : ℕ) (token : List ℕ) (asked answered replaced reply : Bool)
    → FoundToken s call provider token asked answered replaced reply → gives asked answered replaced reply ≡ true
    → IsGiven s call provider token
given s call provider token asked answered replaced reply f h =
    let rest = and_right asked (not answered && (not replaced && reply)) h in
    let more = and_right (not answered) (not replaced && reply) rest in
    let r = told_reply s.row.event call provider f.begun.origin token (sym f.reply_is ∙ and_right (not replaced) reply more) in
    record {
      begun = f.begun;
      began = f.began;
      raw = r.raw;
      is_reply = r.is;
      reads = r.reads;
      asked = sym f.asked_is ∙ and_left asked (not answered && (not replaced && reply)) h;
      first = sym f.answered_is ∙ not_true answered (and_left (not answered) (not replaced && reply) rest);
      stands = sym f.replaced_is ∙ not_true replaced (and_left (not replaced) reply more);
    }

pub not_given : (s : Scene) (call provider : ℕ) (token : List ℕ) (asked answered replaced reply : Bool)
    → FoundToken s call provider token asked answered replaced reply → gives asked answered replaced reply ≡ false
    → IsGiven s call provider token → ⊥
not_given s call provider token asked answered replaced reply f h g =
    let both : Some g.begun ≡ Some f.begun = sym g.began ∙ f.began in
    let same : g.begun ≡ f.begun = cc in
    let reply_is : reply ≡ true =
    f.reply_is ∙ reply_told s.row.event call provider f.begun.origin token g.raw g.is_reply
    (ap (λ (b : Begun). AssertionOf g.raw (origin_text b.origin)) (sym same) ∙ g.reads) in
    let replaced_is : replaced ≡ false =
    f.replaced_is ∙ (ap (λ (b : Begun). is_replaced call b.page (s.row ∷ s.before)) (sym same) ∙ g.stands) in
    let answered_is : answered ≡ false = f.answered_is ∙ g.first in
    let asked_is : asked ≡ true = f.asked_is ∙ g.asked in
    let never : true ≡ false =
    sym (ap₂ (λ x y. x && y) asked_is (ap₂ (λ x y. not x && y) answered_is (ap₂ (λ x y. not x && y) replaced_is reply_is))) ∙ h in
    absurd (cc)
