-- Which clause a request fails first.
use Rattle.std.proofs.Common.{◌≡◌, ℕ, ◌<◌, ◌≤◌, Bool, true, false, List, Option, Some, None, refl, sym, ap, subst, ◌∙◌, arith, cond}
use Rattle.std.specs.Prelude.{is_some, option_map}
use Rattle.httparse.proofs.GrammarLemmas.{request_unique}
use Rattle.url.specs.Parts.{Parts}
use Rattle.fed_origin.specs.declared.stage.ReplyKind.{ReplyKind}
use Rattle.fed_origin.specs.declared.stage.ReplyKind.TheVariants as kinds
use Rattle.fed_head.specs.Section.{FieldPair}
use Rattle.fed_origin.specs.declared.origin.Origin.{Origin}
use Rattle.fed_trace.specs.Begun.{Begun}
use Rattle.fed_trace.specs.Trace.{Row}
use Rattle.fed_audit.specs.declared.seen.Call.{Call}
use Rattle.fed_audit.specs.Follow.{call_kept}
use Rattle.fed_audit.specs.declared.fault.AuditClause.{AuditClause}
use Rattle.fed_audit.specs.declared.fault.AuditClause.TheVariants as clauses
use Rattle.fed_audit.specs.declared.record.Record.TheVariants.{Request}
use Rattle.fed_audit.specs.Clauses.{Meets, FailsFirst, HasProvider, HasHead, HasOrigin, HasCookies, MayAsk, IfAssertion, place}
use Rattle.fed_audit.specs.Consent.{HasConsent}
use Rattle.fed_audit.specs.Found.{IsFirst, IsTest, asks_token, has_cookies, head_fault}
use Rattle.fed_audit.specs.Front.{Front, FrontWithin, fields_of, url_by, url_of, names_page}
use Rattle.fed_audit.specs.Scene.{Scene, Began, provider_count, trace_through}

-- ---- the clauses before one

record Before (s : Scene) (line call provider : ℕ) (kind : ReplyKind) (bytes : List ℕ) (n : ℕ) : Type 0 where
  begins : 1 < n → HasProvider s call provider
  head : 2 < n → HasHead kind bytes
  origin : 3 < n → HasOrigin s call kind bytes
  cookie : 4 < n → HasCookies s kind bytes
  consent : 5 < n → IfAssertion kind (MayAsk s call provider bytes)

met : (s : Scene) (line call provider : ℕ) (kind : ReplyKind) (bytes : List ℕ) (n : ℕ) → Before s line call provider kind bytes n
    → (c : AuditClause) → place c < n → Meets c s (Request line call provider kind bytes)
met s line call provider kind bytes n b clauses.Record h = tt
met s line call provider kind bytes n b clauses.Call h = b.begins h
met s line call provider kind bytes n b clauses.Head h = b.head h
met s line call provider kind bytes n b clauses.Origin h = b.origin h
met s line call provider kind bytes n b clauses.Cookie h = b.cookie h
met s line call provider kind bytes n b clauses.Consent h = b.consent h
met s line call provider kind bytes n b clauses.Token h = tt

never : {A : Type 0} (a b : ℕ) → b ≤ a → a < b → A
never a b h k = absurd (omega (arith, h, k))

-- ---- a call that did not begin, or has no such provider

pub fails_call : (s : Scene) (line call provider : ℕ) (kind : ReplyKind) (bytes : List ℕ) → (HasProvider s call provider → ⊥)
    → FailsFirst clauses.Call s (Request line call provider kind bytes)
fails_call s line call provider kind bytes lacks =
    record {
      before = met s line call provider kind bytes 1
          (record {
            begins = never 1 1 (omega arith);
            head = never 2 1 (omega arith);
            origin = never 3 1 (omega arith);
            cookie = never 4 1 (omega arith);
            consent = never 5 1 (omega arith);
          });
      fails = lacks;
    }

pub fails_head : (s : Scene) (line call provider : ℕ) (kind : ReplyKind) (bytes : List ℕ) → HasProvider s call provider
    → (HasHead kind bytes → ⊥) → FailsFirst clauses.Head s (Request line call provider kind bytes)
fails_head s line call provider kind bytes has lacks =
    record {
      before = met s line call provider kind bytes 2
          (record {
            begins = λ h. has;
            head = never 2 2 (omega arith);
            origin = never 3 2 (omega arith);
            cookie = never 4 2 (omega arith);
            consent = never 5 2 (omega arith);
          });
      fails = lacks;
    }

-- ---- one head

-- two heads of the same bytes are one
pub record SameFront (bytes : List ℕ) (f g : Front bytes) : Type 0 where
  pub head : f.head ≡ g.head
  pub body : f.body ≡ g.body

pub same_front : (bytes : List ℕ) (f g : Front bytes) → SameFront bytes f g
same_front bytes f g =
    let same = request_unique bytes f.head g.head f.body g.body f.reads g.reads in record { head = same.0; body = same.1 }

-- a request whose call began so, and whose head is this
pub record Read (s : Scene) (call provider : ℕ) (kind : ReplyKind) (bytes : List ℕ) : Type 0 where
  pub begun : Begun
  pub began : Began s call begun
  pub has : provider < provider_count begun.options
  pub front : Front bytes

-- what is found of the head
abbrev found_of : (s : Scene) (call provider : ℕ) (kind : ReplyKind) (bytes : List ℕ) → Read s call provider kind bytes → Option Parts
    → Option AuditClause
found_of s call provider kind bytes r url =
    head_fault (trace_through s) kind r.begun.origin url (fields_of r.front.head)

provided : (s : Scene) (call provider : ℕ) (kind : ReplyKind) (bytes : List ℕ) → Read s call provider kind bytes
    → HasProvider s call provider
provided s call provider kind bytes r = (r.begun, r.began, r.has)

same_begun : (s : Scene) (call provider : ℕ) (kind : ReplyKind) (bytes : List ℕ) → (r : Read s call provider kind bytes) → (b : Begun)
    → Began s call b → b ≡ r.begun
same_begun s call provider kind bytes r b began = let both : Some b ≡ Some r.begun = sym began ∙ r.began in cc

-- the head goes to no URL
no_url : (s : Scene) (line call provider : ℕ) (kind : ReplyKind) (bytes : List ℕ) → (r : Read s call provider kind bytes)
    → url_of kind r.front.head ≡ None → FailsFirst clauses.Head s (Request line call provider kind bytes)
no_url s line call provider kind bytes r none =
    fails_head s line call provider kind bytes (provided s call provider kind bytes r)
    (λ has.
    let same = same_front bytes has.0 r.front in
    let no : None ≡ Some has.1 = sym none ∙ (sym (ap (url_of kind) same.head) ∙ has.2) in
    absurd (cc))

-- it goes to one, and does not name the page as it should
no_origin : (s : Scene) (line call provider : ℕ) (kind : ReplyKind) (bytes : List ℕ) → (r : Read s call provider kind bytes) → (url : Parts)
    → url_of kind r.front.head ≡ Some url → names_page kind r.begun.origin (fields_of r.front.head) ≡ false
    → FailsFirst clauses.Origin s (Request line call provider kind bytes)
no_origin s line call provider kind bytes r url to names =
    record {
      before = met s line call provider kind bytes 3
          (record {
            begins = λ h. provided s call provider kind bytes r;
            head = λ h. (r.front, url, to);
            origin = never 3 3 (omega arith);
            cookie = never 4 3 (omega arith);
            consent = never 5 3 (omega arith);
          });
      fails = λ has.
          let same = same_front bytes has.0 r.front in
          let no : true ≡ false =
          sym has.3
          ∙ (ap (λ (b : Begun). names_page kind b.origin (fields_of has.0.head)) (same_begun s call provider kind bytes r has.1 has.2)
          ∙ (ap (λ h. names_page kind r.begun.origin (fields_of h)) same.head ∙ names)) in
          absurd (cc);
    }

-- it names the page as it should, and has other cookies
no_cookies : (s : Scene) (line call provider : ℕ) (kind : ReplyKind) (bytes : List ℕ) → (r : Read s call provider kind bytes)
    → (url : Parts)
    → url_of kind r.front.head ≡ Some url → names_page kind r.begun.origin (fields_of r.front.head) ≡ true
    → has_cookies (trace_through s) kind url (fields_of r.front.head) ≡ false
    → FailsFirst clauses.Cookie s (Request line call provider kind bytes)
no_cookies s line call provider kind bytes r url to names cookies =
    record {
      before = met s line call provider kind bytes 4
          (record {
            begins = λ h. provided s call provider kind bytes r;
            head = λ h. (r.front, url, to);
            origin = λ h. (r.front, r.begun, r.began, names);
            cookie = never 4 4 (omega arith);
            consent = never 5 4 (omega arith);
          });
      fails = λ has.
          let same = same_front bytes has.0 r.front in
          let both : Some has.1 ≡ Some url = sym has.2 ∙ (ap (url_of kind) same.head ∙ to) in
          let url_is : has.1 ≡ url = cc in
          let no : true ≡ false =
          sym has.3
          ∙ (ap (λ u. has_cookies (trace_through s) kind u (fields_of has.0.head)) url_is
          ∙ (ap (λ h. has_cookies (trace_through s) kind url (fields_of h)) same.head ∙ cookies)) in
          absurd (cc);
    }

-- the head is as it should be
pub record Good (s : Scene) (call provider : ℕ) (kind : ReplyKind) (bytes : List ℕ) (r : Read s call provider kind bytes) : Type 0 where
  pub url : Parts
  pub to : url_of kind r.front.head ≡ Some url
  pub names : names_page kind r.begun.origin (fields_of r.front.head) ≡ true
  pub cookies : has_cookies (trace_through s) kind url (fields_of r.front.head) ≡ true

-- what the head comes to
pub Comes : (s : Scene) (line call provider : ℕ) (kind : ReplyKind) (bytes : List ℕ) → Read s call provider kind bytes → Option AuditClause
    → Type 0
Comes s line call provider kind bytes r None = Good s call provider kind bytes r
Comes s line call provider kind bytes r (Some clause) = FailsFirst clause s (Request line call provider kind bytes)

comes : (s : Scene) (line call provider : ℕ) (kind : ReplyKind) (bytes : List ℕ) → (r : Read s call provider kind bytes)
    → (fault : Option AuditClause)
    → fault ≡ found_of s call provider kind bytes r (url_of kind r.front.head) → Comes s line call provider kind bytes r fault
unfolding Comes
comes s line call provider kind bytes r fault is =
    subst (Comes s line call provider kind bytes r) (sym is) (by_url (url_of kind r.front.head) refl)
  where
    by_cookies : (url : Parts) (b : Bool) → url_of kind r.front.head ≡ Some url
        → names_page kind r.begun.origin (fields_of r.front.head) ≡ true
        → has_cookies (trace_through s) kind url (fields_of r.front.head) ≡ b
        → Comes s line call provider kind bytes r (cond b None (Some clauses.Cookie))
    by_cookies url true to names cookies = record { url = url; to = to; names = names; cookies = cookies }
    by_cookies url false to names cookies = no_cookies s line call provider kind bytes r url to names cookies

    by_names : (url : Parts) (b : Bool) → url_of kind r.front.head ≡ Some url
        → names_page kind r.begun.origin (fields_of r.front.head) ≡ b
        → Comes s line call provider kind bytes r
        (cond b (cond (has_cookies (trace_through s) kind url (fields_of r.front.head)) None (Some clauses.Cookie)) (Some clauses.Origin))
    by_names url true to names =
        by_cookies url (has_cookies (trace_through s) kind url (fields_of r.front.head)) to names refl
    by_names url false to names = no_origin s line call provider kind bytes r url to names

    by_url : (o : Option Parts) → url_of kind r.front.head ≡ o
        → Comes s line call provider kind bytes r (found_of s call provider kind bytes r o)
    by_url None to = no_url s line call provider kind bytes r to
    by_url (Some url) to = by_names url (names_page kind r.begun.origin (fields_of r.front.head)) to refl

pub head_fails : (s : Scene) (line call provider : ℕ) (kind : ReplyKind) (bytes : List ℕ) → (r : Read s call provider kind bytes)
    → (clause : AuditClause) → Some clause ≡ found_of s call provider kind bytes r (url_of kind r.front.head)
    → FailsFirst clause s (Request line call provider kind bytes)
unfolding Comes
head_fails s line call provider kind bytes r clause is = comes s line call provider kind bytes r (Some clause) is

pub head_good : (s : Scene) (line call provider : ℕ) (kind : ReplyKind) (bytes : List ℕ) → (r : Read s call provider kind bytes)
    → None ≡ found_of s call provider kind bytes r (url_of kind r.front.head) → Good s call provider kind bytes r
unfolding Comes
head_good s line call provider kind bytes r is = comes s line call provider kind bytes r None is

-- ---- a good head

good_before : (s : Scene) (line call provider : ℕ) (kind : ReplyKind) (bytes : List ℕ) → (r : Read s call provider kind bytes)
    → Good s call provider kind bytes r → (n : ℕ) → (5 < n → IfAssertion kind (MayAsk s call provider bytes))
    → Before s line call provider kind bytes n
good_before s line call provider kind bytes r g n consent =
    record {
      begins = λ h. provided s call provider kind bytes r;
      head = λ h. (r.front, g.url, g.to);
      origin = λ h. (r.front, r.begun, r.began, g.names);
      cookie = λ h. (r.front, g.url, g.to, g.cookies);
      consent = consent;
    }

low : (c : AuditClause) → place c < 7
low clauses.Record = omega arith
low clauses.Call = omega arith
low clauses.Head = omega arith
low clauses.Origin = omega arith
low clauses.Cookie = omega arith
low clauses.Consent = omega arith
low clauses.Token = omega arith

pub passes : (s : Scene) (line call provider : ℕ) (kind : ReplyKind) (bytes : List ℕ) → (r : Read s call provider kind bytes)
    → Good s call provider kind bytes r → IfAssertion kind (MayAsk s call provider bytes)
    → (c : AuditClause) → Meets c s (Request line call provider kind bytes)
passes s line call provider kind bytes r g may c =
    met s line call provider kind bytes 7 (good_before s line call provider kind bytes r g 7 (λ h. may)) c (low c)

pub may_ask : (s : Scene) (call provider : ℕ) (kind : ReplyKind) (bytes : List ℕ) → (r : Read s call provider kind bytes)
    → HasConsent s call provider r.front.body → MayAsk s call provider bytes
may_ask s call provider kind bytes r has = (r.front, has)

pub fails_consent : (s : Scene) (line call provider : ℕ) (bytes : List ℕ) → (r : Read s call provider kinds.Assertion bytes)
    → Good s call provider kinds.Assertion bytes r → (HasConsent s call provider r.front.body → ⊥)
    → FailsFirst clauses.Consent s (Request line call provider kinds.Assertion bytes)
fails_consent s line call provider bytes r g lacks =
    record {
      before = met s line call provider kinds.Assertion bytes 5
          (good_before s line call provider kinds.Assertion bytes r g 5 (never 5 5 (omega arith)));
      fails = λ has. lacks (subst (HasConsent s call provider) (same_front bytes has.0 r.front).body has.1);
    }

-- ---- by what was found

-- what was found is of the head and the page
pub found_so : (s : Scene) (call provider : ℕ) (kind : ReplyKind) (bytes : List ℕ) → (r : Read s call provider kind bytes)
    → (fault : Option AuditClause) (method target : List ℕ) (fields : List FieldPair) (page : Origin)
    → fault ≡ head_fault (trace_through s) kind page (url_by kind method target fields) fields
    → method ≡ r.front.head.method → target ≡ r.front.head.target → fields ≡ fields_of r.front.head → r.begun.origin ≡ page
    → fault ≡ found_of s call provider kind bytes r (url_of kind r.front.head)
found_so s call provider kind bytes r fault method target fields page is method_is target_is fields_is page_is =
    is
    ∙ (ap (λ m. head_fault (trace_through s) kind page (url_by kind m target fields) fields) method_is
    ∙ (ap (λ t. head_fault (trace_through s) kind page (url_by kind r.front.head.method t fields) fields) target_is
    ∙ (ap (λ fs. head_fault (trace_through s) kind page (url_by kind r.front.head.method r.front.head.target fs) fs) fields_is
    ∙ ap (λ o. head_fault (trace_through s) kind o (url_of kind r.front.head) (fields_of r.front.head)) (sym page_is))))

pub first_of_head : (s : Scene) (line call provider : ℕ) (kind : ReplyKind) (bytes : List ℕ) → (r : Read s call provider kind bytes)
    → (fault : Option AuditClause) → fault ≡ found_of s call provider kind bytes r (url_of kind r.front.head)
    → is_some fault ≡ true → IsFirst s (Request line call provider kind bytes) fault
first_of_head s line call provider kind bytes r None is there = absurd (cc)
first_of_head s line call provider kind bytes r (Some clause) is there = head_fails s line call provider kind bytes r clause is

pub good_head : (s : Scene) (line call provider : ℕ) (kind : ReplyKind) (bytes : List ℕ) → (r : Read s call provider kind bytes)
    → (fault : Option AuditClause) → fault ≡ found_of s call provider kind bytes r (url_of kind r.front.head)
    → is_some fault ≡ false → Good s call provider kind bytes r
good_head s line call provider kind bytes r (Some clause) is there = absurd (cc)
good_head s line call provider kind bytes r None is there = head_good s line call provider kind bytes r is

pub unasked : (kind : ReplyKind) (P : Type 0) → asks_token kind ≡ false → IfAssertion kind P
unasked kinds.WellKnown P h = tt
unasked kinds.Config P h = tt
unasked kinds.Accounts P h = tt
unasked kinds.Metadata P h = tt
unasked kinds.Disconnect P h = tt
unasked kinds.Assertion P h = absurd (cc)

pub if_asked : (kind : ReplyKind) (P : Type 0) → P → IfAssertion kind P
if_asked kinds.WellKnown P h = tt
if_asked kinds.Config P h = tt
if_asked kinds.Accounts P h = tt
if_asked kinds.Metadata P h = tt
if_asked kinds.Disconnect P h = tt
if_asked kinds.Assertion P h = h

pub fails_asked : (s : Scene) (line call provider : ℕ) (kind : ReplyKind) (bytes : List ℕ) → (r : Read s call provider kind bytes)
    → Good s call provider kind bytes r → asks_token kind ≡ true → (HasConsent s call provider r.front.body → ⊥)
    → FailsFirst clauses.Consent s (Request line call provider kind bytes)
fails_asked s line call provider kinds.Assertion bytes r g h lacks = fails_consent s line call provider bytes r g lacks
fails_asked s line call provider kinds.WellKnown bytes r g h lacks = absurd (cc)
fails_asked s line call provider kinds.Config bytes r g h lacks = absurd (cc)
fails_asked s line call provider kinds.Accounts bytes r g h lacks = absurd (cc)
fails_asked s line call provider kinds.Metadata bytes r g h lacks = absurd (cc)
fails_asked s line call provider kinds.Disconnect bytes r g h lacks = absurd (cc)

-- where no head of at most 128 fields is read, there is none
pub no_front : (bytes : List ℕ) → (FrontWithin 128 bytes → ⊥) → Front bytes → ⊥
no_front bytes none f = none (record { head = f.head; body = f.body; reads = f.reads; few = f.few })

-- ---- a call that is kept

pub record KeptBegun (call : ℕ) (rows : List Row) (o : Option Begun) (k : Call) : Type 0 where
  pub begun : Begun
  pub began : o ≡ Some begun
  pub is : call_kept call rows begun ≡ k

pub kept_begun : (call : ℕ) (rows : List Row) (o : Option Begun) (k : Call) → Some k ≡ option_map (call_kept call rows) o
    → KeptBegun call rows o k
kept_begun call rows None k is = absurd (cc)
kept_begun call rows (Some b) k is = record { begun = b; began = refl; is = let same : k ≡ call_kept call rows b = cc in sym same }

pub test_yes : {P : Type 0} (b : Bool) → IsTest b P → b ≡ true → P
test_yes {P} b h is = subst (λ b. IsTest b P) is h

pub test_no : {P : Type 0} (b : Bool) → IsTest b P → b ≡ false → P → ⊥
test_no {P} b h is = subst (λ b. IsTest b P) is h
