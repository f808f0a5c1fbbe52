-- What an audit finds in a request that is read as it is sent.
use Rattle.std.proofs.Common.{◌≡◌, ℕ, true, ◌&&◌, List, [], ◌∷◌, Option, Some, None, refl, ap, ap₂, ◌∙◌}
use Rattle.std.proofs.lemmas.Slice.Eq.{bytes_eq-Decides}
use Rattle.std.specs.Prelude.{bytes_eq, codes, option_and_then, option_map}
use Rattle.fed_origin.specs.declared.origin.Origin.{Origin}
use Rattle.fed_origin.specs.Origin.{origin_text}
use Rattle.fed_consent.specs.declared.table.ask.Ask.{Ask}
use Rattle.fed_consent.specs.declared.table.ask.Ask.TheVariants.{WellKnown, Config, Accounts, Metadata, Assertion, Disconnect}
use Rattle.fed_consent.specs.Ask.{kind_of, named_origin, url_of}
use Rattle.fed_request.specs.Request.{TakesCookies, host_field}
use Rattle.fed_reply.specs.Fields.{values_in}
use Rattle.fed_audit.specs.Clauses.{cookies_for}
use Rattle.fed_audit.specs.Scene.{trace_through}
use Rattle.fed_audit.specs.Front.{are_due, cookie_due, fields_of, method_of, names_page, only_value, origin_due, unless_empty, url_at}
use Rattle.fed_audit.specs.Front.{url_by}
use Rattle.fed_own.specs.Request.{CarriesText, OwnRequestsCarryCookies, OwnRequestsHaveHeads, OwnRequestsNamePages, fields_sent, target_of}
use Rattle.fed_own.proofs.requests.Heads.{read_lem}

-- a text, where there is one
abbrev listed : Option (List ℕ) → List (List ℕ)
listed None = []
listed (Some text) = text ∷ []

hosts : (ask : Ask) (cookies : List ℕ) → values_in (codes "host") (fields_sent ask cookies) ≡ host_field (url_of ask) ∷ []
unfolding values_in
hosts (WellKnown to) [] = refl
hosts (WellKnown to) (b ∷ cookies) = refl
hosts (Config to) [] = refl
hosts (Config to) (b ∷ cookies) = refl
hosts (Accounts to) [] = refl
hosts (Accounts to) (b ∷ cookies) = refl
hosts (Metadata to client origin) [] = refl
hosts (Metadata to client origin) (b ∷ cookies) = refl
hosts (Assertion ask) [] = refl
hosts (Assertion ask) (b ∷ cookies) = refl
hosts (Disconnect to client hint origin) [] = refl
hosts (Disconnect to client hint origin) (b ∷ cookies) = refl

referers : (ask : Ask) (cookies : List ℕ) → values_in (codes "referer") (fields_sent ask cookies) ≡ []
unfolding values_in
referers (WellKnown to) [] = refl
referers (WellKnown to) (b ∷ cookies) = refl
referers (Config to) [] = refl
referers (Config to) (b ∷ cookies) = refl
referers (Accounts to) [] = refl
referers (Accounts to) (b ∷ cookies) = refl
referers (Metadata to client origin) [] = refl
referers (Metadata to client origin) (b ∷ cookies) = refl
referers (Assertion ask) [] = refl
referers (Assertion ask) (b ∷ cookies) = refl
referers (Disconnect to client hint origin) [] = refl
referers (Disconnect to client hint origin) (b ∷ cookies) = refl

origins : (ask : Ask) (cookies : List ℕ)
    → values_in (codes "origin") (fields_sent ask cookies) ≡ listed (option_map origin_text (named_origin ask))
unfolding values_in
origins (WellKnown to) [] = refl
origins (WellKnown to) (b ∷ cookies) = refl
origins (Config to) [] = refl
origins (Config to) (b ∷ cookies) = refl
origins (Accounts to) [] = refl
origins (Accounts to) (b ∷ cookies) = refl
origins (Metadata to client origin) [] = refl
origins (Metadata to client origin) (b ∷ cookies) = refl
origins (Assertion ask) [] = refl
origins (Assertion ask) (b ∷ cookies) = refl
origins (Disconnect to client hint origin) [] = refl
origins (Disconnect to client hint origin) (b ∷ cookies) = refl

own_bytes : (text : List ℕ) → bytes_eq text text ≡ true
own_bytes text = (bytes_eq-Decides text text).1 refl

-- ---- where it goes

goes_to : (ask : Ask) (cookies : List ℕ)
    → url_by (kind_of ask) (method_of (kind_of ask)) (target_of ask) (fields_sent ask cookies)
    ≡ url_at (target_of ask) (host_field (url_of ask))
goes_to ask cookies =
    rw (own_bytes (method_of (kind_of ask))) (ap (λ values. option_and_then (url_at (target_of ask)) (only_value values))
    (hosts ask cookies))

pub heads_lem : OwnRequestsHaveHeads
heads_lem ask cookies url takes s is =
    let r = read_lem ask cookies takes s in
    let front = r.0 in
    let sent = r.1 in (
      front,
      url,
      ap (λ m. url_by (kind_of ask) m front.head.target (fields_of front.head)) sent.method
          ∙ (ap (λ t. url_by (kind_of ask) (method_of (kind_of ask)) t (fields_of front.head)) sent.target
          ∙ (ap (λ fs. url_by (kind_of ask) (method_of (kind_of ask)) (target_of ask) fs) sent.fields ∙ (goes_to ask cookies ∙ is))),
    )

-- ---- whom it names

-- the Origin field that is due
abbrev due_of : Ask → Origin → Option (List ℕ)
due_of ask page = origin_due (kind_of ask) (origin_text page)

named : (ask : Ask) (page : Origin) → ((origin : Origin) → named_origin ask ≡ Some origin → origin ≡ page)
    → are_due None [] && are_due (due_of ask page) (listed (option_map origin_text (named_origin ask))) ≡ true
named (WellKnown to) page same = refl
named (Config to) page same = refl
named (Accounts to) page same = refl
named (Metadata to client origin) page same =
    ap (λ t. bytes_eq (origin_text t) (origin_text page)) (same origin refl) ∙ own_bytes (origin_text page)
named (Assertion ask) page same =
    ap (λ t. bytes_eq (origin_text t) (origin_text page)) (same ask.origin refl) ∙ own_bytes (origin_text page)
named (Disconnect to client hint origin) page same =
    ap (λ t. bytes_eq (origin_text t) (origin_text page)) (same origin refl) ∙ own_bytes (origin_text page)

pub pages_lem : OwnRequestsNamePages
pages_lem s call begun ask cookies takes served began same =
    let r = read_lem ask cookies takes served in (
      r.0,
      begun,
      began,
      ap (names_page (kind_of ask) begun.origin) r.1.fields
          ∙ (ap₂ (λ refs names. are_due None refs && are_due (due_of ask begun.origin) names) (referers ask cookies) (origins ask cookies)
          ∙ named ask begun.origin same),
    )

-- ---- its cookies

carried : (ask : Ask) (cookies : List ℕ) → TakesCookies ask cookies
    → values_in (codes "cookie") (fields_sent ask cookies) ≡ listed (unless_empty cookies)
unfolding values_in
carried (WellKnown to) [] takes = refl
carried (WellKnown to) (b ∷ cookies) takes = refl
carried (Config to) [] takes = refl
carried (Config to) (b ∷ cookies) takes = refl
carried (Accounts to) [] takes = refl
carried (Accounts to) (b ∷ cookies) takes = refl
carried (Metadata to client origin) [] takes = refl
carried (Metadata to client origin) (b ∷ cookies) takes = refl
carried (Assertion ask) [] takes = refl
carried (Assertion ask) (b ∷ cookies) takes = refl
carried (Disconnect to client hint origin) [] takes = refl
carried (Disconnect to client hint origin) (b ∷ cookies) takes = refl

itself : (text : List ℕ) → are_due (unless_empty text) (listed (unless_empty text)) ≡ true
itself [] = refl
itself (b ∷ text) = own_bytes (b ∷ text)

due : (ask : Ask) (cookies text : List ℕ) → TakesCookies ask cookies → CarriesText ask cookies text
    → are_due (cookie_due (kind_of ask) text) (listed (unless_empty cookies)) ≡ true
due (WellKnown to) cookies text takes carries = ap (λ c. are_due None (listed (unless_empty c))) takes
due (Config to) cookies text takes carries = ap (λ c. are_due None (listed (unless_empty c))) takes
due (Metadata to client origin) cookies text takes carries = ap (λ c. are_due None (listed (unless_empty c))) takes
due (Accounts to) cookies text takes carries = ap (λ c. are_due (unless_empty text) (listed (unless_empty c))) carries ∙ itself text
due (Assertion ask) cookies text takes carries = ap (λ c. are_due (unless_empty text) (listed (unless_empty c))) carries ∙ itself text
due (Disconnect to client hint origin) cookies text takes carries =
    ap (λ c. are_due (unless_empty text) (listed (unless_empty c))) carries ∙ itself text

pub cookies_lem : OwnRequestsCarryCookies
cookies_lem s ask cookies url takes served is carries =
    let r = read_lem ask cookies takes served in (
      r.0,
      url,
      ap (λ m. url_by (kind_of ask) m r.0.head.target (fields_of r.0.head)) r.1.method
          ∙ (ap (λ t. url_by (kind_of ask) (method_of (kind_of ask)) t (fields_of r.0.head)) r.1.target
          ∙ (ap (λ fs. url_by (kind_of ask) (method_of (kind_of ask)) (target_of ask) fs) r.1.fields ∙ (goes_to ask cookies ∙ is))),
      ap (λ fs. are_due (cookie_due (kind_of ask) (cookies_for (trace_through s) url)) (values_in (codes "cookie") fs)) r.1.fields
          ∙ (ap (are_due (cookie_due (kind_of ask) (cookies_for (trace_through s) url))) (carried ask cookies takes)
          ∙ due ask cookies (cookies_for (trace_through s) url) takes carries),
    )
