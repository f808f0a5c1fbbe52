-- A good request has a target that `httparse` takes, and values that stand in a head, and is read as a URL with its host and its path.
use Rattle.std.proofs.Common.{◌≡◌, ℕ, ◌<◌, false, List, [], ◌∷◌, ◌++◌, All, length, Option, Some, None, refl, sym, ap, subst, ◌∙◌}
use Rattle.std.proofs.Common.{arith, lit<, append-nil, append_assoc, codes, decimal, length-append}
use Rattle.std.specs.Prelude.{⊤, IfSome, is_some, unwrap_or}
use Rattle.std.specs.List.{AllByRecursion, list_any}
use Rattle.std.specs.Str.{IsUtf8}
use Rattle.std.proofs.lemmas.List.Elements.{All-cons, All-nil}
use Rattle.percent_encoding.specs.AsciiSet.{should_percent_encode}
use Rattle.percent_encoding.specs.Percent.{IsKept}
use Rattle.url.specs.declared.sets.TheConstants.{PATH, SPECIAL_QUERY}
use Rattle.url.specs.declared.scheme.SchemeType.TheVariants.{SpecialNotFile}
use Rattle.url.specs.Input.{when}
use Rattle.url.specs.Parts.{IsHierarchicalPath, Parts, query_set}
use Rattle.url.specs.Path.{IsSegment, dot_count}
use Rattle.url.specs.Scheme.{is_slash, is_special}
use Rattle.url.proofs.HostLemmas.{none_from_list_any}
use Rattle.url.proofs.SetterLemmas.{pairs_kept}
use Rattle.url.proofs.ValidLemmas.{base_from_authority, hierarchical, segment_list_kept, special_has_authority}
use Rattle.fed_origin.specs.WebUrl.{host_of}
use Rattle.fed_origin.specs.declared.origin.Origin.{Origin}
use Rattle.fed_consent.specs.declared.table.ask.Ask.{Ask}
use Rattle.fed_consent.specs.declared.table.ask.Ask.TheVariants.{WellKnown, Config, Accounts, Metadata, Assertion, Disconnect}
use Rattle.fed_consent.specs.Consent.{AssertionFields}
use Rattle.fed_consent.specs.Ask.{named_origin, url_of}
use Rattle.fed_request.specs.Form.{client_query, metadata_target}
use Rattle.fed_request.specs.Request.{host_field}
use Rattle.fed_audit.specs.Front.{url_at}
use Rattle.fed_own.specs.Consent.{IsText, form_texts}
use Rattle.fed_own.specs.Line.{given}
use Rattle.fed_own.specs.Request.{IsServed, IsTarget, IsValue, target_of}
use Rattle.fed_own.proofs.json.Values.{IfSo}
use Rattle.fed_own.proofs.plain.Results.{all_both}
use Rattle.fed_own.proofs.plain.Lists.{text_bytes}
use Rattle.fed_own.proofs.plain.Web.{IsWeb, web_kind}
use Rattle.fed_own.proofs.served.Back.{moved, moved_back, target_by}
use Rattle.fed_own.proofs.served.Bytes.{AreUri, IsUri, field_value, ink_is_value, kept_uri, number_ink, origin_value, uri_target}
use Rattle.fed_own.proofs.walk.Does.{GoodAsk, GoodAssertion, IsPage}

-- ---- paths and queries

pub web_path : (url : Parts) → IsWeb url → IsHierarchicalPath SpecialNotFile url.path
web_path url web =
    subst (λ k. IsHierarchicalPath k url.path) (web_kind url web)
    (hierarchical url web.valid.path
    (base_from_authority url (special_has_authority url web.valid.head (ap is_special (web_kind url web)))))

pub web_query : (url : Parts) → IsWeb url → IfSome url.query (All (IsKept SPECIAL_QUERY))
web_query url web = subst (λ k. IfSome url.query (All (IsKept (query_set k)))) (web_kind url web) web.valid.query

segment : (text : List ℕ) → list_any (should_percent_encode PATH) text ≡ false → list_any (is_slash SpecialNotFile) text ≡ false
    → dot_count text ≡ 0 → IsSegment SpecialNotFile text
segment text kept whole resolved =
    record {
      escaped = none_from_list_any (should_percent_encode PATH) text kept;
      whole = none_from_list_any (is_slash SpecialNotFile) text whole;
      resolved = resolved;
    }

-- the path of each well-known file
well_known : IsHierarchicalPath SpecialNotFile (codes "/.well-known/web-identity")
unfolding dot_count should_percent_encode
well_known = (
  record {
    segments = codes ".well-known" ∷ codes "web-identity" ∷ [];
    joined = refl;
    each =
        All-cons (IsSegment SpecialNotFile) (codes ".well-known") (codes "web-identity" ∷ []) (segment (codes ".well-known") refl refl refl)
        (All-cons (IsSegment SpecialNotFile) (codes "web-identity") [] (segment (codes "web-identity") refl refl refl)
        (All-nil (IsSegment SpecialNotFile)));
  },
  λ special. lit< tt,
)

-- ---- targets

query_uri : (query : Option (List ℕ)) → IfSome query (All (IsKept SPECIAL_QUERY))
    → AreUri (when (is_some query) (codes "?") ++ (unwrap_or query [] ++ []))
query_uri None kept = tt
query_uri (Some query) kept =
    (record { uri = refl; low = lit< tt }, all_both IsUri query [] (kept_uri SPECIAL_QUERY refl query kept) tt)

some_more : (xs ys : List ℕ) → 0 < length xs → 0 < length (xs ++ ys)
some_more xs ys some = omega (arith, length-append xs ys, some)

by_uri : (path : List ℕ) (query : Option (List ℕ)) → IsHierarchicalPath SpecialNotFile path
    → IfSome query (All (IsKept SPECIAL_QUERY)) → AreUri (target_by path query)
by_uri path query is_path is_query =
    all_both IsUri path _ (kept_uri PATH refl path (segment_list_kept SpecialNotFile path is_path.0)) (query_uri query is_query)

target_taken : (path : List ℕ) (query : Option (List ℕ)) → IsHierarchicalPath SpecialNotFile path
    → IfSome query (All (IsKept SPECIAL_QUERY)) → IsTarget (target_by path query)
target_taken path query is_path is_query =
    uri_target (target_by path query) (some_more path _ (is_path.1 refl)) (by_uri path query is_path is_query)

client_kept : (to : Parts) (client : List ℕ) → IsWeb to → All (IsKept SPECIAL_QUERY) (client_query to.query client)
client_kept to client web = go to.query (web_query to web)
  where
    go : (query : Option (List ℕ)) → IfSome query (All (IsKept SPECIAL_QUERY)) → All (IsKept SPECIAL_QUERY) (client_query query client)
    go None kept = pairs_kept SpecialNotFile ((codes "client_id", client) ∷ []) [] (All-nil (IsKept SPECIAL_QUERY))
    go (Some query) kept = pairs_kept SpecialNotFile ((codes "client_id", client) ∷ []) query kept

metadata_is : (to : Parts) (client : List ℕ) → target_by to.path (Some (client_query to.query client)) ≡ metadata_target to client
metadata_is to client =
    ap (λ q. to.path ++ (codes "?" ++ q)) (append-nil (client_query to.query client))
    ∙ sym (append_assoc to.path (codes "?") (client_query to.query client))

pub target_good : (ask : Ask) → GoodAsk ask → IsTarget (target_of ask)
target_good (WellKnown to) g = target_taken (codes "/.well-known/web-identity") None well_known tt
target_good (Config to) g = target_taken to.path to.query (web_path to g) (web_query to g)
target_good (Accounts to) g = target_taken to.path to.query (web_path to g) (web_query to g)
target_good (Metadata to client origin) g =
    subst IsTarget (metadata_is to client)
    (target_taken to.path (Some (client_query to.query client)) (web_path to g.0) (client_kept to client g.0))
target_good (Assertion ask) g = target_taken ask.to.path ask.to.query (web_path ask.to g.to) (web_query ask.to g.to)
target_good (Disconnect to client hint origin) g = target_taken to.path to.query (web_path to g.0) (web_query to g.0)

pub target_uri : (ask : Ask) → GoodAsk ask → AreUri (target_of ask)
target_uri (WellKnown to) g = by_uri (codes "/.well-known/web-identity") None well_known tt
target_uri (Config to) g = by_uri to.path to.query (web_path to g) (web_query to g)
target_uri (Accounts to) g = by_uri to.path to.query (web_path to g) (web_query to g)
target_uri (Metadata to client origin) g =
    subst AreUri (metadata_is to client)
    (by_uri to.path (Some (client_query to.query client)) (web_path to g.0) (client_kept to client g.0))
target_uri (Assertion ask) g = by_uri ask.to.path ask.to.query (web_path ask.to g.to) (web_query ask.to g.to)
target_uri (Disconnect to client hint origin) g = by_uri to.path to.query (web_path to g.0) (web_query to g.0)

-- ---- hosts and origins

pub url_good : (ask : Ask) → GoodAsk ask → IsWeb (url_of ask)
url_good (WellKnown to) g = g
url_good (Config to) g = g
url_good (Accounts to) g = g
url_good (Metadata to client origin) g = g.0
url_good (Assertion ask) g = g.to
url_good (Disconnect to client hint origin) g = g.0

page_good : (ask : Ask) → GoodAsk ask → (named : Origin) → named_origin ask ≡ Some named → IsPage named
page_good (WellKnown to) g named is = absurd (cc)
page_good (Config to) g named is = absurd (cc)
page_good (Accounts to) g named is = absurd (cc)
page_good (Metadata to client origin) g named is = let same : origin ≡ named = cc in subst IsPage same g.1
page_good (Assertion ask) g named is = let same : ask.origin ≡ named = cc in subst IsPage same g.origin
page_good (Disconnect to client hint origin) g named is = let same : origin ≡ named = cc in subst IsPage same g.1

-- what can stand in a head, where the cookies can
pub served_good : (ask : Ask) (cookies : List ℕ) → GoodAsk ask → IsValue cookies → IsServed ask cookies
served_good ask cookies g value =
    record {
      target = target_good ask g;
      host = field_value (url_of ask) (url_good ask g);
      origin = λ named is. origin_value named (page_good ask g named is);
      form = λ body is. ink_is_value (decimal (length body)) (number_ink (length body));
      cookies = value;
    }

-- ---- as which URL it is read

-- the host and the path of a URL are those of a request that carries cookies
abbrev pub IsAlike : Ask → Parts → Type 0
IsAlike (WellKnown to) url = ⊤
IsAlike (Config to) url = ⊤
IsAlike (Metadata to client origin) url = ⊤
IsAlike (Accounts to) url = (host_of url ≡ host_of to) × (url.path ≡ to.path)
IsAlike (Assertion ask) url = (host_of url ≡ host_of ask.to) × (url.path ≡ ask.to.path)
IsAlike (Disconnect to client hint origin) url = (host_of url ≡ host_of to) × (url.path ≡ to.path)

pub record IsUrlBack (ask : Ask) : Type 0 where
  pub url : Parts
  pub reads : url_at (target_of ask) (host_field (url_of ask)) ≡ Some url
  pub alike : IsAlike ask url

pub back_good : (ask : Ask) → GoodAsk ask → IsUrlBack ask
back_good (WellKnown to) g =
    record {
      url = moved to g (codes "/.well-known/web-identity") None;
      reads = moved_back to g (codes "/.well-known/web-identity") None well_known tt;
      alike = tt;
    }
back_good (Config to) g =
    record { url = moved to g to.path to.query; reads = moved_back to g to.path to.query (web_path to g) (web_query to g); alike = tt }
back_good (Accounts to) g =
    record {
      url = moved to g to.path to.query;
      reads = moved_back to g to.path to.query (web_path to g) (web_query to g);
      alike = (refl, refl);
    }
back_good (Metadata to client origin) g =
    record {
      url = moved to g.0 to.path (Some (client_query to.query client));
      reads =
          subst (λ t. url_at t (host_field to) ≡ Some (moved to g.0 to.path (Some (client_query to.query client)))) (metadata_is to client)
          (moved_back to g.0 to.path (Some (client_query to.query client)) (web_path to g.0) (client_kept to client g.0));
      alike = tt;
    }
back_good (Assertion ask) g =
    record {
      url = moved ask.to g.to ask.to.path ask.to.query;
      reads = moved_back ask.to g.to ask.to.path ask.to.query (web_path ask.to g.to) (web_query ask.to g.to);
      alike = (refl, refl);
    }
back_good (Disconnect to client hint origin) g =
    record {
      url = moved to g.0 to.path to.query;
      reads = moved_back to g.0 to.path to.query (web_path to g.0) (web_query to g.0);
      alike = (refl, refl);
    }

-- ---- the texts of a form

pub text_good : (text : List ℕ) → IsUtf8 text → IsText text
text_good text u = record { utf8 = u; bytes = text_bytes text u }

given_good : (o : Option (List ℕ)) → IfSo IsUtf8 o → AllByRecursion IsText (given o)
given_good None h = tt
given_good (Some text) h = (text_good text h, tt)

pub form_good : (ask : AssertionFields) → GoodAssertion ask → AllByRecursion IsText (form_texts ask)
form_good ask g = (
  text_good ask.client g.client,
  (
    text_good ask.account g.account,
    all_both IsText (given ask.nonce) (given ask.params) (given_good ask.nonce g.nonce)
        (given_good ask.params g.params),
  ),
)
