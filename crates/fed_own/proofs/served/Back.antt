-- A host and a target of a URL of the web are read as a URL with its host, over https.
use Rattle.std.proofs.Common.{◌≡◌, ℕ, ◌^◌, ◌<◌, Bool, true, false, cond, not, ◌||◌, ◌==◌, List, [], ◌++◌, All}
use Rattle.std.proofs.Common.{Option, Some, None, refl, sym, ap, subst, ◌∙◌, inl, arith, lit<, decimal, codes, append_assoc}
use Rattle.std.specs.Prelude.{IfSome, is_some, unwrap_or, Ok}
use Rattle.std.specs.Result.{result_ok}
use Rattle.std.specs.Str.{is_utf8}
use Rattle.std.proofs.lemmas.Bool.{cond_both, eqb-false, false≢true}
use Rattle.std.proofs.lemmas.List.Elements.{All-nil}
use Rattle.std.proofs.lemmas.Str.{IsUtf8-from_ascii, is_utf8-from_IsUtf8}
use Rattle.percent_encoding.specs.Percent.{IsKept}
use Rattle.url.specs.declared.host.Host.{Host}
use Rattle.url.specs.declared.sets.TheConstants.{SPECIAL_QUERY, USERINFO}
use Rattle.url.specs.declared.scheme.SchemeType.TheVariants.{SpecialNotFile}
use Rattle.url.specs.Host.{IsHostOf, host_text, is_empty_host}
use Rattle.url.specs.Input.{when}
use Rattle.url.specs.Parts.{IsHierarchicalPath, IsPortOf, IsValid, Parts, host_or_empty, kind_of, serialize}
use Rattle.url.specs.Scheme.{default_port, is_special, scheme_len, scheme_type}
use Rattle.url.proofs.SetterLemmas.{own_host}
use Rattle.url.proofs.Theorems.{parse_url-serialize_special}
use Rattle.url.proofs.ValidLemmas.{IsAscii-serialize, special_has_authority}
use Rattle.fed_origin.specs.declared.scheme.Scheme.{Scheme}
use Rattle.fed_origin.specs.Origin.{own_port}
use Rattle.fed_origin.specs.WebUrl.{origin_of, scheme_of, web_part, web_url}
use Rattle.fed_request.specs.Request.{host_field}
use Rattle.fed_audit.specs.Front.{url_at, url_in}
use Rattle.fed_own.proofs.plain.Web.{IsWeb, web_kind}
use Rattle.fed_own.proofs.urls.Parsed.{some_host}

-- a path, and `?` with the query where there is one
abbrev pub target_by : List ℕ → Option (List ℕ) → List ℕ
target_by path query = path ++ (when (is_some query) (codes "?") ++ (unwrap_or query [] ++ []))

-- a URL over https
abbrev pub over : Host (List ℕ) → Option ℕ → List ℕ → Option (List ℕ) → Parts
over host port path query =
    record {
      scheme = codes "https";
      username = [];
      password = [];
      host = Some host;
      port = port;
      path = path;
      query = query;
      fragment = None;
    }

abbrev pub port_over : ℕ → Option ℕ
port_over port = cond (port == 443) None (Some port)

-- ---- its text

text_over : (host : Host (List ℕ)) (port : ℕ) (path : List ℕ) (query : Option (List ℕ)) (own : Bool)
    → codes "https://" ++ cond own (host_text host) (host_text host ++ (codes ":" ++ decimal port)) ++ target_by path query
    ≡ serialize (over host (cond own None (Some port)) path query)
text_over host port path query true = refl
text_over host port path query false =
    ap (λ l. codes "https://" ++ l) (append_assoc (host_text host) (codes ":" ++ decimal port) (target_by path query))

-- ---- it is valid

valid_over : (host : Host (List ℕ)) (port : Option ℕ) (path : List ℕ) (query : Option (List ℕ)) → IsHostOf SpecialNotFile host
    → IsPortOf (codes "https") port → IsHierarchicalPath SpecialNotFile path → IfSome query (All (IsKept SPECIAL_QUERY))
    → IsValid (over host port path query)
unfolding scheme_type default_port scheme_len
valid_over host port path query is_host is_port is_path is_query =
    record {
      head = record {
        scheme = record { nonempty = lit< tt; whole = refl; lower = refl };
        username = All-nil (IsKept USERINFO);
        password = All-nil (IsKept USERINFO);
        host = is_host;
        port = is_port;
        bare = λ cannot. absurd (no (is_empty_host host) (some_host host is_host) cannot);
      };
      path = inl is_path;
      query = is_query;
      fragment = tt;
    }
  where
    no : (b : Bool) → b ≡ false → (not (not b) || false) ≡ true → ⊥
    no true is cannot = false≢true (sym is)
    no false is cannot = false≢true cannot

kind_over : (host : Host (List ℕ)) (port : Option ℕ) (path : List ℕ) (query : Option (List ℕ))
    → kind_of (over host port path query) ≡ SpecialNotFile
unfolding scheme_type default_port
kind_over host port path query = refl

-- ---- its port

small_port : (url : Parts) → IsPortOf url.scheme url.port → (origin_of url).port < 2 ^ 16
small_port url is = go url.port is
  where
    own : (scheme : Scheme) → own_port scheme < 2 ^ 16
    own Scheme.Http = omega arith
    own Scheme.Https = omega arith

    go : (port : Option ℕ) → IsPortOf url.scheme port → unwrap_or port (own_port (scheme_of url)) < 2 ^ 16
    go None is = own (scheme_of url)
    go (Some n) is = is.0

other_port : (n : ℕ) → n < 2 ^ 16 → IsPortOf (codes "https") (port_over n)
unfolding default_port
other_port n small =
    cond_both (n == 443) None (Some n) (IsPortOf (codes "https")) (λ t. tt)
    (λ f. (small, λ is. eqb-false n 443 f (let same : n ≡ 443 = cc in same)))

-- ---- it is read back

read_back : (url : Parts) → IsValid url → kind_of url ≡ SpecialNotFile → web_part (Ok url) ≡ Ok url → url_in (serialize url) ≡ Some url
read_back url valid kind part =
    let ascii = IsAscii-serialize url valid in
    let text : is_utf8 (serialize url) ≡ true = is_utf8-from_IsUtf8 (serialize url) (IsUtf8-from_ascii (serialize url) ascii) in
    let parsed : web_url (serialize url) ≡ Ok url = ap web_part (parse_url-serialize_special url None valid kind) ∙ part in
    (λ i. cond (text i) (result_ok (parsed i)) None)

module _ (url : Parts) (web : IsWeb url) where
  pub host_over : IsHostOf SpecialNotFile (host_or_empty url)
  host_over =
      subst (λ k. IsHostOf k (host_or_empty url)) (web_kind url web)
      (own_host url web.valid.head (special_has_authority url web.valid.head (ap is_special (web_kind url web))))

  -- the URL over https at its host and its port, with another path and query
  abbrev pub moved : List ℕ → Option (List ℕ) → Parts
  moved path query = over (host_or_empty url) (port_over (origin_of url).port) path query

  pub moved_back : (path : List ℕ) (query : Option (List ℕ)) → IsHierarchicalPath SpecialNotFile path
      → IfSome query (All (IsKept SPECIAL_QUERY)) → url_at (target_by path query) (host_field url) ≡ Some (moved path query)
  moved_back path query is_path is_query =
      ap url_in (text_over (host_or_empty url) (origin_of url).port path query ((origin_of url).port == 443))
      ∙ read_back (moved path query)
      (valid_over (host_or_empty url) (port_over (origin_of url).port) path query host_over
      (other_port (origin_of url).port (small_port url web.valid.head.port)) is_path is_query)
      (kind_over (host_or_empty url) (port_over (origin_of url).port) path query) refl
