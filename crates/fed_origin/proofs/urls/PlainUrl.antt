-- A plain URL is read as its parts, whatever it is read against.
use Rattle.std.proofs.Common.{◌≡◌, ℕ, ◌+◌, ◌≤◌, List, [], ◌++◌, length, get_or, Some, None, Ok}
use Rattle.std.proofs.Common.{sym, refl, ap, subst, ◌∙◌, inl, append-nil, arith, length-append, take, take_at, lit<}
use Rattle.std.specs.Prelude.{Option, codes, slice_range, ◌-◌, is_some, unwrap_or, IsAscii}
use Rattle.url.specs.Input.{when}
use Rattle.url.specs.declared.scheme.SchemeType.TheVariants.{SpecialNotFile}
use Rattle.url.specs.declared.sets.TheConstants.{SPECIAL_QUERY}
use Rattle.url.specs.Scheme.{IsScheme, scheme_type, default_port, scheme_len}
use Rattle.url.specs.declared.slicing.Position.TheVariants.{BeforePath, AfterPath, AfterQuery}
use Rattle.url.specs.Parts.{Parts, offset, serialize, kind_of, IsValidHead, IsValid}
use Rattle.url.specs.Parser.{parse_url}
use Rattle.url.proofs.InputLemmas.{All_from_list_all}
use Rattle.url.proofs.PiecesLemmas.{steps}
use Rattle.url.proofs.SetLemmas.{kept_from_passes}
use Rattle.url.proofs.ValidLemmas.{IsAscii-serialize}
use Rattle.url.proofs.Theorems.{parse_url-serialize_special}
use Rattle.fed_origin.specs.Plain.{plain_parts, is_query_byte, tail_text, IsPlain}
use Rattle.fed_origin.proofs.urls.PlainHost.{domain_is}
use Rattle.fed_origin.proofs.urls.PlainPath.{path_is, query_low}

https : IsScheme (codes "https")
unfolding scheme_len
https = record { nonempty = lit< tt; whole = refl; lower = refl }

kind : (host path : List ℕ) (query : Option (List ℕ)) → kind_of (plain_parts host path query) ≡ SpecialNotFile
unfolding scheme_type default_port
kind host path query = refl

head : (host path : List ℕ) (query : Option (List ℕ)) (text : List ℕ) → IsPlain text host path query
    → IsValidHead (plain_parts host path query)
unfolding scheme_type default_port
head host path query text plain =
    record {
      scheme = https;
      username = λ k d inside. absurd (omega arith);
      password = λ k d inside. absurd (omega arith);
      host = domain_is host plain.domain;
      port = tt;
      bare = λ h. (refl, refl, refl);
    }

pub valid : (host path : List ℕ) (query : Option (List ℕ)) (text : List ℕ) → IsPlain text host path query
    → IsValid (plain_parts host path query)
unfolding scheme_type default_port
valid host path None text plain =
    record {
      head = head host path None text plain;
      path = inl ((path_is path plain.path).0, λ h. (path_is path plain.path).1);
      query =
          tt;
      fragment = tt;
    }
valid host path (Some query) text plain =
    let all = All_from_list_all is_query_byte query plain.query in
    record {
      head = head host path (Some query) text plain;
      path = inl ((path_is path plain.path).0, λ h. (path_is path plain.path).1);
      query = λ k d inside. kept_from_passes is_query_byte SPECIAL_QUERY refl (get_or query k d) (query_low (get_or query k d) (all k d
          inside)) (all k d inside);
      fragment = tt;
    }

pub spelled : (text host path : List ℕ) (query : Option (List ℕ)) → IsPlain text host path query
    → text ≡ serialize (plain_parts host path query)
spelled text host path query plain =
    plain.spelled ∙ ap (λ l. codes "https://" ++ (host ++ (path ++ (when (is_some query) (codes "?") ++ l)))) (sym (append-nil (unwrap_or
    query [])))

-- the text is read as these parts
pub reads_plain : (text host path : List ℕ) (query : Option (List ℕ)) (base : Option Parts) → IsPlain text host path query
    → parse_url base text ≡ Ok (plain_parts host path query)
reads_plain text host path query base plain =
    ap (parse_url base) (spelled text host path query plain)
    ∙ parse_url-serialize_special (plain_parts host path query) base (valid host path query text plain) (kind host path query)

pub ascii : (text host path : List ℕ) (query : Option (List ℕ)) → IsPlain text host path query → IsAscii text
ascii text host path query plain =
    subst IsAscii (sym (spelled text host path query plain)) (IsAscii-serialize (plain_parts host path query) (valid host path query text
    plain))

-- the path ends within the text
pub room : (text host path : List ℕ) (query : Option (List ℕ)) → IsPlain text host path query
    → 8 + length host + length path ≤ length text
room text host path query plain = omega (arith, simp length-append at (ap length plain.spelled))

-- where the parts stand
pub path_place : (host path : List ℕ) (query : Option (List ℕ)) → 8 + length host ≡ offset (plain_parts host path query) BeforePath
path_place host path query = let s = steps (plain_parts host path query) in omega arith

pub query_place : (host path : List ℕ) (query : Option (List ℕ))
    → 8 + length host + length path ≡ offset (plain_parts host path query) AfterPath
query_place host path query = let s = steps (plain_parts host path query) in omega arith

pub end_place : (text host path : List ℕ) (query : Option (List ℕ)) → IsPlain text host path query
    → length text ≡ offset (plain_parts host path query) AfterQuery
end_place text host path query plain =
    let s = steps (plain_parts host path query) in
    let len = ap length (spelled text host path query plain) in
    omega arith

pub host_place : (text host path : List ℕ) (query : Option (List ℕ)) (end : ℕ) → IsPlain text host path query
    → end ≡ 8 + length host
    → slice_range text 8 end ≡ host
host_place text host path query end plain ended =
    let len : end - 8 ≡ length host = omega arith in
    rw plain.spelled (ap (λ n. take n (host ++ tail_text path query)) len ∙ take_at host _ _ refl)
