-- Texts that `url` reads as they stand: nothing in them is put in lower case, escaped, decoded or resolved.
use Rattle.std.specs.Prelude.{◌≡◌, ℕ, Bool, true, false, not, ◌&&◌, ◌||◌, ◌==◌, List, [], ◌∷◌, ◌++◌}
use Rattle.std.specs.Prelude.{slice_index, codes, bytes_eq, Option}
use Rattle.std.specs.Prelude.{Some, None, is_some, unwrap_or}
use Rattle.std.specs.List.{list_all, slice_split}
use Rattle.std.specs.Char.{is_ascii_lowercase, is_ascii_digit, is_ascii_alphanumeric, is_ascii_graphic}
use Rattle.url.specs.declared.host.Host.TheVariants.{Domain}
use Rattle.url.specs.Input.{when, rsplit_once}
use Rattle.url.specs.Parts.{Parts}

-- the URL with the scheme https, and these parts alone
abbrev pub plain_parts : List ℕ → List ℕ → Option (List ℕ) → Parts
plain_parts host path query =
    record {
      scheme = codes "https";
      username = [];
      password = [];
      host = Some (Domain host);
      port = None;
      path = path;
      query = query;
      fragment = None;
    }

-- a path, and `?` with a query where there is one
abbrev pub tail_text : List ℕ → Option (List ℕ) → List ℕ
tail_text path query = path ++ (when (is_some query) (codes "?") ++ unwrap_or query [])

-- a byte of a domain that is written in ASCII and in lower case
abbrev pub is_domain_byte : ℕ → Bool
is_domain_byte b = is_ascii_lowercase b || is_ascii_digit b || b == 45 || b == 46

-- such bytes, and a letter where a number would begin, so that it is no address of version 4
abbrev pub is_domain : List ℕ → Bool
is_domain host = list_all is_domain_byte host && is_ascii_lowercase (slice_index (rsplit_once 46 host).1 0)

-- a byte of a segment that is neither escaped nor an escape: a letter, a digit, or one of these marks
abbrev pub is_segment_byte : ℕ → Bool
is_segment_byte b =
    is_ascii_alphanumeric b || b == 45 || b == 46 || b == 95 || b == 126 || b == 33 || b == 36 || b == 38 || b == 39
    || b == 40 || b == 41 || b == 42 || b == 43 || b == 44 || b == 58 || b == 59 || b == 61 || b == 64

abbrev pub is_dots : List ℕ → Bool
is_dots segment = bytes_eq segment (codes ".") || bytes_eq segment (codes "..")

-- such bytes, but neither `.` nor `..`
abbrev pub is_segment : List ℕ → Bool
is_segment segment = list_all is_segment_byte segment && not (is_dots segment)

-- what stands after the first `/` of a path
abbrev pub are_segments : List ℕ → Bool
are_segments rest = list_all is_segment (slice_split (λ b. b == 47) rest)

abbrev pub is_path : List ℕ → Bool
is_path [] = false
is_path (b ∷ rest) = b == 47 && are_segments rest

-- a byte of a query that is not escaped
abbrev pub is_query_byte : ℕ → Bool
is_query_byte b = is_ascii_graphic b && not (b == 34) && not (b == 35) && not (b == 60) && not (b == 62) && not (b == 39)

abbrev pub is_query : Option (List ℕ) → Bool
is_query None = true
is_query (Some query) = list_all is_query_byte query

-- the text is this path and this query
pub record IsTail (text route : List ℕ) (part : Option (List ℕ)) : Type 0 where
  pub spelled : text ≡ tail_text route part
  pub path : is_path route ≡ true
  pub query : is_query part ≡ true

-- the same, and one slash begins the text, so that no host stands in it
pub record IsReference (text route : List ℕ) (part : Option (List ℕ)) : Type 0 where
  pub tail : IsTail text route part
  pub one : (slice_index route 1 == 47) ≡ false

-- the URL with another path and query
abbrev pub beside : Parts → List ℕ → Option (List ℕ) → Parts
beside base path query = record base { path = path; query = query; fragment = None }

-- the text is that of a URL with these parts
pub record IsPlain (text name route : List ℕ) (part : Option (List ℕ)) : Type 0 where
  pub spelled : text ≡ codes "https://" ++ (name ++ tail_text route part)
  pub domain : is_domain name ≡ true
  pub path : is_path route ≡ true
  pub query : is_query part ≡ true
