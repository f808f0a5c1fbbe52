-- A URL with a special scheme that is read of bytes is valid.
use Rattle.std.proofs.Common.{◌≡◌, ℕ, ◌+◌, Bool, true, false, cond, not, ◌&&◌, ◌||◌, ◌==◌, List, [], ◌∷◌, take, drop, All}
use Rattle.std.proofs.Common.{Option, Some, None, refl, sym, ap, subst, ◌∙◌, inl}
use Rattle.std.specs.Prelude.{⊤, IfSome, bytes_eq, codes, filter, is_some, nat_lt, slice_index, unwrap_or, Ok, Err}
use Rattle.std.specs.Option.{option_or}
use Rattle.std.proofs.lemmas.Bool.{and_parts, both_ways, cond_both, false≢true, ltb-true}
use Rattle.std.proofs.lemmas.List.Elements.{All-cons, All-drop, All-head, All-nil, All-tail, All-take}
use Rattle.std.proofs.lemmas.Slice.Eq.{bytes_eq-Decides}
use Rattle.percent_encoding.proofs.PercentLemmas.{IsByte}
use Rattle.url.specs.declared.host.Host.{Host}
use Rattle.url.specs.declared.scheme.SchemeType.{SchemeType}
use Rattle.url.specs.declared.scheme.SchemeType.TheVariants.{File, NotSpecial, SpecialNotFile}
use Rattle.url.specs.Ascii.{at_sign, colon, number_sign, question_mark}
use Rattle.url.specs.Head.{with_authority}
use Rattle.url.specs.Host.{IsHostOf, is_empty_host, parse_file_host, parse_host}
use Rattle.url.specs.Input.{is_empty, is_tab_or_new_line, lowercase, rsplit_once, split_once}
use Rattle.url.specs.Input.{strip_tabs_and_new_lines, trim_c0_control_and_space}
use Rattle.url.specs.Parts.{IsValid, IsValidHead, IsValidPath, Parts, cannot_be_a_base, kind_of}
use Rattle.url.specs.Path.{IsSegmentList, is_windows_drive_letter, parse_path, parse_path_start, segment_len, shorten_path}
use Rattle.url.specs.Parser.{Parsed, after_double_slash, after_file_double_slash, after_slashes, and_then, base_for_scheme, before_tail}
use Rattle.url.specs.Parser.{file_with_host, inherit, is_fragment_only, lacks_host, leading_slashes, parse_all, parse_authority}
use Rattle.url.specs.Parser.{parse_body, parse_by_scheme, parse_file, parse_non_special, parse_not_file, parse_parts, parse_port}
use Rattle.url.specs.Parser.{parse_relative, parse_url, skip_slashes, split_port, split_scheme, with_path, with_tail}
use Rattle.url.specs.Scheme.{IsScheme, is_file, is_special, scheme_len, scheme_type}
use Rattle.url.proofs.InputLemmas.{is_empty_nonempty}
use Rattle.url.proofs.LayoutLemmas.{IsValidHead_same}
use Rattle.url.proofs.ParsedCanonical.{before_special}
use Rattle.url.proofs.PathLemmas.{no_segments, shorten_valid}
use Rattle.url.proofs.SchemeLemmas.{scheme_at_front, scheme_type_file}
use Rattle.url.proofs.SetterLemmas.{valid_with_authority}
use Rattle.url.proofs.ValidLemmas.{IsValid-with_tail, base_from_authority, hierarchical, special_has_authority}
use Rattle.fed_own.proofs.urls.Addresses.{IfHost}
use Rattle.fed_own.proofs.urls.Hosts.{IfPort, host_read, port_read}
use Rattle.fed_own.proofs.urls.Paths.{IsFull, path_read, start_read}

-- this holds of what is read, if anything is
abbrev pub IfParsed : (Parts → Type 0) → Parsed Parts → Type 0
IfParsed P (Ok url) = P url
IfParsed P (Err e) = ⊤

parsed_then : (P Q : Parts → Type 0) (o : Parsed Parts) (f : Parts → Parsed Parts) → ((url : Parts) → P url → IfParsed Q (f url))
    → IfParsed P o → IfParsed Q (and_then o f)
parsed_then P Q (Ok url) f h g = h url g
parsed_then P Q (Err e) f h g = tt

weaker : (P Q : Parts → Type 0) (o : Parsed Parts) → ((url : Parts) → P url → Q url) → IfParsed P o → IfParsed Q o
weaker P Q (Ok url) h g = h url g
weaker P Q (Err e) h g = tt

-- ---- the authority

abbrev IsHead : List ℕ → Parts → Type 0
IsHead scheme url = IsValidHead url × (url.scheme ≡ scheme)

pub some_host : (host : Host (List ℕ)) → IsHostOf SpecialNotFile host → is_empty_host host ≡ false
some_host (Host.Domain domain) h = is_empty_nonempty domain h.1
some_host (Host.Ipv4 address) h = refl
some_host (Host.Ipv6 address) h = refl

module _ (scheme : List ℕ) (is_scheme : IsScheme scheme) (special : scheme_type scheme ≡ SpecialNotFile) where
  head_valid : (username password : List ℕ) (host : Host (List ℕ)) (port : Option ℕ) → IsHostOf (scheme_type scheme) host
      → IfPort scheme (Ok port) → IsHead scheme (with_authority scheme username password host port)
  head_valid username password host port is_host is_port =
      (valid_with_authority scheme username password host port is_scheme is_host is_port (λ bare. absurd (no bare)), refl)
    where
      none : is_empty_host host ≡ false
      none = some_host host (subst (λ k. IsHostOf k host) special is_host)

      no : (is_empty_host host || is_file (scheme_type scheme)) ≡ true → ⊥
      no bare =
          let file : is_file (scheme_type scheme) ≡ false = ap is_file special in
          go (is_empty_host host) (is_file (scheme_type scheme)) none file bare
        where
          go : (a b : Bool) → a ≡ false → b ≡ false → (a || b) ≡ true → ⊥
          go true b x y z = false≢true (sym x)
          go false true x y z = false≢true (sym y)
          go false false x y z = false≢true z

  authority_read : (bytes : List ℕ) → IfParsed (IsHead scheme) (parse_authority scheme bytes)
  unfolding parse_authority
  authority_read bytes =
      cond_both (lacks_host at.0 host_port.0 host_port.1) _ _ (IfParsed (IsHead scheme)) (λ t. tt)
      (λ f. by_host (parse_host (scheme_type scheme) host_port.0) (host_read (scheme_type scheme) host_port.0 special))
    where
      at : Option (List ℕ) × List ℕ
      at = rsplit_once at_sign bytes

      host_port : List ℕ × Option (List ℕ)
      host_port = split_port at.1

      userinfo : List ℕ × Option (List ℕ)
      userinfo = split_once colon (unwrap_or at.0 [])

      by_port : (host : Host (List ℕ)) → IsHostOf (scheme_type scheme) host → (o : Parsed (Option ℕ)) → IfPort scheme o
          → IfParsed (IsHead scheme) (and_then o (λ port. Ok (with_authority scheme userinfo.0 (unwrap_or userinfo.1 []) host port)))
      by_port host is (Ok port) is_port = head_valid userinfo.0 (unwrap_or userinfo.1 []) host port is is_port
      by_port host is (Err e) is_port = tt

      by_host : (o : Parsed (Host (List ℕ))) → IfHost o
          → IfParsed (IsHead scheme) (and_then o (λ host. and_then (parse_port scheme (unwrap_or host_port.1 []))
          (λ port. Ok (with_authority scheme userinfo.0 (unwrap_or userinfo.1 []) host port))))
      by_host (Ok host) is =
          by_port host (subst (λ k. IsHostOf k host) (sym special) is) (parse_port scheme (unwrap_or host_port.1 []))
          (port_read scheme (unwrap_or host_port.1 []))
      by_host (Err e) is = tt

-- ---- head and path

abbrev IsBody : Parts → Type 0
IsBody url = IsValidHead url × IsValidPath url

with_full : (scheme : List ℕ) (head : Parts) (path : List ℕ) → IsHead scheme head → IsFull (scheme_type scheme) path
    → IsBody (with_path head path)
with_full scheme head path h full =
    let list = subst (λ s. IsSegmentList (scheme_type s) path) (sym h.1) full.0 in
    (IsValidHead_same head (with_path head path) refl h.0, inl (list, λ special. full.1))

double_slash_read : (scheme bytes : List ℕ) → IsScheme scheme → scheme_type scheme ≡ SpecialNotFile → All IsByte bytes
    → IfParsed IsBody (after_double_slash scheme bytes)
unfolding after_double_slash
double_slash_read scheme bytes is_scheme special all =
    parsed_then (IsHead scheme) IsBody (parse_authority scheme (take len bytes)) _
    (λ head h. with_full scheme head (parse_path_start (scheme_type scheme) [] (drop len bytes)) h
    (start_read (scheme_type scheme) [] (drop len bytes) (ap is_special special) (no_segments (scheme_type scheme))
    (All-drop IsByte len bytes all)))
    (authority_read scheme is_scheme special (take len bytes))
  where
    len : ℕ
    len = segment_len (scheme_type scheme) bytes

slashes_bytes : (kind : SchemeType) (body : List ℕ) → All IsByte body → All IsByte (after_slashes kind body)
slashes_bytes kind body all =
    cond_both (is_special kind) (skip_slashes body) (drop 2 body) (All IsByte) (λ t. All-drop IsByte _ body all)
    (λ f. All-drop IsByte 2 body all)

pub record IsBase (base : Parts) : Type 0 where
  pub valid : IsValid base
  pub special : kind_of base ≡ SpecialNotFile

base_segments : (base : Parts) → IsBase base → IsSegmentList (kind_of base) base.path
base_segments base b =
    (hierarchical base b.valid.path
    (base_from_authority base (special_has_authority base b.valid.head (ap is_special b.special)))).0

relative_read : (base : Parts) (body : List ℕ) → IsBase base → All IsByte body → IfParsed IsBody (parse_relative base body)
unfolding parse_relative
relative_read base body b all =
    cond_both (slashes == 2) _ _ (IfParsed IsBody)
    (λ t. double_slash_read base.scheme (after_slashes (kind_of base) body) b.valid.head.scheme b.special
    (slashes_bytes (kind_of base) body all))
    (λ f. with_full base.scheme start (parse_path (kind_of base) start.path (drop slashes body))
    (IsValidHead_same base start refl b.valid.head, refl)
    (path_read (kind_of base) start.path (drop slashes body) list (All-drop IsByte slashes body all)))
  where
    slashes : ℕ
    slashes = leading_slashes (kind_of base) body

    start : Parts
    start = inherit base (slashes == 0)

    list : IsSegmentList (kind_of base) start.path
    list =
        cond_both (slashes == 0) (shorten_path (kind_of base) base.path) [] (IsSegmentList (kind_of base))
        (λ t. shorten_valid (kind_of base) base.path (base_segments base b)) (λ f. no_segments (kind_of base))

-- ---- other schemes

abbrev HasScheme : List ℕ → Parts → Type 0
HasScheme scheme url = url.scheme ≡ scheme

authority_scheme : (scheme bytes : List ℕ) → IfParsed (HasScheme scheme) (parse_authority scheme bytes)
unfolding parse_authority
authority_scheme scheme bytes =
    cond_both (lacks_host at.0 host_port.0 host_port.1) _ _ (IfParsed (HasScheme scheme)) (λ t. tt)
    (λ f. by_host (parse_host (scheme_type scheme) host_port.0))
  where
    at : Option (List ℕ) × List ℕ
    at = rsplit_once at_sign bytes

    host_port : List ℕ × Option (List ℕ)
    host_port = split_port at.1

    userinfo : List ℕ × Option (List ℕ)
    userinfo = split_once colon (unwrap_or at.0 [])

    by_port : (host : Host (List ℕ)) (o : Parsed (Option ℕ))
        → IfParsed (HasScheme scheme) (and_then o (λ port. Ok (with_authority scheme userinfo.0 (unwrap_or userinfo.1 []) host port)))
    by_port host (Ok port) = refl
    by_port host (Err e) = tt

    by_host : (o : Parsed (Host (List ℕ)))
        → IfParsed (HasScheme scheme) (and_then o (λ host. and_then (parse_port scheme (unwrap_or host_port.1 []))
        (λ port. Ok (with_authority scheme userinfo.0 (unwrap_or userinfo.1 []) host port))))
    by_host (Ok host) = by_port host (parse_port scheme (unwrap_or host_port.1 []))
    by_host (Err e) = tt

non_special_scheme : (scheme body : List ℕ) → IfParsed (HasScheme scheme) (parse_non_special scheme body)
unfolding parse_non_special after_double_slash
non_special_scheme scheme body =
    cond_both (leading_slashes NotSpecial body == 2) _ _ (IfParsed (HasScheme scheme))
    (λ t. parsed_then (HasScheme scheme) (HasScheme scheme)
    (parse_authority scheme (take (segment_len (scheme_type scheme) (drop 2 body)) (drop 2 body))) _ (λ head h. h)
    (authority_scheme scheme (take (segment_len (scheme_type scheme) (drop 2 body)) (drop 2 body))))
    (λ f. cond_both (leading_slashes NotSpecial body == 1) _ _ (IfParsed (HasScheme scheme)) (λ t. refl) (λ g. refl))

file_scheme : (body : List ℕ) → IfParsed (HasScheme (codes "file")) (parse_file None body)
unfolding parse_file after_file_double_slash
file_scheme body =
    cond_both (slashes == 2) _ _ (IfParsed (HasScheme (codes "file")))
    (λ t. cond_both (is_windows_drive_letter (take (segment_len File rest) rest)) _ _ (IfParsed (HasScheme (codes "file")))
    (λ u. refl) (λ u. by_host (parse_file_host (take (segment_len File rest) rest)))) (λ f. refl)
  where
    slashes : ℕ
    slashes = leading_slashes File body

    rest : List ℕ
    rest = drop slashes body

    by_host : (o : Parsed (Host (List ℕ)))
        → IfParsed (HasScheme (codes "file")) (and_then o (λ host. Ok (with_path (file_with_host host)
        (parse_path_start File [] (drop (segment_len File rest) rest)))))
    by_host (Ok host) = refl
    by_host (Err e) = tt

-- ---- the whole

-- a URL with a special scheme has a valid body, or is valid
abbrev SpecialBody : Parts → Type 0
SpecialBody url = kind_of url ≡ SpecialNotFile → IsBody url

abbrev pub SpecialValid : Parts → Type 0
SpecialValid url = kind_of url ≡ SpecialNotFile → IsValid url

abbrev IsBaseOf : List ℕ → Parts → Type 0
IsBaseOf scheme base = IsBase base × (base.scheme ≡ scheme)

other_kind : (scheme : List ℕ) (test : SchemeType → Bool) → test (scheme_type scheme) ≡ false → test SpecialNotFile ≡ true → (url : Parts)
    → HasScheme scheme url → SpecialBody url
other_kind scheme test fails passes url is kind =
    absurd (both_ways (test (scheme_type scheme)) fails (ap (λ s. test (scheme_type s)) (sym is) ∙ ap test kind ∙ passes))

kind_is : (kind : SchemeType) → is_special kind ≡ true → is_file kind ≡ false → kind ≡ SpecialNotFile
kind_is SchemeType.File special file = absurd (false≢true (sym file))
kind_is SchemeType.SpecialNotFile special file = refl
kind_is SchemeType.NotSpecial special file = absurd (false≢true special)

not_file_read : (scheme : List ℕ) (base : Option Parts) (body : List ℕ) → IsScheme scheme → IfSome base (IsBaseOf scheme) → All IsByte body
    → is_file (scheme_type scheme) ≡ false → IfParsed SpecialBody (parse_not_file scheme base body)
not_file_read scheme (Some base) body is_scheme b all file =
    weaker IsBody SpecialBody (parse_relative base body) (λ url h kind. h) (relative_read base body b.0 all)
not_file_read scheme None body is_scheme b all file =
    cond_both (is_special (scheme_type scheme)) _ _ (IfParsed SpecialBody)
    (λ special. weaker IsBody SpecialBody (after_double_slash scheme (skip_slashes body)) (λ url h kind. h)
    (double_slash_read scheme (skip_slashes body) is_scheme (kind_is (scheme_type scheme) special file) (All-drop IsByte _ body all)))
    (λ other. weaker (HasScheme scheme) SpecialBody (parse_non_special scheme body) (other_kind scheme is_special other refl)
    (non_special_scheme scheme body))

file_read : (scheme : List ℕ) (base : Option Parts) (body : List ℕ) → IfSome base (IsBaseOf scheme) → is_file (scheme_type scheme) ≡ true
    → IfParsed SpecialBody (parse_file base body)
file_read scheme (Some base) body b file =
    absurd (false≢true (sym (ap is_file (sym (ap scheme_type b.1) ∙ b.0.special)) ∙ file))
file_read scheme None body b file =
    weaker (HasScheme (codes "file")) SpecialBody (parse_file None body)
    (other_kind (codes "file") (λ kind. not (is_file kind)) (ap (λ kind. not (is_file kind)) scheme_type_file) refl) (file_scheme body)

body_read : (scheme : List ℕ) (base : Option Parts) (body : List ℕ) → IsScheme scheme → IfSome base (IsBaseOf scheme) → All IsByte body
    → IfParsed SpecialBody (parse_body scheme base body)
unfolding parse_body
body_read scheme base body is_scheme b all =
    cond_both (is_file (scheme_type scheme)) _ _ (IfParsed SpecialBody) (λ file. file_read scheme base body b file)
    (λ file. not_file_read scheme base body is_scheme b all file)

all_read : (scheme : List ℕ) (base : Option Parts) (body : List ℕ) (query fragment : Option (List ℕ)) → IsScheme scheme
    → IfSome base (IsBaseOf scheme) → All IsByte body → IfParsed SpecialValid (parse_all scheme base body query fragment)
all_read scheme base body query fragment is_scheme b all =
    parsed_then SpecialBody SpecialValid (parse_body scheme base body) _ tail (body_read scheme base body is_scheme b all)
  where
    tail : (url : Parts) → SpecialBody url → SpecialValid (with_tail (before_tail url query fragment) query fragment)
    tail url h kind =
        let same : (before_tail url query fragment).scheme ≡ url.scheme =
        cond_both (not (is_special (kind_of url)) && (is_some query || is_some fragment)) _ _ (λ (u : Parts). u.scheme ≡ url.scheme)
        (λ t. refl) (λ f. refl) in
        let own : kind_of url ≡ SpecialNotFile = sym (ap scheme_type same) ∙ kind in
        let whole = h own in
        subst (λ u. IsValid (with_tail u query fragment)) (sym (before_special url query fragment (ap is_special own)))
        (IsValid-with_tail url query fragment whole.0 whole.1)

parts_read : (scheme : List ℕ) (base : Option Parts) (body : List ℕ) (query fragment : Option (List ℕ)) → IsScheme scheme
    → IfSome base (IsBaseOf scheme) → All IsByte body → IfParsed SpecialValid (parse_parts scheme base body query fragment)
unfolding parse_parts
parts_read scheme None body query fragment is_scheme b all = all_read scheme None body query fragment is_scheme tt all
parts_read scheme (Some base) body query fragment is_scheme b all =
    cond_both (is_empty body) _ _ (IfParsed SpecialValid)
    (λ t kind. IsValid-with_tail base (option_or query base.query) fragment b.0.valid.head b.0.valid.path)
    (λ f. all_read scheme (Some base) body query fragment is_scheme b all)

-- ---- the scheme

abbrev pub IfBase : Option Parts → Type 0
IfBase base = IfSome base IsBase

own_base : (base : Option Parts) (scheme : List ℕ) → IfBase base → IfSome (base_for_scheme base scheme) (IsBaseOf scheme)
own_base None scheme b = tt
own_base (Some base) scheme b =
    cond_both (is_special (kind_of base) && bytes_eq base.scheme scheme) (Some base) None (λ o. IfSome o (IsBaseOf scheme))
    (λ t. (b, (bytes_eq-Decides base.scheme scheme).0 (and_parts (is_special (kind_of base)) (bytes_eq base.scheme scheme) t).1)) (λ f. tt)

-- what is split off is a scheme, and bytes follow it
abbrev IsSplit : List ℕ × List ℕ → Type 0
IsSplit s = IsScheme (lowercase s.0) × All IsByte s.1

split_read : (bytes : List ℕ) → All IsByte bytes → IfSome (split_scheme bytes) IsSplit
unfolding split_scheme
split_read bytes all =
    cond_both (nat_lt 0 (scheme_len bytes) && (slice_index bytes (scheme_len bytes) == colon)) _ _
    (λ o. IfSome o IsSplit)
    (λ t. (
      (scheme_at_front bytes (scheme_len bytes) refl (ltb-true 0 (scheme_len bytes) (and_parts (nat_lt 0 (scheme_len bytes)) _ t).0)).1,
      All-drop IsByte (scheme_len bytes + 1) bytes all,
    )) (λ f. tt)

by_scheme_read : (split : Option (List ℕ × List ℕ)) (base : Option Parts) (body : List ℕ) (query fragment : Option (List ℕ))
    → IfSome split IsSplit → IfBase base → All IsByte body
    → IfParsed SpecialValid (parse_by_scheme split base body query fragment)
by_scheme_read (Some split) base body query fragment s b all =
    parts_read (lowercase split.0) (base_for_scheme base (lowercase split.0)) split.1 query fragment s.0
    (own_base base (lowercase split.0) b) s.1
by_scheme_read None None body query fragment s b all = tt
by_scheme_read None (Some base) body query fragment s b all =
    cond_both (cannot_be_a_base base && not (is_fragment_only body query fragment)) _ _ (IfParsed SpecialValid) (λ t. tt)
    (λ f. parts_read base.scheme (Some base) body query fragment b.valid.head.scheme (b, refl) all)

-- ---- the input

filter_bytes : (test : ℕ → Bool) (xs : List ℕ) → All IsByte xs → All IsByte (filter test xs)
filter_bytes test [] all = all
filter_bytes test (x ∷ xs) all = go (test x) (filter_bytes test xs (All-tail IsByte x xs all))
  where
    go : (b : Bool) → All IsByte (filter test xs) → All IsByte (cond b (x ∷ filter test xs) (filter test xs))
    go true rest = All-cons IsByte x (filter test xs) (All-head IsByte x xs all) rest
    go false rest = rest

-- what stands before a separator, and what follows it
abbrev Halves : Type 0
Halves = List ℕ × Option (List ℕ)

front_bytes : (s : ℕ) (xs : List ℕ) → All IsByte xs → All IsByte (split_once s xs).0
unfolding split_once
front_bytes s [] all = all
front_bytes s (x ∷ xs) all = go (x == s) (split_once s xs) (front_bytes s xs (All-tail IsByte x xs all))
  where
    go : (b : Bool) (later : Halves) → All IsByte later.0 → All IsByte (cond {A = Halves} b ([], Some xs) (x ∷ later.0, later.1)).0
    go true later rest = All-nil IsByte
    go false later rest = All-cons IsByte x later.0 (All-head IsByte x xs all) rest

stripped_bytes : (xs : List ℕ) → All IsByte xs → All IsByte (strip_tabs_and_new_lines (trim_c0_control_and_space xs))
unfolding strip_tabs_and_new_lines trim_c0_control_and_space
stripped_bytes xs all =
    filter_bytes (λ b. not (is_tab_or_new_line b)) (trim_c0_control_and_space xs)
    (All-take IsByte _ _ (All-drop IsByte _ xs all))

pub url_read : (base : Option Parts) (input : List ℕ) → IfBase base → All IsByte input → IfParsed SpecialValid (parse_url base input)
unfolding parse_url
url_read base input b all =
    by_scheme_read (split_scheme question.0) base question.0 question.1 hash.1 (split_read question.0 bytes) b bytes
  where
    hash : List ℕ × Option (List ℕ)
    hash = split_once number_sign (strip_tabs_and_new_lines (trim_c0_control_and_space input))

    question : List ℕ × Option (List ℕ)
    question = split_once question_mark hash.0

    bytes : All IsByte question.0
    bytes =
        front_bytes question_mark hash.0
        (front_bytes number_sign (strip_tabs_and_new_lines (trim_c0_control_and_space input)) (stripped_bytes input all))

-- a URL with a special scheme other than `file` that is read of bytes is valid
pub read_valid : (input : List ℕ) (url : Parts) → All IsByte input → parse_url None input ≡ Ok url → kind_of url ≡ SpecialNotFile
    → IsValid url
read_valid input url all is kind = subst (IfParsed SpecialValid) is (url_read None input tt all) kind

-- so is one that is read against such a one
pub joined_valid : (base : Parts) (input : List ℕ) (url : Parts) → IsValid base → kind_of base ≡ SpecialNotFile → All IsByte input
    → parse_url (Some base) input ≡ Ok url → kind_of url ≡ SpecialNotFile → IsValid url
joined_valid base input url valid special all is kind =
    subst (IfParsed SpecialValid) is (url_read (Some base) input (record { valid = valid; special = special }) all) kind
