-- The host of a URL of the web is ASCII, and so are its site and its party.
use Rattle.std.proofs.Common.{ℕ, zero, suc, ◌+◌, ◌<◌, Bool, true, false, cond, nat_lt, not, ◌&&◌, List, [], ◌∷◌, ◌++◌, length, take}
use Rattle.std.proofs.Common.{reverse}
use Rattle.std.proofs.Common.{Option, Some, None, IsAscii, refl, sym, ap, subst, lit<}
use Rattle.std.specs.Prelude.{codes, unwrap_or, Result, Ok, Err}
use Rattle.std.specs.List.{AllByRecursion, join_with_byte, list_any, onto_first, slice_split}
use Rattle.std.specs.Str.{IsUtf8}
use Rattle.std.proofs.lemmas.Bool.{cond_both}
use Rattle.std.proofs.lemmas.List.{reverse-append}
use Rattle.std.proofs.lemmas.Str.{IsUtf8-append, IsUtf8-nil}
use Rattle.json.proofs.Printed.Utf8.{IsUtf8-are_ascii}
use Rattle.url.specs.Parts.{Parts, host_or_empty, kind_of}
use Rattle.url.specs.Scheme.{is_special}
use Rattle.url.proofs.HostLemmas.{IsAscii-host_text}
use Rattle.url.proofs.SetterLemmas.{own_host}
use Rattle.url.proofs.ValidLemmas.{special_has_authority}
use Rattle.fed_origin.specs.declared.host.HostKind.{HostKind}
use Rattle.fed_origin.specs.Host.{host_kind}
use Rattle.fed_origin.specs.declared.refusal.UrlRefusal.{UrlRefusal}
use Rattle.fed_origin.specs.WebUrl.{host_of, web_url}
use Rattle.fed_suffix.specs.Label.{is_dot, is_empty, labels_of, name_of}
use Rattle.fed_suffix.specs.Registrable.{matching, party, registrable, registrable_labels, registrable_of, suffix_len}
use Rattle.fed_suffix.specs.Rule.{RuleSet}
use Rattle.fed_provider.specs.WellKnown.{WellKnownUrlOf, of_site, url_of_site, wellknown_text}
use Rattle.fed_own.proofs.json.Strings.{one_more}
use Rattle.fed_own.proofs.json.Values.{IfSo}
use Rattle.fed_own.proofs.plain.Results.{IfOk, all_both, some_mapped}
use Rattle.fed_own.proofs.plain.Web.{IsWeb, read_web, web_kind}

-- ---- bytes of ASCII

abbrev pub AreLow : List ℕ → Type 0
AreLow = AllByRecursion (λ b. b < 128)

pub low_text : (xs : List ℕ) → AreLow xs → IsUtf8 xs
low_text [] low = IsUtf8-nil
low_text (x ∷ xs) low = one_more x xs low.0 (low_text xs low.1)

pub low_of : (xs : List ℕ) → IsAscii xs → AreLow xs
low_of [] ascii = tt
low_of (x ∷ xs) ascii = (ascii 0, low_of xs (λ i. ascii (suc i)))

pub host_low : (url : Parts) → IsWeb url → AreLow (host_of url)
host_low url web =
    low_of (host_of url)
    (IsAscii-host_text (kind_of url) (host_or_empty url)
    (own_host url web.valid.head (special_has_authority url web.valid.head (ap is_special (web_kind url web)))))

-- ---- names

abbrev AllLow : List (List ℕ) → Type 0
AllLow = AllByRecursion AreLow

onto_low : (x : ℕ) (xs : List (List ℕ)) → x < 128 → AllLow xs → AllLow (onto_first x xs)
onto_low x [] small low = ((small, tt), tt)
onto_low x (y ∷ xs) small low = ((small, low.0), low.1)

split_low : (xs : List ℕ) → AreLow xs → AllLow (slice_split is_dot xs)
split_low [] low = (tt, tt)
split_low (x ∷ xs) low = go (is_dot x) (split_low xs low.1)
  where
    go : (b : Bool) → AllLow (slice_split is_dot xs) → AllLow (cond b ([] ∷ slice_split is_dot xs) (onto_first x (slice_split is_dot xs)))
    go true rest = (tt, rest)
    go false rest = onto_low x (slice_split is_dot xs) low.0 rest

reversed_low : (xs : List (List ℕ)) → AllLow xs → AllLow (reverse xs)
reversed_low [] low = tt
reversed_low (x ∷ xs) low =
    subst AllLow (sym (reverse-append (x ∷ []) xs)) (all_both AreLow (reverse xs) (x ∷ []) (reversed_low xs low.1) (low.0, tt))

taken_low : (n : ℕ) (xs : List (List ℕ)) → AllLow xs → AllLow (take n xs)
taken_low zero xs low = tt
taken_low (suc n) [] low = tt
taken_low (suc n) (x ∷ xs) low = (low.0, taken_low n xs low.1)

joined_low : (xs : List (List ℕ)) → AllLow xs → AreLow (join_with_byte 46 xs)
joined_low [] low = tt
joined_low (x ∷ []) low = low.0
joined_low (x ∷ y ∷ xs) low =
    all_both (λ b. b < 128) x (46 ∷ join_with_byte 46 (y ∷ xs)) low.0 (lit< tt, joined_low (y ∷ xs) low.1)

labels_low : (rules : RuleSet) (name : List (List ℕ)) → AllLow name → IfSo AllLow (registrable_labels rules name)
labels_low rules name low =
    cond_both (nat_lt (suffix_len (matching rules name)) (length name) && not (list_any is_empty name))
    (Some (take (suffix_len (matching rules name) + 1) name)) None (IfSo AllLow)
    (λ t. taken_low (suffix_len (matching rules name) + 1) name low) (λ f. tt)

kind_low : (kind : HostKind) (rules : RuleSet) (host : List ℕ) → AreLow host → IfSo AreLow (registrable_of kind rules host)
kind_low HostKind.Name rules host low =
    some_mapped AllLow AreLow name_of (registrable_labels rules (labels_of host))
    (labels_low rules (labels_of host) (reversed_low (slice_split is_dot host) (split_low host low)))
    (λ labels all. joined_low (reverse labels) (reversed_low labels all))
kind_low HostKind.V4 rules host low = tt
kind_low HostKind.V6 rules host low = tt

registrable_low : (rules : RuleSet) (host : List ℕ) → AreLow host → IfSo AreLow (registrable rules host)
unfolding registrable
registrable_low rules host low = kind_low (host_kind host) rules host low

pub party_low : (rules : RuleSet) (host : List ℕ) → AreLow host → AreLow (party rules host)
unfolding party
party_low rules host low = go (registrable rules host) (registrable_low rules host low)
  where
    go : (o : Option (List ℕ)) → IfSo AreLow o → AreLow (unwrap_or o host)
    go None h = low
    go (Some site) h = h

-- ---- the well-known URL

front_low : AreLow (codes "https://")
front_low = (lit< tt, (lit< tt, (lit< tt, (lit< tt, (lit< tt, (lit< tt, (lit< tt, (lit< tt, tt))))))))

back_text : IsUtf8 (codes "/.well-known/web-identity")
back_text = IsUtf8-are_ascii (codes "/.well-known/web-identity") refl

site_text : (site : List ℕ) → AreLow site → IsUtf8 (wellknown_text site)
unfolding wellknown_text
site_text site low =
    IsUtf8-append (codes "https://" ++ site) (codes "/.well-known/web-identity")
    (IsUtf8-append (codes "https://") site (low_text (codes "https://") front_low) (low_text site low)) back_text

site_web : (o : Option (List ℕ)) → IfSo AreLow o → IfOk IsWeb (of_site o)
site_web None h = tt
site_web (Some site) h = go (web_url (wellknown_text site)) (read_web (wellknown_text site) (site_text site h))
  where
    go : (r : Result Parts UrlRefusal) → IfOk IsWeb r → IfOk IsWeb (url_of_site r)
    go (Ok url) web = web
    go (Err refusal) web = tt

pub wellknown_web : (rules : RuleSet) (config : Parts) → IsWeb config → IfOk IsWeb (WellKnownUrlOf rules config)
unfolding WellKnownUrlOf
wellknown_web rules config web = site_web (registrable rules (host_of config))
    (registrable_low rules (host_of config) (host_low config web))
