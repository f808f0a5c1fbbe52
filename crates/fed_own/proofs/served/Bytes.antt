-- Hosts, origins, numbers and targets have bytes that a head takes.
use Rattle.std.proofs.Common.{◌≡◌, ℕ, zero, suc, ◌+◌, ◌/◌, ◌%◌, ◌<◌, Bool, true, false, cond, ◌&&◌, ◌==◌, nat_lt, List, [], ◌∷◌, ◌++◌, All}
use Rattle.std.proofs.Common.{length, reverse, refl, sym, ap, subst, ◌∙◌, arith, decimal, codes}
use Rattle.std.specs.Fmt.{digit_glyph, digits, digits_onto}
use Rattle.std.specs.List.{AllByRecursion, list_all}
use Rattle.std.proofs.lemmas.Bool.{and_from, and_parts, cond-true, cond_both, lt-ltb, ltb-true}
use Rattle.std.proofs.lemmas.Bool.Decides.{nat_tests}
use Rattle.std.proofs.lemmas.List.{reverse-append}
use Rattle.std.proofs.lemmas.List.Elements.{All-head, All-tail}
use Rattle.httparse.specs.Grammar.{is_ows, is_uri_byte, is_value_byte, skip_ows, trim_ows}
use Rattle.percent_encoding.specs.declared.ascii_set.AsciiSet.{AsciiSet}
use Rattle.percent_encoding.specs.Percent.{IsKept}
use Rattle.percent_encoding.proofs.AsciiSetLemmas.{ascii_from_kept}
use Rattle.url.specs.Parts.{Parts, host_or_empty, kind_of}
use Rattle.url.specs.Scheme.{is_special}
use Rattle.url.proofs.HostRoundTrip.{IsHostByte, host_text_plain}
use Rattle.url.proofs.SetLemmas.{outside_pass, passes_from_kept}
use Rattle.url.proofs.SetterLemmas.{own_host}
use Rattle.url.proofs.ValidLemmas.{special_has_authority}
use Rattle.fed_origin.specs.declared.origin.Origin.{Origin}
use Rattle.fed_origin.specs.declared.scheme.Scheme.{Scheme}
use Rattle.fed_origin.specs.Origin.{origin_text, own_port, scheme_text, without_port}
use Rattle.fed_origin.specs.WebUrl.{host_of, origin_of}
use Rattle.fed_request.specs.Request.{host_field}
use Rattle.fed_own.specs.Request.{IsTarget, IsValue}
use Rattle.fed_own.proofs.plain.Lists.{twice}
use Rattle.fed_own.proofs.plain.Results.{all_both}
use Rattle.fed_own.proofs.plain.Sites.{low_text}
use Rattle.fed_own.proofs.plain.Web.{IsWeb, web_kind}
use Rattle.fed_own.proofs.walk.Does.{IsPage}

-- ---- ink: bytes of ASCII that are seen

pub record IsInk (b : ℕ) : Type 0 where
  pub above : 32 < b
  pub below : b < 127

abbrev pub AreInk : List ℕ → Type 0
AreInk = AllByRecursion IsInk

abbrev is_ink : ℕ → Bool
is_ink b = nat_lt 32 b && nat_lt b 127

tested_ink : (xs : List ℕ) → list_all is_ink xs ≡ true → AreInk xs
tested_ink [] is = tt
tested_ink (x ∷ xs) is =
    let both = and_parts (is_ink x) (list_all is_ink xs) is in
    let own = and_parts (nat_lt 32 x) (nat_lt x 127) both.0 in
    (record { above = ltb-true 32 x own.0; below = ltb-true x 127 own.1 }, tested_ink xs both.1)

ink_value : (b : ℕ) → IsInk b → is_value_byte b ≡ true
ink_value b ink = let h = ink.above in let g = ink.below in grind (arith, nat_tests)

ink_solid : (b : ℕ) → IsInk b → is_ows b ≡ false
ink_solid b ink = let h = ink.above in let g = ink.below in grind (arith, nat_tests)

skipped : (xs : List ℕ) → AreInk xs → skip_ows xs ≡ xs
skipped [] ink = refl
skipped (x ∷ xs) ink = ap (λ t. cond t (skip_ows xs) (x ∷ xs)) (ink_solid x ink.0)

reversed : (xs : List ℕ) → AreInk xs → AreInk (reverse xs)
reversed [] ink = tt
reversed (x ∷ xs) ink =
    subst AreInk (sym (reverse-append (x ∷ []) xs)) (all_both IsInk (reverse xs) (x ∷ []) (reversed xs ink.1) (ink.0, tt))

visible : (xs : List ℕ) → AreInk xs → list_all is_value_byte xs ≡ true
visible [] ink = refl
visible (x ∷ xs) ink = and_from (is_value_byte x) (list_all is_value_byte xs) (ink_value x ink.0) (visible xs ink.1)

pub ink_is_value : (xs : List ℕ) → AreInk xs → IsValue xs
unfolding trim_ows
ink_is_value xs ink =
    record {
      visible = visible xs ink;
      trimmed =
          ap (λ l. reverse (skip_ows (reverse l))) (skipped xs ink) ∙ ap reverse (skipped (reverse xs) (reversed xs ink)) ∙ twice xs;
    }

-- ---- numbers

glyph_ink : (d : ℕ) → d < 10 → IsInk (digit_glyph false d)
glyph_ink d small = subst IsInk (sym (cond-true (nat_lt d 10) (48 + d) _ (lt-ltb d 10 small)))
    (record { above = omega arith; below = omega (arith, small) })

onto_ink : (k n : ℕ) (xs : List ℕ) → AreInk xs → AreInk (digits_onto k 10 false n xs)
onto_ink zero n xs ink = ink
onto_ink (suc k) n xs ink =
    let own : AreInk (digit_glyph false (n % 10) ∷ xs) = (glyph_ink (n % 10) (omega arith), ink) in
    cond_both (n / 10 == 0) _ _ AreInk (λ t. own) (λ f. onto_ink k (n / 10) (digit_glyph false (n % 10) ∷ xs) own)

pub number_ink : (n : ℕ) → AreInk (decimal n)
unfolding digits
number_ink n = onto_ink 64 n [] tt

-- ---- hosts and origins

host_ink : (xs : List ℕ) → All IsHostByte xs → AreInk xs
host_ink [] all = tt
host_ink (x ∷ xs) all =
    let own = All-head IsHostByte x xs all in
    (record { above = own.above; below = own.below }, host_ink xs (All-tail IsHostByte x xs all))

pub own_ink : (url : Parts) → IsWeb url → AreInk (host_of url)
own_ink url web =
    host_ink (host_of url)
    (host_text_plain (kind_of url) (host_or_empty url)
    (own_host url web.valid.head (special_has_authority url web.valid.head (ap is_special (web_kind url web)))))

with_number : (xs : List ℕ) (n : ℕ) → AreInk xs → AreInk (xs ++ (codes ":" ++ decimal n))
with_number xs n ink =
    all_both IsInk xs (codes ":" ++ decimal n) ink
    (all_both IsInk (codes ":") (decimal n) (tested_ink (codes ":") refl) (number_ink n))

pub field_ink : (url : Parts) → IsWeb url → AreInk (host_field url)
field_ink url web =
    cond_both ((origin_of url).port == 443) _ _ AreInk (λ t. own_ink url web)
    (λ f. with_number (host_of url) (origin_of url).port (own_ink url web))

pub field_value : (url : Parts) → IsWeb url → IsValue (host_field url)
field_value url web = ink_is_value (host_field url) (field_ink url web)

scheme_ink : (scheme : Scheme) → AreInk (scheme_text scheme)
scheme_ink Scheme.Http = tested_ink (codes "http") refl
scheme_ink Scheme.Https = tested_ink (codes "https") refl

origin_ink : (o : Origin) → AreInk o.host → AreInk (origin_text o)
origin_ink o host =
    cond_both (o.port == own_port o.scheme) _ _ AreInk (λ t. front) (λ f. with_number (without_port o) o.port front)
  where
    front : AreInk (without_port o)
    front =
        all_both IsInk (scheme_text o.scheme ++ codes "://") o.host
        (all_both IsInk (scheme_text o.scheme) (codes "://") (scheme_ink o.scheme) (tested_ink (codes "://") refl)) host

pub page_ink : (o : Origin) → IsPage o → AreInk (origin_text o)
page_ink o p = origin_ink o (subst AreInk (sym (ap (λ q. q.host) p.is)) (own_ink p.url p.web))

pub origin_value : (o : Origin) → IsPage o → IsValue (origin_text o)
origin_value o p = ink_is_value (origin_text o) (page_ink o p)

-- ---- targets

-- a byte that a target may have, of ASCII
pub record IsUri (b : ℕ) : Type 0 where
  pub uri : is_uri_byte b ≡ true
  pub low : b < 128

abbrev pub AreUri : List ℕ → Type 0
AreUri = AllByRecursion IsUri

pub kept_uri : (set : AsciiSet) → outside_pass set is_uri_byte ≡ true → (xs : List ℕ) → All (IsKept set) xs → AreUri xs
kept_uri set test [] all = tt
kept_uri set test (x ∷ xs) all =
    let own = All-head (IsKept set) x xs all in (
      record { uri = passes_from_kept set is_uri_byte test x own; low = ascii_from_kept set x own },
      kept_uri set test xs (All-tail (IsKept set) x xs all),
    )

uri_test : (xs : List ℕ) → AreUri xs → list_all is_uri_byte xs ≡ true
uri_test [] all = refl
uri_test (x ∷ xs) all = and_from (is_uri_byte x) (list_all is_uri_byte xs) all.0.uri (uri_test xs all.1)

pub uri_low : (xs : List ℕ) → AreUri xs → AllByRecursion (λ b. b < 128) xs
uri_low [] all = tt
uri_low (x ∷ xs) all = (all.0.low, uri_low xs all.1)

pub uri_target : (xs : List ℕ) → 0 < length xs → AreUri xs → IsTarget xs
uri_target xs some all = record { some = some; visible = uri_test xs all; utf8 = low_text xs (uri_low xs all) }
