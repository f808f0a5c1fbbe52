-- What is read as an address has parts of as many bits as it should.
use Rattle.std.proofs.Common.{◌≡◌, ℕ, zero, suc, ◌+◌, ◌*◌, ◌-◌, ◌^◌, ◌<◌, ◌≤◌, Bool, true, false, cond, ◌==◌, List, [], ◌∷◌, ◌++◌, length}
use Rattle.std.proofs.Common.{get_or, replicate, Option, Some, None, refl, sym, ap, subst, ◌∙◌, inl, inr, arith, length-append}
use Rattle.std.specs.Prelude.{⊤, slice_index}
use Rattle.std.specs.List.{AllByRecursion}
use Rattle.std.specs.Int.{to_be_bytes, w32}
use Rattle.std.specs.Net.Addr.{segments_of}
use Rattle.std.specs.Net.Grammar.{IsColonHex, IsElided, IsGroup, IsGroupsAfter}
use Rattle.std.specs.Net.Reader.{read_ipv6, whole_value}
use Rattle.std.specs.Str.Parse.{digits_value}
use Rattle.std.proofs.NetLemmas.Ipv6.{read_ipv6_sound}
use Rattle.std.proofs.lemmas.Int.Digits.{digits_value-lt}
use Rattle.std.proofs.lemmas.List.{length-replicate}
use Rattle.url.specs.declared.error.ParseError.{ParseError}
use Rattle.url.specs.declared.host.Host.{Host}
use Rattle.url.specs.declared.scheme.SchemeType.TheVariants.{SpecialNotFile}
use Rattle.url.specs.Host.{IsHostOf, ipv4_host, ipv6_host}
use Rattle.std.specs.Prelude.{Result, Ok, Err}

-- what is read is a host of a special URL, if anything is
abbrev pub IfHost : Result (Host (List ℕ)) ParseError → Type 0
IfHost (Ok host) = IsHostOf SpecialNotFile host
IfHost (Err e) = ⊤

-- ---- IPv4

octets_fit : (bits k : ℕ) → slice_index (to_be_bytes w32 bits) k < 2 ^ 8
octets_fit bits zero = omega arith
octets_fit bits (suc zero) = omega arith
octets_fit bits (suc (suc zero)) = omega arith
octets_fit bits (suc (suc (suc zero))) = omega arith
octets_fit bits (suc (suc (suc (suc k)))) = omega arith

pub v4_host : (o : Option ℕ) → IfHost (ipv4_host o)
v4_host None = tt
v4_host (Some bits) = (refl, octets_fit bits)

-- ---- IPv6

abbrev Fit : List ℕ → Type 0
Fit = AllByRecursion (λ s. s < 2 ^ 16)

pow_le : (n : ℕ) → n ≤ 4 → 16 ^ n ≤ 65536
pow_le zero few = omega arith
pow_le (suc zero) few = omega arith
pow_le (suc (suc zero)) few = omega arith
pow_le (suc (suc (suc zero))) few = omega arith
pow_le (suc (suc (suc (suc zero)))) few = omega arith
pow_le (suc (suc (suc (suc (suc n))))) few = absurd (omega (arith, few))

group_fits : (text : List ℕ) (s : ℕ) → IsGroup text s → s < 2 ^ 16
group_fits text s is =
    let low = digits_value-lt 16 text is.0.0.1 in
    let few = pow_le (length text) is.1 in
    let same : digits_value 16 text ≡ s = is.0.1 in
    omega (arith, low, few, same)

groups_fit : (ipv4 : Bool) (lead text segments : List ℕ) → IsGroupsAfter ipv4 lead text segments → Fit segments
groups_fit ipv4 lead text [] is = tt
groups_fit ipv4 lead text (s ∷ segments) (inl g) =
    (group_fits g.0 s g.3, groups_fit ipv4 _ g.1 segments g.4)
groups_fit ipv4 lead text (s ∷ segments) (inr g) =
    let dotted = g.4 in
    let fit = dotted.fit in
    let same : s ∷ segments ≡ (dotted.a * 256 + dotted.b) ∷ (dotted.c * 256 + dotted.d) ∷ [] = g.5 ∙ ap segments_of dotted.value in
    subst Fit (sym same) (omega (arith, fit.0, fit.1), (omega (arith, fit.2, fit.3), tt))

both_fit : (xs ys : List ℕ) → Fit xs → Fit ys → Fit (xs ++ ys)
both_fit [] ys a b = b
both_fit (x ∷ xs) ys a b = (a.0, both_fit xs ys a.1 b)

zeros_fit : (n : ℕ) → Fit (replicate n 0)
zeros_fit zero = tt
zeros_fit (suc n) = (omega arith, zeros_fit n)

fit_at : (xs : List ℕ) (k : ℕ) → Fit xs → get_or xs k 0 < 2 ^ 16
fit_at [] k fit = omega arith
fit_at (x ∷ xs) zero fit = fit.0
fit_at (x ∷ xs) (suc k) fit = fit_at xs k fit.1

record AreSegments (segments : List ℕ) : Type 0 where
  eight : length segments ≡ 8
  fit : Fit segments

elided : (text segments : List ℕ) → IsElided text segments → AreSegments segments
elided text segments e =
    let zeros : List ℕ = replicate (8 - length e.head - length e.tail) 0 in
    let len : length ((e.head ++ zeros) ++ e.tail) ≡ 8 =
    omega (
      arith,
      length-append (e.head ++ zeros) e.tail,
      length-append e.head zeros,
      length-replicate {A = ℕ} (8 - length e.head - length e.tail) 0,
      e.room,
    ) in
    let fit : Fit ((e.head ++ zeros) ++ e.tail) =
    both_fit (e.head ++ zeros) e.tail
    (both_fit e.head zeros (groups_fit _ _ e.head_text e.head e.head_groups) (zeros_fit (8 - length e.head - length e.tail)))
    (groups_fit _ _ e.tail_text e.tail e.tail_groups) in
    record { eight = ap length e.value ∙ len; fit = subst Fit (sym e.value) fit }

colon_hex : (text segments : List ℕ) → IsColonHex text segments → AreSegments segments
colon_hex text segments (inl g) = record { eight = g.1; fit = groups_fit _ _ text segments g.0 }
colon_hex text segments (inr e) = elided text segments e

pub v6_host : (text : List ℕ) → IfHost (ipv6_host (whole_value (read_ipv6 text)))
v6_host text = go (read_ipv6 text) refl
  where
    some : (segments rest : List ℕ) → read_ipv6 text ≡ Some (segments, rest) → (b : Bool)
        → IfHost (ipv6_host (cond b (Some segments) None))
    some segments rest is false = tt
    some segments rest is true =
        let read = read_ipv6_sound text segments rest is in
        let all = colon_hex read.0 segments read.2 in
        (all.eight, λ k. fit_at segments k all.fit)

    go : (r : Option (List ℕ × List ℕ)) → read_ipv6 text ≡ r → IfHost (ipv6_host (whole_value r))
    go None is = tt
    go (Some (segments, rest)) is = some segments rest is (length rest == 0)
