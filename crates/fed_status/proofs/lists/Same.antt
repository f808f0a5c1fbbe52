-- Equal origins and permissions are the same.
use Rattle.std.proofs.Common.{◌≡◌, true, sym, refl, subst}
use mathlib.Core.Bool.{true≢false}
use Rattle.std.specs.Bool.{Decides}
use Rattle.std.proofs.lemmas.Bool.Decides.{Decides-and, Decides-eqb, same_from_decides}
use Rattle.std.proofs.lemmas.Slice.Eq.{bytes_eq-Decides}
use Rattle.fed_origin.specs.declared.origin.Origin.{Origin}
use Rattle.fed_origin.specs.declared.scheme.Scheme.{Scheme}
use Rattle.fed_origin.specs.declared.scheme.Scheme.TheVariants.{Http, Https}
use Rattle.fed_origin.specs.declared.status.Triple.{Triple}
use Rattle.fed_origin.specs.Origin.{same_origin, same_scheme}
use Rattle.fed_origin.specs.Status.{same_triple}

same_scheme-Decides : (a b : Scheme) → Decides (same_scheme a b) (a ≡ b)
same_scheme-Decides Http Http = (λ e. refl, λ e. refl)
same_scheme-Decides Https Https = (λ e. refl, λ e. refl)
same_scheme-Decides Http Https = (λ e. absurd (true≢false (sym e)), λ e. cc)
same_scheme-Decides Https Http = (λ e. absurd (true≢false (sym e)), λ e. cc)

pub same_origin_is : (a b : Origin) → same_origin a b ≡ true → a ≡ b
same_origin_is a b e =
    let d =
    Decides-and _ _ (Decides-and _ _ (same_scheme-Decides a.scheme b.scheme) (bytes_eq-Decides a.host b.host))
    (Decides-eqb a.port b.port) in
    let t = d.0 e in
    λ i. record { scheme = t.0.0 i; host = t.0.1 i; port = t.1 i }

pub same_origin_self : (a : Origin) → same_origin a a ≡ true
same_origin_self a =
    let d =
    Decides-and _ _ (Decides-and _ _ (same_scheme-Decides a.scheme a.scheme) (bytes_eq-Decides a.host a.host))
    (Decides-eqb a.port a.port) in
    d.1 ((refl, refl), refl)

pub same_origin-Decides : (a b : Origin) → Decides (same_origin a b) (a ≡ b)
same_origin-Decides a b = (same_origin_is a b, λ e. subst (λ o. same_origin a o ≡ true) e (same_origin_self a))

pub same_triple_is : (a b : Triple) → same_triple a b ≡ true → a ≡ b
same_triple_is a b e =
    let d =
    Decides-and _ _ (same_origin-Decides a.page b.page)
    (Decides-and _ _ (same_origin-Decides a.provider b.provider) (bytes_eq-Decides a.account b.account)) in
    let t = d.0 e in
    λ i. record { page = t.0 i; provider = t.1.0 i; account = t.1.1 i }

pub same_triple_self : (a : Triple) → same_triple a a ≡ true
same_triple_self a =
    let d =
    Decides-and _ _ (same_origin-Decides a.page a.page)
    (Decides-and _ _ (same_origin-Decides a.provider a.provider) (bytes_eq-Decides a.account a.account)) in
    d.1 (refl, (refl, refl))

pub same_triple_flips : (a b : Triple) → same_triple a b ≡ same_triple b a
same_triple_flips a b = same_from_decides (same_triple a b) (same_triple b a)
    ((same_triple_is a b, λ e. subst (λ t. same_triple a t ≡ true) e (same_triple_self a)))
    ((λ e. sym (same_triple_is b a e)), (λ e. subst (λ t. same_triple t a ≡ true) e (same_triple_self a)))
