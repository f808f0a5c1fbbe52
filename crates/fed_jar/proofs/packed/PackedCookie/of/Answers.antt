use Rattle.std.proofs.Common.{◌∷◌, ◌++◌, sym, ap, ap₂, ◌∙◌, subst}
use Rattle.fed_cookie.specs.SetCookie.{HasNoLineEnd}
use Rattle.fed_jar.specs.Cookie.{StoredCookie}
use Rattle.fed_jar.specs.Packed.{expiry_in}
use Rattle.fed_jar.proofs.texts.Texts.{ArePlaced, placed, expiry_kept}
use Rattle.fed_jar.proofs.packed.PackedCookie.of.Goals as goal

pub invariant_of-result : goal.invariant_of-result
invariant_of-result c =
    let lent = c.cookie.inside in
    let texts = c.in_ok-joined.ensures ∙ sym (ap (λ (k : StoredCookie). k.path ++ k.domain ++ k.name ++ 61 ∷ k.value) c.cookie.view_is) in
    let at : ArePlaced c.in_ok-joined.field-0 lent.path.now lent.domain.now lent.name.now lent.value.now c.in_ok-path_end.path_end
    c.in_ok-domain_end.domain_end c.in_ok-name_end.name_end =
    placed _ _ _ _ _ _ _ _ texts c.in_ok-path_end.ensures c.in_ok-domain_end.ensures c.in_ok-name_end.ensures in
    (at.ends, subst HasNoLineEnd (sym at.name_is) c.cookie.invariant.0, subst HasNoLineEnd (sym at.value_is) c.cookie.invariant.1)

pub returns : goal.returns
returns c =
    let lent = c.cookie.inside in
    let texts = c.in_ok-joined.ensures ∙ sym (ap (λ (k : StoredCookie). k.path ++ k.domain ++ k.name ++ 61 ∷ k.value) c.cookie.view_is) in
    let at : ArePlaced c.in_ok-joined.field-0 lent.path.now lent.domain.now lent.name.now lent.value.now c.in_ok-path_end.path_end
    c.in_ok-domain_end.domain_end c.in_ok-name_end.name_end =
    placed _ _ _ _ _ _ _ _ texts c.in_ok-path_end.ensures c.in_ok-domain_end.ensures c.in_ok-name_end.ensures in
    let expiry = ap₂ expiry_in c.is_some.ensures c.unwrap_or.ensures ∙ expiry_kept lent.expiry in
    (λ i. record {
      name = at.name_is i;
      value = at.value_is i;
      domain = at.domain_is i;
      host_only = lent.host_only;
      path = at.path_is i;
      expiry = expiry i;
      secure = lent.secure;
      same_site = lent.same_site;
    })
    ∙ c.cookie.view_is
