-- Which event brings an item.
use Rattle.std.proofs.Common.{◌≡◌, ◌↔◌, ℕ, Bool, true, false, Option, Some, None, refl, sym, ap, ap₂, ◌∙◌}
use Rattle.std.specs.Prelude.{option_and_then, option_map}
use Rattle.fed_origin.specs.declared.origin.Origin.{Origin}
use Rattle.fed_origin.specs.declared.status.LoginStatus.{LoginStatus}
use Rattle.fed_origin.specs.declared.status.Triple.{Triple}
use Rattle.fed_origin.specs.WebUrl.{origin_of}
use Rattle.fed_suffix.specs.Rule.{RuleSet}
use Rattle.fed_jar.specs.Cookie.{StoredCookie}
use Rattle.fed_script.specs.declared.event.Event.{Event}
use Rattle.fed_script.specs.declared.event.Event.TheVariants as events
use Rattle.fed_script.specs.declared.event.Have.{Have}
use Rattle.fed_script.specs.declared.event.Have.TheVariants as haves
use Rattle.fed_trace.specs.Row.{cookie_from}
use Rattle.fed_profile.specs.Again.{have_in, IsLogin, IsKept, IsFlag, IsCookie, IsPage}
use Rattle.fed_profile.specs.Item.{Item, LoginItem, KeptItem, FlagItem, CookieItem, PageItem, item_of, item_had, cookie_again}

abbrev pub is_page_item : Item → Bool
is_page_item (PageItem page o) = true
is_page_item (LoginItem o s) = false
is_page_item (KeptItem t) = false
is_page_item (FlagItem o) = false
is_page_item (CookieItem c) = false

pub some_item : (x y : Item) → Some x ≡ Some y → x ≡ y
some_item x y e = cc

-- a cookie is no other item
no_cookie : (o : Option StoredCookie) (item : Item) → ((c : StoredCookie) → CookieItem c ≡ item → ⊥) → option_map CookieItem o ≡ Some item
    → ⊥
no_cookie None item other is = absurd (cc)
no_cookie (Some c) item other is = other c (some_item (CookieItem c) item is)

module _ (rules : RuleSet) (now : ℕ) where
  abbrev brought : Option Event → Option Item
  brought e = option_and_then (item_of rules now) e

  -- an event of the time before a script brings what that says
  with_have : (e : Option Event) (h : Have) → have_in e ≡ Some h → brought e ≡ item_had rules now h
  with_have None h at = absurd (cc)
  with_have (Some (events.Have have)) h at = let same : have ≡ h = cc in ap (item_had rules now) same
  with_have (Some (events.Load page url raw)) h at = absurd (cc)
  with_have (Some (events.At time)) h at = absurd (cc)
  with_have (Some (events.ClosePage page)) h at = absurd (cc)
  with_have (Some (events.Get page call options)) h at = absurd (cc)
  with_have (Some (events.Abort call)) h at = absurd (cc)
  with_have (Some (events.GoOn call)) h at = absurd (cc)
  with_have (Some (events.Cancel call)) h at = absurd (cc)
  with_have (Some (events.SignIn call)) h at = absurd (cc)
  with_have (Some (events.ShutWindow call)) h at = absurd (cc)
  with_have (Some (events.Reply call provider kind raw)) h at = absurd (cc)
  with_have (Some (events.Choose call provider account)) h at = absurd (cc)
  with_have (Some (events.IdpClose page)) h at = absurd (cc)
  with_have (Some (events.Prevent page)) h at = absurd (cc)
  with_have (Some (events.SetStatus page status)) h at = absurd (cc)
  with_have (Some (events.Disconnect page call config client hint)) h at = absurd (cc)

  -- any other event brings a page at most
  page_at_most : (e : Option Event) (item : Item) → have_in e ≡ None → brought e ≡ Some item → is_page_item item ≡ true
  page_at_most None item at is = absurd (cc)
  page_at_most (Some (events.Have have)) item at is = absurd (cc)
  page_at_most (Some (events.Load page url None)) item at is = ap is_page_item (sym (some_item (PageItem page (origin_of url)) item is))
  page_at_most (Some (events.Load page url (Some raw))) item at is = absurd (cc)
  page_at_most (Some (events.At time)) item at is = absurd (cc)
  page_at_most (Some (events.ClosePage page)) item at is = absurd (cc)
  page_at_most (Some (events.Get page call options)) item at is = absurd (cc)
  page_at_most (Some (events.Abort call)) item at is = absurd (cc)
  page_at_most (Some (events.GoOn call)) item at is = absurd (cc)
  page_at_most (Some (events.Cancel call)) item at is = absurd (cc)
  page_at_most (Some (events.SignIn call)) item at is = absurd (cc)
  page_at_most (Some (events.ShutWindow call)) item at is = absurd (cc)
  page_at_most (Some (events.Reply call provider kind raw)) item at is = absurd (cc)
  page_at_most (Some (events.Choose call provider account)) item at is = absurd (cc)
  page_at_most (Some (events.IdpClose page)) item at is = absurd (cc)
  page_at_most (Some (events.Prevent page)) item at is = absurd (cc)
  page_at_most (Some (events.SetStatus page status)) item at is = absurd (cc)
  page_at_most (Some (events.Disconnect page call config client hint)) item at is = absurd (cc)

  none_has : (e : Option Event) (item : Item) → have_in e ≡ None → is_page_item item ≡ false → brought e ≡ Some item → ⊥
  none_has e item at other is = let page = page_at_most e item at is in absurd (cc)

  pub login_iff : (o : Origin) (s : LoginStatus) (e : Option Event) (h : Option Have) → have_in e ≡ h
      → IsLogin o s h ↔ (brought e ≡ Some (LoginItem o s))
  login_iff o s e None at = (λ x. absurd x, λ is. none_has e (LoginItem o s) at refl is)
  login_iff o s e (Some (haves.Login to said)) at = (
    λ x. with_have e (haves.Login to said) at ∙ ap₂ (λ a b. Some (LoginItem a b)) x.0 x.1,
    λ is.
        let same : LoginItem to said ≡ LoginItem o s =
        some_item (LoginItem to said) (LoginItem o s) (sym (with_have e (haves.Login to said) at) ∙ is) in
        (cc, cc),
  )
  login_iff o s e (Some (haves.Kept t)) at = (
    λ x. absurd x,
    λ is. let bad : Some (KeptItem t) ≡ Some (LoginItem o s) = sym (with_have e (haves.Kept t) at) ∙ is in absurd (cc),
  )
  login_iff o s e (Some (haves.Silent to)) at = (
    λ x. absurd x,
    λ is. let bad : Some (FlagItem to) ≡ Some (LoginItem o s) = sym (with_have e (haves.Silent to) at) ∙ is in absurd (cc),
  )
  login_iff o s e (Some (haves.Cookie url field)) at = (
    λ x. absurd x,
    λ is.
        absurd (no_cookie (cookie_from rules url now field) (LoginItem o s) (λ c bad. absurd (cc))
        (sym (with_have e (haves.Cookie url field) at) ∙ is)),
  )

  pub kept_iff : (t : Triple) (e : Option Event) (h : Option Have) → have_in e ≡ h → IsKept t h ↔ (brought e ≡ Some (KeptItem t))
  kept_iff t e None at = (λ x. absurd x, λ is. none_has e (KeptItem t) at refl is)
  kept_iff t e (Some (haves.Kept said)) at = (
    λ x. with_have e (haves.Kept said) at ∙ ap (λ a. Some (KeptItem a)) x,
    λ is.
        let same : KeptItem said ≡ KeptItem t = some_item (KeptItem said) (KeptItem t) (sym (with_have e (haves.Kept said) at) ∙ is) in cc,
  )
  kept_iff t e (Some (haves.Login to said)) at = (
    λ x. absurd x,
    λ is. let bad : Some (LoginItem to said) ≡ Some (KeptItem t) = sym (with_have e (haves.Login to said) at) ∙ is in absurd (cc),
  )
  kept_iff t e (Some (haves.Silent to)) at = (
    λ x. absurd x,
    λ is. let bad : Some (FlagItem to) ≡ Some (KeptItem t) = sym (with_have e (haves.Silent to) at) ∙ is in absurd (cc),
  )
  kept_iff t e (Some (haves.Cookie url field)) at = (
    λ x. absurd x,
    λ is.
        absurd (no_cookie (cookie_from rules url now field) (KeptItem t) (λ c bad. absurd (cc))
        (sym (with_have e (haves.Cookie url field) at) ∙ is)),
  )

  pub flag_iff : (o : Origin) (e : Option Event) (h : Option Have) → have_in e ≡ h → IsFlag o h ↔ (brought e ≡ Some (FlagItem o))
  flag_iff o e None at = (λ x. absurd x, λ is. none_has e (FlagItem o) at refl is)
  flag_iff o e (Some (haves.Silent to)) at = (
    λ x. with_have e (haves.Silent to) at ∙ ap (λ a. Some (FlagItem a)) x,
    λ is. let same : FlagItem to ≡ FlagItem o = some_item (FlagItem to) (FlagItem o) (sym (with_have e (haves.Silent to) at) ∙ is) in cc,
  )
  flag_iff o e (Some (haves.Login to said)) at = (
    λ x. absurd x,
    λ is. let bad : Some (LoginItem to said) ≡ Some (FlagItem o) = sym (with_have e (haves.Login to said) at) ∙ is in absurd (cc),
  )
  flag_iff o e (Some (haves.Kept t)) at = (
    λ x. absurd x,
    λ is. let bad : Some (KeptItem t) ≡ Some (FlagItem o) = sym (with_have e (haves.Kept t) at) ∙ is in absurd (cc),
  )
  flag_iff o e (Some (haves.Cookie url field)) at = (
    λ x. absurd x,
    λ is.
        absurd (no_cookie (cookie_from rules url now field) (FlagItem o) (λ c bad. absurd (cc))
        (sym (with_have e (haves.Cookie url field) at) ∙ is)),
  )

  cookie_same : (o : Option StoredCookie) (c : StoredCookie) → (o ≡ Some c) ↔ (option_map CookieItem o ≡ Some (CookieItem c))
  cookie_same None c = (λ x. absurd (cc), λ is. absurd (cc))
  cookie_same (Some d) c = (
    λ x. ap (option_map CookieItem) x,
    λ is. let same : CookieItem d ≡ CookieItem c = some_item (CookieItem d) (CookieItem c) is in cc,
  )

  pub cookie_iff : (c : StoredCookie) (e : Option Event) (h : Option Have) → have_in e ≡ h
      → IsCookie rules now c h ↔ (brought e ≡ Some (CookieItem (cookie_again now c)))
  cookie_iff c e None at = (λ x. absurd x, λ is. none_has e (CookieItem (cookie_again now c)) at refl is)
  cookie_iff c e (Some (haves.Cookie url field)) at =
      let both = cookie_same (cookie_from rules url now field) (cookie_again now c) in (
        λ x. with_have e (haves.Cookie url field) at ∙ both.0 x,
        λ is. both.1 (sym (with_have e (haves.Cookie url field) at) ∙ is),
      )
  cookie_iff c e (Some (haves.Login to said)) at = (
    λ x. absurd x,
    λ is.
        let bad : Some (LoginItem to said) ≡ Some (CookieItem (cookie_again now c)) = sym (with_have e (haves.Login to said) at) ∙ is in
        absurd (cc),
  )
  cookie_iff c e (Some (haves.Kept t)) at = (
    λ x. absurd x,
    λ is. let bad : Some (KeptItem t) ≡ Some (CookieItem (cookie_again now c)) = sym (with_have e (haves.Kept t) at) ∙ is in absurd (cc),
  )
  cookie_iff c e (Some (haves.Silent to)) at = (
    λ x. absurd x,
    λ is. let bad : Some (FlagItem to) ≡ Some (CookieItem (cookie_again now c)) = sym (with_have e (haves.Silent to) at) ∙ is in
        absurd (cc),
  )

  page_same : (p : ℕ) (o : Origin) (page : ℕ) (at : Origin)
      → ((page ≡ p) × (at ≡ o)) ↔ (◌≡◌ {A = Option Item} (Some (PageItem page at)) (Some (PageItem p o)))
  page_same p o page at = (
    λ x. ap₂ (λ a b. Some (PageItem a b)) x.0 x.1,
    λ is. let same : PageItem page at ≡ PageItem p o = some_item (PageItem page at) (PageItem p o) is in (cc, cc),
  )

  other : {P : Type 0} (p : ℕ) (o : Origin) (found : Option Item) → (P → ⊥) → (found ≡ Some (PageItem p o) → ⊥)
      → P ↔ (found ≡ Some (PageItem p o))
  other p o found never none = (λ x. absurd (never x), λ is. absurd (none is))

  pub page_iff : (p : ℕ) (o : Origin) (e : Option Event) → IsPage p o e ↔ (brought e ≡ Some (PageItem p o))
  page_iff p o None = other p o None (λ x. x) (λ is. absurd (cc))
  page_iff p o (Some (events.Load page url None)) = page_same p o page (origin_of url)
  page_iff p o (Some (events.Load page url (Some raw))) = other p o None (λ x. x) (λ is. absurd (cc))
  page_iff p o (Some (events.Have (haves.Login to said))) = other p o (Some (LoginItem to said)) (λ x. x) (λ is. absurd (cc))
  page_iff p o (Some (events.Have (haves.Kept t))) = other p o (Some (KeptItem t)) (λ x. x) (λ is. absurd (cc))
  page_iff p o (Some (events.Have (haves.Silent to))) = other p o (Some (FlagItem to)) (λ x. x) (λ is. absurd (cc))
  page_iff p o (Some (events.Have (haves.Cookie url field))) =
      other p o (option_map CookieItem (cookie_from rules url now field)) (λ x. x)
      (no_cookie (cookie_from rules url now field) (PageItem p o) (λ c bad. absurd (cc)))
  page_iff p o (Some (events.At time)) = other p o None (λ x. x) (λ is. absurd (cc))
  page_iff p o (Some (events.ClosePage page)) = other p o None (λ x. x) (λ is. absurd (cc))
  page_iff p o (Some (events.Get page call options)) = other p o None (λ x. x) (λ is. absurd (cc))
  page_iff p o (Some (events.Abort call)) = other p o None (λ x. x) (λ is. absurd (cc))
  page_iff p o (Some (events.GoOn call)) = other p o None (λ x. x) (λ is. absurd (cc))
  page_iff p o (Some (events.Cancel call)) = other p o None (λ x. x) (λ is. absurd (cc))
  page_iff p o (Some (events.SignIn call)) = other p o None (λ x. x) (λ is. absurd (cc))
  page_iff p o (Some (events.ShutWindow call)) = other p o None (λ x. x) (λ is. absurd (cc))
  page_iff p o (Some (events.Reply call provider kind raw)) = other p o None (λ x. x) (λ is. absurd (cc))
  page_iff p o (Some (events.Choose call provider account)) = other p o None (λ x. x) (λ is. absurd (cc))
  page_iff p o (Some (events.IdpClose page)) = other p o None (λ x. x) (λ is. absurd (cc))
  page_iff p o (Some (events.Prevent page)) = other p o None (λ x. x) (λ is. absurd (cc))
  page_iff p o (Some (events.SetStatus page status)) = other p o None (λ x. x) (λ is. absurd (cc))
  page_iff p o (Some (events.Disconnect page call config client hint)) = other p o None (λ x. x) (λ is. absurd (cc))

-- what is told of an event is told of the line that it was read from
pub told_of_line : {P Q : Type 0} (event line item : Option Item) → (P ↔ Q) → (Q ↔ (event ≡ item)) → event ≡ line → P ↔ (line ≡ item)
told_of_line event line item a b same = (λ p. sym same ∙ b.0 (a.0 p), λ e. a.1 (b.1 (same ∙ e)))
