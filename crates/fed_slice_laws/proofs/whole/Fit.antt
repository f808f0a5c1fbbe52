-- Each event of a readable script fits the part that closed parties have.
use Rattle.std.proofs.Common.{◌≡◌, ℕ, Bool, true, false, nat_eq, cond, ◌||◌, ◌&&◌, List, [], ◌∷◌, map, refl, sym, ap, ap₂, subst, ◌∙◌}
use Rattle.std.proofs.Common.{arith}
use Rattle.std.proofs.lemmas.Bool.Decides.{nat_tests}
use Rattle.std.proofs.lemmas.List.Folds.{list_any-append, list_all-append}
use Rattle.std.specs.Prelude.{not}
use Rattle.std.specs.List.{list_any, list_all, AllByRecursion}
use Rattle.fed_origin.specs.declared.options.ProviderOptions.{ProviderOptions}
use Rattle.fed_origin.specs.WebUrl.{host_of}
use Rattle.fed_script.specs.declared.event.Event.{Event}
use Rattle.fed_script.specs.declared.event.Event.TheVariants as events
use Rattle.fed_script.specs.declared.event.Numbered.{Numbered}
use Rattle.fed_script.specs.Script.{Script, IsRead}
use Rattle.fed_script.specs.Used.{unused}
use Rattle.fed_slice.specs.Part.{Part, has}
use Rattle.fed_slice.specs.Closure.{loads, is_loaded, hosts_named, hosts_of, is_among, IsClosed}
use Rattle.fed_slice.specs.Slice.{page_in, part_of}
use Rattle.fed_slice_laws.specs.Side.{ProviderSide}
use Rattle.fed_slice_laws.proofs.whole.Members.{In, Here, There, each, any_in, call_is, beginning_of}
use Rattle.fed_slice_laws.proofs.rows.Same.{EventFits}

-- all hosts of a list are on one side
abbrev HostsOn : Part → Bool → List (List ℕ) → Type 0
HostsOn p side hosts = AllByRecursion (λ host. has p host ≡ side) hosts

-- two tests in one
and_true : (a b : Bool) → (a && b) ≡ true → (a ≡ true) × (b ≡ true)
and_true true b h = (refl, h)
and_true false b h = absurd (let no : false ≡ true = h in cc)

or_false : (a b : Bool) → (a || b) ≡ false → (a ≡ false) × (b ≡ false)
or_false false b h = (refl, h)
or_false true b h = absurd (let no : true ≡ false = h in cc)

module _ (test : List ℕ → Bool) (page : ℕ) where
  -- what all hosts of a page number pass, those of an event of it pass
  all_named : (n : Numbered) {ns : List Numbered} → In n ns → list_all test (hosts_of ns page) ≡ true
      → list_all test (hosts_named page n.event) ≡ true
  all_named n (Here ns) h =
      (and_true (list_all test (hosts_named page n.event)) (list_all test (hosts_of ns page))
      (sym (list_all-append test (hosts_named page n.event) (hosts_of ns page)) ∙ h)).0
  all_named n (There m ns at) h =
      all_named n at
      (and_true (list_all test (hosts_named page m.event)) (list_all test (hosts_of ns page))
      (sym (list_all-append test (hosts_named page m.event) (hosts_of ns page)) ∙ h)).1

  none_named : (n : Numbered) {ns : List Numbered} → In n ns → list_any test (hosts_of ns page) ≡ false
      → list_any test (hosts_named page n.event) ≡ false
  none_named n (Here ns) h =
      (or_false (list_any test (hosts_named page n.event)) (list_any test (hosts_of ns page))
      (sym (list_any-append test (hosts_named page n.event) (hosts_of ns page)) ∙ h)).0
  none_named n (There m ns at) h =
      none_named n at
      (or_false (list_any test (hosts_named page m.event)) (list_any test (hosts_of ns page))
      (sym (list_any-append test (hosts_named page m.event) (hosts_of ns page)) ∙ h)).1

  all_true : (hosts : List (List ℕ)) → list_all test hosts ≡ true → AllByRecursion (λ host. test host ≡ true) hosts
  all_true [] h = tt
  all_true (host ∷ hosts) h =
      let parts = and_true (test host) (list_all test hosts) h in (parts.0, all_true hosts parts.1)

  all_false : (hosts : List (List ℕ)) → list_any test hosts ≡ false → AllByRecursion (λ host. test host ≡ false) hosts
  all_false [] h = tt
  all_false (host ∷ hosts) h =
      let parts = or_false (test host) (list_any test hosts) h in (parts.0, all_false hosts parts.1)

module _ (s : Script) (parties : List (List ℕ)) (closed : IsClosed s parties) where
  abbrev p : Part
  p = part_of s parties

  abbrev test : List ℕ → Bool
  test = is_among s.header.rules parties

  -- the hosts that an event of a page number names are on the side of that number, where it is loaded
  named_side : (n : Numbered) → In n s.events → (page : ℕ) → is_loaded s.events page ≡ true
      → HostsOn p (page_in s parties page) (hosts_named page n.event)
  unfolding has
  named_side n at page loaded = go (list_all test (hosts_of s.events page)) refl (list_any test (hosts_of s.events page)) refl
    where
      side : (all : Bool) → list_all test (hosts_of s.events page) ≡ all → page_in s parties page ≡ all
      side all is = ap₂ (λ x y. x && y) loaded is

      go : (all : Bool) → list_all test (hosts_of s.events page) ≡ all → (any : Bool) → list_any test (hosts_of s.events page) ≡ any
          → HostsOn p (page_in s parties page) (hosts_named page n.event)
      go true is any found =
          subst (λ b. HostsOn p b (hosts_named page n.event)) (sym (side true is))
          (all_true test page (hosts_named page n.event) (all_named test page n at is))
      go false is false found =
          subst (λ b. HostsOn p b (hosts_named page n.event)) (sym (side false is))
          (all_false test page (hosts_named page n.event) (none_named test page n at found))
      go false is true found =
          absurd (let no : false ≡ true = sym (ap₂ (λ x y. x || not y) is found) ∙ closed page loaded in cc)

  own_page : (page : ℕ) → nat_eq page page ≡ true
  own_page page = grind (arith, nat_tests)

  providers_on : (side : Bool) (providers : List ProviderOptions) → HostsOn p side (map (λ o. host_of o.config) providers)
      → AllByRecursion (ProviderSide p side) providers
  providers_on side [] h = tt
  providers_on side (q ∷ providers) h = (h.0, providers_on side providers h.1)

  fits_at : IsRead s → (n : Numbered) → In n s.events → (e : Event) → n.event ≡ e → EventFits p (is_loaded s.events) e
  fits_at read n at (events.Load page url raw) is =
      let loaded : is_loaded s.events page ≡ true =
      any_in (λ m. loads page m.event) n at (ap (loads page) is ∙ own_page page) in
      let named : HostsOn p (page_in s parties page) (host_of url ∷ []) =
      subst (HostsOn p (page_in s parties page))
      (ap (hosts_named page) is ∙ ap (λ b. cond b (host_of url ∷ []) []) (own_page page)) (named_side n at page loaded) in
      (named.0, loaded)
  fits_at read n at (events.Get page call options) is = (
    call_is (page_in s parties) (unused s.header.now) s.events read n at (record { call = call; page = page })
        (ap beginning_of is),
    λ loaded. providers_on (page_in s parties page) options.providers
        (subst (HostsOn p (page_in s parties page))
        (ap (hosts_named page) is ∙ ap (λ b. cond b (map (λ o. host_of o.config) options.providers) []) (own_page page))
        (named_side n at page loaded)),
  )
  fits_at read n at (events.Disconnect page call config client hint) is = (
    call_is (page_in s parties) (unused s.header.now) s.events read n at (record { call = call; page = page })
        (ap beginning_of is),
    λ loaded. (subst (HostsOn p (page_in s parties page))
        (ap (hosts_named page) is ∙ ap (λ b. cond b (host_of config ∷ []) []) (own_page page))
        (named_side n at page loaded)).0,
  )
  fits_at read n at _ is = tt

  pub all_fit : IsRead s → AllByRecursion (λ n. EventFits p (is_loaded s.events) n.event) s.events
  all_fit read = each (λ n. EventFits p (is_loaded s.events) n.event) s.events (λ n at. fits_at read n at n.event refl)
