-- Parties in a set, and loads that are far from them.
use Rattle.std.proofs.Common.{◌≡◌, ℕ, ◌+◌, ◌<◌, Bool, true, false, ◌||◌, ◌⊎◌, inl, inr, List, [], ◌∷◌}
use Rattle.std.proofs.Common.{◌++◌, length, map, drop, get_or}
use Rattle.std.proofs.Common.{refl, sym, ap, ap₂, subst, ◌∙◌}
use Rattle.std.specs.Prelude.{bytes_eq}
use Rattle.std.specs.List.{list_any}
use Rattle.std.proofs.lemmas.List.{at_drop_more, map-append}
use Rattle.std.proofs.lemmas.List.Folds.{list_any-append}
use Rattle.std.proofs.lemmas.Slice.Eq.{bytes_eq-Decides}
use Rattle.fed_origin.specs.declared.options.ProviderOptions.{ProviderOptions}
use Rattle.fed_origin.specs.WebUrl.{host_of}
use Rattle.fed_suffix.specs.Registrable.{party}
use Rattle.fed_suffix.specs.Rule.{RuleSet}
use Rattle.fed_script.specs.declared.event.Event.{Event}
use Rattle.fed_script.specs.declared.event.Event.TheVariants as events
use Rattle.fed_script.specs.declared.event.Numbered.{Numbered}
use Rattle.fed_twin.specs.Clauses.{parties_of, provider_parties, known_by, Gathers}
use Rattle.fed_twin.specs.Providers.{Providers, is_provider}
use Rattle.fed_twin.specs.Twin.{AreFar, SharesLoad, configs_in, configs}

-- ---- texts that are gathered

or_false : (b : Bool) → b ≡ (b || false)
or_false true = refl
or_false false = refl

or_assoc : (a b c : Bool) → ((a || b) || c) ≡ (a || (b || c))
or_assoc true b c = refl
or_assoc false b c = refl

gathers_both : (a b c xs ys : List (List ℕ)) → Gathers a xs b → Gathers b ys c → Gathers a (xs ++ ys) c
gathers_both a b c xs ys g h = record {
  each = λ q.
      h.each q ∙ ap (λ t. t || list_any (bytes_eq q) ys) (g.each q)
      ∙ or_assoc (list_any (bytes_eq q) a) (list_any (bytes_eq q) xs) (list_any (bytes_eq q) ys)
      ∙ ap (λ t. list_any (bytes_eq q) a || t) (sym (list_any-append (bytes_eq q) xs ys));
}

-- one that is there already
gathers_known : (old : List (List ℕ)) (x : List ℕ) → list_any (bytes_eq x) old ≡ true → Gathers old (x ∷ []) old
gathers_known old x there = record { each = λ q. go q (bytes_eq q x) refl }
  where
    go : (q : List ℕ) (b : Bool) → bytes_eq q x ≡ b
        → list_any (bytes_eq q) old ≡ (list_any (bytes_eq q) old || (bytes_eq q x || false))
    go q false is = or_false (list_any (bytes_eq q) old) ∙ ap (λ t. list_any (bytes_eq q) old || (t || false)) (sym is)
    go q true is =
        let found : list_any (bytes_eq q) old ≡ true = ap (λ y. list_any (bytes_eq y) old) ((bytes_eq-Decides q x).0 is) ∙ there in
        found ∙ ap (λ t. t || (bytes_eq q x || false)) (sym found)

-- ---- the set

any_among : {V : Type 0} (items : V → List ℕ) (q : List ℕ) (keys : List V)
    → list_any (bytes_eq q) (map items keys) ≡ list_any (λ k. bytes_eq q (items k)) keys
any_among items q [] = refl
any_among items q (k ∷ keys) = ap (λ t. bytes_eq q (items k) || t) (any_among items q keys)

-- a look-up by the party of a host
pub looks_up : {V : Type 0} {q : List ℕ} {parties : List (List ℕ)} (rules : RuleSet) (host : List ℕ) (items : V → List ℕ)
    (keys : List V) → q ≡ party rules host → map items keys ≡ parties
    → list_any (λ k. bytes_eq q (items k)) keys ≡ is_provider (known_by rules parties) host
unfolding is_provider
looks_up {q = q} rules host items keys is view = sym (any_among items q keys) ∙ ap₂ (λ y ks. list_any (bytes_eq y) ks) is view

-- a party that the set has
pub adds_known : {V : Type 0} {old : List (List ℕ)} (x : List ℕ) (items : V → List ℕ) (keys : List V) → map items keys ≡ old
    → list_any (λ k. bytes_eq x (items k)) keys ≡ true → Gathers old (x ∷ []) old
adds_known {old = old} x items keys view there =
    gathers_known old x (ap (list_any (bytes_eq x)) (sym view) ∙ any_among items x keys ∙ there)

-- ---- the parties of events

-- where what is left is gathered, all is
pub record LeavesOf (start now all left : List (List ℕ)) : Type 0 where
  pub ends : (new : List (List ℕ)) → Gathers now left new → Gathers start all new

leaves_less : {start now new all left : List (List ℕ)} (more rest : List (List ℕ)) → LeavesOf start now all left
    → left ≡ more ++ rest → Gathers now more new → LeavesOf start new all rest
leaves_less {now = now} {new = new} more rest w is g =
    record { ends = λ last h. w.ends last (subst (λ l. Gathers now l last) (sym is) (gathers_both now new last more rest g h)) }

-- one provider more
pub provider_step : {start now new all : List (List ℕ)} {host q : List ℕ} (rules : RuleSet) (ps : List ProviderOptions) (i : ℕ)
    (p : ProviderOptions) → i < length ps → p ≡ get_or ps i p → host ≡ host_of p.config → q ≡ party rules host
    → LeavesOf start now all (provider_parties rules (drop i ps)) → Gathers now (q ∷ []) new
    → LeavesOf start new all (provider_parties rules (drop (i + 1) ps))
provider_step {q = q} rules ps i p lt item of_host of_party w g =
    leaves_less (q ∷ []) (provider_parties rules (drop (i + 1) ps)) w
    (at_drop_more (provider_parties rules) ps i p lt
    ∙ ap (λ x. provider_parties rules (x ∷ drop (i + 1) ps)) (sym item)
    ∙ ap (λ x. x ∷ provider_parties rules (drop (i + 1) ps)) (sym (of_party ∙ ap (party rules) of_host)))
    g

-- one event more
pub event_step : {start now new all : List (List ℕ)} (rules : RuleSet) (ns : List Numbered) (i : ℕ) (n : Numbered)
    → i < length ns → n ≡ get_or ns i n → LeavesOf start now all (parties_of rules (configs (drop i ns)))
    → Gathers now (parties_of rules (configs_in n.event)) new
    → LeavesOf start new all (parties_of rules (configs (drop (i + 1) ns)))
event_step rules ns i n lt item w g =
    leaves_less (parties_of rules (configs_in n.event)) (parties_of rules (configs (drop (i + 1) ns))) w
    (at_drop_more (λ ns. parties_of rules (configs ns)) ns i n lt
    ∙ ap (λ x. parties_of rules (configs (x ∷ drop (i + 1) ns))) (sym item)
    ∙ map-append (λ url. party rules (host_of url)) (configs_in n.event) (configs (drop (i + 1) ns)))
    g

-- ---- loads

-- the clause on loads looks only at what has the party of a provider
pub shares_by : (p q : Providers) → ((host : List ℕ) → is_provider p host ≡ is_provider q host) → (e f : Event)
    → SharesLoad p e f → SharesLoad q e f
shares_by p q same (events.Load page url raw) (events.Load page' url' raw') h = (h.0, go h.1)
  where
    go : ((url ≡ url') × (raw ≡ raw')) ⊎ AreFar p url url' → ((url ≡ url') × (raw ≡ raw')) ⊎ AreFar q url url'
    go (inl equal) = inl equal
    go (inr far) =
        inr (record { trust = far.trust; far = sym (same (host_of url)) ∙ far.far; far' = sym (same (host_of url')) ∙ far.far' })
shares_by p q same (events.Load page url raw) (events.Have have) h = tt
shares_by p q same (events.Load page url raw) (events.At time) h = tt
shares_by p q same (events.Load page url raw) (events.ClosePage page') h = tt
shares_by p q same (events.Load page url raw) (events.Get page' call options) h = tt
shares_by p q same (events.Load page url raw) (events.Abort call) h = tt
shares_by p q same (events.Load page url raw) (events.GoOn call) h = tt
shares_by p q same (events.Load page url raw) (events.Cancel call) h = tt
shares_by p q same (events.Load page url raw) (events.SignIn call) h = tt
shares_by p q same (events.Load page url raw) (events.ShutWindow call) h = tt
shares_by p q same (events.Load page url raw) (events.IdpClose page') h = tt
shares_by p q same (events.Load page url raw) (events.Reply call place kind bytes) h = tt
shares_by p q same (events.Load page url raw) (events.Choose call place id) h = tt
shares_by p q same (events.Load page url raw) (events.Prevent page') h = tt
shares_by p q same (events.Load page url raw) (events.SetStatus page' status) h = tt
shares_by p q same (events.Load page url raw) (events.Disconnect page' call config client hint) h = tt
shares_by p q same (events.Have have) f h = tt
shares_by p q same (events.At time) f h = tt
shares_by p q same (events.ClosePage page) f h = tt
shares_by p q same (events.Get page call options) f h = tt
shares_by p q same (events.Abort call) f h = tt
shares_by p q same (events.GoOn call) f h = tt
shares_by p q same (events.Cancel call) f h = tt
shares_by p q same (events.SignIn call) f h = tt
shares_by p q same (events.ShutWindow call) f h = tt
shares_by p q same (events.IdpClose page) f h = tt
shares_by p q same (events.Reply call place kind raw) f h = tt
shares_by p q same (events.Choose call place id) f h = tt
shares_by p q same (events.Prevent page) f h = tt
shares_by p q same (events.SetStatus page status) f h = tt
shares_by p q same (events.Disconnect page call config client hint) f h = tt

-- providers by other rules and parties that have the same texts
pub same_providers_by : (p : Providers) (rules : RuleSet) (keys : List (List ℕ)) → rules ≡ p.rules → Gathers [] p.parties keys
    → (host : List ℕ) → is_provider (known_by rules keys) host ≡ is_provider p host
unfolding is_provider
same_providers_by p rules keys is g host =
    ap (λ r. list_any (bytes_eq (party r host)) keys) is ∙ g.each (party p.rules host)
