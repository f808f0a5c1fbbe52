-- Pairs that are left to be linked.
use Rattle.std.proofs.Common.{◌≡◌, ℕ, zero, suc, Bool, ◌+◌, ◌<◌, ◌≤◌, List, [], ◌∷◌, ◌++◌, length, map, drop, get_or, true, false, nat_eq}
use Rattle.std.proofs.Common.{cond, arith, Some, None}
use Rattle.std.proofs.Common.{refl, sym, ap, subst, ◌∙◌, append_assoc, append-nil}
use Rattle.std.proofs.lemmas.Bool.Decides.{nat_tests}
use Rattle.std.proofs.lemmas.List.{at_drop_more}
use Rattle.fed_origin.specs.declared.options.ProviderOptions.{ProviderOptions}
use Rattle.fed_origin.specs.WebUrl.{host_of}
use Rattle.fed_script.specs.declared.event.Event.{Event}
use Rattle.fed_suffix.specs.Registrable.{party}
use Rattle.fed_suffix.specs.Rule.{RuleSet}
use Rattle.fed_script.specs.declared.event.Numbered.{Numbered}
use Rattle.fed_slice.specs.Closure.{hosts_named}
use Rattle.fed_slice.specs.Linked.{Pair, Links, Linked, LinksMore, LeavesPairs, provider_pairs, pairs_at, pairs_named, pairs_of, page_named}

pub leaves_all : (s : Links) (all : List Pair) → LeavesPairs s s all all
leaves_all s all = record { ends = λ new m. m }

pub leaves_none : {start now : Links} {all : List Pair} → LeavesPairs start now all [] → LinksMore all start now
leaves_none {now = now} w = w.ends now (λ ps h. subst (λ l. Linked l now) (sym (append-nil ps)) h)

leaves_less : {start now new : Links} {all left : List Pair} (more rest : List Pair) → LeavesPairs start now all left
    → left ≡ more ++ rest → LinksMore more now new → LeavesPairs start new all rest
leaves_less {now = now} {new = new} more rest w is m =
    record {
      ends = λ last next.
          w.ends last
          (λ ps h.
          subst (λ l. Linked l last) (append_assoc ps more rest ∙ ap (λ l. ps ++ l) (sym is)) (next (ps ++ more) (m ps h)));
    }

-- one provider more
pub pair_step : {start now new : Links} {all : List Pair} {host q : List ℕ} (rules : RuleSet) (page : ℕ) (ps : List ProviderOptions) (i : ℕ)
    (p : ProviderOptions) → i < length ps → p ≡ get_or ps i p → host ≡ host_of p.config → q ≡ party rules host
    → LeavesPairs start now all (provider_pairs rules page (drop i ps)) → LinksMore ((page, q) ∷ []) now new
    → LeavesPairs start new all (provider_pairs rules page (drop (i + 1) ps))
pair_step {q = q} rules page ps i p lt item of_host of_party w m =
    leaves_less ((page, q) ∷ []) (provider_pairs rules page (drop (i + 1) ps)) w
    (at_drop_more (provider_pairs rules page) ps i p lt
    ∙ ap (λ x. provider_pairs rules page (x ∷ drop (i + 1) ps)) (sym item)
    ∙ ap (λ x. (page, x) ∷ provider_pairs rules page (drop (i + 1) ps)) (sym (of_party ∙ ap (party rules) of_host)))
    m

-- one event more
pub link_step : {start now new : Links} {all : List Pair} (rules : RuleSet) (loaded : ℕ → Bool) (ns : List Numbered) (i : ℕ) (n : Numbered)
    → i < length ns → n ≡ get_or ns i n → LeavesPairs start now all (pairs_of rules loaded (drop i ns))
    → LinksMore (pairs_named rules loaded n.event (page_named n.event)) now new
    → LeavesPairs start new all (pairs_of rules loaded (drop (i + 1) ns))
link_step rules loaded ns i n lt item w m =
    leaves_less (pairs_named rules loaded n.event (page_named n.event)) (pairs_of rules loaded (drop (i + 1) ns)) w
    (at_drop_more (pairs_of rules loaded) ns i n lt ∙ ap (λ x. pairs_of rules loaded (x ∷ drop (i + 1) ns)) (sym item))
    m

drop_over : {A : Type 0} (i : ℕ) (xs : List A) → length xs ≤ i → drop i xs ≡ []
drop_over zero [] over = refl
drop_over zero (x ∷ xs) over = absurd (omega (arith, over))
drop_over (suc i) [] over = refl
drop_over (suc i) (x ∷ xs) over = drop_over i xs (omega (arith, over))

-- the loop is over
pub pairs_end : {A : Type 0} {start now : Links} (f : List A → List Pair) (xs : List A) (i : ℕ) → f [] ≡ [] → length xs ≤ i
    → LeavesPairs start now (f xs) (f (drop i xs)) → LinksMore (f xs) start now
pairs_end {start = start} {now = now} f xs i empty over w =
    leaves_none (subst (LeavesPairs start now (f xs)) (ap f (drop_over i xs over) ∙ empty) w)

-- what a number that an event names with hosts says
pub own_number : {A : Type 0} (page : ℕ) (a b : A) → cond (nat_eq page page) a b ≡ a
own_number page a b = let own : nat_eq page page ≡ true = grind (arith, nat_tests) in ap (λ c. cond c a b) own

pub host_pairs : (rules : RuleSet) (event : Event) (page : ℕ) (own : List ℕ) {host q : List ℕ} → page_named event ≡ Some page
    → hosts_named page event ≡ cond (nat_eq page page) (own ∷ []) []
    → host ≡ own → q ≡ party rules host → (page, q) ∷ [] ≡ pairs_at rules event (page_named event)
host_pairs rules event page own is hosts of_host of_party =
    ap (λ x. (page, x) ∷ []) (of_party ∙ ap (party rules) of_host)
    ∙ sym (ap (map (λ host. (page, party rules host))) (hosts ∙ own_number page (own ∷ []) []))
    ∙ sym (ap (pairs_at rules event) is)

pub get_pairs : (rules : RuleSet) (event : Event) (page : ℕ) (own : List ProviderOptions) {providers : List ProviderOptions}
    → page_named event ≡ Some page → hosts_named page event ≡ cond (nat_eq page page) (map (λ o. host_of o.config) own) []
    → providers ≡ own → provider_pairs rules page providers ≡ pairs_at rules event (page_named event)
get_pairs rules event page own is hosts same =
    ap (provider_pairs rules page) same
    ∙ sym (ap (map (λ host. (page, party rules host))) (hosts ∙ own_number page (map (λ o. host_of o.config) own) []))
    ∙ sym (ap (pairs_at rules event) is)

pub named_loaded : (rules : RuleSet) (loaded : ℕ → Bool) (event : Event) (page : ℕ) → page_named event ≡ Some page → loaded page ≡ true
    → pairs_at rules event (page_named event) ≡ pairs_named rules loaded event (page_named event)
named_loaded rules loaded event page is there =
    ap (pairs_at rules event) is ∙ sym (ap (λ b. cond b (pairs_at rules event (Some page)) []) there)
    ∙ sym (ap (pairs_named rules loaded event) is)

pub named_unloaded : (rules : RuleSet) (loaded : ℕ → Bool) (event : Event) (page : ℕ) → page_named event ≡ Some page → loaded page ≡ false
    → pairs_named rules loaded event (page_named event) ≡ []
named_unloaded rules loaded event page is there =
    ap (pairs_named rules loaded event) is ∙ ap (λ b. cond b (pairs_at rules event (Some page)) []) there

pub named_none : (rules : RuleSet) (loaded : ℕ → Bool) (event : Event) → page_named event ≡ None
    → pairs_named rules loaded event (page_named event) ≡ []
named_none rules loaded event is = ap (pairs_named rules loaded event) is

-- nothing is to be linked
pub none_more : (more : List Pair) (s : Links) → more ≡ [] → LinksMore more s s
none_more more s is ps h = subst (λ l. Linked l s) (sym (ap (λ l. ps ++ l) is ∙ append-nil ps)) h
