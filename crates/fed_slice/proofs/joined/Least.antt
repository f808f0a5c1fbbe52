-- The set of a party is the least closed one.
use Rattle.std.proofs.Common.{◌≡◌, ℕ, zero, suc, ◌<◌, Bool, true, false, cond, not, ◌&&◌, ◌||◌, nat_eq, List, [], ◌∷◌, ◌++◌, map}
use Rattle.std.proofs.Common.{length}
use Rattle.std.proofs.Common.{Option, Some, None, refl, sym, ap, ap₂, subst, ◌∙◌, arith}
use Rattle.std.proofs.lemmas.Bool.Decides.{nat_tests}
use Rattle.std.proofs.lemmas.List.Folds.{list_any-append, list_all-append}
use Rattle.std.proofs.lemmas.Slice.Eq.{bytes_eq-Decides}
use Rattle.std.specs.Prelude.{slice_index_or, bytes_eq}
use Rattle.std.specs.List.{list_any, list_all, AllByRecursion, IsDistinct}
use Rattle.fed_origin.specs.WebUrl.{host_of}
use Rattle.fed_suffix.specs.Rule.{RuleSet}
use Rattle.fed_suffix.specs.Registrable.{party}
use Rattle.fed_script.specs.declared.event.Event.{Event}
use Rattle.fed_script.specs.declared.event.Event.TheVariants as events
use Rattle.fed_script.specs.declared.event.Numbered.{Numbered}
use Rattle.fed_slice.specs.Closure.{is_loaded, hosts_named, hosts_of, is_among, is_one, IsClosed}
use Rattle.fed_slice.specs.Sets.{Respects}
use Rattle.fed_slice.specs.Linked.{Pair, page_named, pairs_at, pairs_named, pairs_of, pairs, Among, Here, There, OnePerPage, name_at}
use Rattle.fed_slice.specs.Linked.{by_number}
use Rattle.fed_slice.specs.Linked.{chosen, LinksTell}

-- ---- hosts and pairs

abbrev AllHosts : (List ℕ → Type 0) → List (List ℕ) → Type 0
AllHosts P hosts = AllByRecursion P hosts

all_append : (P : List ℕ → Type 0) (xs ys : List (List ℕ)) → AllHosts P xs → AllHosts P ys → AllHosts P (xs ++ ys)
all_append P [] ys h k = k
all_append P (x ∷ xs) ys h k = (h.0, all_append P xs ys h.1 k)

all_more : (P Q : List ℕ → Type 0) → ((x : List ℕ) → P x → Q x) → (xs : List (List ℕ)) → AllHosts P xs → AllHosts Q xs
all_more P Q f [] h = tt
all_more P Q f (x ∷ xs) h = (f x h.0, all_more P Q f xs h.1)

in_front : (p : Pair) {ps : List Pair} (qs : List Pair) → Among p ps → Among p (ps ++ qs)
in_front p qs (Here ps) = Here (ps ++ qs)
in_front p qs (There q ps at) = There q (ps ++ qs) (in_front p qs at)

behind : (p : Pair) (ps : List Pair) {qs : List Pair} → Among p qs → Among p (ps ++ qs)
behind p [] at = at
behind p (q ∷ ps) {qs} at = There q (ps ++ qs) (behind p ps at)

mapped : (f : List ℕ → Pair) (hosts : List (List ℕ)) → AllHosts (λ host. Among (f host) (map f hosts)) hosts
mapped f [] = tt
mapped f (host ∷ hosts) = (
  Here (map f hosts),
  all_more (λ x. Among (f x) (map f hosts)) (λ x. Among (f x) (f host ∷ map f hosts))
      (λ x at. There (f host) (map f hosts) at) hosts (mapped f hosts),
)

module _ (rules : RuleSet) (loaded : ℕ → Bool) (page : ℕ) (is_in : loaded page ≡ true) where
  abbrev pair : List ℕ → Pair
  pair host = (page, party rules host)

  -- the hosts that an event of a number names, by whether it is this number
  of_event : (q : ℕ) (hosts : List (List ℕ)) (b : Bool) → nat_eq page q ≡ b
      → AllHosts (λ host. Among (pair host) (cond (loaded q) (map (λ host. (q, party rules host)) (cond (nat_eq q q) hosts [])) []))
      (cond b hosts [])
  of_event q hosts false is = tt
  of_event q hosts true is =
      let one : page ≡ q = grind (arith, nat_tests, is) in
      let own : nat_eq page page ≡ true = grind (arith, nat_tests) in
      subst
      (λ n. AllHosts (λ host. Among (pair host) (cond (loaded n) (map (λ host. (n, party rules host)) (cond (nat_eq n n) hosts [])) []))
      hosts)
      one
      (subst (λ t. AllHosts (λ host. Among (pair host) (cond t (map pair (cond (nat_eq page page) hosts [])) [])) hosts) (sym is_in)
      (subst (λ t. AllHosts (λ host. Among (pair host) (map pair (cond t hosts []))) hosts) (sym own) (mapped pair hosts)))

  named_pairs : (e : Event) → AllHosts (λ host. Among (pair host) (pairs_named rules loaded e (page_named e))) (hosts_named page e)
  named_pairs (events.Load q url raw) = of_event q (host_of url ∷ []) (nat_eq page q) refl
  named_pairs (events.Get q call options) = of_event q (map (λ o. host_of o.config) options.providers) (nat_eq page q) refl
  named_pairs (events.Disconnect q call config client hint) = of_event q (host_of config ∷ []) (nat_eq page q) refl
  named_pairs (events.Have have) = tt
  named_pairs (events.At time) = tt
  named_pairs (events.ClosePage q) = tt
  named_pairs (events.Abort call) = tt
  named_pairs (events.GoOn call) = tt
  named_pairs (events.Cancel call) = tt
  named_pairs (events.SignIn call) = tt
  named_pairs (events.ShutWindow call) = tt
  named_pairs (events.IdpClose q) = tt
  named_pairs (events.Reply call provider kind raw) = tt
  named_pairs (events.Choose call provider account) = tt
  named_pairs (events.Prevent q) = tt
  named_pairs (events.SetStatus q status) = tt

  host_pairs : (ns : List Numbered) → AllHosts (λ host. Among (pair host) (pairs_of rules loaded ns)) (hosts_of ns page)
  host_pairs [] = tt
  host_pairs (n ∷ ns) =
      let here = pairs_named rules loaded n.event (page_named n.event) in
      all_append (λ host. Among (pair host) (here ++ pairs_of rules loaded ns)) (hosts_named page n.event) (hosts_of ns page)
      (all_more (λ host. Among (pair host) here) (λ host. Among (pair host) (here ++ pairs_of rules loaded ns))
      (λ host at. in_front (pair host) (pairs_of rules loaded ns) at) (hosts_named page n.event) (named_pairs n.event))
      (all_more (λ host. Among (pair host) (pairs_of rules loaded ns)) (λ host. Among (pair host) (here ++ pairs_of rules loaded ns))
      (λ host at. behind (pair host) here at) (hosts_of ns page) (host_pairs ns))

-- ---- what a pair comes from

and_true : (a b : Bool) → (a && b) ≡ true → (a ≡ true) × (b ≡ true)
and_true true b h = (refl, h)
and_true false b h = absurd (let no : false ≡ true = h in cc)

or_false : (a b : Bool) → (a || b) ≡ false → (a ≡ false) × (b ≡ false)
or_false false b h = (refl, h)
or_false true b h = absurd (let no : true ≡ false = h in cc)

-- of a pair, by a test of parties: its number is loaded, and the test says of it what it says of all hosts of the number
record FromHosts (loaded : ℕ → Bool) (test : List ℕ → Bool) (page : ℕ) (name : List ℕ) (hosts : List (List ℕ))
    (rules : RuleSet) : Type 0 where
  is_in : loaded page ≡ true
  all : list_all (λ host. test (party rules host)) hosts ≡ true → test name ≡ true
  none : list_any (λ host. test (party rules host)) hosts ≡ false → test name ≡ false

module _ (rules : RuleSet) (loaded : ℕ → Bool) (test : List ℕ → Bool) (page : ℕ) (name : List ℕ) where
  abbrev From : List (List ℕ) → Type 0
  From hosts = FromHosts loaded test page name hosts rules

  from_map : (q : ℕ) (hosts : List (List ℕ)) → loaded q ≡ true → Among (page, name) (map (λ host. (q, party rules host)) hosts)
      → (page ≡ q) × From hosts
  from_map q [] is_in at = absurd (nothing at refl)
    where
      nothing : {ps : List Pair} → Among (page, name) ps → ps ≡ [] → ⊥
      nothing (Here ps) is = cc
      nothing (There p ps at) is = cc
  from_map q (host ∷ hosts) is_in at = go at refl (from_map q hosts is_in)
    where
      go : {ps : List Pair} → Among (page, name) ps → ps ≡ (q, party rules host) ∷ map (λ host. (q, party rules host)) hosts
          → (Among (page, name) (map (λ host. (q, party rules host)) hosts) → (page ≡ q) × From hosts)
          → (page ≡ q) × From (host ∷ hosts)
      go (Here ps) is rest =
          let both : (page, name) ≡ (q, party rules host) = cc in
          let key : page ≡ q = ap (λ (p : Pair). p.0) both in
          let one : name ≡ party rules host = ap (λ (p : Pair). p.1) both in (
            key,
            record {
              is_in = ap loaded key ∙ is_in;
              all = λ h. ap test one ∙ (and_true (test (party rules host)) (list_all (λ host. test (party rules host)) hosts) h).0;
              none = λ h. ap test one ∙ (or_false (test (party rules host)) (list_any (λ host. test (party rules host)) hosts) h).0;
            },
          )
      go (There p ps at) is rest =
          let tail : ps ≡ map (λ host. (q, party rules host)) hosts = cc in
          let r = rest (subst (Among (page, name)) tail at) in (
            r.0,
            record {
              is_in = r.1.is_in;
              all = λ h. r.1.all (and_true (test (party rules host)) (list_all (λ host. test (party rules host)) hosts) h).1;
              none = λ h. r.1.none (or_false (test (party rules host)) (list_any (λ host. test (party rules host)) hosts) h).1;
            },
          )

  from_named : (e : Event) (q : ℕ) → Among (page, name) (pairs_named rules loaded e (Some q)) → From (hosts_named page e)
  from_named e q at = go (loaded q) refl at
    where
      nothing : {ps : List Pair} → Among (page, name) ps → ps ≡ [] → ⊥
      nothing (Here ps) is = cc
      nothing (There p ps at) is = cc

      go : (b : Bool) → loaded q ≡ b → Among (page, name) (cond b (pairs_at rules e (Some q)) []) → From (hosts_named page e)
      go false is at = absurd (nothing at refl)
      go true is at =
          let r = from_map q (hosts_named q e) is at in
          subst (λ n. From (hosts_named n e)) (sym r.0) r.1

  from_event : (e : Event) (o : Option ℕ) → Among (page, name) (pairs_named rules loaded e o) → From (hosts_named page e)
  from_event e None at = absurd (nothing at refl)
    where
      nothing : {ps : List Pair} → Among (page, name) ps → ps ≡ [] → ⊥
      nothing (Here ps) is = cc
      nothing (There p ps at) is = cc
  from_event e (Some q) at = from_named e q at

  -- of two lists of pairs
  from_both : (xs ys : List Pair) (hosts more : List (List ℕ)) → (Among (page, name) xs → From hosts) → (Among (page, name) ys → From more)
      → Among (page, name) (xs ++ ys) → From (hosts ++ more)
  from_both [] ys hosts more f g at =
      let r = g at in
      record {
        is_in = r.is_in;
        all = λ h. r.all (and_true (list_all t hosts) (list_all t more) (sym (list_all-append t hosts more) ∙ h)).1;
        none = λ h. r.none (or_false (list_any t hosts) (list_any t more) (sym (list_any-append t hosts more) ∙ h)).1;
      }
    where
      t : List ℕ → Bool
      t host = test (party rules host)
  from_both (x ∷ xs) ys hosts more f g at = go at refl (from_both xs ys hosts more)
    where
      go : {ps : List Pair} → Among (page, name) ps → ps ≡ x ∷ (xs ++ ys)
          → ((Among (page, name) xs → From hosts) → (Among (page, name) ys → From more) → Among (page, name) (xs ++ ys)
          → From (hosts ++ more))
          → From (hosts ++ more)
      go (Here ps) is rest =
          let one : (page, name) ≡ x = cc in
          let r = f (subst (λ p. Among (page, name) (p ∷ xs)) one (Here xs)) in
          record {
            is_in = r.is_in;
            all = λ h. r.all (and_true (list_all (λ host. test (party rules host)) hosts) (list_all (λ host. test (party rules host)) more)
                (sym (list_all-append (λ host. test (party rules host)) hosts more) ∙ h)).0;
            none = λ h. r.none (or_false (list_any (λ host. test (party rules host)) hosts)
                (list_any (λ host. test (party rules host)) more)
                (sym (list_any-append (λ host. test (party rules host)) hosts more) ∙ h)).0;
          }
      go (There p ps at) is rest =
          let tail : ps ≡ xs ++ ys = cc in
          rest (λ a. f (There x xs a)) g (subst (Among (page, name)) tail at)

  from_hosts : (ns : List Numbered) → Among (page, name) (pairs_of rules loaded ns) → From (hosts_of ns page)
  from_hosts [] at = absurd (nothing at refl)
    where
      nothing : {ps : List Pair} → Among (page, name) ps → ps ≡ [] → ⊥
      nothing (Here ps) is = cc
      nothing (There p ps at) is = cc
  from_hosts (n ∷ ns) at =
      from_both (pairs_named rules loaded n.event (page_named n.event)) (pairs_of rules loaded ns) (hosts_named page n.event)
      (hosts_of ns page) (from_event n.event (page_named n.event)) (from_hosts ns) at

-- ---- the parties that are told

-- a name is apart from those after it
apart_at : (name : List ℕ) (names : List (List ℕ)) → AllByRecursion (λ y. bytes_eq name y ≡ false) names → (k : ℕ) → k < length names
    → bytes_eq (name_at names k) name ≡ false
apart_at name [] h k lt = absurd (omega (arith, lt))
apart_at name (y ∷ names) h zero lt = flip (bytes_eq y name) refl
  where
    flip : (b : Bool) → bytes_eq y name ≡ b → bytes_eq y name ≡ false
    flip false is = is
    flip true is =
        let one : y ≡ name = (bytes_eq-Decides y name).0 is in
        absurd (let no : true ≡ false = sym ((bytes_eq-Decides name name).1 refl) ∙ ap (bytes_eq name) (sym one) ∙ h.0 in cc)
apart_at name (y ∷ names) h (suc k) lt = apart_at name names h.1 k (omega (arith, lt))

-- a name that is apart from all is not told among them
not_chosen : (name : List ℕ) (names : List (List ℕ)) (told : List Bool) → AllByRecursion (λ y. bytes_eq name y ≡ false) names
    → is_one (chosen names told) name ≡ false
not_chosen name [] told h = refl
not_chosen name (y ∷ names) [] h = refl
not_chosen name (y ∷ names) (true ∷ told) h = ap₂ (λ a b. a || b) h.0 (not_chosen name names told h.1)
not_chosen name (y ∷ names) (false ∷ told) h = not_chosen name names told h.1

chosen_is : (names : List (List ℕ)) (told : List Bool) → length told ≡ length names → IsDistinct bytes_eq names → (k : ℕ) → k < length names
    → is_one (chosen names told) (name_at names k) ≡ slice_index_or told k false
unfolding IsDistinct
chosen_is [] told len d k lt = absurd (omega (arith, lt))
chosen_is (name ∷ names) [] len d k lt = absurd (omega (arith, len))
chosen_is (name ∷ names) (true ∷ told) len d zero lt =
    ap (λ b. b || is_one (chosen names told) name) ((bytes_eq-Decides name name).1 refl)
chosen_is (name ∷ names) (false ∷ told) len d zero lt = not_chosen name names told d.0
chosen_is (name ∷ names) (true ∷ told) len d (suc k) lt =
    ap (λ b. b || is_one (chosen names told) (name_at names k)) (apart_at name names d.0 k (omega (arith, lt)))
    ∙ chosen_is names told (omega (arith, len)) d.1 k (omega (arith, lt))
chosen_is (name ∷ names) (false ∷ told) len d (suc k) lt = chosen_is names told (omega (arith, len)) d.1 k (omega (arith, lt))

all_chosen : (test : List ℕ → Bool) (names : List (List ℕ)) (told : List Bool)
    → ((k : ℕ) → k < length names → slice_index_or told k false ≡ true → test (name_at names k) ≡ true)
    → AllByRecursion (λ one. test one ≡ true) (chosen names told)
all_chosen test [] told h = tt
all_chosen test (name ∷ names) [] h = tt
all_chosen test (name ∷ names) (true ∷ told) h =
    (h 0 (omega arith) refl, all_chosen test names told (λ k lt is. h (suc k) (omega (arith, lt)) is))
all_chosen test (name ∷ names) (false ∷ told) h = all_chosen test names told (λ k lt is. h (suc k) (omega (arith, lt)) is)

-- a test that says the same of all is true of all or of none
all_or_none : (t : List ℕ → Bool) (hosts : List (List ℕ)) (c : Bool) → AllHosts (λ host. t host ≡ c) hosts
    → (list_all t hosts || not (list_any t hosts)) ≡ true
all_or_none t hosts true h = ap (λ b. b || not (list_any t hosts)) (all hosts h)
  where
    all : (hosts : List (List ℕ)) → AllHosts (λ host. t host ≡ true) hosts → list_all t hosts ≡ true
    all [] h = refl
    all (host ∷ hosts) h = ap₂ (λ a b. a && b) h.0 (all hosts h.1)
all_or_none t hosts false h = ap (λ b. list_all t hosts || not b) (none hosts h) ∙ or_true (list_all t hosts)
  where
    none : (hosts : List (List ℕ)) → AllHosts (λ host. t host ≡ false) hosts → list_any t hosts ≡ false
    none [] h = refl
    none (host ∷ hosts) h = ap₂ (λ a b. a || b) h.0 (none hosts h.1)

    or_true : (b : Bool) → (b || true) ≡ true
    or_true true = refl
    or_true false = refl

pub links_tell_lem : LinksTell
links_tell_lem s l name id root told linked distinct within named joined root_in set =
    record { named = is_named; closed = closed; least = least }
  where
    mine : List (List ℕ)
    mine = chosen l.names told

    len : length told ≡ length l.names
    len = set.len ∙ linked.len

    number : (k : ℕ) → k < length l.names → is_one (chosen l.names told) (name_at l.names k) ≡ slice_index_or told k false
    number k lt = chosen_is l.names told len distinct k lt

    is_named : is_one (chosen l.names told) name ≡ true
    is_named =
        ap (is_one (chosen l.names told)) (sym named) ∙ number id within
        ∙ sym (joined (λ k. slice_index_or told k false) set.respects) ∙ set.own

    respects : Respects (by_number l.names (is_one (chosen l.names told))) l.parents
    respects k lt =
        let k_in : k < length l.names = subst (λ n. k < n) linked.len lt in
        let up = linked.parents k lt in
        let up_in : slice_index_or l.parents k 0 < length l.names = omega (arith, up, k_in) in
        number (slice_index_or l.parents k 0) up_in ∙ set.respects k lt ∙ sym (number k k_in)

    closed : IsClosed s (chosen l.names told)
    closed page is_in = go (hosts_of s.events page) (host_pairs s.header.rules (is_loaded s.events) page is_in s.events)
      where
        test : List ℕ → Bool
        test = is_one (chosen l.names told)

        go : (hosts : List (List ℕ)) → AllHosts (λ host. Among (page, party s.header.rules host) (pairs s)) hosts
            → (list_all (is_among s.header.rules (chosen l.names told)) hosts
            || not (list_any (is_among s.header.rules (chosen l.names told)) hosts)) ≡ true
        go [] h = refl
        go (host ∷ hosts) h =
            let a = linked.holds (is_one (chosen l.names told)) respects (page, party s.header.rules host) h.0 in
            all_or_none (is_among s.header.rules (chosen l.names told)) (host ∷ hosts)
            (is_one (chosen l.names told) (name_at l.names a.first))
            (all_more (λ x. Among (page, party s.header.rules x) (pairs s))
            (λ x. is_among s.header.rules (chosen l.names told) x ≡ is_one (chosen l.names told) (name_at l.names a.first))
            (λ x at.
            let b = linked.holds (is_one (chosen l.names told)) respects (page, party s.header.rules x) at in
            let both : Some b.first ≡ Some a.first = sym b.found ∙ a.found in
            let one : b.first ≡ a.first = cc in
            b.same ∙ ap (λ n. is_one (chosen l.names told) (name_at l.names n)) one)
            (host ∷ hosts) h)

    least : (others : List (List ℕ)) → is_one others name ≡ true → IsClosed s others
        → AllByRecursion (λ one. is_one others one ≡ true) (chosen l.names told)
    least others has closes =
        all_chosen (is_one others) l.names told
        (λ k lt is. set.only (by_number l.names (is_one others)) agrees k (subst (λ n. k < n) (sym linked.len) lt) is
        ∙ joined (by_number l.names (is_one others)) agrees ∙ ap (is_one others) named ∙ has)
      where
        per_page : OnePerPage (is_one others) (pairs s)
        per_page page a b at at' =
            let x = from_hosts s.header.rules (is_loaded s.events) (is_one others) page a s.events at in
            let y = from_hosts s.header.rules (is_loaded s.events) (is_one others) page b s.events at' in
            go (list_all (is_among s.header.rules others) (hosts_of s.events page)) refl
            (list_any (is_among s.header.rules others) (hosts_of s.events page)) refl (closes page x.is_in) x y
          where
            go : (all : Bool) → list_all (is_among s.header.rules others) (hosts_of s.events page) ≡ all
                → (any : Bool) → list_any (is_among s.header.rules others) (hosts_of s.events page) ≡ any
                → (list_all (is_among s.header.rules others) (hosts_of s.events page)
                || not (list_any (is_among s.header.rules others) (hosts_of s.events page))) ≡ true
                → FromHosts (is_loaded s.events) (is_one others) page a (hosts_of s.events page) s.header.rules
                → FromHosts (is_loaded s.events) (is_one others) page b (hosts_of s.events page) s.header.rules
                → is_one others a ≡ is_one others b
            go true is any found or x y = x.all is ∙ sym (y.all is)
            go false is false found or x y = x.none found ∙ sym (y.none found)
            go false is true found or x y = absurd (let no : false ≡ true = sym (ap₂ (λ p q. p || not q) is found) ∙ or in cc)

        agrees : Respects (by_number l.names (is_one others)) l.parents
        agrees = linked.owes (is_one others) per_page
