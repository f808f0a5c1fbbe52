-- Numbers that a loop gathers from events.
use Rattle.std.proofs.Common.{◌≡◌, ℕ, ◌+◌, ◌<◌, ◌≤◌, Bool, true, false, ◌||◌, ◌&&◌, cond, nat_eq, List, [], ◌∷◌, drop, get_or, length}
use Rattle.std.proofs.Common.{◌++◌, map, Option, Some, None, refl, sym, ap, ◌∙◌, append_assoc, append-nil, arith}
use Rattle.std.proofs.lemmas.Bool.Decides.{nat_tests}
use Rattle.std.proofs.lemmas.List.{at_drop_more, at_drop_all}
use Rattle.std.specs.List.{list_any, list_all}
use Rattle.std.specs.Prelude.{not}
use Rattle.fed_origin.specs.declared.options.ProviderOptions.{ProviderOptions}
use Rattle.fed_origin.specs.WebUrl.{host_of}
use Rattle.fed_suffix.specs.Rule.{RuleSet}
use Rattle.fed_script.specs.declared.event.Event.{Event}
use Rattle.fed_script.specs.declared.event.Numbered.{Numbered}
use Rattle.fed_slice.specs.Closure.{hosts_named, is_among, loads}
use Rattle.fed_slice.specs.Gather.{Adds, AreThose, Gives, is_given, is_kept_line, names_outside}
use Rattle.fed_slice.specs.Linked.{is_number}
use Rattle.fed_slice.specs.Part.{Part, has_event}
use Rattle.fed_slice.specs.Slice.{begins_on}

or_assoc : (a b c : Bool) → ((a || b) || c) ≡ (a || (b || c))
or_assoc true b c = refl
or_assoc false b c = refl

or_false : (b : Bool) → (b || false) ≡ b
or_false true = refl
or_false false = refl

-- of the numbers that pass at some event, those that were found, and those of the events that are left
pub record HasFound (test : Numbered → ℕ → Bool) (events left : List Numbered) (numbers : List ℕ) : Type 0 where
  pub is : (q : ℕ) → (is_number numbers q || list_any (λ n. test n q) left) ≡ list_any (λ n. test n q) events

pub none_yet : (test : Numbered → ℕ → Bool) (events : List Numbered) (numbers : List ℕ) → numbers ≡ []
    → HasFound test events events numbers
none_yet test events numbers none = record { is = λ q. ap (λ l. is_number l q || list_any (λ n. test n q) events) none }

-- one event more
pub gather : (test : Numbered → ℕ → Bool) (events : List Numbered) (i : ℕ) (n : Numbered) (given : Option ℕ) (old new : List ℕ)
    → i < length events → n ≡ get_or events i n → Gives (test n) given → Adds given old new
    → HasFound test events (drop i events) old → HasFound test events (drop (i + 1) events) new
gather test events i n given old new lt item gives adds h =
    record {
      is = λ q.
          ap (λ b. b || list_any (λ m. test m q) (drop (i + 1) events)) (adds q)
          ∙ or_assoc (is_number old q) (is_given q given) (list_any (λ m. test m q) (drop (i + 1) events))
          ∙ ap (λ b. is_number old q || (b || list_any (λ m. test m q) (drop (i + 1) events))) (gives q)
          ∙ ap (λ m. is_number old q || list_any (λ m. test m q) (m ∷ drop (i + 1) events)) item
          ∙ sym (ap (λ b. is_number old q || b) (at_drop_more (list_any (λ m. test m q)) events i n lt))
          ∙ h.is q;
    }

-- the loop is over
pub gathered : (test : Numbered → ℕ → Bool) (events : List Numbered) (i : ℕ) (numbers : List ℕ) → length events ≤ i
    → HasFound test events (drop i events) numbers → AreThose (λ q. list_any (λ n. test n q) events) numbers
gathered test events i numbers over h q =
    sym (or_false (is_number numbers q))
    ∙ sym (ap (λ b. is_number numbers q || b) (at_drop_all (list_any (λ n. test n q)) events i over))
    ∙ h.is q

-- ---- what one event gives

-- a number that is given where a test of it fails
pub gives_unless : (outside : ℕ → Bool) (page : ℕ) (b : Bool) → b ≡ outside page
    → Gives (λ q. nat_eq q page && not (outside q)) (cond b None (Some page))
gives_unless outside page b is q = go (nat_eq q page) refl b is
  where
    go : (t : Bool) → nat_eq q page ≡ t → (b : Bool) → b ≡ outside page
        → is_given q (cond b None (Some page)) ≡ (t && not (outside q))
    go false other true is = refl
    go false other false is = other
    go true same true is =
        let one : q ≡ page = grind (arith, nat_tests, same) in
        ap not (is ∙ ap outside (sym one))
    go true same false is =
        let one : q ≡ page = grind (arith, nat_tests, same) in
        same ∙ ap not (is ∙ ap outside (sym one))

-- one that is given unless all of its texts pass
pub gives_outside : (passes : List ℕ → Bool) (hosts : List (List ℕ)) (page : ℕ) (b : Bool) → b ≡ list_all passes hosts
    → Gives (λ q. list_any (λ host. not (passes host)) (cond (nat_eq q page) hosts [])) (cond b None (Some page))
gives_outside passes hosts page b is q = go (nat_eq q page) refl b is
  where
    fails : (hosts : List (List ℕ)) → not (list_all passes hosts) ≡ list_any (λ host. not (passes host)) hosts
    fails [] = refl
    fails (host ∷ hosts) = both (passes host) (fails hosts)
      where
        both : (b : Bool) → not (list_all passes hosts) ≡ list_any (λ host. not (passes host)) hosts
            → not (b && list_all passes hosts) ≡ (not b || list_any (λ host. not (passes host)) hosts)
        both true rest = rest
        both false rest = refl

    go : (t : Bool) → nat_eq q page ≡ t → (b : Bool) → b ≡ list_all passes hosts
        → is_given q (cond b None (Some page)) ≡ list_any (λ host. not (passes host)) (cond t hosts [])
    go false other true is = refl
    go false other false is = other
    go true same true is = ap not is ∙ fails hosts
    go true same false is = same ∙ ap not is ∙ fails hosts

-- ---- what an event gives

pub outside_at : (rules : RuleSet) (parties : List (List ℕ)) (event : Event) (page : ℕ) (hosts : List (List ℕ)) (b : Bool)
    (given : Option ℕ) → ((q : ℕ) → hosts_named q event ≡ cond (nat_eq q page) hosts []) → b ≡ list_all (is_among rules parties) hosts
    → given ≡ cond b None (Some page) → Gives (λ q. names_outside rules parties q event) given
outside_at rules parties event page hosts b given names inside is q =
    ap (is_given q) is ∙ gives_outside (is_among rules parties) hosts page b inside q
    ∙ sym (ap (list_any (λ host. not (is_among rules parties host))) (names q))

pub one_host : (rules : RuleSet) (parties : List (List ℕ)) (own : List ℕ) {host : List ℕ} {b : Bool} → host ≡ own
    → b ≡ is_among rules parties host → b ≡ list_all (is_among rules parties) (own ∷ [])
one_host rules parties own {host = host} of_host is =
    is ∙ ap (is_among rules parties) of_host ∙ sym (and_true (is_among rules parties own))
  where
    and_true : (b : Bool) → (b && true) ≡ b
    and_true true = refl
    and_true false = refl

pub all_hosts : (rules : RuleSet) (parties : List (List ℕ)) (own : List ProviderOptions) {providers : List ProviderOptions} {b : Bool}
    → providers ≡ own → b ≡ list_all (is_among rules parties) (map (λ o. host_of o.config) providers)
    → b ≡ list_all (is_among rules parties) (map (λ o. host_of o.config) own)
all_hosts rules parties own same is = is ∙ ap (λ ps. list_all (is_among rules parties) (map (λ o. host_of o.config) ps)) same

pub load_at : (outside : ℕ → Bool) (event : Event) (page : ℕ) (b : Bool) (given : Option ℕ) → ((q : ℕ) → loads q event ≡ nat_eq q page)
    → b ≡ outside page → given ≡ cond b None (Some page) → Gives (λ q. loads q event && not (outside q)) given
load_at outside event page b given names inside is q =
    ap (is_given q) is ∙ gives_unless outside page b inside q ∙ sym (ap (λ t. t && not (outside q)) (names q))

pub call_at : (pages : ℕ → Bool) (event : Event) (page call : ℕ) (b : Bool) (given : Option ℕ)
    → ((q : ℕ) → begins_on pages q event ≡ (nat_eq q call && pages page)) → b ≡ pages page
    → given ≡ cond (not b) None (Some call) → Gives (λ q. begins_on pages q event) given
call_at pages event page call b given begins inside is q =
    ap (is_given q) is ∙ go b ∙ ap (λ t. nat_eq q call && t) inside ∙ sym (begins q)
  where
    and_true : (b : Bool) → b ≡ (b && true)
    and_true true = refl
    and_true false = refl

    and_false : (b : Bool) → false ≡ (b && false)
    and_false true = refl
    and_false false = refl

    go : (b : Bool) → is_given q (cond (not b) None (Some call)) ≡ (nat_eq q call && b)
    go true = and_true (nat_eq q call)
    go false = and_false (nat_eq q call)

pub line_at : (p : Part) (n : Numbered) (b : Bool) (given : Option ℕ) → b ≡ has_event p n.event
    → given ≡ cond (not b) None (Some n.line) → Gives (is_kept_line p n) given
line_at p n b given inside is q = ap (is_given q) is ∙ go b ∙ ap (λ t. t && nat_eq q n.line) inside
  where
    go : (b : Bool) → is_given q (cond (not b) None (Some n.line)) ≡ (b && nat_eq q n.line)
    go true = refl
    go false = refl

-- ---- what is told of each event

-- one event more
pub mark : {A : Type 0} (f : A → Bool) (xs : List A) (i : ℕ) (x : A) (b : Bool) (old new : List Bool) → i < length xs → x ≡ get_or xs i x
    → b ≡ f x → new ≡ old ++ b ∷ [] → old ++ map f (drop i xs) ≡ map f xs → new ++ map f (drop (i + 1) xs) ≡ map f xs
mark f xs i x b old new lt item is push h =
    ap (λ l. l ++ map f (drop (i + 1) xs)) push
    ∙ append_assoc old (b ∷ []) (map f (drop (i + 1) xs))
    ∙ ap (λ t. old ++ t ∷ map f (drop (i + 1) xs)) (is ∙ ap f item)
    ∙ sym (ap (λ l. old ++ l) (at_drop_more (map f) xs i x lt))
    ∙ h

pub marked : {A : Type 0} (f : A → Bool) (xs : List A) (i : ℕ) (new : List Bool) → length xs ≤ i
    → new ++ map f (drop i xs) ≡ map f xs → new ≡ map f xs
marked f xs i new over h = sym (append-nil new) ∙ sym (ap (λ l. new ++ l) (at_drop_all (map f) xs i over)) ∙ h
