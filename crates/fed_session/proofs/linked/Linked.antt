-- The linked lists of a session, by the trace that it stands for.
use Rattle.std.proofs.Common.{◌≡◌, ◌≤◌, ℕ, Bool, true, false, nat_eq, ◌||◌, List, [], ◌∷◌, length, Some}
use Rattle.std.proofs.Common.{refl, sym, ap, ◌∙◌, arith, cond, map, drop, eq-eqb}
use Rattle.std.proofs.lemmas.Bool.Decides.{nat_tests}
use Rattle.std.proofs.lemmas.List.{length-map}
use Rattle.std.proofs.lemmas.Map.Keys.{IsDistinct-head, IsDistinct-tail}
use Rattle.std.specs.Prelude.{slice_get, unwrap_or, filter, ◌==◌}
use Rattle.std.specs.List.{list_any, IsDistinct, AllByRecursion}
use Rattle.std.specs.Map.{lookup, keys_of, values_of}
use Rattle.fed_links.specs.Lists.{list_at}
use Rattle.fed_origin.specs.declared.origin.Origin.{Origin}
use Rattle.fed_script.specs.declared.event.Event.{Event}
use Rattle.fed_table.specs.Lists.{times, times_in}
use Rattle.fed_table.specs.Table.{IsCallTable, page_calls, waiting_for, has_call, nodes_of}
use Rattle.fed_table.proofs.closing.Turns.{times_within}
use Rattle.fed_trace.specs.Effect.{PendingCall}
use Rattle.fed_trace.specs.Trace.{Trace, pending, pending_of, calls_of, page_at}
use Rattle.fed_trace.specs.Windows.{pages_loaded, origins_waited, windows_of}
use Rattle.fed_session.specs.Links.{AreLinked, is_pending, most_steps, resumed_calls}
use Rattle.fed_session.specs.Session.{State, Stands, numbers_in}
use Rattle.fed_session.proofs.events.Event.{page_kept}
use Rattle.fed_session.proofs.waits.Windows.{waiting_at}

-- ---- calls of a page among pending calls

pending_none : (c page : ℕ) (ps : List (ℕ × PendingCall)) → list_any (λ p. nat_eq c p.0) ps ≡ false
    → times c (numbers_in (calls_of page ps)) ≡ 0
pending_none c page [] none = refl
pending_none c page (p ∷ ps) none = by (nat_eq c p.0) refl none (pending_none c page ps)
  where
    at : (t : Bool) → nat_eq c p.0 ≡ false → times c (numbers_in (calls_of page ps)) ≡ 0
        → times c (numbers_in (map (λ call. (call.0, call.1.kind)) (cond t (p ∷ filter (λ call. call.1.page == page) ps)
        (filter (λ call. call.1.page == page) ps)))) ≡ 0
    at true is rest = let other : ◌≡◌ {A = ℕ} (cond (nat_eq c p.0) 1 0) 0 = ap (λ b. cond b 1 0) is in omega (arith, other, rest)
    at false is rest = rest

    by : (u : Bool) → nat_eq c p.0 ≡ u → u || list_any (λ p. nat_eq c p.0) ps ≡ false
        → (list_any (λ p. nat_eq c p.0) ps ≡ false → times c (numbers_in (calls_of page ps)) ≡ 0)
        → times c (numbers_in (calls_of page (p ∷ ps))) ≡ 0
    by true is none rest = absurd (cc)
    by false is none rest = at (p.1.page == page) is (rest none)

pending_some : (c : ℕ) (ps : List (ℕ × PendingCall)) → list_any (λ p. nat_eq c p.0) ps ≡ true
    → (page : ℕ) × (1 ≤ times c (numbers_in (calls_of page ps)))
pending_some c [] some = absurd (cc)
pending_some c (p ∷ ps) some = by (nat_eq c p.0) refl some (pending_some c ps)
  where
    own : (t : Bool) → t ≡ true → nat_eq c p.0 ≡ true
        → 1 ≤ times c (numbers_in (map (λ call. (call.0, call.1.kind)) (cond t (p ∷ filter (λ call. call.1.page == p.1.page) ps)
        (filter (λ call. call.1.page == p.1.page) ps))))
    own true e is = let one : ◌≡◌ {A = ℕ} (cond (nat_eq c p.0) 1 0) 1 = ap (λ b. cond b 1 0) is in omega (arith, one)
    own false e is = absurd (cc)

    later : (page : ℕ) (t : Bool) → 1 ≤ times c (numbers_in (calls_of page ps))
        → 1 ≤ times c (numbers_in (map (λ call. (call.0, call.1.kind)) (cond t (p ∷ filter (λ call. call.1.page == page) ps)
        (filter (λ call. call.1.page == page) ps))))
    later page true rest = omega (arith, rest)
    later page false rest = rest

    by : (u : Bool) → nat_eq c p.0 ≡ u → u || list_any (λ p. nat_eq c p.0) ps ≡ true
        → (list_any (λ p. nat_eq c p.0) ps ≡ true → (page : ℕ) × (1 ≤ times c (numbers_in (calls_of page ps))))
        → (page : ℕ) × (1 ≤ times c (numbers_in (calls_of page (p ∷ ps))))
    by true is some rest = (p.1.page, own (p.1.page == p.1.page) (eq-eqb p.1.page p.1.page refl) is)
    by false is some rest = let found = rest some in (found.0, later found.0 (p.1.page == found.0) found.1)

-- ---- lists by key, and by place

apart_keys : (e : ℕ × List ℕ) (es : List (ℕ × List ℕ)) (qs : List ℕ) → AllByRecursion (λ q. nat_eq e.0 q ≡ false) qs
    → map (page_calls es) qs ≡ map (page_calls (e ∷ es)) qs
apart_keys e es [] all = refl
apart_keys e es (q ∷ qs) all =
    let other : nat_eq q e.0 ≡ false = (let a = all.0 in grind (arith, nat_tests, a)) in
    let here : page_calls es q ≡ page_calls (e ∷ es) q = ap (λ b. unwrap_or (cond b (Some e.1) (lookup (nat_eq q) es)) []) (sym other) in
    let rest = apart_keys e es qs all.1 in
    λ i. here i ∷ rest i

values_by_key : (es : List (ℕ × List ℕ)) → IsDistinct nat_eq (keys_of es) → values_of es ≡ map (page_calls es) (keys_of es)
values_by_key [] once = refl
values_by_key (e ∷ es) once =
    let own : nat_eq e.0 e.0 ≡ true = eq-eqb e.0 e.0 refl in
    let here : e.1 ≡ page_calls (e ∷ es) e.0 = ap (λ b. unwrap_or (cond b (Some e.1) (lookup (nat_eq e.0) es)) []) (sym own) in
    let rest = values_by_key es (IsDistinct-tail nat_eq e.0 (keys_of es) once)
    ∙ apart_keys e es (keys_of es) (IsDistinct-head nat_eq e.0 (keys_of es) once) in
    λ i. here i ∷ rest i

map_same : {A B : Type 0} (f g : A → B) → ((a : A) → f a ≡ g a) → (xs : List A) → map f xs ≡ map g xs
map_same f g same [] = refl
map_same f g same (x ∷ xs) = let here = same x in let rest = map_same f g same xs in λ i. here i ∷ rest i

values_paired : (f : Origin → List ℕ) (os : List Origin) → values_of (map (λ origin. (origin, f origin)) os) ≡ map f os
values_paired f [] = refl
values_paired f (o ∷ os) = ap (λ ls. f o ∷ ls) (values_paired f os)

times_nowhere : (c : ℕ) (f : ℕ → List ℕ) → ((q : ℕ) → times c (f q) ≡ 0) → (es : List (ℕ × List ℕ)) (qs : List ℕ)
    → values_of es ≡ map f qs → times_in c es ≡ 0
times_nowhere c f none [] qs same = refl
times_nowhere c f none (e ∷ es) [] same = absurd (let l = ap length same in omega (arith, l))
times_nowhere c f none (e ∷ es) (q ∷ qs) same =
    let head : e.1 ≡ f q = ap (λ ls. unwrap_or (slice_get ls 0) []) same in
    let rest = times_nowhere c f none es qs (ap (drop 1) same) in
    let here : times c e.1 ≡ 0 = ap (times c) head ∙ none q in
    omega (arith, here, rest)

-- ---- what a session keeps

module _ (s : State) (T : Trace) (h : Stands s T) where
  held_count : (page : ℕ) → length (page_calls s.tabs.table.pages page) ≡ length (pending_of T page)
  held_count page = ap length (h.held page) ∙ length-map (pending_of T page) (λ c. c.0)

  waits_same : (origin : Origin) → waiting_for s.tabs.table.waits origin ≡ windows_of T origin
  waits_same origin = ap (λ waits. waiting_for waits origin) h.waits ∙ waiting_at T origin

  -- the bound by what is kept is that by the trace
  pub steps_same : (event : Event)
      → most_steps (λ page. length (page_calls s.tabs.table.pages page))
      (λ page. length (resumed_calls (waiting_for s.tabs.table.waits) (lookup (nat_eq page) s.tabs.pages))) event
      ≡ most_steps (λ page. length (pending_of T page)) (λ page. length (resumed_calls (windows_of T) (page_at T page))) event
  steps_same event = λ i. most_steps (λ page. held_count page i)
      (λ page. length (resumed_calls (λ origin. waits_same origin i) (page_kept s T page h i))) event

  module _ (are : IsCallTable s.tabs.table) where
    page_values : values_of s.tabs.table.pages ≡ map (λ page. numbers_in (pending_of T page)) (pages_loaded T)
    page_values =
        values_by_key s.tabs.table.pages are.pages
        ∙ map_same (page_calls s.tabs.table.pages) (λ page. numbers_in (pending_of T page)) h.held (keys_of s.tabs.table.pages)
        ∙ ap (map (λ page. numbers_in (pending_of T page))) h.loaded

    wait_values : values_of s.tabs.table.waits ≡ map (windows_of T) (origins_waited T)
    wait_values = ap values_of h.waits ∙ values_paired (windows_of T) (origins_waited T)

    there : (call : ℕ) → has_call s.tabs.table.items call ≡ is_pending T call
    there call = by (is_pending T call) refl
      where
        count : (t : Bool) → ◌≡◌ {A = ℕ} (cond t 1 0) 0 → t ≡ false
        count true e = absurd (omega (arith, e))
        count false e = refl

        some : (t : Bool) → 1 ≤ cond t 1 0 → t ≡ true
        some true e = refl
        some false e = absurd (omega (arith, e))

        by : (t : Bool) → is_pending T call ≡ t → has_call s.tabs.table.items call ≡ t
        by false none = count (has_call s.tabs.table.items call)
            (sym (are.standing call)
            ∙ times_nowhere call (λ page. numbers_in (pending_of T page)) (λ page. pending_none call page (pending T) none)
            s.tabs.table.pages (pages_loaded T) page_values)
        by true is = some (has_call s.tabs.table.items call)
            (let found = pending_some call (pending T) is in
            let same = ap (times call) (h.held found.0) in
            let within = times_within (nat_eq found.0) call s.tabs.table.pages in
            let all = are.standing call in
            let least = found.1 in
            omega (arith, same, within, all, least))

    pub linked : AreLinked s.tabs.table.links s.tabs.table.nodes T
    linked = record {
      noded = λ call. are.noded call ∙ there call;
      apart = are.apart;
      page_nodes = λ place. are.page_nodes place ∙ ap (λ ls. nodes_of s.tabs.table.nodes (list_at ls place)) page_values;
      wait_nodes = λ place. are.wait_nodes place ∙ ap (λ ls. nodes_of s.tabs.table.nodes (list_at ls place)) wait_values;
    }
