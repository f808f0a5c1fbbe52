-- In a run the pending gets are the gets among the pending calls.
use Rattle.std.proofs.Common.{◌≡◌, ℕ, Bool, true, false, not, ◌&&◌, ◌||◌, nat_eq, ◌==◌, List, [], ◌∷◌, ◌++◌}
use Rattle.std.proofs.Common.{Some, None, map, refl, sym, ap}
use Rattle.std.proofs.Common.{subst, ◌∙◌, arith, cond, append-nil}
use Rattle.std.proofs.lemmas.Bool.Decides.{nat_tests}
use Rattle.std.proofs.lemmas.List.Elements.{filter_map-append}
use Rattle.std.specs.Prelude.{Option, filter}
use Rattle.std.specs.List.{filter_map, cons_option, list_any}
use Rattle.std.specs.Map.{lookup}
use Rattle.indexmap.specs.IndexMap.{insert_entry, shift_remove_entry}
use Rattle.fed_origin.specs.declared.stage.Stage.{Stage}
use Rattle.fed_origin.specs.declared.stage.Stage.TheVariants.{Reading, Listing, Gathering, Mismatch, Window, Choosing, Prompting}
use Rattle.fed_origin.specs.declared.stage.Stage.TheVariants.{Asserting, Ended}
use Rattle.fed_trace.specs.Begun.{CallKind, GetCall, DisconnectCall, of_get}
use Rattle.fed_trace.specs.Effect.{PendingCall, call_change, get_change}
use Rattle.fed_trace.specs.Keyed.{changed, entries_after}
use Rattle.fed_trace.specs.Row.{ends_of, moves}
use Rattle.fed_trace.specs.Trace.{by_kind, calls_of}
use Rattle.fed_trace.proofs.calls.Pending.{others, is_among}
use Rattle.fed_trace.proofs.keyed.Entries.{insert_absent}
use Rattle.fed_trace.proofs.keyed.Keyed.{IsAbsent, AreDistinct}

-- a pending get, with its page
abbrev pub get_of : ℕ × PendingCall → Option (ℕ × ℕ)
get_of call = of_get call.1.kind (Some (call.0, call.1.page))

-- the gets among pending calls
abbrev pub gets_among : List (ℕ × PendingCall) → List (ℕ × ℕ)
gets_among calls = filter_map get_of calls

-- ---- a call begins

absent_gets : (call : ℕ) (es : List (ℕ × PendingCall)) → IsAbsent call es → IsAbsent call (gets_among es)
absent_gets call [] h = refl
absent_gets call (e ∷ es) h =
    let here : nat_eq call e.0 ≡ false = grind (arith, nat_tests, h) in
    let tail : IsAbsent call es = grind (arith, nat_tests, h) in
    go here (absent_gets call es tail) e.1.kind
  where
    go : nat_eq call e.0 ≡ false → IsAbsent call (gets_among es) → (kind : CallKind)
        → IsAbsent call (cons_option (of_get kind (Some (e.0, e.1.page))) (gets_among es))
    go here rest GetCall = ap (λ b. cond b (Some e.1.page) (lookup (nat_eq call) (gets_among es))) here ∙ rest
    go here rest DisconnectCall = rest

pub gets_insert : (call : ℕ) (v : PendingCall) (es : List (ℕ × PendingCall)) → IsAbsent call es
    → gets_among (insert_entry nat_eq es call v) ≡ changed nat_eq (of_get v.kind (Some (call, Some v.page))) (gets_among es)
gets_insert call v es absent =
    ap gets_among (insert_absent call v es absent) ∙ filter_map-append get_of es ((call, v) ∷ []) ∙ go v.kind
  where
    go : (kind : CallKind) → gets_among es ++ cons_option (of_get kind (Some (call, v.page))) []
        ≡ changed nat_eq (of_get kind (Some (call, Some v.page))) (gets_among es)
    go GetCall = sym (insert_absent call v.page (gets_among es) (absent_gets call es absent))
    go DisconnectCall = append-nil (gets_among es)

-- ---- a call ends

-- it is of this kind, where it is pending
abbrev pub IsOfKind : CallKind → ℕ → List (ℕ × PendingCall) → Type 0
IsOfKind kind call es = (v : PendingCall) → lookup (nat_eq call) es ≡ Some v → v.kind ≡ kind

pub gets_remove : (kind : CallKind) (call : ℕ) (es : List (ℕ × PendingCall)) → IsOfKind kind call es
    → gets_among (shift_remove_entry (nat_eq call) es) ≡ changed nat_eq (of_get kind (Some (call, None))) (gets_among es)
gets_remove GetCall call [] h = refl
gets_remove DisconnectCall call [] h = refl
gets_remove kind call (e ∷ es) h = go (gets_remove kind call es) (nat_eq call e.0) refl
  where
    gone : (kind' : CallKind) → nat_eq call e.0 ≡ true
        → gets_among es ≡ changed nat_eq (of_get kind' (Some (call, None)))
        (cons_option (of_get kind' (Some (e.0, e.1.page))) (gets_among es))
    gone GetCall is = sym (ap (λ b. cond b (gets_among es) ((e.0, e.1.page) ∷ shift_remove_entry (nat_eq call) (gets_among es))) is)
    gone DisconnectCall is = refl

    stays : (kind' own : CallKind) → nat_eq call e.0 ≡ false
        → cons_option (of_get own (Some (e.0, e.1.page))) (changed nat_eq (of_get kind' (Some (call, None))) (gets_among es))
        ≡ changed nat_eq (of_get kind' (Some (call, None))) (cons_option (of_get own (Some (e.0, e.1.page))) (gets_among es))
    stays GetCall GetCall is =
        sym (ap (λ b. cond b (gets_among es) ((e.0, e.1.page) ∷ shift_remove_entry (nat_eq call) (gets_among es))) is)
    stays GetCall DisconnectCall is = refl
    stays DisconnectCall own is = refl

    go : (IsOfKind kind call es → gets_among (shift_remove_entry (nat_eq call) es)
        ≡ changed nat_eq (of_get kind (Some (call, None))) (gets_among es))
        → (b : Bool) → nat_eq call e.0 ≡ b
        → gets_among (cond b es (e ∷ shift_remove_entry (nat_eq call) es))
        ≡ changed nat_eq (of_get kind (Some (call, None))) (gets_among (e ∷ es))
    go rest true is =
        let own : e.1.kind ≡ kind = h e.1 (ap (λ b. cond b (Some e.1) (lookup (nat_eq call) es)) is) in
        gone kind is ∙ ap (λ k. changed nat_eq (of_get kind (Some (call, None)))
        (cons_option (of_get k (Some (e.0, e.1.page))) (gets_among es))) (sym own)
    go rest false is =
        let later : IsOfKind kind call es = λ v found. h v (ap (λ b. cond b (Some e.1) (lookup (nat_eq call) es)) is ∙ found) in
        ap (cons_option (get_of e)) (rest later) ∙ stays kind e.1.kind is

-- a move
pub gets_moved : (kind : CallKind) (call : ℕ) (stage : Option Stage) (es : List (ℕ × PendingCall)) → IsOfKind kind call es
    → gets_among (entries_after nat_eq call_change (moves kind call stage) es)
    ≡ entries_after nat_eq get_change (moves kind call stage) (gets_among es)
gets_moved kind call None es h = refl
gets_moved kind call (Some Ended) es h = gets_remove kind call es h
gets_moved kind call (Some Reading) es h = still kind
  where
    still : (kind : CallKind) → gets_among es ≡ changed nat_eq (of_get kind None) (gets_among es)
    still GetCall = refl
    still DisconnectCall = refl
gets_moved kind call (Some Listing) es h = still kind
  where
    still : (kind : CallKind) → gets_among es ≡ changed nat_eq (of_get kind None) (gets_among es)
    still GetCall = refl
    still DisconnectCall = refl
gets_moved kind call (Some Mismatch) es h = still kind
  where
    still : (kind : CallKind) → gets_among es ≡ changed nat_eq (of_get kind None) (gets_among es)
    still GetCall = refl
    still DisconnectCall = refl
gets_moved kind call (Some Gathering) es h = still kind
  where
    still : (kind : CallKind) → gets_among es ≡ changed nat_eq (of_get kind None) (gets_among es)
    still GetCall = refl
    still DisconnectCall = refl
gets_moved kind call (Some Window) es h = still kind
  where
    still : (kind : CallKind) → gets_among es ≡ changed nat_eq (of_get kind None) (gets_among es)
    still GetCall = refl
    still DisconnectCall = refl
gets_moved kind call (Some Choosing) es h = still kind
  where
    still : (kind : CallKind) → gets_among es ≡ changed nat_eq (of_get kind None) (gets_among es)
    still GetCall = refl
    still DisconnectCall = refl
gets_moved kind call (Some Prompting) es h = still kind
  where
    still : (kind : CallKind) → gets_among es ≡ changed nat_eq (of_get kind None) (gets_among es)
    still GetCall = refl
    still DisconnectCall = refl
gets_moved kind call (Some Asserting) es h = still kind
  where
    still : (kind : CallKind) → gets_among es ≡ changed nat_eq (of_get kind None) (gets_among es)
    still GetCall = refl
    still DisconnectCall = refl

-- ---- the calls of a page end

-- ends of other calls leave a get in front
skips_get : (x : ℕ × ℕ) (calls : List (ℕ × PendingCall)) (gs : List (ℕ × ℕ)) → IsAbsent x.0 calls
    → entries_after nat_eq get_change (ends_of (map by_kind calls)) (x ∷ gs)
    ≡ x ∷ entries_after nat_eq get_change (ends_of (map by_kind calls)) gs
skips_get x [] gs h = refl
skips_get x (c ∷ calls) gs h =
    let ne : nat_eq c.0 x.0 ≡ false = grind (arith, nat_tests, h) in
    let rest : IsAbsent x.0 calls = grind (arith, nat_tests, h) in
    one c.1.kind ne ∙ skips_get x calls (changed nat_eq (of_get c.1.kind (Some (c.0, None))) gs) rest
  where
    one : (kind : CallKind) → nat_eq c.0 x.0 ≡ false
        → entries_after nat_eq get_change (ends_of (map by_kind calls)) (changed nat_eq (of_get kind (Some (c.0, None))) (x ∷ gs))
        ≡ entries_after nat_eq get_change (ends_of (map by_kind calls)) (x ∷ changed nat_eq (of_get kind (Some (c.0, None))) gs)
    one GetCall ne =
        ap (λ b. entries_after nat_eq get_change (ends_of (map by_kind calls)) (cond b gs (x ∷ shift_remove_entry (nat_eq c.0) gs))) ne
    one DisconnectCall ne = refl

absent_on_page : (k page : ℕ) (es : List (ℕ × PendingCall)) → IsAbsent k es → IsAbsent k (filter (λ call. call.1.page == page) es)
absent_on_page k page [] h = refl
absent_on_page k page (e ∷ es) h =
    let here : nat_eq k e.0 ≡ false = grind (arith, nat_tests, h) in
    let tail : IsAbsent k es = grind (arith, nat_tests, h) in
    go here (absent_on_page k page es tail) (e.1.page == page)
  where
    go : nat_eq k e.0 ≡ false → IsAbsent k (filter (λ call. call.1.page == page) es) → (b : Bool)
        → IsAbsent k (cond b (e ∷ filter (λ call. call.1.page == page) es) (filter (λ call. call.1.page == page) es))
    go here rest true = ap (λ t. cond t (Some e.1) (lookup (nat_eq k) (filter (λ call. call.1.page == page) es))) here ∙ rest
    go here rest false = rest

-- where the pending calls of a page end, the gets of the others are left
pub gets_ended : (page : ℕ) (es : List (ℕ × PendingCall)) → AreDistinct es
    → gets_among (others page es) ≡ entries_after nat_eq get_change (ends_of (calls_of page es)) (gets_among es)
gets_ended page [] h = refl
gets_ended page (e ∷ es) h = go (gets_ended page es h.1) (e.1.page == page) e.1.kind
  where
    go : gets_among (others page es) ≡ entries_after nat_eq get_change (ends_of (calls_of page es)) (gets_among es) → (b : Bool)
        → (kind : CallKind)
        → filter_map get_of (cond (not b) (e ∷ others page es) (others page es))
        ≡ entries_after nat_eq get_change (ends_of (map by_kind
        (cond b (e ∷ filter (λ call. call.1.page == page) es) (filter (λ call. call.1.page == page) es)))) (gets_among (e ∷ es))
    go rest true kind = rest ∙ own e.1.kind
      where
        own : (kind : CallKind) → entries_after nat_eq get_change (ends_of (calls_of page es)) (gets_among es)
            ≡ entries_after nat_eq get_change (ends_of (calls_of page es))
            (changed nat_eq (of_get kind (Some (e.0, None))) (cons_option (of_get kind (Some (e.0, e.1.page))) (gets_among es)))
        own GetCall =
            let same : nat_eq e.0 e.0 ≡ true = grind (arith, nat_tests) in
            sym (ap (λ t. entries_after nat_eq get_change (ends_of (calls_of page es)) (cond t (gets_among es)
            ((e.0, e.1.page) ∷ shift_remove_entry (nat_eq e.0) (gets_among es)))) same)
        own DisconnectCall = refl
    go rest false kind = ap (cons_option (get_of e)) rest ∙ front e.1.kind
      where
        front : (kind : CallKind) → cons_option (of_get kind (Some (e.0, e.1.page)))
            (entries_after nat_eq get_change (ends_of (calls_of page es)) (gets_among es))
            ≡ entries_after nat_eq get_change (ends_of (calls_of page es))
            (cons_option (of_get kind (Some (e.0, e.1.page))) (gets_among es))
        front GetCall =
            sym (skips_get (e.0, e.1.page) (filter (λ call. call.1.page == page) es) (gets_among es) (absent_on_page e.0 page es h.0))
        front DisconnectCall = refl

-- ---- a get of a page

-- the page has this get
abbrev pub has_get : ℕ → ℕ → List (ℕ × ℕ) → Bool
has_get call page gets = list_any (λ get. nat_eq call get.0 && (get.1 == page)) gets

or_true : (b : Bool) → b || true ≡ true
or_true true = refl
or_true false = refl

-- a get among fewer is one among more
has_get_later : (call page : ℕ) (first : Option (ℕ × ℕ)) (gets : List (ℕ × ℕ)) → has_get call page gets ≡ true
    → has_get call page (cons_option first gets) ≡ true
has_get_later call page None gets h = h
has_get_later call page (Some get) gets h =
    ap (λ b. (nat_eq call get.0 && (get.1 == page)) || b) h ∙ or_true (nat_eq call get.0 && (get.1 == page))

-- it is among the pending calls of the page
pub get_is_among : (call page : ℕ) (es : List (ℕ × PendingCall)) → has_get call page (gets_among es) ≡ true
    → is_among call (calls_of page es) ≡ true
get_is_among call page [] h = absurd (cc)
get_is_among call page (e ∷ es) h = go (get_is_among call page es) (e.1.page == page) refl e.1.kind h
  where
    own : (mine here : Bool) (rest among : Bool) → (rest ≡ true → among ≡ true) → (mine && here) || rest ≡ true
        → here ≡ true
        → mine || among ≡ true
    own true here rest among more has at = refl
    own false here rest among more has at = more has

    other : (mine here : Bool) (rest among : Bool) → (rest ≡ true → among ≡ true) → (mine && here) || rest ≡ true
        → here ≡ false
        → among ≡ true
    other mine true rest among more has at = absurd (cc)
    other true false rest among more has at = more has
    other false false rest among more has at = more has

    go : (has_get call page (gets_among es) ≡ true → is_among call (calls_of page es) ≡ true) → (b : Bool)
        → (e.1.page == page) ≡ b
        → (kind : CallKind) → has_get call page (cons_option (of_get kind (Some (e.0, e.1.page))) (gets_among es)) ≡ true
        → is_among call (map by_kind (cond b (e ∷ filter (λ call. call.1.page == page) es) (filter (λ call. call.1.page == page) es)))
        ≡ true
    go later true at GetCall has =
        own (nat_eq call e.0) (e.1.page == page) (has_get call page (gets_among es)) (is_among call (calls_of page es)) later has at
    go later true at DisconnectCall has = ap (λ b. nat_eq call e.0 || b) (later has) ∙ or_true (nat_eq call e.0)
    go later false at GetCall has =
        other (nat_eq call e.0) (e.1.page == page) (has_get call page (gets_among es)) (is_among call (calls_of page es)) later has at
    go later false at DisconnectCall has = later has

-- and so is one of the pending calls of the page, where it is a get
pub among_is_get : (call page : ℕ) (es : List (ℕ × PendingCall)) → AreDistinct es → IsOfKind GetCall call es
    → is_among call (calls_of page es) ≡ true
    → has_get call page (gets_among es) ≡ true
among_is_get call page [] distinct kind h = absurd (cc)
among_is_get call page (e ∷ es) distinct kind h =
    go (among_is_get call page es distinct.1) (nat_eq call e.0) refl (e.1.page == page) refl h
  where
    Under : Bool → Type 0
    Under here =
        is_among call (map by_kind (cond here (e ∷ filter (λ call. call.1.page == page) es) (filter (λ call. call.1.page == page) es)))
        ≡ true

    later : IsOfKind GetCall call es → (IsOfKind GetCall call es → is_among call (calls_of page es) ≡ true
        → has_get call page (gets_among es) ≡ true)
        → is_among call (calls_of page es) ≡ true → has_get call page (gets_among (e ∷ es)) ≡ true
    later of_kind rest among = has_get_later call page (get_of e) (gets_among es) (rest of_kind among)

    go : (IsOfKind GetCall call es → is_among call (calls_of page es) ≡ true → has_get call page (gets_among es) ≡ true)
        → (mine : Bool) → nat_eq call e.0 ≡ mine → (here : Bool) → (e.1.page == page) ≡ here → Under here
        → has_get call page (gets_among (e ∷ es)) ≡ true
    go rest true is true at among =
        let get : e.1.kind ≡ GetCall = kind e.1 (ap (λ b. cond b (Some e.1) (lookup (nat_eq call) es)) is) in
        ap (λ k. has_get call page (cons_option (of_get k (Some (e.0, e.1.page))) (gets_among es))) get
        ∙ ap (λ b. (b && (e.1.page == page)) || has_get call page (gets_among es)) is
        ∙ ap (λ b. b || has_get call page (gets_among es)) at
    go rest true is false at among =
        let key : e.0 ≡ call = grind (arith, nat_tests, is) in
        let absent : IsAbsent call es = subst (λ k. IsAbsent k es) key distinct.0 in
        later (λ v found. let no : None ≡ Some v = sym absent ∙ found in absurd (cc)) rest among
    go rest false is true at among =
        let tail : is_among call (calls_of page es) ≡ true = sym (ap (λ b. b || is_among call (calls_of page es)) is) ∙ among in
        later (λ v found. kind v (ap (λ b. cond b (Some e.1) (lookup (nat_eq call) es)) is ∙ found)) rest tail
    go rest false is false at among =
        later (λ v found. kind v (ap (λ b. cond b (Some e.1) (lookup (nat_eq call) es)) is ∙ found)) rest among
