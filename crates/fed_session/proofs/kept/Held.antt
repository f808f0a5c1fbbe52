-- What pages keep of their pending calls.
use Rattle.std.proofs.Common.{◌≡◌, ℕ, Bool, true, false, not, nat_eq, List, [], ◌∷◌, ◌++◌, Some, None, refl, sym, ap}
use Rattle.std.proofs.Common.{◌∙◌, arith, cond}
use Rattle.std.proofs.Common.{append-nil}
use Rattle.std.proofs.lemmas.Bool.Decides.{nat_tests}
use Rattle.std.specs.Prelude.{Option, filter, option_map, unwrap_or, is_some, ⊤}
use Rattle.std.specs.Option.{option_to_list}
use Rattle.std.specs.Map.{lookup}
use Rattle.indexmap.specs.IndexMap.{insert_entry, shift_remove_entry}
use Rattle.fed_table.specs.Lists.{without, all_without, with_last, with_key, emptied}
use Rattle.fed_table.specs.Table.{page_calls}
use Rattle.fed_trace.specs.Begun.{CallKind, GetCall, DisconnectCall, is_get}
use Rattle.fed_trace.specs.Effect.{PendingCall}
use Rattle.fed_trace.specs.Trace.{calls_of}
use Rattle.fed_trace.proofs.calls.Pending.{is_other, others, calls_of-others_same, calls_of-others_other}
use Rattle.fed_trace.proofs.calls.Pending.{calls_of-insert_same, calls_of-insert_other, calls_of-remove_same, calls_of-remove_other}
use Rattle.fed_trace.proofs.keyed.Entries.{lookup-set_value}
use Rattle.fed_trace.proofs.keyed.Keyed.{IsAbsent, AreDistinct, lookup-insert_entry}
use Rattle.fed_session.specs.Session.{numbers_in, is_get_in, gets_in}
use Rattle.fed_session.specs.StepParts.{get_but}
use Rattle.fed_session.specs.Tabs.{ChangesGet}

-- ---- one call more

numbers_more : (calls : List (ℕ × CallKind)) (c : ℕ × CallKind) → numbers_in (calls ++ c ∷ []) ≡ numbers_in calls ++ c.0 ∷ []
numbers_more [] c = refl
numbers_more (x ∷ calls) c = ap (λ xs. x.0 ∷ xs) (numbers_more calls c)

gets_more : (calls : List (ℕ × CallKind)) (c : ℕ × CallKind) → gets_in (calls ++ c ∷ []) ≡ gets_in calls ++ gets_in (c ∷ [])
gets_more [] c = refl
gets_more (x ∷ calls) c = go (is_get_in x) (gets_more calls c)
  where
    go : (b : Bool) → gets_in (calls ++ c ∷ []) ≡ gets_in calls ++ gets_in (c ∷ [])
        → numbers_in (cond b (x ∷ filter is_get_in (calls ++ c ∷ [])) (filter is_get_in (calls ++ c ∷ [])))
        ≡ numbers_in (cond b (x ∷ filter is_get_in calls) (filter is_get_in calls)) ++ gets_in (c ∷ [])
    go true rest = ap (λ xs. x.0 ∷ xs) rest
    go false rest = rest

-- a get comes where none is pending
abbrev pub IsFree : CallKind → Option ℕ → Type 0
IsFree GetCall get = get ≡ None
IsFree DisconnectCall get = ⊤

gets_with : (kind : CallKind) (call : ℕ) (get : Option ℕ) (calls : List (ℕ × CallKind)) → IsFree kind get
    → option_to_list get ≡ gets_in calls
    → option_to_list (cond (is_get kind) (Some call) get) ≡ gets_in (calls ++ (call, kind) ∷ [])
gets_with GetCall call get calls free h =
    sym (gets_more calls (call, GetCall) ∙ ap (λ xs. xs ++ call ∷ []) (sym h ∙ ap option_to_list free))
gets_with DisconnectCall call get calls free h =
    h ∙ sym (gets_more calls (call, DisconnectCall) ∙ append-nil (gets_in calls))

-- ---- one call less

numbers_less : (call : ℕ) (calls : List (ℕ × CallKind))
    → numbers_in (filter (is_other call) calls) ≡ filter (λ c. not (nat_eq call c)) (numbers_in calls)
numbers_less call [] = refl
numbers_less call (x ∷ calls) = go (not (nat_eq call x.0)) (numbers_less call calls)
  where
    go : (b : Bool) → numbers_in (filter (is_other call) calls) ≡ filter (λ c. not (nat_eq call c)) (numbers_in calls)
        → numbers_in (cond b (x ∷ filter (is_other call) calls) (filter (is_other call) calls))
        ≡ cond b (x.0 ∷ filter (λ c. not (nat_eq call c)) (numbers_in calls)) (filter (λ c. not (nat_eq call c)) (numbers_in calls))
    go true rest = ap (λ xs. x.0 ∷ xs) rest
    go false rest = rest

gets_less : (call : ℕ) (calls : List (ℕ × CallKind))
    → gets_in (filter (is_other call) calls) ≡ filter (λ c. not (nat_eq call c)) (gets_in calls)
gets_less call [] = refl
gets_less call (x ∷ calls) = first (gets_less call calls) (not (nat_eq call x.0)) refl
  where
    first : gets_in (filter (is_other call) calls) ≡ filter (λ c. not (nat_eq call c)) (gets_in calls)
        → (other : Bool) → not (nat_eq call x.0) ≡ other
        → gets_in (cond other (x ∷ filter (is_other call) calls) (filter (is_other call) calls))
        ≡ filter (λ c. not (nat_eq call c)) (gets_in (x ∷ calls))
    first rest true is = stays (is_get_in x)
      where
        stays : (get : Bool) → numbers_in (cond get (x ∷ filter is_get_in (filter (is_other call) calls))
            (filter is_get_in (filter (is_other call) calls)))
            ≡ filter (λ c. not (nat_eq call c)) (numbers_in (cond get (x ∷ filter is_get_in calls) (filter is_get_in calls)))
        stays true =
            ap (λ xs. x.0 ∷ xs) rest
            ∙ sym (ap (λ b. cond b (x.0 ∷ filter (λ c. not (nat_eq call c)) (gets_in calls))
            (filter (λ c. not (nat_eq call c)) (gets_in calls))) is)
        stays false = rest
    first rest false is = goes (is_get_in x)
      where
        goes : (get : Bool) → gets_in (filter (is_other call) calls)
            ≡ filter (λ c. not (nat_eq call c)) (numbers_in (cond get (x ∷ filter is_get_in calls) (filter is_get_in calls)))
        goes true =
            rest ∙ sym (ap (λ b. cond b (x.0 ∷ filter (λ c. not (nat_eq call c)) (gets_in calls)) (filter (λ c. not
            (nat_eq call c)) (gets_in calls))) is)
        goes false = rest

but_get : (call : ℕ) (get : Option ℕ) → option_to_list (get_but call get) ≡ filter (λ c. not (nat_eq call c)) (option_to_list get)
but_get call None = refl
but_get call (Some g) = go (nat_eq call g)
  where
    go : (b : Bool) → option_to_list (cond b None (Some g)) ≡ cond (not b) (g ∷ []) []
    go true = refl
    go false = refl

gets_without : (call : ℕ) (get : Option ℕ) (calls : List (ℕ × CallKind)) → option_to_list get ≡ gets_in calls
    → option_to_list (get_but call get) ≡ gets_in (filter (is_other call) calls)
gets_without call get calls h = but_get call get ∙ ap (filter (λ c. not (nat_eq call c))) h ∙ sym (gets_less call calls)

-- ---- all pages

-- the pages have these pending calls in their lists, and the gets among them
pub record Holds (lists : List (ℕ × List ℕ)) (busy : List (ℕ × ℕ)) (es : List (ℕ × PendingCall)) : Type 0 where
  pub listed : (page : ℕ) → page_calls lists page ≡ numbers_in (calls_of page es)
  pub gets : (page : ℕ) → option_to_list (lookup (nat_eq page) busy) ≡ gets_in (calls_of page es)

-- one call more
pub holds_new : (call : ℕ) (v : PendingCall) (lists : List (ℕ × List ℕ)) (gets gets' : List (ℕ × ℕ)) (es : List (ℕ × PendingCall))
    → Holds lists gets es → IsAbsent call es → IsFree v.kind (lookup (nat_eq v.page) gets)
    → ChangesGet v.page (cond (is_get v.kind) (Some call) (lookup (nat_eq v.page) gets)) gets gets'
    → Holds (with_last nat_eq v.page call lists) gets' (insert_entry nat_eq es call v)
holds_new call v lists gets gets' es h absent free changed =
    record {
      listed = λ q. ap (λ o. unwrap_or o []) (lookup-insert_entry q v.page (page_calls lists v.page ++ call ∷ []) lists)
          ∙ listed_at q (nat_eq q v.page) refl;
      gets = λ q. ap option_to_list (changed q) ∙ get_at q (nat_eq v.page q) refl;
    }
  where
    own : (q : ℕ) → q ≡ v.page → calls_of q (insert_entry nat_eq es call v) ≡ calls_of v.page es ++ (call, v.kind) ∷ []
    own q key = ap (λ k. calls_of k (insert_entry nat_eq es call v)) key ∙ calls_of-insert_same call v es absent

    listed_at : (q : ℕ) (b : Bool) → nat_eq q v.page ≡ b
        → unwrap_or (cond b (Some (page_calls lists v.page ++ call ∷ [])) (lookup (nat_eq q) lists)) []
        ≡ numbers_in (calls_of q (insert_entry nat_eq es call v))
    listed_at q true is =
        let key : q ≡ v.page = grind (arith, nat_tests, is) in
        ap (λ xs. xs ++ call ∷ []) (h.listed v.page) ∙ sym (numbers_more (calls_of v.page es) (call, v.kind))
        ∙ sym (ap numbers_in (own q key))
    listed_at q false is =
        let ne : nat_eq v.page q ≡ false = grind (arith, nat_tests, is) in
        h.listed q ∙ sym (ap numbers_in (calls_of-insert_other q call v es ne absent))

    get_at : (q : ℕ) (b : Bool) → nat_eq v.page q ≡ b
        → option_to_list (cond b (cond (is_get v.kind) (Some call) (lookup (nat_eq v.page) gets)) (lookup (nat_eq q) gets))
        ≡ gets_in (calls_of q (insert_entry nat_eq es call v))
    get_at q true is =
        let key : q ≡ v.page = grind (arith, nat_tests, is) in
        gets_with v.kind call (lookup (nat_eq v.page) gets) (calls_of v.page es) free (h.gets v.page) ∙ sym (ap gets_in (own q key))
    get_at q false is = h.gets q ∙ sym (ap gets_in (calls_of-insert_other q call v es is absent))

-- the calls of a page among lists without a call
page_without : (call q : ℕ) (lists : List (ℕ × List ℕ)) → page_calls (all_without call lists) q ≡ without call (page_calls lists q)
page_without call q [] = refl
page_without call q (e ∷ lists) = go (nat_eq q e.0) (page_without call q lists)
  where
    go : (b : Bool) → page_calls (all_without call lists) q ≡ without call (page_calls lists q)
        → unwrap_or (cond b (Some (without call e.1)) (lookup (nat_eq q) (all_without call lists))) []
        ≡ without call (unwrap_or (cond b (Some e.1) (lookup (nat_eq q) lists)) [])
    go true rest = refl
    go false rest = rest

-- one call less
pub holds_less : (call : ℕ) (v : PendingCall) (lists : List (ℕ × List ℕ)) (gets gets' : List (ℕ × ℕ)) (es : List (ℕ × PendingCall))
    → Holds lists gets es → AreDistinct es → lookup (nat_eq call) es ≡ Some v
    → ChangesGet v.page (get_but call (lookup (nat_eq v.page) gets)) gets gets'
    → Holds (all_without call lists) gets' (shift_remove_entry (nat_eq call) es)
holds_less call v lists gets gets' es h distinct there changed =
    record {
      listed = λ q. page_without call q lists ∙ ap (without call) (h.listed q) ∙ sym (numbers_less call (calls_of q es))
          ∙ sym (ap numbers_in (calls_of-remove_same q call es distinct));
      gets = λ q. ap option_to_list (changed q) ∙ get_at q (nat_eq v.page q) refl;
    }
  where
    get_at : (q : ℕ) (b : Bool) → nat_eq v.page q ≡ b
        → option_to_list (cond b (get_but call (lookup (nat_eq v.page) gets)) (lookup (nat_eq q) gets))
        ≡ gets_in (calls_of q (shift_remove_entry (nat_eq call) es))
    get_at q true is =
        let key : v.page ≡ q = grind (arith, nat_tests, is) in
        gets_without call (lookup (nat_eq v.page) gets) (calls_of v.page es) (h.gets v.page)
        ∙ ap (λ k. gets_in (filter (is_other call) (calls_of k es))) key
        ∙ sym (ap gets_in (calls_of-remove_same q call es distinct))
    get_at q false is = h.gets q ∙ sym (ap gets_in (calls_of-remove_other q v call es is there))

-- all calls of a page less
pub holds_ended : (page : ℕ) (lists : List (ℕ × List ℕ)) (gets gets' : List (ℕ × ℕ)) (es : List (ℕ × PendingCall))
    → Holds lists gets es → ChangesGet page None gets gets' → Holds (emptied (nat_eq page) lists) gets' (others page es)
holds_ended page lists gets gets' es h changed =
    record {
      listed = λ q. ap (λ o. unwrap_or o []) (lookup-set_value q page [] lists) ∙ listed_at q (nat_eq q page) refl;
      gets = λ q. ap option_to_list (changed q) ∙ get_at q (nat_eq page q) refl;
    }
  where
    none_left : (q : ℕ) → q ≡ page → calls_of q (others page es) ≡ []
    none_left q key = ap (λ k. calls_of k (others page es)) key ∙ calls_of-others_same page es

    no_list : (found : Option (List ℕ)) → unwrap_or (option_map (λ calls. []) found) [] ≡ numbers_in []
    no_list None = refl
    no_list (Some calls) = refl

    listed_at : (q : ℕ) (b : Bool) → nat_eq q page ≡ b
        → unwrap_or (cond b (option_map (λ calls. []) (lookup (nat_eq q) lists)) (lookup (nat_eq q) lists)) []
        ≡ numbers_in (calls_of q (others page es))
    listed_at q true is =
        let key : q ≡ page = grind (arith, nat_tests, is) in
        no_list (lookup (nat_eq q) lists) ∙ sym (ap numbers_in (none_left q key))
    listed_at q false is =
        let ne : nat_eq page q ≡ false = grind (arith, nat_tests, is) in
        h.listed q ∙ sym (ap numbers_in (calls_of-others_other q page es ne))

    get_at : (q : ℕ) (b : Bool) → nat_eq page q ≡ b
        → option_to_list (cond b None (lookup (nat_eq q) gets)) ≡ gets_in (calls_of q (others page es))
    get_at q true is =
        let key : q ≡ page = grind (arith, nat_tests, is) in
        sym (ap gets_in (none_left q key))
    get_at q false is = h.gets q ∙ sym (ap gets_in (calls_of-others_other q page es is))

-- a page more, or the same
page_keyed : (page q : ℕ) (lists : List (ℕ × List ℕ)) → page_calls (with_key nat_eq page lists) q ≡ page_calls lists q
page_keyed page q lists = go (lookup (nat_eq page) lists) refl
  where
    new : lookup (nat_eq page) lists ≡ None → (b : Bool) → nat_eq q page ≡ b
        → unwrap_or (cond b (Some []) (lookup (nat_eq q) lists)) [] ≡ page_calls lists q
    new none true is =
        let key : page ≡ q = grind (arith, nat_tests, is) in
        sym (ap (λ o. unwrap_or o []) (ap (λ k. lookup (nat_eq k) lists) (sym key) ∙ none))
    new none false is = refl

    go : (found : Option (List ℕ)) → lookup (nat_eq page) lists ≡ found
        → page_calls (cond (is_some found) lists (insert_entry nat_eq lists page [])) q ≡ page_calls lists q
    go (Some calls) is = refl
    go None is = ap (λ o. unwrap_or o []) (lookup-insert_entry q page [] lists) ∙ new is (nat_eq q page) refl

pub holds_keyed : (page : ℕ) (lists : List (ℕ × List ℕ)) (gets : List (ℕ × ℕ)) (es : List (ℕ × PendingCall)) → Holds lists gets es
    → Holds (with_key nat_eq page lists) gets es
holds_keyed page lists gets es h = record { listed = λ q. page_keyed page q lists ∙ h.listed q; gets = h.gets }
