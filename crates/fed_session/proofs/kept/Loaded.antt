-- The pages that were ever loaded.
use Rattle.std.proofs.Common.{◌≡◌, ℕ, Bool, true, false, nat_eq, List, [], ◌∷◌, ◌++◌, Some, None, refl, sym, ap, ◌∙◌, cond}
use Rattle.std.specs.Prelude.{is_some, ⊤}
use Rattle.std.specs.Map.{lookup, keys_of}
use Rattle.std.proofs.lemmas.Map.{keys-set_value}
use Rattle.indexmap.specs.IndexMap.{insert_entry}
use Rattle.url.specs.Parts.{Parts}
use Rattle.fed_origin.specs.declared.status.LoginStatus.{LoginStatus}
use Rattle.fed_origin.specs.WebUrl.{origin_of}
use Rattle.fed_jar.specs.Changes.{CookieChange}
use Rattle.fed_table.specs.Lists.{all_without, with_last, with_key, emptied}
use Rattle.fed_trace.specs.Begun.{CallKind}
use Rattle.fed_trace.specs.Effect.{Effect, Time, Page, Closed, Cookie, Login, Begin, Move, Sent, Dropped, Shown, Window, Kept, Flag, Result}
use Rattle.fed_trace.specs.Effect.{Ignored, page_change, loaded_change}
use Rattle.fed_trace.specs.Keyed.{entries_after}
use Rattle.fed_trace.specs.Row.{ends_of, cookie_effects, login_effects, load_effects}
use Rattle.fed_trace.proofs.calls.Pending.{ends_silent, load_rest_silent}
use Rattle.fed_trace.proofs.effects.Silent.{AllSilent, entries_silent}
use Rattle.fed_trace.proofs.keyed.Keyed.{entries_after-append}

-- ---- effects

-- what says nothing of pages says nothing of loads
load_none : (e : Effect) → page_change e ≡ None → loaded_change e ≡ None
load_none (Page page origin) h = absurd (cc)
load_none (Closed page) h = refl
load_none (Time time) h = refl
load_none (Cookie cookie) h = refl
load_none (Login origin status) h = refl
load_none (Begin begun) h = refl
load_none (Move kind call stage) h = refl
load_none (Sent kind call provider ask cookies) h = refl
load_none (Dropped call provider failure) h = refl
load_none (Shown call dialog) h = refl
load_none (Window call provider url) h = refl
load_none (Kept triple stays) h = refl
load_none (Flag origin stays) h = refl
load_none (Result call page finish) h = refl
load_none (Ignored why) h = refl

pub loads_silent : (es : List Effect) → AllSilent page_change es → AllSilent loaded_change es
loads_silent [] h = tt
loads_silent (e ∷ es) h = (load_none e h.0, loads_silent es h.1)

-- a load
pub load_loads : (calls : List (ℕ × CallKind)) (page : ℕ) (url : Parts) (cookies : List CookieChange) (statuses : List LoginStatus)
    (es : List (ℕ × ⊤))
    → entries_after nat_eq loaded_change (load_effects calls page url cookies statuses) es ≡ insert_entry nat_eq es page tt
load_loads calls page url cookies statuses es =
    let rest = cookie_effects cookies ++ login_effects (origin_of url) statuses in
    entries_after-append nat_eq loaded_change (ends_of calls) (Page page (origin_of url) ∷ rest) es
    ∙ ap (λ xs. entries_after nat_eq loaded_change rest (insert_entry nat_eq xs page tt))
    (entries_silent nat_eq loaded_change (ends_of calls) es (ends_silent loaded_change (λ n c. refl) calls))
    ∙ entries_silent nat_eq loaded_change rest (insert_entry nat_eq es page tt)
    (load_rest_silent loaded_change (λ c. refl) (λ o s. refl) cookies (origin_of url) statuses)

-- ---- keys

-- a key that is there keeps its place, and a new one goes last
abbrev key_into : ℕ → List ℕ → List ℕ
key_into key [] = key ∷ []
key_into key (k ∷ keys) = cond (nat_eq key k) (k ∷ keys) (k ∷ key_into key keys)

keys_inserted : {V : Type 0} (key : ℕ) (value : V) (es : List (ℕ × V))
    → keys_of (insert_entry nat_eq es key value) ≡ key_into key (keys_of es)
keys_inserted key value [] = refl
keys_inserted {V} key value (e ∷ es) = go (nat_eq key e.0) (keys_inserted key value es)
  where
    go : (b : Bool) → keys_of (insert_entry nat_eq es key value) ≡ key_into key (keys_of es)
        → keys_of (cond b ((e.0, value) ∷ es) (e ∷ insert_entry nat_eq es key value))
        ≡ cond b (e.0 ∷ keys_of es) (e.0 ∷ key_into key (keys_of es))
    go true rest = refl
    go false rest = ap (λ ks. e.0 ∷ ks) rest

key_there : {V : Type 0} (key : ℕ) (es : List (ℕ × V)) → is_some (lookup (nat_eq key) es) ≡ true → key_into key (keys_of es) ≡ keys_of es
key_there key [] h = absurd (cc)
key_there {V} key (e ∷ es) h = go (nat_eq key e.0) h (λ f. key_there key es f)
  where
    go : (b : Bool) → is_some (cond b (Some e.1) (lookup (nat_eq key) es)) ≡ true
        → (is_some (lookup (nat_eq key) es) ≡ true → key_into key (keys_of es) ≡ keys_of es)
        → cond b (e.0 ∷ keys_of es) (e.0 ∷ key_into key (keys_of es)) ≡ e.0 ∷ keys_of es
    go true h later = refl
    go false h later = ap (λ ks. e.0 ∷ ks) (later h)

keys_keyed : (page : ℕ) (lists : List (ℕ × List ℕ)) → keys_of (with_key nat_eq page lists) ≡ key_into page (keys_of lists)
keys_keyed page lists = go (is_some (lookup (nat_eq page) lists)) refl
  where
    go : (b : Bool) → is_some (lookup (nat_eq page) lists) ≡ b
        → keys_of (cond b lists (insert_entry nat_eq lists page [])) ≡ key_into page (keys_of lists)
    go true is = sym (key_there page lists is)
    go false is = keys_inserted page [] lists

pub keys_emptied : (page : ℕ) (lists : List (ℕ × List ℕ)) → keys_of (emptied (nat_eq page) lists) ≡ keys_of lists
keys_emptied page lists = keys-set_value (nat_eq page) lists []

pub keys_without : (call : ℕ) (lists : List (ℕ × List ℕ)) → keys_of (all_without call lists) ≡ keys_of lists
keys_without call [] = refl
keys_without call (e ∷ lists) = ap (λ ks. e.0 ∷ ks) (keys_without call lists)

-- a page that was loaded has one call more
pub keys_last : (page call : ℕ) (lists : List (ℕ × List ℕ)) → is_some (lookup (nat_eq page) lists) ≡ true
    → keys_of (with_last nat_eq page call lists) ≡ keys_of lists
keys_last page call lists there = keys_inserted page _ lists ∙ key_there page lists there

-- a page is loaded
pub keys_loaded : (page : ℕ) (lists : List (ℕ × List ℕ)) (es : List (ℕ × ⊤)) → keys_of lists ≡ keys_of es
    → keys_of (with_key nat_eq page (emptied (nat_eq page) lists)) ≡ keys_of (insert_entry nat_eq es page tt)
keys_loaded page lists es same =
    keys_keyed page (emptied (nat_eq page) lists) ∙ ap (key_into page) (keys_emptied page lists ∙ same)
    ∙ sym (keys_inserted page tt es)
