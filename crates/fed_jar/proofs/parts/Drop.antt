-- A cookie that goes from a jar's lists.
use Rattle.std.proofs.Common.{◌≡◌, ℕ, Bool, true, false, cond, List, [], ◌∷◌, ◌++◌, map, Some, sym, refl, ap, subst, ◌∙◌, not}
use Rattle.std.specs.Prelude.{bytes_eq, filter}
use Rattle.std.specs.List.{AllByRecursion, IsDistinct}
use Rattle.std.specs.Map.{keys_of}
use Rattle.std.proofs.lemmas.List.Elements.{filter-append}
use Rattle.fed_suffix.specs.Rule.{RuleSet}
use Rattle.fed_suffix.specs.Registrable.{party}
use Rattle.fed_jar.specs.declared.numbered.Numbered.{Numbered}
use Rattle.fed_jar.specs.Changes.{CookieKey, is_key}
use Rattle.fed_jar.specs.Cookie.{KeptCookie}
use Rattle.fed_jar.specs.Limit.{kept_without}
use Rattle.fed_jar.specs.Parts.{under, Lists, all_kept, kept_of, dropped, drop_under, AreOwn, smallest_first}
use Rattle.fed_jar.proofs.order.Order.{in_order_filter}
use Rattle.fed_jar.proofs.parties.Parties.{domain_is}
use Rattle.fed_jar.proofs.parts.Kept.{same_text, text_same}

-- a kept cookie has not the key
pub others_than : CookieKey → KeptCookie → Bool
others_than key k = not (is_key key k.cookie)

dropped_list : (key : CookieKey) (name : List ℕ) (ns : List Numbered)
    → filter (others_than key) (map (under name) ns) ≡ map (under name) (dropped (Some key) ns)
unfolding others_than
dropped_list key name [] = refl
dropped_list key name (n ∷ ns) = pick (is_key key n.cookie) (dropped_list key name ns)
  where
    pick : (b : Bool) → filter (others_than key) (map (under name) ns) ≡ map (under name) (dropped (Some key) ns)
        → cond (not b) (under name n ∷ filter (others_than key) (map (under name) ns)) (filter (others_than key) (map (under name) ns))
        ≡ map (under name) (cond (not b) (n ∷ dropped (Some key) ns) (dropped (Some key) ns))
    pick true h = h
    pick false h = ap (λ l. under name n ∷ l) h

-- no cookie of another party has the key
other_list : (rules : RuleSet) (key : CookieKey) (l : List ℕ) (ns : List Numbered) → bytes_eq (party rules key.domain) l ≡ false
    → AllByRecursion (λ (n : Numbered). l ≡ party rules n.cookie.domain) ns
    → filter (others_than key) (map (under l) ns) ≡ map (under l) ns
unfolding others_than
other_list rules key l [] out own = refl
other_list rules key l (n ∷ ns) out own = pick (is_key key n.cookie) refl (other_list rules key l ns out own.1)
  where
    pick : (b : Bool) → is_key key n.cookie ≡ b → filter (others_than key) (map (under l) ns) ≡ map (under l) ns
        → cond (not b) (under l n ∷ filter (others_than key) (map (under l) ns)) (filter (others_than key) (map (under l) ns))
        ≡ under l n ∷ map (under l) ns
    pick true e h =
        let same : party rules key.domain ≡ l = ap (party rules) (domain_is key n.cookie e) ∙ sym own.0 in
        absurd (let r : true ≡ false = sym (text_same (party rules key.domain) l same) ∙ out in cc)
    pick false e h = ap (λ xs. under l n ∷ xs) h

other_lists : (rules : RuleSet) (key : CookieKey) (ls : Lists)
    → AllByRecursion (λ k. bytes_eq (party rules key.domain) k ≡ false) (keys_of ls) → AreOwn rules ls
    → filter (others_than key) (all_kept ls) ≡ all_kept ls
other_lists rules key [] out own = refl
other_lists rules key (l ∷ ls) out own =
    filter-append (others_than key) (map (under l.0) l.1) (all_kept ls)
    ∙ ap (λ xs. xs ++ filter (others_than key) (all_kept ls)) (other_list rules key l.0 l.1 out.0 own.0)
    ∙ ap (λ xs. map (under l.0) l.1 ++ xs) (other_lists rules key ls out.1 own.1)

pub all_dropped : (rules : RuleSet) (key : CookieKey) (ls : Lists) → IsDistinct bytes_eq (keys_of ls) → AreOwn rules ls
    → filter (others_than key) (all_kept ls) ≡ all_kept (drop_under (party rules key.domain) ls (Some key))
unfolding IsDistinct
all_dropped rules key [] named own = refl
all_dropped rules key (l ∷ ls) named own =
    filter-append (others_than key) (map (under l.0) l.1) (all_kept ls)
    ∙ pick (bytes_eq (party rules key.domain) l.0) refl (all_dropped rules key ls named.1 own.1)
  where
    away : (ls : Lists) → l.0 ≡ party rules key.domain → AllByRecursion (λ k. bytes_eq l.0 k ≡ false) (keys_of ls)
        → AllByRecursion (λ k. bytes_eq (party rules key.domain) k ≡ false) (keys_of ls)
    away ls same all = subst (λ n. AllByRecursion (λ k. bytes_eq n k ≡ false) (keys_of ls)) same all

    pick : (b : Bool) → bytes_eq (party rules key.domain) l.0 ≡ b
        → filter (others_than key) (all_kept ls) ≡ all_kept (drop_under (party rules key.domain) ls (Some key))
        → filter (others_than key) (map (under l.0) l.1) ++ filter (others_than key) (all_kept ls)
        ≡ all_kept (cond b ((l.0, dropped (Some key) l.1) ∷ ls) (l ∷ drop_under (party rules key.domain) ls (Some key)))
    pick true e h =
        ap (λ xs. xs ++ filter (others_than key) (all_kept ls)) (dropped_list key l.0 l.1)
        ∙ ap (λ xs. map (under l.0) (dropped (Some key) l.1) ++ xs)
        (other_lists rules key ls (away ls (sym (same_text _ _ e)) named.0) own.1)
    pick false e h =
        ap (λ xs. xs ++ filter (others_than key) (all_kept ls)) (other_list rules key l.0 l.1 e own.0)
        ∙ ap (λ xs. map (under l.0) l.1 ++ xs) h

-- the jar's list after the cookie of the key went from its party's list
pub kept_dropped : (rules : RuleSet) (key : CookieKey) (ls : Lists) → IsDistinct bytes_eq (keys_of ls) → AreOwn rules ls
    → kept_of (drop_under (party rules key.domain) ls (Some key)) ≡ kept_without (Some key) (kept_of ls)
unfolding others_than
kept_dropped rules key ls named own =
    ap (smallest_first (λ (k : KeptCookie). k.number)) (sym (all_dropped rules key ls named own))
    ∙ sym (in_order_filter false (λ (k : KeptCookie). k.number) (others_than key) (all_kept ls))
