-- Parties that a loop puts into a set.
use Rattle.std.proofs.Common.{◌≡◌, ℕ, ◌+◌, ◌<◌, ◌≤◌, Bool, true, false, ◌||◌, ◌&&◌, List, [], ◌∷◌, drop, get_or, length, map}
use Rattle.std.proofs.Common.{refl, sym, ap, ap₂, ◌∙◌}
use Rattle.std.proofs.lemmas.List.{at_drop_more, at_drop_all}
use Rattle.std.proofs.lemmas.List.Folds.{list_any-append}
use Rattle.std.proofs.lemmas.Slice.Eq.{bytes_eq-Decides}
use Rattle.std.specs.List.{list_all, list_any}
use Rattle.std.specs.Prelude.{bytes_eq}
use Rattle.fed_origin.specs.declared.options.ProviderOptions.{ProviderOptions}
use Rattle.fed_origin.specs.WebUrl.{host_of}
use Rattle.fed_suffix.specs.Registrable.{party}
use Rattle.fed_suffix.specs.Rule.{RuleSet}
use Rattle.fed_slice.specs.Closure.{is_among, is_one}
use Rattle.fed_slice.specs.Gather.{AddsParty, SameMembers}
use Rattle.fed_slice.proofs.joined.Texts.{any_texts, put_texts}
use Rattle.indexmap.specs.IndexSet.{insert_key}

or_false : (b : Bool) → (b || false) ≡ b
or_false true = refl
or_false false = refl

or_assoc : (a b c : Bool) → ((a || b) || c) ≡ (a || (b || c))
or_assoc true b c = refl
or_assoc false b c = refl

-- one that was there
pub adds_known : {V : Type 0} (items : V → List ℕ) (name : List ℕ) (keys : List V) {found : Bool}
    → found ≡ list_any (λ k. bytes_eq name (items k)) keys → found ≡ true → AddsParty name (map items keys) (map items keys)
adds_known items name keys is there q = go (bytes_eq q name) refl
  where
    or_true : (b : Bool) → b ≡ true → b ≡ (b || true)
    or_true true is = refl
    or_true false is = is

    go : (b : Bool) → bytes_eq q name ≡ b → is_one (map items keys) q ≡ (is_one (map items keys) q || b)
    go false other = sym (or_false (is_one (map items keys) q))
    go true same =
        or_true (is_one (map items keys) q)
        (ap (is_one (map items keys)) ((bytes_eq-Decides q name).0 same) ∙ any_texts items name keys ∙ sym is ∙ there)

-- one that is put after them
pub adds_new : {V : Type 0} (items : V → List ℕ) (v : V) (name : List ℕ) (keys : List V) {new : List V} {found : Bool}
    → new ≡ insert_key (λ x y. bytes_eq (items x) (items y)) keys v → items v ≡ name
    → found ≡ list_any (λ k. bytes_eq name (items k)) keys → found ≡ false → AddsParty name (map items keys) (map items new)
adds_new items v name keys added of_name is none q =
    ap (list_any (bytes_eq q)) (put_texts items v name keys added of_name (any_texts items name keys ∙ sym is ∙ none))
    ∙ list_any-append (bytes_eq q) (map items keys) (name ∷ [])
    ∙ ap (λ b. is_one (map items keys) q || b) (or_false (bytes_eq q name))

-- those that were put, and those that are left
pub record HasPut (parties left texts : List (List ℕ)) : Type 0 where
  pub is : (q : List ℕ) → (is_one texts q || is_one left q) ≡ is_one parties q

pub put_one : (parties : List (List ℕ)) (i : ℕ) (x name : List ℕ) (old new : List (List ℕ)) → i < length parties → x ≡ get_or parties i x
    → name ≡ x → AddsParty name old new → HasPut parties (drop i parties) old → HasPut parties (drop (i + 1) parties) new
put_one parties i x name old new lt item same adds h =
    record {
      is = λ q.
          ap (λ b. b || is_one (drop (i + 1) parties) q) (adds q)
          ∙ or_assoc (is_one old q) (bytes_eq q name) (is_one (drop (i + 1) parties) q)
          ∙ ap (λ y. is_one old q || is_one (y ∷ drop (i + 1) parties) q) (same ∙ item)
          ∙ sym (ap (λ b. is_one old q || b) (at_drop_more (λ l. is_one l q) parties i x lt))
          ∙ h.is q;
    }

pub put_all : (parties : List (List ℕ)) (i : ℕ) (texts : List (List ℕ)) → length parties ≤ i → HasPut parties (drop i parties) texts
    → SameMembers texts parties
put_all parties i texts over h q =
    sym (or_false (is_one texts q)) ∙ sym (ap (λ b. is_one texts q || b) (at_drop_all (λ l. is_one l q) parties i over)) ∙ h.is q

-- a host's party is looked up among the texts
pub looks_up : {V : Type 0} {q : List ℕ} {parties : List (List ℕ)} (rules : RuleSet) (host : List ℕ) (items : V → List ℕ) (keys : List V)
    → q ≡ party rules host → map items keys ≡ parties → list_any (λ k. bytes_eq q (items k)) keys ≡ is_among rules parties host
looks_up {q = q} rules host items keys is view = sym (any_texts items q keys) ∙ ap₂ (λ y ks. list_any (bytes_eq y) ks) is view

-- ---- all providers of a get

abbrev pub each_has : RuleSet → List (List ℕ) → List ProviderOptions → Bool
each_has rules parties ps = list_all (is_among rules parties) (map (λ o. host_of o.config) ps)

and_assoc : (a b c : Bool) → ((a && b) && c) ≡ (a && (b && c))
and_assoc true b c = refl
and_assoc false b c = refl

and_true : (b : Bool) → b ≡ (b && true)
and_true true = refl
and_true false = refl

pub each_more : (rules : RuleSet) (parties : List (List ℕ)) (ps : List ProviderOptions) (i : ℕ) (p : ProviderOptions) (all new : Bool)
    {host : List ℕ} {b : Bool} → i < length ps → p ≡ get_or ps i p → host ≡ host_of p.config → b ≡ is_among rules parties host
    → new ≡ (all && b) → (all && each_has rules parties (drop i ps)) ≡ each_has rules parties ps
    → (new && each_has rules parties (drop (i + 1) ps)) ≡ each_has rules parties ps
each_more rules parties ps i p all new {b = b} lt item of_host is both h =
    ap (λ t. t && each_has rules parties (drop (i + 1) ps)) both
    ∙ and_assoc all b (each_has rules parties (drop (i + 1) ps))
    ∙ ap (λ t. all && (t && each_has rules parties (drop (i + 1) ps))) (is ∙ ap (is_among rules parties) of_host)
    ∙ ap (λ x. all && each_has rules parties (x ∷ drop (i + 1) ps)) item
    ∙ sym (ap (λ t. all && t) (at_drop_more (each_has rules parties) ps i p lt))
    ∙ h

pub each_end : (rules : RuleSet) (parties : List (List ℕ)) (ps : List ProviderOptions) (i : ℕ) (all : Bool) → length ps ≤ i
    → (all && each_has rules parties (drop i ps)) ≡ each_has rules parties ps → all ≡ each_has rules parties ps
each_end rules parties ps i all over h =
    and_true all ∙ sym (ap (λ t. all && t) (at_drop_all (each_has rules parties) ps i over)) ∙ h
