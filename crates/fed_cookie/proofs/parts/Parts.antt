-- Attributes read one after another.
use Rattle.std.proofs.Common.{◌≡◌, ℕ, Bool, true, false, ◌||◌, List, [], ◌∷◌, Option, Some, None, unwrap_or, sym, refl, ap, ◌∙◌}
use Rattle.std.specs.List.{list_any}
use Rattle.std.specs.Option.{option_or}
use Rattle.fed_cookie.specs.Bytes.{last_some}
use Rattle.fed_cookie.specs.Fields.{Attributes, attributes_of, attribute_kind, attribute_value, expires_in, max_age_in, domain_in, path_in}
use Rattle.fed_cookie.specs.Fields.{secure_in, same_site_in}

or_step : {A : Type 0} (later here before : Option A)
    → option_or later (option_or (option_or None here) before) ≡ option_or (option_or later here) before
or_step None None before = refl
or_step None (Some x) before = refl
or_step (Some y) here before = refl

pick_step : {A : Type 0} (later here : Option A) (before : A)
    → unwrap_or later (unwrap_or (option_or None here) before) ≡ unwrap_or (option_or later here) before
pick_step None None before = refl
pick_step None (Some x) before = refl
pick_step (Some y) here before = refl

any_step : (here later before : Bool) → (later || ((here || false) || before)) ≡ ((here || later) || before)
any_step true true before = refl
any_step true false before = refl
any_step false true before = refl
any_step false false before = refl

-- one part, and then the others
pub attributes-cons : (before : Attributes) (part : List ℕ) (parts : List (List ℕ))
    → attributes_of (attributes_of before (part ∷ [])) parts ≡ attributes_of before (part ∷ parts)
unfolding attributes_of
attributes-cons before part parts = λ i. record {
  expires =
      or_step (last_some (λ p. expires_in (attribute_kind p) (attribute_value p)) parts)
      (expires_in (attribute_kind part) (attribute_value part)) before.expires i;
  max_age =
      or_step (last_some (λ p. max_age_in (attribute_kind p) (attribute_value p)) parts)
      (max_age_in (attribute_kind part) (attribute_value part)) before.max_age i;
  domain =
      or_step (last_some (λ p. domain_in (attribute_kind p) (attribute_value p)) parts)
      (domain_in (attribute_kind part) (attribute_value part)) before.domain i;
  path =
      pick_step (last_some (λ p. path_in (attribute_kind p) (attribute_value p)) parts)
      (path_in (attribute_kind part) (attribute_value part)) before.path i;
  secure = any_step (secure_in (attribute_kind part)) (list_any (λ p. secure_in (attribute_kind p)) parts) before.secure i;
  same_site =
      pick_step (last_some (λ p. same_site_in (attribute_kind p) (attribute_value p)) parts)
      (same_site_in (attribute_kind part) (attribute_value part)) before.same_site i;
}

-- a loop's turn: what was found, and the parts that are left, say what the whole says
pub attributes_turn : (found found' whole : Attributes) (part : List ℕ) (left after : List (List ℕ))
    → found' ≡ attributes_of found (part ∷ []) → left ≡ part ∷ after → attributes_of found left ≡ whole
    → attributes_of found' after ≡ whole
attributes_turn found found' whole part left after e s h =
    ap (λ f. attributes_of f after) e ∙ attributes-cons found part after ∙ ap (attributes_of found) (sym s) ∙ h
