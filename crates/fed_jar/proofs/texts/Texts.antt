-- The texts of a packed cookie, one after another.
use Rattle.std.proofs.Common.{◌≡◌, ◌+◌, ◌-◌, ℕ, List, ◌∷◌, ◌++◌, Option, None, Some, length, take, drop, sym, refl, ap, ◌∙◌, arith}
use Rattle.std.proofs.Common.{◌||◌, unwrap_or}
use Rattle.std.specs.Prelude.{is_some}
use Rattle.std.specs.List.{list_any}
use Rattle.std.proofs.lemmas.List.{append_assoc, length-append, take_at, drop_at, drop-drop, take-append-drop}
use Rattle.std.proofs.lemmas.List.Folds.{list_any-append}
use Rattle.fed_cookie.specs.SetCookie.{HasNoLineEnd, is_line_end}
use Rattle.fed_jar.specs.Packed.{AreEnds, expiry_in, text_between}

-- a text that stands at a place
text_at : (all text rest : List ℕ) (start end : ℕ) → drop start all ≡ text ++ rest → end ≡ start + length text
    → text_between start end all ≡ text
text_at all text rest start end at is = ap (take (end - start)) at ∙ take_at text rest (end - start) (omega arith)

-- and what stands after it
rest_at : (all text rest : List ℕ) (start end : ℕ) → drop start all ≡ text ++ rest → end ≡ start + length text → drop end all ≡ rest
rest_at all text rest start end at is =
    ap (λ n. drop n all) is
    ∙ sym (drop-drop (length text) start all)
    ∙ ap (drop (length text)) at
    ∙ drop_at text rest (length text) refl

-- a cookie's texts by where they end
pub record ArePlaced (all path domain name value : List ℕ) (path_end domain_end name_end : ℕ) : Type 0 where
  pub ends : AreEnds path_end domain_end name_end all
  pub path_is : take path_end all ≡ path
  pub domain_is : text_between path_end domain_end all ≡ domain
  pub name_is : text_between domain_end name_end all ≡ name
  pub value_is : drop (name_end + 1) all ≡ value

pub placed : (all path domain name value : List ℕ) (path_end domain_end name_end : ℕ)
    → all ≡ path ++ domain ++ name ++ 61 ∷ value → path_end ≡ 0 + length path → domain_end ≡ path_end + length domain
    → name_end ≡ domain_end + length name → ArePlaced all path domain name value path_end domain_end name_end
placed all path domain name value path_end domain_end name_end joined path_ends domain_ends name_ends =
    let is : all ≡ path ++ (domain ++ (name ++ 61 ∷ value)) =
    joined ∙ append_assoc (path ++ domain) name (61 ∷ value) ∙ append_assoc path domain (name ++ 61 ∷ value) in
    let after_path = rest_at all path (domain ++ (name ++ 61 ∷ value)) 0 path_end is path_ends in
    let after_domain = rest_at all domain (name ++ 61 ∷ value) path_end domain_end after_path domain_ends in
    let after_name = rest_at all name (61 ∷ value) domain_end name_end after_domain name_ends in
    let value_is : drop (name_end + 1) all ≡ value = sym (drop-drop 1 name_end all) ∙ ap (drop 1) after_name in
    record {
      ends = record {
        path_first = omega arith;
        domain_next = omega arith;
        within = grind (arith, length-append);
        equals = after_name ∙ sym (ap (λ l. 61 ∷ l) value_is);
      };
      path_is = ap (take path_end) is ∙ take_at path (domain ++ (name ++ 61 ∷ value)) path_end (omega arith);
      domain_is = text_at all domain (name ++ 61 ∷ value) path_end domain_end after_path domain_ends;
      name_is = text_at all name (61 ∷ value) domain_end name_end after_domain name_ends;
      value_is = value_is;
    }

-- an expiry as it is kept
pub expiry_kept : (expiry : Option ℕ) → expiry_in (is_some expiry) (unwrap_or expiry 0) ≡ expiry
expiry_kept None = refl
expiry_kept (Some at) = refl

-- what stands from the name on is the name, a `=` and the value
pub pair_at : (all : List ℕ) (path_end domain_end name_end : ℕ) → AreEnds path_end domain_end name_end all
    → drop domain_end all ≡ text_between domain_end name_end all ++ 61 ∷ drop (name_end + 1) all
pair_at all path_end domain_end name_end ends =
    let next : domain_end + (name_end - domain_end) ≡ name_end = omega (arith, ends.domain_next) in
    sym (take-append-drop (name_end - domain_end) (drop domain_end all))
    ∙ ap (λ l. text_between domain_end name_end all ++ l) (drop-drop (name_end - domain_end) domain_end all ∙ ap (λ n. drop n all) next
    ∙ ends.equals)

-- no line end comes in between
pub pair_line : (name value : List ℕ) → HasNoLineEnd name → HasNoLineEnd value → HasNoLineEnd (name ++ 61 ∷ value)
pair_line name value a b = list_any-append is_line_end name (61 ∷ value) ∙ ap (λ x. x || list_any is_line_end (61 ∷ value)) a ∙ b
