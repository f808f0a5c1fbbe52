-- What a line writer has written, one member after another.
use Rattle.std.proofs.Common.{◌≡◌, ℕ, false, List, [], ◌∷◌, ◌++◌, Option, Some, None, map, flat_map, refl, sym, ap, subst, ◌∙◌}
use Rattle.std.proofs.Common.{append_assoc, append-nil}
use Rattle.std.proofs.lemmas.List.{map-append}
use Rattle.json.specs.Token.{begin_object, begin_array, end_array, key}
use Rattle.json.specs.Tree.{json_tokens, items_tokens, members_tokens}
use Rattle.json.specs.Print.{print_from}
use Rattle.std.specs.Prelude.{option_map}
use Rattle.serde_json.specs.Data.{Data, string, object, Members}
use Rattle.serde_json.specs.Written.{outline, items_outline, members_outline, compact_text}
use Rattle.serde_json.proofs.Texts.{print-outline}
use Rattle.serde_json.specs.View.{items_of}
use Rattle.fed_print.specs.Lines.{line_of}
use Rattle.fed_print.specs.Objects.{member_if, objects}
use Rattle.fed_print.specs.Written.{Written, Prints, member_tokens, PrintsToken, PrintsMember, PrintsObject, PrintsObjects, PrintsRest}
use Rattle.fed_print.proofs.printing.Tokens.{chain}

items_each : (os : List Members) → items_tokens (items_outline (items_of (map object os)))
    ≡ flat_map (λ members. json_tokens (outline (object members))) os ++ end_array ∷ []
items_each [] = refl
items_each (o ∷ os) = let this = json_tokens (outline (object o)) in
    ap (λ l. this ++ l) (items_each os) ∙ sym (append_assoc this _ (end_array ∷ []))

-- a member, and then the others
pub with_member : {a b c : Written} {name : List ℕ} {value : Option Data} {rest : Members} → PrintsMember a b name value
    → PrintsRest b c rest → PrintsRest a c (member_if name value rest)
with_member {a} {name} {value = None} {rest} h k =
    record { tokens = chain [] (members_tokens (members_outline rest)) h.tokens k.tokens }
with_member {a} {name} {value = Some v} {rest} h k =
    record { tokens = chain (member_tokens name (Some v)) (members_tokens (members_outline rest)) h.tokens k.tokens }

-- the same of a member by another name of its value
pub with_same : {a b c : Written} {name : List ℕ} {value wanted : Option Data} {rest : Members} → PrintsMember a b name value
    → value ≡ wanted → PrintsRest b c rest → PrintsRest a c (member_if name wanted rest)
with_same {a} {b} {name} h same k = with_member (subst (λ v. PrintsMember a b name v) same h) k

-- of a text by another name
pub with_text : {a b c : Written} {name given wanted : List ℕ} {rest : Members} → PrintsMember a b name (Some (string given))
    → given ≡ wanted → PrintsRest b c rest → PrintsRest a c (member_if name (Some (string wanted)) rest)
with_text h same k = with_same h (ap (λ t. Some (string t)) same) k

-- of a text that may be absent
pub with_text_if : {a b c : Written} {name : List ℕ} {given wanted : Option (List ℕ)} {rest : Members}
    → PrintsMember a b name (option_map string given) → given ≡ wanted → PrintsRest b c rest
    → PrintsRest a c (member_if name (option_map string wanted) rest)
with_text_if h same k = with_same h (ap (option_map string) same) k

word_of : {A : Type 0} (word : A → List ℕ) (said : Option A)
    → option_map string (option_map word said) ≡ option_map (λ x. string (word x)) said
word_of word None = refl
word_of word (Some x) = refl

-- of a word that may be absent
pub with_word : {a b c : Written} {name : List ℕ} {given : Option (List ℕ)} {A : Type 0} {rest : Members} (word : A
    → List ℕ) (said : Option A)
    → PrintsMember a b name (option_map string given) → given ≡ option_map word said → PrintsRest b c rest
    → PrintsRest a c (member_if name (option_map (λ x. string (word x)) said) rest)
with_word word said h same k = with_same h (ap (option_map string) same ∙ word_of word said) k

-- an object, from its bracket on
pub with_bracket : {a b c : Written} {members : Members} → PrintsToken a b begin_object → PrintsRest b c members
    → PrintsObject a c members
with_bracket {a} {members} h k =
    record { tokens = chain (begin_object ∷ []) (members_tokens (members_outline members)) h.tokens k.tokens }

-- a member with an object
pub with_object : {a b c : Written} {name : List ℕ} {members : Members} → PrintsToken a b (key name) → PrintsObject b c members
    → PrintsMember a c name (Some (object members))
with_object {a} {name} {members} h k =
    record { tokens = chain (key name ∷ []) (json_tokens (outline (object members))) h.tokens k.tokens }

flat_map-more : (os : List Members) (o : Members)
    → flat_map (λ members. json_tokens (outline (object members))) os ++ json_tokens (outline (object o))
    ≡ flat_map (λ members. json_tokens (outline (object members))) (os ++ o ∷ [])
flat_map-more [] o = sym (append-nil (json_tokens (outline (object o))))
flat_map-more (x ∷ os) o =
    let this = json_tokens (outline (object x)) in
    append_assoc this (flat_map (λ members. json_tokens (outline (object members))) os) (json_tokens (outline (object o)))
    ∙ ap (λ l. this ++ l) (flat_map-more os o)

-- an object more of a list
pub with_item : {a c : Written} (b : Written) {A : Type 0} (f : A → Members) (xs more : List A) (x : A) → more ≡ xs ++ x ∷ []
    → PrintsObjects a b (map f xs) → PrintsObject b c (f x) → PrintsObjects a c (map f more)
with_item {a} {c} b f xs more x is h k =
    let each = flat_map (λ (members : Members). json_tokens (outline (object members))) in
    let both : Prints a c (each (map f xs) ++ json_tokens (outline (object (f x)))) = chain {b = b} _ _ h.tokens k.tokens in
    record {
      tokens =
          subst (λ ts. Prints a c ts)
          (flat_map-more (map f xs) (f x) ∙ ap each (sym (map-append f xs (x ∷ [])) ∙ ap (map f) (sym is))) both;
    }

-- a member with a list of objects
pub with_list : {a b c d e : Written} {name : List ℕ} {os : List Members} → PrintsToken a b (key name) → PrintsToken b c begin_array
    → PrintsObjects c d os → PrintsToken d e end_array → PrintsMember a e name (Some (objects os))
with_list {a} {b} {c} {e = e} {name} {os} h k l m =
    let each = flat_map (λ (members : Members). json_tokens (outline (object members))) os in
    let items = chain each (end_array ∷ []) l.tokens m.tokens in
    let list = chain (begin_array ∷ []) (each ++ end_array ∷ []) k.tokens items in
    record {
      tokens =
          subst (λ ts. Prints a e (key name ∷ begin_array ∷ ts)) (sym (items_each os))
          (chain (key name ∷ []) (begin_array ∷ (each ++ end_array ∷ [])) h.tokens list);
    }

-- an object on a line of its own
pub line_written : (before : List ℕ) {a b : Written} {members : Members} (after : List ℕ) → a.bytes ≡ before → a.after_value ≡ false
    → PrintsObject a b members → after ≡ b.bytes ++ 10 ∷ [] → after ≡ before ++ line_of members
unfolding line_of
line_written before {a} {b} {members} after same none h ended =
    let tokens = json_tokens (outline (object members)) in
    let text : print_from a.after_value tokens ≡ compact_text (object members) =
    ap (λ v. print_from v tokens) none ∙ print-outline (object members) in
    ended ∙ ap (λ l. l ++ 10 ∷ []) (h.tokens.bytes ∙ (λ i. same i ++ text i))
    ∙ append_assoc before (compact_text (object members)) (10 ∷ [])
