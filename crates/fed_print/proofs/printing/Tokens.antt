-- The tokens that a line writer writes.
use Rattle.std.proofs.Common.{◌≡◌, ℕ, Bool, true, false, cond, List, [], ◌∷◌, ◌++◌, refl, sym, ap, ◌∙◌}
use Rattle.std.proofs.Common.{append_assoc, append-nil}
use Rattle.std.specs.List.{list_all}
use Rattle.std.specs.Prelude.{◌&&◌}
use Rattle.fed_escape.proofs.texts.Fronts.{plain_byte}
use Rattle.json.proofs.Printed.Tokens.{print_from-append}
use Rattle.json.specs.Print.{escape, print_from, separator, token_text, ends, begins}
use Rattle.json.specs.Run.{is_plain}
use Rattle.json.specs.Token.{Token, key}
use Rattle.fed_print.specs.Written.{Written, Prints, IsName, ends_after}

both : (a b : Bool) → (a && b) ≡ true → (a ≡ true) × (b ≡ true)
both true b h = (refl, h)
both false b h = absurd (cc)

-- a name stands for itself
pub plain_name : (name : List ℕ) → IsName name → escape name ≡ name
plain_name [] h = refl
plain_name (x ∷ name) h =
    let each = both (is_plain x) (list_all is_plain name) h in
    ap (λ l. l ++ escape name) (plain_byte x each.0) ∙ ap (λ l. x ∷ l) (plain_name name each.1)

-- the tokens of two writes, one after the other
pub chain : {a b c : Written} (ts us : List Token) → Prints a b ts → Prints b c us → Prints a c (ts ++ us)
chain {a} {b} {c} ts us h k = record {
  bytes =
      k.bytes ∙ (λ i. h.bytes i ++ print_from (h.after_value i) us)
      ∙ append_assoc a.bytes (print_from a.after_value ts) (print_from (ends_after a.after_value ts) us)
      ∙ ap (λ l. a.bytes ++ l) (sym (print_from-append a.after_value ts us));
  after_value = k.after_value ∙ ap (λ b. ends_after b us) h.after_value ∙ ends_both a.after_value ts us;
}
  where
    ends_both : (b : Bool) (ts us : List Token) → ends_after (ends_after b ts) us ≡ ends_after b (ts ++ us)
    ends_both b [] us = refl
    ends_both b (t ∷ ts) us = ends_both (ends t) ts us

-- one token
pub alone : {a c : Written} (t : Token) → c.bytes ≡ a.bytes ++ (separator a.after_value t ++ token_text t)
    → c.after_value ≡ ends t → Prints a c (t ∷ [])
unfolding print_from
alone {a} t is ended = record {
  bytes = is ∙ ap (λ l. a.bytes ++ (separator a.after_value t ++ l)) (sym (append-nil (token_text t)));
  after_value = ended;
}

separated : (b : Bool) (t : Token) → begins t ≡ true → cond b (44 ∷ []) [] ≡ separator b t
separated true t h = ap (λ x. cond x (44 ∷ []) []) (sym h)
separated false t h = refl

unseparated : (b : Bool) (t : Token) → begins t ≡ false → [] ≡ separator b t
unseparated true t h = ap (λ x. cond x (44 ∷ []) []) (sym h)
unseparated false t h = refl

-- a token behind its comma
pub began : {a c : Written} (t : Token) → begins t ≡ true → c.bytes ≡ a.bytes ++ (cond a.after_value (44 ∷ []) [] ++ token_text t)
    → c.after_value ≡ ends t → Prints a c (t ∷ [])
began {a} t h is after =
    alone t (is ∙ ap (λ l. a.bytes ++ (l ++ token_text t)) (separated a.after_value t h)) after

-- a token that no comma stands before
pub ended : {a c : Written} (t : Token) → begins t ≡ false → c.bytes ≡ a.bytes ++ token_text t
    → c.after_value ≡ ends t → Prints a c (t ∷ [])
ended {a} t h is after =
    alone t (is ∙ ap (λ l. a.bytes ++ (l ++ token_text t)) (unseparated a.after_value t h)) after

-- no token
pub nothing : (a : Written) → Prints a a []
unfolding print_from
nothing a = record { bytes = sym (append-nil a.bytes); after_value = refl }

-- the bytes of a name
pub keyed : (old : List ℕ) (after : Bool) (name : List ℕ) → IsName name
    → ((((old ++ cond after (44 ∷ []) []) ++ 34 ∷ []) ++ name) ++ 34 ∷ []) ++ 58 ∷ []
    ≡ old ++ (separator after (key name) ++ token_text (key name))
keyed old after name h =
    let comma : List ℕ = cond after (44 ∷ []) [] in
    ap (λ l. l ++ 58 ∷ []) (append_assoc ((old ++ comma) ++ 34 ∷ []) name (34 ∷ []))
    ∙ ap (λ l. l ++ 58 ∷ []) (append_assoc (old ++ comma) (34 ∷ []) (name ++ 34 ∷ []))
    ∙ append_assoc (old ++ comma) (34 ∷ (name ++ 34 ∷ [])) (58 ∷ [])
    ∙ append_assoc old comma (34 ∷ ((name ++ 34 ∷ []) ++ 58 ∷ []))
    ∙ ap (λ n. old ++ (comma ++ 34 ∷ ((n ++ 34 ∷ []) ++ 58 ∷ []))) (sym (plain_name name h))
    ∙ ap (λ l. old ++ (l ++ token_text (key name))) (separated after (key name) refl)

-- the bytes of a text, escaped or for itself
pub quotes : (old text : List ℕ) → ((old ++ 34 ∷ []) ++ text) ++ 34 ∷ [] ≡ old ++ 34 ∷ (text ++ 34 ∷ [])
quotes old text = append_assoc (old ++ 34 ∷ []) text (34 ∷ []) ∙ append_assoc old (34 ∷ []) (text ++ 34 ∷ [])

-- a value behind its name
pub named : {a c : Written} (b : Written) (name : List ℕ) (t : Token)
    → b.bytes ≡ a.bytes ++ (separator a.after_value (key name) ++ token_text (key name)) → b.after_value ≡ false
    → c.bytes ≡ b.bytes ++ token_text t → c.after_value ≡ true → ends t ≡ true → Prints a c (key name ∷ t ∷ [])
named {a} b name t first none said after last =
    chain {b = b} (key name ∷ []) (t ∷ []) (alone (key name) first none)
    (alone t (said ∙ ap (λ v. b.bytes ++ (separator v t ++ token_text t)) (sym none)) (after ∙ sym last))
