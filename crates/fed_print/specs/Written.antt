-- What a line writer writes, token by token.
use Rattle.std.specs.Prelude.{◌≡◌, ℕ, Bool, true, List, [], ◌∷◌, ◌++◌, Option, Some, None, flat_map, fold, refl}
use Rattle.std.specs.Coded.{Coded, code_by, coded×, coded_bool, coded_list, coded_ℕ}
use Rattle.std.specs.List.{list_all}
use Rattle.json.specs.Run.{is_plain}
use Rattle.json.specs.Print.{print_from, ends}
use Rattle.json.specs.Token.{Token, key}
use Rattle.json.specs.Tree.{json_tokens, members_tokens}
use Rattle.serde_json.specs.Data.{Data, object, Members}
use Rattle.serde_json.specs.Written.{outline, members_outline}

-- the bytes that are written, whether a value has just ended, and for how many bytes more there is room
pub record Written : Type 0 where
  pub bytes : List ℕ
  pub after_value : Bool
  pub left : ℕ

abbrev pub written_code : Coded Written
written_code =
    code_by (List ℕ × (Bool × ℕ)) (coded× (coded_list coded_ℕ) (coded× coded_bool coded_ℕ))
    (λ w. (w.bytes, (w.after_value, w.left))) (λ p. record { bytes = p.0; after_value = p.1.0; left = p.1.1 }) (λ _. refl)

-- the name of a member, or a word of this profile: each byte stands for itself
abbrev pub IsName : List ℕ → Type 0
IsName name = list_all is_plain name ≡ true

-- whether a value has just ended behind the tokens
abbrev pub ends_after : Bool → List Token → Bool
ends_after = fold (λ _ t. ends t)

-- of a member, where it has a value
abbrev pub member_tokens : List ℕ → Option Data → List Token
member_tokens name None = []
member_tokens name (Some value) = key name ∷ json_tokens (outline value)

-- the tokens more, as JSON writes them
pub record Prints (old new : Written) (tokens : List Token) : Type 0 where
  pub bytes : new.bytes ≡ old.bytes ++ print_from old.after_value tokens
  pub after_value : new.after_value ≡ ends_after old.after_value tokens

-- one token more
pub record PrintsToken (old new : Written) (token : Token) : Type 0 where
  pub tokens : Prints old new (token ∷ [])

-- a member more, where it has a value
pub record PrintsMember (old new : Written) (name : List ℕ) (value : Option Data) : Type 0 where
  pub tokens : Prints old new (member_tokens name value)

-- an object more
pub record PrintsObject (old new : Written) (members : Members) : Type 0 where
  pub tokens : Prints old new (json_tokens (outline (object members)))

-- the members that an object has left, and its end
pub record PrintsRest (old new : Written) (members : Members) : Type 0 where
  pub tokens : Prints old new (members_tokens (members_outline members))

-- the objects of a list more, in their order
pub record PrintsObjects (old new : Written) (objects : List Members) : Type 0 where
  pub tokens : Prints old new (flat_map (λ members. json_tokens (outline (object members))) objects)
