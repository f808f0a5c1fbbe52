-- So are the texts of the value that a JSON text is.
use Rattle.std.proofs.Common.{ℕ, zero, suc, Ordering, Less, Equal, Greater, List, [], ◌∷◌, length, Option, Some, None, option_and_then}
use Rattle.std.proofs.Common.{option_map}
use Rattle.std.specs.Prelude.{⊤}
use Rattle.std.specs.List.{AllByRecursion}
use Rattle.std.specs.Ordering.{match_ordering, nat_cmp}
use Rattle.std.specs.Cmp.Lexicographic.{slice_cmp}
use Rattle.std.specs.Str.{IsUtf8}
use Rattle.json.specs.Token.{Token}
use Rattle.json.specs.Json as json
use Rattle.json.specs.Json.{Parse, after_end_array, if_last, items, items_step, members, members_step, parse_map, read_key, value}
use Rattle.json.specs.Json.{value_with}
use Rattle.json.specs.Lex.{tokens}
use Rattle.serde_json.specs.Data.{Data, Items, Members, array, boolean, item, member, no_items, no_members, null, number, object, put}
use Rattle.serde_json.specs.Data.{string}
use Rattle.serde_json.specs.Find.{as_str, get_member}
use Rattle.serde_json.specs.Read.{max_depth, number_of, of_items, of_json, of_members, read}
use Rattle.fed_own.proofs.json.Tokens.{IsGood, tokens_good}

abbrev AreGood : List Token → Type 0
AreGood = AllByRecursion IsGood

-- ---- what is read of tokens

abbrev mutual
  IsPlain : json.Json → Type 0
  IsPlain json.null = ⊤
  IsPlain (json.boolean b) = ⊤
  IsPlain (json.number s) = ⊤
  IsPlain (json.string s) = IsUtf8 s
  IsPlain (json.array js) = ArePlain js
  IsPlain (json.object ms) = HasPlain ms

  ArePlain : json.Items → Type 0
  ArePlain json.no_items = ⊤
  ArePlain (json.item j js) = IsPlain j × ArePlain js

  HasPlain : json.Members → Type 0
  HasPlain json.no_members = ⊤
  HasPlain (json.member k j ms) = IsPlain j × HasPlain ms

-- it is such a value, and what is left are good tokens, if anything is read
abbrev Gives : {A : Type 0} → (A → Type 0) → Option (A × List Token) → Type 0
Gives P None = ⊤
Gives P (Some r) = P r.0 × AreGood r.1

abbrev Always : {A : Type 0} → (A → Type 0) → Parse A → Type 0
Always P parse = (ts : List Token) → AreGood ts → Gives P (parse ts)

mapped : {A B : Type 0} (P : A → Type 0) (Q : B → Type 0) (f : A → B) → ((a : A) → P a → Q (f a)) → (o : Option (A × List Token))
    → Gives P o
    → Gives Q (parse_map f o)
mapped P Q f h None g = tt
mapped P Q f h (Some r) g = (h r.0 g.0, g.1)

and_more : {B : Type 0} (Q : B → Type 0) (f : json.Json → B → B) → ((j : json.Json) (b : B) → IsPlain j → Q b → Q (f j b))
    → (more : Parse B)
    → Always Q more → (o : Option (json.Json × List Token)) → Gives IsPlain o
    → Gives Q (option_and_then (λ r. parse_map (f r.0) (more r.1)) o)
and_more Q f h more again None g = tt
and_more Q f h more again (Some r) g = mapped Q Q (f r.0) (λ b q. h r.0 b g.0 q) (more r.1) (again r.1 g.1)

abbrev IfGood : Option (List Token) → Type 0
IfGood None = ⊤
IfGood (Some ts) = AreGood ts

end_good : (ts : List Token) → AreGood ts → IfGood (after_end_array ts)
end_good [] good = tt
end_good (Token.begin_object ∷ ts) good = tt
end_good (Token.end_object ∷ ts) good = tt
end_good (Token.begin_array ∷ ts) good = tt
end_good (Token.end_array ∷ ts) good = good.1
end_good (Token.key s ∷ ts) good = tt
end_good (Token.string s ∷ ts) good = tt
end_good (Token.number s ∷ ts) good = tt
end_good (Token.boolean b ∷ ts) good = tt
end_good (Token.null ∷ ts) good = tt
end_good (Token.bad ∷ ts) good = tt

key_good : (ts : List Token) → AreGood ts → Gives (λ k. ⊤) (read_key ts)
key_good [] good = tt
key_good (Token.begin_object ∷ ts) good = tt
key_good (Token.end_object ∷ ts) good = (tt, good.1)
key_good (Token.begin_array ∷ ts) good = tt
key_good (Token.end_array ∷ ts) good = tt
key_good (Token.key s ∷ ts) good = (tt, good.1)
key_good (Token.string s ∷ ts) good = tt
key_good (Token.number s ∷ ts) good = tt
key_good (Token.boolean b ∷ ts) good = tt
key_good (Token.null ∷ ts) good = tt
key_good (Token.bad ∷ ts) good = tt

module _ (p : Parse json.Json) (plain : Always IsPlain p) where
  item_turn : (more : Parse json.Items) → Always ArePlain more → (ts : List Token) → AreGood ts → (o : Option (List Token)) → IfGood o
      → Gives ArePlain (items_step p more ts o)
  item_turn more again ts good (Some rest) g = (tt, g)
  item_turn more again ts good None g = and_more ArePlain json.item (λ j b x y. (x, y)) more again (p ts) (plain ts good)

  items_plain : (n : ℕ) → Always ArePlain (items p n)
  unfolding items
  items_plain zero ts good = tt
  items_plain (suc n) ts good = item_turn (items p n) (items_plain n) ts good (after_end_array ts) (end_good ts good)

  member_turn : (more : Parse json.Members) → Always HasPlain more → (o : Option (Option (List ℕ) × List Token)) → Gives (λ k. ⊤) o
      → Gives HasPlain (option_and_then (λ r. members_step p more r.0 r.1) o)
  member_turn more again None g = tt
  member_turn more again (Some (None, ts)) g = (tt, g.1)
  member_turn more again (Some (Some k, ts)) g = and_more HasPlain (json.member k) (λ j b x y. (x, y)) more again (p ts) (plain ts g.1)

  members_plain : (n : ℕ) → Always HasPlain (members p n)
  unfolding members
  members_plain zero ts good = tt
  members_plain (suc n) ts good = member_turn (members p n) (members_plain n) (read_key ts) (key_good ts good)

one_level : (a : Parse json.Items) (o : Parse json.Members) → Always IsPlain (λ ts. parse_map json.array (a ts))
    → Always IsPlain (λ ts. parse_map json.object (o ts)) → Always IsPlain (value_with a o)
one_level a o p q [] good = tt
one_level a o p q (Token.begin_object ∷ ts) good = q ts good.1
one_level a o p q (Token.end_object ∷ ts) good = tt
one_level a o p q (Token.begin_array ∷ ts) good = p ts good.1
one_level a o p q (Token.end_array ∷ ts) good = tt
one_level a o p q (Token.key s ∷ ts) good = tt
one_level a o p q (Token.string s ∷ ts) good = good
one_level a o p q (Token.number s ∷ ts) good = (tt, good.1)
one_level a o p q (Token.boolean b ∷ ts) good = (tt, good.1)
one_level a o p q (Token.null ∷ ts) good = (tt, good.1)
one_level a o p q (Token.bad ∷ ts) good = tt

value_plain : (d : ℕ) → Always IsPlain (value d)
unfolding value
value_plain zero = one_level (λ ts. None) (λ ts. None) (λ ts g. tt) (λ ts g. tt)
value_plain (suc d) =
    one_level (λ ts. items (value d) (length ts) ts) (λ ts. members (value d) (length ts) ts)
    (λ ts g. mapped ArePlain IsPlain json.array (λ js x. x) _ (items_plain (value d) (value_plain d) (length ts) ts g))
    (λ ts g. mapped HasPlain IsPlain json.object (λ ms x. x) _ (members_plain (value d) (value_plain d) (length ts) ts g))

-- ---- the data

abbrev mutual
  pub HasTexts : Data → Type 0
  HasTexts null = ⊤
  HasTexts (boolean b) = ⊤
  HasTexts (number n) = ⊤
  HasTexts (string s) = IsUtf8 s
  HasTexts (array ds) = ItemsHaveTexts ds
  HasTexts (object ms) = MembersHaveTexts ms

  pub ItemsHaveTexts : Items → Type 0
  ItemsHaveTexts no_items = ⊤
  ItemsHaveTexts (item d ds) = HasTexts d × ItemsHaveTexts ds

  pub MembersHaveTexts : Members → Type 0
  MembersHaveTexts no_members = ⊤
  MembersHaveTexts (member k d ms) = HasTexts d × MembersHaveTexts ms

abbrev pub IfSo : {A : Type 0} → (A → Type 0) → Option A → Type 0
IfSo P None = ⊤
IfSo P (Some a) = P a

so_mapped : {A B : Type 0} (P : A → Type 0) (Q : B → Type 0) (f : A → B) → ((a : A) → P a → Q (f a)) → (o : Option A) → IfSo P o
    → IfSo Q (option_map f o)
so_mapped P Q f h None g = tt
so_mapped P Q f h (Some a) g = h a g

so_then : {A B : Type 0} (P : A → Type 0) (Q : B → Type 0) (f : A → Option B) → ((a : A) → P a → IfSo Q (f a)) → (o : Option A) → IfSo P o
    → IfSo Q (option_and_then f o)
so_then P Q f h None g = tt
so_then P Q f h (Some a) g = h a g

always : {A : Type 0} (o : Option A) → IfSo (λ a. ⊤) o
always None = tt
always (Some a) = tt

ordered : (o : Ordering) (a b c : Members) → MembersHaveTexts a → MembersHaveTexts b → MembersHaveTexts c
    → MembersHaveTexts (match_ordering o a b c)
ordered Less a b c p q r = p
ordered Equal a b c p q r = q
ordered Greater a b c p q r = r

put_texts : (k : List ℕ) (d : Data) (ms : Members) → HasTexts d → MembersHaveTexts ms → MembersHaveTexts (put k d ms)
put_texts k d no_members h g = (h, tt)
put_texts k d (member l e ms) h g =
    ordered (slice_cmp nat_cmp k l) (member k d (member l e ms)) (member l d ms) (member l e (put k d ms)) (h, g) (h, g.1)
    (g.0, put_texts k d ms h g.1)

mutual
  json_texts : (j : json.Json) → IsPlain j → IfSo HasTexts (of_json j)
  json_texts json.null h = tt
  json_texts (json.boolean b) h = tt
  json_texts (json.number s) h = so_mapped (λ n. ⊤) HasTexts number (λ n x. tt) (number_of s) (always (number_of s))
  json_texts (json.string s) h = h
  json_texts (json.array js) h = so_mapped ItemsHaveTexts HasTexts array (λ ds x. x) (of_items js) (items_texts js h)
  json_texts (json.object ms) h =
      so_mapped MembersHaveTexts HasTexts object (λ x y. y) (of_members ms no_members) (members_texts ms no_members h tt)

  items_texts : (js : json.Items) → ArePlain js → IfSo ItemsHaveTexts (of_items js)
  items_texts json.no_items h = tt
  items_texts (json.item j js) h =
      so_then HasTexts ItemsHaveTexts _
      (λ d x. so_mapped ItemsHaveTexts ItemsHaveTexts (item d) (λ ds y. (x, y)) (of_items js) (items_texts js h.1)) (of_json j)
      (json_texts j h.0)

  members_texts : (ms : json.Members) (found : Members) → HasPlain ms → MembersHaveTexts found
      → IfSo MembersHaveTexts (of_members ms found)
  members_texts json.no_members found h g = g
  members_texts (json.member k j ms) found h g =
      so_then HasTexts MembersHaveTexts _ (λ d x. members_texts ms (put k d found) h.1 (put_texts k d found x g)) (of_json j)
      (json_texts j h.0)

last_plain : (o : Option (json.Json × List Token)) → Gives IsPlain o → IfSo IsPlain (option_and_then (λ p. if_last p.0 p.1) o)
last_plain None g = tt
last_plain (Some (j, [])) g = g.0
last_plain (Some (j, t ∷ ts)) g = tt

-- the texts of the value that a text is are UTF-8, if it is one
pub read_texts : (text : List ℕ) → IsUtf8 text → IfSo HasTexts (read text)
read_texts text u =
    so_then IsPlain HasTexts of_json json_texts _
    (last_plain (value max_depth (tokens text)) (value_plain max_depth (tokens text) (tokens_good text u)))

-- ---- what is looked up in it

pub as_text : (d : Data) → HasTexts d → IfSo IsUtf8 (as_str d)
as_text null h = tt
as_text (boolean b) h = tt
as_text (number n) h = tt
as_text (string s) h = h
as_text (array ds) h = tt
as_text (object ms) h = tt

chosen : (o : Ordering) (a b c : Option Data) → IfSo HasTexts a → IfSo HasTexts b → IfSo HasTexts c → IfSo HasTexts (match_ordering o a b c)
chosen Less a b c p q r = p
chosen Equal a b c p q r = q
chosen Greater a b c p q r = r

pub member_texts : (k : List ℕ) (ms : Members) → MembersHaveTexts ms → IfSo HasTexts (get_member k ms)
member_texts k no_members g = tt
member_texts k (member l e ms) g =
    chosen (slice_cmp nat_cmp k l) (get_member k ms) (Some e) (get_member k ms) (member_texts k ms g.1) g.0 (member_texts k ms g.1)
