-- A text read a token at a time, under what `serde_json` makes of its values.
use Rattle.std.proofs.Common.{◌≡◌, ℕ, zero, suc, ◌-◌, ◌<◌, ◌≤◌, List, [], ◌∷◌, length, Option, Some, None, option_map, option_and_then}
use Rattle.std.proofs.Common.{◌⊎◌, ⊎_elim, refl, sym, ap, ◌∙◌, arith}
use Rattle.std.specs.Prelude.{⊤, Bool, is_some, true, false}
use Rattle.std.specs.Borrow.{Bor}
use Rattle.json.specs.Token.{Token}
use Rattle.json.specs.Lex.{tokens}
use Rattle.json.specs.Reads.{token_of}
use Rattle.json.specs.declared.token.Token as token
use Rattle.json.specs.declared.token.Token.TheVariants as variant
use Rattle.json.specs.Json as json
use Rattle.json.specs.Json.{Parse, parse_map, after_end_array, read_key, items_step, members_step, items, members, value, if_last}
use Rattle.json.proofs.Grammar.{left, read_key-shorter, value_is, value-begin_array, value-begin_object}
use Rattle.json.proofs.Grammar.{skip_value-shorter}
use Rattle.json.proofs.Grammar.{items_end as json_items_end, items_more as json_items_more, members_end as json_members_end}
use Rattle.json.proofs.Grammar.{members_more as json_members_more, members_no_key as json_members_no_key}
use Rattle.serde_json.specs.Data.{Num, Data, null, boolean, number, string, array, object, Items, no_items, item, Members, no_members, put}
use Rattle.serde_json.specs.Read.{number_of, of_json, of_items, of_members, converted, read}
use Rattle.fed_json.specs.Value.{number_or_negative}
use Rattle.fed_json.specs.declared.reading.Begun.{Begun}
use Rattle.fed_json.specs.declared.reading.Begun.TheVariants as begun
use Rattle.fed_json.specs.declared.reading.Begun.TheVariants.{Null, Number, Text, Array, Object}
use Rattle.fed_json.specs.Values.{value_in, items_in, members_in, begun_in, if_done, whole_in, levels, Took, IsBegun}

-- ---- what is converted

abbrev or_first : {A : Type 0} → A → Option A → A
or_first d None = d
or_first d (Some a) = a

one_some : {B : Type 0} (x : Option B) (r s : List Token) (b : B) → option_map {U = B × List Token} (λ y. (y, r)) x ≡ Some (b, s)
    → (r ≡ s) × (x ≡ Some b)
one_some None r s b e = absurd (cc)
one_some (Some y) r s b e = let same = ap (or_first (y, r)) e in (ap (λ p. p.1) same, ap (λ p. Some p.0) same)

converted_some : {A B : Type 0} (f : A → Option B) (o : Option (A × List Token)) (b : B) (r : List Token) → converted f o ≡ Some (b, r)
    → (a : A) × (o ≡ Some (a, r)) × (f a ≡ Some b)
converted_some f None b r e = absurd (cc)
converted_some f (Some p) b r e = let both = one_some (f p.0) p.1 r b e in (p.0, ap (λ s. Some (p.0, s)) both.0, both.1)

refused : {B : Type 0} (r : List Token) (x : Option B) → option_map {U = B × List Token} (λ y. (y, r)) x ≡ None → x ≡ None
refused r None e = refl
refused r (Some y) e = absurd (cc)

twice : {A B : Type 0} (g : A → B) (r : List Token) (x : Option A)
    → option_map (λ b. (b, r)) (option_map g x) ≡ parse_map g (option_map (λ a. (a, r)) x)
twice g r None = refl
twice g r (Some a) = refl

in_array : (o : Option (json.Items × List Token)) → converted of_json (parse_map json.array o) ≡ parse_map array (converted of_items o)
in_array None = refl
in_array (Some p) = twice array p.1 (of_items p.0)

in_object : (o : Option (json.Members × List Token))
    → converted of_json (parse_map json.object o) ≡ parse_map object (converted (λ ms. of_members ms no_members) o)
in_object None = refl
in_object (Some p) = twice object p.1 (of_members p.0 no_members)

with_item : (o : Option (json.Items × List Token)) (j : json.Json) (d : Data) → of_json j ≡ Some d
    → converted of_items (parse_map (json.item j) o) ≡ parse_map (item d) (converted of_items o)
with_item None j d e = refl
with_item (Some p) j d e = rw e (twice (item d) p.1 (of_items p.0))

without_item : (o : Option (json.Items × List Token)) (j : json.Json) → of_json j ≡ None
    → converted of_items (parse_map (json.item j) o) ≡ None
without_item None j e = refl
without_item (Some p) j e = rw e

with_member : (o : Option (json.Members × List Token)) (k : List ℕ) (j : json.Json) (d : Data) (old : Members) → of_json j ≡ Some d
    → converted (λ ms. of_members ms old) (parse_map (json.member k j) o) ≡ converted (λ ms. of_members ms (put k d old)) o
with_member None k j d old e = refl
with_member (Some p) k j d old e = rw e

without_member : (o : Option (json.Members × List Token)) (k : List ℕ) (j : json.Json) (old : Members) → of_json j ≡ None
    → converted (λ ms. of_members ms old) (parse_map (json.member k j) o) ≡ None
without_member None k j old e = refl
without_member (Some p) k j old e = rw e

-- ---- as many turns as there are tokens are enough

abbrev IsEmpty : {A : Type 0} → Parse A → Type 0
IsEmpty p = p [] ≡ None

abbrev Shortens : Parse json.Json → Type 0
Shortens p = (ts r : List Token) (j : json.Json) → p ts ≡ Some (j, r) → length r < length ts

module _ (p : Parse json.Json) (empty : p [] ≡ None) (shortens : Shortens p) where
  more_items : (m n : ℕ) → ((ts : List Token) → length ts ≤ m → length ts ≤ n → items p m ts ≡ items p n ts) → (ts : List Token)
      → length ts ≤ suc m → length ts ≤ suc n → (o : Option (json.Json × List Token)) → p ts ≡ o
      → option_and_then (λ q. parse_map (json.item q.0) (items p m q.1)) o
      ≡ option_and_then (λ q. parse_map (json.item q.0) (items p n q.1)) o
  more_items m n again ts h k None is = refl
  more_items m n again ts h k (Some (j, r)) is =
      let less : length r < length ts = shortens ts r j is in
      ap (parse_map (json.item j)) (again r (omega arith) (omega arith))

  item_turn : (m n : ℕ) → ((ts : List Token) → length ts ≤ m → length ts ≤ n → items p m ts ≡ items p n ts) → (ts : List Token)
      → length ts ≤ suc m → length ts ≤ suc n → (o : Option (List Token))
      → items_step p (items p m) ts o ≡ items_step p (items p n) ts o
  item_turn m n again ts h k (Some r) = refl
  item_turn m n again ts h k None = more_items m n again ts h k (p ts) refl

  no_more_items : (n : ℕ) → items p n [] ≡ None
  unfolding items
  no_more_items zero = refl
  no_more_items (suc n) = ap (option_and_then (λ q. parse_map (json.item q.0) (items p n q.1))) empty

  items_enough : (m n : ℕ) (ts : List Token) → length ts ≤ m → length ts ≤ n → items p m ts ≡ items p n ts
  unfolding items
  items_enough zero n [] h k = sym (no_more_items n)
  items_enough zero n (t ∷ ts) h k = absurd (omega arith)
  items_enough (suc m) zero [] h k = no_more_items (suc m)
  items_enough (suc m) zero (t ∷ ts) h k = absurd (omega arith)
  items_enough (suc m) (suc n) ts h k = item_turn m n (items_enough m n) ts h k (after_end_array ts)

  more_members : (m n : ℕ) → ((ts : List Token) → length ts ≤ m → length ts ≤ n → members p m ts ≡ members p n ts) → (k : List ℕ)
      → (ts : List Token) → length ts ≤ m → length ts ≤ n → (o : Option (json.Json × List Token)) → p ts ≡ o
      → option_and_then (λ q. parse_map (json.member k q.0) (members p m q.1)) o
      ≡ option_and_then (λ q. parse_map (json.member k q.0) (members p n q.1)) o
  more_members m n again k ts h l None is = refl
  more_members m n again k ts h l (Some (j, r)) is =
      let less : length r < length ts = shortens ts r j is in
      ap (parse_map (json.member k j)) (again r (omega arith) (omega arith))

  member_turn : (m n : ℕ) → ((ts : List Token) → length ts ≤ m → length ts ≤ n → members p m ts ≡ members p n ts) → (ts : List Token)
      → length ts ≤ suc m → length ts ≤ suc n → (o : Option (Option (List ℕ) × List Token)) → read_key ts ≡ o
      → option_and_then (λ q. members_step p (members p m) q.0 q.1) o ≡ option_and_then (λ q. members_step p (members p n) q.0 q.1) o
  member_turn m n again ts h l None is = refl
  member_turn m n again ts h l (Some (None, r)) is = refl
  member_turn m n again ts h l (Some (Some k, s)) is =
      let less : length s < length ts = read_key-shorter ts (Some k) s is in
      more_members m n again k s (omega arith) (omega arith) (p s) refl

  no_more_members : (n : ℕ) → members p n [] ≡ None
  unfolding members
  no_more_members zero = refl
  no_more_members (suc n) = refl

  members_enough : (m n : ℕ) (ts : List Token) → length ts ≤ m → length ts ≤ n → members p m ts ≡ members p n ts
  unfolding members
  members_enough zero n [] h k = sym (no_more_members n)
  members_enough zero n (t ∷ ts) h k = absurd (omega arith)
  members_enough (suc m) zero [] h k = no_more_members (suc m)
  members_enough (suc m) zero (t ∷ ts) h k = absurd (omega arith)
  members_enough (suc m) (suc n) ts h k = member_turn m n (members_enough m n) ts h k (read_key ts) refl

empty_value : (d : ℕ) → value d [] ≡ None
empty_value d = value_is d []

shorter_value : (d : ℕ) (ts r : List Token) (j : json.Json) → value d ts ≡ Some (j, r) → length r < length ts
shorter_value d ts r j e = skip_value-shorter d ts r (ap left e)

-- a value has a token
pub value_shorter : (d : ℕ) (ts r : List Token) (x : Data) → value_in d ts ≡ Some (x, r) → length r < length ts
unfolding value_in
value_shorter d ts r x e = let j = converted_some of_json (value d ts) x r e in shorter_value d ts r j.0 j.1

items_from : (d n : ℕ) (ts : List Token) → length ts ≤ n → items (value d) n ts ≡ items (value d) (length ts) ts
items_from d n ts h = items_enough (value d) (empty_value d) (shorter_value d) n (length ts) ts h (omega arith)

members_from : (d n : ℕ) (ts : List Token) → length ts ≤ n → members (value d) n ts ≡ members (value d) (length ts) ts
members_from d n ts h = members_enough (value d) (empty_value d) (shorter_value d) n (length ts) ts h (omega arith)

-- ---- the items that are left of an array

pub items_end : (d : ℕ) (ts r : List Token) → after_end_array ts ≡ Some r → items_in d ts ≡ Some (no_items, r)
unfolding items_in
items_end d ts r e = ap (converted of_items) (json_items_end (value d) (length ts) ts r (omega arith) e)

pub items_more : (d : ℕ) (ts r : List Token) (x : Data) → after_end_array ts ≡ None → value_in d ts ≡ Some (x, r)
    → items_in d ts ≡ parse_map (item x) (items_in d r)
unfolding items_in value_in
items_more d ts r x going e =
    let j = converted_some of_json (value d ts) x r e in
    let less : length r < length ts = shorter_value d ts r j.0 j.1 in
    ap (converted of_items) (json_items_more (value d) (length ts) ts r j.0 (omega arith) going j.1
    ∙ ap (parse_map (json.item j.0)) (items_from d (length ts - 1) r (omega arith)))
    ∙ with_item (items (value d) (length r) r) j.0 x j.2

no_item : (p : Parse json.Json) (more : Parse json.Items) (o : Option (json.Json × List Token)) → converted of_json o ≡ None
    → converted of_items (option_and_then (λ q. parse_map (json.item q.0) (more q.1)) o) ≡ None
no_item p more None e = refl
no_item p more (Some q) e = without_item (more q.1) q.0 (refused q.1 (of_json q.0) e)

no_items_by : (p : Parse json.Json) (n : ℕ) (ts : List Token) → after_end_array ts ≡ None → converted of_json (p ts) ≡ None
    → converted of_items (items p n ts) ≡ None
unfolding items
no_items_by p zero ts going e = refl
no_items_by p (suc n) ts going e =
    ap (λ o. converted of_items (items_step p (items p n) ts o)) going ∙ no_item p (items p n) (p ts) e

pub items_stop : (d : ℕ) (ts : List Token) → after_end_array ts ≡ None → value_in d ts ≡ None → items_in d ts ≡ None
unfolding items_in value_in
items_stop d ts going e = no_items_by (value d) (length ts) ts going e

-- ---- the members that are left of an object

pub members_end : (d : ℕ) (found : Members) (ts r : List Token) → read_key ts ≡ Some (None, r) → members_in d found ts ≡ Some (found, r)
unfolding members_in
members_end d found ts r e = ap (converted (λ ms. of_members ms found)) (json_members_end (value d) (length ts) ts r (omega arith) e)

pub members_more : (d : ℕ) (found : Members) (ts s r : List Token) (k : List ℕ) (x : Data) → read_key ts ≡ Some (Some k, s)
    → value_in d s ≡ Some (x, r) → members_in d found ts ≡ members_in d (put k x found) r
unfolding members_in value_in
members_more d found ts s r k x key e =
    let j = converted_some of_json (value d s) x r e in
    let less : length r < length s = shorter_value d s r j.0 j.1 in
    let named : length s < length ts = read_key-shorter ts (Some k) s key in
    ap (converted (λ ms. of_members ms found)) (json_members_more (value d) (length ts) k ts s r j.0 (omega arith) key j.1
    ∙ ap (parse_map (json.member k j.0)) (members_from d (length ts - 1) r (omega arith)))
    ∙ with_member (members (value d) (length r) r) k j.0 x found j.2

no_member : (p : Parse json.Json) (found : Members) (k : List ℕ) (more : Parse json.Members) (o : Option (json.Json × List Token))
    → converted of_json o ≡ None
    → converted (λ ms. of_members ms found) (option_and_then (λ q. parse_map (json.member k q.0) (more q.1)) o) ≡ None
no_member p found k more None e = refl
no_member p found k more (Some q) e = without_member (more q.1) k q.0 found (refused q.1 (of_json q.0) e)

no_members_by : (p : Parse json.Json) (found : Members) (n : ℕ) (ts s : List Token) (k : List ℕ) → read_key ts ≡ Some (Some k, s)
    → converted of_json (p s) ≡ None → converted (λ ms. of_members ms found) (members p n ts) ≡ None
unfolding members
no_members_by p found zero ts s k key e = refl
no_members_by p found (suc n) ts s k key e = rw key (no_member p found k (members p n) (p s) e)

pub members_stop : (d : ℕ) (found : Members) (ts s : List Token) (k : List ℕ) → read_key ts ≡ Some (Some k, s) → value_in d s ≡ None
    → members_in d found ts ≡ None
unfolding members_in value_in
members_stop d found ts s k key e = no_members_by (value d) found (length ts) ts s k key e

pub members_unnamed : (d : ℕ) (found : Members) (ts : List Token) → read_key ts ≡ None → members_in d found ts ≡ None
unfolding members_in
members_unnamed d found ts e = ap (converted (λ ms. of_members ms found)) (json_members_no_key (value d) (length ts) ts e)

-- ---- the first token of a value

pub value_null : (d : ℕ) (ts : List Token) → value_in d (Token.null ∷ ts) ≡ Some (null, ts)
unfolding value_in
value_null d ts = ap (converted of_json) (value_is d (Token.null ∷ ts))

pub value_boolean : (d : ℕ) (b : _) (ts : List Token) → value_in d (Token.boolean b ∷ ts) ≡ Some (boolean b, ts)
unfolding value_in
value_boolean d b ts = ap (converted of_json) (value_is d (Token.boolean b ∷ ts))

pub value_string : (d : ℕ) (s : List ℕ) (ts : List Token) → value_in d (Token.string s ∷ ts) ≡ Some (string s, ts)
unfolding value_in
value_string d s ts = ap (converted of_json) (value_is d (Token.string s ∷ ts))

one_number : (o : Option Num) (ts : List Token) → is_some o ≡ true
    → option_map {U = Data × List Token} (λ d. (d, ts)) (option_map number o) ≡ Some (number_or_negative o, ts)
one_number None ts e = absurd (cc)
one_number (Some n) ts e = refl

pub value_number : (d : ℕ) (s : List ℕ) (ts : List Token) → is_some (number_of s) ≡ true
    → value_in d (Token.number s ∷ ts) ≡ Some (number_or_negative (number_of s), ts)
unfolding value_in
value_number d s ts e = ap (converted of_json) (value_is d (Token.number s ∷ ts)) ∙ one_number (number_of s) ts e

not_number : (o : Option Num) (ts : List Token) → is_some o ≡ false
    → option_map {U = Data × List Token} (λ d. (d, ts)) (option_map number o) ≡ None
not_number None ts e = refl
not_number (Some n) ts e = absurd (cc)

pub no_number : (d : ℕ) (s : List ℕ) (ts : List Token) → is_some (number_of s) ≡ false → value_in d (Token.number s ∷ ts) ≡ None
unfolding value_in
no_number d s ts e = ap (converted of_json) (value_is d (Token.number s ∷ ts)) ∙ not_number (number_of s) ts e

pub value_array : (d : ℕ) (ts : List Token) → 0 < d → value_in d (Token.begin_array ∷ ts) ≡ parse_map array (items_in (d - 1) ts)
unfolding value_in items_in
value_array d ts some = ap (converted of_json) (value-begin_array d ts some) ∙ in_array (items (value (d - 1)) (length ts) ts)

pub value_object : (d : ℕ) (ts : List Token) → 0 < d
    → value_in d (Token.begin_object ∷ ts) ≡ parse_map object (members_in (d - 1) no_members ts)
unfolding value_in members_in
value_object d ts some = ap (converted of_json) (value-begin_object d ts some) ∙ in_object (members (value (d - 1)) (length ts) ts)

pub no_array : (ts : List Token) → value_in 0 (Token.begin_array ∷ ts) ≡ None
unfolding value_in
no_array ts = ap (converted of_json) (value_is 0 (Token.begin_array ∷ ts))

pub no_object : (ts : List Token) → value_in 0 (Token.begin_object ∷ ts) ≡ None
unfolding value_in
no_object ts = ap (converted of_json) (value_is 0 (Token.begin_object ∷ ts))

pub no_value : (d : ℕ) → value_in d [] ≡ None
unfolding value_in
no_value d = ap (converted of_json) (value_is d [])

no_end_array : (d : ℕ) (ts : List Token) → value_in d (Token.end_array ∷ ts) ≡ None
unfolding value_in
no_end_array d ts = ap (converted of_json) (value_is d (Token.end_array ∷ ts))

no_end_object : (d : ℕ) (ts : List Token) → value_in d (Token.end_object ∷ ts) ≡ None
unfolding value_in
no_end_object d ts = ap (converted of_json) (value_is d (Token.end_object ∷ ts))

no_key : (d : ℕ) (s : List ℕ) (ts : List Token) → value_in d (Token.key s ∷ ts) ≡ None
unfolding value_in
no_key d s ts = ap (converted of_json) (value_is d (Token.key s ∷ ts))

no_bad : (d : ℕ) (ts : List Token) → value_in d (Token.bad ∷ ts) ≡ None
unfolding value_in
no_bad d ts = ap (converted of_json) (value_is d (Token.bad ∷ ts))

pub no_begin : (d : ℕ) (t : token.Token) (ts : List Token)
    → (t ≡ variant.EndArray) ⊎ ((t ≡ variant.EndObject) ⊎ (((s : Bor (List ℕ)) × (t ≡ variant.Key s)) ⊎ (t ≡ variant.Bad)))
    → value_in d (token_of t ∷ ts) ≡ None
no_begin d t ts h =
    ⊎_elim (λ e. rw e (no_end_array d ts)) (⊎_elim (λ e. rw e (no_end_object d ts)) (⊎_elim (λ e. rw e.1 (no_key d e.0.now ts))
    (λ e. rw e (no_bad d ts)))) h

-- ---- whole texts

whole_by : (o : Option (json.Json × List Token))
    → option_and_then if_done (converted of_json o) ≡ option_and_then of_json (option_and_then (λ p. if_last p.0 p.1) o)
whole_by None = refl
whole_by (Some (j, [])) = at (of_json j)
  where
    at : (x : Option Data) → option_and_then if_done (option_map (λ d. (d, [])) x) ≡ x
    at None = refl
    at (Some d) = refl
whole_by (Some (j, t ∷ ts)) = at (of_json j)
  where
    at : (x : Option Data) → option_and_then if_done (option_map (λ d. (d, t ∷ ts)) x) ≡ None
    at None = refl
    at (Some d) = refl

pub whole_read : (text : List ℕ) → whole_in (tokens text) ≡ read text
unfolding value_in
whole_read text = whole_by (value 127 (tokens text))

-- ---- the items of an array, of which some were read

pub items_begin : (d : ℕ) (ts : List Token) → items_in d ts ≡ parse_map (λ ds. ds) (items_in d ts)
items_begin d ts = at (items_in d ts)
  where
    at : (o : Option (Items × List Token)) → o ≡ parse_map (λ ds. ds) o
    at None = refl
    at (Some p) = refl

then_item : (before : Items → Items) (x : Data) (o : Option (Items × List Token))
    → parse_map before (parse_map (item x) o) ≡ parse_map (λ ds. before (item x ds)) o
then_item before x None = refl
then_item before x (Some p) = refl

pub items_next : (d : ℕ) (start ts r : List Token) (before : Items → Items) (x : Data)
    → items_in d start ≡ parse_map before (items_in d ts) → after_end_array ts ≡ None → value_in d ts ≡ Some (x, r)
    → items_in d start ≡ parse_map (λ ds. before (item x ds)) (items_in d r)
items_next d start ts r before x here going e =
    here ∙ ap (parse_map before) (items_more d ts r x going e) ∙ then_item before x (items_in d r)

pub items_last : (d : ℕ) (start ts r : List Token) (before : Items → Items) → items_in d start ≡ parse_map before (items_in d ts)
    → after_end_array ts ≡ Some r → items_in d start ≡ Some (before no_items, r)
items_last d start ts r before here e = here ∙ ap (parse_map before) (items_end d ts r e)

pub items_none : (d : ℕ) (start ts : List Token) (before : Items → Items) → items_in d start ≡ parse_map before (items_in d ts)
    → after_end_array ts ≡ None → value_in d ts ≡ None → items_in d start ≡ None
items_none d start ts before here going e = here ∙ ap (parse_map before) (items_stop d ts going e)

-- ---- what a value that began has

pub array_some : (o : Option (Items × List Token)) (r : List Token) → Took (λ ds. ⊤) o r
    → Took (λ d. (ds : Items) × (d ≡ array ds)) (parse_map array o) r
array_some o r h = (array h.0, ap (parse_map array) h.1, (h.0, refl))

pub object_some : (o : Option (Members × List Token)) (r : List Token) → Took (λ ms. ⊤) o r
    → Took (λ d. (ms : Members) × (d ≡ object ms)) (parse_map object o) r
object_some o r h = (object h.0, ap (parse_map object) h.1, (h.0, refl))

abbrev pub IsScalar : Begun → Type 0
IsScalar first =
    (first ≡ Null) ⊎ (((b : Bool) × (first ≡ begun.Bool b)) ⊎ (((s : Bor (List ℕ)) × (first ≡ Number s))
    ⊎ ((s : Bor (List ℕ)) × (first ≡ Text s))))

no_levels : (first : Begun) → IsScalar first → levels first ≡ 0
no_levels first h =
    ⊎_elim (λ e. ap levels e) (⊎_elim (λ e. ap levels e.1) (⊎_elim (λ e. ap levels e.1) (λ e. ap levels e.1))) h

scalar_by : (first : Begun) (ts : List Token) → levels first ≡ 0 → Took (IsBegun first) (begun_in first ts) ts
scalar_by Null ts e = (null, refl, refl)
scalar_by (begun.Bool b) ts e = (boolean b, refl, refl)
scalar_by (Number s) ts e = (number_or_negative (number_of s.now), refl, refl)
scalar_by (Text s) ts e = (string s.now, refl, refl)
scalar_by (Array depth) ts e = absurd (omega arith)
scalar_by (Object depth) ts e = absurd (omega arith)

-- of a value that is no array and no object nothing is left
pub scalar_took : (first : Begun) (ts : List Token) → IsScalar first → Took (IsBegun first) (begun_in first ts) ts
scalar_took first ts h = scalar_by first ts (no_levels first h)
