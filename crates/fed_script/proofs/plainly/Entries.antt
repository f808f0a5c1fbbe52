-- The entries of gets as JSON writers give them: their tokens, what is read of these, and what they say.
use Rattle.std.proofs.Common.{◌≡◌, ◌≤◌, ◌<◌, ℕ, zero, suc, ◌&&◌, List, [], ◌∷◌, ◌++◌, map, length, codes}
use Rattle.std.proofs.Common.{cond, true, false, Option, Some, None, Ok, refl, sym, ap, ◌∙◌, arith}
use Rattle.std.proofs.lemmas.Bool.Decides.{nat_tests}
use Rattle.std.proofs.lemmas.List.{length-map}
use Rattle.std.specs.Prelude.{option_and_then, option_map, nat_le}
use Rattle.json.specs.Token.{Token, begin_object, end_object, end_array, key, string}
use Rattle.json.specs.Json as json
use Rattle.json.specs.Print.{print_from, escape, escape_byte}
use Rattle.json.proofs.Printed.Utf8.{are_ascii}
use Rattle.serde_json.specs.Data.{Data, object, Items, no_items, item, Members, put, no_members}
use Rattle.serde_json.specs.Data as value
use Rattle.serde_json.specs.Read.{of_json, of_items}
use Rattle.fed_script.specs.Get.{ProviderMembers, provider_members, entries_of, one_to_ten}
use Rattle.fed_script.specs.Member.{◌>>=◌, each}
use Rattle.fed_script.specs.PlainGet.{text_under, hints_text, entry_text, entries_text, IsPlainIfAny, IsPlainEntry, ArePlain}
use Rattle.fed_script.proofs.plainly.Tokens.{AreGood, closed}

-- ---- tokens

abbrev text_tokens : List ℕ → Option (List ℕ) → List Token → List Token
text_tokens name None rest = rest
text_tokens name (Some text) rest = key name ∷ string text ∷ rest

abbrev hints_tokens : ProviderMembers → List Token → List Token
hints_tokens p rest =
    text_tokens (codes "nonce") p.nonce (text_tokens (codes "login_hint") p.login_hint
    (text_tokens (codes "domain_hint") p.domain_hint (text_tokens (codes "params") p.params (end_object ∷ rest))))

-- an entry from the text of its configuration URL on
abbrev pub entry_tokens : ProviderMembers → List Token → List Token
entry_tokens p rest = string p.config ∷ key (codes "client") ∷ string p.client ∷ hints_tokens p rest

abbrev pub entries_tokens : List ProviderMembers → List Token → List Token
entries_tokens [] rest = rest
entries_tokens (p ∷ ps) rest = begin_object ∷ key (codes "config") ∷ entry_tokens p (entries_tokens ps rest)

-- ---- they can be written

text_good : (name : List ℕ) (o : Option (List ℕ)) (rest : List Token) → are_ascii name ≡ true → IsPlainIfAny o → AreGood rest
    → AreGood (text_tokens name o rest)
text_good name None rest ascii plain good = good
text_good name (Some text) rest ascii plain good = (ascii, (plain.1, good))

pub entry_good : (p : ProviderMembers) (rest : List Token) → IsPlainEntry p → AreGood rest → AreGood (entry_tokens p rest)
entry_good p rest plain good = (
  plain.config.1,
  (
    refl,
    (
      plain.client.1,
      text_good (codes "nonce") p.nonce _ refl plain.nonce
          (text_good (codes "login_hint") p.login_hint _ refl plain.login_hint
          (text_good (codes "domain_hint") p.domain_hint _ refl plain.domain_hint
          (text_good (codes "params") p.params _ refl plain.params (tt, good)))),
    ),
  ),
)

pub entries_good : (ps : List ProviderMembers) (rest : List Token) → ArePlain ps → AreGood rest → AreGood (entries_tokens ps rest)
entries_good [] rest plain good = good
entries_good (p ∷ ps) rest plain good =
    (tt, (refl, entry_good p (entries_tokens ps rest) plain.0 (entries_good ps rest plain.1 good)))

-- ---- their text

-- a text under a name, from the quote before it on
under_printed : (name prefix : List ℕ) (o : Option (List ℕ)) (rest : List Token)
    → ((l : List ℕ) → 34 ∷ 44 ∷ ((34 ∷ (escape name ++ 34 ∷ [])) ++ 58 ∷ []) ++ 34 ∷ l ≡ prefix ++ l) → IsPlainIfAny o
    → 34 ∷ print_from true (text_tokens name o rest) ≡ text_under prefix o (34 ∷ print_from true rest)
unfolding print_from
under_printed name prefix None rest is plain = refl
under_printed name prefix (Some text) rest is plain =
    is ((escape text ++ 34 ∷ []) ++ print_from true rest) ∙ ap (λ l. prefix ++ l) (sym (closed text (print_from true rest) plain.0))

hints_printed : (p : ProviderMembers) (rest : List Token) → IsPlainEntry p
    → 34 ∷ print_from true (hints_tokens p rest) ≡ hints_text p (print_from true rest)
unfolding print_from escape_byte
hints_printed p rest plain =
    under_printed (codes "nonce") (codes "\",\"nonce\":\"") p.nonce _ (λ l. refl) plain.nonce
    ∙ ap (text_under (codes "\",\"nonce\":\"") p.nonce)
    (under_printed (codes "login_hint") (codes "\",\"login_hint\":\"") p.login_hint _ (λ l. refl) plain.login_hint
    ∙ ap (text_under (codes "\",\"login_hint\":\"") p.login_hint)
    (under_printed (codes "domain_hint") (codes "\",\"domain_hint\":\"") p.domain_hint _ (λ l. refl) plain.domain_hint
    ∙ ap (text_under (codes "\",\"domain_hint\":\"") p.domain_hint)
    (under_printed (codes "params") (codes "\",\"params\":\"") p.params (end_object ∷ rest) (λ l. refl) plain.params)))

-- an entry from the quote before its configuration URL on
pub entry_printed : (p : ProviderMembers) (rest : List Token) → IsPlainEntry p
    → print_from false (entry_tokens p rest) ≡ 34 ∷ entry_text p (print_from true rest)
unfolding print_from escape_byte
entry_printed p rest plain =
    let back : List ℕ → List ℕ = λ l. codes ",\"client\":\"" ++ l in
    let hints : List ℕ = print_from true (hints_tokens p rest) in
    let last : (escape p.client ++ 34 ∷ []) ++ hints ≡ p.client ++ hints_text p (print_from true rest) =
    sym (closed p.client hints plain.client.0) ∙ ap (λ l. p.client ++ l) (hints_printed p rest plain) in
    ap (λ l. 34 ∷ ((escape p.config ++ 34 ∷ []) ++ back l)) last
    ∙ ap (λ l. 34 ∷ l) (sym (closed p.config (back (p.client ++ hints_text p (print_from true rest))) plain.config.0))

pub entries_printed : (ps : List ProviderMembers) (rest : List Token) → ArePlain ps
    → print_from true (entries_tokens ps rest) ≡ entries_text ps (print_from true rest)
unfolding print_from escape_byte
entries_printed [] rest plain = refl
entries_printed (p ∷ ps) rest plain =
    ap (λ l. codes ",{\"config\":" ++ l) (entry_printed p (entries_tokens ps rest) plain.0
    ∙ ap (λ l. 34 ∷ entry_text p l) (entries_printed ps rest plain.1))

-- ---- what is read of them

abbrev text_read : List ℕ → Option (List ℕ) → json.Members → json.Members
text_read name None members = members
text_read name (Some text) members = json.member name (json.string text) members

abbrev entry_read : ProviderMembers → json.Members
entry_read p =
    json.member (codes "config") (json.string p.config) (json.member (codes "client") (json.string p.client)
    (text_read (codes "nonce") p.nonce (text_read (codes "login_hint") p.login_hint (text_read (codes "domain_hint") p.domain_hint
    (text_read (codes "params") p.params json.no_members)))))

abbrev pub entries_read : List ProviderMembers → json.Items
entries_read [] = json.no_items
entries_read (p ∷ ps) = json.item (json.object (entry_read p)) (entries_read ps)

abbrev with_text : List ℕ → Option (List ℕ) → Members → Members
with_text name None members = members
with_text name (Some text) members = put name (value.string text) members

abbrev pub entry_data : ProviderMembers → Data
entry_data p =
    object (with_text (codes "params") p.params (with_text (codes "domain_hint") p.domain_hint
    (with_text (codes "login_hint") p.login_hint (with_text (codes "nonce") p.nonce
    (put (codes "client") (value.string p.client) (put (codes "config") (value.string p.config) no_members))))))

abbrev pub entries_data : List ProviderMembers → Items
entries_data [] = no_items
entries_data (p ∷ ps) = item (entry_data p) (entries_data ps)

-- of one entry: what is read of its tokens, its data, and its members
record Reads (p : ProviderMembers) (rest : List Token) : Type 0 where
  tokens : json.value 125 (begin_object ∷ key (codes "config") ∷ entry_tokens p rest) ≡ Some (json.object (entry_read p), rest)
  value : of_json (json.object (entry_read p)) ≡ Some (entry_data p)
  members : provider_members (entry_data p) ≡ Ok p

of_entry : (config client : List ℕ) (nonce login_hint domain_hint params : Option (List ℕ)) (rest : List Token) → Reads (record { config = config; client = client; nonce = nonce; login_hint = login_hint; domain_hint = domain_hint; params = params }) rest
unfolding json.value json.items json.members
of_entry config client None None None None rest = record { tokens = refl; value = refl; members = refl }
of_entry config client (Some a) None None None rest = record { tokens = refl; value = refl; members = refl }
of_entry config client None (Some b) None None rest = record { tokens = refl; value = refl; members = refl }
of_entry config client (Some a) (Some b) None None rest = record { tokens = refl; value = refl; members = refl }
of_entry config client None None (Some c) None rest = record { tokens = refl; value = refl; members = refl }
of_entry config client (Some a) None (Some c) None rest = record { tokens = refl; value = refl; members = refl }
of_entry config client None (Some b) (Some c) None rest = record { tokens = refl; value = refl; members = refl }
of_entry config client (Some a) (Some b) (Some c) None rest = record { tokens = refl; value = refl; members = refl }
of_entry config client None None None (Some d) rest = record { tokens = refl; value = refl; members = refl }
of_entry config client (Some a) None None (Some d) rest = record { tokens = refl; value = refl; members = refl }
of_entry config client None (Some b) None (Some d) rest = record { tokens = refl; value = refl; members = refl }
of_entry config client (Some a) (Some b) None (Some d) rest = record { tokens = refl; value = refl; members = refl }
of_entry config client None None (Some c) (Some d) rest = record { tokens = refl; value = refl; members = refl }
of_entry config client (Some a) None (Some c) (Some d) rest = record { tokens = refl; value = refl; members = refl }
of_entry config client None (Some b) (Some c) (Some d) rest = record { tokens = refl; value = refl; members = refl }
of_entry config client (Some a) (Some b) (Some c) (Some d) rest = record { tokens = refl; value = refl; members = refl }

reads : (p : ProviderMembers) (rest : List Token) → Reads p rest
reads p rest = of_entry p.config p.client p.nonce p.login_hint p.domain_hint p.params rest

-- what is read of entries, with as many turns as there are entries or more
pub items_read : (ps : List ProviderMembers) (rest : List Token) (n : ℕ) → length ps < n
    → json.items (json.value 125) n (entries_tokens ps (end_array ∷ rest)) ≡ Some (entries_read ps, rest)
unfolding json.items
items_read ps rest zero more = absurd (omega arith)
items_read [] rest (suc n) more = refl
items_read (p ∷ ps) rest (suc n) more =
    ap (λ r. option_and_then (λ q. json.parse_map (json.item q.0) (json.items (json.value 125) n q.1)) r)
    (reads p (entries_tokens ps (end_array ∷ rest))).tokens
    ∙ ap (json.parse_map (json.item (json.object (entry_read p)))) (items_read ps rest n (omega arith))

text_longer : (name : List ℕ) (o : Option (List ℕ)) (rest : List Token) → length rest ≤ length (text_tokens name o rest)
text_longer name None rest = omega arith
text_longer name (Some text) rest = omega arith

hints_longer : (p : ProviderMembers) (rest : List Token) → length rest < length (hints_tokens p rest)
hints_longer p rest =
    let fourth = text_longer (codes "params") p.params (end_object ∷ rest) in
    let third = text_longer (codes "domain_hint") p.domain_hint (text_tokens (codes "params") p.params (end_object ∷ rest)) in
    let second = text_longer (codes "login_hint") p.login_hint (text_tokens (codes "domain_hint") p.domain_hint
    (text_tokens (codes "params") p.params (end_object ∷ rest))) in
    let first = text_longer (codes "nonce") p.nonce (text_tokens (codes "login_hint") p.login_hint
    (text_tokens (codes "domain_hint") p.domain_hint (text_tokens (codes "params") p.params (end_object ∷ rest)))) in
    omega arith

-- so there are enough turns
pub entries_longer : (ps : List ProviderMembers) (t : Token) (rest : List Token) → length ps < length (entries_tokens ps (t ∷ rest))
entries_longer [] t rest = omega arith
entries_longer (p ∷ ps) t rest =
    let more = hints_longer p (entries_tokens ps (t ∷ rest)) in
    let further = entries_longer ps t rest in
    omega arith

pub items_data : (ps : List ProviderMembers) → of_items (entries_read ps) ≡ Some (entries_data ps)
items_data [] = refl
items_data (p ∷ ps) =
    ap (λ r. option_and_then (λ d. option_map (item d) (of_items (entries_read ps))) r) (reads p []).value
    ∙ ap (λ r. option_map (item (entry_data p)) r) (items_data ps)

-- ---- what they say

entries_are : (ps : List ProviderMembers) → entries_of (entries_data ps) ≡ Some (map entry_data ps)
entries_are [] = refl
entries_are (p ∷ ps) = ap (option_map (λ further. entry_data p ∷ further)) (entries_are ps)

-- one to ten
pub entries_given : (p : ProviderMembers) (ps : List ProviderMembers) → length ps ≤ 9
    → option_and_then one_to_ten (entries_of (entries_data (p ∷ ps))) ≡ Some (map entry_data (p ∷ ps))
entries_given p ps few =
    let fits : (nat_le 1 (length (map entry_data (p ∷ ps))) && nat_le (length (map entry_data (p ∷ ps))) 10) ≡ true =
    simp length-map (grind (arith, nat_tests)) in
    ap (option_and_then one_to_ten) (entries_are (p ∷ ps)) ∙ ap (λ b. cond b (Some (map entry_data (p ∷ ps))) None) fits

pub each_entry : (ps : List ProviderMembers) → each provider_members (map entry_data ps) ≡ Ok ps
each_entry [] = refl
each_entry (p ∷ ps) =
    ap (λ r. r >>= λ first. each provider_members (map entry_data ps) >>= λ further. Ok (first ∷ further)) (reads p []).members
    ∙ ap (λ r. r >>= λ further. Ok (p ∷ further)) (each_entry ps)

-- one entry more
pub entries_push : (ps : List ProviderMembers) (p : ProviderMembers) (rest : List ℕ)
    → entries_text (ps ++ p ∷ []) rest ≡ entries_text ps (codes ",{\"config\":\"" ++ entry_text p rest)
entries_push [] p rest = refl
entries_push (q ∷ ps) p rest = ap (λ l. codes ",{\"config\":\"" ++ entry_text q l) (entries_push ps p rest)

pub plain_push : (ps : List ProviderMembers) (p : ProviderMembers) → ArePlain ps → IsPlainEntry p → ArePlain (ps ++ p ∷ [])
plain_push [] p plain one = (one, tt)
plain_push (q ∷ ps) p plain one = (plain.0, plain_push ps p plain.1 one)
