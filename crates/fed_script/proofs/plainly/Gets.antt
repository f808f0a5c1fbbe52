-- The events that gets as JSON writers give them name.
use Rattle.std.proofs.Common.{◌≡◌, ◌≤◌, ◌<◌, ◌^◌, ◌++◌, ℕ, suc, List, [], ◌∷◌, Bool, true, false, codes, decimal, Option, Some, Ok, Result}
use Rattle.std.proofs.Common.{map, length, refl, sym, ap, ◌∙◌, arith}
use Rattle.std.specs.Prelude.{option_and_then, option_map}
use Rattle.json.specs.Token.{Token, begin_object, end_object, begin_array, end_array, key, string, number, boolean}
use Rattle.json.specs.Json as json
use Rattle.json.specs.Print.{print, print_from, escape_byte}
use Rattle.json.proofs.Printed.Utf8.{IsUtf8-are_ascii}
use Rattle.serde_json.specs.Data.{Num, Data, Members, unsigned, object, array, Items, put}
use Rattle.serde_json.specs.Data as value
use Rattle.serde_json.specs.Read.{number_of, of_json, of_items}
use Rattle.serde_json.proofs.Numbers.{number_of-decimal}
use Rattle.fed_script.specs.declared.cause.LineCause.{LineCause}
use Rattle.fed_script.specs.declared.cause.LineCause.TheVariants.{Member}
use Rattle.fed_script.specs.declared.cause.MemberName.TheVariants as names
use Rattle.fed_script.specs.declared.event.Event.{Event}
use Rattle.fed_script.specs.Get.{ProviderMembers, get_by, provider_members, entries_of, one_to_ten}
use Rattle.fed_script.specs.Line.{event_named}
use Rattle.fed_script.specs.Member.{◌>>=◌, each, or_cause, small, json_of}
use Rattle.fed_script.specs.PlainGet.{get_text, hints_text, entry_text, entries_text, get_end, IsPlainEntry, ArePlain, members_of}
use Rattle.fed_script.proofs.plainly.Events.{named_by, is_small}
use Rattle.fed_script.proofs.plainly.Tokens.{AreGood, read_of, plain_data, good_number, of_kind}
use Rattle.fed_script.proofs.plainly.Entries.{entries_tokens, entries_good, entry_printed, entries_printed, entries_read, items_read}
use Rattle.fed_script.proofs.plainly.Entries.{entries_longer, entry_data, entries_data, items_data, entries_given, each_entry}

-- ---- tokens

abbrev tail_tokens : Bool → List Token
tail_tokens false = end_object ∷ []
tail_tokens true = key (codes "mode") ∷ string (codes "active") ∷ key (codes "activation") ∷ boolean true ∷ end_object ∷ []

abbrev get_tokens : ℕ → ℕ → List Token → List Token
get_tokens page call entries =
    begin_object ∷ key (codes "do") ∷ string (codes "get") ∷ key (codes "page") ∷ number (decimal page) ∷ key (codes "call")
    ∷ number (decimal call) ∷ key (codes "providers") ∷ begin_array ∷ entries

abbrev entries_with : List ProviderMembers → Bool → List Token
entries_with ps active = entries_tokens ps (end_array ∷ tail_tokens active)

tail_printed : (active : Bool) → print_from true (end_array ∷ tail_tokens active) ≡ get_end active
unfolding print_from escape_byte
tail_printed false = refl
tail_printed true = refl

get_printed : (page call : ℕ) (p : ProviderMembers) (ps : List ProviderMembers) (active : Bool) → IsPlainEntry p → ArePlain ps
    → print (get_tokens page call (entries_with (p ∷ ps) active))
    ≡ get_text page call p.config p.client (hints_text p (entries_text ps (get_end active)))
unfolding print_from escape_byte get_text
get_printed page call p ps active one others =
    ap (λ l. codes "{\"do\":\"get\",\"page\":" ++ (decimal page ++ (codes ",\"call\":" ++ (decimal call
    ++ (codes ",\"providers\":[{\"config\":" ++ l)))))
    (entry_printed p (entries_with ps active) one
    ∙ ap (λ l. 34 ∷ entry_text p l) (entries_printed ps (end_array ∷ tail_tokens active) others ∙ ap (entries_text ps) (tail_printed active)))

tail_good : (active : Bool) → AreGood (end_array ∷ tail_tokens active)
tail_good false = (tt, (tt, tt))
tail_good true = (tt, (refl, (IsUtf8-are_ascii _ refl, (refl, (tt, (tt, tt))))))

get_good : (page call : ℕ) (ps : List ProviderMembers) (active : Bool) → page < 2 ^ 64 → call < 2 ^ 64 → ArePlain ps
    → AreGood (get_tokens page call (entries_with ps active))
get_good page call ps active small few plain = (
  tt,
  (
    refl,
    (
      IsUtf8-are_ascii _ refl,
      (
        refl,
        (
          good_number page small,
          (
            refl,
            (
              good_number call few,
              (
                refl,
                (
                  tt,
                  entries_good ps (end_array ∷ tail_tokens active) plain (tail_good active),
                ),
              ),
            ),
          ),
        ),
      ),
    ),
  ),
)

-- ---- what is read of them

abbrev with_mode : Bool → Members → Members
with_mode false members = members
with_mode true members = put (codes "activation") (value.boolean true) (put (codes "mode") (value.string (codes "active")) members)

abbrev get_members : Bool → Data → Data → Data → Members
get_members active page call entries =
    with_mode active (put (codes "providers") entries (put (codes "call") call (put (codes "page") page (of_kind (codes "get")))))

abbrev get_data : ℕ → ℕ → Items → Bool → Data
get_data page call entries active =
    object (get_members active (value.number (unsigned page)) (value.number (unsigned call)) (array entries))

-- the value by what is read of the entries, with so many turns left
read_by : ℕ → ℕ → ℕ → Option (json.Items × List Token) → Option Data
read_by page call n found =
    option_and_then of_json (option_and_then (λ p. json.if_last p.0 p.1) (json.parse_map json.object
    (json.parse_map (json.member (codes "do") (json.string (codes "get")))
    (json.parse_map (json.member (codes "page") (json.number (decimal page)))
    (json.parse_map (json.member (codes "call") (json.number (decimal call)))
    (option_and_then (λ p. json.parse_map (json.member (codes "providers") p.0)
    (json.members (json.value 126) (suc (suc (suc (suc n)))) p.1)) (json.parse_map json.array found)))))))

-- the value by the numbers of its page and of its call and by the data of its entries
abbrev data_by : Bool → Option Num → Option Num → Option Items → Option Data
data_by active page call entries =
    option_map object (option_and_then (λ p. option_and_then (λ c. option_and_then (λ es. Some (get_members active p c es))
    (option_map array entries)) (option_map value.number call)) (option_map value.number page))

get_read : (page call : ℕ) (ts : List Token) (items : json.Items) (entries : Items) (active : Bool)
    → json.items (json.value 125) (length ts) ts ≡ Some (items, tail_tokens active) → of_items items ≡ Some entries
    → read_of (get_tokens page call ts) ≡ data_by active (number_of (decimal page)) (number_of (decimal call)) (Some entries)
unfolding json.value json.members read_by
get_read page call ts items entries false is given =
    ap (read_by page call (length ts)) is ∙ ap (data_by false (number_of (decimal page)) (number_of (decimal call))) given
get_read page call ts items entries true is given =
    ap (read_by page call (length ts)) is ∙ ap (data_by true (number_of (decimal page)) (number_of (decimal call))) given

numbers_read : (page call : ℕ) (entries : Items) (active : Bool) → page < 2 ^ 64 → call < 2 ^ 64
    → data_by active (number_of (decimal page)) (number_of (decimal call)) (Some entries) ≡ Some (get_data page call entries active)
numbers_read page call entries active small few =
    ap (λ p. data_by active p (number_of (decimal call)) (Some entries)) (number_of-decimal page small)
    ∙ ap (λ c. data_by active (Some (unsigned page)) c (Some entries)) (number_of-decimal call few)

get_is : (line : List ℕ) (page call : ℕ) (p : ProviderMembers) (ps : List ProviderMembers) (active : Bool)
    → line ≡ get_text page call p.config p.client (hints_text p (entries_text ps (get_end active))) → IsPlainEntry p → ArePlain ps
    → page < 2 ^ 64 → call < 2 ^ 64 → json_of line ≡ Ok (get_data page call (entries_data (p ∷ ps)) active)
get_is line page call p ps active is one others small few =
    plain_data line (get_tokens page call (entries_with (p ∷ ps) active)) (get_data page call (entries_data (p ∷ ps)) active)
    (is ∙ sym (get_printed page call p ps active one others)) (get_good page call (p ∷ ps) active small few (one, others))
    (get_read page call (entries_with (p ∷ ps) active) (entries_read (p ∷ ps)) (entries_data (p ∷ ps)) active
    (items_read (p ∷ ps) (tail_tokens active) _ (entries_longer (p ∷ ps) end_array (tail_tokens active))) (items_data (p ∷ ps))
    ∙ numbers_read page call (entries_data (p ∷ ps)) active small few)

-- ---- what they name

get_from : Option ℕ → Option ℕ → Option (List Data) → Bool → Result Event LineCause
get_from page call entries active =
    (or_cause (Member names.Page) page >>= λ p. or_cause (Member names.Call) call >>= λ c. or_cause (Member names.Providers) entries
    >>= λ es. each provider_members es >>= λ ps. Ok (members_of p c ps active)) >>= get_by

get_named : (page call : ℕ) (entries : Items) (active : Bool) → named_by (Ok (get_data page call entries active))
    ≡ get_from (small page) (small call) (option_and_then one_to_ten (entries_of entries)) active
unfolding named_by get_from
get_named page call entries false = refl
get_named page call entries true = refl

get_counted : (page call : ℕ) (entries : List Data) (ps : List ProviderMembers) (active : Bool) → page < 2 ^ 32 → call < 2 ^ 32
    → each provider_members entries ≡ Ok ps
    → get_from (small page) (small call) (Some entries) active ≡ get_by (members_of page call ps active)
unfolding get_from
get_counted page call entries ps active h k is =
    ap (λ n. get_from n (small call) (Some entries) active) (is_small page h)
    ∙ ap (λ n. get_from (Some page) n (Some entries) active) (is_small call k)
    ∙ ap (λ r. (r >>= λ found. Ok (members_of page call found active)) >>= get_by) is

pub get_event : (line rest config client : List ℕ) (page call : ℕ) (p : ProviderMembers) (ps : List ProviderMembers) (active : Bool)
    → line ≡ get_text page call config client rest → p.config ≡ config → p.client ≡ client
    → rest ≡ hints_text p (entries_text ps (get_end active)) → ArePlain (p ∷ ps) → length ps ≤ 9 → page < 2 ^ 32 → call < 2 ^ 32
    → event_named line ≡ get_by (members_of page call (p ∷ ps) active)
unfolding named_by
get_event line rest config client page call p ps active is same alike goes_on plain few h k =
    let whole : line ≡ get_text page call p.config p.client (hints_text p (entries_text ps (get_end active))) =
    is ∙ ap (get_text page call config client) goes_on
    ∙ ap (λ u. get_text page call u client (hints_text p (entries_text ps (get_end active)))) (sym same)
    ∙ ap (λ u. get_text page call p.config u (hints_text p (entries_text ps (get_end active)))) (sym alike) in
    ap named_by (get_is line page call p ps active whole plain.0 plain.1 (omega arith) (omega arith))
    ∙ get_named page call (entries_data (p ∷ ps)) active
    ∙ ap (λ es. get_from (small page) (small call) es active) (entries_given p ps few)
    ∙ get_counted page call (map entry_data (p ∷ ps)) (p ∷ ps) active h k (each_entry (p ∷ ps))
