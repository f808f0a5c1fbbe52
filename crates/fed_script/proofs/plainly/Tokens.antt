-- The tokens of lines as JSON writers give them, and what is read of them.
use Rattle.std.proofs.Common.{◌≡◌, ◌<◌, ◌^◌, ◌&&◌, ℕ, List, [], ◌∷◌, ◌++◌, Bool, true, false, cond}
use Rattle.std.proofs.Common.{codes, decimal, Option, Some, None, Ok, refl, sym, ap, subst, ◌∙◌}
use Rattle.std.proofs.Common.{append_assoc, arith}
use Rattle.std.proofs.lemmas.Str.{is_utf8-from_IsUtf8, IsUtf8-append, IsUtf8-nil}
use Rattle.std.specs.List.{list_all}
use Rattle.std.specs.Prelude.{option_and_then, option_map, ⊤}
use Rattle.std.specs.Str.{IsUtf8, is_utf8}
use Rattle.json.specs.Token.{Token, begin_object, end_object, begin_array, end_array, key, string, number, boolean, null, bad}
use Rattle.json.specs.Lex.{tokens}
use Rattle.json.specs.Json as json
use Rattle.json.specs.Print.{print, print_from, separator, token_text, ends, escape, escape_byte, IsNumber, ArePrintable}
use Rattle.json.specs.Run.{is_plain}
use Rattle.json.proofs.Printed.Decimals.{IsNumber-decimal}
use Rattle.json.proofs.Printed.Tokens.{tokens-print}
use Rattle.json.proofs.Printed.Utf8.{are_ascii, IsUtf8-are_ascii, IsUtf8-quoted, IsUtf8-key, IsUtf8-boolean, IsUtf8-separator}
use Rattle.std.proofs.DigitsParse.{digits-IsUtf8}
use Rattle.serde_json.specs.Data.{Num, Data, Members, unsigned, object, array, no_items, item, put, no_members}
use Rattle.serde_json.specs.Data as value
use Rattle.serde_json.specs.Read.{read, of_json, max_depth, number_of}
use Rattle.serde_json.proofs.Numbers.{number_of-decimal}
use Rattle.fed_script.specs.declared.cause.LineCause.TheVariants.{NotJson}
use Rattle.fed_script.specs.Member.{json_of, or_cause}
use Rattle.fed_escape.proofs.texts.Fronts.{plain_byte}
use Rattle.fed_script.specs.Plain.{load_text, reply_text, closepage_text, go_on_text, place_text, disconnect_text}

-- ---- tokens that can be written, each text in UTF-8

abbrev pub IsGood : Token → Type 0
IsGood begin_object = ⊤
IsGood end_object = ⊤
IsGood begin_array = ⊤
IsGood end_array = ⊤
IsGood (key s) = are_ascii s ≡ true
IsGood (string s) = IsUtf8 s
IsGood (number s) = IsNumber s × IsUtf8 s
IsGood (boolean b) = ⊤
IsGood null = ⊤
IsGood bad = ⊥

abbrev pub AreGood : List Token → Type 0
AreGood [] = ⊤
AreGood (t ∷ ts) = IsGood t × AreGood ts

printable : (ts : List Token) → AreGood ts → ArePrintable ts
unfolding ArePrintable
printable [] good = tt
printable (begin_object ∷ ts) good = (tt, printable ts good.1)
printable (end_object ∷ ts) good = (tt, printable ts good.1)
printable (begin_array ∷ ts) good = (tt, printable ts good.1)
printable (end_array ∷ ts) good = (tt, printable ts good.1)
printable (key s ∷ ts) good = (tt, printable ts good.1)
printable (string s ∷ ts) good = (tt, printable ts good.1)
printable (number s ∷ ts) good = (good.0.0, printable ts good.1)
printable (boolean b ∷ ts) good = (tt, printable ts good.1)
printable (null ∷ ts) good = (tt, printable ts good.1)
printable (bad ∷ ts) good = absurd good.0

one_utf8 : (t : Token) → IsGood t → IsUtf8 (token_text t)
one_utf8 begin_object good = IsUtf8-are_ascii _ refl
one_utf8 end_object good = IsUtf8-are_ascii _ refl
one_utf8 begin_array good = IsUtf8-are_ascii _ refl
one_utf8 end_array good = IsUtf8-are_ascii _ refl
one_utf8 (key s) good = IsUtf8-key s (IsUtf8-are_ascii s good)
one_utf8 (string s) good = IsUtf8-quoted s good
one_utf8 (number s) good = good.1
one_utf8 (boolean b) good = IsUtf8-boolean b
one_utf8 null good = IsUtf8-are_ascii _ refl
one_utf8 bad good = absurd good

written_utf8 : (b : Bool) (ts : List Token) → AreGood ts → IsUtf8 (print_from b ts)
unfolding print_from
written_utf8 b [] good = IsUtf8-nil
written_utf8 b (t ∷ ts) good =
    IsUtf8-append (separator b t) _ (IsUtf8-separator b t)
    (IsUtf8-append (token_text t) _ (one_utf8 t good.0) (written_utf8 (ends t) ts good.1))

-- what is read of tokens
abbrev pub read_of : List Token → Option Data
read_of ts = option_and_then of_json (option_and_then (λ p. json.if_last p.0 p.1) (json.value max_depth ts))

pub plain_data : (line : List ℕ) (ts : List Token) (d : Data) → line ≡ print ts → AreGood ts → read_of ts ≡ Some d → json_of line ≡ Ok d
plain_data line ts d is good h =
    let utf8 : is_utf8 line ≡ true = is_utf8-from_IsUtf8 line (subst IsUtf8 (sym is) (written_utf8 false ts good)) in
    ap (λ b. or_cause NotJson (cond b (read line) None)) utf8
    ∙ ap (or_cause NotJson) (ap read_of (ap tokens is ∙ tokens-print ts (printable ts good)) ∙ h)

pub good_number : (n : ℕ) → n < 2 ^ 64 → IsGood (number (decimal n))
good_number n small = (IsNumber-decimal n small, digits-IsUtf8 10 false n (omega arith) (omega arith))

-- ---- texts

both : (a b : Bool) → (a && b) ≡ true → (a ≡ true) × (b ≡ true)
both true b h = (refl, h)
both false b h = absurd (cc)

pub plain_escape : (text : List ℕ) → list_all is_plain text ≡ true → escape text ≡ text
plain_escape [] h = refl
plain_escape (b ∷ text) h =
    let each = both (is_plain b) (list_all is_plain text) h in
    ap (λ l. l ++ escape text) (plain_byte b each.0) ∙ ap (λ l. b ∷ l) (plain_escape text each.1)

-- a text with its escapes, up to its quote
ended : (text rest : List ℕ) → escape text ++ 34 ∷ rest ≡ (escape text ++ 34 ∷ []) ++ rest
ended text rest = sym (append_assoc (escape text) (34 ∷ []) rest)

-- the same of a text without an escape
pub closed : (text rest : List ℕ) → list_all is_plain text ≡ true → text ++ 34 ∷ rest ≡ (escape text ++ 34 ∷ []) ++ rest
closed text rest plain = ap (λ u. u ++ 34 ∷ rest) (sym (plain_escape text plain)) ∙ ended text rest

-- the members of a line of this kind, before its others
abbrev pub of_kind : List ℕ → Members
of_kind kind = put (codes "do") (value.string kind) no_members

-- the number of a page or of a call
abbrev counted : Option Num → (Data → Members) → Option Data
counted n members = option_map object (option_and_then (λ d. Some (members d)) (option_map value.number n))

-- the numbers of two members
abbrev pub counted_both : Option Num → Option Num → (Data → Data → Members) → Option Data
counted_both page call members =
    option_map object (option_and_then (λ p. option_and_then (λ c. Some (members p c)) (option_map value.number call))
    (option_map value.number page))

-- ---- a load

abbrev load_tokens : ℕ → List ℕ → List Token
load_tokens page url =
    begin_object ∷ key (codes "do") ∷ string (codes "load") ∷ key (codes "page") ∷ number (decimal page) ∷ key (codes "url")
    ∷ string url ∷ end_object ∷ []

abbrev load_members : List ℕ → Data → Members
load_members url page = put (codes "url") (value.string url) (put (codes "page") page (of_kind (codes "load")))

abbrev pub load_data : ℕ → List ℕ → Data
load_data page url = object (load_members url (value.number (unsigned page)))

load_line : (page : ℕ) (url : List ℕ) → print (load_tokens page url)
    ≡ codes "{\"do\":\"load\",\"page\":" ++ (decimal page ++ (codes ",\"url\":\"" ++ ((escape url ++ 34 ∷ []) ++ codes "}")))
unfolding print_from escape_byte
load_line page url = refl

load_read : (page : ℕ) (url : List ℕ) → read_of (load_tokens page url) ≡ counted (number_of (decimal page)) (load_members url)
unfolding json.value json.items json.members
load_read page url = refl

pub load_is : (line : List ℕ) (page : ℕ) (url : List ℕ) → IsUtf8 url → page < 2 ^ 64 → list_all is_plain url ≡ true
    → line ≡ load_text page url (codes "\"}") → json_of line ≡ Ok (load_data page url)
unfolding load_text
load_is line page url utf8 small plain is =
    let front : List ℕ → List ℕ = λ l. codes "{\"do\":\"load\",\"page\":" ++ (decimal page ++ (codes ",\"url\":\"" ++ l)) in
    plain_data line (load_tokens page url) (load_data page url)
    (is ∙ ap front (closed url (codes "}") plain) ∙ sym (load_line page url))
    (tt, (refl, (IsUtf8-are_ascii _ refl, (refl, (good_number page small, (refl, (utf8, (tt, tt))))))))
    (load_read page url ∙ ap (λ n. counted n (load_members url)) (number_of-decimal page small))

-- ---- a load with the text of a reply

abbrev load_reply_tokens : ℕ → List ℕ → List ℕ → List Token
load_reply_tokens page url text =
    begin_object ∷ key (codes "do") ∷ string (codes "load") ∷ key (codes "page") ∷ number (decimal page) ∷ key (codes "url")
    ∷ string url ∷ key (codes "text") ∷ string text ∷ end_object ∷ []

abbrev load_reply_members : List ℕ → List ℕ → Data → Members
load_reply_members url text page = put (codes "text") (value.string text) (load_members url page)

abbrev pub load_reply_data : ℕ → List ℕ → List ℕ → Data
load_reply_data page url text = object (load_reply_members url text (value.number (unsigned page)))

load_reply_line : (page : ℕ) (url text : List ℕ) → print (load_reply_tokens page url text)
    ≡ codes "{\"do\":\"load\",\"page\":" ++ (decimal page ++ (codes ",\"url\":\"" ++ ((escape url ++ 34 ∷ [])
    ++ (codes ",\"text\":\"" ++ ((escape text ++ 34 ∷ []) ++ codes "}")))))
unfolding print_from escape_byte
load_reply_line page url text = refl

load_reply_read : (page : ℕ) (url text : List ℕ)
    → read_of (load_reply_tokens page url text) ≡ counted (number_of (decimal page)) (load_reply_members url text)
unfolding json.value json.items json.members
load_reply_read page url text = refl

pub load_reply_is : (line : List ℕ) (page : ℕ) (url text : List ℕ) → IsUtf8 url → IsUtf8 text → page < 2 ^ 64
    → list_all is_plain url ≡ true → line ≡ load_text page url (codes "\",\"text\":\"" ++ (escape text ++ codes "\"}"))
    → json_of line ≡ Ok (load_reply_data page url text)
unfolding load_text
load_reply_is line page url text first second small plain is =
    let front : List ℕ → List ℕ = λ l. codes "{\"do\":\"load\",\"page\":" ++ (decimal page ++ (codes ",\"url\":\"" ++ l)) in
    let back : List ℕ → List ℕ = λ l. codes ",\"text\":\"" ++ l in
    plain_data line (load_reply_tokens page url text) (load_reply_data page url text)
    (is ∙ ap front (closed url (back (escape text ++ codes "\"}")) plain
    ∙ ap (λ l. (escape url ++ 34 ∷ []) ++ back l) (ended text (codes "}")))
    ∙ sym (load_reply_line page url text))
    (tt, (refl, (IsUtf8-are_ascii _ refl, (refl, (good_number page small, (refl, (first, (refl, (second, (tt, tt))))))))))
    (load_reply_read page url text ∙ ap (λ n. counted n (load_reply_members url text)) (number_of-decimal page small))

-- ---- a reply

abbrev place_tokens : Option ℕ → List Token → List Token
place_tokens None rest = rest
place_tokens (Some place) rest = key (codes "provider") ∷ number (decimal place) ∷ rest

abbrev reply_tokens : ℕ → Option ℕ → List ℕ → List ℕ → List Token
reply_tokens call place word text =
    begin_object ∷ key (codes "do") ∷ string (codes "reply") ∷ key (codes "call") ∷ number (decimal call)
    ∷ place_tokens place (key (codes "to") ∷ string word ∷ key (codes "text") ∷ string text ∷ end_object ∷ [])

abbrev with_place : Option Data → Members → Members
with_place None members = members
with_place (Some place) members = put (codes "provider") place members

abbrev reply_members : List ℕ → List ℕ → Data → Option Data → Members
reply_members word text call place =
    put (codes "text") (value.string text) (put (codes "to") (value.string word)
    (with_place place (put (codes "call") call (of_kind (codes "reply")))))

abbrev pub place_data : Option ℕ → Option Data
place_data place = option_map (λ n. value.number (unsigned n)) place

abbrev pub reply_data : ℕ → Option ℕ → List ℕ → List ℕ → Data
reply_data call place word text = object (reply_members word text (value.number (unsigned call)) (place_data place))

reply_line : (call : ℕ) (place : Option ℕ) (word text : List ℕ) → print (reply_tokens call place word text)
    ≡ codes "{\"do\":\"reply\",\"call\":" ++ (decimal call ++ place_text place (codes ",\"to\":\"" ++ ((escape word ++ 34 ∷ [])
    ++ (codes ",\"text\":\"" ++ ((escape text ++ 34 ∷ []) ++ codes "}")))))
unfolding print_from escape_byte
reply_line call None word text = refl
reply_line call (Some place) word text = refl

-- the numbers of a call and perhaps of a place
abbrev counted_with : Option Num → Option (Option Num) → (Data → Option Data → Members) → Option Data
counted_with call None members = option_map object (option_and_then (λ c. Some (members c None)) (option_map value.number call))
counted_with call (Some place) members = counted_both call place (λ c p. members c (Some p))

reply_read : (call : ℕ) (place : Option ℕ) (word text : List ℕ) → read_of (reply_tokens call place word text)
    ≡ counted_with (number_of (decimal call)) (option_map (λ p. number_of (decimal p)) place) (reply_members word text)
unfolding json.value json.items json.members
reply_read call None word text = refl
reply_read call (Some place) word text = refl

-- a place fits 64 bits
abbrev pub Fits : Option ℕ → Type 0
Fits None = ⊤
Fits (Some place) = place < 2 ^ 64

place_good : (place : Option ℕ) (rest : List Token) → Fits place → AreGood rest → AreGood (place_tokens place rest)
place_good None rest fits good = good
place_good (Some place) rest fits good = (refl, (good_number place fits, good))

reply_numbers : (call : ℕ) (place : Option ℕ) (members : Data → Option Data → Members) → call < 2 ^ 64 → Fits place
    → counted_with (number_of (decimal call)) (option_map (λ p. number_of (decimal p)) place) members
    ≡ Some (object (members (value.number (unsigned call)) (place_data place)))
reply_numbers call None members small fits = ap (λ n. counted_with n None members) (number_of-decimal call small)
reply_numbers call (Some place) members small fits =
    ap (λ n. counted_with n (Some (number_of (decimal place))) members) (number_of-decimal call small)
    ∙ ap (λ n. counted_with (Some (unsigned call)) (Some n) members) (number_of-decimal place fits)

pub reply_is : (line : List ℕ) (call : ℕ) (place : Option ℕ) (word text : List ℕ) → IsUtf8 word → IsUtf8 text → call < 2 ^ 64
    → Fits place → list_all is_plain word ≡ true → line ≡ reply_text call place word (escape text ++ codes "\"}")
    → json_of line ≡ Ok (reply_data call place word text)
unfolding reply_text
reply_is line call place word text first second small fits plain is =
    let front : List ℕ → List ℕ = λ l. codes "{\"do\":\"reply\",\"call\":" ++ (decimal call ++ place_text place (codes ",\"to\":\"" ++ l)) in
    let back : List ℕ → List ℕ = λ l. codes ",\"text\":\"" ++ l in
    plain_data line (reply_tokens call place word text) (reply_data call place word text)
    (is ∙ ap front (closed word (back (escape text ++ codes "\"}")) plain
    ∙ ap (λ l. (escape word ++ 34 ∷ []) ++ back l) (ended text (codes "}")))
    ∙ sym (reply_line call place word text)) (
      tt,
      (
        refl,
        (
          IsUtf8-are_ascii _ refl,
          (
            refl,
            (
              good_number call small,
              place_good place _ fits (refl, (first, (refl, (second, (tt, tt))))),
            ),
          ),
        ),
      ),
    )
    (reply_read call place word text ∙ reply_numbers call place (reply_members word text) small fits)

-- ---- a page that closes

abbrev closepage_tokens : ℕ → List Token
closepage_tokens page =
    begin_object ∷ key (codes "do") ∷ string (codes "closepage") ∷ key (codes "page") ∷ number (decimal page) ∷ end_object ∷ []

abbrev closepage_members : Data → Members
closepage_members page = put (codes "page") page (of_kind (codes "closepage"))

abbrev pub closepage_data : ℕ → Data
closepage_data page = object (closepage_members (value.number (unsigned page)))

closepage_read : (page : ℕ) → read_of (closepage_tokens page) ≡ counted (number_of (decimal page)) closepage_members
unfolding json.value json.items json.members
closepage_read page = refl

closepage_line : (page : ℕ) → closepage_text page ≡ print (closepage_tokens page)
unfolding print_from escape_byte closepage_text
closepage_line page = refl

pub closepage_is : (line : List ℕ) (page : ℕ) → page < 2 ^ 64 → line ≡ closepage_text page
    → json_of line ≡ Ok (closepage_data page)
closepage_is line page small is =
    plain_data line (closepage_tokens page) (closepage_data page) (is ∙ closepage_line page)
    (tt, (refl, (IsUtf8-are_ascii _ refl, (refl, (good_number page small, (tt, tt))))))
    (closepage_read page ∙ ap (λ n. counted n closepage_members) (number_of-decimal page small))

-- ---- a user who goes on

abbrev go_on_tokens : ℕ → List Token
go_on_tokens call =
    begin_object ∷ key (codes "do") ∷ string (codes "continue") ∷ key (codes "call") ∷ number (decimal call) ∷ end_object ∷ []

abbrev go_on_members : Data → Members
go_on_members call = put (codes "call") call (of_kind (codes "continue"))

abbrev pub go_on_data : ℕ → Data
go_on_data call = object (go_on_members (value.number (unsigned call)))

go_on_read : (call : ℕ) → read_of (go_on_tokens call) ≡ counted (number_of (decimal call)) go_on_members
unfolding json.value json.items json.members
go_on_read call = refl

go_on_line : (call : ℕ) → go_on_text call ≡ print (go_on_tokens call)
unfolding print_from escape_byte go_on_text
go_on_line call = refl

pub go_on_is : (line : List ℕ) (call : ℕ) → call < 2 ^ 64 → line ≡ go_on_text call
    → json_of line ≡ Ok (go_on_data call)
go_on_is line call small is =
    plain_data line (go_on_tokens call) (go_on_data call) (is ∙ go_on_line call)
    (tt, (refl, (IsUtf8-are_ascii _ refl, (refl, (good_number call small, (tt, tt))))))
    (go_on_read call ∙ ap (λ n. counted n go_on_members) (number_of-decimal call small))

-- ---- a disconnect call

abbrev disconnect_tokens : ℕ → ℕ → List ℕ → List ℕ → List ℕ → List Token
disconnect_tokens page call config client hint =
    begin_object ∷ key (codes "do") ∷ string (codes "disconnect") ∷ key (codes "page") ∷ number (decimal page) ∷ key (codes "call")
    ∷ number (decimal call) ∷ key (codes "config") ∷ string config ∷ key (codes "client") ∷ string client ∷ key (codes "hint")
    ∷ string hint ∷ end_object ∷ []

abbrev disconnect_members : List ℕ → List ℕ → List ℕ → Data → Data → Members
disconnect_members config client hint page call =
    put (codes "hint") (value.string hint) (put (codes "client") (value.string client) (put (codes "config") (value.string config)
    (put (codes "call") call (put (codes "page") page (of_kind (codes "disconnect"))))))

abbrev pub disconnect_data : ℕ → ℕ → List ℕ → List ℕ → List ℕ → Data
disconnect_data page call config client hint =
    object (disconnect_members config client hint (value.number (unsigned page)) (value.number (unsigned call)))

disconnect_read : (page call : ℕ) (config client hint : List ℕ) → read_of (disconnect_tokens page call config client hint)
    ≡ counted_both (number_of (decimal page)) (number_of (decimal call)) (disconnect_members config client hint)
unfolding json.value json.items json.members
disconnect_read page call config client hint = refl

disconnect_line : (page call : ℕ) (config client hint : List ℕ) → print (disconnect_tokens page call config client hint)
    ≡ codes "{\"do\":\"disconnect\",\"page\":" ++ (decimal page ++ (codes ",\"call\":" ++ (decimal call
    ++ (codes ",\"config\":\"" ++ ((escape config ++ 34 ∷ []) ++ (codes ",\"client\":\"" ++ ((escape client ++ 34 ∷ [])
    ++ (codes ",\"hint\":\"" ++ ((escape hint ++ 34 ∷ []) ++ codes "}")))))))))
unfolding print_from escape_byte
disconnect_line page call config client hint = refl

disconnect_written : (page call : ℕ) (config client hint : List ℕ) → list_all is_plain config ≡ true
    → list_all is_plain client ≡ true → list_all is_plain hint ≡ true
    → disconnect_text page call config client hint ≡ print (disconnect_tokens page call config client hint)
unfolding disconnect_text
disconnect_written page call config client hint one two three =
    let front : List ℕ → List ℕ = λ l. codes "{\"do\":\"disconnect\",\"page\":" ++ (decimal page ++ (codes ",\"call\":" ++ (decimal call
    ++ (codes ",\"config\":\"" ++ l)))) in
    let middle : List ℕ → List ℕ = λ l. codes ",\"client\":\"" ++ l in
    let back : List ℕ → List ℕ = λ l. codes ",\"hint\":\"" ++ l in
    let texts = back (hint ++ codes "\"}") in
    ap front (closed config (middle (client ++ 34 ∷ texts)) one
    ∙ ap (λ l. (escape config ++ 34 ∷ []) ++ middle l) (closed client texts two
    ∙ ap (λ l. (escape client ++ 34 ∷ []) ++ back l) (closed hint (codes "}") three)))
    ∙ sym (disconnect_line page call config client hint)

pub disconnect_is : (line : List ℕ) (page call : ℕ) (config client hint : List ℕ) → IsUtf8 config → IsUtf8 client → IsUtf8 hint
    → page < 2 ^ 64 → call < 2 ^ 64 → list_all is_plain config ≡ true → list_all is_plain client ≡ true
    → list_all is_plain hint ≡ true → line ≡ disconnect_text page call config client hint
    → json_of line ≡ Ok (disconnect_data page call config client hint)
disconnect_is line page call config client hint first second third small few one two three is =
    plain_data line (disconnect_tokens page call config client hint) (disconnect_data page call config client hint)
    (is ∙ disconnect_written page call config client hint one two three) (
      tt,
      (
        refl,
        (
          IsUtf8-are_ascii _ refl,
          (
            refl,
            (
              good_number page small,
              (
                refl,
                (
                  good_number call few,
                  (
                    refl,
                    (
                      first,
                      (
                        refl,
                        (second, (refl, (third, (tt, tt)))),
                      ),
                    ),
                  ),
                ),
              ),
            ),
          ),
        ),
      ),
    )
    (disconnect_read page call config client hint
    ∙ ap (λ p. counted_both p (number_of (decimal call)) (disconnect_members config client hint)) (number_of-decimal page small)
    ∙ ap (λ c. counted_both (Some (unsigned page)) c (disconnect_members config client hint)) (number_of-decimal call few))
