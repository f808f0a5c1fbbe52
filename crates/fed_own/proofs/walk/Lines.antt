-- What is read of the lines of a script is good.
use Rattle.std.proofs.Common.{◌≡◌, ℕ, suc, ◌+◌, ◌^◌, ◌≤◌, nat_lt, refl, sym, ap, lit<, Bool, true, false, cond, List, [], ◌∷◌, Option, Some}
use Rattle.std.proofs.Common.{None, subst}
use Rattle.std.specs.Prelude.{⊤, bytes_eq, codes, nat_le, option_and_then, unwrap_or, ◌&&◌, length, Result, Ok, Err}
use Rattle.std.specs.List.{AllByRecursion}
use Rattle.std.specs.Str.{IsUtf8}
use Rattle.std.proofs.lemmas.Bool.{cond_both, leb-true, ltb-true}
use Rattle.url.specs.Parts.{Parts}
use Rattle.serde_json.specs.Data.{Data, Items, array, boolean, item, no_items, null, number, object, string}
use Rattle.serde_json.specs.Find.{as_array, as_str, get}
use Rattle.fed_json.specs.Value.{value_of}
use Rattle.fed_origin.specs.declared.refusal.UrlRefusal.{UrlRefusal}
use Rattle.fed_origin.specs.WebUrl.{web_url}
use Rattle.fed_origin.specs.Words.{kind_of_word, status_of_word}
use Rattle.fed_script.specs.declared.cause.LineCause.{LineCause}
use Rattle.fed_script.specs.declared.cause.LineCause.TheVariants.{Member, NotJson}
use Rattle.fed_script.specs.declared.cause.MemberName.{MemberName}
use Rattle.fed_script.specs.declared.cause.MemberName.TheVariants as names
use Rattle.fed_script.specs.declared.event.Event.{Event}
use Rattle.fed_script.specs.declared.event.Event.TheVariants as events
use Rattle.fed_script.specs.declared.event.Header.{Header}
use Rattle.fed_script.specs.declared.event.Numbered.{Numbered}
use Rattle.fed_script.specs.Cause.{name_text}
use Rattle.fed_script.specs.Choose.{choose_of}
use Rattle.fed_script.specs.Disconnect.{DisconnectMembers, disconnect_members, disconnect_of}
use Rattle.fed_script.specs.Get.{GetMembers, ProviderMembers, as_entries, as_entry, entries_of, get_members, get_of, one_to_ten}
use Rattle.fed_script.specs.Get.{provider_by, provider_members}
use Rattle.fed_script.specs.declared.event.Have.{Have}
use Rattle.fed_script.specs.Have.{cookie_of, have_of, kept_of, login_of, said, silent_of}
use Rattle.fed_script.specs.Line.{allowed, event_named, event_of, event_of_kind, header_of, kind_of}
use Rattle.fed_script.specs.Load.{load_of}
use Rattle.fed_script.specs.Member.{◌>>=◌, as_u32, as_whole, as_word, each, good_url, json_of, member_of, optional, or_cause, required}
use Rattle.fed_script.specs.Member.{small, some_of}
use Rattle.fed_script.specs.Member.{origin_of_text, unless_null, url_of}
use Rattle.fed_script.specs.Options.{option_members}
use Rattle.fed_script.specs.Raw.{as_base64, base64_bytes, bytes_of, optional_bytes, required_bytes}
use Rattle.fed_script.specs.Reply.{reply_of}
use Rattle.fed_script.specs.Script.{Events, Script, Stop, after_line, ended_by, events_of, is_blank, lines_of, script_after, script_of}
use Rattle.fed_script.specs.Script.{script_of_lines}
use Rattle.fed_script.specs.Status.{setstatus_of}
use Rattle.fed_script.specs.Used.{UsedState, unused, used_after}
use Rattle.fed_own.proofs.json.Values.{HasTexts, IfSo, ItemsHaveTexts, as_text, member_texts}
use Rattle.fed_own.proofs.plain.Good.{GoodOptions}
use Rattle.fed_own.proofs.plain.Json.{value_texts}
use Rattle.fed_own.proofs.plain.Results.{IfOk, some_mapped, some_then}
use Rattle.fed_own.proofs.plain.Web.{IsWeb, read_web}
use Rattle.fed_own.proofs.walk.Does.{IsSmall}
use Rattle.fed_own.proofs.plain.Base64.{base64_is_bytes}
use Rattle.fed_own.proofs.plain.Lists.{AreBytes, text_bytes}
use Rattle.fed_own.proofs.walk.Rest.{GoodEvent, GoodHave}

then_good : {A B : Type 0} (P : A → Type 0) (Q : B → Type 0) (r : Result A LineCause) (f : A → Result B LineCause) → IfOk P r
    → ((a : A) → P a → IfOk Q (f a)) → IfOk Q (r >>= f)
then_good P Q (Ok a) f h g = g a h
then_good P Q (Err cause) f h g = tt

any : {A : Type 0} (r : Result A LineCause) → IfOk (λ a. ⊤) r
any (Ok a) = tt
any (Err cause) = tt

-- whatever is read first
next : {A B : Type 0} (Q : B → Type 0) (r : Result A LineCause) (f : A → Result B LineCause) → ((a : A) → IfOk Q (f a)) → IfOk Q (r >>= f)
next Q r f g = then_good (λ a. ⊤) Q r f (any r) (λ a h. g a)

or_good : {A : Type 0} (P : A → Type 0) (cause : LineCause) (o : Option A) → IfSo P o → IfOk P (or_cause cause o)
or_good P cause None h = tt
or_good P cause (Some a) h = h

some_good : {A : Type 0} (P : A → Type 0) (r : Result A LineCause) → IfOk P r → IfOk (IfSo P) (some_of r)
some_good P (Ok a) h = h
some_good P (Err cause) h = tt

-- ---- members

there : (o : Option Data) → IfSo HasTexts o → IfSo HasTexts (unless_null o)
there None h = tt
there (Some null) h = tt
there (Some (boolean b)) h = h
there (Some (number n)) h = h
there (Some (string s)) h = h
there (Some (array ds)) h = h
there (Some (object ms)) h = h

found : (k : List ℕ) (d : Data) → HasTexts d → IfSo HasTexts (get k d)
found k null h = tt
found k (boolean b) h = tt
found k (number n) h = tt
found k (string s) h = tt
found k (array ds) h = tt
found k (object ms) h = member_texts k ms h

member_good : (name : MemberName) (d : Data) → HasTexts d → IfSo HasTexts (member_of name d)
member_good name d h = there (get (name_text name) d) (found (name_text name) d h)

text_good : (name : MemberName) (d : Data) → HasTexts d → IfOk IsUtf8 (required as_str name d)
text_good name d h =
    or_good IsUtf8 (Member name) (option_and_then as_str (member_of name d))
    (some_then HasTexts IsUtf8 as_str (member_of name d) (member_good name d h) as_text)

optional_good : (name : MemberName) (o : Option Data) → IfSo HasTexts o → IfOk (IfSo IsUtf8) (optional as_str name o)
optional_good name None h = tt
optional_good name (Some d) h =
    some_good IsUtf8 (or_cause (Member name) (as_str d)) (or_good IsUtf8 (Member name) (as_str d) (as_text d h))

optional_text : (name : MemberName) (d : Data) → HasTexts d → IfOk (IfSo IsUtf8) (optional as_str name (member_of name d))
optional_text name d h = optional_good name (member_of name d) (member_good name d h)

url_good : (text : List ℕ) → IsUtf8 text → IfOk IsWeb (url_of text)
url_good text u = go (web_url text) (read_web text u)
  where
    go : (r : Result Parts UrlRefusal) → IfOk IsWeb r → IfOk IsWeb (good_url r)
    go (Ok url) web = web
    go (Err refusal) web = tt

-- ---- a get

record GoodMembers (m : ProviderMembers) : Type 0 where
  config : IsUtf8 m.config
  client : IsUtf8 m.client
  nonce : IfSo IsUtf8 m.nonce
  params : IfSo IsUtf8 m.params

record GoodEntries (entries : List Data) : Type 0 where
  all : AllByRecursion HasTexts entries
  few : length entries ≤ 10

record GoodAsked (m : GetMembers) : Type 0 where
  page : IsSmall m.page
  call : IsSmall m.call
  all : AllByRecursion GoodMembers m.providers
  few : length m.providers ≤ 10

-- ---- numbers

small_good : (n : ℕ) → IfSo IsSmall (small n)
small_good n = go (nat_lt n (2 ^ 32)) refl
  where
    go : (b : Bool) → nat_lt n (2 ^ 32) ≡ b → IfSo IsSmall (cond b (Some n) None)
    go true is = ltb-true n (2 ^ 32) is
    go false is = tt

u32_good : (d : Data) → IfSo IsSmall (as_u32 d)
u32_good d = some_then (λ n. ⊤) IsSmall small (as_whole d) (always (as_whole d)) (λ n h. small_good n)
  where
    always : (o : Option ℕ) → IfSo (λ n. ⊤) o
    always None = tt
    always (Some n) = tt

named_good : (o : Option Data) → IfSo IsSmall (option_and_then as_u32 o)
named_good None = tt
named_good (Some d) = u32_good d

number_good : (name : MemberName) (d : Data) → IfOk IsSmall (required as_u32 name d)
number_good name d = or_good IsSmall (Member name) (option_and_then as_u32 (member_of name d)) (named_good (member_of name d))

given_number : (name : MemberName) (o : Option Data) → IfOk (IfSo IsSmall) (optional as_u32 name o)
given_number name None = tt
given_number name (Some d) = some_good IsSmall (or_cause (Member name) (as_u32 d)) (or_good IsSmall (Member name) (as_u32 d) (u32_good d))

or_zero : (o : Option ℕ) → IfSo IsSmall o → IsSmall (unwrap_or o 0)
or_zero None h = lit< tt
or_zero (Some n) h = h

entry_good : (d : Data) → HasTexts d → IfSo HasTexts (as_entry d)
entry_good null h = tt
entry_good (boolean b) h = tt
entry_good (number n) h = tt
entry_good (string s) h = tt
entry_good (array ds) h = tt
entry_good (object ms) h = h

entries_good : (ds : Items) → ItemsHaveTexts ds → IfSo (AllByRecursion HasTexts) (entries_of ds)
entries_good no_items h = tt
entries_good (item d ds) h =
    some_then HasTexts (AllByRecursion HasTexts) _ (as_entry d) (entry_good d h.0)
    (λ entry e. some_mapped (AllByRecursion HasTexts) (AllByRecursion HasTexts) _ (entries_of ds) (entries_good ds h.1)
    (λ further f. (e, f)))

few_good : (entries : List Data) → AllByRecursion HasTexts entries → IfSo GoodEntries (one_to_ten entries)
few_good entries h = go (nat_le 1 (length entries)) (nat_le (length entries) 10) refl
  where
    go : (a b : Bool) → nat_le (length entries) 10 ≡ b → IfSo GoodEntries (cond (a && b) (Some entries) None)
    go false b is = tt
    go true false is = tt
    go true true is = record { all = h; few = leb-true (length entries) 10 is }

list_good : (d : Data) → HasTexts d → IfSo ItemsHaveTexts (as_array d)
list_good null h = tt
list_good (boolean b) h = tt
list_good (number n) h = tt
list_good (string s) h = tt
list_good (array ds) h = h
list_good (object ms) h = tt

all_entries : (d : Data) → HasTexts d → IfSo GoodEntries (as_entries d)
all_entries d h =
    some_then (AllByRecursion HasTexts) GoodEntries one_to_ten _
    (some_then ItemsHaveTexts (AllByRecursion HasTexts) entries_of (as_array d) (list_good d h) entries_good) few_good

required_entries : (d : Data) → HasTexts d → IfOk GoodEntries (required as_entries names.Providers d)
required_entries d h =
    or_good GoodEntries (Member names.Providers) (option_and_then as_entries (member_of names.Providers d))
    (some_then HasTexts GoodEntries as_entries (member_of names.Providers d) (member_good names.Providers d h) all_entries)

provider_good : (d : Data) → HasTexts d → IfOk GoodMembers (provider_members d)
provider_good d h =
    then_good IsUtf8 GoodMembers (required as_str names.Config d) _ (text_good names.Config d h)
    (λ config a. then_good IsUtf8 GoodMembers (required as_str names.Client d) _ (text_good names.Client d h)
    (λ client b. then_good (IfSo IsUtf8) GoodMembers (optional as_str names.Nonce (member_of names.Nonce d)) _
    (optional_text names.Nonce d h)
    (λ nonce c. next GoodMembers (optional as_str names.LoginHint (member_of names.LoginHint d)) _
    (λ login. next GoodMembers (optional as_str names.DomainHint (member_of names.DomainHint d)) _
    (λ domain. then_good (IfSo IsUtf8) GoodMembers (optional as_str names.Params (member_of names.Params d)) _
    (optional_text names.Params d h) (λ params e. record { config = a; client = b; nonce = c; params = e }))))))

each_good : {A B : Type 0} (P : A → Type 0) (Q : B → Type 0) (f : A → Result B LineCause) → ((a : A) → P a → IfOk Q (f a)) → (xs : List A)
    → AllByRecursion P xs → IfOk (AllByRecursion Q) (each f xs)
each_good P Q f g [] h = tt
each_good P Q f g (x ∷ xs) h =
    then_good Q (AllByRecursion Q) (f x) _ (g x h.0)
    (λ first a. then_good (AllByRecursion Q) (AllByRecursion Q) (each f xs) _ (each_good P Q f g xs h.1) (λ further b. (a, b)))

-- and as many as there were
each_many : {A B : Type 0} (P : A → Type 0) (Q : B → Type 0) (f : A → Result B LineCause) → ((a : A) → P a → IfOk Q (f a)) → (xs : List A)
    → AllByRecursion P xs → IfOk (λ ys. AllByRecursion Q ys × (length ys ≡ length xs)) (each f xs)
each_many P Q f g [] h = (tt, refl)
each_many P Q f g (x ∷ xs) h =
    then_good Q _ (f x) _ (g x h.0)
    (λ first a. then_good _ _ (each f xs) _ (each_many P Q f g xs h.1) (λ further b. ((a, b.0), ap suc b.1)))

members_good : (d : Data) → HasTexts d → IfOk GoodAsked (get_members d)
members_good d h =
    then_good IsSmall GoodAsked (required as_u32 names.Page d) _ (number_good names.Page d)
    (λ page p. then_good IsSmall GoodAsked (required as_u32 names.Call d) _ (number_good names.Call d)
    (λ call c. next GoodAsked (option_members d) _
    (λ options. then_good GoodEntries GoodAsked (required as_entries names.Providers d) _ (required_entries d h)
    (λ entries e. then_good (λ ys. AllByRecursion GoodMembers ys × (length ys ≡ length entries)) GoodAsked (each provider_members entries) _
    (each_many HasTexts GoodMembers provider_members provider_good entries e.all)
    (λ providers q. record { page = p; call = c; all = q.0; few = subst (λ n. n ≤ 10) (sym q.1) e.few })))))

by_good : (m : ProviderMembers) → GoodMembers m → IfOk GoodOptions (provider_by m)
by_good m g =
    then_good IsWeb GoodOptions (url_of m.config) _ (url_good m.config g.config)
    (λ config web. record { config = web; client = g.client; nonce = g.nonce; params = g.params })

get_good : (d : Data) → HasTexts d → IfOk GoodEvent (get_of d)
get_good d h =
    then_good GoodAsked GoodEvent (get_members d) _ (members_good d h)
    (λ m g. then_good (λ ys. AllByRecursion GoodOptions ys × (length ys ≡ length m.providers)) GoodEvent (each provider_by m.providers) _
    (each_many GoodMembers GoodOptions provider_by by_good m.providers g.all)
    (λ providers q. (g.page, g.call, record { all = q.0; few = subst (λ n. n ≤ 10) (sym q.1) g.few })))

-- ---- a disconnect, and a load

record GoodDisconnect (m : DisconnectMembers) : Type 0 where
  page : IsSmall m.page
  call : IsSmall m.call
  config : IsUtf8 m.config

disconnect_good : (d : Data) → HasTexts d → IfOk GoodEvent (disconnect_of d)
disconnect_good d h =
    then_good GoodDisconnect GoodEvent (disconnect_members d) _
    (then_good IsSmall GoodDisconnect (required as_u32 names.Page d) _ (number_good names.Page d)
    (λ page p. then_good IsSmall GoodDisconnect (required as_u32 names.Call d) _ (number_good names.Call d)
    (λ call c. then_good IsUtf8 GoodDisconnect (required as_str names.Config d) _ (text_good names.Config d h)
    (λ config u. next GoodDisconnect (required as_str names.Client d) _
    (λ client. next GoodDisconnect (required as_str names.Hint d) _ (λ hint. record { page = p; call = c; config = u }))))))
    (λ m g. then_good IsWeb GoodEvent (url_of m.config) _ (url_good m.config g.config) (λ config web. (g.page, g.call, web)))

-- ---- bytes

raw_good : (d : Data) → HasTexts d → IfSo AreBytes (as_base64 d)
raw_good d h = some_then IsUtf8 AreBytes base64_bytes (as_str d) (as_text d h) (λ text u. base64_is_bytes text (text_bytes text u))

plain_good : (d : Data) → HasTexts d → IfSo AreBytes (as_str d)
plain_good d h = go (as_str d) (as_text d h)
  where
    go : (o : Option (List ℕ)) → IfSo IsUtf8 o → IfSo AreBytes o
    go None u = tt
    go (Some text) u = text_bytes text u

either_good : (text raw : Option Data) → IfSo HasTexts text → IfSo HasTexts raw → IfOk (IfSo AreBytes) (bytes_of text raw)
either_good None None a b = tt
either_good (Some text) None a b =
    some_good AreBytes (or_cause (Member names.Text) (as_str text)) (or_good AreBytes (Member names.Text) (as_str text) (plain_good text a))
either_good None (Some raw) a b =
    some_good AreBytes (or_cause (Member names.Raw) (as_base64 raw)) (or_good AreBytes (Member names.Raw) (as_base64 raw) (raw_good raw b))
either_good (Some text) (Some raw) a b = tt

bytes_good : (d : Data) → HasTexts d → IfOk (IfSo AreBytes) (optional_bytes d)
bytes_good d h = either_good (member_of names.Text d) (member_of names.Raw d) (member_good names.Text d h) (member_good names.Raw d h)

must_good : (d : Data) → HasTexts d → IfOk AreBytes (required_bytes d)
must_good d h =
    then_good (IfSo AreBytes) AreBytes (optional_bytes d) _ (bytes_good d h) (λ o b. or_good AreBytes (Member names.Text) o b)

load_good : (d : Data) → HasTexts d → IfOk GoodEvent (load_of d)
load_good d h =
    next GoodEvent (required as_u32 names.Page d) _
    (λ page. then_good IsUtf8 GoodEvent (required as_str names.Url d) _ (text_good names.Url d h)
    (λ text u. then_good (IfSo AreBytes) GoodEvent (optional_bytes d) _ (bytes_good d h)
    (λ raw b. then_good IsWeb GoodEvent (url_of text) _ (url_good text u) (λ url web. (web, b)))))

-- ---- other lines

one_good : {A : Type 0} (r : Result A LineCause) (f : A → Event) → ((a : A) → GoodEvent (f a)) → IfOk GoodEvent (r >>= (λ a. Ok (f a)))
one_good r f g = next GoodEvent r (λ a. Ok (f a)) g

abbrev SaysGood : Result Have LineCause → Type 0
SaysGood = IfOk GoodHave

login_good : (d : Data) → SaysGood (login_of d)
login_good d =
    next GoodHave (required as_str names.Origin d) _
    (λ text. next GoodHave (required (as_word status_of_word) names.Status d) _
    (λ status. next GoodHave (origin_of_text text) _ (λ origin. tt)))

kept_good : (d : Data) → SaysGood (kept_of d)
kept_good d =
    next GoodHave (required as_str names.Page d) _
    (λ page. next GoodHave (required as_str names.Provider d) _
    (λ provider. next GoodHave (required as_str names.Account d) _
    (λ account. next GoodHave (origin_of_text page) _ (λ p. next GoodHave (origin_of_text provider) _ (λ q. tt)))))

silent_good : (d : Data) → SaysGood (silent_of d)
silent_good d = next GoodHave (required as_str names.Origin d) _ (λ text. next GoodHave (origin_of_text text) _ (λ origin. tt))

cookie_good : (d : Data) → HasTexts d → SaysGood (cookie_of d)
cookie_good d h =
    next GoodHave (required as_str names.Url d) _
    (λ text. then_good AreBytes GoodHave (required_bytes d) _ (must_good d h)
    (λ field b. next GoodHave (url_of text) _ (λ url. b)))

said_good : (what : List ℕ) (d : Data) → HasTexts d → SaysGood (said what d)
said_good what d h =
    cond_both (bytes_eq what (codes "login")) _ _ SaysGood (λ t. login_good d)
    (λ f. cond_both (bytes_eq what (codes "kept")) _ _ SaysGood (λ t. kept_good d)
    (λ f. cond_both (bytes_eq what (codes "silent")) _ _ SaysGood (λ t. silent_good d)
    (λ f. cond_both (bytes_eq what (codes "cookie")) _ _ SaysGood (λ t. cookie_good d h) (λ f. tt))))

have_good : (d : Data) → HasTexts d → IfOk GoodEvent (have_of d)
have_good d h =
    next GoodEvent (required as_str names.What d) _
    (λ what. then_good GoodHave GoodEvent (said what d) _ (said_good what d h) (λ have g. g))

reply_good : (d : Data) → IfOk GoodEvent (reply_of d)
reply_good d =
    next GoodEvent (required as_u32 names.Call d) _
    (λ call. then_good (IfSo IsSmall) GoodEvent (optional as_u32 names.Provider (member_of names.Provider d)) _
    (given_number names.Provider (member_of names.Provider d))
    (λ provider p. next GoodEvent (required (as_word kind_of_word) names.To d) _
    (λ kind. next GoodEvent (required_bytes d) _ (λ raw. or_zero provider p))))

choose_good : (d : Data) → IfOk GoodEvent (choose_of d)
choose_good d =
    next GoodEvent (required as_u32 names.Call d) _
    (λ call. next GoodEvent (optional as_u32 names.Provider (member_of names.Provider d)) _
    (λ provider. next GoodEvent (required as_str names.Account d) _ (λ account. tt)))

status_good : (d : Data) → IfOk GoodEvent (setstatus_of d)
status_good d = next GoodEvent (required as_u32 names.Page d) _
    (λ page. next GoodEvent (required (as_word status_of_word) names.Status d) _ (λ status. tt))

abbrev Fine : Result Event LineCause → Type 0
Fine = IfOk GoodEvent

kind_good : (kind : List ℕ) (d : Data) → HasTexts d → Fine (event_of_kind kind d)
kind_good kind d h =
    cond_both (bytes_eq kind (codes "have")) _ _ Fine (λ t. have_good d h)
    (λ f. cond_both (bytes_eq kind (codes "at")) _ _ Fine (λ t. one_good (required as_whole names.Time d) events.At (λ a. tt))
    (λ f. cond_both (bytes_eq kind (codes "load")) _ _ Fine (λ t. load_good d h)
    (λ f. cond_both (bytes_eq kind (codes "closepage")) _ _ Fine (λ t. one_good (required as_u32 names.Page d) events.ClosePage (λ a. tt))
    (λ f. cond_both (bytes_eq kind (codes "get")) _ _ Fine (λ t. get_good d h)
    (λ f. cond_both (bytes_eq kind (codes "abort")) _ _ Fine (λ t. one_good (required as_u32 names.Call d) events.Abort (λ a. tt))
    (λ f. cond_both (bytes_eq kind (codes "continue")) _ _ Fine (λ t. one_good (required as_u32 names.Call d) events.GoOn (λ a. tt))
    (λ f. cond_both (bytes_eq kind (codes "cancel")) _ _ Fine (λ t. one_good (required as_u32 names.Call d) events.Cancel (λ a. tt))
    (λ f. cond_both (bytes_eq kind (codes "signin")) _ _ Fine (λ t. one_good (required as_u32 names.Call d) events.SignIn (λ a. tt))
    (λ f. cond_both (bytes_eq kind (codes "shutwindow")) _ _ Fine
    (λ t. one_good (required as_u32 names.Call d) events.ShutWindow (λ a. tt))
    (λ f. cond_both (bytes_eq kind (codes "reply")) _ _ Fine (λ t. reply_good d)
    (λ f. cond_both (bytes_eq kind (codes "choose")) _ _ Fine (λ t. choose_good d)
    (λ f. cond_both (bytes_eq kind (codes "idpclose")) _ _ Fine (λ t. one_good (required as_u32 names.Page d) events.IdpClose (λ a. tt))
    (λ f. cond_both (bytes_eq kind (codes "prevent")) _ _ Fine (λ t. one_good (required as_u32 names.Page d) events.Prevent (λ a. tt))
    (λ f. cond_both (bytes_eq kind (codes "setstatus")) _ _ Fine (λ t. status_good d)
    (λ f. cond_both (bytes_eq kind (codes "disconnect")) _ _ Fine (λ t. disconnect_good d h) (λ f. tt))))))))))))))))

line_good : (line : List ℕ) (used : UsedState) → Fine (event_of line used)
line_good line used =
    then_good GoodEvent GoodEvent (event_named line) _
    (then_good HasTexts GoodEvent (json_of line) _ (or_good HasTexts NotJson (value_of line) (value_texts line))
    (λ d h. next GoodEvent (kind_of d) _ (λ kind. kind_good kind d h)))
    (λ event g. next GoodEvent (allowed used event) _ (λ done. g))

-- ---- the script

abbrev AllGood : List Numbered → Type 0
AllGood = AllByRecursion (λ n. GoodEvent n.event)

events_good : (used : UsedState) (n : ℕ) (lines : List (List ℕ)) → AllGood (events_of used n lines).good
events_good used n [] = tt
events_good used n (line ∷ lines) =
    cond_both (is_blank line) _ _ (λ (e : Events). AllGood e.good) (λ t. events_good used (n + 1) lines)
    (λ f. go (event_of line used) (line_good line used) (λ after. events_good after (n + 1) lines))
  where
    go : (r : Result Event LineCause) → Fine r → ((after : UsedState) → AllGood (events_of after (n + 1) lines).good)
        → AllGood (after_line n used r (λ after. events_of after (n + 1) lines)).good
    go (Ok event) g more = (g, more (used_after event used))
    go (Err cause) g more = tt

abbrev GoodScript : Script → Type 0
GoodScript script = AllGood script.events

read_good : (bytes : List ℕ) → IfOk {E = Stop} GoodScript (script_of bytes)
read_good bytes = whole (lines_of bytes)
  where
    ended : (header : Header) (events : List Numbered) (bad : Option (ℕ × LineCause)) → AllGood events
        → IfOk {E = Stop} GoodScript (ended_by header events bad)
    ended header events None g = g
    ended header events (Some bad) g = tt

    after : (r : Result Header LineCause) (lines : List (List ℕ)) → IfOk {E = Stop} GoodScript (script_after r lines)
    after (Err cause) lines = tt
    after (Ok header) lines =
        ended header (events_of (unused header.now) 2 lines).good (events_of (unused header.now) 2 lines).bad
        (events_good (unused header.now) 2 lines)

    whole : (lines : List (List ℕ)) → IfOk {E = Stop} GoodScript (script_of_lines lines)
    whole [] = tt
    whole (line ∷ lines) = after (header_of line) lines

-- each event of a readable script is good
pub script_good : (bytes : List ℕ) (script : Script) → script_of bytes ≡ Ok script → AllByRecursion (λ n. GoodEvent n.event) script.events
script_good bytes script read = subst (IfOk {E = Stop} GoodScript) read (read_good bytes)
