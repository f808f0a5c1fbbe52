-- What is so of each event that a line names.
use Rattle.std.proofs.Common.{◌≡◌, ◌≤◌, ℕ, suc, Bool, true, false, cond, ◌&&◌, List, [], ◌∷◌, length, Option, Some, None, refl, ap, arith}
use Rattle.std.proofs.lemmas.Result.{IfOk-at_ok}
use Rattle.std.proofs.lemmas.Bool.Decides.{nat_tests}
use Rattle.std.specs.Prelude.{nat_le, option_and_then, Result, Ok, Err, IfOk, IfSome, bytes_eq, codes}
use Rattle.serde_json.specs.Data.{Data}
use Rattle.serde_json.specs.Find.{as_str, as_array}
use Rattle.fed_origin.specs.declared.status.LoginStatus.TheVariants.{LoggedIn, LoggedOut}
use Rattle.fed_origin.specs.Words.{kind_of_word, status_of_word}
use Rattle.fed_script.specs.declared.cause.LineCause.{LineCause}
use Rattle.fed_script.specs.declared.cause.MemberName.TheVariants as names
use Rattle.fed_script.specs.declared.event.Event.{Event}
use Rattle.fed_script.specs.Member.{◌>>=◌, each, or_cause, json_of, member_of, required, optional, as_word, as_whole, as_u32}
use Rattle.fed_script.specs.Member.{origin_of_text}
use Rattle.fed_script.specs.Member.{url_of}
use Rattle.fed_script.specs.Raw.{optional_bytes, required_bytes}
use Rattle.fed_script.specs.Status.{setstatus_of}
use Rattle.fed_script.specs.Have.{login_of, kept_of, silent_of, cookie_of, said, have_of}
use Rattle.fed_script.specs.Single.{at_of, closepage_of, abort_of, go_on_of, cancel_of, signin_of, shutwindow_of}
use Rattle.fed_script.specs.Single.{idpclose_of, prevent_of}
use Rattle.fed_script.specs.Load.{load_of}
use Rattle.fed_script.specs.Get.{entries_of, one_to_ten, as_entries, provider_members, get_members, provider_by, get_of}
use Rattle.fed_script.specs.Options.{option_members}
use Rattle.fed_script.specs.Reply.{reply_of}
use Rattle.fed_script.specs.Choose.{choose_of}
use Rattle.fed_script.specs.Disconnect.{disconnect_members, disconnect_of}
use Rattle.fed_script.specs.Line.{kind_of, event_of_kind, event_named}
use Rattle.fed_script.specs.Used.{IsKnown, SaysKnown, HasProviders, HasKnownStatus}

-- what is so of each answer of the next step, where this one's answer is so
after : {A B : Type 0} (Q : A → Type 0) (P : B → Type 0) (r : Result A LineCause) (f : A → Result B LineCause) → IfOk r Q
    → ((x : A) → Q x → IfOk (f x) P) → IfOk (r >>= f) P
after Q P (Ok x) f so each = each x so
after Q P (Err cause) f so each = tt

-- the same of any answer of this one
always : {A B : Type 0} (P : B → Type 0) (r : Result A LineCause) (f : A → Result B LineCause) → ((x : A) → IfOk (f x) P) → IfOk (r >>= f) P
always P (Ok x) f each = each x
always P (Err cause) f each = tt

-- what is so of an answer has it so too
mapped : {A : Type 0} (Q P : A → Type 0) (r : Result A LineCause) → IfOk r Q → ((x : A) → Q x → P x) → IfOk r P
mapped Q P (Ok x) so each = each x so
mapped Q P (Err cause) so each = tt

there : {A : Type 0} (P : A → Type 0) (cause : LineCause) (o : Option A) → IfSome o P → IfOk (or_cause cause o) P
there P cause None so = tt
there P cause (Some x) so = so

then : {A B : Type 0} (P : B → Type 0) (f : A → Option B) (o : Option A) → ((x : A) → IfSome (f x) P) → IfSome (option_and_then f o) P
then P f None each = tt
then P f (Some x) each = each x

one_of_two : (a b : Bool) → IfSome (cond a (Some LoggedIn) (cond b (Some LoggedOut) None)) IsKnown
one_of_two true b = λ e. cc
one_of_two false true = λ e. cc
one_of_two false false = tt

-- a status that a line names is known
known : (d : Data) → IfOk (required (as_word status_of_word) names.Status d) IsKnown
known d =
    there IsKnown _ _ (then IsKnown (as_word status_of_word) (member_of names.Status d)
    (λ value. then IsKnown status_of_word (as_str value) (λ word. one_of_two _ _)))

-- what `read_event` says of an event
abbrev Good : Event → Type 0
Good event = HasProviders event × HasKnownStatus event

login_known : (d : Data) → IfOk (login_of d) SaysKnown
login_known d =
    always SaysKnown (required as_str names.Origin d) _
    (λ text. after IsKnown SaysKnown (required (as_word status_of_word) names.Status d) _ (known d)
    (λ status so. always SaysKnown (origin_of_text text) _ (λ origin. so)))

cookie_known : (d : Data) → IfOk (cookie_of d) SaysKnown
cookie_known d =
    always SaysKnown (required as_str names.Url d) _
    (λ text. always SaysKnown (required_bytes d) _ (λ field. always SaysKnown (url_of text) _ (λ url. tt)))

kept_known : (d : Data) → IfOk (kept_of d) SaysKnown
kept_known d =
    always SaysKnown (required as_str names.Page d) _ (λ page. always SaysKnown (required as_str names.Provider d) _
    (λ provider. always SaysKnown (required as_str names.Account d) _ (λ account. always SaysKnown (origin_of_text page) _
    (λ page_origin. always SaysKnown (origin_of_text provider) _ (λ provider_origin. tt)))))

silent_known : (d : Data) → IfOk (silent_of d) SaysKnown
silent_known d = always SaysKnown (required as_str names.Origin d) _ (λ text. always SaysKnown (origin_of_text text) _ (λ origin. tt))

said_known : (d : Data) (cause : LineCause) (a b c e : Bool)
    → IfOk (cond a (login_of d) (cond b (kept_of d) (cond c (silent_of d) (cond e (cookie_of d) (Err cause))))) SaysKnown
said_known d cause true b c e = login_known d
said_known d cause false true c e = kept_known d
said_known d cause false false true e = silent_known d
said_known d cause false false false true = cookie_known d
said_known d cause false false false false = tt

have_good : (d : Data) → IfOk (have_of d) Good
have_good d =
    always Good (required as_str names.What d) _
    (λ what. after SaysKnown Good (said what d) _
    (said_known d _ (bytes_eq what (codes "login")) (bytes_eq what (codes "kept")) (bytes_eq what (codes "silent"))
    (bytes_eq what (codes "cookie"))) (λ have so. (tt, so)))

at_good : (d : Data) → IfOk (at_of d) Good
at_good d = always Good (required as_whole names.Time d) _ (λ time. (tt, tt))

closepage_good : (d : Data) → IfOk (closepage_of d) Good
closepage_good d = always Good (required as_u32 names.Page d) _ (λ page. (tt, tt))

abort_good : (d : Data) → IfOk (abort_of d) Good
abort_good d = always Good (required as_u32 names.Call d) _ (λ call. (tt, tt))

go_on_good : (d : Data) → IfOk (go_on_of d) Good
go_on_good d = always Good (required as_u32 names.Call d) _ (λ call. (tt, tt))

cancel_good : (d : Data) → IfOk (cancel_of d) Good
cancel_good d = always Good (required as_u32 names.Call d) _ (λ call. (tt, tt))

signin_good : (d : Data) → IfOk (signin_of d) Good
signin_good d = always Good (required as_u32 names.Call d) _ (λ call. (tt, tt))

shutwindow_good : (d : Data) → IfOk (shutwindow_of d) Good
shutwindow_good d = always Good (required as_u32 names.Call d) _ (λ call. (tt, tt))

idpclose_good : (d : Data) → IfOk (idpclose_of d) Good
idpclose_good d = always Good (required as_u32 names.Page d) _ (λ page. (tt, tt))

prevent_good : (d : Data) → IfOk (prevent_of d) Good
prevent_good d = always Good (required as_u32 names.Page d) _ (λ page. (tt, tt))

disconnect_good : (d : Data) → IfOk (disconnect_of d) Good
disconnect_good d = always Good (disconnect_members d) _ (λ members. always Good (url_of members.config) _ (λ config. (tt, tt)))

load_good : (d : Data) → IfOk (load_of d) Good
load_good d =
    always Good (required as_u32 names.Page d) _ (λ page. always Good (required as_str names.Url d) _
    (λ text. always Good (optional_bytes d) _ (λ raw. always Good (url_of text) _ (λ url. (tt, tt)))))

-- one to ten
abbrev Few : {A : Type 0} → List A → Type 0
Few xs = (1 ≤ length xs) × (length xs ≤ 10)

each_long : {A B : Type 0} (f : A → Result B LineCause) (xs : List A) → IfOk (each f xs) (λ ys. length ys ≡ length xs)
each_long f [] = refl
each_long f (x ∷ xs) =
    always (λ ys. length ys ≡ length (x ∷ xs)) (f x) _
    (λ first. after (λ ys. length ys ≡ length xs) (λ ys. length ys ≡ length (x ∷ xs)) (each f xs) _ (each_long f xs)
    (λ ys same. ap suc same))

each_few : {A B : Type 0} (f : A → Result B LineCause) (xs : List A) → Few xs → IfOk (each f xs) Few
each_few f xs few = mapped (λ ys. length ys ≡ length xs) Few (each f xs) (each_long f xs) (λ ys same. rw same few)

few_of : {A : Type 0} (xs : List A) (a b : Bool) → nat_le 1 (length xs) ≡ a → nat_le (length xs) 10 ≡ b
    → IfSome (cond (a && b) (Some xs) None) Few
few_of xs true true some few = (grind (arith, nat_tests, some), grind (arith, nat_tests, few))
few_of xs true false some few = tt
few_of xs false b some few = tt

entries_few : (d : Data) → IfOk (required as_entries names.Providers d) Few
entries_few d =
    there Few _ _ (then Few as_entries (member_of names.Providers d)
    (λ value. then Few one_to_ten (option_and_then entries_of (as_array value)) (λ entries. few_of entries _ _ refl refl)))

members_few : (d : Data) → IfOk (get_members d) (λ members. Few members.providers)
members_few d =
    always (λ members. Few members.providers) (required as_u32 names.Page d) _
    (λ page. always (λ members. Few members.providers) (required as_u32 names.Call d) _
    (λ call. always (λ members. Few members.providers) (option_members d) _
    (λ options. after Few (λ members. Few members.providers) (required as_entries names.Providers d) _ (entries_few d)
    (λ entries few. after Few (λ members. Few members.providers) (each provider_members entries) _ (each_few provider_members entries few)
    (λ providers so. so)))))

get_good : (d : Data) → IfOk (get_of d) Good
get_good d =
    after (λ members. Few members.providers) Good (get_members d) _ (members_few d)
    (λ members few. after Few Good (each provider_by members.providers) _ (each_few provider_by members.providers few)
    (λ providers so. (so, tt)))

reply_good : (d : Data) → IfOk (reply_of d) Good
reply_good d =
    always Good (required as_u32 names.Call d) _ (λ call. always Good (optional as_u32 names.Provider (member_of names.Provider d)) _
    (λ provider. always Good (required (as_word kind_of_word) names.To d) _
    (λ kind. always Good (required_bytes d) _ (λ raw. (tt, tt)))))

choose_good : (d : Data) → IfOk (choose_of d) Good
choose_good d =
    always Good (required as_u32 names.Call d) _ (λ call. always Good (optional as_u32 names.Provider (member_of names.Provider d)) _
    (λ provider. always Good (required as_str names.Account d) _ (λ account. (tt, tt))))

setstatus_good : (d : Data) → IfOk (setstatus_of d) Good
setstatus_good d =
    always Good (required as_u32 names.Page d) _
    (λ page. after IsKnown Good (required (as_word status_of_word) names.Status d) _ (known d) (λ status so. (tt, so)))

one_good : (d : Data) (cause : LineCause) (a b c e f g h i j k l m n o p q : Bool)
    → IfOk (cond a (have_of d) (cond b (at_of d) (cond c (load_of d) (cond e (closepage_of d) (cond f (get_of d)
    (cond g (abort_of d) (cond h (go_on_of d) (cond i (cancel_of d) (cond j (signin_of d) (cond k (shutwindow_of d)
    (cond l (reply_of d) (cond m (choose_of d) (cond n (idpclose_of d) (cond o (prevent_of d) (cond p (setstatus_of d)
    (cond q (disconnect_of d) (Err cause))))))))))))))))) Good
one_good d cause true b c e f g h i j k l m n o p q = have_good d
one_good d cause false true c e f g h i j k l m n o p q = at_good d
one_good d cause false false true e f g h i j k l m n o p q = load_good d
one_good d cause false false false true f g h i j k l m n o p q = closepage_good d
one_good d cause false false false false true g h i j k l m n o p q = get_good d
one_good d cause false false false false false true h i j k l m n o p q = abort_good d
one_good d cause false false false false false false true i j k l m n o p q = go_on_good d
one_good d cause false false false false false false false true j k l m n o p q = cancel_good d
one_good d cause false false false false false false false false true k l m n o p q = signin_good d
one_good d cause false false false false false false false false false true l m n o p q = shutwindow_good d
one_good d cause false false false false false false false false false false true m n o p q = reply_good d
one_good d cause false false false false false false false false false false false true n o p q = choose_good d
one_good d cause false false false false false false false false false false false false true o p q = idpclose_good d
one_good d cause false false false false false false false false false false false false false true p q = prevent_good d
one_good d cause false false false false false false false false false false false false false false true q = setstatus_good d
one_good d cause false false false false false false false false false false false false false false false true = disconnect_good d
one_good d cause false false false false false false false false false false false false false false false false = tt

kind_good : (kind : List ℕ) (d : Data) → IfOk (event_of_kind kind d) Good
kind_good kind d =
    one_good d _ (bytes_eq kind (codes "have")) (bytes_eq kind (codes "at")) (bytes_eq kind (codes "load"))
    (bytes_eq kind (codes "closepage")) (bytes_eq kind (codes "get")) (bytes_eq kind (codes "abort")) (bytes_eq kind (codes "continue"))
    (bytes_eq kind (codes "cancel")) (bytes_eq kind (codes "signin")) (bytes_eq kind (codes "shutwindow")) (bytes_eq kind (codes "reply"))
    (bytes_eq kind (codes "choose")) (bytes_eq kind (codes "idpclose")) (bytes_eq kind (codes "prevent"))
    (bytes_eq kind (codes "setstatus")) (bytes_eq kind (codes "disconnect"))

named_good : (line : List ℕ) → IfOk (event_named line) Good
named_good line = always Good (json_of line) _ (λ d. always Good (kind_of d) _ (λ kind. kind_good kind d))

-- an event that a line names has one to ten providers where it is a get, and no unknown status
pub named-good : (line : List ℕ) (event : Event) → event_named line ≡ Ok event → HasProviders event × HasKnownStatus event
named-good line event is = IfOk-at_ok Good is (named_good line)
