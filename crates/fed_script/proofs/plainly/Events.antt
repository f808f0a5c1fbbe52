-- The events that lines as JSON writers give them name.
use Rattle.std.proofs.Common.{◌≡◌, ◌<◌, ◌^◌, ◌++◌, ℕ, List, true, codes, Option}
use Rattle.std.proofs.Common.{Some, None, Ok, Result, cond, refl, ap, subst, ◌∙◌, arith}
use Rattle.std.proofs.lemmas.Bool.Decides.{nat_tests}
use Rattle.std.specs.List.{list_all}
use Rattle.std.specs.Prelude.{nat_lt, IfSome, unwrap_or}
use Rattle.std.specs.Str.{IsUtf8}
use Rattle.json.specs.Print.{escape}
use Rattle.serde_json.specs.Data.{Data}
use Rattle.fed_origin.specs.declared.stage.ReplyKind.{ReplyKind}
use Rattle.fed_origin.specs.Words.{kind_of_word}
use Rattle.fed_script.specs.declared.cause.LineCause.{LineCause}
use Rattle.fed_script.specs.declared.cause.LineCause.TheVariants.{Member}
use Rattle.fed_script.specs.declared.cause.MemberName.TheVariants as names
use Rattle.fed_script.specs.declared.event.Event.{Event}
use Rattle.fed_script.specs.declared.event.Event.TheVariants as events
use Rattle.fed_script.specs.Disconnect.{disconnect_by}
use Rattle.fed_script.specs.Line.{event_named, kind_of, event_of_kind}
use Rattle.fed_script.specs.Load.{load_by}
use Rattle.fed_script.specs.Member.{◌>>=◌, or_cause, some_of, small}
use Rattle.json.specs.Run.{is_plain}
use Rattle.fed_script.specs.Plain.{load_text, reply_text, closepage_text, go_on_text}
use Rattle.fed_script.specs.Plain.{disconnect_text}
use Rattle.fed_script.proofs.plainly.Tokens.{load_is, load_reply_is, reply_is, reply_data, Fits}
use Rattle.fed_script.proofs.plainly.Tokens.{closepage_is, go_on_is, disconnect_is}

pub is_small : (n : ℕ) → n < 2 ^ 32 → small n ≡ Some n
is_small n h = let below : nat_lt n (2 ^ 32) ≡ true = grind (arith, nat_tests, h) in ap (λ b. cond b (Some n) None) below

unfoldable pub named_by : Result Data LineCause → Result Event LineCause
named_by r = r >>= (λ d. kind_of d >>= (λ kind. event_of_kind kind d))

load_from : Option ℕ → List ℕ → Option (List ℕ) → Result Event LineCause
load_from page url raw = or_cause (Member names.Page) page >>= (λ p. load_by p url raw)

pub load_event : (line : List ℕ) (page : ℕ) (url rest : List ℕ) → line ≡ load_text page url rest → rest ≡ codes "\"}" → IsUtf8 url
    → page < 2 ^ 32 → list_all is_plain url ≡ true → event_named line ≡ load_by page url None
unfolding named_by load_from
load_event line page url rest is last utf8 h plain =
    ap named_by (load_is line page url utf8 (omega arith) plain (is ∙ ap (load_text page url) last))
    ∙ ap (λ p. load_from p url None) (is_small page h)

pub load_reply_event : (line : List ℕ) (page : ℕ) (url rest last text : List ℕ) → line ≡ load_text page url rest
    → rest ≡ codes "\",\"text\":\"" ++ last → last ≡ escape text ++ codes "\"}" → IsUtf8 url → IsUtf8 text → page < 2 ^ 32
    → list_all is_plain url ≡ true → event_named line ≡ load_by page url (Some text)
unfolding named_by load_from
load_reply_event line page url rest last text is goes_on ends first second h plain =
    ap named_by (load_reply_is line page url text first second (omega arith) plain
    (is ∙ ap (load_text page url) (goes_on ∙ ap (λ l. codes "\",\"text\":\"" ++ l) ends)))
    ∙ ap (λ p. load_from p url (Some text)) (is_small page h)

-- what is said of the text of a reply, where there is one
pub last_found : (rest : List ℕ) (found : Option (List ℕ)) (text : List ℕ) → found ≡ Some text
    → IfSome found (λ bytes. (rest ≡ escape bytes ++ codes "\"}") × IsUtf8 bytes) → (rest ≡ escape text ++ codes "\"}") × IsUtf8 text
last_found rest found text is h = subst (λ o. IfSome o (λ bytes. (rest ≡ escape bytes ++ codes "\"}") × IsUtf8 bytes)) is h

reply_from : Option ℕ → Result (Option ℕ) LineCause → Option ReplyKind → List ℕ → Result Event LineCause
reply_from call place kind text =
    or_cause (Member names.Call) call >>= (λ c. place >>= (λ p. or_cause (Member names.To) kind
    >>= (λ k. Ok (events.Reply c (unwrap_or p 0) k text))))

-- what is read of a place
place_from : Option ℕ → Result (Option ℕ) LineCause
place_from None = Ok None
place_from (Some place) = some_of (or_cause (Member names.Provider) (small place))

-- a place fits 32 bits
abbrev pub IsSmall : Option ℕ → Type 0
IsSmall place = IfSome place (λ n. n < 2 ^ 32)

is_small_place : (place : Option ℕ) → IsSmall place → place_from place ≡ Ok place
unfolding place_from
is_small_place None h = refl
is_small_place (Some place) h = ap (λ n. some_of (or_cause (Member names.Provider) n)) (is_small place h)

is_fit : (place : Option ℕ) → IsSmall place → Fits place
is_fit None h = tt
is_fit (Some place) h = omega arith

reply_named : (call : ℕ) (place : Option ℕ) (word text : List ℕ)
    → named_by (Ok (reply_data call place word text)) ≡ reply_from (small call) (place_from place) (kind_of_word word) text
unfolding named_by reply_from place_from
reply_named call None word text = refl
reply_named call (Some place) word text = refl

pub reply_event : (line : List ℕ) (call : ℕ) (place : Option ℕ) (word rest text : List ℕ) (kind : ReplyKind)
    → line ≡ reply_text call place word rest → rest ≡ escape text ++ codes "\"}" → kind_of_word word ≡ Some kind → IsUtf8 word → IsUtf8 text
    → call < 2 ^ 32 → IsSmall place → list_all is_plain word ≡ true
    → event_named line ≡ Ok (events.Reply call (unwrap_or place 0) kind text)
unfolding named_by reply_from
reply_event line call place word rest text kind is ends known first second h few plain =
    ap named_by (reply_is line call place word text first second (omega arith) (is_fit place few) plain
    (is ∙ ap (reply_text call place word) ends))
    ∙ reply_named call place word text
    ∙ ap (λ c. reply_from c (place_from place) (kind_of_word word) text) (is_small call h)
    ∙ ap (λ p. reply_from (Some call) p (kind_of_word word) text) (is_small_place place few)
    ∙ ap (λ k. reply_from (Some call) (Ok place) k text) known

closepage_from : Option ℕ → Result Event LineCause
closepage_from page = or_cause (Member names.Page) page >>= (λ p. Ok (events.ClosePage p))

pub closepage_event : (line : List ℕ) (page : ℕ) → page < 2 ^ 32 → line ≡ closepage_text page
    → event_named line ≡ Ok (events.ClosePage page)
unfolding named_by closepage_from
closepage_event line page h is =
    ap named_by (closepage_is line page (omega arith) is) ∙ ap closepage_from (is_small page h)

go_on_from : Option ℕ → Result Event LineCause
go_on_from call = or_cause (Member names.Call) call >>= (λ c. Ok (events.GoOn c))

pub go_on_event : (line : List ℕ) (call : ℕ) → call < 2 ^ 32 → line ≡ go_on_text call
    → event_named line ≡ Ok (events.GoOn call)
unfolding named_by go_on_from
go_on_event line call h is =
    ap named_by (go_on_is line call (omega arith) is) ∙ ap go_on_from (is_small call h)

disconnect_from : Option ℕ → Option ℕ → List ℕ → List ℕ → List ℕ → Result Event LineCause
disconnect_from page call config client hint =
    (or_cause (Member names.Page) page >>= (λ p. or_cause (Member names.Call) call
    >>= (λ c. Ok (record { page = p; call = c; config = config; client = client; hint = hint })))) >>= disconnect_by

pub disconnect_event : (line : List ℕ) (page call : ℕ) (config client hint : List ℕ) → IsUtf8 config → IsUtf8 client → IsUtf8 hint
    → page < 2 ^ 32 → call < 2 ^ 32 → list_all is_plain config ≡ true → list_all is_plain client ≡ true
    → list_all is_plain hint ≡ true → line ≡ disconnect_text page call config client hint
    → event_named line ≡ disconnect_by (record { page = page; call = call; config = config; client = client; hint = hint })
unfolding named_by disconnect_from
disconnect_event line page call config client hint first second third h k one two three is =
    ap named_by (disconnect_is line page call config client hint first second third (omega arith) (omega arith) one two three is)
    ∙ ap (λ p. disconnect_from p (small call) config client hint) (is_small page h)
    ∙ ap (λ c. disconnect_from (Some page) c config client hint) (is_small call k)
