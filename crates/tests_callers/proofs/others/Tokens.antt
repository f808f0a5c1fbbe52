-- Two replies differ in a token: a page that may read one may read the other.
use Rattle.std.proofs.Common.{◌≡◌, ℕ, Bool, true, false, ◌&&◌, List, [], ◌∷◌, ◌++◌, Some, codes, refl, map, IsUtf8}
use Rattle.std.proofs.lemmas.Str.{is_utf8-from_IsUtf8}
use Rattle.std.specs.Prelude.{Result, Ok, Err, bytes_eq, if◌then◌else◌}
use Rattle.httparse.specs.Grammar.{is_token_byte, trim_ows}
use Rattle.json.specs.Json.{value, items, members}
use Rattle.json.specs.Lex.{lex, punctuate}
use Rattle.json.specs.Text.{content}
use Rattle.json.specs.Word.{word}
use Rattle.json.proofs.Printed.Utf8.{IsUtf8-are_ascii}
use Rattle.serde_json.specs.Data.{Data, string, object, member, no_members}
use Rattle.serde_json.specs.Read.{read}
use Rattle.fed_json.specs.Value.{value_of}
use Rattle.fed_head.specs.Head.{HeadParts, head_of, first_line, status_of}
use Rattle.fed_head.specs.Section.{FieldPair, name_and_trimmed, without_cr, name_split, field_of, section_from}
use Rattle.fed_reply.specs.declared.framing.Framing.TheVariants.{ToTheEnd}
use Rattle.fed_reply.specs.Body.{framing_of}
use Rattle.fed_reply.specs.Fields.{fields_of, is_taken_field}
use Rattle.fed_reply.specs.Json.{JsonOf, without_mark, is_json_media}
use Rattle.fed_reply.specs.Reply.{FrontOf, ReplyOf, taken_head, reply_with}
use Rattle.fed_reply.specs.Steps.{◌>>=◌, with_step}
use Rattle.fed_token.specs.declared.step.TokenStep.{TokenStep}
use Rattle.fed_token.specs.declared.step.TokenStep.TheVariants.{Cors, Reply}
use Rattle.fed_token.specs.Cors.{CorsPasses}
use Rattle.fed_token.specs.Read.{AssertionOf, CheckedJsonOf, token_of}
use Rattle.fed_twin.specs.Tokens.{AreTokens}
use Rattle.tests_callers.specs.Others.{reply_head, first_reply, second_reply, AreTokenTwins, TokensDiffer}

-- ---- the head

abbrev fields : List FieldPair
fields =
    (codes "Content-Type", codes " application/json")
    ∷ (codes "Access-Control-Allow-Origin", codes " https://rp.example")
    ∷ (codes "Access-Control-Allow-Credentials", codes " true") ∷ []

abbrev head : List ℕ → HeadParts
head body = record { status = 200; fields = fields; rest = body }

head_read : (body : List ℕ) → head_of (reply_head ++ body) ≡ Some (head body)
unfolding head_of first_line status_of without_cr name_split field_of section_from is_token_byte
head_read body = refl

head_taken : (body : List ℕ) → taken_head (Some (head body)) ≡ Ok (head body)
unfolding is_taken_field trim_ows
head_taken body = refl

front : (body : List ℕ) → FrontOf (reply_head ++ body) ≡ Ok (head body)
unfolding FrontOf
front body = rw (head_read body) (head_taken body)

to_the_end : framing_of (fields_of (map name_and_trimmed fields)) ≡ Ok ToTheEnd
unfolding framing_of trim_ows
to_the_end = refl

reply_read : (body : List ℕ) → ReplyOf (reply_head ++ body) ≡ Ok (reply_with (head body) body)
unfolding ReplyOf
reply_read body = rw (front body, to_the_end) refl

-- a page of this origin may read the reply
may_read : List ℕ → Bool
may_read origin = bytes_eq (codes "https://rp.example") origin && true

passes : (origin body : List ℕ) → CorsPasses origin (reply_with (head body) body) ≡ may_read origin
unfolding CorsPasses trim_ows may_read
passes origin body = refl

-- ---- the body

abbrev token_data : List ℕ → Data
token_data token = object (member (codes "token") (string token) no_members)

body_read : (body : List ℕ) (d : Data) → value_of (without_mark body) ≡ Some d → JsonOf (reply_with (head body) body) ≡ Ok d
unfolding JsonOf trim_ows is_json_media is_token_byte
body_read body d is = rw is refl

value_read : (bytes : List ℕ) (d : Data) → read bytes ≡ Some d → IsUtf8 bytes → value_of bytes ≡ Some d
value_read bytes d is utf8 = rw (is_utf8-from_IsUtf8 bytes utf8) is

first_value : value_of (codes "{\"token\":\"T1\"}") ≡ Some (token_data (codes "T1"))
unfolding lex punctuate content word value items members
first_value = value_read _ _ refl (IsUtf8-are_ascii _ refl)

second_value : value_of (codes "{\"token\":\"T2\"}") ≡ Some (token_data (codes "T2"))
unfolding lex punctuate content word value items members
second_value = value_read _ _ refl (IsUtf8-are_ascii _ refl)

-- ---- what is read

-- the token where the page may read the reply
read_by : Bool → List ℕ → Result (List ℕ) TokenStep
read_by allowed token = if allowed then Ok token else Err Cors

token_read : (body token origin : List ℕ) → value_of (without_mark body) ≡ Some (token_data token)
    → AssertionOf (reply_head ++ body) origin ≡ read_by (may_read origin) token
unfolding AssertionOf CheckedJsonOf read_by
token_read body token origin is = rw (reply_read body, passes origin body) (go (may_read origin))
  where
    go : (allowed : Bool)
        → (((if allowed then Ok (reply_with (head body) body) else Err Cors) >>= (λ checked. with_step Reply (JsonOf checked)))
        >>= token_of) ≡ read_by allowed token
    go true = rw (body_read body (token_data token) is) refl
    go false = refl

both_read : (allowed : Bool) (token token' : List ℕ) → AreTokens (read_by allowed token) (read_by allowed token')
unfolding read_by
both_read true token token' = tt
both_read false token token' = refl

reads : (origin : List ℕ) → AreTokens (AssertionOf first_reply origin) (AssertionOf second_reply origin)
reads origin = rw (token_read _ _ origin first_value, token_read _ _ origin second_value) (both_read (may_read origin) _ _)

pub tokens_differ : TokensDiffer
unfolding may_read read_by
tokens_differ = (token_read _ _ _ first_value, token_read _ _ _ second_value)

pub are_token_twins : AreTokenTwins
are_token_twins header before after line call provider =
    record {
      header = refl;
      before = before;
      after = after;
      line = line;
      provider = provider;
      raw = first_reply;
      raw' = second_reply;
      first = refl;
      second = refl;
      reads = reads;
    }
