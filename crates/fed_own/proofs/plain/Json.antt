-- The texts of the JSON value of a reply are UTF-8.
use Rattle.std.proofs.Common.{ℕ, List, Option, Some, None}
use Rattle.std.specs.Prelude.{not, codes, Result, Ok, Err}
use Rattle.std.specs.Str.{IsUtf8, is_utf8}
use Rattle.std.proofs.lemmas.Bool.{cond_both}
use Rattle.std.proofs.lemmas.Str.{IsUtf8-from_is_utf8}
use Rattle.serde_json.specs.Data.{Data, array, boolean, null, number, object, string}
use Rattle.serde_json.specs.Find.{as_array, as_object, as_str, get_member}
use Rattle.serde_json.specs.Read.{read}
use Rattle.fed_json.specs.Value.{value_of}
use Rattle.fed_reply.specs.declared.step.ReplyStep.{ReplyStep}
use Rattle.fed_reply.specs.declared.step.ReplyStep.TheVariants.{Json}
use Rattle.fed_reply.specs.Fields.{value_at}
use Rattle.fed_reply.specs.Json.{JsonOf, ReplyJsonOf, is_json_type, is_success, without_mark}
use Rattle.fed_reply.specs.Members.{list_under, member_found, member_here, member_of, object_under, text_under, whole_object}
use Rattle.fed_reply.specs.Parts.{ReplyParts}
use Rattle.fed_reply.specs.Reply.{ReplyOf}
use Rattle.fed_reply.specs.Steps.{and_then}
use Rattle.fed_own.proofs.json.Values.{HasTexts, IfSo, ItemsHaveTexts, member_texts, read_texts}
use Rattle.fed_own.proofs.plain.Results.{IfIs, IfOk, ok_of}

pub value_texts : (bytes : List ℕ) → IfSo HasTexts (value_of bytes)
value_texts bytes =
    cond_both (is_utf8 bytes) (read bytes) None (IfSo HasTexts) (λ t. read_texts bytes (IsUtf8-from_is_utf8 bytes t)) (λ f. tt)

pub json_texts : (reply : ReplyParts) → IfOk HasTexts (JsonOf reply)
unfolding JsonOf
json_texts reply =
    cond_both (not (is_success reply.status)) _ _ (IfOk HasTexts) (λ t. tt)
    (λ f. cond_both (is_json_type (value_at (codes "content-type") 0 reply.fields)) _ _ (IfOk HasTexts)
    (λ t. ok_of HasTexts (value_of (without_mark reply.body)) Json (value_texts (without_mark reply.body))) (λ g. tt))

pub reply_texts : (raw : List ℕ) → IfOk HasTexts (ReplyJsonOf raw)
reply_texts raw = go (ReplyOf raw)
  where
    go : (r : Result ReplyParts ReplyStep) → IfOk HasTexts (and_then JsonOf r)
    go (Ok reply) = json_texts reply
    go (Err step) = tt

-- ---- members

text_here : (d : Data) → HasTexts d → IfIs IsUtf8 (member_here as_str d)
text_here null h = tt
text_here (boolean b) h = tt
text_here (number n) h = tt
text_here (string s) h = h
text_here (array ds) h = tt
text_here (object ms) h = tt

list_here : (d : Data) → HasTexts d → IfIs ItemsHaveTexts (member_here as_array d)
list_here null h = tt
list_here (boolean b) h = tt
list_here (number n) h = tt
list_here (string s) h = tt
list_here (array ds) h = h
list_here (object ms) h = tt

object_here : (d : Data) → HasTexts d → IfIs HasTexts (member_here whole_object d)
object_here null h = tt
object_here (boolean b) h = tt
object_here (number n) h = tt
object_here (string s) h = tt
object_here (array ds) h = tt
object_here (object ms) h = h

found_is : {A : Type 0} (P : A → Type 0) (kind : Data → Option A) → ((d : Data) → HasTexts d → IfIs P (member_here kind d))
    → (o : Option Data) → IfSo HasTexts o → IfIs P (member_found kind o)
found_is P kind here None h = tt
found_is P kind here (Some d) h = here d h

of_is : {A : Type 0} (P : A → Type 0) (kind : Data → Option A) → ((d : Data) → HasTexts d → IfIs P (member_here kind d))
    → (name : List ℕ) (d : Data) → HasTexts d → IfIs P (member_of kind name (as_object d))
of_is P kind here name null h = tt
of_is P kind here name (boolean b) h = tt
of_is P kind here name (number n) h = tt
of_is P kind here name (string s) h = tt
of_is P kind here name (array ds) h = tt
of_is P kind here name (object ms) h = found_is P kind here (get_member name ms) (member_texts name ms h)

pub text_is : (name : List ℕ) (d : Data) → HasTexts d → IfIs IsUtf8 (text_under name d)
text_is name d h = of_is IsUtf8 as_str text_here name d h

pub list_is : (name : List ℕ) (d : Data) → HasTexts d → IfIs ItemsHaveTexts (list_under name d)
list_is name d h = of_is ItemsHaveTexts as_array list_here name d h

pub object_is : (name : List ℕ) (d : Data) → HasTexts d → IfIs HasTexts (object_under name d)
object_is name d h = of_is HasTexts whole_object object_here name d h
