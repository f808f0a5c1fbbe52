-- JSON texts.
use Rattle.std.proofs.Common.{◌≡◌, ℕ, Bool, true, false, List, Some, None, ok_or, Ok, Err, refl, ap, if◌then◌else◌}
use Rattle.std.specs.Prelude.{IsUtf8}
use Rattle.std.specs.Str.{is_utf8}
use Rattle.std.proofs.lemmas.Str.{is_utf8-from_IsUtf8, IsUtf8-from_is_utf8}
use Rattle.serde_json.specs.Data.{Data}
use Rattle.serde_json.specs.Read.{read}
use Rattle.fed_json.specs.Value.{value_of}
use Rattle.fed_reply.specs.declared.step.ReplyStep.TheVariants.{Json}

pub text_read : (bytes : List ℕ) (d : Data) → IsUtf8 bytes → read bytes ≡ Some d → ok_or (value_of bytes) Json ≡ Ok d
text_read bytes d text is = rw (is_utf8-from_IsUtf8 bytes text, is) refl

no_text_by : (bytes : List ℕ) (t : Bool) → is_utf8 bytes ≡ t → (IsUtf8 bytes → read bytes ≡ None)
    → ok_or (if t then read bytes else None) Json ≡ Err Json
no_text_by bytes true is h = ap (λ o. ok_or o Json) (h (IsUtf8-from_is_utf8 bytes is))
no_text_by bytes false is h = refl

pub no_text : (bytes : List ℕ) → (IsUtf8 bytes → read bytes ≡ None) → ok_or (value_of bytes) Json ≡ Err Json
no_text bytes h = no_text_by bytes (is_utf8 bytes) refl h
