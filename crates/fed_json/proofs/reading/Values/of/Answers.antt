-- What is no text in UTF-8 is no value.
use Rattle.std.proofs.Common.{◌≡◌, Bool, true, false, List, ℕ, None, cond, refl}
use Rattle.std.proofs.lemmas.Str.{is_utf8-from_IsUtf8, IsUtf8-from_is_utf8}
use Rattle.std.specs.Prelude.{IsUtf8}
use Rattle.std.specs.Str.{is_utf8}
use Rattle.serde_json.specs.Read.{read}
use Rattle.fed_json.proofs.reading.Values.of.Goals as goal

no_value : (line : List ℕ) (b : Bool) → is_utf8 line ≡ b → (IsUtf8 line → ⊥) → None ≡ cond b (read line) None
no_value line true text never = absurd (never (IsUtf8-from_is_utf8 line text))
no_value line false text never = refl

pub returns-in-Ok-of_text : goal.returns-in-Ok-of_text
returns-in-Ok-of_text c =
    rw (is_utf8-from_IsUtf8 c.args.bytes.now c.in-Ok.ensures.1, ← c.in-Ok.ensures.0) c.in-Ok-of_text.ensures

pub returns-in-Err : goal.returns-in-Err
returns-in-Err c = no_value c.args.bytes.now (is_utf8 c.args.bytes.now) refl c.in-Err.ensures
