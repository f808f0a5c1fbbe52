-- A value of another kind than the wanted one.
use Rattle.std.proofs.Common.{◌≡◌, Bool, true, false, Option, Some, None, refl, ap, ◌∙◌}
use Rattle.std.specs.Prelude.{Err}
use Rattle.serde_json.specs.Data.{Num, Data, null, boolean, number, string, array, object}
use Rattle.serde_json.specs.Find.{as_str, as_array, as_object}
use Rattle.serde_json.specs.Read.{number_of}
use Rattle.fed_json.specs.Value.{number_or_negative}
use Rattle.fed_json.specs.declared.reading.Begun.{Begun}
use Rattle.fed_json.specs.declared.reading.Begun.TheVariants as begun
use Rattle.fed_json.specs.declared.reading.Begun.TheVariants.{Null, Number, Text, Array, Object}
use Rattle.fed_json.specs.Values.{IsBegun}
use Rattle.fed_reply.specs.declared.member.Member.TheVariants.{Wrong}
use Rattle.fed_reply.specs.Members.{member_here}
use Rattle.fed_reply.specs.Shape.{required}
use Rattle.fed_accounts.specs.declared.step.AccountsStep.TheVariants.{Shape}
use Rattle.fed_accounts.specs.Found.{listed}

number_text : (o : Option Num) → member_here as_str (number_or_negative o) ≡ Wrong
number_text None = refl
number_text (Some n) = refl

number_list : (o : Option Num) → listed (number_or_negative o) ≡ Err Shape
number_list None = refl
number_list (Some n) = refl

number_array : (o : Option Num) → as_array (number_or_negative o) ≡ None
number_array None = refl
number_array (Some n) = refl

number_object : (o : Option Num) → as_object (number_or_negative o) ≡ None
number_object None = refl
number_object (Some n) = refl

abbrev pub is_text : Begun → Bool
is_text Null = true
is_text (begun.Bool b) = false
is_text (Number s) = false
is_text (Text s) = true
is_text (Array depth) = false
is_text (Object depth) = false

abbrev pub is_list : Begun → Bool
is_list Null = true
is_list (begun.Bool b) = false
is_list (Number s) = false
is_list (Text s) = false
is_list (Array depth) = true
is_list (Object depth) = false

abbrev pub is_array : Begun → Bool
is_array Null = false
is_array (begun.Bool b) = false
is_array (Number s) = false
is_array (Text s) = false
is_array (Array depth) = true
is_array (Object depth) = false

abbrev pub is_object : Begun → Bool
is_object Null = false
is_object (begun.Bool b) = false
is_object (Number s) = false
is_object (Text s) = false
is_object (Array depth) = false
is_object (Object depth) = true

-- neither null nor a text
pub no_text : (first : Begun) (d : Data) → is_text first ≡ false → IsBegun first d → member_here as_str d ≡ Wrong
no_text Null d e h = absurd (cc)
no_text (begun.Bool b) d e h = ap (member_here as_str) h
no_text (Number s) d e h = ap (member_here as_str) h ∙ number_text (number_of s.now)
no_text (Text s) d e h = absurd (cc)
no_text (Array depth) d e h = ap (member_here as_str) h.1
no_text (Object depth) d e h = ap (member_here as_str) h.1

-- neither null nor an array
pub no_list : (first : Begun) (d : Data) → is_list first ≡ false → IsBegun first d → listed d ≡ Err Shape
no_list Null d e h = absurd (cc)
no_list (begun.Bool b) d e h = ap listed h
no_list (Number s) d e h = ap listed h ∙ number_list (number_of s.now)
no_list (Text s) d e h = ap listed h
no_list (Array depth) d e h = absurd (cc)
no_list (Object depth) d e h = ap listed h.1

pub no_array : (first : Begun) (d : Data) → is_array first ≡ false → IsBegun first d → as_array d ≡ None
no_array Null d e h = ap as_array h
no_array (begun.Bool b) d e h = ap as_array h
no_array (Number s) d e h = ap as_array h ∙ number_array (number_of s.now)
no_array (Text s) d e h = ap as_array h
no_array (Array depth) d e h = absurd (cc)
no_array (Object depth) d e h = ap as_array h.1

pub no_object : (first : Begun) (d : Data) → is_object first ≡ false → IsBegun first d → as_object d ≡ None
no_object Null d e h = ap as_object h
no_object (begun.Bool b) d e h = ap as_object h
no_object (Number s) d e h = ap as_object h ∙ number_object (number_of s.now)
no_object (Text s) d e h = ap as_object h
no_object (Array depth) d e h = ap as_object h.1
no_object (Object depth) d e h = absurd (cc)

-- no list has no entries
pub no_entries : (d : Data) → as_array d ≡ None → required Shape (member_here as_array d) ≡ Err Shape
no_entries null none = refl
no_entries (boolean b) none = refl
no_entries (number n) none = refl
no_entries (string s) none = refl
no_entries (array ds) none = absurd (cc)
no_entries (object ms) none = refl
