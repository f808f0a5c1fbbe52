-- What is shown of what a line says.
use Rattle.std.proofs.Common.{◌≡◌, Option, Some, None, refl, sym, ap, ◌∙◌}
use Rattle.serde_json.specs.Data.{Num}
use Rattle.serde_json.specs.Find.{get}
use Rattle.serde_json.specs.Read.{number_of}
use Rattle.fed_json.specs.declared.reading.Begun.{Begun}
use Rattle.fed_json.specs.declared.reading.Begun.TheVariants.{Null, Bool, Number, Text, Array, Object}
use Rattle.fed_json.specs.Begun.{begun_data}
use Rattle.fed_json.specs.Value.{number_or_negative}
use Rattle.fed_script.specs.declared.cause.MemberName.{MemberName}
use Rattle.fed_script.specs.declared.cause.MemberName.TheVariants as names
use Rattle.fed_script.specs.declared.said.Said.{Said}
use Rattle.fed_script.specs.Cause.{name_text}
use Rattle.fed_script.specs.Member.{member_of, unless_null}
use Rattle.fed_script.specs.Said.{under, shown}

-- under each name stands what was said
pub get-shown : (name : MemberName) (s : Said) → get (name_text name) (shown s) ≡ Some (begun_data (under name s))
unfolding shown
get-shown names.Do s = refl
get-shown names.Fedcm s = refl
get-shown names.Now s = refl
get-shown names.Rules s = refl
get-shown names.What s = refl
get-shown names.Origin s = refl
get-shown names.Status s = refl
get-shown names.Time s = refl
get-shown names.Page s = refl
get-shown names.Url s = refl
get-shown names.Text s = refl
get-shown names.Raw s = refl
get-shown names.Call s = refl
get-shown names.Mediation s = refl
get-shown names.Mode s = refl
get-shown names.Activation s = refl
get-shown names.Context s = refl
get-shown names.Providers s = refl
get-shown names.Config s = refl
get-shown names.Client s = refl
get-shown names.Nonce s = refl
get-shown names.LoginHint s = refl
get-shown names.DomainHint s = refl
get-shown names.Params s = refl
get-shown names.Provider s = refl
get-shown names.To s = refl
get-shown names.Account s = refl
get-shown names.Hint s = refl

pub member-shown : (name : MemberName) (s : Said) → member_of name (shown s) ≡ unless_null (Some (begun_data (under name s)))
member-shown name s = ap unless_null (get-shown name s)

pub null_absent : (name : MemberName) (s : Said) (first : Begun) → first ≡ under name s → first ≡ Null → None ≡ member_of name (shown s)
null_absent name s first is none = sym (member-shown name s ∙ ap (λ b. unless_null (Some (begun_data b))) (sym is ∙ none))

number_some : (o : Option Num) → unless_null (Some (number_or_negative o)) ≡ Some (number_or_negative o)
number_some None = refl
number_some (Some n) = refl

not_null : (first : Begun) → (first ≡ Null → ⊥) → unless_null (Some (begun_data first)) ≡ Some (begun_data first)
not_null Null some = absurd (some refl)
not_null (Bool b) some = refl
not_null (Number s) some = number_some (number_of s.now)
not_null (Text s) some = refl
not_null (Array depth) some = refl
not_null (Object depth) some = refl

pub some_there : (name : MemberName) (s : Said) (first : Begun) → first ≡ under name s → (first ≡ Null → ⊥)
    → Some (begun_data first) ≡ member_of name (shown s)
some_there name s first is some =
    sym (member-shown name s ∙ ap (λ b. unless_null (Some (begun_data b))) (sym is) ∙ not_null first some)
