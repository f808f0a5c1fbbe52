-- The names of members and their places.
use Rattle.std.proofs.Common.{◌≡◌, ◌≢◌, ℕ, ◌<◌, Bool, true, false, cond, List, [], ◌∷◌, length, Option, Some, refl, sym, ap, ◌∙◌, arith}
use Rattle.std.proofs.Common.{get_or, bytes_eq, slice_set, replicate, zero, suc}
use Rattle.std.proofs.lemmas.List.{get_or-set_same, get_or-set_other}
use Rattle.std.proofs.lemmas.Slice.Eq.{bytes_eq-Decides}
use Rattle.fed_json.specs.declared.reading.Begun.{Begun}
use Rattle.fed_json.specs.declared.reading.Begun.TheVariants.{Null}
use Rattle.fed_script.specs.declared.cause.MemberName.{MemberName}
use Rattle.fed_script.specs.declared.cause.MemberName.TheVariants as names
use Rattle.fed_script.specs.Cause.{name_text}
use Rattle.fed_script.specs.Said.{all_names, named_of, named, place}

-- the names by their places
abbrev pub by_place : List MemberName
by_place =
    names.Do ∷ names.Fedcm ∷ names.Now ∷ names.Rules ∷ names.What ∷ names.Origin ∷ names.Status ∷ names.Time ∷ names.Page ∷ names.Url
    ∷ names.Text ∷ names.Raw ∷ names.Call ∷ names.Mediation ∷ names.Mode ∷ names.Activation ∷ names.Context ∷ names.Providers
    ∷ names.Config ∷ names.Client ∷ names.Nonce ∷ names.LoginHint ∷ names.DomainHint ∷ names.Params ∷ names.Provider ∷ names.To
    ∷ names.Account ∷ names.Hint ∷ []

-- the name at its place
pub at_place : (name : MemberName) → get_or by_place (place name) names.Do ≡ name
at_place names.Do = refl
at_place names.Fedcm = refl
at_place names.Now = refl
at_place names.Rules = refl
at_place names.What = refl
at_place names.Origin = refl
at_place names.Status = refl
at_place names.Time = refl
at_place names.Page = refl
at_place names.Url = refl
at_place names.Text = refl
at_place names.Raw = refl
at_place names.Call = refl
at_place names.Mediation = refl
at_place names.Mode = refl
at_place names.Activation = refl
at_place names.Context = refl
at_place names.Providers = refl
at_place names.Config = refl
at_place names.Client = refl
at_place names.Nonce = refl
at_place names.LoginHint = refl
at_place names.DomainHint = refl
at_place names.Params = refl
at_place names.Provider = refl
at_place names.To = refl
at_place names.Account = refl
at_place names.Hint = refl

-- two names have two places
place-apart : (a b : MemberName) → a ≢ b → place a ≢ place b
place-apart a b apart = λ same. apart (sym (at_place a) ∙ ap (λ n. get_or by_place n names.Do) same ∙ at_place b)

pub found-noted : (name : MemberName) (found : List Begun) (first : Begun) (i : ℕ) → i ≡ place name → i < length found
    → get_or (slice_set found i first) (place name) Null ≡ first
found-noted name found first i is within =
    ap (λ n. get_or (slice_set found i first) n Null) (sym is) ∙ get_or-set_same found i first Null within

pub found-other : (name other : MemberName) (found : List Begun) (first : Begun) (i : ℕ) → i ≡ place name → other ≢ name
    → get_or (slice_set found i first) (place other) Null ≡ get_or found (place other) Null
found-other name other found first i is apart =
    get_or-set_other found i (place other) first Null (λ same. place-apart other name apart (same ∙ is))

nulls : (n i : ℕ) → get_or (replicate n Null) i Null ≡ Null
nulls zero i = refl
nulls (suc n) zero = refl
nulls (suc n) (suc i) = nulls n i

-- nothing is said
pub found-nothing : (name : MemberName) → get_or (replicate 28 Null) (place name) Null ≡ Null
found-nothing name = nulls 28 (place name)

-- ---- which name a text is

named_step : (b : Bool) (name found : MemberName) (text : List ℕ) (further : Option MemberName) → bytes_eq text (name_text name) ≡ b
    → (further ≡ Some found → text ≡ name_text found) → cond b (Some name) further ≡ Some found → text ≡ name_text found
named_step true name found text further is later e =
    (bytes_eq-Decides text (name_text name)).0 is ∙ ap name_text (grind (arith, e))
named_step false name found text further is later e = later e

named_of-text : (all : List MemberName) (found : MemberName) (text : List ℕ) → named_of all text ≡ Some found → text ≡ name_text found
named_of-text [] found text e = absurd (cc)
named_of-text (name ∷ further) found text e =
    named_step (bytes_eq text (name_text name)) name found text (named_of further text) refl (named_of-text further found text) e

-- a text that is a name is that name's text
pub named-text : (found : MemberName) (text : List ℕ) → named text ≡ Some found → text ≡ name_text found
named-text found text e = named_of-text all_names found text e

-- the text of a name is that name
pub name-named : (name : MemberName) → named (name_text name) ≡ Some name
name-named names.Do = refl
name-named names.Fedcm = refl
name-named names.Now = refl
name-named names.Rules = refl
name-named names.What = refl
name-named names.Origin = refl
name-named names.Status = refl
name-named names.Time = refl
name-named names.Page = refl
name-named names.Url = refl
name-named names.Text = refl
name-named names.Raw = refl
name-named names.Call = refl
name-named names.Mediation = refl
name-named names.Mode = refl
name-named names.Activation = refl
name-named names.Context = refl
name-named names.Providers = refl
name-named names.Config = refl
name-named names.Client = refl
name-named names.Nonce = refl
name-named names.LoginHint = refl
name-named names.DomainHint = refl
name-named names.Params = refl
name-named names.Provider = refl
name-named names.To = refl
name-named names.Account = refl
name-named names.Hint = refl

-- the text of another name is another text
pub name-apart : (a b : MemberName) → a ≢ b → name_text a ≢ name_text b
name-apart a b apart = λ same. apart (let e = sym (name-named a) ∙ ap named same ∙ name-named b in grind (arith, e))
