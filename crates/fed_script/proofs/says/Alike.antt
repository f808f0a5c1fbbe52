-- What a line says is what it holds under the names.
use Rattle.std.proofs.Common.{◌≡◌, ℕ, List, Option, Some, None, refl, sym}
use Rattle.std.specs.Prelude.{option_and_then, Result, Ok, Err}
use Rattle.serde_json.specs.Data.{Data, null, boolean, number, string, array, object}
use Rattle.serde_json.specs.Find.{get}
use Rattle.serde_json.specs.Read.{number_of}
use Rattle.fed_json.specs.declared.reading.Begun.{Begun}
use Rattle.fed_json.specs.declared.reading.Begun.TheVariants.{Null, Bool, Number, Text, Array, Object}
use Rattle.fed_json.specs.Begun.{begun_data}
use Rattle.fed_json.specs.Value.{number_or_negative}
use Rattle.fed_json.specs.Values.{IsBegun}
use Rattle.fed_script.specs.declared.cause.LineCause.{LineCause}
use Rattle.fed_script.specs.declared.cause.LineCause.TheVariants.{Member}
use Rattle.fed_script.specs.declared.cause.MemberName.TheVariants as names
use Rattle.fed_script.specs.declared.said.Said.{Said}
use Rattle.fed_script.specs.declared.saying.SaidLine.{SaidLine}
use Rattle.fed_script.specs.Cause.{name_text}
use Rattle.fed_script.specs.Entries.{all_said, entries_seen, providers_named}
use Rattle.fed_script.specs.Get.{ProviderMembers, GetMembers, as_entries, provider_members, get_members}
use Rattle.fed_script.specs.Member.{◌>>=◌, each, or_cause, unless_null, required, as_u32}
use Rattle.fed_script.specs.Said.{under, shown, MayBegin, Says, SaysLine, get_members_by}
use Rattle.fed_script.specs.declared.options.OptionMembers.{OptionMembers}
use Rattle.fed_script.specs.Options.{option_members}
use Rattle.fed_script.proofs.says.Shown.{member-shown}
use Rattle.fed_script.proofs.says.Same.{Alike, Same, number_same, options_same}

alike_itself : (a : Option Data) → Alike a a
alike_itself a = record { there = refl; text = refl; whole = refl; truth = refl }

begun_alike : (b : Begun) (d : Data) → IsBegun b d → Alike (unless_null (Some (begun_data b))) (unless_null (Some d))
begun_alike Null d is = rw is (alike_itself None)
begun_alike (Bool b) d is = rw is (alike_itself (Some (boolean b)))
begun_alike (Number s) d is = rw is (alike_itself (unless_null (Some (number_or_negative (number_of s.now)))))
begun_alike (Text s) d is = rw is (alike_itself (Some (string s.now)))
begun_alike (Array depth) d is = rw is.1 (record { there = refl; text = refl; whole = refl; truth = refl })
begun_alike (Object depth) d is = rw is.1 (record { there = refl; text = refl; whole = refl; truth = refl })

may_alike : (b : Begun) (o : Option Data) → MayBegin b o → Alike (unless_null (Some (begun_data b))) (unless_null o)
may_alike b None is = rw is (alike_itself None)
may_alike b (Some d) is = begun_alike b d is

-- what is shown is the same as what the line holds
pub shown_same : (s : Said) (d : Data) → Says s d → Same (shown s) d
shown_same s d says name = rw (member-shown name s) (may_alike (under name s) (get (name_text name) d) (says name))

-- ---- the providers

abbrev with_providers : ℕ → ℕ → OptionMembers → List ProviderMembers → Result GetMembers LineCause
with_providers page call options providers = Ok (record { page = page; call = call; options = options; providers = providers })

providers_there : (o : Option Data)
    → (or_cause (Member names.Providers) (option_and_then as_entries (unless_null o)) >>= each provider_members) ≡ providers_named o
providers_there None = refl
providers_there (Some null) = refl
providers_there (Some (boolean b)) = refl
providers_there (Some (number n)) = refl
providers_there (Some (string s)) = refl
providers_there (Some (array ds)) = refl
providers_there (Some (object ms)) = refl

-- the members in their order, and the providers' in one step or in two
in_turn : (page call : Result ℕ LineCause) (options : Result OptionMembers LineCause) (found : Result (List Data) LineCause)
    → (page >>= λ p. call >>= λ c. options >>= λ o. found >>= λ ds. each provider_members ds >>= λ xs. with_providers p c o xs)
    ≡ (page >>= λ p. call >>= λ c. options >>= λ o. (found >>= each provider_members) >>= λ xs. with_providers p c o xs)
in_turn (Err cause) call options found = refl
in_turn (Ok p) (Err cause) options found = refl
in_turn (Ok p) (Ok c) (Err cause) found = refl
in_turn (Ok p) (Ok c) (Ok o) (Err cause) = refl
in_turn (Ok p) (Ok c) (Ok o) (Ok entries) = refl

-- a get's members are those that the line says
pub get_same : (line : SaidLine) (d : Data) → SaysLine line d
    → get_members_by (shown line.members) (all_said (entries_seen line.providers)) ≡ get_members d
get_same line d says =
    let same = shown_same line.members d says.members in
    rw (
      number_same (shown line.members) d same names.Page,
      number_same (shown line.members) d same names.Call,
      options_same (shown line.members) d same,
      says.providers,
      ← providers_there (get (name_text names.Providers) d),
    )
    (sym (in_turn (required as_u32 names.Page d) (required as_u32 names.Call d) (option_members d)
    (required as_entries names.Providers d)))
