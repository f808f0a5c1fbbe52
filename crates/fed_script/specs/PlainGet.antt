-- For private clauses: gets as JSON writers give them. A text goes on with the rest of the line.
use Rattle.std.specs.Prelude.{◌≡◌, ⊤, ℕ, Bool, true, false, cond, List, [], ◌∷◌, ◌++◌, map, codes, decimal, Option, Some, None}
use Rattle.std.specs.List.{list_all, AllByRecursion}
use Rattle.std.specs.Str.{IsUtf8}
use Rattle.fed_origin.specs.declared.options.Context.TheVariants.{SignIn}
use Rattle.fed_origin.specs.declared.options.Mediation.TheVariants.{Optional}
use Rattle.fed_origin.specs.declared.options.Mode.TheVariants.{Passive, Active}
use Rattle.fed_script.specs.declared.plain_get.PlainEntries.{PlainEntries}
use Rattle.fed_script.specs.declared.plain_get.PlainGet.{PlainGet}
use Rattle.fed_script.specs.Get.{ProviderMembers, GetMembers, provider_seen}
use Rattle.json.specs.Run.{is_plain}

-- a text under a name, where it is there; the name stands with the quote that ends the text before it
abbrev pub text_under : List ℕ → Option (List ℕ) → List ℕ → List ℕ
text_under name None rest = rest
text_under name (Some text) rest = name ++ (text ++ rest)

-- an entry that names nothing else
abbrev pub bare : List ℕ → List ℕ → ProviderMembers
bare config client =
    record { config = config; client = client; nonce = None; login_hint = None; domain_hint = None; params = None }

-- what an entry of `providers` names beside its configuration and its client, and its end
abbrev pub hints_text : ProviderMembers → List ℕ → List ℕ
hints_text p rest =
    text_under (codes "\",\"nonce\":\"") p.nonce (text_under (codes "\",\"login_hint\":\"") p.login_hint
    (text_under (codes "\",\"domain_hint\":\"") p.domain_hint (text_under (codes "\",\"params\":\"") p.params (codes "\"}" ++ rest))))

-- what an entry of `providers` must name, from its configuration URL on
abbrev pub names_text : List ℕ → List ℕ → List ℕ → List ℕ
names_text config client rest = config ++ (codes "\",\"client\":\"" ++ (client ++ rest))

-- an entry of `providers`, from its configuration URL on
abbrev pub entry_text : ProviderMembers → List ℕ → List ℕ
entry_text p rest = names_text p.config p.client (hints_text p rest)

-- the entries after others
abbrev pub entries_text : List ProviderMembers → List ℕ → List ℕ
entries_text [] rest = rest
entries_text (p ∷ ps) rest = codes ",{\"config\":\"" ++ entry_text p (entries_text ps rest)

-- what follows the entries of a get: nothing, or that it is active and the user acted at the page
abbrev pub get_end : Bool → List ℕ
get_end false = codes "]}"
get_end true = codes "],\"mode\":\"active\",\"activation\":true}"

-- a get up to the client of its first entry, and the rest of the line from the quote after it
unfoldable pub get_text : ℕ → ℕ → List ℕ → List ℕ → List ℕ → List ℕ
get_text page call config client rest =
    codes "{\"do\":\"get\",\"page\":" ++ (decimal page ++ (codes ",\"call\":" ++ (decimal call
    ++ (codes ",\"providers\":[{\"config\":\"" ++ names_text config client rest))))

-- a text has no escape
abbrev pub IsPlain : List ℕ → Type 0
IsPlain text = (list_all is_plain text ≡ true) × IsUtf8 text

abbrev pub IsPlainIfAny : Option (List ℕ) → Type 0
IsPlainIfAny None = ⊤
IsPlainIfAny (Some text) = IsPlain text

-- no text of an entry has an escape
pub record IsPlainEntry (p : ProviderMembers) : Type 0 where
  pub config : IsPlain p.config
  pub client : IsPlain p.client
  pub nonce : IsPlainIfAny p.nonce
  pub login_hint : IsPlainIfAny p.login_hint
  pub domain_hint : IsPlainIfAny p.domain_hint
  pub params : IsPlainIfAny p.params

-- no text of these entries has an escape
abbrev pub ArePlain : List ProviderMembers → Type 0
ArePlain ps = AllByRecursion IsPlainEntry ps

-- the members of a get that names providers, and else nothing or that it is active
abbrev pub members_of : ℕ → ℕ → List ProviderMembers → Bool → GetMembers
members_of page call providers active =
    record {
      page = page;
      call = call;
      options = record { mediation = Optional; mode = cond active Active Passive; activation = active; context = SignIn };
      providers = providers;
    }

-- the members of such entries
abbrev pub entries_seen : PlainEntries → List ProviderMembers
entries_seen entries = provider_seen entries.first ∷ map provider_seen entries.further.items

-- the members of such a get
abbrev pub plain_members : PlainGet → GetMembers
plain_members get = members_of get.page get.call (entries_seen get.entries) get.active
