-- What a line of the kind `get` is read as.
use Rattle.std.specs.Prelude.{ℕ, nat_le, ◌&&◌, List, [], ◌∷◌, map, length, Option, Some, None, option_map, option_and_then}
use Rattle.std.specs.Prelude.{Result, Ok, if◌then◌else◌}
use Rattle.std.specs.Option.{option_copied}
use Rattle.serde_json.specs.Data.{Data, object, Items, no_items, item}
use Rattle.serde_json.specs.Find.{as_str, as_array}
use Rattle.url.specs.Parts.{Parts}
use Rattle.fed_origin.specs.declared.options.GetOptions.{GetOptions}
use Rattle.fed_origin.specs.declared.options.ProviderOptions.{ProviderOptions}
use Rattle.fed_script.specs.declared.cause.LineCause.{LineCause}
use Rattle.fed_script.specs.declared.cause.MemberName.TheVariants as names
use Rattle.fed_script.specs.declared.event.Event.{Event}
use Rattle.fed_script.specs.declared.event.Event.TheVariants.{Get}
use Rattle.fed_script.specs.declared.get.GetMembers as get
use Rattle.fed_script.specs.declared.get.ProviderMembers as provider
use Rattle.fed_script.specs.declared.options.OptionMembers.{OptionMembers}
use Rattle.fed_script.specs.Member.{◌>>=◌, each, required, optional, member_of, as_u32, url_of}
use Rattle.fed_script.specs.Options.{option_members}

-- the members of an entry of `providers`, its URL as text
pub record ProviderMembers : Type 0 where
  pub config : List ℕ
  pub client : List ℕ
  pub nonce : Option (List ℕ)
  pub login_hint : Option (List ℕ)
  pub domain_hint : Option (List ℕ)
  pub params : Option (List ℕ)

-- the members of a get
pub record GetMembers : Type 0 where
  pub page : ℕ
  pub call : ℕ
  pub options : OptionMembers
  pub providers : List ProviderMembers

-- what borrowed members of an entry point to
abbrev pub provider_seen : provider.ProviderMembers → ProviderMembers
provider_seen p =
    record {
      config = p.config.now;
      client = p.client.now;
      nonce = option_copied p.nonce;
      login_hint = option_copied p.login_hint;
      domain_hint = option_copied p.domain_hint;
      params = option_copied p.params;
    }

-- what borrowed members of a get point to
abbrev pub get_seen : get.GetMembers → GetMembers
get_seen m =
    record {
      page = m.page;
      call = m.call;
      options = m.options;
      providers = provider_seen m.provider ∷ map provider_seen m.further.now;
    }

-- a value that is an object
abbrev pub as_entry : Data → Option Data
as_entry (object members) = Some (object members)
as_entry _ = None

-- the items of a list, where all are objects
abbrev pub entries_of : Items → Option (List Data)
entries_of no_items = Some []
entries_of (item d ds) = option_and_then (λ entry. option_map (λ further. entry ∷ further) (entries_of ds)) (as_entry d)

-- a list of one to ten
abbrev pub one_to_ten : List Data → Option (List Data)
one_to_ten entries = if nat_le 1 (length entries) && nat_le (length entries) 10 then Some entries else None

-- the entries of a list of one to ten objects
abbrev pub as_entries : Data → Option (List Data)
as_entries d = option_and_then one_to_ten (option_and_then entries_of (as_array d))

-- the members of an entry of `providers`, in their order
abbrev pub provider_members : Data → Result ProviderMembers LineCause
provider_members d = do
  config ← required as_str names.Config d
  client ← required as_str names.Client d
  nonce ← optional as_str names.Nonce (member_of names.Nonce d)
  login_hint ← optional as_str names.LoginHint (member_of names.LoginHint d)
  domain_hint ← optional as_str names.DomainHint (member_of names.DomainHint d)
  params ← optional as_str names.Params (member_of names.Params d)
  Ok (record {
    config = config;
    client = client;
    nonce = nonce;
    login_hint = login_hint;
    domain_hint = domain_hint;
    params = params;
  })

-- the members of a get, in their order: those of its providers come last, one entry after another
abbrev pub get_members : Data → Result GetMembers LineCause
get_members d = do
  page ← required as_u32 names.Page d
  call ← required as_u32 names.Call d
  options ← option_members d
  entries ← required as_entries names.Providers d
  providers ← each provider_members entries
  Ok (record { page = page; call = call; options = options; providers = providers })

-- a provider's options, with its configuration URL
abbrev pub provider_of : Parts → ProviderMembers → ProviderOptions
provider_of config members =
    record {
      config = config;
      client = members.client;
      nonce = members.nonce;
      login_hint = members.login_hint;
      domain_hint = members.domain_hint;
      params = members.params;
    }

-- a provider's options, with the URL that its members name
abbrev pub provider_by : ProviderMembers → Result ProviderOptions LineCause
provider_by members = do
  config ← url_of members.config
  Ok (provider_of config members)

-- the options of a call with these providers
abbrev pub options_of : OptionMembers → List ProviderOptions → GetOptions
options_of members providers =
    record {
      mediation = members.mediation;
      mode = members.mode;
      activation = members.activation;
      context = members.context;
      providers = providers;
    }

-- the get with these members
abbrev pub get_by : GetMembers → Result Event LineCause
get_by members = do
  providers ← each provider_by members.providers
  Ok (Get members.page members.call (options_of members.options providers))

-- the get that a line names
abbrev pub get_of : Data → Result Event LineCause
get_of d = get_members d >>= get_by
