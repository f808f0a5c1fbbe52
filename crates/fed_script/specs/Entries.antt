-- What the entries of `providers` say as they are read, one after another, for private clauses.
use Rattle.std.specs.Prelude.{ℕ, ◌-◌, ◌==◌, List, [], ◌∷◌, ◌++◌, map, codes, bytes_eq, Option, Some, None, Result, Ok, Err}
use Rattle.std.specs.Prelude.{if◌then◌else◌}
use Rattle.std.specs.Result.{result_map_both}
use Rattle.serde_json.specs.Data.{Data, Items, no_items, item}
use Rattle.fed_origin.specs.declared.options.ProviderOptions.{ProviderOptions}
use Rattle.fed_script.specs.declared.cause.LineCause.{LineCause}
use Rattle.fed_script.specs.declared.cause.LineCause.TheVariants.{Member}
use Rattle.fed_script.specs.declared.cause.MemberName.TheVariants as names
use Rattle.fed_script.specs.declared.get.ProviderMembers as provider
use Rattle.fed_script.specs.declared.providers.SaidProviders.{SaidProviders}
use Rattle.fed_script.specs.Get.{ProviderMembers, provider_seen, as_entry, as_entries, provider_members, provider_by}
use Rattle.fed_script.specs.Member.{◌>>=◌, each, or_cause}

-- what the entries so far say, and how many more there may be
pub record Entries : Type 0 where
  pub room : ℕ
  pub members : Result (List ProviderMembers) LineCause

-- before the first entry
abbrev pub no_entries : Entries
no_entries = record { room = 10; members = Ok [] }

-- an entry is no object, or one too many
abbrev pub bad_entries : Entries
bad_entries = record { room = 0; members = Err (Member names.Providers) }

-- the members of an entry after those of others
abbrev pub one_more : Result ProviderMembers LineCause → Result (List ProviderMembers) LineCause → Result (List ProviderMembers) LineCause
one_more entry before = do
  front ← before
  one ← entry
  Ok (front ++ one ∷ [])

-- an entry with these members, after others
abbrev pub with_members : Result ProviderMembers LineCause → Entries → Entries
with_members entry before =
    if before.room == 0 then bad_entries else record { room = before.room - 1; members = one_more entry before.members }

-- a value as an entry, after others
abbrev pub with_entry : Option Data → Entries → Entries
with_entry None before = bad_entries
with_entry (Some d) before = with_members (provider_members d) before

-- the items that are left of a list, as entries after others
abbrev pub with_entries : Items → Entries → Entries
with_entries no_items before = before
with_entries (item d ds) before = with_entries ds (with_entry (as_entry d) before)

-- there is a provider
abbrev pub or_no_provider : List ProviderMembers → Result (List ProviderMembers) LineCause
or_no_provider [] = Err (Member names.Providers)
or_no_provider (one ∷ further) = Ok (one ∷ further)

-- what all entries say
abbrev pub all_said : Entries → Result (List ProviderMembers) LineCause
all_said entries = entries.members >>= or_no_provider

-- what borrowed members of an entry point to
abbrev pub entry_seen : Result provider.ProviderMembers LineCause → Result ProviderMembers LineCause
entry_seen entry = result_map_both provider_seen (λ e. e) entry

abbrev pub members_seen : Result (Option provider.ProviderMembers) LineCause → List provider.ProviderMembers
    → Result (List ProviderMembers) LineCause
members_seen (Err cause) further = Err cause
members_seen (Ok None) further = Ok []
members_seen (Ok (Some one)) further = Ok (provider_seen one ∷ map provider_seen further)

-- what borrowed entries point to
abbrev pub entries_seen : SaidProviders → Entries
entries_seen p = record { room = p.room; members = members_seen p.first p.further.items }

-- the members of the providers that a value names
abbrev pub providers_in : Data → Result (List ProviderMembers) LineCause
providers_in d = or_cause (Member names.Providers) (as_entries d) >>= each provider_members

-- the same where there may be no value
abbrev pub providers_named : Option Data → Result (List ProviderMembers) LineCause
providers_named None = Err (Member names.Providers)
providers_named (Some d) = providers_in d

-- the members of the providers that members name, after one of this name that is d
abbrev pub providers_after : List ℕ → Data → Result (List ProviderMembers) LineCause → Result (List ProviderMembers) LineCause
providers_after name d before = if bytes_eq name (codes "providers") then providers_in d else before

-- the options of providers, and after them those of the providers with these members
abbrev pub all_after : List ProviderOptions → List ProviderMembers → Result (List ProviderOptions) LineCause
all_after front further = do
  more ← each provider_by further
  Ok (front ++ more)
