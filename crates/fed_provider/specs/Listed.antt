-- What a well-known file names, for private clauses.
use Rattle.std.specs.Prelude.{◌≡◌, ℕ, List, codes, bytes_eq, Option, if◌then◌else◌}
use Rattle.std.specs.Option.{option_copied}
use Rattle.serde_json.specs.Data.{Data, Members}
use Rattle.serde_json.specs.Find.{as_array, as_str, get_member}
use Rattle.fed_reply.specs.declared.member.Member.{Member}
use Rattle.fed_reply.specs.Members.{member_map, member_here, member_found, list_under, text_under}
use Rattle.fed_provider.specs.declared.listed.Named.{Named}
use Rattle.fed_provider.specs.WellKnown.{only_text}

-- the text that a file lists alone, and the texts of two endpoints
pub record NamedParts : Type 0 where
  pub listed : Option (List ℕ)
  pub accounts : Member (List ℕ)
  pub login : Member (List ℕ)

-- what the code holds
abbrev pub parts : Named → NamedParts
parts named =
    record {
      listed = option_copied named.listed;
      accounts = member_map (λ s. s.now) named.accounts;
      login = member_map (λ s. s.now) named.login;
    }

-- the text that is the only item of the list that a value is
abbrev pub only_text_of : Data → Option (List ℕ)
only_text_of d = only_text (member_here as_array d)

-- what members name
abbrev pub parts_of : Members → NamedParts
parts_of ms =
    record {
      listed = only_text (member_found as_array (get_member (codes "provider_urls") ms));
      accounts = member_found as_str (get_member (codes "accounts_endpoint") ms);
      login = member_found as_str (get_member (codes "login_url") ms);
    }

-- the same with a member of that name
abbrev pub parts_with : List ℕ → Data → NamedParts → NamedParts
parts_with name d named =
    if bytes_eq name (codes "provider_urls") then record named { listed = only_text_of d }
    else (if bytes_eq name (codes "accounts_endpoint") then record named { accounts = member_here as_str d }
    else (if bytes_eq name (codes "login_url") then record named { login = member_here as_str d } else named))

-- what a file names
abbrev pub parts_under : Data → NamedParts
parts_under file =
    record {
      listed = only_text (list_under (codes "provider_urls") file);
      accounts = text_under (codes "accounts_endpoint") file;
      login = text_under (codes "login_url") file;
    }

abbrev pub Names : Named → Data → Type 0
Names named file = parts named ≡ parts_under file
