-- The members of an entry as one pass over them finds them, for private clauses.
use Rattle.std.specs.Prelude.{ℕ, List, [], codes, bytes_eq, Option, Some, None, Result, Ok, if◌then◌else◌}
use Rattle.serde_json.specs.Data.{Data, Items, Members}
use Rattle.serde_json.specs.Find.{get_member, as_str, as_array}
use Rattle.fed_reply.specs.declared.member.Member.{Member}
use Rattle.fed_reply.specs.Members.{member_map, member_here, member_found}
use Rattle.fed_reply.specs.Shape.{required, optional}
use Rattle.fed_reply.specs.Steps.{◌>>=◌, with_ok}
use Rattle.fed_accounts.specs.declared.account.Account.{Account}
use Rattle.fed_accounts.specs.declared.members.Found.{Found}
use Rattle.fed_accounts.specs.declared.step.AccountsStep.{AccountsStep}
use Rattle.fed_accounts.specs.declared.step.AccountsStep.TheVariants.{Shape}
use Rattle.fed_accounts.specs.Entry.{list_seen}
use Rattle.fed_accounts.specs.Read.{each, text_of, optional_list}

-- what an entry has under the names of an account
pub record FoundParts : Type 0 where
  pub id : Member (List ℕ)
  pub name : Member (List ℕ)
  pub email : Member (List ℕ)
  pub given_name : Member (List ℕ)
  pub picture : Member (List ℕ)
  pub approved : Result (Option (List (List ℕ))) AccountsStep
  pub login_hints : Result (Option (List (List ℕ))) AccountsStep
  pub domain_hints : Result (Option (List (List ℕ))) AccountsStep

-- the same as the code has it
abbrev pub parts : Found → FoundParts
parts f =
    record {
      id = member_map (λ s. s.now) f.id;
      name = member_map (λ s. s.now) f.name;
      email = member_map (λ s. s.now) f.email;
      given_name = member_map (λ s. s.now) f.given_name;
      picture = member_map (λ s. s.now) f.picture;
      approved = list_seen f.approved;
      login_hints = list_seen f.login_hints;
      domain_hints = list_seen f.domain_hints;
    }

-- the list of texts that items are, or the step
abbrev pub texts_listed : Items → Result (Option (List (List ℕ))) AccountsStep
texts_listed items = with_ok Some (each text_of items)

-- the same of a value, which may be left out
abbrev pub listed : Data → Result (Option (List (List ℕ))) AccountsStep
listed d = optional_list (member_here as_array d)

-- the same of what stands under a name, if anything does
abbrev pub list_found : Option Data → Result (Option (List (List ℕ))) AccountsStep
list_found found = optional_list (member_found as_array found)

-- what members have under the names
abbrev pub parts_of : Members → FoundParts
parts_of ms =
    record {
      id = member_found as_str (get_member (codes "id") ms);
      name = member_found as_str (get_member (codes "name") ms);
      email = member_found as_str (get_member (codes "email") ms);
      given_name = member_found as_str (get_member (codes "given_name") ms);
      picture = member_found as_str (get_member (codes "picture") ms);
      approved = list_found (get_member (codes "approved_clients") ms);
      login_hints = list_found (get_member (codes "login_hints") ms);
      domain_hints = list_found (get_member (codes "domain_hints") ms);
    }

-- the same with a member of that name
abbrev pub parts_with : List ℕ → Data → FoundParts → FoundParts
parts_with name d f =
    if bytes_eq name (codes "id") then record f { id = member_here as_str d }
    else (if bytes_eq name (codes "name") then record f { name = member_here as_str d }
    else (if bytes_eq name (codes "email") then record f { email = member_here as_str d }
    else (if bytes_eq name (codes "given_name") then record f { given_name = member_here as_str d }
    else (if bytes_eq name (codes "picture") then record f { picture = member_here as_str d }
    else (if bytes_eq name (codes "approved_clients") then record f { approved = listed d }
    else (if bytes_eq name (codes "login_hints") then record f { login_hints = listed d }
    else (if bytes_eq name (codes "domain_hints") then record f { domain_hints = listed d } else f)))))))

abbrev pub or_empty : Option (List (List ℕ)) → List (List ℕ)
or_empty None = []
or_empty (Some texts) = texts

-- the texts of an account
pub record NamesFound : Type 0 where
  pub id : List ℕ
  pub name : List ℕ
  pub email : List ℕ
  pub given_name : Option (List ℕ)
  pub picture : Option (List ℕ)

-- the texts of what was found
abbrev pub names_found : FoundParts → Result NamesFound AccountsStep
names_found f = do
  id ← required Shape f.id
  name ← required Shape f.name
  email ← required Shape f.email
  given_name ← optional Shape f.given_name
  picture ← optional Shape f.picture
  Ok (record {
    id = id;
    name = name;
    email = email;
    given_name = given_name;
    picture = picture;
  })

-- the account of what was found
abbrev pub account_found : FoundParts → Result Account AccountsStep
account_found f = do
  names ← names_found f
  approved ← f.approved
  login_hints ← with_ok or_empty f.login_hints
  domain_hints ← with_ok or_empty f.domain_hints
  Ok (record {
    id = names.id;
    name = names.name;
    email = names.email;
    given_name = names.given_name;
    picture = names.picture;
    approved = approved;
    login_hints = login_hints;
    domain_hints = domain_hints;
  })
