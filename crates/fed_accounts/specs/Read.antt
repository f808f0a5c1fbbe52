-- The accounts in a reply of the accounts endpoint (FedCM, "The accounts list endpoint").
use Rattle.std.specs.Prelude.{ℕ, List, [], ◌∷◌, codes, Option, Some, None, ok_or, Result, Ok, Err}
use Rattle.serde_json.specs.Data.{Data, Items, no_items, item}
use Rattle.serde_json.specs.Find.{as_str}
use Rattle.fed_reply.specs.declared.member.Member.{Member}
use Rattle.fed_reply.specs.declared.member.Member.TheVariants.{Absent, Wrong, Is}
use Rattle.fed_reply.specs.Steps.{◌>>=◌, with_ok, with_step}
use Rattle.fed_reply.specs.Json.{ReplyJsonOf}
use Rattle.fed_reply.specs.Members.{text_under, list_under}
use Rattle.fed_reply.specs.Shape.{required, optional}
use Rattle.fed_accounts.specs.declared.account.Account.{Account}
use Rattle.fed_accounts.specs.declared.step.AccountsStep.{AccountsStep}
use Rattle.fed_accounts.specs.declared.step.AccountsStep.TheVariants.{Reply, Shape, Empty}
use Rattle.fed_accounts.specs.Accounts.{first_of_each_id}

-- ---- members

-- what f makes of each item, or the step at the first where it makes none
abbrev pub each : {A : Type 0} → (Data → Result A AccountsStep) → Items → Result (List A) AccountsStep
each f no_items = Ok []
each f (item d ds) = do
  a ← f d
  more ← each f ds
  Ok (a ∷ more)

-- an item that is a text
abbrev pub text_of : Data → Result (List ℕ) AccountsStep
text_of d = ok_or (as_str d) Shape

-- a list of texts that may be left out
abbrev pub optional_list : Member Items → Result (Option (List (List ℕ))) AccountsStep
optional_list Absent = Ok None
optional_list Wrong = Err Shape
optional_list (Is items) = with_ok Some (each text_of items)

-- a list of texts, which is empty where it is left out
abbrev pub list_or_empty : Member Items → Result (List (List ℕ)) AccountsStep
list_or_empty Absent = Ok []
list_or_empty Wrong = Err Shape
list_or_empty (Is items) = each text_of items

-- ---- an account

pub record AccountTexts : Type 0 where
  pub id : List ℕ
  pub name : List ℕ
  pub email : List ℕ
  pub given_name : Option (List ℕ)
  pub picture : Option (List ℕ)

-- the texts of an entry, or the step where one is missing or no text
unfoldable pub texts_of : Data → Result AccountTexts AccountsStep
texts_of entry = do
  id ← required Shape (text_under (codes "id") entry)
  name ← required Shape (text_under (codes "name") entry)
  email ← required Shape (text_under (codes "email") entry)
  given_name ← optional Shape (text_under (codes "given_name") entry)
  picture ← optional Shape (text_under (codes "picture") entry)
  Ok (record { id = id; name = name; email = email; given_name = given_name; picture = picture })

-- the account with those texts and the lists of the entry
unfoldable pub with_lists : AccountTexts → Data → Result Account AccountsStep
with_lists texts entry = do
  approved ← optional_list (list_under (codes "approved_clients") entry)
  login_hints ← list_or_empty (list_under (codes "login_hints") entry)
  domain_hints ← list_or_empty (list_under (codes "domain_hints") entry)
  Ok (record {
    id = texts.id;
    name = texts.name;
    email = texts.email;
    given_name = texts.given_name;
    picture = texts.picture;
    approved = approved;
    login_hints = login_hints;
    domain_hints = domain_hints;
  })

-- the account of an entry
unfoldable pub account_of : Data → Result Account AccountsStep
account_of entry = do
  texts ← texts_of entry
  with_lists texts entry

-- ---- the list

-- the first account of each id, where there is an account
abbrev pub with_some : List Account → Result (List Account) AccountsStep
with_some [] = Err Empty
with_some (a ∷ accounts) = Ok (first_of_each_id (a ∷ accounts))

-- the accounts in the reply `raw`, or the first step
unfoldable pub AccountsOf : List ℕ → Result (List Account) AccountsStep
AccountsOf raw = do
  file ← with_step Reply (ReplyJsonOf raw)
  entries ← required Shape (list_under (codes "accounts") file)
  accounts ← each account_of entries
  with_some accounts
