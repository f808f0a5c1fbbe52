-- The accounts of a provider are good.
use Rattle.std.proofs.Common.{ℕ, List, [], ◌∷◌, Option}
use Rattle.std.specs.Prelude.{⊤, codes, filter, not, Result, Ok, Err}
use Rattle.std.specs.List.{AllByRecursion}
use Rattle.std.specs.Str.{IsUtf8}
use Rattle.serde_json.specs.Data.{Data, Items, item, no_items}
use Rattle.fed_reply.specs.Json.{ReplyJsonOf}
use Rattle.fed_reply.specs.Members.{list_under, text_under}
use Rattle.fed_reply.specs.Shape.{optional, required}
use Rattle.fed_reply.specs.Steps.{with_step}
use Rattle.fed_accounts.specs.declared.account.Account.{Account}
use Rattle.fed_accounts.specs.declared.step.AccountsStep.{AccountsStep}
use Rattle.fed_accounts.specs.declared.step.AccountsStep.TheVariants.{Reply, Shape}
use Rattle.fed_accounts.specs.Accounts.{first_of_each_id, same_id}
use Rattle.fed_accounts.specs.Hints.{Hinted, is_hinted, some_left}
use Rattle.fed_accounts.specs.Read.{AccountTexts, AccountsOf, account_of, each, list_or_empty, optional_list, texts_of, with_lists}
use Rattle.fed_accounts.specs.Read.{with_some}
use Rattle.fed_own.proofs.json.Values.{HasTexts, IfSo, ItemsHaveTexts}
use Rattle.fed_own.proofs.plain.Good.{GoodAccount}
use Rattle.fed_own.proofs.plain.Json.{list_is, reply_texts, text_is}
use Rattle.fed_own.proofs.plain.Results.{IfOk, all_kept, optional_is, required_is, step_mapped, steps_then}

record GoodTexts (texts : AccountTexts) : Type 0 where
  id : IsUtf8 texts.id
  name : IsUtf8 texts.name
  email : IsUtf8 texts.email
  given_name : IfSo IsUtf8 texts.given_name
  picture : IfSo IsUtf8 texts.picture

entry_texts : (entry : Data) → HasTexts entry → IfOk GoodTexts (texts_of entry)
unfolding texts_of
entry_texts entry h =
    steps_then IsUtf8 GoodTexts (required Shape (text_under (codes "id") entry)) _
    (required_is IsUtf8 Shape (text_under (codes "id") entry) (text_is (codes "id") entry h))
    (λ id a. steps_then IsUtf8 GoodTexts (required Shape (text_under (codes "name") entry)) _
    (required_is IsUtf8 Shape (text_under (codes "name") entry) (text_is (codes "name") entry h))
    (λ name b. steps_then IsUtf8 GoodTexts (required Shape (text_under (codes "email") entry)) _
    (required_is IsUtf8 Shape (text_under (codes "email") entry) (text_is (codes "email") entry h))
    (λ email c. steps_then (IfSo IsUtf8) GoodTexts (optional Shape (text_under (codes "given_name") entry)) _
    (optional_is IsUtf8 Shape (text_under (codes "given_name") entry) (text_is (codes "given_name") entry h))
    (λ given_name d. steps_then (IfSo IsUtf8) GoodTexts (optional Shape (text_under (codes "picture") entry)) _
    (optional_is IsUtf8 Shape (text_under (codes "picture") entry) (text_is (codes "picture") entry h))
    (λ picture e. record { id = a; name = b; email = c; given_name = d; picture = e })))))

-- whatever is read
any_ok : {A : Type 0} (r : Result A AccountsStep) → IfOk (λ a. ⊤) r
any_ok (Ok a) = tt
any_ok (Err step) = tt

lists_good : (texts : AccountTexts) (entry : Data) → GoodTexts texts → IfOk GoodAccount (with_lists texts entry)
unfolding with_lists
lists_good texts entry t =
    steps_then (λ a. ⊤) GoodAccount (optional_list (list_under (codes "approved_clients") entry)) _
    (any_ok (optional_list (list_under (codes "approved_clients") entry)))
    (λ approved a. steps_then (λ b. ⊤) GoodAccount (list_or_empty (list_under (codes "login_hints") entry)) _
    (any_ok (list_or_empty (list_under (codes "login_hints") entry)))
    (λ login b. steps_then (λ c. ⊤) GoodAccount (list_or_empty (list_under (codes "domain_hints") entry)) _
    (any_ok (list_or_empty (list_under (codes "domain_hints") entry)))
    (λ domain c. record { id = t.id; name = t.name; email = t.email; given_name = t.given_name; picture = t.picture })))

account_good : (entry : Data) → HasTexts entry → IfOk GoodAccount (account_of entry)
unfolding account_of
account_good entry h = steps_then GoodTexts GoodAccount (texts_of entry) _ (entry_texts entry h) (λ texts t. lists_good texts entry t)

abbrev AllGood : List Account → Type 0
AllGood = AllByRecursion GoodAccount

each_good : (entries : Items) → ItemsHaveTexts entries → IfOk AllGood (each account_of entries)
each_good no_items h = tt
each_good (item d ds) h =
    steps_then GoodAccount AllGood (account_of d) _ (account_good d h.0)
    (λ account a. steps_then AllGood AllGood (each account_of ds) _ (each_good ds h.1) (λ more b. (a, b)))

firsts_good : (accounts : List Account) → AllGood accounts → AllGood (first_of_each_id accounts)
firsts_good [] h = tt
firsts_good (a ∷ accounts) h =
    (h.0, all_kept GoodAccount (λ b. not (same_id b a)) (first_of_each_id accounts) (firsts_good accounts h.1))

some_good : (accounts : List Account) → AllGood accounts → IfOk AllGood (with_some accounts)
some_good [] h = tt
some_good (a ∷ accounts) h = firsts_good (a ∷ accounts) h

pub accounts_good : (raw : List ℕ) → IfOk AllGood (AccountsOf raw)
unfolding AccountsOf
accounts_good raw =
    steps_then HasTexts AllGood (with_step Reply (ReplyJsonOf raw)) _ (step_mapped HasTexts Reply (ReplyJsonOf raw) (reply_texts raw))
    (λ file h. steps_then ItemsHaveTexts AllGood (required Shape (list_under (codes "accounts") file)) _
    (required_is ItemsHaveTexts Shape (list_under (codes "accounts") file) (list_is (codes "accounts") file h))
    (λ entries e. steps_then AllGood AllGood (each account_of entries) _ (each_good entries e) (λ accounts a. some_good accounts a)))

left_good : (accounts : List Account) → AllGood accounts → IfOk AllGood (some_left accounts)
left_good [] h = tt
left_good (a ∷ accounts) h = h

pub hinted_good : (accounts : List Account) (login domain : Option (List ℕ)) → AllGood accounts
    → IfOk AllGood (Hinted accounts login domain)
unfolding Hinted
hinted_good accounts login domain h =
    left_good (filter (is_hinted login domain) accounts) (all_kept GoodAccount (is_hinted login domain) accounts h)
