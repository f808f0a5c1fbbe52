-- What is good of configurations and accounts: their URLs are of the web, and their texts are UTF-8.
use Rattle.std.specs.Prelude.{⊤}
use Rattle.std.specs.Str.{IsUtf8}
use Rattle.fed_origin.specs.declared.options.ProviderOptions.{ProviderOptions}
use Rattle.fed_provider.specs.declared.config.Config.{Config}
use Rattle.fed_provider.specs.declared.first_replies.FirstReplies.{FirstReplies}
use Rattle.fed_provider.specs.declared.metadata.PolicyLinks.{PolicyLinks}
use Rattle.fed_accounts.specs.declared.account.Account.{Account}
use Rattle.fed_token.specs.declared.step.TokenStep.{TokenStep}
use Rattle.fed_token.specs.declared.step.TokenStep.TheVariants as token_steps
use Rattle.fed_own.proofs.json.Values.{IfSo}
use Rattle.fed_own.proofs.plain.Web.{IsWeb}

-- what a call says of a provider
pub record GoodOptions (options : ProviderOptions) : Type 0 where
  pub config : IsWeb options.config
  pub client : IsUtf8 options.client
  pub nonce : IfSo IsUtf8 options.nonce
  pub params : IfSo IsUtf8 options.params

pub record GoodConfig (config : Config) : Type 0 where
  pub accounts : IsWeb config.accounts
  pub assertion : IsWeb config.assertion
  pub login : IsWeb config.login
  pub metadata : IfSo IsWeb config.metadata
  pub disconnect : IfSo IsWeb config.disconnect

-- the first replies of a provider
abbrev pub GoodReplies : FirstReplies → Type 0
GoodReplies replies = IfSo GoodConfig replies.config

pub record GoodAccount (account : Account) : Type 0 where
  pub id : IsUtf8 account.id
  pub name : IsUtf8 account.name
  pub email : IsUtf8 account.email
  pub given_name : IfSo IsUtf8 account.given_name
  pub picture : IfSo IsUtf8 account.picture

-- the links of a client
pub record GoodLinks (links : PolicyLinks) : Type 0 where
  pub privacy : IfSo IsWeb links.privacy
  pub terms : IfSo IsWeb links.terms

-- an error that a provider says
abbrev pub GoodStep : TokenStep → Type 0
GoodStep (token_steps.ProviderError code url) = IsUtf8 code × IfSo IsUtf8 url
GoodStep (token_steps.Reply step) = ⊤
GoodStep token_steps.Cors = ⊤
GoodStep token_steps.Shape = ⊤
