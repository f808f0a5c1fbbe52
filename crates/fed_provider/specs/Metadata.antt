-- The metadata of a client (FedCM, "The client metadata endpoint").
use Rattle.std.specs.Prelude.{ℕ, List, codes, Option, None, option_and_then, Result, Ok, Err}
use Rattle.std.specs.Result.{result_ok}
use Rattle.url.specs.Parts.{Parts}
use Rattle.serde_json.specs.Data.{Data}
use Rattle.fed_origin.specs.WebUrl.{web_url}
use Rattle.fed_reply.specs.declared.step.ReplyStep.{ReplyStep}
use Rattle.fed_reply.specs.declared.member.Member.{Member}
use Rattle.fed_reply.specs.Json.{ReplyJsonOf}
use Rattle.fed_reply.specs.Members.{text_under}
use Rattle.fed_provider.specs.declared.metadata.PolicyLinks.{PolicyLinks}
use Rattle.fed_reply.specs.Shape.{present}

-- the URL that a text gives
unfoldable pub url_in : List ℕ → Option Parts
url_in text = result_ok (web_url text)

-- the link that a member is: a text that is a URL
abbrev pub link_by : Member (List ℕ) → Option Parts
link_by text = option_and_then url_in (present text)

-- the link under the name
abbrev pub link_under : List ℕ → Data → Option Parts
link_under name file = link_by (text_under name file)

-- the links of a file; what was not read gives none
abbrev pub links_of : Result Data ReplyStep → PolicyLinks
links_of (Err step) = record { privacy = None; terms = None }
links_of (Ok file) =
    record {
      privacy = link_under (codes "privacy_policy_url") file;
      terms = link_under (codes "terms_of_service_url") file;
    }

-- the links in the reply `raw`
unfoldable pub MetadataOf : List ℕ → PolicyLinks
MetadataOf raw = links_of (ReplyJsonOf raw)
