-- What a reply of the assertion endpoint says, for private clauses.
use Rattle.std.specs.Prelude.{◌≡◌, ℕ, List, [], codes, bytes_eq, Option, Some, None, unwrap_or, Result, if◌then◌else◌}
use Rattle.serde_json.specs.Data.{Data, Members}
use Rattle.serde_json.specs.Find.{as_str, get_member}
use Rattle.fed_reply.specs.declared.member.Member.{Member}
use Rattle.fed_reply.specs.Members.{member_map, member_here, member_found, whole_object}
use Rattle.fed_reply.specs.Shape.{present, required}
use Rattle.fed_token.specs.declared.said.ErrorTexts.{ErrorTexts}
use Rattle.fed_token.specs.declared.said.Said.{Said}
use Rattle.fed_token.specs.declared.step.TokenStep.{TokenStep}
use Rattle.fed_token.specs.declared.step.TokenStep.TheVariants.{Shape, ProviderError}
use Rattle.fed_token.specs.Read.{error_step, token_of}

-- the token of a value, and the step where it has none
pub record SaidParts : Type 0 where
  pub token : Member (List ℕ)
  pub step : TokenStep

-- the step by the texts of an error
abbrev pub step_by : Option ErrorTexts → TokenStep
step_by None = Shape
step_by (Some error) =
    ProviderError (unwrap_or (present (member_map (λ s. s.now) error.code)) []) (present (member_map (λ s. s.now) error.url))

-- what the code holds
abbrev pub parts : Said → SaidParts
parts said = record { token = member_map (λ s. s.now) said.token; step = step_by said.error }

-- what members say
abbrev pub parts_of : Members → SaidParts
parts_of ms =
    record {
      token = member_found as_str (get_member (codes "token") ms);
      step = error_step (member_found whole_object (get_member (codes "error") ms));
    }

-- the same with a member of that name
abbrev pub parts_with : List ℕ → Data → SaidParts → SaidParts
parts_with name d said =
    if bytes_eq name (codes "token") then record said { token = member_here as_str d }
    else (if bytes_eq name (codes "error") then record said { step = error_step (member_here whole_object d) } else said)

-- the token, and else the step
abbrev pub token_by : SaidParts → Result (List ℕ) TokenStep
token_by said = required said.step said.token

-- what is said is the token of the value, or its step
abbrev pub Says : Said → Data → Type 0
Says said d = token_by (parts said) ≡ token_of d

-- the texts are those of the error that a value is
abbrev pub IsError : Option ErrorTexts → Data → Type 0
IsError error d = step_by error ≡ error_step (member_here whole_object d)
