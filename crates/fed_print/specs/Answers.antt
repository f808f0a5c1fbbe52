-- The objects of what a promise gets.
use Rattle.std.specs.Prelude.{ℕ, Bool, List, [], ◌∷◌, codes, Option, Some, option_map}
use Rattle.serde_json.specs.Data.{boolean, string, Members}
use Rattle.fed_consent.specs.declared.table.failure.Failure.{Failure}
use Rattle.fed_consent.specs.declared.table.finish.Finish.{Finish}
use Rattle.fed_consent.specs.declared.table.finish.Finish.TheVariants.{Token, Disconnected, Failed, ProviderError}
use Rattle.fed_consent.specs.Words.{step_text, error_name, detail_text}
use Rattle.fed_print.specs.Objects.{count, present}

-- a token
abbrev pub token_members : ℕ → ℕ → ℕ → Bool → ℕ → List ℕ → Members
token_members line call page auto provider token = present
    ((codes "auto", Some (boolean auto))
    ∷ (codes "call", Some (count call))
    ∷ (codes "line", Some (count line))
    ∷ (codes "out", Some (string (codes "result")))
    ∷ (codes "page", Some (count page))
    ∷ (codes "provider", Some (count provider))
    ∷ (codes "see", Some (string (codes "token")))
    ∷ (codes "token", Some (string token))
    ∷ [])

-- a failure, of which the page sees the name of an error alone
abbrev pub failed_members : ℕ → ℕ → ℕ → Failure → Members
failed_members line call page failure = present
    ((codes "call", Some (count call))
    ∷ (codes "detail", option_map (λ detail. string (detail_text detail)) failure.detail)
    ∷ (codes "line", Some (count line))
    ∷ (codes "out", Some (string (codes "result")))
    ∷ (codes "page", Some (count page))
    ∷ (codes "see", Some (string (error_name failure.step)))
    ∷ (codes "step", Some (string (step_text failure.step)))
    ∷ [])

-- the provider's own error: its code stands there also where it is empty
abbrev pub provider_error_members : ℕ → ℕ → ℕ → List ℕ → Option (List ℕ) → Members
provider_error_members line call page code url = present
    ((codes "call", Some (count call))
    ∷ (codes "code", Some (string code))
    ∷ (codes "line", Some (count line))
    ∷ (codes "out", Some (string (codes "result")))
    ∷ (codes "page", Some (count page))
    ∷ (codes "see", Some (string (codes "IdentityCredentialError")))
    ∷ (codes "step", Some (string (codes "provider-error")))
    ∷ (codes "url", option_map string url)
    ∷ [])

-- the members that each answer has, and what the page sees
abbrev pub seen_members : ℕ → ℕ → ℕ → List ℕ → Members
seen_members line call page see = present
    ((codes "call", Some (count call))
    ∷ (codes "line", Some (count line))
    ∷ (codes "out", Some (string (codes "result")))
    ∷ (codes "page", Some (count page))
    ∷ (codes "see", Some (string see))
    ∷ [])

-- by what the promise gets; of an account that was disconnected nothing else is said
abbrev pub answer_members : ℕ → ℕ → ℕ → Finish → Members
answer_members line call page (Token auto provider token) = token_members line call page auto provider token
answer_members line call page Disconnected = seen_members line call page (codes "disconnected")
answer_members line call page (Failed failure) = failed_members line call page failure
answer_members line call page (ProviderError code url) = provider_error_members line call page code url
