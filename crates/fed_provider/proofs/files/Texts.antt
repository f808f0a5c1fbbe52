-- A configuration by the texts that are found in its file.
use Rattle.std.proofs.Common.{◌≡◌, ℕ, List, Ok, ap, ◌∙◌}
use Rattle.std.specs.Prelude.{codes}
use Rattle.url.specs.Parts.{Parts}
use Rattle.serde_json.specs.Data.{Data}
use Rattle.fed_reply.specs.declared.member.Member.{Member}
use Rattle.fed_reply.specs.Json.{ReplyJsonOf}
use Rattle.fed_reply.specs.Members.{text_under}
use Rattle.fed_reply.specs.Steps.{◌>>=◌, with_step}
use Rattle.fed_provider.specs.declared.step.ProviderStep.TheVariants.{ConfigReply}
use Rattle.fed_provider.specs.Config.{texts_by, texts_of, endpoints, ConfigOf}

same_texts : (file : Data) (a b c d e : Member (List ℕ)) → text_under (codes "accounts_endpoint") file ≡ a
    → text_under (codes "id_assertion_endpoint") file ≡ b → text_under (codes "login_url") file ≡ c
    → text_under (codes "client_metadata_endpoint") file ≡ d → text_under (codes "disconnect_endpoint") file ≡ e
    → texts_of file ≡ texts_by a b c d e
unfolding texts_of
same_texts file a b c d e p q r s t =
    ap (λ x. texts_by x (text_under (codes "id_assertion_endpoint") file) (text_under (codes "login_url") file)
    (text_under (codes "client_metadata_endpoint") file) (text_under (codes "disconnect_endpoint") file)) p
    ∙ (ap (λ x. texts_by a x (text_under (codes "login_url") file) (text_under (codes "client_metadata_endpoint") file)
    (text_under (codes "disconnect_endpoint") file)) q
    ∙ (ap (λ x. texts_by a b x (text_under (codes "client_metadata_endpoint") file) (text_under (codes "disconnect_endpoint") file)) r
    ∙ (ap (λ x. texts_by a b c x (text_under (codes "disconnect_endpoint") file)) s ∙ ap (λ x. texts_by a b c d x) t)))

-- the configuration of a file that was read, by what is found under its names
pub config_is : (raw : List ℕ) (config : Parts) (file : Data) (a b c d e : Member (List ℕ)) → ReplyJsonOf raw ≡ Ok file
    → text_under (codes "accounts_endpoint") file ≡ a → text_under (codes "id_assertion_endpoint") file ≡ b
    → text_under (codes "login_url") file ≡ c → text_under (codes "client_metadata_endpoint") file ≡ d
    → text_under (codes "disconnect_endpoint") file ≡ e → ConfigOf raw config ≡ (texts_by a b c d e >>= endpoints config)
unfolding ConfigOf
config_is raw config file a b c d e read p q r s t =
    ap (λ f. with_step ConfigReply f >>= (λ v. texts_of v >>= endpoints config)) read
    ∙ ap (λ x. x >>= endpoints config) (same_texts file a b c d e p q r s t)
