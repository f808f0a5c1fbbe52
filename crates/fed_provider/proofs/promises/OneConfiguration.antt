-- What one well-known file says for several configuration URLs.
use Rattle.std.proofs.Common.{◌≡◌, ℕ, Bool, true, false, List, Option, Some, None, Result, Ok, Err, refl, sym, ◌∙◌, rules, if◌then◌else◌}
use Rattle.std.specs.Prelude.{bytes_eq, codes}
use Rattle.std.proofs.lemmas.Slice.Eq.{bytes_eq-Decides}
use Rattle.url.specs.Parts.{Parts, serialize}
use Rattle.serde_json.specs.Data.{Data}
use Rattle.fed_origin.specs.declared.refusal.UrlRefusal.{UrlRefusal}
use Rattle.fed_origin.specs.WebUrl.{joined_url}
use Rattle.fed_reply.specs.Steps.{◌>>=◌, with_step}
use Rattle.fed_reply.specs.Json.{ReplyJsonOf}
use Rattle.fed_provider.specs.declared.step.ProviderStep.{ProviderStep}
use Rattle.fed_provider.specs.declared.step.ProviderStep.TheVariants.{WellKnownReply, WellKnownOther}
use Rattle.fed_reply.specs.declared.member.Member.{Member}
use Rattle.fed_reply.specs.declared.member.Member.TheVariants.{Absent, Wrong, Is}
use Rattle.fed_reply.specs.Members.{text_under}
use Rattle.fed_provider.specs.declared.wellknown.WellKnown.{WellKnown}
use Rattle.fed_provider.specs.declared.wellknown.WellKnown.TheVariants.{Listed, Direct}
use Rattle.fed_provider.specs.Laws.{OneConfiguration, FormIsOfFile, OneAccountsUrl}
use Rattle.fed_provider.specs.WellKnown.{names, listed, file_url, direct, by_form, form_of, WellKnownOf, first_other, same_text}

abbrev passed : Result WellKnown ProviderStep
passed = Ok Listed

names_text : (url config : Parts) (t : Bool) → bytes_eq (serialize url) (serialize config) ≡ t
    → (if t then passed else Err WellKnownOther) ≡ passed → serialize url ≡ serialize config
names_text url config true is e = (bytes_eq-Decides (serialize url) (serialize config)).0 is
names_text url config false is e = absurd (grind rules)

both_named : (u v : Parts) (r : Result Parts UrlRefusal) → names u r ≡ passed → names v r ≡ passed → serialize u ≡ serialize v
both_named u v (Ok url) e f = sym (names_text url u _ refl e) ∙ names_text url v _ refl f
both_named u v (Err refusal) e f = absurd (grind rules)

both_listed : (base u v : Parts) (text : Result (List ℕ) ProviderStep) → (text >>= (λ t. names u (joined_url base t))) ≡ passed
    → (text >>= (λ t. names v (joined_url base t))) ≡ passed → serialize u ≡ serialize v
both_listed base u v (Ok text) e f = both_named u v (joined_url base text) e f
both_listed base u v (Err step) e f = absurd (grind rules)

-- a file that names endpoints is not one that lists
not_direct : (base : Parts) (accounts login : List ℕ) → direct base accounts login ≡ passed → ⊥
not_direct base accounts login e = go (file_url (joined_url base accounts)) (file_url (joined_url base login)) e
  where
    go : (a b : Result Parts ProviderStep) → (a >>= (λ to. b >>= (λ window. Ok (Direct to window)))) ≡ passed → ⊥
    go (Ok a) (Ok b) e = absurd (grind rules)
    go (Ok a) (Err step) e = absurd (grind rules)
    go (Err step) b e = absurd (grind rules)

both_formed : (base u v : Parts) (file : Data) (accounts login : Member (List ℕ)) → by_form base u file accounts login ≡ passed
    → by_form base v file accounts login ≡ passed → serialize u ≡ serialize v
both_formed base u v file (Is accounts) (Is login) e f = absurd (not_direct base accounts login e)
both_formed base u v file (Is accounts) Absent e f = both_listed base u v _ e f
both_formed base u v file (Is accounts) Wrong e f = both_listed base u v _ e f
both_formed base u v file Absent login e f = both_listed base u v _ e f
both_formed base u v file Wrong login e f = both_listed base u v _ e f

both_read : (base u v : Parts) (file : Result Data ProviderStep) → (file >>= form_of base u) ≡ passed
    → (file >>= form_of base v) ≡ passed
    → serialize u ≡ serialize v
both_read base u v (Ok file) e f =
    both_formed base u v file (text_under (codes "accounts_endpoint") file) (text_under (codes "login_url") file) e f
both_read base u v (Err step) e f = absurd (grind rules)

pub one_configuration_lem : OneConfiguration
unfolding WellKnownOf
one_configuration_lem raw base u v e f = both_read base u v (with_step WellKnownReply (ReplyJsonOf raw)) e f

-- a file that lists is not one that names endpoints
not_named : (config : Parts) (t : Bool) (accounts login : Parts)
    → (if t then passed else Err WellKnownOther) ≡ Ok (Direct accounts login) → ⊥
not_named config true accounts login e = absurd (grind rules)
not_named config false accounts login e = absurd (grind rules)

not_listed : (base config : Parts) (only : Option (List ℕ)) (accounts login : Parts)
    → listed base config only ≡ Ok (Direct accounts login) → ⊥
not_listed base config None accounts login e = absurd (grind rules)
not_listed base config (Some text) accounts login e = go (joined_url base text) e
  where
    go : (r : Result Parts UrlRefusal) → names config r ≡ Ok (Direct accounts login) → ⊥
    go (Ok url) e = not_named config (bytes_eq (serialize url) (serialize config)) accounts login e
    go (Err refusal) e = absurd (grind rules)

formed : (base u v : Parts) (file : Data) (a b : Member (List ℕ)) (accounts login : Parts)
    → by_form base u file a b ≡ Ok (Direct accounts login) → by_form base v file a b ≡ Ok (Direct accounts login)
formed base u v file (Is a) (Is b) accounts login e = e
formed base u v file (Is a) Absent accounts login e = absurd (not_listed base u _ accounts login e)
formed base u v file (Is a) Wrong accounts login e = absurd (not_listed base u _ accounts login e)
formed base u v file Absent b accounts login e = absurd (not_listed base u _ accounts login e)
formed base u v file Wrong b accounts login e = absurd (not_listed base u _ accounts login e)

form_read : (base u v : Parts) (file : Result Data ProviderStep) (accounts login : Parts)
    → (file >>= form_of base u) ≡ Ok (Direct accounts login) → (file >>= form_of base v) ≡ Ok (Direct accounts login)
form_read base u v (Ok file) accounts login e =
    formed base u v file (text_under (codes "accounts_endpoint") file) (text_under (codes "login_url") file) accounts login e
form_read base u v (Err step) accounts login e = absurd (grind rules)

pub form_is_of_file : FormIsOfFile
unfolding WellKnownOf
form_is_of_file raw base u v accounts login e = form_read base u v (with_step WellKnownReply (ReplyJsonOf raw)) accounts login e

pub one_accounts_url_lem : OneAccountsUrl
one_accounts_url_lem accounts login config e =
    go (same_text config.accounts accounts) refl (same_text config.login login) refl e
  where
    go : (a : Bool) → same_text config.accounts accounts ≡ a → (b : Bool) → same_text config.login login ≡ b → first_other a b ≡ None
        → (serialize config.accounts ≡ serialize accounts) × (serialize config.login ≡ serialize login)
    go true is true is' e = ((bytes_eq-Decides _ _).0 is, (bytes_eq-Decides _ _).0 is')
    go true is false is' e = absurd (cc)
    go false is b is' e = absurd (cc)
