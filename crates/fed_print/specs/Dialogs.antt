-- The objects of dialogs.
use Rattle.std.specs.Prelude.{ℕ, List, [], ◌∷◌, codes, not, Option, Some, option_map, map}
use Rattle.serde_json.specs.Data.{boolean, string, object, Members}
use Rattle.fed_consent.specs.declared.table.dialog.Dialog.{Dialog}
use Rattle.fed_consent.specs.declared.table.dialog.Dialog.TheVariants.{Choose, Prompt, Mismatch}
use Rattle.fed_consent.specs.declared.table.dialog.Shown.{Shown}
use Rattle.fed_consent.specs.declared.table.failure.Failure.{Failure}
use Rattle.fed_consent.specs.Words.{step_text, detail_text}
use Rattle.fed_origin.specs.declared.options.Context.{Context}
use Rattle.fed_origin.specs.Words.{context_text}
use Rattle.fed_print.specs.Objects.{count, present, objects}

-- an account that is shown
abbrev pub account_members : Shown → Members
account_members shown = present
    ((codes "connected", Some (boolean shown.connected))
    ∷ (codes "email", Some (string shown.email))
    ∷ (codes "given_name", option_map string shown.given_name)
    ∷ (codes "id", Some (string shown.id))
    ∷ (codes "name", Some (string shown.name))
    ∷ (codes "picture", option_map string shown.picture)
    ∷ (codes "provider", Some (count shown.provider))
    ∷ [])

-- the dialog to choose one of the accounts
abbrev pub choose_members : ℕ → ℕ → List Shown → Context → List ℕ → Members
choose_members line call accounts context site = present
    ((codes "accounts", Some (objects (map account_members accounts)))
    ∷ (codes "call", Some (count call))
    ∷ (codes "context", Some (string (context_text context)))
    ∷ (codes "dialog", Some (string (codes "choose")))
    ∷ (codes "line", Some (count line))
    ∷ (codes "out", Some (string (codes "dialog")))
    ∷ (codes "site", Some (string site))
    ∷ [])

-- The dialog to go on with one account. What the account's data is for is disclosed exactly where it is not connected.
abbrev pub prompt_members : ℕ → ℕ → Shown → Context → List ℕ → Option (List ℕ) → Option (List ℕ) → Members
prompt_members line call account context site privacy terms = present
    ((codes "account", Some (object (account_members account)))
    ∷ (codes "call", Some (count call))
    ∷ (codes "context", Some (string (context_text context)))
    ∷ (codes "dialog", Some (string (codes "prompt")))
    ∷ (codes "disclosure", Some (boolean (not account.connected)))
    ∷ (codes "line", Some (count line))
    ∷ (codes "out", Some (string (codes "dialog")))
    ∷ (codes "privacy", option_map string privacy)
    ∷ (codes "site", Some (string site))
    ∷ (codes "terms", option_map string terms)
    ∷ [])

-- the dialog of a provider that gave no account that fits
abbrev pub mismatch_members : ℕ → ℕ → ℕ → List ℕ → Failure → Members
mismatch_members line call provider site failure = present
    ((codes "call", Some (count call))
    ∷ (codes "detail", option_map (λ detail. string (detail_text detail)) failure.detail)
    ∷ (codes "dialog", Some (string (codes "mismatch")))
    ∷ (codes "line", Some (count line))
    ∷ (codes "out", Some (string (codes "dialog")))
    ∷ (codes "provider", Some (count provider))
    ∷ (codes "site", Some (string site))
    ∷ (codes "step", Some (string (step_text failure.step)))
    ∷ [])

abbrev pub dialog_members : ℕ → ℕ → Dialog → Members
dialog_members line call (Choose accounts context site) = choose_members line call accounts context site
dialog_members line call (Prompt account context site privacy terms) = prompt_members line call account context site privacy terms
dialog_members line call (Mismatch provider site failure) = mismatch_members line call provider site failure
