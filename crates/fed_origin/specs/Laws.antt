-- What the definitions promise.
use Rattle.std.specs.Prelude.{◌≡◌, ◌↔◌, ℕ, List, Some}
use Rattle.fed_origin.specs.declared.options.Context.{Context}
use Rattle.fed_origin.specs.declared.options.Mediation.{Mediation}
use Rattle.fed_origin.specs.declared.options.Mode.{Mode}
use Rattle.fed_origin.specs.declared.stage.ReplyKind.{ReplyKind}
use Rattle.fed_origin.specs.declared.status.LoginStatus.{LoginStatus}
use Rattle.fed_origin.specs.Words.{mediation_text, mediation_of_word, mode_text, mode_of_word, context_text, context_of_word}
use Rattle.fed_origin.specs.Words.{kind_text, kind_of_word, status_text, status_of_word}

-- a word is read as what it was written for, and nothing else is read as that
pub record WordsAgree : Type 0 where
  pub mediations : (mediation : Mediation) (word : List ℕ)
      → (mediation_of_word word ≡ Some mediation) ↔ (word ≡ mediation_text mediation)
  pub modes : (mode : Mode) (word : List ℕ) → (mode_of_word word ≡ Some mode) ↔ (word ≡ mode_text mode)
  pub contexts : (context : Context) (word : List ℕ) → (context_of_word word ≡ Some context) ↔ (word ≡ context_text context)
  pub kinds : (kind : ReplyKind) (word : List ℕ) → (kind_of_word word ≡ Some kind) ↔ (word ≡ kind_text kind)
  pub statuses : (status : LoginStatus) (word : List ℕ) → (status_of_word word ≡ Some status) ↔ (Some word ≡ status_text status)
