-- What it means that a transcript passes.
use Rattle.std.specs.Prelude.{◌≡◌, ℕ, Bool, List, [], ◌∷◌, ◌++◌, Option}
use Rattle.fed_origin.specs.declared.stage.ReplyKind.{ReplyKind}
use Rattle.fed_origin.specs.declared.stage.ReplyKind.TheVariants as kinds
use Rattle.fed_script.specs.Script.{Script}
use Rattle.fed_audit.specs.declared.record.Record.{Record}
use Rattle.fed_audit.specs.declared.record.Record.TheVariants.{Request, Token}
use Rattle.fed_audit.specs.Audit.{PassInTurn, HasPlace}
use Rattle.fed_audit.specs.Clauses.{HasOrigin, HasCookies, MayAsk}
use Rattle.fed_audit.specs.Scene.{Scene}
use Rattle.fed_audit.specs.Token.{IsGiven}

-- lines that pass, with the record that says this among theirs, and those before it
pub record Passed (script : Script) (said : Record) : Type 0 where
  pub lines : List (List ℕ)
  pub records : List Record
  pub pass : PassInTurn script lines [] records
  pub newer : List Record
  pub older : List Record
  pub all : records ≡ newer ++ said ∷ older

-- it was judged by the row of the event that it comes from
pub record Judged (script : Script) (said : Record) (older : List Record) (P : Scene → Type 0) : Type 0 where
  pub scene : Scene
  pub place : HasPlace script older said scene
  pub holds : P scene

-- each request has the Origin and the cookies that are due
abbrev pub RequestsAreDue : Type 0
RequestsAreDue =
    (script : Script) (line call provider : ℕ) (kind : ReplyKind) (bytes : List ℕ)
    → (p : Passed script (Request line call provider kind bytes))
    → Judged script (Request line call provider kind bytes) p.older (λ s. HasOrigin s call kind bytes × HasCookies s kind bytes)

-- each request for a token has its cause, and is the first of its call
abbrev pub TokensAreCaused : Type 0
TokensAreCaused =
    (script : Script) (line call provider : ℕ) (bytes : List ℕ) → (p : Passed script (Request line call provider kinds.Assertion bytes))
    → Judged script (Request line call provider kinds.Assertion bytes) p.older (λ s. MayAsk s call provider bytes)

-- each token is that of the reply to a request of its own call
abbrev pub TokensAreGiven : Type 0
TokensAreGiven =
    (script : Script) (line call provider : ℕ) (token : List ℕ) (page : Option ℕ) (auto : Option Bool)
    → (p : Passed script (Token line call provider token page auto))
    → Judged script (Token line call provider token page auto) p.older (λ s. IsGiven s call provider token)
