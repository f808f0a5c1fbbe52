-- What is found among some values by its word is a value of that word.
use Rattle.std.proofs.Common.{◌≡◌, ℕ, Bool, true, false, cond, List, [], ◌∷◌, Option, Some, None, refl, sym, ap, ◌∙◌}
use Rattle.std.proofs.lemmas.Slice.Eq.{bytes_eq-Decides}
use Rattle.std.specs.Prelude.{find, bytes_eq, codes}
use Rattle.fed_origin.specs.declared.options.Context.{Context}
use Rattle.fed_origin.specs.declared.options.Context.TheVariants.{SignIn, SignUp, UseHere, GoOn}
use Rattle.fed_origin.specs.declared.options.Mediation.{Mediation}
use Rattle.fed_origin.specs.declared.options.Mediation.TheVariants.{Silent, Optional, Required}
use Rattle.fed_origin.specs.declared.options.Mode.{Mode}
use Rattle.fed_origin.specs.declared.options.Mode.TheVariants.{Passive, Active}
use Rattle.fed_origin.specs.declared.stage.ReplyKind.{ReplyKind}
use Rattle.fed_origin.specs.declared.stage.ReplyKind.TheVariants.{WellKnown, Config, Accounts, Metadata, Assertion, Disconnect}
use Rattle.fed_origin.specs.declared.status.LoginStatus.{LoginStatus}
use Rattle.fed_origin.specs.declared.status.LoginStatus.TheVariants.{Unknown, LoggedIn, LoggedOut}
use Rattle.fed_origin.specs.Laws.{WordsAgree}
use Rattle.fed_origin.specs.Words.{mediation_text, mediation_of_word, mode_text, mode_of_word, context_text, context_of_word}
use Rattle.fed_origin.specs.Words.{kind_text, kind_of_word, status_text, is_text, status_of_word}

-- what is found passes the test
passes : {A : Type 0} (p : A → Bool) (xs : List A) (x : A) → find p xs ≡ Some x → p x ≡ true
passes p [] x found = absurd (cc)
passes p (y ∷ ys) x found = by (p y) refl found (passes p ys x)
  where
    by : (b : Bool) → p y ≡ b → cond b (Some y) (find p ys) ≡ Some x → (find p ys ≡ Some x → p x ≡ true) → p x ≡ true
    by true is here rest = let same : y ≡ x = cc in ap p (sym same) ∙ is
    by false is later rest = rest later

mediation_word : (mediation : Mediation) → mediation_of_word (mediation_text mediation) ≡ Some mediation
mediation_word Silent = refl
mediation_word Optional = refl
mediation_word Required = refl

mediation_text-of_word : (mediation : Mediation) (word : List ℕ) → mediation_of_word word ≡ Some mediation
    → word ≡ mediation_text mediation
mediation_text-of_word mediation word read =
    let test : Mediation → Bool = λ x. bytes_eq word (mediation_text x) in
    (bytes_eq-Decides word (mediation_text mediation)).0 (passes test (Silent ∷ Optional ∷ Required ∷ []) mediation read)

mode_word : (mode : Mode) → mode_of_word (mode_text mode) ≡ Some mode
mode_word Passive = refl
mode_word Active = refl

mode_text-of_word : (mode : Mode) (word : List ℕ) → mode_of_word word ≡ Some mode → word ≡ mode_text mode
mode_text-of_word mode word read =
    let test : Mode → Bool = λ x. bytes_eq word (mode_text x) in
    (bytes_eq-Decides word (mode_text mode)).0 (passes test (Passive ∷ Active ∷ []) mode read)

context_word : (context : Context) → context_of_word (context_text context) ≡ Some context
context_word SignIn = refl
context_word SignUp = refl
context_word UseHere = refl
context_word GoOn = refl

context_text-of_word : (context : Context) (word : List ℕ) → context_of_word word ≡ Some context → word ≡ context_text context
context_text-of_word context word read =
    let test : Context → Bool = λ x. bytes_eq word (context_text x) in
    (bytes_eq-Decides word (context_text context)).0 (passes test (SignIn ∷ SignUp ∷ UseHere ∷ GoOn ∷ []) context read)

kind_word : (kind : ReplyKind) → kind_of_word (kind_text kind) ≡ Some kind
kind_word WellKnown = refl
kind_word Config = refl
kind_word Accounts = refl
kind_word Metadata = refl
kind_word Assertion = refl
kind_word Disconnect = refl

kind_text-of_word : (kind : ReplyKind) (word : List ℕ) → kind_of_word word ≡ Some kind → word ≡ kind_text kind
kind_text-of_word kind word read =
    let test : ReplyKind → Bool = λ x. bytes_eq word (kind_text x) in
    let all = WellKnown ∷ Config ∷ Accounts ∷ Metadata ∷ Assertion ∷ Disconnect ∷ [] in
    (bytes_eq-Decides word (kind_text kind)).0 (passes test all kind read)

status_word : (status : LoginStatus) (word : List ℕ) → Some word ≡ status_text status → status_of_word word ≡ Some status
status_word Unknown word is = absurd (cc)
status_word LoggedIn word is = let same : word ≡ codes "logged-in" = cc in ap status_of_word same
status_word LoggedOut word is = let same : word ≡ codes "logged-out" = cc in ap status_of_word same

-- a text that is there is this one
is_word : (word : List ℕ) (text : Option (List ℕ)) → is_text word text ≡ true → Some word ≡ text
is_word word None is = absurd (cc)
is_word word (Some text) is = ap Some ((bytes_eq-Decides word text).0 is)

status_text-of_word : (status : LoginStatus) (word : List ℕ) → status_of_word word ≡ Some status → Some word ≡ status_text status
status_text-of_word status word read =
    is_word word (status_text status) (passes (λ x. is_text word (status_text x)) (LoggedIn ∷ LoggedOut ∷ []) status read)

pub words_agree : WordsAgree
words_agree = record {
  mediations = λ mediation word. (mediation_text-of_word mediation word, λ is. ap mediation_of_word is ∙ mediation_word mediation);
  modes = λ mode word. (mode_text-of_word mode word, λ is. ap mode_of_word is ∙ mode_word mode);
  contexts = λ context word. (context_text-of_word context word, λ is. ap context_of_word is ∙ context_word context);
  kinds = λ kind word. (kind_text-of_word kind word, λ is. ap kind_of_word is ∙ kind_word kind);
  statuses = λ status word. (status_text-of_word status word, status_word status word);
}
