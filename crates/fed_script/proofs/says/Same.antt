-- What a line is read as hangs on what it says under the names alone.
use Rattle.std.proofs.Common.{◌≡◌, ◌≢◌, ℕ, Bool, true, false, cond, List, Option, Some, None, refl, sym, ap, ap₂, ◌∙◌}
use Rattle.std.proofs.lemmas.Slice.Eq.{bytes_eq-Decides}
use Rattle.std.specs.Prelude.{option_and_then, is_some, Result, Ok, Err, bytes_eq, codes}
use Rattle.serde_json.specs.Data.{Data}
use Rattle.serde_json.specs.Find.{as_str, as_bool}
use Rattle.fed_origin.specs.Words.{kind_of_word, status_of_word, mediation_of_word, mode_of_word, context_of_word}
use Rattle.fed_script.specs.declared.cause.LineCause.{LineCause}
use Rattle.fed_script.specs.declared.cause.LineCause.TheVariants.{Member}
use Rattle.fed_script.specs.declared.cause.MemberName.{MemberName}
use Rattle.fed_script.specs.declared.cause.MemberName.TheVariants as names
use Rattle.fed_script.specs.declared.event.Event.TheVariants as events
use Rattle.fed_script.specs.Member.{◌>>=◌, or_cause, member_of, required, optional, some_of, as_word, as_whole, small, as_u32}
use Rattle.fed_script.specs.Raw.{base64_bytes, as_base64, bytes_of, optional_bytes, required_bytes}
use Rattle.fed_script.specs.Status.{setstatus_of}
use Rattle.fed_script.specs.Have.{login_of, kept_of, silent_of, cookie_of, said, have_of}
use Rattle.fed_script.specs.Single.{at_of, closepage_of, abort_of, go_on_of, cancel_of, signin_of, shutwindow_of}
use Rattle.fed_script.specs.Single.{idpclose_of, prevent_of}
use Rattle.fed_script.specs.Load.{load_of}
use Rattle.fed_script.specs.Options.{option_members}
use Rattle.fed_script.specs.Get.{provider_members}
use Rattle.fed_script.specs.Reply.{reply_of}
use Rattle.fed_script.specs.Choose.{choose_of}
use Rattle.fed_script.specs.Disconnect.{disconnect_members, disconnect_by, disconnect_of}
use Rattle.fed_script.specs.Header.{header_named}
use Rattle.fed_script.specs.Line.{kind_of, event_of_kind}

-- two values, if there are any, that are of the same kinds
pub record Alike (a b : Option Data) : Type 0 where
  pub there : is_some a ≡ is_some b
  pub text : option_and_then as_str a ≡ option_and_then as_str b
  pub whole : option_and_then as_whole a ≡ option_and_then as_whole b
  pub truth : option_and_then as_bool a ≡ option_and_then as_bool b

-- two objects with such values under each name
abbrev pub Same : Data → Data → Type 0
Same d e = (name : MemberName) → Alike (member_of name d) (member_of name e)

-- a kind is of the first step and of the second
then_after : {A B : Type 0} (f : Data → Option A) (g : A → Option B) (o : Option Data)
    → option_and_then (λ d. option_and_then g (f d)) o ≡ option_and_then g (option_and_then f o)
then_after f g None = refl
then_after f g (Some d) = refl

-- what is read of a kind is the same
same_after : {A B : Type 0} (f : Data → Option A) (g : A → Option B) (a b : Option Data)
    → option_and_then f a ≡ option_and_then f b
    → option_and_then (λ d. option_and_then g (f d)) a ≡ option_and_then (λ d. option_and_then g (f d)) b
same_after f g a b h = then_after f g a ∙ ap (option_and_then g) h ∙ sym (then_after f g b)

optional_is : {A : Type 0} (kind : Data → Option A) (name : MemberName) (a : Option Data)
    → optional kind name a ≡ cond (is_some a) (some_of (or_cause (Member name) (option_and_then kind a))) (Ok None)
optional_is kind name None = refl
optional_is kind name (Some d) = refl

-- what may be absent is read as the same
optional_same : {A : Type 0} (kind : Data → Option A) (name : MemberName) (a b : Option Data) → is_some a ≡ is_some b
    → option_and_then kind a ≡ option_and_then kind b → optional kind name a ≡ optional kind name b
optional_same kind name a b there read =
    optional_is kind name a ∙ ap₂ (λ h r. cond h (some_of (or_cause (Member name) r)) (Ok None)) there read
    ∙ sym (optional_is kind name b)

-- the next steps are the same
each_same : {A B : Type 0} (r : Result A LineCause) (f g : A → Result B LineCause) → ((x : A) → f x ≡ g x) → (r >>= f) ≡ (r >>= g)
each_same (Ok x) f g same = same x
each_same (Err cause) f g same = refl

apart_test : (b : Bool) (x y : List ℕ) → bytes_eq x y ≡ b → x ≢ y → b ≡ false
apart_test true x y is apart = absurd (apart ((bytes_eq-Decides x y).0 is))
apart_test false x y is apart = refl

not_equal : (x y : List ℕ) → x ≢ y → bytes_eq x y ≡ false
not_equal x y apart = apart_test (bytes_eq x y) x y refl apart

module _ (d e : Data) (same : Same d e) where
  text_same : (name : MemberName) → required as_str name d ≡ required as_str name e
  text_same name = ap (or_cause (Member name)) (same name).text

  whole_same : (name : MemberName) → required as_whole name d ≡ required as_whole name e
  whole_same name = ap (or_cause (Member name)) (same name).whole

  small_alike : (name : MemberName) → option_and_then as_u32 (member_of name d) ≡ option_and_then as_u32 (member_of name e)
  small_alike name = same_after as_whole small (member_of name d) (member_of name e) (same name).whole

  pub number_same : (name : MemberName) → required as_u32 name d ≡ required as_u32 name e
  number_same name = ap (or_cause (Member name)) (small_alike name)

  word_alike : {A : Type 0} (words : List ℕ → Option A) (name : MemberName)
      → option_and_then (as_word words) (member_of name d) ≡ option_and_then (as_word words) (member_of name e)
  word_alike words name = same_after as_str words (member_of name d) (member_of name e) (same name).text

  word_same : {A : Type 0} (words : List ℕ → Option A) (name : MemberName)
      → required (as_word words) name d ≡ required (as_word words) name e
  word_same words name = ap (or_cause (Member name)) (word_alike words name)

  optional_text_same : (name : MemberName) → optional as_str name (member_of name d) ≡ optional as_str name (member_of name e)
  optional_text_same name = optional_same as_str name (member_of name d) (member_of name e) (same name).there (same name).text

  optional_number_same : (name : MemberName) → optional as_u32 name (member_of name d) ≡ optional as_u32 name (member_of name e)
  optional_number_same name = optional_same as_u32 name (member_of name d) (member_of name e) (same name).there (small_alike name)

  optional_word_same : {A : Type 0} (words : List ℕ → Option A) (name : MemberName)
      → optional (as_word words) name (member_of name d) ≡ optional (as_word words) name (member_of name e)
  optional_word_same words name =
      optional_same (as_word words) name (member_of name d) (member_of name e) (same name).there (word_alike words name)

  -- ---- the bytes that a line gives

  abbrev bytes_by : Bool → Bool → Option (List ℕ) → Option (List ℕ) → Result (Option (List ℕ)) LineCause
  bytes_by true true text raw = Err (Member names.Text)
  bytes_by true false text raw = some_of (or_cause (Member names.Text) text)
  bytes_by false true text raw = some_of (or_cause (Member names.Raw) raw)
  bytes_by false false text raw = Ok None

  bytes_is : (a b : Option Data) → bytes_of a b ≡ bytes_by (is_some a) (is_some b) (option_and_then as_str a) (option_and_then as_base64 b)
  bytes_is None None = refl
  bytes_is (Some text) None = refl
  bytes_is None (Some raw) = refl
  bytes_is (Some text) (Some raw) = refl

  base64_alike : (name : MemberName) → option_and_then as_base64 (member_of name d) ≡ option_and_then as_base64 (member_of name e)
  base64_alike name = same_after as_str base64_bytes (member_of name d) (member_of name e) (same name).text

  optional_bytes_same : optional_bytes d ≡ optional_bytes e
  optional_bytes_same =
      bytes_is (member_of names.Text d) (member_of names.Raw d)
      ∙ rw ((same names.Text).there, (same names.Raw).there, (same names.Text).text, base64_alike names.Raw)
      (sym (bytes_is (member_of names.Text e) (member_of names.Raw e)))

  required_bytes_same : required_bytes d ≡ required_bytes e
  required_bytes_same = ap (λ r. r >>= or_cause (Member names.Text)) optional_bytes_same

  -- ---- lines of each kind

  at_same : at_of d ≡ at_of e
  at_same = rw (whole_same names.Time)

  closepage_same : closepage_of d ≡ closepage_of e
  closepage_same = rw (number_same names.Page)

  abort_same : abort_of d ≡ abort_of e
  abort_same = rw (number_same names.Call)

  go_on_same : go_on_of d ≡ go_on_of e
  go_on_same = rw (number_same names.Call)

  cancel_same : cancel_of d ≡ cancel_of e
  cancel_same = rw (number_same names.Call)

  signin_same : signin_of d ≡ signin_of e
  signin_same = rw (number_same names.Call)

  shutwindow_same : shutwindow_of d ≡ shutwindow_of e
  shutwindow_same = rw (number_same names.Call)

  idpclose_same : idpclose_of d ≡ idpclose_of e
  idpclose_same = rw (number_same names.Page)

  prevent_same : prevent_of d ≡ prevent_of e
  prevent_same = rw (number_same names.Page)

  setstatus_same : setstatus_of d ≡ setstatus_of e
  setstatus_same = rw (number_same names.Page, word_same status_of_word names.Status)

  load_same : load_of d ≡ load_of e
  load_same = rw (number_same names.Page, text_same names.Url, optional_bytes_same)

  choose_same : choose_of d ≡ choose_of e
  choose_same = rw (number_same names.Call, optional_number_same names.Provider, text_same names.Account)

  reply_same : reply_of d ≡ reply_of e
  reply_same =
      rw (number_same names.Call, optional_number_same names.Provider, word_same kind_of_word names.To, required_bytes_same)

  disconnect_members_same : disconnect_members d ≡ disconnect_members e
  disconnect_members_same =
      rw (number_same names.Page, number_same names.Call, text_same names.Config, text_same names.Client, text_same names.Hint)

  disconnect_same : disconnect_of d ≡ disconnect_of e
  disconnect_same = ap (λ r. r >>= disconnect_by) disconnect_members_same

  login_same : login_of d ≡ login_of e
  login_same = rw (text_same names.Origin, word_same status_of_word names.Status)

  kept_same : kept_of d ≡ kept_of e
  kept_same = rw (text_same names.Page, text_same names.Provider, text_same names.Account)

  silent_same : silent_of d ≡ silent_of e
  silent_same = rw (text_same names.Origin)

  cookie_same : cookie_of d ≡ cookie_of e
  cookie_same = rw (text_same names.Url, required_bytes_same)

  said_same : (what : List ℕ) → said what d ≡ said what e
  said_same what = rw (login_same, kept_same, silent_same, cookie_same)

  have_same : have_of d ≡ have_of e
  have_same =
      ap (λ r. r >>= λ what. said what d >>= λ have. Ok (events.Have have)) (text_same names.What)
      ∙ each_same (required as_str names.What e) _ _ (λ what. ap (λ r. r >>= λ have. Ok (events.Have have)) (said_same what))

  pub provider_same : provider_members d ≡ provider_members e
  provider_same =
      rw (
        text_same names.Config,
        text_same names.Client,
        optional_text_same names.Nonce,
        optional_text_same names.LoginHint,
        optional_text_same names.DomainHint,
        optional_text_same names.Params,
      )

  optional_truth_same : (name : MemberName) → optional as_bool name (member_of name d) ≡ optional as_bool name (member_of name e)
  optional_truth_same name = optional_same as_bool name (member_of name d) (member_of name e) (same name).there (same name).truth

  pub options_same : option_members d ≡ option_members e
  options_same =
      rw (
        optional_word_same mediation_of_word names.Mediation,
        optional_word_same mode_of_word names.Mode,
        optional_truth_same names.Activation,
        optional_word_same context_of_word names.Context,
      )

  pub header_same : header_named d ≡ header_named e
  header_same = rw (whole_same names.Fedcm, whole_same names.Now, text_same names.Rules)

  pub kind_same : kind_of d ≡ kind_of e
  kind_same = ap (or_cause _) (same names.Do).text

  -- the event of a line that is no get
  pub event_same : (kind : List ℕ) → kind ≢ codes "get" → event_of_kind kind d ≡ event_of_kind kind e
  event_same kind other =
      rw (
        not_equal kind (codes "get") other,
        have_same,
        at_same,
        load_same,
        closepage_same,
        abort_same,
        go_on_same,
        cancel_same,
        signin_same,
        shutwindow_same,
        reply_same,
        choose_same,
        idpclose_same,
        prevent_same,
        setstatus_same,
        disconnect_same,
      )
