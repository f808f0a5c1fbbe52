-- The object of a record can be read back: its names are in order, its texts UTF-8, and its numbers small.
use Rattle.std.proofs.Common.{◌≡◌, ℕ, zero, suc, ◌^◌, ◌<◌, ◌≤◌, Bool, true, false, ◌&&◌, nat_lt, cond, List, [], ◌∷◌, ◌++◌, IsUtf8}
use Rattle.std.proofs.Common.{Option, Some, None, map, max, refl, sym, ap, ◌∙◌, subst, arith}
use Rattle.std.proofs.lemmas.Bool.{and_parts}
use Rattle.std.proofs.lemmas.Str.{IsUtf8-from_ascii}
use Rattle.std.specs.Prelude.{flat_map}
use Rattle.std.specs.List.{AllByRecursion, list_all}
use Rattle.base64.specs.Engines.{standard}
use Rattle.base64.specs.GeneralPurpose.{encode_of}
use Rattle.base64.proofs.EngineFacts.{IsAscii-encode_of}
use Rattle.json.proofs.Printed.Utf8.{IsUtf8-are_ascii, are_ascii}
use Rattle.json.specs.Tree as tree
use Rattle.serde_json.specs.Data.{Items, Members, object}
use Rattle.serde_json.specs.Read.{max_depth}
use Rattle.serde_json.specs.View.{items_of}
use Rattle.serde_json.specs.Written.{items_outline, outline}
use Rattle.url.specs.Parts.{serialize}
use Rattle.fed_origin.specs.declared.options.Context.{Context}
use Rattle.fed_origin.specs.declared.stage.ReplyKind.{ReplyKind}
use Rattle.fed_consent.specs.declared.table.dialog.Dialog.{Dialog}
use Rattle.fed_consent.specs.declared.table.dialog.Dialog.TheVariants.{Choose, Prompt, Mismatch}
use Rattle.fed_consent.specs.declared.table.dialog.Shown.{Shown}
use Rattle.fed_consent.specs.declared.table.failure.Detail.{Detail}
use Rattle.fed_consent.specs.declared.table.failure.FailStep.{FailStep}
use Rattle.fed_consent.specs.declared.table.finish.Finish.{Finish}
use Rattle.fed_consent.specs.declared.table.finish.Finish.TheVariants.{Token, Disconnected, Failed, ProviderError}
use Rattle.fed_consent.specs.declared.table.why.Why.{Why}
use Rattle.fed_print.specs.Answers.{answer_members, failed_members, provider_error_members}
use Rattle.fed_print.specs.Dialogs.{account_members, choose_members, dialog_members, mismatch_members, prompt_members}
use Rattle.fed_print.specs.Records.{bytes_member, dropped_members, ignored_members, record_members, request_members, window_members}
use Rattle.fed_trace.specs.declared.out.Out.{Out}
use Rattle.fed_trace.specs.declared.out.Out.TheVariants as outs
use Rattle.fed_own.specs.Line.{IsSaid, end_members, given, shown_texts}
use Rattle.fed_own.proofs.lines.Plain.{ArePlain, IsPlain}
use Rattle.fed_own.proofs.lines.Words.{context_ascii, detail_ascii, error_ascii, kind_ascii, step_ascii, why_ascii}

-- an object that can be read back
pub record IsWritten (ms : Members) : Type 0 where
  pub plain : IsPlain (object ms)
  pub shallow : tree.depth (outline (object ms)) ≤ max_depth

by_depth : (n : ℕ) → n ≡ 1 → n ≤ max_depth
by_depth n h = omega (arith, h)

wide : (n : ℕ) → n < 2 ^ 32 → n < 2 ^ 64
wide n h = omega (arith, h)

word : (text : List ℕ) → are_ascii text ≡ true → IsUtf8 text
word text h = IsUtf8-are_ascii text h

-- ---- requests

ascii_is : (bytes : List ℕ) → list_all (λ b. nat_lt b 128) bytes ≡ true → are_ascii bytes ≡ true
ascii_is [] h = refl
ascii_is (b ∷ bytes) h = let parts = and_parts _ _ h in ap (λ x. x && are_ascii bytes) parts.0 ∙ ascii_is bytes parts.1

request_written : (line call provider : ℕ) (kind : ReplyKind) (bytes : List ℕ) → line < 2 ^ 32 → call < 2 ^ 32 → provider < 2 ^ 32
    → (ascii : Bool) → list_all (λ b. nat_lt b 128) bytes ≡ ascii
    → IsWritten (request_members line call provider kind (bytes_member (cond ascii (Some bytes) None) bytes))
request_written line call provider kind bytes l c p true is =
    record {
      plain = (
        refl,
        (
          wide call c,
          (word _ (kind_ascii kind), (wide line l, (word _ refl, (wide provider p, (word bytes (ascii_is bytes is), tt))))),
        ),
      );
      shallow = by_depth _ refl;
    }
request_written line call provider kind bytes l c p false is =
    record {
      plain = (
        refl,
        (
          wide call c,
          (
            word _ (kind_ascii kind),
            (
              wide line l,
              (word _ refl, (wide provider p, (IsUtf8-from_ascii (encode_of standard bytes) (IsAscii-encode_of standard bytes), tt))),
            ),
          ),
        ),
      );
      shallow = by_depth _ refl;
    }

-- ---- results

failed_written : (line call page : ℕ) (step : FailStep) (detail : Option Detail) → line < 2 ^ 32 → call < 2 ^ 32 → page < 2 ^ 32
    → IsWritten (failed_members line call page (record { step = step; detail = detail }))
failed_written line call page step None l c g =
    record {
      plain = (
        refl,
        (
          wide call c,
          (wide line l, (word _ refl, (wide page g, (word _ (error_ascii step), (word _ (step_ascii step), tt))))),
        ),
      );
      shallow = by_depth _ refl;
    }
failed_written line call page step (Some detail) l c g =
    record {
      plain = (
        refl,
        (
          wide call c,
          (
            word _ (detail_ascii detail),
            (wide line l, (word _ refl, (wide page g, (word _ (error_ascii step), (word _ (step_ascii step), tt))))),
          ),
        ),
      );
      shallow = by_depth _ refl;
    }

provider_error_written : (line call page : ℕ) (code : List ℕ) (url : Option (List ℕ)) → line < 2 ^ 32 → call < 2 ^ 32 → page < 2 ^ 32
    → IsUtf8 code → AllByRecursion IsUtf8 (given url) → IsWritten (provider_error_members line call page code url)
provider_error_written line call page code None l c g text none =
    record {
      plain = (
        refl,
        (wide call c, (text, (wide line l, (word _ refl, (wide page g, (word _ refl, (word _ refl, tt))))))),
      );
      shallow = by_depth _ refl;
    }
provider_error_written line call page code (Some url) l c g text other =
    record {
      plain = (
        refl,
        (wide call c, (text, (wide line l, (word _ refl, (wide page g, (word _ refl, (word _ refl, (other.0, tt)))))))),
      );
      shallow = by_depth _ refl;
    }

answer_written : (line call page : ℕ) (finish : Finish) → IsSaid (outs.Answer line call page finish)
    → IsWritten (answer_members line call page finish)
answer_written line call page (Token auto provider token) s =
    let n = s.numbers in
    record {
      plain = (
        refl,
        (
          tt,
          (
            wide call n.1.0,
            (
              wide line n.0,
              (word _ refl, (wide page n.1.1.0, (wide provider n.1.1.1.0, (word _ refl, (s.texts.0, tt))))),
            ),
          ),
        ),
      );
      shallow = by_depth _ refl;
    }
answer_written line call page Disconnected s =
    let n = s.numbers in
    record {
      plain = (
        refl,
        (wide call n.1.0, (wide line n.0, (word _ refl, (wide page n.1.1.0, (word _ refl, tt))))),
      );
      shallow = by_depth _ refl;
    }
answer_written line call page (Failed failure) s =
    let n = s.numbers in failed_written line call page failure.step failure.detail n.0 n.1.0 n.1.1.0
answer_written line call page (ProviderError code url) s =
    let n = s.numbers in provider_error_written line call page code url n.0 n.1.0 n.1.1.0 s.texts.0 s.texts.1

-- ---- other records

dropped_written : (line call provider : ℕ) (step : FailStep) (detail : Option Detail) → line < 2 ^ 32 → call < 2 ^ 32
    → provider < 2 ^ 32 → IsWritten (dropped_members line call provider (record { step = step; detail = detail }))
dropped_written line call provider step None l c p =
    record {
      plain = (
        refl,
        (wide call c, (wide line l, (word _ refl, (wide provider p, (word _ (step_ascii step), tt))))),
      );
      shallow = by_depth _ refl;
    }
dropped_written line call provider step (Some detail) l c p =
    record {
      plain = (
        refl,
        (
          wide call c,
          (word _ (detail_ascii detail), (wide line l, (word _ refl, (wide provider p, (word _ (step_ascii step), tt))))),
        ),
      );
      shallow = by_depth _ refl;
    }

window_written : (line call provider : ℕ) (url : List ℕ) → line < 2 ^ 32 → call < 2 ^ 32 → provider < 2 ^ 32 → IsUtf8 url
    → IsWritten (window_members line call provider url)
window_written line call provider url l c p text =
    record {
      plain = (refl, (wide call c, (wide line l, (word _ refl, (wide provider p, (text, tt))))));
      shallow = by_depth _ refl;
    }

ignored_written : (line : ℕ) (why : Why) → line < 2 ^ 32 → IsWritten (ignored_members line why)
ignored_written line why l =
    record { plain = (refl, (wide line l, (word _ refl, (word _ (why_ascii why), tt)))); shallow = by_depth _ refl }

pub end_written : (events : ℕ) → events < 2 ^ 32 → IsWritten (end_members events)
end_written events e = record { plain = (refl, (wide events e, (word _ refl, tt))); shallow = by_depth _ refl }

-- ---- dialogs

mismatch_written : (line call provider : ℕ) (site : List ℕ) (step : FailStep) (detail : Option Detail) → line < 2 ^ 32 → call < 2 ^ 32
    → provider < 2 ^ 32 → IsUtf8 site
    → IsWritten (mismatch_members line call provider site (record { step = step; detail = detail }))
mismatch_written line call provider site step None l c p text =
    record {
      plain = (
        refl,
        (
          wide call c,
          (word _ refl, (wide line l, (word _ refl, (wide provider p, (text, (word _ (step_ascii step), tt)))))),
        ),
      );
      shallow = by_depth _ refl;
    }
mismatch_written line call provider site step (Some detail) l c p text =
    record {
      plain = (
        refl,
        (
          wide call c,
          (
            word _ (detail_ascii detail),
            (word _ refl, (wide line l, (word _ refl, (wide provider p, (text, (word _ (step_ascii step), tt)))))),
          ),
        ),
      );
      shallow = by_depth _ refl;
    }

-- an account that can be read back
record IsAccount (ms : Members) : Type 0 where
  plain : IsPlain (object ms)
  depth : tree.depth (outline (object ms)) ≡ 1

-- an account by its parts
abbrev of_parts : ℕ → List ℕ → List ℕ → List ℕ → Bool → Option (List ℕ) → Option (List ℕ) → Shown
of_parts provider id name email connected given_name picture =
    record {
      provider = provider;
      id = id;
      name = name;
      email = email;
      given_name = given_name;
      picture = picture;
      connected = connected;
    }

account_by : (provider : ℕ) (id name email : List ℕ) (connected : Bool) (given_name picture : Option (List ℕ)) → provider < 2 ^ 32
    → IsUtf8 id → IsUtf8 name → IsUtf8 email → AllByRecursion IsUtf8 (given given_name) → AllByRecursion IsUtf8 (given picture)
    → IsAccount (account_members (of_parts provider id name email connected given_name picture))
account_by provider id name email connected None None p i n e g f =
    record { plain = (refl, (tt, (e, (i, (n, (wide provider p, tt)))))); depth = refl }
account_by provider id name email connected None (Some picture) p i n e g f =
    record { plain = (refl, (tt, (e, (i, (n, (f.0, (wide provider p, tt))))))); depth = refl }
account_by provider id name email connected (Some given_name) None p i n e g f =
    record { plain = (refl, (tt, (e, (g.0, (i, (n, (wide provider p, tt))))))); depth = refl }
account_by provider id name email connected (Some given_name) (Some picture) p i n e g f =
    record { plain = (refl, (tt, (e, (g.0, (i, (n, (f.0, (wide provider p, tt)))))))); depth = refl }

-- all of two lists
record Both {X : Type 0} (P : X → Type 0) (xs ys : List X) : Type 0 where
  first : AllByRecursion P xs
  second : AllByRecursion P ys

split : {X : Type 0} (P : X → Type 0) (xs ys : List X) → AllByRecursion P (xs ++ ys) → Both P xs ys
split P [] ys h = record { first = tt; second = h }
split P (x ∷ xs) ys h = let rest = split P xs ys h.1 in record { first = (h.0, rest.first); second = rest.second }

account_is : (shown : Shown) → shown.provider < 2 ^ 32 → AllByRecursion IsUtf8 (shown_texts shown) → IsAccount (account_members shown)
account_is shown p texts =
    let more = split IsUtf8 (given shown.given_name) (given shown.picture) texts.1.1.1 in
    account_by shown.provider shown.id shown.name shown.email shown.connected shown.given_name shown.picture p texts.0 texts.1.0 texts.1.1.0
    more.first more.second

abbrev accounts_items : List Shown → Items
accounts_items accounts = items_of (map object (map account_members accounts))

record AreAccounts (accounts : List Shown) : Type 0 where
  plain : ArePlain (accounts_items accounts)
  depth : tree.items_depth (items_outline (accounts_items accounts)) ≤ 1

max_one : (n : ℕ) → n ≤ 1 → max 1 n ≤ 1
max_one zero h = omega arith
max_one (suc zero) h = omega arith
max_one (suc (suc n)) h = absurd (omega (arith, h))

accounts_are : (accounts : List Shown) → AllByRecursion (λ n. n < 2 ^ 32) (map (λ (shown : Shown). shown.provider) accounts)
    → AllByRecursion IsUtf8 (flat_map shown_texts accounts) → AreAccounts accounts
accounts_are [] numbers texts = record { plain = tt; depth = omega arith }
accounts_are (shown ∷ accounts) numbers texts =
    let parts = split IsUtf8 (shown_texts shown) (flat_map shown_texts accounts) texts in
    let this = account_is shown numbers.0 parts.first in
    let rest = accounts_are accounts numbers.1 parts.second in
    let below = tree.items_depth (items_outline (accounts_items accounts)) in
    record {
      plain = (this.plain, rest.plain);
      depth = subst (λ d. max d below ≤ 1) (sym this.depth) (max_one below rest.depth);
    }

-- an object of a list and of what has no depth
list_shallow : (n : ℕ) → n ≤ 1 → suc (max (suc n) 0) ≤ max_depth
list_shallow zero h = omega arith
list_shallow (suc zero) h = omega arith
list_shallow (suc (suc n)) h = absurd (omega (arith, h))

choose_written : (line call : ℕ) (accounts : List Shown) (context : Context) (site : List ℕ) → line < 2 ^ 32 → call < 2 ^ 32 → IsUtf8 site
    → AreAccounts accounts → IsWritten (choose_members line call accounts context site)
choose_written line call accounts context site l c text are =
    record {
      plain = (
        refl,
        (
          are.plain,
          (wide call c, (word _ (context_ascii context), (word _ refl, (wide line l, (word _ refl, (text, tt)))))),
        ),
      );
      shallow = list_shallow (tree.items_depth (items_outline (accounts_items accounts))) are.depth;
    }

-- an object of an account and of what has no depth
prompt_shallow : (n : ℕ) → n ≡ 1 → suc (max n 0) ≤ max_depth
prompt_shallow n h = subst (λ d. suc (max d 0) ≤ max_depth) (sym h) (omega arith)

prompt_written : (line call : ℕ) (account : Shown) (context : Context) (site : List ℕ) (privacy terms : Option (List ℕ)) → line < 2 ^ 32
    → call < 2 ^ 32 → IsUtf8 site → AllByRecursion IsUtf8 (given privacy) → AllByRecursion IsUtf8 (given terms)
    → IsAccount (account_members account) → IsWritten (prompt_members line call account context site privacy terms)
prompt_written line call account context site None None l c text p t a =
    record {
      plain = (
        refl,
        (
          a.plain,
          (wide call c, (word _ (context_ascii context), (word _ refl, (tt, (wide line l, (word _ refl, (text, tt))))))),
        ),
      );
      shallow = prompt_shallow (tree.depth (outline (object (account_members account)))) a.depth;
    }
prompt_written line call account context site None (Some terms) l c text p t a =
    record {
      plain = (
        refl,
        (
          a.plain,
          (wide call c, (word _ (context_ascii context), (word _ refl, (tt, (wide line l, (word _ refl, (text, (t.0, tt)))))))),
        ),
      );
      shallow = prompt_shallow (tree.depth (outline (object (account_members account)))) a.depth;
    }
prompt_written line call account context site (Some privacy) None l c text p t a =
    record {
      plain = (
        refl,
        (
          a.plain,
          (wide call c, (word _ (context_ascii context), (word _ refl, (tt, (wide line l, (word _ refl, (p.0, (text, tt)))))))),
        ),
      );
      shallow = prompt_shallow (tree.depth (outline (object (account_members account)))) a.depth;
    }
prompt_written line call account context site (Some privacy) (Some terms) l c text p t a =
    record {
      plain = (
        refl,
        (
          a.plain,
          (
            wide call c,
            (word _ (context_ascii context), (word _ refl, (tt, (wide line l, (word _ refl, (p.0, (text, (t.0, tt)))))))),
          ),
        ),
      );
      shallow = prompt_shallow (tree.depth (outline (object (account_members account)))) a.depth;
    }

dialog_written : (line call : ℕ) (dialog : Dialog) → IsSaid (outs.Dialog line call dialog) → IsWritten (dialog_members line call dialog)
dialog_written line call (Choose accounts context site) s =
    let n = s.numbers in
    choose_written line call accounts context site n.0 n.1.0 s.texts.0 (accounts_are accounts n.1.1 s.texts.1)
dialog_written line call (Prompt account context site privacy terms) s =
    let n = s.numbers in
    let first = split IsUtf8 (given privacy) (given terms ++ shown_texts account) s.texts.1 in
    let more = split IsUtf8 (given terms) (shown_texts account) first.second in
    prompt_written line call account context site privacy terms n.0 n.1.0 s.texts.0 first.first more.first
    (account_is account n.1.1.0 more.second)
dialog_written line call (Mismatch provider site failure) s =
    let n = s.numbers in
    mismatch_written line call provider site failure.step failure.detail n.0 n.1.0 n.1.1.0 s.texts.0

-- ---- together

pub written : (out : Out) → IsSaid out → IsWritten (record_members out)
written (outs.Request line call provider kind bytes) s =
    let n = s.numbers in
    request_written line call provider kind bytes n.0 n.1.0 n.1.1.0 (list_all (λ b. nat_lt b 128) bytes) refl
written (outs.Dropped line call provider failure) s =
    let n = s.numbers in dropped_written line call provider failure.step failure.detail n.0 n.1.0 n.1.1.0
written (outs.Dialog line call dialog) s = dialog_written line call dialog s
written (outs.Window line call provider url) s =
    let n = s.numbers in window_written line call provider (serialize url) n.0 n.1.0 n.1.1.0 s.texts.0
written (outs.Answer line call page finish) s = answer_written line call page finish s
written (outs.Ignored line why) s = ignored_written line why s.numbers.0
