-- The texts of a list, one after another.
use Rattle.std.proofs.Common.{◌≡◌, ℕ, List, [], ◌∷◌, ◌++◌, Option, Some, None, refl, sym, ap, ◌∙◌, append_assoc, append-nil}
use Rattle.std.specs.Prelude.{Result, Ok, Err, ok_or}
use Rattle.std.specs.Borrow.{Bor}
use Rattle.std.proofs.lemmas.List.{map-append}
use Rattle.json.specs.Token.{Token}
use Rattle.json.specs.Json.{parse_map, after_end_array}
use Rattle.serde_json.specs.Data.{Num, Data, string, Items, no_items, item}
use Rattle.serde_json.specs.Find.{as_str}
use Rattle.serde_json.specs.Read.{number_of}
use Rattle.fed_json.specs.Value.{number_or_negative}
use Rattle.fed_json.specs.declared.reading.Begun.{Begun}
use Rattle.fed_json.specs.declared.reading.Begun.TheVariants as begun
use Rattle.fed_json.specs.declared.reading.Begun.TheVariants.{Null, Number, Text, Array, Object}
use Rattle.fed_json.specs.Values.{value_in, items_in, IsBegun}
use Rattle.fed_json.proofs.values.Steps.{items_begin, items_next, items_last, items_none}
use Rattle.fed_reply.specs.Steps.{◌>>=◌, with_ok}
use Rattle.fed_accounts.specs.declared.step.AccountsStep.{AccountsStep}
use Rattle.fed_accounts.specs.declared.step.AccountsStep.TheVariants.{Shape}
use Rattle.fed_accounts.specs.Entry.{texts}
use Rattle.fed_accounts.specs.Found.{texts_listed}
use Rattle.fed_accounts.specs.Read.{each, text_of}

-- of the items of a list some were read, which are these texts
pub record ReadsTexts (depth : ℕ) (start now : List Token) (found : List (Bor (List ℕ))) : Type 0 where
  pub before : Items → Items
  pub is : items_in depth start ≡ parse_map before (items_in depth now)
  pub texts : (left : Items) → each text_of (before left) ≡ with_ok (λ more. texts found ++ more) (each text_of left)

nothing_more : (r : Result (List (List ℕ)) AccountsStep) → r ≡ with_ok (λ more. [] ++ more) r
nothing_more (Ok more) = refl
nothing_more (Err step) = refl

pub texts_begin : (depth : ℕ) (start : List Token) (found : List (Bor (List ℕ))) → found ≡ [] → ReadsTexts depth start start found
texts_begin depth start found none =
    record {
      before = λ ds. ds;
      is = items_begin depth start;
      texts = λ left. rw none (nothing_more (each text_of left));
    }

one_more : (found : List (List ℕ)) (text : List ℕ) (r : Result (List (List ℕ)) AccountsStep)
    → with_ok (λ more. found ++ more) (r >>= (λ more. Ok (text ∷ more))) ≡ with_ok (λ more. (found ++ text ∷ []) ++ more) r
one_more found text (Ok more) = ap (λ l. Ok l) (sym (append_assoc found (text ∷ []) more))
one_more found text (Err step) = refl

read_first : (d : Data) (text : List ℕ) (left : Items) → d ≡ string text
    → each text_of (item d left) ≡ (each text_of left >>= (λ more. Ok (text ∷ more)))
read_first d text left is = ap (λ x. each text_of (item x left)) is

pub texts_more : {depth : ℕ} {start now left : List Token} {found new_found : List (Bor (List ℕ))} (d : Data) (text : Bor (List ℕ))
    → ReadsTexts depth start now found → after_end_array now ≡ None → value_in depth now ≡ Some (d, left) → d ≡ string text.now
    → new_found ≡ found ++ text ∷ [] → ReadsTexts depth start left new_found
texts_more {depth} {start} {now} {left} {found} {new_found} d text here going read is added =
    record {
      before = λ ds. here.before (item d ds);
      is = items_next depth start now left here.before d here.is going read;
      texts =
          λ ds. here.texts (item d ds) ∙ ap (with_ok (λ more. texts found ++ more)) (read_first d text.now ds is)
          ∙ one_more (texts found) text.now (each text_of ds)
          ∙ ap (λ l. with_ok (λ more. l ++ more) (each text_of ds)) (sym (ap texts added ∙ map-append (λ t. t.now) found (text ∷ [])));
    }

pub texts_end : {depth : ℕ} {start now left : List Token} {found : List (Bor (List ℕ))} → (here : ReadsTexts depth start now found)
    → after_end_array now ≡ Some left
    → (ds : Items) × (items_in depth start ≡ Some (ds, left)) × (Ok (Some (texts found)) ≡ texts_listed ds)
texts_end {depth} {start} {now} {left} {found} here over = (
  here.before no_items,
  items_last depth start now left here.before here.is over,
  sym (ap (with_ok (λ ts. Some ts)) (here.texts no_items ∙ ap (λ l. Ok l) (append-nil (texts found)))),
)

number_text : (o : Option Num) → as_str (number_or_negative o) ≡ None
number_text None = refl
number_text (Some n) = refl

not_text : (first : Begun) (d : Data) → ((s : Bor (List ℕ)) → first ≡ Text s → ⊥) → IsBegun first d → as_str d ≡ None
not_text Null d never h = ap as_str h
not_text (begun.Bool b) d never h = ap as_str h
not_text (Number s) d never h = ap as_str h ∙ number_text (number_of s.now)
not_text (Text s) d never h = absurd (never s refl)
not_text (Array depth) d never h = ap as_str h.1
not_text (Object depth) d never h = ap as_str h.1

-- an item that is no text
pub texts_refused : {depth : ℕ} {start now left rest : List Token} {found : List (Bor (List ℕ))} (first : Begun) (d : Data) (ds : Items)
    → (here : ReadsTexts depth start now found) → after_end_array now ≡ None → value_in depth now ≡ Some (d, left) → IsBegun first d
    → ((s : Bor (List ℕ)) → first ≡ Text s → ⊥) → items_in depth left ≡ Some (ds, rest)
    → (all : Items) × (items_in depth start ≡ Some (all, rest)) × (Err Shape ≡ texts_listed all)
texts_refused {depth} {start} {now} {left} {rest} {found} first d ds here going read is never more = (
  here.before (item d ds),
  items_next depth start now left here.before d here.is going read ∙ ap (parse_map (λ l. here.before (item d l))) more,
  sym (ap (with_ok (λ ts. Some ts)) (here.texts (item d ds)
      ∙ ap (λ o. with_ok (λ more. texts found ++ more) (ok_or o Shape >>= (λ t. each text_of ds >>= (λ more. Ok (t ∷ more)))))
      (not_text first d never is))),
)

-- what is no value is no list
pub texts_unread : {depth : ℕ} {start now : List Token} {found : List (Bor (List ℕ))} → ReadsTexts depth start now found
    → after_end_array now ≡ None → value_in depth now ≡ None → items_in depth start ≡ None
texts_unread {depth} {start} {now} {found} here going none = items_none depth start now here.before here.is going none

pub texts_unread_more : {depth : ℕ} {start now left : List Token} {found : List (Bor (List ℕ))} (d : Data)
    → ReadsTexts depth start now found → after_end_array now ≡ None → value_in depth now ≡ Some (d, left)
    → items_in depth left ≡ None → items_in depth start ≡ None
texts_unread_more {depth} {start} {now} {left} {found} d here going read none =
    items_next depth start now left here.before d here.is going read ∙ ap (parse_map (λ l. here.before (item d l))) none
