-- What is kept of records after one more.
use Rattle.std.proofs.Common.{◌≡◌, ℕ, Bool, true, false, nat_eq, ◌||◌, List, [], ◌∷◌, ◌++◌, Option, Some, None, refl, sym, ap, ◌∙◌, arith}
use Rattle.std.proofs.Common.{cond}
use Rattle.std.proofs.lemmas.Bool.Decides.{nat_tests}
use Rattle.std.proofs.lemmas.List.Folds.{list_any-append}
use Rattle.std.specs.Prelude.{is_some}
use Rattle.std.specs.Option.{option_or}
use Rattle.std.specs.List.{list_any}
use Rattle.std.specs.Map.{lookup}
use Rattle.indexmap.specs.IndexMap.{insert_entry}
use Rattle.fed_origin.specs.declared.stage.ReplyKind.TheVariants as kinds
use Rattle.fed_trace.proofs.keyed.Keyed.{lookup-insert_entry}
use Rattle.fed_trace.specs.Trace.{Trace}
use Rattle.fed_audit.specs.declared.record.Record.{Record}
use Rattle.fed_audit.specs.declared.record.Record.TheVariants.{Request}
use Rattle.fed_audit.specs.declared.seen.Seen.{Seen}
use Rattle.fed_audit.specs.Follow.{Follows, Notes, answered_with, is_at, is_place, last_place}
use Rattle.fed_audit.specs.Record.{place_asked, is_result_of}

-- ---- what happened stays

abbrev with_asked : Seen → List (ℕ × ℕ) → Seen
with_asked seen asked = record seen { asked = asked }

abbrev with_answered : Seen → List ℕ → Seen
with_answered seen answered = record seen { answered = answered }

pub follows_asked : (seen : Seen) (T : Trace) (asked : List (ℕ × ℕ)) → Follows seen T → Follows (record seen { asked = asked }) T
follows_asked seen T asked h =
    record { stands = h.stands; taken = h.taken; calls = h.calls; replaced = h.replaced; asks = h.asks }

pub follows_answered : (seen : Seen) (T : Trace) (answered : List ℕ) → Follows seen T → Follows (record seen { answered = answered }) T
follows_answered seen T answered h =
    record { stands = h.stands; taken = h.taken; calls = h.calls; replaced = h.replaced; asks = h.asks }

-- ---- a record that asks for no token and is no result

pub notes_same : (seen : Seen) (r : Record) (earlier : List Record) → ((q : ℕ) → place_asked q r ≡ None)
    → ((q : ℕ) → is_result_of q r ≡ false) → Notes seen earlier → Notes seen (r ∷ earlier)
notes_same seen r earlier place result n =
    record {
      asked = λ q. n.asked q ∙ ap (λ o. option_or o (last_place q earlier)) (sym (place q));
      once = λ q p.
          ap (λ o. is_at p o || list_any (is_place q p) earlier) (place q)
          ∙ (n.once q p ∙ ap (λ o. is_at p (option_or o (last_place q earlier))) (sym (place q)));
      answered = λ q. n.answered q ∙ ap (λ b. b || list_any (is_result_of q) earlier) (sym (result q));
    }

-- ---- a result

or_same : (a b : Bool) → (a ≡ true → b ≡ true) → b ≡ a || b
or_same true b h = h refl
or_same false b h = refl

held : (q call : ℕ) (answered : List ℕ) → list_any (nat_eq call) answered ≡ true → nat_eq q call ≡ true
    → list_any (nat_eq q) answered ≡ true
held q call answered h same =
    let key : q ≡ call = grind (arith, nat_tests, same) in ap (λ k. list_any (nat_eq k) answered) key ∙ h

more_answered : (q call : ℕ) (answered : List ℕ) (b : Bool) → list_any (nat_eq call) answered ≡ b
    → list_any (nat_eq q) (cond b answered (answered ++ call ∷ [])) ≡ nat_eq q call || list_any (nat_eq q) answered
more_answered q call answered true h =
    or_same (nat_eq q call) (list_any (nat_eq q) answered) (held q call answered h)
more_answered q call answered false h =
    list_any-append (nat_eq q) answered (call ∷ []) ∙ turn (list_any (nat_eq q) answered) (nat_eq q call)
  where
    turn : (x y : Bool) → x || (y || false) ≡ y || x
    turn true true = refl
    turn true false = refl
    turn false true = refl
    turn false false = refl

pub notes_result : (seen : Seen) (r : Record) (call : ℕ) (earlier : List Record) → ((q : ℕ) → place_asked q r ≡ None)
    → ((q : ℕ) → is_result_of q r ≡ nat_eq q call) → Notes seen earlier
    → Notes (record seen { answered = answered_with call seen.answered }) (r ∷ earlier)
notes_result seen r call earlier place result n =
    record {
      asked = λ q. n.asked q ∙ ap (λ o. option_or o (last_place q earlier)) (sym (place q));
      once = λ q p.
          ap (λ o. is_at p o || list_any (is_place q p) earlier) (place q)
          ∙ (n.once q p ∙ ap (λ o. is_at p (option_or o (last_place q earlier))) (sym (place q)));
      answered = λ q.
          more_answered q call seen.answered (list_any (nat_eq call) seen.answered) refl
          ∙ (ap (λ b. nat_eq q call || b) (n.answered q) ∙ ap (λ b. b || list_any (is_result_of q) earlier) (sym (result q)));
    }

-- ---- a request for a token

asked_at : (q call provider : ℕ) (asked : List (ℕ × ℕ)) (old : Option ℕ) → lookup (nat_eq q) asked ≡ old
    → cond (nat_eq q call) (Some provider) (lookup (nat_eq q) asked) ≡ option_or (cond (nat_eq q call) (Some provider) None) old
asked_at q call provider asked old is = go (nat_eq q call)
  where
    go : (b : Bool) → cond b (Some provider) (lookup (nat_eq q) asked) ≡ option_or (cond b (Some provider) None) old
    go true = refl
    go false = is

once_at : (q p call provider : ℕ) (b any : Bool) (old : Option ℕ) → nat_eq q call ≡ b → any ≡ is_at p old
    → (nat_eq q call ≡ true → is_some old ≡ false)
    → is_at p (cond b (Some provider) None) || any ≡ is_at p (option_or (cond b (Some provider) None) old)
once_at q p call provider false any old is h first = h
once_at q p call provider true any None is h first = or_false (nat_eq p provider) any h
  where
    or_false : (x any : Bool) → any ≡ false → x || any ≡ x
    or_false true any h = refl
    or_false false any h = h
once_at q p call provider true any (Some o) is h first = let never : true ≡ false = first is in absurd (cc)

pub notes_request : (seen : Seen) (line call provider : ℕ) (bytes : List ℕ) (earlier : List Record)
    → is_some (last_place call earlier) ≡ false → Notes seen earlier
    → Notes (record seen { asked = insert_entry nat_eq seen.asked call provider })
    (Request line call provider kinds.Assertion bytes ∷ earlier)
notes_request seen line call provider bytes earlier first n =
    record {
      asked = λ q.
          lookup-insert_entry q call provider seen.asked
          ∙ asked_at q call provider seen.asked (last_place q earlier) (n.asked q);
      once = λ q p.
          once_at q p call provider (nat_eq q call) (list_any (is_place q p) earlier) (last_place q earlier) refl (n.once q p)
          (λ same. let key : q ≡ call = grind (arith, nat_tests, same) in ap (λ k. is_some (last_place k earlier)) key ∙ first);
      answered = n.answered;
    }
