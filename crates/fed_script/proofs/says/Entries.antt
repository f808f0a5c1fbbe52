-- What the entries of a list of providers say, one after another.
use Rattle.std.proofs.Common.{◌≡◌, ◌<◌, ◌≤◌, ℕ, zero, suc, ◌+◌, ◌-◌, ◌==◌, ◌++◌, Bool, true, false, cond, ◌&&◌, List, [], ◌∷◌}
use Rattle.std.proofs.Common.{length, map, drop, get_or, Option}
use Rattle.std.proofs.Common.{Some, None, refl, sym, ap, ◌∙◌, arith}
use Rattle.std.proofs.lemmas.List.{append-nil, append_assoc, drop_all}
use Rattle.std.proofs.lemmas.Bool.Decides.{nat_tests}
use Rattle.std.proofs.Math.Dec.{leb-suc-zero, leb-suc-suc}
use Rattle.std.proofs.Math.Seq.{drop-cons}
use Rattle.std.specs.Prelude.{nat_le, option_map, option_and_then, Result, Ok, Err}
use Rattle.serde_json.specs.Data.{Data, array, Items, no_items, item}
use Rattle.fed_io.specs.declared.error.Fault.{Fault}
use Rattle.fed_io.specs.declared.error.Fault.TheVariants.{Step, NoRoom}
use Rattle.fed_io.specs.Fault.{Refuses, AnswersBy}
use Rattle.std.specs.Result.{IsErrAnd}
use Rattle.fed_origin.specs.declared.options.ProviderOptions.{ProviderOptions}
use Rattle.fed_script.specs.declared.cause.LineCause.{LineCause}
use Rattle.fed_script.specs.declared.cause.LineCause.TheVariants.{Member}
use Rattle.fed_script.specs.declared.cause.MemberName.TheVariants as names
use Rattle.fed_script.specs.declared.get.ProviderMembers as provider
use Rattle.fed_script.specs.Get.{ProviderMembers, provider_seen, as_entry, entries_of, one_to_ten, provider_members, provider_by}
use Rattle.fed_script.specs.Member.{◌>>=◌, each, or_cause}
use Rattle.fed_script.specs.Entries.{no_entries, one_more, with_members, with_entry, with_entries, or_no_provider, all_said}
use Rattle.fed_script.specs.Entries.{providers_in, all_after}

abbrev Several : Type 0
Several = Result (List ProviderMembers) LineCause

abbrev refused : Several
refused = Err (Member names.Providers)

-- the members of entries after those of others
abbrev all_more : Several → List Data → Several
all_more before entries = before >>= λ front. each provider_members entries >>= λ more. Ok (front ++ more)

-- the same of entries that may be no list of at most so many objects
abbrev by_room : ℕ → Several → Option (List Data) → Several
by_room room before None = refused
by_room room before (Some entries) = cond (nat_le (length entries) room) (all_more before entries) refused

either : (fits : Bool) → refused ≡ cond fits refused refused
either true = refl
either false = refl

stays_refused : (o : Option (List Data)) → refused ≡ by_room 0 refused o
stays_refused None = refl
stays_refused (Some ds) = either (nat_le (length ds) 0)

no_more : (before : Several) → before ≡ all_more before []
no_more (Ok front) = ap (λ xs. Ok xs) (sym (append-nil front))
no_more (Err cause) = refl

too_many : (before : Several) (d : Data) (o : Option (List Data)) → refused ≡ by_room 0 before (option_map (λ ds. d ∷ ds) o)
too_many before d None = refl
too_many before d (Some ds) = ap (λ fits. cond fits (all_more before (d ∷ ds)) refused) (sym (leb-suc-zero (length ds)))

onward : (front : List ProviderMembers) (one : ProviderMembers) (more : Several)
    → (more >>= λ ms. Ok ((front ++ one ∷ []) ++ ms)) ≡ ((more >>= λ ms. Ok (one ∷ ms)) >>= λ ms. Ok (front ++ ms))
onward front one (Ok ms) = ap (λ xs. Ok xs) (append_assoc front (one ∷ []) ms)
onward front one (Err cause) = refl

one_onward : (front : List ProviderMembers) (entry : Result ProviderMembers LineCause) (more : Several)
    → ((entry >>= λ one. Ok (front ++ one ∷ [])) >>= λ xs. more >>= λ ms. Ok (xs ++ ms))
    ≡ ((entry >>= λ one. more >>= λ ms. Ok (one ∷ ms)) >>= λ ms. Ok (front ++ ms))
one_onward front (Ok one) more = onward front one more
one_onward front (Err cause) more = refl

in_turn : (before : Several) (d : Data) (ds : List Data) → all_more (one_more (provider_members d) before) ds ≡ all_more before (d ∷ ds)
in_turn (Ok front) d ds = one_onward front (provider_members d) (each provider_members ds)
in_turn (Err cause) d ds = refl

one_less : (room : ℕ) (before : Several) (d : Data) (o : Option (List Data))
    → by_room room (one_more (provider_members d) before) o ≡ by_room (suc room) before (option_map (λ ds. d ∷ ds) o)
one_less room before d None = refl
one_less room before d (Some ds) =
    ap (λ found. cond (nat_le (length ds) room) found refused) (in_turn before d ds)
    ∙ ap (λ fits. cond fits (all_more before (d ∷ ds)) refused) (sym (leb-suc-suc (length ds) room))

counted : (room : ℕ) (entry : Result ProviderMembers LineCause) (before : Several)
    → with_members entry (record { room = suc room; members = before }) ≡ record { room = room; members = one_more entry before }
counted room entry before =
    let some : (suc room == 0) ≡ false = grind (arith, nat_tests) in
    let less : suc room - 1 ≡ room = omega arith in
    rw (some, less) refl

-- it is the same whether entries are read one after another or looked at together
abbrev IsSaid : Items → Type 0
IsSaid ds =
    (room : ℕ) (before : Several)
    → (with_entries ds (record { room = room; members = before })).members ≡ by_room room before (entries_of ds)

entry_said : (ds : Items) → IsSaid ds → (o : Option Data) (room : ℕ) (before : Several)
    → (with_entries ds (with_entry o (record { room = room; members = before }))).members
    ≡ by_room room before (option_and_then (λ d. option_map (λ further. d ∷ further) (entries_of ds)) o)
entry_said ds said None room before = said 0 refused ∙ sym (stays_refused (entries_of ds))
entry_said ds said (Some d) zero before = said 0 refused ∙ sym (stays_refused (entries_of ds)) ∙ too_many before d (entries_of ds)
entry_said ds said (Some d) (suc room) before =
    ap (λ entries. (with_entries ds entries).members) (counted room (provider_members d) before)
    ∙ said room (one_more (provider_members d) before) ∙ one_less room before d (entries_of ds)

entries_said : (ds : Items) → IsSaid ds
entries_said no_items room before =
    let fits : nat_le 0 room ≡ true = grind (arith, nat_tests) in
    no_more before ∙ ap (λ b. cond b (all_more before []) refused) (sym fits)
entries_said (item d ds) room before = entry_said ds (entries_said ds) (as_entry d) room before

some_said : (more : Several) → ((more >>= λ ms. Ok ([] ++ ms)) >>= or_no_provider) ≡ (more >>= or_no_provider)
some_said (Ok ms) = refl
some_said (Err cause) = refl

one_said : (entry : Result ProviderMembers LineCause) (more : Several)
    → ((entry >>= λ one. more >>= λ ms. Ok (one ∷ ms)) >>= or_no_provider) ≡ (entry >>= λ one. more >>= λ ms. Ok (one ∷ ms))
one_said (Ok one) (Ok ms) = refl
one_said (Ok one) (Err cause) = refl
one_said (Err cause) more = refl

few_said : (fits : Bool) (d : Data) (ds : List Data)
    → (cond fits (all_more (Ok []) (d ∷ ds)) refused >>= or_no_provider)
    ≡ (or_cause (Member names.Providers) (cond fits (Some (d ∷ ds)) None) >>= each provider_members)
few_said true d ds = some_said (each provider_members (d ∷ ds)) ∙ one_said (provider_members d) (each provider_members ds)
few_said false d ds = refl

all_few : (o : Option (List Data))
    → (by_room 10 (Ok []) o >>= or_no_provider)
    ≡ (or_cause (Member names.Providers) (option_and_then one_to_ten o) >>= each provider_members)
all_few None = refl
all_few (Some []) = refl
all_few (Some (d ∷ ds)) =
    let some : nat_le 1 (length (d ∷ ds)) ≡ true = grind (arith, nat_tests) in
    few_said (nat_le (length (d ∷ ds)) 10) d ds
    ∙ ap (λ b. or_cause (Member names.Providers) (cond (b && nat_le (length (d ∷ ds)) 10) (Some (d ∷ ds)) None)
    >>= each provider_members) (sym some)

-- the providers that a list names
pub list_said : (ds : Items) → all_said (with_entries ds no_entries) ≡ providers_in (array ds)
list_said ds = ap (λ members. members >>= or_no_provider) (entries_said ds 10 (Ok [])) ∙ all_few (entries_of ds)

-- ---- the options of providers

onto : (front : List ProviderOptions) (one : ProviderOptions) (more : Result (List ProviderOptions) LineCause)
    → ((more >>= λ ps. Ok (one ∷ ps)) >>= λ ps. Ok (front ++ ps)) ≡ (more >>= λ ps. Ok ((front ++ one ∷ []) ++ ps))
onto front one (Ok ps) = ap (λ xs. Ok xs) (sym (append_assoc front (one ∷ []) ps))
onto front one (Err cause) = refl

one_after : (front : List ProviderOptions) (one : ProviderOptions) (m : ProviderMembers) (ms : List ProviderMembers)
    → provider_by m ≡ Ok one → all_after front (m ∷ ms) ≡ all_after (front ++ one ∷ []) ms
one_after front one m ms is =
    ap (λ r. (r >>= λ first. each provider_by ms >>= λ ps. Ok (first ∷ ps)) >>= λ ps. Ok (front ++ ps)) is
    ∙ onto front one (each provider_by ms)

one_refused : (front : List ProviderOptions) (m : ProviderMembers) (ms : List ProviderMembers) (cause : LineCause)
    → provider_by m ≡ Err cause → all_after front (m ∷ ms) ≡ Err cause
one_refused front m ms cause is =
    ap (λ r. (r >>= λ first. each provider_by ms >>= λ ps. Ok (first ∷ ps)) >>= λ ps. Ok (front ++ ps)) is

module _ (front : List ProviderOptions) (all : List provider.ProviderMembers) (i : ℕ) (d : provider.ProviderMembers) where
  left_of : i < length all → map provider_seen (drop i all) ≡ provider_seen (get_or all i d) ∷ map provider_seen (drop (i + 1) all)
  left_of within =
      let next : suc i ≡ i + 1 = omega arith in
      ap (map provider_seen) (drop-cons all i d within)
      ∙ ap (λ n. provider_seen (get_or all i d) ∷ map provider_seen (drop n all)) next

  -- the options of a further provider
  pub further_goes_on : (one : ProviderOptions) → i < length all → provider_by (provider_seen (get_or all i d)) ≡ Ok one
      → all_after front (map provider_seen (drop i all)) ≡ all_after (front ++ one ∷ []) (map provider_seen (drop (i + 1) all))
  further_goes_on one within is =
      ap (all_after front) (left_of within) ∙ one_after front one (provider_seen (get_or all i d)) (map provider_seen (drop (i + 1) all)) is

  pub further_stops : (fault : Fault LineCause) → i < length all → Refuses fault (provider_by (provider_seen (get_or all i d)))
      → Refuses fault (all_after front (map provider_seen (drop i all)))
  further_stops (Step cause) within is =
      ap (all_after front) (left_of within)
      ∙ one_refused front (provider_seen (get_or all i d)) (map provider_seen (drop (i + 1) all)) cause is
  further_stops NoRoom within is = tt

-- none is left
pub further_ends : (front : List ProviderOptions) (all : List provider.ProviderMembers) (i : ℕ) → length all ≤ i
    → all_after front (map provider_seen (drop i all)) ≡ Ok front
further_ends front all i past =
    ap (λ xs. all_after front (map provider_seen xs)) (drop_all i all past) ∙ ap (λ xs. Ok xs) (append-nil front)

-- a refusal is answered
pub refused_by : {X T S : Type 0} (view : X → T) (r : Result X (Fault S)) (fault : Fault S) (expected : Result T S)
    → IsErrAnd r (λ e. e ≡ fault) → Refuses fault expected → AnswersBy view r expected
refused_by view (Ok x) fault expected is h = absurd is
refused_by view (Err e) fault expected is h = rw is h
