-- What several providers offer, once none is awaited.
use Rattle.std.proofs.Common.{◌≡◌, ℕ, zero, suc, ◌≤◌, Bool, true, false, cond, List, [], ◌∷◌, drop, length, map, Option, Some}
use Rattle.std.proofs.Common.{None, refl, sym, ap, subst, ◌∙◌, arith}
use Rattle.std.specs.Prelude.{slice_get}
use Rattle.std.specs.List.{AllByRecursion, list_all, list_any}
use Rattle.std.proofs.Math.Seq.{drop-nil}
use Rattle.std.proofs.lemmas.List.Elements.{All-from_recursion}
use Rattle.fed_origin.specs.declared.options.ProviderOptions.{ProviderOptions}
use Rattle.fed_origin.specs.declared.origin.Origin.{Origin}
use Rattle.fed_origin.specs.declared.status.Triple.{Triple}
use Rattle.fed_provider.specs.declared.config.Config.{Config}
use Rattle.fed_accounts.specs.declared.offer.Offer.{Offer}
use Rattle.fed_accounts.specs.Offers.{AreWhole, IsWhole}
use Rattle.fed_status.specs.Flags.{has_flag}
use Rattle.fed_status.specs.Shared.{World}
use Rattle.fed_consent.specs.declared.table.failure.Failure.{Failure}
use Rattle.fed_consent.specs.Consent.{AreRising, RiseFrom}
use Rattle.fed_call.specs.declared.progress.Progress.{Progress}
use Rattle.fed_call.specs.declared.progress.Progress.TheVariants as progress_is
use Rattle.fed_call.specs.Accounts.{Shortlist}
use Rattle.fed_call.specs.Begun.{Begun, options_of}
use Rattle.fed_call.specs.Configs.{config_for}
use Rattle.fed_call.specs.Facts.{NoneLeft, concluded, conclusion_of, shortlists}
use Rattle.fed_call.specs.Gathering.{HasSome, all_dropped, is_dropped, listed_config}
use Rattle.fed_call.specs.Progress.{is_awaited}
use Rattle.fed_call.specs.Settling.{IsKnown, lists_in, settling}
use Rattle.fed_call.proofs.shortlists.Settled.{some_in}
use Rattle.fed_call.proofs.shortlists.Single.{any_progress}

abbrev offers_from : List Triple → Origin → ℕ → List ProviderOptions → List Progress → List Offer
offers_from kept page n providers all = map (λ (list : Shortlist). list.offer) (shortlists kept page n providers all)

-- ---- all dropped out

none_listed : (kept : List Triple) (page : Origin) (n : ℕ) (providers : List ProviderOptions) (all : List Progress)
    → list_all is_dropped all ≡ true → shortlists kept page n providers all ≡ []
none_listed kept page n [] all e = refl
none_listed kept page n (p ∷ providers) [] e = refl
none_listed kept page n (p ∷ providers) (progress_is.Reading replies ∷ all) e = absurd (cc)
none_listed kept page n (p ∷ providers) (progress_is.Listing config ∷ all) e = absurd (cc)
none_listed kept page n (p ∷ providers) (progress_is.Listed config accounts ∷ all) e = absurd (cc)
none_listed kept page n (p ∷ providers) (progress_is.Dropped failure ∷ all) e = none_listed kept page (suc n) providers all e

first_dropped : (all : List Progress) (failure : Failure) → all_dropped all ≡ Some failure
    → (list_all is_dropped all ≡ true) × ((more : List Progress) × (all ≡ progress_is.Dropped failure ∷ more))
first_dropped [] failure e = absurd (cc)
first_dropped (progress_is.Reading replies ∷ all) failure e = absurd (cc)
first_dropped (progress_is.Listing config ∷ all) failure e = absurd (cc)
first_dropped (progress_is.Listed config accounts ∷ all) failure e = absurd (cc)
first_dropped (progress_is.Dropped first ∷ all) failure e = go (list_all is_dropped all) refl e
  where
    go : (t : Bool) → list_all is_dropped all ≡ t → cond t (Some first) None ≡ Some failure
        → (list_all is_dropped all ≡ true)
        × ((more : List Progress) × (progress_is.Dropped first ∷ all ≡ progress_is.Dropped failure ∷ more))
    go true is found = (is, (all, let same : first ≡ failure = cc in ap (λ f. progress_is.Dropped f ∷ all) same))
    go false is found = absurd (cc)

-- row M10
pub all_out : (world : World) (begun : Begun) (all : List Progress) (failure : Failure) → list_any is_awaited all ≡ false
    → all_dropped all ≡ Some failure
    → NoneLeft failure ≡ conclusion_of world begun.origin (options_of begun) all
all_out world begun all failure settled dropped =
    let first = first_dropped all failure dropped in
    let none = none_listed world.kept begun.origin 0 begun.providers all first.0 in
    rw (settled, none, first.1.1) refl

-- ---- some gave accounts

some_listed : (kept : List Triple) (page : Origin) (n : ℕ) (providers : List ProviderOptions) (all : List Progress)
    → length all ≡ length providers → list_any is_awaited all ≡ false → list_all is_dropped all ≡ false
    → 1 ≤ length (offers_from kept page n providers all)
some_listed kept page n [] [] same settled e = absurd (cc)
some_listed kept page n [] (g ∷ all) same settled e = absurd (omega arith)
some_listed kept page n (p ∷ providers) [] same settled e = absurd (omega arith)
some_listed kept page n (p ∷ providers) (progress_is.Reading replies ∷ all) same settled e = absurd (cc)
some_listed kept page n (p ∷ providers) (progress_is.Listing config ∷ all) same settled e = absurd (cc)
some_listed kept page n (p ∷ providers) (progress_is.Listed config accounts ∷ all) same settled e = omega arith
some_listed kept page n (p ∷ providers) (progress_is.Dropped failure ∷ all) same settled e =
    some_listed kept page (suc n) providers all (omega arith) settled e

not_all : (all : List Progress) → 1 ≤ length all → all_dropped all ≡ None → list_all is_dropped all ≡ false
not_all [] some e = absurd (omega arith)
not_all (progress_is.Reading replies ∷ all) some e = refl
not_all (progress_is.Listing config ∷ all) some e = refl
not_all (progress_is.Listed config accounts ∷ all) some e = refl
not_all (progress_is.Dropped failure ∷ all) some e = go (list_all is_dropped all) refl e
  where
    go : (t : Bool) → list_all is_dropped all ≡ t → cond t (Some failure) None ≡ None → list_all is_dropped all ≡ false
    go true is found = absurd (cc)
    go false is found = is

pub some_offers : (world : World) (begun : Begun) (all : List Progress) → 1 ≤ length begun.providers
    → length all ≡ length begun.providers → list_any is_awaited all ≡ false → all_dropped all ≡ None
    → 1 ≤ length (offers_from world.kept begun.origin 0 begun.providers all)
some_offers world begun all some same settled e =
    some_listed world.kept begun.origin 0 begun.providers all same settled (not_all all (omega arith) e)

-- ---- their offers are those of the table

cons_nil : {A : Type 0} (ys : List A) (y : A) → y ∷ ys ≡ [] → ⊥
cons_nil ys y e = cc

at_front : {A : Type 0} (xs ys : List A) (n : ℕ) (y : A) → y ∷ ys ≡ drop n xs → slice_get xs n ≡ Some y
at_front [] ys n y e = absurd (cons_nil ys y (e ∙ drop-nil n))
at_front (x ∷ xs) ys zero y e = cc
at_front (x ∷ xs) ys (suc n) y e = at_front xs ys n y e

behind : {A : Type 0} (xs ys : List A) (n : ℕ) (y : A) → y ∷ ys ≡ drop n xs → ys ≡ drop (suc n) xs
behind [] ys n y e = absurd (cons_nil ys y (e ∙ drop-nil n))
behind (x ∷ xs) ys zero y e = cc
behind (x ∷ xs) ys (suc n) y e = behind xs ys n y e

config_at : (configs : List (Option Config)) (n : ℕ) (c : Option Config) → slice_get configs n ≡ Some c → config_for configs n ≡ c
config_at configs n c e = rw e refl

lists_from : (kept : List Triple) (page : Origin) (whole : List ProviderOptions) (configs : List (Option Config)) (n : ℕ)
    (providers : List ProviderOptions) (all : List Progress)
    → providers ≡ drop n whole → map listed_config all ≡ drop n configs
    → lists_in whole configs (offers_from kept page n providers all) ≡ shortlists kept page n providers all
lists_from kept page whole configs n [] all p c = refl
lists_from kept page whole configs n (provider ∷ providers) [] p c = refl
lists_from kept page whole configs n (provider ∷ providers) (progress_is.Reading replies ∷ all) p c =
    lists_from kept page whole configs (suc n) providers all (behind whole providers n provider p)
    (behind configs (map listed_config all) n None c)
lists_from kept page whole configs n (provider ∷ providers) (progress_is.Listing config ∷ all) p c =
    lists_from kept page whole configs (suc n) providers all (behind whole providers n provider p)
    (behind configs (map listed_config all) n None c)
lists_from kept page whole configs n (provider ∷ providers) (progress_is.Dropped failure ∷ all) p c =
    lists_from kept page whole configs (suc n) providers all (behind whole providers n provider p)
    (behind configs (map listed_config all) n None c)
lists_from kept page whole configs n (provider ∷ providers) (progress_is.Listed config accounts ∷ all) p c =
    let here = at_front whole providers n provider p in
    let its = config_at configs n (Some config) (at_front configs (map listed_config all) n (Some config) c) in
    rw (
      here,
      its,
      lists_from kept page whole configs (suc n) providers all (behind whole providers n provider p)
          (behind configs (map listed_config all) n (Some config) c),
    )
    refl

known_from : (kept : List Triple) (page : Origin) (whole : List ProviderOptions) (configs : List (Option Config)) (n : ℕ)
    (providers : List ProviderOptions) (all : List Progress)
    → providers ≡ drop n whole → map listed_config all ≡ drop n configs
    → AllByRecursion HasSome (offers_from kept page n providers all)
    → AllByRecursion (IsKnown whole configs) (offers_from kept page n providers all)
known_from kept page whole configs n [] all p c some = tt
known_from kept page whole configs n (provider ∷ providers) [] p c some = tt
known_from kept page whole configs n (provider ∷ providers) (progress_is.Reading replies ∷ all) p c some =
    known_from kept page whole configs (suc n) providers all (behind whole providers n provider p)
    (behind configs (map listed_config all) n None c) some
known_from kept page whole configs n (provider ∷ providers) (progress_is.Listing config ∷ all) p c some =
    known_from kept page whole configs (suc n) providers all (behind whole providers n provider p)
    (behind configs (map listed_config all) n None c) some
known_from kept page whole configs n (provider ∷ providers) (progress_is.Dropped failure ∷ all) p c some =
    known_from kept page whole configs (suc n) providers all (behind whole providers n provider p)
    (behind configs (map listed_config all) n None c) some
known_from kept page whole configs n (provider ∷ providers) (progress_is.Listed config accounts ∷ all) p c some =
    let here = at_front whole providers n provider p in
    let its = config_at configs n (Some config) (at_front configs (map listed_config all) n (Some config) c) in (
      record { known = rw (here, its) refl; some = some.0.some },
      known_from kept page whole configs (suc n) providers all (behind whole providers n provider p)
          (behind configs (map listed_config all) n (Some config) c) some.1,
    )

rise_before : (n : ℕ) (offers : List Offer) → RiseFrom (suc n) offers → RiseFrom n offers
rise_before n [] rise = tt
rise_before n (offer ∷ offers) rise = let above : suc n ≤ offer.provider = rise.0 in (omega arith, rise.1)

rising_from : (kept : List Triple) (page : Origin) (n : ℕ) (providers : List ProviderOptions) (all : List Progress)
    → RiseFrom n (offers_from kept page n providers all)
rising_from kept page n [] all = tt
rising_from kept page n (provider ∷ providers) [] = tt
rising_from kept page n (provider ∷ providers) (progress_is.Reading replies ∷ all) =
    rise_before n (offers_from kept page (suc n) providers all) (rising_from kept page (suc n) providers all)
rising_from kept page n (provider ∷ providers) (progress_is.Listing config ∷ all) =
    rise_before n (offers_from kept page (suc n) providers all) (rising_from kept page (suc n) providers all)
rising_from kept page n (provider ∷ providers) (progress_is.Dropped failure ∷ all) =
    rise_before n (offers_from kept page (suc n) providers all) (rising_from kept page (suc n) providers all)
rising_from kept page n (provider ∷ providers) (progress_is.Listed config accounts ∷ all) =
    (omega arith, rising_from kept page (suc n) providers all)

whole_each : (offers : List Offer) → AllByRecursion HasSome offers → AllByRecursion IsWhole offers
whole_each [] some = tt
whole_each (offer ∷ offers) some = (some.0.whole, whole_each offers some.1)

pub are_whole : (offers : List Offer) → AllByRecursion HasSome offers → AreWhole offers
are_whole offers some = All-from_recursion IsWhole offers (whole_each offers some)

-- what was gathered is fit for settling
pub record Gathered (world : World) (begun : Begun) (configs : List (Option Config)) (offers : List Offer) (all : List Progress)
    : Type 0 where
  pub some : 1 ≤ length offers
  pub known : AllByRecursion (IsKnown begun.providers configs) offers
  pub whole : AreWhole offers
  pub rising : AreRising offers
  pub comes : settling world begun configs offers ≡ conclusion_of world begun.origin (options_of begun) all

comes_of : (world : World) (begun : Begun) (configs : List (Option Config)) (all : List Progress)
    → list_any is_awaited all ≡ false → map listed_config all ≡ configs
    → 1 ≤ length (offers_from world.kept begun.origin 0 begun.providers all)
    → AllByRecursion (IsKnown begun.providers configs) (offers_from world.kept begun.origin 0 begun.providers all)
    → AreWhole (offers_from world.kept begun.origin 0 begun.providers all)
    → settling world begun configs (offers_from world.kept begun.origin 0 begun.providers all)
    ≡ conclusion_of world begun.origin (options_of begun) all
comes_of world begun configs all settled c some known whole =
    let offers = offers_from world.kept begun.origin 0 begun.providers all in
    let there = some_in begun.providers configs offers some known whole in
    any_progress begun.mediation [] all (has_flag world.flags begun.origin) (lists_in begun.providers configs offers) there.0 there.1
    there.2
    ∙ (ap (λ lists. concluded begun.mediation all (has_flag world.flags begun.origin) lists)
    (lists_from world.kept begun.origin begun.providers configs 0 begun.providers all refl c)
    ∙ (rw settled refl))

gathered_from : (world : World) (begun : Begun) (configs : List (Option Config)) (all : List Progress)
    → 1 ≤ length begun.providers → length all ≡ length begun.providers → list_any is_awaited all ≡ false → all_dropped all ≡ None
    → map listed_config all ≡ configs
    → AllByRecursion HasSome (offers_from world.kept begun.origin 0 begun.providers all)
    → Gathered world begun configs (offers_from world.kept begun.origin 0 begun.providers all) all
gathered_from world begun configs all some same settled dropped c each =
    let offers = offers_from world.kept begun.origin 0 begun.providers all in
    let there = some_offers world begun all some same settled dropped in
    let known = known_from world.kept begun.origin begun.providers configs 0 begun.providers all refl c each in
    let whole = are_whole offers each in
    record {
      some = there;
      known = known;
      whole = whole;
      rising = rising_from world.kept begun.origin 0 begun.providers all;
      comes = comes_of world begun configs all settled c there known whole;
    }

pub gathered_is : (world : World) (begun : Begun) (configs : List (Option Config)) (offers : List Offer) (all : List Progress)
    → 1 ≤ length begun.providers → length all ≡ length begun.providers → list_any is_awaited all ≡ false → all_dropped all ≡ None
    → configs ≡ map listed_config all
    → offers ≡ map (λ (list : Shortlist). list.offer) (shortlists world.kept begun.origin 0 begun.providers all)
    → AllByRecursion HasSome offers
    → Gathered world begun configs offers all
gathered_is world begun configs offers all some same settled dropped c o each =
    subst (λ os. Gathered world begun configs os all) (sym o)
    (gathered_from world begun configs all some same settled dropped (sym c) (subst (λ os. AllByRecursion HasSome os) o each))
