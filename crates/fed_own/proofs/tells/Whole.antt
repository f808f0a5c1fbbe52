-- What is compared of a row are all its requests and tokens.
use Rattle.std.proofs.Common.{◌≡◌, ℕ, Bool, true, false, ◌||◌, List, [], ◌∷◌, ◌++◌, append-nil, cond, Option, Some, None, refl, sym, ap}
use Rattle.std.proofs.Common.{ap₂, subst, ◌∙◌, arith}
use Rattle.std.proofs.lemmas.Bool.Decides.{nat_tests}
use Rattle.std.proofs.lemmas.List.{append_assoc}
use Rattle.std.proofs.lemmas.List.Folds.{list_any-append}
use Rattle.std.specs.Prelude.{option_map}
use Rattle.std.specs.List.{AllByRecursion, cons_option, filter_map, list_any}
use Rattle.indexmap.specs.IndexMap.{insert_entry}
use Rattle.fed_script.specs.declared.event.Event.{Event}
use Rattle.fed_trace.specs.declared.out.Out.{Out}
use Rattle.fed_trace.specs.Records.{records}
use Rattle.fed_trace.specs.Row.{effects_of, row_of}
use Rattle.fed_trace.specs.Trace.{Row, Trace}
use Rattle.fed_laws.specs.Laws.{OfRuns}
use Rattle.fed_audit.specs.declared.aspect.About.{About}
use Rattle.fed_audit.specs.declared.aspect.Key.{Key}
use Rattle.fed_audit.specs.Told.{Told, about_of, key_of, same_key, told_after, told_by, with_told}
use Rattle.fed_own.specs.Once.{AreApart, TellsAll, entry_told, key_told}
use Rattle.fed_own.proofs.tells.Tells.{told_keys}
use Rattle.fed_own.proofs.tells.Events.{event_apart, once_lem}

-- no entry stands under the key
abbrev IsNew : Told → Key → Type 0
IsNew told key = list_any (λ (e : Key × Out). same_key key e.0) told ≡ false

insert_new : (key : Key) (out : Out) (told : Told) → IsNew told key → insert_entry same_key told key out ≡ told ++ (key, out) ∷ []
insert_new key out [] h = refl
insert_new key out (e ∷ told) h = go (same_key key e.0) h (insert_new key out told)
  where
    go : (b : Bool) → b || list_any (λ (e : Key × Out). same_key key e.0) told ≡ false
        → (IsNew told key → insert_entry same_key told key out ≡ told ++ (key, out) ∷ [])
        → cond b ((e.0, out) ∷ told) (e ∷ insert_entry same_key told key out) ≡ e ∷ (told ++ (key, out) ∷ [])
    go true h rest = absurd (cc)
    go false h rest = ap (λ es. e ∷ es) (rest h)

-- what is another key than this is new after it too
other_way : (a b : Key) → same_key a b ≡ false → same_key b a ≡ false
other_way a b h = grind (arith, nat_tests, h)

record Neither (a b : Bool) : Type 0 where
  first : a ≡ false
  second : b ≡ false

neither : (a b : Bool) → a || b ≡ false → Neither a b
neither false b is = record { first = refl; second = is }
neither true b is = absurd (cc)

still_new : (key : Key) (out : Out) (told : Told) (keys : List Key) → list_any (same_key key) keys ≡ false
    → AllByRecursion (IsNew told) keys → AllByRecursion (IsNew (told ++ (key, out) ∷ [])) keys
still_new key out told [] apart new = tt
still_new key out told (k ∷ keys) apart new =
    let both = neither (same_key key k) (list_any (same_key key) keys) apart in (
      list_any-append (λ (e : Key × Out). same_key k e.0) told ((key, out) ∷ [])
          ∙ ap₂ (λ x y. x || (y || false)) new.0 (other_way key k both.first),
      still_new key out told keys both.second new.1,
    )

all_told : (outs : List Out) (told : Told) → AreApart (filter_map key_told outs) → AllByRecursion (IsNew told) (filter_map key_told outs)
    → told_after outs told ≡ told ++ filter_map entry_told outs
all_told [] told apart new = sym (append-nil told)
all_told (out ∷ outs) told apart new = go (about_of out) apart new (all_told outs)
  where
    go : (o : Option About) → AreApart (cons_option (option_map key_of o) (filter_map key_told outs))
        → AllByRecursion (IsNew told) (cons_option (option_map key_of o) (filter_map key_told outs))
        → ((t : Told) → AreApart (filter_map key_told outs) → AllByRecursion (IsNew t) (filter_map key_told outs)
        → told_after outs t ≡ t ++ filter_map entry_told outs)
        → told_after outs (with_told o out told)
        ≡ told ++ cons_option (option_map (λ about. (key_of about, out)) o) (filter_map entry_told outs)
    go None apart new rest = rest told apart new
    go (Some about) apart new rest =
        ap (told_after outs) (insert_new (key_of about) out told new.0)
        ∙ (rest (told ++ (key_of about, out) ∷ []) apart.1
        (still_new (key_of about) out told (filter_map key_told outs) apart.0 new.1)
        ∙ append_assoc told ((key_of about, out) ∷ []) (filter_map entry_told outs))

none_there : (keys : List Key) → AllByRecursion (IsNew []) keys
none_there [] = tt
none_there (key ∷ keys) = (refl, none_there keys)

whole : (row : Row) → AreApart (filter_map key_told (records row)) → told_by row ≡ filter_map entry_told (records row)
whole row apart = all_told (records row) [] apart (none_there (filter_map key_told (records row)))

-- the row of any event
pub whole_row : (T : Trace) (line : ℕ) (event : Event)
    → told_by (row_of T line event) ≡ filter_map entry_told (records (row_of T line event))
whole_row T line event = whole (row_of T line event) (subst AreApart (sym (told_keys line (effects_of T event))) (event_apart T event))

pub all_lem : OfRuns TellsAll
all_lem T run after before row is = whole row (once_lem T run after before row is)
