-- No two requests or tokens of a row are about the same.
use Rattle.std.specs.Prelude.{◌≡◌, false, List, [], ◌∷◌, ◌++◌, Option, option_map, ⊤}
use Rattle.std.specs.List.{filter_map, list_any}
use Rattle.fed_trace.specs.declared.out.Out.{Out}
use Rattle.fed_trace.specs.Records.{records}
use Rattle.fed_trace.specs.Trace.{Row, Trace}
use Rattle.fed_audit.specs.declared.aspect.Key.{Key}
use Rattle.fed_audit.specs.Told.{about_of, key_of, same_key, told_by}

-- what a record is known by, if it is a request or a token
abbrev pub key_told : Out → Option Key
key_told out = option_map key_of (about_of out)

-- and with the record
abbrev pub entry_told : Out → Option (Key × Out)
entry_told out = option_map (λ about. (key_of about, out)) (about_of out)

-- no two are the same
abbrev pub AreApart : List Key → Type 0
AreApart [] = ⊤
AreApart (key ∷ keys) = (list_any (same_key key) keys ≡ false) × AreApart keys

-- no two requests or tokens of a row are about the same call, provider and subject
abbrev pub TellsOnce : Trace → Type 0
TellsOnce T = (after before : List Row) (row : Row) → T.rows ≡ after ++ row ∷ before → AreApart (filter_map key_told (records row))

-- what is compared of a row are all its requests and tokens, in their order
abbrev pub TellsAll : Trace → Type 0
TellsAll T = (after before : List Row) (row : Row) → T.rows ≡ after ++ row ∷ before → told_by row ≡ filter_map entry_told (records row)
