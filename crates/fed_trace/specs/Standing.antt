-- The cookies of a party that stand after what happened.
use Rattle.std.specs.Prelude.{ℕ, List}
use Rattle.fed_jar.specs.Cookie.{StoredCookie}
use Rattle.fed_jar.specs.Store.{part_of}
use Rattle.fed_trace.specs.Trace.{Trace, cookies}

-- in the order of the first storing since their key last went
abbrev pub standing_at : Trace → List ℕ → List StoredCookie
standing_at T name = part_of T.header.rules name (cookies T)
