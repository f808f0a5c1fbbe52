-- What a search for one finds that ends at the second.
use Rattle.std.specs.Prelude.{ℕ, List, [], ◌∷◌}
use Rattle.fed_accounts.specs.declared.connection.Hits.{Hits}
use Rattle.fed_accounts.specs.declared.connection.Hits.TheVariants.{Nothing, One, Several}

-- what is found of these places
abbrev pub hits_of : List ℕ → Hits
hits_of [] = Nothing
hits_of (n ∷ []) = One n
hits_of (n ∷ m ∷ ns) = Several
