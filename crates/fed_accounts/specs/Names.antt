-- The texts of an account as the code finds them, for private clauses.
use Rattle.std.specs.Option.{option_copied}
use Rattle.fed_accounts.specs.declared.entry.EntryTexts.{EntryTexts}
use Rattle.fed_accounts.specs.Found.{NamesFound}

-- the texts that are lent
abbrev pub names : EntryTexts → NamesFound
names n =
    record {
      id = n.id.now;
      name = n.name.now;
      email = n.email.now;
      given_name = option_copied n.given_name;
      picture = option_copied n.picture;
    }
