use Rattle.fed_jar.proofs.parties.Parties.{text_is_of_party_changes}
use Rattle.fed_jar.proofs.laws.text_is_of_party_changes.Goals as goal

pub returns : goal.returns
returns c = text_is_of_party_changes
