use Rattle.fed_provider.proofs.promises.OneConfiguration.{form_is_of_file, one_accounts_url_lem}
use Rattle.fed_provider.proofs.laws.one_accounts_url.Goals as goal

pub returns : goal.returns
returns c = record { form = form_is_of_file; texts = one_accounts_url_lem }
