use Rattle.fed_origin.specs.WebUrl.{scheme_of}
use Rattle.fed_call.proofs.providers.May.{is_https_so}
use Rattle.fed_call.proofs.gathering.read_by.Goals as goal

pub hear-requires : goal.hear-requires
hear-requires c = is_https_so (scheme_of c.args.provider.now.config) (rw c.in-Reading.is at c.requires)
