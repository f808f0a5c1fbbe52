use Rattle.fed_provider.proofs.files.LastEndpoint.{refused_last}
use Rattle.fed_provider.proofs.config.endpoints.Goals as goal

pub returns-in-Err : goal.returns-in-Err
returns-in-Err c =
    refused_last _ _ _ _ _ _ c.in-Err.fault c.in_ok-accounts.ensures c.in_ok-assertion.ensures c.in_ok-login.ensures
    c.in_ok-metadata.ensures c.in-Err.ensures
