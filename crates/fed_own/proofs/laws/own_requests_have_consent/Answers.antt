use Rattle.fed_own.proofs.passes.Consent.{consent_lem}
use Rattle.fed_own.proofs.laws.own_requests_have_consent.Goals as goal

pub returns : goal.returns
returns c = consent_lem
