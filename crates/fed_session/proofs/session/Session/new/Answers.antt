use Rattle.std.proofs.Common.{refl}
use Rattle.fed_session.proofs.stands.Stands.{stands_new}
use Rattle.fed_session.proofs.session.Session.new.Goals as goal

pub returns : goal.returns
returns c = stands_new _ c.args.header refl refl c.new.ensures c.new-2.ensures
