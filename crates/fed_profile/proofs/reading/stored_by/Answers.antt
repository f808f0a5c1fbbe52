use Rattle.std.proofs.Common.{◌∙◌}
use Rattle.fed_jar.specs.Cookie.{cookies_in}
use Rattle.fed_profile.proofs.read.Stored.{stored_alone}
use Rattle.fed_profile.proofs.reading.stored_by.Goals as goal

pub returns : goal.returns
returns c =
    c.in_ok-stored.ensures.value
    ∙ stored_alone c.args.rules.now c.args.url.now c.args.now c.args.field.now c.in-Some.raw c.in_ok-raw.field-0 c.new-jar.result
    (cookies_in c.store.new.self) c.new-jar.ensures c.in_ok-_is_stored.ensures.value c.in_ok-raw.ensures c.in-Some.is
