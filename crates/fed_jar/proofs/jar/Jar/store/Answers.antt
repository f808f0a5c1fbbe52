use Rattle.std.proofs.Common.{ap, ◌∙◌}
use Rattle.std.proofs.lemmas.Result.{on_ok_weaker, on_err_weaker}
use Rattle.fed_jar.specs.Cookie.{cookies_in}
use Rattle.fed_jar.specs.Store.{is_of_party}
use Rattle.fed_jar.proofs.parties.Parties.{others_after}
use Rattle.fed_jar.proofs.parts.Store.{others_stored, page_stored, stays_kept}
use Rattle.fed_jar.proofs.jar.Jar.store.Goals as goal

pub returns-clause-value : goal.returns-clause-value
returns-clause-value c =
    on_ok_weaker c.write.result
    (λ parts. ap cookies_in parts ∙ page_stored c.args.rules.now c.args.url.now c.args.now c.args.raw c.args.self.now c.requires.kept)
    c.write.ensures.parts

pub returns-clause-others : goal.returns-clause-others
returns-clause-others c = λ name other.
    others_after c.write.result (is_of_party c.args.rules.now name) _ _ _
    (on_ok_weaker c.write.result
    (λ parts. ap cookies_in parts ∙ page_stored c.args.rules.now c.args.url.now c.args.now c.args.raw c.args.self.now c.requires.kept)
    c.write.ensures.parts)
    (on_err_weaker c.write.result (ap cookies_in) c.write.ensures.err)
    (others_stored c.args.rules.now c.args.url.now c.args.now c.args.raw name (cookies_in c.args.self.now) other)

pub returns-clause-kept : goal.returns-clause-kept
returns-clause-kept c =
    stays_kept c.write.result c.args.rules.now c.args.url.now c.args.now c.args.raw c.args.self.now c.write.new.self c.write.ensures.parts
    c.write.ensures.err c.requires.kept
