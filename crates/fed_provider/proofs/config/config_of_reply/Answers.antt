use Rattle.std.proofs.Common.{sym, ap, ◌∙◌, subst}
use Rattle.fed_io.specs.Fault.{Answers}
use Rattle.fed_reply.specs.Members.{text_under}
use Rattle.fed_reply.specs.Steps.{◌>>=◌}
use Rattle.fed_reply.proofs.asked.Found.{found_at}
use Rattle.fed_provider.specs.Config.{endpoints}
use Rattle.fed_provider.proofs.files.Texts.{config_is}
use Rattle.fed_provider.proofs.config.config_of_reply.Goals as goal

pub returns-in-Ok-read_found : goal.returns-in-Ok-read_found
returns-in-Ok-read_found c =
    let read = c.in-Ok.ensures in
    let file = read.0 in
    let after = c.read_texts.new.asked in
    let is = config_is c.args.raw.now c.args.config.now file _ _ _ _ _ read.1
    (sym (found_at 0 after _ _ read.2 ∙ ap (λ a. text_under a.name.now file) c.new.ensures))
    (sym (found_at 1 after _ _ read.2 ∙ ap (λ a. text_under a.name.now file) c.new-2.ensures))
    (sym (found_at 2 after _ _ read.2 ∙ ap (λ a. text_under a.name.now file) c.new-3.ensures))
    (sym (found_at 3 after _ _ read.2 ∙ ap (λ a. text_under a.name.now file) c.new-4.ensures))
    (sym (found_at 4 after _ _ read.2 ∙ ap (λ a. text_under a.name.now file) c.new-5.ensures)) in
    subst (Answers c.endpoints.result) (sym (is ∙ ap (λ r. r >>= endpoints c.args.config.now) (sym c.in-Ok-read_found.ensures)))
    c.endpoints.ensures

pub returns-in-Err : goal.returns-in-Err
returns-in-Err c =
    let read = c.in-Ok.ensures in
    let file = read.0 in
    let after = c.read_texts.new.asked in
    config_is c.args.raw.now c.args.config.now file _ _ _ _ _ read.1
    (sym (found_at 0 after _ _ read.2 ∙ ap (λ a. text_under a.name.now file) c.new.ensures))
    (sym (found_at 1 after _ _ read.2 ∙ ap (λ a. text_under a.name.now file) c.new-2.ensures))
    (sym (found_at 2 after _ _ read.2 ∙ ap (λ a. text_under a.name.now file) c.new-3.ensures))
    (sym (found_at 3 after _ _ read.2 ∙ ap (λ a. text_under a.name.now file) c.new-4.ensures))
    (sym (found_at 4 after _ _ read.2 ∙ ap (λ a. text_under a.name.now file) c.new-5.ensures))
    ∙ ap (λ r. r >>= endpoints c.args.config.now) (sym c.in-Err.ensures)
