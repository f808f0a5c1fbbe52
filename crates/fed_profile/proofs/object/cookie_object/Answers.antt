use Rattle.std.proofs.Common.{ap, ◌∙◌}
use Rattle.fed_print.specs.Objects.{put_if}
use Rattle.fed_print.specs.Records.{ascii_text, bytes_member}
use Rattle.fed_profile.proofs.read.Members.{bytes_put}
use Rattle.fed_profile.proofs.object.cookie_object.Goals as goal

pub returns : goal.returns
returns c =
    let field = c.args.field.now in
    let named = bytes_member (ascii_text field) field in
    c.in_ok-whole.ensures ∙ ap (put_if named.0 named.1) c.in_ok-object.ensures ∙ bytes_put field c.args.url.now
