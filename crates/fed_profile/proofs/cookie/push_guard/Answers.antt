use Rattle.std.proofs.Common.{◌++◌, ap, ap₂, ◌∙◌, append_assoc}
use Rattle.std.specs.Prelude.{codes}
use Rattle.fed_profile.specs.CookieField.{secure_part, same_site_text}
use Rattle.fed_profile.proofs.cookie.push_guard.Goals as goal

pub returns : goal.returns
returns c =
    let front = c.args.field.now.items in
    let secure = secure_part c.args.secure in
    let text = same_site_text c.args.same_site in
    c.in_ok-extend_from_slice-2.ensures.items
    ∙ ap₂ (λ l r. l ++ r)
    (c.in_ok-extend_from_slice.ensures.items ∙ ap (λ l. l ++ codes "; SameSite=") c.in_ok-push_secure.ensures)
    (c.as_bytes.ensures.value ∙ c.same_site_text.ensures)
    ∙ append_assoc (front ++ secure) (codes "; SameSite=") text
    ∙ append_assoc front secure (codes "; SameSite=" ++ text)
