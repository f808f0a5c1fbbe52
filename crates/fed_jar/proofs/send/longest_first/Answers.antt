use Rattle.std.proofs.Common.{◌≡◌, ◌≤◌, ◌++◌, not, sym, ap, ◌∙◌, subst, List, ℕ}
use Rattle.std.specs.Prelude.{◌==◌, filter}
use Rattle.std.specs.List.{AllByRecursion}
use Rattle.fed_jar.specs.Cookie.{StoredCookie}
use Rattle.fed_jar.specs.Parts.{lent_cookie, lent_cookies}
use Rattle.fed_jar.specs.Send.{path_length, largest_first}
use Rattle.fed_jar.proofs.order.Longest.{largest_apart, none_longer}
use Rattle.fed_jar.proofs.parts.Kept.{map_joined}
use Rattle.fed_jar.proofs.send.longest_first.Goals as goal

-- those with the longest path, and then the others in their order
pub returns : goal.returns
returns c =
    let cookies : List StoredCookie = lent_cookies c.args.sent.now in
    let longest : ℕ = c.longest_path.result in
    let long : List StoredCookie = filter (λ k. path_length k == longest) cookies in
    let others : List StoredCookie = filter (λ k. not (path_length k == longest)) cookies in
    let first : lent_cookies c.divide.new.first.items ≡ long =
    c.divide.ensures.first ∙ ap (λ l. lent_cookies l ++ long) c.in_ok-first.ensures.items in
    let second : lent_cookies c.divide.new.others.items ≡ others =
    c.divide.ensures.others ∙ ap (λ l. lent_cookies l ++ others) c.in_ok-others.ensures.items in
    ap lent_cookies c.in_ok-append.ensures.items
    ∙ map_joined lent_cookie c.divide.new.first.items c.put_longest_first.new.sent.items
    ∙ ap (λ l. l ++ lent_cookies c.put_longest_first.new.sent.items) first
    ∙ ap (λ l. long ++ l) (c.in_ok-put_longest_first.ensures ∙ ap (largest_first path_length) second)
    ∙ sym (largest_apart path_length longest cookies
    (subst (λ m. AllByRecursion (λ k. path_length k ≤ m) cookies) (sym c.longest_path.ensures) (none_longer cookies)))
