use Rattle.std.proofs.Common.{◌≡◌, not, sym, refl, ap, ◌∙◌, rules}
use Rattle.std.specs.List.{list_any}
use Rattle.fed_jar.specs.declared.party_cookies.PartyCookies.TheVariants.{One}
use Rattle.fed_jar.specs.Parts.{same_numbered, lists_of}
use Rattle.fed_jar.proofs.parts.Limited.{stored_first}
use Rattle.fed_jar.proofs.parts.Lists.{put_first, listed_none}
use Rattle.fed_jar.proofs.parts.Places.{none_placed}
use Rattle.fed_jar.proofs.lists.keep_first.Goals as goal

pub returns-clause-ok : goal.returns-clause-ok
returns-clause-ok c = λ now.
    let named : c.in_ok-name.name.items ≡ c.args.party.now = search rules in
    let none = none_placed (λ key. key.items) c.args.party.now c.args.parties.now.entries c.requires in
    ap (lists_of (λ key. key.items)) c.in_ok-insert.ensures.entries
    ∙ put_first (λ key. key.items) c.args.party.now c.args.new c.args.parties.now.entries c.in_ok-name.name (One c.args.new) none named refl
    ∙ sym (stored_first now c.args.party.now c.args.new (lists_of (λ key. key.items) c.args.parties.now.entries)
    (listed_none (λ key. key.items) c.args.party.now c.args.parties.now.entries none))

pub returns-clause-fresh : goal.returns-clause-fresh
returns-clause-fresh c =
    ap (λ list. not (list_any (same_numbered c.args.new) list))
    (sym (listed_none (λ key. key.items) c.args.party.now c.args.parties.now.entries
    (none_placed (λ key. key.items) c.args.party.now c.args.parties.now.entries c.requires)))
