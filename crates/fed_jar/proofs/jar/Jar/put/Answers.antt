use Rattle.std.proofs.Common.{◌≡◌, ◌+◌, cond, Some, sym, ap, ◌∙◌, subst}
use Rattle.fed_suffix.specs.Registrable.{party}
use Rattle.fed_jar.specs.declared.numbered.Numbered.{Numbered}
use Rattle.fed_jar.specs.Cookie.{cookies_of, has_key, kept_under}
use Rattle.fed_jar.specs.Limit.{jar_after}
use Rattle.fed_jar.specs.Parts.{AreLists, Lists, jar_of, kept_of, lists_of, put_under}
use Rattle.fed_jar.specs.Store.{IsKeptBy}
use Rattle.fed_jar.proofs.parts.Places.{own_lists}
use Rattle.fed_jar.proofs.parts.Put.{AreLists-put, key_in_part}
use Rattle.fed_jar.proofs.parts.Store.{AreLists-store, jar_stored}
use Rattle.fed_jar.proofs.jar.Jar.put.Goals as goal

pub invariant_of-self-2 : goal.invariant_of-self-2
invariant_of-self-2 c =
    let number = c.self.inside.entered in
    let new : Numbered = record { cookie = c.args.cookie; number = number } in
    let lists : Lists = lists_of (λ key. key.items) c.self.inside.parties.entries in
    let name = party c.args.rules.now c.args.host.now in
    let kept : IsKeptBy c.args.rules.now (jar_of lists number) = subst (IsKeptBy c.args.rules.now) (sym c.self.view_is) c.requires.kept in
    let put : AreLists (put_under name lists new) c.after-self-inside.result =
    AreLists-put name new lists c.after-self-inside.result c.self.invariant
    (key_in_part c.args.rules.now name c.args.cookie (kept_of lists) kept c.requires.own)
    (c.after-self-inside.ensures ∙ ap (λ b. cond b (number + 1) number) c.in_ok-kept.ensures.fresh) in
    subst (λ ls. AreLists ls c.after-self-inside.result) (sym c.in_ok-kept.ensures.ok)
    (AreLists-store c.args.rules.now c.args.now name new lists c.after-self-inside.result (own_lists c.args.rules.now lists number kept)
    c.requires.own put)

pub returns-clause-ok : goal.returns-clause-ok
returns-clause-ok c =
    let number = c.self.inside.entered in
    let new : Numbered = record { cookie = c.args.cookie; number = number } in
    let lists : Lists = lists_of (λ key. key.items) c.self.inside.parties.entries in
    let name = party c.args.rules.now c.args.host.now in
    let kept : IsKeptBy c.args.rules.now (jar_of lists number) = subst (IsKeptBy c.args.rules.now) (sym c.self.view_is) c.requires.kept in
    let own : has_key c.args.cookie (cookies_of (kept_of lists)) ≡ has_key c.args.cookie (cookies_of (kept_under name (kept_of lists))) =
    key_in_part c.args.rules.now name c.args.cookie (kept_of lists) kept c.requires.own in
    let next = c.after-self-inside.ensures ∙ ap (λ b. cond b (number + 1) number) c.in_ok-kept.ensures.fresh in
    ap (λ ls. jar_of ls c.after-self-inside.result) c.in_ok-kept.ensures.ok
    ∙ jar_stored c.args.rules.now c.args.now name new lists c.after-self-inside.result c.self.invariant
    (own_lists c.args.rules.now lists number kept) c.requires.own
    (AreLists-put name new lists c.after-self-inside.result c.self.invariant own next) own next
    ∙ ap (λ j. jar_after c.args.now name j (Some c.args.cookie)) c.self.view_is

pub keep-requires-clause-own : goal.keep-requires-clause-own
keep-requires-clause-own c =
    own_lists c.args.rules.now (lists_of (λ key. key.items) c.self.inside.parties.entries) c.self.inside.entered
    (subst (IsKeptBy c.args.rules.now) (sym c.self.view_is) c.requires.kept)
