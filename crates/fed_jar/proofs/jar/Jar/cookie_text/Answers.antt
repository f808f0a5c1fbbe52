use Rattle.std.proofs.Common.{◌≡◌, ℕ, [], map, ap, sym, refl, ◌∙◌, rules}
use Rattle.std.proofs.lemmas.List.{nil_from_length}
use Rattle.std.proofs.lemmas.Result.{IfOk-weaker}
use Rattle.fed_origin.specs.WebUrl.{host_of}
use Rattle.fed_suffix.specs.Rule.{RuleSet}
use Rattle.fed_suffix.specs.Registrable.{party}
use Rattle.url.specs.Parts.{Parts}
use Rattle.fed_jar.specs.Cookie.{cookies_in, kept_under}
use Rattle.fed_jar.specs.Parts.{jar_of, lists_of, numbered_cookies, numbered_of}
use Rattle.fed_jar.specs.Send.{jar_text}
use Rattle.fed_jar.proofs.parts.Put.{text_of_part}
use Rattle.fed_jar.proofs.jar.Jar.cookie_text.Goals as goal

-- no cookie of no party is sent
of_none : (rules : RuleSet) (url : Parts) (now entered : ℕ) → [] ≡ jar_text rules url now (cookies_in (jar_of [] entered))
unfolding jar_text
of_none rules url now entered = refl

pub returns-then-is_empty-clause-value : goal.returns-then-is_empty-clause-value
returns-then-is_empty-clause-value c =
    let none : c.self.inside.parties.entries ≡ [] = nil_from_length _ (c.is_empty.ensures.0 (search rules)) in
    let text : c.from_vec.result ≡ [] = search rules in
    text ∙ (of_none c.args.rules.now c.args.url.now c.args.now c.self.inside.entered
    ∙ (ap (λ entries. jar_text c.args.rules.now c.args.url.now c.args.now
    (cookies_in (jar_of (lists_of (λ key. key.items) entries) c.self.inside.entered))) (sym none)
    ∙ ap (λ jar. jar_text c.args.rules.now c.args.url.now c.args.now (cookies_in jar)) c.self.view_is))

pub returns-clause-value : goal.returns-clause-value
returns-clause-value c =
    let named : c.party-party.result.now ≡ party c.args.rules.now (host_of c.args.url.now) = search rules in
    IfOk-weaker c.cookie_text.result _ _
    (λ text is. is
    ∙ ap (λ cookies. jar_text c.args.rules.now c.args.url.now c.args.now (numbered_cookies cookies)) c.of_party.ensures
    ∙ ap (λ name. jar_text c.args.rules.now c.args.url.now c.args.now
    (numbered_cookies (map numbered_of (kept_under name c.args.self.now.kept)))) named
    ∙ text_of_part c.args.rules.now c.args.url.now c.args.now c.args.self.now.kept c.requires)
    c.cookie_text.ensures.value
