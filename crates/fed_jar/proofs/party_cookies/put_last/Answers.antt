use Rattle.std.proofs.Common.{◌≡◌, ◌≤◌, ◌<◌, cond, List, [], ◌∷◌, ◌++◌, length, sym, ap, ◌∙◌, subst}
use Rattle.std.specs.Prelude.{option_map, remove, slice_get}
use Rattle.fed_jar.specs.declared.numbered.Numbered.{Numbered}
use Rattle.fed_jar.specs.Limit.{first_to_go}
use Rattle.fed_jar.specs.Parts.{numbered_cookies}
use Rattle.fed_jar.proofs.parts.Limited.{limited_full, limited_room}
use Rattle.fed_jar.proofs.parts.Lists.{put_last}
use Rattle.fed_jar.proofs.party_cookies.put_last.Goals as goal

pub returns-in-None-clause-ok : goal.returns-in-None-clause-ok
returns-in-None-clause-ok c =
    let ns = c.args.cookies.now.keys in
    let last : c.insert_full.new.self.keys ≡ ns ++ c.args.new ∷ [] =
    c.in_ok-place.ensures.keys ∙ ap (λ b. cond b ns (ns ++ c.args.new ∷ [])) c.requires.absent in
    let short : length ns < 180 = subst (λ (l : List Numbered). length l < 180) c.as_slice.ensures.keys c.in-None.ensures.room in
    last ∙ sym (put_last c.args.new ns c.requires.absent) ∙ sym (limited_room c.args.now c.args.new ns short)

pub returns-in-Some-clause-ok : goal.returns-in-Some-clause-ok
returns-in-Some-clause-ok c =
    let ns = c.args.cookies.now.keys in
    let last : c.insert_full.new.self.keys ≡ ns ++ c.args.new ∷ [] =
    c.in_ok-place.ensures.keys ∙ ap (λ b. cond b ns (ns ++ c.args.new ∷ [])) c.requires.absent in
    let full : 180 ≤ length ns = subst (λ (l : List Numbered). 180 ≤ length l) c.as_slice.ensures.keys c.in-Some.ensures.full in
    let goes = subst (λ (l : List Numbered). option_map (λ (n : Numbered). n.cookie) (slice_get l c.in-Some.going)
    ≡ first_to_go c.args.now (numbered_cookies l)) c.as_slice.ensures.keys c.in-Some.ensures.goes in
    c.shift_remove_index.ensures.keys
    ∙ ap (λ l. remove l c.in-Some.going) last
    ∙ limited_full c.args.now c.args.new ns c.in-Some.going c.as_slice.ensures.unique c.requires.absent full goes
