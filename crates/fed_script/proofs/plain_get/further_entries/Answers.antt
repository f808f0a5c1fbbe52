use Rattle.std.proofs.Common.{◌≡◌, ◌∷◌, ◌++◌, [], map, codes, ap, sym, ◌∙◌, subst, arith}
use Rattle.std.proofs.lemmas.List.{map-append, length-append}
use Rattle.fed_script.specs.Get.{provider_seen}
use Rattle.fed_script.specs.PlainGet.{entries_text, ArePlain}
use Rattle.fed_script.proofs.plainly.Entries.{entries_push, plain_push}
use Rattle.fed_script.proofs.plain_get.further_entries.Goals as goal

pub loop-next-preserved : goal.loop-next-preserved
loop-next-preserved c =
    let more : map provider_seen c.push.new.self.items
    ≡ map provider_seen c.loop-next.further.items ++ provider_seen c.in-Some-entry.members ∷ [] =
    ap (map provider_seen) c.in_ok-push.ensures.items
    ∙ map-append provider_seen c.loop-next.further.items (c.in-Some-entry.members ∷ []) in
    record {
      text = c.loop-next.invariant.text ∙ ap (entries_text (map provider_seen c.loop-next.further.items)) (c.in-Some.ensures
          ∙ ap (λ l. codes ",{\"config\":\"" ++ l) c.in-Some-entry.ensures.text)
          ∙ sym (entries_push (map provider_seen c.loop-next.further.items) (provider_seen c.in-Some-entry.members) _)
          ∙ sym (ap (λ ps. entries_text ps c.in-Some-entry.after_entry.now) more);
      plain = subst ArePlain (sym more)
          (plain_push _ _ c.loop-next.invariant.plain c.in-Some-entry.ensures.plain);
      few = rw c.in_ok-push.ensures.items (simp length-append (omega arith));
    }
