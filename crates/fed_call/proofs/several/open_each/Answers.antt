use Rattle.std.proofs.Common.{◌≡◌, ◌∙◌, sym, refl, ap, subst, ℕ, ◌+◌, suc, List, [], ◌∷◌, ◌++◌, drop, append_assoc, arith, remove}
use Rattle.std.proofs.lemmas.List.{drop_more}
use Rattle.std.specs.Prelude.{map, Result, Ok, Err}
use Rattle.std.specs.List.{AllZip}
use Rattle.url.specs.Parts.{Parts}
use Rattle.fed_origin.specs.declared.options.Mode.{Mode}
use Rattle.fed_origin.specs.declared.options.ProviderOptions.{ProviderOptions}
use Rattle.fed_status.specs.Shared.{World, world_of}
use Rattle.fed_consent.specs.declared.table.effect.Effect.{Effect}
use Rattle.fed_consent.specs.declared.table.failure.FailStep.{FailStep}
use Rattle.fed_call.specs.declared.progress.Progress.{Progress}
use Rattle.fed_call.specs.GatheringRows.{opens, opens_from}
use Rattle.fed_call.specs.Opening.{Knows, by_step, opened_by, opens_by}
use Rattle.fed_call.specs.Progress.{Closed, opened, opening, first_progress}
use Rattle.fed_call.proofs.several.open_each.Goals as goal

known_more : {A B : Type 0} (R : A → B → Type 0) (p : A) (ps : List A) (left : List B)
    → AllZip R (p ∷ ps) left → AllZip R ps (remove left 0)
known_more R p ps [] h = absurd h
known_more R p ps (y ∷ ys) h = h.1

opened_is : (x : Result Parts Closed) → opened_by (by_step x) ≡ opened x
opened_is (Ok wellknown) = refl
opened_is (Err closed) = refl

opens_is : (place : ℕ) (config : Parts) (x : Result Parts Closed) → opens_by place config (by_step x) ≡ opens place config x
opens_is place config (Ok wellknown) = refl
opens_is place config (Err closed) = refl

progress_more : (world : World) (mode : Mode) (p : ProviderOptions) (rest : List ProviderOptions) (all done new : List Progress)
    (one : Result Parts FailStep)
    → all ≡ done ++ map (first_progress world mode) (p ∷ rest) → one ≡ by_step (opening world mode p)
    → new ≡ done ++ opened_by one ∷ [] → all ≡ new ++ map (first_progress world mode) rest
progress_more world mode p rest all done new one whole is new_is =
    whole ∙ sym (append_assoc done (first_progress world mode p ∷ []) (map (first_progress world mode) rest))
    ∙ ap (λ n. n ++ map (first_progress world mode) rest)
    (sym (new_is ∙ ap (λ o. done ++ opened_by o ∷ []) is ∙ ap (λ x. done ++ x ∷ []) (opened_is (opening world mode p))))

effects_more : (world : World) (mode : Mode) (n k : ℕ) (p : ProviderOptions) (rest : List ProviderOptions)
    (all done new : List Effect) (one : Result Parts FailStep) → k ≡ suc n
    → all ≡ done ++ opens_from world mode n (p ∷ rest) → one ≡ by_step (opening world mode p)
    → new ≡ done ++ opens_by n p.config one → all ≡ new ++ opens_from world mode k rest
effects_more world mode n k p rest all done new one next whole is new_is =
    whole ∙ sym (append_assoc done (opens n p.config (opening world mode p)) (opens_from world mode (suc n) rest))
    ∙ ap (λ m. m ++ opens_from world mode (suc n) rest)
    (sym (new_is ∙ ap (λ o. done ++ opens_by n p.config o) is ∙ ap (λ x. done ++ x) (opens_is n p.config (opening world mode p))))
    ∙ ap (λ j. new ++ opens_from world mode j rest) (sym next)

pub loop-provider-preserved : goal.loop-provider-preserved
loop-provider-preserved c =
    let world = world_of c.args.shared.now in
    let providers = c.args.providers.now in
    let i = c.loop-provider.provider-index in
    let p = c.provider-item.result in
    let rest = drop (i + 1) providers in
    let front : drop i providers ≡ p ∷ rest =
    drop_more providers i p (omega arith) ∙ ap (λ x. x ∷ rest) (sym c.provider-item.is) in
    record {
      place = omega arith;
      known =
          subst (λ (left : List (Result Parts Rattle.fed_provider.specs.declared.step.ProviderStep.ProviderStep)).
          AllZip (Knows world.rules) rest left) (sym c.remove.ensures.items)
          (known_more (Knows world.rules) p rest c.loop-provider.left.items
          (subst (λ (ps : List ProviderOptions). AllZip (Knows world.rules) ps c.loop-provider.left.items) front
          c.loop-provider.invariant.known));
      progress =
          progress_more world c.args.mode p rest _ c.loop-provider.opened.progress _ c.opening-opening.result
          (c.loop-provider.invariant.progress
          ∙ ap (λ ps. c.loop-provider.opened.progress ++ map (first_progress world c.args.mode) ps) front)
          c.opening-opening.ensures c.in_ok-add.ensures.progress;
      effects =
          effects_more world c.args.mode c.loop-provider.place (c.loop-provider.place + 1) p rest _ c.loop-provider.opened.effects _
          c.opening-opening.result (omega arith)
          (c.loop-provider.invariant.effects
          ∙ ap (λ ps. c.loop-provider.opened.effects ++ opens_from world c.args.mode c.loop-provider.place ps) front)
          c.opening-opening.ensures c.in_ok-add.ensures.effects;
    }
