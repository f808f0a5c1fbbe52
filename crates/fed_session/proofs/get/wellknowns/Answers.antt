use Rattle.std.proofs.Common.{◌≡◌, ◌∙◌, sym, ap, subst, List, [], ◌∷◌, ◌++◌, take, ◌+◌, arith}
use Rattle.std.proofs.lemmas.List.{take_more}
use Rattle.std.specs.Prelude.{Result}
use Rattle.std.specs.List.{AllZip}
use Rattle.url.specs.Parts.{Parts}
use Rattle.fed_origin.specs.declared.options.ProviderOptions.{ProviderOptions}
use Rattle.fed_provider.specs.declared.step.ProviderStep.{ProviderStep}
use Rattle.fed_call.specs.Opening.{Knows}
use Rattle.fed_session.specs.declared.sight.Sight.{Sight}
use Rattle.fed_session.specs.StepParts.{world_in}
use Rattle.fed_session.proofs.get.wellknowns.Goals as goal

zip_push : {A B : Type 0} (R : A → B → Type 0) (xs : List A) (ys : List B) (x : A) (y : B)
    → AllZip R xs ys → R x y → AllZip R (xs ++ x ∷ []) (ys ++ y ∷ [])
zip_push R [] [] x y all one = (one, tt)
zip_push R [] (z ∷ ys) x y all one = absurd all
zip_push R (w ∷ xs) [] x y all one = absurd all
zip_push R (w ∷ xs) (z ∷ ys) x y all one = (all.0, zip_push R xs ys x y all.1 one)

pub loop-provider-preserved : goal.loop-provider-preserved
loop-provider-preserved c =
    let rules = c.args.sight.now.cookies.rules in
    let providers = c.args.providers.now in
    let i = c.loop-provider.provider-index in
    let p = c.provider-item.result in
    let so_far = take i providers in
    let more : take (i + 1) providers ≡ so_far ++ p ∷ [] =
    take_more providers i p (omega arith) ∙ ap (λ x. so_far ++ x ∷ []) (sym c.provider-item.is) in
    let one = subst (λ (s : Sight). Knows (world_in s).rules p c.in_ok-wellknown.wellknown) c.loop-provider.invariant.1
    c.in_ok-wellknown.ensures.known in (
      subst (λ (xs : List ProviderOptions). AllZip (Knows rules) xs c.push.new.self) (sym more)
          (subst (λ (ys : List (Result Parts ProviderStep)). AllZip (Knows rules) (so_far ++ p ∷ []) ys) (sym c.in_ok-push.ensures.ok)
          (zip_push (Knows rules) so_far c.loop-provider.all p c.in_ok-wellknown.wellknown c.loop-provider.invariant.0 one)),
      c.wellknown.ensures.sight ∙ c.loop-provider.invariant.1,
    )
