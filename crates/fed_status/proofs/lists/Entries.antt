-- What is true of each entry.
use Rattle.std.proofs.Common.{◌≡◌, Bool, true, false, cond, List, [], ◌∷◌, ◌++◌, filter, refl}
use Rattle.std.specs.List.{AllByRecursion, list_any}
use Rattle.std.specs.Map.{values_of, remove_entry}

-- what is true of each entry
pub each : {X : Type 0} {P Q : X → Type 0} → ((x : X) → P x → Q x) → (xs : List X) → AllByRecursion P xs → AllByRecursion Q xs
each f [] all = tt
each f (x ∷ xs) all = (f x all.0, each f xs all.1)

-- no value passes
module _ {K V : Type 0} (by_value : V → Bool) where
  pub none_passes : (es : List (K × V)) → AllByRecursion (λ e. by_value e.1 ≡ false) es → list_any by_value (values_of es) ≡ false
  none_passes [] all = refl
  none_passes (e ∷ es) all = rw (all.0, none_passes es all.1) refl

-- what is true of each entry stays so
module _ {K V : Type 0} (P : K × V → Type 0) where
  pub each_removed : (test : K → Bool) (es : List (K × V)) → AllByRecursion P es → AllByRecursion P (remove_entry test es)
  each_removed test [] all = tt
  each_removed test (e ∷ es) all = pick (test e.0) (each_removed test es all.1)
    where
      pick : (b : Bool) → AllByRecursion P (remove_entry test es) → AllByRecursion P (cond b es (e ∷ remove_entry test es))
      pick true h = all.1
      pick false h = (all.0, h)

  pub each_filtered : (test : K × V → Bool) (es : List (K × V)) → AllByRecursion P es → AllByRecursion P (filter test es)
  each_filtered test [] all = tt
  each_filtered test (e ∷ es) all = pick (test e) (each_filtered test es all.1)
    where
      pick : (b : Bool) → AllByRecursion P (filter test es) → AllByRecursion P (cond b (e ∷ filter test es) (filter test es))
      pick true h = (all.0, h)
      pick false h = h

  pub each_put_last : (e : K × V) (es : List (K × V)) → AllByRecursion P es → P e → AllByRecursion P (es ++ e ∷ [])
  each_put_last e [] all h = (h, tt)
  each_put_last e (x ∷ es) all h = (all.0, each_put_last e es all.1 h)
