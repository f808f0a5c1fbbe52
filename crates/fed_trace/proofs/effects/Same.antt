-- Effects with the same cookies are the same.
use Rattle.std.proofs.Common.{◌≡◌, ℕ, Bool, true, false, List, [], ◌∷◌, ◌++◌, refl, ap, ◌∙◌}
use Rattle.std.specs.Prelude.{Option, Some, None, map}
use Rattle.std.specs.List.{flat_map}
use Rattle.fed_origin.specs.declared.origin.Origin.{Origin}
use Rattle.fed_origin.specs.Origin.{is_trustworthy}
use Rattle.fed_status.specs.Shared.{World}
use Rattle.fed_consent.specs.declared.table.ask.Ask.{Ask}
use Rattle.fed_consent.specs.declared.table.effect.Effect.{Effect as CallEffect}
use Rattle.fed_consent.specs.declared.table.input.Input.{Input}
use Rattle.fed_consent.specs.declared.table.effect.Effect.TheVariants as does
use Rattle.fed_trace.specs.Begun.{Begun, CallKind, CallOptions, kind_asked}
use Rattle.fed_trace.specs.Call.{Known, kind_of, page_of, first_row, input_row}
use Rattle.fed_trace.specs.Effect.{Login, Begin, Sent, Dropped, Shown, Window, Kept, Flag, Result, Ignored}
use Rattle.fed_trace.specs.Row.{call_effects, moves, standing_call, begin_effects, input_effects}
use Rattle.fed_status.specs.Kept.{triples_of_pair}

-- effects with the same cookies are the same
same_effects : (world : World) (a b : Ask → List ℕ) → ((ask : Ask) → a ask ≡ b ask)
    → (kind : CallKind) (call page : ℕ) (effects : List CallEffect)
    → flat_map (call_effects world a kind call page) effects ≡ flat_map (call_effects world b kind call page) effects
same_effects world a b same kind call page effects = all effects
  where
    all : (effects : List CallEffect) → flat_map (call_effects world a kind call page) effects
        ≡ flat_map (call_effects world b kind call page) effects
    all [] = refl
    all (does.Send provider ask ∷ effects) =
        ap (λ c. Sent kind call provider ask c ∷ flat_map (call_effects world a kind call page) effects) (same ask)
        ∙ ap (λ xs. Sent kind call provider ask (b ask) ∷ xs) (all effects)
    all (does.Finish finish ∷ effects) = ap (λ xs. Result call page finish ∷ xs) (all effects)
    all (does.Ignored why ∷ effects) = ap (λ xs. Ignored why ∷ xs) (all effects)
    all (does.Dialog dialog ∷ effects) = ap (λ xs. Shown call dialog ∷ xs) (all effects)
    all (does.Dropped place failure ∷ effects) = ap (λ xs. Dropped call place failure ∷ xs) (all effects)
    all (does.Window place url ∷ effects) = ap (λ xs. Window call place url ∷ xs) (all effects)
    all (does.SetLogin origin status ∷ effects) = ap (λ xs. Login origin status ∷ xs) (all effects)
    all (does.Keep triple ∷ effects) = ap (λ xs. Kept triple true ∷ xs) (all effects)
    all (does.Forget triple ∷ effects) = ap (λ xs. Kept triple false ∷ xs) (all effects)
    all (does.ForgetPair p q ∷ effects) = ap (λ xs. map (λ triple. Kept triple false) (triples_of_pair world.kept p q) ++ xs) (all effects)
    all (does.ClearFlag origin ∷ effects) = ap (λ xs. Flag origin false ∷ xs) (all effects)

pub same_input : (a b : Ask → List ℕ) → ((ask : Ask) → a ask ≡ b ask)
    → (world : World) (taken : Bool) (call : ℕ) (known : Option Known) (input : Input)
    → input_effects world a taken call known input ≡ input_effects world b taken call known input
same_input a b same world false call known input = refl
same_input a b same world true call None input = refl
same_input a b same world true call (Some known) input =
    let outcome = input_row world known input in
    ap (λ xs. xs ++ moves (kind_of known) call outcome.stage)
    (same_effects world a b same (kind_of known) call (page_of known) outcome.effects)

same_standing : (a b : Ask → List ℕ) → ((ask : Ask) → a ask ≡ b ask) → (world : World) (trusted busy : Bool) (begun : Begun)
    → standing_call world a trusted busy begun ≡ standing_call world b trusted busy begun
same_standing a b same world false busy begun = refl
same_standing a b same world true busy begun =
    let outcome = first_row world busy begun.origin begun.options in
    let kind = kind_asked begun.options in
    ap (λ xs. Begin begun ∷ (xs ++ moves kind begun.call outcome.stage))
    (same_effects world a b same kind begun.call begun.page outcome.effects)

pub same_begin : (a b : Ask → List ℕ) → ((ask : Ask) → a ask ≡ b ask)
    → (world : World) (o : Option Origin) (busy : Bool) (page call : ℕ) (options : CallOptions)
    → begin_effects world a o busy page call options ≡ begin_effects world b o busy page call options
same_begin a b same world None busy page call options = refl
same_begin a b same world (Some origin) busy page call options =
    same_standing a b same world (is_trustworthy origin) busy (record { call = call; page = page; origin = origin; options = options })
