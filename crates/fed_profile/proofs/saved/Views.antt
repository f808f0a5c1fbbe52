-- Two views that show the same are equal.
use Rattle.std.proofs.Common.{◌≡◌, ℕ, List, [], ◌∷◌, map, Option, Some, refl, sym, ap, ap₂, ◌∙◌}
use Rattle.fed_origin.specs.declared.stage.Stage.{Stage}
use Rattle.fed_session.specs.declared.view.View.{View}
use Rattle.fed_session.specs.Session.{Shows, with_stage}
use Rattle.fed_trace.specs.Row.{IsRun}
use Rattle.fed_trace.specs.Trace.{Trace}
use Rattle.fed_profile.specs.declared.state.Saved.{Saved}
use Rattle.fed_profile.specs.declared.state.Saved.TheVariants.{Lines, Pending, Item}
use Rattle.fed_profile.specs.Continues.{Continues}
use Rattle.fed_profile.specs.Save.{Saves, IfLines}
use Rattle.fed_profile.proofs.saved.Continues.{saved_continues_lem}

same_call : (a b : ℕ × ℕ × Stage) → with_stage a ≡ with_stage b → a ≡ b
same_call a b e =
    let x : a.0 ≡ b.0 = ap (λ (c : ℕ × ℕ × Option Stage). c.0) e in
    let y : a.1 ≡ b.1 = ap (λ (c : ℕ × ℕ × Option Stage). c.1) e in
    let z : Some a.2 ≡ Some b.2 = ap (λ (c : ℕ × ℕ × Option Stage). c.2) e in
    let w : a.2 ≡ b.2 = cc in
    λ i. (x i, y i, w i)

same_calls : (xs ys : List (ℕ × ℕ × Stage)) → map with_stage xs ≡ map with_stage ys → xs ≡ ys
same_calls [] [] e = refl
same_calls [] (y ∷ ys) e = absurd (cc)
same_calls (x ∷ xs) [] e = absurd (cc)
same_calls (x ∷ xs) (y ∷ ys) e =
    let first : with_stage x ≡ with_stage y = cc in
    let rest : map with_stage xs ≡ map with_stage ys = cc in
    ap₂ (λ a l. a ∷ l) (same_call x y first) (same_calls xs ys rest)

pub views_same : (T : Trace) (v w : View) → Shows v T → Shows w T → v ≡ w
views_same T v w a b =
    let calls = same_calls v.calls w.calls (a.calls ∙ sym b.calls) in
    λ i. record {
      now = (a.now ∙ sym b.now) i;
      login = (a.login ∙ sym b.login) i;
      kept = (a.kept ∙ sym b.kept) i;
      silent = (a.silent ∙ sym b.silent) i;
      cookies = (a.cookies ∙ sym b.cookies) i;
      pages = (a.pages ∙ sym b.pages) i;
      calls = calls i;
    }

-- what the lines of a view go on as, where it is saved as lines
pub if_saved : (T : Trace) (view : View) (saved : Saved) → IsRun T.header T.rows → Shows view T → Saves view T.header.rules saved
    → IfLines (Continues T) saved
if_saved T view (Lines text) run shows saves = saved_continues_lem T view text run shows saves
if_saved T view (Pending call) run shows saves = tt
if_saved T view (Item place) run shows saves = tt
