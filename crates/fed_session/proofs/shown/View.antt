-- What a view shows.
use Rattle.std.proofs.Common.{◌≡◌, ◌<◌, ◌≤◌, ◌+◌, ◌⊎◌, inl, inr, ℕ, suc, List, []}
use Rattle.std.proofs.Common.{◌∷◌, ◌++◌, Some, None, length}
use Rattle.std.proofs.Common.{take, get_or, map, refl, sym, ap, ◌∙◌, arith}
use Rattle.std.proofs.Math.Seq.{take-suc}
use Rattle.std.proofs.lemmas.List.{take_all}
use Rattle.std.proofs.lemmas.Option.{slice_get_within, get_or_from_slice_get, slice_get_cases}
use Rattle.std.specs.Prelude.{Option, slice_get}
use Rattle.std.specs.List.{cons_option}
use Rattle.fed_trace.specs.Call.{Known, page_of}
use Rattle.fed_trace.specs.Known.{known_in, known_at}
use Rattle.fed_session.specs.Session.{State, Stands, item_known, pending_call, pending_calls, with_stage}
use Rattle.fed_session.specs.StepParts.{shown_call, shown_calls}
use Rattle.fed_trace.specs.Trace.{Trace, staged, staged_by, stage_at}
use Rattle.fed_trace.proofs.known.Known.{found_by}

-- the pending ones are shown with their stages
shown_by : (T : Trace) (known : ℕ → Option Known) → ((call : ℕ) → known call ≡ known_at T call) → (calls : List ℕ)
    → map with_stage (shown_calls known calls) ≡ map (staged_by (stage_at T)) (pending_calls known calls)
shown_by T known h [] = refl
shown_by T known h (n ∷ calls) = go (known n) (h n) (shown_by T known h calls)
  where
    go : (one : Option Known) → one ≡ known_at T n
        → map with_stage (shown_calls known calls) ≡ map (staged_by (stage_at T)) (pending_calls known calls)
        → map with_stage (cons_option (shown_call n one) (shown_calls known calls))
        ≡ map (staged_by (stage_at T)) (cons_option (pending_call n one) (pending_calls known calls))
    go None is rest = rest
    go (Some one) is rest =
        let about = found_by one (stage_at T n) (known_in T.header T.rows n) (sym is) in
        ap (λ o. (n, page_of one, o) ∷ map with_stage (shown_calls known calls)) (sym about.stage_is)
        ∙ ap (λ xs. (n, page_of one, stage_at T n) ∷ xs) rest

pub shown : (s : State) (T : Trace) → Stands s T
    → map with_stage (shown_calls (item_known s.tabs.table.items) s.tabs.taken) ≡ staged T
shown s T h = shown_by T (item_known s.tabs.table.items) h.known s.tabs.taken ∙ ap (map (staged_by (stage_at T))) h.pending

-- ---- statuses one after the other

-- one item more
pub take_next : {A : Type 0} (xs : List A) (n : ℕ) (x : A) → slice_get xs n ≡ Some x → take (n + 1) xs ≡ take n xs ++ x ∷ []
take_next xs n x h =
    let one : n + 1 ≡ suc n = omega arith in
    ap (λ k. take k xs) one ∙ take-suc xs n x (slice_get_within xs n x h) ∙ ap (λ y. take n xs ++ y ∷ []) (get_or_from_slice_get xs n x x h)

-- past the end there is none
pub take_none : {A : Type 0} (xs : List A) (n : ℕ) → slice_get xs n ≡ None → take (n + 1) xs ≡ take n xs
take_none {A} xs n h = past (slice_get_cases xs n).1
  where
    past : ((x : A) × (n < length xs) × (slice_get xs n ≡ Some x) × (get_or xs n x ≡ x))
        ⊎ ((length xs ≤ n) × (slice_get xs n ≡ None))
        → take (n + 1) xs ≡ take n xs
    past (inl found) = let some = found.2 in absurd (cc)
    past (inr end) = let bound = end.0 in take_all (n + 1) xs (omega (arith, bound)) ∙ sym (take_all n xs bound)
