-- Where the parts of a URL stand in its text.
use Rattle.std.proofs.Common.{◌≡◌, ℕ, ◌+◌, ◌≤◌, cond, List, [], length, Some, sym, ap, ◌∙◌, ⊎_elim, append-nil}
use Rattle.std.proofs.Common.{arith, lit≤}
use Rattle.std.specs.Prelude.{Option, is_some, unwrap_or, option_map, slice_range}
use Rattle.url.specs.declared.slicing.Position.TheVariants.{BeforePath, AfterPath, BeforeQuery, AfterQuery}
use Rattle.url.specs.Parts.{Parts, pieces, serialize, offset, text_between}
use Rattle.url.proofs.PiecesLemmas.{option_cases, slice_at, steps, upto-le}

-- the path ends before the `?`, or where the query ends that is not there
after_path : (url : Parts) (mark : Option ℕ) (end : ℕ) → mark ≡ option_map (λ _. offset url AfterPath) url.query
    → end ≡ offset url AfterQuery → unwrap_or mark end ≡ offset url AfterPath
after_path url mark end is ended =
    let s = steps url in
    ⊎_elim
    (λ none.
    let short : cond {A = ℕ} (is_some url.query) 1 0 ≡ 0 = rw none in
    let empty : length (unwrap_or url.query []) ≡ 0 = rw none in
    ap (λ o. unwrap_or o end) (is ∙ ap (option_map (λ _. offset url AfterPath)) none) ∙ ended ∙ grind arith)
    (λ some. ap (λ o. unwrap_or o end) (is ∙ ap (option_map (λ _. offset url AfterPath)) some.1))
    (option_cases url.query)

pub path_is : (text : List ℕ) (url : Parts) (start stop : ℕ) (mark : Option ℕ) (end : ℕ) → text ≡ serialize url
    → start ≡ offset url BeforePath → mark ≡ option_map (λ _. offset url AfterPath) url.query → end ≡ offset url AfterQuery
    → stop ≡ unwrap_or mark end → slice_range text start stop ≡ url.path
path_is text url start stop mark end spelled from is ended stops =
    slice_at text (pieces url) 10 11 _ _ spelled (lit≤ tt) from (stops ∙ after_path url mark end is ended) ∙ append-nil _

pub path_query_is : (text : List ℕ) (url : Parts) (start end : ℕ) → text ≡ serialize url → start ≡ offset url BeforePath
    → end ≡ offset url AfterQuery → slice_range text start end ≡ text_between url BeforePath AfterQuery
path_query_is text url start end spelled from ended = slice_at text (pieces url) 10 13 _ _ spelled (lit≤ tt) from ended

pub query_is : (text : List ℕ) (url : Parts) (mark end : ℕ) → text ≡ serialize url
    → Some mark ≡ option_map (λ _. offset url AfterPath) url.query → end ≡ offset url AfterQuery
    → Some (slice_range text (mark + 1) end) ≡ url.query
query_is text url mark end spelled is ended =
    ⊎_elim
    (λ none. let never = is ∙ ap (option_map (λ _. offset url AfterPath)) none in absurd (cc))
    (λ some.
    let at : mark ≡ offset url AfterPath = let e = is ∙ ap (option_map (λ _. offset url AfterPath)) some.1 in cc in
    let from : mark + 1 ≡ offset url BeforeQuery = sym ((steps url).before_query
    ∙ ap (λ o. offset url AfterPath + cond (is_some o) 1 0) some.1 ∙ ap (λ n. n + 1) (sym at)) in
    let text_is =
    slice_at text (pieces url) 12 13 _ _ spelled (lit≤ tt) from ended ∙ append-nil _ ∙ ap (λ o. unwrap_or o []) some.1 in
    ap Some text_is ∙ sym some.1)
    (option_cases url.query)

pub end_within : (text : List ℕ) (url : Parts) (end : ℕ) → text ≡ serialize url → end ≡ offset url AfterQuery
    → end ≤ length text
end_within text url end spelled ended = let le = upto-le (pieces url) 13 in let len = ap length spelled in omega arith
