-- Fronts of what is written.
use Rattle.std.proofs.Common.{◌≡◌, ◌∙◌, ℕ, List, [], ◌∷◌, ◌++◌, length, Some, None, refl, ap, sym, subst, arith, append_assoc, append-nil}
use Rattle.std.proofs.Common.{length-append}
use Rattle.std.proofs.KnownBytes.{Appends-trans}
use Rattle.std.specs.Io.KnownBytes.{Appends}
use Rattle.std.specs.Prelude.{Option}
use Rattle.fed_io.specs.Io.{IsPrefixOf, AppendsLess}
use Rattle.fed_script.proofs.pieces.Phases.{lines_read-append}
use Rattle.fed_script.proofs.pieces.Whole.{whole_lines-append, lines_of-append}
use Rattle.fed_script.specs.declared.event.Line.{Line}
use Rattle.fed_script.specs.declared.event.Line.TheVariants as found
use Rattle.fed_script.specs.Pieces.{whole_lines, rest_of}
use Rattle.fed_script.specs.Reader.{fresh, lines_read, phase_past, ended_lines, all_lines, script_lines}
use Rattle.fed_script.specs.Script.{lines_of}
use Rattle.fed_trace.specs.Trace.{Trace}
use Rattle.fed_run.specs.Told.{Told, nothing, tell, told, told_ended, told_all, trace_text, told_text, last_text, events_told, ended_records}
use Rattle.fed_run.specs.Told.{all_records, line_text}

-- ---- fronts

pub prefix-refl : (xs : List ℕ) → IsPrefixOf xs xs
prefix-refl xs = ([], append-nil xs)

pub prefix-nil : (xs : List ℕ) → IsPrefixOf [] xs
prefix-nil xs = (xs, refl)

pub prefix-trans : (xs ys zs : List ℕ) → IsPrefixOf xs ys → IsPrefixOf ys zs → IsPrefixOf xs zs
prefix-trans xs ys zs first second =
    (first.0 ++ second.0, sym (append_assoc xs first.0 second.0) ∙ ap (λ l. l ++ second.0) first.1 ∙ second.1)

-- more in front of a front
pub prefix-onto : (xs ys zs : List ℕ) → IsPrefixOf ys zs → IsPrefixOf (xs ++ ys) (xs ++ zs)
prefix-onto xs ys zs front = (front.0, append_assoc xs ys front.0 ∙ ap (λ l. xs ++ l) front.1)

-- less than a front of a text is less than the text
pub less-longer : (old new : Option (List ℕ)) (xs ys : List ℕ) → IsPrefixOf xs ys → AppendsLess old new xs → AppendsLess old new ys
less-longer old new xs ys front less =
    let size = length-append {A = ℕ} xs front.0 in
    let whole = ap length front.1 in
    (less.0, prefix-trans _ _ _ less.1 front, omega (arith, less.2, size, whole), less.3)

-- less of what follows
pub less-onto : (old mid new : Option (List ℕ)) (xs ys : List ℕ) → Appends old mid xs → AppendsLess mid new ys
    → AppendsLess old new (xs ++ ys)
less-onto old mid new xs ys before less =
    let size = length-append {A = ℕ} xs less.0 in
    let whole = length-append {A = ℕ} xs ys in
    (xs ++ less.0, prefix-onto xs _ _ less.1, omega (arith, less.2, size, whole), Appends-trans _ _ _ _ _ before less.3)

-- ---- what lines tell

pub told-append : (t : Told) (xs ys : List Line) → told t (xs ++ ys) ≡ told (told t xs) ys
told-append t [] ys = refl
told-append t (x ∷ xs) ys = told-append (tell t x) xs ys

pub told-one : (t : Told) (xs : List Line) (x : Line) → told t (xs ++ x ∷ []) ≡ tell (told t xs) x
told-one t xs x = told-append t xs (x ∷ [])

-- the records of a line come after those before it
pub grows : (t : Told) (line : Line) → trace_text (tell t line).trace ≡ trace_text t.trace ++ line_text t.trace line
grows t line = step t.trace line
  where
    step : (trace : Option Trace) (line : Line) → trace_text (tell (record { trace = trace; bad = t.bad }) line).trace ≡ trace_text trace
        ++ line_text trace line
    step None (found.Blank n) = refl
    step None (found.Head n header) = refl
    step None (found.Event n event) = refl
    step None (found.Bad n cause) = refl
    step (Some T) (found.Blank n) = sym (append-nil _)
    step (Some T) (found.Head n header) = sym (append-nil _)
    step (Some T) (found.Event n event) = refl
    step (Some T) (found.Bad n cause) = sym (append-nil _)

pub told-prefix : (t : Told) (lines : List Line) → IsPrefixOf (trace_text t.trace) (trace_text (told t lines).trace)
told-prefix t [] = prefix-refl _
told-prefix t (line ∷ lines) = prefix-trans _ _ _ (line_text t.trace line, sym (grows t line)) (told-prefix (tell t line) lines)

-- ---- the lines of a front

pub ended_lines-append : (xs ys : List ℕ) → ended_lines (xs ++ ys) ≡ ended_lines xs
    ++ lines_read (phase_past fresh (whole_lines xs)) (whole_lines (rest_of xs ++ ys))
ended_lines-append xs ys =
    ap (lines_read fresh) (whole_lines-append xs ys) ∙ lines_read-append fresh (whole_lines xs) (whole_lines (rest_of xs ++ ys))

-- all lines begin with those of a front
pub all_lines-append : (xs ys : List ℕ) → (more : List Line) × (all_lines (xs ++ ys) ≡ ended_lines xs ++ more)
all_lines-append xs ys = split (whole_lines xs) (lines_of (rest_of xs ++ ys)) (lines_of-append xs ys)
  where
    split : (whole last : List (List ℕ)) → lines_of (xs ++ ys) ≡ whole ++ last
        → (more : List Line) × (all_lines (xs ++ ys) ≡ lines_read fresh whole ++ more)
    split [] last is = (all_lines (xs ++ ys), refl)
    split (line ∷ whole) last is =
        (lines_read (phase_past fresh (line ∷ whole)) last, ap script_lines is ∙ lines_read-append fresh (line ∷ whole) last)

-- what is written of a front is a front of what is written
pub ended_records-append : (xs ys : List ℕ) → IsPrefixOf (ended_records xs) (ended_records (xs ++ ys))
ended_records-append xs ys =
    let more = lines_read (phase_past fresh (whole_lines xs)) (whole_lines (rest_of xs ++ ys)) in
    let is : told_ended (xs ++ ys) ≡ told (told_ended xs) more =
    ap (told nothing) (ended_lines-append xs ys) ∙ told-append nothing (ended_lines xs) more in
    subst (λ t. IsPrefixOf (ended_records xs) (trace_text t.trace)) (sym is) (told-prefix (told_ended xs) more)

pub ended_records-prefix : (xs ys : List ℕ) → IsPrefixOf xs ys → IsPrefixOf (ended_records xs) (ended_records ys)
ended_records-prefix xs ys front = subst (λ l. IsPrefixOf (ended_records xs) (ended_records l)) front.1 (ended_records-append xs front.0)

pub ended_records-run : (xs ys : List ℕ) → IsPrefixOf (ended_records xs) (all_records (xs ++ ys))
ended_records-run xs ys =
    let all = all_lines-append xs ys in
    let is : told_all (xs ++ ys) ≡ told (told_ended xs) all.0 = ap (told nothing) all.1 ∙ told-append nothing (ended_lines xs) all.0 in
    let t = told (told_ended xs) all.0 in
    subst (λ t. IsPrefixOf (ended_records xs) (told_text t)) (sym is)
    (prefix-trans _ _ _ (told-prefix (told_ended xs) all.0) (last_text (events_told t.trace) t.bad, refl))

-- the records of whole lines are a front of those of all lines
pub ended_records-all : (xs : List ℕ) → IsPrefixOf (ended_records xs) (trace_text (told_all xs).trace)
ended_records-all xs =
    let all = all_lines-append xs [] in
    let is : told_all xs ≡ told (told_ended xs) all.0 =
    ap (λ l. told_all l) (sym (append-nil xs)) ∙ ap (told nothing) all.1 ∙ told-append nothing (ended_lines xs) all.0 in
    subst (λ (t : Told). IsPrefixOf (ended_records xs) (trace_text t.trace)) (sym is) (told-prefix (told_ended xs) all.0)
