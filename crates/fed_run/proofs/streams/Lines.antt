-- A run goes on by a line, and by a piece.
use Rattle.std.proofs.Common.{◌≡◌, ◌∙◌, ℕ, zero, suc, ◌+◌, ◌-◌, ◌≤◌, List, [], ◌∷◌, ◌++◌, length, Some, None, refl, ap, sym, subst}
use Rattle.std.proofs.Common.{arith, rules, append_assoc, append-nil, length-append, take, drop, take-append-drop}
use Rattle.std.proofs.KnownBytes.{Appends-trans, Consumes-trans}
use Rattle.std.proofs.lemmas.List.{take-append-le, length-take}
use Rattle.std.specs.Io.KnownBytes.{Appends, Consumes}
use Rattle.std.specs.Prelude.{Option, Result, Ok, Err, OnErr}
use Rattle.std.specs.Result.{IsErrOf}
use Rattle.std.specs.Prelude.{IsErrAnd}
use Rattle.fed_io.specs.Io.{IsPrefixOf, AppendsFront, AppendsLess}
use Rattle.fed_script.specs.declared.cause.LineCause.{LineCause}
use Rattle.fed_script.specs.declared.event.Line.{Line}
use Rattle.fed_script.specs.declared.event.Line.TheVariants as found
use Rattle.fed_script.specs.Reader.{Phase, ReaderParts, ReadsLine, ReadsNoLine, Finishes, ended_lines, all_lines, used_by}
use Rattle.fed_script.specs.Reader.{events_read}
use Rattle.fed_script.specs.Used.{UsedState}
use Rattle.fed_session.specs.Session.{State}
use Rattle.fed_trace.specs.Trace.{Trace}
use Rattle.fed_run.specs.declared.stop.Stop.{Stop}
use Rattle.fed_run.specs.declared.stop.Stop.TheVariants as stops
use Rattle.fed_run.specs.Run.{TakesAtMost}
use Rattle.fed_run.specs.Streams.{StopsAs, IsLong, Took, IsAt, MetBad, LastAt, all_but}
use Rattle.fed_run.specs.Told.{Told, nothing, tell, told, told_ended, told_all, trace_text, line_text, bad_of, At, last_text, events_told}
use Rattle.fed_run.specs.Told.{ended_records, all_records}
use Rattle.fed_run.proofs.streams.Fronts.{grows, told-one, prefix-refl, prefix-trans, prefix-onto, ended_records-append}
use Rattle.fed_run.proofs.streams.Fronts.{ended_records-prefix, ended_records-run, less-longer, less-onto}

pub tell-bad : (t : Told) (line : Line) → t.bad ≡ None → (tell t line).bad ≡ bad_of line
tell-bad t (found.Blank n) good = good
tell-bad t (found.Head n header) good = good
tell-bad t (found.Event n event) good = good
tell-bad t (found.Bad n cause) good = refl

-- what was told after one line more
pub told-line : (bytes more : List ℕ) (line : Line) → ended_lines more ≡ ended_lines bytes ++ line ∷ []
    → told_ended more ≡ tell (told_ended bytes) line
told-line bytes more line is = ap (told nothing) is ∙ told-one nothing (ended_lines bytes) line

pub ended_records-line : (bytes more : List ℕ) (line : Line) → ended_lines more ≡ ended_lines bytes ++ line ∷ []
    → ended_records more ≡ ended_records bytes ++ line_text (told_ended bytes).trace line
ended_records-line bytes more line is = ap (λ (t : Told). trace_text t.trace) (told-line bytes more line is) ∙ grows (told_ended bytes) line

-- by a line that is not bad
pub goes_line : (reader reader' : ReaderParts) (session session' : Option State) (start taken taken' : Option (List ℕ))
    (bytes piece further : List ℕ) (line : Line)
    → (so : IsAt reader session start taken bytes) → (one : ReadsLine reader reader' piece further line)
    → At (used_by line reader.phase.used) session' (tell (told_ended bytes) line).trace
    → Appends taken taken' (line_text (told_ended bytes).trace line) → bad_of line ≡ None
    → IsAt reader' session' start taken' (bytes ++ one.front)
goes_line reader reader' session session' start taken taken' bytes piece further line so one at wrote good =
    let read = one.feeds bytes so.read in
    let t : told_ended (bytes ++ one.front) ≡ tell (told_ended bytes) line = told-line bytes (bytes ++ one.front) line read.1 in
    let used : reader'.phase.used ≡ used_by line reader.phase.used = ap (λ (p : Phase). p.used) one.phase in
    record {
      read = read.0;
      at =
          subst (λ u. At u session' (told_ended (bytes ++ one.front)).trace) (sym used)
          (subst (λ (t : Told). At (used_by line reader.phase.used) session' t.trace) (sym t) at);
      good = ap (λ (t : Told). t.bad) t ∙ tell-bad (told_ended bytes) line so.good ∙ good;
      written =
          subst (Appends start taken') (sym (ended_records-line bytes (bytes ++ one.front) line read.1))
          (Appends-trans _ _ _ _ _ so.written wrote);
    }

-- at a bad line
pub meets_bad : (reader reader' : ReaderParts) (session : Option State) (start taken taken' : Option (List ℕ))
    (bytes piece further : List ℕ) (line : Line) (bad : ℕ × LineCause)
    → (so : IsAt reader session start taken bytes) → (one : ReadsLine reader reader' piece further line)
    → Appends taken taken' (line_text (told_ended bytes).trace line) → bad_of line ≡ Some bad
    → MetBad start taken' (bytes ++ piece) bad
meets_bad reader reader' session start taken taken' bytes piece further line bad so one wrote is =
    let read = one.feeds bytes so.read in
    record {
      front = bytes ++ one.front;
      rest = further;
      cut = ap (λ p. bytes ++ p) one.cut ∙ sym (append_assoc bytes one.front further);
      is_bad = ap (λ (t : Told). t.bad) (told-line bytes (bytes ++ one.front) line read.1) ∙ tell-bad (told_ended bytes) line so.good ∙ is;
      written =
          subst (Appends start taken') (sym (ended_records-line bytes (bytes ++ one.front) line read.1))
          (Appends-trans _ _ _ _ _ so.written wrote);
    }

-- where a line's records are not all put
pub stops_line : (reader reader' : ReaderParts) (session : Option State) (start taken taken' : Option (List ℕ))
    (bytes piece further : List ℕ) (line : Line)
    → (so : IsAt reader session start taken bytes) → (one : ReadsLine reader reader' piece further line)
    → AppendsFront taken taken' (line_text (told_ended bytes).trace line)
    → Took start taken' (ended_records bytes) (ended_records (bytes ++ piece))
stops_line reader reader' session start taken taken' bytes piece further line so one wrote =
    let read = one.feeds bytes so.read in
    let cut : (bytes ++ one.front) ++ further ≡ bytes ++ piece =
    append_assoc bytes one.front further ∙ ap (λ p. bytes ++ p) (sym one.cut) in
    record {
      text = ended_records bytes ++ wrote.0;
      appends = Appends-trans _ _ _ _ _ so.written wrote.2;
      low = (wrote.0, refl);
      high = prefix-trans _ _ _ (prefix-onto (ended_records bytes) _ _ wrote.1)
          (subst (λ l. IsPrefixOf l (ended_records (bytes ++ piece))) (ended_records-line bytes (bytes ++ one.front) line
          read.1) (ended_records-prefix _ _ (further, cut)));
    }

-- where the sink failed at a line's records
pub fails_line : (reader reader' : ReaderParts) (session : Option State) (start taken taken' : Option (List ℕ))
    (bytes piece further : List ℕ) (line : Line)
    → (so : IsAt reader session start taken bytes) → (one : ReadsLine reader reader' piece further line)
    → AppendsLess taken taken' (line_text (told_ended bytes).trace line) → AppendsLess start taken' (ended_records (bytes ++ piece))
fails_line reader reader' session start taken taken' bytes piece further line so one wrote =
    let read = one.feeds bytes so.read in
    let cut : (bytes ++ one.front) ++ further ≡ bytes ++ piece =
    append_assoc bytes one.front further ∙ ap (λ p. bytes ++ p) (sym one.cut) in
    less-longer _ _ _ _ (subst (λ l. IsPrefixOf l (ended_records (bytes ++ piece))) (ended_records-line bytes (bytes ++ one.front) line
    read.1) (ended_records-prefix _ _ (further, cut))) (less-onto _ _ _ _ _ so.written wrote)

-- where no line was taken
pub stops_here : (reader : ReaderParts) (session : Option State) (start taken : Option (List ℕ)) (bytes piece : List ℕ)
    → IsAt reader session start taken bytes → Took start taken (ended_records bytes) (ended_records (bytes ++ piece))
stops_here reader session start taken bytes piece so =
    record { text = ended_records bytes; appends = so.written; low = prefix-refl _; high = ended_records-append bytes piece }

-- a piece in which no line ends
pub goes_rest : (reader reader' : ReaderParts) (session : Option State) (start taken : Option (List ℕ)) (bytes piece : List ℕ)
    → IsAt reader session start taken bytes → ReadsNoLine reader reader' piece → IsAt reader' session start taken (bytes ++ piece)
goes_rest reader reader' session start taken bytes piece so kept =
    let read = kept.feeds bytes so.read in
    let used : reader'.phase.used ≡ reader.phase.used = ap (λ (p : Phase). p.used) kept.phase in
    let same : ended_lines (bytes ++ piece) ≡ ended_lines bytes = read.1 ∙ append-nil (ended_lines bytes) in
    record {
      read = read.0;
      at =
          subst (λ u. At u session (told_ended (bytes ++ piece)).trace) (sym used)
          (subst (λ ls. At reader.phase.used session (told nothing ls).trace) (sym same) so.at);
      good = ap (λ ls. (told nothing ls).bad) same ∙ so.good;
      written = subst (λ ls. Appends start taken (trace_text (told nothing ls).trace)) (sym same) so.written;
    }

-- a longer least text, or a front of the bytes
pub took_later : (start taken : Option (List ℕ)) (bytes front piece rest : List ℕ) → piece ≡ front ++ rest
    → Took start taken (ended_records (bytes ++ front)) (ended_records ((bytes ++ front) ++ rest))
    → Took start taken (ended_records bytes) (ended_records (bytes ++ piece))
took_later start taken bytes front piece rest cut took =
    let whole = append_assoc bytes front rest ∙ ap (λ p. bytes ++ p) (sym cut) in
    record {
      text = took.text;
      appends = took.appends;
      low = prefix-trans _ _ _ (ended_records-append bytes front) took.low;
      high = subst (λ l. IsPrefixOf took.text (ended_records l)) whole took.high;
    }

pub fails_later : (start taken : Option (List ℕ)) (bytes front piece rest : List ℕ) → piece ≡ front ++ rest
    → AppendsLess start taken (ended_records ((bytes ++ front) ++ rest)) → AppendsLess start taken (ended_records (bytes ++ piece))
fails_later start taken bytes front piece rest cut less =
    subst (λ l. AppendsLess start taken (ended_records l)) (append_assoc bytes front rest ∙ ap (λ p. bytes ++ p) (sym cut)) less

pub on_err : {A E : Type 0} {P : Type 0} (r : Result A E) → P → OnErr r P
on_err (Ok x) p = tt
on_err (Err e) p = p

-- an error that is that of another result
pub err_given : {T U E : Type 0} (r : Result T E) (given e : E) → IsErrAnd r (λ y. y ≡ given) → IsErrOf r e
    → IsErrOf {T = U} (Err given) e
err_given (Ok x) given e is h = absurd is
err_given (Err y) given e is h = let same : given ≡ e = cc in ap Err same

pub met_later : (start taken : Option (List ℕ)) (bytes front piece rest : List ℕ) (bad : ℕ × LineCause) → piece ≡ front ++ rest
    → MetBad start taken ((bytes ++ front) ++ rest) bad
    → MetBad start taken (bytes ++ piece) bad
met_later start taken bytes front piece rest bad cut met =
    subst (λ l. MetBad start taken l bad) (append_assoc bytes front rest ∙ ap (λ p. bytes ++ p) (sym cut)) met

-- ---- the end

at-count : (used : Option UsedState) (session : Option State) (trace : Option Trace) → At used session trace
    → events_read used ≡ events_told trace
at-count None None None at = refl
at-count (Some used) (Some s) (Some T) at = at.count
at-count None None (Some T) at = absurd at
at-count None (Some s) trace at = absurd at
at-count (Some used) None trace at = absurd at
at-count (Some used) (Some s) None at = absurd at

told-all : (bytes : List ℕ) (line : Line) → all_lines bytes ≡ ended_lines bytes ++ line ∷ [] → told_all bytes ≡ tell (told_ended bytes) line
told-all bytes line is = ap (told nothing) is ∙ told-one nothing (ended_lines bytes) line

-- with a last line
pub last_at : (reader reader' : ReaderParts) (session session' : Option State) (start taken taken' : Option (List ℕ)) (bytes : List ℕ)
    (line : Line) (bad : Option (ℕ × LineCause))
    → (so : IsAt reader session start taken bytes) → Finishes reader (line ∷ []) → reader'.phase.used ≡ used_by line reader.phase.used
    → At (used_by line reader.phase.used) session' (tell (told_ended bytes) line).trace
    → Appends taken taken' (line_text (told_ended bytes).trace line) → bad ≡ bad_of line
    → LastAt reader' start taken' bytes bad
last_at reader reader' session session' start taken taken' bytes line bad so ends used at wrote is =
    let t = told-all bytes line (ends bytes so.read) in
    record {
      is_bad = ap (λ (t : Told). t.bad) t ∙ tell-bad (told_ended bytes) line so.good ∙ sym is;
      count = ap events_read used ∙ at-count _ session' _ at ∙ ap (λ (t : Told). events_told t.trace) (sym t);
      written =
          subst (Appends start taken') (sym (ap (λ (t : Told). trace_text t.trace) t ∙ grows (told_ended bytes) line)) (Appends-trans _ _ _
          _ _ so.written wrote);
    }

-- without one
pub last_none : (reader reader' : ReaderParts) (session : Option State) (start taken : Option (List ℕ)) (bytes : List ℕ)
    → (so : IsAt reader session start taken bytes) → Finishes reader [] → reader'.phase.used ≡ reader.phase.used
    → LastAt reader' start taken bytes None
last_none reader reader' session start taken bytes so ends used =
    let lines : all_lines bytes ≡ ended_lines bytes = ends bytes so.read ∙ append-nil (ended_lines bytes) in
    let t : told_all bytes ≡ told_ended bytes = ap (told nothing) lines in
    record {
      is_bad = ap (λ (t : Told). t.bad) t ∙ so.good;
      count = ap events_read used ∙ at-count _ session _ so.at ∙ ap (λ (t : Told). events_told t.trace) (sym t);
      written = subst (λ (t : Told). Appends start taken (trace_text t.trace)) (sym t) so.written;
    }

-- where the last line's records are not all put
pub stops_last : (reader : ReaderParts) (session : Option State) (start taken taken' : Option (List ℕ)) (bytes : List ℕ) (line : Line)
    → (so : IsAt reader session start taken bytes) → Finishes reader (line ∷ [])
    → AppendsFront taken taken' (line_text (told_ended bytes).trace line)
    → Took start taken' (ended_records bytes) (all_records bytes)
stops_last reader session start taken taken' bytes line so ends wrote =
    let t = told-all bytes line (ends bytes so.read) in
    let whole : trace_text (told_all bytes).trace ≡ ended_records bytes ++ line_text (told_ended bytes).trace line =
    ap (λ (t : Told). trace_text t.trace) t ∙ grows (told_ended bytes) line in
    record {
      text = ended_records bytes ++ wrote.0;
      appends = Appends-trans _ _ _ _ _ so.written wrote.2;
      low = (wrote.0, refl);
      high = prefix-trans _ _ _ (prefix-onto (ended_records bytes) _ _ wrote.1)
          (subst (λ l. IsPrefixOf l (all_records bytes)) whole (last_text (events_told (told_all bytes).trace) (told_all bytes).bad, refl));
    }

-- where the sink failed at them
pub fails_last : (reader : ReaderParts) (session : Option State) (start taken taken' : Option (List ℕ)) (bytes : List ℕ) (line : Line)
    → (so : IsAt reader session start taken bytes) → Finishes reader (line ∷ [])
    → AppendsLess taken taken' (line_text (told_ended bytes).trace line) → AppendsLess start taken' (all_records bytes)
fails_last reader session start taken taken' bytes line so ends wrote =
    let t = told-all bytes line (ends bytes so.read) in
    let whole : trace_text (told_all bytes).trace ≡ ended_records bytes ++ line_text (told_ended bytes).trace line =
    ap (λ (t : Told). trace_text t.trace) t ∙ grows (told_ended bytes) line in
    less-longer _ _ _ _ (subst (λ l. IsPrefixOf l (all_records bytes)) whole (
      last_text (events_told (told_all bytes).trace)
          (told_all bytes).bad,
      refl,
    )) (less-onto _ _ _ _ _ so.written wrote)

pub stops_end : (reader : ReaderParts) (session : Option State) (start taken : Option (List ℕ)) (bytes : List ℕ)
    → IsAt reader session start taken bytes → Took start taken (ended_records bytes) (all_records bytes)
stops_end reader session start taken bytes so = record {
  text = ended_records bytes;
  appends = so.written;
  low = prefix-refl _;
  high = subst (λ l. IsPrefixOf (ended_records bytes) (all_records l)) (append-nil bytes) (ended_records-run bytes []);
}

-- ---- pieces

-- without its last bytes, a piece more is a front of what was there
pub all_but-front : (n : ℕ) (bytes piece : List ℕ) → length piece ≤ n → IsPrefixOf (all_but n (bytes ++ piece)) bytes
all_but-front n bytes piece within =
    let k = length (bytes ++ piece) - n in
    let few : k ≤ length bytes = omega (arith, length-append {A = ℕ}) in
    (drop k bytes, ap (λ l. l ++ drop k bytes) (take-append-le k bytes piece few) ∙ take-append-drop k bytes)

-- where a piece is not written whole
stops_piece : {T : Type 0} (left left' start taken : Option (List ℕ)) (bytes piece : List ℕ) (stop : Stop)
    → Consumes left left' (bytes ++ piece) → length (bytes ++ piece) ≤ 67108864
    → Took start taken (ended_records (all_but 65536 (bytes ++ piece))) (ended_records (bytes ++ piece))
    → (IsErrOf {T = T} (Err stop) stops.ReadFault → ⊥)
    → (IsErrOf {T = T} (Err stop) stops.WriteFault → AppendsLess start taken (ended_records (bytes ++ piece)))
    → StopsAs stop left left' start taken
stops_piece left left' start taken bytes piece stops.ReadFault consumed few took never less = absurd (never refl)
stops_piece left left' start taken bytes piece stops.WriteFault consumed few took never less =
    record { only = record { bytes = bytes ++ piece; consumed = consumed; few = few; took = took }; less = less refl }
stops_piece left left' start taken bytes piece stops.NoRoom consumed few took never less =
    record { bytes = bytes ++ piece; consumed = consumed; few = few; took = took }

-- that was taken into a buffer
pub stops_taken : {T : Type 0} (left left' left'' start taken : Option (List ℕ)) (bytes buf more : List ℕ) (n room : ℕ) (stop : Stop)
    → Consumes left left' bytes → Consumes left' left'' (take n buf)
    → n ≤ length buf → length buf ≤ room → room ≤ 65536 → length bytes + room ≤ 67108864
    → Took start taken (ended_records bytes) (ended_records (bytes ++ take n (buf ++ more)))
    → (IsErrOf {T = T} (Err stop) stops.ReadFault → ⊥)
    → (IsErrOf {T = T} (Err stop) stops.WriteFault → AppendsLess start taken (ended_records (bytes ++ take n (buf ++ more))))
    → StopsAs stop left left'' start taken
stops_taken left left' left'' start taken bytes buf more n room stop before now within fits piece few took never less =
    let same : take n (buf ++ more) ≡ take n buf = take-append-le n buf more within in
    let size : length (take n buf) ≤ n = simp length-take (omega arith) in
    let front = all_but-front 65536 bytes (take n buf) (omega (arith, size)) in
    let e = length-append {A = ℕ} bytes (take n buf) in
    let so = rw same at took in
    stops_piece left left'' start taken bytes (take n buf) stop (Consumes-trans left left' left'' bytes (take n buf) before now) (omega (arith, e, size))
    (record { text = so.text; appends = so.appends; low = prefix-trans _ _ _ (ended_records-prefix _ _ front) so.low; high = so.high })
    never (λ is. rw same at (less is))

-- the byte after the limit
pub one_taken : (n : ℕ) (buf : List ℕ) → n ≤ length buf → length buf ≡ 1 → (n ≡ 0 → ⊥) → (x : ℕ) × (take n buf ≡ x ∷ [])
one_taken n [] within one some = absurd (search (one, rules))
one_taken n (x ∷ []) within one some = let e : n ≡ 1 = one_is n within some in rw e (x, refl)
  where
    one_is : (n : ℕ) → n ≤ length (x ∷ []) → (n ≡ 0 → ⊥) → n ≡ 1
    one_is zero within some = absurd (some refl)
    one_is (suc n) within some = omega arith
one_taken n (x ∷ y ∷ buf) within one some = absurd (omega (arith, one))

pub is_long : (left left' left'' start taken : Option (List ℕ)) {reader : ReaderParts} {session : Option State} (bytes buf : List ℕ) (n : ℕ)
    → Consumes left left' bytes → Consumes left' left'' (take n buf)
    → n ≤ length buf → length buf ≡ 1 → (n ≡ 0 → ⊥) → length bytes ≡ 67108864 → IsAt reader session start taken bytes
    → IsLong left left'' start taken
is_long left left' left'' start taken bytes buf n before now within one some full at =
    let got = one_taken n buf within one some in
    record {
      bytes = bytes;
      next = got.0;
      consumed = subst (λ l. Consumes left left'' (bytes ++ l)) got.1 (Consumes-trans left left' left'' bytes (take n buf) before now);
      full = full;
      good = at.good;
      written = at.written;
    }

-- no more than the limit and one byte is taken
pub takes_more : (left left' left'' : Option (List ℕ)) (bytes buf : List ℕ) (n room : ℕ) → Consumes left left' bytes
    → Consumes left' left'' (take n buf) → length buf ≤ room → length bytes + room ≤ 67108865 → TakesAtMost left left'' 67108865
takes_more left left' left'' bytes buf n room before now fits few =
    let size : length (take n buf) ≤ length buf = simp length-take (omega arith) in
    let e = length-append {A = ℕ} bytes (take n buf) in
    (bytes ++ take n buf, Consumes-trans left left' left'' bytes (take n buf) before now, omega (arith, e, size))
