-- How a run ends.
use Rattle.std.proofs.Common.{◌≡◌, ◌∙◌, ℕ, ◌+◌, ◌-◌, ◌<◌, ◌≤◌, ltb, lt-ltb, le-ltb, Bool, true, false, cond, List, [], ◌∷◌, ◌++◌, length}
use Rattle.std.proofs.Common.{Some, None, inl, inr, refl, ap, sym, subst, arith, rules, append_assoc, append-nil, length-append, take, drop}
use Rattle.std.proofs.Common.{take-append-drop}
use Rattle.std.proofs.KnownBytes.{Appends-trans, Appends-nil, Consumes-whole}
use Rattle.std.proofs.Math.Seq.{take-append-add, take-append_seam}
use Rattle.std.proofs.lemmas.Grind.{common_steps}
use Rattle.std.proofs.lemmas.Option.{IfSome_then}
use Rattle.std.specs.Io.KnownBytes.{Appends, Consumes, IsAtEnd}
use Rattle.std.specs.Prelude.{Option, is_some, IfSome, ◌⊎◌}
use Rattle.fed_io.specs.Io.{IsPrefixOf, AppendsFront, AppendsLess}
use Rattle.fed_script.proofs.pieces.Phases.{lines_read-append, lines_read-over}
use Rattle.fed_script.proofs.pieces.Whole.{whole_lines-append, lines_of-append}
use Rattle.fed_script.specs.declared.cause.LineCause.{LineCause}
use Rattle.fed_script.specs.declared.event.Line.{Line}
use Rattle.fed_script.specs.declared.event.Line.TheVariants as found
use Rattle.fed_script.specs.Pieces.{whole_lines, rest_of}
use Rattle.fed_script.specs.Reader.{Phase, ReaderParts, HasRead, fresh, read_as, phase_after, lines_read, phase_past, ended_lines}
use Rattle.fed_script.specs.Reader.{all_lines}
use Rattle.fed_script.specs.Reader.{script_lines, is_bad, events_read}
use Rattle.fed_script.specs.Script.{lines_of}
use Rattle.fed_session.specs.Session.{State}
use Rattle.fed_run.specs.declared.status.Status.{Status}
use Rattle.fed_run.specs.declared.form.Form.TheVariants.{Run}
use Rattle.fed_run.specs.declared.status.Status.TheVariants.{BadScript, TooLong, NoRoom}
use Rattle.fed_run.specs.Ends.{EndsAs, Writes}
use Rattle.fed_run.specs.Run.{run_text, lines_text, run_status, status_by, written_by, bad_ended}
use Rattle.fed_run.specs.Streams.{all_but, IsOver, StopsAfter, Took, IsAt, MetEnd, MetIn, IsLong}
use Rattle.fed_run.specs.Streams.{WritesOnly, LastAt, IsEnd, RunEnds}
use Rattle.fed_run.specs.Told.{Told, nothing, tell, told, told_ended, told_all, trace_text, told_text, last_text, events_told, ended_records}
use Rattle.fed_run.specs.Told.{all_records, end_status}
use Rattle.fed_run.proofs.streams.Fronts.{prefix-trans, prefix-onto, ended_records-prefix, ended_records-all, less-onto}
use Rattle.fed_run.proofs.streams.Scripts.{text-same, rows-same, bad-same, status-same}

-- ---- a bad line is the last

tell-over : (t : Told) (line : Line) → is_some t.bad ≡ false → is_some (tell t line).bad ≡ is_bad line
tell-over t (found.Blank n) good = good
tell-over t (found.Head n header) good = good
tell-over t (found.Event n event) good = good
tell-over t (found.Bad n cause) good = refl

-- the reading is over where a bad line was told
over-told : (t : Told) (p : Phase) (lines : List (List ℕ)) → p.over ≡ is_some t.bad
    → (phase_past p lines).over ≡ is_some (told t (lines_read p lines)).bad
over-told t p [] same = same
over-told t p (line ∷ lines) same =
    step p.over refl (λ good. over-told (tell t (read_as p line)) (phase_after p (read_as p line)) lines
    (sym (tell-over t (read_as p line) (sym same ∙ good))))
  where
    step : (ends : Bool) → p.over ≡ ends → (p.over ≡ false
        → (phase_past (phase_after p (read_as p line)) lines).over
        ≡ is_some (told (tell t (read_as p line)) (lines_read (phase_after p (read_as p line)) lines)).bad)
        → (cond ends p (phase_past (phase_after p (read_as p line)) lines)).over
        ≡ is_some (told t (cond ends [] (read_as p line ∷ lines_read (phase_after p (read_as p line)) lines))).bad
    step true is later = same
    step false is later = later is

-- so nothing follows it
bad-over : (xs : List ℕ) (bad : ℕ × LineCause) → (told_ended xs).bad ≡ Some bad → (phase_past fresh (whole_lines xs)).over ≡ true
bad-over xs bad is = over-told nothing fresh (whole_lines xs) refl ∙ ap is_some is

pub bad-before : (xs ys : List ℕ) (bad : ℕ × LineCause) → (told_ended xs).bad ≡ Some bad → ended_lines (xs ++ ys) ≡ ended_lines xs
bad-before xs ys bad is =
    let more = whole_lines (rest_of xs ++ ys) in
    ap (lines_read fresh) (whole_lines-append xs ys) ∙ lines_read-append fresh (whole_lines xs) more
    ∙ ap (λ fs. ended_lines xs ++ fs) (lines_read-over _ more (bad-over xs bad is)) ∙ append-nil _

pub bad-all : (xs ys : List ℕ) (bad : ℕ × LineCause) → (told_ended xs).bad ≡ Some bad → all_lines (xs ++ ys) ≡ ended_lines xs
bad-all xs ys bad is = split (whole_lines xs) refl (bad-over xs bad is)
  where
    more : List (List ℕ)
    more = lines_of (rest_of xs ++ ys)

    split : (whole : List (List ℕ)) → whole_lines xs ≡ whole → (phase_past fresh whole).over ≡ true
        → all_lines (xs ++ ys) ≡ lines_read fresh whole
    split [] same over = absurd (search (over, rules))
    split (line ∷ whole) same over =
        ap script_lines (lines_of-append xs ys ∙ ap (λ ls. ls ++ more) same) ∙ lines_read-append fresh (line ∷ whole) more
        ∙ ap (λ fs. lines_read fresh (line ∷ whole) ++ fs) (lines_read-over _ more over) ∙ append-nil _

-- ---- the limit

take_all : (limit : ℕ) (xs : List ℕ) → length xs ≤ limit → take limit xs ≡ xs
take_all limit xs within = grind (arith, common_steps)

pub take_front : (limit : ℕ) (xs ys : List ℕ) → length xs ≤ limit → take limit (xs ++ ys) ≡ xs ++ take (limit - length xs) ys
take_front limit xs ys within = let e : limit ≡ length xs + (limit - length xs) = omega arith in
    subst (λ n. take n (xs ++ ys) ≡ xs ++ take (limit - length xs) ys) (sym e) (take-append-add xs ys (limit - length xs))

-- how a run ends, by what lines tell
abbrev told_status : ℕ → List ℕ → Status
told_status limit bytes = status_by (told_ended (take limit bytes)).bad (ltb limit (length bytes)) (end_status (told_all bytes).bad)

status-is : (limit : ℕ) (bytes : List ℕ) → told_status limit bytes ≡ run_status limit bytes
status-is limit bytes =
    ap (λ bad. status_by bad (ltb limit (length bytes)) (end_status (told_all bytes).bad)) (bad-same (take limit bytes))
    ∙ ap (status_by (bad_ended (take limit bytes)) (ltb limit (length bytes))) (status-same bytes)

-- within the limit, with no bad line before the last
status-end : (limit : ℕ) (bytes : List ℕ) → length bytes ≤ limit → (told_ended bytes).bad ≡ None
    → end_status (told_all bytes).bad ≡ run_status limit bytes
status-end limit bytes within good =
    step _ (take limit bytes) (take_all limit bytes within) (le-ltb limit (length bytes) within) ∙ status-is limit bytes
  where
    step : (long : Bool) (front : List ℕ) → front ≡ bytes → long ≡ false
        → end_status (told_all bytes).bad ≡ status_by (told_ended front).bad long (end_status (told_all bytes).bad)
    step long front same short = rw (same, short, good) refl

-- with a bad line within the limit
pub status-bad : (limit : ℕ) (front more : List ℕ) (bad : ℕ × LineCause) → length front ≤ limit → (told_ended front).bad ≡ Some bad
    → BadScript ≡ run_status limit (front ++ more)
status-bad limit front more bad within is =
    let all = front ++ more in
    let within_limit : (told_ended (take limit all)).bad ≡ Some bad =
    ap (λ l. (told_ended l).bad) (take_front limit front more within)
    ∙ ap (λ ls. (told nothing ls).bad) (bad-before front (take (limit - length front) more) bad is) ∙ is in
    sym (ap (λ b. status_by b (ltb limit (length all)) (end_status (told_all all).bad)) within_limit) ∙ status-is limit all

-- with more bytes than the limit
status-long : (limit : ℕ) (bytes : List ℕ) (next : ℕ) (more : List ℕ) → length bytes ≡ limit → (told_ended bytes).bad ≡ None
    → (TooLong ≡ run_status limit ((bytes ++ next ∷ []) ++ more)) × (take limit ((bytes ++ next ∷ []) ++ more) ≡ bytes)
status-long limit bytes next more full good =
    let all = (bytes ++ next ∷ []) ++ more in
    let shape : all ≡ bytes ++ next ∷ more = append_assoc bytes (next ∷ []) more in
    let front : take limit all ≡ bytes =
    ap (take limit) shape ∙ subst (λ n. take n (bytes ++ next ∷ more) ≡ bytes) full (take-append_seam bytes (next ∷ more)) in
    let size = length-append {A = ℕ} bytes (next ∷ more) in
    let more_than : limit < length all = rw shape (omega (arith, size, full)) in (
      sym (ap (λ l. status_by (told_ended l).bad (ltb limit (length all)) (end_status (told_all all).bad)) front
          ∙ ap (λ b. status_by b (ltb limit (length all)) (end_status (told_all all).bad)) good
          ∙ ap (λ b. status_by None b (end_status (told_all all).bad)) (lt-ltb limit (length all) more_than))
          ∙ status-is limit all,
      front,
    )

-- ---- sources that tell their bytes

pub of_source : (left left' : Option (List ℕ)) (bytes : List ℕ) (P : List ℕ → Type 0) → Consumes left left' bytes
    → ((more : List ℕ) → P (bytes ++ more)) → IfSome left P
of_source None left' bytes P consumed follows = tt
of_source (Some all) None bytes P consumed follows = absurd consumed
of_source (Some all) (Some more) bytes P consumed follows = subst P (sym consumed) (follows more)

-- ---- the answers

text-end : (bad : Option (ℕ × LineCause)) (bytes : List ℕ) → all_records bytes ≡ written_by (end_status bad) 67108864 bytes
text-end None bytes = text-same bytes
text-end (Some bad) bytes = text-same bytes

end_is_end : (bad : Option (ℕ × LineCause)) → IsEnd (end_status bad)
end_is_end None = tt
end_is_end (Some bad) = tt

never_long : (bad : Option (ℕ × LineCause)) → end_status bad ≡ TooLong → ⊥
never_long None is = search (is, rules)
never_long (Some bad) is = search (is, rules)

pub ends_at_end : (left left' start taken taken' : Option (List ℕ)) (reader : ReaderParts) (session : Option State) (status : Status)
    → (end : MetEnd left left' reader session start taken)
    → (status ≡ end_status (told_all end.bytes).bad) × Appends start taken' (all_records end.bytes) → RunEnds status left left' start taken'
ends_at_end left left' start taken taken' reader session status end so = record {
  is =
      Consumes-whole left left' end.bytes (λ bytes. (status ≡ run_status 67108864 bytes)
      × Appends start taken' (written_by status 67108864 bytes)) end.consumed end.at_end (
        so.0 ∙ status-end 67108864 end.bytes end.few end.is_at.good,
        subst (Appends start taken') (text-end (told_all end.bytes).bad end.bytes
            ∙ ap (λ (s : Status). written_by s 67108864 end.bytes) (sym so.0)) so.1,
      );
  at_end = λ done. end.at_end;
  past = λ long. absurd (never_long (told_all end.bytes).bad (sym so.0 ∙ long));
  is_end = subst IsEnd (sym so.0) (end_is_end (told_all end.bytes).bad);
}

-- the text with a bad line
pub text-bad : (front more : List ℕ) (bad : ℕ × LineCause) → (told_ended front).bad ≡ Some bad
    → all_records (front ++ more) ≡ ended_records front ++ last_text 0 (Some bad)
text-bad front more bad is =
    let t = told_ended front in
    ap (λ ls. told_text (told nothing ls)) (bad-all front more bad is)
    ∙ ap (λ b. trace_text t.trace ++ last_text (events_told t.trace) b) is

pub ends_bad : (left left' start taken taken' : Option (List ℕ)) (bad : ℕ × LineCause) (status : Status)
    → (met : MetIn left left' start taken bad) → status ≡ BadScript
    → Appends taken taken' (last_text 0 (Some bad)) → RunEnds status left left' start taken'
ends_bad left left' start taken taken' bad status met is wrote =
    let m = met.met in
    let size = length-append {A = ℕ} m.front m.rest in
    let few : length m.front ≤ 67108864 = let l = ap length m.cut in omega (arith, met.few, l, size) in
    record {
      is =
          of_source left left' met.bytes (λ bytes. (status ≡ run_status 67108864 bytes)
          × Appends start taken' (written_by status 67108864 bytes)) met.consumed
          (λ more.
          let shape : met.bytes ++ more ≡ m.front ++ (m.rest ++ more) = ap (λ l. l ++ more) m.cut ∙ append_assoc m.front m.rest more in
          subst (λ bytes. (status ≡ run_status 67108864 bytes) × Appends start taken' (written_by status 67108864 bytes)) (sym shape) (
            is ∙ status-bad 67108864 m.front (m.rest ++ more) bad few m.is_bad,
            subst (Appends start taken') (sym (ap (λ s. written_by s 67108864 (m.front ++ (m.rest ++ more))) is
                ∙ sym (text-same (m.front ++ (m.rest ++ more))) ∙ text-bad m.front (m.rest ++ more) bad m.is_bad)) (Appends-trans _ _ _ _ _
                m.written wrote),
          ));
      at_end = λ done. absurd (search (sym is ∙ done, rules));
      past = λ long. absurd (search (sym is ∙ long, rules));
      is_end = subst IsEnd (sym is) tt;
    }

pub ends_long : (left left' start taken : Option (List ℕ)) → IsLong left left' start taken → RunEnds TooLong left left' start taken
ends_long left left' start taken long = record {
  is =
      of_source left left' (long.bytes ++ long.next ∷ []) (λ bytes. (TooLong ≡ run_status 67108864 bytes)
      × Appends start taken (written_by TooLong 67108864 bytes)) long.consumed
      (λ more.
      let at = status-long 67108864 long.bytes long.next more long.full long.good in
      (at.0, subst (Appends start taken) (rows-same long.bytes ∙ sym (ap lines_text at.1)) long.written));
  at_end = λ done. absurd (search (done, rules));
  past = λ is.
      let size = length-append {A = ℕ} long.bytes (long.next ∷ []) in
      (long.bytes ++ long.next ∷ [], long.consumed, omega (arith, size, long.full));
  is_end = tt;
}

-- ---- where it stops

front_of : (n : ℕ) (bytes : List ℕ) → IsPrefixOf (all_but n bytes) bytes
front_of n bytes = (drop (length bytes - n) bytes, take-append-drop (length bytes - n) bytes)

-- what is so of what lines tell is so of the script's text
stops_after : {left left' start taken : Option (List ℕ)} (bytes text : List ℕ) → Consumes left left' bytes → length bytes ≤ 67108864
    → Appends start taken text → IsPrefixOf (ended_records (all_but 65536 bytes)) text
    → IsPrefixOf text (ended_records bytes)
    ⊎ ((((bad : ℕ × LineCause) × ((told_ended bytes).bad ≡ Some bad)) ⊎ IsAtEnd left') × IsPrefixOf text (all_records bytes))
    → StopsAfter left left' start taken
stops_after {left} {left'} {start} {taken} bytes text consumed few appends low high = record {
  bytes = bytes;
  text = text;
  consumed = consumed;
  few = few;
  appends = appends;
  low = subst (λ l. IsPrefixOf l text) (rows-same (all_but 65536 bytes)) low;
  high = by high;
}
  where
    over : ((bad : ℕ × LineCause) × ((told_ended bytes).bad ≡ Some bad)) ⊎ IsAtEnd left' → IsOver bytes left'
    over (inl bad) = inl (bad.0, sym (bad-same bytes) ∙ bad.1)
    over (inr end) = inr end

    by : IsPrefixOf text (ended_records bytes)
        ⊎ ((((bad : ℕ × LineCause) × ((told_ended bytes).bad ≡ Some bad)) ⊎ IsAtEnd left') × IsPrefixOf text (all_records bytes))
        → IsPrefixOf text (lines_text bytes) ⊎ (IsOver bytes left' × IsPrefixOf text (run_text bytes))
    by (inl front) = inl (subst (IsPrefixOf text) (rows-same bytes) front)
    by (inr whole) = inr (over whole.0, subst (IsPrefixOf text) (text-same bytes) whole.1)

pub writes_only : {left left' start taken : Option (List ℕ)} → WritesOnly left left' start taken → StopsAfter left left' start taken
writes_only so = stops_after so.bytes so.took.text so.consumed so.few so.took.appends so.took.low (inl so.took.high)

pub stops_at_end : (left left' start taken taken' : Option (List ℕ)) (reader : ReaderParts) (session : Option State)
    → (end : MetEnd left left' reader session start taken)
    → Took start taken' (ended_records end.bytes) (all_records end.bytes) → StopsAfter left left' start taken'
stops_at_end left left' start taken taken' reader session end took =
    stops_after end.bytes took.text end.consumed end.few took.appends
    (prefix-trans _ _ _ (ended_records-prefix _ _ (front_of 65536 end.bytes)) took.low)
    (inr (inr end.at_end, took.high))

pub stops_bad : (left left' start taken taken' : Option (List ℕ)) (bad : ℕ × LineCause) → (met : MetIn left left' start taken bad)
    → AppendsFront taken taken' (last_text 0 (Some bad)) → StopsAfter left left' start taken'
stops_bad left left' start taken taken' bad met wrote =
    let m = met.met in
    let before : ended_lines met.bytes ≡ ended_lines m.front = ap ended_lines m.cut ∙ bad-before m.front m.rest bad m.is_bad in
    let same : ended_records met.bytes ≡ ended_records m.front = ap (λ ls. trace_text (told nothing ls).trace) before in
    let whole : all_records met.bytes ≡ ended_records m.front ++ last_text 0 (Some bad) =
    ap all_records m.cut ∙ text-bad m.front m.rest bad m.is_bad in
    stops_after met.bytes (ended_records m.front ++ wrote.0) met.consumed met.few (Appends-trans _ _ _ _ _ m.written wrote.2)
    (prefix-trans _ _ _ (ended_records-prefix _ _ (front_of 65536 met.bytes))
    (subst (λ l. IsPrefixOf l (ended_records m.front ++ wrote.0)) (sym same) (wrote.0, refl)))
    (inr (
      inl (bad, ap (λ ls. (told nothing ls).bad) before ∙ m.is_bad),
      subst (IsPrefixOf (ended_records m.front ++ wrote.0)) (sym whole) (prefix-onto (ended_records m.front) _ _ wrote.1),
    ))

-- where the last record is not put whole
pub stops_record : (reader : ReaderParts) (start taken taken' : Option (List ℕ)) (bytes : List ℕ) (bad : Option
    (ℕ × LineCause)) (events : ℕ)
    → LastAt reader start taken bytes bad → events ≡ events_read reader.phase.used
    → AppendsFront taken taken' (last_text events bad) → Took start taken' (ended_records bytes) (all_records bytes)
stops_record reader start taken taken' bytes bad events last is wrote =
    let t = told_all bytes in
    let whole : all_records bytes ≡ trace_text t.trace ++ last_text events bad =
    ap (λ b. trace_text t.trace ++ last_text (events_told t.trace) b) last.is_bad
    ∙ ap (λ n. trace_text t.trace ++ last_text n bad) (sym (is ∙ last.count)) in
    record {
      text = trace_text t.trace ++ wrote.0;
      appends = Appends-trans _ _ _ _ _ last.written wrote.2;
      low = prefix-trans _ _ _ (ended_records-all bytes) (wrote.0, refl);
      high = subst (IsPrefixOf (trace_text t.trace ++ wrote.0)) (sym whole) (prefix-onto (trace_text t.trace) _ _ wrote.1);
    }

-- where the sink failed at it
pub fails_record : (reader : ReaderParts) (start taken taken' : Option (List ℕ)) (bytes : List ℕ) (bad : Option
    (ℕ × LineCause)) (events : ℕ)
    → LastAt reader start taken bytes bad → events ≡ events_read reader.phase.used
    → AppendsLess taken taken' (last_text events bad) → AppendsLess start taken' (all_records bytes)
fails_record reader start taken taken' bytes bad events last is wrote =
    let t = told_all bytes in
    let whole : all_records bytes ≡ trace_text t.trace ++ last_text events bad =
    ap (λ b. trace_text t.trace ++ last_text (events_told t.trace) b) last.is_bad
    ∙ ap (λ n. trace_text t.trace ++ last_text n bad) (sym (is ∙ last.count)) in
    subst (AppendsLess start taken') (sym whole) (less-onto _ _ _ _ _ last.written wrote)

-- where it is
pub puts_record : (reader : ReaderParts) (start taken taken' : Option (List ℕ)) (bytes : List ℕ) (bad : Option (ℕ × LineCause)) (events : ℕ)
    → LastAt reader start taken bytes bad → events ≡ events_read reader.phase.used
    → Appends taken taken' (last_text events bad) → Appends start taken' (all_records bytes)
puts_record reader start taken taken' bytes bad events last is wrote =
    let t = told_all bytes in
    let whole : all_records bytes ≡ trace_text t.trace ++ last_text events bad =
    ap (λ b. trace_text t.trace ++ last_text (events_told t.trace) b) last.is_bad
    ∙ ap (λ n. trace_text t.trace ++ last_text n bad) (sym (is ∙ last.count)) in
    subst (Appends start taken') (sym whole) (Appends-trans _ _ _ _ _ last.written wrote)

-- before the first piece
pub starts : (reader : ReaderParts) (taken : Option (List ℕ)) → reader ≡ record { rest = []; phase = fresh; alive = true }
    → HasRead reader [] → IsAt reader None taken taken []
starts reader taken is read = record { read = read; at = rw is tt; good = refl; written = Appends-nil taken }

-- ---- what the form answers

-- a run that ended so for all bytes wrote the text of that end
pub writes_run : (left left' start taken : Option (List ℕ)) (status other : Status) → RunEnds status left left' start taken → status ≡ other
    → IfSome left (λ bytes. Writes 67108864 (Some Run) bytes other start taken)
writes_run left left' start taken status other ends same =
    IfSome_then left ends.is
    (λ bytes so. record {
      ends = record {
        is = Run;
        named = refl;
        text = written_by status 67108864 bytes;
        ends = (sym same ∙ so.0, ap (λ (s : Status). written_by s 67108864 bytes) so.0);
      };
      took = so.1;
    })

pub ends_run : (left left' start taken : Option (List ℕ)) (status : Status) → RunEnds status left left' start taken
    → IfSome left (λ bytes. EndsAs 67108864 (Some Run) bytes status ⊎ (status ≡ NoRoom))
ends_run left left' start taken status ends =
    IfSome_then left (writes_run left left' start taken status status ends refl) (λ bytes so. inl so.ends)
