-- A run that is fed in pieces.
use Rattle.std.proofs.Common.{◌≡◌, ◌∙◌, ◌<◌, ◌≤◌, ◌+◌, ◌-◌, ℕ, min, false, List, [], ◌∷◌, ◌++◌, length, take, drop, Some, None}
use Rattle.std.proofs.Common.{refl, ap, sym, subst, arith, rules, append_assoc, append-nil, length-append, take-append-drop}
use Rattle.std.proofs.lemmas.List.{length-take-le, take_all}
use Rattle.std.specs.Io.KnownBytes.{Appends}
use Rattle.std.specs.Prelude.{Option, is_some, IfNone, IfSome}
use Rattle.fed_script.specs.declared.cause.LineCause.{LineCause}
use Rattle.fed_script.specs.Reader.{ReaderParts}
use Rattle.fed_session.specs.Session.{State}
use Rattle.fed_run.specs.declared.live.Live.{Live}
use Rattle.fed_run.specs.declared.status.Status.{Status}
use Rattle.fed_run.specs.declared.status.Status.TheVariants.{Done, Usage, BadScript, ReadFault, WriteFault, NoRoom, TooLong}
use Rattle.fed_run.specs.declared.status.Status.TheVariants.{NotTwins, Faulty, NotSaved, Differs}
use Rattle.fed_run.specs.Ends.{EndsRun}
use Rattle.fed_run.specs.Fed.{Goes, FedBy}
use Rattle.fed_run.specs.Run.{written_by}
use Rattle.fed_run.specs.Streams.{IsAt, MetBad, RunEnds}
use Rattle.fed_run.specs.Told.{told_all, all_records, last_text, end_status}
use Rattle.fed_run.proofs.streams.Endings.{ends_at_end, ends_bad, ends_long}
use Rattle.fed_run.proofs.streams.Scripts.{rows-same}

-- a run that ended so for bytes that a source tells
of_run : (bytes text : List ℕ) (left : Option (List ℕ)) (status : Status) → RunEnds status (Some bytes) left (Some []) (Some text)
    → EndsRun 67108864 bytes status text
of_run bytes text left status ends = (ends.is.0, ends.is.1 ∙ ap (λ (s : Status). written_by s 67108864 bytes) ends.is.0)

-- at the end of the pieces
pub fed_end : (reader : ReaderParts) (session : Option State) (t1 t2 bytes : List ℕ) (status : Status)
    → IsAt reader session (Some []) (Some t1) bytes → length bytes ≤ 67108864
    → (status ≡ end_status (told_all bytes).bad) × Appends (Some []) (Some t2) (all_records bytes) → EndsRun 67108864 bytes status t2
fed_end reader session t1 t2 bytes status at few so =
    of_run bytes t2 (Some []) status (ends_at_end (Some bytes) (Some []) (Some []) (Some t1) (Some t2) reader session status
    (record { bytes = bytes; consumed = sym (append-nil bytes); at_end = refl; few = few; is_at = at }) so)

-- with a bad line, whatever follows
pub fed_bad : (t1 t2 bytes more : List ℕ) (bad : ℕ × LineCause) (status : Status) → MetBad (Some []) (Some t1) bytes bad
    → length bytes ≤ 67108864 → status ≡ BadScript → Appends (Some t1) (Some t2) (last_text 0 (Some bad))
    → EndsRun 67108864 (bytes ++ more) status t2
fed_bad t1 t2 bytes more bad status met few is wrote =
    of_run (bytes ++ more) t2 (Some more) status (ends_bad (Some (bytes ++ more)) (Some more) (Some []) (Some t1) (Some t2) bad status
    (record { bytes = bytes; consumed = refl; few = few; met = met }) is wrote)

-- past the limit
pub fed_long : (reader : ReaderParts) (session : Option State) (text bytes rest : List ℕ)
    → IsAt reader session (Some []) (Some text) bytes → length bytes ≡ 67108864 → 0 < length rest
    → EndsRun 67108864 (bytes ++ rest) TooLong text
fed_long reader session text bytes [] at full some = absurd (omega (arith, some))
fed_long reader session text bytes (next ∷ rest) at full some =
    of_run (bytes ++ next ∷ rest) text (Some rest) TooLong (ends_long (Some (bytes ++ next ∷ rest)) (Some rest) (Some []) (Some text) (record {
      bytes = bytes;
      next = next;
      consumed = sym (append_assoc bytes (next ∷ []) rest);
      full = full;
      good = at.good;
      written = at.written;
    }))

-- what ended as a run does
pub fed_ended : (status : Status) (live : Live) (bytes : List ℕ) → EndsRun 67108864 bytes status live.sink.text.items
    → FedBy (Some status) live bytes
fed_ended Done live bytes so = so
fed_ended Usage live bytes so = so
fed_ended BadScript live bytes so = so
fed_ended ReadFault live bytes so = so
fed_ended WriteFault live bytes so = so
fed_ended NoRoom live bytes so = tt
fed_ended TooLong live bytes so = so
fed_ended NotTwins live bytes so = so
fed_ended Faulty live bytes so = so
fed_ended NotSaved live bytes so = so
fed_ended Differs live bytes so = so

-- after the front of a piece
pub fed_front : (end : Option Status) (old new : Live) (front : List ℕ) → new.count ≡ old.count + length front
    → ((bytes : List ℕ) × Goes old bytes × (length bytes + length front ≤ 67108864))
    → IfNone end ((bytes : List ℕ) → IsAt old.reader old.session (Some []) (Some old.sink.text.items) bytes
    → IsAt new.reader new.session (Some []) (Some new.sink.text.items) (bytes ++ front))
    → IfNone end ((bytes : List ℕ) → Goes old bytes → Goes new (bytes ++ front))
fed_front None old new front count room goes = λ bytes was.
    let at = goes bytes was.at in
    let size = length-append {A = ℕ} bytes front in
    record {
      at = at;
      count = omega (arith, count, was.count, size);
      few = omega (arith, was.count, room.1.count, room.2, size);
      says = at.written ∙ rows-same (bytes ++ front);
    }
fed_front (Some status) old new front count room goes = tt

-- a piece of which the limit cuts a rest off
pub fed_past : (end : Option Status) (old new : Live) (piece : List ℕ) (room : ℕ) → is_some end ≡ false
    → room ≡ min (67108864 - old.count) (length piece) → room < length piece
    → IfNone end ((bytes : List ℕ) → Goes old bytes → Goes new (bytes ++ take room piece))
    → (bytes : List ℕ) → Goes old bytes → EndsRun 67108864 (bytes ++ piece) TooLong new.sink.text.items
fed_past (Some status) old new piece room ends is less goes bytes was = absurd (search (ends, rules))
fed_past None old new piece room ends is less goes bytes was =
    let front = take room piece in
    let rest = drop room piece in
    let cut : front ++ rest ≡ piece = take-append-drop room piece in
    let size = length-append {A = ℕ} bytes front in
    let sizes = length-append {A = ℕ} front rest in
    let whole = ap length cut in
    let taken : length front ≡ room = length-take-le room piece (omega (arith, less)) in
    let full : length (bytes ++ front) ≡ 67108864 = omega (arith, size, taken, is, less, was.count, was.few) in
    let some : 0 < length rest = omega (arith, sizes, whole, taken, less) in
    subst (λ p. EndsRun 67108864 (bytes ++ p) TooLong new.sink.text.items) cut
    (subst (λ all. EndsRun 67108864 all TooLong new.sink.text.items) (append_assoc bytes front rest)
    (fed_long _ _ _ (bytes ++ front) rest (goes bytes was).at full some))

-- a piece that was taken whole, or that ended the run
pub fed_on : (end : Option Status) (old new : Live) (piece : List ℕ) (room : ℕ) → (is_some end ≡ false → length piece ≤ room)
    → IfNone end ((bytes : List ℕ) → Goes old bytes → Goes new (bytes ++ take room piece))
    → IfSome end (λ status. (bytes more : List ℕ) → Goes old bytes → FedBy (Some status) new ((bytes ++ take room piece) ++ more))
    → (bytes : List ℕ) → Goes old bytes → FedBy end new (bytes ++ piece)
fed_on None old new piece room whole goes ends bytes was =
    subst (λ p. Goes new (bytes ++ p)) (take_all room piece (whole refl)) (goes bytes was)
fed_on (Some status) old new piece room whole goes ends bytes was =
    let front = take room piece in
    let rest = drop room piece in
    subst (λ p. FedBy (Some status) new (bytes ++ p)) (take-append-drop room piece)
    (subst (λ all. FedBy (Some status) new all) (append_assoc bytes front rest) (ends bytes rest was))
