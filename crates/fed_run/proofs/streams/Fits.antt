-- What a run wrote where its sink failed is less than what it writes where nothing fails.
use Rattle.std.proofs.Common.{◌≡◌, ◌∙◌, ℕ, ◌-◌, ◌≤◌, le-ltb, Bool, true, false, List, ◌++◌, length, take, Some, None, refl, ap, sym}
use Rattle.std.proofs.Common.{subst, rules, arith, append_assoc, length-append}
use Rattle.std.proofs.KnownBytes.{Consumes-whole}
use Rattle.std.specs.Io.KnownBytes.{Appends, Consumes, IsAtEnd}
use Rattle.std.specs.Prelude.{Option, Result, Ok, Err}
use Rattle.std.specs.Result.{IsErrOf}
use Rattle.fed_io.specs.Io.{IsPrefixOf, AppendsLess}
use Rattle.fed_script.specs.declared.cause.LineCause.{LineCause}
use Rattle.fed_script.specs.Script.{Script, Stop as ScriptStop, script_of}
use Rattle.fed_run.specs.declared.status.Status.{Status}
use Rattle.fed_run.specs.declared.status.Status.TheVariants.{Done, Usage, BadScript, ReadFault, WriteFault, NoRoom, TooLong, NotTwins}
use Rattle.fed_run.specs.declared.status.Status.TheVariants.{Faulty, NotSaved, Differs}
use Rattle.fed_run.specs.declared.stop.Stop.{Stop}
use Rattle.fed_run.specs.declared.stop.Stop.TheVariants as stops
use Rattle.fed_run.specs.Run.{run_text, run_status, run_written, status_by, script_status, written_by, bad_ended}
use Rattle.fed_run.specs.Streams.{StopsAfter, StopsAs, AfterStop, FallsShort, FailsIn, MetIn}
use Rattle.fed_run.specs.Told.{ended_records, all_records, last_text}
use Rattle.fed_run.proofs.streams.Endings.{take_front, status-bad, text-bad, of_source, writes_only}
use Rattle.fed_run.proofs.streams.Fronts.{ended_records-prefix, ended_records-run, less-longer, less-onto}
use Rattle.fed_run.proofs.streams.Scripts.{text-same, rows-same}

-- the records of a front within the limit are a front of what is written, however it ends
rows-fit : (limit : ℕ) (front more : List ℕ) (status : Status) → length front ≤ limit
    → IsPrefixOf (ended_records front) (written_by status limit (front ++ more))
rows-fit limit front more status within = by status
  where
    whole : IsPrefixOf (ended_records front) (run_text (front ++ more))
    whole = subst (IsPrefixOf (ended_records front)) (text-same (front ++ more)) (ended_records-run front more)

    cut : IsPrefixOf front (take limit (front ++ more))
    cut = (take (limit - length front) more, sym (take_front limit front more within))

    by : (s : Status) → IsPrefixOf (ended_records front) (written_by s limit (front ++ more))
    by TooLong = subst (IsPrefixOf (ended_records front)) (rows-same (take limit (front ++ more))) (ended_records-prefix _ _ cut)
    by Done = whole
    by Usage = whole
    by BadScript = whole
    by ReadFault = whole
    by WriteFault = whole
    by NoRoom = whole
    by NotTwins = whole
    by Faulty = whole
    by NotSaved = whole
    by Differs = whole

-- bytes within the limit have their whole text
text-short : (limit : ℕ) (bytes : List ℕ) → length bytes ≤ limit → run_written limit bytes ≡ run_text bytes
text-short limit bytes within =
    by (bad_ended (take limit bytes)) _ (script_of bytes) (le-ltb limit (length bytes) within)
  where
    by : (bad : Option (ℕ × LineCause)) (long : Bool) (read : Result Script ScriptStop) → long ≡ false
        → written_by (status_by bad long (script_status read)) limit bytes ≡ run_text bytes
    by (Some bad) long read short = refl
    by None false (Ok script) short = refl
    by None false (Err stop) short = refl
    by None true read short = absurd (search (short, rules))

-- among the lines of pieces
short_lines : (left left' start taken : Option (List ℕ)) → FailsIn left left' start taken → FallsShort 67108864 left start taken
short_lines left left' start taken fails =
    let bytes = fails.only.bytes in
    of_source left left' bytes (λ all. AppendsLess start taken (run_written 67108864 all)) fails.only.consumed
    (λ more. less-longer start taken (ended_records bytes) _
    (rows-fit 67108864 bytes more (run_status 67108864 (bytes ++ more)) fails.only.few) fails.less)

-- at the end
pub short_end : (left left' start taken : Option (List ℕ)) (bytes : List ℕ) → Consumes left left' bytes → IsAtEnd left'
    → length bytes ≤ 67108864 → AppendsLess start taken (all_records bytes) → FallsShort 67108864 left start taken
short_end left left' start taken bytes consumed end few less =
    Consumes-whole left left' bytes (λ all. AppendsLess start taken (run_written 67108864 all)) consumed end
    (subst (AppendsLess start taken) (text-same bytes ∙ sym (text-short 67108864 bytes few)) less)

-- at the record of a bad line
pub short_bad : (left left' start taken taken' : Option (List ℕ)) (bad : ℕ × LineCause) → MetIn left left' start taken bad
    → AppendsLess taken taken' (last_text 0 (Some bad)) → FallsShort 67108864 left start taken'
short_bad left left' start taken taken' bad met less =
    let m = met.met in
    let size = length-append {A = ℕ} m.front m.rest in
    let few : length m.front ≤ 67108864 = let l = ap length m.cut in omega (arith, met.few, l, size) in
    of_source left left' met.bytes (λ all. AppendsLess start taken' (run_written 67108864 all)) met.consumed
    (λ more.
    let shape : met.bytes ++ more ≡ m.front ++ (m.rest ++ more) = ap (λ l. l ++ more) m.cut ∙ append_assoc m.front m.rest more in
    let all = m.front ++ (m.rest ++ more) in
    let whole : ended_records m.front ++ last_text 0 (Some bad) ≡ run_written 67108864 all =
    sym (text-bad m.front (m.rest ++ more) bad m.is_bad) ∙ text-same all
    ∙ ap (λ s. written_by s 67108864 all) (status-bad 67108864 m.front (m.rest ++ more) bad few m.is_bad) in
    subst (λ all. AppendsLess start taken' (run_written 67108864 all)) (sym shape)
    (subst (AppendsLess start taken') whole (less-onto _ _ _ _ _ m.written less)))

-- ---- where a run stops

pub stops_pieces : (left left' start taken : Option (List ℕ)) (stop : Stop) → StopsAs stop left left' start taken
    → AfterStop stop left left' start taken
stops_pieces left left' start taken stops.ReadFault so = record {
  bytes = so.bytes;
  consumed = so.consumed;
  few = so.few;
  written = subst (Appends start taken) (rows-same so.bytes) so.written;
}
stops_pieces left left' start taken stops.WriteFault so = (writes_only so.only, short_lines left left' start taken so)
stops_pieces left left' start taken stops.NoRoom so = writes_only so

pub stops_by : {T : Type 0} {left left' start taken : Option (List ℕ)} (stop : Stop) → (IsErrOf {T = T} (Err stop) stops.ReadFault → ⊥)
    → StopsAfter left left' start taken → (IsErrOf {T = T} (Err stop) stops.WriteFault → FallsShort 67108864 left start taken)
    → AfterStop stop left left' start taken
stops_by stops.ReadFault never writes short = absurd (never refl)
stops_by stops.WriteFault never writes short = (writes, short refl)
stops_by stops.NoRoom never writes short = writes
