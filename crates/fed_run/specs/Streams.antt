-- What a run in pieces wrote of the bytes that it took from its source.
use Rattle.std.specs.Prelude.{◌≡◌, ℕ, ◌-◌, ◌≤◌, List, ◌∷◌, [], ◌++◌, length, take, Option, Some, None, ◌⊎◌, ⊤, IfSome}
use Rattle.std.specs.Io.KnownBytes.{Appends, Consumes, IsAtEnd}
use Rattle.fed_io.specs.Io.{IsPrefixOf, AppendsLess}
use Rattle.fed_script.specs.declared.cause.LineCause.{LineCause}
use Rattle.fed_script.specs.Reader.{ReaderParts, HasRead, events_read}
use Rattle.fed_session.specs.Session.{State}
use Rattle.fed_run.specs.declared.status.Status.{Status}
use Rattle.fed_run.specs.declared.status.Status.TheVariants.{Done, BadScript, TooLong}
use Rattle.fed_run.specs.declared.stop.Met.{Met}
use Rattle.fed_run.specs.declared.stop.Met.TheVariants as mets
use Rattle.fed_run.specs.declared.stop.Stop.{Stop}
use Rattle.fed_run.specs.declared.stop.Stop.TheVariants as stops
use Rattle.fed_run.specs.Run.{run_text, lines_text, bad_ended, run_status, run_written, written_by, TakesExactly}
use Rattle.fed_run.specs.Told.{At, told_ended, told_all, ended_records, trace_text, events_told}

-- ---- where it stops

-- without the last so many bytes
abbrev pub all_but : ℕ → List ℕ → List ℕ
all_but n bytes = take (length bytes - n) bytes

-- a line is bad among those that end with LF, or the source's end was met
abbrev pub IsOver : List ℕ → Option (List ℕ) → Type 0
IsOver bytes left' = ((bad : ℕ × LineCause) × (bad_ended bytes ≡ Some bad)) ⊎ IsAtEnd left'

-- Some bytes were taken, and what is written is what the lines that end in them say.
pub record ReadsOnly (left left' start taken : Option (List ℕ)) : Type 0 where
  pub bytes : List ℕ
  pub consumed : Consumes left left' bytes
  pub few : length bytes ≤ 67108864
  pub written : Appends start taken (lines_text bytes)

-- Some bytes were taken. What is written is at least what the lines say that end in them but for the last 65,536 bytes, and at most what
-- the lines say that end in them or, where the run was over, the whole text.
pub record StopsAfter (left left' start taken : Option (List ℕ)) : Type 0 where
  pub bytes : List ℕ
  pub text : List ℕ
  pub consumed : Consumes left left' bytes
  pub few : length bytes ≤ 67108864
  pub appends : Appends start taken text
  pub low : IsPrefixOf (lines_text (all_but 65536 bytes)) text
  pub high : IsPrefixOf text (lines_text bytes) ⊎ (IsOver bytes left' × IsPrefixOf text (run_text bytes))

-- less was taken than the whole that a run writes for the told bytes
abbrev pub FallsShort : ℕ → Option (List ℕ) → Option (List ℕ) → Option (List ℕ) → Type 0
FallsShort limit left start taken = IfSome left (λ bytes. AppendsLess start taken (run_written limit bytes))

-- ---- for private clauses

-- told bytes grew by a text between these two
pub record Took (old new : Option (List ℕ)) (least most : List ℕ) : Type 0 where
  pub text : List ℕ
  pub appends : Appends old new text
  pub low : IsPrefixOf least text
  pub high : IsPrefixOf text most

-- The reader was given these bytes, no line is bad, the session stands for them, and their records were written.
pub record IsAt (reader : ReaderParts) (session : Option State) (old new : Option (List ℕ)) (bytes : List ℕ) : Type 0 where
  pub read : HasRead reader bytes
  pub at : At reader.phase.used session (told_ended bytes).trace
  pub good : (told_ended bytes).bad ≡ None
  pub written : Appends old new (ended_records bytes)

-- In a front of the bytes the bad line was met, and the records before it were written.
pub record MetBad (old new : Option (List ℕ)) (bytes : List ℕ) (bad : ℕ × LineCause) : Type 0 where
  pub front : List ℕ
  pub rest : List ℕ
  pub cut : bytes ≡ front ++ rest
  pub is_bad : (told_ended front).bad ≡ Some bad
  pub written : Appends old new (ended_records front)

-- All bytes of the source were taken, and no line that ends with LF is bad.
pub record MetEnd (left left' : Option (List ℕ)) (reader : ReaderParts) (session : Option State) (start taken : Option (List ℕ)) :
    Type 0 where
  pub bytes : List ℕ
  pub consumed : Consumes left left' bytes
  pub at_end : IsAtEnd left'
  pub few : length bytes ≤ 67108864
  pub is_at : IsAt reader session start taken bytes

-- A bad line ends in the bytes that were taken.
pub record MetIn (left left' start taken : Option (List ℕ)) (bad : ℕ × LineCause) : Type 0 where
  pub bytes : List ℕ
  pub consumed : Consumes left left' bytes
  pub few : length bytes ≤ 67108864
  pub met : MetBad start taken bytes bad

-- One byte more than the limit was taken, and no bad line ends within it.
pub record IsLong (left left' start taken : Option (List ℕ)) : Type 0 where
  pub bytes : List ℕ
  pub next : ℕ
  pub consumed : Consumes left left' (bytes ++ next ∷ [])
  pub full : length bytes ≡ 67108864
  pub good : (told_ended bytes).bad ≡ None
  pub written : Appends start taken (ended_records bytes)

abbrev pub MetAs : Met → Option (List ℕ) → Option (List ℕ) → ReaderParts → Option State → Option (List ℕ) → Option (List ℕ) → Type 0
MetAs mets.End left left' reader session start taken = MetEnd left left' reader session start taken
MetAs (mets.Bad n cause) left left' reader session start taken = MetIn left left' start taken (n, cause)
MetAs mets.TooLong left left' reader session start taken = IsLong left left' start taken

-- Some bytes were taken, of which the records that end in the last 65,536 bytes are not all written.
pub record WritesOnly (left left' start taken : Option (List ℕ)) : Type 0 where
  pub bytes : List ℕ
  pub consumed : Consumes left left' bytes
  pub few : length bytes ≤ 67108864
  pub took : Took start taken (ended_records (all_but 65536 bytes)) (ended_records bytes)

-- Some bytes were taken, of which the records are not all written: the sink failed.
pub record FailsIn (left left' start taken : Option (List ℕ)) : Type 0 where
  pub only : WritesOnly left left' start taken
  pub less : AppendsLess start taken (ended_records only.bytes)

-- Some bytes were taken, and the records of the lines that end in them are written.
pub record TakesOnly (left left' start taken : Option (List ℕ)) : Type 0 where
  pub bytes : List ℕ
  pub consumed : Consumes left left' bytes
  pub few : length bytes ≤ 67108864
  pub written : Appends start taken (ended_records bytes)

-- where pieces were taken
abbrev pub StopsAs : Stop → Option (List ℕ) → Option (List ℕ) → Option (List ℕ) → Option (List ℕ) → Type 0
StopsAs stops.ReadFault left left' start taken = TakesOnly left left' start taken
StopsAs stops.WriteFault left left' start taken = FailsIn left left' start taken
StopsAs stops.NoRoom left left' start taken = WritesOnly left left' start taken

-- where all was taken
abbrev pub AfterStop : Stop → Option (List ℕ) → Option (List ℕ) → Option (List ℕ) → Option (List ℕ) → Type 0
AfterStop stops.ReadFault left left' start taken = ReadsOnly left left' start taken
AfterStop stops.WriteFault left left' start taken = StopsAfter left left' start taken × FallsShort 67108864 left start taken
AfterStop stops.NoRoom left left' start taken = StopsAfter left left' start taken

-- at the end: what all lines tell, but for the last record
pub record LastAt (reader : ReaderParts) (start taken : Option (List ℕ)) (bytes : List ℕ) (bad : Option (ℕ × LineCause)) : Type 0 where
  pub is_bad : (told_all bytes).bad ≡ bad
  pub count : events_read reader.phase.used ≡ events_told (told_all bytes).trace
  pub written : Appends start taken (trace_text (told_all bytes).trace)

-- a run has these ends, where nothing stops it
abbrev pub IsEnd : Status → Type 0
IsEnd Done = ⊤
IsEnd BadScript = ⊤
IsEnd TooLong = ⊤
IsEnd _ = ⊥

-- A run ended: so it does for the source's bytes, and its text is written.
pub record RunEnds (status : Status) (left left' start taken : Option (List ℕ)) : Type 0 where
  pub is : IfSome left (λ bytes. (status ≡ run_status 67108864 bytes) × Appends start taken (written_by status 67108864 bytes))
  pub at_end : status ≡ Done → IsAtEnd left'
  pub past : status ≡ TooLong → TakesExactly left left' 67108865
  pub is_end : IsEnd status
