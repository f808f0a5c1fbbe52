-- The words of the command line, and the numbers with which the program ends.
use Rattle.std.specs.Prelude.{ℕ, ◌≤◌, nat_lt, Bool, ◌&&◌, List, [], ◌∷◌, Option, Some, None, option_map, bytes_eq, codes, decimal, ⊤}
use Rattle.std.specs.Prelude.{if◌then◌else◌}
use Rattle.std.specs.Str.Parse.{digits_value}
use Rattle.fed_run.specs.declared.form.Form.{Form}
use Rattle.fed_run.specs.declared.form.Form.TheVariants.{Run, Check, Twin, Audit, Compare, Make, Save, Slice}
use Rattle.fed_run.specs.declared.status.Status.{Status}
use Rattle.fed_run.specs.declared.status.Status.TheVariants.{Done, Usage, BadScript, ReadFault, WriteFault, NoRoom, TooLong, NotTwins}
use Rattle.fed_run.specs.declared.status.Status.TheVariants.{Faulty, NotSaved, Differs}

-- the form of one word
abbrev pub form_named : List ℕ → Option Form
form_named word =
    if bytes_eq word (codes "run") then Some Run
    else (if bytes_eq word (codes "check") then Some Check
    else (if bytes_eq word (codes "twin") then Some Twin
    else (if bytes_eq word (codes "audit") then Some Audit
    else (if bytes_eq word (codes "compare") then Some Compare
    else (if bytes_eq word (codes "save") then Some Save else None)))))

-- so many calls may be made
abbrev pub may_make : ℕ → Bool
may_make calls = nat_lt 0 calls && nat_lt calls 20001

-- so many may be made, and the word is the number's decimal text, which has no leading zero
abbrev pub names_calls : ℕ → List ℕ → Bool
names_calls calls word = may_make calls && bytes_eq (decimal calls) word

abbrev pub calls_if : ℕ → List ℕ → Option ℕ
calls_if calls word = if names_calls calls word then Some calls else None

-- the number of calls that a word names
abbrev pub calls_named : List ℕ → Option ℕ
calls_named word = calls_if (digits_value 10 word) word

-- the form `slice` of a party, which has a byte at least
abbrev pub slice_of : List ℕ → Option Form
slice_of [] = None
slice_of (b ∷ party) = Some (Slice (b ∷ party))

-- the form of a word and a second one
abbrev pub form_with : List ℕ → List ℕ → Option Form
form_with word second =
    if bytes_eq word (codes "make") then option_map (λ calls. Make calls) (calls_named second)
    else (if bytes_eq word (codes "slice") then slice_of second else None)

-- the form of the words of a command line, if they are one
abbrev pub form_of : List (List ℕ) → Option Form
form_of [] = None
form_of (word ∷ []) = form_named word
form_of (word ∷ second ∷ []) = form_with word second
form_of (word ∷ second ∷ next ∷ words) = None

-- a form that makes its script makes so many calls as it may
abbrev pub MayBe : Form → Type 0
MayBe (Make calls) = (1 ≤ calls) × (calls ≤ 20000)
MayBe _ = ⊤

-- the number with which the program ends
abbrev pub exit_code : Status → ℕ
exit_code Done = 0
exit_code Usage = 1
exit_code BadScript = 2
exit_code ReadFault = 3
exit_code WriteFault = 4
exit_code NoRoom = 5
exit_code TooLong = 6
exit_code NotTwins = 7
exit_code Faulty = 8
exit_code NotSaved = 9
exit_code Differs = 10
