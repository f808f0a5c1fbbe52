-- Cookie dates (RFC 6265, 5.1.1).
use Rattle.std.specs.Prelude.{ℕ, ℤ, pos, negsuc, ◌+◌, ◌*◌, Bool, ◌&&◌, ◌||◌, ◌==◌, List, [], ◌∷◌, take, drop, map, codes, fold, nat_le}
use Rattle.std.specs.Prelude.{bytes_eq, Option, None, Some, option_map, option_and_then, if◌then◌else◌}
use Rattle.std.specs.Char.{is_ascii_digit, to_ascii_lowercase}
use Rattle.std.specs.List.{prefix_len, slice_split}
use Rattle.std.specs.Option.{option_map_or}
use Rattle.jiff_core.specs.Calendar.{days_in_month, days_from_civil}
use Rattle.fed_cookie.specs.Bytes.{number_of}
use Rattle.fed_cookie.specs.declared.date.DateParts.{DateParts}
use Rattle.fed_cookie.specs.declared.date.Time.{Time}

-- a byte that stands between tokens
abbrev pub is_delimiter : ℕ → Bool
is_delimiter b =
    b == 9 || (nat_le 32 b && nat_le b 47) || (nat_le 59 b && nat_le b 64) || (nat_le 91 b && nat_le b 96)
    || (nat_le 123 b && nat_le b 126)

-- the number of the digits in front, where they are at least so many and at most so many, and what follows them
abbrev pub field_after : ℕ → ℕ → ℕ → List ℕ → Option (ℕ × List ℕ)
field_after least most count bytes =
    if nat_le least count && nat_le count most then Some (number_of (take count bytes), drop count bytes) else None

abbrev pub field : ℕ → ℕ → List ℕ → Option (ℕ × List ℕ)
field least most bytes = field_after least most (prefix_len is_ascii_digit bytes) bytes

-- the same, and a colon after them
abbrev pub past_colon : (ℕ × List ℕ) → Option (ℕ × List ℕ)
past_colon (n, []) = None
past_colon (n, b ∷ bytes) = if b == 58 then Some (n, bytes) else None

abbrev pub field_colon : List ℕ → Option (ℕ × List ℕ)
field_colon bytes = option_and_then past_colon (field 1 2 bytes)

-- three fields of one or two digits joined by colons; what follows the last is no digit
abbrev pub time_of : List ℕ → Option Time
time_of token =
    option_and_then (λ h. option_and_then (λ m. option_map (λ s. record { hour = h.0; minute = m.0; second = s.0 }) (field 1 2 m.1))
    (field_colon h.1)) (field_colon token)

-- one or two digits
abbrev pub day_of : List ℕ → Option ℕ
day_of token = option_map (λ f. f.0) (field 1 2 token)

-- two to four digits
abbrev pub year_of : List ℕ → Option ℕ
year_of token = option_map (λ f. f.0) (field 2 4 token)

-- the month that three letters in lower case name
abbrev pub named_month : List ℕ → Option ℕ
named_month name =
    if bytes_eq name (codes "jan") then Some 1
    else (if bytes_eq name (codes "feb") then Some 2
    else (if bytes_eq name (codes "mar") then Some 3
    else (if bytes_eq name (codes "apr") then Some 4
    else (if bytes_eq name (codes "may") then Some 5
    else (if bytes_eq name (codes "jun") then Some 6
    else (if bytes_eq name (codes "jul") then Some 7
    else (if bytes_eq name (codes "aug") then Some 8
    else (if bytes_eq name (codes "sep") then Some 9
    else (if bytes_eq name (codes "oct") then Some 10
    else (if bytes_eq name (codes "nov") then Some 11
    else (if bytes_eq name (codes "dec") then Some 12 else None)))))))))))

-- the month that the first three letters name, in any case
abbrev pub month_of : List ℕ → Option ℕ
month_of token = named_month (map to_ascii_lowercase (take 3 token))

-- what is read, where nothing was found before
abbrev pub unless_found : {A B : Type 0} → Option A → Option B → Option B
unless_found None read = read
unless_found (Some found) read = None

-- A token is tried as time, day, month and year in this order, for what is not found yet.
abbrev pub with_year : DateParts → List ℕ → DateParts
with_year parts token =
    option_map_or (λ year. record parts { year = Some year }) (unless_found parts.year (year_of token)) parts

abbrev pub with_month : DateParts → List ℕ → DateParts
with_month parts token =
    option_map_or (λ month. record parts { month = Some month }) (unless_found parts.month (month_of token)) (with_year parts token)

abbrev pub with_day : DateParts → List ℕ → DateParts
with_day parts token =
    option_map_or (λ day. record parts { day = Some day }) (unless_found parts.day (day_of token)) (with_month parts token)

unfoldable pub with_token : DateParts → List ℕ → DateParts
with_token parts token =
    option_map_or (λ time. record parts { time = Some time }) (unless_found parts.time (time_of token)) (with_day parts token)

abbrev pub no_parts : DateParts
no_parts = record { time = None; day = None; month = None; year = None }

-- the parts that the tokens of a date give; an empty piece between two delimiters gives none
abbrev pub parts_of : List ℕ → DateParts
parts_of bytes = fold with_token no_parts (slice_split is_delimiter bytes)

-- a year of two digits lies from 1970 to 2069
abbrev pub full_year : ℕ → ℕ
full_year year = if nat_le year 69 then year + 2000 else (if nat_le year 99 then year + 1900 else year)

-- the calendar has this day of the year, which is none before 1601
abbrev pub is_day : ℕ → ℕ → ℕ → Bool
is_day year month day =
    nat_le 1601 year && nat_le year 9999 && nat_le 1 month && nat_le month 12
    && nat_le 1 day && nat_le day (days_in_month (pos year) month)

abbrev pub is_time : Time → Bool
is_time time = nat_le time.hour 23 && nat_le time.minute 59 && nat_le time.second 59

-- the seconds since 1970 of a day number and a second of the day; an earlier moment counts as 0
abbrev pub seconds_since : ℤ → ℕ → ℕ
seconds_since (pos day) second = 86400 * day + second
seconds_since (negsuc before) second = 0

-- the days since 1970 of such a day
abbrev pub day_number : ℕ → ℕ → ℕ → Option ℤ
day_number year month day = if is_day year month day then Some (days_from_civil (pos year) month day) else None

abbrev pub moment : Time → ℕ → ℕ → ℕ → Option ℕ
moment time year month day =
    if is_time time
    then option_map (λ days. seconds_since days (3600 * time.hour + 60 * time.minute + time.second)) (day_number year month day)
    else None

-- the moment of the parts, where none of them is missing
abbrev pub moment_of : DateParts → Option ℕ
moment_of parts =
    option_and_then (λ time. option_and_then (λ day. option_and_then
    (λ month. option_and_then (λ year. moment time (full_year year) month day) parts.year) parts.month) parts.day) parts.time

-- what a cookie date says: seconds since 1970
unfoldable pub date_of : List ℕ → Option ℕ
date_of bytes = moment_of (parts_of bytes)
