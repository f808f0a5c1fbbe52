-- What contracts see of a source or a sink that never fails.
use Rattle.std.specs.Prelude.{ℕ, ◌+◌, ◌-◌, ◌^◌, min}

-- how many bytes were taken after so many more, which stays at the greatest u64
abbrev pub counted_bytes : ℕ → ℕ → ℕ
counted_bytes n more = min (n + more) (2 ^ 64 - 1)
