-- What contracts see of a reader or a writer whose failures are counted.
use Rattle.std.specs.Prelude.{ℕ}

pub record Inner (R : Type 0) : Type 0 where
  -- the reader or writer
  pub inner : R
  -- how often it failed, up to the greatest u64
  pub faults : ℕ
