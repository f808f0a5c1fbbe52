-- Bodies in chunks as they are written (RFC 9112, 7.1).
use Rattle.std.specs.Prelude.{◌≡◌, ℕ, ◌<◌, ◌≤◌, List, [], ◌∷◌, ◌++◌, length, All}
use Rattle.std.specs.List.{flat_map}
use Rattle.httparse.specs.Grammar.{ChunkLine, IsChunkLine, chunk_size, print_chunk_line, Field, LineEnd, ReadsSection}

-- a size line and the bytes that it announces
pub record ChunkParts : Type 0 where
  pub line : ChunkLine
  pub bytes : List ℕ

-- the size line, the bytes and CRLF
abbrev pub print_chunk : ChunkParts → List ℕ
print_chunk c = print_chunk_line c.line ++ (c.bytes ++ 13 ∷ 10 ∷ [])

-- the size line gives the number of the bytes, and there is one at least
pub record IsChunk (c : ChunkParts) : Type 0 where
  pub line : IsChunkLine c.line
  pub size : chunk_size c.line ≡ length c.bytes
  pub some : 0 < length c.bytes

-- chunks, a size line of 0, a trailer of at most 128 fields, and whatever follows
pub record IsChunkedBody (raw body : List ℕ) : Type 0 where
  pub chunks : List ChunkParts
  pub each : All IsChunk chunks
  pub last : ChunkLine
  pub is_line : IsChunkLine last
  pub is_zero : chunk_size last ≡ 0
  pub tail : List ℕ
  pub trailer : List Field
  pub end : LineEnd
  pub rest : List ℕ
  pub reads : ReadsSection tail trailer end rest
  pub few : length trailer ≤ 128
  pub whole : raw ≡ flat_map print_chunk chunks ++ (print_chunk_line last ++ tail)
  pub same : body ≡ flat_map (λ c. c.bytes) chunks
