-- What is read as the path of a special URL is one.
use Rattle.std.proofs.Common.{◌≡◌, ℕ, ◌<◌, Bool, true, false, not, ◌&&◌, List, [], ◌∷◌, ◌++◌, length, drop, All}
use Rattle.std.specs.Prelude.{slice_index}
use Rattle.std.proofs.lemmas.Bool.{and_parts, cond_both, false≢true}
use Rattle.std.proofs.lemmas.List.Elements.{All-drop, All-head, All-nil, All-push, All-tail}
use Rattle.percent_encoding.proofs.PercentLemmas.{IsByte}
use Rattle.url.specs.declared.scheme.SchemeType.{SchemeType}
use Rattle.url.specs.Input.{is_empty}
use Rattle.url.specs.Path.{IsSegmentList, parse_path, parse_path_start, parse_segments, push_segment}
use Rattle.url.specs.Scheme.{is_slash, is_special}
use Rattle.url.proofs.PathLemmas.{IsNoSlash, push_last_nonempty, push_segment_valid}

-- segments, at least one
abbrev pub IsFull : SchemeType → List ℕ → Type 0
IsFull kind path = IsSegmentList kind path × (0 < length path)

segments_read : (kind : SchemeType) (path segment bytes : List ℕ) → All IsByte segment → All (IsNoSlash kind) segment
    → IsSegmentList kind path → All IsByte bytes → IsFull kind (parse_segments kind path segment bytes)
unfolding parse_segments
segments_read kind path segment [] own whole list rest =
    (push_segment_valid kind path segment true own whole list, push_last_nonempty kind path segment)
segments_read kind path segment (b ∷ bytes) own whole list rest =
    cond_both (is_slash kind b) _ _ (IsFull kind)
    (λ t. segments_read kind (push_segment kind path segment false) [] bytes (All-nil IsByte) (All-nil (IsNoSlash kind))
    (push_segment_valid kind path segment false own whole list) (All-tail IsByte b bytes rest))
    (λ f. segments_read kind path (segment ++ b ∷ []) bytes (All-push IsByte segment b own (All-head IsByte b bytes rest))
    (All-push (IsNoSlash kind) segment b whole f) list (All-tail IsByte b bytes rest))

pub path_read : (kind : SchemeType) (path bytes : List ℕ) → IsSegmentList kind path → All IsByte bytes
    → IsFull kind (parse_path kind path bytes)
path_read kind path bytes list all = segments_read kind path [] bytes (All-nil IsByte) (All-nil (IsNoSlash kind)) list all

pub start_read : (kind : SchemeType) (path bytes : List ℕ) → is_special kind ≡ true → IsSegmentList kind path → All IsByte bytes
    → IsFull kind (parse_path_start kind path bytes)
unfolding parse_path_start
start_read kind path bytes special list all =
    cond_both (is_empty bytes && not (is_special kind)) _ _ (IsFull kind)
    (λ t. absurd (no (is_special kind) special (and_parts (is_empty bytes) (not (is_special kind)) t).1))
    (λ f. cond_both (is_slash kind (slice_index bytes 0)) _ _ (IsFull kind)
    (λ t. path_read kind path (drop 1 bytes) list (All-drop IsByte 1 bytes all)) (λ g. path_read kind path bytes list all))
  where
    no : (b : Bool) → b ≡ true → not b ≡ true → ⊥
    no true is t = false≢true t
    no false is t = false≢true is
