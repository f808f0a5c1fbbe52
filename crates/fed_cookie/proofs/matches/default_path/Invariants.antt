use Rattle.std.proofs.Common.{◌≡◌, ◌+◌, ◌≤◌, not, length, take}
use Rattle.std.specs.List.{suffix_len}
use Rattle.fed_cookie.specs.Matches.{is_slash}
use Rattle.fed_cookie.proofs.matches.default_path.Given as goal

abbrev pub invariant-loop-end : goal.invariant-loop-end
invariant-loop-end l = record {
  within : l.end ≤ length l.path;
  left : l.end + suffix_len (λ b. not (is_slash b)) l.path ≡ length l.path + suffix_len (λ b. not (is_slash b)) (take l.end l.path);
}

abbrev pub decreases-loop-end : goal.decreases-loop-end
decreases-loop-end l = l.end
