-- The limits of a collector, their ranges, and those that are usual.
use Rattle.std.specs.Prelude.{◌≡◌, ℕ, ◌&&◌, nat_le, Bool, Option, Some, None, if◌then◌else◌}
use Rattle.books_spec.specs.declared.limits.Limits.{Limits}

-- 256 streams, 4,096 sources, windows of 64 datagrams and of 1,024 samples, and a slack of 5,000 ms
abbrev pub usual_limits : Limits
usual_limits = record {
  streams = 256;
  sources = 4096;
  datagram_width = 64;
  sample_width = 1024;
  boot_slack = 5000;
}

abbrev pub is_within : ℕ → ℕ → ℕ → Bool
is_within n least most = nat_le least n && nat_le n most

-- the least number of a limit that is out of its range
abbrev pub refused_limit : Limits → Option ℕ
refused_limit l =
    if is_within l.streams 1 4096 then (
    if is_within l.sources 1 65536 then (
    if is_within l.datagram_width 1 8192 then (
    if is_within l.sample_width 1 8192 then (
    if is_within l.boot_slack 100 1073741824 then None
    else Some 5) else Some 4) else Some 3) else Some 2) else Some 1

-- each limit is within its range
abbrev pub AreLawful : Limits → Type 0
AreLawful l = refused_limit l ≡ None
