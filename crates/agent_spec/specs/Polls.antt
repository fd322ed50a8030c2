-- When a counter source is due for a poll.
use Rattle.std.specs.Prelude.{ℕ, ◌+◌, ◌-◌, ◌%◌, nat_le, Bool}

-- the ms from one uptime to another; an uptime has 32 bits
abbrev pub elapsed : ℕ → ℕ → ℕ
elapsed last now = (now + (4294967296 - last)) % 4294967296

-- whether a source that is polled every so many ms, and was polled last at this uptime, is due
abbrev pub is_due_after : ℕ → ℕ → ℕ → Bool
is_due_after every last now = nat_le every (elapsed last now)
