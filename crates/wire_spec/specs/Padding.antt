-- The padding of opaque bytes (RFC 4506 sections 4.9 and 4.10).
use Rattle.std.specs.Prelude.{ℕ, ◌-◌, ◌%◌}

-- how many bytes, from 0 to 3, bring n bytes up to a multiple of four
abbrev pub padding_of : ℕ → ℕ
padding_of n = (4 - n % 4) % 4
