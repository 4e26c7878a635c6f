-- RFC 3629 section 4: a byte of ASCII is a character by itself (UTF8-1 = %x00-7F).
use Rattle.std.specs.Prelude.{ℕ, ◌+◌, ◌≤◌, ◌<◌, List, length, get_or}

-- n bytes of ASCII stand at a position
pub record AsciiRun (s : List ℕ) (at n : ℕ) : Type 0 where
  pub room : at + n ≤ length s
  pub low : (k : ℕ) → k < n → get_or s (at + k) 0 < 0x80
