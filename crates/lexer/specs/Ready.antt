-- What a step asks of the scan that it goes on from.
use Rattle.std.specs.Prelude.{ℕ, ◌≤◌, ◌≡◌, List, length}
use Rattle.line_feeds.specs.Feeds.{feeds_before}
use Rattle.token.specs.Lists.{Lists}
use Rattle.lexer.specs.declared.Scan.{Scan}
use Rattle.lexer.specs.Checked.{Checked}

-- A SCAN WITH ITS LINE: the token's line is the text's there, and the scan goes on in the text, which is within the limit
pub record Lined (s : List ℕ) (c : Scan) : Type 0 where
  pub line : c.token.line ≡ feeds_before s c.token.start
  pub forward : c.token.start ≤ c.next
  pub inside : c.next ≤ length s
  pub fits : length s ≤ 4294967295

-- and the text and the lists were checked: what a source and a scan that goes on in it are together
pub record Ready (s : List ℕ) (L : Lists) (c : Scan) : Type 0 where
  pub checked : Checked s L
  pub lined : Lined s c
