-- What a buffer holds that was filled with lines.
use Rattle.std.specs.Prelude.{ℕ, ◌+◌, ◌≤◌, ◌<◌, ◌≡◌, List, [], ◌++◌, length, take, drop}
use Rattle.text.specs.Chars.{chars}
use Rattle.token.specs.declared.Token.{Token}
use Rattle.token.specs.Lists.{Lists}
use Rattle.lines.specs.declared.Chunk.{Chunk}
use Rattle.lines.specs.Lines.{tokens_from, lines_of, bytes, lines_from, fitting}

-- the tokens of s from `at` on whose lines are put into a buffer
abbrev pub chosen : Lists → (s : List ℕ) (at : ℕ) (out : List ℕ) → List Token
chosen L s at out = fitting (length out) (tokens_from L s at)

-- out, which was out₀, was filled with the lines of s from `at` on
pub record Filled (L : Lists) (s : List ℕ) (at : ℕ) (out₀ out : List ℕ) (r : Chunk) : Type 0 where
  -- exactly what came back: the lines of the chosen tokens, and past them what was there; their bytes; the position past the tokens
  pub holds : out ≡ lines_of (chosen L s at out₀) ++ drop r.used out₀
  pub used : r.used ≡ length (lines_of (chosen L s at out₀))
  pub next : r.next ≡ at + bytes (chosen L s at out₀)
  -- what follows from it. What was put, and then the lines from the next position on, are the lines from `at` on.
  pub lines : take r.used out ++ lines_from L s r.next ≡ lines_from L s at
  pub room : r.used ≤ length out
  -- it stands still at the end and nowhere else
  pub ended : r.next ≡ at → chars (drop at s) ≡ []
  pub onward : (r.next ≡ at → ⊥) → length (chars (drop r.next s)) < length (chars (drop at s))
