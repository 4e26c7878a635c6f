-- The tokens of a text, without Eof, and their records: kind, length, start in bytes, and line.
use Rattle.std.specs.Prelude.{ℕ, zero, suc, pred, ◌+◌, List, [], ◌∷◌, Bool, take}
use Rattle.text.specs.Chars.{chars, size}
use Rattle.line_feeds.specs.Feeds.{feeds_before}
use Rattle.token.specs.declared.TokenKind.{TokenKind}
use Rattle.token.specs.declared.Token as token
use Rattle.token.specs.Lists.{Lists}
use Rattle.token.specs.Advance.{advance}

-- a token with its characters
pub record Piece : Type 0 where
  pub kind : TokenKind
  pub text : List ℕ

-- the tokens after the next `skip` characters
unfoldable pub tokens_after : Lists → (on : Bool) (skip : ℕ) → List ℕ → List Piece
tokens_after L on zero [] = []
tokens_after L on (suc k) [] = []
tokens_after L on (suc k) (c ∷ cs) = tokens_after L on k cs
tokens_after L on zero (c ∷ cs) =
    let r = advance L on (c ∷ cs) in
    record { kind = r.said.kind; text = take r.took (c ∷ cs) } ∷ tokens_after L r.said.on (pred r.took) cs

-- THE TOKENS of characters
abbrev pub tokens : Lists → (on : Bool) → List ℕ → List Piece
tokens L on cs = tokens_after L on 0 cs

-- a token of a text s in its place: where it starts, and its line, the number of LFs before that
abbrev pub in_place : (s : List ℕ) (start : ℕ) → TokenKind → (len : ℕ) → token.Token
in_place s start kind len = record { kind = kind; len = len; start = start; line = feeds_before s start }

-- tokens of a text s in their places, the first of them at `start`
abbrev pub placed : (s : List ℕ) (start : ℕ) → List Piece → List token.Token
placed s start [] = []
placed s start (t ∷ ts) = in_place s start t.kind (size t.text) ∷ placed s (start + size t.text) ts

-- THE RECORDS of a text's bytes
abbrev pub records : Lists → (on : Bool) → List ℕ → List token.Token
records L on s = placed s 0 (tokens L on (chars s))
