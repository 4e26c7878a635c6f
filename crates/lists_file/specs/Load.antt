-- WHAT A FILE HOLDS (document 02, W1): a version and three lists, or the number, from 0, of its first bad line.
use Rattle.std.specs.Prelude.{ℕ, None, Some, zero, suc, List, [], ◌∷◌, ◌++◌, ltb}
use Rattle.basics.specs.Choice.{pick}
use Rattle.token.specs.Lists.{Lists, lent, none}
use Rattle.fields.specs.Pieces.{parted}
use Rattle.lists_file.specs.declared.Version.{Version}
use Rattle.lists_file.specs.Names.{newline}
use Rattle.lists_file.specs.Lines.{record_of, version_of}

pub data Read : Type 0 where
  loaded : Version → Lists → Read
  bad_line : ℕ → Read

-- a pair more at the end of a list
abbrev pub added : (which low high : ℕ) → Lists → Lists
added zero low high L = lent (L.starts ++ (low ∷ high ∷ [])) L.continues L.emoji
added (suc zero) low high L = lent L.starts (L.continues ++ (low ∷ high ∷ [])) L.emoji
added (suc (suc n)) low high L = lent L.starts L.continues (L.emoji ++ (low ∷ high ∷ []))

-- The lines from line `index` on, after records of which the last is of list `group`, and which say L. Each line has to be a record, and no record of an
-- earlier list than the one before it. What stands after the last LF is a bad line, unless it is nothing.
unfoldable pub load_from : (index group : ℕ) → Version → Lists → (lines : List (List ℕ)) → (rest : List ℕ) → Read
load_from index group v L [] [] = loaded v L
load_from index group v L [] (c ∷ rest) = bad_line index
load_from index group v L (text ∷ lines) rest =
    elim (record_of text) [
      | Some e ↦ pick (ltb e.which group) (bad_line index) (load_from (suc index) e.which v (added e.which e.low e.high L) lines rest)
      | None ↦ bad_line index
    ]

-- the same of bytes
abbrev pub load_at : (index group : ℕ) → Version → Lists → List ℕ → Read
load_at index group v L s = load_from index group v L (parted newline s).ended (parted newline s).rest

-- the first line is there, and is that of a version
abbrev pub load_lines : (lines : List (List ℕ)) → (rest : List ℕ) → Read
load_lines [] rest = bad_line 0
load_lines (text ∷ lines) rest = elim (version_of text) [ Some v ↦ load_from 1 0 v none lines rest | None ↦ bad_line 0 ]

unfoldable pub load : (file : List ℕ) → Read
load file = load_lines (parted newline file).ended (parted newline file).rest
