-- The three lent lists, and the classes of a character with them.
use Rattle.std.specs.Prelude.{ℕ, List, [], Bool}
use Rattle.classes.specs.Identifiers.{id_start, id_continue}
use Rattle.classes.specs.Emoji.{emoji_char}

pub record Lists : Type 0 where
  pub starts : List ℕ
  pub continues : List ℕ
  pub emoji : List ℕ

abbrev pub lent : (starts continues emoji : List ℕ) → Lists
lent a b c = record { starts = a; continues = b; emoji = c }

-- empty lists
abbrev pub none : Lists
none = lent [] [] []

-- c starts an identifier
abbrev pub starting : Lists → ℕ → Bool
starting L c = id_start L.starts c

-- c goes on in an identifier
abbrev pub going : Lists → ℕ → Bool
going L c = id_continue L.continues c

-- c is emoji
abbrev pub smiling : Lists → ℕ → Bool
smiling L c = emoji_char L.emoji c
