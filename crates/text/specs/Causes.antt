-- Document 02, W2: what the three causes mean, said without the rows of the grammar. `proofs/Causes` shows that the rows say the same.
use Rattle.std.specs.Prelude.{ℕ, suc, ◌≤◌, ◌<◌, ◌≡◌, true, List, ◌++◌, ◌⊎◌, length, take, drop}
use Rattle.basics.specs.Tests.{within, all}
use Rattle.refusal.specs.declared.Cause.TheVariants.{Cut, Follow}
use Rattle.text.specs.declared.Decoded.TheVariants.{Char, Ill}
use Rattle.text.specs.Utf8.{decoded}

-- 1: the byte cannot start a sequence, 80 to C1, F5 to FF
abbrev pub CannotStart : ℕ → Type 0
CannotStart a = ((0x80 ≤ a) × (a ≤ 0xC1)) ⊎ (0xF5 ≤ a)

-- 2: the text ends inside the sequence. There are bytes that, put behind the text, make a character begin at the place.
pub record Continued (s : List ℕ) (place : ℕ) : Type 0 where
  pub more : List ℕ
  pub bytes : all (within 0x00 0xFF) more ≡ true
  pub code : ℕ
  pub width : ℕ
  pub begins : decoded (drop place (s ++ more)) ≡ Char code width

-- 3: a following byte is wrong. The bytes before it may still be a character that is cut off; with it they are none.
pub record WrongByte (s : List ℕ) : Type 0 where
  pub before : ℕ
  pub some : 1 ≤ before
  pub room : before < length s
  pub can : decoded (take before s) ≡ Ill Cut
  pub cannot : decoded (take (suc before) s) ≡ Ill Follow
