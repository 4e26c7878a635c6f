-- WHAT THE MACHINE COMES TO over a whole text: the one-shot key, and the place that it refuses. What is written so far is its beginning, and how much room it takes.
use Prim.Native.Nat.{ℕ, ◌+◌, ◌≤◌}
use mathlib.Core.Path.{◌≡◌, sym, ap, ◌∙◌}
use mathlib.Core.List.{List, [], ◌∷◌, ◌++◌}
use mathlib.Core.Bool.{false}
use lib.ListN.{length}
use native.Mathlib.Omega.{arith}
use Rattle.text.specs.Chars.{chars, size, encode}
use Rattle.text.proofs.Texts.{length_encode}
use Rattle.token.specs.Lists.{Lists}
use Rattle.token.specs.Tokens.{tokens}
use Rattle.token.proofs.Cover.{size_append}
use Rattle.machine.specs.declared.Mode.{Mode}
use Rattle.machine.specs.declared.Mode.TheVariants.{Start, OneSlash, TwoSlashes, ThreeSlashes, SlashStar, SlashStars, DocLine, PlainLine, Block, InWord, InBadWord, InName, Suffix, InString, StringEscape, Broken, GotR, GotRHash, GotK, GotNameHash, GotB, GotC, GotBR, GotHash, GotQuote, GotByteQuote, GotQuotes, WantsQuote, QuotedName, InLifetime, InQuotes, QuotesEscape, RawHashes, RawBody, RawEnd, GotZero, InDigits, InBased, InHex, GotDot, InFraction, GotE, InExponent}
use Rattle.machine.specs.Machine.{put, step, finish, result}
use Rattle.machine.specs.declared.State.{State}
use Rattle.machine.specs.Pieces.{begin, moved, read, feed, ended, held}
use Rattle.machine.specs.OneShot.{one_shot, in_bytes, of_chars}
use Rattle.machine.proofs.Streams.{feed_append}
use Rattle.machine.proofs.ByTokens.{put_put, put_none}
use Rattle.machine.proofs.Runs.{runs}
use Rattle.machine.proofs.Meets.{key_is, bytes_is}
use Rattle.machine.proofs.Room.{bound}

module _ (L : Lists) where
  -- what is fed from a state on
  fed : (s : State) (cs : List ℕ) → ended (feed L s cs) ≡ result L s.from s.at s.mode cs
  fed s [] = put_none (finish s.from s.mode)
  fed s (c ∷ cs) =
      let n = step L s.from s.at s.mode c in
      let f = feed L (moved s c n) cs in
      sym (put_put n.out f.out (finish f.state.from f.state.mode)) ∙ ap (put n.out) (fed (moved s c n) cs)

  -- THE MACHINE GIVES THE KEY of characters, and the place of the first broken token
  pub whole_text : (cs : List ℕ) → ended (feed L begin cs) ≡ of_chars (tokens L false cs)
  whole_text cs = fed begin cs ∙ runs L 0 0 (Start false) cs ∙ key_is L cs

  -- ON BYTES: the key that the one-shot call gives, or the place that it refuses
  pub one_shot_lem : (s : List ℕ) → in_bytes (ended (feed L begin (chars s))) ≡ one_shot L s
  one_shot_lem s = ap in_bytes (whole_text (chars s)) ∙ bytes_is L s

  -- WHAT IS WRITTEN SO FAR is the beginning of what is written in the end, whatever follows
  pub so_far : (u v : List ℕ) → ended (feed L begin (u ++ v)) ≡ put (feed L begin u).out (ended (feed L (feed L begin u).state v))
  so_far u v =
      let f = feed L begin u in
      let g = feed L f.state v in
      ap ended (feed_append (read L) begin u v) ∙ sym (put_put f.out g.out (finish g.state.from g.state.mode))

  -- ROOM, in bytes: characters write no more than they have, and what was held back before them
  pub room : (s : State) (cs : List ℕ) → size (feed L s cs).out + held (feed L s cs).state.mode ≤ size cs + held s.mode
  room s [] = omega arith
  room s (c ∷ cs) =
      let n = step L s.from s.at s.mode c in
      omega (arith, (bound L s.from s.at s.mode c).it, room (moved s c n) cs, size_append n.out (feed L (moved s c n) cs).out)

-- AT MOST THREE CHARACTERS ARE HELD BACK, of one byte each
pub few_held : (m : Mode) → held m ≤ 3
few_held (Start r) = omega arith
few_held (OneSlash r) = omega arith
few_held (TwoSlashes r) = omega arith
few_held (ThreeSlashes r) = omega arith
few_held (SlashStar r) = omega arith
few_held (SlashStars r) = omega arith
few_held DocLine = omega arith
few_held PlainLine = omega arith
few_held (Block doc d l) = omega arith
few_held InWord = omega arith
few_held InBadWord = omega arith
few_held InName = omega arith
few_held Suffix = omega arith
few_held InString = omega arith
few_held StringEscape = omega arith
few_held Broken = omega arith
few_held GotR = omega arith
few_held GotRHash = omega arith
few_held GotK = omega arith
few_held GotNameHash = omega arith
few_held GotB = omega arith
few_held GotC = omega arith
few_held GotBR = omega arith
few_held GotHash = omega arith
few_held GotQuote = omega arith
few_held GotByteQuote = omega arith
few_held GotQuotes = omega arith
few_held WantsQuote = omega arith
few_held (QuotedName r) = omega arith
few_held InLifetime = omega arith
few_held InQuotes = omega arith
few_held QuotesEscape = omega arith
few_held (RawHashes n) = omega arith
few_held (RawBody n) = omega arith
few_held (RawEnd n j) = omega arith
few_held GotZero = omega arith
few_held InDigits = omega arith
few_held (InBased h) = omega arith
few_held (InHex h) = omega arith
few_held GotDot = omega arith
few_held InFraction = omega arith
few_held GotE = omega arith
few_held InExponent = omega arith

-- n bytes write at most n + 3 (document 02, W13, allows 16)
pub piece_room : (L : Lists) (s : State) (cs : List ℕ) → length (encode (feed L s cs).out) ≤ size cs + 3
piece_room L s cs = omega (arith, length_encode (feed L s cs).out, room L s cs, few_held s.mode)
