-- The guess of the code where a raw string may have been meant to end, in the words of the book. Offsets count from the start of the text.
use Rattle.std.specs.Prelude.{None}
use Rattle.token.specs.RawCheck.{Guess}
use Rattle.strings.specs.declared.Guessed.{Guessed}

abbrev pub guess_of : Guessed → Guess
guess_of g = record { most = g.most; offset = g.offset }

-- no quote with a hash after it was seen
abbrev pub unguessed : Guess
unguessed = record { most = 0; offset = None }
