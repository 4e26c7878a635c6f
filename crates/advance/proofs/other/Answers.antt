-- `advance::other` meets its contract. The guards in their order (Arms).
use Rattle.advance.proofs.Arms.{white_in, word_in, emoji_in, unknown_in}
use Rattle.advance.proofs.other.Goals as goal

pub returns-then-is_whitespace : goal.returns-then-is_whitespace
returns-then-is_whitespace c = search white_in

pub returns-then-is_start : goal.returns-then-is_start
returns-then-is_start c = search word_in

pub returns-then-is_emoji : goal.returns-then-is_emoji
returns-then-is_emoji c = search emoji_in

pub returns : goal.returns
returns c = search unknown_in
