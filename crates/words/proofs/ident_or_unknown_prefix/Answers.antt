-- `words::ident_or_unknown_prefix` meets its contract. The rule, by the character after the name (Rules).
use Rattle.words.proofs.Rules.{prefix_in, emoji_in, ident_in}
use Rattle.words.proofs.ident_or_unknown_prefix.Goals as goal

pub returns-then-is_prefix_mark : goal.returns-then-is_prefix_mark
returns-then-is_prefix_mark c = search prefix_in

pub returns-then-is_emoji : goal.returns-then-is_emoji
returns-then-is_emoji c = search emoji_in

pub returns : goal.returns
returns c = search ident_in
