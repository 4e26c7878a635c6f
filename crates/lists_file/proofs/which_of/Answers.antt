-- `lists_file::which_of` meets its contract (Readings).
use Rattle.lists_file.proofs.Readings.{which_start, which_continue, which_emoji, which_none}
use Rattle.lists_file.proofs.which_of.Goals as goal

pub returns-then-is_word : goal.returns-then-is_word
returns-then-is_word c = search which_start

pub returns-then-is_word-2 : goal.returns-then-is_word-2
returns-then-is_word-2 c = search which_continue

pub returns-then-is_word-3 : goal.returns-then-is_word-3
returns-then-is_word-3 c = search which_emoji

pub returns : goal.returns
returns c = search which_none
