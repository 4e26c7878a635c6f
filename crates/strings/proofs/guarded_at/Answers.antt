-- `strings::guarded_at` meets its contract. By the character after the hashes; its hashes and its bytes are at most the length of the text (Strings, Bounds).
use Rattle.strings.proofs.Bounds.{count_fits}
use Rattle.strings.proofs.Strings.{no_string, after, bytes_fit, a_string}
use Rattle.strings.proofs.guarded_at.Goals as goal

pub returns-then-first-ne34 : goal.returns-then-first-ne34
returns-then-first-ne34 c = search no_string

pub narrow-requires : goal.narrow-requires
narrow-requires c = search count_fits

pub overflow_sub-next : goal.overflow_sub-next
overflow_sub-next c = search after

pub narrow-requires-2 : goal.narrow-requires-2
narrow-requires-2 c = search bytes_fit

pub returns : goal.returns
returns c = search a_string
