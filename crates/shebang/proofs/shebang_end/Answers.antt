-- `shebang::shebang_end` meets its contract. By the first two characters, the token after them and the line (Strips).
use Rattle.shebang.proofs.Strips.{absent_hash, absent_mark, absent_bracket, ends_line}
use Rattle.shebang.proofs.shebang_end.Goals as goal

pub returns-then-first-ne35 : goal.returns-then-first-ne35
returns-then-first-ne35 c = search absent_hash

pub returns-then-first-ne33 : goal.returns-then-first-ne33
returns-then-first-ne33 c = search absent_mark

pub returns-then-bracket_follows : goal.returns-then-bracket_follows
returns-then-bracket_follows c = search absent_bracket

pub returns : goal.returns
returns c = search ends_line
