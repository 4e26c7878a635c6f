-- `classes::ident` meets its contract. By the first character and the rest (Idents).
use Rattle.classes.proofs.Idents.{ident_more}
use Rattle.classes.proofs.ident.Goals as goal

pub returns-then-id_start : goal.returns-then-id_start
returns-then-id_start c = search ident_more
