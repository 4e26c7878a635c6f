-- An answer by number, as it goes out.
use Rattle.refusal.specs.declared.Numbers.{Numbers}
use Rattle.exports.specs.declared.Answer.{Answer}

abbrev pub answer_of : Numbers → Answer
answer_of n = record { number = n.number; beside = n.beside; second = n.second }
