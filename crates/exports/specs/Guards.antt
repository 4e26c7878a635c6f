-- The guarded string's answer as numbers.
use Rattle.std.specs.Prelude.{ℕ, true, false, Option, None, Some, Result, Ok, Err}
use Rattle.refusal.specs.declared.Numbers.{Numbers}
use Rattle.refusal.specs.declared.PlaceRefusal.{PlaceRefusal}
use Rattle.token.specs.declared.GuardedStr.{GuardedStr}
use Rattle.strings.specs.declared.GuardedAt.{GuardedAt}
use Rattle.strings.specs.Guards.{guarded_numbers}
use Rattle.exports.specs.declared.GuardedStrAnswer.{GuardedStrAnswer}

abbrev pub no_string : Numbers → (next : ℕ) → GuardedStrAnswer
no_string n next = record { number = n.number; beside = n.beside; second = n.second; found = false; n_hashes = 0; terminated = false; token_len = 0; next = next }

abbrev pub found_of : Numbers → Option GuardedStr → (next : ℕ) → GuardedStrAnswer
found_of n (Some x) next = record {
  number = n.number;
  beside = n.beside;
  second = n.second;
  found = true;
  n_hashes = x.n_hashes;
  terminated = x.terminated;
  token_len = x.token_len;
  next = next;
}
found_of n None next = no_string n next

abbrev pub guarded_from : Numbers → Result GuardedAt PlaceRefusal → GuardedStrAnswer
guarded_from n (Ok x) = found_of n x.found x.next
guarded_from n (Err refusal) = no_string n 0

abbrev pub guarded_out : Result GuardedAt PlaceRefusal → GuardedStrAnswer
guarded_out answer = guarded_from (guarded_numbers answer) answer
