-- The one-token call's answer as numbers: the kind is its code, which loses nothing beside the start of the suffix.
use Rattle.std.specs.Prelude.{false, Result, Ok, Err}
use Rattle.refusal.specs.declared.PlaceRefusal.{PlaceRefusal}
use Rattle.refusal.specs.declared.Numbers.{Numbers}
use Rattle.kinds.specs.Codes.{kind_code, suffix_of}
use Rattle.lexer.specs.declared.Scan.{Scan}
use Rattle.lexer.specs.Answers.{token_numbers}
use Rattle.exports.specs.declared.TokenAnswer.{TokenAnswer}

abbrev pub no_token : Numbers → TokenAnswer
no_token n = record { number = n.number; beside = n.beside; second = n.second; kind = 0; suffix_start = 0; len = 0; start = 0; line = 0; next = 0; on = false }

abbrev pub given_out : Numbers → Scan → TokenAnswer
given_out n x = record {
  number = n.number;
  beside = n.beside;
  second = n.second;
  kind = kind_code x.token.kind;
  suffix_start = suffix_of x.token.kind;
  len = x.token.len;
  start = x.token.start;
  line = x.token.line;
  next = x.next;
  on = x.on;
}

abbrev pub token_from : Numbers → Result Scan PlaceRefusal → TokenAnswer
token_from n (Ok x) = given_out n x
token_from n (Err refusal) = no_token n

abbrev pub token_out : Result Scan PlaceRefusal → TokenAnswer
token_out answer = token_from (token_numbers answer) answer
