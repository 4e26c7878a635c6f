-- Guarded strings (000's guarded_double_quoted_string), at any place.
use Rattle.std.specs.Prelude.{ℕ, Bool, length, Option, None, Some}
use Rattle.eaters.specs.Eat.{Eater, give, nothing, while, ◌>>=◌, ◌>>◌, texted, choose}
use Rattle.eaters.specs.Look.{if_eat}
use Rattle.eaters.specs.Eat.{Read, while_most}
use Rattle.eaters.specs.Scan.{scan}
use Rattle.text.specs.Chars.{size}
use Rattle.token.specs.declared.GuardedStr.{GuardedStr}
use Rattle.token.specs.Names.{is, 'double', '#'}
use Rattle.token.specs.Lists.{Lists}
use Rattle.token.specs.Literals.{identifier}
use Rattle.token.specs.Quotes.{double_turn}

-- what may follow a string that ends: n hashes at the most, and a suffix
abbrev pub guarded_end : Lists → (n : ℕ) → Eater (Unit {0})
guarded_end L n = while_most n (is '#') >> identifier L

-- the string after n hashes and a quote. It says whether it ends.
abbrev pub guarded_rest : Lists → (n : ℕ) → Eater Bool
guarded_rest L n = do
  terminated ← scan double_turn 0 1
  choose terminated (guarded_end L n) nothing
  give terminated

-- whether hashes and a quote are there; if not, the hashes are taken
pub data Guard : Type 0 where
  string : (n : ℕ) (terminated : Bool) → Guard
  none : Guard

abbrev pub guard : Lists → Eater Guard
guard L = do
  hashes ← while (is '#')
  if_eat (is 'double')
      (do
        terminated ← guarded_rest L (length hashes)
        give (string (length hashes) terminated))
      (give none)

-- what is found, with its bytes
abbrev pub found : Read Guard → Option GuardedStr
found r = elim r.said [ string n t ↦ Some (record { n_hashes = n; terminated = t; token_len = size r.text }) | none ↦ None ]

abbrev pub guarded_string : Lists → Eater (Option GuardedStr)
guarded_string L = do
  r ← texted (guard L)
  give (found r)
