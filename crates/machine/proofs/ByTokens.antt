-- The result of a text by its tokens, from any place on (`key_from`), and from inside a token of which some characters were read (`keep`, `skip`, `close`).
-- The book's rule of tokens alone is spoken of, no mode of the machine.
use Rattle.std.specs.Prelude.{Option}
use Prim.Native.Nat.{ℕ, zero, suc, ◌+◌}
use mathlib.Core.Path.{◌≡◌, refl, sym, ap}
use mathlib.Core.List.{List, [], ◌∷◌, ◌++◌, append_assoc}
use mathlib.Core.Bool.{Bool, true, false, not}
use lib.ListN.{take}
use Rattle.basics.specs.Choice.{pick}
use Rattle.text.specs.Chars.{width}
use Rattle.eaters.specs.Eat.{Got}
use Rattle.token.specs.declared.LiteralKind.{LiteralKind}
use Rattle.token.specs.declared.TokenKind.{TokenKind}
use Rattle.token.specs.Names.{'newline'}
use Rattle.token.specs.Lists.{Lists}
use Rattle.token.specs.Advance.{plain}
use Rattle.token.specs.Trivia.{is_trivia}
use Rattle.token.specs.Broken as broken
use Rattle.token.specs.Broken.{broken_literal, is_broken}
use Rattle.machine.specs.Machine.{Result, ok, bad, put, gap_out}
use Rattle.machine.proofs.Eating.{more, here}

-- a newline for trivia, unless one stands there
abbrev pub mark : (gap : Bool) → Result → Result
mark true x = x
mark false x = put ('newline' ∷ []) x

-- a token that is not broken
abbrev pub whole : TokenKind → Bool
whole k = not (is_broken k)

abbrev pub whole_literal : LiteralKind → Bool
whole_literal k = not (broken_literal k)

abbrev pub has_count : Option ℕ → Bool
has_count h = not (broken.no_count h)

-- what is written in two steps is written in one
pub put_put : (u v : List ℕ) (x : Result) → put u (put v x) ≡ put (u ++ v) x
put_put u v (ok w) = ap ok (sym (append_assoc u v w))
put_put u v (bad n) = refl

pub put_none : (x : Result) → put [] x ≡ x
put_none (ok w) = refl
put_none (bad n) = refl

pub mark_put : (r : Bool) (x : Result) → mark r x ≡ put (gap_out r) x
mark_put true x = sym (put_none x)
mark_put false x = refl

-- how much a rule takes, and whether its token is whole
abbrev pub judged : Got TokenKind → Got Bool
judged g = record { took = g.took; said = whole g.said }

module _ (L : Lists) where
  -- THE RESULT BY TOKENS, from the place p on, after k more characters of the token before; r: trivia stands right before.
  -- A broken token ends it; trivia is one newline; any other token is written as it stands.
  abbrev pub key_from : (k p : ℕ) (r : Bool) → List ℕ → Result
  key_from zero p r [] = ok []
  key_from (suc k) p r [] = ok []
  key_from (suc k) p r (c ∷ cs) = key_from k (p + width c) r cs
  key_from zero p r (c ∷ cs) =
      pick (whole (plain L c cs).said)
      (pick (is_trivia (plain L c cs).said) (mark r (key_from (plain L c cs).took (p + width c) true cs)) (put (c ∷ take (plain L c cs).took cs) (key_from (plain L c cs).took (p + width c) false cs)))
      (bad p)

  -- THE REST OF A TOKEN that began at st, from the place p on. Of the characters cs it takes g .took, and g.said: it is whole.
  -- `keep`: its beginning is written, and so is this. `skip`: it is trivia, and its newline is written. `close`: nothing of it is written yet, and h is held back.
  abbrev pub keep : ℕ → ℕ → Got Bool → List ℕ → Result
  keep st p g cs = pick g.said (put (take g.took cs) (key_from g.took p false cs)) (bad st)

  abbrev pub skip : ℕ → ℕ → Got Bool → List ℕ → Result
  skip st p g cs = pick g.said (key_from g.took p true cs) (bad st)

  abbrev pub close : ℕ → ℕ → Bool → List ℕ → Got TokenKind → List ℕ → Result
  close st p r h g cs =
      pick (whole g.said) (pick (is_trivia g.said) (mark r (key_from g.took p true cs)) (put (h ++ take g.took cs) (key_from g.took p false cs))) (bad st)

  -- a token held back, when it is known to be none of trivia, and when it is known to be trivia
  pub close_keep : (st p : ℕ) (r : Bool) (h : List ℕ) (g : Got TokenKind) (cs : List ℕ) → is_trivia g.said ≡ false → put h (keep st p (judged g) cs) ≡ close st p r h g cs
  close_keep st p r h g cs e = rw e (go (whole g.said))
    where
      go : (s : Bool) → put h (pick s (put (take g.took cs) (key_from g.took p false cs)) (bad st)) ≡ pick s (put (h ++ take g.took cs) (key_from g.took p false cs)) (bad st)
      go true = put_put h (take g.took cs) (key_from g.took p false cs)
      go false = refl

  pub close_skip : (st p : ℕ) (r : Bool) (h : List ℕ) (g : Got TokenKind) (cs : List ℕ) → is_trivia g.said ≡ true → put (gap_out r) (skip st p (judged g) cs) ≡ close st p r h g cs
  close_skip st p r h g cs e = rw e (go (whole g.said))
    where
      go : (s : Bool) → put (gap_out r) (pick s (key_from g.took p true cs) (bad st)) ≡ pick s (mark r (key_from g.took p true cs)) (bad st)
      go true = sym (mark_put r (key_from g.took p true cs))
      go false = refl

  -- one more character of a token is written
  pub keep_more : (st p c : ℕ) (g : Got Bool) (cs : List ℕ) → put (c ∷ []) (keep st (p + width c) g cs) ≡ keep st p (more g) (c ∷ cs)
  keep_more st p c g cs = go g.said
    where
      go : (s : Bool) → put (c ∷ []) (pick s (put (take g.took cs) (key_from g.took (p + width c) false cs)) (bad st)) ≡ pick s (put (c ∷ take g.took cs) (key_from g.took (p + width c) false cs)) (bad st)
      go true = put_put (c ∷ []) (take g.took cs) (key_from g.took (p + width c) false cs)
      go false = refl

  -- nothing is left: the next token begins
  pub keep_here : (st p : ℕ) (cs : List ℕ) → key_from 0 p false cs ≡ keep st p here cs
  keep_here st p cs = sym (put_none (key_from 0 p false cs))
