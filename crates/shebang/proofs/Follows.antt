-- The search for the first token that is not trivia, in the facts of the code.
use Prim.Native.Nat.{ℕ, ◌<◌}
use mathlib.Core.Path.{◌≡◌, sym, ap, subst, ◌∙◌}
use mathlib.Core.Bool.{Bool, true, false, not}
use mathlib.Core.List.{List}
use lib.ListN.{length}
use native.Mathlib.Omega.{arith}
use borrow.Author.Tests.{not-true, not-false}
use Rattle.basics.specs.Choice.{pick}
use Rattle.eaters.specs.Eat.{choose}
use Rattle.token.specs.declared.LiteralKind.{LiteralKind}
use Rattle.token.specs.declared.TokenKind.{TokenKind}
use Rattle.token.specs.Advance.{plain, decided}
use Rattle.token.specs.Trivia.{is_trivia}
use Rattle.cursor.specs.declared.Cursor.{Cursor}
use Rattle.cursor.specs.declared.Kinded.{Kinded}
use Rattle.cursor.specs.declared.Kinded.TheVariants.{Plain, Literal}
use Rattle.cursor.specs.declared.Scanned.{Scanned}
use Rattle.std.specs.Prelude.{Option, None, Some}
use Rattle.cursor.specs.Cursors.{rest, Seen}
use Rattle.cursor.specs.Moved.{no_more, left_of}
use Rattle.cursor.specs.Ran.{kind_from, Begun}
use Rattle.cursor.proofs.Moves.{char_at, end_at}
use Rattle.token.specs.Lists.{Lists, none}
use Rattle.token.specs.Shebang.{is_bracket, bracketed}
use Rattle.shebang.proofs.First.{bracket_none, bracket_step}

-- frontmatter is off
pub off_plain : (c : ℕ) {L : Lists} {s : List ℕ} {a : Cursor} {r : Scanned} → L ≡ none → Begun (decided L false c) s a r → Begun (plain none c) s a r
unfolding choose
off_plain c {L} {s} {a} {r} e b =
    let g : Begun (decided none false c) s a r = subst (λ (M : Lists). Begun (decided M false c) s a r) e b in
    record { past = g.past; ran = g.ran }

-- the search began at a; it is at b, and the answer from here is the answer from there
pub record Sought (s : List ℕ) (a b : Cursor) : Type 0 where
  pub same : bracketed none (rest s b) ≡ bracketed none (rest s a)

pub sought_over : {s : List ℕ} {a b : Cursor} {r : Option (ℕ × Cursor)} → r ≡ None → Seen s b r → Sought s a b → false ≡ bracketed none (rest s a)
sought_over x h i = sym (bracket_none none) ∙ ap (bracketed none) (sym (end_at x h)) ∙ i.same

-- a token of the code: it leaves fewer characters
module _ {s : List ℕ} {b n : Cursor} {c : ℕ} {r : Option (ℕ × Cursor)} (x : r ≡ Some (c, n)) (h : Seen s b r) {t : Scanned} (g : Begun (plain none c) s n t) where
  pub token_less : length (rest s t.next) < length (rest s b)
  token_less = omega (arith, ap length (char_at x h).chars, no_more g.ran.moved, ap length (left_of g.ran.moved))

  -- and its kind decides
  module _ {a : Cursor} (i : Sought s a b) where
    decides : (k : TokenKind) → k ≡ (plain none c (rest s n)).said
        → pick (is_trivia k) (bracketed none (rest s t.next)) (is_bracket k) ≡ bracketed none (rest s a)
    decides k e =
        ap (λ (j : TokenKind). pick (is_trivia j) (bracketed none (rest s t.next)) (is_bracket j)) e
        ∙ ap (λ (l : List ℕ). pick (is_trivia (plain none c (rest s n)).said) (bracketed none l) (is_bracket (plain none c (rest s n)).said)) (left_of g.ran.moved)
        ∙ sym (bracket_step none c (rest s n))
        ∙ ap (bracketed none) (sym (char_at x h).chars)
        ∙ i.same

    said : {k : Kinded} → t.kind ≡ k → kind_from 1 n k ≡ (plain none c (rest s n)).said
    said e = ap (kind_from 1 n) (sym e) ∙ g.ran.said

    pub literal_stop : {j : LiteralKind} {d : Cursor} → t.kind ≡ Literal j d → false ≡ bracketed none (rest s a)
    literal_stop {j} {d} e = decides (kind_from 1 n (Literal j d)) (said e)

    module _ {k : TokenKind} (e : t.kind ≡ Plain k) {u : Bool} (q : u ≡ is_trivia k) where
      pub other_stop : {v : Bool} → not u ≡ true → v ≡ is_bracket k → v ≡ bracketed none (rest s a)
      other_stop o f = f ∙ rw (← q, not-true u o) at (decides k (said e))

      pub trivia_on : not u ≡ false → Sought s a t.next
      trivia_on o = record { same = rw (← q, not-false u o) at (decides k (said e)) }
