-- What the verdict and the position say of the text, the lists and the answer.
use Rattle.std.specs.Prelude.{Ok, Err}
use Prim.Native.Nat.{ℕ, ◌≤◌}
use mathlib.Core.Path.{◌≡◌, sym, ap, ◌∙◌}
use mathlib.Core.Bool.{Bool, true, false}
use mathlib.Core.List.{List}
use lib.ListN.{length, drop}
use native.Mathlib.Omega.{arith}
use Rattle.refusal.specs.declared.PlaceRefusal.TheVariants.{Position}
use Rattle.refusal.specs.Verdict.{Verdict, fine}
use Rattle.refusal.specs.Order.{first, lists_in_order}
use Rattle.refusal.proofs.Orders.{first_1, first_2}
use Rattle.text.specs.Chars.{chars, size, WellFormed}
use Rattle.text.specs.Position.{on_boundary, starts_here}
use Rattle.text.specs.Verdicts.{too_long, utf8_verdict}
use Rattle.text.proofs.Positions.{boundary_parts, boundary_byte}
use Rattle.text.proofs.Texts.{size_chars}
use Rattle.text.proofs.Verdicts.{fine_long, fine_utf8}
use Rattle.ranges.specs.Rules.{list_verdict}
use Rattle.ranges.proofs.Laws.{fine_good}
use Rattle.token.specs.Lists.{Lists}
use Rattle.token.proofs.Cover.{size_append}
use Rattle.lexer.specs.declared.Scan.{Scan}
use Rattle.lexer.specs.Checked.{Checked}
use Rattle.lexer.specs.Steps.{before_of, next_of}
use Rattle.lexer.specs.Ready.{Lined}
use Rattle.lexer.specs.Answers.{token_verdict, given_at, one_token}
use Rattle.lexer.proofs.Walks.{before_lined}

-- a boundary lies in the text
pub edge_within : (s : List ℕ) (at : ℕ) → on_boundary s at ≡ true → at ≤ length s
edge_within s at b =
    let q = boundary_parts s at b in
    omega (arith, q.bytes, sym (ap size q.joined), size_append q.before (chars (drop at s)), size_chars s)

-- THE VERDICT lets through: the text is within the limit and well-formed, and the lists are good
module _ (limit : ℕ) (s : List ℕ) (L : Lists) {v : Verdict} (e : v ≡ token_verdict limit s L) (k : v ≡ fine) where
  lists_fine : first (list_verdict limit 0 L.starts) (first (list_verdict limit 1 L.continues) (list_verdict limit 2 L.emoji)) ≡ fine
  unfolding token_verdict
  lists_fine = first_1 _ (utf8_verdict s) (first_2 (too_long s) _ (sym e ∙ k))

  pub text_fits : length s ≤ 4294967295
  unfolding token_verdict
  text_fits = fine_long s (first_1 (too_long s) _ (sym e ∙ k))

  text_well : WellFormed s
  unfolding token_verdict
  text_well = fine_utf8 s (first_2 (lists_in_order (list_verdict limit 0 L.starts) (list_verdict limit 1 L.continues) (list_verdict limit 2 L.emoji)) _ (first_2 (too_long s) _ (sym e ∙ k)))

  pub fine_checked : Checked s L
  fine_checked = record {
    well = text_well;
    fits = text_fits;
    starts = fine_good limit 0 L.starts (first_1 _ _ lists_fine);
    continues = fine_good limit 1 L.continues (first_1 _ _ (first_2 (list_verdict limit 0 L.starts) _ lists_fine));
    emoji = fine_good limit 2 L.emoji (first_2 (list_verdict limit 1 L.continues) _ (first_2 (list_verdict limit 0 L.starts) _ lists_fine));
  }

  -- the answers
  module _ (at : ℕ) (on : Bool) {t : Bool} (h : t ≡ starts_here s at) where
    boundary : t ≡ on_boundary s at
    boundary = h ∙ sym (boundary_byte s text_well at)

    -- the position is in the text, and a step from there is lined
    pub at_within : t ≡ true → at ≤ length s
    at_within p = edge_within s at (sym boundary ∙ p)

    pub at_lined : {c : Scan} → t ≡ true → c ≡ before_of s at on → Lined s c
    at_lined p f = before_lined {on = on} text_fits (at_within p) f

    pub given_in : {c x : Scan} → t ≡ true → c ≡ before_of s at on → x ≡ next_of L s c → Ok x ≡ one_token limit s L at on
    unfolding given_at
    given_in p f q = rw (← e, k, ← boundary, p, q, f)

    pub position_in : t ≡ false → Err (Position at) ≡ one_token limit s L at on
    unfolding given_at
    position_in p = rw (← e, k, ← boundary, p)
