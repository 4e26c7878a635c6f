-- The rules of whitespace and comments, from the runs of their scans.
use Prim.Native.Nat.{ℕ, zero, suc, ◌≤◌, zero-le, suc-le-suc}
use mathlib.Core.Path.{◌≡◌, refl, sym, ap, ◌∙◌}
use mathlib.Core.Bool.{Bool}
use Rattle.std.specs.Prelude.{Option}
use mathlib.Core.List.{List, [], ◌∷◌}
use mathlib.Core.Logic.{◌⊎◌, inl, inr}
use lib.ListN.{length, get_or, drop}
use borrow.Author.Tests.{ne_eqb}
use Rattle.basics.specs.Choice.{and}
use Rattle.basics.proofs.Choices.{by_pick}
use Rattle.classes.specs.Whitespace.{is_whitespace}
use Rattle.eaters.specs.Eat.{Read, give, while}
use Rattle.eaters.specs.Look.{if_eat}
use Rattle.eaters.specs.Scan.{Turn, go, skip, turned, scan}
use Rattle.token.specs.declared.DocStyle.{DocStyle}
use Rattle.token.specs.declared.TokenKind.{TokenKind}
use Rattle.token.specs.declared.TokenKind.TheVariants.{LineComment, BlockComment, Whitespace, Slash}
use Rattle.token.specs.Names.{is, '*', '/'}
use Rattle.token.specs.Whitespace as rule
use Rattle.token.specs.Comments.{in_line, line_doc, line_comment, block_doc, block_turn, block_comment, slash}
use Rattle.cursor.specs.declared.Cursor.{Cursor}
use Rattle.cursor.specs.Cursors.{rest}
use Rattle.cursor.specs.Moved.{Moved}
use Rattle.cursor.specs.Ran.{left, Ran}
use Rattle.cursor.proofs.Runs.{ran_word, ran_give, ran_then, ran_say, ran_texted, ran_no, ran_take}
use Rattle.cursor.proofs.Loops.{ran_while}
use Rattle.comment.proofs.Docs.{line_style, block_style}

pub whitespace_in : {s : List ℕ} {a b : Cursor} → Moved s a b (left (while is_whitespace) (rest s a)) → Ran rule.whitespace s a b Whitespace
whitespace_in {s} {a} {b} m = ran_then (ran_while is_whitespace m) (ran_give Whitespace s b)

pub line_in : {s : List ℕ} {a b : Cursor} {d : Option DocStyle} → d ≡ line_doc (rest s a) → Moved s a b (left (while in_line) (rest s a)) → Ran line_comment s a b (LineComment d)
line_in {s} {a} {b} {d} e m = ran_word (ran_say (λ (t : List ℕ). LineComment (line_doc t)) (ran_while in_line m)) (ap LineComment (e ∙ sym (line_style (rest s a))))

-- a block comment takes two characters, or all that there are
module _ (d c e : ℕ) (P : Turn → Type 0) (one : P (go (suc d))) (two : (f : ℕ) → P (skip f)) where
  by_block : P (block_turn (suc d) c e)
  by_block =
      by_pick P (and (is '/' c) (is '*' e)) _ _ (λ t. two (suc (suc d)))
      (λ t. by_pick P (and (is '*' c) (is '/' e)) _ _ (λ t. two d) (λ t. one))

scan_end : (k d : ℕ) → (scan block_turn k d []).took ≡ 0
unfolding scan
scan_end zero zero = refl
scan_end zero (suc d) = refl
scan_end (suc k) d = refl

one_more : (c : ℕ) (cs : List ℕ) → 1 ≤ (scan block_turn 0 1 (c ∷ cs)).took
unfolding scan
one_more c cs = by_block 0 c (get_or cs 0 0) (λ (u : Turn). 1 ≤ (turned u (λ k e. scan block_turn k e cs)).took) (suc-le-suc zero-le) (λ f. suc-le-suc zero-le)

abbrev Long : List ℕ → ℕ → Type 0
Long cs n = (2 ≤ n) ⊎ (n ≡ length cs)

block_long : (cs : List ℕ) → Long cs (scan block_turn 0 1 cs).took
unfolding scan
block_long [] = inr refl
block_long (c ∷ []) = by_block 0 c 0 (λ (u : Turn). Long (c ∷ []) (turned u (λ k e. scan block_turn k e [])).took) (inr (ap suc (scan_end 0 1))) (λ f. inr (ap suc (scan_end 1 f)))
block_long (c ∷ d ∷ ds) = by_block 0 c d (λ (u : Turn). Long (c ∷ d ∷ ds) (turned u (λ k e. scan block_turn k e (d ∷ ds))).took) (inl (suc-le-suc (one_more d ds))) (λ f. inl (suc-le-suc (suc-le-suc zero-le)))

abbrev block : Read Bool → TokenKind
block r = BlockComment (block_doc r.text) r.said

pub block_in : {s : List ℕ} {a b : Cursor} {d : Option DocStyle} {t : Bool} → d ≡ block_doc (rest s a) → Ran (scan block_turn 0 1) s a b t → Ran block_comment s a b (BlockComment d t)
block_in {s} {a} {b} {d} {t} e r =
    ran_word (ran_say block (ran_texted r)) (ap (λ (k : Option DocStyle). BlockComment k t) (e ∙ sym (block_style (rest s a) (scan block_turn 0 1 (rest s a)).took (block_long (rest s a)))))

-- after a slash
module _ {s : List ℕ} {a b : Cursor} {c : ℕ} (e : c ≡ get_or (rest s a) 0 0) where
  module _ {d : Cursor} {k : TokenKind} (m : Moved s a b (drop 1 (rest s a))) where
    pub slash_line : c ≡ 0x2F → Ran line_comment s b d k → Ran slash s a d k
    slash_line h r = ran_take line_comment (if_eat (is '*') block_comment (give Slash)) (is '/') e (rw h) m r

    pub slash_block : c ≡ 0x2A → Ran block_comment s b d k → Ran slash s a d k
    slash_block h r =
        ran_no _ (if_eat (is '*') block_comment (give Slash)) (is '/') e (rw h) (ran_take block_comment (give Slash) (is '*') e (rw h) m r)

pub slash_alone : {s : List ℕ} {a : Cursor} {c : ℕ} → c ≡ get_or (rest s a) 0 0 → (c ≡ 0x2F → ⊥) → (c ≡ 0x2A → ⊥) → Ran slash s a a Slash
slash_alone {s} {a} {c} e n m =
    ran_no _ (if_eat (is '*') block_comment (give Slash)) (is '/') e (ne_eqb c 0x2F n) (ran_no _ (give Slash) (is '*') e (ne_eqb c 0x2A m) (ran_give Slash s a))
