-- A slash, and line comments: modes OneSlash, TwoSlashes, ThreeSlashes, DocLine, PlainLine.
use Prim.Native.Nat.{ℕ, ◌+◌}
use mathlib.Core.Path.{◌≡◌, refl, sym, ap, ◌∙◌}
use mathlib.Core.List.{List, [], ◌∷◌}
use mathlib.Core.Bool.{Bool, true, false}
use lib.ListN.{length}
use lib.Dec.{eqb}
use borrow.Author.Tests.{eqb-true}
use native.Mathlib.Nat.{add-zero}
use Rattle.text.specs.Chars.{width}
use Rattle.eaters.specs.Eat.{Got, give, eat, take_while, while, ◌>>=◌}
use Rattle.eaters.specs.Look.{if_at}
use Rattle.token.specs.declared.TokenKind.{TokenKind}
use Rattle.token.specs.declared.TokenKind.TheVariants.{Slash}
use Rattle.token.specs.Names.{is, 'newline', '!', '*', '/'}
use Rattle.token.specs.Lists.{Lists}
use Rattle.token.specs.Comments.{slash, in_line, line_comment, block_comment}
use Rattle.token.specs.Trivia.{is_trivia}
use Rattle.machine.specs.declared.Mode.TheVariants.{OneSlash, TwoSlashes, ThreeSlashes, SlashStar, DocLine, PlainLine}
use Rattle.machine.specs.Machine.{silent, at_doc, at_plain}
use Rattle.machine.proofs.Eating.{suc_add, one_add, more, less, here}
use Rattle.machine.proofs.ByTokens.{put_none, judged, skip, close}
use Rattle.machine.proofs.ToCome.{line_rest}
use Rattle.machine.proofs.Goes.{After, Goes, Steps, Keeps, cases, cases_any, through, kept, afterwards, doc_by, plain_by, held_back}
use Rattle.machine.proofs.Begins.{begins, again}

-- the rule of line comments
line_view : (cs : List ℕ) → judged (line_comment cs) ≡ line_rest cs
unfolding ◌>>=◌ while give
line_view cs = rw (add-zero (length (take_while in_line cs)))

module _ (c : ℕ) (cs : List ℕ) where
  -- one character of it
  line_more : is 'newline' c ≡ false → line_rest (c ∷ cs) ≡ more (line_rest cs)
  line_more e = rw e

  line_none : is 'newline' c ≡ true → line_rest (c ∷ cs) ≡ here
  line_none e = rw e

  -- a slash that begins no comment
  slash_alone : is '/' c ≡ false → is '*' c ≡ false → slash (c ∷ cs) ≡ record { took = 0; said = Slash }
  unfolding if_at give
  slash_alone e f = rw (e, f)

  -- after two slashes: the next character says whether it is a doc comment
  line_doc : is '!' c ≡ true → is_trivia (line_comment (c ∷ cs)).said ≡ false
  unfolding ◌>>=◌ while give
  line_doc e = rw (eqb-true c '!' e)

  line_plain : is '!' c ≡ false → is '/' c ≡ false → is_trivia (line_comment (c ∷ cs)).said ≡ true
  unfolding ◌>>=◌ while give
  line_plain e f = go (is 'newline' c) refl
    where
      go : (s : Bool) → is 'newline' c ≡ s → is_trivia (line_comment (c ∷ cs)).said ≡ true
      go true n = rw n
      go false n = rw (n, e, f)

  line_on : (a : ℕ) → is a c ≡ true → eqb a 'newline' ≡ false → line_rest (c ∷ cs) ≡ more (line_rest cs)
  line_on a e f = line_more (ap (is 'newline') (eqb-true c a e) ∙ f)

  -- after three
  third_view : judged (less (line_comment ('/' ∷ c ∷ cs))) ≡ line_rest (c ∷ cs)
  third_view = ap less (line_view ('/' ∷ c ∷ cs))

  third_plain : is '/' c ≡ true → is_trivia (line_comment ('/' ∷ c ∷ cs)).said ≡ true
  unfolding ◌>>=◌ while give
  third_plain e = rw (eqb-true c '/' e)

  third_doc : is '/' c ≡ false → is_trivia (line_comment ('/' ∷ c ∷ cs)).said ≡ false
  unfolding ◌>>=◌ while give
  third_doc e = go (is 'newline' c) refl
    where
      go : (s : Bool) → is 'newline' c ≡ s → is_trivia (line_comment ('/' ∷ c ∷ cs)).said ≡ false
      go true n = rw n
      go false n = rw (n, e)

module _ (cs : List ℕ) where
  -- a slash that begins one
  slash_to_line : slash ('/' ∷ cs) ≡ more (line_comment cs)
  unfolding if_at ◌>>=◌ eat
  slash_to_line = rw one_add

  slash_to_block : slash ('*' ∷ cs) ≡ more (block_comment cs)
  unfolding if_at ◌>>=◌ eat
  slash_to_block = rw one_add

  line_more_less : line_comment ('/' ∷ cs) ≡ more (less (line_comment ('/' ∷ cs)))
  unfolding ◌>>=◌ while give
  line_more_less = rw suc_add

module _ (L : Lists) where
  module _ (st p c : ℕ) (cs : List ℕ) where
    pub at_doc_lem : Keeps L st p c cs (at_doc L st p c) (line_rest (c ∷ cs))
    at_doc_lem = cases (is 'newline' c) (λ e. again (line_none c cs e)) (λ e. kept DocLine (line_rest cs) refl (line_more c cs e))

    -- one that is no doc comment is not written
    passed : {g : Got Bool} → g ≡ more (line_rest cs) → Goes L (silent PlainLine st) (p + width c) cs (skip L st p g (c ∷ cs))
    unfolding After
    passed {g} e = record { is_so = put_none (skip L st (p + width c) (line_rest cs) cs) ∙ ap (λ (z : Got Bool). skip L st p z (c ∷ cs)) (sym e) }

    pub at_plain_lem : Goes L (at_plain L st p c) (p + width c) cs (skip L st p (line_rest (c ∷ cs)) (c ∷ cs))
    at_plain_lem = cases_any (is 'newline' c) (λ e. record { is_so = begins L p true c cs ∙ ap (λ (z : Got Bool). skip L st p z (c ∷ cs)) (sym (line_none c cs e)) }) (λ e. passed (line_more c cs e))

    pub at_one_slash : (r : Bool) → Steps L st p (OneSlash r) c cs
    at_one_slash r =
        cases_any (is '/' c) (λ e. rw (eqb-true c '/' e) (held_back L st p r ('/' ∷ []) '/' cs (TwoSlashes r) (line_comment cs) refl (slash_to_line cs)))
        (λ e. cases_any (is '*' c) (λ f. rw (eqb-true c '*' f) (held_back L st p r ('/' ∷ []) '*' cs (SlashStar r) (block_comment cs) refl (slash_to_block cs)))
        (λ f. through (afterwards ('/' ∷ []) (record { is_so = begins L p false c cs })) (ap (λ (z : Got TokenKind). close L st p r ('/' ∷ []) z (c ∷ cs)) (sym (slash_alone c cs e f)))))

    pub at_two_slashes : (r : Bool) → Steps L st p (TwoSlashes r) c cs
    at_two_slashes r =
        cases_any (is '!' c) (λ e. doc_by L st p r ('/' ∷ '/' ∷ []) c cs (line_rest (c ∷ cs)) (line_comment (c ∷ cs)) (kept DocLine (line_rest cs) refl (line_on c cs '!' e refl)) (line_view (c ∷ cs)) (line_doc c cs e))
        (λ e. cases_any (is '/' c) (λ f. rw (eqb-true c '/' f) (held_back L st p r ('/' ∷ '/' ∷ []) '/' cs (ThreeSlashes r) (less (line_comment ('/' ∷ cs))) refl (line_more_less cs)))
        (λ f. plain_by L st p r ('/' ∷ '/' ∷ []) c cs (line_rest (c ∷ cs)) (line_comment (c ∷ cs)) at_plain_lem (line_view (c ∷ cs)) (line_plain c cs e f)))

    pub at_three_slashes : (r : Bool) → Steps L st p (ThreeSlashes r) c cs
    at_three_slashes r =
        cases_any (is '/' c) (λ e. plain_by L st p r ('/' ∷ '/' ∷ '/' ∷ []) c cs (line_rest (c ∷ cs)) (less (line_comment ('/' ∷ c ∷ cs))) (passed (line_on c cs '/' e refl)) (third_view c cs) (third_plain c cs e))
        (λ e. doc_by L st p r ('/' ∷ '/' ∷ '/' ∷ []) c cs (line_rest (c ∷ cs)) (less (line_comment ('/' ∷ c ∷ cs))) at_doc_lem (third_view c cs) (third_doc c cs e))
