-- Block comments: modes SlashStar, SlashStars, Block.
use Prim.Native.Nat.{ℕ, zero, suc, ◌+◌, pred}
use mathlib.Core.Path.{◌≡◌, refl, sym, ap, ◌∙◌}
use mathlib.Core.List.{List, [], ◌∷◌}
use mathlib.Core.Bool.{Bool, true, false, not}
use lib.ListN.{get_or, take}
use borrow.Author.Tests.{eqb-true}
use native.Mathlib.Nat.{add-zero}
use Rattle.basics.specs.Choice.{pick, or}
use Rattle.basics.proofs.Choices.{by_pick}
use Rattle.text.specs.Chars.{width}
use Rattle.eaters.specs.Eat.{Got, give, ◌>>=◌, texted}
use Rattle.eaters.specs.Scan.{taking, turned, scan}
use Rattle.token.specs.Names.{is, '!', '*', '/'}
use Rattle.token.specs.Lists.{Lists}
use Rattle.token.specs.Comments.{block_comment, block_turn, block_doc}
use Rattle.token.specs.Trivia.{is_plain, is_trivia}
use Rattle.machine.specs.declared.Mode.{Mode}
use Rattle.machine.specs.declared.Mode.TheVariants.{Start, SlashStar, SlashStars, Block}
use Rattle.machine.specs.declared.Last.{Last}
use Rattle.machine.specs.declared.Last.TheVariants.{PlainChar, ASlash, AStar}
use Rattle.machine.specs.Machine.{put, last_of, doc_out, in_block, at_block}
use Rattle.machine.proofs.Eating.{not_not, more, less, more_less, here, done}
use Rattle.machine.proofs.ByTokens.{put_none, judged, key_from, skip, keep_more}
use Rattle.machine.proofs.ToCome.{block_rest, comment_rest}
use Rattle.machine.proofs.Goes.{After, Goes, Steps, Keeps, cases_any, doc_by, plain_by, held_back}

-- one character of the scan: a slash or star may be the first of a pair
enter : (d c : ℕ) (cs : List ℕ) → scan block_turn 0 (suc d) (c ∷ cs) ≡ more (block_rest d (last_of c) cs)
unfolding scan
enter d c cs = go (is '/' c) refl (is '*' c) refl
  where
    taken_one : (s : Bool) (x y : ℕ) → ◌≡◌ {A = Got Bool} (turned (pick s (taking 1 x) (taking 0 y)) (λ k e. scan block_turn k e cs)) (more (less (turned (pick s (taking 1 x) (taking 0 y)) (λ k e. scan block_turn k e cs))))
    taken_one true x y = refl
    taken_one false x y = refl

    go : (s : Bool) → is '/' c ≡ s → (t : Bool) → is '*' c ≡ t → scan block_turn 0 (suc d) (c ∷ cs) ≡ more (block_rest d (pick s ASlash (pick t AStar PlainChar)) cs)
    go true e t f = rw (eqb-true c '/' e) (taken_one (is '*' (get_or cs 0 0)) (suc (suc d)) (suc d))
    go false e true f = rw (eqb-true c '*' f) (taken_one (is '/' (get_or cs 0 0)) d (suc d))
    go false e false f = rw (e, f)

-- a slash or star that was no first of a pair
slash_on : (d c : ℕ) (cs : List ℕ) → is '*' c ≡ false → block_rest d ASlash (c ∷ cs) ≡ scan block_turn 0 (suc d) (c ∷ cs)
unfolding scan
slash_on d c cs e = ap (λ (b : Bool). less (turned (pick b (taking 1 (suc (suc d))) (taking 0 (suc d))) (λ k x. scan block_turn k x (c ∷ cs)))) e

star_on : (d c : ℕ) (cs : List ℕ) → is '/' c ≡ false → block_rest d AStar (c ∷ cs) ≡ scan block_turn 0 (suc d) (c ∷ cs)
unfolding scan
star_on d c cs e = ap (λ (b : Bool). less (turned (pick b (taking 1 d) (taking 0 (suc d))) (λ k x. scan block_turn k x (c ∷ cs)))) e

-- the rule of block comments: it ends well where the scan does, and its first characters say whether it is a doc comment
block_view : (ds : List ℕ) → judged (block_comment ds) ≡ scan block_turn 0 1 ds
unfolding ◌>>=◌ texted give
block_view ds = rw (add-zero (scan block_turn 0 1 ds).took, not_not (scan block_turn 0 1 ds).said)

block_trivia : (ds : List ℕ) → is_trivia (block_comment ds).said ≡ is_plain (block_doc (take (scan block_turn 0 1 ds).took ds))
unfolding ◌>>=◌ texted give
block_trivia ds = refl

module _ (c : ℕ) (cs : List ℕ) where
  -- after /*
  first_doc : is '!' c ≡ true → is_trivia (block_comment (c ∷ cs)).said ≡ false
  first_doc e = block_trivia (c ∷ cs) ∙ rw (enter 0 c cs, e)

  first_plain : is '!' c ≡ false → is '*' c ≡ false → is_trivia (block_comment (c ∷ cs)).said ≡ true
  first_plain e f = block_trivia (c ∷ cs) ∙ rw (enter 0 c cs, e, f)

  -- after /**
  two : (scan block_turn 0 1 ('*' ∷ c ∷ cs)).took ≡ suc (suc (pred (pred (scan block_turn 0 1 ('*' ∷ c ∷ cs)).took)))
  unfolding scan
  two = go (is '/' c) refl
    where
      go : (s : Bool) → is '/' c ≡ s → (scan block_turn 0 1 ('*' ∷ c ∷ cs)).took ≡ suc (suc (pred (pred (scan block_turn 0 1 ('*' ∷ c ∷ cs)).took)))
      go true e = rw (eqb-true c '/' e)
      go false e = rw (e, enter 0 c cs)

  second_trivia : (s : Bool) → or (is '*' c) (is '/' c) ≡ s → is_trivia (block_comment ('*' ∷ c ∷ cs)).said ≡ s
  second_trivia true e = block_trivia ('*' ∷ c ∷ cs) ∙ rw (two, e)
  second_trivia false e = block_trivia ('*' ∷ c ∷ cs) ∙ rw (two, e)

module _ (cs : List ℕ) where
  star_more : block_comment ('*' ∷ cs) ≡ more (less (block_comment ('*' ∷ cs)))
  star_more = more_less (block_comment ('*' ∷ cs)) (pred (scan block_turn 0 1 ('*' ∷ cs)).took) (ap (λ (g : Got Bool). g.took) (block_view ('*' ∷ cs)) ∙ ap (λ (g : Got Bool). g.took) (enter 0 '*' cs))

module _ (L : Lists) where
  module _ (doc : Bool) (st p c : ℕ) (cs : List ℕ) where
    -- one character of a comment
    rest_more : (k : Got Bool) → put (doc_out doc c) (comment_rest L doc st (p + width c) k cs) ≡ comment_rest L doc st p (more k) (c ∷ cs)
    rest_more k = go doc
      where
        go : (x : Bool) → put (doc_out x c) (comment_rest L x st (p + width c) k cs) ≡ comment_rest L x st p (more k) (c ∷ cs)
        go true = keep_more L st p c k cs
        go false = put_none (skip L st (p + width c) k cs)

    -- c is written or not, by `doc`, and m is the mode after it; g was left of the comment before
    abbrev To : Mode → (left : Got Bool) → Type 0
    To m g = Goes L (record { out = doc_out doc c; mode = m; from = st }) (p + width c) cs (comment_rest L doc st p g (c ∷ cs))

    stays : (d : ℕ) (l : Last) {g : Got Bool} → g ≡ more (block_rest d l cs) → To (Block doc d l) g
    unfolding After
    stays d l e = record { is_so = rest_more (block_rest d l cs) ∙ ap (λ (z : Got Bool). comment_rest L doc st p z (c ∷ cs)) (sym e) }

    leaves : {g : Got Bool} → g ≡ more here → To (Start (not doc)) g
    unfolding After
    leaves e = record { is_so = go doc ∙ ap (λ (z : Got Bool). comment_rest L doc st p z (c ∷ cs)) (sym e) }
      where
        go : (x : Bool) → put (doc_out x c) (key_from L 0 (p + width c) (not x) cs) ≡ comment_rest L x st p (more here) (c ∷ cs)
        go true = refl
        go false = put_none (key_from L 0 (p + width c) true cs)

    pub at_block_lem : (d : ℕ) (l : Last) → To (in_block doc d l c) (block_rest d l (c ∷ cs))
    unfolding scan
    at_block_lem d PlainChar = stays d (last_of c) (enter d c cs)
    at_block_lem d ASlash = by_pick (λ (m : Mode). To m (block_rest d ASlash (c ∷ cs))) (is '*' c) _ _ (λ e. stays (suc d) PlainChar (rw (eqb-true c '*' e))) (λ e. stays d (last_of c) (slash_on d c cs e ∙ enter d c cs))
    at_block_lem zero AStar = by_pick (λ (m : Mode). To m (block_rest 0 AStar (c ∷ cs))) (is '/' c) _ _ (λ e. leaves (rw (eqb-true c '/' e) (ap more (done block_turn cs)))) (λ e. stays 0 (last_of c) (star_on 0 c cs e ∙ enter 0 c cs))
    at_block_lem (suc d) AStar = by_pick (λ (m : Mode). To m (block_rest (suc d) AStar (c ∷ cs))) (is '/' c) _ _ (λ e. stays d PlainChar (rw (eqb-true c '/' e))) (λ e. stays (suc d) (last_of c) (star_on (suc d) c cs e ∙ enter (suc d) c cs))

  module _ (st p c : ℕ) (cs : List ℕ) where
    doc_block : (d : ℕ) (l : Last) → Keeps L st p c cs (at_block true d l st c) (block_rest d l (c ∷ cs))
    doc_block d l = record { is_so = (at_block_lem true st p c cs d l).is_so }

    pub at_slash_star : (r : Bool) → Steps L st p (SlashStar r) c cs
    at_slash_star r =
        cases_any (is '!' c) (λ e. doc_by L st p r ('/' ∷ '*' ∷ []) c cs (block_rest 0 PlainChar (c ∷ cs)) (block_comment (c ∷ cs)) (doc_block 0 PlainChar) (block_view (c ∷ cs)) (first_doc c cs e))
        (λ e. cases_any (is '*' c) (λ f. rw (eqb-true c '*' f) (held_back L st p r ('/' ∷ '*' ∷ []) '*' cs (SlashStars r) (less (block_comment ('*' ∷ cs))) refl (star_more cs)))
        (λ f. plain_by L st p r ('/' ∷ '*' ∷ []) c cs (block_rest 0 PlainChar (c ∷ cs)) (block_comment (c ∷ cs)) (at_block_lem false st p c cs 0 PlainChar) (block_view (c ∷ cs)) (first_plain c cs e f)))

    pub at_slash_stars : (r : Bool) → Steps L st p (SlashStars r) c cs
    at_slash_stars r =
        cases_any (or (is '*' c) (is '/' c)) (λ e. plain_by L st p r ('/' ∷ '*' ∷ '*' ∷ []) c cs (block_rest 0 AStar (c ∷ cs)) (less (block_comment ('*' ∷ c ∷ cs))) (at_block_lem false st p c cs 0 AStar) (ap less (block_view ('*' ∷ c ∷ cs))) (second_trivia c cs true e))
        (λ e. doc_by L st p r ('/' ∷ '*' ∷ '*' ∷ []) c cs (block_rest 0 AStar (c ∷ cs)) (less (block_comment ('*' ∷ c ∷ cs))) (doc_block 0 AStar) (ap less (block_view ('*' ∷ c ∷ cs))) (second_trivia c cs false e))
