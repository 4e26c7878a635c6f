-- Frontmatter, from the runs of its scans, in the facts of the code.
use Prim.Native.Nat.{ℕ, zero, suc, ◌+◌, ◌*◌, ◌^◌, ◌<◌}
use mathlib.Core.Path.{◌≡◌, refl, sym, ap, subst, ◌∙◌}
use mathlib.Core.Bool.{Bool, true, false, not}
use mathlib.Core.List.{List, [], ◌∷◌}
use mir.Val.{Fits}
use mir.Syntax.{w64}
use lib.Dec.{leb, eqb}
use lib.ListN.{length, get_or, drop}
use lib.Seq.{drop-drop}
use native.Mathlib.Omega.{arith}
use borrow.Author.Tests.{eqb-true, leb-true}
use Rattle.basics.proofs.Choices.{and_1, and_2}
use Rattle.classes.specs.Whitespace.{is_horizontal_whitespace}
use Rattle.eaters.specs.Eat.{Eater, give, nothing, take_while, while, ◌>>◌}
use Rattle.eaters.specs.Find.{Place, at, nowhere, further}
use Rattle.eaters.specs.Look.{begins, if_at}
use Rattle.eaters.proofs.Fits.{fits_while}
use Rattle.eaters.proofs.Firsts.{find_first}
use Rattle.token.specs.declared.TokenKind.{TokenKind}
use Rattle.token.specs.declared.TokenKind.TheVariants as kind
use Rattle.token.specs.Names.{is, 'newline', '-'}
use Rattle.token.specs.Lists.{Lists, starting}
use Rattle.token.specs.Comments.{in_line}
use Rattle.token.specs.Frontmatter.{dashes, line_rest, recovery, line_at, closed, body, in_infostring, infostring, frontmatter}
use Rattle.cursor.specs.declared.Cursor.{Cursor}
use Rattle.cursor.specs.declared.Repeated.{Repeated}
use Rattle.cursor.specs.Counted.{Counted}
use Rattle.std.specs.Prelude.{Option, None, Some}
use Rattle.cursor.specs.Cursors.{rest}
use Rattle.cursor.specs.Moved.{Moved, arrive, then}
use Rattle.cursor.specs.Ran.{left, Ran}
use Rattle.cursor.proofs.Steps.{rest_short}
use Rattle.cursor.proofs.Runs.{ran_give, ran_bind, ran_then, ran_yes, ran_no, ran_take}
use Rattle.cursor.proofs.Loops.{ran_while}
use Rattle.frontmatter.specs.Searches.{SoughtAt, there, gone}
use Rattle.frontmatter.proofs.Fences.{fence}

-- PAST EVERYTHING
all_eaten : (cs : List ℕ) → left (while (λ (c : ℕ). true)) cs ≡ []
unfolding while
all_eaten [] = refl
all_eaten (c ∷ cs) = all_eaten cs

pub all_over : {s : List ℕ} {a b : Cursor} → Moved s a b (left (while (λ (c : ℕ). true)) (rest s a)) → Moved s a b []
all_over {s} {a} m = arrive m (all_eaten (rest s a))

drop_all : (cs : List ℕ) → [] ≡ drop (length cs) cs
drop_all [] = refl
drop_all (c ∷ cs) = drop_all cs

-- TO A PLACE AND PAST THE REST OF ITS LINE
line_past : (k : ℕ) {s : List ℕ} {a c d : Cursor} → Moved s a c (drop k (rest s a)) → Moved s c d (left (while in_line) (rest s c)) → Moved s a d (drop (line_at (at k) (rest s a)) (rest s a))
unfolding while
line_past k {s} {a} m n = arrive (then (left (while in_line)) m n) (drop-drop (line_rest (drop k (rest s a))) k (rest s a))

module _ {s : List ℕ} {a : Cursor} {p : Place} {r : Option Cursor} (k : SoughtAt s a p r) where
  pub line_at_lem : {c d : Cursor} → r ≡ Some c → Moved s c d (left (while in_line) (rest s c)) → Moved s a d (drop (line_at p (rest s a)) (rest s a))
  line_at_lem {c} {d} e n = go (subst (SoughtAt s a p) e k)
    where
      go : {p : Place} → SoughtAt s a p (Some c) → Moved s a d (drop (line_at p (rest s a)) (rest s a))
      go (there {k = k} m) = line_past k m n

  pub line_none : {d : Cursor} → r ≡ None → Moved s a d [] → Moved s a d (drop (line_at p (rest s a)) (rest s a))
  line_none {d} e n = go (subst (SoughtAt s a p) e k)
    where
      go : {p : Place} → SoughtAt s a p None → Moved s a d (drop (line_at p (rest s a)) (rest s a))
      go gone = arrive n (drop_all (rest s a))

-- THE BODY: dashes at the front belong to their line
dashes_line : (n : ℕ) (cs : List ℕ) → begins (dashes n) cs ≡ true → line_rest cs ≡ n + line_rest (drop n cs)
dashes_line zero cs e = omega arith
dashes_line (suc n) [] e = let z : ◌≡◌ {A = ℕ} 0 1 = cc in absurd (omega arith)
dashes_line (suc n) (c ∷ cs) e =
    let q : c ≡ 0x2D = eqb-true c 0x2D (and_1 (eqb c 0x2D) _ e) in
    let h : line_rest cs ≡ n + line_rest (drop n cs) = dashes_line n cs (and_2 (eqb c 0x2D) _ e) in
    let w : line_rest (c ∷ cs) ≡ suc (line_rest cs) = rw q in
    omega arith

begins_next : (x : ℕ) (l cs : List ℕ) → begins (x ∷ l) cs ≡ true → begins l (drop 1 cs) ≡ true
begins_next x l [] e = let z : ◌≡◌ {A = ℕ} 0 1 = cc in absurd (omega arith)
begins_next x l (c ∷ cs) e = and_2 (eqb c x) _ e

-- so the end of the line is the same from past the newline and from past the fence
same_line : (n k : ℕ) (cs : List ℕ) → fence n cs ≡ at k → line_at (at (suc k)) cs ≡ closed n (at k) cs
same_line n k cs e =
    let b = begins_next 'newline' (dashes n) (drop k cs) (find_first (begins ('newline' ∷ dashes n)) cs e).holds in
    let u : k + 1 ≡ suc k = omega arith in
    let y : drop 1 (drop k cs) ≡ drop (suc k) cs = drop-drop 1 k cs ∙ ap (λ (j : ℕ). drop j cs) u in
    let v : suc k + n ≡ k + suc n = omega arith in
    let z : drop n (drop (suc k) cs) ≡ drop (k + suc n) cs = drop-drop n (suc k) cs ∙ ap (λ (j : ℕ). drop j cs) v in
    omega (arith, dashes_line n (drop (suc k) cs) (ap (begins (dashes n)) (sym y) ∙ b), ap line_rest z)

never_at : {s : List ℕ} {a c : Cursor} {p : Place} → SoughtAt s a p (Some c) → p ≡ nowhere → ⊥
never_at (there m) e = let z : ◌≡◌ {A = ℕ} 0 1 = cc in omega arith

never_gone : {s : List ℕ} {a : Cursor} {p : Place} {k : ℕ} → SoughtAt s a p None → p ≡ at k → ⊥
never_gone gone e = let z : ◌≡◌ {A = ℕ} 0 1 = cc in omega arith

module _ (n : ℕ) {s : List ℕ} {a d : Cursor} {r : Option Cursor} (k : SoughtAt s a (further (fence n (rest s a))) r) where
  pub body_closed : {c : Cursor} → r ≡ Some c → Moved s c d (left (while in_line) (rest s c)) → Ran (body n) s a d tt
  unfolding body
  body_closed {c} e m = record { moved = arrive (line_at_lem k e m) (ap (λ (j : ℕ). drop j (rest s a)) (go (fence n (rest s a)) refl (subst (SoughtAt s a _) e k))); said = refl }
    where
      go : (p : Place) → fence n (rest s a) ≡ p → SoughtAt s a (further p) (Some c) → line_at (further p) (rest s a) ≡ closed n p (rest s a)
      go (at j) f h = same_line n j (rest s a) f
      go nowhere f h = absurd (never_at h refl)

  pub body_open : r ≡ None → Moved s a d (drop (line_at (recovery (rest s a)) (rest s a)) (rest s a)) → Ran (body n) s a d tt
  unfolding body
  body_open e m = record { moved = arrive m (ap (λ (j : ℕ). drop j (rest s a)) (go (fence n (rest s a)) (subst (SoughtAt s a _) e k))); said = refl }
    where
      go : (p : Place) → SoughtAt s a (further p) None → line_at (recovery (rest s a)) (rest s a) ≡ closed n p (rest s a)
      go (at j) h = absurd (never_gone h refl)
      go nowhere h = refl

-- THE INFOSTRING
module _ (L : Lists) {s : List ℕ} {a : Cursor} {c : ℕ} {t : Bool} (e : c ≡ get_or (rest s a) 0 0) (f : t ≡ starting L c) where
  pub string_in : {b d : Cursor} → t ≡ true → Moved s a b (drop 1 (rest s a)) → Moved s b d (left (while (in_infostring L)) (rest s b)) → Ran (infostring L) s a d tt
  string_in {b} {d} h m k =
      ran_take (while (in_infostring L) >> nothing) nothing (starting L) e (sym f ∙ h) m (ran_then (ran_while (in_infostring L) k) (ran_give tt s d))

  pub string_none : t ≡ false → Ran (infostring L) s a a tt
  string_none h = ran_no _ nothing (starting L) e (sym f ∙ h) (ran_give tt s a)

-- THE RULE
abbrev told : Bool → ℕ → Bool → Eater TokenKind
told v n w = body n >> give (kind.Frontmatter v w)

abbrev ended : Bool → ℕ → Eater TokenKind
ended v n = if_at (is 'newline') (told v n false) (told v n true)

abbrev opened : Lists → Bool → List ℕ → Eater TokenKind
opened L v more = while is_horizontal_whitespace >> (infostring L >> (while is_horizontal_whitespace >> ended v (suc (length more))))

module _ {s : List ℕ} {a : Cursor} {h : Repeated} (g : Counted '-' s a h) where
  -- their number is in range, with the first dash or without it
  pub more_fits : (j : ℕ) → length s * 1 < 2 ^ 63 → leb j 1 ≡ true → Fits w64 (h.count + j)
  unfolding while
  more_fits j z e = record { fits = omega (arith, g.count, leb-true j 1 e, (fits_while (is '-')).fits (rest s a) (omega arith), rest_short s a) }

  module _ (L : Lists) (v : Bool) {b c d e : Cursor} {x : ℕ} (m : Moved s h.next b (left (while is_horizontal_whitespace) (rest s h.next))) (r : Ran (infostring L) s b c tt)
      (k : Moved s c d (left (while is_horizontal_whitespace) (rest s c))) (f : x ≡ get_or (rest s d) 0 0) (q : Ran (body (h.count + 1)) s d e tt) where
    closing : (w : Bool) → Ran (told v (suc (length (take_while (is '-') (rest s a)))) w) s d e (kind.Frontmatter v w)
    closing w =
        let z : h.count + 1 ≡ suc (length (take_while (is '-') (rest s a))) = omega (arith, g.count) in
        ran_then (subst (λ (j : ℕ). Ran (body j) s d e tt) z q) (ran_give (kind.Frontmatter v w) s e)

    whole : {y : TokenKind} → Ran (ended v (suc (length (take_while (is '-') (rest s a))))) s d e y → Ran (frontmatter L v) s a e y
    whole u =
        ran_bind (opened L v) (ran_while (is '-') g.moved)
        (ran_then (ran_while is_horizontal_whitespace m) (ran_then r (ran_then (ran_while is_horizontal_whitespace k) u)))

    pub frontmatter_in : Ran (frontmatter L v) s a e (kind.Frontmatter v (not (eqb x 0x0A)))
    frontmatter_in = whole (go (eqb x 0x0A) refl)
      where
        go : (t : Bool) → eqb x 0x0A ≡ t → Ran (ended v (suc (length (take_while (is '-') (rest s a))))) s d e (kind.Frontmatter v (not t))
        go true o = ran_yes _ _ (is 'newline') f o (closing false)
        go false o = ran_no _ _ (is 'newline') f o (closing true)
