-- Bytes laid one after the other: one law for each way.
use Prim.Native.Nat.{ℕ, ◌+◌, ◌≤◌}
use mathlib.Core.Path.{◌≡◌, refl, sym, ap, subst, ◌∙◌}
use mathlib.Core.Bool.{Bool, true, false}
use mathlib.Core.List.{List, [], ◌∷◌, ◌++◌}
use lib.ListN.{length, take, drop, take-append-drop, length-append}
use native.Mathlib.Omega.{arith}
use Rattle.basics.specs.Choice.{pick}
use Rattle.canon.proofs.Sounds.{false_true}
use Rattle.puts.specs.Put.{Put, laid}
use Rattle.puts.proofs.Puts.{put_then, put_length}
use Rattle.turns.specs.declared.Before.{Before}
use Rattle.turns.specs.declared.Before.TheVariants.{Nothing, Newline, Slash, Slashes, Slashes3, Star, Stars}
use Rattle.turns.specs.declared.Shown.{Shown}
use Rattle.turns.specs.declared.Shown.TheVariants.{Itself, Line, None}
use Rattle.turns.specs.Shown.{before_out}
use Rattle.engine.specs.Laid.{Laid, Room, shown_bytes}
use Rattle.engine.specs.Chars.{part_of, step_bytes, Laying}

-- PUT OR COUNTED
pub room_put : {w : Bool} {o : List ℕ} {n k : ℕ} → Room w o n k → w ≡ true → n + k ≤ length o
room_put r e = r.room e

pub laid_put : {w : Bool} {xs o p : List ℕ} {n r : ℕ} → w ≡ true → Put xs o n p r → Laid w xs o n p r
laid_put {xs = xs} {o = o} {n = n} e h = record { holds = h.holds ∙ rw e; next = h.next; room = λ t. h.room }

pub laid_counted : {w : Bool} {xs o : List ℕ} {n : ℕ} → w ≡ false → Laid w xs o n o (n + length xs)
laid_counted {w} e = record { holds = rw e; next = refl; room = λ t. false_true (sym e ∙ t) }

put_of : {xs o p : List ℕ} {n r : ℕ} → Laid true xs o n p r → Put xs o n p r
put_of l = record { holds = l.holds; next = l.next; room = l.room refl }

long : (w : Bool) {xs o p : List ℕ} {n r : ℕ} → Laid w xs o n p r → length p ≡ length o
long true l = put_length (put_of l)
long false l = ap length l.holds

pub laid_length : {w : Bool} {xs o p : List ℕ} {n r : ℕ} → Laid w xs o n p r → length p ≡ length o
laid_length {w} l = long w l

-- nothing
pub laid_none : (w : Bool) (o : List ℕ) (n : ℕ) → (w ≡ true → n ≤ length o) → Laid w [] o n o n
unfolding laid
laid_none w o n h =
    let z : n + 0 ≡ n = omega arith in
    let e : o ≡ take n o ++ drop (n + 0) o = sym (ap (λ (k : ℕ). take n o ++ drop k o) z ∙ take-append-drop n o) in
    record { holds = go w e; next = omega arith; room = h }
  where
    go : (b : Bool) → o ≡ take n o ++ drop (n + 0) o → o ≡ pick b (take n o ++ drop (n + 0) o) o
    go true e = e
    go false e = refl

-- one after the other
both : (w : Bool) {xs ys o p q : List ℕ} {n k r : ℕ} → Laid w xs o n p k → Laid w ys p k q r → Laid w (xs ++ ys) o n q r
both true x y = laid_put refl (put_then (put_of x) (put_of y))
both false {xs} {ys} x y = record { holds = y.holds ∙ x.holds; next = omega (arith, y.next, x.next, length-append xs ys); room = λ t. false_true t }

pub laid_then : {w : Bool} {xs ys o p q : List ℕ} {n k r : ℕ} → Laid w xs o n p k → Laid w ys p k q r → Laid w (xs ++ ys) o n q r
laid_then {w} x y = both w x y

-- room for a part, and for what comes after it
pub room_first : {w : Bool} {o : List ℕ} {n : ℕ} (xs ys : List ℕ) → Room w o n (length (xs ++ ys)) → Room w o n (length xs)
room_first xs ys r = record { fits = omega (arith, r.fits, length-append xs ys); room = λ t. omega (arith, r.room t, length-append xs ys) }

pub room_second : {w : Bool} {o p : List ℕ} {n k : ℕ} (xs ys : List ℕ) → Room w o n (length (xs ++ ys)) → Laid w xs o n p k → Room w p k (length ys)
room_second xs ys r l =
    record { fits = omega (arith, r.fits, length-append xs ys, l.next); room = λ t. omega (arith, r.room t, length-append xs ys, l.next, laid_length l) }

-- WHAT WAS HELD BACK
pub before_few : (b : Before) → length (before_out b) ≤ 3
before_few Nothing = omega arith
before_few Newline = omega arith
before_few Slash = omega arith
before_few Slashes = omega arith
before_few Slashes3 = omega arith
before_few Star = omega arith
before_few Stars = omega arith

module _ {w : Bool} {b : Before} {o : List ℕ} {n : ℕ} where
  as_room : {d : Before} → b ≡ d → Room w o n (length (before_out b)) → Room w o n (length (before_out d))
  as_room e r = subst (λ (x : Before). Room w o n (length (before_out x))) e r

  as_laid : {d : Before} {p : List ℕ} {r : ℕ} → b ≡ d → Laid w (before_out d) o n p r → Laid w (before_out b) o n p r
  as_laid {p = p} {r = r} e l = subst (λ (x : Before). Laid w (before_out x) o n p r) (sym e) l

  pub none_laid : b ≡ Nothing → Room w o n (length (before_out b)) → Laid w (before_out b) o n o n
  none_laid e r = as_laid e (laid_none w o n (λ t. omega (arith, r.room t)))

  pub newline_room : b ≡ Newline → Room w o n (length (before_out b)) → Room w o n (length {A = ℕ} (10 ∷ []))
  newline_room e r = as_room e r

  pub newline_laid : {p : List ℕ} {r : ℕ} → b ≡ Newline → Laid w (10 ∷ []) o n p r → Laid w (before_out b) o n p r
  newline_laid e l = as_laid e l

  pub slash_room : b ≡ Slash → Room w o n (length (before_out b)) → Room w o n (length {A = ℕ} (47 ∷ []))
  slash_room e r = as_room e r

  pub slash_laid : {p : List ℕ} {r : ℕ} → b ≡ Slash → Laid w (47 ∷ []) o n p r → Laid w (before_out b) o n p r
  slash_laid e l = as_laid e l

  pub slashes_room : b ≡ Slashes → Room w o n (length (before_out b)) → Room w o n (length {A = ℕ} (47 ∷ 47 ∷ []))
  slashes_room e r = as_room e r

  pub slashes_laid : {p : List ℕ} {r : ℕ} → b ≡ Slashes → Laid w (47 ∷ 47 ∷ []) o n p r → Laid w (before_out b) o n p r
  slashes_laid e l = as_laid e l

  pub slashes3_room : b ≡ Slashes3 → Room w o n (length (before_out b)) → Room w o n (length {A = ℕ} (47 ∷ 47 ∷ 47 ∷ []))
  slashes3_room e r = as_room e r

  pub slashes3_laid : {p : List ℕ} {r : ℕ} → b ≡ Slashes3 → Laid w (47 ∷ 47 ∷ 47 ∷ []) o n p r → Laid w (before_out b) o n p r
  slashes3_laid e l = as_laid e l

  pub star_room : b ≡ Star → Room w o n (length (before_out b)) → Room w o n (length {A = ℕ} (47 ∷ 42 ∷ []))
  star_room e r = as_room e r

  pub star_laid : {p : List ℕ} {r : ℕ} → b ≡ Star → Laid w (47 ∷ 42 ∷ []) o n p r → Laid w (before_out b) o n p r
  star_laid e l = as_laid e l

  pub stars_room : b ≡ Stars → Room w o n (length (before_out b)) → Room w o n (length {A = ℕ} (47 ∷ 42 ∷ 42 ∷ []))
  stars_room e r = as_room e r

  pub stars_laid : {p : List ℕ} {r : ℕ} → b ≡ Stars → Laid w (47 ∷ 42 ∷ 42 ∷ []) o n p r → Laid w (before_out b) o n p r
  stars_laid e l = as_laid e l

pub laid_length_2 : {w : Bool} {xs ys o p q : List ℕ} {n k r : ℕ} → Laid w xs o n p k → Laid w ys p k q r → length q ≡ length o
laid_length_2 l m = laid_length m ∙ laid_length l

-- A STEP
module _ {w : Bool} {b : Before} {s : Shown} {text o : List ℕ} {i next n : ℕ} (y : Laying w b s text i next o n) where
  pub held_room : Room w o n (length (before_out b))
  held_room = room_first (before_out b) (shown_bytes (part_of text i next) s) y.room

  then_room : {p : List ℕ} {k : ℕ} {d : Shown} → s ≡ d → Laid w (before_out b) o n p k → Room w p k (length (shown_bytes (part_of text i next) d))
  then_room {p} {k} e l = subst (λ (x : Shown). Room w p k (length (shown_bytes (part_of text i next) x))) e (room_second (before_out b) (shown_bytes (part_of text i next) s) y.room l)

  then_laid : {p q : List ℕ} {k r : ℕ} {d : Shown} → s ≡ d → Laid w (before_out b) o n p k → Laid w (shown_bytes (part_of text i next) d) p k q r → Laid w (step_bytes b s text i next) o n q r
  then_laid {q = q} {r = r} e l m = subst (λ (x : Shown). Laid w (step_bytes b x text i next) o n q r) (sym e) (laid_then l m)

  pub itself_room : {p : List ℕ} {k : ℕ} → s ≡ Itself → Laid w (before_out b) o n p k → Room w p k (length (part_of text i next))
  itself_room e l = then_room e l

  pub itself_laid : {p q : List ℕ} {k r : ℕ} → s ≡ Itself → Laid w (before_out b) o n p k → Laid w (part_of text i next) p k q r → Laid w (step_bytes b s text i next) o n q r
  itself_laid e l m = then_laid e l m

  pub line_room : {p : List ℕ} {k : ℕ} → s ≡ Line → Laid w (before_out b) o n p k → Room w p k (length {A = ℕ} (10 ∷ []))
  line_room e l = then_room e l

  pub line_laid : {p q : List ℕ} {k r : ℕ} → s ≡ Line → Laid w (before_out b) o n p k → Laid w (10 ∷ []) p k q r → Laid w (step_bytes b s text i next) o n q r
  line_laid e l m = then_laid e l m

  pub shown_none : {p : List ℕ} {k : ℕ} → s ≡ None → Laid w (before_out b) o n p k → Laid w (step_bytes b s text i next) o n p k
  shown_none {p} {k} e l = then_laid e l (laid_none w p k (λ t. omega (arith, l.room t, laid_length l)))
