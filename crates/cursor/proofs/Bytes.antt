-- Moves in bytes: what a run of characters of one kind took, and one character.
use Prim.Native.Nat.{ℕ, ◌+◌, ◌-◌, ◌≤◌, ◌<◌}
use mathlib.Core.Path.{◌≡◌, refl, sym, ap, ◌∙◌}
use mathlib.Core.Bool.{Bool, true, false}
use mathlib.Core.List.{List, [], ◌∷◌}
use lib.ListN.{length, get_or, take, drop, length-drop}
use native.Mathlib.Omega.{arith}
use Rattle.basics.specs.Choice.{pick}
use Rattle.text.specs.Chars.{width, size}
use Rattle.text.proofs.Texts.{size_chars, width_some}
use Rattle.eaters.specs.Eat.{take_while, while, eat}
use Rattle.eaters.proofs.Fits.{fits_while}
use Rattle.cursor.specs.declared.Cursor.{Cursor}
use Rattle.std.specs.Prelude.{Option, Some}
use Rattle.cursor.specs.Cursors.{rest, rest_is, Seen}
use Rattle.cursor.specs.Moved.{Moved, passed}
use Rattle.token.specs.declared.TokenKind.TheVariants as kind
use Rattle.token.proofs.Cover.{size_append}
use Rattle.cursor.specs.declared.Kinded.{Kinded}
use Rattle.cursor.specs.declared.Kinded.TheVariants.{Plain, Literal}
use Rattle.cursor.specs.Ran.{left, kind_from, Past}
use Rattle.cursor.proofs.Moves.{char_at, bumped}
use Rattle.cursor.proofs.Runs.{ran_bytes, ran_eat}
use Rattle.cursor.proofs.Loops.{ran_while}

take_while_lem : (p : ℕ → Bool) (cs : List ℕ) → take (length (take_while p cs)) cs ≡ take_while p cs
take_while_lem p [] = refl
take_while_lem p (c ∷ cs) = go (p c) (take_while_lem p cs)
  where
    go : (t : Bool) → take (length (take_while p cs)) cs ≡ take_while p cs → take (length (pick t (c ∷ take_while p cs) [])) (c ∷ cs) ≡ pick t (c ∷ take_while p cs) []
    go true e = ap (λ (l : List ℕ). c ∷ l) e
    go false e = refl

pub while_bytes : (p : ℕ → Bool) {s : List ℕ} {a b : Cursor} → Moved s a b (left (while p) (rest s a)) → b.at ≡ a.at + size (take_while p (rest s a))
unfolding while
while_bytes p {s} {a} m = ran_bytes (while p) (ran_while p m) ((fits_while p).fits (rest s a) (omega arith)) ∙ ap (λ (l : List ℕ). a.at + size l) (take_while_lem p (rest s a))

-- past a character that is not 0
pub bump_bytes : {s : List ℕ} {b d : Cursor} {x : ℕ} → x ≡ get_or (rest s b) 0 0 → 0 < x → Moved s b d (drop 1 (rest s b)) → d.at ≡ b.at + width x
unfolding eat
bump_bytes {s} {b} {d} {x} e h m =
    let f : rest s b ≡ x ∷ rest s d = bumped e h m in
    let n : 1 ≤ length (rest s b) = omega (arith, ap length f) in
    let t : take 1 (rest s b) ≡ x ∷ [] = ap (take 1) f in
    ran_bytes (eat 1) (ran_eat m) n ∙ ap (λ (l : List ℕ). b.at + size l) t ∙ omega arith

-- a character ends within the text, and a move that starts there ends there
pub char_within : {s : List ℕ} {a d : Cursor} {r : Option (ℕ × Cursor)} {c : ℕ} → r ≡ Some (c, d) → Seen s a r → d.at ≤ length s
char_within {s} {a} {c = c} e h =
    omega (arith, ap size (sym (rest_is s a) ∙ (char_at e h).chars), (char_at e h).bytes, width_some c, size_chars (drop a.at s), length-drop a.at s)

pub moved_within : {s cs : List ℕ} {a b : Cursor} → Moved s a b cs → b.at ≤ a.at + (length s - a.at)
moved_within {s} {cs} {a} m =
    let p = passed m in
    omega (arith, p.bytes, size_append p.text cs, ap size (p.whole ∙ rest_is s a), size_chars (drop a.at s), length-drop a.at s)

-- the kind of a token, some bytes further on
pub shifted : (k : Kinded) (n w : ℕ) (a b c : Cursor) → Past b c k → b.at ≡ a.at + w → kind_from n a k ≡ kind_from (n + w) b k
shifted (Plain k) n w a b c p e = refl
shifted (Literal k d) n w a b c p e = ap (kind.Literal k) (omega (arith, p.from))

-- a suffix that does not start before b does not start before a, whence the cursor came
pub past_moved : (k : Kinded) (c : Cursor) {s cs : List ℕ} {a b : Cursor} → Past b c k → Moved s a b cs → Past a c k
past_moved (Plain k) c p m = tt
past_moved (Literal k d) c {a = a} {b} p m = record { from = omega (arith, p.from, (passed m).bytes); to = p.to }
