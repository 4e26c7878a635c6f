-- A cursor moves over whole characters. `Moved` is shut: its laws stand here, and nothing else uses its fields.
use Rattle.std.specs.Prelude.{ℕ, ◌+◌, ◌≤◌, ◌≡◌, refl, List, [], ◌∷◌, ◌++◌, length}
use Rattle.std.proofs.Common.{sym, ap, subst, ◌∙◌, arith}
use Rattle.text.specs.Chars.{size}
use Rattle.cursor.specs.declared.Cursor.{Cursor}
use Rattle.cursor.specs.Cursors.{rest, Here}

-- no character, or one and then more
pub data Went (s : List ℕ) : Cursor → Cursor → Type 0 where
  none : {c : Cursor} → Went s c c
  more : {c d e : Cursor} {x : ℕ} → Here s c x d → Went s d e → Went s c e

-- the cursor went from c to d, where the characters cs are left
pub record Moved (s : List ℕ) (c d : Cursor) (cs : List ℕ) : Type 0 where
  left : rest s d ≡ cs
  went : Went s c d

joined : {s : List ℕ} {c d e : Cursor} → Went s c d → Went s d e → Went s c e
joined none w = w
joined (more h v) w = more h (joined v w)

-- THE LAWS

-- no move
pub start : (s : List ℕ) (c : Cursor) → Moved s c c (rest s c)
start s c = record { left = refl; went = none }

-- over a character
pub over : {s : List ℕ} {c d : Cursor} {x : ℕ} → Here s c x d → Moved s c d (rest s d)
over h = record { left = refl; went = more h none }

-- what is left
pub left_of : {s : List ℕ} {c d : Cursor} {cs : List ℕ} → Moved s c d cs → rest s d ≡ cs
left_of m = m.left

-- on from where the cursor is
pub onward : {s : List ℕ} {a b d : Cursor} {cs ds : List ℕ} → Moved s a b cs → Moved s b d ds → Moved s a d ds
onward m n = record { left = n.left; went = joined m.went n.went }

pub arrive : {s : List ℕ} {a b : Cursor} {cs ds : List ℕ} → Moved s a b cs → cs ≡ ds → Moved s a b ds
arrive m e = record { left = m.left ∙ e; went = m.went }

-- on by what is left here
pub then : (F : List ℕ → List ℕ) {s : List ℕ} {a b d : Cursor} {cs : List ℕ} → Moved s a b cs → Moved s b d (F (rest s b)) → Moved s a d (F cs)
then F m n = arrive (onward m n) (ap F m.left)

fewer : {s : List ℕ} {c d : Cursor} → Went s c d → length (rest s d) ≤ length (rest s c)
fewer none = omega arith
fewer (more h w) = omega (arith, ap length h.chars, fewer w)

pub no_more : {s : List ℕ} {c d : Cursor} {cs : List ℕ} → Moved s c d cs → length cs ≤ length (rest s c)
no_more m = omega (arith, fewer m.went, ap length m.left)

strictly : {s : List ℕ} {c d e : Cursor} {x : ℕ} → Here s c x d → Went s d e → rest s c ≡ rest s e → ⊥
strictly h w p = omega (arith, ap length h.chars, fewer w, ap length p)

one_next : {s : List ℕ} {c d e : Cursor} {x y : ℕ} → Here s c x d → Here s c y e → e ≡ d
one_next {d = d} {e} {x} {y} h h₂ =
    let q : ◌≡◌ {A = ℕ × Cursor} (y, e) (x, d) = cc in
    ap (λ (p : ℕ × Cursor). p.1) q

same_end : {s : List ℕ} {c d e : Cursor} → Went s c d → Went s c e → rest s d ≡ rest s e → d ≡ e
same_end none none p = refl
same_end none (more h w) p = absurd (strictly h w p)
same_end (more h w) none p = absurd (strictly h w (sym p))
same_end {s} {c} {d} {e} (more {d = d₁} h w) (more {d = d₂} h₂ w₂) p =
    let q : d₂ ≡ d₁ = one_next h h₂ in
    same_end w (subst (λ (z : Cursor). Went s z e) q w₂) p

-- ONE ANSWER: where a move ends, what is left says
pub one_cursor : {s : List ℕ} {c d e : Cursor} {cs : List ℕ} → Moved s c d cs → Moved s c e cs → d ≡ e
one_cursor m n = same_end m.went n.went (m.left ∙ sym n.left)

-- A MOVE IN BYTES: the characters that it passed, and their bytes
pub record Passed (s : List ℕ) (c d : Cursor) (cs : List ℕ) : Type 0 where
  pub text : List ℕ
  pub whole : text ++ cs ≡ rest s c
  pub bytes : d.at ≡ c.at + size text

passing : {s : List ℕ} {c d : Cursor} → Went s c d → Passed s c d (rest s d)
passing none = record { text = []; whole = refl; bytes = omega arith }
passing (more {x = x} h w) =
    let p = passing w in
    record { text = x ∷ p.text; whole = ap (λ (l : List ℕ). x ∷ l) p.whole ∙ sym h.chars; bytes = omega (arith, p.bytes, h.bytes) }

pub passed : {s : List ℕ} {c d : Cursor} {cs : List ℕ} → Moved s c d cs → Passed s c d cs
passed {s} {c} {d} m = subst (λ (l : List ℕ). Passed s c d l) m.left (passing m.went)
