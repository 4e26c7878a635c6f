-- How one step of the machine is shown to keep what is still to come, and the ways in which a step ends:
-- the character is written and the token goes on (`kept`), or ends (`closes`), or it is broken (`lost`); the start of a comment is held back (`held_back`).
use Prim.Native.Nat.{ℕ, ◌+◌}
use mathlib.Core.Path.{◌≡◌, refl, sym, ap, ◌∙◌}
use mathlib.Core.List.{List, [], ◌∷◌, ◌++◌, append_assoc}
use mathlib.Core.Bool.{Bool, true, false}
use lib.ListN.{take}
use Rattle.basics.specs.Choice.{pick}
use Rattle.basics.proofs.Choices.{by_pick}
use Rattle.text.specs.Chars.{width}
use Rattle.eaters.specs.Eat.{Got}
use Rattle.token.specs.declared.TokenKind.{TokenKind}
use Rattle.token.specs.Lists.{Lists}
use Rattle.token.specs.Trivia.{is_trivia}
use Rattle.machine.specs.declared.Mode.{Mode}
use Rattle.machine.specs.declared.Mode.TheVariants.{Start, Broken}
use Rattle.machine.specs.Machine.{Result, bad, put, Next, taken, silent, preceded, gap_out, step}
use Rattle.machine.proofs.Eating.{more, here}
use Rattle.machine.proofs.ByTokens.{put_put, put_none, judged, keep, skip, close, close_keep, close_skip, keep_more, keep_here}
use Rattle.machine.proofs.ToCome.{resume}

-- what a step writes, and what comes after it, from the place q on
unfoldable pub After : Lists → Next → (q : ℕ) → List ℕ → Result
After L n q cs = put n.out (resume L n.from q n.mode cs)

-- a step n, before the place q and the characters cs, comes to R
pub record Goes (L : Lists) (n : Next) (q : ℕ) (cs : List ℕ) (R : Result) : Type 0 where
  pub is_so : After L n q cs ≡ R

-- A STEP in mode m over c keeps what is to come
abbrev pub Steps : Lists → (st p : ℕ) → Mode → (c : ℕ) → List ℕ → Type 0
Steps L st p m c cs = Goes L (step L st p m c) (p + width c) cs (resume L st p m (c ∷ cs))

-- a step n over c in a token that is written, of which g was left before c
pub record Keeps (L : Lists) (st p c : ℕ) (cs : List ℕ) (n : Next) (g : Got Bool) : Type 0 where
  pub is_so : After L n (p + width c) cs ≡ keep L st p g (c ∷ cs)

pub goes : {L : Lists} {st p c : ℕ} {cs : List ℕ} {n : Next} {g : Got Bool} → Keeps L st p c cs n g → Goes L n (p + width c) cs (keep L st p g (c ∷ cs))
goes h = record { is_so = h.is_so }

-- by cases, as the machine decides
pub cases : {L : Lists} {st p c : ℕ} {cs : List ℕ} {x y : Next} {g : Got Bool} (b : Bool) → (b ≡ true → Keeps L st p c cs x g) → (b ≡ false → Keeps L st p c cs y g) → Keeps L st p c cs (pick b x y) g
cases {L} {st} {p} {c} {cs} {x} {y} {g} b = by_pick (λ (n : Next). Keeps L st p c cs n g) b x y

pub cases_any : {L : Lists} {q : ℕ} {cs : List ℕ} {x y : Next} {R : Result} (b : Bool) → (b ≡ true → Goes L x q cs R) → (b ≡ false → Goes L y q cs R) → Goes L (pick b x y) q cs R
cases_any {L} {q} {cs} {x} {y} {R} b = by_pick (λ (n : Next). Goes L n q cs R) b x y

-- the machine and what is left decide alike
pub alike : {L : Lists} {st p c : ℕ} {cs : List ℕ} {x y : Next} {g k : Got Bool} (b : Bool) → (b ≡ true → Keeps L st p c cs x g) → (b ≡ false → Keeps L st p c cs y k) → Keeps L st p c cs (pick b x y) (pick b g k)
alike {L} {st} {p} {c} {cs} {x} {y} {g} {k} b f h = go b refl
  where
    go : (s : Bool) → b ≡ s → Keeps L st p c cs (pick s x y) (pick s g k)
    go true e = f e
    go false e = h e

pub alike_any : {L : Lists} {q : ℕ} {cs : List ℕ} {x y : Next} {R S : Result} (b : Bool) → Goes L x q cs R → Goes L y q cs S → Goes L (pick b x y) q cs (pick b R S)
alike_any true f h = f
alike_any false f h = h

-- what is left is what was said
pub seen : {L : Lists} {st p c : ℕ} {cs : List ℕ} {n : Next} {g k : Got Bool} → Keeps L st p c cs n k → g ≡ k → Keeps L st p c cs n g
seen {L} {st} {p} {c} {cs} h e = record { is_so = h.is_so ∙ ap (λ (z : Got Bool). keep L st p z (c ∷ cs)) (sym e) }

pub through : {L : Lists} {n : Next} {q : ℕ} {cs : List ℕ} {R S : Result} → Goes L n q cs R → R ≡ S → Goes L n q cs S
through h e = record { is_so = h.is_so ∙ e }

-- the character is written, and k is left of the token after it
pub kept : {L : Lists} {st p c : ℕ} {cs : List ℕ} (m : Mode) {g : Got Bool} (k : Got Bool) → resume L st (p + width c) m cs ≡ keep L st (p + width c) k cs → g ≡ more k → Keeps L st p c cs (taken c m st) g
unfolding After
kept {L} {st} {p} {c} {cs} m {g} k q e = record { is_so = ap (put (c ∷ [])) q ∙ keep_more L st p c k cs ∙ ap (λ (z : Got Bool). keep L st p z (c ∷ cs)) (sym e) }

-- it is so where b holds, and another way is taken where it does not
pub kept_or : {L : Lists} {st p c : ℕ} {cs : List ℕ} {y : Next} {g : Got Bool} (b : Bool) (m : Mode) (k : Got Bool) → resume L st (p + width c) m cs ≡ keep L st (p + width c) k cs → Keeps L st p c cs y g → Keeps L st p c cs (pick b (taken c m st) y) (pick b (more k) g)
kept_or b m k q h = alike b (λ e. kept m k q refl) (λ e. h)

-- it is the last one of the token
pub closes : {L : Lists} {st p c : ℕ} {cs : List ℕ} {g : Got Bool} → g ≡ more here → Keeps L st p c cs (taken c (Start false) st) g
closes {L} {st} {p} {c} {cs} e = kept (Start false) here (keep_here L st (p + width c) cs) e

-- the token is known to be broken: now, or one that is taken for it in mode m is
pub lost : {L : Lists} {st p c : ℕ} {cs : List ℕ} (g : Got Bool) → g.said ≡ false → Keeps L st p c cs (silent Broken st) g
unfolding After
lost g e = record { is_so = rw e }

pub lost_in : {L : Lists} {st p c : ℕ} {cs : List ℕ} (m : Mode) (g : Got Bool) → resume L st (p + width c) m cs ≡ bad st → g.said ≡ false → Keeps L st p c cs (taken c m st) g
unfolding After
lost_in m g q e = record { is_so = rw (q, e) }

-- what was held back is written before
pub afterwards : {L : Lists} (u : List ℕ) {n : Next} {q : ℕ} {cs : List ℕ} {R : Result} → Goes L n q cs R → Goes L (preceded u n) q cs (put u R)
unfolding After
afterwards {L} u {n} {q} {cs} h = record { is_so = sym (put_put u n.out (resume L n.from q n.mode cs)) ∙ ap (put u) h.is_so }

-- A comment, of which h is held back: it turns out to be a doc comment, or not, or one more character is held back.
module _ (L : Lists) (st p : ℕ) (r : Bool) (h : List ℕ) (c : ℕ) (cs : List ℕ) where
  pub doc_by : {n : Next} (k : Got Bool) (g : Got TokenKind) → Keeps L st p c cs n k → judged g ≡ k → is_trivia g.said ≡ false → Goes L (preceded h n) (p + width c) cs (close L st p r h g (c ∷ cs))
  doc_by k g x e t = through (afterwards h (goes x)) (ap (λ (z : Got Bool). put h (keep L st p z (c ∷ cs))) (sym e) ∙ close_keep L st p r h g (c ∷ cs) t)

  pub plain_by : {n : Next} (k : Got Bool) (g : Got TokenKind) → Goes L n (p + width c) cs (skip L st p k (c ∷ cs)) → judged g ≡ k → is_trivia g.said ≡ true → Goes L (preceded (gap_out r) n) (p + width c) cs (close L st p r h g (c ∷ cs))
  plain_by k g x e t = through (afterwards (gap_out r) x) (ap (λ (z : Got Bool). put (gap_out r) (skip L st p z (c ∷ cs))) (sym e) ∙ close_skip L st p r h g (c ∷ cs) t)

  pub held_back : (m : Mode) (k : Got TokenKind) {g : Got TokenKind} → resume L st (p + width c) m cs ≡ close L st (p + width c) r (h ++ c ∷ []) k cs → g ≡ more k → Goes L (silent m st) (p + width c) cs (close L st p r h g (c ∷ cs))
  unfolding After
  held_back m k {g} q e =
      let f : (h ++ c ∷ []) ++ take k.took cs ≡ h ++ c ∷ take k.took cs = append_assoc h (c ∷ []) (take k.took cs) in
      let z : close L st (p + width c) r (h ++ c ∷ []) k cs ≡ close L st p r h (more k) (c ∷ cs) = rw f in
      record { is_so = put_none (resume L st (p + width c) m cs) ∙ q ∙ z ∙ ap (λ (y : Got TokenKind). close L st p r h y (c ∷ cs)) (sym e) }
