-- A walk over the tokens of a well-formed text, scan by scan: a character stands at each boundary before the end, and none past it.
use Prim.Native.Nat.{ℕ, ◌+◌, ◌≤◌, ◌<◌}
use mathlib.Core.Path.{◌≡◌, refl, sym, ap, ◌∙◌}
use mathlib.Core.Bool.{Bool, true}
use mathlib.Core.List.{List, [], ◌∷◌}
use lib.ListN.{length, take, drop, length-drop, take-append-drop}
use native.Mathlib.Omega.{arith}
use Rattle.text.specs.Chars.{chars, size, WellFormed}
use Rattle.text.specs.Position.{edge, on_boundary}
use Rattle.text.proofs.Positions.{boundary_parts}
use Rattle.text.proofs.Texts.{size_chars, width_some}
use Rattle.token.specs.Lists.{Lists}
use Rattle.token.specs.Advance.{advance}
use Rattle.token.specs.Tokens.{tokens, tokens_after, in_place, placed}
use Rattle.token.proofs.Cover.{advance_some, size_append}
use Rattle.lexer.specs.declared.Bare.{Bare}
use Rattle.lexer.specs.declared.Scan.{Scan}
use Rattle.lexer.specs.Scans.{token_size, bare_at, records_from}
use Rattle.lexer.specs.Steps.{before_of, start_of, next_of, records_past}
use Rattle.lexer.specs.Checked.{Checked}
use Rattle.lexer.specs.Ready.{Lined, Ready}
use Rattle.lexer.proofs.Records.{past_token, step_records, next_boundary}

-- a text begins on a boundary
pub begins_on : (cs : List ℕ) → edge cs 0 ≡ true
unfolding edge
begins_on [] = refl
begins_on (c ∷ cs) = refl

-- a character stands at a position
abbrev pub Char : List ℕ → Type 0
Char cs = (c : ℕ) × (ds : List ℕ) × (cs ≡ c ∷ ds)

has_char : (cs : List ℕ) → 1 ≤ size cs → Char cs
has_char [] h = absurd (omega arith)
has_char (c ∷ cs) h = (c, cs, refl)

-- one stands at each boundary before the end
pub char_there : (s : List ℕ) (at : ℕ) → WellFormed s → on_boundary s at ≡ true → at < length s → Char (chars (drop at s))
char_there s at w e l =
    let p = boundary_parts s at e in
    has_char (chars (drop at s)) (omega (arith, w, p.bytes, sym (ap size p.joined), size_append p.before (chars (drop at s))))

-- none stands past the end
no_size : (cs : List ℕ) → size cs ≤ 0 → cs ≡ []
no_size [] h = refl
no_size (c ∷ cs) h = absurd (omega (arith, width_some c))

none_past : (s : List ℕ) (at : ℕ) → length s ≤ at → chars (drop at s) ≡ []
none_past s at l = no_size (chars (drop at s)) (omega (arith, size_chars (drop at s), length-drop at s))

tokens_none : (L : Lists) (on : Bool) → tokens L on [] ≡ []
unfolding tokens_after
tokens_none L on = refl

pub none_from : (L : Lists) (s : List ℕ) (at : ℕ) (on : Bool) → chars (drop at s) ≡ [] → records_from L s at on ≡ []
none_from L s at on e = ap (λ (cs : List ℕ). placed s at (tokens L on cs)) e ∙ ap (placed s at) (tokens_none L on)

pub end_from : (L : Lists) (s : List ℕ) (at : ℕ) (on : Bool) → length s ≤ at → records_from L s at on ≡ []
end_from L s at on h = none_from L s at on (none_past s at h)

-- A TOKEN OF A WALK without its place, in the facts of the code
module _ (L : Lists) (s : List ℕ) (at : ℕ) (on : Bool) {x : Bare} (e : x ≡ bare_at L s at on) where
  pub ends_past : x.next ≡ at + x.len
  unfolding bare_at
  ends_past = rw e

  pub past_edged : on_boundary s at ≡ true → on_boundary s x.next ≡ true
  past_edged b = rw e (next_boundary L s at on b)

  -- it ends in the text
  pub past_inside : at ≤ length s → x.next ≤ length s
  unfolding bare_at token_size
  past_inside h =
      let cs = chars (drop at s) in
      let k = (advance L on cs).took in
      omega (arith, ap (λ (y : Bare). y.next) e, sym (ap size (take-append-drop k cs)), size_append (take k cs) (drop k cs), size_chars (drop at s), length-drop at s)

  -- at a character
  module _ (t : Char (chars (drop at s))) where
    -- the token in its place, and then those past it
    pub records_on : records_from L s at on ≡ in_place s at x.kind x.len ∷ records_from L s x.next x.on
    records_on = rw e (step_records L s at on t.0 t.1 t.2)

    -- fewer characters are left
    pub fewer_left : length (chars (drop x.next s)) < length (chars (drop at s))
    fewer_left =
        let q : 1 ≤ (advance L on (chars (drop at s))).took = rw t.2 (advance_some L on t.0 t.1) in
        rw e (omega (arith, q, ap length t.2, ap length (past_token L s at on), length-drop (advance L on (chars (drop at s))).took (chars (drop at s))))

-- A STEP OF A WALK, likewise
pub records_none : (L : Lists) (s : List ℕ) (c : Scan) → chars (drop c.next s) ≡ [] → records_past L s c ≡ []
records_none L s c e = none_from L s c.next c.on e

pub records_end : (L : Lists) (s : List ℕ) (c : Scan) → length s ≤ c.next → records_past L s c ≡ []
records_end L s c h = end_from L s c.next c.on h

module _ (L : Lists) (s : List ℕ) (c : Scan) {x : Scan} (e : x ≡ next_of L s c) where
  pub begins_there : x.token.start ≡ c.next
  begins_there = ap (λ (y : Scan). y.token.start) e

  pub next_edged : on_boundary s c.next ≡ true → on_boundary s x.next ≡ true
  next_edged b = rw e (past_edged L s c.next c.on refl b)

  module _ (t : Char (chars (drop c.next s))) where
    pub next_records : records_past L s c ≡ x.token ∷ records_past L s x
    next_records = rw e (records_on L s c.next c.on refl t)

    pub fewer : length (chars (drop x.next s)) < length (chars (drop c.next s))
    fewer = rw e (fewer_left L s c.next c.on refl t)

  -- IT IS LINED where the one before it was
  pub next_lined : Lined s c → Lined s x
  next_lined r = rw e (record {
    line = refl;
    forward = omega (arith, ends_past L s c.next c.on refl);
    inside = past_inside L s c.next c.on refl r.inside;
    fits = r.fits;
  })

  -- likewise with what was checked
  pub next_ready : Ready s L c → Ready s L x
  next_ready r = record { checked = r.checked; lined = next_lined r.lined }

-- and so is one before the first step
pub before_lined : {s : List ℕ} {at : ℕ} {on : Bool} {c : Scan} → length s ≤ 4294967295 → at ≤ length s → c ≡ before_of s at on → Lined s c
before_lined k h e = rw e (record { line = refl; forward = omega arith; inside = h; fits = k })

pub start_lined : {s : List ℕ} {on : Bool} {c : Scan} → length s ≤ 4294967295 → c ≡ start_of on → Lined s c
start_lined {on = on} k e = before_lined {on = on} k (omega arith) e

pub before_ready : {L : Lists} {s : List ℕ} {at : ℕ} {on : Bool} {c : Scan} → Checked s L → at ≤ length s → c ≡ before_of s at on → Ready s L c
before_ready {on = on} k h e = record { checked = k; lined = before_lined {on = on} k.fits h e }

pub start_ready : {L : Lists} {s : List ℕ} {on : Bool} {c : Scan} → Checked s L → c ≡ start_of on → Ready s L c
start_ready {on = on} k e = before_ready {on = on} k (omega arith) e
