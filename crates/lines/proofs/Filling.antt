-- The lines of tokens put one after the other, in the facts of the code.
use Prim.Native.Nat.{ℕ, zero, suc, ◌+◌, ◌-◌, ◌≤◌, ◌<◌}
use mathlib.Core.Path.{◌≡◌, refl, sym, ap, ◌∙◌}
use mathlib.Core.Bool.{Bool, false}
use mathlib.Core.List.{List, [], ◌∷◌}
use mathlib.Core.Logic.{◌⊎◌, inr, ⊎_elim}
use borrow.Author.Tests.{lt-ltb, le-ltb}
use lib.ListN.{length, take, drop}
use native.Mathlib.Omega.{arith}
use Rattle.text.specs.Chars.{chars, size}
use Rattle.text.proofs.Texts.{width_some}
use Rattle.token.specs.declared.Token.{Token}
use Rattle.token.specs.Lists.{Lists}
use Rattle.token.specs.Advance.{advance}
use Rattle.token.specs.Tokens.{in_place}
use Rattle.token.proofs.Cover.{advance_some, off_stays}
use Rattle.lexer.specs.declared.Bare.{Bare}
use Rattle.lexer.specs.Scans.{token_size, bare_at, records_from}
use Rattle.lexer.proofs.Walks.{Char, none_from, ends_past, records_on, fewer_left}
use Rattle.puts.specs.Put.{PutFew}
use Rattle.puts.proofs.Joining.{Joining, joined_on, joined_long, joined_all}
use Rattle.token_line.specs.Line.{line}
use Rattle.lines.specs.Lines.{tokens_from, line_of, lines_of, bytes, lines_from, fitting}
use Rattle.lines.specs.Filled.{chosen, Filled}

-- A TOKEN of no length is the end
take_some : (n c : ℕ) (cs : List ℕ) → 1 ≤ n → 1 ≤ size (take n (c ∷ cs))
take_some zero c cs h = absurd (omega arith)
take_some (suc n) c cs h = omega (arith, width_some c)

no_size : (L : Lists) (on : Bool) (cs : List ℕ) → token_size L on cs ≡ 0 → cs ≡ []
unfolding token_size
no_size L on [] e = refl
no_size L on (c ∷ cs) e = absurd (omega (arith, take_some (advance L on (c ∷ cs)).took c cs (advance_some L on c cs)))

some_size : (L : Lists) (on : Bool) (cs : List ℕ) → (token_size L on cs ≡ 0 → ⊥) → Char cs
unfolding token_size advance
some_size L on [] n = absurd (n refl)
some_size L on (c ∷ cs) n = (c, cs, refl)

module _ (L : Lists) (s : List ℕ) (at : ℕ) {x : Bare} (e : x ≡ bare_at L s at false) where
  long : x.len ≡ token_size L false (chars (drop at s))
  unfolding bare_at
  long = ap (λ (y : Bare). y.len) e

  ended : x.len ≡ 0 → chars (drop at s) ≡ []
  ended z = no_size L false (chars (drop at s)) (sym long ∙ z)

  there : (x.len ≡ 0 → ⊥) → Char (chars (drop at s))
  there n = some_size L false (chars (drop at s)) (λ z. n (long ∙ z))

  pub fewer : (x.len ≡ 0 → ⊥) → length (chars (drop x.next s)) < length (chars (drop at s))
  fewer n = fewer_left L s at false e (there n)

  -- frontmatter stays off
  still_off : x.on ≡ false
  unfolding bare_at
  still_off = ap (λ (y : Bare). y.on) e ∙ off_stays L (chars (drop at s))

  -- the token here, and those past it
  more : (x.len ≡ 0 → ⊥) → tokens_from L s at ≡ in_place s at x.kind x.len ∷ tokens_from L s x.next
  more n = records_on L s at false e (there n) ∙ ap (λ (b : Bool). in_place s at x.kind x.len ∷ records_from L s x.next b) still_off

-- THE STATE of the loop: from `at` it came to `here` with used bytes put; what is put from here on completes what is put from the start
pub record Filling (L : Lists) (s : List ℕ) (at : ℕ) (out₀ out : List ℕ) (here used : ℕ) : Type 0 where
  pub put : Joining line_of (lines_of (chosen L s at out₀)) out₀ out used (fitting (length out₀ - used) (tokens_from L s here))
  pub all : Joining line_of (lines_from L s at) out₀ out used (tokens_from L s here)
  pub past : here + bytes (fitting (length out₀ - used) (tokens_from L s here)) ≡ at + bytes (chosen L s at out₀)
  pub moved : ((here ≡ at) × (used ≡ 0)) ⊎ (length (chars (drop here s)) < length (chars (drop at s)))

-- one more token, where its line fits
fitting_step : (room : ℕ) (t : Token) (ts : List Token) → 33 ≤ room → fitting room (t ∷ ts) ≡ t ∷ fitting (room - length (line_of t)) ts
fitting_step room t ts h = rw (le-ltb room 33 h)

module _ {L : Lists} {s out₀ out : List ℕ} {at here used : ℕ} (f : Filling L s at out₀ out here used) where
  -- no more characters are left than at the start
  no_more : length (chars (drop here s)) ≤ length (chars (drop at s))
  no_more = ⊎_elim (λ m. omega (arith, ap (λ (k : ℕ). length (chars (drop k s))) m.0)) (λ m. omega arith) f.moved

  pub turned : {x : Bare} {p : List ℕ} {r : ℕ} → 33 ≤ length out - used → x ≡ bare_at L s here false → (x.len ≡ 0 → ⊥) → PutFew 33 (line x.kind x.len) out used p r → Filling L s at out₀ p x.next r
  turned {x} {p} {r} h e n u =
      let t : Token = in_place s here x.kind x.len in
      let w : tokens_from L s here ≡ t ∷ tokens_from L s x.next = more L s here e n in
      let l : length out₀ - used - length (line_of t) ≡ length out₀ - r = omega (arith, u.put.next) in
      let g : fitting (length out₀ - used) (tokens_from L s here) ≡ t ∷ fitting (length out₀ - r) (tokens_from L s x.next) =
      ap (fitting (length out₀ - used)) w ∙ fitting_step (length out₀ - used) t (tokens_from L s x.next) (omega (arith, f.all.same)) ∙ ap (λ (k : ℕ). t ∷ fitting k (tokens_from L s x.next)) l in
      record {
        put = joined_on (rw g at f.put) u.put;
        all = joined_on (rw w at f.all) u.put;
        past = omega (arith, ends_past L s here false e, ap bytes g, f.past);
        moved = inr (omega (arith, fewer L s here e n, no_more));
      }

  -- THE END of the loop: nothing more is put
  filled : fitting (length out₀ - used) (tokens_from L s here) ≡ [] → (here ≡ at → chars (drop at s) ≡ []) → Filled L s at out₀ out (record { next = here; used = used })
  filled z d =
      let k : Joining line_of (lines_of (chosen L s at out₀)) out₀ out used [] = rw z at f.put in
      record {
        holds = joined_all k;
        used = joined_long k;
        next = omega (arith, f.past, ap bytes z);
        lines = f.all.whole;
        room = f.all.within;
        ended = d;
        onward = λ n. ⊎_elim (λ m. absurd (n m.0)) (λ m. m) f.moved;
      }

  pub full_out : 33 ≤ length out₀ → length out - used < 33 → Filled L s at out₀ out (record { next = here; used = used })
  full_out h l = filled (no_room (tokens_from L s here)) still
    where
      no_room : (ts : List Token) → fitting (length out₀ - used) ts ≡ []
      no_room [] = refl
      no_room (t ∷ ts) = rw (lt-ltb (length out₀ - used) 33 (omega (arith, f.all.same)))

      still : here ≡ at → chars (drop at s) ≡ []
      still e = ⊎_elim (λ m. absurd (omega (arith, m.1, f.all.same))) (λ m. absurd (omega (arith, ap (λ (k : ℕ). length (chars (drop k s))) e))) f.moved

  pub end_out : {x : Bare} → x ≡ bare_at L s here false → x.len ≡ 0 → Filled L s at out₀ out (record { next = here; used = used })
  end_out e z =
      let k : chars (drop here s) ≡ [] = ended L s here e z in
      filled (ap (fitting (length out₀ - used)) (none_from L s here false k)) (λ d. ap (λ (j : ℕ). chars (drop j s)) (sym d) ∙ k)
