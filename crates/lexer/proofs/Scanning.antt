-- The token at a position, in the facts of the code.
use Rattle.std.specs.Prelude.{Option, None, Some}
use Prim.Native.Nat.{ℕ, ◌+◌, ◌-◌, ◌≤◌}
use mathlib.Core.Path.{◌≡◌, sym, ap, subst, ◌∙◌}
use mathlib.Core.Bool.{Bool}
use mathlib.Core.List.{List, [], ◌∷◌}
use lib.ListN.{length, take, drop}
use mir.Val.{Fits}
use mir.Syntax.{w64}
use native.Mathlib.Omega.{arith}
use Rattle.basics.specs.Choice.{and}
use Rattle.text.specs.Chars.{chars, width, size}
use Rattle.text.proofs.Texts.{width_some}
use Rattle.token.specs.declared.LiteralKind.{LiteralKind}
use Rattle.token.specs.declared.TokenKind.{TokenKind}
use Rattle.token.specs.declared.TokenKind.TheVariants as kind
use Rattle.token.specs.Lists.{Lists}
use Rattle.token.specs.Advance.{stays, Told, advance, decided}
use Rattle.token.proofs.Takes.{fits_token}
use Rattle.cursor.specs.declared.Cursor.{Cursor}
use Rattle.cursor.specs.declared.Kinded.{Kinded}
use Rattle.cursor.specs.declared.Kinded.TheVariants.{Plain, Literal}
use Rattle.cursor.specs.declared.Scanned.{Scanned}
use Rattle.cursor.specs.Cursors.{rest, Seen}
use Rattle.cursor.specs.Ran.{kind_from, Past, Begun}
use Rattle.cursor.proofs.Steps.{rest_at}
use Rattle.cursor.proofs.Moves.{char_at, end_at}
use Rattle.cursor.proofs.Bytes.{char_within, moved_within}
use Rattle.cursor.proofs.Runs.{ran_bytes}
use Rattle.lexer.specs.declared.Bare.{Bare}
use Rattle.lexer.specs.Scans.{token_size, bare_at, Narrow}

-- THE KIND
module _ {k : Kinded} (b : Cursor) where
  pub plain_kind : {j : TokenKind} → k ≡ Plain j → j ≡ kind_from 1 b k
  plain_kind q = rw q

  module _ {j : LiteralKind} {d : Cursor} (q : k ≡ Literal j d) where
    pub literal_kind : {m n x : ℕ} → m ≡ d.at → n ≡ b.at → x ≡ 1 + (m - n) → kind.Literal j x ≡ kind_from 1 b k
    literal_kind e f g = rw (q, g, e, f)

    module _ (p : Narrow b k) where
      known : Narrow b (Literal j d)
      known = subst (Narrow b) q p

      pub not_less : {m n : ℕ} → m ≡ d.at → n ≡ b.at → n ≤ m
      not_less e f = omega (arith, known.0)

      pub suffix_narrow : {m n : ℕ} → m ≡ d.at → n ≡ b.at → 1 + (m - n) ≤ 4294967295
      suffix_narrow e f = omega (arith, known.1)

      pub suffix_fits : {m n : ℕ} → m ≡ d.at → n ≡ b.at → Fits w64 (1 + (m - n))
      suffix_fits e f = record { fits = omega (arith, known.1) }

narrowed : (k : Kinded) (b n : Cursor) → Past b n k → 1 ≤ b.at → n.at ≤ 4294967295 → Narrow b k
narrowed (Plain k) b n p l m = tt
narrowed (Literal k d) b n p l m = (p.from, omega (arith, p.from, p.to))

abbrev bare : (k : TokenKind) (l n : ℕ) (t : Bool) → Bare
bare k l n t = record { kind = k; len = l; next = n; on = t }

same_bare : {l₁ l₂ n₁ n₂ : ℕ} {k₁ k₂ : TokenKind} {t₁ t₂ : Bool} → k₁ ≡ k₂ → l₁ ≡ l₂ → n₁ ≡ n₂ → t₁ ≡ t₂ → bare k₁ l₁ n₁ t₁ ≡ bare k₂ l₂ n₂ t₂
same_bare p q r s = rw (p, q, r, s)

-- THE END
module _ (L : Lists) (s : List ℕ) {at : ℕ} (on : Bool) {a : Cursor} {r : Option (ℕ × Cursor)} (e : a.at ≡ at) (h : Seen s a r) where
  pub at_end : r ≡ None → record { kind = kind.Eof; len = 0; next = at; on = on } ≡ bare_at L s at on
  unfolding bare_at token_size advance
  at_end q =
      let n : chars (drop at s) ≡ [] = sym (rest_at s a e) ∙ end_at q h in
      let z : token_size L on (chars (drop at s)) ≡ 0 = ap (token_size L on) n in
      same_bare (sym (ap (λ (cs : List ℕ). (advance L on cs).said.kind) n)) (sym z) (omega (arith, z)) (sym (ap (λ (cs : List ℕ). (advance L on cs).said.on) n))

  -- A CHARACTER, and what the decision over it gives
  module _ {c : ℕ} {b : Cursor} (q : r ≡ Some (c, b)) {x : Scanned} (g : Begun (decided L on c) s b x) where
    begins : chars (drop at s) ≡ c ∷ rest s b
    begins = sym (rest_at s a e) ∙ (char_at q h).chars

    past : x.next.at ≡ b.at + size (take (decided L on c (rest s b)).took (rest s b))
    past = ran_bytes (decided L on c) g.ran ((fits_token L on c).fits (rest s b) (omega arith))

    long : token_size L on (chars (drop at s)) ≡ width c + size (take (decided L on c (rest s b)).took (rest s b))
    unfolding token_size advance
    long = ap (token_size L on) begins

    pub ends : x.next.at ≡ at + token_size L on (chars (drop at s))
    ends = omega (arith, past, long, (char_at q h).bytes, e)

    -- no further than the text
    pub within : x.next.at ≤ length s
    within = omega (arith, char_within q h, moved_within g.ran.moved)

    pub kind_narrow : length s ≤ 4294967295 → Narrow b x.kind
    kind_narrow l = narrowed x.kind b x.next g.past (omega (arith, (char_at q h).bytes, width_some c)) (omega (arith, within))

    module _ {n : ℕ} (m : n ≡ x.next.at) where
      pub not_before : at ≤ n
      not_before = omega (arith, ends)

      pub len_narrow : length s ≤ 4294967295 → n - at ≤ 4294967295
      len_narrow l = omega (arith, within)

      said : (advance L on (chars (drop at s))).said ≡ record { kind = (decided L on c (rest s b)).said; on = and on (stays (decided L on c (rest s b)).said) }
      unfolding advance
      said = ap (λ (cs : List ℕ). (advance L on cs).said) begins

      pub scanned : {l : ℕ} {k : TokenKind} {t : Bool} → k ≡ kind_from 1 b x.kind → l ≡ n - at → t ≡ and on (stays k) → record { kind = k; len = l; next = n; on = t } ≡ bare_at L s at on
      unfolding bare_at
      scanned {l} {k} {t} f d o =
          let v : k ≡ (advance L on (chars (drop at s))).said.kind = f ∙ g.ran.said ∙ sym (ap (λ (y : Told). y.kind) said) in
          let w : t ≡ (advance L on (chars (drop at s))).said.on = o ∙ ap (λ (j : TokenKind). and on (stays j)) (f ∙ g.ran.said) ∙ sym (ap (λ (y : Told). y.on) said) in
          let u : n ≡ at + token_size L on (chars (drop at s)) = m ∙ ends in
          same_bare v (d ∙ omega arith) u w
