-- Where a text's characters end: at its end, or at its first ill-formed sequence. So the place beside refusal 2 is where that sequence starts.
use Prim.Native.Nat.{ℕ}
use mathlib.Core.Path.{◌≡◌, refl, ap}
use mathlib.Core.List.{List, [], ◌∷◌}
use mathlib.Core.Logic.{◌⊎◌, inl, inr, ⊎_elim}
use lib.ListN.{length, drop, length-drop}
use lib.Seq.{drop-drop}
use native.Mathlib.Omega.{arith}
use Rattle.text.specs.declared.Decoded.{Decoded}
use Rattle.text.specs.declared.Decoded.TheVariants.{Char, End, Ill}
use Rattle.text.specs.Utf8.{decoded}
use Rattle.text.specs.Chars.{chars, size, WellFormed}
use Rattle.text.specs.Verdicts.{cause_of}
use Rattle.text.proofs.Texts.{by_chars, stepped, told, size_chars}

abbrev Stopped : Decoded → Type 0
Stopped d = (d ≡ End) ⊎ (d ≡ Ill (cause_of d))

stopped : (s : List ℕ) (d : Decoded) → decoded s ≡ d → chars s ≡ [] → Stopped d
stopped s (Char c w) e n = let f : chars s ≡ c ∷ chars (drop w s) = stepped s e in let z : ◌≡◌ {A = ℕ} 0 1 = cc in absurd (omega arith)
stopped s End e n = inl refl
stopped s (Ill k) e n = inr refl

stops : (s : List ℕ) → Stopped (decoded (drop (size (chars s)) s))
stops = by_chars (λ (s : List ℕ). Stopped (decoded (drop (size (chars s)) s))) (λ s n. rw n (stopped s (decoded s) refl n))
    (λ s c w d f n ih. rw (n, f.wide, ← drop-drop (size (chars (drop w s))) w s) ih)

-- in a text that is not well-formed, the first ill-formed sequence starts where the characters end
pub first_ill : (s : List ℕ) → (WellFormed s → ⊥) → decoded (drop (size (chars s)) s) ≡ Ill (cause_of (decoded (drop (size (chars s)) s)))
first_ill s v =
    ⊎_elim (λ e. absurd (v (omega (arith, size_chars s, length-drop (size (chars s)) s, ap length (told (drop (size (chars s)) s) e))))) (λ e. e) (stops s)
