-- Two parts of a text of which neither CR LF nor CR CR LF stands across the seam: what is true of line ends in the parts is true in the whole.
use Prim.Native.Nat.{ℕ, suc}
use mathlib.Core.Path.{◌≡◌, refl, sym, ap, ◌∙◌}
use mathlib.Core.List.{List, [], ◌∷◌, ◌++◌}
use mathlib.Core.Bool.{Bool, true, false, true≢false}
use mathlib.Core.Logic.{◌⊎◌, inl, inr}
use lib.ListN.{length, get_or}
use native.Mathlib.Omega.{arith}
use Rattle.basics.specs.Choice.{pick, and, or}
use Rattle.eaters.specs.Find.{Place, at, nowhere, further, find, or_else}
use Rattle.eaters.specs.Look.{begins}
use Rattle.places.specs.Shifts.{shifted}
use Rattle.places.proofs.Searches.{shifted_none}
use Rattle.token.specs.Names.{is, 'newline', 'carriage_return'}
use Rattle.line_ends.specs.LineEnds.{cr_lf, replaced, double_at, double_return}
use Rattle.waits.specs.Waits.{returns, last_returns}

-- what would go on a line end that began before: LF, or CR LF
abbrev pub goes_on : List ℕ → Bool
goes_on t = or (begins ('newline' ∷ []) t) (begins ('carriage_return' ∷ 'newline' ∷ []) t)

-- the first part does not end in CR, or the second does not go on
abbrev pub Apart : List ℕ → List ℕ → Type 0
Apart s t = (last_returns s ≡ []) ⊎ (goes_on t ≡ false)

-- neither of the two
no_line : (t : List ℕ) → goes_on t ≡ false → begins ('newline' ∷ []) t ≡ false
no_line t = go (begins ('newline' ∷ []) t) (begins ('carriage_return' ∷ 'newline' ∷ []) t)
  where
    go : (a b : Bool) → or a b ≡ false → a ≡ false
    go true b e = e
    go false b e = refl

no_pair : (t : List ℕ) → goes_on t ≡ false → begins ('carriage_return' ∷ 'newline' ∷ []) t ≡ false
no_pair t = go (begins ('newline' ∷ []) t) (begins ('carriage_return' ∷ 'newline' ∷ []) t)
  where
    go : (a b : Bool) → or a b ≡ false → b ≡ false
    go true b e = absurd (true≢false e)
    go false b e = e

-- a byte that is no CR, where nothing but it stands
single : (a : ℕ) → last_returns (a ∷ []) ≡ [] → is 'carriage_return' a ≡ false
single a e = go (is 'carriage_return' a) e
  where
    go : (t : Bool) → pick t (a ∷ []) [] ≡ [] → t ≡ false
    go true e = absurd (let z : ◌≡◌ {A = ℕ} 1 0 = ap length e in omega (arith, z))
    go false e = refl

-- the end of an end
no_last : (a : ℕ) (s : List ℕ) → last_returns (a ∷ s) ≡ [] → last_returns s ≡ []
no_last a s e = go (returns (a ∷ s)) e
  where
    go : (t : Bool) → pick t (a ∷ s) (last_returns s) ≡ [] → last_returns s ≡ []
    go true e = absurd (let z : ◌≡◌ {A = ℕ} (suc (length s)) 0 = ap length e in omega (arith, z))
    go false e = e

apart_rest : (a b : ℕ) (s t : List ℕ) → Apart (a ∷ b ∷ s) t → Apart (b ∷ s) t
apart_rest a b s t (inl e) = inl (no_last a (b ∷ s) e)
apart_rest a b s t (inr e) = inr e

-- LF at the front
front_line : (t : List ℕ) → begins ('newline' ∷ []) t ≡ is 'newline' (get_or t 0 0)
front_line [] = refl
front_line (b ∷ t) = go (is 'newline' b)
  where
    go : (x : Bool) → and x true ≡ x
    go true = refl
    go false = refl

-- the seam, for CR LF and for CR CR LF
seam_pair : (a : ℕ) (t : List ℕ) → Apart (a ∷ []) t → cr_lf a t ≡ cr_lf a []
seam_pair a t (inl e) = rw (single a e)
seam_pair a t (inr e) = rw (sym (front_line t) ∙ no_line t e)

seam_first : (a : ℕ) (t : List ℕ) → Apart (a ∷ []) t → double_at (a ∷ t) ≡ double_at (a ∷ [])
seam_first a t (inl e) = rw (single a e)
seam_first a t (inr e) = rw (no_pair t e)

seam_second : (a b : ℕ) (t : List ℕ) → Apart (a ∷ b ∷ []) t → double_at (a ∷ b ∷ t) ≡ double_at (a ∷ b ∷ [])
seam_second a b t (inl e) = rw (single b (no_last a (b ∷ []) e))
seam_second a b t (inr e) = rw (no_line t e)

-- LINE ENDS ARE REPLACED in each part
pub replaced_apart : (s t : List ℕ) → Apart s t → replaced (s ++ t) ≡ replaced s ++ replaced t
replaced_apart [] t h = refl
replaced_apart (a ∷ []) t h = rw (seam_pair a t h) (go (cr_lf a []))
  where
    go : (x : Bool) → pick x (replaced t) (a ∷ replaced t) ≡ pick x [] (a ∷ []) ++ replaced t
    go true = refl
    go false = refl
replaced_apart (a ∷ b ∷ s) t h = rw (replaced_apart (b ∷ s) t (apart_rest a b s t h)) (go (cr_lf a (b ∷ s)))
  where
    go : (x : Bool) → pick x (replaced (b ∷ s) ++ replaced t) (a ∷ replaced (b ∷ s) ++ replaced t) ≡ pick x (replaced (b ∷ s)) (a ∷ replaced (b ∷ s)) ++ replaced t
    go true = refl
    go false = refl

-- CR CR LF is found in the first part, or in the second
further_first : (p q : Place) (n : ℕ) → further (or_else p (shifted n q)) ≡ or_else (further p) (shifted (suc n) q)
further_first (at k) q n = refl
further_first nowhere (at k) n = ap at (omega arith)
further_first nowhere nowhere n = refl

found : (x : Bool) (p q : Place) (n : ℕ) → pick x (at 0) (further (or_else p (shifted n q))) ≡ or_else (pick x (at 0) (further p)) (shifted (suc n) q)
found true p q n = refl
found false p q n = further_first p q n

pub double_apart : (s t : List ℕ) → Apart s t → double_return (s ++ t) ≡ or_else (double_return s) (shifted (length s) (double_return t))
unfolding find
double_apart [] t h = sym (shifted_none (double_return t))
double_apart (a ∷ []) t h =
    ap (λ (x : Bool). pick x (at 0) (further (double_return t))) (seam_first a t h)
    ∙ ap (λ (q : Place). pick (double_at (a ∷ [])) (at 0) (further q)) (double_apart [] t (inl refl))
    ∙ found (double_at (a ∷ [])) nowhere (double_return t) 0
double_apart (a ∷ b ∷ []) t h =
    ap (λ (x : Bool). pick x (at 0) (further (double_return (b ∷ t)))) (seam_second a b t h)
    ∙ ap (λ (q : Place). pick (double_at (a ∷ b ∷ [])) (at 0) (further q)) (double_apart (b ∷ []) t (apart_rest a b [] t h))
    ∙ found (double_at (a ∷ b ∷ [])) (double_return (b ∷ [])) (double_return t) 1
double_apart (a ∷ b ∷ c ∷ s) t h =
    ap (λ (q : Place). pick (double_at (a ∷ b ∷ c ∷ s)) (at 0) (further q)) (double_apart (b ∷ c ∷ s) t (apart_rest a b (c ∷ s) t h))
    ∙ found (double_at (a ∷ b ∷ c ∷ s)) (double_return (b ∷ c ∷ s)) (double_return t) (suc (suc (length s)))
