-- THE REPLACED TEXT (document 02, W3): it is the text itself where that has no CR LF; and it has no CR LF where the text has no CR CR LF, which is what refusal 10 is for.
use Prim.Native.Nat.{ℕ, ◌≤◌, zero-le}
use mathlib.Core.Path.{◌≡◌, refl, sym, ap, ◌∙◌}
use mathlib.Core.List.{List, [], ◌∷◌}
use mathlib.Core.Bool.{Bool, true, false, not}
use lib.ListN.{length, get_or}
use borrow.Author.Tests.{not-true}
use native.Mathlib.Omega.{arith}
use Rattle.basics.specs.Choice.{pick, and, or}
use Rattle.basics.proofs.Choices.{and_1, and_2}
use Rattle.eaters.specs.Find.{Place, at, nowhere, further, find}
use Rattle.eaters.specs.Look.{begins}
use Rattle.eaters.proofs.Firsts.{find_never}
use Rattle.token.specs.Names.{is, 'newline', 'carriage_return'}
use Rattle.canon.proofs.Sounds.{false_true}
use Rattle.line_ends.specs.LineEnds.{cr_lf, replaced, no_cr_lf, double_at, double_return}

-- both parts of a test that holds
pub both : (s t : Bool) → and s t ≡ true → (s ≡ true) × (t ≡ true)
both s t e = (and_1 s t e, and_2 s t e)

-- A TEXT WITHOUT CR LF stays as it is
pub same : (s : List ℕ) → no_cr_lf s ≡ true → replaced s ≡ s
same [] h = refl
same (c ∷ cs) h = go (cr_lf c cs) h (λ e. same cs e)
  where
    go : (b : Bool) → and (not b) (no_cr_lf cs) ≡ true → (no_cr_lf cs ≡ true → replaced cs ≡ cs) → pick b (replaced cs) (c ∷ replaced cs) ≡ c ∷ cs
    go true h r = false_true h
    go false h r = ap (λ (z : List ℕ). c ∷ z) (r h)

-- no CR CR LF, said character by character
abbrev no_double : List ℕ → Bool
no_double [] = true
no_double (c ∷ cs) = and (not (and (is 'carriage_return' c) (and (is 'carriage_return' (get_or cs 0 0)) (is 'newline' (get_or cs 1 0))))) (no_double cs)

-- the first character of the replaced text is LF only where LF or CR LF stood
first : (cs : List ℕ) → is 'newline' (get_or (replaced cs) 0 0) ≡ true → or (is 'newline' (get_or cs 0 0)) (and (is 'carriage_return' (get_or cs 0 0)) (is 'newline' (get_or cs 1 0))) ≡ true
first [] h = false_true h
first (c ∷ cs) h = go (cr_lf c cs) h
  where
    tr : (s : Bool) → or s true ≡ true
    tr true = refl
    tr false = refl

    go : (b : Bool) → is 'newline' (get_or (pick b (replaced cs) (c ∷ replaced cs)) 0 0) ≡ true → or (is 'newline' c) b ≡ true
    go true h = tr (is 'newline' c)
    go false h = rw h

-- without CR CR LF no CR LF is left
left : (s : List ℕ) → no_double s ≡ true → no_cr_lf (replaced s) ≡ true
left [] h = refl
left (c ∷ cs) h = go (is 'carriage_return' c) refl (is 'newline' (get_or cs 0 0)) refl (is 'newline' (get_or (replaced cs) 0 0)) refl h (λ e. left cs e)
  where
    three : is 'newline' (get_or cs 0 0) ≡ false → is 'newline' (get_or (replaced cs) 0 0) ≡ true → and (is 'carriage_return' (get_or cs 0 0)) (is 'newline' (get_or cs 1 0)) ≡ true
    three e f = rw e at (first cs f)

    go : (a : Bool) → is 'carriage_return' c ≡ a → (b : Bool) → is 'newline' (get_or cs 0 0) ≡ b → (d : Bool) → is 'newline' (get_or (replaced cs) 0 0) ≡ d → and (not (and a (and (is 'carriage_return' (get_or cs 0 0)) (is 'newline' (get_or cs 1 0))))) (no_double cs) ≡ true → (no_double cs ≡ true → no_cr_lf (replaced cs) ≡ true) → no_cr_lf (pick (and a b) (replaced cs) (c ∷ replaced cs)) ≡ true
    go true x true e d f h r = r (both (not (and (is 'carriage_return' (get_or cs 0 0)) (is 'newline' (get_or cs 1 0)))) (no_double cs) h).1
    go false x b e d f h r = rw x (r h)
    go true x false e false f h r = rw (x, f) (r (both (not (and (is 'carriage_return' (get_or cs 0 0)) (is 'newline' (get_or cs 1 0)))) (no_double cs) h).1)
    go true x false e true f h r =
        let q : and (not true) (no_double cs) ≡ true = rw (three e f) at h in
        false_true q

-- a text without CR LF has no CR CR LF
no_double_lem : (s : List ℕ) → no_cr_lf s ≡ true → no_double s ≡ true
no_double_lem [] f = refl
no_double_lem (c ∷ cs) f = go (is 'carriage_return' c) refl (is 'carriage_return' (get_or cs 0 0)) refl (is 'newline' (get_or cs 0 0)) refl f (λ g. no_double_lem cs g)
  where
    go : (a : Bool) → is 'carriage_return' c ≡ a → (b : Bool) → is 'carriage_return' (get_or cs 0 0) ≡ b → (d : Bool) → is 'newline' (get_or cs 0 0) ≡ d → and (not (and a d)) (no_cr_lf cs) ≡ true → (no_cr_lf cs ≡ true → no_double cs ≡ true) → and (not (and a (and b (is 'newline' (get_or cs 1 0))))) (no_double cs) ≡ true
    go false x b y d z f r = r f
    go true x false y d z f r = r (both (not d) (no_cr_lf cs) f).1
    go true x true y d z f r = rw (next cs y (both (not d) (no_cr_lf cs) f).1) (r (both (not d) (no_cr_lf cs) f).1)
      where
        next : (ds : List ℕ) → is 'carriage_return' (get_or ds 0 0) ≡ true → no_cr_lf ds ≡ true → is 'newline' (get_or ds 1 0) ≡ false
        next [] y f = false_true y
        next (e ∷ ds) y f =
            let q : and (not (and true (is 'newline' (get_or ds 0 0)))) (no_cr_lf ds) ≡ true = rw y at f in
            not-true (is 'newline' (get_or ds 0 0)) (both (not (is 'newline' (get_or ds 0 0))) (no_cr_lf ds) q).0

-- WHERE THE SEARCH FOR CR CR LF FINDS NONE, none is here
pub none_here : (c : ℕ) (s : List ℕ) → double_return (c ∷ s) ≡ nowhere → double_at (c ∷ s) ≡ false
none_here c s e = (find_never double_at (c ∷ s) e).never 0 zero-le

-- and none further on
further_nowhere : (q : Place) → further q ≡ nowhere → q ≡ nowhere
further_nowhere nowhere e = refl
further_nowhere (at k) e = let z : ◌≡◌ {A = ℕ} 0 1 = cc in absurd (omega arith)

pub none_further : (c : ℕ) (s : List ℕ) → double_return (c ∷ s) ≡ nowhere → double_return s ≡ nowhere
unfolding find
none_further c s e =
    further_nowhere (double_return s) (sym (ap (λ (t : Bool). pick t (at 0) (further (double_return s))) (none_here c s e)) ∙ e)

-- so that there is none, and the other way round
look : (s : List ℕ) → begins ('carriage_return' ∷ 'newline' ∷ []) s ≡ and (is 'carriage_return' (get_or s 0 0)) (is 'newline' (get_or s 1 0))
look [] = refl
look (a ∷ []) = refl
look (a ∷ b ∷ s) = whole (is 'newline' b)
  where
    whole : (t : Bool) → and (is 'carriage_return' a) (and t true) ≡ and (is 'carriage_return' a) t
    whole true = refl
    whole false = refl

none_found : (s : List ℕ) → double_return s ≡ nowhere → no_double s ≡ true
none_found [] e = refl
none_found (c ∷ s) e =
    let q : and (is 'carriage_return' c) (and (is 'carriage_return' (get_or s 0 0)) (is 'newline' (get_or s 1 0))) ≡ false = ap (and (is 'carriage_return' c)) (sym (look s)) ∙ none_here c s e in
    rw q (none_found s (none_further c s e))

none_double : (s : List ℕ) → no_double s ≡ true → double_return s ≡ nowhere
unfolding find
none_double [] e = refl
none_double (c ∷ s) e = go (begins ('carriage_return' ∷ 'newline' ∷ []) s) (look s) e (none_double s)
  where
    go : (t : Bool) → t ≡ and (is 'carriage_return' (get_or s 0 0)) (is 'newline' (get_or s 1 0)) → no_double (c ∷ s) ≡ true → (no_double s ≡ true → double_return s ≡ nowhere) → pick (and (is 'carriage_return' c) t) (at 0) (further (double_return s)) ≡ nowhere
    go t h e i = last (and (is 'carriage_return' c) t) (rw (← h) at e)
      where
        last : (b : Bool) → and (not b) (no_double s) ≡ true → pick b (at 0) (further (double_return s)) ≡ nowhere
        last true e = false_true e
        last false e = ap further (i e)

-- NO CR LF IS LEFT where there is no CR CR LF
pub none_left : (s : List ℕ) → double_return s ≡ nowhere → no_cr_lf (replaced s) ≡ true
none_left s e = left s (none_found s e)

-- A TEXT WITHOUT CR LF is not refused as 10
pub none_twice : (s : List ℕ) → no_cr_lf s ≡ true → double_return s ≡ nowhere
none_twice s f = none_double s (no_double_lem s f)

-- CR LF becomes its LF
pub replaced_pair : (cs : List ℕ) → replaced ('carriage_return' ∷ 'newline' ∷ cs) ≡ 'newline' ∷ replaced cs
replaced_pair cs = refl

-- the replaced text is no longer
pub replaced_few : (s : List ℕ) → length (replaced s) ≤ length s
replaced_few [] = omega arith
replaced_few (c ∷ cs) = go (cr_lf c cs) (replaced_few cs)
  where
    go : (b : Bool) → length (replaced cs) ≤ length cs → length (pick b (replaced cs) (c ∷ replaced cs)) ≤ length (c ∷ cs)
    go true h = omega (arith, h)
    go false h = omega (arith, h)
