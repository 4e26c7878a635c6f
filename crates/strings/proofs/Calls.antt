-- The public calls, in the facts of the code.
use Prim.Native.Nat.{ℕ, ◌≤◌}
use mathlib.Core.Path.{◌≡◌, refl, sym, ap, ◌∙◌}
use mathlib.Core.Bool.{Bool, true, false}
use mathlib.Core.List.{List, [], ◌∷◌}
use lib.ListN.{length}
use lib.Dec.{eqb}
use borrow.Author.Tests.{ne_eqb}
use Rattle.basics.specs.Choice.{or}
use Rattle.std.specs.Prelude.{Ok, Err}
use Rattle.std.specs.List.{starts_with}
use Rattle.refusal.specs.declared.PlaceRefusal.TheVariants.{Position}
use Rattle.refusal.specs.Verdict.{Verdict, fine}
use Rattle.refusal.specs.Order.{first}
use Rattle.refusal.proofs.Orders.{first_1, first_2}
use Rattle.text.specs.Position.{on_boundary, starts_here}
use Rattle.text.specs.Verdicts.{too_long, utf8_verdict}
use Rattle.text.proofs.Positions.{boundary_byte}
use Rattle.text.proofs.Verdicts.{fine_long, fine_utf8}
use Rattle.ranges.proofs.Laws.{nothing_good}
use Rattle.ranges.specs.Rules.{list_verdict, Good}
use Rattle.classes.specs.Answers.{ident_verdict}
use Rattle.classes.proofs.Checks.{ident_starts, ident_continues}
use Rattle.eaters.specs.Look.{begins}
use Rattle.eaters.proofs.Begins.{begins_with}
use Rattle.token.specs.Lists.{Lists, lent}
use Rattle.token.specs.Names.{'b', 'c', 'r'}
use Rattle.strings.specs.declared.GuardedAt.{GuardedAt}
use Rattle.strings.specs.RawChecks.{is_prefix}
use Rattle.strings.specs.Guards.{guarded_at, guarded_answer}

-- THE PREFIX: the bytes at the front, by the library's word and by the book's
or_false : (t : Bool) → t ≡ or t false
or_false true = refl
or_false false = refl

module _ (s : List ℕ) {p : ℕ} where
  pub prefix_r : {t : Bool} → p ≡ 1 → t ≡ starts_with eqb s ('r' ∷ []) → t ≡ is_prefix s p
  unfolding is_prefix
  prefix_r e f = f ∙ begins_with ('r' ∷ []) s ∙ rw e (or_false (begins ('r' ∷ []) s))

  pub prefix_other : (p ≡ 1 → ⊥) → (p ≡ 2 → ⊥) → false ≡ is_prefix s p
  unfolding is_prefix
  prefix_other n m = rw (ne_eqb p 1 n, ne_eqb p 2 m)

  module _ (e : p ≡ 2) {t : Bool} (f : t ≡ starts_with eqb s ('b' ∷ 'r' ∷ [])) where
    two : is_prefix s p ≡ or t (begins ('c' ∷ 'r' ∷ []) s)
    unfolding is_prefix
    two = rw (e, f, begins_with ('b' ∷ 'r' ∷ []) s)

    pub prefix_b : t ≡ true → t ≡ is_prefix s p
    prefix_b k = k ∙ sym (two ∙ ap (λ (v : Bool). or v (begins ('c' ∷ 'r' ∷ []) s)) k)

    pub prefix_c : {u : Bool} → t ≡ false → u ≡ starts_with eqb s ('c' ∷ 'r' ∷ []) → u ≡ is_prefix s p
    prefix_c k g = g ∙ begins_with ('c' ∷ 'r' ∷ []) s ∙ sym (two ∙ ap (λ (v : Bool). or v (begins ('c' ∷ 'r' ∷ []) s)) k)

module _ (limit : ℕ) (s a b : List ℕ) {v : Verdict} (e : v ≡ ident_verdict limit s a b) (k : v ≡ fine) where
  both : first (too_long s) (first (first (list_verdict limit 0 a) (first (list_verdict limit 1 b) fine)) (utf8_verdict s)) ≡ fine
  unfolding ident_verdict
  both = sym e ∙ k

  pub guarded_lists : Good a × (Good b × Good [])
  guarded_lists = (ident_starts limit s a b e k, (ident_continues limit s a b e k, nothing_good))

  pub guarded_long : length s ≤ 4294967295
  guarded_long = fine_long s (first_1 (too_long s) _ both)

  module _ (at : ℕ) {t : Bool} (h : t ≡ starts_here s at) where
    boundary : t ≡ on_boundary s at
    boundary = h ∙ sym (boundary_byte s (fine_utf8 s (first_2 (first (list_verdict limit 0 a) (first (list_verdict limit 1 b) fine)) (utf8_verdict s) (first_2 (too_long s) _ both))) at)

    pub guarded_given : {L : Lists} {x : GuardedAt} → t ≡ true → L ≡ lent a b [] → x ≡ guarded_at L s at → Ok x ≡ guarded_answer limit s a b at
    guarded_given p l q = rw (← e, k, ← boundary, p, q, l)

    pub guarded_position : t ≡ false → Err (Position at) ≡ guarded_answer limit s a b at
    guarded_position p = rw (← e, k, ← boundary, p)
