-- Raw strings, from their hashes on, in the facts of the code.
use Prim.Native.Nat.{ℕ}
use mathlib.Core.Path.{◌≡◌, refl, ap, subst, ◌∙◌}
use mathlib.Core.Bool.{Bool, true, false}
use mathlib.Core.List.{List, [], ◌∷◌}
use lib.ListN.{length, get_or, take, drop}
use borrow.Author.Tests.{ne_eqb}
use lib.Dec.{ltb}
use Rattle.basics.specs.Choice.{pick, and}
use Rattle.eaters.specs.Eat.{give, eat_any, take_while, ◌>>◌}
use Rattle.eaters.specs.Scan.{first_with}
use Rattle.std.specs.Prelude.{Option, None, Some}
use Rattle.token.specs.declared.LiteralKind.{LiteralKind}
use Rattle.token.specs.Names.{is, '#', 'double'}
use Rattle.token.specs.Literals.{Body}
use Rattle.token.specs.RawStrings.{counted, uncounted, raw_end, raw_rest, after_hashes, raw_string}
use Rattle.cursor.specs.declared.Cursor.{Cursor}
use Rattle.cursor.specs.declared.Repeated.{Repeated}
use Rattle.cursor.specs.Cursors.{rest}
use Rattle.cursor.specs.Moved.{Moved, arrive}
use Rattle.cursor.specs.Ran.{Ran}
use Rattle.cursor.specs.Counted.{Counted}
use Rattle.cursor.proofs.Runs.{ran_word, ran_give, ran_bind, ran_then, ran_say, ran_no, ran_take}
use Rattle.cursor.proofs.Loops.{ran_while}
use Rattle.quoted.specs.Raws.{RawRan, raw_body}

-- one character, if there is one
any_bump : (cs : List ℕ) → drop 1 cs ≡ drop (length (take 1 cs)) cs
any_bump [] = refl
any_bump (c ∷ cs) = refl

ran_any : {s : List ℕ} {a b : Cursor} → Moved s a b (drop 1 (rest s a)) → Ran eat_any s a b tt
unfolding eat_any
ran_any {s} {a} m = record { moved = arrive m (any_bump (rest s a)); said = refl }

module _ {s : List ℕ} {a : Cursor} {h : Repeated} (g : Counted '#' s a h) {c : ℕ} (e : c ≡ get_or (rest s h.next) 0 0) {b : Cursor} (m : Moved s h.next b (drop 1 (rest s h.next))) where
  hashes : (kind : Option ℕ → LiteralKind) {d : Cursor} {x : Body} → Ran (after_hashes kind (length (take_while (is '#') (rest s a)))) s h.next d x → Ran (raw_string kind) s a d x
  hashes kind r = ran_bind (λ (l : List ℕ). after_hashes kind (length l)) (ran_while (is '#') g.moved) r

  -- another character after the hashes
  pub bad_start : (c ≡ 0x22 → ⊥) → RawRan s a (record { next = b; count = None })
  bad_start q = record { ran = λ kind. hashes kind (ran_no _ (eat_any >> give (uncounted kind)) (is 'double') e (ne_eqb c 0x22 q) (ran_then (ran_any m) (ran_give (uncounted kind) s b))) }

  module _ (q : c ≡ 0x22) {d : Cursor} {t : Bool} (r : Ran (first_with 'double' '#' h.count) s b d t) where
    body : (kind : Option ℕ → LiteralKind) → Ran (raw_string kind) s a d (raw_end kind h.count t)
    body kind =
        hashes kind (subst (λ (n : ℕ). Ran (after_hashes kind n) s h.next d (raw_end kind h.count t)) g.count
        (ran_take (raw_rest kind h.count) _ (is 'double') e (rw q) m (ran_say (raw_end kind h.count) r)))

    pub raw_ran : {k : Option ℕ} → k ≡ pick (and t (ltb h.count 256)) (Some h.count) None → RawRan s a (record { next = d; count = k })
    raw_ran {k} z = record { ran = λ kind. ran_word (body kind) (ap (raw_body kind) z ∙ end_body kind (and t (ltb h.count 256))) }
      where
        end_body : (kind : Option ℕ → LiteralKind) (u : Bool) → raw_body kind (pick u (Some h.count) None) ≡ pick u (counted kind h.count) (uncounted kind)
        end_body kind true = refl
        end_body kind false = refl
