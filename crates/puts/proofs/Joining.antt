-- The pieces of things put one after the other: each right past those before it.
use Prim.Native.Nat.{ℕ, ◌+◌, ◌≤◌}
use mathlib.Core.Path.{◌≡◌, refl, sym, ap, ◌∙◌}
use mathlib.Core.List.{List, [], ◌∷◌, ◌++◌, append_assoc, append-nil}
use lib.ListN.{length, take, drop, length-append, take-append-drop}
use lib.Seq.{length-take-le}
use native.Mathlib.Omega.{arith}
use Rattle.puts.specs.Put.{Put}
use Rattle.puts.specs.Joined.{joined}
use Rattle.puts.proofs.Puts.{put_take, put_drop, put_length, kept_on}

-- SO FAR: what was put into the first n places and the pieces of the things left are all of it; the rest of the buffer is as it was
pub record Joining {A : Type 0} (f : A → List ℕ) (all before out : List ℕ) (n : ℕ) (left : List A) : Type 0 where
  pub whole : take n out ++ joined f left ≡ all
  pub kept : drop n out ≡ drop n before
  pub same : length out ≡ length before
  pub within : n ≤ length out

-- THE START
pub joining_none : {A : Type 0} (f : A → List ℕ) (before : List ℕ) (left : List A) → Joining f (joined f left) before before 0 left
joining_none f before left = record { whole = refl; kept = refl; same = refl; within = omega arith }

module _ {A : Type 0} {f : A → List ℕ} {all before out : List ℕ} {n : ℕ} where
  -- A TURN: the piece of the next thing is put
  module _ {x : A} {left : List A} (m : Joining f all before out n (x ∷ left)) where
    -- there is room for it where there is room for all
    pub joined_room : length all ≤ length before → n + length (f x) ≤ length out
    joined_room h = omega (arith, h, m.same, ap length m.whole, length-append (take n out) (f x ++ joined f left), length-append (f x) (joined f left), length-take-le n out m.within)

    pub joined_on : {p : List ℕ} {r : ℕ} → Put (f x) out n p r → Joining f all before p r left
    joined_on {p} {r} u = record {
      whole = ap (λ (l : List ℕ). l ++ joined f left) (put_take u) ∙ append_assoc (take n out) (f x) (joined f left) ∙ m.whole;
      kept = put_drop u ∙ kept_on out before n r m.kept (omega (arith, u.next));
      same = put_length u ∙ m.same;
      within = omega (arith, put_length u, u.room);
    }

  -- THE END: nothing is left
  module _ (m : Joining f all before out n []) where
    put_all : take n out ≡ all
    put_all = sym (append-nil (take n out)) ∙ m.whole

    pub joined_long : n ≡ length all
    joined_long = sym (length-take-le n out m.within) ∙ ap length put_all

    pub joined_all : out ≡ all ++ drop n before
    joined_all = sym (take-append-drop n out) ∙ ap (λ (l : List ℕ). l ++ drop n out) put_all ∙ ap (λ (l : List ℕ). all ++ l) m.kept
