-- Document 01, "Nothing left open": two answers that a promise allows for the same arguments are the same.
use Prim.Native.Nat.{ℕ}
use mathlib.Core.Path.{◌≡◌, refl, sym, ◌∙◌}
use mathlib.Core.Bool.{Bool}
use mathlib.Core.List.{List}
use denote.Bor.{Bor}
use Rattle.std.specs.Prelude.{Option, None, Some}
use Rattle.fields.proofs.cut.Reads as cut
use Rattle.fields.proofs.find.Reads as find
use Rattle.fields.proofs.is_word.Reads as word
use Rattle.fields.proofs.number_of.Reads as number

pub one_place : (κs : _) (a : _) (r q : ℕ) (x y : _) → find.Post κs a r x → find.Post κs a q y → r ≡ q
one_place κs a r q x y p e = p ∙ sym e

-- what is cut: the bytes before the mark and those behind it, wherever they are lent from
abbrev pub pieces_of : Option (Bor (List ℕ) × Bor (List ℕ)) → Option (List ℕ × List ℕ)
pieces_of None = None
pieces_of (Some (before, behind)) = Some (before.now, behind.now)

pub one_cut : (κs : _) (a : _) (r q : Option (Bor (List ℕ) × Bor (List ℕ))) (x y : _) → cut.Post κs a r x → cut.Post κs a q y → pieces_of r ≡ pieces_of q
one_cut κs a None None x y p e = refl
one_cut κs a None (Some v) x y p e = absurd (cc (p, e.marked))
one_cut κs a (Some u) None x y p e = absurd (cc (p.marked, e))
one_cut κs a (Some u) (Some v) x y p e = cc (p.before_it, p.behind_it, e.before_it, e.behind_it)

pub one_word : (κs : _) (a : _) (r q : Bool) (x y : _) → word.Post κs a r x → word.Post κs a q y → r ≡ q
one_word κs a r q x y p e = p ∙ sym e

pub one_number : (κs : _) (a : _) (r q : Option ℕ) (x y : _) → number.Post κs a r x → number.Post κs a q y → r ≡ q
one_number κs a r q x y p e = p ∙ sym e
