-- The rules of words, from the runs of their scans, in the facts of the code.
use Prim.Native.Nat.{ℕ}
use mathlib.Core.Path.{◌≡◌, sym, ◌∙◌}
use mathlib.Core.Bool.{Bool, true, false}
use mathlib.Core.List.{List}
use lib.ListN.{get_or, drop}
use Rattle.eaters.specs.Eat.{Eater, give, nothing, while, ◌>>◌}
use Rattle.eaters.specs.Look.{if_at}
use Rattle.token.specs.declared.TokenKind.{TokenKind}
use Rattle.token.specs.declared.TokenKind.TheVariants.{Ident, InvalidIdent, UnknownPrefix}
use Rattle.token.specs.Lists.{Lists, starting, going, smiling}
use Rattle.token.specs.Literals.{identifier}
use Rattle.token.specs.Words.{in_invalid, invalid_ident, prefix_mark, ident_or_unknown_prefix}
use Rattle.cursor.specs.declared.Cursor.{Cursor}
use Rattle.cursor.specs.Cursors.{rest}
use Rattle.cursor.specs.Moved.{Moved}
use Rattle.cursor.specs.Ran.{left, Ran}
use Rattle.cursor.proofs.Runs.{ran_give, ran_then, ran_yes, ran_no, ran_take}
use Rattle.cursor.proofs.Loops.{ran_while}

pub invalid_in : (L : Lists) {s : List ℕ} {a b : Cursor} → Moved s a b (left (while (in_invalid L)) (rest s a)) → Ran (invalid_ident L) s a b InvalidIdent
invalid_in L {s} {a} {b} k = ran_then (ran_while (in_invalid L) k) (ran_give InvalidIdent s b)

-- an identifier, if there is one
module _ (L : Lists) {s : List ℕ} {a b : Cursor} {c : ℕ} {t : Bool} (e : c ≡ get_or (rest s a) 0 0) (f : t ≡ starting L c) where
  pub identifier_in : {d : Cursor} → t ≡ true → Moved s a b (drop 1 (rest s a)) → Moved s b d (left (while (going L)) (rest s b)) → Ran (identifier L) s a d tt
  identifier_in {d} h m k =
      ran_take (while (going L) >> nothing) nothing (starting L) e (sym f ∙ h) m (ran_then (ran_while (going L) k) (ran_give tt s d))

pub identifier_none : (L : Lists) {s : List ℕ} {a : Cursor} {c : ℕ} {t : Bool} → c ≡ get_or (rest s a) 0 0 → t ≡ starting L c → t ≡ false → Ran (identifier L) s a a tt
identifier_none L {s} {a} e f h = ran_no _ nothing (starting L) e (sym f ∙ h) (ran_give tt s a)

-- after an identifier
abbrev rest_rule : Lists → Eater TokenKind
rest_rule L = if_at prefix_mark (give UnknownPrefix) (if_at (smiling L) (invalid_ident L) (give Ident))

module _ (L : Lists) {s : List ℕ} {a b : Cursor} (k : Moved s a b (left (while (going L)) (rest s a))) {c : ℕ} (e : c ≡ get_or (rest s b) 0 0) where
  word : {d : Cursor} {x : TokenKind} → Ran (rest_rule L) s b d x → Ran (ident_or_unknown_prefix L) s a d x
  word r = ran_then (ran_while (going L) k) r

  module _ {p : Bool} (g : p ≡ prefix_mark c) where
    pub prefix_in : p ≡ true → Ran (ident_or_unknown_prefix L) s a b UnknownPrefix
    prefix_in h = word (ran_yes (give UnknownPrefix) _ prefix_mark e (sym g ∙ h) (ran_give UnknownPrefix s b))

    module _ (n : p ≡ false) {t : Bool} (f : t ≡ smiling L c) where
      pub emoji_in : {d : Cursor} {x : TokenKind} → t ≡ true → Ran (invalid_ident L) s b d x → Ran (ident_or_unknown_prefix L) s a d x
      emoji_in h r = word (ran_no _ _ prefix_mark e (sym g ∙ n) (ran_yes (invalid_ident L) _ (smiling L) e (sym f ∙ h) r))

      pub ident_in : t ≡ false → Ran (ident_or_unknown_prefix L) s a b Ident
      ident_in h = word (ran_no _ _ prefix_mark e (sym g ∙ n) (ran_no _ (give Ident) (smiling L) e (sym f ∙ h) (ran_give Ident s b)))
