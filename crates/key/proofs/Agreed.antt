-- THE KEY IS CANONICAL, in the words of document 01: whether two texts mean the same is said by `Agree`, which does not use what the key is written from.
use Rattle.std.specs.Prelude.{Ok}
use Prim.Native.Nat.{ℕ}
use mathlib.Core.Path.{◌≡◌, refl, ap, ◌∙◌}
use mathlib.Core.Logic.{◌↔◌}
use mathlib.Core.List.{List}
use lib.ListN.{length, take, drop}
use lib.Seq.{drop_at}
use Rattle.token.specs.Lists.{Lists}
use Rattle.line_ends.specs.LineEnds.{replaced}
use Rattle.canon.specs.Key.{key_of}
use Rattle.canon.specs.Agree.{Agree}
use Rattle.canon.proofs.Agreeing.{agree_is}
use Rattle.key.specs.Answers.{KeyAnswer}
use Rattle.key.specs.Answers.{Keying}
use Rattle.key.specs.Valid.{HasKey}
use Rattle.key.proofs.Canonical.{wrote_key, same_keys}
use Rattle.key.proofs.Valids.{answers_keyed, keyed}

-- WHAT THE BUFFER HOLDS after a call that has a key to write and room for it: the key, and past it what was there
module _ {limit : ℕ} {s : List ℕ} {L : Lists} {before after : List ℕ} {r : KeyAnswer} (h : HasKey limit s L before) (k : Keying limit s L before after r) where
  pub holds_key : take (length (key_of L (replaced s))) after ≡ key_of L (replaced s)
  holds_key = wrote_key (keyed h k)

  pub keeps_rest : drop (length (key_of L (replaced s))) after ≡ drop (length (key_of L (replaced s))) before
  keeps_rest = ap (drop (length (key_of L (replaced s)))) (keyed h k).holds ∙ drop_at (key_of L (replaced s)) (drop (length (key_of L (replaced s))) before) (length (key_of L (replaced s))) refl

-- TWO CALLS with the same lists that answered `Ok`: they wrote the same bytes exactly when the replaced texts agree
pub agreed_keys : {limit : ℕ} {s t : List ℕ} {L : Lists} {before after before' after' : List ℕ} {n m : ℕ} → Keying limit s L before after (Ok n) → Keying limit t L before' after' (Ok m)
    → (take n after ≡ take m after') ↔ Agree L (replaced s) (replaced t)
agreed_keys {limit} {s} {t} {L} j k =
    let c = same_keys j k in
    let a = agree_is L (replaced s) (replaced t) in
    ((λ e. a.1 (c.0 e)), (λ x. c.1 (a.0 x)))

-- TWO VALID TEXTS without CR CR LF, hidden marks and broken tokens, the same valid lists, and room for each key: both calls answer `Ok` with their key's bytes, and they wrote the same
-- bytes exactly when the replaced texts agree
module _ {limit : ℕ} {s t : List ℕ} {L : Lists} {before after before' after' : List ℕ} {r q : KeyAnswer} (a : HasKey limit s L before) (b : HasKey limit t L before') (j : Keying limit s L before after r) (k : Keying limit t L before' after' q) where
  pub both_keyed : (r ≡ Ok (length (key_of L (replaced s)))) × (q ≡ Ok (length (key_of L (replaced t))))
  both_keyed = (answers_keyed a j, answers_keyed b k)

  pub both_agree : (take (length (key_of L (replaced s))) after ≡ take (length (key_of L (replaced t))) after') ↔ Agree L (replaced s) (replaced t)
  both_agree = agreed_keys (keyed a j) (keyed b k)
