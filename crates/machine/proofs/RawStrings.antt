-- Raw strings: modes RawHashes, RawBody, RawEnd.
use Prim.Native.Nat.{ℕ, zero, suc}
use mathlib.Core.Path.{◌≡◌, refl}
use mathlib.Core.List.{List, ◌∷◌}
use mathlib.Core.Bool.{Bool, true, false}
use lib.Dec.{ltb}
use borrow.Author.Tests.{eqb-true}
use Rattle.basics.specs.Choice.{pick}
use Rattle.basics.proofs.Sums.{zero_plus}
use Rattle.eaters.specs.Scan.{run, first_with}
use Rattle.token.specs.Names.{is, 'double', '#'}
use Rattle.token.specs.Lists.{Lists}
use Rattle.machine.specs.declared.Mode.TheVariants.{Suffix, Broken, RawHashes, RawBody, RawEnd}
use Rattle.machine.specs.Machine.{taken, raw_at, at_raw, step}
use Rattle.machine.proofs.Eating.{more}
use Rattle.machine.proofs.ToCome.{capped, suffix_rest, then_suffix, raw_rest, raw_end_rest, hashes_rest, unended}
use Rattle.machine.proofs.Goes.{Keeps, cases, seen, kept, lost, lost_in, kept_or}
use Rattle.machine.proofs.Literals.{lit_more}

module _ (L : Lists) where
  module _ (c : ℕ) (cs : List ℕ) where
    -- in the body: a quote, or another character
    raw_quote : (n : ℕ) → is 'double' c ≡ true → raw_rest L n (c ∷ cs) ≡ more (raw_end_rest L n n cs)
    unfolding first_with
    raw_quote n e = rw e (go (run '#' n cs))
      where
        go : (s : Bool) → then_suffix L (capped n (pick s (record { took = suc n; said = true }) (more (first_with 'double' '#' n cs)))) (c ∷ cs) ≡ more (then_suffix L (capped n (pick s (record { took = n; said = true }) (first_with 'double' '#' n cs))) cs)
        go true = lit_more L (capped n (record { took = n; said = true })) c cs
        go false = lit_more L (capped n (first_with 'double' '#' n cs)) c cs

    raw_more : (n : ℕ) → is 'double' c ≡ false → raw_rest L n (c ∷ cs) ≡ more (raw_rest L n cs)
    unfolding first_with
    raw_more n e = rw e (lit_more L (capped n (first_with 'double' '#' n cs)) c cs)

    -- in what may be its end: a hash, or another character
    close_hash : (n j : ℕ) → is '#' c ≡ true → raw_end_rest L n (suc j) (c ∷ cs) ≡ more (raw_end_rest L n j cs)
    unfolding first_with
    close_hash n j e = rw (eqb-true c '#' e) (go (run '#' j cs))
      where
        go : (s : Bool) → then_suffix L (capped n (pick s (record { took = suc j; said = true }) (more (first_with 'double' '#' n cs)))) ('#' ∷ cs) ≡ more (then_suffix L (capped n (pick s (record { took = j; said = true }) (first_with 'double' '#' n cs))) cs)
        go true = lit_more L (capped n (record { took = j; said = true })) '#' cs
        go false = lit_more L (capped n (first_with 'double' '#' n cs)) '#' cs

  module _ (st p c : ℕ) (cs : List ℕ) where
    pub at_hashes : (n : ℕ) → Keeps L st p c cs (step L st p (RawHashes n) c) (hashes_rest L n (c ∷ cs))
    at_hashes n = kept_or (is '#' c) (RawHashes (suc n)) (hashes_rest L (suc n) cs) refl (kept_or (is 'double' c) (RawBody n) (raw_rest L n cs) refl (lost (more unended) refl))

    -- a quote or hash after which j hashes are to come
    at_close : (n j : ℕ) → Keeps L st p c cs (taken c (raw_at n j) st) (more (raw_end_rest L n j cs))
    at_close n zero = go (ltb n 256) refl
      where
        go : (s : Bool) → ltb n 256 ≡ s → Keeps L st p c cs (taken c (pick s Suffix Broken) st) (more (raw_end_rest L n 0 cs))
        go true e =
            let q : more (raw_end_rest L n 0 cs) ≡ more (suffix_rest L cs) = rw (e, zero_plus) in
            kept Suffix (suffix_rest L cs) refl q
        go false e = lost_in Broken (more (raw_end_rest L n 0 cs)) refl (rw e)
    at_close n (suc j) = kept (RawEnd n j) (raw_end_rest L n (suc j) cs) refl refl

    pub at_raw_lem : (n : ℕ) → Keeps L st p c cs (at_raw st n c) (raw_rest L n (c ∷ cs))
    at_raw_lem n = cases (is 'double' c) (λ e. seen (at_close n n) (raw_quote c cs n e)) (λ e. kept (RawBody n) (raw_rest L n cs) refl (raw_more c cs n e))

    pub at_raw_end : (n j : ℕ) → Keeps L st p c cs (step L st p (RawEnd n j) c) (raw_end_rest L n (suc j) (c ∷ cs))
    at_raw_end n j = cases (is '#' c) (λ e. seen (at_close n j) (close_hash c cs n j e)) (λ e. seen (at_raw_lem n) (rw e))
