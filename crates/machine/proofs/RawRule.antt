-- What the book's rule of raw strings takes is what is to come after its prefix: for the modes RawHashes, GotRHash and GotBR, in which one begins.
use Rattle.std.specs.Prelude.{Option, None, Some}
use Prim.Native.Nat.{ℕ, suc, ◌+◌}
use mathlib.Core.Path.{◌≡◌, refl, ap, ◌∙◌}
use mathlib.Core.List.{List, [], ◌∷◌}
use mathlib.Core.Bool.{Bool, true, false}
use lib.ListN.{length, get_or, drop, take}
use lib.Dec.{ltb}
use native.Mathlib.Omega.{arith}
use native.Mathlib.Nat.{add-zero}
use Rattle.basics.specs.Choice.{pick, and}
use Rattle.basics.proofs.Sums.{zero_plus}
use Rattle.eaters.specs.Eat.{Got, give, eat, eat_any, take_while, while, ◌>>=◌}
use Rattle.eaters.specs.Look.{if_at}
use Rattle.eaters.specs.Scan.{first_with}
use Rattle.token.specs.declared.LiteralKind.{LiteralKind}
use Rattle.token.specs.Names.{is, 'double', '#'}
use Rattle.token.specs.Lists.{Lists}
use Rattle.token.specs.Literals.{literal}
use Rattle.token.specs.RawStrings.{counted, uncounted, raw_string}
use Rattle.machine.proofs.Eating.{suc_add, one_add, more}
use Rattle.machine.proofs.ByTokens.{whole_literal, has_count, judged}
use Rattle.machine.proofs.ToCome.{unended, capped, then_suffix, raw_rest, hashes_rest}
use Rattle.machine.proofs.Literals.{lit_more, lit_view}

module _ (L : Lists) where
  -- the rule, after n hashes that were read before
  abbrev open_of : ℕ → List ℕ → Got Bool
  open_of n cs =
      let h = length (take_while (is '#') cs) in
      pick (is 'double' (get_or (drop h cs) 0 0))
      (record { took = h + suc (first_with 'double' '#' (h + n) (drop 1 (drop h cs))).took; said = and (first_with 'double' '#' (h + n) (drop 1 (drop h cs))).said (ltb (h + n) 256) })
      (record { took = h + length (take 1 (drop h cs)); said = false })

  -- its hashes, one by one
  open_view : (n : ℕ) (cs : List ℕ) → then_suffix L (open_of n cs) cs ≡ hashes_rest L n cs
  open_view n [] = refl
  open_view n (c ∷ cs) = go (is '#' c) refl (is 'double' c) refl (open_view (suc n) cs)
    where
      hop : is '#' c ≡ true → open_of n (c ∷ cs) ≡ more (open_of (suc n) cs)
      hop e =
          let h : ℕ = length (take_while (is '#') cs) in
          let q : suc h + n ≡ h + suc n = omega arith in
          rw (e, q) (say (is 'double' (get_or (drop h cs) 0 0)))
        where
          say : (s : Bool) → (let h = length (take_while (is '#') cs) in
              ◌≡◌ {A = Got Bool} (pick s (record { took = suc h + suc (first_with 'double' '#' (h + suc n) (drop 1 (drop h cs))).took; said = and (first_with 'double' '#' (h + suc n) (drop 1 (drop h cs))).said (ltb (h + suc n) 256) }) (record { took = suc h + length (take 1 (drop h cs)); said = false }))
              (more (pick s (record { took = h + suc (first_with 'double' '#' (h + suc n) (drop 1 (drop h cs))).took; said = and (first_with 'double' '#' (h + suc n) (drop 1 (drop h cs))).said (ltb (h + suc n) 256) }) (record { took = h + length (take 1 (drop h cs)); said = false }))))
          say true = rw suc_add
          say false = rw suc_add

      go : (s : Bool) → is '#' c ≡ s → (t : Bool) → is 'double' c ≡ t → then_suffix L (open_of (suc n) cs) cs ≡ hashes_rest L (suc n) cs → then_suffix L (open_of n (c ∷ cs)) (c ∷ cs) ≡ pick s (more (hashes_rest L (suc n) cs)) (pick t (more (raw_rest L n cs)) (more unended))
      go true e t f i = ap (λ (g : Got Bool). then_suffix L g (c ∷ cs)) (hop e) ∙ lit_more L (open_of (suc n) cs) c cs ∙ ap more i
      go false e true f i = rw (e, f, zero_plus, zero_plus) (lit_more L (capped n (first_with 'double' '#' n cs)) c cs)
      go false e false f i = rw (e, f)

  module _ (mk : Option ℕ → LiteralKind) (w : (h : Option ℕ) → whole_literal (mk h) ≡ has_count h) where
    -- whether a raw string ended, by its kind
    suffixed_so : (found : Bool) (n : ℕ) → (pick found (counted mk n) (uncounted mk)).suffixed ≡ found
    suffixed_so true n = refl
    suffixed_so false n = refl

    -- without hashes before, it is the rule of the book
    raw_got : (cs : List ℕ) → ◌≡◌ {A = Got Bool} (record { took = (raw_string mk cs).took; said = (raw_string mk cs).said.suffixed }) (open_of 0 cs)
    unfolding ◌>>=◌ while give if_at eat eat_any
    raw_got cs = rw (add-zero (length (take_while (is '#') cs))) (go (is 'double' (get_or (drop (length (take_while (is '#') cs)) cs) 0 0)) refl)
      where
        h : ℕ
        h = length (take_while (is '#') cs)

        go : (s : Bool) → is 'double' (get_or (drop h cs) 0 0) ≡ s → ◌≡◌ {A = Got Bool} (record { took = (raw_string mk cs).took; said = (raw_string mk cs).said.suffixed })
            (pick s (record { took = h + suc (first_with 'double' '#' h (drop 1 (drop h cs))).took; said = and (first_with 'double' '#' h (drop 1 (drop h cs))).said (ltb h 256) }) (record { took = h + length (take 1 (drop h cs)); said = false }))
        go true e = rw (e, add-zero (first_with 'double' '#' h (drop 1 (drop h cs))).took, one_add, suffixed_so (and (first_with 'double' '#' h (drop 1 (drop h cs))).said (ltb h 256)) h)
        go false e = rw (e, add-zero (length (take 1 (drop h cs))))

    of_kind : (found : Bool) (n : ℕ) → whole_literal (pick found (counted mk n) (uncounted mk)).kind ≡ (pick found (counted mk n) (uncounted mk)).suffixed
    of_kind true n = w (Some n)
    of_kind false n = w None

    raw_whole : (cs : List ℕ) → whole_literal (raw_string mk cs).said.kind ≡ (raw_string mk cs).said.suffixed
    unfolding ◌>>=◌ while give if_at eat eat_any
    raw_whole cs = go (is 'double' (get_or (drop h cs) 0 0)) refl
      where
        h : ℕ
        h = length (take_while (is '#') cs)

        go : (s : Bool) → is 'double' (get_or (drop h cs) 0 0) ≡ s → whole_literal (raw_string mk cs).said.kind ≡ (raw_string mk cs).said.suffixed
        go true e = rw e (of_kind (and (first_with 'double' '#' h (drop 1 (drop h cs))).said (ltb h 256)) h)
        go false e = rw e (w None)

    -- A RAW STRING with its suffix
    pub raw_view : (k : ℕ) (cs : List ℕ) → judged (literal L k (raw_string mk) cs) ≡ hashes_rest L 0 cs
    raw_view k cs = lit_view L k (raw_string mk) cs (raw_whole cs) ∙ ap (λ (g : Got Bool). then_suffix L g cs) (raw_got cs) ∙ open_view 0 cs
