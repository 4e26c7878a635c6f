-- After a letter that may be a prefix, and after a hash: modes GotR, GotRHash, GotK, GotNameHash, GotHash, GotB, GotC, GotBR.
use Rattle.std.specs.Prelude.{Option}
use Prim.Native.Nat.{ℕ, suc, ◌+◌}
use mathlib.Core.Path.{◌≡◌, refl, sym, ap, ◌∙◌}
use mathlib.Core.List.{List, ◌∷◌}
use mathlib.Core.Bool.{Bool, true, false}
use lib.ListN.{length, get_or, drop}
use borrow.Author.Tests.{eqb-true}
use native.Mathlib.Omega.{arith}
use Rattle.basics.specs.Choice.{pick}
use Rattle.classes.specs.Identifiers.{letter, id_continue}
use Rattle.classes.specs.Emoji.{emoji_char}
use Rattle.eaters.specs.Eat.{Got, give, eat, take_while, ◌>>=◌}
use Rattle.eaters.specs.Look.{if_at, if_two}
use Rattle.token.specs.declared.LiteralKind.{LiteralKind}
use Rattle.token.specs.declared.LiteralKind.TheVariants.{Byte, ByteStr, RawStr, RawByteStr}
use Rattle.token.specs.declared.TokenKind.{TokenKind}
use Rattle.token.specs.declared.TokenKind.TheVariants.{RawIdent, ForcedKeywordIdent}
use Rattle.token.specs.Names.{is, 'double', '#', 'single', 'r'}
use Rattle.token.specs.Lists.{Lists, starting, going}
use Rattle.token.specs.Literals.{identifier}
use Rattle.token.specs.Words.{ident_or_unknown_prefix}
use Rattle.token.specs.Prefixed.{hashed, after_r, after_k, after_c, after_b}
use Rattle.token.specs.Punctuation.{hash_or_quote}
use Rattle.machine.specs.declared.Mode.TheVariants.{InName, InString, GotR, GotRHash, GotK, GotNameHash, GotB, GotC, GotBR, GotHash, GotByteQuote, RawHashes, RawBody}
use Rattle.machine.specs.Machine.{taken, step}
use Rattle.machine.proofs.Eating.{not_not, one_add, more, here, or_no, two_no, two_not, two_yes, if_no}
use Rattle.machine.proofs.ByTokens.{whole, whole_literal, has_count, judged, keep}
use Rattle.machine.proofs.ToCome.{name_rest, string_rest, quoted_rest, raw_rest, hashes_rest, r_hash_rest, br_rest, hash_rest, name_hash_rest}
use Rattle.machine.proofs.Goes.{After, Keeps, cases, seen, kept, closes, kept_or}
use Rattle.machine.proofs.Literals.{identifier_view, suffix_yes, string_view, single_view}
use Rattle.machine.proofs.RawRule.{raw_view}
use Rattle.machine.proofs.Begins.{again, hash_again}
use Rattle.machine.proofs.Words.{ident_more, ident_none, at_ident_lem}
use Rattle.machine.proofs.RawStrings.{at_hashes}

module _ (L : Lists) where
  module _ (cs : List ℕ) where
    -- after r# and k#: a raw identifier or a forced keyword
    some_id : starting L (get_or cs 0 0) ≡ true → (identifier L cs).took ≡ suc (length (take_while (going L) (drop 1 cs)))
    some_id f = identifier_view L cs ∙ suffix_yes L cs f

    raw_ident : (t : TokenKind) → whole t ≡ true → starting L (get_or cs 0 0) ≡ true → judged (hashed L t ('#' ∷ cs)) ≡ more (more (name_rest L (drop 1 cs)))
    unfolding ◌>>=◌ eat give
    raw_ident t w f =
        let q : 1 + (identifier L cs).took + 0 ≡ suc (suc (length (take_while (going L) (drop 1 cs)))) = omega (arith, some_id f) in
        rw (w, q)

    r_id : starting L (get_or cs 0 0) ≡ true → judged (after_r L ('#' ∷ cs)) ≡ more (more (name_rest L (drop 1 cs)))
    r_id f = ap judged (two_yes (is '#') (starting L) _ _ '#' cs refl f) ∙ raw_ident RawIdent refl f

    k_id : starting L (get_or cs 0 0) ≡ true → judged (after_k L ('#' ∷ cs)) ≡ more (more (name_rest L (drop 1 cs)))
    k_id f = ap judged (two_yes (is '#') (starting L) _ _ '#' cs refl f) ∙ raw_ident ForcedKeywordIdent refl f

    k_none : starting L (get_or cs 0 0) ≡ false → judged (after_k L ('#' ∷ cs)) ≡ here
    k_none f = ap judged (two_not (is '#') (starting L) _ _ '#' cs f) ∙ ident_none L '#' cs (unfold id_continue letter in refl) (unfold emoji_char in refl)

  module _ (c : ℕ) (cs : List ℕ) where
    -- after r
    r_hash : is '#' c ≡ true → judged (after_r L (c ∷ cs)) ≡ more (r_hash_rest L cs)
    unfolding if_two if_at ◌>>=◌ eat give
    r_hash e = rw (eqb-true c '#' e) (go (starting L (get_or cs 0 0)) refl)
      where
        go : (s : Bool) → starting L (get_or cs 0 0) ≡ s → judged (after_r L ('#' ∷ cs)) ≡ more (pick s (more (name_rest L (drop 1 cs))) (hashes_rest L 1 cs))
        go true f = r_id cs f
        go false f = rw f (raw_view L RawStr (λ h. refl) 1 ('#' ∷ cs))

    r_quote : is 'double' c ≡ true → judged (after_r L (c ∷ cs)) ≡ more (raw_rest L 0 cs)
    unfolding if_two if_at
    r_quote e = rw (eqb-true c 'double' e) (raw_view L RawStr (λ h. refl) 1 ('double' ∷ cs))

    r_else : is '#' c ≡ false → is 'double' c ≡ false → judged (after_r L (c ∷ cs)) ≡ judged (ident_or_unknown_prefix L (c ∷ cs))
    r_else e f = ap judged (two_no (is '#') (starting L) _ _ c cs e ∙ if_no hash_or_quote _ _ c cs (or_no e f))

    -- after k
    k_else : is '#' c ≡ false → judged (after_k L (c ∷ cs)) ≡ judged (ident_or_unknown_prefix L (c ∷ cs))
    k_else e = ap judged (two_no (is '#') (starting L) _ _ c cs e)

    -- after b or c; mk and raw: the literals with this prefix
    c_string : (mk : Bool → LiteralKind) (raw : Option ℕ → LiteralKind) → ((b : Bool) → whole_literal (mk b) ≡ b) → is 'double' c ≡ true → judged (after_c L mk raw (c ∷ cs)) ≡ more (string_rest L cs)
    unfolding if_at ◌>>=◌ eat
    c_string mk raw w e = rw (eqb-true c 'double' e, one_add) (ap more (string_view L 2 mk cs w))

    c_r : (mk : Bool → LiteralKind) (raw : Option ℕ → LiteralKind) → ((h : Option ℕ) → whole_literal (raw h) ≡ has_count h) → is 'r' c ≡ true → judged (after_c L mk raw (c ∷ cs)) ≡ more (br_rest L cs)
    unfolding if_two if_at ◌>>=◌ eat
    c_r mk raw w e = rw (eqb-true c 'r' e) (go (hash_or_quote (get_or cs 0 0)) refl)
      where
        go : (s : Bool) → hash_or_quote (get_or cs 0 0) ≡ s → judged (after_c L mk raw ('r' ∷ cs)) ≡ more (pick s (hashes_rest L 0 cs) (judged (ident_or_unknown_prefix L cs)))
        go true f = rw (f, one_add) (ap more (raw_view L raw w 2 cs))
        go false f = rw f (ident_more L 'r' cs (unfold id_continue letter in refl))

    c_else : (mk : Bool → LiteralKind) (raw : Option ℕ → LiteralKind) → is 'double' c ≡ false → is 'r' c ≡ false → judged (after_c L mk raw (c ∷ cs)) ≡ judged (ident_or_unknown_prefix L (c ∷ cs))
    c_else mk raw e f = ap judged (if_no (is 'double') _ _ c cs e ∙ two_no (is 'r') hash_or_quote _ _ c cs f)

    -- after b
    b_quote : is 'single' c ≡ true → judged (after_b L (c ∷ cs)) ≡ more (quoted_rest L cs)
    unfolding if_at ◌>>=◌ eat
    b_quote e = rw (eqb-true c 'single' e, one_add) (ap more (single_view L 2 Byte cs not_not))

    b_else : is 'single' c ≡ false → judged (after_b L (c ∷ cs)) ≡ judged (after_c L ByteStr RawByteStr (c ∷ cs))
    b_else e = ap judged (if_no (is 'single') _ _ c cs e)

    br_else : is 'double' c ≡ false → is '#' c ≡ false → br_rest L (c ∷ cs) ≡ judged (ident_or_unknown_prefix L (c ∷ cs))
    br_else e f = ap (λ (b : Bool). pick b (hashes_rest L 0 (c ∷ cs)) (judged (ident_or_unknown_prefix L (c ∷ cs)))) (or_no f e)

  module _ (st p c : ℕ) (cs : List ℕ) where
    pub at_r : Keeps L st p c cs (step L st p GotR c) (judged (after_r L (c ∷ cs)))
    at_r =
        cases (is '#' c) (λ e. kept GotRHash (r_hash_rest L cs) refl (r_hash c cs e))
        (λ e. cases (is 'double' c) (λ f. kept (RawBody 0) (raw_rest L 0 cs) refl (r_quote c cs f)) (λ f. seen (at_ident_lem L st p c cs) (r_else c cs e f)))

    pub at_r_hash : Keeps L st p c cs (step L st p GotRHash c) (r_hash_rest L (c ∷ cs))
    at_r_hash = kept_or (starting L c) InName (name_rest L cs) refl (at_hashes L st p c cs 1)

    -- a hash after k or 'r: a name comes, or the hash begins a token of its own
    pub hash_after : {g : Got Bool} → (starting L (get_or cs 0 0) ≡ true → g ≡ more (more (name_rest L (drop 1 cs)))) → (starting L (get_or cs 0 0) ≡ false → g ≡ here) → is '#' c ≡ true → Keeps L st p c cs (taken c GotNameHash st) g
    unfolding After
    hash_after {g} h k e = rw (eqb-true c '#' e) (go (starting L (get_or cs 0 0)) refl)
      where
        go : (s : Bool) → starting L (get_or cs 0 0) ≡ s → Keeps L st p '#' cs (taken '#' GotNameHash st) g
        go true f = kept GotNameHash (more (name_rest L (drop 1 cs))) (rw f) (h f)
        go false f = record { is_so = rw f (hash_again L st p cs) ∙ ap (λ (z : Got Bool). keep L st p z ('#' ∷ cs)) (sym (k f)) }

    pub at_k : Keeps L st p c cs (step L st p GotK c) (judged (after_k L (c ∷ cs)))
    at_k = cases (is '#' c) (λ e. hash_after (λ f. ap (λ (x : ℕ). judged (after_k L (x ∷ cs))) (eqb-true c '#' e) ∙ k_id cs f) (λ f. ap (λ (x : ℕ). judged (after_k L (x ∷ cs))) (eqb-true c '#' e) ∙ k_none cs f) e) (λ e. seen (at_ident_lem L st p c cs) (k_else c cs e))

    pub at_hash : Keeps L st p c cs (step L st p GotHash c) (hash_rest (c ∷ cs))
    at_hash = cases (hash_or_quote c) (λ e. closes (rw e)) (λ e. again (rw e))

    pub at_name_hash : Keeps L st p c cs (step L st p GotNameHash c) (name_hash_rest L (c ∷ cs))
    at_name_hash = kept_or (starting L c) InName (name_rest L cs) refl at_hash

    pub at_c : (mk : Bool → LiteralKind) (raw : Option ℕ → LiteralKind) → ((b : Bool) → whole_literal (mk b) ≡ b) → ((h : Option ℕ) → whole_literal (raw h) ≡ has_count h) → Keeps L st p c cs (step L st p GotC c) (judged (after_c L mk raw (c ∷ cs)))
    at_c mk raw w v =
        cases (is 'double' c) (λ e. kept InString (string_rest L cs) refl (c_string c cs mk raw w e))
        (λ e. cases (is 'r' c) (λ f. kept GotBR (br_rest L cs) refl (c_r c cs mk raw v f)) (λ f. seen (at_ident_lem L st p c cs) (c_else c cs mk raw e f)))

    pub at_b : Keeps L st p c cs (step L st p GotB c) (judged (after_b L (c ∷ cs)))
    at_b = cases (is 'single' c) (λ e. kept GotByteQuote (quoted_rest L cs) refl (b_quote c cs e)) (λ e. seen (at_c ByteStr RawByteStr not_not (λ h. refl)) (b_else c cs e))

    pub at_br : Keeps L st p c cs (step L st p GotBR c) (br_rest L (c ∷ cs))
    at_br =
        cases (is 'double' c) (λ e. kept (RawBody 0) (raw_rest L 0 cs) refl (rw (eqb-true c 'double' e)))
        (λ e. cases (is '#' c) (λ f. kept (RawHashes 1) (hashes_rest L 1 cs) refl (rw (eqb-true c '#' f))) (λ f. seen (at_ident_lem L st p c cs) (br_else c cs e f)))
