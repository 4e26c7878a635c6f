-- TWO TEXTS AGREE exactly when they have the same meaning, and so exactly when they have the same key.
use Prim.Native.Nat.{ℕ, suc}
use mathlib.Core.Path.{◌≡◌, refl, sym, ap, ◌∙◌}
use mathlib.Core.Logic.{◌↔◌}
use mathlib.Core.Bool.{Bool, true, false}
use mathlib.Core.List.{List, [], ◌∷◌}
use lib.ListN.{length}
use Rattle.basics.specs.Choice.{pick}
use Rattle.token.specs.Lists.{Lists}
use Rattle.token.specs.Trivia.{is_trivia}
use Rattle.canon.specs.Keyable.{Keyable}
use Rattle.canon.specs.Meaning.{Item, gap, meant, gap_before, meaning}
use Rattle.canon.specs.Key.{key_of}
use Rattle.canon.specs.Fair.{Fair}
use Rattle.canon.specs.Spelled.{Said}
use Rattle.canon.specs.Agree.{said_in, not_trivia, gaps_with, gaps, Agree}
use Rattle.canon.proofs.Spelling.{items_said}
use Rattle.canon.proofs.Written.{meaning_said}
use Rattle.canon.proofs.Canon.{canonical}

-- there is one flag more than there are meaningful tokens
pub one_more : (g : Bool) (ts : List Said) → length (gaps_with g ts) ≡ suc (length (not_trivia ts))
one_more g [] = refl
one_more g (t ∷ ts) = go (is_trivia t.kind) (one_more true ts) (one_more false ts)
  where
    go : (b : Bool) → length (gaps_with true ts) ≡ suc (length (not_trivia ts)) → length (gaps_with false ts) ≡ suc (length (not_trivia ts))
        → length (pick b (gaps_with true ts) (g ∷ gaps_with false ts)) ≡ suc (length (pick b (not_trivia ts) (t ∷ not_trivia ts)))
    go true i j = i
    go false i j = ap suc j

-- FROM ITEMS: the meaningful tokens, and the flags
abbrev meants : List Item → List Said
meants [] = []
meants (gap ∷ is) = meants is
meants (meant k bytes ∷ is) = record { kind = k; bytes = bytes } ∷ meants is

abbrev flags : Bool → List Item → List Bool
flags g [] = g ∷ []
flags g (gap ∷ is) = flags true is
flags g (meant k bytes ∷ is) = g ∷ flags false is

meants_gap : (m : List Item) → meants (gap_before m) ≡ meants m
meants_gap [] = refl
meants_gap (gap ∷ is) = refl
meants_gap (meant k bytes ∷ is) = refl

flags_gap : (g : Bool) (m : List Item) → flags g (gap_before m) ≡ flags true m
flags_gap g [] = refl
flags_gap g (gap ∷ is) = refl
flags_gap g (meant k bytes ∷ is) = refl

meants_of : (ts : List Said) → meants (items_said ts) ≡ not_trivia ts
meants_of [] = refl
meants_of (t ∷ ts) = go (is_trivia t.kind) (meants_of ts)
  where
    go : (b : Bool) → meants (items_said ts) ≡ not_trivia ts
        → meants (pick b (gap_before (items_said ts)) (meant t.kind t.bytes ∷ items_said ts)) ≡ pick b (not_trivia ts) (t ∷ not_trivia ts)
    go true i = meants_gap (items_said ts) ∙ i
    go false i = ap (λ (l : List Said). t ∷ l) i

flags_of : (g : Bool) (ts : List Said) → flags g (items_said ts) ≡ gaps_with g ts
flags_of g [] = refl
flags_of g (t ∷ ts) = go (is_trivia t.kind) (flags_of true ts) (flags_of false ts)
  where
    go : (b : Bool) → flags true (items_said ts) ≡ gaps_with true ts → flags false (items_said ts) ≡ gaps_with false ts
        → flags g (pick b (gap_before (items_said ts)) (meant t.kind t.bytes ∷ items_said ts)) ≡ pick b (gaps_with true ts) (g ∷ gaps_with false ts)
    go true i j = flags_gap g (items_said ts) ∙ i
    go false i j = ap (λ (l : List Bool). g ∷ l) j

-- BACK: items from the flags and the meaningful tokens
abbrev marked : Bool → List Item → List Item
marked true m = gap_before m
marked false m = m

abbrev join : List Bool → List Said → List Item
join [] ts = []
join (g ∷ gs) [] = marked g []
join (g ∷ gs) (t ∷ ts) = marked g (meant t.kind t.bytes ∷ join gs ts)

one_run : (m : List Item) → gap_before (gap_before m) ≡ gap_before m
one_run [] = refl
one_run (gap ∷ is) = refl
one_run (meant k bytes ∷ is) = refl

marked_run : (g : Bool) (m : List Item) → marked g (gap_before m) ≡ gap_before m
marked_run true m = one_run m
marked_run false m = refl

joined : (g : Bool) (ts : List Said) → join (gaps_with g ts) (not_trivia ts) ≡ marked g (items_said ts)
joined g [] = refl
joined g (t ∷ ts) = go (is_trivia t.kind) (joined true ts) (joined false ts)
  where
    go : (b : Bool) → join (gaps_with true ts) (not_trivia ts) ≡ gap_before (items_said ts) → join (gaps_with false ts) (not_trivia ts) ≡ items_said ts
        → join (pick b (gaps_with true ts) (g ∷ gaps_with false ts)) (pick b (not_trivia ts) (t ∷ not_trivia ts)) ≡ marked g (pick b (gap_before (items_said ts)) (meant t.kind t.bytes ∷ items_said ts))
    go true i j = i ∙ sym (marked_run g (items_said ts))
    go false i j = ap (λ (is : List Item). marked g (meant t.kind t.bytes ∷ is)) j

-- AGREEING IS HAVING THE SAME MEANING
module _ (L : Lists) (s t : List ℕ) where
  agree_meaning : Agree L s t → meaning L s ≡ meaning L t
  agree_meaning a =
      meaning_said L s ∙ sym (joined false (said_in L s)) ∙ ap (λ (gs : List Bool). join gs (not_trivia (said_in L s))) a.trivia
      ∙ ap (join (gaps (said_in L t))) a.tokens ∙ joined false (said_in L t) ∙ sym (meaning_said L t)

  meaning_agree : meaning L s ≡ meaning L t → Agree L s t
  meaning_agree e =
      let i : items_said (said_in L s) ≡ items_said (said_in L t) = sym (meaning_said L s) ∙ e ∙ meaning_said L t in
      record {
        tokens = sym (meants_of (said_in L s)) ∙ ap meants i ∙ meants_of (said_in L t);
        trivia = sym (flags_of false (said_in L s)) ∙ ap (flags false) i ∙ flags_of false (said_in L t);
      }

  pub agree_is : Agree L s t ↔ (meaning L s ≡ meaning L t)
  agree_is = (agree_meaning, meaning_agree)

  -- CANONICAL: two texts with no broken token have the same key exactly when they agree
  pub canonical_agree : Fair L → Keyable L s → Keyable L t → (key_of L s ≡ key_of L t) ↔ Agree L s t
  canonical_agree fair ks kt =
      let c = canonical L fair s t ks kt in
      ((λ e. meaning_agree (c.0 e)), (λ a. c.1 (agree_meaning a)))
