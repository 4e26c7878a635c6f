-- What is kept of a list says of it what document 01's rules say, pair by pair.
use Prim.Native.Nat.{ℕ, zero, suc, ◌+◌, ◌/◌, ◌≤◌}
use mathlib.Core.Path.{◌≡◌, refl, sym, ap, ◌∙◌}
use mathlib.Core.Bool.{Bool, true, false}
use mathlib.Core.List.{List, [], ◌∷◌, ◌++◌}
use lib.ListN.{length, length-append}
use native.Mathlib.Omega.{arith}
use Rattle.basics.specs.Choice.{pick}
use Rattle.std.specs.Prelude.{Option, None, Some}
use Rattle.ranges.specs.Rules.{good_pair, flaw_from}
use Rattle.token.specs.Lists.{Lists}
use Rattle.lists_file.specs.File.{Pairs, no_pair, pair, ListsFit}
use Rattle.lists_file.specs.Load.{added}
use Rattle.lists_in.specs.declared.Tally.{Tally}
use Rattle.lists_in.specs.Tallies.{last_of, tally, tally_of, tallies_of, flaw_on, tally_on, list_on}

-- the last number, with a pair more
last_on : (p : ℕ) (l : List ℕ) (low high : ℕ) → last_of p (l ++ (low ∷ high ∷ [])) ≡ high
last_on p [] low high = refl
last_on p (x ∷ l) low high = last_on x l low high

-- the first flaw, with a pair more
flaw_more : (t : Bool) (k : ℕ) (f : Option ℕ) (previous index low high : ℕ) → pick t (flaw_on f previous index low high) (Some k) ≡ flaw_on (pick t f (Some k)) previous index low high
flaw_more true k f previous index low high = refl
flaw_more false k f previous index low high = refl

flaw_on_lem : (k p : ℕ) {l : List ℕ} → Pairs l → (low high : ℕ) → flaw_from k p (l ++ (low ∷ high ∷ [])) ≡ flaw_on (flaw_from k p l) (last_of p l) (k + length l / 2) low high
unfolding flaw_from
flaw_on_lem k p no_pair low high = let z : k + 0 / 2 ≡ k = omega arith in ap (λ (n : ℕ). pick (good_pair p low high) None (Some n)) (sym z)
flaw_on_lem k p (pair {low = a} {high = b} {l = l} u v w) low high =
    let z : suc k + length l / 2 ≡ k + suc (suc (length l)) / 2 = omega arith in
    ap (λ (f : Option ℕ). pick (good_pair p a b) f (Some k)) (flaw_on_lem (suc k) b w low high ∙ ap (λ (n : ℕ). flaw_on (flaw_from (suc k) b l) (last_of b l) n low high) z)
    ∙ flaw_more (good_pair p a b) k (flaw_from (suc k) b l) (last_of b l) (k + suc (suc (length l)) / 2) low high

-- A PAIR MORE: what is kept of the longer list
pub tally_more : {l : List ℕ} → Pairs l → (low high : ℕ) → tally_on (tally_of l) low high ≡ tally_of (l ++ (low ∷ high ∷ []))
tally_more {l} w low high =
    let n : length l + 2 ≡ length (l ++ (low ∷ high ∷ [])) = sym (length-append l (low ∷ high ∷ [])) in
    let f : flaw_on (flaw_from 0 0 l) (last_of 0 l) (length l / 2) low high ≡ flaw_from 0 0 (l ++ (low ∷ high ∷ [])) =
    let z : 0 + length l / 2 ≡ length l / 2 = omega arith in ap (λ (i : ℕ). flaw_on (flaw_from 0 0 l) (last_of 0 l) i low high) (sym z) ∙ sym (flaw_on_lem 0 0 w low high) in
    let p : high ≡ last_of 0 (l ++ (low ∷ high ∷ [])) = sym (last_on 0 l low high) in
    (λ i. tally (n i) (p i) (f i))

-- pairs with one more
pub pairs_more : {l : List ℕ} {low high : ℕ} → Pairs l → low ≤ 0xFFFFFF → high ≤ 0xFFFFFF → Pairs (l ++ (low ∷ high ∷ []))
pairs_more no_pair u v = pair u v no_pair
pairs_more (pair a b w) u v = pair a b (pairs_more w u v)

-- A RECORD MORE, in its list
pub tallies_more : (which low high : ℕ) {L : Lists} → ListsFit L → list_on which low high (tallies_of L) ≡ tallies_of (added which low high L)
tallies_more zero low high {L} w = ap (λ (t : Tally). record { starts = t; continues = tally_of L.continues; emoji = tally_of L.emoji }) (tally_more w.starts low high)
tallies_more (suc zero) low high {L} w = ap (λ (t : Tally). record { starts = tally_of L.starts; continues = t; emoji = tally_of L.emoji }) (tally_more w.continues low high)
tallies_more (suc (suc n)) low high {L} w = ap (λ (t : Tally). record { starts = tally_of L.starts; continues = tally_of L.continues; emoji = t }) (tally_more w.emoji low high)

pub lists_more : (which low high : ℕ) {L : Lists} → ListsFit L → low ≤ 0xFFFFFF → high ≤ 0xFFFFFF → ListsFit (added which low high L)
lists_more zero low high w u v = record { starts = pairs_more w.starts u v; continues = w.continues; emoji = w.emoji }
lists_more (suc zero) low high w u v = record { starts = w.starts; continues = pairs_more w.continues u v; emoji = w.emoji }
lists_more (suc (suc n)) low high w u v = record { starts = w.starts; continues = w.continues; emoji = pairs_more w.emoji u v }

-- how many numbers there are in all
abbrev pub numbers_in : Lists → ℕ
numbers_in L = length L.starts + length L.continues + length L.emoji

pub numbers_more : (which low high : ℕ) (L : Lists) → numbers_in (added which low high L) ≡ numbers_in L + 2
numbers_more zero low high L = omega (arith, length-append L.starts (low ∷ high ∷ []))
numbers_more (suc zero) low high L = omega (arith, length-append L.continues (low ∷ high ∷ []))
numbers_more (suc (suc n)) low high L = omega (arith, length-append L.emoji (low ∷ high ∷ []))
