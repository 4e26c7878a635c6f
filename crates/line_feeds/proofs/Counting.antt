-- The count, byte by byte, in the facts of the code.
use Prim.Native.Nat.{ℕ, ◌+◌, ◌≤◌, ◌<◌}
use mathlib.Core.Path.{◌≡◌, ap, ◌∙◌}
use mathlib.Core.List.{List}
use borrow.Author.Tests.{eq-eqb, ne_eqb}
use lib.ListN.{length, drop, get_or, drop_of_length-le}
use lib.Seq.{drop-cons}
use native.Mathlib.Numerals.{add-one}
use native.Mathlib.Omega.{arith}
use Rattle.line_feeds.specs.Feeds.{feed, line_feeds}
use Rattle.line_feeds.proofs.Feeds.{feeds_few}

-- ONE BYTE
pub feed_one : (b : ℕ) → b ≡ 0x0A → 1 ≡ feed b
feed_one b e = rw (eq-eqb b 0x0A e)

pub feed_none : (b : ℕ) → (b ≡ 0x0A → ⊥) → 0 ≡ feed b
feed_none b e = rw (ne_eqb b 0x0A e)

-- SO FAR: those counted and those from place i on are all
pub record Counted (s : List ℕ) (n i : ℕ) : Type 0 where
  pub total : n + line_feeds (drop i s) ≡ line_feeds s

pub counted_none : (s : List ℕ) → Counted s 0 0
counted_none s = record { total = omega arith }

module _ {s : List ℕ} {n i : ℕ} (k : Counted s n i) where
  pub counted_all : length s ≤ i → n ≡ line_feeds s
  counted_all h = omega (arith, k.total, ap line_feeds (drop_of_length-le s h))

  module _ {m : ℕ} (h : i < length s) (e : m ≡ feed (get_or s i 0)) where
    more : line_feeds (drop i s) ≡ m + line_feeds (drop (i + 1) s)
    more = ap line_feeds (drop-cons s i 0 h) ∙ omega (arith, e, ap (λ (j : ℕ). line_feeds (drop j s)) (add-one i))

    pub counted_on : Counted s (n + m) (i + 1)
    counted_on = record { total = omega (arith, k.total, more) }

    pub count_fits : length s ≤ 4294967295 → n + m < 4294967296
    count_fits l = omega (arith, k.total, more, feeds_few s)
