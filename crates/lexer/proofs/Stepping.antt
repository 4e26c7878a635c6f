-- The line past a scan, and the step, in the facts of the code.
use Prim.Native.Nat.{ℕ, ◌+◌, ◌-◌, ◌≤◌, ◌<◌}
use mathlib.Core.Path.{◌≡◌, sym, ap, ◌∙◌}
use mathlib.Core.Bool.{Bool}
use mathlib.Core.List.{List}
use lib.ListN.{length, take, drop, length-take}
use lib.Seq.{length-take-le}
use native.Mathlib.Omega.{arith}
use Rattle.line_feeds.specs.Feeds.{line_feeds, feeds_before}
use Rattle.line_feeds.proofs.Feeds.{line_few, line_on}
use Rattle.token.specs.Lists.{Lists}
use Rattle.lexer.specs.declared.Bare.{Bare}
use Rattle.lexer.specs.declared.Scan.{Scan}
use Rattle.lexer.specs.Scans.{bare_at}
use Rattle.lexer.specs.Steps.{before_in, before_of, next_of}
use Rattle.lexer.specs.Ready.{Lined}

-- BEFORE A POSITION: the LFs of the bytes before it
pub front_fits : (s : List ℕ) (at : ℕ) → length s ≤ 4294967295 → length (take at s) ≤ 4294967295
front_fits s at h = omega (arith, length-take at s)

pub front_long : (s : List ℕ) (at : ℕ) → at ≤ length s → at ≡ length (take at s)
front_long s at h = sym (length-take-le at s h)

pub before_at : (s : List ℕ) (at : ℕ) (on : Bool) {n : ℕ} {c : Scan} → n ≡ line_feeds (take at s) → c ≡ before_in at n on → c ≡ before_of s at on
before_at s at on e f = f ∙ ap (λ (l : ℕ). before_in at l on) e

-- THE LINE PAST A SCAN: the bytes from its token's start to the next position
module _ {s : List ℕ} {c : Scan} (l : Lined s c) where
  abbrev between : List ℕ
  between = take (c.next - c.token.start) (drop c.token.start s)

  module _ {n : ℕ} (e : n ≡ line_feeds between) where
    pub line_past : c.token.line + n ≡ feeds_before s c.next
    line_past =
        let k : c.token.start + (c.next - c.token.start) ≡ c.next = omega (arith, l.forward) in
        omega (arith, e, l.line, line_on s c.token.start (c.next - c.token.start), ap (feeds_before s) k)

    pub line_narrow : c.token.line + n < 4294967296
    line_narrow = omega (arith, line_past, line_few s c.next, l.fits)

-- THE STEP: the token found there, in its place
pub stepped_in : (L : Lists) (s : List ℕ) (c : Scan) {x : Bare} {n : ℕ} → n ≡ feeds_before s c.next → x ≡ bare_at L s c.next c.on
    → record { token = record { kind = x.kind; len = x.len; start = c.next; line = n }; next = x.next; on = x.on } ≡ next_of L s c
stepped_in L s c e f = rw (e, f)
