-- The numbers of the scans are at most the length of the text.
use Prim.Native.Nat.{ℕ, ◌≤◌, zero-le}
use mathlib.Core.Path.{◌≡◌}
use mathlib.Core.List.{List}
use lib.ListN.{length}
use native.Mathlib.Omega.{arith}
use Rattle.eaters.specs.Eat.{while}
use Rattle.eaters.proofs.Fits.{fits_while}
use Rattle.token.specs.Names.{is, '#'}
use Rattle.cursor.specs.declared.Cursor.{Cursor}
use Rattle.std.specs.Prelude.{Option, Some}
use Rattle.cursor.specs.Cursors.{rest, Seen}
use Rattle.cursor.proofs.Steps.{rest_short}
use Rattle.cursor.proofs.Bytes.{char_within}
use Rattle.cursor.specs.Counted.{Counted}
use Rattle.cursor.specs.declared.Repeated.{Repeated}

-- hashes that were counted
pub count_fits : {s : List ℕ} {a : Cursor} {h : Repeated} → Counted '#' s a h → length s ≤ 4294967295 → h.count ≤ 4294967295
unfolding while
count_fits {s} {a} g l = omega (arith, g.count, (fits_while (is '#')).fits (rest s a) zero-le, rest_short s a)

-- the place past a character
pub place_fits : {s : List ℕ} {a d : Cursor} {r : Option (ℕ × Cursor)} {c p : ℕ} → r ≡ Some (c, d) → Seen s a r → p ≡ d.at → length s ≤ 4294967295 → p ≤ 4294967295
place_fits e h q l = omega (arith, char_within e h)
