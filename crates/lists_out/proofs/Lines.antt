-- The lines of a file: how long they are, and that their parts put one after the other are they.
use Prim.Native.Nat.{ℕ, zero, suc, ◌+◌, ◌≤◌, ◌<◌}
use mathlib.Core.Path.{◌≡◌}
use mathlib.Core.List.{List, [], ◌∷◌, ◌++◌}
use lib.ListN.{length, length-append}
use native.Mathlib.Omega.{arith}
use Rattle.token.specs.Lists.{Lists}
use Rattle.fields.specs.Numerals.{numeral}
use Rattle.fields.proofs.Puts.{ten, sixteen, few_digits}
use Rattle.puts.specs.Put.{Put}
use Rattle.puts.proofs.Puts.{put_then}
use Rattle.lists_file.specs.declared.Version.{Version}
use Rattle.lists_file.specs.Names.{tab, newline, unicode_word, name_of}
use Rattle.lists_file.specs.File.{line, first_text, record_text, group_lines, file_of}
use Rattle.lists_out.specs.Parts.{record_bytes, first_bytes, file_bytes}

hex_short : (n : ℕ) → n < 4294967296 → length (numeral 16 n) ≤ 8
hex_short n h = few_digits sixteen 7 n h

decimal_short : (n : ℕ) → n < 65536 → length (numeral 10 n) ≤ 5
decimal_short n h = few_digits ten 4 n (omega arith)

name_short : (which : ℕ) → length (name_of which) ≤ 8
name_short zero = omega arith
name_short (suc zero) = omega arith
name_short (suc (suc n)) = omega arith

-- EVERY LINE has at most 32 bytes
pub record_short : (which low high : ℕ) → low < 4294967296 → high < 4294967296 → 0 + record_bytes which low high ≤ 32
record_short which low high l h = omega (arith, name_short which, hex_short low l, hex_short high h)

pub first_short : (v : Version) → v.major < 65536 → v.minor < 65536 → v.update < 65536 → 0 + first_bytes v ≤ 32
first_short v a b c = omega (arith, decimal_short v.major a, decimal_short v.minor b, decimal_short v.update c)

-- THE BYTES, by the fields
pub record_long : (which low high : ℕ) → length (line (record_text which low high)) ≡ record_bytes which low high
unfolding record_text
record_long which low high = simp length-append (omega arith)

pub first_long : (v : Version) → length (line (first_text v)) ≡ first_bytes v
unfolding first_text
first_long v = simp length-append (omega arith)

pub file_long : (v : Version) (L : Lists) → length (file_of v L) ≡ file_bytes v L
unfolding file_of
file_long v L =
    let a : List ℕ = group_lines 0 L.starts in
    let b : List ℕ = group_lines 1 L.continues in
    let c : List ℕ = group_lines 2 L.emoji in
    omega (arith, length-append (line (first_text v)) (a ++ (b ++ c)), length-append a (b ++ c), length-append b c)

pub first_room : (v : Version) (L : Lists) (out : List ℕ) → file_bytes v L ≤ length out → 0 + first_bytes v ≤ length out
first_room v L out h = omega (arith, first_long v)

-- A LINE, part by part
pub record_put : (which low high : ℕ) {name o a b c d e z : List ℕ} {at i j k l m r : ℕ}
    → name ≡ name_of which → Put name o at a i → Put (tab ∷ []) a i b j → Put (numeral 16 low) b j c k → Put (tab ∷ []) c k d l → Put (numeral 16 high) d l e m → Put (newline ∷ []) e m z r
    → Put (line (record_text which low high)) o at z r
unfolding record_text
record_put which low high n p q s t u w = rw (← n) (put_then (put_then p (put_then q (put_then s (put_then t u)))) w)

pub number_put : (n : ℕ) {o a z : List ℕ} {at i r : ℕ} → Put (tab ∷ []) o at a i → Put (numeral 10 n) a i z r → Put (tab ∷ numeral 10 n) o at z r
number_put n p q = put_then p q

pub first_put : (v : Version) {o a b c d z : List ℕ} {at i j k l r : ℕ}
    → Put unicode_word o at a i → Put (tab ∷ numeral 10 v.major) a i b j → Put (tab ∷ numeral 10 v.minor) b j c k → Put (tab ∷ numeral 10 v.update) c k d l → Put (newline ∷ []) d l z r
    → Put (line (first_text v)) o at z r
unfolding first_text
first_put v p q s t u = put_then (put_then p (put_then q (put_then s t))) u

pub file_put : (v : Version) (L : Lists) {o a b c z : List ℕ} {at i j k r : ℕ}
    → Put (line (first_text v)) o at a i → Put (group_lines 0 L.starts) a i b j → Put (group_lines 1 L.continues) b j c k → Put (group_lines 2 L.emoji) c k z r → Put (file_of v L) o at z r
unfolding file_of
file_put v L p q s t = put_then p (put_then q (put_then s t))
