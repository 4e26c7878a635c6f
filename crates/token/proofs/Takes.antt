-- No rule takes more characters than there are: a term for each rule, which mirrors it.
use Rattle.std.specs.Prelude.{Option}
use Prim.Native.Nat.{ℕ, zero, suc, ◌+◌, ◌≤◌, zero-le, suc-le-suc}
use mathlib.Core.Path.{◌≡◌, refl, ap}
use mathlib.Core.List.{List, [], ◌∷◌}
use mathlib.Core.Bool.{Bool, true, false}
use lib.ListN.{length, drop, length-drop}
use native.Mathlib.Omega.{arith}
use Rattle.basics.proofs.Choices.{by_pick}
use Rattle.classes.specs.Identifiers.{letter, digit, id_start}
use Rattle.eaters.specs.Eat.{Eater, nothing, while}
use Rattle.eaters.specs.Look.{begins}
use Rattle.eaters.specs.Find.{Place, at, nowhere, further, or_else}
use Rattle.eaters.proofs.Fits.{Fits, fits_give, fits_eat, fits_any, fits_while, fits_bind, fits_then, fits_texted, fits_choose, fits_if_at, fits_if_eat, fits_if_two, fits_more, fits_if_begins, begins_long, fits_scan, fits_first_with, fits_wider, fits_if_at_one}
use Rattle.eaters.proofs.Firsts.{find_first}
use Rattle.token.specs.declared.LiteralKind.{LiteralKind}
use Rattle.token.specs.declared.LiteralKind.TheVariants.{Char, Byte, Str, ByteStr, CStr, RawStr, RawByteStr, RawCStr}
use Rattle.token.specs.declared.Base.{Base}
use Rattle.token.specs.declared.Base.TheVariants.{Binary, Octal, Decimal, Hexadecimal}
use Rattle.token.specs.declared.TokenKind.{TokenKind}
use Rattle.token.specs.Names.{is, 'newline', 'double', '#', 'single', '-'}
use Rattle.token.specs.Lists.{Lists, starting, going, smiling}
use Rattle.token.specs.Literals.{identifier, Body, literal}
use Rattle.token.specs.Whitespace.{whitespace}
use Rattle.token.specs.Comments.{in_line, block_turn, slash}
use Rattle.token.specs.Words.{invalid_ident, prefix_mark, ident_or_unknown_prefix}
use Rattle.token.specs.Quotes.{double_turn, double_quoted, single_turn, single_quoted}
use Rattle.token.specs.RawStrings.{raw_string}
use Rattle.token.specs.Numbers.{decimals, hexadecimals, hex_digit, exponent, maybe_exponent, fraction, based, decimal, number}
use Rattle.token.specs.Lifetimes.{character, lifetime_rest, lifetime, naming, lifetime_or_char}
use Rattle.token.specs.Prefixed.{hashed, after_r, after_k, after_c, after_b}
use Rattle.token.specs.Punctuation.{hash_or_quote}
use Rattle.token.specs.Frontmatter.{line_rest, dashes, use_line, doc_line, attribute_line, first, still_blank, last_search, recovery, line_at, closed, body, infostring, frontmatter}
use Rattle.token.specs.Advance.{plain, leading, fronted, decided}

-- the end starts no identifier
starts_nothing : (L : Lists) → starting L 0 ≡ false
unfolding id_start letter
starts_nothing L = refl

fits_nothing : Fits 0 nothing
fits_nothing = fits_give tt

pub fits_identifier : (L : Lists) → Fits 0 (identifier L)
fits_identifier L = fits_if_eat (starting L) (starts_nothing L) (fits_then (fits_while (going L)) fits_nothing) fits_nothing

fits_literal : (L : Lists) (before : ℕ) {n : ℕ} {body : Eater Body} → Fits n body → Fits n (literal L before body)
fits_literal L before g = fits_bind (fits_texted g) (λ r. fits_then (fits_choose _ (fits_identifier L) fits_nothing) (fits_give _))

fits_slash : Fits 0 slash
fits_slash =
    fits_if_eat _ refl (fits_bind (fits_while _) (λ t. fits_give _))
    (fits_if_eat _ refl (fits_bind (fits_texted (fits_scan block_turn 0 1)) (λ r. fits_give _)) (fits_give _))

fits_whitespace : Fits 0 whitespace
fits_whitespace = fits_then (fits_while _) (fits_give _)

fits_invalid : (L : Lists) → Fits 0 (invalid_ident L)
fits_invalid L = fits_then (fits_while _) (fits_give _)

fits_word : (L : Lists) → Fits 0 (ident_or_unknown_prefix L)
fits_word L = fits_then (fits_while (going L)) (fits_if_at prefix_mark (fits_give _) (fits_if_at (smiling L) (fits_invalid L) (fits_give _)))

pub fits_double : (mk : Bool → LiteralKind) → Fits 0 (double_quoted mk)
fits_double mk = fits_bind (fits_scan double_turn 0 1) (λ t. fits_give _)

pub fits_single : (mk : Bool → LiteralKind) → Fits 0 (single_quoted mk)
fits_single mk =
    fits_bind (fits_if_two _ (is 'single') refl (fits_then (fits_eat 2) (fits_give true)) (fits_scan single_turn 0 1)) (λ t. fits_give _)

pub fits_raw : (mk : Option ℕ → LiteralKind) → Fits 0 (raw_string mk)
fits_raw mk =
    fits_bind (fits_while (is '#'))
    (λ h. fits_if_eat (is 'double') refl (fits_bind (fits_first_with 'double' '#' (length h)) (λ t. fits_give _)) (fits_then fits_any (fits_give _)))

-- numbers
fits_exponent : (base : Base) → Fits 0 (exponent base)
fits_exponent base = fits_then (fits_if_eat _ refl fits_nothing fits_nothing) (fits_bind (fits_while decimals) (λ t. fits_give _))

fits_maybe : (base : Base) (x : Body) → Fits 0 (maybe_exponent base x)
fits_maybe base x = fits_if_eat _ refl (fits_exponent base) (fits_give x)

fits_fraction : (L : Lists) (base : Base) → Fits 0 (fraction L base)
fits_fraction L base =
    fits_if_two _ _ (starts_nothing L) (fits_more 2 (fits_give _))
    (fits_if_eat _ refl (fits_if_at digit (fits_then (fits_while decimals) (fits_maybe base _)) (fits_give _)) (fits_maybe base _))

fits_based : (L : Lists) (base : Base) (p q : ℕ → Bool) → Fits 0 (based L base p q)
fits_based L base p q = fits_bind (fits_while p) (λ t. fits_choose _ (fits_fraction L base) (fits_give _))

fits_decimal : (L : Lists) → Fits 0 (decimal L)
fits_decimal L = fits_then (fits_while decimals) (fits_fraction L Decimal)

pub fits_number : (L : Lists) (c : ℕ) → Fits 0 (number L c)
fits_number L c =
    fits_choose _
    (fits_if_eat _ refl (fits_based L Binary decimals digit)
    (fits_if_eat _ refl (fits_based L Octal decimals digit)
    (fits_if_eat _ refl (fits_based L Hexadecimal hexadecimals hex_digit)
    (fits_decimal L))))
    (fits_decimal L)

-- lifetimes
fits_character : (L : Lists) → Fits 0 (character L)
fits_character L = fits_literal L 1 (fits_single Char)

fits_rest : (L : Lists) (b : Bool) (k : ℕ) → Fits 0 (lifetime_rest L b k)
fits_rest L b k =
    fits_bind (fits_while (going L)) (λ t. fits_if_eat (is 'single') refl (fits_give _) (fits_choose b (fits_give _) (fits_if_at (is '#') (fits_give _) (fits_give _))))

fits_lifetime : (L : Lists) (b : Bool) → Fits 1 (lifetime L b)
fits_lifetime L b = fits_bind (fits_texted (fits_eat 1)) (λ r. fits_rest L b _)

fits_quote : (L : Lists) → Fits 0 (lifetime_or_char L)
fits_quote L =
    fits_if_two (naming L) (is 'single') refl (fits_more 2 (fits_character L))
    (fits_if_eat _ refl
    (fits_if_two (is '#') (starting L) (starts_nothing L) (fits_then (fits_then (fits_eat 2) (fits_while (going L))) (fits_give _)) (fits_rest L false 2))
    (fits_if_at_one digit refl (fits_lifetime L true)
    (fits_if_at_one (starting L) (starts_nothing L) (fits_lifetime L false)
    (fits_character L))))

-- r, k, b, c
fits_hashed : (L : Lists) (k : TokenKind) → Fits 2 (hashed L k)
fits_hashed L k = fits_wider (omega arith) (fits_then (fits_then (fits_eat 1) (fits_identifier L)) (fits_give k))

fits_r : (L : Lists) → Fits 0 (after_r L)
fits_r L =
    fits_if_two _ (starting L) (starts_nothing L) (fits_hashed L _) (fits_if_at hash_or_quote (fits_literal L 1 (fits_raw RawStr)) (fits_word L))

fits_k : (L : Lists) → Fits 0 (after_k L)
fits_k L = fits_if_two _ (starting L) (starts_nothing L) (fits_hashed L _) (fits_word L)

fits_c : (L : Lists) (mk : Bool → LiteralKind) (raw : Option ℕ → LiteralKind) → Fits 0 (after_c L mk raw)
fits_c L mk raw =
    fits_if_eat (is 'double') refl (fits_literal L 2 (fits_double mk))
    (fits_if_two _ hash_or_quote refl (fits_wider (omega arith) (fits_then (fits_eat 1) (fits_literal L 2 (fits_raw raw)))) (fits_word L))

fits_b : (L : Lists) → Fits 0 (after_b L)
fits_b L = fits_if_eat (is 'single') refl (fits_literal L 2 (fits_single Byte)) (fits_c L ByteStr RawByteStr)

fits_plain : (L : Lists) (c : ℕ) → Fits 0 (plain L c)
fits_plain L c =
    fits_choose _ fits_slash
    (fits_choose _ fits_whitespace
    (fits_choose _ (fits_r L)
    (fits_choose _ (fits_k L)
    (fits_choose _ (fits_b L)
    (fits_choose _ (fits_c L CStr RawCStr)
    (fits_choose _ (fits_word L)
    (fits_choose _ (fits_literal L 1 (fits_number L c))
    (fits_choose _ (fits_if_eat hash_or_quote refl (fits_give _) (fits_give _))
    (fits_choose _ (fits_give _)
    (fits_choose _ (fits_quote L)
    (fits_choose _ (fits_literal L 1 (fits_double Str))
    (fits_choose _ (fits_invalid L)
    (fits_give _)))))))))))))

-- frontmatter: places lie within the text
data In (cs : List ℕ) : Place → Type 0 where
  here : {k : ℕ} → k ≤ length cs → In cs (at k)
  absent : In cs nowhere

in_further : {c : ℕ} {cs : List ℕ} {q : Place} → In cs q → In (c ∷ cs) (further q)
in_further (here h) = here (suc-le-suc h)
in_further absent = absent

in_or_else : {cs : List ℕ} {p q : Place} → In cs p → In cs q → In cs (or_else p q)
in_or_else (here h) g = here h
in_or_else absent g = g

length_dashes : (n : ℕ) → length (dashes n) ≡ n
length_dashes zero = refl
length_dashes (suc n) = ap suc (length_dashes n)

-- a pattern that is found ends within the text
data Room (l cs : List ℕ) : Place → Type 0 where
  room : {k : ℕ} → k + length l ≤ length cs → Room l cs (at k)
  none : Room l cs nowhere

found_room : (l cs : List ℕ) → Room l cs (first l cs)
found_room l cs = go (first l cs) refl
  where
    go : (q : Place) → first l cs ≡ q → Room l cs q
    go (at k) e = let f = find_first (begins l) cs e in room {k = k} (omega (arith, f.room, begins_long l (drop k cs) f.holds, length-drop k cs))
    go nowhere e = none

in_room : {l cs : List ℕ} {q : Place} → Room l cs q → In cs q
in_room (room {k} h) = here {k = k} (omega arith)
in_room none = absent

-- past the newline of a pattern that begins with one
in_past : {c : ℕ} {l cs : List ℕ} {q : Place} → Room (c ∷ l) cs q → In cs (further q)
in_past (room {k} h) = here {k = suc k} (omega arith)
in_past none = absent

in_last : (cs : List ℕ) (k : ℕ) (b : Bool) → In cs (last_search k b cs)
unfolding last_search
in_last [] zero b = absent
in_last [] (suc k) b = absent
in_last (c ∷ cs) (suc k) b = in_further (in_last cs k b)
in_last (c ∷ cs) zero b =
    by_pick (In (c ∷ cs)) (begins (dashes 3) (c ∷ cs)) _ _
    (λ t. by_pick (In (c ∷ cs)) b _ _ (λ u. here zero-le) (λ u. in_further (in_last cs 2 true)))
    (λ t. in_further (in_last cs 0 (still_blank b c)))

in_recovery : (cs : List ℕ) → In cs (recovery cs)
in_recovery cs =
    in_or_else (in_past (found_room ('newline' ∷ dashes 3) cs))
    (in_or_else (in_room (found_room use_line cs)) (in_or_else (in_room (found_room doc_line cs)) (in_or_else (in_room (found_room attribute_line cs)) (in_last cs 0 true))))

line_short : (ds : List ℕ) → line_rest ds ≤ length ds
unfolding while
line_short ds = (fits_while in_line).fits ds zero-le

line_in : {cs : List ℕ} {q : Place} → In cs q → line_at q cs ≤ length cs
line_in {cs} (here {k} h) = omega (arith, line_short (drop k cs), length-drop k cs)
line_in absent = omega arith

closed_in : (n : ℕ) {cs : List ℕ} {q : Place} → Room ('newline' ∷ dashes n) cs q → closed n q cs ≤ length cs
closed_in n (room {k} h) = line_in (here {k = k + suc n} (omega (arith, length_dashes n)))
closed_in n {cs} none = line_in (in_recovery cs)

fits_body : (n : ℕ) → Fits 0 (body n)
unfolding body
fits_body n = record { fits = λ cs h. closed_in n (found_room ('newline' ∷ dashes n) cs) }

fits_info : (L : Lists) → Fits 0 (infostring L)
fits_info L = fits_if_eat (starting L) (starts_nothing L) (fits_then (fits_while _) fits_nothing) fits_nothing

fits_front : (L : Lists) (b : Bool) → Fits 0 (frontmatter L b)
fits_front L b =
    fits_bind (fits_while (is '-')) (λ m. fits_then (fits_while _) (fits_then (fits_info L) (fits_then (fits_while _) (fits_if_at (is 'newline') (fits_then (fits_body _) (fits_give _)) (fits_then (fits_body _) (fits_give _))))))

fits_leading : (L : Lists) (c : ℕ) → Fits 0 (leading L c)
fits_leading L c =
    fits_bind (fits_while _) (λ t. fits_choose _ (fits_give _) (fits_if_begins (dashes 3) (fits_wider (omega arith) (fits_then (fits_eat 1) (fits_front L true))) (fits_give _)))

fits_fronted : (L : Lists) (c : ℕ) → Fits 0 (fronted L c)
fits_fronted L c =
    fits_choose _ (fits_leading L c) (fits_choose _ (fits_if_two (is '-') (is '-') refl (fits_more 2 (fits_front L false)) (fits_plain L c)) (fits_plain L c))

pub fits_token : (L : Lists) (on : Bool) (c : ℕ) → Fits 0 (decided L on c)
fits_token L on c = fits_choose on (fits_fronted L c) (fits_plain L c)
