-- Guarded strings, from the runs of their scans, in the facts of the code: what is found is the book's, and each number fits.
use Prim.Native.Nat.{ℕ, ◌+◌, ◌-◌, ◌≤◌, zero-le}
use mathlib.Core.Path.{◌≡◌, refl, sym, ap, subst, ◌∙◌}
use mathlib.Core.Bool.{Bool, true, false}
use mathlib.Core.List.{List}
use lib.ListN.{length, get_or, take, drop}
use native.Mathlib.Omega.{arith}
use borrow.Author.Tests.{ne_eqb}
use Rattle.text.specs.Chars.{size, chars}
use Rattle.eaters.specs.Eat.{Eater, give, nothing, take_while, take_most, while_most, ◌>>=◌, ◌>>◌, texted, choose}
use Rattle.eaters.specs.Look.{if_eat}
use Rattle.eaters.specs.Scan.{scan}
use Rattle.eaters.proofs.Fits.{Fits, fits_give, fits_while, fits_while_most, fits_bind, fits_then, fits_choose, fits_if_eat, fits_scan}
use Rattle.std.specs.Prelude.{None, Some}
use Rattle.token.specs.Names.{is, 'double', '#'}
use Rattle.token.specs.Lists.{Lists}
use Rattle.token.specs.Literals.{identifier}
use Rattle.token.specs.Quotes.{double_turn}
use Rattle.token.specs.Guarded.{guarded_end, Guard, string, none, guarded_rest, guard, found}
use Rattle.token.proofs.Takes.{fits_identifier}
use Rattle.cursor.specs.declared.Cursor.{Cursor}
use Rattle.cursor.specs.declared.Ended.{Ended}
use Rattle.cursor.specs.Cursors.{rest}
use Rattle.cursor.specs.Moved.{Moved}
use Rattle.cursor.specs.Ran.{left, Ran}
use Rattle.cursor.proofs.Runs.{ran_word, ran_give, ran_bind, ran_then, ran_say, ran_no, ran_take, ran_this, ran_that, ran_bytes}
use Rattle.cursor.proofs.Loops.{ran_while}
use Rattle.cursor.proofs.Steps.{rest_at}
use Rattle.cursor.proofs.Bytes.{moved_within}
use Rattle.quoted.specs.Raws.{CountedMost}
use Rattle.cursor.specs.Counted.{Counted}
use Rattle.cursor.specs.declared.Repeated.{Repeated}
use Rattle.strings.specs.declared.GuardedAt.{GuardedAt}
use Rattle.strings.specs.Guards.{guarded_at}

ran_most : (n : ℕ) (p : ℕ → Bool) {s : List ℕ} {a b : Cursor} → Moved s a b (left (while_most n p) (rest s a)) → Ran (while_most n p) s a b (take_most n p (rest s a))
unfolding while_most
ran_most n p m = record { moved = m; said = refl }

-- what follows the string: hashes, and a suffix
pub end_in : (n : ℕ) (L : Lists) {s : List ℕ} {a d : Cursor} {h : Repeated} → CountedMost n s a h → Ran (identifier L) s h.next d tt → Ran (guarded_end L n) s a d tt
end_in n L g r = ran_then (ran_most n (is '#') g.moved) r

-- the string ends, or does not
abbrev ended : Lists → ℕ → Bool → Eater Bool
ended L n t = choose t (guarded_end L n) nothing >> give t

module _ (n : ℕ) (L : Lists) {s : List ℕ} {a b : Cursor} {t : Bool} (r : Ran (scan double_turn 0 1) s a b t) where
  pub ends : {d : Cursor} → t ≡ true → Ran (guarded_end L n) s b d tt → Ran (guarded_rest L n) s a d true
  ends {d} h q = ran_word (ran_bind (ended L n) r (ran_then (ran_this (guarded_end L n) nothing h q) (ran_give t s d))) (sym h)

  pub ends_not : t ≡ false → Ran (guarded_rest L n) s a b t
  ends_not h = ran_bind (ended L n) r (ran_then (ran_that (guarded_end L n) nothing h (ran_give tt s b)) (ran_give t s b))

-- after the hashes
abbrev inner : Lists → ℕ → Eater Guard
inner L n = do
  terminated ← guarded_rest L n
  give (string n terminated)

abbrev opened : Lists → List ℕ → Eater Guard
opened L hashes = if_eat (is 'double') (inner L (length hashes)) (give none)

module _ (L : Lists) {s : List ℕ} {a : Cursor} {h : Repeated} (g : Counted '#' s a h) {c : ℕ} (e : c ≡ get_or (rest s h.next) 0 0) where
  hashes : {d : Cursor} {x : Guard} → Ran (opened L (take_while (is '#') (rest s a))) s h.next d x → Ran (guard L) s a d x
  hashes r = ran_bind (opened L) (ran_while (is '#') g.moved) r

  no_quote : (c ≡ 0x22 → ⊥) → Ran (guard L) s a h.next none
  no_quote q = hashes (ran_no _ (give none) (is 'double') e (ne_eqb c 0x22 q) (ran_give none s h.next))

  a_quote : {b d : Cursor} {t : Bool} → c ≡ 0x22 → Moved s h.next b (drop 1 (rest s h.next)) → Ran (guarded_rest L h.count) s b d t → Ran (guard L) s a d (string h.count t)
  a_quote {b} {d} {t} q m r =
      hashes (subst (λ (n : ℕ). Ran (if_eat (is 'double') (inner L n) (give none)) s h.next d (string h.count t)) g.count
      (ran_take (inner L h.count) (give none) (is 'double') e (rw q) m (ran_say (string h.count) r)))

-- no more is taken than is there
fits_rest : (L : Lists) (n : ℕ) → Fits 0 (guarded_rest L n)
fits_rest L n =
    fits_bind (fits_scan double_turn 0 1) (λ t. fits_then (fits_choose t (fits_then (fits_while_most n _) (fits_identifier L)) (fits_give tt)) (fits_give t))

fits_guard : (L : Lists) → Fits 0 (guard L)
fits_guard L =
    fits_bind (fits_while (is '#')) (λ h. fits_if_eat (is 'double') refl (fits_bind (fits_rest L (length h)) (λ t. fits_give _)) (fits_give none))

-- the answer, by what the guard says and by how many characters it takes
abbrev answer : Lists → (s : List ℕ) (p : ℕ) → Guard → (k : ℕ) → GuardedAt
answer L s p g k =
    let cs = chars (drop p s) in
    record { found = found (record { text = take (guard L cs).took cs; said = g }); next = p + size (take k cs) }

answered : (L : Lists) (s : List ℕ) (p : ℕ) → guarded_at L s p ≡ answer L s p (guard L (chars (drop p s))).said (guard L (chars (drop p s))).took
unfolding guarded_at texted ◌>>=◌ give
answered L s p = let e : (guard L (chars (drop p s))).took + 0 ≡ (guard L (chars (drop p s))).took = omega arith in ap (answer L s p (guard L (chars (drop p s))).said) e

-- the bytes that the guard takes
abbrev taken : Lists → List ℕ → ℕ
taken L cs = size (take (guard L cs).took cs)

-- a run of the guard, in bytes and in words of the book
module _ (L : Lists) {s : List ℕ} {p : ℕ} {a d : Cursor} {x : Guard} (z : a.at ≡ p) (r : Ran (guard L) s a d x) where
  here : rest s a ≡ chars (drop p s)
  here = rest_at s a z

  bytes : {q : ℕ} → q ≡ d.at → q ≡ p + taken L (chars (drop p s))
  bytes e =
      e ∙ ran_bytes (guard L) r ((fits_guard L).fits (rest s a) zero-le) ∙ ap (λ (cs : List ℕ). a.at + taken L cs) here
      ∙ ap (λ (n : ℕ). n + taken L (chars (drop p s))) z

  word : x ≡ (guard L (chars (drop p s))).said
  word = r.said ∙ ap (λ (cs : List ℕ). (guard L cs).said) here

-- by the character after the hashes
module _ (L : Lists) {s : List ℕ} {p : ℕ} {a : Cursor} (z : a.at ≡ p) {h : Repeated} (g : Counted '#' s a h) {c : ℕ} (e : c ≡ get_or (rest s h.next) 0 0) where
  pub no_string : {q : ℕ} → (c ≡ 0x22 → ⊥) → q ≡ h.next.at → record { found = None; next = q } ≡ guarded_at L s p
  no_string n y =
      let r = no_quote L g e n in
      cc (answered L s p, bytes L z r y, word L z r)

  module _ {b : Cursor} (k : c ≡ 0x22) (m : Moved s h.next b (drop 1 (rest s h.next))) {x : Ended} (r : Ran (guarded_rest L h.count) s b x.next x.terminated) {q : ℕ} (y : q ≡ x.next.at) where
    ran : Ran (guard L) s a x.next (string h.count x.terminated)
    ran = a_quote L g e k m r

    size_in : q ≡ p + taken L (chars (drop p s))
    size_in = bytes L z ran y

    -- the cursor does not go back
    pub after : p ≤ q
    after = omega (arith, size_in)

    pub bytes_fit : length s ≤ 4294967295 → q - p ≤ 4294967295
    bytes_fit o = omega (arith, z, y, moved_within ran.moved)

    pub a_string : {j n : ℕ} → j ≡ h.count → n ≡ q - p → record { found = Some (record { n_hashes = j; terminated = x.terminated; token_len = n }); next = q } ≡ guarded_at L s p
    a_string {n = n} u v =
        let w : n ≡ taken L (chars (drop p s)) = omega (arith, size_in) in
        cc (answered L s p, size_in, word L z ran)
