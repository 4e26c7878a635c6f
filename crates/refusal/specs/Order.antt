-- Document 01, "When the build says no": the table is in order of checking, and the first that holds is given.
use Rattle.std.specs.Prelude.{Ok, Err}
use Rattle.refusal.specs.declared.Bad.{Bad}
use Rattle.refusal.specs.Verdict.{Verdict}

-- the first refusal of two checks
abbrev pub first : Verdict → Verdict → Verdict
first (Ok tt) next = next
first (Err bad) next = Err bad

-- for refusal 3 the lists in order: id start, id continue, emoji
abbrev pub lists_in_order : (start continue emoji : Verdict) → Verdict
lists_in_order start continue emoji = first start (first continue emoji)

-- the refusals that calls share: 1 (too long), then 3 (a list), then 2 (not UTF-8). What a call does not check lets through.
abbrev pub in_order : (long lists utf8 : Verdict) → Verdict
in_order long lists utf8 = first long (first lists utf8)

-- what a call answers: its refusal where a check refuses, which is handed on whole; else what it has to say
abbrev pub refused_or : {A : Type 0} → (Bad → A) → Verdict → A → A
refused_or refuse (Ok tt) answer = answer
refused_or refuse (Err bad) answer = refuse bad
