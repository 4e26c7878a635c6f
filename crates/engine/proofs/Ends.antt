-- The end of a text, mode by mode.
use Rattle.std.specs.Prelude.{Option, None, Some}
use Prim.Native.Nat.{ℕ}
use mathlib.Core.Path.{◌≡◌, refl, sym, ap, subst, ◌∙◌}
use mathlib.Core.Bool.{Bool, true, false}
use mathlib.Core.List.{List, [], ◌∷◌}
use denote.Enum.Declared.{tag_of}
use types.Run.{OneOf, miss}
use Rattle.basics.specs.Choice.{pick}
use Rattle.machine.specs.declared.Mode.{Mode}
use Rattle.machine.specs.declared.Mode.TheVariants as mode
use Rattle.machine.specs.contracts.Mode.{the_type}
use Rattle.machine.specs.Machine.{ok, finish}
use Rattle.turns.specs.declared.Before.{Before}
use Rattle.turns.specs.declared.Before.TheVariants.{Nothing, Newline, Slash, Slashes3}
use Rattle.turns.specs.Held.{newline_or}
use Rattle.turns.specs.Shown.{before_out}
use Rattle.engine.specs.Ends.{end_result, Ends}

ends_as : {m k : Mode} {e : Option Before} → m ≡ k → ((from : ℕ) → end_result from e ≡ finish from k) → Ends m e
ends_as {m} {k} {e} q h = subst (λ (x : Mode). Ends x e) (sym q) (record { ends = h })

-- WHAT IS HELD BACK IS WRITTEN
pub end_one : {m : Mode} {r : Bool} → m ≡ mode.OneSlash r → Ends m (Some Slash)
end_one q = ends_as q (λ from. refl)

pub end_two : {m : Mode} {r : Bool} {b : Before} → m ≡ mode.TwoSlashes r → b ≡ newline_or r → Ends m (Some b)
end_two {r = r} {b = b} q e = ends_as q (λ from. ap (λ (x : Before). ok (before_out x)) e ∙ go r)
  where
    go : (t : Bool) → ok (before_out (pick t Nothing Newline)) ≡ finish 0 (mode.TwoSlashes t)
    go true = refl
    go false = refl

pub end_three : {m : Mode} {r : Bool} → m ≡ mode.ThreeSlashes r → Ends m (Some Slashes3)
end_three q = ends_as q (λ from. refl)

-- A TOKEN THAT IS NOT ENDED IS BROKEN: these modes, by their places in the enum
abbrev unended : List ℕ
unended = 4 ∷ 5 ∷ 8 ∷ 13 ∷ 14 ∷ 15 ∷ 17 ∷ 24 ∷ 25 ∷ 27 ∷ 30 ∷ 31 ∷ 32 ∷ 33 ∷ 34 ∷ []

pub end_broken : (m : Mode) → OneOf unended (tag_of the_type m) → Ends m None
end_broken (mode.Start r) h = absurd (miss unended 0 tt h)
end_broken (mode.OneSlash r) h = absurd (miss unended 1 tt h)
end_broken (mode.TwoSlashes r) h = absurd (miss unended 2 tt h)
end_broken (mode.ThreeSlashes r) h = absurd (miss unended 3 tt h)
end_broken (mode.SlashStar r) h = record { ends = λ from. refl }
end_broken (mode.SlashStars r) h = record { ends = λ from. refl }
end_broken mode.DocLine h = absurd (miss unended 6 tt h)
end_broken mode.PlainLine h = absurd (miss unended 7 tt h)
end_broken (mode.Block doc d l) h = record { ends = λ from. refl }
end_broken mode.InWord h = absurd (miss unended 9 tt h)
end_broken mode.InBadWord h = absurd (miss unended 10 tt h)
end_broken mode.InName h = absurd (miss unended 11 tt h)
end_broken mode.Suffix h = absurd (miss unended 12 tt h)
end_broken mode.InString h = record { ends = λ from. refl }
end_broken mode.StringEscape h = record { ends = λ from. refl }
end_broken mode.Broken h = record { ends = λ from. refl }
end_broken mode.GotR h = absurd (miss unended 16 tt h)
end_broken mode.GotRHash h = record { ends = λ from. refl }
end_broken mode.GotK h = absurd (miss unended 18 tt h)
end_broken mode.GotNameHash h = absurd (miss unended 19 tt h)
end_broken mode.GotB h = absurd (miss unended 20 tt h)
end_broken mode.GotC h = absurd (miss unended 21 tt h)
end_broken mode.GotBR h = absurd (miss unended 22 tt h)
end_broken mode.GotHash h = absurd (miss unended 23 tt h)
end_broken mode.GotQuote h = record { ends = λ from. refl }
end_broken mode.GotByteQuote h = record { ends = λ from. refl }
end_broken mode.GotQuotes h = absurd (miss unended 26 tt h)
end_broken mode.WantsQuote h = record { ends = λ from. refl }
end_broken (mode.QuotedName r) h = absurd (miss unended 28 tt h)
end_broken mode.InLifetime h = absurd (miss unended 29 tt h)
end_broken mode.InQuotes h = record { ends = λ from. refl }
end_broken mode.QuotesEscape h = record { ends = λ from. refl }
end_broken (mode.RawHashes n) h = record { ends = λ from. refl }
end_broken (mode.RawBody n) h = record { ends = λ from. refl }
end_broken (mode.RawEnd n j) h = record { ends = λ from. refl }
end_broken mode.GotZero h = absurd (miss unended 35 tt h)
end_broken mode.InDigits h = absurd (miss unended 36 tt h)
end_broken (mode.InBased x) h = absurd (miss unended 37 tt h)
end_broken (mode.InHex x) h = absurd (miss unended 38 tt h)
end_broken mode.GotDot h = absurd (miss unended 39 tt h)
end_broken mode.InFraction h = absurd (miss unended 40 tt h)
end_broken mode.GotE h = absurd (miss unended 41 tt h)
end_broken mode.InExponent h = absurd (miss unended 42 tt h)

-- ALL OTHERS are ended
abbrev quiet : List ℕ
quiet = 0 ∷ 6 ∷ 7 ∷ 9 ∷ 10 ∷ 11 ∷ 12 ∷ 16 ∷ 18 ∷ 19 ∷ 20 ∷ 21 ∷ 22 ∷ 23 ∷ 26 ∷ 28 ∷ 29 ∷ 35 ∷ 36 ∷ 37 ∷ 38 ∷ 39 ∷ 40 ∷ 41 ∷ 42 ∷ []

pub end_quiet : (m : Mode) → OneOf quiet (tag_of the_type m) → Ends m (Some Nothing)
end_quiet (mode.Start r) h = record { ends = λ from. refl }
end_quiet (mode.OneSlash r) h = absurd (miss quiet 1 tt h)
end_quiet (mode.TwoSlashes r) h = absurd (miss quiet 2 tt h)
end_quiet (mode.ThreeSlashes r) h = absurd (miss quiet 3 tt h)
end_quiet (mode.SlashStar r) h = absurd (miss quiet 4 tt h)
end_quiet (mode.SlashStars r) h = absurd (miss quiet 5 tt h)
end_quiet mode.DocLine h = record { ends = λ from. refl }
end_quiet mode.PlainLine h = record { ends = λ from. refl }
end_quiet (mode.Block doc d l) h = absurd (miss quiet 8 tt h)
end_quiet mode.InWord h = record { ends = λ from. refl }
end_quiet mode.InBadWord h = record { ends = λ from. refl }
end_quiet mode.InName h = record { ends = λ from. refl }
end_quiet mode.Suffix h = record { ends = λ from. refl }
end_quiet mode.InString h = absurd (miss quiet 13 tt h)
end_quiet mode.StringEscape h = absurd (miss quiet 14 tt h)
end_quiet mode.Broken h = absurd (miss quiet 15 tt h)
end_quiet mode.GotR h = record { ends = λ from. refl }
end_quiet mode.GotRHash h = absurd (miss quiet 17 tt h)
end_quiet mode.GotK h = record { ends = λ from. refl }
end_quiet mode.GotNameHash h = record { ends = λ from. refl }
end_quiet mode.GotB h = record { ends = λ from. refl }
end_quiet mode.GotC h = record { ends = λ from. refl }
end_quiet mode.GotBR h = record { ends = λ from. refl }
end_quiet mode.GotHash h = record { ends = λ from. refl }
end_quiet mode.GotQuote h = absurd (miss quiet 24 tt h)
end_quiet mode.GotByteQuote h = absurd (miss quiet 25 tt h)
end_quiet mode.GotQuotes h = record { ends = λ from. refl }
end_quiet mode.WantsQuote h = absurd (miss quiet 27 tt h)
end_quiet (mode.QuotedName r) h = record { ends = λ from. refl }
end_quiet mode.InLifetime h = record { ends = λ from. refl }
end_quiet mode.InQuotes h = absurd (miss quiet 30 tt h)
end_quiet mode.QuotesEscape h = absurd (miss quiet 31 tt h)
end_quiet (mode.RawHashes n) h = absurd (miss quiet 32 tt h)
end_quiet (mode.RawBody n) h = absurd (miss quiet 33 tt h)
end_quiet (mode.RawEnd n j) h = absurd (miss quiet 34 tt h)
end_quiet mode.GotZero h = record { ends = λ from. refl }
end_quiet mode.InDigits h = record { ends = λ from. refl }
end_quiet (mode.InBased x) h = record { ends = λ from. refl }
end_quiet (mode.InHex x) h = record { ends = λ from. refl }
end_quiet mode.GotDot h = record { ends = λ from. refl }
end_quiet mode.InFraction h = record { ends = λ from. refl }
end_quiet mode.GotE h = record { ends = λ from. refl }
end_quiet mode.InExponent h = record { ends = λ from. refl }
