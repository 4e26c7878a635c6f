-- Bytes of which more are to come (document 02, W13): how many of them can be read now. What a CR is depends on the next byte (CR LF is read as LF) and, where CR CR stands,
-- on the next one too (CR CR LF is refused): so the last two CRs wait. A character that is cut off waits for its rest.
use Rattle.std.specs.Prelude.{ℕ, ◌-◌, List, [], ◌∷◌, Bool, false, length, Ok, Err, None, Some}
use Rattle.basics.specs.Choice.{pick, and}
use Rattle.refusal.specs.declared.Bad.{Bad}
use Rattle.refusal.specs.declared.Bad.TheVariants as bad
use Rattle.refusal.specs.declared.Cause.{Cause}
use Rattle.refusal.specs.declared.Cause.TheVariants.{Start, Cut, Follow}
use Rattle.refusal.specs.Verdict.{Verdict}
use Rattle.text.specs.Verdicts.{utf8_verdict}
use Rattle.token.specs.Names.{is, 'carriage_return'}
use Rattle.waits.specs.declared.Ready.{Ready}

-- one CR or two, and nothing else
abbrev pub returns : List ℕ → Bool
returns [] = false
returns (a ∷ []) = is 'carriage_return' a
returns (a ∷ b ∷ []) = and (is 'carriage_return' a) (is 'carriage_return' b)
returns (a ∷ b ∷ c ∷ s) = false

-- the CRs that end some bytes, two at most
abbrev pub last_returns : List ℕ → List ℕ
last_returns [] = []
last_returns (a ∷ s) = pick (returns (a ∷ s)) (a ∷ s) (last_returns s)

-- so many bytes, and nothing that stops
abbrev pub free_up_to : (bytes : ℕ) → Ready
free_up_to n = record { bytes = n; ill = None }

-- up to an ill-formed sequence. One that the end cuts off waits for its rest; any other stays ill-formed, whatever comes
abbrev pub stopped_at : (place : ℕ) → Cause → Ready
stopped_at place Start = record { bytes = place; ill = Some (place, Start) }
stopped_at place Cut = free_up_to place
stopped_at place Follow = record { bytes = place; ill = Some (place, Follow) }

-- up to what refuses the bytes; the first two rows are never asked
abbrev pub up_to : Bad → Ready
up_to bad.TooLong = free_up_to 0
up_to (bad.List list pair) = free_up_to 0
up_to (bad.NotUtf8 place cause) = stopped_at place cause

-- where the bytes are UTF-8, all but the last CRs can be read; else those before the first ill-formed sequence
abbrev pub ready_by : (all : ℕ) → Verdict → Ready
ready_by all (Ok tt) = free_up_to all
ready_by all (Err b) = up_to b

-- HOW MANY BYTES CAN BE READ NOW, and the ill-formed sequence that stands there, if one does
unfoldable pub ready_of : List ℕ → Ready
ready_of s = ready_by (length s - length (last_returns s)) (utf8_verdict s)
