-- What a piece of a text does to the state (document 02, W13). The bytes that wait are put before it; of all of them those that can be read now are keyed, and the rest waits.
use Rattle.std.specs.Prelude.{ℕ, ◌+◌, ◌-◌, List, [], ◌++◌, length, take, drop, ltb, Option, None, Some}
use Rattle.basics.specs.Choice.{pick}
use Rattle.text.specs.Chars.{chars}
use Rattle.eaters.specs.Find.{Place, or_else}
use Rattle.places.specs.Found.{found_at, place_of}
use Rattle.places.specs.Shifts.{shifted}
use Rattle.token.specs.Lists.{Lists}
use Rattle.line_ends.specs.LineEnds.{replaced, double_return}
use Rattle.marks.specs.Marks.{hidden_mark}
use Rattle.machine.specs.Streams.{Fed}
use Rattle.machine.specs.Pieces as machine
use Rattle.machine.specs.Pieces.{feed}
use Rattle.waits.specs.Stops.{Stop}
use Rattle.waits.specs.declared.Ready.{Ready}
use Rattle.waits.specs.Waits.{ready_of}
use Rattle.waits.specs.Shifts.{ill_from}
use Rattle.key_state.specs.declared.Kept.{Kept}
use Rattle.key_state.specs.declared.Kept.TheVariants.{Nothing}
use Rattle.key_state.specs.declared.KeyState.{KeyState}
use Rattle.key_state.specs.Kept.{kept_bytes, to_kept}

-- BEFORE THE FIRST BYTE
abbrev pub begin : KeyState
begin = record { machine = machine.begin; kept = Nothing; count = 0; ill = None; double = None; mark = None }

-- how many bytes stand before those that wait
abbrev pub base_of : KeyState → ℕ
base_of st = st.count - length (kept_bytes st.kept)

-- what can be read of bytes that stand at `base`: nothing, after an ill-formed sequence
abbrev pub ready_after : Stop → (base : ℕ) → List ℕ → Ready
ready_after (Some (place, cause)) base s = record { bytes = 0; ill = Some (place, cause) }
ready_after None base s = record { bytes = (ready_of s).bytes; ill = ill_from base (ready_of s).ill }

-- what waits then: nothing, after an ill-formed sequence
abbrev pub kept_after : Stop → (rest : List ℕ) → Kept
kept_after (Some (place, cause)) rest = Nothing
kept_after None rest = to_kept rest

-- the first one found: the one that was, or else the one that is found now, in bytes that stand at `base`
abbrev pub first_found : Option ℕ → (base : ℕ) → Place → Option ℕ
first_found old base new = found_at (or_else (place_of old) (shifted base new))

-- BYTES ARE READ, the first of which are those that waited: what is written of the key, in characters, and the state after them
abbrev pub read_on : Lists → KeyState → (s : List ℕ) → Fed KeyState
read_on L st s =
    let part = ready_after st.ill (base_of st) s in
    let now = take part.bytes s in
    let fed = feed L st.machine (replaced (chars now)) in
    record {
      out = fed.out;
      state = record {
        machine = fed.state;
        kept = kept_after part.ill (drop part.bytes s);
        count = base_of st + length s;
        ill = part.ill;
        double = first_found st.double (base_of st) (double_return now);
        mark = first_found st.mark (base_of st) (hidden_mark now);
      };
    }

-- a text of over 4,294,967,295 bytes: nothing of it counts any more
abbrev pub too_long : KeyState → KeyState
too_long st = record { machine = st.machine; kept = st.kept; count = 4294967296; ill = st.ill; double = st.double; mark = st.mark }

-- A PIECE
abbrev pub read_piece : Lists → KeyState → (p : List ℕ) → Fed KeyState
read_piece L st p =
    pick (ltb 4294967295 (st.count + length p)) (record { out = []; state = too_long st })
    (read_on L st (kept_bytes st.kept ++ p))
