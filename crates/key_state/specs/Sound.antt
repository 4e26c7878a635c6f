-- Which states are taken (document 02, W13): any that a call can have given, and no other of which a number could leave its bounds. The machine has not read more than was handed
-- in and does not wait, and is no deeper in comments or hashes than it has read bytes.
use Rattle.std.specs.Prelude.{◌+◌, Bool, length, leb}
use Rattle.basics.specs.Choice.{and}
use Rattle.machine.specs.Pieces.{deepest}
use Rattle.key_state.specs.declared.KeyState.{KeyState}
use Rattle.key_state.specs.Kept.{kept_bytes}

abbrev pub sound : KeyState → Bool
sound st =
    and (leb st.count 4294967296)
    (and (leb (st.machine.at + length (kept_bytes st.kept)) st.count) (leb (deepest st.machine.mode) st.machine.at))
