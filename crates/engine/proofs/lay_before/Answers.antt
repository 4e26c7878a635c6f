-- `engine::lay_before` meets its contract. By what was held back (Lays).
use Rattle.engine.proofs.Lays.{none_laid, newline_room, newline_laid, slash_room, slash_laid, slashes_room, slashes_laid, slashes3_room, slashes3_laid, star_room, star_laid, stars_room, stars_laid}
use Rattle.engine.proofs.lay_before.Goals as goal

pub lay-requires : goal.lay-requires
lay-requires c = search newline_room

pub lay-requires-in-Slash : goal.lay-requires-in-Slash
lay-requires-in-Slash c = search slash_room

pub lay-requires-in-Slashes : goal.lay-requires-in-Slashes
lay-requires-in-Slashes c = search slashes_room

pub lay-requires-in-Slashes3 : goal.lay-requires-in-Slashes3
lay-requires-in-Slashes3 c = search slashes3_room

pub lay-requires-in-Star : goal.lay-requires-in-Star
lay-requires-in-Star c = search star_room

pub lay-requires-in-Stars : goal.lay-requires-in-Stars
lay-requires-in-Stars c = search stars_room

pub returns-in-Nothing : goal.returns-in-Nothing
returns-in-Nothing c = search none_laid

pub returns-in-Newline : goal.returns-in-Newline
returns-in-Newline c = search newline_laid

pub returns-in-Slash : goal.returns-in-Slash
returns-in-Slash c = search slash_laid

pub returns-in-Slashes : goal.returns-in-Slashes
returns-in-Slashes c = search slashes_laid

pub returns-in-Slashes3 : goal.returns-in-Slashes3
returns-in-Slashes3 c = search slashes3_laid

pub returns-in-Star : goal.returns-in-Star
returns-in-Star c = search star_laid

pub returns-in-Stars : goal.returns-in-Stars
returns-in-Stars c = search stars_laid
