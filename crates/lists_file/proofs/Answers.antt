-- Document 01, "Nothing left open": two answers that a promise allows for the same arguments are the same.
use mathlib.Core.Path.{◌≡◌, sym, ◌∙◌}
use Rattle.std.specs.Prelude.{Option}
use Rattle.lists_file.specs.declared.Version.{Version}
use Rattle.lists_file.specs.declared.Entry.{Entry}
use Rattle.lists_file.proofs.record_of.Reads as record_of
use Rattle.lists_file.proofs.version_of.Reads as version_of

pub one_record : (κs : _) (a : _) (r q : Option Entry) (x y : _) → record_of.Post κs a r x → record_of.Post κs a q y → r ≡ q
one_record κs a r q x y p e = p ∙ sym e

pub one_version : (κs : _) (a : _) (r q : Option Version) (x y : _) → version_of.Post κs a r x → version_of.Post κs a q y → r ≡ q
one_version κs a r q x y p e = p ∙ sym e
