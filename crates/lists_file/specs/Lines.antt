-- What a line of the file says (document 02, W1): the first, and another one.
use Rattle.std.specs.Prelude.{ℕ, Option, None, Some, Bool, List}
use Rattle.basics.specs.Choice.{pick}
use Rattle.fields.specs.Pieces.{if_cut}
use Rattle.fields.specs.Words.{same}
use Rattle.fields.specs.Numerals.{number_of}
use Rattle.lists_file.specs.declared.Version.{Version}
use Rattle.lists_file.specs.declared.Entry.{Entry}
use Rattle.lists_file.specs.Names.{tab, unicode_word, start_word, continue_word, emoji_word}

-- the list of a name; none where it is the name of none
unfoldable pub which_of : List ℕ → Option ℕ
which_of name = pick (same name start_word) (Some 0) (pick (same name continue_word) (Some 1) (pick (same name emoji_word) (Some 2) None))

abbrev pub entry : (which low high : ℕ) → Entry
entry which low high = record { which = which; low = low; high = high }

-- a record, where the name is that of a list and both numbers are good
abbrev pub entry_of : (which low high : Option ℕ) → Option Entry
entry_of (Some which) (Some low) (Some high) = Some (entry which low high)
entry_of (Some which) (Some low) None = None
entry_of (Some which) None high = None
entry_of None low high = None

-- hexadecimal, of at most six digits: 0xFFFFFF is the largest such number
abbrev pub hex : List ℕ → Option ℕ
hex field = number_of 16 0xFFFFFF field

-- a pair: up to a tab low, and the rest is high
abbrev pub pair_of : (which : Option ℕ) → List ℕ → Option Entry
pair_of which more = if_cut tab more None (λ low high. entry_of which (hex low) (hex high))

-- A RECORD: up to a tab the name, and then a pair
unfoldable pub record_of : List ℕ → Option Entry
record_of text = if_cut tab text None (λ name more. pair_of (which_of name) more)

abbrev pub version : (major minor update : ℕ) → Version
version major minor update = record { major = major; minor = minor; update = update }

abbrev pub version_from : (major minor update : Option ℕ) → Option Version
version_from (Some major) (Some minor) (Some update) = Some (version major minor update)
version_from (Some major) (Some minor) None = None
version_from (Some major) None update = None
version_from None minor update = None

-- decimal, to 65,535
abbrev pub decimal : List ℕ → Option ℕ
decimal field = number_of 10 65535 field

-- the last two numbers, after the word and the first one
abbrev pub minor_of : (unicode : Bool) (major : Option ℕ) → List ℕ → Option Version
minor_of unicode major rest = if_cut tab rest None (λ minor update. pick unicode (version_from major (decimal minor) (decimal update)) None)

-- all three, after the word
abbrev pub major_of : (unicode : Bool) → List ℕ → Option Version
major_of unicode more = if_cut tab more None (λ major rest. minor_of unicode (decimal major) rest)

-- THE FIRST LINE: up to a tab the word `unicode`, and then the three numbers
unfoldable pub version_of : List ℕ → Option Version
version_of text = if_cut tab text None (λ word more. major_of (same word unicode_word) more)
