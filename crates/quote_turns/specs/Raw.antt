-- In a raw string: what a character does.
use Rattle.std.specs.Prelude.{ℕ, ◌+◌}
use Rattle.basics.specs.Choice.{pick}
use Rattle.token.specs.Names.{is, 'double', '#'}
use Rattle.machine.specs.declared.Mode.TheVariants.{Broken, RawHashes, RawBody}
use Rattle.machine.specs.Machine.{raw_at}
use Rattle.goes.specs.declared.Goes.{Goes}
use Rattle.goes.specs.declared.Goes.TheVariants.{Takes, Drops}

-- mode RawHashes, after n hashes: one more, the quote, or it is broken
abbrev pub raw_hashes_goes : (n c : ℕ) → Goes
raw_hashes_goes n c = pick (is '#' c) (Takes (RawHashes (n + 1))) (pick (is 'double' c) (Takes (RawBody n)) (Drops Broken))

-- mode RawBody, in a raw string of n hashes: a quote may close it
abbrev pub raw_body_goes : (n c : ℕ) → Goes
raw_body_goes n c = pick (is 'double' c) (Takes (raw_at n n)) (Takes (RawBody n))

-- mode RawEnd, after a quote in it, where a hash and j more are to come
abbrev pub raw_end_goes : (n j c : ℕ) → Goes
raw_end_goes n j c = pick (is '#' c) (Takes (raw_at n j)) (raw_body_goes n c)
