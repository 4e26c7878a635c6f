-- What is found in a part of a text, as a place of the whole: the part begins `base` bytes further.
use Rattle.std.specs.Prelude.{ℕ, ◌+◌, None, Some}
use Rattle.refusal.specs.declared.Bad.{Bad}
use Rattle.refusal.specs.declared.Bad.TheVariants as bad
use Rattle.waits.specs.Stops.{Stop}

-- an ill-formed sequence
abbrev pub ill_from : (base : ℕ) → Stop → Stop
ill_from base None = None
ill_from base (Some (place, cause)) = Some (base + place, cause)

-- a refusal: 2 alone has a place
abbrev pub bad_from : (base : ℕ) → Bad → Bad
bad_from base bad.TooLong = bad.TooLong
bad_from base (bad.List list pair) = bad.List list pair
bad_from base (bad.NotUtf8 place cause) = bad.NotUtf8 (base + place) cause
