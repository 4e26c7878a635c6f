-- What the laws of keys ask of the lent lists: that the one of id start obeys the rules of a list (document 01, refusal 3). Nothing is asked of the others.
use Rattle.ranges.specs.Rules.{Good}
use Rattle.token.specs.Lists.{Lists}

abbrev pub Fair : Lists → Type 0
Fair L = Good L.starts
