-- THE PROMISE OF THE KEY CALL, with the most pairs of a list as the number that it is: the laws of `Keying` are laws of the call.
use Rattle.ranges.proofs.Limit.{limit}
use Rattle.token.specs.Lists.{lent}
use Rattle.key.specs.Answers.{KeyAnswer}
use Rattle.key.specs.Answers.{Keying}
use Rattle.key.proofs.key.Reads as key

pub promised : (κs : _) (a : _) (r : KeyAnswer) (x : _) → key.Post κs a r x
    → Keying limit a.0.now (lent a.1.0.now a.1.1.0.now a.1.1.1.0.now) a.1.1.1.1.0.now x.1.1.1.1.0.now r
promised κs a r x p = p
