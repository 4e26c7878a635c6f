-- `strings::guarded_double_quoted_string` meets its contract. What the verdict lets through, and the position (Calls).
use Rattle.strings.proofs.Calls.{guarded_lists, guarded_long, guarded_given, guarded_position}
use Rattle.strings.proofs.guarded_double_quoted_string.Goals as goal

pub returns-then-not-starts_here : goal.returns-then-not-starts_here
returns-then-not-starts_here c = search (guarded_position, c.in_ok-ident_verdict.was)

pub new-lists-requires : goal.new-lists-requires
new-lists-requires c = guarded_lists _ _ _ _ c.ident_verdict.ensures (c.in_ok-ident_verdict.was)

pub guarded_at-requires : goal.guarded_at-requires
guarded_at-requires c = guarded_long _ _ _ _ c.ident_verdict.ensures (c.in_ok-ident_verdict.was)

pub returns : goal.returns
returns c = search (guarded_given, c.in_ok-ident_verdict.was)
