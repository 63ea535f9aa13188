use Rattle.std.proofs.Common.{sym}
use Rattle.session_open.proofs.making.semi_by.Goals as goal

pub returns : goal.returns
returns c = record { rule_is_so = rw (sym c.in_ok-on.ensures, sym c.in_ok-rest.ensures) c.in_ok-made.ensures.rule; whole = c.in_ok-made.ensures.whole; stands_so = c.in_ok-made.ensures.stands }
