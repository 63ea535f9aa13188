use Rattle.session_open.proofs.making.merging_by.Goals as goal

pub returns-clause-new : goal.returns-clause-new
returns-clause-new c = λ input. record { rule_is_so = c.new.ensures.rule input; whole = c.new.ensures.whole; stands_so = c.new.ensures.stands }
