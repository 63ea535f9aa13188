use Rattle.std.proofs.Common.{◌≡◌, map}
use Rattle.sql_grammar.specs.Reading.{behind, many, repeated}
use Rattle.sql_reading.proofs.again.repeat.Given as goal

abbrev pub invariant-items : goal.invariant-items
invariant-items g l = behind (map g.A.Again.seen l.list) (many (g.A.Again.word_of l.rule) (g.A.Again.item_of l.rule) l.left l.rest) ≡ behind (map g.A.Again.seen l.initial.list) (repeated (g.A.Again.word_of l.rule) (g.A.Again.item_of l.rule) l.tokens)

abbrev pub decreases-items : goal.decreases-items
decreases-items g l = l.left
