use Rattle.std.proofs.Common.{◌+◌, ◌*◌}
use Rattle.sql_parse.proofs.depth.+depth.Given as goal

-- between one depth and the next lie the closures of the lower one
abbrev pub decreases-expr : goal.decreases-expr
decreases-expr l = 4 * l.depth

abbrev pub decreases-query : goal.decreases-query
decreases-query l = 4 * l.depth

abbrev pub decreases-expr-closure : goal.decreases-expr-closure
decreases-expr-closure l = 4 * l.below + 2

abbrev pub decreases-expr-closure+2 : goal.decreases-expr-closure+2
decreases-expr-closure+2 l = 4 * l.below + 2

abbrev pub decreases-query-closure : goal.decreases-query-closure
decreases-query-closure l = 4 * l.below + 2

abbrev pub decreases-query-closure+2 : goal.decreases-query-closure+2
decreases-query-closure+2 l = 4 * l.below + 2
