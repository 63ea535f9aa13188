-- Operators that calculate nothing.
use Rattle.std.specs.Prelude.{Bool, true, false}
use Rattle.rel_algebra.specs.Rel.{group_by}
use Rattle.range_rules.specs.Tame.{is_tame_unary, is_tame_binary}
use Rattle.phys_plan.specs.declared.node.Op.{Op}
use Rattle.plan_rules.specs.Roles.{Role, reads_table, one_of, two_of, all_of, same_as, part_of, not_told, role}

-- by the role of one
abbrev pub is_tame_role : Role → Bool
is_tame_role (reads_table source) = true
is_tame_role (one_of how) = is_tame_unary how
is_tame_role (two_of how) = is_tame_binary how
is_tame_role all_of = true
is_tame_role same_as = true
is_tame_role (part_of keys aggs) = is_tame_unary (group_by keys aggs)
is_tame_role (not_told so_many) = false

abbrev pub is_tame_op : Op → Bool
is_tame_op operator = is_tame_role (role operator)
