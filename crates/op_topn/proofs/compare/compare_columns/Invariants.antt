use Rattle.std.proofs.Common.{◌≡◌, ◌≤◌, min, length, drop}
use Rattle.std.specs.Cmp.Lexicographic.{slice_cmp}
use Rattle.op_topn.specs.Keys.{directed_cmp, rank_key}
use Rattle.op_topn.proofs.compare.compare_columns.Given as goal

-- what the columns from `i` on answer, all answer
abbrev pub invariant-columns : goal.invariant-columns
invariant-columns l = record {
  both : l.both ≡ min (length l.order) (length l.other_order);
  within : l.i ≤ l.both;
  rest : slice_cmp directed_cmp (rank_key (drop l.i l.order) l.row).0 (rank_key (drop l.i l.other_order) l.other).0 ≡ slice_cmp directed_cmp (rank_key l.order l.row).0 (rank_key l.other_order l.other).0;
}
