-- What is known of each operator of the algebra: its columns have types that exist, and the rows that it makes have its columns.
use Rattle.std.proofs.Common.{◌≡◌, ℕ, ◌<◌, ◌^◌, ◌==◌, true, List, length, map, Some, subst, arith}
use Rattle.std.specs.Prelude.{nat_le, option_map}
use Rattle.std.specs.List.{list_all}
use Rattle.std.proofs.lemmas.Bool.{leb-true}
use Rattle.ct_value.specs.declared.ty.ColTy.{ColTy}
use Rattle.ct_change.specs.Changelog.{Rows}
use Rattle.ct_expr.specs.Eval.{eval}
use Rattle.rel_algebra.specs.declared.sort.SortCol.{SortCol}
use Rattle.rel_algebra.specs.Sums.{Each}
use Rattle.rel_algebra.specs.Clauses.{Fits}
use Rattle.rel_algebra.specs.Joins.{nullable_if, matching, join_columns, keeps_left, keeps_right}
use Rattle.rel_algebra.specs.Ranks.{rank_columns}
use Rattle.rel_algebra.specs.Sets.{set_form, set_kind, set_rows, set_columns}
use Rattle.rel_algebra.specs.Rel.{Unary, filter_by, project_on, group_by, rank_in, Binary, join_on, semi_on, set_by}
use Rattle.rel_algebra.specs.Batch.{unary_answer, binary_answer}
use Rattle.rel_algebra.specs.Types.{is_condition, match_fits, rank_fits as rank_is_typed, largest_bound, is_column, unary_columns, binary_columns}
use Rattle.rel_algebra.proofs.laws.ClauseTypes.{filter_fits, project_fits, join_fits, semi_fits, group_fits, rank_fits}
use Rattle.rel_algebra.proofs.laws.Fits.{second}
use Rattle.typing_laws.specs.Exist.{Exist}
use Rattle.typing_laws.proofs.laws.CommonColumns.{if_some, if_all, set_rows_fit}
use Rattle.typing_laws.proofs.laws.Exists.{FineList, exist-append, exist_nullable, list_if, list_where, items_fine, group_fine, rank_fine, set_lists}
use Rattle.typing_laws.proofs.laws.Items.{items_mean}

few : (bound : ℕ) → nat_le bound largest_bound ≡ true → bound < 2 ^ 63
few bound e = let h = leb-true bound largest_bound e in omega arith

rank_bound : (columns : List ColTy) (partition : List ℕ) (order : List SortCol) (bound : ℕ) → rank_is_typed columns partition order bound ≡ true → bound < 2 ^ 63
rank_bound columns partition order bound e =
    few bound (second (nat_le 1 bound) _ (second (list_all (λ sort. is_column columns sort.col) order) _ (second (list_all (is_column columns) partition) _ e)))

pub record UnaryTypes (how : Unary) : Type 0 where
  pub exist : (columns : List ColTy) → Exist columns → FineList (unary_columns how columns)
  pub fits : (own columns : List ColTy) (rows made : Rows) → unary_columns how own ≡ Some columns → Each (Fits own) rows → unary_answer how own rows ≡ Some made → Each (Fits columns) made

pub record BinaryTypes (how : Binary) : Type 0 where
  pub exist : (l r : List ColTy) → Exist l → Exist r → FineList (binary_columns how l r)
  pub fits : (l r columns : List ColTy) (left right made : Rows) → binary_columns how l r ≡ Some columns → Each (Fits l) left → Each (Fits r) right → binary_answer how l r left right ≡ Some made → Each (Fits columns) made

-- ---- the table

pub unary_types : (how : Unary) → UnaryTypes how
unary_types (filter_by condition) = record {
  exist = λ columns h. list_if (is_condition columns condition) columns h;
  fits = λ own columns rows made t h e. filter_fits columns (eval condition) rows made (subst (λ c. Each (Fits c) rows) (if_some (is_condition own condition) own columns t).1 h) e;
}
unary_types (project_on items) = record {
  exist = λ columns h. items_fine columns items h;
  fits = λ own columns rows made t h e. project_fits own (map eval items) columns rows made (items_mean own items columns t) h e;
}
unary_types (group_by keys aggs) = record {
  exist = λ columns h. group_fine keys aggs columns h;
  fits = λ own columns rows made t h e. group_fits keys own columns aggs rows made t h e;
}
unary_types (rank_in partition order bound ranked) = record {
  exist = λ columns h. list_if (rank_is_typed columns partition order bound) (rank_columns ranked columns) (rank_fine ranked columns h);
  fits = λ own columns rows made t h e.
      let k = if_some (rank_is_typed own partition order bound) (rank_columns ranked own) columns t in
      subst (λ c. Each (Fits c) made) k.1 (rank_fits own partition order bound ranked rows made (rank_bound own partition order bound k.0) h e);
}

pub binary_types : (how : Binary) → BinaryTypes how
binary_types (join_on kind pairs rest) = record {
  exist = λ l r h k. list_if (match_fits l r pairs rest) (join_columns kind l r)
      (exist-append (map (nullable_if (keeps_right kind)) l) (map (nullable_if (keeps_left kind)) r) (exist_nullable (keeps_right kind) l h) (exist_nullable (keeps_left kind) r k));
  fits = λ l r columns left right made t h k e.
      let i = (if_some (match_fits l r pairs rest) (join_columns kind l r) columns t).1 in
      subst (λ c. Each (Fits c) made) i (join_fits kind l r (matching pairs (option_map eval rest)) left right made h k e);
}
binary_types (semi_on anti pairs rest) = record {
  exist = λ l r h k. list_if (match_fits l r pairs rest) l h;
  fits = λ l r columns left right made t h k e.
      let i = (if_some (match_fits l r pairs rest) l columns t).1 in
      semi_fits anti columns (matching pairs (option_map eval rest)) left right made (subst (λ c. Each (Fits c) left) i h) e;
}
binary_types (set_by except all columns) = record {
  exist = λ l r h k. list_where (length l == columns) (set_columns (set_kind except) l r) (set_lists (set_kind except) l r h k);
  fits = λ l r made left right rows t h k e.
      let i = (if_all (length l == columns) (set_columns (set_kind except) l r) made t).1 in
      let j : set_rows (set_form except all) left right ≡ rows = cc in
      subst (λ (c : Rows). Each (Fits made) c) j (set_rows_fit except all l r made left right i h k);
}
