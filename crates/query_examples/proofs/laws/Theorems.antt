-- The theorems of this crate, put together of its lemmas.
use Rattle.std.proofs.Common.{refl, ◌∙◌}
use Rattle.std.specs.Str.{is_utf8, chars}
use Rattle.std.specs.Fmt.{digits}
use lib.Utf8.{encode}
use Rattle.sql_tokens.specs.Tokens.{keyword_of, symbol_front, front, read_fronts}
use Rattle.sql_grammar.specs.Reading.{many}
use Rattle.sql_grammar.specs.Reads.{name_at, sizes_at, numbers_at, type_at, alias_at, column_at, is_null_at, star_of_at, table_at, limit_at, trees_at, sort_at, sorts_at, order_by_at, args_at, kept_at, filter_at, partition_at, window_at, over_at, call_at, named_at, cast_inner_at, cast_at, sub_at, paren_at, opened_at, when_at, whens_at, else_at, case_at, begun_at, primary_at, sign_at, product_tail_at, product_at, sum_tail_at, sum_at, compare_at, between_at, in_list_at, in_query_at, in_at, like_at, negatable_at, tested_at, rest_at, exists_at, sum_test_at, test_at, neg_at, conj_at, expr_at, value_item_at, item_at, items_at, from_query_at, source_at, on_at, outer_at, joined_at, chosen_at, joins_at, from_at, where_at, group_at, having_at, filters_at, selected_at, select_at, intersect_at, intersects_at, term_at, union_at, except_at, beside_at, term_tails_at, terms_at, order_at, ending_at, query_at, not_null_at, key_flag_at, column_def_at, names_at, key_at, element_at, elements_at, pair_at, pairs_at, options_at, create_at, set_at, insert_at, stated_at, statement_at, readers, parse}
use Rattle.sql_grammar.specs.ReadsScripts.{read_ended, read_last, read_pieces, read_from, read_text}
use Rattle.query_answer.specs.Functions.{function_of}
use Rattle.ct_value.specs.declared.codes.ScriptCode.TheVariants.{UnknownTable, UnknownColumn, AmbiguousColumn, TypeMismatch, NotGrouped, Nondeterministic, Unsupported}
use Rattle.query_examples.specs.Checks.{AreRefused, HaveCodes, AreAccepted, InsertsHave, AreBound, HaveColumns, HaveTypes, HaveValues}
use Rattle.query_examples.specs.Refused.{unknown_tables, unknown_columns, ambiguous, mismatched, ungrouped, nondeterministic, unsupported, walks, long_chains, wide, accepted}
use Rattle.query_examples.specs.Inserts.{inserts}
use Rattle.query_examples.specs.Bound.{bound, columns}
use Rattle.query_examples.specs.Values.{values, row, null_values, null_row}
use Rattle.query_examples.specs.Ranks.{trees, refused, inserted, rows}
use Rattle.query_examples.specs.Answered.{answered, HaveAnswers}
use Rattle.query_examples.proofs.Answering.{all_computed}
use Rattle.query_laws.proofs.laws.Theorems.{binding_keeps_the_answer_rows}
use Rattle.query_examples.proofs.laws.Computed.{answer-listed as listed_answer_is_the_answer}

-- Names: tables and columns that there aren't, and columns that are named twice.
pub names_are_refused_tables : AreRefused UnknownTable unknown_tables
unfolding digits is_utf8 chars encode keyword_of symbol_front front read_fronts many name_at sizes_at numbers_at type_at alias_at column_at is_null_at star_of_at table_at limit_at trees_at sort_at sorts_at order_by_at args_at kept_at filter_at partition_at window_at over_at call_at named_at cast_inner_at cast_at sub_at paren_at opened_at when_at whens_at else_at case_at begun_at primary_at sign_at product_tail_at product_at sum_tail_at sum_at compare_at between_at in_list_at in_query_at in_at like_at negatable_at tested_at rest_at exists_at sum_test_at test_at neg_at conj_at expr_at value_item_at item_at items_at from_query_at source_at on_at outer_at joined_at chosen_at joins_at from_at where_at group_at having_at filters_at selected_at select_at intersect_at intersects_at term_at union_at except_at beside_at term_tails_at terms_at order_at ending_at query_at not_null_at key_flag_at column_def_at names_at key_at element_at elements_at pair_at pairs_at options_at create_at set_at insert_at stated_at statement_at readers parse read_ended read_last read_pieces read_from read_text function_of
names_are_refused_tables = refl

-- Names: tables and columns that there aren't, and columns that are named twice.
pub names_are_refused_columns : AreRefused UnknownColumn unknown_columns
unfolding digits is_utf8 chars encode keyword_of symbol_front front read_fronts many name_at sizes_at numbers_at type_at alias_at column_at is_null_at star_of_at table_at limit_at trees_at sort_at sorts_at order_by_at args_at kept_at filter_at partition_at window_at over_at call_at named_at cast_inner_at cast_at sub_at paren_at opened_at when_at whens_at else_at case_at begun_at primary_at sign_at product_tail_at product_at sum_tail_at sum_at compare_at between_at in_list_at in_query_at in_at like_at negatable_at tested_at rest_at exists_at sum_test_at test_at neg_at conj_at expr_at value_item_at item_at items_at from_query_at source_at on_at outer_at joined_at chosen_at joins_at from_at where_at group_at having_at filters_at selected_at select_at intersect_at intersects_at term_at union_at except_at beside_at term_tails_at terms_at order_at ending_at query_at not_null_at key_flag_at column_def_at names_at key_at element_at elements_at pair_at pairs_at options_at create_at set_at insert_at stated_at statement_at readers parse read_ended read_last read_pieces read_from read_text function_of
names_are_refused_columns = refl

-- Names: tables and columns that there aren't, and columns that are named twice.
pub names_are_refused_ambiguous : AreRefused AmbiguousColumn ambiguous
unfolding digits is_utf8 chars encode keyword_of symbol_front front read_fronts many name_at sizes_at numbers_at type_at alias_at column_at is_null_at star_of_at table_at limit_at trees_at sort_at sorts_at order_by_at args_at kept_at filter_at partition_at window_at over_at call_at named_at cast_inner_at cast_at sub_at paren_at opened_at when_at whens_at else_at case_at begun_at primary_at sign_at product_tail_at product_at sum_tail_at sum_at compare_at between_at in_list_at in_query_at in_at like_at negatable_at tested_at rest_at exists_at sum_test_at test_at neg_at conj_at expr_at value_item_at item_at items_at from_query_at source_at on_at outer_at joined_at chosen_at joins_at from_at where_at group_at having_at filters_at selected_at select_at intersect_at intersects_at term_at union_at except_at beside_at term_tails_at terms_at order_at ending_at query_at not_null_at key_flag_at column_def_at names_at key_at element_at elements_at pair_at pairs_at options_at create_at set_at insert_at stated_at statement_at readers parse read_ended read_last read_pieces read_from read_text function_of
names_are_refused_ambiguous = refl

-- Types that the table of expressions doesn't give.
pub types_are_refused : AreRefused TypeMismatch mismatched
unfolding digits is_utf8 chars encode keyword_of symbol_front front read_fronts many name_at sizes_at numbers_at type_at alias_at column_at is_null_at star_of_at table_at limit_at trees_at sort_at sorts_at order_by_at args_at kept_at filter_at partition_at window_at over_at call_at named_at cast_inner_at cast_at sub_at paren_at opened_at when_at whens_at else_at case_at begun_at primary_at sign_at product_tail_at product_at sum_tail_at sum_at compare_at between_at in_list_at in_query_at in_at like_at negatable_at tested_at rest_at exists_at sum_test_at test_at neg_at conj_at expr_at value_item_at item_at items_at from_query_at source_at on_at outer_at joined_at chosen_at joins_at from_at where_at group_at having_at filters_at selected_at select_at intersect_at intersects_at term_at union_at except_at beside_at term_tails_at terms_at order_at ending_at query_at not_null_at key_flag_at column_def_at names_at key_at element_at elements_at pair_at pairs_at options_at create_at set_at insert_at stated_at statement_at readers parse read_ended read_last read_pieces read_from read_text function_of
types_are_refused = refl

-- Columns outside groups, and aggregates where there are none.
pub groups_are_refused : AreRefused NotGrouped ungrouped
unfolding digits is_utf8 chars encode keyword_of symbol_front front read_fronts many name_at sizes_at numbers_at type_at alias_at column_at is_null_at star_of_at table_at limit_at trees_at sort_at sorts_at order_by_at args_at kept_at filter_at partition_at window_at over_at call_at named_at cast_inner_at cast_at sub_at paren_at opened_at when_at whens_at else_at case_at begun_at primary_at sign_at product_tail_at product_at sum_tail_at sum_at compare_at between_at in_list_at in_query_at in_at like_at negatable_at tested_at rest_at exists_at sum_test_at test_at neg_at conj_at expr_at value_item_at item_at items_at from_query_at source_at on_at outer_at joined_at chosen_at joins_at from_at where_at group_at having_at filters_at selected_at select_at intersect_at intersects_at term_at union_at except_at beside_at term_tails_at terms_at order_at ending_at query_at not_null_at key_flag_at column_def_at names_at key_at element_at elements_at pair_at pairs_at options_at create_at set_at insert_at stated_at statement_at readers parse read_ended read_last read_pieces read_from read_text function_of
groups_are_refused = refl

-- Functions whose answers change, and what isn't there.
pub forms_are_refused_changing : AreRefused Nondeterministic nondeterministic
unfolding digits is_utf8 chars encode keyword_of symbol_front front read_fronts many name_at sizes_at numbers_at type_at alias_at column_at is_null_at star_of_at table_at limit_at trees_at sort_at sorts_at order_by_at args_at kept_at filter_at partition_at window_at over_at call_at named_at cast_inner_at cast_at sub_at paren_at opened_at when_at whens_at else_at case_at begun_at primary_at sign_at product_tail_at product_at sum_tail_at sum_at compare_at between_at in_list_at in_query_at in_at like_at negatable_at tested_at rest_at exists_at sum_test_at test_at neg_at conj_at expr_at value_item_at item_at items_at from_query_at source_at on_at outer_at joined_at chosen_at joins_at from_at where_at group_at having_at filters_at selected_at select_at intersect_at intersects_at term_at union_at except_at beside_at term_tails_at terms_at order_at ending_at query_at not_null_at key_flag_at column_def_at names_at key_at element_at elements_at pair_at pairs_at options_at create_at set_at insert_at stated_at statement_at readers parse read_ended read_last read_pieces read_from read_text function_of
forms_are_refused_changing = refl

-- Functions whose answers change, and what isn't there.
pub forms_are_refused_unsupported : AreRefused Unsupported unsupported
unfolding digits is_utf8 chars encode keyword_of symbol_front front read_fronts many name_at sizes_at numbers_at type_at alias_at column_at is_null_at star_of_at table_at limit_at trees_at sort_at sorts_at order_by_at args_at kept_at filter_at partition_at window_at over_at call_at named_at cast_inner_at cast_at sub_at paren_at opened_at when_at whens_at else_at case_at begun_at primary_at sign_at product_tail_at product_at sum_tail_at sum_at compare_at between_at in_list_at in_query_at in_at like_at negatable_at tested_at rest_at exists_at sum_test_at test_at neg_at conj_at expr_at value_item_at item_at items_at from_query_at source_at on_at outer_at joined_at chosen_at joins_at from_at where_at group_at having_at filters_at selected_at select_at intersect_at intersects_at term_at union_at except_at beside_at term_tails_at terms_at order_at ending_at query_at not_null_at key_flag_at column_def_at names_at key_at element_at elements_at pair_at pairs_at options_at create_at set_at insert_at stated_at statement_at readers parse read_ended read_last read_pieces read_from read_text function_of
forms_are_refused_unsupported = refl

-- Of several refusals the first that the walk meets counts; chains of more than 512 operands, and lists of more than 64 columns.
pub the_first_refusal_counts_walks : HaveCodes walks
unfolding digits is_utf8 chars encode keyword_of symbol_front front read_fronts many name_at sizes_at numbers_at type_at alias_at column_at is_null_at star_of_at table_at limit_at trees_at sort_at sorts_at order_by_at args_at kept_at filter_at partition_at window_at over_at call_at named_at cast_inner_at cast_at sub_at paren_at opened_at when_at whens_at else_at case_at begun_at primary_at sign_at product_tail_at product_at sum_tail_at sum_at compare_at between_at in_list_at in_query_at in_at like_at negatable_at tested_at rest_at exists_at sum_test_at test_at neg_at conj_at expr_at value_item_at item_at items_at from_query_at source_at on_at outer_at joined_at chosen_at joins_at from_at where_at group_at having_at filters_at selected_at select_at intersect_at intersects_at term_at union_at except_at beside_at term_tails_at terms_at order_at ending_at query_at not_null_at key_flag_at column_def_at names_at key_at element_at elements_at pair_at pairs_at options_at create_at set_at insert_at stated_at statement_at readers parse read_ended read_last read_pieces read_from read_text function_of
the_first_refusal_counts_walks = refl

-- Of several refusals the first that the walk meets counts; chains of more than 512 operands, and lists of more than 64 columns.
pub the_first_refusal_counts_chains : HaveCodes long_chains
unfolding digits is_utf8 chars encode keyword_of symbol_front front read_fronts many name_at sizes_at numbers_at type_at alias_at column_at is_null_at star_of_at table_at limit_at trees_at sort_at sorts_at order_by_at args_at kept_at filter_at partition_at window_at over_at call_at named_at cast_inner_at cast_at sub_at paren_at opened_at when_at whens_at else_at case_at begun_at primary_at sign_at product_tail_at product_at sum_tail_at sum_at compare_at between_at in_list_at in_query_at in_at like_at negatable_at tested_at rest_at exists_at sum_test_at test_at neg_at conj_at expr_at value_item_at item_at items_at from_query_at source_at on_at outer_at joined_at chosen_at joins_at from_at where_at group_at having_at filters_at selected_at select_at intersect_at intersects_at term_at union_at except_at beside_at term_tails_at terms_at order_at ending_at query_at not_null_at key_flag_at column_def_at names_at key_at element_at elements_at pair_at pairs_at options_at create_at set_at insert_at stated_at statement_at readers parse read_ended read_last read_pieces read_from read_text function_of
the_first_refusal_counts_chains = refl

-- Of several refusals the first that the walk meets counts; chains of more than 512 operands, and lists of more than 64 columns.
pub the_first_refusal_counts_wide : HaveCodes wide
unfolding digits is_utf8 chars encode keyword_of symbol_front front read_fronts many name_at sizes_at numbers_at type_at alias_at column_at is_null_at star_of_at table_at limit_at trees_at sort_at sorts_at order_by_at args_at kept_at filter_at partition_at window_at over_at call_at named_at cast_inner_at cast_at sub_at paren_at opened_at when_at whens_at else_at case_at begun_at primary_at sign_at product_tail_at product_at sum_tail_at sum_at compare_at between_at in_list_at in_query_at in_at like_at negatable_at tested_at rest_at exists_at sum_test_at test_at neg_at conj_at expr_at value_item_at item_at items_at from_query_at source_at on_at outer_at joined_at chosen_at joins_at from_at where_at group_at having_at filters_at selected_at select_at intersect_at intersects_at term_at union_at except_at beside_at term_tails_at terms_at order_at ending_at query_at not_null_at key_flag_at column_def_at names_at key_at element_at elements_at pair_at pairs_at options_at create_at set_at insert_at stated_at statement_at readers parse read_ended read_last read_pieces read_from read_text function_of
the_first_refusal_counts_wide = refl

-- What stands beside them and is accepted.
pub others_are_accepted : AreAccepted accepted
unfolding digits is_utf8 chars encode keyword_of symbol_front front read_fronts many name_at sizes_at numbers_at type_at alias_at column_at is_null_at star_of_at table_at limit_at trees_at sort_at sorts_at order_by_at args_at kept_at filter_at partition_at window_at over_at call_at named_at cast_inner_at cast_at sub_at paren_at opened_at when_at whens_at else_at case_at begun_at primary_at sign_at product_tail_at product_at sum_tail_at sum_at compare_at between_at in_list_at in_query_at in_at like_at negatable_at tested_at rest_at exists_at sum_test_at test_at neg_at conj_at expr_at value_item_at item_at items_at from_query_at source_at on_at outer_at joined_at chosen_at joins_at from_at where_at group_at having_at filters_at selected_at select_at intersect_at intersects_at term_at union_at except_at beside_at term_tails_at terms_at order_at ending_at query_at not_null_at key_flag_at column_def_at names_at key_at element_at elements_at pair_at pairs_at options_at create_at set_at insert_at stated_at statement_at readers parse read_ended read_last read_pieces read_from read_text function_of
others_are_accepted = refl

-- INSERTs, the sink first and its columns last.
pub inserts_are_judged : InsertsHave inserts
unfolding digits is_utf8 chars encode keyword_of symbol_front front read_fronts many name_at sizes_at numbers_at type_at alias_at column_at is_null_at star_of_at table_at limit_at trees_at sort_at sorts_at order_by_at args_at kept_at filter_at partition_at window_at over_at call_at named_at cast_inner_at cast_at sub_at paren_at opened_at when_at whens_at else_at case_at begun_at primary_at sign_at product_tail_at product_at sum_tail_at sum_at compare_at between_at in_list_at in_query_at in_at like_at negatable_at tested_at rest_at exists_at sum_test_at test_at neg_at conj_at expr_at value_item_at item_at items_at from_query_at source_at on_at outer_at joined_at chosen_at joins_at from_at where_at group_at having_at filters_at selected_at select_at intersect_at intersects_at term_at union_at except_at beside_at term_tails_at terms_at order_at ending_at query_at not_null_at key_flag_at column_def_at names_at key_at element_at elements_at pair_at pairs_at options_at create_at set_at insert_at stated_at statement_at readers parse read_ended read_last read_pieces read_from read_text function_of
inserts_are_judged = refl

-- The trees that queries are bound to, and the columns of queries with their names.
pub queries_are_bound_trees : AreBound bound
unfolding digits is_utf8 chars encode keyword_of symbol_front front read_fronts many name_at sizes_at numbers_at type_at alias_at column_at is_null_at star_of_at table_at limit_at trees_at sort_at sorts_at order_by_at args_at kept_at filter_at partition_at window_at over_at call_at named_at cast_inner_at cast_at sub_at paren_at opened_at when_at whens_at else_at case_at begun_at primary_at sign_at product_tail_at product_at sum_tail_at sum_at compare_at between_at in_list_at in_query_at in_at like_at negatable_at tested_at rest_at exists_at sum_test_at test_at neg_at conj_at expr_at value_item_at item_at items_at from_query_at source_at on_at outer_at joined_at chosen_at joins_at from_at where_at group_at having_at filters_at selected_at select_at intersect_at intersects_at term_at union_at except_at beside_at term_tails_at terms_at order_at ending_at query_at not_null_at key_flag_at column_def_at names_at key_at element_at elements_at pair_at pairs_at options_at create_at set_at insert_at stated_at statement_at readers parse read_ended read_last read_pieces read_from read_text function_of
queries_are_bound_trees = refl

-- The trees that queries are bound to, and the columns of queries with their names.
pub queries_are_bound_columns : HaveColumns columns
unfolding digits is_utf8 chars encode keyword_of symbol_front front read_fronts many name_at sizes_at numbers_at type_at alias_at column_at is_null_at star_of_at table_at limit_at trees_at sort_at sorts_at order_by_at args_at kept_at filter_at partition_at window_at over_at call_at named_at cast_inner_at cast_at sub_at paren_at opened_at when_at whens_at else_at case_at begun_at primary_at sign_at product_tail_at product_at sum_tail_at sum_at compare_at between_at in_list_at in_query_at in_at like_at negatable_at tested_at rest_at exists_at sum_test_at test_at neg_at conj_at expr_at value_item_at item_at items_at from_query_at source_at on_at outer_at joined_at chosen_at joins_at from_at where_at group_at having_at filters_at selected_at select_at intersect_at intersects_at term_at union_at except_at beside_at term_tails_at terms_at order_at ending_at query_at not_null_at key_flag_at column_def_at names_at key_at element_at elements_at pair_at pairs_at options_at create_at set_at insert_at stated_at statement_at readers parse read_ended read_last read_pieces read_from read_text function_of
queries_are_bound_columns = refl

-- The types of expressions as they are written, and their values at rows.
pub expressions_have_their_values_types : HaveTypes values
unfolding digits is_utf8 chars encode keyword_of symbol_front front read_fronts many name_at sizes_at numbers_at type_at alias_at column_at is_null_at star_of_at table_at limit_at trees_at sort_at sorts_at order_by_at args_at kept_at filter_at partition_at window_at over_at call_at named_at cast_inner_at cast_at sub_at paren_at opened_at when_at whens_at else_at case_at begun_at primary_at sign_at product_tail_at product_at sum_tail_at sum_at compare_at between_at in_list_at in_query_at in_at like_at negatable_at tested_at rest_at exists_at sum_test_at test_at neg_at conj_at expr_at value_item_at item_at items_at from_query_at source_at on_at outer_at joined_at chosen_at joins_at from_at where_at group_at having_at filters_at selected_at select_at intersect_at intersects_at term_at union_at except_at beside_at term_tails_at terms_at order_at ending_at query_at not_null_at key_flag_at column_def_at names_at key_at element_at elements_at pair_at pairs_at options_at create_at set_at insert_at stated_at statement_at readers parse read_ended read_last read_pieces read_from read_text function_of
expressions_have_their_values_types = refl

-- The types of expressions as they are written, and their values at rows.
pub expressions_have_their_values_values : HaveValues row values
unfolding digits is_utf8 chars encode keyword_of symbol_front front read_fronts many name_at sizes_at numbers_at type_at alias_at column_at is_null_at star_of_at table_at limit_at trees_at sort_at sorts_at order_by_at args_at kept_at filter_at partition_at window_at over_at call_at named_at cast_inner_at cast_at sub_at paren_at opened_at when_at whens_at else_at case_at begun_at primary_at sign_at product_tail_at product_at sum_tail_at sum_at compare_at between_at in_list_at in_query_at in_at like_at negatable_at tested_at rest_at exists_at sum_test_at test_at neg_at conj_at expr_at value_item_at item_at items_at from_query_at source_at on_at outer_at joined_at chosen_at joins_at from_at where_at group_at having_at filters_at selected_at select_at intersect_at intersects_at term_at union_at except_at beside_at term_tails_at terms_at order_at ending_at query_at not_null_at key_flag_at column_def_at names_at key_at element_at elements_at pair_at pairs_at options_at create_at set_at insert_at stated_at statement_at readers parse read_ended read_last read_pieces read_from read_text function_of
expressions_have_their_values_values = refl

-- The types of expressions as they are written, and their values at rows.
pub expressions_have_their_values_null_types : HaveTypes null_values
unfolding digits is_utf8 chars encode keyword_of symbol_front front read_fronts many name_at sizes_at numbers_at type_at alias_at column_at is_null_at star_of_at table_at limit_at trees_at sort_at sorts_at order_by_at args_at kept_at filter_at partition_at window_at over_at call_at named_at cast_inner_at cast_at sub_at paren_at opened_at when_at whens_at else_at case_at begun_at primary_at sign_at product_tail_at product_at sum_tail_at sum_at compare_at between_at in_list_at in_query_at in_at like_at negatable_at tested_at rest_at exists_at sum_test_at test_at neg_at conj_at expr_at value_item_at item_at items_at from_query_at source_at on_at outer_at joined_at chosen_at joins_at from_at where_at group_at having_at filters_at selected_at select_at intersect_at intersects_at term_at union_at except_at beside_at term_tails_at terms_at order_at ending_at query_at not_null_at key_flag_at column_def_at names_at key_at element_at elements_at pair_at pairs_at options_at create_at set_at insert_at stated_at statement_at readers parse read_ended read_last read_pieces read_from read_text function_of
expressions_have_their_values_null_types = refl

-- The types of expressions as they are written, and their values at rows.
pub expressions_have_their_values_null_values : HaveValues null_row null_values
unfolding digits is_utf8 chars encode keyword_of symbol_front front read_fronts many name_at sizes_at numbers_at type_at alias_at column_at is_null_at star_of_at table_at limit_at trees_at sort_at sorts_at order_by_at args_at kept_at filter_at partition_at window_at over_at call_at named_at cast_inner_at cast_at sub_at paren_at opened_at when_at whens_at else_at case_at begun_at primary_at sign_at product_tail_at product_at sum_tail_at sum_at compare_at between_at in_list_at in_query_at in_at like_at negatable_at tested_at rest_at exists_at sum_test_at test_at neg_at conj_at expr_at value_item_at item_at items_at from_query_at source_at on_at outer_at joined_at chosen_at joins_at from_at where_at group_at having_at filters_at selected_at select_at intersect_at intersects_at term_at union_at except_at beside_at term_tails_at terms_at order_at ending_at query_at not_null_at key_flag_at column_def_at names_at key_at element_at elements_at pair_at pairs_at options_at create_at set_at insert_at stated_at statement_at readers parse read_ended read_last read_pieces read_from read_text function_of
expressions_have_their_values_null_values = refl

-- Top-N: the trees that queries with a rank are bound to.
pub ranks_are_bound : AreBound trees
unfolding digits is_utf8 chars encode keyword_of symbol_front front read_fronts many name_at sizes_at numbers_at type_at alias_at column_at is_null_at star_of_at table_at limit_at trees_at sort_at sorts_at order_by_at args_at kept_at filter_at partition_at window_at over_at call_at named_at cast_inner_at cast_at sub_at paren_at opened_at when_at whens_at else_at case_at begun_at primary_at sign_at product_tail_at product_at sum_tail_at sum_at compare_at between_at in_list_at in_query_at in_at like_at negatable_at tested_at rest_at exists_at sum_test_at test_at neg_at conj_at expr_at value_item_at item_at items_at from_query_at source_at on_at outer_at joined_at chosen_at joins_at from_at where_at group_at having_at filters_at selected_at select_at intersect_at intersects_at term_at union_at except_at beside_at term_tails_at terms_at order_at ending_at query_at not_null_at key_flag_at column_def_at names_at key_at element_at elements_at pair_at pairs_at options_at create_at set_at insert_at stated_at statement_at readers parse read_ended read_last read_pieces read_from read_text function_of
ranks_are_bound = refl

-- Ranks without a bound, of which INSERTs show that they are refused last, and other ranks that have no place.
pub ranks_are_refused_first : HaveCodes refused
unfolding digits is_utf8 chars encode keyword_of symbol_front front read_fronts many name_at sizes_at numbers_at type_at alias_at column_at is_null_at star_of_at table_at limit_at trees_at sort_at sorts_at order_by_at args_at kept_at filter_at partition_at window_at over_at call_at named_at cast_inner_at cast_at sub_at paren_at opened_at when_at whens_at else_at case_at begun_at primary_at sign_at product_tail_at product_at sum_tail_at sum_at compare_at between_at in_list_at in_query_at in_at like_at negatable_at tested_at rest_at exists_at sum_test_at test_at neg_at conj_at expr_at value_item_at item_at items_at from_query_at source_at on_at outer_at joined_at chosen_at joins_at from_at where_at group_at having_at filters_at selected_at select_at intersect_at intersects_at term_at union_at except_at beside_at term_tails_at terms_at order_at ending_at query_at not_null_at key_flag_at column_def_at names_at key_at element_at elements_at pair_at pairs_at options_at create_at set_at insert_at stated_at statement_at readers parse read_ended read_last read_pieces read_from read_text function_of
ranks_are_refused_first = refl

-- Ranks without a bound, of which INSERTs show that they are refused last, and other ranks that have no place.
pub ranks_are_refused_inserted : InsertsHave inserted
unfolding digits is_utf8 chars encode keyword_of symbol_front front read_fronts many name_at sizes_at numbers_at type_at alias_at column_at is_null_at star_of_at table_at limit_at trees_at sort_at sorts_at order_by_at args_at kept_at filter_at partition_at window_at over_at call_at named_at cast_inner_at cast_at sub_at paren_at opened_at when_at whens_at else_at case_at begun_at primary_at sign_at product_tail_at product_at sum_tail_at sum_at compare_at between_at in_list_at in_query_at in_at like_at negatable_at tested_at rest_at exists_at sum_test_at test_at neg_at conj_at expr_at value_item_at item_at items_at from_query_at source_at on_at outer_at joined_at chosen_at joins_at from_at where_at group_at having_at filters_at selected_at select_at intersect_at intersects_at term_at union_at except_at beside_at term_tails_at terms_at order_at ending_at query_at not_null_at key_flag_at column_def_at names_at key_at element_at elements_at pair_at pairs_at options_at create_at set_at insert_at stated_at statement_at readers parse read_ended read_last read_pieces read_from read_text function_of
ranks_are_refused_inserted = refl

-- The rows of queries' answers. They are computed on the trees of the algebra that the queries are bound to, whose answers are the
-- queries' by the theorem of binding.
pub queries_have_their_answers : HaveAnswers answered
unfolding digits is_utf8 chars encode keyword_of symbol_front front read_fronts many name_at sizes_at numbers_at type_at alias_at column_at is_null_at star_of_at table_at limit_at trees_at sort_at sorts_at order_by_at args_at kept_at filter_at partition_at window_at over_at call_at named_at cast_inner_at cast_at sub_at paren_at opened_at when_at whens_at else_at case_at begun_at primary_at sign_at product_tail_at product_at sum_tail_at sum_at compare_at between_at in_list_at in_query_at in_at like_at negatable_at tested_at rest_at exists_at sum_test_at test_at neg_at conj_at expr_at value_item_at item_at items_at from_query_at source_at on_at outer_at joined_at chosen_at joins_at from_at where_at group_at having_at filters_at selected_at select_at intersect_at intersects_at term_at union_at except_at beside_at term_tails_at terms_at order_at ending_at query_at not_null_at key_flag_at column_def_at names_at key_at element_at elements_at pair_at pairs_at options_at create_at set_at insert_at stated_at statement_at readers parse read_ended read_last read_pieces read_from read_text function_of
queries_have_their_answers = all_computed binding_keeps_the_answer_rows listed_answer_is_the_answer answered refl ∙ refl

-- The rows of the answers of queries with a rank.
pub ranks_have_their_answers : HaveAnswers rows
unfolding digits is_utf8 chars encode keyword_of symbol_front front read_fronts many name_at sizes_at numbers_at type_at alias_at column_at is_null_at star_of_at table_at limit_at trees_at sort_at sorts_at order_by_at args_at kept_at filter_at partition_at window_at over_at call_at named_at cast_inner_at cast_at sub_at paren_at opened_at when_at whens_at else_at case_at begun_at primary_at sign_at product_tail_at product_at sum_tail_at sum_at compare_at between_at in_list_at in_query_at in_at like_at negatable_at tested_at rest_at exists_at sum_test_at test_at neg_at conj_at expr_at value_item_at item_at items_at from_query_at source_at on_at outer_at joined_at chosen_at joins_at from_at where_at group_at having_at filters_at selected_at select_at intersect_at intersects_at term_at union_at except_at beside_at term_tails_at terms_at order_at ending_at query_at not_null_at key_flag_at column_def_at names_at key_at element_at elements_at pair_at pairs_at options_at create_at set_at insert_at stated_at statement_at readers parse read_ended read_last read_pieces read_from read_text function_of
ranks_have_their_answers = all_computed binding_keeps_the_answer_rows listed_answer_is_the_answer rows refl ∙ refl
