-- The theorems of this crate, put together of its lemmas.
use Rattle.std.proofs.Common.{refl}
use Rattle.std.specs.Str.{is_utf8, chars}
use lib.Utf8.{encode}
use Rattle.sql_tokens.specs.Tokens.{keyword_of, symbol_front, front, read_fronts}
use Rattle.sql_grammar.specs.Reading.{many}
use Rattle.sql_grammar.specs.Reads.{name_at, sizes_at, numbers_at, type_at, alias_at, column_at, is_null_at, star_of_at, table_at, limit_at, trees_at, sort_at, sorts_at, order_by_at, args_at, kept_at, filter_at, partition_at, window_at, over_at, call_at, named_at, cast_inner_at, cast_at, sub_at, paren_at, opened_at, when_at, whens_at, else_at, case_at, begun_at, primary_at, sign_at, product_tail_at, product_at, sum_tail_at, sum_at, compare_at, between_at, in_list_at, in_query_at, in_at, like_at, negatable_at, tested_at, rest_at, exists_at, sum_test_at, test_at, neg_at, conj_at, expr_at, value_item_at, item_at, items_at, from_query_at, source_at, on_at, outer_at, joined_at, chosen_at, joins_at, from_at, where_at, group_at, having_at, filters_at, selected_at, select_at, intersect_at, intersects_at, term_at, union_at, except_at, beside_at, term_tails_at, terms_at, order_at, ending_at, query_at, not_null_at, key_flag_at, column_def_at, names_at, key_at, element_at, elements_at, pair_at, pairs_at, options_at, create_at, set_at, insert_at, stated_at, statement_at, readers, parse}
use Rattle.sql_grammar.specs.ReadsScripts.{read_ended, read_last, read_pieces, read_from, read_text}
use Rattle.text_examples.specs.TextChecks.{AreRead, item_text, item_answer, query_text, query_answer, AreRefused, MayNest, FaultIsFound}
use Rattle.text_examples.specs.Items.{read_items}
use Rattle.text_examples.specs.Queries.{read_queries}
use Rattle.text_examples.specs.Scripts.{read_scripts}
use Rattle.ct_value.specs.declared.codes.ScriptCode.TheVariants.{BadToken, Syntax, TooDeep}
use Rattle.text_examples.specs.Refused.{bad_places, bad_items, bad_queries, bad_statements}
use Rattle.text_examples.specs.Nested.{nests, read_deep, deep_text}

-- Items of a select list: literals, names, operators by their levels, CASE, CAST, calls.
pub items_are_read : AreRead item_text item_answer read_items
unfolding is_utf8 chars encode keyword_of symbol_front front read_fronts many name_at sizes_at numbers_at type_at alias_at column_at is_null_at star_of_at table_at limit_at trees_at sort_at sorts_at order_by_at args_at kept_at filter_at partition_at window_at over_at call_at named_at cast_inner_at cast_at sub_at paren_at opened_at when_at whens_at else_at case_at begun_at primary_at sign_at product_tail_at product_at sum_tail_at sum_at compare_at between_at in_list_at in_query_at in_at like_at negatable_at tested_at rest_at exists_at sum_test_at test_at neg_at conj_at expr_at value_item_at item_at items_at from_query_at source_at on_at outer_at joined_at chosen_at joins_at from_at where_at group_at having_at filters_at selected_at select_at intersect_at intersects_at term_at union_at except_at beside_at term_tails_at terms_at order_at ending_at query_at not_null_at key_flag_at column_def_at names_at key_at element_at elements_at pair_at pairs_at options_at create_at set_at insert_at stated_at statement_at readers parse read_ended read_last read_pieces read_from read_text
items_are_read = refl

-- Queries: sources, joins, conditions, groups, UNION ALL, ORDER BY, LIMIT.
pub queries_are_read : AreRead query_text query_answer read_queries
unfolding is_utf8 chars encode keyword_of symbol_front front read_fronts many name_at sizes_at numbers_at type_at alias_at column_at is_null_at star_of_at table_at limit_at trees_at sort_at sorts_at order_by_at args_at kept_at filter_at partition_at window_at over_at call_at named_at cast_inner_at cast_at sub_at paren_at opened_at when_at whens_at else_at case_at begun_at primary_at sign_at product_tail_at product_at sum_tail_at sum_at compare_at between_at in_list_at in_query_at in_at like_at negatable_at tested_at rest_at exists_at sum_test_at test_at neg_at conj_at expr_at value_item_at item_at items_at from_query_at source_at on_at outer_at joined_at chosen_at joins_at from_at where_at group_at having_at filters_at selected_at select_at intersect_at intersects_at term_at union_at except_at beside_at term_tails_at terms_at order_at ending_at query_at not_null_at key_flag_at column_def_at names_at key_at element_at elements_at pair_at pairs_at options_at create_at set_at insert_at stated_at statement_at readers parse read_ended read_last read_pieces read_from read_text
queries_are_read = refl

-- Whole scripts, with comments, tables and settings, or the first statement that is refused.
pub scripts_are_read : AreRead (λ text. text) (λ answer. answer) read_scripts
unfolding is_utf8 chars encode keyword_of symbol_front front read_fronts many name_at sizes_at numbers_at type_at alias_at column_at is_null_at star_of_at table_at limit_at trees_at sort_at sorts_at order_by_at args_at kept_at filter_at partition_at window_at over_at call_at named_at cast_inner_at cast_at sub_at paren_at opened_at when_at whens_at else_at case_at begun_at primary_at sign_at product_tail_at product_at sum_tail_at sum_at compare_at between_at in_list_at in_query_at in_at like_at negatable_at tested_at rest_at exists_at sum_test_at test_at neg_at conj_at expr_at value_item_at item_at items_at from_query_at source_at on_at outer_at joined_at chosen_at joins_at from_at where_at group_at having_at filters_at selected_at select_at intersect_at intersects_at term_at union_at except_at beside_at term_tails_at terms_at order_at ending_at query_at not_null_at key_flag_at column_def_at names_at key_at element_at elements_at pair_at pairs_at options_at create_at set_at insert_at stated_at statement_at readers parse read_ended read_last read_pieces read_from read_text
scripts_are_read = refl

-- Scripts with a bad place, and items, queries and statements without a tree.
pub others_are_refused_places : AreRefused (λ text. text) BadToken bad_places
unfolding is_utf8 chars encode keyword_of symbol_front front read_fronts many name_at sizes_at numbers_at type_at alias_at column_at is_null_at star_of_at table_at limit_at trees_at sort_at sorts_at order_by_at args_at kept_at filter_at partition_at window_at over_at call_at named_at cast_inner_at cast_at sub_at paren_at opened_at when_at whens_at else_at case_at begun_at primary_at sign_at product_tail_at product_at sum_tail_at sum_at compare_at between_at in_list_at in_query_at in_at like_at negatable_at tested_at rest_at exists_at sum_test_at test_at neg_at conj_at expr_at value_item_at item_at items_at from_query_at source_at on_at outer_at joined_at chosen_at joins_at from_at where_at group_at having_at filters_at selected_at select_at intersect_at intersects_at term_at union_at except_at beside_at term_tails_at terms_at order_at ending_at query_at not_null_at key_flag_at column_def_at names_at key_at element_at elements_at pair_at pairs_at options_at create_at set_at insert_at stated_at statement_at readers parse read_ended read_last read_pieces read_from read_text
others_are_refused_places = refl

-- Scripts with a bad place, and items, queries and statements without a tree.
pub others_are_refused_items : AreRefused item_text Syntax bad_items
unfolding is_utf8 chars encode keyword_of symbol_front front read_fronts many name_at sizes_at numbers_at type_at alias_at column_at is_null_at star_of_at table_at limit_at trees_at sort_at sorts_at order_by_at args_at kept_at filter_at partition_at window_at over_at call_at named_at cast_inner_at cast_at sub_at paren_at opened_at when_at whens_at else_at case_at begun_at primary_at sign_at product_tail_at product_at sum_tail_at sum_at compare_at between_at in_list_at in_query_at in_at like_at negatable_at tested_at rest_at exists_at sum_test_at test_at neg_at conj_at expr_at value_item_at item_at items_at from_query_at source_at on_at outer_at joined_at chosen_at joins_at from_at where_at group_at having_at filters_at selected_at select_at intersect_at intersects_at term_at union_at except_at beside_at term_tails_at terms_at order_at ending_at query_at not_null_at key_flag_at column_def_at names_at key_at element_at elements_at pair_at pairs_at options_at create_at set_at insert_at stated_at statement_at readers parse read_ended read_last read_pieces read_from read_text
others_are_refused_items = refl

-- Scripts with a bad place, and items, queries and statements without a tree.
pub others_are_refused_queries : AreRefused query_text Syntax bad_queries
unfolding is_utf8 chars encode keyword_of symbol_front front read_fronts many name_at sizes_at numbers_at type_at alias_at column_at is_null_at star_of_at table_at limit_at trees_at sort_at sorts_at order_by_at args_at kept_at filter_at partition_at window_at over_at call_at named_at cast_inner_at cast_at sub_at paren_at opened_at when_at whens_at else_at case_at begun_at primary_at sign_at product_tail_at product_at sum_tail_at sum_at compare_at between_at in_list_at in_query_at in_at like_at negatable_at tested_at rest_at exists_at sum_test_at test_at neg_at conj_at expr_at value_item_at item_at items_at from_query_at source_at on_at outer_at joined_at chosen_at joins_at from_at where_at group_at having_at filters_at selected_at select_at intersect_at intersects_at term_at union_at except_at beside_at term_tails_at terms_at order_at ending_at query_at not_null_at key_flag_at column_def_at names_at key_at element_at elements_at pair_at pairs_at options_at create_at set_at insert_at stated_at statement_at readers parse read_ended read_last read_pieces read_from read_text
others_are_refused_queries = refl

-- Scripts with a bad place, and items, queries and statements without a tree.
pub others_are_refused_statements : AreRefused (λ text. text) Syntax bad_statements
unfolding is_utf8 chars encode keyword_of symbol_front front read_fronts many name_at sizes_at numbers_at type_at alias_at column_at is_null_at star_of_at table_at limit_at trees_at sort_at sorts_at order_by_at args_at kept_at filter_at partition_at window_at over_at call_at named_at cast_inner_at cast_at sub_at paren_at opened_at when_at whens_at else_at case_at begun_at primary_at sign_at product_tail_at product_at sum_tail_at sum_at compare_at between_at in_list_at in_query_at in_at like_at negatable_at tested_at rest_at exists_at sum_test_at test_at neg_at conj_at expr_at value_item_at item_at items_at from_query_at source_at on_at outer_at joined_at chosen_at joins_at from_at where_at group_at having_at filters_at selected_at select_at intersect_at intersects_at term_at union_at except_at beside_at term_tails_at terms_at order_at ending_at query_at not_null_at key_flag_at column_def_at names_at key_at element_at elements_at pair_at pairs_at options_at create_at set_at insert_at stated_at statement_at readers parse read_ended read_last read_pieces read_from read_text
others_are_refused_statements = refl

-- 32 parentheses and CASEs may be open at once, and 33 may not.
pub depth_is_counted_nests : MayNest 32 TooDeep nests
unfolding is_utf8 chars encode keyword_of symbol_front front read_fronts many name_at sizes_at numbers_at type_at alias_at column_at is_null_at star_of_at table_at limit_at trees_at sort_at sorts_at order_by_at args_at kept_at filter_at partition_at window_at over_at call_at named_at cast_inner_at cast_at sub_at paren_at opened_at when_at whens_at else_at case_at begun_at primary_at sign_at product_tail_at product_at sum_tail_at sum_at compare_at between_at in_list_at in_query_at in_at like_at negatable_at tested_at rest_at exists_at sum_test_at test_at neg_at conj_at expr_at value_item_at item_at items_at from_query_at source_at on_at outer_at joined_at chosen_at joins_at from_at where_at group_at having_at filters_at selected_at select_at intersect_at intersects_at term_at union_at except_at beside_at term_tails_at terms_at order_at ending_at query_at not_null_at key_flag_at column_def_at names_at key_at element_at elements_at pair_at pairs_at options_at create_at set_at insert_at stated_at statement_at readers parse read_ended read_last read_pieces read_from read_text
depth_is_counted_nests = (refl, refl)

-- 32 parentheses and CASEs may be open at once, and 33 may not.
pub depth_is_counted_faults : FaultIsFound 32 Syntax nests
unfolding is_utf8 chars encode keyword_of symbol_front front read_fronts many name_at sizes_at numbers_at type_at alias_at column_at is_null_at star_of_at table_at limit_at trees_at sort_at sorts_at order_by_at args_at kept_at filter_at partition_at window_at over_at call_at named_at cast_inner_at cast_at sub_at paren_at opened_at when_at whens_at else_at case_at begun_at primary_at sign_at product_tail_at product_at sum_tail_at sum_at compare_at between_at in_list_at in_query_at in_at like_at negatable_at tested_at rest_at exists_at sum_test_at test_at neg_at conj_at expr_at value_item_at item_at items_at from_query_at source_at on_at outer_at joined_at chosen_at joins_at from_at where_at group_at having_at filters_at selected_at select_at intersect_at intersects_at term_at union_at except_at beside_at term_tails_at terms_at order_at ending_at query_at not_null_at key_flag_at column_def_at names_at key_at element_at elements_at pair_at pairs_at options_at create_at set_at insert_at stated_at statement_at readers parse read_ended read_last read_pieces read_from read_text
depth_is_counted_faults = refl

-- 32 parentheses and CASEs may be open at once, and 33 may not.
pub depth_is_counted_counted : AreRead deep_text (λ answer. answer) read_deep
unfolding is_utf8 chars encode keyword_of symbol_front front read_fronts many name_at sizes_at numbers_at type_at alias_at column_at is_null_at star_of_at table_at limit_at trees_at sort_at sorts_at order_by_at args_at kept_at filter_at partition_at window_at over_at call_at named_at cast_inner_at cast_at sub_at paren_at opened_at when_at whens_at else_at case_at begun_at primary_at sign_at product_tail_at product_at sum_tail_at sum_at compare_at between_at in_list_at in_query_at in_at like_at negatable_at tested_at rest_at exists_at sum_test_at test_at neg_at conj_at expr_at value_item_at item_at items_at from_query_at source_at on_at outer_at joined_at chosen_at joins_at from_at where_at group_at having_at filters_at selected_at select_at intersect_at intersects_at term_at union_at except_at beside_at term_tails_at terms_at order_at ending_at query_at not_null_at key_flag_at column_def_at names_at key_at element_at elements_at pair_at pairs_at options_at create_at set_at insert_at stated_at statement_at readers parse read_ended read_last read_pieces read_from read_text
depth_is_counted_counted = refl
