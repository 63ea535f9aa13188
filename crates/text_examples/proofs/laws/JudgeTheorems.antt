-- The theorems of this crate, put together of its lemmas.
use Rattle.std.proofs.Common.{refl}
use Rattle.std.specs.Str.{is_utf8, chars}
use lib.Utf8.{encode}
use Rattle.sql_tokens.specs.Tokens.{keyword_of, symbol_front, front, read_fronts}
use Rattle.sql_grammar.specs.Reading.{many}
use Rattle.sql_grammar.specs.Reads.{name_at, sizes_at, numbers_at, type_at, alias_at, column_at, is_null_at, star_of_at, table_at, limit_at, trees_at, sort_at, sorts_at, order_by_at, args_at, kept_at, filter_at, partition_at, window_at, over_at, call_at, named_at, cast_inner_at, cast_at, sub_at, paren_at, opened_at, when_at, whens_at, else_at, case_at, begun_at, primary_at, sign_at, product_tail_at, product_at, sum_tail_at, sum_at, compare_at, between_at, in_list_at, in_query_at, in_at, like_at, negatable_at, tested_at, rest_at, exists_at, sum_test_at, test_at, neg_at, conj_at, expr_at, value_item_at, item_at, items_at, from_query_at, source_at, on_at, outer_at, joined_at, chosen_at, joins_at, from_at, where_at, group_at, having_at, filters_at, selected_at, select_at, intersect_at, intersects_at, term_at, union_at, except_at, beside_at, term_tails_at, terms_at, order_at, ending_at, query_at, not_null_at, key_flag_at, column_def_at, names_at, key_at, element_at, elements_at, pair_at, pairs_at, options_at, create_at, set_at, insert_at, stated_at, statement_at, readers, parse}
use Rattle.sql_grammar.specs.ReadsScripts.{read_ended, read_last, read_pieces, read_from, read_text}
use Rattle.ct_catalog.specs.Setting.{key_of}
use Rattle.text_examples.specs.JudgeChecks.{Declare, columns_in, tables_in, AreRefused, Set, Leave, DontSet}
use Rattle.text_examples.specs.Tables.{declared, widest_tables, refused_tables, wide_tables}
use Rattle.std.specs.Prelude.{◌≡◌, ◌∷◌, [], map}
use Rattle.judge.specs.Judgement.{asked_of}
use Rattle.text_examples.specs.Settings.{settings, last_settings, bad_settings, kept_states}
use Rattle.ct_value.specs.declared.codes.ScriptCode.TheVariants.{BadSetting, StateTtl}

-- Tables: modes, types, names and keys, and the widest ones.
pub tables_are_declared_each : Declare declared
unfolding is_utf8 chars encode keyword_of symbol_front front read_fronts many name_at sizes_at numbers_at type_at alias_at column_at is_null_at star_of_at table_at limit_at trees_at sort_at sorts_at order_by_at args_at kept_at filter_at partition_at window_at over_at call_at named_at cast_inner_at cast_at sub_at paren_at opened_at when_at whens_at else_at case_at begun_at primary_at sign_at product_tail_at product_at sum_tail_at sum_at compare_at between_at in_list_at in_query_at in_at like_at negatable_at tested_at rest_at exists_at sum_test_at test_at neg_at conj_at expr_at value_item_at item_at items_at from_query_at source_at on_at outer_at joined_at chosen_at joins_at from_at where_at group_at having_at filters_at selected_at select_at intersect_at intersects_at term_at union_at except_at beside_at term_tails_at terms_at order_at ending_at query_at not_null_at key_flag_at column_def_at names_at key_at element_at elements_at pair_at pairs_at options_at create_at set_at insert_at stated_at statement_at readers parse read_ended read_last read_pieces read_from read_text key_of
tables_are_declared_each = refl

-- Tables: modes, types, names and keys, and the widest ones.
pub tables_are_declared_widest : map (λ text. columns_in (tables_in (asked_of text))) widest_tables ≡ map (λ text. 64 ∷ []) widest_tables
unfolding is_utf8 chars encode keyword_of symbol_front front read_fronts many name_at sizes_at numbers_at type_at alias_at column_at is_null_at star_of_at table_at limit_at trees_at sort_at sorts_at order_by_at args_at kept_at filter_at partition_at window_at over_at call_at named_at cast_inner_at cast_at sub_at paren_at opened_at when_at whens_at else_at case_at begun_at primary_at sign_at product_tail_at product_at sum_tail_at sum_at compare_at between_at in_list_at in_query_at in_at like_at negatable_at tested_at rest_at exists_at sum_test_at test_at neg_at conj_at expr_at value_item_at item_at items_at from_query_at source_at on_at outer_at joined_at chosen_at joins_at from_at where_at group_at having_at filters_at selected_at select_at intersect_at intersects_at term_at union_at except_at beside_at term_tails_at terms_at order_at ending_at query_at not_null_at key_flag_at column_def_at names_at key_at element_at elements_at pair_at pairs_at options_at create_at set_at insert_at stated_at statement_at readers parse read_ended read_last read_pieces read_from read_text key_of
tables_are_declared_widest = refl

-- Tables of taken names, with wrong keys, modes, types or too many columns, and scripts without one INSERT at the end.
pub tables_are_refused_scripts : AreRefused refused_tables
unfolding is_utf8 chars encode keyword_of symbol_front front read_fronts many name_at sizes_at numbers_at type_at alias_at column_at is_null_at star_of_at table_at limit_at trees_at sort_at sorts_at order_by_at args_at kept_at filter_at partition_at window_at over_at call_at named_at cast_inner_at cast_at sub_at paren_at opened_at when_at whens_at else_at case_at begun_at primary_at sign_at product_tail_at product_at sum_tail_at sum_at compare_at between_at in_list_at in_query_at in_at like_at negatable_at tested_at rest_at exists_at sum_test_at test_at neg_at conj_at expr_at value_item_at item_at items_at from_query_at source_at on_at outer_at joined_at chosen_at joins_at from_at where_at group_at having_at filters_at selected_at select_at intersect_at intersects_at term_at union_at except_at beside_at term_tails_at terms_at order_at ending_at query_at not_null_at key_flag_at column_def_at names_at key_at element_at elements_at pair_at pairs_at options_at create_at set_at insert_at stated_at statement_at readers parse read_ended read_last read_pieces read_from read_text key_of
tables_are_refused_scripts = refl

-- Tables of taken names, with wrong keys, modes, types or too many columns, and scripts without one INSERT at the end.
pub tables_are_refused_wide : AreRefused wide_tables
unfolding is_utf8 chars encode keyword_of symbol_front front read_fronts many name_at sizes_at numbers_at type_at alias_at column_at is_null_at star_of_at table_at limit_at trees_at sort_at sorts_at order_by_at args_at kept_at filter_at partition_at window_at over_at call_at named_at cast_inner_at cast_at sub_at paren_at opened_at when_at whens_at else_at case_at begun_at primary_at sign_at product_tail_at product_at sum_tail_at sum_at compare_at between_at in_list_at in_query_at in_at like_at negatable_at tested_at rest_at exists_at sum_test_at test_at neg_at conj_at expr_at value_item_at item_at items_at from_query_at source_at on_at outer_at joined_at chosen_at joins_at from_at where_at group_at having_at filters_at selected_at select_at intersect_at intersects_at term_at union_at except_at beside_at term_tails_at terms_at order_at ending_at query_at not_null_at key_flag_at column_def_at names_at key_at element_at elements_at pair_at pairs_at options_at create_at set_at insert_at stated_at statement_at readers parse read_ended read_last read_pieces read_from read_text key_of
tables_are_refused_wide = refl

-- Settings, of which the last value of a key counts.
pub settings_are_set_each : Set settings
unfolding is_utf8 chars encode keyword_of symbol_front front read_fronts many name_at sizes_at numbers_at type_at alias_at column_at is_null_at star_of_at table_at limit_at trees_at sort_at sorts_at order_by_at args_at kept_at filter_at partition_at window_at over_at call_at named_at cast_inner_at cast_at sub_at paren_at opened_at when_at whens_at else_at case_at begun_at primary_at sign_at product_tail_at product_at sum_tail_at sum_at compare_at between_at in_list_at in_query_at in_at like_at negatable_at tested_at rest_at exists_at sum_test_at test_at neg_at conj_at expr_at value_item_at item_at items_at from_query_at source_at on_at outer_at joined_at chosen_at joins_at from_at where_at group_at having_at filters_at selected_at select_at intersect_at intersects_at term_at union_at except_at beside_at term_tails_at terms_at order_at ending_at query_at not_null_at key_flag_at column_def_at names_at key_at element_at elements_at pair_at pairs_at options_at create_at set_at insert_at stated_at statement_at readers parse read_ended read_last read_pieces read_from read_text key_of
settings_are_set_each = refl

-- Settings, of which the last value of a key counts.
pub settings_are_set_last : Leave last_settings
unfolding is_utf8 chars encode keyword_of symbol_front front read_fronts many name_at sizes_at numbers_at type_at alias_at column_at is_null_at star_of_at table_at limit_at trees_at sort_at sorts_at order_by_at args_at kept_at filter_at partition_at window_at over_at call_at named_at cast_inner_at cast_at sub_at paren_at opened_at when_at whens_at else_at case_at begun_at primary_at sign_at product_tail_at product_at sum_tail_at sum_at compare_at between_at in_list_at in_query_at in_at like_at negatable_at tested_at rest_at exists_at sum_test_at test_at neg_at conj_at expr_at value_item_at item_at items_at from_query_at source_at on_at outer_at joined_at chosen_at joins_at from_at where_at group_at having_at filters_at selected_at select_at intersect_at intersects_at term_at union_at except_at beside_at term_tails_at terms_at order_at ending_at query_at not_null_at key_flag_at column_def_at names_at key_at element_at elements_at pair_at pairs_at options_at create_at set_at insert_at stated_at statement_at readers parse read_ended read_last read_pieces read_from read_text key_of
settings_are_set_last = refl

-- Keys that there aren't, and values that a key doesn't take.
pub settings_are_refused_values : DontSet BadSetting bad_settings
unfolding is_utf8 chars encode keyword_of symbol_front front read_fronts many name_at sizes_at numbers_at type_at alias_at column_at is_null_at star_of_at table_at limit_at trees_at sort_at sorts_at order_by_at args_at kept_at filter_at partition_at window_at over_at call_at named_at cast_inner_at cast_at sub_at paren_at opened_at when_at whens_at else_at case_at begun_at primary_at sign_at product_tail_at product_at sum_tail_at sum_at compare_at between_at in_list_at in_query_at in_at like_at negatable_at tested_at rest_at exists_at sum_test_at test_at neg_at conj_at expr_at value_item_at item_at items_at from_query_at source_at on_at outer_at joined_at chosen_at joins_at from_at where_at group_at having_at filters_at selected_at select_at intersect_at intersects_at term_at union_at except_at beside_at term_tails_at terms_at order_at ending_at query_at not_null_at key_flag_at column_def_at names_at key_at element_at elements_at pair_at pairs_at options_at create_at set_at insert_at stated_at statement_at readers parse read_ended read_last read_pieces read_from read_text key_of
settings_are_refused_values = refl

-- Keys that there aren't, and values that a key doesn't take.
pub settings_are_refused_times : DontSet StateTtl kept_states
unfolding is_utf8 chars encode keyword_of symbol_front front read_fronts many name_at sizes_at numbers_at type_at alias_at column_at is_null_at star_of_at table_at limit_at trees_at sort_at sorts_at order_by_at args_at kept_at filter_at partition_at window_at over_at call_at named_at cast_inner_at cast_at sub_at paren_at opened_at when_at whens_at else_at case_at begun_at primary_at sign_at product_tail_at product_at sum_tail_at sum_at compare_at between_at in_list_at in_query_at in_at like_at negatable_at tested_at rest_at exists_at sum_test_at test_at neg_at conj_at expr_at value_item_at item_at items_at from_query_at source_at on_at outer_at joined_at chosen_at joins_at from_at where_at group_at having_at filters_at selected_at select_at intersect_at intersects_at term_at union_at except_at beside_at term_tails_at terms_at order_at ending_at query_at not_null_at key_flag_at column_def_at names_at key_at element_at elements_at pair_at pairs_at options_at create_at set_at insert_at stated_at statement_at readers parse read_ended read_last read_pieces read_from read_text key_of
settings_are_refused_times = refl
