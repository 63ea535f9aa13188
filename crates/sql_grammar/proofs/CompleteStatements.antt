-- What tokens spell as a statement is read, whatever follows that doesn't go on.
use Rattle.std.proofs.Common.{◌≡◌, ℕ, zero, suc, true, false, List, [], ◌∷◌, ◌++◌, refl, sym, ap, ◌∙◌, subst, append_assoc, arith}
use Rattle.sql_tokens.specs.declared.token.Token.{Token}
use Rattle.sql_syntax.specs.declared.statement.Element.TheVariants.{Column, Key}
use Rattle.sql_syntax.specs.Tree.{Create, Set, Insert}
use Rattle.sql_grammar.specs.Words.{CREATE, ENFORCED, KEY, NOT, NULL, PRIMARY, TABLE, WITH, NAME, only}
use Rattle.sql_grammar.specs.Shapes.{Words, Flag, OrNone, Listed, Bracketed}
use Rattle.sql_grammar.specs.Spells.{Inside, NameOf, TypeOf, ElementOf, PairOf, OptionsOf, StatementOf, within}
use Rattle.sql_grammar.specs.Reading.{word_at, words_at, flag_item, bracketed}
use Rattle.sql_grammar.specs.Reads
use Rattle.sql_grammar.specs.Reads.{Readers, name_at, type_at, readers}
use Rattle.sql_grammar.proofs.laws.Steps.{bind_is}
use Rattle.sql_grammar.proofs.CompleteShapes.{Ends, Complete, Before, only_stops, or_none_complete, flag_before, words_before, seq4_reads, listed_complete, bracketed_reads, bracketed_complete}
use Rattle.sql_grammar.proofs.laws.Steps.{fail_bind}
use Rattle.sql_grammar.proofs.CompleteExpressions.{Refuses, name_complete, type_complete, expr_complete}
use Rattle.sql_grammar.proofs.CompleteQueries.{query_complete}

not_null_complete : Complete Reads.not_null_at (Flag (Words (NOT ∷ NULL ∷ []))) 10
unfolding Reads.not_null_at
not_null_complete us false rest s end = ap (λ a. Reads.not_null_at (a ++ rest)) s ∙ ap (flag_item (λ w. word_at (only NULL)) rest) (only_stops NOT 10 (omega arith) rest end)
not_null_complete us true rest s end = ap (λ a. Reads.not_null_at (a ++ rest)) s

key_flag_complete : Complete Reads.key_flag_at (Flag (Words (PRIMARY ∷ KEY ∷ NOT ∷ ENFORCED ∷ []))) 9
unfolding Reads.key_flag_at
key_flag_complete us false rest s end = ap (λ a. Reads.key_flag_at (a ++ rest)) s ∙ ap (flag_item (λ w. words_at (KEY ∷ NOT ∷ ENFORCED ∷ [])) rest) (only_stops PRIMARY 9 (omega arith) rest end)
key_flag_complete us true rest s end = ap (λ a. Reads.key_flag_at (a ++ rest)) s

type_before : Before TypeOf 13 16
type_before us ty rest (u1, u2, (quoted, one), two, e) end = subst (λ (a : List Token). Ends 16 (a ++ rest)) (sym (e ∙ ap (λ a. a ++ u2) one)) (omega arith)

names_complete : Complete Reads.names_at (Listed NameOf) 8
unfolding Reads.names_at
names_complete = listed_complete name_at NameOf (name_complete 9)

element_complete : Complete Reads.element_at ElementOf 9
unfolding Reads.element_at Reads.column_def_at Reads.key_at ElementOf
element_complete us (Column name ty not_null key) rest (u1, u2, u3, u4, (quoted, one), two, three, four, e) end =
    let front : us ++ rest ≡ NAME name quoted ∷ ((u2 ++ (u3 ++ u4)) ++ rest) = ap (λ a. a ++ rest) (e ∙ ap (λ a. a ++ (u2 ++ (u3 ++ u4))) one) in
    ap (Reads.key_or_column (us ++ rest)) (ap (word_at (only PRIMARY)) front)
    ∙ seq4_reads (λ name ty not_null key. Column name ty not_null key) name_at type_at Reads.not_null_at Reads.key_flag_at
    NameOf TypeOf (Flag (Words (NOT ∷ NULL ∷ []))) (Flag (Words (PRIMARY ∷ KEY ∷ NOT ∷ ENFORCED ∷ []))) 9 10 13 16
    (name_complete 16) type_complete not_null_complete key_flag_complete
    type_before (flag_before (Words (NOT ∷ NULL ∷ [])) 10 13 (omega arith) (words_before NOT (NULL ∷ []) 10 13 (omega arith)))
    (flag_before (Words (PRIMARY ∷ KEY ∷ NOT ∷ ENFORCED ∷ [])) 9 10 (omega arith) (words_before PRIMARY (KEY ∷ NOT ∷ ENFORCED ∷ []) 9 10 (omega arith)))
    us name ty not_null key rest (u1, u2, u3, u4, (quoted, one), two, three, four, e) end
element_complete us (Key names) rest (u1, u2, u3, one, two, three, e) end =
    ap (λ a. Reads.element_at a) (ap (λ a. a ++ rest) (e ∙ (λ i. one i ++ (u2 ++ three i))) ∙ ap (λ a. PRIMARY ∷ KEY ∷ a) (append_assoc u2 (NOT ∷ ENFORCED ∷ []) rest))
    ∙ bind_is _ (bracketed_reads Reads.names_at (Listed NameOf) 8 (omega arith) names_complete u2 names (NOT ∷ ENFORCED ∷ rest) two) refl

elements_complete : Complete Reads.elements_at (Listed ElementOf) 8
unfolding Reads.elements_at
elements_complete = listed_complete Reads.element_at ElementOf element_complete

pair_complete : (l : ℕ) → Complete Reads.pair_at PairOf l
unfolding Reads.pair_at PairOf
pair_complete l us pair rest (u1, u2, u3, one, two, three, e) end = ap (λ a. Reads.pair_at (a ++ rest)) (e ∙ (λ i. one i ++ (two i ++ three i)))

options_complete : Complete Reads.options_at (OrNone OptionsOf) 1
unfolding Reads.options_at Reads.pairs_at OptionsOf
options_complete = or_none_complete WITH (bracketed Reads.pairs_at) (Bracketed (Listed PairOf)) 1 refl (omega arith)
    (bracketed_complete Reads.pairs_at (Listed PairOf) 1 8 (omega arith) (listed_complete Reads.pair_at PairOf (pair_complete 9)))

pub statement_complete : (p : Readers) (I : Inside) → Complete p.query I.query 1 → Complete (Reads.statement_at p) (StatementOf I) 1
unfolding Reads.statement_at Reads.stated_at Reads.create_at Reads.set_at Reads.insert_at StatementOf name_at
statement_complete p I g us (Create name elements options) rest (u1, u2, u3, u4, one, (quoted, two), three, four, e) end =
    ap (Reads.statement_at p) (ap (λ a. a ++ rest) (e ∙ (λ i. one i ++ (two i ++ (u3 ++ u4)))) ∙ ap (λ a. CREATE ∷ TABLE ∷ NAME name quoted ∷ a) (append_assoc u3 u4 rest))
    ∙ bind_is _ (bracketed_reads Reads.elements_at (Listed ElementOf) 8 (omega arith) elements_complete u3 elements (u4 ++ rest) three) (bind_is _ (options_complete u4 options rest four end) refl)
statement_complete p I g us (Set key value) rest (w, vs, s, e) end =
    ap (λ a. Reads.statement_at p (a ++ rest)) e ∙ bind_is _ (pair_complete 1 vs (record { left = key; right = value }) rest s end) refl
statement_complete p I g us (Insert table query) rest (u1, u2, u3, one, (quoted, two), three, e) end =
    ap (λ a. Reads.statement_at p (a ++ rest)) (e ∙ (λ i. one i ++ (two i ++ u3))) ∙ bind_is _ (g u3 query rest three end) refl

-- what the readers of every depth refuse
refuses : (depth : ℕ) → Refuses (readers depth)
unfolding readers Reads.expr_at Reads.conj_at Reads.neg_at Reads.test_at Reads.sum_test_at Reads.sum_at Reads.product_at Reads.sign_at Reads.primary_at Reads.begun_at Reads.named_at Reads.column_at Reads.query_at Reads.terms_at Reads.term_at Reads.select_at
refuses zero = record { star = λ ts. refl; close = λ ts. refl; distinct = λ ts. refl; select = λ ts. refl; star_of = λ x quoted ts. refl; no_select = λ ts e. refl }
refuses (suc depth) = record {
  star = λ ts. refl;
  close = λ ts. refl;
  distinct = λ ts. refl;
  select = λ ts. refl;
  star_of = λ x quoted ts. refl;
  no_select = λ ts e. fail_bind _ _ (fail_bind _ _ (fail_bind _ _ (fail_bind _ _ e)));
}

mutual
  unfolding readers within

  pub expr_within : (depth : ℕ) → Complete (readers depth).expr (within depth).expr 10
  expr_within zero us u rest s end = absurd s
  expr_within (suc depth) us u rest s end = expr_complete (readers depth) (within depth) (expr_within depth) (query_within depth) (refuses depth) us u rest s end

  pub query_within : (depth : ℕ) → Complete (readers depth).query (within depth).query 1
  query_within zero us query rest s end = absurd s
  query_within (suc depth) us query rest s end = query_complete (readers depth) (within depth) (expr_within depth) (query_within depth) (refuses depth) us query rest s end
