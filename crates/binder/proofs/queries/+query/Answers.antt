use Rattle.std.proofs.Common.{rules, ◌≡◌, ◌==◌, ◌+◌, ◌++◌, length, drop, true, false, Some, None, Ok, Err, ap, sym, subst, ◌∙◌, arith}
use Rattle.std.specs.Prelude.{cond, IfOk}
use Rattle.std.proofs.lemmas.List.{map-append}
use Rattle.ct_value.specs.declared.codes.ScriptCode.TheVariants.{Unsupported}
use Rattle.sql_syntax.specs.declared.tree.Args.TheViews.{out-Query, out-Select, out-SelectTail, out-Term, out-TermTail}
use Rattle.sql_syntax.specs.declared.tree.Query.{Query}
use Rattle.sql_syntax.specs.Tree as t
use Rattle.query_answer.specs.Forms.{is_plain, is_sole}
use Rattle.query_answer.specs.Joins.{kind_of}
use Rattle.sql_syntax.specs.View.{query_view, select_view, sorts_view, source_view, term_tails_view, term_view, view}
use Rattle.sql_syntax.proofs.laws.Views.{source_sub}
use Rattle.query_answer.specs.Ranks.{ranked_query}
use Rattle.binding.specs.Checked.{Checked, ◌>>=◌}
use Rattle.binding.specs.Queries.{Framed, Part, Relation, begun, beside_bound, by_word, closed, gathered_bound, joined, operated, parts_bound, query_bound, renamed, select_bound, source_bound, term_bound}
use Rattle.bind_clauses.specs.Views.{relation_view, run_view}
use Rattle.binder.specs.Steps.{exists_simple, from_list, joined_framed, left_bound, only_framed, only_part, spent_behind, spent_here, unless_ordered}
use Rattle.binder.proofs.Exists.{by_exists}
use Rattle.binder.proofs.Joins.{join_refused, join_turn, source_refused}
use Rattle.bind_nested.specs.PartViews.{outside_view, part_view, parts_view}
use Rattle.binder.proofs.Members.{in_query}
use Rattle.binder.proofs.Terms.{Ordered, by_query, by_term, intersect_refused, intersect_turn, select_refused, selects_left, term_refused, word_refused, word_turn}
use Rattle.bind_forms.specs.Views.{ranked_view}
use Rattle.bind_nested.specs.RankViews.{framed_view}
use Rattle.binder.specs.Views.{from_where_view}
use Rattle.binder.proofs.OnlySources.{ranked, read_joined, read_only, under, unranked}
use Rattle.binder.proofs.Lefts.{left_failed, left_from, left_turn}
use Rattle.binder.proofs.Wheres.{behind, parts_turn}
use Rattle.binder.proofs.queries.+query.Goals as goal

pub bind_query-returns-in_err-first-clause-refused : goal.bind_query-returns-in_err-first-clause-refused
bind_query-returns-in_err-first-clause-refused u c = λ code e.
    let F = c.args.free in
    let S = c.args.sources.now in
    let x = out-Query c.args.query.now in
    let ts = t.term_tails (term_tails_view x.rest) in
    let ends = unless_ordered (t.sort_list (sorts_view x.order)) x.limit in
    let h : term_bound F S (term_view x.first) ≡ Err code = search rules in
    by_query F S c.args.query.now ∙ ap (λ r. r >>= λ y. beside_bound F S ts (begun y) >>= ends) h

pub bind_query-returns-in_err-run-clause-refused : goal.bind_query-returns-in_err-run-clause-refused
bind_query-returns-in_err-run-clause-refused u c = λ code e.
    let F = c.args.free in
    let S = c.args.sources.now in
    let x = out-Query c.args.query.now in
    let ts = t.term_tails (term_tails_view x.rest) in
    let ends = unless_ordered (t.sort_list (sorts_view x.order)) x.limit in
    let a = relation_view c.in_ok-first.first in
    let h : term_bound F S (term_view x.first) ≡ Ok a = search rules in
    let begins : run_view c.begun.result ≡ begun a = search rules in
    let k : beside_bound F S ts (run_view c.begun.result) ≡ Err code = search rules in
    by_query F S c.args.query.now ∙ ap (λ r. r >>= λ y. beside_bound F S ts (begun y) >>= ends) h ∙ ap (λ r. r >>= ends) (ap (beside_bound F S ts) (sym begins) ∙ k)

pub bind_query-returns-in_err-refuse_ordered-clause-refused : goal.bind_query-returns-in_err-refuse_ordered-clause-refused
bind_query-returns-in_err-refuse_ordered-clause-refused u c = λ code e.
    let F = c.args.free in
    let S = c.args.sources.now in
    let x = out-Query c.args.query.now in
    let ts = t.term_tails (term_tails_view x.rest) in
    let ends = unless_ordered (t.sort_list (sorts_view x.order)) x.limit in
    let a = relation_view c.in_ok-first.first in
    let h : term_bound F S (term_view x.first) ≡ Ok a = search rules in
    let begins : run_view c.begun.result ≡ begun a = search rules in
    let run = run_view c.in_ok-run.run' in
    let k : beside_bound F S ts (run_view c.begun.result) ≡ Ok run = search rules in
    let ordered : Ordered (t.sort_list (sorts_view x.order)) x.limit code = search rules in
    by_query F S c.args.query.now ∙ ap (λ r. r >>= λ y. beside_bound F S ts (begun y) >>= ends) h ∙ ap (λ r. r >>= ends) (ap (beside_bound F S ts) (sym begins) ∙ k)
    ∙ ap (λ b. cond b (Ok (closed run)) (Err Unsupported)) ordered.0 ∙ ap Err (sym ordered.1)

pub bind_query-returns-clause-ok : goal.bind_query-returns-clause-ok
bind_query-returns-clause-ok u c =
    let F = c.args.free in
    let S = c.args.sources.now in
    let x = out-Query c.args.query.now in
    let ts = t.term_tails (term_tails_view x.rest) in
    let ends = unless_ordered (t.sort_list (sorts_view x.order)) x.limit in
    let a = relation_view c.in_ok-first.first in
    let h : term_bound F S (term_view x.first) ≡ Ok a = search rules in
    let begins : run_view c.begun.result ≡ begun a = search rules in
    let run = run_view c.in_ok-run.run' in
    let k : beside_bound F S ts (run_view c.begun.result) ≡ Ok run = search rules in
    let plain : is_plain (t.sort_list (sorts_view x.order)) x.limit ≡ true = search rules in
    let all : relation_view c.in_ok-closed.field-0 ≡ closed run = search rules in
    by_query F S c.args.query.now ∙ ap (λ r. r >>= λ y. beside_bound F S ts (begun y) >>= ends) h ∙ ap (λ r. r >>= ends) (ap (beside_bound F S ts) (sym begins) ∙ k)
    ∙ ap (λ b. cond b (Ok (closed run)) (Err Unsupported)) plain ∙ ap Ok (sym all)

pub bind_beside-returns-in_err-term-clause-refused : goal.bind_beside-returns-in_err-term-clause-refused
bind_beside-returns-in_err-term-clause-refused u c = λ code e.
    let xs = c.as_slice-tail-items.result.now in
    let x = c.tail-item.result in
    let k : term_bound c.args.free c.args.sources.now (term_view (out-TermTail x).term) ≡ Err code = search rules in
    term_refused c.args.free c.args.sources.now _ xs c.loop-tail.tail-index (run_view c.loop-tail.run) c.loop-tail.invariant x code (omega arith) c.tail-item.is k

pub bind_beside-returns-in_err-run-clause-refused : goal.bind_beside-returns-in_err-run-clause-refused
bind_beside-returns-in_err-run-clause-refused u c = λ code e.
    let xs = c.as_slice-tail-items.result.now in
    let x = c.tail-item.result in
    let y = relation_view c.in_ok-term.term in
    let k : term_bound c.args.free c.args.sources.now (term_view (out-TermTail x).term) ≡ Ok y = search rules in
    let h : by_word (out-TermTail x).word (run_view c.loop-tail.run) y ≡ Err code = search rules in
    word_refused c.args.free c.args.sources.now _ xs c.loop-tail.tail-index (run_view c.loop-tail.run) c.loop-tail.invariant x y code (omega arith) c.tail-item.is k h

pub bind_beside-loop-tail-preserved : goal.bind_beside-loop-tail-preserved
bind_beside-loop-tail-preserved u c =
    let xs = c.as_slice-tail-items.result.now in
    let x = c.tail-item.result in
    let y = relation_view c.in_ok-term.term in
    let k : term_bound c.args.free c.args.sources.now (term_view (out-TermTail x).term) ≡ Ok y = search rules in
    let h : by_word (out-TermTail x).word (run_view c.loop-tail.run) y ≡ Ok (run_view c.in_ok-run.run') = search rules in
    word_turn c.args.free c.args.sources.now _ xs c.loop-tail.tail-index (run_view c.loop-tail.run) c.loop-tail.invariant x y (run_view c.in_ok-run.run') (omega arith) c.tail-item.is k h

pub bind_term-returns-in_err-first-clause-refused : goal.bind_term-returns-in_err-first-clause-refused
bind_term-returns-in_err-first-clause-refused u c = λ code e.
    let F = c.args.free in
    let S = c.args.sources.now in
    let x = c.args.term.now in
    let h : select_bound F S (select_view (out-Term x).first) ≡ Err code = search rules in
    by_term F S x ∙ ap (λ r. r >>= λ a. selects_left F S a (out-Term x).rest) h

pub bind_term-returns-clause-refused : goal.bind_term-returns-clause-refused
bind_term-returns-clause-refused u c = λ code e.
    let F = c.args.free in
    let S = c.args.sources.now in
    let x = c.args.term.now in
    let a = relation_view c.in_ok-first.first in
    let h : select_bound F S (select_view (out-Term x).first) ≡ Ok a = search rules in
    by_term F S x ∙ ap (λ r. r >>= λ a. selects_left F S a (out-Term x).rest) h ∙ c.bind_intersected.ensures.refused code e

pub bind_term-returns-clause-ok : goal.bind_term-returns-clause-ok
bind_term-returns-clause-ok u c =
    let F = c.args.free in
    let S = c.args.sources.now in
    let x = c.args.term.now in
    let a = relation_view c.in_ok-first.first in
    let h : select_bound F S (select_view (out-Term x).first) ≡ Ok a = search rules in
    subst (λ (v : Checked Relation). IfOk c.bind_intersected.result (λ y. v ≡ Ok (relation_view y))) (sym (by_term F S x ∙ ap (λ r. r >>= λ a. selects_left F S a (out-Term x).rest) h)) c.bind_intersected.ensures.ok

pub bind_intersected-returns-in_err-select-clause-refused : goal.bind_intersected-returns-in_err-select-clause-refused
bind_intersected-returns-in_err-select-clause-refused u c = λ code e.
    let xs = c.as_slice-tail-items.result.now in
    let x = c.tail-item.result in
    let k : select_bound c.args.free c.args.sources.now (select_view (out-SelectTail x).select) ≡ Err code = search rules in
    select_refused c.args.free c.args.sources.now _ xs c.loop-tail.tail-index (relation_view c.loop-tail.all) c.loop-tail.invariant x code (omega arith) c.tail-item.is k

pub bind_intersected-returns-in_err-all-clause-refused : goal.bind_intersected-returns-in_err-all-clause-refused
bind_intersected-returns-in_err-all-clause-refused u c = λ code e.
    let xs = c.as_slice-tail-items.result.now in
    let x = c.tail-item.result in
    let y = relation_view c.in_ok-select.select in
    let k : select_bound c.args.free c.args.sources.now (select_view (out-SelectTail x).select) ≡ Ok y = search rules in
    let h : operated false (out-SelectTail x).all (relation_view c.loop-tail.all) y ≡ Err code = search rules in
    intersect_refused c.args.free c.args.sources.now _ xs c.loop-tail.tail-index (relation_view c.loop-tail.all) c.loop-tail.invariant x y code (omega arith) c.tail-item.is k h

pub bind_intersected-loop-tail-preserved : goal.bind_intersected-loop-tail-preserved
bind_intersected-loop-tail-preserved u c =
    let xs = c.as_slice-tail-items.result.now in
    let x = c.tail-item.result in
    let y = relation_view c.in_ok-select.select in
    let k : select_bound c.args.free c.args.sources.now (select_view (out-SelectTail x).select) ≡ Ok y = search rules in
    let h : operated false (out-SelectTail x).all (relation_view c.loop-tail.all) y ≡ Ok (relation_view c.in_ok-all.all) = search rules in
    intersect_turn c.args.free c.args.sources.now _ xs c.loop-tail.tail-index (relation_view c.loop-tail.all) c.loop-tail.invariant x y (relation_view c.in_ok-all.all) (omega arith) c.tail-item.is k h

pub joined_all-returns-in_err-source-clause-refused : goal.joined_all-returns-in_err-source-clause-refused
joined_all-returns-in_err-source-clause-refused u c = λ code e.
    let xs = c.as_slice-join-items.result.now in
    let x = c.join-item.result in
    let k : source_bound c.args.free c.args.sources.now (source_view x.source) ≡ Err code = search rules in
    source_refused c.args.free c.args.sources.now _ xs c.loop-join.join-index (relation_view c.loop-join.all) c.loop-join.invariant x code (omega arith) c.join-item.is k

pub joined_all-returns-in_err-all-clause-refused : goal.joined_all-returns-in_err-all-clause-refused
joined_all-returns-in_err-all-clause-refused u c = λ code e.
    let xs = c.as_slice-join-items.result.now in
    let x = c.join-item.result in
    let y = relation_view c.in_ok-source.source in
    let k : source_bound c.args.free c.args.sources.now (source_view x.source) ≡ Ok y = search rules in
    let h : joined (kind_of x.kind) (relation_view c.loop-join.all) y (view x.on) ≡ Err code = search rules in
    join_refused c.args.free c.args.sources.now _ xs c.loop-join.join-index (relation_view c.loop-join.all) c.loop-join.invariant x y code (omega arith) c.join-item.is k h

pub joined_all-loop-join-preserved : goal.joined_all-loop-join-preserved
joined_all-loop-join-preserved u c =
    let xs = c.as_slice-join-items.result.now in
    let x = c.join-item.result in
    let y = relation_view c.in_ok-source.source in
    let k : source_bound c.args.free c.args.sources.now (source_view x.source) ≡ Ok y = search rules in
    let h : joined (kind_of x.kind) (relation_view c.loop-join.all) y (view x.on) ≡ Ok (relation_view c.in_ok-all.all) = search rules in
    join_turn c.args.free c.args.sources.now _ xs c.loop-join.join-index (relation_view c.loop-join.all) c.loop-join.invariant x y (relation_view c.in_ok-all.all) (omega arith) c.join-item.is k h

pub bind_all_parts-loop-tree-preserved : goal.bind_all_parts-loop-tree-preserved
bind_all_parts-loop-tree-preserved u c =
    let xs = c.as_slice-tree-items.result.now in
    let more = c.in_ok-bind_parts.field-0 in
    let O = outside_view c.args.outside in
    let own = c.args.own.now in
    let one : parts_bound c.args.free c.args.sources.now O own (view c.tree-item.result) ≡ Ok (parts_view more) = search rules in
    let appended : c.append.new.self ≡ c.loop-tree.parts ++ more = search rules in
    parts_turn c.args.free c.args.sources.now O own _ xs c.loop-tree.tree-index (parts_view c.loop-tree.parts) c.loop-tree.invariant c.tree-item.result (parts_view more) (parts_view c.append.new.self) (omega arith)
    c.tree-item.is one (ap parts_view appended ∙ map-append part_view c.loop-tree.parts more)

pub bind_all_but-loop-tree-preserved : goal.bind_all_but-loop-tree-preserved
bind_all_but-loop-tree-preserved u c =
    let xs = c.as_slice-tree-items.result.now in
    let more = c.in_ok-bind_left.field-0 in
    let O = outside_view c.args.outside in
    let own = c.args.own.now in
    let spent = c.loop-tree.spent in
    let here : c.in_ok-split.split.0 ≡ spent_here spent (view c.tree-item.result) = search rules in
    let later : c.in_ok-split.split.1 ≡ spent_behind spent (view c.tree-item.result) = search rules in
    let one : left_bound c.args.free c.args.sources.now c.in_ok-split.split.0 O own (view c.tree-item.result) ≡ Ok (parts_view more) = search rules in
    let appended : c.append.new.self ≡ c.loop-tree.parts ++ more = search rules in
    left_turn c.args.free c.args.sources.now O own _ xs c.loop-tree.tree-index (parts_view c.loop-tree.parts) spent c.loop-tree.invariant c.tree-item.result (parts_view more) (parts_view c.append.new.self) (omega arith)
    c.tree-item.is (ap (λ p. left_bound c.args.free c.args.sources.now p O own (view c.tree-item.result)) (sym here) ∙ one) (ap parts_view appended ∙ map-append part_view c.loop-tree.parts more)
    ∙ ap (λ p. behind (parts_view c.append.new.self) (left_from c.args.free c.args.sources.now O own p (drop (c.loop-tree.tree-index + 1) xs))) (sym later)

pub bind_all_but-returns-in_err-bind_left-clause-refused : goal.bind_all_but-returns-in_err-bind_left-clause-refused
bind_all_but-returns-in_err-bind_left-clause-refused u c = λ code e.
    let xs = c.as_slice-tree-items.result.now in
    let O = outside_view c.args.outside in
    let own = c.args.own.now in
    let spent = c.loop-tree.spent in
    let here : c.in_ok-split.split.0 ≡ spent_here spent (view c.tree-item.result) = search rules in
    let k : left_bound c.args.free c.args.sources.now c.in_ok-split.split.0 O own (view c.tree-item.result) ≡ Err code = search rules in
    left_failed c.args.free c.args.sources.now O own _ xs c.loop-tree.tree-index (parts_view c.loop-tree.parts) spent c.loop-tree.invariant c.tree-item.result code (omega arith) c.tree-item.is
    (ap (λ p. left_bound c.args.free c.args.sources.now p O own (view c.tree-item.result)) (sym here) ∙ k)

pub bind_read-returns-then-is_empty-clause-ok : goal.bind_read-returns-then-is_empty-clause-ok
bind_read-returns-then-is_empty-clause-ok u c =
    let F = c.args.free in
    let S = c.args.sources.now in
    let x = c.args.select.now in
    let joins : (length (out-Select x).joins == 0) ≡ true = search rules in
    let h : IfOk c.bind_alone.result (λ y. only_framed F S (select_view x) (source_view (out-Select x).from) ≡ Ok (framed_view y)) = search rules in
    subst (λ (v : Checked Framed). IfOk c.bind_alone.result (λ y. v ≡ Ok (framed_view y))) (sym (read_only F S x joins)) h

pub bind_read-returns-then-is_empty-clause-refused : goal.bind_read-returns-then-is_empty-clause-refused
bind_read-returns-then-is_empty-clause-refused u c = λ code e.
    let F = c.args.free in
    let S = c.args.sources.now in
    let x = c.args.select.now in
    let joins : (length (out-Select x).joins == 0) ≡ true = search rules in
    let h : only_framed F S (select_view x) (source_view (out-Select x).from) ≡ Err code = search rules in
    read_only F S x joins ∙ h

pub bind_read-returns-clause-ok : goal.bind_read-returns-clause-ok
bind_read-returns-clause-ok u c =
    let F = c.args.free in
    let S = c.args.sources.now in
    let x = c.args.select.now in
    let joins : (length (out-Select x).joins == 0) ≡ false = search rules in
    let h : IfOk c.bind_joined.result (λ y. joined_framed F S (select_view x) ≡ Ok (framed_view y)) = search rules in
    subst (λ (v : Checked Framed). IfOk c.bind_joined.result (λ y. v ≡ Ok (framed_view y))) (sym (read_joined F S x joins)) h

pub bind_read-returns-clause-refused : goal.bind_read-returns-clause-refused
bind_read-returns-clause-refused u c = λ code e.
    let F = c.args.free in
    let S = c.args.sources.now in
    let x = c.args.select.now in
    let joins : (length (out-Select x).joins == 0) ≡ false = search rules in
    let h : joined_framed F S (select_view x) ≡ Err code = search rules in
    read_joined F S x joins ∙ h

pub bind_alone-returns-in-Sub-clause-ok : goal.bind_alone-returns-in-Sub-clause-ok
bind_alone-returns-in-Sub-clause-ok u c =
    let F = c.args.free in
    let S = c.args.sources.now in
    let O = select_view c.args.outer.now in
    let is : source_view c.args.from.now ≡ t.FromQuery (query_view c.in-Sub.query) c.in-Sub.alias = ap source_view c.in-Sub.is ∙ source_sub c.in-Sub.query c.in-Sub.alias in
    let same : c.deref.result.now ≡ c.in-Sub.query = search rules in
    let h : IfOk c.bind_alone_query.result (λ y. only_framed F S O (t.FromQuery (query_view c.in-Sub.query) c.in-Sub.alias) ≡ Ok (framed_view y)) =
    subst (λ (q : Query). IfOk c.bind_alone_query.result (λ y. only_framed F S O (t.FromQuery (query_view q) c.in-Sub.alias) ≡ Ok (framed_view y))) same c.bind_alone_query.ensures.ok in
    subst (λ (s : t.Source). IfOk c.bind_alone_query.result (λ y. only_framed F S O s ≡ Ok (framed_view y))) (sym is) h

pub bind_alone-returns-in-Sub-clause-refused : goal.bind_alone-returns-in-Sub-clause-refused
bind_alone-returns-in-Sub-clause-refused u c = λ code e.
    let F = c.args.free in
    let S = c.args.sources.now in
    let O = select_view c.args.outer.now in
    let is : source_view c.args.from.now ≡ t.FromQuery (query_view c.in-Sub.query) c.in-Sub.alias = ap source_view c.in-Sub.is ∙ source_sub c.in-Sub.query c.in-Sub.alias in
    let same : c.deref.result.now ≡ c.in-Sub.query = search rules in
    ap (only_framed F S O) is ∙ ap (λ q. only_framed F S O (t.FromQuery (query_view q) c.in-Sub.alias)) (sym same) ∙ c.bind_alone_query.ensures.refused code e

pub bind_alone_query-returns-in_err-relation-in-None-clause-refused : goal.bind_alone_query-returns-in_err-relation-in-None-clause-refused
bind_alone_query-returns-in_err-relation-in-None-clause-refused u c = λ code e.
    let F = c.args.free in
    let S = c.args.sources.now in
    let O = select_view c.args.outer.now in
    let q = query_view c.args.query.now in
    let alias = c.args.alias.now in
    let none : ranked_query q ≡ None = search rules in
    let h : query_bound F S q ≡ Err code = search rules in
    unranked F S O q alias none ∙ ap (under F S O alias) h

pub bind_alone_query-returns-in_ok-under_alias-in-None-clause-ok : goal.bind_alone_query-returns-in_ok-under_alias-in-None-clause-ok
bind_alone_query-returns-in_ok-under_alias-in-None-clause-ok u c =
    let F = c.args.free in
    let S = c.args.sources.now in
    let O = select_view c.args.outer.now in
    let q = query_view c.args.query.now in
    let alias = c.args.alias.now in
    let none : ranked_query q ≡ None = search rules in
    let a = relation_view c.in_ok-relation-in-None.relation in
    let h : query_bound F S q ≡ Ok a = search rules in
    let k : framed_view c.in_ok-under_alias-in-None.field-0 ≡ record { relation = renamed alias a; spent = None } = search rules in
    unranked F S O q alias none ∙ ap (under F S O alias) h ∙ ap Ok (sym k)

pub bind_alone_query-returns-in_err-gathered-in-Some-clause-refused : goal.bind_alone_query-returns-in_err-gathered-in-Some-clause-refused
bind_alone_query-returns-in_err-gathered-in-Some-clause-refused u c = λ code e.
    let F = c.args.free in
    let S = c.args.sources.now in
    let O = select_view c.args.outer.now in
    let x = c.args.query.now in
    let y = select_view (out-Term (out-Query x).first).first in
    let alias = c.args.alias.now in
    let q = ranked_view c.in-Some.list in
    let r : ranked_query (query_view x) ≡ Some q = search rules in
    let g : gathered_bound F S None y ≡ Err code = search rules in
    ranked F S O x alias q r ∙ ap (λ g. g >>= from_list F S O alias q) g

pub bind_alone_query-returns-in_ok-gathered-in-Some-clause-ok : goal.bind_alone_query-returns-in_ok-gathered-in-Some-clause-ok
bind_alone_query-returns-in_ok-gathered-in-Some-clause-ok u c =
    let F = c.args.free in
    let S = c.args.sources.now in
    let O = select_view c.args.outer.now in
    let x = c.args.query.now in
    let y = select_view (out-Term (out-Query x).first).first in
    let alias = c.args.alias.now in
    let q = ranked_view c.in-Some.list in
    let r : ranked_query (query_view x) ≡ Some q = search rules in
    let g : gathered_bound F S None y ≡ Ok (from_where_view c.in_ok-gathered-in-Some.gathered) = search rules in
    subst (λ (v : Checked Framed). IfOk c.sole.result (λ z. v ≡ Ok (framed_view z))) (sym (ranked F S O x alias q r ∙ ap (λ g. g >>= from_list F S O alias q) g)) c.sole.ensures.ok

pub bind_alone_query-returns-in_ok-gathered-in-Some-clause-refused : goal.bind_alone_query-returns-in_ok-gathered-in-Some-clause-refused
bind_alone_query-returns-in_ok-gathered-in-Some-clause-refused u c = λ code e.
    let F = c.args.free in
    let S = c.args.sources.now in
    let O = select_view c.args.outer.now in
    let x = c.args.query.now in
    let y = select_view (out-Term (out-Query x).first).first in
    let alias = c.args.alias.now in
    let q = ranked_view c.in-Some.list in
    let r : ranked_query (query_view x) ≡ Some q = search rules in
    let g : gathered_bound F S None y ≡ Ok (from_where_view c.in_ok-gathered-in-Some.gathered) = search rules in
    let h : from_list F S O alias q (from_where_view c.in_ok-gathered-in-Some.gathered) ≡ Err code = search rules in
    ranked F S O x alias q r ∙ ap (λ g. g >>= from_list F S O alias q) g ∙ h

pub bind_exists-returns-clause-ok : goal.bind_exists-returns-clause-ok
bind_exists-returns-clause-ok u c =
    let x = c.args.query.now in
    let y = select_view (out-Term (out-Query x).first).first in
    let F = c.args.free in
    let S = c.args.sources.now in
    let A = c.args.anti in
    let O = c.args.outside.now in
    let here : c.is_sole-sole.result ≡ is_sole (query_view x) = search rules in
    subst (λ (v : Checked Part). IfOk c.bind_simple.result (λ p. v ≡ Ok (part_view p))) (ap (λ b. exists_simple F S A O b y) here ∙ sym (by_exists F S A O x)) c.bind_simple.ensures.ok

pub bind_exists-returns-clause-refused : goal.bind_exists-returns-clause-refused
bind_exists-returns-clause-refused u c = λ code e.
    let x = c.args.query.now in
    let y = select_view (out-Term (out-Query x).first).first in
    let F = c.args.free in
    let S = c.args.sources.now in
    let A = c.args.anti in
    let O = c.args.outside.now in
    let here : c.is_sole-sole.result ≡ is_sole (query_view x) = search rules in
    by_exists F S A O x ∙ ap (λ b. exists_simple F S A O b y) (sym here) ∙ c.bind_simple.ensures.refused code e

pub bind_parts-returns-in-InQuery-clause-refused : goal.bind_parts-returns-in-InQuery-clause-refused
bind_parts-returns-in-InQuery-clause-refused u c = λ code e.
    let F = c.args.free in
    let S = c.args.sources.now in
    let A = outside_view c.args.outside in
    let O = c.args.own.now in
    let x = c.args.tree.now in
    let h : only_part F S A O (view x) ≡ Err code = search rules in
    in_query c.in-InQuery.value c.in-InQuery.query c.in-InQuery.negated F S A O x c.in-InQuery.is ∙ h
