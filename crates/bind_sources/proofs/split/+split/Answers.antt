use Rattle.std.proofs.Common.{rules, ◌≡◌, ◌++◌, Ok, Err, arith}
use Rattle.sql_syntax.specs.View.{view}
use Rattle.query_answer.specs.Answer.{conjuncts}
use Rattle.bind_nodes.specs.Views.{bounds_view}
use Rattle.bind_sources.specs.Splits.{behind, pairs_in, rest_in}
use Rattle.bind_sources.proofs.Conjuncts.{pairs_turn, rest_turn, rest_refused}
use Rattle.bind_sources.proofs.split.+split.Goals as goal

pub split_all-returns-in_err-split-clause-refused : goal.split_all-returns-in_err-split-clause-refused
split_all-returns-in_err-split-clause-refused t c code =
    λ e. let here : rest_in c.args.scope.now c.args.width (conjuncts (view c.tree-item.result)) ≡ Err code = search rules in
    rest_refused c.args.scope.now c.args.width c.as_slice-tree-items.result.now c.loop-tree.tree-index c.tree-item.result (omega arith) c.tree-item.is _ _ _ code c.loop-tree.invariant.rest here

pub split_all-loop-tree-preserved : goal.split_all-loop-tree-preserved
split_all-loop-tree-preserved t c =
    let more : c.split.new.parts.pairs ≡ c.loop-tree.parts.pairs ++ pairs_in c.args.scope.now c.args.width (conjuncts (view c.tree-item.result)) = search rules in
    let rest : behind (bounds_view c.loop-tree.parts.rest) (rest_in c.args.scope.now c.args.width (conjuncts (view c.tree-item.result))) ≡ Ok (bounds_view c.split.new.parts.rest) = search rules in
    record {
      pairs = pairs_turn c.args.scope.now c.args.width c.as_slice-tree-items.result.now c.loop-tree.tree-index c.tree-item.result (omega arith) c.tree-item.is _ _ _ c.loop-tree.invariant.pairs more;
      rest = rest_turn c.args.scope.now c.args.width c.as_slice-tree-items.result.now c.loop-tree.tree-index c.tree-item.result (omega arith) c.tree-item.is _ _ _ c.loop-tree.invariant.rest rest;
    }
