use Rattle.std.proofs.Common.{rules, ◌≡◌, [], ◌∷◌, ◌++◌, arith}
use Rattle.sql_syntax.specs.View.{view}
use Rattle.query_answer.specs.Names.{find}
use Rattle.query_answer.specs.Shapes.{shape, one_shape, sum_number, product_number}
use Rattle.bind_shapes.specs.Codes.{code, codes, word}
use Rattle.bind_shapes.proofs.Written.{sums_step, products_step, whens_step, tail_turn, when_turn}
use Rattle.bind_shapes.proofs.code.+shape.Goals as goal

pub write_sum-loop-tail-preserved : goal.write_sum-loop-tail-preserved
write_sum-loop-tail-preserved t c =
    let xs = c.as_slice-tail-items.result.now in
    let look = find c.args.scope.now in
    let mark : c.push.new.self ≡ c.loop-tail.written ++ 1 ∷ [] = search rules in
    let kind : c.write_kind.new.written ≡ c.push.new.self ++ word (c.sum_number.result ∷ []) = search rules in
    let part : c.write_only.new.written ≡ c.write_kind.new.written ++ codes (one_shape (shape look (view c.tail-item.result.value))) = search rules in
    tail_turn c.loop-tail.written c.push.new.self c.write_kind.new.written _ _ _ _ _ _ _ c.sum_number.ensures mark kind part
    (sums_step look xs c.loop-tail.tail-index c.tail-item.result (omega arith) c.tail-item.is) c.loop-tail.invariant

pub write_product-loop-tail-preserved : goal.write_product-loop-tail-preserved
write_product-loop-tail-preserved t c =
    let xs = c.as_slice-tail-items.result.now in
    let look = find c.args.scope.now in
    let mark : c.push.new.self ≡ c.loop-tail.written ++ 1 ∷ [] = search rules in
    let kind : c.write_kind.new.written ≡ c.push.new.self ++ word (c.product_number.result ∷ []) = search rules in
    let part : c.write_only.new.written ≡ c.write_kind.new.written ++ codes (one_shape (shape look (view c.tail-item.result.value))) = search rules in
    tail_turn c.loop-tail.written c.push.new.self c.write_kind.new.written _ _ _ _ _ _ _ c.product_number.ensures mark kind part
    (products_step look xs c.loop-tail.tail-index c.tail-item.result (omega arith) c.tail-item.is) c.loop-tail.invariant

pub write_whens-loop-when-preserved : goal.write_whens-loop-when-preserved
write_whens-loop-when-preserved t c =
    let xs = c.as_slice-when-items.result.now in
    let look = find c.args.scope.now in
    let first : c.write_part.new.written ≡ c.loop-when.written ++ 1 ∷ code (shape look (view c.when-item.result.cond)) = search rules in
    let second : c.write_part-in-loop-when.new.written ≡ c.write_part.new.written ++ 1 ∷ code (shape look (view c.when-item.result.result)) = search rules in
    when_turn c.loop-when.written c.write_part.new.written _ _ _ _ _ _ first second
    (whens_step look xs c.loop-when.when-index c.when-item.result (omega arith) c.when-item.is) c.loop-when.invariant
