use Rattle.std.proofs.Common.{◌≡◌, suc, ◌∷◌, [], ◌++◌, map, drop}
use Rattle.bind_shapes.proofs.code.write_text.Given as goal

abbrev pub invariant-loop-byte : goal.invariant-loop-byte
invariant-loop-byte l = l.written ++ (map suc (drop l.byte-index l.byte-items) ++ 0 ∷ []) ≡ l.fn.written ++ (suc l.kind ∷ (map suc l.text ++ 0 ∷ []))
