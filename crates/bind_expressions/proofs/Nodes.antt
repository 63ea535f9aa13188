-- A whole node: what its leaf answers, or else what its operands decide.
use Rattle.std.proofs.Common.{◌≡◌, ℕ, Some, None, Ok, Err, refl, ap, ◌∙◌}
use Rattle.ct_value.specs.declared.codes.ScriptCode.{ScriptCode}
use Rattle.sql_syntax.specs.Tree.{Tree}
use Rattle.sql_syntax.specs.Tree as t
use Rattle.binding.specs.Checked.{◌>>=◌}
use Rattle.binding.specs.Nodes.{Bound}
use Rattle.binding.specs.Expressions.{Leaf, bound, or_else}
use Rattle.bind_expressions.specs.Walk.{node}

leaf_first : (leaf : Leaf) (n : ℕ) (x : Tree) → bound leaf n x ≡ (leaf n x >>= or_else (node leaf n x))
leaf_first leaf n (t.Or xs) = refl
leaf_first leaf n (t.And xs) = refl
leaf_first leaf n (t.Not x) = refl
leaf_first leaf n (t.Exists q) = refl
leaf_first leaf n (t.Compare op x y) = refl
leaf_first leaf n (t.IsNull x negated) = refl
leaf_first leaf n (t.Between x low high negated) = refl
leaf_first leaf n (t.InList x xs negated) = refl
leaf_first leaf n (t.InQuery x q negated) = refl
leaf_first leaf n (t.Like x y negated) = refl
leaf_first leaf n (t.Sum x xs) = refl
leaf_first leaf n (t.Product x xs) = refl
leaf_first leaf n (t.Sign minus x) = refl
leaf_first leaf n (t.Number text) = refl
leaf_first leaf n (t.Str text) = refl
leaf_first leaf n (t.Truth truth) = refl
leaf_first leaf n t.Null = refl
leaf_first leaf n (t.Name of name quoted) = refl
leaf_first leaf n (t.Call name args filter over) = refl
leaf_first leaf n (t.Cast x ty) = refl
leaf_first leaf n (t.Paren x) = refl
leaf_first leaf n (t.Sub q) = refl
leaf_first leaf n (t.Case whens otherwise) = refl

pub led : (leaf : Leaf) (n : ℕ) (x : Tree) (b : Bound) → leaf n x ≡ Ok (Some b) → bound leaf n x ≡ Ok b
led leaf n x b h = leaf_first leaf n x ∙ ap (λ r. r >>= or_else (node leaf n x)) h

pub led_err : (leaf : Leaf) (n : ℕ) (x : Tree) (code : ScriptCode) → leaf n x ≡ Err code → bound leaf n x ≡ Err code
led_err leaf n x code h = leaf_first leaf n x ∙ ap (λ r. r >>= or_else (node leaf n x)) h

pub of_node : (leaf : Leaf) (n : ℕ) (x : Tree) → leaf n x ≡ Ok None → bound leaf n x ≡ node leaf n x
of_node leaf n x h = leaf_first leaf n x ∙ ap (λ r. r >>= or_else (node leaf n x)) h
