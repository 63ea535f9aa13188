-- The trees that rules make of what stands in their parts.
use Rattle.std.specs.Prelude.{Bool, true, false, List, [], ◌∷◌, Option, Some, None}
use Rattle.sql_syntax.specs.declared.tree.SetWord.{SetWord}
use Rattle.sql_syntax.specs.declared.tree.SetWord.TheVariants.{Except, ExceptAll}
use Rattle.sql_syntax.specs.Tree.{Select, select_of, Item, Source, JoinItem, Tree, Or, And, Not, Sum, Product, Sign, SumTail, ProductTail, items, joins, trees, sum_tails, product_tails, optional_tree}

-- a chain of one operand is that operand, without a node of its own
abbrev pub or_node : Tree → List Tree → Tree
or_node u [] = u
or_node u (v ∷ vs) = Or (trees (u ∷ v ∷ vs))

-- the operands of AND
abbrev pub and_node : Tree → List Tree → Tree
and_node u [] = u
and_node u (v ∷ vs) = And (trees (u ∷ v ∷ vs))

-- the same of a list of operands
abbrev pub or_of : List Tree → Tree
or_of [] = Or (trees [])
or_of (u ∷ us) = or_node u us

-- the same of a list of operands
abbrev pub and_of : List Tree → Tree
and_of [] = And (trees [])
and_of (u ∷ us) = and_node u us

-- the operands of + - ||
abbrev pub sum_node : Tree → List SumTail → Tree
sum_node u [] = u
sum_node u (x ∷ xs) = Sum u (sum_tails (x ∷ xs))

-- the operands of * / %
abbrev pub product_node : Tree → List ProductTail → Tree
product_node u [] = u
product_node u (x ∷ xs) = Product u (product_tails (x ∷ xs))

-- and so is a rule whose optional part is missing
abbrev pub not_node : Bool → Tree → Tree
not_node false u = u
not_node true u = Not u

-- an operand and its sign
abbrev pub sign_node : Option Bool → Tree → Tree
sign_node None u = u
sign_node (Some minus) u = Sign minus u

-- a select of its list, its sources and its filters
abbrev pub select_node : Bool × List Item → Source × List JoinItem → Option Tree × List Tree × Option Tree → Select
select_node chosen from filters =
    select_of chosen.0 (items chosen.1) from.0 (joins from.1) (optional_tree filters.0) (trees filters.1) (optional_tree filters.2)

-- ascending where no word says otherwise
abbrev pub is_desc : Option Bool → Bool
is_desc None = false
is_desc (Some desc) = desc

-- EXCEPT, with ALL beside it or without
abbrev pub except_word : Bool → SetWord
except_word false = Except
except_word true = ExceptAll
