-- What it is that a table of examples holds: what a query is bound to, or what it is refused as.
use Rattle.std.specs.Prelude.{◌≡◌, false, List, [], ◌∷◌, ◌++◌, map, Option, Some, None, option_map, Ok, Err, Bool, codes}
use Rattle.ct_value.specs.declared.codes.ScriptCode.{ScriptCode}
use Rattle.ct_value.specs.declared.codes.ScriptCode.TheVariants.{Syntax}
use Rattle.ct_value.specs.declared.row.Row.{Row}
use Rattle.ct_value.specs.declared.ty.ColTy.{ColTy}
use Rattle.ct_value.specs.declared.ty.Ty.{Ty}
use Rattle.ct_value.specs.declared.value.Value.{Value}
use Rattle.rel_algebra.specs.Rel.{Rel}
use Rattle.sql_syntax.specs.Tree.{Query, Tree, Text, Insert, select_of, item_and, no_items, One, All, AllOf, Select, Items, Item}
use Rattle.sql_grammar.specs.ReadsScripts.{Answer, answered, refused, read_text}
use Rattle.query_answer.specs.Answer.{over, table_scope}
use Rattle.query_answer.specs.Forms.{first_select}
use Rattle.query_answer.specs.Names.{Scope}
use Rattle.binding.specs.Checked.{Checked, ◌>>=◌}
use Rattle.binding.specs.Inserts.{Inserted, insert_bound}
use Rattle.binding.specs.Queries.{Relation, query_bound}
use Rattle.query_examples.specs.Tables.{all, t}

-- the query that a text spells
abbrev pub query_in : Answer → Checked Query
query_in (answered (Insert table query ∷ [])) = Ok query
query_in (answered others) = Err Syntax
query_in (refused code number) = Err code

abbrev pub query_text : Text → Checked Query
query_text text = query_in (read_text (codes "INSERT INTO o " ++ text ++ codes ";"))

abbrev pub bound_text : Text → Checked Relation
bound_text text = query_text text >>= query_bound false all

abbrev pub code_of : {A : Type 0} → Checked A → Option ScriptCode
code_of (Ok x) = None
code_of (Err code) = Some code

-- each text is refused as this code
abbrev pub AreRefused : ScriptCode → List Text → Type 0
AreRefused code texts = map (λ text. code_of (bound_text text)) texts ≡ map (λ text. Some code) texts

-- each text is refused as the code beside it
abbrev pub HaveCodes : List (Text × ScriptCode) → Type 0
HaveCodes table = map (λ entry. code_of (bound_text entry.0)) table ≡ map (λ entry. Some entry.1) table

-- each text is accepted
abbrev pub AreAccepted : List Text → Type 0
AreAccepted texts = map (λ text. code_of (bound_text text)) texts ≡ map (λ text. None) texts

abbrev pub rel_of : Checked Relation → Checked Rel
rel_of (Ok x) = Ok x.rel
rel_of (Err code) = Err code

abbrev pub columns_of : Checked Relation → Checked (List (Option Text × ColTy))
columns_of (Ok x) = Ok (map (λ c. (c.name, c.ty)) x.scope)
columns_of (Err code) = Err code

-- each text is bound to the tree beside it
abbrev pub AreBound : List (Text × Rel) → Type 0
AreBound table = map (λ entry. rel_of (bound_text entry.0)) table ≡ map (λ entry. Ok entry.1) table

-- each text has the columns beside it, with their names
abbrev pub HaveColumns : List (Text × List (Option Text × ColTy)) → Type 0
HaveColumns table = map (λ entry. columns_of (bound_text entry.0)) table ≡ map (λ entry. Ok entry.1) table

-- ---- INSERTs into a table of the examples

abbrev pub insert_in : Answer → Checked Inserted
insert_in (answered (Insert table query ∷ [])) = insert_bound all table query
insert_in (answered others) = Err Syntax
insert_in (refused code number) = Err code

-- what each INSERT is refused as, if it is
abbrev pub InsertsHave : List (Text × Option ScriptCode) → Type 0
InsertsHave table = map (λ entry. code_of (insert_in (read_text entry.0))) table ≡ map (λ entry. entry.1) table

-- ---- expressions over a row of t

abbrev pub item_tree : Item → Option Tree
item_tree (One x name) = Some x
item_tree All = None
item_tree (AllOf source) = None

abbrev pub items_tree : Items → Option Tree
items_tree no_items = None
items_tree (item_and x xs) = item_tree x

abbrev pub select_tree : Select → Option Tree
select_tree (select_of distinct items from joins condition groups having) = items_tree items

abbrev pub query_tree : Checked Query → Option Tree
query_tree (Ok q) = select_tree (first_select q)
query_tree (Err code) = None

abbrev pub tree_of : Text → Option Tree
tree_of text = query_tree (query_text (codes "SELECT " ++ text ++ codes " FROM t"))

abbrev pub scope : Scope
scope = table_scope None t

-- an expression, its type and whether NULL may come, and its value at the row; None where it is out of range
pub record Valued : Type 0 where
  pub text : Text
  pub ty : Ty
  pub nullable : Bool
  pub value : Option Value

abbrev pub HaveTypes : List Valued → Type 0
HaveTypes table = map (λ e. option_map (λ x. (over scope x).column) (tree_of e.text)) table ≡ map (λ e. Some (Some (record { ty = e.ty; nullable = e.nullable }))) table

abbrev pub HaveValues : Row → List Valued → Type 0
HaveValues row table = map (λ e. option_map (λ x. (over scope x).value row) (tree_of e.text)) table ≡ map (λ e. Some e.value) table
