-- What it is that a table of examples holds: each text is read as what stands beside it.
use Rattle.std.specs.Prelude.{◌≡◌, ℕ, false, List, [], ◌∷◌, ◌++◌, ◌+◌, map, None, codes}
use Rattle.ct_value.specs.declared.codes.ScriptCode.{ScriptCode}
use Rattle.sql_syntax.specs.Tree.{Query, Item, One, select_of, items, no_joins, no_tree, no_trees, Insert}
use Rattle.sql_grammar.specs.ReadsScripts.{Answer, answered, refused, read_text}
use Rattle.text_examples.specs.Nested.{Nest, nested, within}
use Rattle.text_examples.specs.Words.{a, table, the}

-- what the texts of a table are read as, is what stands beside them
abbrev pub AreRead : {A B : Type 0} → (A → List ℕ) → (B → Answer) → List (A × B) → Type 0
AreRead text answer table = map (λ entry. read_text (text entry.0)) table ≡ map (λ entry. answer entry.1) table

-- every text is refused so, in the first statement
abbrev pub AreRefused : (List ℕ → List ℕ) → ScriptCode → List (List ℕ) → Type 0
AreRefused text code texts = map (λ t. read_text (text t)) texts ≡ map (λ t. refused code 1) texts

-- ---- what stands round an item, and round a query

abbrev pub item_text : List ℕ → List ℕ
item_text text = codes "INSERT INTO o SELECT " ++ text ++ codes " FROM t;"

abbrev pub item_answer : Item → Answer
item_answer item = answered (Insert (codes "o") (the (select_of false (items (item ∷ [])) (table (codes "t")) no_joins no_tree no_trees no_tree)) ∷ [])

abbrev pub query_text : List ℕ → List ℕ
query_text text = codes "INSERT INTO o " ++ text ++ codes ";"

abbrev pub query_answer : Query → Answer
query_answer query = answered (Insert (codes "o") query ∷ [])

-- ---- depths

abbrev pub nest_text : ℕ → Nest → List ℕ
nest_text count nest = item_text (nested count (codes "a") nest)

abbrev pub nest_answer : ℕ → Nest → Answer
nest_answer count nest = item_answer (One (within count nest.around a) None)

-- of each of these, so many may stand within one another, and one more is too many
abbrev pub MayNest : ℕ → ScriptCode → List Nest → Type 0
MayNest count code nests =
    (map (λ nest. read_text (nest_text count nest)) nests ≡ map (nest_answer count) nests)
    × (map (λ nest. read_text (nest_text (count + 1) nest)) nests ≡ map (λ nest. refused code 1) nests)

-- a fault within so many of each of these is found
abbrev pub FaultIsFound : ℕ → ScriptCode → List Nest → Type 0
FaultIsFound count code nests = map (λ nest. read_text (item_text (nested count (codes "a + ") nest))) nests ≡ map (λ nest. refused code 1) nests
