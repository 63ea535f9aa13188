-- Parentheses and CASEs within one another, of which 32 may be open at once.
use Rattle.std.specs.Prelude.{ℕ, zero, suc, false, List, ◌++◌, None, codes, [], ◌∷◌}
use Rattle.sql_syntax.specs.Tree.{Tree, Exists, InList, Call, Paren, Sub, Case, select_of, One, tree_when_of, Values, no_joins, no_trees, no_tree, some_tree, no_over, items, trees, tree_whens, Set}
use Rattle.sql_grammar.specs.ReadsScripts.{Answer, answered, refused}
use Rattle.ct_value.specs.declared.codes.ScriptCode.TheVariants.{BadToken, Syntax, TooDeep}
use Rattle.text_examples.specs.Words.{a, b, pick, the, table}

-- a text so many times
abbrev pub times : ℕ → List ℕ → List ℕ
times zero text = []
times (suc n) text = text ++ times n text

-- a tree within so many others
abbrev pub within : ℕ → (Tree → Tree) → Tree → Tree
within zero around tree = tree
within (suc n) around tree = around (within n around tree)

-- what stands before and behind a tree, and the tree that it makes of it
pub record Nest : Type 0 where
  pub front : List ℕ
  pub back : List ℕ
  pub around : Tree → Tree

abbrev pub nests : List Nest
nests =
    record { front = codes "("; back = codes ")"; around = Paren } ∷
    record { front = codes "CASE WHEN a THEN "; back = codes " END"; around = λ tree. Case (tree_whens (tree_when_of a tree ∷ [])) no_tree } ∷
    record { front = codes "CASE WHEN "; back = codes " THEN b END"; around = λ tree. Case (tree_whens (tree_when_of tree b ∷ [])) no_tree } ∷
    record { front = codes "f("; back = codes ")"; around = λ tree. Call (codes "f") (Values false (trees (tree ∷ []))) no_tree no_over } ∷
    record { front = codes "a IN ("; back = codes ")"; around = λ tree. InList a (trees (tree ∷ [])) false } ∷
    record { front = codes "(SELECT "; back = codes " FROM t)"; around = λ tree. Sub (the (pick tree (table (codes "t")))) } ∷
    record { front = codes "EXISTS (SELECT a FROM t WHERE "; back = codes ")"; around = λ tree. Exists (the (select_of false (items (One a None ∷ [])) (table (codes "t")) no_joins (some_tree tree) no_trees no_tree)) } ∷
    []

-- a text within so many of these
abbrev pub nested : ℕ → List ℕ → Nest → List ℕ
nested count inner nest = times count nest.front ++ inner ++ times count nest.back

-- a script of a front, a text so many times, and a back
pub record Deep : Type 0 where
  pub front : List ℕ
  pub count : ℕ
  pub text : List ℕ
  pub back : List ℕ

abbrev pub deep_text : Deep → List ℕ
deep_text deep = deep.front ++ times deep.count deep.text ++ deep.back

-- the script, and what it is read as
abbrev pub read_deep : List (Deep × Answer)
read_deep =
    (record { front = []; count = 32; text = codes "("; back = codes ";" }, refused Syntax 1) ∷
    (record { front = []; count = 33; text = codes "("; back = codes ";" }, refused TooDeep 1) ∷
    (record { front = []; count = 32; text = codes "case "; back = codes ";" }, refused Syntax 1) ∷
    (record { front = []; count = 33; text = codes "case "; back = codes ";" }, refused TooDeep 1) ∷
    (record { front = []; count = 16; text = codes "(CASE "; back = codes ";" }, refused Syntax 1) ∷
    (record { front = codes "("; count = 16; text = codes "(CASE "; back = codes ";" }, refused TooDeep 1) ∷
    -- without a `;`
    (record { front = []; count = 33; text = codes "("; back = [] }, refused TooDeep 1) ∷
    -- what closes, also where none is open
    (record { front = []; count = 40; text = codes "()"; back = codes ";" }, refused Syntax 1) ∷
    (record { front = []; count = 40; text = codes "CASE END "; back = codes ";" }, refused Syntax 1) ∷
    (record { front = []; count = 40; text = codes "(END CASE)"; back = codes ";" }, refused Syntax 1) ∷
    (record { front = codes ")END)"; count = 32; text = codes "("; back = codes ";" }, refused Syntax 1) ∷
    (record { front = codes ")END)"; count = 33; text = codes "("; back = codes ");" }, refused TooDeep 1) ∷
    -- a bad place counts before, and a missing tree behind
    (record { front = []; count = 33; text = codes "("; back = codes "#;" }, refused BadToken 1) ∷
    (record { front = codes "#"; count = 33; text = codes "("; back = codes ";" }, refused BadToken 1) ∷
    (record { front = codes "SET 'a' = 'b';"; count = 33; text = codes "("; back = codes "; #" }, refused TooDeep 2) ∷
    (record { front = codes "SET;"; count = 33; text = codes "("; back = codes ";" }, refused Syntax 1) ∷
    -- within comments and texts they aren't tokens
    (record { front = codes "SET 'a' = 'b'; -- "; count = 33; text = codes "("; back = [] }, answered (Set (codes "a") (codes "b") ∷ [])) ∷
    (record { front = codes "/*"; count = 33; text = codes "CASE "; back = codes "*/ SET 'a' = 'b';" }, answered (Set (codes "a") (codes "b") ∷ [])) ∷
    (record { front = codes "SET '"; count = 5; text = codes "((((((("; back = codes "' = 'b';" }, answered (Set (times 5 (codes "(((((((")) (codes "b") ∷ [])) ∷
    []
