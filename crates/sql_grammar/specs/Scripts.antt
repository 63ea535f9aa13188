-- What a text is as a script: its statements, or the first statement that is refused.
use Rattle.std.specs.Prelude.{◌≡◌, ℕ, ◌+◌, true, false, List, [], ◌∷◌, ◌++◌, length}
use Rattle.ct_value.specs.declared.codes.ScriptCode.{ScriptCode}
use Rattle.ct_value.specs.declared.codes.ScriptCode.TheVariants.{BadToken, TooDeep, Syntax}
use Rattle.sql_syntax.specs.Tree.{Statement, Script}
use Rattle.sql_tokens.specs.Statements.{Piece, ended, unended, spoiled, statements_of}
use Rattle.sql_tokens.specs.Depth.{too_deep}
use Rattle.sql_grammar.specs.Spells.{Spells}

-- the piece is a statement: its `;` follows, never are too many open in it, and its tokens spell the tree
abbrev pub IsStatement : Piece → Statement → Type 0
IsStatement (ended ts) x = (too_deep ts ≡ false) × Spells ts x
IsStatement (unended ts) x = ⊥
IsStatement spoiled x = ⊥

-- the pieces are the statements, one by one
abbrev pub AreStatements : List Piece → List Statement → Type 0
AreStatements [] [] = Unit {0}
AreStatements [] (x ∷ xs) = ⊥
AreStatements (p ∷ ps) [] = ⊥
AreStatements (p ∷ ps) (x ∷ xs) = IsStatement p x × AreStatements ps xs

-- the text is the script
abbrev pub IsScript : List ℕ → Script → Type 0
IsScript text script = AreStatements (statements_of text) script.statements

-- the piece holds a bad place
abbrev pub HasBadPlace : Piece → Type 0
HasBadPlace (ended ts) = ⊥
HasBadPlace (unended ts) = ⊥
HasBadPlace spoiled = Unit {0}

-- the piece holds none, and at some token too many are open
abbrev pub IsTooDeep : Piece → Type 0
IsTooDeep (ended ts) = too_deep ts ≡ true
IsTooDeep (unended ts) = too_deep ts ≡ true
IsTooDeep spoiled = ⊥

-- neither, and its tokens have no tree, or no `;` follows
abbrev pub HasNoTree : Piece → Type 0
HasNoTree (ended ts) = (too_deep ts ≡ false) × ((x : Statement) → Spells ts x → ⊥)
HasNoTree (unended ts) = too_deep ts ≡ false
HasNoTree spoiled = ⊥

-- why a piece is refused
abbrev pub IsRefused : ScriptCode → Piece → Type 0
IsRefused BadToken p = HasBadPlace p
IsRefused TooDeep p = IsTooDeep p
IsRefused Syntax p = HasNoTree p
IsRefused _ p = ⊥

-- the piece with this number, where the first of all has the number `first`, is refused, and those before it are statements
pub record RefusedFrom (first : ℕ) (ps : List Piece) (code : ScriptCode) (number : ℕ) : Type 0 where
  pub before : List Piece
  pub piece : Piece
  pub behind : List Piece
  pub statements : List Statement
  pub is : ps ≡ before ++ piece ∷ behind
  pub good : AreStatements before statements
  pub counted : number ≡ first + length statements
  pub refuses : IsRefused code piece

-- the text is refused for this at the statement with this number, the first of all having the number 1
abbrev pub TextRefusal : List ℕ → ScriptCode → ℕ → Type 0
TextRefusal text code number = RefusedFrom 1 (statements_of text) code number
