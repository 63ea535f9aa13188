-- A word is read exactly where its token stands.
use Rattle.std.proofs.Common.{◌≡◌, Bool, true, false, Option, Some, None, refl, rules, ap}
use denote.Enum.Bare.{same_true}
use Rattle.ct_value.specs.declared.value.CompareOp.TheVariants.{Eq, Ne, Lt, Le, Gt, Ge}
use Rattle.sql_tokens.specs.declared.token.Token.{Token}
use Rattle.sql_tokens.specs.declared.token.Token.TheVariants as t
use Rattle.sql_tokens.specs.declared.token.Keyword.{Keyword}
use Rattle.sql_tokens.specs.declared.token.Symbol.{Symbol}
use Rattle.sql_tokens.specs.contracts.token.Keyword.{the_type as keyword_type}
use Rattle.sql_tokens.specs.contracts.token.Symbol.{the_type as symbol_type}
use Rattle.sql_syntax.specs.declared.tree.JoinWord.{JoinWord}
use Rattle.sql_syntax.specs.declared.tree.JoinWord.TheVariants.{Inner, Left, Right, Full}
use Rattle.sql_syntax.specs.declared.tree.ProductWord.{ProductWord}
use Rattle.sql_syntax.specs.declared.tree.ProductWord.TheVariants.{Times, Divide, Modulo}
use Rattle.sql_syntax.specs.declared.tree.SumWord.{SumWord}
use Rattle.sql_syntax.specs.declared.tree.SumWord.TheVariants.{Plus, Minus, Concat}
use Rattle.sql_syntax.specs.Tree.{Text}
use Rattle.sql_grammar.specs.Words.{same_keyword, same_symbol, there, only, NAME, STR, NUMBER, PLUS, MINUS, CONCAT, TIMES, DIVIDE, MODULO, ASC, DESC, JOIN, INNER, LEFT, RIGHT, FULL, TRUE, FALSE, NULL, CAST, OPEN, CASE, BETWEEN, IN, LIKE, IS, NOT, EQUAL, NOT_EQUAL, LESS, LESS_EQUAL, GREATER, GREATER_EQUAL, CREATE, SET, INSERT, UNION, EXCEPT, name_word, name_token, text_word, number_word, sign_word, sign_token, product_word, product_token, sum_word, sum_token, compare_token, direction_word, direction_token, join_word, join_token, set_word, set_token}
use Rattle.sql_grammar.specs.declared.words.PrimaryWord.{PrimaryWord}
use Rattle.sql_grammar.specs.declared.words.PrimaryWord.TheVariants as first
use Rattle.sql_grammar.specs.declared.words.NegatableWord.{NegatableWord}
use Rattle.sql_grammar.specs.declared.words.NegatableWord.TheVariants as negatable
use Rattle.sql_grammar.specs.declared.words.RestWord.{RestWord}
use Rattle.sql_grammar.specs.declared.words.RestWord.TheVariants as word
use Rattle.sql_grammar.specs.declared.words.StatementWord.{StatementWord}
use Rattle.sql_grammar.specs.declared.words.StatementWord.TheVariants as stated
use Rattle.sql_grammar.specs.Reads.{primary_word, negatable_word, rest_word, statement_word}

-- of what was read, if it was
abbrev pub IfRead : {A : Type 0} → Option A → (A → Type 0) → Type 0
IfRead None P = Unit {0}
IfRead (Some x) P = P x

-- a word is the token that stands for it
abbrev pub IsWord : {W : Type 0} → (Token → Option W) → (W → Token) → Type 0
IsWord {W} word token = (t : Token) → IfRead (word t) (λ w. t ≡ token w)

pub same_keyword_is : (found word : Keyword) → same_keyword found word ≡ true → found ≡ word
same_keyword_is found word e = same_true keyword_type (search rules) found word e

pub same_symbol_is : (found word : Symbol) → same_symbol found word ≡ true → found ≡ word
same_symbol_is found word e = same_true symbol_type (search rules) found word e

pub only_is : (e : Token) → IsWord (only e) (λ w. e)
only_is (t.Keyword word) (t.Keyword found) = go (same_keyword found word) refl
  where
    go : (b : Bool) → same_keyword found word ≡ b → IfRead (there b) (λ w. t.Keyword found ≡ t.Keyword word)
    go true e = ap t.Keyword (same_keyword_is found word e)
    go false e = tt
only_is (t.Symbol word) (t.Symbol found) = go (same_symbol found word) refl
  where
    go : (b : Bool) → same_symbol found word ≡ b → IfRead (there b) (λ w. t.Symbol found ≡ t.Symbol word)
    go true e = ap t.Symbol (same_symbol_is found word e)
    go false e = tt
only_is _ _ = tt

-- the words of which there are several

pub name_is : IsWord name_word name_token
name_is (NAME x quoted) = refl
name_is _ = tt

pub text_is : IsWord text_word STR
text_is (STR x) = refl
text_is _ = tt

pub number_is : IsWord number_word NUMBER
number_is (NUMBER x) = refl
number_is _ = tt

pub sign_is : IsWord sign_word sign_token
sign_is PLUS = refl
sign_is MINUS = refl
sign_is _ = tt

pub product_is : IsWord product_word product_token
product_is TIMES = refl
product_is DIVIDE = refl
product_is MODULO = refl
product_is _ = tt

pub sum_is : IsWord sum_word sum_token
sum_is PLUS = refl
sum_is MINUS = refl
sum_is CONCAT = refl
sum_is _ = tt

pub direction_is : IsWord direction_word direction_token
direction_is ASC = refl
direction_is DESC = refl
direction_is _ = tt

pub join_is : IsWord join_word join_token
join_is JOIN = refl
join_is INNER = refl
join_is LEFT = refl
join_is RIGHT = refl
join_is FULL = refl
join_is _ = tt

pub set_is : IsWord set_word set_token
set_is UNION = refl
set_is EXCEPT = refl
set_is _ = tt

abbrev pub primary_token : PrimaryWord → Token
primary_token (first.Number x) = NUMBER x
primary_token (first.Str x) = STR x
primary_token (first.Truth true) = TRUE
primary_token (first.Truth false) = FALSE
primary_token first.Null = NULL
primary_token (first.Name x quoted) = NAME x quoted
primary_token first.Cast = CAST
primary_token first.Bracket = OPEN
primary_token first.Case = CASE

pub primary_is : IsWord primary_word primary_token
primary_is (NUMBER x) = refl
primary_is (STR x) = refl
primary_is TRUE = refl
primary_is FALSE = refl
primary_is NULL = refl
primary_is (NAME x quoted) = refl
primary_is CAST = refl
primary_is OPEN = refl
primary_is CASE = refl
primary_is _ = tt

abbrev pub negatable_token : NegatableWord → Token
negatable_token negatable.Between = BETWEEN
negatable_token negatable.In = IN
negatable_token negatable.Like = LIKE

pub negatable_is : IsWord negatable_word negatable_token
negatable_is BETWEEN = refl
negatable_is IN = refl
negatable_is LIKE = refl
negatable_is _ = tt

abbrev pub rest_token : RestWord → Token
rest_token (word.Compare op) = compare_token op
rest_token word.Is = IS
rest_token word.Not = NOT
rest_token (word.Negatable w) = negatable_token w

pub rest_is : IsWord rest_word rest_token
rest_is EQUAL = refl
rest_is NOT_EQUAL = refl
rest_is LESS = refl
rest_is LESS_EQUAL = refl
rest_is GREATER = refl
rest_is GREATER_EQUAL = refl
rest_is IS = refl
rest_is NOT = refl
rest_is BETWEEN = refl
rest_is IN = refl
rest_is LIKE = refl
rest_is _ = tt

abbrev pub statement_token : StatementWord → Token
statement_token stated.Create = CREATE
statement_token stated.Set = SET
statement_token stated.Insert = INSERT

pub statement_is : IsWord statement_word statement_token
statement_is CREATE = refl
statement_is SET = refl
statement_is INSERT = refl
statement_is _ = tt

-- a word's token is read as the word
pub name_back : (w : Text × Bool) → name_word (name_token w) ≡ Some w
name_back w = refl

pub text_back : (w : Text) → text_word (STR w) ≡ Some w
text_back w = refl

pub number_back : (w : Text) → number_word (NUMBER w) ≡ Some w
number_back w = refl

pub sign_back : (w : Bool) → sign_word (sign_token w) ≡ Some w
sign_back false = refl
sign_back true = refl

pub product_back : (w : ProductWord) → product_word (product_token w) ≡ Some w
product_back Times = refl
product_back Divide = refl
product_back Modulo = refl

pub sum_back : (w : SumWord) → sum_word (sum_token w) ≡ Some w
sum_back Plus = refl
sum_back Minus = refl
sum_back Concat = refl

pub direction_back : (w : Bool) → direction_word (direction_token w) ≡ Some w
direction_back false = refl
direction_back true = refl

pub join_back : (w : Option JoinWord) → join_word (join_token w) ≡ Some w
join_back None = refl
join_back (Some Inner) = refl
join_back (Some Left) = refl
join_back (Some Right) = refl
join_back (Some Full) = refl

pub set_back : (w : Bool) → set_word (set_token w) ≡ Some w
set_back false = refl
set_back true = refl

pub rest_back : (w : RestWord) → rest_word (rest_token w) ≡ Some w
rest_back (word.Compare Eq) = refl
rest_back (word.Compare Ne) = refl
rest_back (word.Compare Lt) = refl
rest_back (word.Compare Le) = refl
rest_back (word.Compare Gt) = refl
rest_back (word.Compare Ge) = refl
rest_back word.Is = refl
rest_back word.Not = refl
rest_back (word.Negatable negatable.Between) = refl
rest_back (word.Negatable negatable.In) = refl
rest_back (word.Negatable negatable.Like) = refl
