-- How tokens are read from the left: a reader answers what it read and the tokens behind it.
--     Each form stands for the form of rules with the same name in Shapes.
use Rattle.std.specs.Prelude.{ℕ, zero, suc, Bool, true, false, List, [], ◌∷◌, ◌++◌, length, Option, Some, None}
use Rattle.sql_tokens.specs.declared.token.Token.{Token}
use Rattle.sql_grammar.specs.Words.{OPEN, CLOSE, COMMA, only}

-- what is read from the head of the tokens, and the tokens behind it
abbrev pub Reader : Type 0 → Type 0
Reader A = List Token → Option (A × List Token)

infixl 10 ◌>>=◌
-- what follows a reading, if there was one
abbrev pub ◌>>=◌ : {A B : Type 0} → Option A → (A → Option B) → Option B
None >>= f = None
(Some x) >>= f = f x

-- the word that the first token is, and the tokens behind it
abbrev pub first_word : {W : Type 0} → List Token → Option W → Option (W × List Token)
first_word ts None = None
first_word ts (Some w) = Some (w, ts)

-- a word
abbrev pub word_at : {W : Type 0} → (Token → Option W) → Reader W
word_at word [] = None
word_at word (t ∷ ts) = first_word ts (word t)

-- these tokens
abbrev pub words_at : List Token → Reader (Unit {0})
words_at [] ts = Some (tt, ts)
words_at (e ∷ es) ts = word_at (only e) ts >>= λ x. words_at es x.1

-- a thing made of what is read
abbrev pub made : {A B : Type 0} → (A → B) → Reader A → Reader B
made f p ts = p ts >>= λ x. Some (f x.0, x.1)

-- a token, and what is read behind it
abbrev pub after : {A : Type 0} → Token → Reader A → Reader A
after e p ts = word_at (only e) ts >>= λ x. p x.1

-- [ word ]
abbrev pub optional_word : {W : Type 0} → List Token → Option (W × List Token) → Option (Option W × List Token)
optional_word ts None = Some (None, ts)
optional_word ts (Some x) = Some (Some x.0, x.1)

-- a word that may be missing
abbrev pub optional : {W : Type 0} → (Token → Option W) → Reader (Option W)
optional word ts = optional_word ts (word_at word ts)

-- [ word item ]
abbrev pub maybe_item : {W A : Type 0} → (W → Reader A) → List Token → Option (W × List Token) → Option (Option A × List Token)
maybe_item item ts None = Some (None, ts)
maybe_item item ts (Some x) = item x.0 x.1 >>= λ y. Some (Some y.0, y.1)

-- what begins with a word and may be missing
abbrev pub maybe : {W A : Type 0} → (Token → Option W) → (W → Reader A) → Reader (Option A)
maybe word item ts = maybe_item item ts (word_at word ts)

-- [ word item ], of which it counts only whether it is there
abbrev pub flag_item : {W : Type 0} → (W → Reader (Unit {0})) → List Token → Option (W × List Token) → Option (Bool × List Token)
flag_item item ts None = Some (false, ts)
flag_item item ts (Some x) = item x.0 x.1 >>= λ y. Some (true, y.1)

-- whether what begins with a token is there
abbrev pub flag : Token → Reader (Unit {0}) → Reader Bool
flag e p ts = flag_item (λ w. p) ts (word_at (only e) ts)

-- no tokens
abbrev pub nothing : Reader (Unit {0})
nothing ts = Some (tt, ts)

-- [ word list ]
abbrev pub list_item : {W A : Type 0} → (W → Reader (List A)) → List Token → Option (W × List Token) → Option (List A × List Token)
list_item item ts None = Some ([], ts)
list_item item ts (Some x) = item x.0 x.1

-- a list that begins with a token, and none where the token is missing
abbrev pub or_none : {A : Type 0} → Token → Reader (List A) → Reader (List A)
or_none e p ts = list_item (λ w. p) ts (word_at (only e) ts)

-- { word item }, at most as often as the number says
abbrev pub many_item : {W A : Type 0} → (W → Reader A) → Reader (List A) → List Token → Option (W × List Token) → Option (List A × List Token)
many_item item more ts None = Some ([], ts)
many_item item more ts (Some x) = item x.0 x.1 >>= λ y. more y.1 >>= λ ys. Some (y.0 ∷ ys.0, ys.1)

-- items that each begin with a word, until the next token is none or the number is used up
unfoldable pub many : {W A : Type 0} → (Token → Option W) → (W → Reader A) → ℕ → Reader (List A)
many word item zero ts = Some ([], ts)
many word item (suc n) ts = many_item item (many word item n) ts (word_at word ts)

-- { word item }, as often as it goes: the number of tokens always suffices
abbrev pub repeated : {W A : Type 0} → (Token → Option W) → (W → Reader A) → Reader (List A)
repeated word item ts = many word item (length ts) ts

-- one thing behind another
abbrev pub seq2 : {A B X : Type 0} → (A → B → X) → Reader A → Reader B → Reader X
seq2 f p q ts = p ts >>= λ x. q x.1 >>= λ y. Some (f x.0 y.0, y.1)

-- three things, one behind another
abbrev pub seq3 : {A B C X : Type 0} → (A → B → C → X) → Reader A → Reader B → Reader C → Reader X
seq3 f p q r ts = p ts >>= λ x. q x.1 >>= λ y. r y.1 >>= λ z. Some (f x.0 y.0 z.0, z.1)

-- four things, one behind another
abbrev pub seq4 : {A B C D X : Type 0} → (A → B → C → D → X) → Reader A → Reader B → Reader C → Reader D → Reader X
seq4 f p q r o ts = p ts >>= λ x. q x.1 >>= λ y. r y.1 >>= λ z. o z.1 >>= λ w. Some (f x.0 y.0 z.0 w.0, w.1)

-- first { word item }
abbrev pub series : {W A : Type 0} → Reader A → (Token → Option W) → (W → Reader A) → Reader (List A)
series first word item ts = first ts >>= λ x. repeated word item x.1 >>= λ xs. Some (x.0 ∷ xs.0, xs.1)

-- what was read before, and what is read now
abbrev pub behind : {A : Type 0} → List A → Option (List A × List Token) → Option (List A × List Token)
behind front None = None
behind front (Some x) = Some (front ++ x.0, x.1)

-- item { "," item }
abbrev pub listed : {A : Type 0} → Reader A → Reader (List A)
listed p = series p (only COMMA) (λ w. p)

-- "(" item ")"
abbrev pub bracketed : {A : Type 0} → Reader A → Reader A
bracketed p ts = word_at (only OPEN) ts >>= λ o. p o.1 >>= λ x. word_at (only CLOSE) x.1 >>= λ c. Some (x.0, c.1)

-- first { word operand }
abbrev pub chain : {W A X : Type 0} → (A → List X → A) → Reader A → (Token → Option W) → (W → Reader X) → Reader A
chain node first word item ts = first ts >>= λ x. repeated word item x.1 >>= λ xs. Some (node x.0 xs.0, xs.1)
