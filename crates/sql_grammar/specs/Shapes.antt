-- How rules are put together from others: which tokens stand for which things.
use Rattle.std.specs.Prelude.{◌≡◌, Bool, true, false, List, [], ◌∷◌, ◌++◌, Option, Some, None}
use Rattle.sql_tokens.specs.declared.token.Token.{Token}
use Rattle.sql_grammar.specs.Words.{OPEN, CLOSE, COMMA}

-- which tokens stand for which things
abbrev pub Spelling : Type 0 → Type 1
Spelling A = List Token → A → Type 0

-- one token
abbrev pub Word : Token → Spelling (Unit {0})
Word e ts x = ts ≡ e ∷ []

-- these tokens
abbrev pub Words : List Token → Spelling (Unit {0})
Words es ts x = ts ≡ es

-- one token of several, each for a thing of its own
abbrev pub WordOf : {W : Type 0} → (W → Token) → Spelling W
WordOf token ts w = ts ≡ token w ∷ []

-- a token of several, and what stands behind it
abbrev pub Led : {W A : Type 0} → (W → Token) → (W → Spelling A) → Spelling A
Led {W} token R ts x = (w : W) × (us : List Token) × R w us x × (ts ≡ token w ∷ us)

-- a token, and what stands behind it
abbrev pub After : {A : Type 0} → Token → Spelling A → Spelling A
After e R = Led {W = Unit {0}} (λ w. e) (λ w. R)

-- one thing behind another
abbrev pub Seq2 : {A B : Type 0} → Spelling A → Spelling B → List Token → A → B → Type 0
Seq2 R S ts x y = (us : List Token) × (vs : List Token) × R us x × S vs y × (ts ≡ us ++ vs)

-- three things, one behind another
abbrev pub Seq3 : {A B C : Type 0} → Spelling A → Spelling B → Spelling C → List Token → A → B → C → Type 0
Seq3 R S Q ts x y z =
    (us : List Token) × (vs : List Token) × (ws : List Token) × R us x × S vs y × Q ws z × (ts ≡ us ++ (vs ++ ws))

-- four things, one behind another
abbrev pub Seq4 : {A B C D : Type 0} → Spelling A → Spelling B → Spelling C → Spelling D → List Token → A → B → C → D → Type 0
Seq4 R S Q P ts x y z o =
    (us : List Token) × (vs : List Token) × (ws : List Token) × (os : List Token)
    × R us x × S vs y × Q ws z × P os o × (ts ≡ us ++ (vs ++ (ws ++ os)))

-- a thing made of another
abbrev pub Made : {A B : Type 0} → (A → B) → Spelling A → Spelling B
Made {A} f R ts y = (x : A) × R ts x × (y ≡ f x)

-- [ item ]
abbrev pub Maybe : {A : Type 0} → Spelling A → Spelling (Option A)
Maybe R ts None = ts ≡ []
Maybe R ts (Some x) = R ts x

-- [ item ], of which it counts only whether it is there
abbrev pub Flag : Spelling (Unit {0}) → Spelling Bool
Flag R ts false = ts ≡ []
Flag R ts true = R ts tt

-- [ list ]
abbrev pub OrNone : {A : Type 0} → Spelling (List A) → Spelling (List A)
OrNone R ts [] = ts ≡ []
OrNone R ts (x ∷ xs) = R ts (x ∷ xs)

-- { item }
abbrev pub Many : {A : Type 0} → Spelling A → Spelling (List A)
Many R ts [] = ts ≡ []
Many R ts (x ∷ xs) = (us : List Token) × (vs : List Token) × R us x × Many R vs xs × (ts ≡ us ++ vs)

-- first { item }
abbrev pub Series : {A : Type 0} → Spelling A → Spelling A → Spelling (List A)
Series R S ts [] = ⊥
Series R S ts (x ∷ xs) = Seq2 R (Many S) ts x xs

-- item { "," item }
abbrev pub Listed : {A : Type 0} → Spelling A → Spelling (List A)
Listed R = Series R (After COMMA R)

-- "(" item ")"
abbrev pub Bracketed : {A : Type 0} → Spelling A → Spelling A
Bracketed R ts x = Seq3 (Word OPEN) R (Word CLOSE) ts tt x tt

-- operand { word operand }
abbrev pub Chain : {A X : Type 0} → (A → List X → A) → Spelling A → Spelling X → Spelling A
Chain {A} {X} node R S ts t = (first : A) × (rest : List X) × Seq2 R (Many S) ts first rest × (t ≡ node first rest)
