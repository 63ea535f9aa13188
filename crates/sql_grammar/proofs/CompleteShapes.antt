-- Each form of reading is complete where its parts are: what tokens spell is read, whatever follows that doesn't go on.
use Rattle.std.proofs.Common.{◌≡◌, ℕ, zero, suc, ◌<◌, ◌≤◌, true, false, List, [], ◌∷◌, ◌++◌, length, Option, Some, None, refl, sym, ap, ◌∙◌, subst, append_assoc, length-append, arith}
use Rattle.sql_tokens.specs.declared.token.Token.{Token}
use Rattle.sql_grammar.specs.Words.{AND, AS, ASC, BETWEEN, DESC, ELSE, EXCEPT, FILTER, FULL, GROUP, HAVING, IN, INNER, INTERSECT, IS, JOIN, LEFT, LIKE, LIMIT, NOT, OR, ORDER, OUTER, OVER, PARTITION, PRIMARY, RIGHT, UNION, WHEN, WHERE, WITH, OPEN, CLOSE, COMMA, DOT, EQUAL, NOT_EQUAL, LESS, LESS_EQUAL, GREATER, GREATER_EQUAL, PLUS, MINUS, TIMES, DIVIDE, MODULO, CONCAT, NAME, only}
use Rattle.sql_grammar.specs.Shapes.{Spelling, Word, Words, WordOf, Led, After, Seq2, Seq3, Seq4, Made, Maybe, Flag, OrNone, Many, Series, Listed, Bracketed, Chain}
use Rattle.sql_grammar.proofs.laws.Steps.{bind_is}
use Rattle.sql_grammar.specs.Reading.{Reader, ◌>>=◌, first_word, word_at, words_at, made, after, optional_word, optional, maybe_item, maybe, flag_item, flag, nothing, list_item, or_none, many_item, many, repeated, seq2, seq3, seq4, series, listed, bracketed, chain}
use Rattle.sql_grammar.proofs.WordReading.{IfRead, IsWord, only_is}

-- how tightly a token goes on with what stands before it: 1 to 8 a query, 8 a list too, 9 an item of a list, 10 to 14 the chains, 15 and 16 a primary
abbrev pub strength : Token → ℕ
strength LIMIT = 1
strength ELSE = 1
strength WITH = 1
strength ORDER = 2
strength WHEN = 2
strength UNION = 3
strength EXCEPT = 3
strength INTERSECT = 4
strength HAVING = 5
strength GROUP = 6
strength WHERE = 7
strength JOIN = 8
strength INNER = 8
strength LEFT = 8
strength RIGHT = 8
strength FULL = 8
strength COMMA = 8
strength AS = 9
strength (NAME x quoted) = 9
strength ASC = 9
strength DESC = 9
strength OR = 10
strength PRIMARY = 9
strength AND = 11
strength EQUAL = 12
strength NOT_EQUAL = 12
strength LESS = 12
strength LESS_EQUAL = 12
strength GREATER = 12
strength GREATER_EQUAL = 12
strength IS = 12
strength NOT = 12
strength BETWEEN = 12
strength IN = 12
strength LIKE = 12
strength PLUS = 13
strength MINUS = 13
strength CONCAT = 13
strength TIMES = 14
strength DIVIDE = 14
strength MODULO = 14
strength DOT = 15
strength OPEN = 15
strength OVER = 15
strength PARTITION = 15
strength OUTER = 15
strength FILTER = 16
strength _ = 0

-- the first token doesn't go on at this level or a tighter one
abbrev pub Ends : ℕ → List Token → Type 0
Ends l [] = Unit {0}
Ends l (t ∷ ts) = strength t < l

pub tighter : (l m : ℕ) (ts : List Token) → l ≤ m → Ends l ts → Ends m ts
tighter l m [] h e = tt
tighter l m (t ∷ ts) h e = omega arith

abbrev pub Complete : {A : Type 0} → Reader A → Spelling A → ℕ → Type 0
Complete {A} p R l = (us : List Token) (x : A) (rest : List Token) → R us x → Ends l rest → p (us ++ rest) ≡ Some (x, rest)

-- in front of what ends at level l, R ends at level m
abbrev pub Before : {A : Type 0} → Spelling A → ℕ → ℕ → Type 0
Before {A} R l m = (us : List Token) (x : A) (rest : List Token) → R us x → Ends l rest → Ends m (us ++ rest)

pub complete_lower : {A : Type 0} (p : Reader A) (R : Spelling A) (l m : ℕ) → l ≤ m → Complete p R m → Complete p R l
complete_lower p R l m h c us x rest s e = c us x rest s (tighter l m rest h e)

-- words
abbrev pub Back : {W : Type 0} → (Token → Option W) → (W → Token) → Type 0
Back {W} word token = (w : W) → word (token w) ≡ Some w

pub word_reads : {W : Type 0} (word : Token → Option W) (token : W → Token) → Back word token → (w : W) (ts : List Token) → word_at word (token w ∷ ts) ≡ Some (w, ts)
word_reads word token back w ts = ap (first_word ts) (back w)

-- the word doesn't stand where what stands there ends at a level of all its tokens
pub stops : {W : Type 0} (word : Token → Option W) (token : W → Token) (l : ℕ) → IsWord word token → ((w : W) → l ≤ strength (token w)) → (ts : List Token) → Ends l ts → word_at word ts ≡ None
stops word token l is h [] e = refl
stops {W} word token l is h (t ∷ ts) e = go (word t) (is t)
  where
    go : (o : Option W) → IfRead o (λ w. t ≡ token w) → first_word ts o ≡ None
    go None k = refl
    go (Some w) k = let same : strength t ≡ strength (token w) = ap strength k in let high = h w in absurd (omega arith)

pub only_stops : (e : Token) (l : ℕ) → l ≤ strength e → (ts : List Token) → Ends l ts → word_at (only e) ts ≡ None
only_stops e l h = stops (only e) (λ w. e) l (only_is e) (λ w. h)

pub word_complete : {W : Type 0} (word : Token → Option W) (token : W → Token) (l : ℕ) → Back word token → Complete (word_at word) (WordOf token) l
word_complete word token l back us w rest s e = ap (λ a. word_at word (a ++ rest)) s ∙ word_reads word token back w rest

pub only_complete : (e : Token) (l : ℕ) → only e e ≡ Some tt → Complete (word_at (only e)) (Word e) l
only_complete e l back us w rest s f = ap (λ a. word_at (only e) (a ++ rest)) s ∙ ap (first_word rest) back

pub word_before : {W : Type 0} (token : W → Token) (l m : ℕ) → ((w : W) → strength (token w) < m) → Before (WordOf token) l m
word_before token l m h us w rest s e = subst (λ (a : List Token). Ends m (a ++ rest)) (sym s) (h w)

pub only_before : (t : Token) (l m : ℕ) → strength t < m → Before (Word t) l m
only_before t l m h us w rest s e = subst (λ (a : List Token). Ends m (a ++ rest)) (sym s) h

pub made_complete : {A B : Type 0} (f : A → B) (p : Reader A) (R : Spelling A) (l : ℕ) → Complete p R l → Complete (made f p) (Made f R) l
made_complete f p R l c us y rest s e = bind_is _ (c us s.0 rest s.1 e) (ap (λ a. Some (a, rest)) (sym s.2))

-- what is led by a word
pub led_reads : {W A : Type 0} (word : Token → Option W) (token : W → Token) (item : W → Reader A) (S : W → Spelling A) (l : ℕ) → Back word token → ((w : W) → Complete (item w) (S w) l)
    → Complete (λ ts. word_at word ts >>= λ x. item x.0 x.1) (Led token S) l
led_reads word token item S l back c us x rest s e =
    ap (λ a. word_at word (a ++ rest) >>= λ y. item y.0 y.1) s.3 ∙ bind_is _ (word_reads word token back s.0 (s.1 ++ rest)) (c s.0 s.1 x rest s.2 e)

pub after_complete : {A : Type 0} (t : Token) (p : Reader A) (R : Spelling A) (l : ℕ) → only t t ≡ Some tt → Complete p R l → Complete (after t p) (After t R) l
after_complete t p R l back c = led_reads (only t) (λ w. t) (λ w. p) (λ w. R) l (λ w. back) (λ w. c)

pub led_before : {W A : Type 0} (token : W → Token) (S : W → Spelling A) (l m : ℕ) → ((w : W) → strength (token w) < m) → Before (Led token S) l m
led_before token S l m h us x rest s e = subst (λ (a : List Token). Ends m (a ++ rest)) (sym s.3) (h s.0)

pub optional_complete : {W : Type 0} (word : Token → Option W) (token : W → Token) (l : ℕ) → IsWord word token → Back word token → ((w : W) → l ≤ strength (token w)) → Complete (optional word) (Maybe (WordOf token)) l
optional_complete word token l is back h us None rest s e = ap (λ a. optional word (a ++ rest)) s ∙ ap (optional_word rest) (stops word token l is h rest e)
optional_complete word token l is back h us (Some w) rest s e = ap (λ a. optional word (a ++ rest)) s ∙ ap (optional_word (token w ∷ rest)) (word_reads word token back w rest)

pub maybe_complete : {W A : Type 0} (word : Token → Option W) (token : W → Token) (item : W → Reader A) (S : W → Spelling A) (l : ℕ) → IsWord word token → Back word token → ((w : W) → l ≤ strength (token w))
    → ((w : W) → Complete (item w) (S w) l) → Complete (maybe word item) (Maybe (Led token S)) l
maybe_complete word token item S l is back h c us None rest s e = ap (λ a. maybe word item (a ++ rest)) s ∙ ap (maybe_item item rest) (stops word token l is h rest e)
maybe_complete word token item S l is back h c us (Some x) rest s e =
    ap (λ a. maybe word item (a ++ rest)) s.3 ∙ ap (maybe_item item (token s.0 ∷ (s.1 ++ rest))) (word_reads word token back s.0 (s.1 ++ rest)) ∙ bind_is _ (c s.0 s.1 x rest s.2 e) refl

-- [ token item ]
pub maybe_after : {A : Type 0} (t : Token) (p : Reader A) (R : Spelling A) (l : ℕ) → only t t ≡ Some tt → l ≤ strength t → Complete p R l → Complete (maybe (only t) (λ w. p)) (Maybe (After t R)) l
maybe_after t p R l back h c = maybe_complete (only t) (λ w. t) (λ w. p) (λ w. R) l (only_is t) (λ w. back) (λ w. h) (λ w. c)

pub maybe_before : {A : Type 0} (R : Spelling A) (l m : ℕ) → l ≤ m → Before R l m → Before (Maybe R) l m
maybe_before R l m h b us None rest s e = subst (λ (a : List Token). Ends m (a ++ rest)) (sym s) (tighter l m rest h e)
maybe_before R l m h b us (Some x) rest s e = b us x rest s e

pub flag_complete : (t : Token) (p : Reader (Unit {0})) (R : Spelling (Unit {0})) (l : ℕ) → only t t ≡ Some tt → l ≤ strength t → Complete p R l → Complete (flag t p) (Flag (After t R)) l
flag_complete t p R l back h c us false rest s e = ap (λ a. flag t p (a ++ rest)) s ∙ ap (flag_item (λ w. p) rest) (only_stops t l h rest e)
flag_complete t p R l back h c us true rest s e =
    ap (λ a. flag t p (a ++ rest)) s.3 ∙ ap (flag_item (λ w. p) (t ∷ (s.1 ++ rest))) (ap (first_word (s.1 ++ rest)) back) ∙ bind_is _ (c s.1 tt rest s.2 e) refl

-- [ token ], where it isn't there or is
pub flag_missing : (t : Token) (ts : List Token) → word_at (only t) ts ≡ None → flag t nothing ts ≡ Some (false, ts)
flag_missing t ts h = ap (flag_item (λ w. nothing) ts) h

pub flag_there : (t : Token) (ts : List Token) → only t t ≡ Some tt → flag t nothing (t ∷ ts) ≡ Some (true, ts)
flag_there t ts back = ap (flag_item (λ w. nothing) (t ∷ ts)) (ap (first_word ts) back)

pub flag_word_complete : (t : Token) (l : ℕ) → only t t ≡ Some tt → l ≤ strength t → Complete (flag t nothing) (Flag (Word t)) l
flag_word_complete t l back h us false rest s e = ap (λ a. flag t nothing (a ++ rest)) s ∙ flag_missing t rest (only_stops t l h rest e)
flag_word_complete t l back h us true rest s e = ap (λ a. flag t nothing (a ++ rest)) s ∙ flag_there t rest back

pub flag_before : (R : Spelling (Unit {0})) (l m : ℕ) → l ≤ m → Before R l m → Before (Flag R) l m
flag_before R l m h b us false rest s e = subst (λ (a : List Token). Ends m (a ++ rest)) (sym s) (tighter l m rest h e)
flag_before R l m h b us true rest s e = b us tt rest s e

pub words_before : (t : Token) (es : List Token) (l m : ℕ) → strength t < m → Before (Words (t ∷ es)) l m
words_before t es l m h us w rest s e = subst (λ (a : List Token). Ends m (a ++ rest)) (sym s) h

-- each of these tokens is read as itself
abbrev pub AllBack : List Token → Type 0
AllBack [] = Unit {0}
AllBack (t ∷ ts) = (only t t ≡ Some tt) × AllBack ts

words_reads : (es rest : List Token) → AllBack es → words_at es (es ++ rest) ≡ Some (tt, rest)
words_reads [] rest h = refl
words_reads (t ∷ es) rest h = bind_is _ (ap (first_word (es ++ rest)) h.0) (words_reads es rest h.1)

pub words_complete : (es : List Token) (l : ℕ) → AllBack es → Complete (words_at es) (Words es) l
words_complete es l h us w rest s e = ap (λ a. words_at es (a ++ rest)) s ∙ words_reads es rest h

pub or_none_complete : {A : Type 0} (t : Token) (p : Reader (List A)) (R : Spelling (List A)) (l : ℕ) → only t t ≡ Some tt → l ≤ strength t → Complete p R l → Complete (or_none t p) (OrNone (After t R)) l
or_none_complete t p R l back h c us [] rest s e = ap (λ a. or_none t p (a ++ rest)) s ∙ ap (list_item (λ w. p) rest) (only_stops t l h rest e)
or_none_complete t p R l back h c us (x ∷ xs) rest s e =
    ap (λ a. or_none t p (a ++ rest)) s.3 ∙ ap (list_item (λ w. p) (t ∷ (s.1 ++ rest))) (ap (first_word (s.1 ++ rest)) back) ∙ c s.1 (x ∷ xs) rest s.2 e

pub or_none_before : {A : Type 0} (R : Spelling (List A)) (l m : ℕ) → l ≤ m → Before R l m → Before (OrNone R) l m
or_none_before R l m h b us [] rest s e = subst (λ (a : List Token). Ends m (a ++ rest)) (sym s) (tighter l m rest h e)
or_none_before R l m h b us (x ∷ xs) rest s e = b us (x ∷ xs) rest s e

-- { word item }: items are read where what follows ends at level m, which all their words do; what follows them all ends at level l, which none of their words does
pub many_before : {A : Type 0} (R : Spelling A) (l m : ℕ) → l ≤ m → ((us : List Token) (x : A) (rest : List Token) → R us x → Ends m (us ++ rest)) → Before (Many R) l m
many_before R l m h b us [] rest s e = subst (λ (a : List Token). Ends m (a ++ rest)) (sym s) (tighter l m rest h e)
many_before R l m h b us (x ∷ xs) rest s e = subst (λ (a : List Token). Ends m a) (sym (ap (λ a. a ++ rest) s.4 ∙ append_assoc s.0 s.1 rest)) (b s.0 x (s.1 ++ rest) s.2)

pub many_led_before : {W A : Type 0} (token : W → Token) (S : W → Spelling A) (l m : ℕ) → l ≤ m → ((w : W) → strength (token w) < m) → Before (Many (Led token S)) l m
many_led_before token S l m h k = many_before (Led token S) l m h (λ us x rest s. subst (λ (a : List Token). Ends m (a ++ rest)) (sym s.3) (k s.0))

pub many_complete : {W A : Type 0} (word : Token → Option W) (token : W → Token) (item : W → Reader A) (S : W → Spelling A) (l m : ℕ) → IsWord word token → Back word token
    → l ≤ m → ((w : W) → l ≤ strength (token w)) → ((w : W) → strength (token w) < m) → ((w : W) → Complete (item w) (S w) m)
    → (n : ℕ) (us : List Token) (xs : List A) (rest : List Token) → Many (Led token S) us xs → Ends l rest → length us ≤ n → many word item n (us ++ rest) ≡ Some (xs, rest)
unfolding many
many_complete word token item S l m is back h low high c zero us [] rest s e len = ap (λ a. Some ([], a ++ rest)) s
many_complete word token item S l m is back h low high c (suc n) us [] rest s e len =
    ap (λ a. many word item (suc n) (a ++ rest)) s ∙ ap (many_item item (many word item n) rest) (stops word token l is low rest e)
many_complete word token item S l m is back h low high c zero us (x ∷ xs) rest (u1, u2, (w, vs, one, e2), more, e1) e len =
    let n : length us ≡ suc (length (vs ++ u2)) = ap length (e1 ∙ ap (λ a. a ++ u2) e2) in
    absurd (omega arith)
many_complete word token item S l m is back h low high c (suc n) us (x ∷ xs) rest (u1, u2, (w, vs, one, e2), more, e1) e len =
    let all : us ≡ token w ∷ (vs ++ u2) = e1 ∙ ap (λ a. a ++ u2) e2 in
    let size : length us ≡ suc (length (vs ++ u2)) = ap length all in
    let front : us ++ rest ≡ token w ∷ (vs ++ (u2 ++ rest)) = ap (λ a. a ++ rest) all ∙ ap (λ a. token w ∷ a) (append_assoc vs u2 rest) in
    ap (many word item (suc n)) front
    ∙ ap (many_item item (many word item n) (token w ∷ (vs ++ (u2 ++ rest)))) (word_reads word token back w (vs ++ (u2 ++ rest)))
    ∙ bind_is _ (c w vs x (u2 ++ rest) one (many_led_before token S l m h high u2 xs rest more e))
    (bind_is _ (many_complete word token item S l m is back h low high c n u2 xs rest more e (omega (arith, length-append vs u2))) refl)

pub repeated_complete : {W A : Type 0} (word : Token → Option W) (token : W → Token) (item : W → Reader A) (S : W → Spelling A) (l m : ℕ) → IsWord word token → Back word token
    → l ≤ m → ((w : W) → l ≤ strength (token w)) → ((w : W) → strength (token w) < m) → ((w : W) → Complete (item w) (S w) m) → Complete (repeated word item) (Many (Led token S)) l
repeated_complete word token item S l m is back h low high c us xs rest s e =
    many_complete word token item S l m is back h low high c (length (us ++ rest)) us xs rest s e (omega (arith, length-append us rest))

-- sequences
pub seq2_reads : {A B X : Type 0} (f : A → B → X) (p : Reader A) (q : Reader B) (R : Spelling A) (S : Spelling B) (l m : ℕ) → Complete p R m → Complete q S l → Before S l m
    → (us : List Token) (x : A) (y : B) (rest : List Token) → Seq2 R S us x y → Ends l rest → seq2 f p q (us ++ rest) ≡ Some (f x y, rest)
seq2_reads f p q R S l m c d b us x y rest (u1, u2, one, two, e) end =
    ap (seq2 f p q) (ap (λ a. a ++ rest) e ∙ append_assoc u1 u2 rest)
    ∙ bind_is _ (c u1 x (u2 ++ rest) one (b u2 y rest two end)) (bind_is _ (d u2 y rest two end) refl)

pub seq3_reads : {A B C X : Type 0} (f : A → B → C → X) (p : Reader A) (q : Reader B) (r : Reader C) (R : Spelling A) (S : Spelling B) (Q : Spelling C) (l m n : ℕ)
    → Complete p R n → Complete q S m → Complete r Q l → Before S m n → Before Q l m
    → (us : List Token) (x : A) (y : B) (z : C) (rest : List Token) → Seq3 R S Q us x y z → Ends l rest
    → seq3 f p q r (us ++ rest) ≡ Some (f x y z, rest)
seq3_reads f p q r R S Q l m n c d g b k us x y z rest (u1, u2, u3, one, two, three, e) end =
    let third = k u3 z rest three end in
    ap (seq3 f p q r)
    (ap (λ a. a ++ rest) e ∙ append_assoc u1 (u2 ++ u3) rest ∙ ap (λ a. u1 ++ a) (append_assoc u2 u3 rest))
    ∙ bind_is _ (c u1 x (u2 ++ (u3 ++ rest)) one (b u2 y (u3 ++ rest) two third))
    (bind_is _ (d u2 y (u3 ++ rest) two third) (bind_is _ (g u3 z rest three end) refl))

pub seq4_reads : {A B C D X : Type 0} (f : A → B → C → D → X) (p : Reader A) (q : Reader B) (r : Reader C) (o : Reader D) (R : Spelling A) (S : Spelling B) (Q : Spelling C) (P : Spelling D) (l m n k : ℕ)
    → Complete p R k → Complete q S n → Complete r Q m → Complete o P l → Before S n k → Before Q m n → Before P l m
    → (us : List Token) (x : A) (y : B) (z : C) (w : D) (rest : List Token) → Seq4 R S Q P us x y z w → Ends l rest
    → seq4 f p q r o (us ++ rest) ≡ Some (f x y z w, rest)
seq4_reads f p q r o R S Q P l m n k c d g h b2 b3 b4 us x y z w rest (u1, u2, u3, u4, one, two, three, four, e) end =
    let fourth = b4 u4 w rest four end in
    let third = b3 u3 z (u4 ++ rest) three fourth in
    ap (seq4 f p q r o)
    (ap (λ a. a ++ rest) e ∙ append_assoc u1 (u2 ++ (u3 ++ u4)) rest ∙ ap (λ a. u1 ++ a) (append_assoc u2 (u3 ++ u4) rest ∙ ap (λ a. u2 ++ a) (append_assoc u3 u4 rest)))
    ∙ bind_is _ (c u1 x (u2 ++ (u3 ++ (u4 ++ rest))) one (b2 u2 y (u3 ++ (u4 ++ rest)) two third))
    (bind_is _ (d u2 y (u3 ++ (u4 ++ rest)) two third) (bind_is _ (g u3 z (u4 ++ rest) three fourth) (bind_is _ (h u4 w rest four end) refl)))

pub series_complete : {W A : Type 0} (first : Reader A) (word : Token → Option W) (token : W → Token) (item : W → Reader A) (R : Spelling A) (S : W → Spelling A) (l m : ℕ)
    → Complete first R m → IsWord word token → Back word token → l ≤ m → ((w : W) → l ≤ strength (token w)) → ((w : W) → strength (token w) < m) → ((w : W) → Complete (item w) (S w) m)
    → Complete (series first word item) (Series R (Led token S)) l
series_complete first word token item R S l m c is back h low high d us [] rest s e = absurd s
series_complete first word token item R S l m c is back h low high d us (x ∷ xs) rest s e =
    seq2_reads (λ x xs. x ∷ xs) first (repeated word item) R (Many (Led token S)) l m c (repeated_complete word token item S l m is back h low high d) (many_led_before token S l m h high) us x xs rest s e

-- item { "," item }
pub listed_complete : {A : Type 0} (p : Reader A) (R : Spelling A) → Complete p R 9 → Complete (listed p) (Listed R) 8
listed_complete p R c = series_complete p (only COMMA) (λ w. COMMA) (λ w. p) R (λ w. R) 8 9 c (only_is COMMA) (λ w. refl) (omega arith) (λ w. omega arith) (λ w. omega arith) (λ w. c)

-- nothing goes on with a bracket, so what follows doesn't matter
pub bracketed_reads : {A : Type 0} (p : Reader A) (R : Spelling A) (m : ℕ) → 0 < m → Complete p R m → (us : List Token) (x : A) (rest : List Token) → Bracketed R us x → bracketed p (us ++ rest) ≡ Some (x, rest)
bracketed_reads p R m h c us x rest (u1, u2, u3, one, two, three, e) =
    ap (λ a. bracketed p (a ++ rest)) (e ∙ (λ i. one i ++ (u2 ++ three i)))
    ∙ bind_is (λ y. word_at (only CLOSE) y.1 >>= λ c. Some (y.0, c.1)) (ap p (append_assoc u2 (CLOSE ∷ []) rest) ∙ c u2 x (CLOSE ∷ rest) two h) refl

pub bracketed_complete : {A : Type 0} (p : Reader A) (R : Spelling A) (l m : ℕ) → 0 < m → Complete p R m → Complete (bracketed p) (Bracketed R) l
bracketed_complete p R l m h c us x rest s end = bracketed_reads p R m h c us x rest s

pub chain_complete : {W A X : Type 0} (node : A → List X → A) (first : Reader A) (word : Token → Option W) (token : W → Token) (item : W → Reader X) (R : Spelling A) (S : W → Spelling X) (l m : ℕ)
    → Complete first R m → IsWord word token → Back word token → l ≤ m → ((w : W) → l ≤ strength (token w)) → ((w : W) → strength (token w) < m) → ((w : W) → Complete (item w) (S w) m)
    → Complete (chain node first word item) (Chain node R (Led token S)) l
chain_complete node first word token item R S l m c is back h low high d us u rest (x, xs, s, made) e =
    seq2_reads node first (repeated word item) R (Many (Led token S)) l m c (repeated_complete word token item S l m is back h low high d) (many_led_before token S l m h high) us x xs rest s e
    ∙ ap (λ a. Some (a, rest)) (sym made)
