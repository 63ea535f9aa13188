-- Scripts: the reading of a text answers its statements, or its first text refusal, and nothing else is either.
use Rattle.std.proofs.Common.{◌≡◌, ℕ, suc, ◌+◌, Bool, true, false, List, [], ◌∷◌, ◌++◌, length, Option, Some, None, refl, sym, ap, ◌∙◌, subst, arith}
use Rattle.ct_value.specs.declared.codes.ScriptCode.{ScriptCode}
use Rattle.ct_value.specs.declared.codes.ScriptCode.TheVariants.{BadToken, TooDeep, Syntax}
use Rattle.sql_tokens.specs.Statements.{Piece, ended, unended, spoiled, statements_of}
use Rattle.sql_tokens.specs.Depth.{too_deep}
use Rattle.sql_syntax.specs.Tree.{Statement, Script}
use Rattle.sql_grammar.specs.Reads.{parse}
use Rattle.sql_grammar.specs.ReadsScripts.{Answer, answered, refused, and_others, deep_or, read_one, read_ended, read_pieces, read_from, read_text}
use Rattle.sql_grammar.specs.Scripts.{AreStatements, IsScript, IsRefused, RefusedFrom, TextRefusal}
use Rattle.sql_grammar.proofs.Grammar.{parse_spelled, spelled_parse, no_statement, unread_statement}

pieces_are : (n : ℕ) (ps : List Piece) (xs : List Statement) → read_pieces n ps ≡ answered xs → AreStatements ps xs
unfolding read_pieces read_ended
pieces_are n [] [] e = tt
pieces_are n [] (x ∷ xs) e = absurd (cc)
pieces_are n (spoiled ∷ ps) xs e = absurd (cc)
pieces_are n (unended ts ∷ ps) xs e = go (too_deep ts) e
  where
    go : (b : Bool) → deep_or b n (refused Syntax n) ≡ answered xs → AreStatements (unended ts ∷ ps) xs
    go true k = absurd (cc)
    go false k = absurd (cc)
pieces_are n (ended ts ∷ ps) xs e = deep (λ ys k. pieces_are (suc n) ps ys k) (too_deep ts) refl e
  where
    others : ((ys : List Statement) → read_pieces (suc n) ps ≡ answered ys → AreStatements ps ys) → too_deep ts ≡ false → (x : Statement) → parse ts ≡ Some x
        → (a : Answer) → read_pieces (suc n) ps ≡ a → and_others x a ≡ answered xs → AreStatements (ended ts ∷ ps) xs
    others ih d x p (refused code m) r k = absurd (cc)
    others ih d x p (answered ys) r k =
        let is : x ∷ ys ≡ xs = cc in
        subst (λ (a : List Statement). AreStatements (ended ts ∷ ps) a) is ((d, spelled_parse ts x p), ih ys r)

    one : ((ys : List Statement) → read_pieces (suc n) ps ≡ answered ys → AreStatements ps ys) → too_deep ts ≡ false → (o : Option Statement) → parse ts ≡ o
        → read_one n o (read_pieces (suc n) ps) ≡ answered xs → AreStatements (ended ts ∷ ps) xs
    one ih d None p k = absurd (cc)
    one ih d (Some x) p k = others ih d x p (read_pieces (suc n) ps) refl k

    deep : ((ys : List Statement) → read_pieces (suc n) ps ≡ answered ys → AreStatements ps ys) → (b : Bool) → too_deep ts ≡ b
        → deep_or b n (read_one n (parse ts) (read_pieces (suc n) ps)) ≡ answered xs → AreStatements (ended ts ∷ ps) xs
    deep ih true d k = absurd (cc)
    deep ih false d k = one ih d (parse ts) refl k

are_read : (n : ℕ) (ps : List Piece) (xs : List Statement) → AreStatements ps xs → read_pieces n ps ≡ answered xs
unfolding read_pieces read_ended
are_read n [] [] h = refl
are_read n [] (x ∷ xs) h = absurd h
are_read n (p ∷ ps) [] h = absurd h
are_read n (spoiled ∷ ps) (x ∷ xs) h = absurd h.0
are_read n (unended ts ∷ ps) (x ∷ xs) h = absurd h.0
are_read n (ended ts ∷ ps) (x ∷ xs) h =
    ap (λ b. deep_or b n (read_one n (parse ts) (read_pieces (suc n) ps))) h.0.0 ∙ ap (λ o. read_one n o (read_pieces (suc n) ps)) (parse_spelled ts x h.0.1)
    ∙ ap (and_others x) (are_read (suc n) ps xs h.1)

-- a piece that is refused, before others
here : (n : ℕ) (piece : Piece) (ps : List Piece) (code : ScriptCode) → IsRefused code piece → RefusedFrom n (piece ∷ ps) code n
here n piece ps code h = record { before = []; piece = piece; behind = ps; statements = []; is = refl; good = tt; counted = omega arith; refuses = h }

refused_are : (n : ℕ) (ps : List Piece) (code : ScriptCode) (m : ℕ) → read_pieces n ps ≡ refused code m → RefusedFrom n ps code m
unfolding read_pieces read_ended
refused_are n [] code m e = absurd (cc)
refused_are n (spoiled ∷ ps) code m e =
    let c : BadToken ≡ code = cc in let k : n ≡ m = cc in
    subst (λ (a : ScriptCode). RefusedFrom n (spoiled ∷ ps) a m) c (subst (λ (a : ℕ). RefusedFrom n (spoiled ∷ ps) BadToken a) k (here n spoiled ps BadToken tt))
refused_are n (unended ts ∷ ps) code m e = go (too_deep ts) refl e
  where
    go : (b : Bool) → too_deep ts ≡ b → deep_or b n (refused Syntax n) ≡ refused code m → RefusedFrom n (unended ts ∷ ps) code m
    go true d k =
        let c : TooDeep ≡ code = cc in let l : n ≡ m = cc in
        subst (λ (a : ScriptCode). RefusedFrom n (unended ts ∷ ps) a m) c (subst (λ (a : ℕ). RefusedFrom n (unended ts ∷ ps) TooDeep a) l (here n (unended ts) ps TooDeep d))
    go false d k =
        let c : Syntax ≡ code = cc in let l : n ≡ m = cc in
        subst (λ (a : ScriptCode). RefusedFrom n (unended ts ∷ ps) a m) c (subst (λ (a : ℕ). RefusedFrom n (unended ts ∷ ps) Syntax a) l (here n (unended ts) ps Syntax d))
refused_are n (ended ts ∷ ps) code m e = deep (λ k. refused_are (suc n) ps code m k) (too_deep ts) refl e
  where
    others : (read_pieces (suc n) ps ≡ refused code m → RefusedFrom (suc n) ps code m) → too_deep ts ≡ false → (x : Statement) → parse ts ≡ Some x
        → (a : Answer) → read_pieces (suc n) ps ≡ a → and_others x a ≡ refused code m → RefusedFrom n (ended ts ∷ ps) code m
    others ih d x p (answered ys) r k = absurd (cc)
    others ih d x p (refused c l) r k =
        let later = ih (r ∙ k) in
        record {
          before = ended ts ∷ later.before;
          piece = later.piece;
          behind = later.behind;
          statements = x ∷ later.statements;
          is = ap (λ a. ended ts ∷ a) later.is;
          good = ((d, spelled_parse ts x p), later.good);
          counted = omega (arith, later.counted);
          refuses = later.refuses;
        }

    one : (read_pieces (suc n) ps ≡ refused code m → RefusedFrom (suc n) ps code m) → too_deep ts ≡ false → (o : Option Statement) → parse ts ≡ o
        → read_one n o (read_pieces (suc n) ps) ≡ refused code m → RefusedFrom n (ended ts ∷ ps) code m
    one ih d None p k =
        let c : Syntax ≡ code = cc in let l : n ≡ m = cc in
        subst (λ (a : ScriptCode). RefusedFrom n (ended ts ∷ ps) a m) c (subst (λ (a : ℕ). RefusedFrom n (ended ts ∷ ps) Syntax a) l (here n (ended ts) ps Syntax (d, no_statement ts p)))
    one ih d (Some x) p k = others ih d x p (read_pieces (suc n) ps) refl k

    deep : (read_pieces (suc n) ps ≡ refused code m → RefusedFrom (suc n) ps code m) → (b : Bool) → too_deep ts ≡ b
        → deep_or b n (read_one n (parse ts) (read_pieces (suc n) ps)) ≡ refused code m → RefusedFrom n (ended ts ∷ ps) code m
    deep ih true d k =
        let c : TooDeep ≡ code = cc in let l : n ≡ m = cc in
        subst (λ (a : ScriptCode). RefusedFrom n (ended ts ∷ ps) a m) c (subst (λ (a : ℕ). RefusedFrom n (ended ts ∷ ps) TooDeep a) l (here n (ended ts) ps TooDeep d))
    deep ih false d k = one ih d (parse ts) refl k

here_read : (n : ℕ) (code : ScriptCode) (piece : Piece) (ps : List Piece) → IsRefused code piece → read_pieces n (piece ∷ ps) ≡ refused code n
unfolding read_pieces read_ended
here_read n BadToken spoiled ps h = refl
here_read n BadToken (ended ts) ps h = absurd h
here_read n BadToken (unended ts) ps h = absurd h
here_read n TooDeep spoiled ps h = absurd h
here_read n TooDeep (ended ts) ps h = ap (λ b. deep_or b n (read_one n (parse ts) (read_pieces (suc n) ps))) h
here_read n TooDeep (unended ts) ps h = ap (λ b. deep_or b n (refused Syntax n)) h
here_read n Syntax spoiled ps h = absurd h
here_read n Syntax (ended ts) ps h = ap (λ b. deep_or b n (read_one n (parse ts) (read_pieces (suc n) ps))) h.0 ∙ ap (λ o. read_one n o (read_pieces (suc n) ps)) (unread_statement ts h.1)
here_read n Syntax (unended ts) ps h = ap (λ b. deep_or b n (refused Syntax n)) h
here_read n _ piece ps h = absurd h

refused_behind : (n : ℕ) (before : List Piece) (piece : Piece) (ps : List Piece) (xs : List Statement) (code : ScriptCode) → AreStatements before xs → IsRefused code piece
    → read_pieces n (before ++ piece ∷ ps) ≡ refused code (n + length xs)
unfolding read_pieces read_ended
refused_behind n [] piece ps [] code g h = here_read n code piece ps h ∙ ap (refused code) (omega arith)
refused_behind n [] piece ps (x ∷ xs) code g h = absurd g
refused_behind n (p ∷ before) piece ps [] code g h = absurd g
refused_behind n (spoiled ∷ before) piece ps (x ∷ xs) code g h = absurd g.0
refused_behind n (unended ts ∷ before) piece ps (x ∷ xs) code g h = absurd g.0
refused_behind n (ended ts ∷ before) piece ps (x ∷ xs) code g h =
    ap (λ b. deep_or b n (read_one n (parse ts) (read_pieces (suc n) (before ++ piece ∷ ps)))) g.0.0 ∙ ap (λ o. read_one n o (read_pieces (suc n) (before ++ piece ∷ ps))) (parse_spelled ts x g.0.1)
    ∙ ap (and_others x) (refused_behind (suc n) before piece ps xs code g.1 h) ∙ ap (refused code) (omega arith)

pub is_read : (text : List ℕ) (x : Script) → IsScript text x → read_text text ≡ answered x.statements
unfolding read_text read_from
is_read text x h = are_read 1 (statements_of text) x.statements h

pub script_read : (text : List ℕ) (x : Script) → read_text text ≡ answered x.statements → IsScript text x
unfolding read_text read_from
script_read text x e = pieces_are 1 (statements_of text) x.statements e

pub read_refusal : (text : List ℕ) (code : ScriptCode) (number : ℕ) → read_text text ≡ refused code number → TextRefusal text code number
unfolding read_text read_from
read_refusal text code number e = refused_are 1 (statements_of text) code number e

pub refusal_read : (text : List ℕ) (code : ScriptCode) (number : ℕ) → TextRefusal text code number → read_text text ≡ refused code number
unfolding read_text read_from
refusal_read text code number r =
    ap (read_pieces 1) r.is ∙ refused_behind 1 r.before r.piece r.behind r.statements code r.good r.refuses ∙ ap (refused code) (sym r.counted)

-- A text is at most one script.
pub one_script : (text : List ℕ) (x y : Script) → IsScript text x → IsScript text y → x ≡ y
one_script text x y a b =
    let e : answered x.statements ≡ answered y.statements = sym (is_read text x a) ∙ is_read text y b in
    let same : x.statements ≡ y.statements = cc in
    ap (λ (xs : List Statement). record { statements = xs }) same

-- A text that is refused is so in one way.
pub one_refusal : (text : List ℕ) (c d : ScriptCode) (m n : ℕ) → TextRefusal text c m → TextRefusal text d n → (c ≡ d) × (m ≡ n)
one_refusal text c d m n a b =
    let e : refused c m ≡ refused d n = sym (refusal_read text c m a) ∙ refusal_read text d n b in
    let same : c ≡ d = cc in let as_many : m ≡ n = cc in
    (same, as_many)

-- A script isn't refused.
pub not_both : (text : List ℕ) (x : Script) (code : ScriptCode) (number : ℕ) → IsScript text x → TextRefusal text code number → ⊥
not_both text x code number a b = let clash : answered x.statements ≡ refused code number = sym (is_read text x a) ∙ refusal_read text code number b in absurd (cc)
