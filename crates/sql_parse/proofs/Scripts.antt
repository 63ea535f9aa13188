-- The loop over a text's statements, and what a text is read as.
use Rattle.std.proofs.Common.{◌≡◌, ◌↔◌, ℕ, zero, suc, ◌+◌, ◌<◌, ◌≤◌, true, false, Bool, List, [], ◌∷◌, ◌++◌, length, Option, Some, None, Result, Ok, Err, IfOk, IfErr, IsErrAnd, refl, sym, ap, ◌∙◌, subst, append_assoc, append-nil, arith}
use Rattle.std.specs.Prelude.{option_map}
use Rattle.ct_value.specs.declared.codes.ScriptCode.{ScriptCode}
use Rattle.sql_tokens.specs.declared.token.Symbol.TheVariants.{Semicolon}
use Rattle.sql_tokens.specs.declared.token.Token.{Token}
use Rattle.sql_tokens.specs.declared.token.Token.TheVariants.{Symbol}
use Rattle.sql_syntax.specs.declared.statement.Script.{Script}
use Rattle.sql_syntax.specs.Tree.{Statement}
use Rattle.sql_syntax.specs.Tree as t
use Rattle.sql_tokens.specs.Tokens.{Front, nothing, bad, gap, token, read_on, read_fronts, tokens_of, front}
use Rattle.sql_tokens.specs.Statements.{first_statement}
use Rattle.sql_tokens.proofs.laws.Pieces.{cut, pieces-cut}
use Rattle.sql_syntax.specs.View.{script_view, statements_view}
use Rattle.sql_grammar.specs.ReadsScripts.{Answer, answered, refused, and_others, read_ended, read_last, read_pieces, read_from, read_text}
use Rattle.sql_grammar.specs.Scripts.{IsScript, TextRefusal}
use Rattle.sql_parse.specs.declared.script.ParseFault.{ParseFault}
use Rattle.sql_parse.specs.declared.script.ParseFault.TheVariants.{Refused, Memory}
use Rattle.sql_parse.specs.Faults.{IsRefusal, IfRefused}

-- an answer behind these statements
abbrev pub following : List Statement → Answer → Answer
following xs (answered ys) = answered (xs ++ ys)
following xs (refused code number) = refused code number

following-nil : (a : Answer) → a ≡ following [] a
following-nil (answered ys) = refl
following-nil (refused code number) = refl

following-and : (xs : List Statement) (x : Statement) (a : Answer) → following xs (and_others x a) ≡ following (xs ++ x ∷ []) a
following-and xs x (answered ys) = ap answered (sym (append_assoc xs (x ∷ []) ys))
following-and xs x (refused code number) = refl

-- so many statements were read, and the rest is still to be read
pub record ReadSoFar (is_whole : Bool) (start : List Token) (xs : List Statement) (number : ℕ) (rest : List Token) : Type 0 where
  pub few : number + length rest ≤ 1 + length start
  pub counted : number ≡ suc (length xs)
  pub same : read_from is_whole 1 start ≡ following xs (read_from is_whole number rest)

length-more : {A : Type 0} (xs : List A) (x : A) → length (xs ++ x ∷ []) ≡ suc (length xs)
length-more [] x = refl
length-more (y ∷ xs) x = ap suc (length-more xs x)

pub so_far_start : (is_whole : Bool) (start : List Token) (xs : List Statement) (number : ℕ) → xs ≡ [] → number ≡ 1 → ReadSoFar is_whole start xs number start
so_far_start is_whole start xs number e n = record {
  few = omega arith;
  counted = n ∙ ap (λ (l : List Statement). suc (length l)) (sym e);
  same = following-nil _ ∙ ap (λ a. following a (read_from is_whole 1 start)) (sym e) ∙ ap (λ a. following xs (read_from is_whole a start)) (sym n);
}

-- a token before the first of two lists
abbrev in_front : Token → List Token × List Token → List Token × List Token
in_front t r = (t ∷ r.0, r.1)

size_behind : Option (List Token × List Token) → ℕ
size_behind None = 0
size_behind (Some r) = length r.1

-- what stands behind the first `;` is shorter
pub first_shorter : (ts us vs : List Token) → first_statement ts ≡ Some (us, vs) → length vs < length ts
unfolding size_behind
first_shorter [] us vs e = absurd (cc)
first_shorter (Symbol Semicolon ∷ ts) us vs e = let size : length ts ≡ length vs = ap size_behind e in omega arith
first_shorter (t ∷ ts) us vs e = go (first_statement ts) (λ us' vs' k. first_shorter ts us' vs' k) e
  where
    go : (o : Option (List Token × List Token)) → ((us' vs' : List Token) → o ≡ Some (us', vs') → length vs' < length ts) → option_map (in_front t) o ≡ Some (us, vs) → length vs < length (t ∷ ts)
    go None ih k = absurd (cc)
    go (Some r) ih k = let size : length r.1 ≡ length vs = ap size_behind k in let less = ih r.0 r.1 refl in omega (arith, less)

read_closed : (is_whole : Bool) (number : ℕ) (ts us vs : List Token) → first_statement ts ≡ Some (us, vs) → read_from is_whole number ts ≡ read_ended number us (read_from is_whole (suc number) vs)
unfolding read_from read_pieces
read_closed true number ts us vs e = ap (read_pieces number) (pieces-cut true ts) ∙ ap (λ o. read_pieces number (cut true ts o)) e
read_closed false number ts us vs e = ap (read_pieces number) (pieces-cut false ts) ∙ ap (λ o. read_pieces number (cut false ts o)) e

read_open : (is_whole : Bool) (number : ℕ) (ts : List Token) → first_statement ts ≡ None → read_from is_whole number ts ≡ read_last is_whole number ts
unfolding read_from read_pieces read_last
read_open true number [] e = refl
read_open true number (t ∷ ts) e = ap (read_pieces number) (pieces-cut true (t ∷ ts)) ∙ ap (λ o. read_pieces number (cut true (t ∷ ts) o)) e
read_open false number ts e = ap (read_pieces number) (pieces-cut false ts) ∙ ap (λ o. read_pieces number (cut false ts o)) e

one_more : (n : ℕ) → suc n + 1 ≡ suc (suc n)
one_more n = omega arith

pub so_far_few : (is_whole : Bool) (start ts : List Token) (xs : List Statement) (number : ℕ) → ReadSoFar is_whole start xs number ts → length xs ≤ length start
so_far_few is_whole start ts xs number from = omega (arith, from.few, from.counted)

pub so_far_turn : (is_whole : Bool) (start ts us vs : List Token) (xs more : List Statement) (x : Statement) (number next : ℕ) → ReadSoFar is_whole start xs number ts → first_statement ts ≡ Some (us, vs)
    → ((others : Answer) → read_ended number us others ≡ and_others x others) → more ≡ xs ++ x ∷ [] → next ≡ number + 1 → ReadSoFar is_whole start more next vs
so_far_turn is_whole start ts us vs xs more x number next from cuts one e n =
    let less = first_shorter ts us vs cuts in
    let up : suc number ≡ next = omega arith in
    record {
      few = omega (arith, from.few, less);
      counted = n ∙ ap (λ k. k + 1) from.counted ∙ one_more (length xs) ∙ ap suc (sym (ap length e ∙ length-more xs x));
      same = from.same ∙ ap (following xs) (read_closed is_whole number ts us vs cuts ∙ one (read_from is_whole (suc number) vs)) ∙ following-and xs x (read_from is_whole (suc number) vs)
          ∙ ap (λ a. following a (read_from is_whole (suc number) vs)) (sym e) ∙ ap (λ a. following more (read_from is_whole a vs)) up;
    }

pub so_far_end : (is_whole : Bool) (start ts : List Token) (xs : List Statement) (number : ℕ) → ReadSoFar is_whole start xs number ts → first_statement ts ≡ None
    → read_last is_whole number ts ≡ answered [] → read_from is_whole 1 start ≡ answered xs
so_far_end is_whole start ts xs number from stops ends =
    from.same ∙ ap (following xs) (read_open is_whole number ts stops ∙ ends) ∙ ap answered (append-nil xs)

pub so_far_refused : (is_whole : Bool) (start ts us vs : List Token) (xs : List Statement) (number : ℕ) (fault : ParseFault) → ReadSoFar is_whole start xs number ts → first_statement ts ≡ Some (us, vs)
    → ((others : Answer) → IsRefusal fault (read_ended number us others)) → IsRefusal fault (read_from is_whole 1 start)
so_far_refused is_whole start ts us vs xs number Memory from cuts h = tt
so_far_refused is_whole start ts us vs xs number (Refused code n) from cuts h =
    from.same ∙ ap (following xs) (read_closed is_whole number ts us vs cuts ∙ h (read_from is_whole (suc number) vs))

pub so_far_last : (is_whole : Bool) (start ts : List Token) (xs : List Statement) (number : ℕ) (fault : ParseFault) → ReadSoFar is_whole start xs number ts → first_statement ts ≡ None
    → IsRefusal fault (read_last is_whole number ts) → IsRefusal fault (read_from is_whole 1 start)
so_far_last is_whole start ts xs number Memory from stops h = tt
so_far_last is_whole start ts xs number (Refused code n) from stops h = from.same ∙ ap (following xs) (read_open is_whole number ts stops ∙ h)

-- `?` passes a fault up as it is
pub passed_up : {A E : Type 0} (r : Result A E) (e : E) (P : E → Type 0) → IsErrAnd r (λ y. y ≡ e) → P e → IfErr r P
passed_up (Ok x) e P is p = tt
passed_up (Err y) e P is p = subst P (sym is) p

-- there are no more tokens than bytes, and one
read_few : (n : ℕ) (text : List ℕ) → length (read_fronts n text).tokens ≤ n
unfolding read_fronts
read_few zero text = omega arith
read_few (suc n) text = go (λ rest. read_few n rest) (front text)
  where
    go : ((rest : List ℕ) → length (read_fronts n rest).tokens ≤ n) → (f : Front) → length (read_on (read_fronts n) f).tokens ≤ suc n
    go ih nothing = omega arith
    go ih bad = omega arith
    go ih (gap rest) = let few = ih rest in omega (arith, few)
    go ih (token t rest) = let few = ih rest in omega (arith, few)

pub few_tokens : (text : List ℕ) → length (tokens_of text).tokens ≤ suc (length text)
few_tokens text = read_few (suc (length text)) text

-- ---- what a text is read as is what it is

-- the laws of a text that is read
pub record Laws (text : List ℕ) : Type 0 where
  pub script : (x : t.Script) → (read_text text ≡ answered x.statements) ↔ IsScript text x
  pub refusal : (code : ScriptCode) (number : ℕ) → (read_text text ≡ refused code number) ↔ TextRefusal text code number

pub ok_is : (text : List ℕ) → Laws text → (r : Result Script ParseFault) → IfOk r (λ s. read_text text ≡ answered (statements_view s.statements)) → IfOk r (λ s. IsScript text (script_view s))
ok_is text laws (Ok s) e = (laws.script (script_view s)).0 e
ok_is text laws (Err fault) e = tt

pub refused_is : (text : List ℕ) → Laws text → (r : Result Script ParseFault) → IfErr r (λ fault. IsRefusal fault (read_text text)) → IfErr r (λ fault. IfRefused fault (λ code number. TextRefusal text code number))
refused_is text laws (Ok s) e = tt
refused_is text laws (Err Memory) e = tt
refused_is text laws (Err (Refused code number)) e = (laws.refusal code number).0 e

pub script_is : (text : List ℕ) → Laws text → (r : Result Script ParseFault) (x : t.Script) → IfOk r (λ s. read_text text ≡ answered (statements_view s.statements)) → IfErr r (λ fault. IsRefusal fault (read_text text))
    → IsScript text x → IfOk r (λ s. script_view s ≡ x) × IfErr r (λ fault. fault ≡ Memory)
script_is text laws (Ok s) x a b h =
    let both : answered (statements_view s.statements) ≡ answered x.statements = sym a ∙ (laws.script x).1 h in
    let same : statements_view s.statements ≡ x.statements = cc in
    (ap (λ (xs : List Statement). record { statements = xs }) same, tt)
script_is text laws (Err Memory) x a b h = (tt, refl)
script_is text laws (Err (Refused code number)) x a b h = let clash : refused code number ≡ answered x.statements = sym b ∙ (laws.script x).1 h in absurd (cc)

pub refusal_is : (text : List ℕ) → Laws text → (r : Result Script ParseFault) (code : ScriptCode) (number : ℕ) → IfOk r (λ s. read_text text ≡ answered (statements_view s.statements)) → IfErr r (λ fault. IsRefusal fault (read_text text))
    → TextRefusal text code number → IfOk r (λ s. ⊥) × IfErr r (λ fault. IfRefused fault (λ c n. (c ≡ code) × (n ≡ number)))
refusal_is text laws (Ok s) code number a b h = let clash : answered (statements_view s.statements) ≡ refused code number = sym a ∙ (laws.refusal code number).1 h in absurd (cc)
refusal_is text laws (Err Memory) code number a b h = (tt, tt)
refusal_is text laws (Err (Refused c n)) code number a b h =
    let both : refused c n ≡ refused code number = sym b ∙ (laws.refusal code number).1 h in
    let same : c ≡ code = cc in let as_many : n ≡ number = cc in
    (tt, (same, as_many))
