-- What follows from what a reading answers.
use Rattle.std.proofs.Common.{◌≡◌, List, [], ◌∷◌, Option, Some, None, refl, sym, ap, ◌∙◌}
use Rattle.sql_tokens.specs.declared.token.Token.{Token}
use Rattle.sql_grammar.specs.Words.{AND, OR, only}
use Rattle.sql_grammar.specs.Nodes.{and_node, and_of, or_node, or_of}
use Rattle.sql_grammar.specs.Reading.{Reader, ◌>>=◌, behind, made, repeated, series, chain}
use Rattle.sql_grammar.specs.Reads.{Readers, neg_at, conj_at, expr_at}

pub bind_is : {A B : Type 0} {r : Option A} (f : A → Option B) {x : A} {z : Option B} → r ≡ Some x → f x ≡ z → (r >>= f) ≡ z
bind_is f e h = ap (λ o. o >>= f) e ∙ h

-- what follows nothing is nothing
pub fail_bind : {A B : Type 0} (o : Option A) (f : A → Option B) → o ≡ None → (o >>= f) ≡ None
fail_bind None f e = refl
fail_bind (Some x) f e = absurd (cc)

-- behind nothing, all is as it is
pub behind_nothing : {A : Type 0} (r : Option (List A × List Token)) → behind [] r ≡ r
behind_nothing None = refl
behind_nothing (Some x) = refl

one_before : {A : Type 0} (x : A) (r : Option (List A × List Token)) → behind (x ∷ []) r ≡ (r >>= λ xs. Some (x ∷ xs.0, xs.1))
one_before x None = refl
one_before x (Some xs) = refl

-- a list of one item, with those that follow it
pub series_is : {W A : Type 0} (p : Reader A) (word : Token → Option W) (item : W → Reader A) (x : A) (ts rest : List Token)
    → p ts ≡ Some (x, rest) → behind (x ∷ []) (repeated word item rest) ≡ series p word item ts
series_is p word item x ts rest e = one_before x (repeated word item rest) ∙ sym (bind_is _ e refl)

-- a chain is made of its list of operands
chain_series : {W A : Type 0} (node : A → List A → A) (of : List A → A) (p : Reader A) (word : Token → Option W) (item : W → Reader A)
    → ((x : A) (xs : List A) → of (x ∷ xs) ≡ node x xs) → (ts : List Token) → chain node p word item ts ≡ made of (series p word item) ts
chain_series {W} {A} node of p word item same ts = go (p ts)
  where
    others : (x : A) (r : Option (List A × List Token))
        → ◌>>=◌ {B = A × List Token} r (λ xs. Some (node x xs.0, xs.1)) ≡ ◌>>=◌ {B = A × List Token} (◌>>=◌ {B = List A × List Token} r (λ xs. Some (x ∷ xs.0, xs.1))) (λ ys. Some (of ys.0, ys.1))
    others x None = refl
    others x (Some xs) = ap (λ y. Some (y, xs.1)) (sym (same x xs.0))

    go : (o : Option (A × List Token))
        → ◌>>=◌ {B = A × List Token} o (λ x. ◌>>=◌ {B = A × List Token} (repeated word item x.1) (λ xs. Some (node x.0 xs.0, xs.1)))
        ≡ ◌>>=◌ {B = A × List Token} (◌>>=◌ {B = List A × List Token} o (λ x. ◌>>=◌ {B = List A × List Token} (repeated word item x.1) (λ xs. Some (x.0 ∷ xs.0, xs.1)))) (λ ys. Some (of ys.0, ys.1))
    go None = refl
    go (Some x) = others x.0 (repeated word item x.1)

pub conj_series : (p : Readers) (ts : List Token) → conj_at p ts ≡ made and_of (series (neg_at p) (only AND) (λ w. neg_at p)) ts
unfolding conj_at
conj_series p ts = chain_series and_node and_of (neg_at p) (only AND) (λ w. neg_at p) (λ u us. refl) ts

pub expr_series : (p : Readers) (ts : List Token) → expr_at p ts ≡ made or_of (series (conj_at p) (only OR) (λ w. conj_at p)) ts
unfolding expr_at
expr_series p ts = chain_series or_node or_of (conj_at p) (only OR) (λ w. conj_at p) (λ u us. refl) ts
