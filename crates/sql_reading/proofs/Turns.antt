-- A loop that reads { word item } as often as its number says, turn by turn.
use Rattle.std.proofs.Common.{◌≡◌, ℕ, suc, List, [], ◌∷◌, ◌++◌, Option, Some, None, refl, sym, ap, ◌∙◌, append_assoc, append-nil}
use Rattle.sql_tokens.specs.declared.token.Token.{Token}
use Rattle.sql_reading.specs.declared.words.Stop.{Stop}
use Rattle.sql_reading.specs.declared.words.Stop.TheVariants as stops
use Rattle.sql_grammar.specs.Reading.{Reader, ◌>>=◌, behind, many, many_item, word_at}
use Rattle.sql_grammar.proofs.laws.Steps.{bind_is, fail_bind}
use Rattle.sql_reading.specs.Gives.{Stops}

next_read : {A : Type 0} (xs : List A) (x : A) (r : Option (List A × List Token)) → behind xs (r >>= λ ys. Some (x ∷ ys.0, ys.1)) ≡ behind (xs ++ x ∷ []) r
next_read xs x None = refl
next_read xs x (Some ys) = ap (λ a. Some (a, ys.1)) (sym (append_assoc xs (x ∷ []) ys.0))

none_read : {A : Type 0} (xs : List A) (r : Option (List A × List Token)) → r ≡ None → behind xs r ≡ None
none_read xs r e = ap (behind xs) e

-- behind one more
pub goes_on : {W A : Type 0} (word : Token → Option W) (item : W → Reader A) (left n : ℕ) (ts mid rest : List Token) (w : W) (x : A) (xs ys : List A) (total : Option (List A × List Token))
    → behind xs (many word item left ts) ≡ total → left ≡ suc n → word_at word ts ≡ Some (w, mid) → item w mid ≡ Some (x, rest) → ys ≡ xs ++ x ∷ [] → behind ys (many word item n rest) ≡ total
unfolding many
goes_on word item left n ts mid rest w x xs ys total so_far e begin one h =
    let now : behind xs (many word item left ts) ≡ behind (xs ++ x ∷ []) (many word item n rest) =
    ap (λ m. behind xs (many word item m ts)) e ∙ ap (λ o. behind xs (many_item item (many word item n) ts o)) begin ∙ ap (behind xs) (bind_is _ one refl) ∙ next_read xs x (many word item n rest) in
    ap (λ a. behind a (many word item n rest)) h ∙ sym now ∙ so_far

-- at the number's end
pub is_done : {W A : Type 0} (word : Token → Option W) (item : W → Reader A) (left : ℕ) (ts : List Token) (xs : List A) (total : Option (List A × List Token))
    → behind xs (many word item left ts) ≡ total → left ≡ 0 → total ≡ Some (xs, ts)
unfolding many
is_done word item left ts xs total so_far e = sym so_far ∙ ap (λ m. behind xs (many word item m ts)) e ∙ ap (λ a. Some (a, ts)) (append-nil xs)

-- where no word follows
pub stops_there : {W A : Type 0} (word : Token → Option W) (item : W → Reader A) (left n : ℕ) (ts : List Token) (xs : List A) (total : Option (List A × List Token))
    → behind xs (many word item left ts) ≡ total → left ≡ suc n → word_at word ts ≡ None → total ≡ Some (xs, ts)
unfolding many
stops_there word item left n ts xs total so_far e stop =
    sym so_far ∙ ap (λ m. behind xs (many word item m ts)) e ∙ ap (λ o. behind xs (many_item item (many word item n) ts o)) stop ∙ ap (λ a. Some (a, ts)) (append-nil xs)

-- where an item fails
pub fails : {W A : Type 0} (e : Stop) (word : Token → Option W) (item : W → Reader A) (left n : ℕ) (ts mid : List Token) (w : W) (xs : List A) (total : Option (List A × List Token))
    → behind xs (many word item left ts) ≡ total → left ≡ suc n → word_at word ts ≡ Some (w, mid) → Stops e (item w mid) → Stops e total
unfolding many
fails stops.Memory word item left n ts mid w xs total so_far h begin none = tt
fails stops.Refused word item left n ts mid w xs total so_far h begin none =
    sym so_far ∙ ap (λ m. behind xs (many word item m ts)) h ∙ ap (λ o. behind xs (many_item item (many word item n) ts o)) begin ∙ none_read xs _ (fail_bind _ _ none)
