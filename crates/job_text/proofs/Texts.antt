-- The texts of values, column by column.
use Rattle.std.proofs.Common.{◌≡◌, ◌<◌, ◌+◌, ◌∙◌, ℕ, zero, suc, Bool, true, false, cond, List, [], ◌∷◌, ◌++◌, length, drop, get_or, sym, ap, arith, append_assoc, codes, IsTrue}
use Rattle.std.specs.List.{AllByRecursion}
use Rattle.std.proofs.lemmas.List.{append-nil, drop_all, drop_more}
use Rattle.csv.specs.Writing as csv
use Rattle.ct_value.specs.declared.ty.Ty.{Ty}
use Rattle.ct_value.specs.declared.value.Value.{Value}
use Rattle.ct_field.specs.Numbers.{is_type}
use Rattle.ct_field.specs.Fields.{field_text}
use Rattle.ct_change.specs.KeyRows.{is_among}
use Rattle.job_text.specs.AtKey.{at_key}
use Rattle.job_text.specs.Printed.{commaed, field_texts, fields_behind, quiet_line}

-- a field, and others behind it
pub field_behind : (field : List ℕ) (fields : List (List ℕ)) → fields_behind (field ∷ fields) ≡ fields_behind (field ∷ []) ++ fields_behind fields
unfolding csv.fields_text
field_behind field fields =
    ap (λ xs. csv.comma ∷ (xs ++ fields_behind fields)) (sym (append-nil (csv.field_text csv.default_writer field)))

-- no field
pub none_behind : (line : List ℕ) → line ++ fields_behind [] ≡ line
unfolding csv.fields_text
none_behind line = append-nil line

-- the texts that are left from a column on
texts_next : (tys : List Ty) (values : List Value) (i : ℕ) (d : Ty) (value : Value) → length values ≡ length tys → i < length values → value ≡ get_or values i value
    → field_texts (drop i tys) (drop i values) ≡ field_text (get_or tys i d) value ∷ field_texts (drop (i + 1) tys) (drop (i + 1) values)
texts_next tys values i d value same h value_is =
    ap (λ xs. field_texts xs (drop i values)) (drop_more tys i d (omega (arith, same, h)))
    ∙ ap (λ xs. field_texts (get_or tys i d ∷ drop (i + 1) tys) xs) (drop_more values i value h ∙ ap (λ x. x ∷ drop (i + 1) values) (sym value_is))

-- one more text behind a line
one_more : (line more total field : List ℕ) (fields left : List (List ℕ)) → left ≡ field ∷ fields → more ≡ line ++ fields_behind (field ∷ []) → line ++ fields_behind left ≡ total
    → more ++ fields_behind fields ≡ total
one_more line more total field fields left left_is more_is so_far =
    ap (λ xs. xs ++ fields_behind fields) more_is ∙ append_assoc line (fields_behind (field ∷ [])) (fields_behind fields)
    ∙ ap (λ xs. line ++ xs) (sym (field_behind field fields) ∙ ap fields_behind (sym left_is)) ∙ so_far

pub texts_step : (line more total : List ℕ) (tys : List Ty) (values : List Value) (i : ℕ) (d : Ty) (value : Value) → length values ≡ length tys → i < length values
    → value ≡ get_or values i value → more ≡ line ++ fields_behind (field_text (get_or tys i d) value ∷ []) → line ++ fields_behind (field_texts (drop i tys) (drop i values)) ≡ total
    → more ++ fields_behind (field_texts (drop (i + 1) tys) (drop (i + 1) values)) ≡ total
texts_step line more total tys values i d value same h value_is more_is so_far =
    one_more line more total (field_text (get_or tys i d) value) (field_texts (drop (i + 1) tys) (drop (i + 1) values)) (field_texts (drop i tys) (drop i values))
    (texts_next tys values i d value same h value_is) more_is so_far

pub texts_none : (line : List ℕ) (tys : List Ty) (values : List Value) (i : ℕ) → length values ≡ length tys → i ≡ length values → line ++ fields_behind (field_texts (drop i tys) (drop i values)) ≡ line
texts_none line tys values i same e = ap (λ xs. line ++ fields_behind (field_texts xs (drop i values))) (drop_all i tys (omega (arith, same, e))) ∙ none_behind line

-- each type is one that columns have
pub type_at : (tys : List Ty) (i : ℕ) (ty : Ty) → AllByRecursion (λ t. IsTrue (is_type t)) tys → i < length tys → IsTrue (is_type (get_or tys i ty))
type_at [] i ty all h = absurd (omega (arith, h))
type_at (t ∷ tys) zero ty all h = all.0
type_at (t ∷ tys) (suc i) ty all h = type_at tys i ty all.1 (omega (arith, h))

-- ---- a key that is told alone

-- the texts that are left of a key's from a column on
abbrev pub key_texts : List ℕ → List Ty → List Value → ℕ → List (List ℕ)
key_texts key tys values i = at_key key i (field_texts (drop i tys) (drop i values))

key_texts_next : (key : List ℕ) (tys : List Ty) (values : List Value) (i : ℕ) (d : Ty) (value : Value) → length values ≡ length tys → i < length values → value ≡ get_or values i value
    → key_texts key tys values i ≡ cond (is_among key i) (field_text (get_or tys i d) value ∷ key_texts key tys values (i + 1)) (key_texts key tys values (i + 1))
key_texts_next key tys values i d value same h value_is =
    let next : suc i ≡ i + 1 = omega arith in
    let text = field_text (get_or tys i d) value in
    let rest = field_texts (drop (i + 1) tys) (drop (i + 1) values) in
    ap (at_key key i) (texts_next tys values i d value same h value_is)
    ∙ ap (λ k. cond (is_among key i) (text ∷ at_key key k rest) (at_key key k rest)) next

-- one more column, whose text is behind the line where it is one of the key's
pub key_texts_step : (key line more total : List ℕ) (tys : List Ty) (values : List Value) (i : ℕ) (d : Ty) (value : Value) (b : Bool) → length values ≡ length tys → i < length values
    → value ≡ get_or values i value → is_among key i ≡ b → more ≡ line ++ fields_behind (cond b (field_text (get_or tys i d) value ∷ []) [])
    → line ++ fields_behind (key_texts key tys values i) ≡ total → more ++ fields_behind (key_texts key tys values (i + 1)) ≡ total
key_texts_step key line more total tys values i d value b same h value_is is more_is so_far =
    let text = field_text (get_or tys i d) value in
    let rest = key_texts key tys values (i + 1) in
    by b text rest (key_texts_next key tys values i d value same h value_is ∙ ap (λ t. cond t (text ∷ rest) rest) is) more_is
  where
    by : (t : Bool) (text : List ℕ) (rest : List (List ℕ)) → key_texts key tys values i ≡ cond t (text ∷ rest) rest → more ≡ line ++ fields_behind (cond t (text ∷ []) []) → more ++ fields_behind rest ≡ total
    by true text rest left_is more_is = one_more line more total text rest (key_texts key tys values i) left_is more_is so_far
    by false text rest left_is more_is =
        ap (λ xs. xs ++ fields_behind rest) (more_is ∙ none_behind line) ∙ ap (λ xs. line ++ fields_behind xs) (sym left_is) ∙ so_far

pub key_texts_none : (key line : List ℕ) (tys : List Ty) (values : List Value) (i : ℕ) → length values ≡ length tys → i ≡ length values → line ++ fields_behind (key_texts key tys values i) ≡ line
key_texts_none key line tys values i same e =
    ap (λ xs. line ++ fields_behind (at_key key i (field_texts xs (drop i values)))) (drop_all i tys (omega (arith, same, e))) ∙ none_behind line

-- ---- the numbers of a quiet moment

pub counts_start : (old line counts : List ℕ) → line ≡ old ++ codes "=" → line ++ commaed counts ≡ old ++ (codes "=" ++ commaed counts)
counts_start old line counts is = ap (λ xs. xs ++ commaed counts) is ∙ append_assoc old (codes "=") (commaed counts)

pub counts_end : (old line counts : List ℕ) (i : ℕ) → i ≡ length counts → line ++ commaed (drop i counts) ≡ old ++ (codes "=" ++ commaed counts) → line ++ codes "\n" ≡ old ++ quiet_line counts
counts_end old line counts i e so_far =
    let none : line ++ commaed (drop i counts) ≡ line = ap (λ xs. line ++ commaed xs) (drop_all i counts (omega (arith, e))) ∙ append-nil line in
    ap (λ xs. xs ++ codes "\n") (sym none ∙ so_far) ∙ append_assoc old (codes "=" ++ commaed counts) (codes "\n")
