-- The line of a record, from its fields behind commas.
use Rattle.std.proofs.Common.{◌≡◌, ◌≤◌, ◌<◌, ◌==◌, ◌∙◌, ℕ, List, [], ◌∷◌, ◌++◌, length, drop, refl, sym, ap, arith, append_assoc, length-append, codes}
use Rattle.std.specs.Prelude.{if◌then◌else◌}
use Rattle.std.proofs.lemmas.Bool.{ne_eqb}
use Rattle.csv.specs.Writing as csv
use Rattle.ct_change.specs.declared.kind.Kind.{Kind}
use Rattle.ct_change.specs.declared.kind.Kind.TheVariants.{I, UB, UA, D}
use Rattle.job_text.specs.Printed.{fields_behind, kind_text, record_line}

-- the kind of a change is written as it stands, and isn't empty
kind_line : (kind : Kind) (texts : List (List ℕ)) → record_line (kind_text kind ∷ texts) ≡ kind_text kind ++ (fields_behind texts ++ codes "\n")
unfolding csv.is_blank csv.fields_text
kind_line I [] = refl
kind_line I (text ∷ texts) = refl
kind_line UB [] = refl
kind_line UB (text ∷ texts) = refl
kind_line UA [] = refl
kind_line UA (text ∷ texts) = refl
kind_line D [] = refl
kind_line D (text ∷ texts) = refl

-- so the line of a change is put piece by piece
pub change_put : (line : List ℕ) (kind : Kind) (texts : List (List ℕ)) → ((line ++ kind_text kind) ++ fields_behind texts) ++ codes "\n" ≡ line ++ record_line (kind_text kind ∷ texts)
change_put line kind texts =
    append_assoc (line ++ kind_text kind) (fields_behind texts) (codes "\n") ∙ append_assoc line (kind_text kind) (fields_behind texts ++ codes "\n")
    ∙ ap (λ xs. line ++ xs) (sym (kind_line kind texts))

-- the line of a record of one field
one_field : (text : List ℕ) → List ℕ
one_field text = (text ++ []) ++ ((if length text == 0 then codes "\"\"" else []) ++ codes "\n")

one_shown : (byte : ℕ) (text : List ℕ) → one_field (byte ∷ text) ≡ (byte ∷ text ++ []) ++ codes "\n"
unfolding one_field
one_shown byte text = rw (ne_eqb (length (byte ∷ text)) 0 (λ none. cc none)) refl

blank_field : (text : List ℕ) → length (csv.comma ∷ text ++ []) ≤ 1 → codes "\"\"\n" ≡ one_field text
unfolding one_field
blank_field [] few = refl
blank_field (byte ∷ text) few = absurd (omega (arith, few))

shown_field : (text behind : List ℕ) → behind ≡ csv.comma ∷ text ++ [] → 1 < length behind → drop 1 behind ++ codes "\n" ≡ one_field text
unfolding one_field
shown_field [] behind is many = absurd (omega (arith, ap length is, many))
shown_field (byte ∷ text) behind is many = ap (λ xs. drop 1 xs ++ codes "\n") is ∙ sym (one_shown byte text)

-- fields that are no byte but a comma at most: there is none, or an empty one alone
pub blank_record : (fields : List (List ℕ)) → length (fields_behind fields) ≤ 1 → codes "\"\"\n" ≡ record_line fields
unfolding csv.is_blank csv.fields_text one_field
blank_record [] few = refl
blank_record (field ∷ []) few = blank_field (csv.field_text csv.default_writer field) few
blank_record (field ∷ next ∷ fields) few = absurd (omega (arith, length-append (csv.field_text csv.default_writer field) (fields_behind (next ∷ fields)), few))

-- others, of which the first has no comma before it
pub shown_record : (fields : List (List ℕ)) (behind : List ℕ) → behind ≡ fields_behind fields → 1 < length behind → drop 1 behind ++ codes "\n" ≡ record_line fields
unfolding csv.is_blank csv.fields_text one_field
shown_record [] behind is many = absurd (omega (arith, ap length is, many))
shown_record (field ∷ []) behind is many = shown_field (csv.field_text csv.default_writer field) behind is many
shown_record (field ∷ next ∷ fields) behind is many = ap (λ xs. drop 1 xs ++ codes "\n") is
