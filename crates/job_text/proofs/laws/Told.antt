-- What is printed tells its items: a line is read back as the fields of a record, and these tell the kind and the values.
use Rattle.std.specs.Prelude.{◌==◌, ◌+◌, ◌<◌, ◌≤◌, ◌^◌, Bool, cond, codes, map}
use Rattle.std.proofs.Common.{◌≡◌, ◌∙◌, ◌++◌, ℕ, suc, true, false, List, [], ◌∷◌, Option, Some, None, refl, sym, ap, subst, arith}
use Rattle.std.specs.List.{AllByRecursion, list_any}
use Rattle.std.specs.Fmt.{decimal}
use Rattle.std.specs.Str.Parse.{AllDigits}
use Rattle.std.proofs.lemmas.Bool.Decides.{nat_tests}
use Rattle.std.proofs.lemmas.Fmt.{decimal_injective, decimal_is_IsNumeral}
use Rattle.std.proofs.lemmas.List.Sums.{sum_by-cons}
use Rattle.std.proofs.lemmas.Str.Parse.{digit_from_value}
use Rattle.csv.specs.Machine.{Read, next_record}
use Rattle.csv.specs.Reading.{default_config}
use Rattle.csv.specs.Writing.{default_writer, fields_text, is_blank, needs_byte, row_text}
use Rattle.csv.specs.declared.parser.State.TheVariants.{StartRecord}
use Rattle.csv.proofs.RoundTrip.{read-write}
use Rattle.ct_value.specs.declared.ty.Ty.{Ty}
use Rattle.ct_value.specs.declared.ty.Ty.TheVariants.{Bool as Truths, Int, BigInt, Decimal, Text as Texts}
use Rattle.ct_value.specs.declared.value.Value.{Value}
use Rattle.ct_value.specs.declared.value.Value.TheVariants.{Null, Bool as Truth, Num, Text}
use Rattle.ct_field.specs.Fields.{begins_with_backslash, field_text}
use Rattle.ct_field.specs.Numbers.{is_type}
use Rattle.ct_field.specs.Spells.{IsText, Spells}
use Rattle.ct_field.specs.Typed.{value_fits}
use Rattle.ct_field.proofs.laws.Numbers.{first_true, second_true}
use Rattle.op_rules.specs.Values.{values_fit}
use Rattle.ct_field.proofs.laws.Reading.{one_value}
use Rattle.ct_field.proofs.laws.Writing.{written}
use Rattle.ct_change.specs.declared.kind.Kind.{Kind}
use Rattle.ct_change.specs.declared.kind.Kind.TheVariants.{I, UB, UA, D}
use Rattle.ct_change.specs.declared.change.Change.{Change}
use Rattle.stream_model.specs.declared.events.PrintItem.{PrintItem}
use Rattle.stream_model.specs.declared.events.PrintItem.TheVariants.{Change as Printed, Quiet}
use Rattle.job_text.specs.Lines.{kind_of}
use Rattle.ct_change.specs.KeyRows.{is_among, key_row, keyed_from}
use Rattle.ct_change.proofs.laws.Meanings.{same_row-true}
use Rattle.stream_model.specs.KeysTold.{is_told, told_by}
use Rattle.job_text.specs.AtKey.{at_key}
use Rattle.job_text.specs.Printed.{commaed, field_texts, item_line, item_lines, kind_text, numbers_told, quiet_line, sum_of, told_texts}
use Rattle.job_text.specs.Told.{AreSameItems, AreTypes, BytesTellItems, IsItemOf, IsSameItem, LinesTellItems}

-- ---- the line of a quiet moment is that of a record of `=` and the numbers

plain_digit : (b : ℕ) → 48 ≤ b → b ≤ 57 → needs_byte default_writer b ≡ false
plain_digit b low high =
    let comma : (b == 44) ≡ false = grind (arith, nat_tests) in
    let quote : (b == 34) ≡ false = grind (arith, nat_tests) in
    let return : (b == 13) ≡ false = grind (arith, nat_tests) in
    let feed : (b == 10) ≡ false = grind (arith, nat_tests) in
    rw (comma, quote, return, feed) refl

plain_digits : (digits : List ℕ) → AllDigits 10 digits → list_any (needs_byte default_writer) digits ≡ false
plain_digits [] all = refl
plain_digits (digit ∷ digits) all =
    let in_range = digit_from_value digit all.0 in
    rw (plain_digit digit in_range.0 in_range.1, plain_digits digits all.1) refl

-- each number is of 64 bits
abbrev AreSmall : List ℕ → Type 0
AreSmall numbers = AllByRecursion (λ n. n < 2 ^ 64) numbers

numbers_text : (numbers : List ℕ) → AreSmall numbers → fields_text default_writer (map decimal numbers) ≡ commaed numbers
unfolding fields_text
numbers_text [] small = refl
numbers_text (number ∷ numbers) small =
    rw (plain_digits (decimal number) (decimal_is_IsNumeral number small.0).0.1, numbers_text numbers small.1) refl

not_blank : (numbers : List ℕ) → is_blank default_writer (codes "=" ∷ map decimal numbers) ≡ false
unfolding is_blank
not_blank [] = refl
not_blank (number ∷ numbers) = refl

quiet_is : (numbers : List ℕ) → AreSmall numbers → quiet_line numbers ≡ row_text default_writer (codes "=" ∷ map decimal numbers)
quiet_is numbers small = rw (not_blank numbers, numbers_text numbers small) refl

-- the numbers of a quiet moment are told where their sum is small
sum_next : (number : ℕ) (numbers : List ℕ) → sum_of (number ∷ numbers) ≡ number + sum_of numbers
sum_next number numbers = sum_by-cons (λ n. n) number numbers

all_small : (numbers : List ℕ) → sum_of numbers < 2 ^ 64 → AreSmall numbers
all_small [] few = tt
all_small (number ∷ numbers) few =
    let next = sum_next number numbers in
    (omega (arith, few, next), all_small numbers (omega (arith, few, next)))

told_small : (by_table : Bool) (counts : List ℕ) → sum_of counts < 2 ^ 64 → AreSmall (numbers_told by_table counts)
told_small true counts few = all_small counts few
told_small false counts few = (few, tt)

numbers_same : (numbers others : List ℕ) → AreSmall numbers → AreSmall others → map decimal numbers ≡ map decimal others → numbers ≡ others
numbers_same [] [] small few e = refl
numbers_same [] (other ∷ others) small few e = absurd (cc (e))
numbers_same (number ∷ numbers) [] small few e = absurd (cc (e))
numbers_same (number ∷ numbers) (other ∷ others) small few e =
    let first = decimal_injective number other small.0 few.0 (let texts : decimal number ≡ decimal other = cc (e) in texts) in
    let rest = numbers_same numbers others small.1 few.1 (let texts : map decimal numbers ≡ map decimal others = cc (e) in texts) in
    rw (first, rest) refl

-- the fields of an item's line
abbrev fields_of : Bool → List Ty → Option (List ℕ) → PrintItem → List (List ℕ)
fields_of by_table tys key (Printed change) = kind_text change.kind ∷ told_texts (told_by key change.kind) (field_texts tys change.row)
fields_of by_table tys key (Quiet counts) = codes "=" ∷ map decimal (numbers_told by_table counts)

-- ---- fields tell kinds and values

kind_is_read : (kind : Kind) → kind_of (kind_text kind) ≡ Some kind
kind_is_read I = refl
kind_is_read UB = refl
kind_is_read UA = refl
kind_is_read D = refl

some_same : {A : Type 0} (x y : A) → Some x ≡ Some y → x ≡ y
some_same x y e = cc (e)

kind_told : (kind other : Kind) → kind_text kind ≡ kind_text other → kind ≡ other
kind_told kind other e = some_same kind other (sym (kind_is_read kind) ∙ ap kind_of e ∙ kind_is_read other)

no_kind : (kind : Kind) → kind_text kind ≡ codes "=" → ⊥
no_kind kind e =
    let none : Some kind ≡ None = sym (kind_is_read kind) ∙ ap kind_of e in
    absurd (cc (none))

-- a text that stands as it is doesn't begin with a backslash, and another has one more
escaped_told : (a b : Bool) (t u : List ℕ) → begins_with_backslash t ≡ a → begins_with_backslash u ≡ b → cond a (92 ∷ t) t ≡ cond b (92 ∷ u) u → t ≡ u
escaped_told true true t u is others e = cc (e)
escaped_told false false t u is others e = e
escaped_told true false t u is others e = let begins : true ≡ false = ap begins_with_backslash e ∙ others in absurd (cc (begins))
escaped_told false true t u is others e = let begins : false ≡ true = sym is ∙ ap begins_with_backslash e in absurd (cc (begins))

no_null : (a : Bool) (t : List ℕ) → begins_with_backslash t ≡ a → codes "\\N" ≡ cond a (92 ∷ t) t → ⊥
no_null true t is e =
    let rest : 78 ∷ [] ≡ t = cc (e) in
    let begins : false ≡ true = ap begins_with_backslash rest ∙ is in
    absurd (cc (begins))
no_null false t is e = let begins : true ≡ false = ap begins_with_backslash e ∙ is in absurd (cc (begins))

text_told : (v w : Value) → value_fits Texts v ≡ true → value_fits Texts w ≡ true → field_text Texts v ≡ field_text Texts w → v ≡ w
text_told Null Null h k e = refl
text_told Null (Text u) h k e = absurd (no_null (begins_with_backslash u) u refl e)
text_told Null (Truth b) h k e = absurd (cc (k))
text_told Null (Num n) h k e = absurd (cc (k))
text_told (Text t) Null h k e = absurd (no_null (begins_with_backslash t) t refl (sym e))
text_told (Text t) (Text u) h k e = ap Text (escaped_told (begins_with_backslash t) (begins_with_backslash u) t u refl refl e)
text_told (Text t) (Truth b) h k e = absurd (cc (k))
text_told (Text t) (Num n) h k e = absurd (cc (k))
text_told (Truth b) w h k e = absurd (cc (h))
text_told (Num n) w h k e = absurd (cc (h))

module _ (ty : Ty) (exists : is_type ty ≡ true) (no_texts : (t : List ℕ) → value_fits ty (Text t) ≡ true → ⊥) where
  no_text : (v : Value) → value_fits ty v ≡ true → IsText v
  no_text Null h = tt
  no_text (Truth b) h = tt
  no_text (Num n) h = tt
  no_text (Text t) h = absurd (no_texts t h)

  other_told : (v w : Value) → value_fits ty v ≡ true → value_fits ty w ≡ true → field_text ty v ≡ field_text ty w → v ≡ w
  other_told v w h k e = one_value ty v w (field_text ty v) (written ty v exists h (no_text v h)) (subst (Spells ty w) (sym e) (written ty w exists k (no_text w k)))

value_told : (ty : Ty) → is_type ty ≡ true → (v w : Value) → value_fits ty v ≡ true → value_fits ty w ≡ true → field_text ty v ≡ field_text ty w → v ≡ w
value_told Truths exists v w h k e = other_told Truths exists (λ t is. absurd (cc (is))) v w h k e
value_told Int exists v w h k e = other_told Int exists (λ t is. absurd (cc (is))) v w h k e
value_told BigInt exists v w h k e = other_told BigInt exists (λ t is. absurd (cc (is))) v w h k e
value_told (Decimal p s) exists v w h k e = other_told (Decimal p s) exists (λ t is. absurd (cc (is))) v w h k e
value_told Texts exists v w h k e = text_told v w h k e

row_told : (tys : List Ty) → AreTypes tys → (row other : List Value) → values_fit tys row ≡ true → values_fit tys other ≡ true → field_texts tys row ≡ field_texts tys other → row ≡ other
row_told [] exist [] [] h k e = refl
row_told [] exist [] (w ∷ ws) h k e = absurd (cc (k))
row_told [] exist (v ∷ vs) other h k e = absurd (cc (h))
row_told (ty ∷ tys) exist [] other h k e = absurd (cc (h))
row_told (ty ∷ tys) exist (v ∷ vs) [] h k e = absurd (cc (k))
row_told (ty ∷ tys) exist (v ∷ vs) (w ∷ ws) h k e =
    let first : field_text ty v ≡ field_text ty w = cc (e) in
    let others : field_texts tys vs ≡ field_texts tys ws = cc (e) in
    let value = value_told ty exist.0 v w (first_true (value_fits ty v) (values_fit tys vs) h) (first_true (value_fits ty w) (values_fit tys ws) k) first in
    let values = row_told tys exist.1 vs ws (second_true (value_fits ty v) (values_fit tys vs) h) (second_true (value_fits ty w) (values_fit tys ws) k) others in
    rw (value, values) refl

-- rows that tell a key alone are one where the texts of the key's columns are
cell_told : (ty : Ty) → is_type ty ≡ true → (v w : Value) → value_fits ty v ≡ true → value_fits ty w ≡ true → (ts us : List (List ℕ)) (b : Bool) → cond b v Null ≡ v → cond b w Null ≡ w
    → cond b (field_text ty v ∷ ts) ts ≡ cond b (field_text ty w ∷ us) us → (v ≡ w) × (ts ≡ us)
cell_told ty exists v w h k ts us true own other e = (value_told ty exists v w h k (let first : field_text ty v ≡ field_text ty w = cc (e) in first), (let rest : ts ≡ us = cc (e) in rest))
cell_told ty exists v w h k ts us false own other e = (sym own ∙ other, e)

row_told_at : (key : List ℕ) (column : ℕ) (tys : List Ty) → AreTypes tys → (row other : List Value) → values_fit tys row ≡ true → values_fit tys other ≡ true → keyed_from key column row ≡ row → keyed_from key column other ≡ other
    → at_key key column (field_texts tys row) ≡ at_key key column (field_texts tys other) → row ≡ other
row_told_at key column [] exist [] [] h k own others e = refl
row_told_at key column [] exist [] (w ∷ ws) h k own others e = absurd (cc (k))
row_told_at key column [] exist (v ∷ vs) other h k own others e = absurd (cc (h))
row_told_at key column (ty ∷ tys) exist [] other h k own others e = absurd (cc (h))
row_told_at key column (ty ∷ tys) exist (v ∷ vs) [] h k own others e = absurd (cc (k))
row_told_at key column (ty ∷ tys) exist (v ∷ vs) (w ∷ ws) h k own others e =
    let first_own : cond (is_among key column) v Null ≡ v = cc (own) in
    let first_other : cond (is_among key column) w Null ≡ w = cc (others) in
    let rest_own : keyed_from key (suc column) vs ≡ vs = cc (own) in
    let rest_other : keyed_from key (suc column) ws ≡ ws = cc (others) in
    let one = cell_told ty exist.0 v w (first_true (value_fits ty v) (values_fit tys vs) h) (first_true (value_fits ty w) (values_fit tys ws) k)
    (at_key key (suc column) (field_texts tys vs)) (at_key key (suc column) (field_texts tys ws)) (is_among key column) first_own first_other e in
    let values = row_told_at key (suc column) tys exist.1 vs ws (second_true (value_fits ty v) (values_fit tys vs) h) (second_true (value_fits ty w) (values_fit tys ws) k) rest_own rest_other one.1 in
    rw (one.0, values) refl

told_same : (tys : List Ty) → AreTypes tys → (key : Option (List ℕ)) (row other : List Value) → values_fit tys row ≡ true → values_fit tys other ≡ true → is_told key row ≡ true → is_told key other ≡ true
    → told_texts key (field_texts tys row) ≡ told_texts key (field_texts tys other) → row ≡ other
told_same tys exist None row other h k own others e = row_told tys exist row other h k e
told_same tys exist (Some key) row other h k own others e =
    row_told_at key 0 tys exist row other h k (same_row-true (key_row key row) row own) (same_row-true (key_row key other) other others) e

change_same : (change other : Change) → change.kind ≡ other.kind → change.row ≡ other.row → change ≡ other
change_same change other kind row = λ i. record { kind = kind i; row = row i }

changes_told : (tys : List Ty) → AreTypes tys → (key : Option (List ℕ)) (change other : Change) → IsItemOf tys key (Printed change) → IsItemOf tys key (Printed other)
    → kind_text change.kind ≡ kind_text other.kind → told_texts (told_by key change.kind) (field_texts tys change.row) ≡ told_texts (told_by key other.kind) (field_texts tys other.row) → change ≡ other
changes_told tys exist key change other h k kinds texts =
    let kind = kind_told change.kind other.kind kinds in
    let told = told_by key change.kind in
    let others : is_told told other.row ≡ true = ap (λ (x : Kind). is_told (told_by key x) other.row) kind ∙ k.1 in
    let same : told_texts told (field_texts tys change.row) ≡ told_texts told (field_texts tys other.row) = texts ∙ sym (ap (λ (x : Kind). told_texts (told_by key x) (field_texts tys other.row)) kind) in
    change_same change other kind (told_same tys exist told change.row other.row h.0 k.0 h.1 others same)

fields_told : (tys : List Ty) → AreTypes tys → (by_table : Bool) (key : Option (List ℕ)) (a b : PrintItem) → IsItemOf tys key a → IsItemOf tys key b → fields_of by_table tys key a ≡ fields_of by_table tys key b → IsSameItem by_table a b
fields_told tys exist by_table key (Printed change) (Printed other) h k e =
    let kinds : kind_text change.kind ≡ kind_text other.kind = cc (e) in
    let texts : told_texts (told_by key change.kind) (field_texts tys change.row) ≡ told_texts (told_by key other.kind) (field_texts tys other.row) = cc (e) in
    changes_told tys exist key change other h k kinds texts
fields_told tys exist by_table key (Printed change) (Quiet others) h k e = absurd (no_kind change.kind (let first : kind_text change.kind ≡ codes "=" = cc (e) in first))
fields_told tys exist by_table key (Quiet counts) (Printed change) h k e = absurd (no_kind change.kind (let first : kind_text change.kind ≡ codes "=" = cc (e) in first))
fields_told tys exist by_table key (Quiet counts) (Quiet others) h k e =
    numbers_same (numbers_told by_table counts) (numbers_told by_table others) (told_small by_table counts h) (told_small by_table others k)
    (let texts : map decimal (numbers_told by_table counts) ≡ map decimal (numbers_told by_table others) = cc (e) in texts)

-- ---- lines tell fields

read_line : (field : List ℕ) (fields : List (List ℕ)) (x : List ℕ) → next_record default_config StartRecord [] [] (row_text default_writer (field ∷ fields) ++ x) ≡ Some (field ∷ fields, StartRecord, x)
read_line field fields x = read-write (field ∷ fields) x

item_read : (by_table : Bool) (tys : List Ty) (key : Option (List ℕ)) (item : PrintItem) → IsItemOf tys key item → (x : List ℕ) → next_record default_config StartRecord [] [] (item_line by_table tys key item ++ x) ≡ Some (fields_of by_table tys key item, StartRecord, x)
item_read by_table tys key (Printed change) is x = read_line (kind_text change.kind) (told_texts (told_by key change.kind) (field_texts tys change.row)) x
item_read by_table tys key (Quiet counts) few x =
    let numbers = numbers_told by_table counts in
    ap (λ line. next_record default_config StartRecord [] [] (line ++ x)) (quiet_is numbers (told_small by_table counts few)) ∙ read_line (codes "=") (map decimal numbers) x

read_same : (fields others : List (List ℕ)) (x y : List ℕ) → (let r : Option Read = Some (fields, StartRecord, x) in r ≡ Some (others, StartRecord, y)) → (fields ≡ others) × (x ≡ y)
read_same fields others x y e =
    let first : Read = (fields, StartRecord, x) in
    let second : Read = (others, StartRecord, y) in
    let same : first ≡ second = cc (e) in
    (ap (λ (p : Read). p.0) same, ap (λ (p : Read). p.2) same)

pub lines_tell_items : LinesTellItems
lines_tell_items tys exist by_table key a b h k x y e =
    let read = sym (item_read by_table tys key a h x) ∙ ap (next_record default_config StartRecord [] []) e ∙ item_read by_table tys key b k y in
    let same = read_same (fields_of by_table tys key a) (fields_of by_table tys key b) x y read in
    (fields_told tys exist by_table key a b h k same.0, same.1)

-- ---- all lines

no_line : (by_table : Bool) (tys : List Ty) (key : Option (List ℕ)) (item : PrintItem) → IsItemOf tys key item → (x : List ℕ) → [] ≡ item_line by_table tys key item ++ x → ⊥
unfolding next_record
no_line by_table tys key item is x e =
    let none : None ≡ Some (fields_of by_table tys key item, StartRecord, x) = ap (next_record default_config StartRecord [] []) e ∙ item_read by_table tys key item is x in
    absurd (cc (none))

pub bytes_tell_items : BytesTellItems
bytes_tell_items tys exist by_table key [] [] h k e = tt
bytes_tell_items tys exist by_table key [] (b ∷ others) h k e = absurd (no_line by_table tys key b k.0 (item_lines by_table tys key others) e)
bytes_tell_items tys exist by_table key (a ∷ more) [] h k e = absurd (no_line by_table tys key a h.0 (item_lines by_table tys key more) (sym e))
bytes_tell_items tys exist by_table key (a ∷ more) (b ∷ others) h k e =
    let one = lines_tell_items tys exist by_table key a b h.0 k.0 (item_lines by_table tys key more) (item_lines by_table tys key others) e in
    (one.0, bytes_tell_items tys exist by_table key more others h.1 k.1 one.1)

-- ---- where each source has a change file of its own, the items are one

pub same_by_table : (a b : PrintItem) → IsSameItem true a b → a ≡ b
same_by_table (Printed change) (Printed other) same = ap Printed same
same_by_table (Printed change) (Quiet others) same = absurd same
same_by_table (Quiet counts) (Printed other) same = absurd same
same_by_table (Quiet counts) (Quiet others) same = ap Quiet same

pub all_same_by_table : (items others : List PrintItem) → AreSameItems true items others → items ≡ others
all_same_by_table [] [] same = refl
all_same_by_table [] (other ∷ others) same = absurd same
all_same_by_table (item ∷ items) [] same = absurd same
all_same_by_table (item ∷ items) (other ∷ others) same =
    let first = same_by_table item other same.0 in
    let rest = all_same_by_table items others same.1 in
    rw (first, rest) refl
