-- A field is read exactly as the value that its bytes spell.
use Rattle.std.proofs.Common.{◌≡◌, ℕ, ◌≤◌, Bool, true, false, cond, ◌||◌, List, [], ◌∷◌, length, drop, Option, Some, None, refl, sym, ap, ◌∙◌, subst, arith, inl, inr}
use Rattle.std.specs.Prelude.{nat_lt, codes, option_map, option_and_then, ◌⊎◌}
use Rattle.std.specs.Str.{IsUtf8, is_utf8, bytes_eq}
use Rattle.std.proofs.lemmas.Str.{IsUtf8-from_is_utf8, is_utf8-from_IsUtf8}
use Rattle.std.proofs.lemmas.Slice.Eq.{bytes_eq-Decides}
use Rattle.std.proofs.lemmas.Bool.Decides.{nat_tests}
use Rattle.ct_value.specs.declared.ty.Ty.{Ty}
use Rattle.ct_value.specs.declared.ty.Ty.TheVariants.{Bool as Truths, Int, BigInt, Decimal, Text as Texts}
use Rattle.ct_value.specs.declared.value.Value.{Value}
use Rattle.ct_value.specs.declared.value.Value.TheVariants.{Null, Bool as Truth, Num, Text}
use Rattle.ct_field.specs.Fields.{number_of_type, truth_spelled, begins_with_backslash, text_spelled, value_spelled, longest_field, field_value}
use Rattle.ct_field.specs.Spells.{TruthSpells, TextSpells, Spells}
use Rattle.ct_field.proofs.laws.Numbers.{if_some, map_parts, number_read, number_is_read}

same_bytes : (a b : List ℕ) → bytes_eq a b ≡ true → a ≡ b
same_bytes a b e = (bytes_eq-Decides a b).0 e

-- ---- truth values

either_true : (a b : Bool) → (a || b) ≡ true → (a ≡ true) ⊎ (b ≡ true)
either_true true b e = inl refl
either_true false b e = inr e

truth_read : (bs : List ℕ) (b : Bool) → truth_spelled bs ≡ Some b → TruthSpells b bs
truth_read bs b e = go (bytes_eq bs (codes "TRUE") || bytes_eq bs (codes "true")) (bytes_eq bs (codes "FALSE") || bytes_eq bs (codes "false")) refl refl b e
  where
    one : (x y : List ℕ) → (bytes_eq bs x || bytes_eq bs y) ≡ true → (bs ≡ x) ⊎ (bs ≡ y)
    one x y h = pick (either_true (bytes_eq bs x) (bytes_eq bs y) h)
      where
        pick : (bytes_eq bs x ≡ true) ⊎ (bytes_eq bs y ≡ true) → (bs ≡ x) ⊎ (bs ≡ y)
        pick (inl k) = inl (same_bytes bs x k)
        pick (inr k) = inr (same_bytes bs y k)

    go : (t f : Bool) → (bytes_eq bs (codes "TRUE") || bytes_eq bs (codes "true")) ≡ t → (bytes_eq bs (codes "FALSE") || bytes_eq bs (codes "false")) ≡ f → (b : Bool) → cond t (Some true) (cond f (Some false) None) ≡ Some b → TruthSpells b bs
    go true f h k true i = one (codes "TRUE") (codes "true") h
    go true f h k false i = absurd (cc)
    go false true h k true i = absurd (cc)
    go false true h k false i = one (codes "FALSE") (codes "false") k
    go false false h k b i = absurd (cc)

-- ---- texts

utf8_read : (t u : List ℕ) → cond (is_utf8 t) (Some t) None ≡ Some u → IsUtf8 t × (t ≡ u)
utf8_read t u e = let p = if_some (is_utf8 t) t u e in (IsUtf8-from_is_utf8 t p.0, p.1)

backslash_first : (bs : List ℕ) → begins_with_backslash bs ≡ true → bs ≡ 92 ∷ drop 1 bs
backslash_first [] e = absurd (cc)
backslash_first (c ∷ cs) e = ap (λ d. d ∷ cs) (grind (arith, nat_tests))

text_read : (bs t : List ℕ) → text_spelled bs ≡ Some t → TextSpells t bs
text_read bs t e = go (begins_with_backslash bs) (begins_with_backslash (drop 1 bs)) refl refl e
  where
    go : (one two : Bool) → begins_with_backslash bs ≡ one → begins_with_backslash (drop 1 bs) ≡ two → option_and_then (λ t. cond (is_utf8 t) (Some t) None) (cond one (cond two (Some (drop 1 bs)) None) (Some bs)) ≡ Some t → TextSpells t bs
    go true true h k i = let p = utf8_read (drop 1 bs) t i in (subst IsUtf8 p.1 p.0, inl (ap begins_with_backslash (sym p.1) ∙ k, backslash_first bs h ∙ ap (λ r. 92 ∷ r) p.1))
    go true false h k i = absurd (cc)
    go false two h k i = let p = utf8_read bs t i in (subst IsUtf8 p.1 p.0, inr (ap begins_with_backslash (sym p.1) ∙ h, p.1))

text_is_read : (bs t : List ℕ) → TextSpells t bs → text_spelled bs ≡ Some t
text_is_read bs t (utf8, inl (one, at)) = ap text_spelled at ∙ ap (λ b. option_and_then (λ t. cond (is_utf8 t) (Some t) None) (cond b (Some t) None)) one ∙ ap (λ b. cond b (Some t) None) (is_utf8-from_IsUtf8 t utf8)
text_is_read bs t (utf8, inr (plain, at)) =
    ap text_spelled at ∙ ap (λ b. option_and_then (λ t. cond (is_utf8 t) (Some t) None) (cond b (cond (begins_with_backslash (drop 1 t)) (Some (drop 1 t)) None) (Some t))) plain ∙ ap (λ b. cond b (Some t) None) (is_utf8-from_IsUtf8 t utf8)

-- ---- values

spells_null : (ty : Ty) (bs : List ℕ) → bs ≡ codes "\\N" → Spells ty Null bs
spells_null Truths bs e = e
spells_null Int bs e = e
spells_null BigInt bs e = e
spells_null (Decimal p s) bs e = e
spells_null Texts bs e = e

value_read : (ty : Ty) (v : Value) (bs : List ℕ) → value_spelled ty bs ≡ Some v → Spells ty v bs
value_read Truths v bs e = let p = map_parts Truth (truth_spelled bs) v e in subst (λ w. Spells Truths w bs) p.2 (truth_read bs p.0 p.1)
value_read Texts v bs e = let p = map_parts Text (text_spelled bs) v e in subst (λ w. Spells Texts w bs) p.2 (text_read bs p.0 p.1)
value_read Int v bs e = let p = map_parts Num (number_of_type Int bs) v e in subst (λ w. Spells Int w bs) p.2 (number_read Int bs p.0 p.1)
value_read BigInt v bs e = let p = map_parts Num (number_of_type BigInt bs) v e in subst (λ w. Spells BigInt w bs) p.2 (number_read BigInt bs p.0 p.1)
value_read (Decimal q s) v bs e = let p = map_parts Num (number_of_type (Decimal q s) bs) v e in subst (λ w. Spells (Decimal q s) w bs) p.2 (number_read (Decimal q s) bs p.0 p.1)

-- no type but by NULL's own spelling
value_spelled-null : (ty : Ty) → value_spelled ty (codes "\\N") ≡ None
value_spelled-null Truths = refl
value_spelled-null Int = refl
value_spelled-null BigInt = refl
value_spelled-null (Decimal p s) = refl
value_spelled-null Texts = refl

-- the value, however long the bytes are
abbrev spelled : Ty → List ℕ → Option Value
spelled ty bs = cond (bytes_eq bs (codes "\\N")) (Some Null) (value_spelled ty bs)

spelled_read : (ty : Ty) (v : Value) (bs : List ℕ) → spelled ty bs ≡ Some v → Spells ty v bs
spelled_read ty v bs e = go (bytes_eq bs (codes "\\N")) refl e
  where
    go : (b : Bool) → bytes_eq bs (codes "\\N") ≡ b → cond b (Some Null) (value_spelled ty bs) ≡ Some v → Spells ty v bs
    go true h i = let k : Null ≡ v = cc in subst (λ w. Spells ty w bs) k (spells_null ty bs (same_bytes bs (codes "\\N") h))
    go false h i = value_read ty v bs i

-- what is a value of the type isn't NULL's spelling
spelled_value : (ty : Ty) (v : Value) (bs : List ℕ) → value_spelled ty bs ≡ Some v → spelled ty bs ≡ Some v
spelled_value ty v bs e = go (bytes_eq bs (codes "\\N")) refl
  where
    go : (b : Bool) → bytes_eq bs (codes "\\N") ≡ b → cond b (Some Null) (value_spelled ty bs) ≡ Some v
    go true h = absurd (let i : value_spelled ty bs ≡ None = ap (value_spelled ty) (same_bytes bs (codes "\\N") h) ∙ value_spelled-null ty in cc)
    go false h = e

null_is_read : (ty : Ty) (bs : List ℕ) → bs ≡ codes "\\N" → spelled ty bs ≡ Some Null
null_is_read ty bs e = ap (spelled ty) e

truth_is_read : (b : Bool) (bs : List ℕ) → TruthSpells b bs → truth_spelled bs ≡ Some b
truth_is_read true bs (inl e) = ap truth_spelled e
truth_is_read true bs (inr e) = ap truth_spelled e
truth_is_read false bs (inl e) = ap truth_spelled e
truth_is_read false bs (inr e) = ap truth_spelled e

pub is_read : (ty : Ty) (v : Value) (bs : List ℕ) → Spells ty v bs → spelled ty bs ≡ Some v
is_read Truths Null bs h = null_is_read Truths bs h
is_read Int Null bs h = null_is_read Int bs h
is_read BigInt Null bs h = null_is_read BigInt bs h
is_read (Decimal p s) Null bs h = null_is_read (Decimal p s) bs h
is_read Texts Null bs h = null_is_read Texts bs h
is_read Truths (Truth b) bs h = spelled_value Truths (Truth b) bs (ap (option_map Truth) (truth_is_read b bs h))
is_read Int (Truth b) bs h = absurd h
is_read BigInt (Truth b) bs h = absurd h
is_read (Decimal p s) (Truth b) bs h = absurd h
is_read Texts (Truth b) bs h = absurd h
is_read Truths (Num z) bs h = absurd (let e = h.0 in cc)
is_read Int (Num z) bs h = spelled_value Int (Num z) bs (ap (option_map Num) (number_is_read Int bs z h.0 h.1))
is_read BigInt (Num z) bs h = spelled_value BigInt (Num z) bs (ap (option_map Num) (number_is_read BigInt bs z h.0 h.1))
is_read (Decimal p s) (Num z) bs h = spelled_value (Decimal p s) (Num z) bs (ap (option_map Num) (number_is_read (Decimal p s) bs z h.0 h.1))
is_read Texts (Num z) bs h = absurd (let e = h.0 in cc)
is_read Truths (Text t) bs h = absurd h
is_read Int (Text t) bs h = absurd h
is_read BigInt (Text t) bs h = absurd h
is_read (Decimal p s) (Text t) bs h = absurd h
is_read Texts (Text t) bs h = spelled_value Texts (Text t) bs (ap (option_map Text) (text_is_read bs t h))

-- ---- fields

not_longer : (n m : ℕ) → nat_lt n m ≡ false → m ≤ n
not_longer n m h = grind (arith, nat_tests)

not_longer_test : (n m : ℕ) → m ≤ n → nat_lt n m ≡ false
not_longer_test n m h = grind (arith, nat_tests)

pub field_read : (ty : Ty) (v : Value) (bs : List ℕ) → field_value ty bs ≡ Some v → (length bs ≤ longest_field) × Spells ty v bs
field_read ty v bs e = go (nat_lt longest_field (length bs)) refl e
  where
    go : (b : Bool) → nat_lt longest_field (length bs) ≡ b → cond b None (spelled ty bs) ≡ Some v → (length bs ≤ longest_field) × Spells ty v bs
    go true h i = absurd (cc)
    go false h i = (not_longer longest_field (length bs) h, spelled_read ty v bs i)

pub field_is_read : (ty : Ty) (v : Value) (bs : List ℕ) → (length bs ≤ longest_field) × Spells ty v bs → field_value ty bs ≡ Some v
field_is_read ty v bs h = ap (λ b. cond b None (spelled ty bs)) (not_longer_test longest_field (length bs) h.0) ∙ is_read ty v bs h.1

pub one_value : (ty : Ty) (v w : Value) (bs : List ℕ) → Spells ty v bs → Spells ty w bs → v ≡ w
one_value ty v w bs h k = let e = is_read ty v bs h in let i = is_read ty w bs k in cc
