-- To which subtask a key goes: by its text, which is made of the field texts of its values.
use Rattle.std.specs.Prelude.{ℕ, ◌+◌, ◌*◌, ◌%◌, ◌^◌, true, List, [], ◌∷◌, ◌++◌, map, slice_index_or}
use Rattle.std.specs.List.{fold}
use Rattle.ct_value.specs.declared.ty.Ty.{Ty}
use Rattle.ct_value.specs.declared.ty.Ty.TheVariants.{Text}
use Rattle.ct_value.specs.declared.ty.ColTy.{ColTy}
use Rattle.ct_value.specs.declared.row.Row.{Row}
use Rattle.ct_field.specs.Fields.{field_text}

-- one more byte: 31 times what was before, and the byte, within 64 bits
abbrev pub with_byte : ℕ → ℕ → ℕ
with_byte hash byte = (31 * hash + byte) % 2 ^ 64

-- the hash of a text, from 0 on, byte by byte
abbrev pub key_hash : List ℕ → ℕ
key_hash text = fold with_byte 0 text

-- the subtask of a text, among so many
abbrev pub subtask_of : ℕ → List ℕ → ℕ
subtask_of parallelism text = key_hash text % parallelism

-- the field texts of values, each of its type, with a comma before each
abbrev pub behind_commas : List Ty → Row → List ℕ
behind_commas [] values = []
behind_commas (ty ∷ tys) [] = []
behind_commas (ty ∷ tys) (value ∷ values) = 44 ∷ (field_text ty value ++ behind_commas tys values)

-- the text of a key: the field texts of its values, joined by commas
abbrev pub key_text : List Ty → Row → List ℕ
key_text [] key = []
key_text (ty ∷ tys) [] = []
key_text (ty ∷ tys) (value ∷ values) = field_text ty value ++ behind_commas tys values

-- the subtask of a key
abbrev pub route_of : ℕ → List Ty → Row → ℕ
route_of parallelism tys key = subtask_of parallelism (key_text tys key)

-- the type of a column
abbrev pub type_at : List ColTy → ℕ → Ty
type_at tys col = (slice_index_or tys col (record { ty = Text; nullable = true })).ty

-- the types of these columns, in that order
abbrev pub types_at : List ℕ → List ColTy → List Ty
types_at cols tys = map (λ col. type_at tys col) cols
