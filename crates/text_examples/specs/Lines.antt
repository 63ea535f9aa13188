-- Worked examples of change files: their lines, and the codes of records that are refused.
use Rattle.std.specs.Prelude.{ℕ, pos, negsuc, true, false, List, [], ◌∷◌, ◌++◌, Some, None, Result, Ok, Err, codes}
use Rattle.ct_value.specs.declared.ty.Ty.{Ty}
use Rattle.ct_value.specs.declared.ty.Ty.TheVariants.{Bool as Truths, Int, BigInt, Decimal, Text as Texts}
use Rattle.ct_value.specs.declared.value.Value.{Value}
use Rattle.ct_value.specs.declared.value.Value.TheVariants.{Null, Bool as Truth, Num, Text}
use Rattle.ct_value.specs.declared.codes.ChangeCode.{ChangeCode}
use Rattle.ct_value.specs.declared.codes.ChangeCode.TheVariants.{FieldCount, UnknownTable, BadKind, KindNotDeclared, BadField}
use Rattle.ct_change.specs.declared.kind.Kind.{Kind}
use Rattle.ct_change.specs.declared.kind.Kind.TheVariants.{I, UB, UA, D}
use Rattle.ct_change.specs.declared.kind.Declared.TheVariants.{Append, Retract, Upsert}
use Rattle.ct_catalog.specs.declared.table.ColDef.{ColDef}
use Rattle.ct_catalog.specs.declared.table.TableDef.{TableDef}
use Rattle.job_text.specs.declared.line.Line.{Line}

-- a change file, and what each of its records is
pub record Worked : Type 0 where
  pub file : List ℕ
  pub lines : List (Result Line ChangeCode)

abbrev worked : List ℕ → List (Result Line ChangeCode) → Worked
worked file lines = record { file = file; lines = lines }

abbrev column : List ℕ → Ty → ColDef
column name ty = record { name = name; ty = record { ty = ty; nullable = true } }

-- `t` takes words and `d` amounts and truths, `n` takes counted words with their retractions, `u` sets a word by its number, `w` has
-- each word with a number once, `v` sets a number by its word
abbrev pub sources : List TableDef
sources =
    record { name = codes "t"; cols = column (codes "word") Texts ∷ []; key = None; mode = Append } ∷
    record { name = codes "n"; cols = column (codes "word") Texts ∷ column (codes "n") BigInt ∷ []; key = None; mode = Retract } ∷
    record { name = codes "u"; cols = column (codes "id") Int ∷ column (codes "word") Texts ∷ []; key = Some (0 ∷ []); mode = Upsert } ∷
    record { name = codes "d"; cols = column (codes "amount") (Decimal 10 2) ∷ column (codes "paid") Truths ∷ []; key = None; mode = Append } ∷
    record { name = codes "w"; cols = column (codes "id") Int ∷ column (codes "word") Texts ∷ []; key = Some (0 ∷ 1 ∷ []); mode = Upsert } ∷
    record { name = codes "v"; cols = column (codes "id") Int ∷ column (codes "word") Texts ∷ []; key = Some (1 ∷ []); mode = Upsert } ∷ []

abbrev line : ℕ → Kind → List Value → Result Line ChangeCode
line table kind row = Ok (record { table = table; change = record { kind = kind; row = row } })

-- a word comes to `t`
abbrev word : List ℕ → Result Line ChangeCode
word text = line 0 I (Text text ∷ [])

abbrev bom : List ℕ
bom = 0xEF ∷ 0xBB ∷ 0xBF ∷ []

-- what ends a record, quotes, and the byte order mark
abbrev pub readings : List Worked
readings =
    worked [] [] ∷
    worked (codes "\n\r\n\r\n\n") [] ∷
    worked (codes "t,+I,a") (word (codes "a") ∷ []) ∷
    worked (codes "t,+I,a\rt,+I,b\r\nt,+I,c\nt,+I,d") (word (codes "a") ∷ word (codes "b") ∷ word (codes "c") ∷ word (codes "d") ∷ []) ∷
    worked (codes "\nt,+I,a\n\r\n\nt,+I,\n") (word (codes "a") ∷ word [] ∷ []) ∷
    worked (codes "t,+I, a ") (word (codes " a ") ∷ []) ∷
    worked (codes "\"t\",\"+I\",\"a,b\"\nt,+I,\"a\"\"b\"\nt,+I,\"\"") (word (codes "a,b") ∷ word (codes "a\"b") ∷ word [] ∷ []) ∷
    worked (codes "t,+I,\"a\r\nb\"\nt,+I,c") (word (codes "a\r\nb") ∷ word (codes "c") ∷ []) ∷
    worked (codes "t,+I,a\"b\nt,+I,\"a\"b") (word (codes "a\"b") ∷ word (codes "ab") ∷ []) ∷
    worked (codes "t,+I,\"a\nt,+I,b\n") (word (codes "a\nt,+I,b\n") ∷ []) ∷
    worked (bom ++ codes "t,+I,a") (word (codes "a") ∷ []) ∷
    worked (bom ++ bom ++ codes "t,+I,a") (Err UnknownTable ∷ []) ∷
    worked (codes "t,+I,a\n" ++ bom ++ codes "t,+I,b") (word (codes "a") ∷ Err UnknownTable ∷ []) ∷ []

-- the values of fields, kind by kind
abbrev pub changes : List Worked
changes =
    worked (codes "t,+I,\\N\nt,+I,\"\\N\"\nt,+I,\\\\N\nt,+I,\\\\\nt,+I,a\\")
    (line 0 I (Null ∷ []) ∷ line 0 I (Null ∷ []) ∷ word (codes "\\N") ∷ word (codes "\\") ∷ word (codes "a\\") ∷ []) ∷
    worked (codes "n,+I,a,1\nn,-U,a,+1\nn,+U,\\N,-9223372036854775808\nn,-D,,\\N")
    (line 1 I (Text (codes "a") ∷ Num (pos 1) ∷ []) ∷ line 1 UB (Text (codes "a") ∷ Num (pos 1) ∷ [])
    ∷ line 1 UA (Null ∷ Num (negsuc 9223372036854775807) ∷ []) ∷ line 1 D (Text [] ∷ Null ∷ []) ∷ []) ∷
    worked (codes "u,+I,1,a\nu,+U,1,b\nu,-D,1,\\N")
    (line 2 I (Num (pos 1) ∷ Text (codes "a") ∷ []) ∷ line 2 UA (Num (pos 1) ∷ Text (codes "b") ∷ []) ∷ line 2 D (Num (pos 1) ∷ Null ∷ []) ∷ []) ∷
    worked (codes "u,-D,1\nu,-D,1,a\nu,-D,1,\\x\nw,-D,1,a\nv,-D,a\nv,-D,x,a\nu,-D,\\N")
    (line 2 D (Num (pos 1) ∷ Null ∷ []) ∷ line 2 D (Num (pos 1) ∷ Null ∷ []) ∷ line 2 D (Num (pos 1) ∷ Null ∷ []) ∷ line 4 D (Num (pos 1) ∷ Text (codes "a") ∷ [])
    ∷ line 5 D (Null ∷ Text (codes "a") ∷ []) ∷ line 5 D (Null ∷ Text (codes "a") ∷ []) ∷ line 2 D (Null ∷ Null ∷ []) ∷ []) ∷
    worked (codes "d,+I,12.5,TRUE\nd,+I,-3,false") (line 3 I (Num (pos 1250) ∷ Truth true ∷ []) ∷ line 3 I (Num (negsuc 299) ∷ Truth false ∷ []) ∷ []) ∷ []

-- records that are refused: by their number of fields, by the table, by the kind, by the table's mode, by a field; each by the
-- first of these
abbrev pub refusals : List Worked
refusals =
    worked (codes "t\nx\n \n\"\"\nt,+I\nt,+X\nt,+I,a,b\nn,+I,a") (Err FieldCount ∷ Err FieldCount ∷ Err FieldCount ∷ Err FieldCount
    ∷ Err FieldCount ∷ Err FieldCount ∷ Err FieldCount ∷ Err FieldCount ∷ []) ∷
    worked (codes "x,+I\nx,+I,a\n,+I,a\nT,+I,a\n t,+I,a\ntt,+X") (Err UnknownTable ∷ Err UnknownTable ∷ Err UnknownTable ∷ Err UnknownTable ∷ Err UnknownTable ∷ Err UnknownTable ∷ []) ∷
    worked (codes "t,+X,a\nt,,a\nt,+i,a\nt, +I,a\nt,+I ,a\nt,I,a\nt,+D,\\x") (Err BadKind ∷ Err BadKind ∷ Err BadKind ∷ Err BadKind ∷ Err BadKind ∷ Err BadKind ∷ Err BadKind ∷ []) ∷
    worked (codes "t,-D,a\nt,-U,\\x\nt,+U,a\nu,-U,1,a") (Err KindNotDeclared ∷ Err KindNotDeclared ∷ Err KindNotDeclared ∷ Err KindNotDeclared ∷ []) ∷
    worked (codes "t,+I,\\x\nt,+I,\\\nn,+I,a,x\nn,+I,\\x,x\nn,+I,a,9223372036854775808\nn,+I,a,\nu,+I, 1,a") (Err (BadField 1) ∷ Err (BadField 1) ∷ Err (BadField 2) ∷ Err (BadField 1)
    ∷ Err (BadField 2) ∷ Err (BadField 2) ∷ Err (BadField 1) ∷ []) ∷
    worked (codes "d,+I,1.234,TRUE\nd,+I,.5,TRUE\nd,+I,5.,TRUE\nd,+I,1,True") (Err (BadField 1) ∷ Err (BadField 1) ∷ Err (BadField 1) ∷ Err (BadField 2) ∷ []) ∷
    worked (codes "u,-D\nu,-D,1,a,x\nu,+U,1\nw,-D,1\nu,-D,x\nu,-D,x,a\nv,-D,\\x\nw,-D,x,\\x\nw,-D,1,\\x\nn,-D,a") (Err FieldCount ∷ Err FieldCount ∷ Err FieldCount ∷ Err FieldCount
    ∷ Err (BadField 1) ∷ Err (BadField 1) ∷ Err (BadField 2) ∷ Err (BadField 1) ∷ Err (BadField 2) ∷ Err FieldCount ∷ []) ∷
    worked (codes "t,+I," ++ 0xFF ∷ codes "\nt,+I,a") (Err (BadField 1) ∷ word (codes "a") ∷ []) ∷ []
