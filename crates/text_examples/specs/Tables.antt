-- Tables that scripts declare, and tables that are refused.
use Rattle.std.specs.Prelude.{ℕ, zero, suc, ◌+◌, ◌/◌, ◌%◌, true, false, List, [], ◌∷◌, ◌++◌, Some, None, codes}
use Rattle.ct_value.specs.declared.codes.ScriptCode.{ScriptCode}
use Rattle.ct_value.specs.declared.codes.ScriptCode.TheVariants.{BadToken, Syntax, DuplicateName, KeyMissing, BadSetting, StateTtl, Unsupported, TooManyColumns, NotOneInsert}
use Rattle.ct_value.specs.declared.ty.Ty.{Ty}
use Rattle.ct_value.specs.declared.ty.Ty.TheVariants.{Bool as Truth, Int, BigInt, Decimal, Text as Texts}
use Rattle.ct_change.specs.declared.kind.Declared.TheVariants.{Append, Retract, Upsert}
use Rattle.ct_catalog.specs.declared.table.ColDef.{ColDef}
use Rattle.ct_catalog.specs.declared.table.TableDef.{TableDef}

-- a column in which NULL may stand
abbrev pub column : List ℕ → Ty → ColDef
column name ty = record { name = name; ty = record { ty = ty; nullable = true } }

-- a column that is NOT NULL
abbrev pub filled : List ℕ → Ty → ColDef
filled name ty = record { name = name; ty = record { ty = ty; nullable = false } }

-- the text, and its tables
abbrev pub declared : List (List ℕ × List TableDef)
declared =
    ([], []) ∷
    (codes "CREATE TABLE t (a INT);", record { name = codes "t"; cols = column (codes "a") Int ∷ []; key = None; mode = Append } ∷ []) ∷
    (codes "CREATE TABLE t (a INT) WITH ('changelog' = 'append'); CREATE TABLE u (b STRING) WITH ('changelog' = 'retract');", record { name = codes "t"; cols = column (codes "a") Int ∷ []; key = None; mode = Append } ∷ record { name = codes "u"; cols = column (codes "b") Texts ∷ []; key = None; mode = Retract } ∷ []) ∷
    -- types in any case of letters
    (codes "CREATE TABLE t (a boolean, b Int, c INTEGER, d bigint, e String);", record { name = codes "t"; cols = column (codes "a") Truth ∷ column (codes "b") Int ∷ column (codes "c") Int ∷ column (codes "d") BigInt ∷ column (codes "e") Texts ∷ []; key = None; mode = Append } ∷ []) ∷
    (codes "CREATE TABLE t (a decimal, b Dec(5), c NUMERIC(38, 38), d DECIMAL(1, 0), e DECIMAL(05, 02));", record { name = codes "t"; cols = column (codes "a") (Decimal 10 0) ∷ column (codes "b") (Decimal 5 0) ∷ column (codes "c") (Decimal 38 38) ∷ column (codes "d") (Decimal 1 0) ∷ column (codes "e") (Decimal 5 2) ∷ []; key = None; mode = Append } ∷ []) ∷
    -- names in the case in which they are written
    (codes "CREATE TABLE t (a INT, A INT); CREATE TABLE T (`a b` INT);", record { name = codes "t"; cols = column (codes "a") Int ∷ column (codes "A") Int ∷ []; key = None; mode = Append } ∷ record { name = codes "T"; cols = column (codes "a b") Int ∷ []; key = None; mode = Append } ∷ []) ∷
    -- keys, whose columns are NOT NULL
    (codes "CREATE TABLE t (a INT NOT NULL, b INT PRIMARY KEY NOT ENFORCED, c INT);", record { name = codes "t"; cols = filled (codes "a") Int ∷ filled (codes "b") Int ∷ column (codes "c") Int ∷ []; key = Some (1 ∷ []); mode = Append } ∷ []) ∷
    (codes "CREATE TABLE t (a INT, b INT, c INT NOT NULL, PRIMARY KEY (c, a) NOT ENFORCED);", record { name = codes "t"; cols = filled (codes "a") Int ∷ column (codes "b") Int ∷ filled (codes "c") Int ∷ []; key = Some (0 ∷ 2 ∷ []); mode = Append } ∷ []) ∷
    (codes "CREATE TABLE t (PRIMARY KEY (b) NOT ENFORCED, a INT, `b` INT) WITH ('changelog' = 'upsert');", record { name = codes "t"; cols = column (codes "a") Int ∷ filled (codes "b") Int ∷ []; key = Some (1 ∷ []); mode = Upsert } ∷ []) ∷
    -- the last mode counts, and other options have no effect
    (codes "CREATE TABLE t (a INT) WITH ('changelog' = 'upsert', 'connector' = 'x', 'changelog' = 'retract');", record { name = codes "t"; cols = column (codes "a") Int ∷ []; key = None; mode = Retract } ∷ []) ∷
    (codes "CREATE TABLE t (a INT PRIMARY KEY NOT ENFORCED) WITH ('changelog' = 'append', 'changelog' = 'upsert');", record { name = codes "t"; cols = filled (codes "a") Int ∷ []; key = Some (0 ∷ []); mode = Upsert } ∷ []) ∷
    (codes "CREATE TABLE t (a INT) WITH ('CHANGELOG' = 'retract', 'changelog ' = 'x');", record { name = codes "t"; cols = column (codes "a") Int ∷ []; key = None; mode = Append } ∷ []) ∷
    (codes "SET 'table.exec.state.ttl' = '0 ms'; CREATE TABLE t (a INT);", record { name = codes "t"; cols = column (codes "a") Int ∷ []; key = None; mode = Append } ∷ []) ∷
    []

-- the script, its refusal, and at which statement
abbrev pub refused_tables : List (List ℕ × ScriptCode × ℕ)
refused_tables =
    -- names
    (codes "CREATE TABLE t (a INT); CREATE TABLE u (a INT); CREATE TABLE `t` (b INT);", DuplicateName, 3) ∷
    (codes "CREATE TABLE t (a INT, b INT, a INT);", DuplicateName, 1) ∷
    (codes "CREATE TABLE t (a INT, `a` BIGINT);", DuplicateName, 1) ∷
    -- keys
    (codes "CREATE TABLE t (a INT); CREATE TABLE u (a INT) WITH ('changelog' = 'upsert');", KeyMissing, 2) ∷
    (codes "CREATE TABLE t (a INT) WITH ('changelog' = 'append', 'changelog' = 'upsert');", KeyMissing, 1) ∷
    (codes "CREATE TABLE t (a INT, PRIMARY KEY (A) NOT ENFORCED);", KeyMissing, 1) ∷
    (codes "CREATE TABLE t (PRIMARY KEY (a) NOT ENFORCED);", KeyMissing, 1) ∷
    (codes "CREATE TABLE t (a INT, b INT, PRIMARY KEY (a, b, a) NOT ENFORCED);", KeyMissing, 1) ∷
    (codes "CREATE TABLE t (a INT PRIMARY KEY NOT ENFORCED, PRIMARY KEY (a) NOT ENFORCED);", KeyMissing, 1) ∷
    (codes "CREATE TABLE t (a INT PRIMARY KEY NOT ENFORCED, b INT PRIMARY KEY NOT ENFORCED);", KeyMissing, 1) ∷
    -- modes
    (codes "CREATE TABLE t (a INT) WITH ('changelog' = 'Append');", BadSetting, 1) ∷
    (codes "CREATE TABLE t (a INT) WITH ('changelog' = '', 'changelog' = 'append');", BadSetting, 1) ∷
    -- settings
    (codes "SET 'table.exec.state.ttl' = '1 h'; CREATE TABLE t (a INT); CREATE TABLE t (a INT);", StateTtl, 1) ∷
    (codes "CREATE TABLE t (a INT); SET 'no.such.key' = ''; CREATE TABLE t (a INT);", BadSetting, 2) ∷
    -- the order of refusals
    (codes "CREATE TABLE t (a x, a INT);", DuplicateName, 1) ∷
    (codes "CREATE TABLE t (a INT); CREATE TABLE t (a x);", DuplicateName, 2) ∷
    (codes "CREATE TABLE t (a x, PRIMARY KEY (b) NOT ENFORCED);", Unsupported, 1) ∷
    (codes "CREATE TABLE t (a x) WITH ('changelog' = 'x');", Unsupported, 1) ∷
    (codes "CREATE TABLE t (a INT, PRIMARY KEY (b) NOT ENFORCED) WITH ('changelog' = 'x');", KeyMissing, 1) ∷
    (codes "CREATE TABLE t (a INT) WITH ('changelog' = 'x', 'changelog' = 'upsert');", KeyMissing, 1) ∷
    -- types that there aren't, and wrong numbers of one
    (codes "CREATE TABLE t (a FLOAT);", Unsupported, 1) ∷
    (codes "CREATE TABLE t (a VARCHAR(10));", Unsupported, 1) ∷
    (codes "CREATE TABLE t (a TEXT);", Unsupported, 1) ∷
    (codes "CREATE TABLE t (a INT(3));", Unsupported, 1) ∷
    (codes "CREATE TABLE t (a STRING(5));", Unsupported, 1) ∷
    (codes "CREATE TABLE t (a BOOLEAN(1));", Unsupported, 1) ∷
    (codes "CREATE TABLE t (a `INT `);", Unsupported, 1) ∷
    (codes "CREATE TABLE t (a DECIMAL(0));", Unsupported, 1) ∷
    (codes "CREATE TABLE t (a DECIMAL(39));", Unsupported, 1) ∷
    (codes "CREATE TABLE t (a DECIMAL(5, 6));", Unsupported, 1) ∷
    (codes "CREATE TABLE t (a DECIMAL(0, 0));", Unsupported, 1) ∷
    (codes "CREATE TABLE t (a DECIMAL(1.5));", Unsupported, 1) ∷
    (codes "CREATE TABLE t (a DECIMAL(5, 1.0));", Unsupported, 1) ∷
    (codes "CREATE TABLE t (a DECIMAL(99999999999999999999));", Unsupported, 1) ∷
    -- one INSERT has to be the last statement
    ([], NotOneInsert, 1) ∷
    (codes "SET 'pipeline.name' = 'x';", NotOneInsert, 2) ∷
    (codes "INSERT INTO o SELECT a FROM t; SET 'pipeline.name' = 'x';", NotOneInsert, 2) ∷
    (codes "SET 'pipeline.name' = 'x'; INSERT INTO o SELECT a FROM t; INSERT INTO o SELECT a FROM t;", NotOneInsert, 3) ∷
    -- the text comes before the tables
    (codes "CREATE TABLE t (a INT); SET", Syntax, 2) ∷
    (codes "CREATE TABLE t (a INT, a INT); INSERT INTO o SELECT 1a FROM t;", BadToken, 2) ∷
    []

-- so many columns more behind the first
abbrev pub columns : ℕ → List ℕ
columns zero = []
columns (suc n) = columns n ++ codes ", c" ++ ((48 + n / 10) ∷ (48 + n % 10) ∷ []) ++ codes " INT"

-- a script with a table of so many columns and one, and what stands behind them
abbrev pub wide : ℕ → List ℕ → List ℕ
wide count rest = codes "CREATE TABLE t (c INT" ++ columns count ++ rest ++ codes "INSERT INTO o SELECT c FROM t;"

-- tables of 64 columns
abbrev pub widest_tables : List (List ℕ)
widest_tables =
    wide 63 (codes ");") ∷
    wide 62 (codes ", a INT PRIMARY KEY NOT ENFORCED);") ∷
    wide 63 (codes ", PRIMARY KEY (c62) NOT ENFORCED);") ∷
    []

-- no more than 64, and the order of refusals
abbrev pub wide_tables : List (List ℕ × ScriptCode × ℕ)
wide_tables =
    (wide 64 (codes ");"), TooManyColumns, 1) ∷
    (wide 63 (codes ", a INT, PRIMARY KEY (b) NOT ENFORCED);"), TooManyColumns, 1) ∷
    (wide 63 (codes ", PRIMARY KEY (b) NOT ENFORCED);"), KeyMissing, 1) ∷
    (wide 63 (codes ", c INT);"), DuplicateName, 1) ∷
    (wide 63 (codes ", a x);"), Unsupported, 1) ∷
    []
