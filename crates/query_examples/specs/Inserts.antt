-- INSERTs over the tables t, u and o, and what they are refused as.
use Rattle.std.specs.Prelude.{List, [], ◌∷◌, Option, Some, None, codes}
use Rattle.ct_value.specs.declared.codes.ScriptCode.{ScriptCode}
use Rattle.ct_value.specs.declared.codes.ScriptCode.TheVariants.{UnknownTable, UnknownColumn, SinkShape}
use Rattle.sql_syntax.specs.Tree.{Text}

abbrev pub inserts : List (Text × Option ScriptCode)
inserts =
    (codes "INSERT INTO o SELECT a, s FROM t;", None) ∷ (codes "INSERT INTO o SELECT g, x FROM (SELECT g, s AS x FROM t);", None) ∷
    (codes "INSERT INTO t SELECT a, a, x, CAST(1.5 AS DECIMAL(4, 2)), TRUE, a FROM u;", None) ∷
    -- the INSERT's own table comes first
    (codes "INSERT INTO nosuch SELECT nosuch FROM t;", Some UnknownTable) ∷
    -- the sink's columns come last
    (codes "INSERT INTO o SELECT nosuch FROM t;", Some UnknownColumn) ∷
    (codes "INSERT INTO o SELECT nosuch, w FROM o;", Some UnknownColumn) ∷ (codes "INSERT INTO o SELECT n, w FROM o;", Some SinkShape) ∷
    (codes "INSERT INTO o SELECT a, s FROM t UNION ALL SELECT n, w FROM (SELECT * FROM o WHERE n = 1);", Some SinkShape) ∷
    (codes "INSERT INTO o SELECT a FROM t;", Some SinkShape) ∷ (codes "INSERT INTO o SELECT a, s, b FROM t;", Some SinkShape) ∷
    (codes "INSERT INTO o SELECT s, a FROM t;", Some SinkShape) ∷ (codes "INSERT INTO o SELECT d, s FROM t;", Some SinkShape) ∷
    (codes "INSERT INTO u SELECT g, s FROM t;", Some SinkShape) ∷
    (codes "INSERT INTO t SELECT a, a, x, CAST(1.5 AS DECIMAL(6, 2)), TRUE, a FROM u;", Some SinkShape) ∷
    (codes "INSERT INTO t SELECT a, a, x, CAST(1.5 AS DECIMAL(5, 1)), TRUE, a FROM u;", Some SinkShape) ∷ []
