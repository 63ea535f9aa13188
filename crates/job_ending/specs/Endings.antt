-- The line that an ending writes.
use Rattle.std.specs.Prelude.{◌≡◌, ◌==◌, ℕ, IsTrue, if◌then◌else◌, List, [], ◌++◌, map, length, codes, Option, Some, None}
use Rattle.std.specs.List.{AllByRecursion}
use Rattle.std.specs.Fmt.{decimal}
use Rattle.ct_value.specs.Codes.{script_code_text, change_code_text, order_code_text}
use Rattle.ct_value.specs.declared.ty.ColTy.{ColTy}
use Rattle.ct_value.specs.declared.value.Value.{Value}
use Rattle.ct_value.specs.declared.codes.ScriptCode.{ScriptCode}
use Rattle.ct_value.specs.declared.codes.ChangeCode.{ChangeCode}
use Rattle.ct_value.specs.declared.codes.ChangeCode.TheVariants.{BadField, NullNotAllowed}
use Rattle.ct_value.specs.declared.codes.OrderCode.{OrderCode}
use Rattle.ct_value.specs.declared.codes.OrderCode.TheVariants.{TooFew}
use Rattle.ct_field.specs.Numbers.{is_type}
use Rattle.job_text.specs.Printed.{row_text}
use Rattle.job_ending.specs.declared.ending.Ending.{Ending}
use Rattle.job_ending.specs.declared.ending.Ending.TheVariants.{Done, Usage, Script, Change, Order, Range, Limit, ReadFault, WriteFault, Memory}
use Rattle.job_ending.specs.declared.ending.LimitName.{LimitName}
use Rattle.job_ending.specs.declared.ending.LimitName.TheVariants.{Script as ScriptLimit, Changes as ChangesLimit, Order as OrderLimit, Sent as SentLimit}

abbrev pub script_line : ScriptCode → ℕ → List ℕ
script_line code statement = codes "script " ++ (script_code_text code ++ (codes " statement " ++ (decimal statement ++ codes "\n")))

-- the column that a refused line's code carries
abbrev pub column_of_code : ChangeCode → Option ℕ
column_of_code (BadField column) = Some column
column_of_code (NullNotAllowed column) = Some column
column_of_code _ = None

abbrev pub column_text : Option ℕ → List ℕ
column_text (Some column) = codes " column " ++ decimal column
column_text None = []

-- the source whose change file a refused line is in, where each source has one of its own
abbrev pub table_text : ℕ → List ℕ
table_text table = if table == 0 then [] else codes " table " ++ decimal table

abbrev pub change_line : ChangeCode → ℕ → ℕ → List ℕ
change_line code line table =
    codes "change " ++ (change_code_text code ++ (codes " line " ++ (decimal line ++ (column_text (column_of_code code) ++ (table_text table ++ codes "\n")))))

-- the number in flight that a refused order line's code carries
abbrev pub in_flight_of : OrderCode → Option ℕ
in_flight_of (TooFew in_flight) = Some in_flight
in_flight_of _ = None

abbrev pub flight_text : Option ℕ → List ℕ
flight_text (Some in_flight) = codes " in flight " ++ (decimal in_flight ++ codes "\n")
flight_text None = codes "\n"

abbrev pub order_line : OrderCode → ℕ → List ℕ
order_line code line = codes "order " ++ (order_code_text code ++ (codes " line " ++ (decimal line ++ flight_text (in_flight_of code))))

-- the row stands as a record, and as nothing where it has no values
abbrev pub range_line : ℕ → ℕ → List Value → List ColTy → List ℕ
range_line node subtask row columns = codes "range node " ++ (decimal node ++ (codes " subtask " ++ (decimal subtask ++ codes " row "))) ++ row_text (map (λ c. c.ty) columns) row ++ codes "\n"

abbrev pub limit_text : LimitName → List ℕ
limit_text ScriptLimit = codes "limit script\n"
limit_text ChangesLimit = codes "limit changes\n"
limit_text OrderLimit = codes "limit order\n"
limit_text SentLimit = codes "limit sent\n"

abbrev pub ending_line : Ending → List ℕ
ending_line Done = []
ending_line Usage = codes "usage\n"
ending_line (Script code statement) = script_line code statement
ending_line (Change code line table) = change_line code line table
ending_line (Order code line) = order_line code line
ending_line (Range node subtask row columns) = range_line node subtask row columns
ending_line (Limit name) = limit_text name
ending_line ReadFault = codes "read fault\n"
ending_line WriteFault = codes "write fault\n"
ending_line Memory = codes "out of memory\n"

-- ---- what can be printed

-- each column has a type that exists
abbrev pub AreTypes : List ColTy → Type 0
AreTypes columns = AllByRecursion (λ c. IsTrue (is_type c.ty)) columns

-- the row of a range ending has a value for each of its columns, whose types exist
abbrev pub IsPrintable : Ending → Type 0
IsPrintable (Range node subtask row columns) = (length row ≡ length columns) × AreTypes columns
IsPrintable ending = Unit {0}
