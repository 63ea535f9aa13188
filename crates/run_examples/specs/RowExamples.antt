-- Worked histories: a rule, what comes at which port, and what is emitted, or the row at which it is out of range.
use Rattle.std.specs.Prelude.{ℕ, pos, List, [], ◌∷◌, map, ◌++◌, codes, Some, None, Ok, Err}
use Rattle.ct_value.specs.declared.row.Row.{Row}
use Rattle.ct_value.specs.declared.ty.Ty.TheVariants.{Int, Text as Texts}
use Rattle.ct_value.specs.declared.value.CompareOp.TheVariants.{Gt}
use Rattle.ct_value.specs.declared.value.Value.{Value}
use Rattle.ct_value.specs.declared.value.Value.TheVariants.{Null, Num, Text}
use Rattle.ct_change.specs.declared.kind.Kind.{Kind}
use Rattle.ct_change.specs.declared.kind.Kind.TheVariants.{I, UB, UA, D}
use Rattle.ct_change.specs.declared.kind.Declared.TheVariants.{Append, Retract, Upsert}
use Rattle.ct_change.specs.declared.change.Change.{Change}
use Rattle.ct_change.specs.Changelog.{retract, upsert}
use Rattle.ct_expr.specs.declared.expr.ArithOp.TheVariants.{Add}
use Rattle.ct_expr.specs.Expr.{Expr, Column, Literal, Arith, Compare}
use Rattle.op_rules.specs.History.{Arrival, arrival}
use Rattle.op_rules.specs.Rules.{Answer, Rule}
use Rattle.emission_rules.specs.Filter.{filter_rule}
use Rattle.emission_rules.specs.Project.{project_rule}
use Rattle.emission_rules.specs.Union.{union_rule}
use Rattle.emission_rules.specs.Sink.{sink_rule}
use Rattle.emission_rules.specs.Normalize.{Normalize}

pub record Example : Type 0 where
  pub rule : Rule
  -- what comes, at which port
  pub came : List (ℕ × Change)
  pub sends : Answer

pub record NormalizedExample : Type 0 where
  pub normalize : Normalize
  pub came : List (ℕ × Change)
  pub sends : List Change

-- each change comes by itself, from subtask 0
abbrev pub arrivals : List (ℕ × Change) → List (List Arrival)
arrivals came = map (λ a. arrival a.0 0 a.1 ∷ []) came

-- ---- words

abbrev pub n : ℕ → Value
n k = Num (pos k)

abbrev pub t : List ℕ → Value
t word = Text word

abbrev pub change : Kind → Row → Change
change kind row = record { kind = kind; row = row }

abbrev pub at : Kind → Row → ℕ × Change
at kind row = (0, change kind row)

-- ---- filters

-- the first column is above 1
abbrev pub above_one : Expr
above_one = Compare Gt (Column 0 Int) (Literal (n 1) Int)

-- the first column and 1 together are above 1
abbrev pub sum_above_one : Expr
sum_above_one = Compare Gt (Arith Add (Column 0 Int) (Literal (n 1) Int)) (Literal (n 1) Int)

abbrev pub largest : ℕ
largest = 2147483647

abbrev pub filters : List Example
filters =
    -- of FALSE, NULL and TRUE, the row on which it is TRUE
    record {
      rule = filter_rule (record { condition = above_one });
      came = at I (n 1 ∷ []) ∷ at I (Null ∷ []) ∷ at I (n 2 ∷ []) ∷ at D (Null ∷ []) ∷ [];
      sends = Ok (change I (n 2 ∷ []) ∷ []);
    }
    -- an update whose new row alone passes, and one whose old row alone passes
    ∷ record {
      rule = filter_rule (record { condition = above_one });
      came = at I (n 1 ∷ []) ∷ at UB (n 1 ∷ []) ∷ at UA (n 3 ∷ []) ∷ at UB (n 3 ∷ []) ∷ at UA (n 0 ∷ []) ∷ [];
      sends = Ok (change UA (n 3 ∷ []) ∷ change UB (n 3 ∷ []) ∷ []);
    }
    -- a sum that is no INT
    ∷ record {
      rule = filter_rule (record { condition = sum_above_one });
      came = at I (n 5 ∷ []) ∷ at I (n largest ∷ []) ∷ at I (n 6 ∷ []) ∷ [];
      sends = Err (n largest ∷ []);
    }
    ∷ []

-- ---- projects

abbrev pub swapped : List Expr
swapped = Column 1 Texts ∷ Column 0 Int ∷ []

abbrev pub projects : List Example
projects =
    -- each kind stays
    record {
      rule = project_rule (record { items = swapped; after = None });
      came = at I (n 1 ∷ t (codes "a") ∷ []) ∷ at UB (n 1 ∷ t (codes "a") ∷ []) ∷ at UA (n 2 ∷ t (codes "a") ∷ []) ∷ at D (n 2 ∷ t (codes "a") ∷ []) ∷ [];
      sends = Ok (change I (t (codes "a") ∷ n 1 ∷ []) ∷ change UB (t (codes "a") ∷ n 1 ∷ []) ∷ change UA (t (codes "a") ∷ n 2 ∷ []) ∷ change D (t (codes "a") ∷ n 2 ∷ []) ∷ []);
    }
    -- on an edge that is after-only, a change whose image stays is handed on too
    ∷ record {
      rule = project_rule (record { items = Column 0 Int ∷ []; after = Some (0 ∷ []) });
      came = at I (n 1 ∷ t (codes "a") ∷ []) ∷ at UA (n 1 ∷ t (codes "b") ∷ []) ∷ at D (n 1 ∷ Null ∷ []) ∷ [];
      sends = Ok (change I (n 1 ∷ []) ∷ change UA (n 1 ∷ []) ∷ change D (n 1 ∷ []) ∷ []);
    }
    -- there a row that goes has its key at the first place of each column, and no item is evaluated
    ∷ record {
      rule = project_rule (record { items = Arith Add (Column 1 Int) (Literal (n 1) Int) ∷ Column 0 Int ∷ Column 1 Int ∷ Column 0 Int ∷ []; after = Some (0 ∷ []) });
      came = at I (n 1 ∷ n 5 ∷ []) ∷ at D (n 1 ∷ Null ∷ []) ∷ at D (n 2 ∷ n largest ∷ []) ∷ [];
      sends = Ok (change I (n 6 ∷ n 1 ∷ n 5 ∷ n 1 ∷ []) ∷ change D (Null ∷ n 1 ∷ Null ∷ Null ∷ []) ∷ change D (Null ∷ n 2 ∷ Null ∷ Null ∷ []) ∷ []);
    }
    -- no items
    ∷ record {
      rule = project_rule (record { items = []; after = None });
      came = at I (n 1 ∷ []) ∷ at D (n 1 ∷ []) ∷ [];
      sends = Ok (change I [] ∷ change D [] ∷ []);
    }
    -- an item that is out of range
    ∷ record {
      rule = project_rule (record { items = Arith Add (Column 0 Int) (Literal (n 1) Int) ∷ []; after = None });
      came = at I (n 1 ∷ []) ∷ at D (n largest ∷ []) ∷ [];
      sends = Err (n largest ∷ []);
    }
    ∷ []

-- ---- unions and sinks

abbrev pub unions : List Example
unions =
    -- two ports, in the order in which changes come
    record {
      rule = union_rule (record { inputs = 2 });
      came = (1, change I (n 1 ∷ [])) ∷ (0, change I (n 1 ∷ [])) ∷ (1, change D (n 1 ∷ [])) ∷ [];
      sends = Ok (change I (n 1 ∷ []) ∷ change I (n 1 ∷ []) ∷ change D (n 1 ∷ []) ∷ []);
    }
    ∷ []

-- an update, and a row that goes
abbrev pub updated : List (ℕ × Change)
updated = at I (n 1 ∷ t (codes "a") ∷ []) ∷ at UB (n 1 ∷ t (codes "a") ∷ []) ∷ at UA (n 1 ∷ t (codes "b") ∷ []) ∷ at D (n 1 ∷ t (codes "b") ∷ []) ∷ []

abbrev pub sinks : List Example
sinks =
    -- rows of an append sink
    record {
      rule = sink_rule (record { declared = Append; after = None; key = [] });
      came = at I (t (codes "a,b") ∷ []) ∷ at I (Null ∷ []) ∷ at I (t (codes "\\N") ∷ []) ∷ at I (t [] ∷ []) ∷ [];
      sends = Ok (change I (t (codes "a,b") ∷ []) ∷ change I (Null ∷ []) ∷ change I (t (codes "\\N") ∷ []) ∷ change I (t [] ∷ []) ∷ []);
    }
    -- a retract sink prints both rows of an update
    ∷ record {
      rule = sink_rule (record { declared = Retract; after = None; key = [] });
      came = updated;
      sends = Ok (change I (n 1 ∷ t (codes "a") ∷ []) ∷ change UB (n 1 ∷ t (codes "a") ∷ []) ∷ change UA (n 1 ∷ t (codes "b") ∷ []) ∷ change D (n 1 ∷ t (codes "b") ∷ []) ∷ []);
    }
    -- an upsert sink prints them as a row that goes, by its key alone, and a row that comes
    ∷ record {
      rule = sink_rule (record { declared = Upsert; after = None; key = 0 ∷ [] });
      came = updated;
      sends = Ok (change I (n 1 ∷ t (codes "a") ∷ []) ∷ change D (n 1 ∷ Null ∷ []) ∷ change I (n 1 ∷ t (codes "b") ∷ []) ∷ change D (n 1 ∷ Null ∷ []) ∷ []);
    }
    -- and what comes after-only as it is
    ∷ record {
      rule = sink_rule (record { declared = Upsert; after = Some (0 ∷ []); key = 0 ∷ [] });
      came = at I (n 1 ∷ t (codes "a") ∷ []) ∷ at UA (n 1 ∷ t (codes "b") ∷ []) ∷ at D (n 1 ∷ Null ∷ []) ∷ [];
      sends = Ok (change I (n 1 ∷ t (codes "a") ∷ []) ∷ change UA (n 1 ∷ t (codes "b") ∷ []) ∷ change D (n 1 ∷ Null ∷ []) ∷ []);
    }
    ∷ []

abbrev pub examples : List Example
examples = filters ++ projects ++ unions ++ sinks

-- ---- normalizers

abbrev pub cities : List (ℕ × Change)
cities =
    at D (n 1 ∷ t (codes "Rome") ∷ [])
    ∷ at I (n 1 ∷ t (codes "Rome") ∷ [])
    ∷ at I (n 1 ∷ t (codes "Oslo") ∷ [])
    ∷ at UA (n 1 ∷ t (codes "Oslo") ∷ [])
    ∷ []

abbrev pub normalized_examples : List NormalizedExample
normalized_examples =
    -- an absent key, a row that comes, one that takes its place, and one that is there
    record {
      normalize = record { key = 0 ∷ []; output = retract };
      came = cities;
      sends = change I (n 1 ∷ t (codes "Rome") ∷ []) ∷ change UB (n 1 ∷ t (codes "Rome") ∷ []) ∷ change UA (n 1 ∷ t (codes "Oslo") ∷ []) ∷ [];
    }
    -- the same, told after-only
    ∷ record {
      normalize = record { key = 0 ∷ []; output = upsert (0 ∷ []) };
      came = cities;
      sends = change I (n 1 ∷ t (codes "Rome") ∷ []) ∷ change UA (n 1 ∷ t (codes "Oslo") ∷ []) ∷ [];
    }
    -- a key that goes is told alone there
    ∷ record {
      normalize = record { key = 0 ∷ []; output = upsert (0 ∷ []) };
      came = at I (n 1 ∷ t (codes "Rome") ∷ []) ∷ at D (n 1 ∷ Null ∷ []) ∷ at D (n 1 ∷ Null ∷ []) ∷ [];
      sends = change I (n 1 ∷ t (codes "Rome") ∷ []) ∷ change D (n 1 ∷ Null ∷ []) ∷ [];
    }
    -- a key that goes takes its own last row with it, and keys stand apart
    ∷ record {
      normalize = record { key = 0 ∷ []; output = retract };
      came = at I (n 1 ∷ t (codes "a") ∷ []) ∷ at UA (n 2 ∷ t (codes "b") ∷ []) ∷ at D (n 1 ∷ t (codes "x") ∷ []) ∷ at D (n 1 ∷ t (codes "a") ∷ []) ∷ at I (n 1 ∷ t (codes "c") ∷ []) ∷ [];
      sends = change I (n 1 ∷ t (codes "a") ∷ []) ∷ change I (n 2 ∷ t (codes "b") ∷ []) ∷ change D (n 1 ∷ t (codes "a") ∷ []) ∷ change I (n 1 ∷ t (codes "c") ∷ []) ∷ [];
    }
    ∷ []
