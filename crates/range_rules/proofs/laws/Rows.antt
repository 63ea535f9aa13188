-- Rules that answer each change by itself, and a normalize, stay in range where their expressions calculate nothing.
use Rattle.std.proofs.Common.{◌≡◌, ℕ, zero, suc, ◌+◌, Bool, true, false, List, [], ◌∷◌, length, map, slice_index_or, Option, Some, None, refl}
use Rattle.std.specs.Prelude.{option_map}
use Rattle.std.specs.List.{AllByRecursion}
use Rattle.ct_value.specs.Bag.{none, items}
use Rattle.ct_value.specs.Rows.{project}
use Rattle.ct_value.specs.declared.row.Row.{Row}
use Rattle.ct_value.specs.declared.value.Value.{Value}
use Rattle.ct_value.specs.declared.value.Value.TheVariants.{Null}
use Rattle.ct_field.specs.Typed.{is_true}
use Rattle.ct_change.specs.declared.change.Change.{Change}
use Rattle.ct_change.specs.Changelog.{Rows, upsert, adds, apply, fold, row_at, same_row}
use Rattle.ct_expr.specs.Eval.{eval}
use Rattle.ct_expr.specs.Expr.{Expr}
use Rattle.op_rules.specs.History.{Arrival}
use Rattle.op_rules.specs.Rules.{Answer}
use Rattle.op_rules.proofs.laws.Histories.{all-append}
use Rattle.emission_rules.specs.Changes.{changes_of, each_change}
use Rattle.emission_rules.specs.Filter.{kept_where, filter_change}
use Rattle.emission_rules.specs.Project.{with_row, row_made, value_handed, handed, plain_row, image_of, row_after, row_sent, project_change}
use Rattle.emission_rules.specs.Union.{union_change}
use Rattle.emission_rules.specs.Normalize.{Normalize, row_left, normalized, normalized_all}
use Rattle.emission_rules.specs.Sink.{print_mode, sink_change}
use Rattle.range_rules.specs.Tame.{is_short}
use Rattle.range_rules.specs.Ranges.{IsShortRow, IsShort, ArrivesShort, IsShortAnswer, StaysInRange, FiltersStayInRange, ProjectsStayInRange, UnionsStayInRange, NormalizesStayInRange, SinksStayInRange}
use Rattle.range_rules.proofs.laws.Expressions.{Gives, gives, GivesRow, collected, items_give}
use Rattle.range_rules.proofs.laws.Folds.{AreShort, none_short, one_after, all_after}
use Rattle.range_rules.proofs.laws.Answers.{appended_short, IsShortIf, key_row_short, told_short, emission_short, found_short}

-- ---- changes, each by itself

pub changes_short : (arrivals : List Arrival) → AllByRecursion ArrivesShort arrivals → AllByRecursion IsShort (changes_of arrivals)
changes_short [] h = tt
changes_short (a ∷ others) h = (h.0, changes_short others h.1)

each_short : (answer : Change → Answer) → ((change : Change) → IsShort change → IsShortAnswer (answer change)) → (changes : List Change) → AllByRecursion IsShort changes → IsShortAnswer (each_change answer changes)
each_short answer one [] h = tt
each_short answer one (change ∷ changes) h = appended_short (answer change) (each_change answer changes) (one change h.0) (each_short answer one changes h.1)

-- what opens with nothing, and answers each change in range
stays : (answer : Change → Answer) → ((change : Change) → IsShort change → IsShortAnswer (answer change)) → StaysInRange (λ subtask. []) (λ before piece. each_change answer (changes_of piece))
stays answer one = record {
  opens = λ subtask. tt;
  answers = λ before piece h k few. each_short answer one (changes_of piece) (changes_short piece k);
}

-- ---- filters

kept_short : (change : Change) (m : Option Value) → IsShort change → Gives m → IsShortAnswer (kept_where change (option_map is_true m))
kept_short change None h g = g
kept_short change (Some v) h g = kept (is_true v)
  where
    kept : (b : Bool) → IsShortAnswer (kept_where change (Some b))
    kept true = (h, tt)
    kept false = tt

pub filters_stay : FiltersStayInRange
filters_stay filter tame = stays (filter_change filter) (λ change h. kept_short change (eval filter.condition change.row) h (gives change.row h filter.condition tame))

-- ---- projects

with_short : (change : Change) (o : Option Row) → GivesRow o → IsShortAnswer (with_row change o)
with_short change None g = g
with_short change (Some row) g = (g, tt)

cell_short : (row : Row) (column : ℕ) → IsShortRow row → is_short (slice_index_or row column Null) ≡ true
cell_short [] column h = refl
cell_short (value ∷ row) zero h = h.0
cell_short (value ∷ row) (suc column) h = cell_short row column h.1

handed_short : (row : Row) (o : Option ℕ) → IsShortRow row → is_short (value_handed row o) ≡ true
handed_short row None h = refl
handed_short row (Some column) h = cell_short row column h

plain_short : (row : Row) (columns : List (Option ℕ)) → IsShortRow row → IsShortRow (map (value_handed row) columns)
plain_short row [] h = tt
plain_short row (o ∷ columns) h = (handed_short row o h, plain_short row columns h)

-- the row of a removal isn't evaluated on an after-only edge
sent_short : (after : Option (List ℕ)) (items : List Expr) (comes : Bool) (row : Row) → IsShortRow row → GivesRow (row_made items row) → GivesRow (row_after after items comes row)
sent_short None items comes row h made = made
sent_short (Some key) items true row h made = made
sent_short (Some key) items false row h made = key_row_short (image_of items key) (plain_row items row) (plain_short row (handed items) h)

pub projects_stay : ProjectsStayInRange
projects_stay project tame = stays (project_change project) (λ change h. with_short change (row_sent project (adds change.kind) change.row)
    (sent_short project.after project.items (adds change.kind) change.row h (collected (map (λ meaning. meaning change.row) (map eval project.items)) (items_give change.row h project.items tame))))

-- ---- unions and sinks

pub unions_stay : UnionsStayInRange
unions_stay union = stays union_change (λ change h. (h, tt))

pub sinks_stay : SinksStayInRange
sinks_stay sink = stays (sink_change sink) (λ change h. (told_short (print_mode sink) (adds change.kind) change.row h, tt))

-- ---- normalizes

left_short : (b : Bool) (row : Row) → IsShortRow row → IsShortIf (row_left b row)
left_short true row h = h
left_short false row h = tt

module _ (normalize : Normalize) where
  one_short : (n : ℕ) (rows : Rows) (change : Change) → AreShort n rows → IsShort change → AllByRecursion IsShort (normalized normalize rows change)
  one_short n rows change h short =
      emission_short normalize.output (row_at rows normalize.key change.row) (row_left (adds change.kind) change.row)
      (found_short (λ other. same_row (project normalize.key change.row) (project normalize.key other)) (items rows) h.each) (left_short (adds change.kind) change.row short)

  all_short : (n : ℕ) (rows : Rows) (changes : List Change) → AreShort n rows → AllByRecursion IsShort changes → AllByRecursion IsShort (normalized_all normalize rows changes)
  all_short n rows [] h short = tt
  all_short n rows (change ∷ changes) h short =
      all-append IsShort (normalized normalize rows change) (normalized_all normalize (apply (upsert normalize.key) rows change) changes) (one_short n rows change h short.0)
      (all_short (n + 1) (apply (upsert normalize.key) rows change) changes (one_after (upsert normalize.key) n rows change short.0 h) short.1)

pub normalizes_stay : NormalizesStayInRange
normalizes_stay normalize = record {
  opens = λ subtask. tt;
  answers = λ before piece h k few.
      all_short normalize (0 + length (changes_of before)) (fold (upsert normalize.key) (changes_of before)) (changes_of piece)
      (all_after (upsert normalize.key) 0 none (changes_of before) (changes_short before h) none_short) (changes_short piece k);
}
