-- Rules that are never out of range: those of nodes that calculate nothing. What such a node hands on has texts as short as a field's, where
-- what it took has, so that not even the number of a text's characters leaves the range of its type.
use Rattle.std.specs.Prelude.{◌≡◌, ℕ, ◌+◌, ◌*◌, ◌<◌, ◌≤◌, ℤ, pos, neg_ℤ, ◌≤ℤ◌, true, List, [], ◌∷◌, drop, length, Option, Some, None, Ok, Err}
use Rattle.std.specs.List.{AllByRecursion, list_all}
use Rattle.ct_value.specs.declared.row.Row.{Row}
use Rattle.ct_value.specs.declared.value.Value.{Value}
use Rattle.ct_field.specs.Typed.{cell}
use Rattle.ct_change.specs.declared.change.Change.{Change}
use Rattle.agg_fns.specs.Reading.{Part, adds_to_sum}
use Rattle.range_rules.specs.Tame.{is_short, is_tame, only_counts, rest_is_tame}
use Rattle.op_rules.specs.History.{Arrival}
use Rattle.op_rules.specs.Rules.{Answer, Rule}
use Rattle.emission_rules.specs.Filter.{Filter, filter_rule}
use Rattle.emission_rules.specs.Project.{Project, project_rule}
use Rattle.emission_rules.specs.Union.{Union, union_rule}
use Rattle.emission_rules.specs.Normalize.{Normalize, normalize_rule}
use Rattle.emission_rules.specs.Materialize.{materialize_rule}
use Rattle.emission_rules.specs.SetOps.{SetOperation, set_rule}
use Rattle.emission_rules.specs.Sink.{Sink, sink_rule}
use Rattle.emission_rules.specs.Grouping.{Grouping, group_rule}
use Rattle.emission_rules.specs.Joining.{Joining, join_rule}
use Rattle.emission_rules.specs.Ranking.{Ranking, topn_rule}
use Rattle.phase_rules.specs.LocalGrouping.{LocalGrouping, SumsUp, local_rule, parts}
use Rattle.phase_rules.specs.Merging.{Merging, merge_rule}

-- the texts of a row are short
abbrev pub IsShortRow : Row → Type 0
IsShortRow row = AllByRecursion (λ value. is_short value ≡ true) row

-- the texts of a change are, and of a change that arrives
abbrev pub IsShort : Change → Type 0
IsShort change = IsShortRow change.row

abbrev pub ArrivesShort : Arrival → Type 0
ArrivesShort a = IsShort a.change

-- an answer is not out of range, and this holds of its changes
abbrev pub IsAnswerOf : (Change → Type 0) → Answer → Type 0
IsAnswerOf goes (Ok changes) = AllByRecursion goes changes
IsAnswerOf goes (Err row) = ⊥

-- its changes have short texts
abbrev pub IsShortAnswer : Answer → Type 0
IsShortAnswer answer = IsAnswerOf IsShort answer

-- a subtask opens with changes of short texts, and answers each piece in range, with short texts again, where those that it took are short
-- and the changes can be counted by a BIGINT
pub record StaysInRange (opening : ℕ → List Change) (emits : List Arrival → List Arrival → Answer) : Type 0 where
  pub opens : (subtask : ℕ) → AllByRecursion IsShort (opening subtask)
  pub answers : (before piece : List Arrival) → AllByRecursion ArrivesShort before → AllByRecursion ArrivesShort piece
      → length before + length piece < 9223372036854775808 → IsShortAnswer (emits before piece)

abbrev pub RuleStaysInRange : Rule → Type 0
RuleStaysInRange rule = StaysInRange rule.opening rule.emits

-- ---- by rule

abbrev pub FiltersStayInRange : Type 0
FiltersStayInRange = (filter : Filter) → is_tame filter.condition ≡ true → RuleStaysInRange (filter_rule filter)

abbrev pub ProjectsStayInRange : Type 0
ProjectsStayInRange = (project : Project) → list_all is_tame project.items ≡ true → RuleStaysInRange (project_rule project)

abbrev pub UnionsStayInRange : Type 0
UnionsStayInRange = (union : Union) → RuleStaysInRange (union_rule union)

abbrev pub NormalizesStayInRange : Type 0
NormalizesStayInRange = (normalize : Normalize) → RuleStaysInRange (normalize_rule normalize)

abbrev pub MaterializesStayInRange : Type 0
MaterializesStayInRange = (key : List ℕ) → RuleStaysInRange (materialize_rule key)

abbrev pub SinksStayInRange : Type 0
SinksStayInRange = (sink : Sink) → RuleStaysInRange (sink_rule sink)

abbrev pub GroupsStayInRange : Type 0
GroupsStayInRange = (g : Grouping) → list_all (λ agg. only_counts agg.call) g.aggs ≡ true → RuleStaysInRange (group_rule g)

abbrev pub JoinsStayInRange : Type 0
JoinsStayInRange = (j : Joining) → rest_is_tame j.rest ≡ true → RuleStaysInRange (join_rule j)

abbrev pub SetOperationsStayInRange : Type 0
SetOperationsStayInRange = (s : SetOperation) → RuleStaysInRange (set_rule s)

abbrev pub TopNsStayInRange : Type 0
TopNsStayInRange = (r : Ranking) → RuleStaysInRange (topn_rule r)

-- ---- in two phases

-- a number of at most this magnitude
pub record IsUpTo (most : ℕ) (n : ℤ) : Type 0 where
  pub low : neg_ℤ (pos most) ≤ℤ n
  pub high : n ≤ℤ pos most

-- what values add to the sums of these parts is at most so much
abbrev pub AreUpTo : ℕ → List Part → List Value → Type 0
AreUpTo most [] values = Unit {0}
AreUpTo most (part ∷ parts) values = IsUpTo most (adds_to_sum part (cell 0 values)) × AreUpTo most parts (drop 1 values)

-- a partial row with short texts, which adds at most so much to each sum
pub record IsShortPart (most : ℕ) (l : LocalGrouping) (change : Change) : Type 0 where
  pub short : IsShort change
  pub adds : AreUpTo most (parts l.aggs) (drop l.keys change.row)

-- what a node sends: rows, or partial rows by a local grouping, each of which sums up no more changes than a piece has
abbrev pub GoesShort : ℕ → Option LocalGrouping → Change → Type 0
GoesShort most None change = IsShort change
GoesShort most (Some l) change = IsShortPart most l change

-- what comes to a rule, to its first port from such a node
pub record ComesShort (most : ℕ) (partial : Option LocalGrouping) (rule : Rule) (a : Arrival) : Type 0 where
  pub short : ArrivesShort a
  pub sent : a.port ≡ 0 → GoesShort most partial a.change
  pub fits : rule.fits a.port a.change ≡ true

-- a rule between nodes that send such changes is never out of range, where a piece has at most so many changes, and all pieces together
pub record StaysBetween (piece_size limit : ℕ) (partial own : Option LocalGrouping) (rule : Rule) : Type 0 where
  pub opens : (subtask : ℕ) → AllByRecursion (GoesShort piece_size own) (rule.opening subtask)
  pub answers : (before piece : List Arrival) → AllByRecursion (ComesShort piece_size partial rule) before → AllByRecursion (ComesShort piece_size partial rule) piece
      → length piece ≤ piece_size → length before + length piece ≤ limit → IsAnswerOf (GoesShort piece_size own) (rule.emits before piece)

-- a local group whose calls count or choose, whatever comes to it
abbrev pub LocalGroupsStayInRange : Type 0
LocalGroupsStayInRange = (l : LocalGrouping) → SumsUp l → list_all (λ agg. only_counts agg.call) l.aggs ≡ true
    → (piece_size limit : ℕ) (partial : Option LocalGrouping) → StaysBetween piece_size limit partial (Some l) (local_rule l)

-- a group that merges its partial rows, where all that they sum up can be counted by a BIGINT
abbrev pub MergingGroupsStayInRange : Type 0
MergingGroupsStayInRange = (m : Merging) → SumsUp m.local → list_all (λ agg. only_counts agg.call) m.local.aggs ≡ true
    → (piece_size limit : ℕ) → limit * piece_size < 9223372036854775808 → StaysBetween piece_size limit (Some m.local) None (merge_rule m)
