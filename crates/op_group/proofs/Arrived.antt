-- Arrivals, each of which may come after those before it, as the changes of a piece.
use Rattle.std.proofs.Common.{◌≡◌, ℕ, ◌<◌, ◌≤◌, ◌+◌, List, [], ◌∷◌, ◌++◌, length, map, take, cond, refl, sym, ap, subst, ◌∙◌, arith, length-append}
use Rattle.std.proofs.lemmas.List.{length-map}
use Rattle.std.specs.List.{AllByRecursion}
use Rattle.std.specs.BTreeMap.{BTreeMap}
use Rattle.std.proofs.lemmas.Bool.{eq-eqb}
use Rattle.ct_value.specs.declared.row.Row.{Row}
use Rattle.ct_change.specs.declared.change.Change.{Change}
use Rattle.ct_change.specs.Changelog.{Mode, Rows, kinds_of, apply, fold, fold_from, IsValidFrom, MayCome}
use Rattle.ct_change.proofs.laws.Folds.{fold-push}
use Rattle.op_rules.specs.History.{Arrival, at_port}
use Rattle.op_rules.specs.Rules.{ArriveAfter, MayTakePiece}
use Rattle.op_rules.proofs.laws.Histories.{at_port-push, rows_after}
use Rattle.op_rules.proofs.laws.Values.{types-length}
use Rattle.emission_rules.specs.Grouping.{Grouping, groups_of, answers, group_emits, emits, group_rule, IsSound}
use Rattle.emission_rules.proofs.laws.Pieces.{long_wide}
use Rattle.op_group.specs.declared.kept.Kept.{Kept}
use Rattle.op_group.specs.declared.groups.GroupBy.{GroupBy}
use Rattle.op_group.specs.Groups.{grouping, IsGrouped, IsSet}
use Rattle.op_group.specs.Folding.{AreOf, HaveKeys, IsPieceOf, MayFold}
use Rattle.op_group.specs.Bundles.{MayTakeAll}
use Rattle.op_group.proofs.Folded.{alone}

-- what arrived, as changes at the port
pub record Arrived (g : Grouping) (rows : Rows) (piece : List Arrival) : Type 0 where
  pub valid : IsValidFrom g.input rows (at_port 0 piece)
  pub long : AllByRecursion (λ change. g.keys ≤ length change.row) (at_port 0 piece)
  pub keyed : HaveKeys g (at_port 0 piece)
  pub all : map (λ a. a.change) piece ≡ at_port 0 piece

first_port : (port : ℕ) → port < 1 → port ≡ 0
first_port port less = omega arith

pub arrived : (g : Grouping) → IsSound g → (before piece : List Arrival) → ArriveAfter (group_rule g) before piece → Arrived g (fold g.input (at_port 0 before)) piece
arrived g sound before [] arrive = record { valid = tt; long = tt; keyed = tt; all = refl }
arrived g sound before (a ∷ others) arrive =
    let port = first_port a.port arrive.0.port in
    let now : at_port 0 (a ∷ others) ≡ a.change ∷ at_port 0 others = ap (λ b. cond b (a.change ∷ at_port 0 others) (at_port 0 others)) (eq-eqb a.port 0 port) in
    let rest = arrived g sound (before ++ a ∷ []) others arrive.1 in
    let may = subst (λ p. MayCome g.input (fold g.input (at_port p before)) a.change) port arrive.0.change in
    let next : fold g.input (at_port 0 (before ++ a ∷ [])) ≡ apply g.input (fold g.input (at_port 0 before)) a.change = ap (fold g.input) (at_port-push 0 before a port) ∙ fold-push g.input (at_port 0 before) a.change in
    let long = long_wide g sound (λ _. Unit {0}) (kinds_of g.input) a.change.row (types-length g.columns a.change.row arrive.0.fits) in
    record {
      valid = subst (IsValidFrom g.input (fold g.input (at_port 0 before))) (sym now) ((may, subst (λ r. IsValidFrom g.input r (at_port 0 others)) next rest.valid));
      long = subst (AllByRecursion (λ change. g.keys ≤ length change.row)) (sym now) ((long, rest.long));
      keyed = subst (HaveKeys g) (sym now) ((arrive.0.key, rest.keyed));
      all = ap (λ l. a.change ∷ l) rest.all ∙ sym now;
    }

of_each : (g : Grouping) (key : Row) (changes : List Change) → AllByRecursion (λ change. g.keys ≤ length change.row) changes → AllByRecursion (λ change. take g.keys change.row ≡ key) changes → AreOf g key changes
of_each g key [] long of = tt
of_each g key (change ∷ changes) long of = ((long.0, of.0), of_each g key changes long.1 of.1)

module _ (by : GroupBy) (input output : Mode) (before piece : List Arrival) (groups : BTreeMap Row Kept) (set : IsSet by (grouping by input output)) (grouped : IsGrouped by (grouping by input output) (fold input (at_port 0 before)) groups (length before)) (changes : List Change) where
  abbrev g : Grouping
  g = grouping by input output

  size_of : at_port 0 piece ≡ changes → Arrived g (fold input (at_port 0 before)) piece → length changes ≡ length piece
  size_of is came = ap length (sym (came.all ∙ is)) ∙ length-map piece (λ (a : Arrival). a.change)

  -- ---- of one group

  module _ (key : Row) (of : IsPieceOf by.keys (group_rule (grouping by input output)) before piece key changes) where
    came : Arrived g (fold input (at_port 0 before)) piece
    came = arrived g set.0 before piece of.arrive

    pub may_fold : MayFold by (grouping by input output) (fold input (at_port 0 before)) groups (length before) key changes
    may_fold = record {
      set = set;
      grouped = grouped;
      valid = subst (IsValidFrom input (fold input (at_port 0 before))) of.is came.valid;
      of = of_each g key changes (subst (AllByRecursion (λ change. by.keys ≤ length change.row)) of.is came.long) of.of;
      keyed = subst (HaveKeys g) of.is came.keyed;
      few = let size = size_of of.is came in omega (arith, size, of.few);
    }

    pub fold_size : length changes ≡ length piece
    fold_size = size_of of.is came

  -- ---- of many

  module _ (may : MayTakePiece (group_rule (grouping by input output)) before piece changes) where
    piece_came : Arrived g (fold input (at_port 0 before)) piece
    piece_came = arrived g set.0 before piece may.arrive

    pub piece_is : at_port 0 piece ≡ changes
    piece_is = sym piece_came.all ∙ may.is

    pub may_take_all : MayTakeAll by (grouping by input output) (fold input (at_port 0 before)) groups (length before) changes
    may_take_all = record {
      set = set;
      grouped = grouped;
      valid = subst (IsValidFrom input (fold input (at_port 0 before))) piece_is piece_came.valid;
      long = subst (AllByRecursion (λ change. by.keys ≤ length change.row)) piece_is piece_came.long;
      keyed = subst (HaveKeys g) piece_is piece_came.keyed;
      few = let size = size_of piece_is piece_came in omega (arith, size, may.few);
    }

    pub piece_size : length changes ≡ length piece
    piece_size = size_of piece_is piece_came

  -- ---- after it

  pub rows_then : at_port 0 piece ≡ changes → fold input (at_port 0 (before ++ piece)) ≡ fold_from input (fold input (at_port 0 before)) changes
  rows_then is = rows_after input before piece ∙ ap (fold_from input (fold input (at_port 0 before))) is

  pub grouped_then : (new : BTreeMap Row Kept) → at_port 0 piece ≡ changes → length changes ≡ length piece → IsGrouped by (grouping by input output) (fold_from input (fold input (at_port 0 before)) changes) new (length before + length changes)
      → IsGrouped by (grouping by input output) (fold input (at_port 0 (before ++ piece))) new (length (before ++ piece))
  grouped_then new is size after =
      subst (λ r. IsGrouped by g r new (length (before ++ piece))) (sym (rows_then is))
      (subst (λ n. IsGrouped by g (fold_from input (fold input (at_port 0 before)) changes) new n) (ap (λ n. length before + n) size ∙ sym (length-append before piece)) after)

  pub emits_then : at_port 0 piece ≡ changes → emits (grouping by input output) before piece ≡ answers (group_emits (grouping by input output) (fold input (at_port 0 before)) changes) (groups_of by.keys changes)
  emits_then is = ap (λ l. answers (group_emits g (fold input (at_port 0 before)) l) (groups_of by.keys l)) is

  pub emits_alone : (key : Row) (of : IsPieceOf by.keys (group_rule (grouping by input output)) before piece key changes) → emits (grouping by input output) before piece ≡ group_emits (grouping by input output) (fold input (at_port 0 before)) changes key
  emits_alone key of = emits_then of.is ∙ alone g (fold input (at_port 0 before)) key changes (may_fold key of).of (grouped.counted key)
