-- Joins and semi joins of a sound plan fit between their edges.
use Rattle.std.specs.Prelude.{◌≡◌, ℕ, ◌+◌, ◌<◌, ◌⊎◌, Bool, List, ◌++◌, length, map, Option, option_map}
use Rattle.std.proofs.Common.{true, [], ◌∷◌, refl, sym, ap, subst, ◌∙◌, inl, arith, Some, None, length-append}
use Rattle.std.proofs.lemmas.List.{length-map}
use Rattle.std.specs.List.{AllByRecursion, Contains}
use Rattle.ct_value.specs.declared.row.Row.{Row}
use Rattle.ct_value.specs.declared.ty.ColTy.{ColTy}
use Rattle.ct_field.specs.Typed.{row_fits}
use Rattle.ct_change.specs.Changelog.{has}
use Rattle.ct_change.specs.declared.kind.KindSet.{KindSet}
use Rattle.ct_catalog.specs.declared.table.TableDef.{TableDef}
use Rattle.ct_expr.specs.Expr.{Expr as View}
use Rattle.ct_expr.specs.View.{expr_view}
use Rattle.ct_expr.specs.declared.expr.Expr.{Expr}
use Rattle.rel_algebra.specs.declared.join.JoinKind.{JoinKind}
use Rattle.rel_algebra.specs.declared.join.Pair.{Pair}
use Rattle.rel_algebra.specs.Joins.{join_columns, keeps_left, keeps_right, nullable_if, left_columns, right_columns}
use Rattle.rel_algebra.proofs.laws.Fits.{first}
use Rattle.rel_algebra.specs.Types.{is_condition_if, match_fits, pairs_fit}
use Rattle.op_rules.specs.Edges.{Edge, HoldsOver, IsSeen, LiesIn, bag}
use Rattle.emission_rules.specs.Joining.{Joining, Shape, joins, matched}
use Rattle.emission_rules.specs.JoinFits.{FixesBy, IsKeyBy, JoinFits, columns_by, kinds_by}
use Rattle.phys_plan.specs.declared.edge.Exchange.TheVariants.{Hash}
use Rattle.phys_plan.specs.declared.node.KeyInfo.{KeyInfo}
use Rattle.phys_plan.specs.declared.node.Op.{Op}
use Rattle.phys_plan.specs.declared.node.Op.TheVariants as op
use Rattle.column_sets.specs.Places.{shifted}
use Rattle.column_sets.specs.Sets.{family, set_of}
use Rattle.upsert_keys.specs.Joins.{join_fixing, join_keys, join_sets, semi_keys}
use Rattle.upsert_keys.specs.Seen.{everywhere, families, seen_over}
use Rattle.mode_infer.specs.Kinds.{asked}
use Rattle.mode_infer.specs.Modes.{edge_kinds}
use Rattle.mode_infer.specs.Updates.{in_full, told}
use Rattle.plan_rules.specs.Plans.{meaning_by}
use Rattle.plan_rules.specs.Around.{join_of, joining_of, semi_of}
use Rattle.sound_plans.specs.Agrees.{Agrees, Carries, IsAsked}
use Rattle.sound_plans.specs.Outputs.{AreWithin, IsProper, Output, around_by, edge_of, edges_of, seen}
use Rattle.sound_plans.proofs.laws.KeyFamilies.{each_family, of_family}
use Rattle.sound_plans.proofs.laws.Members.{only_one}
use Rattle.sound_plans.proofs.laws.Seen.{everywhere_within, seen_hashed, seen_over_all}
use Rattle.sound_plans.proofs.laws.Sets.{lies_in_set, lies_itself}
use Rattle.sound_plans.proofs.laws.Widths.{set_within}
use Rattle.sound_plans.specs.JoinFits.{JoinsFit, SemisFit}
use Rattle.sound_plans.proofs.laws.JoinColumns.{made_if}
use Rattle.sound_plans.proofs.laws.JoinInputs.{exchanged, input_fits, route_is}
use Rattle.sound_plans.proofs.laws.Joined.{fixes, fixing_within, inferred, key_of_join, sets_within}
use Rattle.sound_plans.proofs.laws.Kinds.{IsLess, are_sent, join_inferred, join_inserts, join_replaces, kinds_less, of_full, semi_inferred, semi_replaces}
use Rattle.sound_plans.proofs.laws.RowInputs.{fits_full}
use Rattle.sound_plans.proofs.laws.Told.{told_unkeyed}
use Rattle.sound_plans.proofs.laws.Routes.{left_within, one_route, right_within}

-- ---- two inputs that are asked for by the columns of pairs

module _ (many : ℕ) (some : 0 < many) (sink : TableDef) (o : Op) (on : List Pair) (left right own : Output) (left_asked : IsAsked sink o own.edge.update 0 left)
    (right_asked : IsAsked sink o own.edge.update 1 right) (asks_left : asked o 0 ≡ Some (left_columns on)) (asks_right : asked o 1 ≡ Some (right_columns on)) where
  abbrev from : ℕ → Edge
  from = edges_of many (left ∷ (right ∷ []))

  -- the edges go by those columns
  left_hash : left.edge.exchange ≡ Hash (left_columns on)
  left_hash = exchanged many some sink o own.edge.update 0 (left_columns on) left left_asked asks_left

  right_hash : right.edge.exchange ≡ Hash (right_columns on)
  right_hash = exchanged many some sink o own.edge.update 1 (right_columns on) right right_asked asks_right

  -- what is seen of their keys
  left_seen : seen left ≡ seen_over (Hash (left_columns on)) left.columns left.keys
  left_seen = seen_hashed left (left_columns on) left_hash

  right_seen : seen right ≡ seen_over (Hash (right_columns on)) right.columns right.keys
  right_seen = seen_hashed right (right_columns on) right_hash

  -- and holds of each subtask
  left_local : (key : List ℕ) → Contains (everywhere left.keys) key → IsSeen (from 0) key
  left_local key c = seen_over_all many left key (left_columns on) left_hash c

  right_local : (key : List ℕ) → Contains (everywhere right.keys) key → IsSeen (from 1) key
  right_local key c = seen_over_all many right key (right_columns on) right_hash c

  -- what leaves has the old rows wherever it has updates
  module _ (shape : Shape) (rest : Option View) (fit : pairs_fit left.columns right.columns on ≡ true) (made : columns_by shape left.columns right.columns ≡ own.columns) (whole : own.edge.update ≡ in_full own.sent)
      (carries : Carries own) (sends : IsLess (kinds_by shape left.sent right.sent) own.sent) where
    abbrev joining : Joining
    joining = joining_of shape on rest (around_by sink (left ∷ (right ∷ [])) own)

    -- one route
    together : (key : Row) → (from 0).route key ≡ (from 1).route key
    together key =
        route_is many some sink o own.edge.update 0 (left_columns on) left left_asked asks_left key
        ∙ one_route left.columns right.columns many on fit key
        ∙ sym (route_is many some sink o own.edge.update 1 (right_columns on) right right_asked asks_right key)

    -- a bag, of all that is sent
    writes : meaning_by own.edge.update ≡ bag
    writes = subst (λ update. meaning_by update ≡ bag) (sym whole) (of_full (λ update. meaning_by update ≡ bag) own.sent refl refl)

    all_kinds : own.edge.kinds ≡ own.sent
    all_kinds = carries ∙ subst (λ update. edge_kinds own.sent update ≡ own.sent) (sym whole) (of_full (λ update. edge_kinds own.sent update ≡ own.sent) own.sent refl refl)

    -- no more comes than is sent
    left_less : IsLess left.edge.kinds left.sent
    left_less = subst (λ kinds. IsLess kinds left.sent) (sym left_asked.carries) (are_sent left.sent left.edge.update)

    right_less : IsLess right.edge.kinds right.sent
    right_less = subst (λ kinds. IsLess kinds right.sent) (sym right_asked.carries) (are_sent right.sent right.edge.update)

    -- so that with keys the join fits
    join_fits : ((key : List ℕ) → Contains own.keys.unique key → IsKeyBy shape (λ columns. Contains (from 0).unique columns ⊎ HoldsOver (from 0) columns) (λ columns. Contains (from 1).unique columns ⊎ HoldsOver (from 1) columns) joining key)
        → ((key : List ℕ) → Contains own.keys.local key → IsKeyBy shape (IsSeen (from 0)) (IsSeen (from 1)) joining key)
        → ((set : List ℕ) → Contains own.keys.fixing set → FixesBy shape joining set) → JoinFits many joining from (edge_of many own)
    join_fits unique local fixing = record {
      left = input_fits many some sink o own.edge.update 0 (left_columns on) left left_asked asks_left;
      right = input_fits many some sink o own.edge.update 1 (right_columns on) right right_asked asks_right;
      together = together;
      within = left_within left.columns right.columns on fit;
      writes = writes;
      out_kinds = λ kind h. subst (λ kinds. has kinds kind ≡ true) (sym all_kinds) (sends kind (kinds_less shape left.edge.kinds right.edge.kinds left.sent right.sent left_less right_less kind h));
      out_fits = λ change h. fits_full own whole change (subst (λ columns. row_fits columns change.row ≡ true) made h);
      out_holds = λ row h. subst (λ columns. row_fits columns row ≡ true) made h;
      unique = unique;
      local = local;
      fixing = fixing;
    }

-- ---- joins

-- as many columns as both sides have
join_width : (kind : JoinKind) (left right : List ColTy) → length left + length right ≡ length (join_columns kind left right)
join_width kind left right =
    omega (
      arith,
      length-append (map (nullable_if (keeps_right kind)) left) (map (nullable_if (keeps_left kind)) right),
      length-map left (nullable_if (keeps_right kind)),
      length-map right (nullable_if (keeps_left kind)),
    )

module _ (many : ℕ) (some : 0 < many) (sources : List TableDef) (sink : TableDef) (kind : JoinKind) (on : List Pair) (rest : Option Expr) (left right own : Output)
    (agrees : Agrees sources sink (op.Join kind on rest) (left ∷ (right ∷ [])) own) where
  abbrev join : Op
  join = op.Join kind on rest

  abbrev condition : Option View
  condition = option_map expr_view rest

  abbrev left_asked : IsAsked sink join own.edge.update 0 left
  left_asked = agrees.inputs_asked.0

  abbrev right_asked : IsAsked sink join own.edge.update 1 right
  right_asked = agrees.inputs_asked.1.0

  abbrev j : Joining
  j = join_of kind on condition (around_by sink (left ∷ (right ∷ [])) own)

  -- the pairs fit, and the columns are those of both sides
  typed : (match_fits left.columns right.columns on condition ≡ true) × (join_columns kind left.columns right.columns ≡ own.columns)
  typed = made_if (match_fits left.columns right.columns on condition) (join_columns kind left.columns right.columns) own.columns agrees.typed

  fit : pairs_fit left.columns right.columns on ≡ true
  fit = first (pairs_fit left.columns right.columns on) (is_condition_if (left.columns ++ right.columns) condition) typed.0

  -- ---- keys

  abbrev unique_sets : List (List ℕ)
  unique_sets = join_sets kind (inferred j kind) left.keys.unique (shifted (length left.columns) right.keys.unique)

  abbrev local_sets : List (List ℕ)
  local_sets = join_sets kind (inferred j kind) (everywhere left.keys) (shifted (length left.columns) (everywhere right.keys))

  abbrev fixing_sets : List (List ℕ)
  fixing_sets = join_fixing kind (inferred j kind)

  -- those that are inferred
  keys : own.keys ≡ families unique_sets local_sets fixing_sets
  keys =
      let l = left_seen many some sink join on left right own left_asked right_asked refl refl in
      let r = right_seen many some sink join on left right own left_asked right_asked refl refl in
      agrees.keyed ∙ (λ i. join_keys kind on (l i) (r i))

  unique_is : own.keys.unique ≡ family unique_sets
  unique_is = ap (λ (k : KeyInfo). k.unique) keys

  local_is : own.keys.local ≡ family local_sets
  local_is = ap (λ (k : KeyInfo). k.local) keys

  fixing_is : own.keys.fixing ≡ family fixing_sets
  fixing_is = ap (λ (k : KeyInfo). k.fixing) keys

  -- what counts as a key of answers of a side
  abbrev Of : Output → List ℕ → Type 0
  Of input columns = Contains input.keys.unique columns ⊎ HoldsOver (edge_of many input) columns

  unique : (key : List ℕ) → Contains own.keys.unique key → IsKeyBy (joins kind) (Of left) (Of right) j key
  unique key c =
      key_of_join j (Of left) (Of right) left.keys.unique right.keys.unique (λ set d. inl d) (λ set d. inl d) left_asked.proper.unique kind key
      (of_family unique_sets key (subst (λ (sets : List (List ℕ)). Contains sets key) unique_is c))

  local : (key : List ℕ) → Contains own.keys.local key → IsKeyBy (joins kind) (IsSeen (edge_of many left)) (IsSeen (edge_of many right)) j key
  local key c =
      key_of_join j (IsSeen (edge_of many left)) (IsSeen (edge_of many right)) (everywhere left.keys) (everywhere right.keys)
      (left_local many some sink join on left right own left_asked right_asked refl refl)
      (right_local many some sink join on left right own left_asked right_asked refl refl)
      (everywhere_within left left_asked.proper) kind key
      (of_family local_sets key (subst (λ (sets : List (List ℕ)). Contains sets key) local_is c))

  fixing : (set : List ℕ) → Contains own.keys.fixing set → FixesBy (joins kind) j set
  fixing set c = fixes j kind set (subst (λ (sets : List (List ℕ)). Contains sets set) fixing_is c)

  -- ---- their columns are there

  wide : length left.columns + length right.columns ≡ length own.columns
  wide = join_width kind left.columns right.columns ∙ ap (λ (columns : List ColTy). length columns) typed.1

  -- of a family, in all columns
  moved : (sets made : List (List ℕ)) → made ≡ family sets → AllByRecursion (AreWithin (length left.columns + length right.columns)) sets → AllByRecursion (AreWithin (length own.columns)) made
  moved sets made e h =
      subst (λ (s : List (List ℕ)). AllByRecursion (AreWithin (length own.columns)) s) (sym e)
      (each_family (AreWithin (length own.columns)) sets (subst (λ n. AllByRecursion (AreWithin n) sets) wide h))

  pairs_within : AllByRecursion (AreWithin (length left.columns + length right.columns)) fixing_sets
  pairs_within = fixing_within j (left_within left.columns right.columns on fit) (right_within left.columns right.columns on fit) kind

  no_update_key : (key : List ℕ) → own.update_key ≡ Some key → AreWithin (length own.columns) key
  no_update_key key e = absurd (let wrong : None ≡ Some key = sym agrees.updates ∙ e in cc)

  join_proper : IsProper own
  join_proper = record {
    unique = moved unique_sets own.keys.unique unique_is (sets_within j left.keys.unique right.keys.unique left_asked.proper.unique right_asked.proper.unique kind);
    local = moved local_sets own.keys.local local_is
        (sets_within j (everywhere left.keys) (everywhere right.keys) (everywhere_within left left_asked.proper) (everywhere_within right right_asked.proper) kind);
    fixing = moved fixing_sets own.keys.fixing fixing_is pairs_within;
    update_key = no_update_key;
    told = told_unkeyed own agrees.taken agrees.updates agrees.tells;
    inserts = subst (λ (kinds : KindSet). kinds.i ≡ true) (sym agrees.sends) (join_inserts kind left.sent right.sent left_asked.proper.inserts);
    replaces = subst (λ (kinds : KindSet). kinds.ub ≡ true → kinds.ua ≡ true) (sym agrees.sends)
        (join_replaces kind left.sent right.sent left_asked.proper.replaces right_asked.proper.replaces);
  }

  join_between : JoinFits many j (edges_of many (left ∷ (right ∷ []))) (edge_of many own)
  join_between =
      join_fits many some sink join on left right own left_asked right_asked refl refl (joins kind) condition fit typed.1
      (agrees.tells ∙ ap (λ key. told own.sent key agrees.taken) agrees.updates) agrees.carries
      (subst (λ kinds. IsLess (kinds_by (joins kind) left.sent right.sent) kinds) (sym agrees.sends) (join_inferred kind left.sent right.sent left_asked.proper.inserts))
      unique local fixing

pub joins_fit : JoinsFit
joins_fit many some sources sink kind on rest left right own agrees =
    (join_between many some sources sink kind on rest left right own agrees, join_proper many some sources sink kind on rest left right own agrees)

-- ---- semi joins and anti joins

module _ (many : ℕ) (some : 0 < many) (sources : List TableDef) (sink : TableDef) (anti : Bool) (on : List Pair) (rest : Option Expr) (left right own : Output)
    (agrees : Agrees sources sink (op.Semi anti on rest) (left ∷ (right ∷ [])) own) where
  abbrev semi : Op
  semi = op.Semi anti on rest

  abbrev kept_if : Option View
  kept_if = option_map expr_view rest

  abbrev kept_from : IsAsked sink semi own.edge.update 0 left
  kept_from = agrees.inputs_asked.0

  abbrev looked_up : IsAsked sink semi own.edge.update 1 right
  looked_up = agrees.inputs_asked.1.0

  abbrev k : Joining
  k = semi_of anti on kept_if (around_by sink (left ∷ (right ∷ [])) own)

  -- the pairs fit, and the columns are those of the left
  kept_typed : (match_fits left.columns right.columns on kept_if ≡ true) × (left.columns ≡ own.columns)
  kept_typed = made_if (match_fits left.columns right.columns on kept_if) left.columns own.columns agrees.typed

  pairs_are_there : pairs_fit left.columns right.columns on ≡ true
  pairs_are_there = first (pairs_fit left.columns right.columns on) (is_condition_if (left.columns ++ right.columns) kept_if) kept_typed.0

  -- ---- keys

  -- those of the left, behind its exchange
  kept_keys : own.keys ≡ families left.keys.unique (everywhere left.keys) (set_of (left_columns on) ∷ [])
  kept_keys =
      let l = left_seen many some sink semi on left right own kept_from looked_up refl refl in
      agrees.keyed ∙ (λ i. semi_keys on (l i))

  -- what counts as a key of answers of a side
  abbrev IsOf : Output → List ℕ → Type 0
  IsOf input columns = Contains input.keys.unique columns ⊎ HoldsOver (edge_of many input) columns

  kept_unique : (key : List ℕ) → Contains own.keys.unique key → IsKeyBy (matched anti) (IsOf left) (IsOf right) k key
  kept_unique key c = (key, inl (of_family left.keys.unique key (subst (λ (info : KeyInfo). Contains info.unique key) kept_keys c)), lies_itself key)

  kept_local : (key : List ℕ) → Contains own.keys.local key → IsKeyBy (matched anti) (IsSeen (edge_of many left)) (IsSeen (edge_of many right)) k key
  kept_local key c =
      let old = of_family (everywhere left.keys) key (subst (λ (info : KeyInfo). Contains info.local key) kept_keys c) in
      (key, left_local many some sink semi on left right own kept_from looked_up refl refl key old, lies_itself key)

  kept_fixing : (set : List ℕ) → Contains own.keys.fixing set → FixesBy (matched anti) k set
  kept_fixing set c =
      let one = of_family (set_of (left_columns on) ∷ []) set (subst (λ (info : KeyInfo). Contains info.fixing set) kept_keys c) in
      subst (λ s. LiesIn (left_columns on) s) (only_one (set_of (left_columns on)) set one) (lies_in_set (left_columns on))

  -- ---- their columns are there

  -- of a family, in the left's columns
  kept_within : (sets made : List (List ℕ)) → made ≡ family sets → AllByRecursion (AreWithin (length left.columns)) sets → AllByRecursion (AreWithin (length own.columns)) made
  kept_within sets made e h =
      subst (λ (s : List (List ℕ)). AllByRecursion (AreWithin (length own.columns)) s) (sym e)
      (each_family (AreWithin (length own.columns)) sets (subst (λ (columns : List ColTy). AllByRecursion (AreWithin (length columns)) sets) kept_typed.1 h))

  semi_proper : IsProper own
  semi_proper = record {
    unique = kept_within left.keys.unique own.keys.unique (ap (λ (info : KeyInfo). info.unique) kept_keys) kept_from.proper.unique;
    local = kept_within (everywhere left.keys) own.keys.local (ap (λ (info : KeyInfo). info.local) kept_keys) (everywhere_within left kept_from.proper);
    fixing = kept_within (set_of (left_columns on) ∷ []) own.keys.fixing (ap (λ (info : KeyInfo). info.fixing) kept_keys)
        (set_within (length left.columns) (left_columns on) (left_within left.columns right.columns on pairs_are_there), tt);
    update_key = λ key e. absurd (let wrong : None ≡ Some key = sym agrees.updates ∙ e in cc);
    told = told_unkeyed own agrees.taken agrees.updates agrees.tells;
    inserts = subst (λ (kinds : KindSet). kinds.i ≡ true) (sym agrees.sends) kept_from.proper.inserts;
    replaces = subst (λ (kinds : KindSet). kinds.ub ≡ true → kinds.ua ≡ true) (sym agrees.sends) (semi_replaces anti left.sent right.sent kept_from.proper.replaces);
  }

  semi_between : JoinFits many k (edges_of many (left ∷ (right ∷ []))) (edge_of many own)
  semi_between =
      join_fits many some sink semi on left right own kept_from looked_up refl refl (matched anti) kept_if pairs_are_there kept_typed.1
      (agrees.tells ∙ ap (λ key. told own.sent key agrees.taken) agrees.updates) agrees.carries
      (subst (λ kinds. IsLess (kinds_by (matched anti) left.sent right.sent) kinds) (sym agrees.sends) (semi_inferred anti left.sent right.sent kept_from.proper.inserts))
      kept_unique kept_local kept_fixing

pub semis_fit : SemisFit
semis_fit many some sources sink anti on rest left right own agrees =
    (semi_between many some sources sink anti on rest left right own agrees, semi_proper many some sources sink anti on rest left right own agrees)
