-- Set operations of a sound plan fit between their edges.
use Rattle.std.specs.Prelude.{◌≡◌, ℕ, ◌+◌, ◌<◌, ◌≤◌, ◌⊎◌, ◌==◌, ◌||◌, ◌&&◌, Bool, not, List, ◌++◌, length, Option, option_map, is_some}
use Rattle.std.proofs.Common.{zero, suc, true, false, [], ◌∷◌, refl, sym, ap, subst, ◌∙◌, inl, inr, arith, Some, None, ⊎_elim}
use Rattle.std.specs.List.{AllByRecursion, Contains, range_with_len}
use Rattle.std.proofs.lemmas.Bool.{eqb-true}
use Rattle.std.proofs.lemmas.List.{take_all}
use Rattle.ct_value.specs.Rows.{project}
use Rattle.ct_value.specs.declared.row.Row.{Row}
use Rattle.ct_value.specs.declared.ty.Ty.{Ty}
use Rattle.ct_value.specs.declared.ty.ColTy.{ColTy}
use Rattle.ct_change.specs.Changelog.{has}
use Rattle.ct_change.specs.declared.kind.KindSet.{KindSet}
use Rattle.rel_algebra.specs.Joins.{left_columns, right_columns}
use Rattle.ct_catalog.specs.declared.table.TableDef.{TableDef}
use Rattle.ct_expr.specs.Types.{common_ty}
use Rattle.rel_algebra.specs.declared.join.Pair.{Pair}
use Rattle.rel_algebra.specs.Clauses.{Fits}
use Rattle.rel_algebra.specs.Sets.{set_kind, set_nullable, set_column, set_columns}
use Rattle.rel_algebra.specs.Types.{pair_fits, pairs_fit}
use Rattle.rel_algebra.proofs.laws.Fits.{fits-length}
use Rattle.rel_algebra.proofs.laws.Sets.{set_columns-lengths}
use Rattle.typing_laws.proofs.laws.CommonColumns.{both_parts, if_all, set_row}
use Rattle.op_rules.specs.Edges.{HoldsOver, IsSeen, LiesIn, hash}
use Rattle.emission_rules.specs.SetOps.{SetOperation, TellsApart, IsKeyOf, InputFits, SetFits}
use Rattle.emission_rules.proofs.laws.Columns.{project-first}
use Rattle.phys_plan.specs.declared.edge.Exchange.TheVariants.{Hash}
use Rattle.phys_plan.specs.declared.node.KeyInfo.{KeyInfo}
use Rattle.phys_plan.specs.declared.node.Op.{Op}
use Rattle.phys_plan.specs.declared.node.Op.TheVariants as op
use Rattle.column_sets.specs.Places.{first_columns}
use Rattle.column_sets.specs.Sets.{family}
use Rattle.upsert_keys.specs.Joins.{when}
use Rattle.upsert_keys.specs.Keys.{set_operation_sets}
use Rattle.upsert_keys.specs.Seen.{everywhere, families}
use Rattle.mode_infer.specs.Kinds.{set_kinds}
use Rattle.mode_infer.specs.Updates.{in_full, told}
use Rattle.plan_rules.specs.Plans.{route_by}
use Rattle.sound_plans.specs.Agrees.{Agrees, IsAsked, taken_by}
use Rattle.sound_plans.specs.JoinFits.{SetOperationsFit}
use Rattle.sound_plans.specs.Outputs.{AreWithin, IsProper, Output, edge_of, edges_of}
use Rattle.sound_plans.proofs.laws.JoinInputs.{exchanged, hashed, route_is}
use Rattle.sound_plans.proofs.laws.KeyFamilies.{each_family, of_family, of_when}
use Rattle.sound_plans.proofs.laws.Members.{of_append, only_one}
use Rattle.sound_plans.proofs.laws.Routes.{one_route, routed}
use Rattle.sound_plans.proofs.laws.RowInputs.{comes_full, reads_full, full_fits, fits_full, carries_full}
use Rattle.sound_plans.proofs.laws.Seen.{everywhere_within, seen_columns, seen_everywhere, seen_over_all, seen_unique}
use Rattle.sound_plans.proofs.laws.Sets.{lies_itself}
use Rattle.sound_plans.proofs.laws.Told.{told_unkeyed}
use Rattle.sound_plans.proofs.laws.Widths.{each_appended, each_when, first_within}

-- ---- columns of both sides

-- column by column, the pairs of columns at one place
abbrev places : ℕ → ℕ → List Pair
places from zero = []
places from (suc n) = record { left = from; right = from } ∷ places (from + 1) n

lefts : (from n : ℕ) → left_columns (places from n) ≡ range_with_len from n
lefts from zero = refl
lefts from (suc n) = ap (λ (cs : List ℕ). from ∷ cs) (lefts (from + 1) n)

rights : (from n : ℕ) → right_columns (places from n) ≡ range_with_len from n
rights from zero = refl
rights from (suc n) = ap (λ (cs : List ℕ). from ∷ cs) (rights (from + 1) n)

there_is : {A B : Type 0} (f : A → B) (g : A → ColTy) (o : Option A) (b : B) → option_map f o ≡ Some b → is_some (option_map g o) ≡ true
there_is f g None b e = absurd (cc)
there_is f g (Some a) b e = refl

module _ (except : Bool) where
  -- what is left of two lists of columns, by the operation's
  abbrev Parts : ColTy → ColTy → List ColTy → List ColTy → List ColTy → Type 0
  Parts left right ls rs made = (column : ColTy) × (columns : List ColTy) × (set_column (set_kind except) left right ≡ Some column) × (set_columns (set_kind except) ls rs ≡ Some columns) × (column ∷ columns ≡ made)

  parts : (left right : ColTy) (ls rs made : List ColTy) → set_columns (set_kind except) (left ∷ ls) (right ∷ rs) ≡ Some made → Parts left right ls rs made
  parts left right ls rs made e =
      let p = both_parts (λ column columns. Some (column ∷ columns)) (set_column (set_kind except) left right) (set_columns (set_kind except) ls rs) made e in
      (p.0, p.1, p.2, p.3, let q = p.4 in cc)

  fit_at : (ls rs made : List ColTy) → set_columns (set_kind except) ls rs ≡ Some made → (n : ℕ) → n < length ls → pair_fits ls rs (record { left = n; right = n }) ≡ true
  fit_at [] rs made e n l = absurd (omega arith)
  fit_at (left ∷ ls) [] made e n l = absurd (cc)
  fit_at (left ∷ ls) (right ∷ rs) made e zero l =
      let p = parts left right ls rs made e in
      let own : Ty → ColTy = λ ty. record { ty = ty; nullable = set_nullable (set_kind except) left right } in
      let common : Ty → ColTy = λ ty. record { ty = ty; nullable = left.nullable || right.nullable } in
      there_is own common (common_ty left.ty right.ty) p.0 p.2
  fit_at (left ∷ ls) (right ∷ rs) made e (suc n) l = let p = parts left right ls rs made e in fit_at ls rs p.1 p.3 n (omega arith)

  fit_from : (ls rs made : List ColTy) → set_columns (set_kind except) ls rs ≡ Some made → (from n : ℕ) → from + n ≤ length ls → pairs_fit ls rs (places from n) ≡ true
  fit_from ls rs made e from zero l = refl
  fit_from ls rs made e from (suc n) l =
      (λ i. fit_at ls rs made e from (omega arith) i && pairs_fit ls rs (places (from + 1) n)) ∙ fit_from ls rs made e (from + 1) n (omega arith)

-- ---- whole rows

-- rows of some columns that agree on all of them are one
all_tell : (columns : List ColTy) → TellsApart columns (first_columns (length columns))
all_tell columns a b h k e = sym (whole a h) ∙ e ∙ whole b k
  where
    whole : (row : Row) → Fits columns row → project (first_columns (length columns)) row ≡ row
    whole row f =
        let w = fits-length columns row f in
        project-first (length columns) row (omega arith) ∙ take_all (length columns) row (omega arith)

-- ---- the node

module _ (many : ℕ) (some : 0 < many) (sources : List TableDef) (sink : TableDef) (except all : Bool) (columns : ℕ) (left right own : Output)
    (agrees : Agrees sources sink (op.SetOp except all columns) (left ∷ (right ∷ [])) own) where
  abbrev both : Op
  both = op.SetOp except all columns

  abbrev s : SetOperation
  s = record { except = except; all = all }

  abbrev left_asked : IsAsked sink both own.edge.update 0 left
  left_asked = agrees.inputs_asked.0

  abbrev right_asked : IsAsked sink both own.edge.update 1 right
  right_asked = agrees.inputs_asked.1.0

  -- what comes and what leaves is told in full
  untaken : (port : ℕ) (key : Option (List ℕ)) → taken_by sink both port own.edge.update key ≡ false
  untaken port None = refl
  untaken port (Some key) = refl

  left_full : left.edge.update ≡ in_full left.sent
  left_full = comes_full sink both own.edge.update 0 left left_asked (untaken 0 left.update_key)

  right_full : right.edge.update ≡ in_full right.sent
  right_full = comes_full sink both own.edge.update 1 right right_asked (untaken 1 right.update_key)

  own_full : own.edge.update ≡ in_full own.sent
  own_full = agrees.tells ∙ ap (λ key. told own.sent key agrees.taken) agrees.updates

  -- so many columns
  typed : ((length left.columns == columns) ≡ true) × (set_columns (set_kind except) left.columns right.columns ≡ Some own.columns)
  typed = if_all (length left.columns == columns) (set_columns (set_kind except) left.columns right.columns) own.columns agrees.typed

  left_many : length left.columns ≡ columns
  left_many = eqb-true (length left.columns) columns typed.0

  made_many : (length own.columns ≡ length left.columns) × (length own.columns ≡ length right.columns)
  made_many = set_columns-lengths (set_kind except) left.columns right.columns own.columns typed.1

  -- both edges go by them
  abbrev every : List ℕ
  every = first_columns columns

  left_hash : left.edge.exchange ≡ Hash every
  left_hash = exchanged many some sink both own.edge.update 0 every left left_asked refl

  right_hash : right.edge.exchange ≡ Hash every
  right_hash = exchanged many some sink both own.edge.update 1 every right right_asked refl

  fit : pairs_fit left.columns right.columns (places 0 columns) ≡ true
  fit = fit_from except left.columns right.columns own.columns typed.1 0 columns (let w = left_many in omega arith)

  together : (key : Row) → (edge_of many left).route key ≡ (edge_of many right).route key
  together key =
      route_is many some sink both own.edge.update 0 every left left_asked refl key
      ∙ ap (λ set. route_by many left.columns (hash set) key) (sym (lefts 0 columns))
      ∙ one_route left.columns right.columns many (places 0 columns) fit key
      ∙ ap (λ set. route_by many right.columns (hash set) key) (rights 0 columns)
      ∙ sym (route_is many some sink both own.edge.update 1 every right right_asked refl key)

  input_fits : (port : ℕ) (input : Output) → IsAsked sink both own.edge.update port input → input.edge.update ≡ in_full input.sent → InputFits many every input.columns (edge_of many input)
  input_fits port input asks full = record {
    reads = reads_full input full;
    hashed = hashed many some sink both own.edge.update port every input asks refl;
    routed = λ key. subst (λ n. n < many) (sym (route_is many some sink both own.edge.update port every input asks refl key)) (routed many some input.columns every key);
    fits = λ change h. full_fits input full change h;
    holds = λ row h. h;
  }

  -- the kinds that leave
  kinds_are : set_kinds except left.edge.kinds right.edge.kinds ≡ own.edge.kinds
  kinds_are =
      (λ i. set_kinds except (carries_full left left_asked.carries left_full i) (carries_full right right_asked.carries right_full i))
      ∙ sym (carries_full own agrees.carries own_full ∙ agrees.sends)

  -- ---- keys

  keys : own.keys ≡ families (set_operation_sets except all (length left.columns) left.keys.unique right.keys.unique)
      (set_operation_sets except all (length left.columns) (everywhere left.keys) (everywhere right.keys)) (first_columns (length left.columns) ∷ [])
  keys = agrees.keyed
      ∙ (λ i. families (set_operation_sets except all (length (seen_columns left i)) (seen_unique left i) (seen_unique right i))
      (set_operation_sets except all (length (seen_columns left i)) (seen_everywhere left i) (seen_everywhere right i)) (first_columns (length (seen_columns left i)) ∷ []))

  -- a key of the left; under INTERSECT one of the right; or all columns, where each row stands once
  key_of_sets : (L R : List ℕ → Type 0) (lefts rights : List (List ℕ)) → ((set : List ℕ) → Contains lefts set → L set) → ((set : List ℕ) → Contains rights set → R set)
      → (key : List ℕ) → Contains (set_operation_sets except all (length left.columns) lefts rights) key → IsKeyOf s left.columns L R key
  key_of_sets L R lefts rights of_left of_right key c =
      ⊎_elim (λ d. inl (key, of_left key d, lies_itself key)) (λ d. ⊎_elim others every_column (of_append (when (not except) rights) (when (not all) (first_columns (length left.columns) ∷ [])) key d))
      (of_append lefts (when (not except) rights ++ when (not all) (first_columns (length left.columns) ∷ [])) key c)
    where
      negated : (b : Bool) → not b ≡ true → b ≡ false
      negated true e = absurd (cc)
      negated false e = refl

      others : Contains (when (not except) rights) key → IsKeyOf s left.columns L R key
      others d = let w = of_when (not except) rights key d in inr (inl (negated except w.0, (key, of_right key w.1, lies_itself key)))

      every_column : Contains (when (not all) (first_columns (length left.columns) ∷ [])) key → IsKeyOf s left.columns L R key
      every_column d =
          let w = of_when (not all) (first_columns (length left.columns) ∷ []) key d in
          inr (inr (negated all w.0, subst (λ set. TellsApart left.columns set) (only_one (first_columns (length left.columns)) key w.1) (all_tell left.columns)))

  abbrev Of : Output → List ℕ → Type 0
  Of input set = Contains input.keys.unique set ⊎ HoldsOver (edge_of many input) set

  unique : (key : List ℕ) → Contains own.keys.unique key → IsKeyOf s left.columns (Of left) (Of right) key
  unique key c =
      key_of_sets (Of left) (Of right) left.keys.unique right.keys.unique (λ set d. inl d) (λ set d. inl d) key
      (of_family (set_operation_sets except all (length left.columns) left.keys.unique right.keys.unique) key (subst (λ (k : KeyInfo). Contains k.unique key) keys c))

  local : (key : List ℕ) → Contains own.keys.local key → IsKeyOf s left.columns (IsSeen (edge_of many left)) (IsSeen (edge_of many right)) key
  local key c =
      key_of_sets (IsSeen (edge_of many left)) (IsSeen (edge_of many right)) (everywhere left.keys) (everywhere right.keys)
      (λ set d. seen_over_all many left set every left_hash d) (λ set d. seen_over_all many right set every right_hash d) key
      (of_family (set_operation_sets except all (length left.columns) (everywhere left.keys) (everywhere right.keys)) key (subst (λ (k : KeyInfo). Contains k.local key) keys c))

  fixing : (set : List ℕ) → Contains own.keys.fixing set → LiesIn every set
  fixing set c =
      let one = of_family (first_columns (length left.columns) ∷ []) set (subst (λ (k : KeyInfo). Contains k.fixing set) keys c) in
      subst (λ (t : List ℕ). LiesIn every t) (ap first_columns (sym left_many) ∙ only_one (first_columns (length left.columns)) set one) (lies_itself every)

  between : SetFits many s every left.columns right.columns (edges_of many (left ∷ (right ∷ []))) (edge_of many own)
  between = record {
    left = input_fits 0 left left_asked left_full;
    right = input_fits 1 right right_asked right_full;
    together = together;
    writes = reads_full own own_full;
    kinds = λ kind h. subst (λ (k : KindSet). has k kind ≡ true) kinds_are h;
    fits = λ change h k. fits_full own own_full change (set_row except left.columns right.columns own.columns change.row typed.1 h k);
    holds = λ row h k. set_row except left.columns right.columns own.columns row typed.1 h k;
    unique = unique;
    local = local;
    fixing = fixing;
  }

  -- ---- their columns are there

  sets_within : (lefts rights : List (List ℕ)) → AllByRecursion (AreWithin (length left.columns)) lefts → AllByRecursion (AreWithin (length right.columns)) rights
      → AllByRecursion (AreWithin (length own.columns)) (set_operation_sets except all (length left.columns) lefts rights)
  sets_within ls rs h k =
      let w = length own.columns in
      each_appended w ls (when (not except) rs ++ when (not all) (first_columns (length left.columns) ∷ []))
      (subst (λ n. AllByRecursion (AreWithin n) ls) (sym made_many.0) h)
      (each_appended w (when (not except) rs) (when (not all) (first_columns (length left.columns) ∷ []))
      (each_when w (not except) rs (subst (λ n. AllByRecursion (AreWithin n) rs) (sym made_many.1) k))
      (each_when w (not all) (first_columns (length left.columns) ∷ []) (first_within (length left.columns) w (let m = made_many.0 in omega arith), tt)))

  within : (sets made : List (List ℕ)) → made ≡ family sets → AllByRecursion (AreWithin (length own.columns)) sets → AllByRecursion (AreWithin (length own.columns)) made
  within sets made e h = subst (λ (t : List (List ℕ)). AllByRecursion (AreWithin (length own.columns)) t) (sym e) (each_family (AreWithin (length own.columns)) sets h)

  proper : IsProper own
  proper = record {
    unique = within (set_operation_sets except all (length left.columns) left.keys.unique right.keys.unique) own.keys.unique (ap (λ (k : KeyInfo). k.unique) keys)
        (sets_within left.keys.unique right.keys.unique left_asked.proper.unique right_asked.proper.unique);
    local = within (set_operation_sets except all (length left.columns) (everywhere left.keys) (everywhere right.keys)) own.keys.local (ap (λ (k : KeyInfo). k.local) keys)
        (sets_within (everywhere left.keys) (everywhere right.keys) (everywhere_within left left_asked.proper) (everywhere_within right right_asked.proper));
    fixing = within (first_columns (length left.columns) ∷ []) own.keys.fixing (ap (λ (k : KeyInfo). k.fixing) keys)
        (first_within (length left.columns) (length own.columns) (let m = made_many.0 in omega arith), tt);
    update_key = λ key e. absurd (let wrong : None ≡ Some key = sym agrees.updates ∙ e in cc);
    told = told_unkeyed own agrees.taken agrees.updates agrees.tells;
    inserts = subst (λ (kinds : KindSet). kinds.i ≡ true) (sym agrees.sends) refl;
    replaces = subst (λ (kinds : KindSet). kinds.ub ≡ true → kinds.ua ≡ true) (sym agrees.sends) (λ e. absurd (cc));
  }

pub set_operations_fit : SetOperationsFit
set_operations_fit many some sources sink except all columns left right own agrees =
    (between many some sources sink except all columns left right own agrees, proper many some sources sink except all columns left right own agrees)
