-- The columns that the rule on types finds are those of the network.
use Rattle.std.specs.Prelude.{◌≡◌, ℕ, ◌+◌, ◌<◌, ◌≤◌, Bool, List, ◌++◌, get_or, length, map, slice_get, Option, is_some, option_and_then, unwrap_or}
use Rattle.std.proofs.Common.{zero, suc, true, false, [], ◌∷◌, refl, sym, ap, subst, ◌∙◌, arith, Some, None}
use Rattle.std.specs.List.{AllByRecursion, list_all}
use Rattle.ct_value.specs.declared.ty.ColTy.{ColTy}
use Rattle.ct_catalog.specs.declared.table.TableDef.{TableDef}
use Rattle.rel_algebra.specs.declared.agg.Agg.{Agg}
use Rattle.rel_algebra.specs.Groups.{group_columns}
use Rattle.rel_algebra.specs.Types.{columns_if, is_column}
use Rattle.phys_plan.specs.declared.node.Node.{Node}
use Rattle.phys_plan.specs.declared.node.Op.{Op}
use Rattle.phys_plan.specs.declared.node.Op.TheVariants as op
use Rattle.phys_plan.specs.Reading.{numbered}
use Rattle.plan_rules.specs.Columns.{columns_by, numbered_columns, node_columns, only}
use Rattle.sound_plans.proofs.laws.Numbers.{columns_made}
use Rattle.phys_plan.specs.Columns.{columns_in}
use Rattle.plan_check.specs.Types.{all_types, grouped_columns, is_typed_by, keyed_columns, next_types, types_after, types_at, types_by}
use Rattle.plan_check.specs.Sound.{columns_or_none, sent_columns}
use Rattle.plan_rules.specs.Behaviours.{has_rule}
use Rattle.sound_plans.proofs.laws.Lists.{the_same, map_same}

-- ---- the columns of a node are made of those of its inputs

pub longer : {A : Type 0} (xs : List A) (x : A) → length (xs ++ x ∷ []) ≡ suc (length xs)
longer [] x = refl
longer (y ∷ xs) x = ap suc (longer xs x)

in_front : {A : Type 0} (xs ys : List A) (n : ℕ) → n < length xs → slice_get (xs ++ ys) n ≡ slice_get xs n
in_front [] ys n l = absurd (omega arith)
in_front (x ∷ xs) ys zero l = refl
in_front (x ∷ xs) ys (suc n) l = in_front xs ys n (omega arith)

at_end : {A : Type 0} (xs : List A) (x : A) → slice_get (xs ++ x ∷ []) (length xs) ≡ Some x
at_end [] x = refl
at_end (y ∷ xs) x = at_end xs x

all-map : {A : Type 0} (P Q : A → Type 0) → ((x : A) → P x → Q x) → (xs : List A) → AllByRecursion P xs → AllByRecursion Q xs
all-map P Q f [] h = tt
all-map P Q f (x ∷ xs) h = (f x h.0, all-map P Q f xs h.1)

module _ (sources : List TableDef) where
  stays : (done : List (Option (List ColTy))) (nodes : List Node) (n : ℕ) → n < length done → slice_get (types_after sources done nodes) n ≡ slice_get done n
  stays done [] n l = refl
  stays done (node ∷ nodes) n l =
      stays (done ++ next_types sources done node ∷ []) nodes n (let e = longer done (next_types sources done node) in omega arith)
      ∙ in_front done (next_types sources done node ∷ []) n l

  number_stays : (done : List (Option (List ColTy))) (nodes : List Node) (v : ℕ) → v ≤ length done → numbered_columns done v ≡ numbered_columns (types_after sources done nodes) v
  number_stays done nodes zero l = refl
  number_stays done nodes (suc n) l = ap (option_and_then (λ columns. columns)) (sym (stays done nodes n (omega arith)))

  type_from : (done : List (Option (List ColTy))) (nodes : List Node) (k : ℕ) (node : Node) → slice_get nodes k ≡ Some node → AllByRecursion (λ v. v ≤ length done + k) node.inputs
      → slice_get (types_after sources done nodes) (length done + k) ≡ Some (types_by sources node.op (map (numbered_columns (types_after sources done nodes)) node.inputs))
  type_from done [] k node e b = absurd (cc)
  type_from done (first ∷ nodes) zero node e b =
      let cs = types_after sources done (first ∷ nodes) in
      let x = next_types sources done first in
      let here : length done + 0 ≡ length done = omega arith in
      let there : slice_get cs (length done) ≡ Some x = stays (done ++ x ∷ []) nodes (length done) (let l = longer done x in omega arith) ∙ at_end done x in
      ap (slice_get cs) here ∙ there ∙ ap (λ (n : Node). Some (next_types sources done n)) (the_same first node e)
      ∙ ap (λ inputs. Some (types_by sources node.op inputs))
      (map_same (numbered_columns done) (numbered_columns cs) node.inputs (all-map (λ v. v ≤ length done + 0) (λ v. numbered_columns done v ≡ numbered_columns cs v) (λ v l. number_stays done (first ∷ nodes) v (omega arith)) node.inputs b))
  type_from done (first ∷ nodes) (suc k) node e b =
      let x = next_types sources done first in
      let d = longer done x in
      let i : length (done ++ x ∷ []) + k ≡ length done + suc k = omega arith in
      ap (slice_get (types_after sources (done ++ x ∷ []) nodes)) (sym i)
      ∙ type_from (done ++ x ∷ []) nodes k node e (subst (λ n. AllByRecursion (λ v. v ≤ n) node.inputs) (sym i) b)

pub types_made : (sources : List TableDef) (nodes : List Node) (v : ℕ) (node : Node) → numbered nodes v ≡ Some node → AllByRecursion (λ input. input < v) node.inputs
    → types_at sources nodes v ≡ types_by sources node.op (map (types_at sources nodes) node.inputs)
types_made sources nodes zero node e b = absurd (cc)
types_made sources nodes (suc k) node e b =
    let i : 0 + k ≡ k = omega arith in
    ap (option_and_then (λ columns. columns))
    (ap (slice_get (all_types sources nodes)) (sym i) ∙ type_from sources [] nodes k node e (all-map (λ input. input < suc k) (λ v. v ≤ 0 + k) (λ v l. omega arith) node.inputs b))

-- ---- one node

-- what passes rows on by a key asks besides that the key's columns are there
pub passes_on : (key : List ℕ) (inputs : List (Option (List ColTy))) (made : List ColTy) → option_and_then (keyed_columns key) (only inputs) ≡ Some made → (only inputs ≡ Some made) × (list_all (is_column made) key ≡ true)
passes_on key [] made e = absurd (cc)
passes_on key (None ∷ []) made e = absurd (cc)
passes_on key (Some columns ∷ []) made e = go (list_all (is_column columns) key) refl e
  where
    go : (b : Bool) → list_all (is_column columns) key ≡ b → columns_if b columns ≡ Some made → (Some columns ≡ Some made) × (list_all (is_column made) key ≡ true)
    go true i f = (f, sym (ap (λ (c : List ColTy). list_all (is_column c) key) (the_same columns made f)) ∙ i)
    go false i f = absurd (cc)
passes_on key (input ∷ (other ∷ inputs)) made e = absurd (cc)

-- a local group asks besides that groups of rows that have them have columns
pub grouped_on : (keys : ℕ) (aggs : List Agg) (inputs : List (Option (List ColTy))) (made : List ColTy) → option_and_then (grouped_columns keys aggs) (only inputs) ≡ Some made
    → (only inputs ≡ Some made) × (is_some (group_columns keys made aggs) ≡ true)
grouped_on keys aggs [] made e = absurd (cc)
grouped_on keys aggs (None ∷ []) made e = absurd (cc)
grouped_on keys aggs (Some columns ∷ []) made e = go (is_some (group_columns keys columns aggs)) refl e
  where
    go : (b : Bool) → is_some (group_columns keys columns aggs) ≡ b → columns_if b columns ≡ Some made → (Some columns ≡ Some made) × (is_some (group_columns keys made aggs) ≡ true)
    go true i f = (f, sym (ap (λ (c : List ColTy). is_some (group_columns keys c aggs)) (the_same columns made f)) ∙ i)
    go false i f = absurd (cc)
grouped_on keys aggs (input ∷ (other ∷ inputs)) made e = absurd (cc)

-- where the rule gives columns, the network has the same
pub same_columns : (sources : List TableDef) (o : Op) (inputs : List (Option (List ColTy))) (made : List ColTy) → has_rule o ≡ true → types_by sources o inputs ≡ Some made → columns_by sources o inputs ≡ Some made
same_columns sources (op.Normalize key) inputs made r e = (passes_on key inputs made e).0
same_columns sources (op.Materialize key) inputs made r e = (passes_on key inputs made e).0
same_columns sources (op.LocalGroup keys aggs) inputs made r e = (grouped_on keys aggs inputs made e).0
same_columns sources (op.MultiJoin on) inputs made r e = absurd (cc)
same_columns sources _ inputs made r e = e

has_columns : (sink : TableDef) (o : Op) (columns : Option (List ColTy)) → is_typed_by sink o columns ≡ true → (c : List ColTy) × (columns ≡ Some c)
has_columns sink o None e = absurd (no_columns o e)
  where
    no_columns : (p : Op) → is_typed_by sink p None ≡ true → ⊥
    no_columns p f = cc
has_columns sink o (Some c) e = (c, refl)

-- ---- all nodes

module _ (sources : List TableDef) (sink : TableDef) (nodes : List Node) (rules : (v : ℕ) (node : Node) → numbered nodes v ≡ Some node → has_rule node.op ≡ true)
    (before : (v : ℕ) (node : Node) → numbered nodes v ≡ Some node → AllByRecursion (λ input. (node_of : Node) × (numbered nodes input ≡ Some node_of) × (input < v)) node.inputs)
    (typed : (v : ℕ) (node : Node) → numbered nodes v ≡ Some node → is_typed_by sink node.op (types_at sources nodes v) ≡ true) where
  lower : (v : ℕ) (node : Node) → numbered nodes v ≡ Some node → AllByRecursion (λ input. input < v) node.inputs
  lower v node e = all-map (λ input. (node_of : Node) × (numbered nodes input ≡ Some node_of) × (input < v)) (λ input. input < v) (λ input h. h.2) node.inputs (before v node e)

  -- by the numbers below a bound
  agree : (bound v : ℕ) (node : Node) → v < bound → numbered nodes v ≡ Some node → types_at sources nodes v ≡ node_columns sources nodes v
  agree zero v node l e = absurd (omega arith)
  agree (suc bound) v node l e =
      let c = has_columns sink node.op (types_at sources nodes v) (typed v node e) in
      let made = types_made sources nodes v node e (lower v node e) in
      let inputs = map_same (types_at sources nodes) (node_columns sources nodes) node.inputs
      (all-map (λ input. (node_of : Node) × (numbered nodes input ≡ Some node_of) × (input < v)) (λ input. types_at sources nodes input ≡ node_columns sources nodes input) (λ input h. agree bound input h.0 (let k = h.2 in omega arith) h.1) node.inputs (before v node e)) in
      let same = same_columns sources node.op (map (types_at sources nodes) node.inputs) c.0 (rules v node e) (sym made ∙ c.1) in
      c.1 ∙ sym (columns_made sources nodes v node e (lower v node e) ∙ ap (columns_by sources node.op) (sym inputs) ∙ same)

  pub columns_are : (v : ℕ) (node : Node) → numbered nodes v ≡ Some node → (c : List ColTy) × (types_at sources nodes v ≡ Some c) × (node_columns sources nodes v ≡ Some c)
  columns_are v node e =
      let c = has_columns sink node.op (types_at sources nodes v) (typed v node e) in
      (c.0, c.1, sym (agree (suc v) v node (omega arith) e) ∙ c.1)

  -- the columns of a node by those of its inputs, as the rule counts them
  pub typed_by : (v : ℕ) (node : Node) → numbered nodes v ≡ Some node → types_at sources nodes v ≡ types_by sources node.op (map (types_at sources nodes) node.inputs)
  typed_by v node e = types_made sources nodes v node e (lower v node e)

-- in the table of the inferences too
table_at : (types : List (Option (List ColTy))) (v : ℕ) (c : List ColTy) → numbered_columns types v ≡ Some c → columns_in (sent_columns types) v ≡ c
table_at types zero c e = absurd (cc)
table_at types (suc n) c e = go types n e
  where
    go : (ts : List (Option (List ColTy))) (k : ℕ) → option_and_then (λ columns. columns) (slice_get ts k) ≡ Some c → get_or (map columns_or_none ts) k [] ≡ c
    go [] k f = absurd (cc)
    go (t ∷ ts) zero f = ap (λ o. unwrap_or o []) f
    go (t ∷ ts) (suc k) f = go ts k f

pub inferred_columns : (sources : List TableDef) (nodes : List Node) (v : ℕ) (c : List ColTy) → types_at sources nodes v ≡ Some c → columns_in (sent_columns (all_types sources nodes)) v ≡ c
inferred_columns sources nodes v c e = table_at (all_types sources nodes) v c e
