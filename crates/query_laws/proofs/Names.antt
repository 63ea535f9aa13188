-- Trees over the columns in reach are bound to what they stand for.
use Rattle.std.proofs.Common.{◌≡◌, ℕ, suc, ◌+◌, Bool, true, false, List, [], ◌∷◌, ◌++◌, map, Option, Some, None, cond, Ok, IfOk, refl, ap, ◌∙◌, subst, option_and_then, option_map, slice_get, length, arith, append-nil}
use Rattle.ct_value.specs.declared.row.Row.{Row}
use Rattle.ct_value.specs.declared.ty.ColTy.{ColTy}
use Rattle.ct_value.specs.declared.ty.Ty.TheVariants.{Bool as Truths}
use Rattle.ct_value.specs.declared.value.Value.{Value}
use Rattle.ct_value.specs.declared.value.Value.TheVariants.{Null, Bool as Truth, Num, Text}
use Rattle.ct_field.specs.Typed.{is_true, cell}
use Rattle.ct_expr.specs.Expr as e
use Rattle.ct_expr.specs.Eval.{eval}
use Rattle.ct_expr.specs.Types.{type_of, same_ty, is_truths, all_truths, both_of, col}
use Rattle.ct_expr.specs.Values as v
use Rattle.rel_algebra.specs.Types.{is_boolean, is_condition}
use Rattle.rel_algebra.specs.Clauses.{holds}
use Rattle.sql_syntax.specs.Tree.{Tree}
use Rattle.sql_syntax.specs.Tree as t
use Rattle.query_answer.specs.declared.scope.Found.{Found}
use Rattle.query_answer.specs.declared.scope.Found.TheVariants.{Absent, At, Several}
use Rattle.query_answer.specs.declared.scope.ScopeColumn.{ScopeColumn}
use Rattle.query_answer.specs.Answer.{by, over, types}
use Rattle.query_answer.specs.Calls.{Call, calls}
use Rattle.query_answer.specs.Names.{Scope, Lookup, find, find_from, find_linked, or_outside, is_named, also, named, column_at}
use Rattle.query_answer.specs.Stands.{args_stand}
use Rattle.query_answer.specs.Table.{Typed, conjunction}
use Rattle.binding.specs.Checked.{◌>>=◌}
use Rattle.binding.specs.Expressions.{bound_by, bound_over, each_bound, names, names_by, column, found_column, may_change, args_bound, conditions, truths}
use Rattle.binding.specs.Nodes.{Bound}
use Rattle.binding.specs.Nodes as node_of
use Rattle.binding.specs.Queries.{all_of}
use Rattle.query_laws.proofs.Bound.{Known, bound_means, args_mean}
use Rattle.query_laws.proofs.Lists.{map_length, slice_before, slice_past, slice_there}
use Rattle.query_laws.proofs.Nodes as k
use Rattle.query_laws.proofs.Options.{bind, cond_true}
use Rattle.query_laws.proofs.Types.{same_itself, all_truths_are}

-- ---- look-up

-- a name found stands at its place
abbrev pub Stands : ℕ → Scope → Found → Type 0
Stands n scope Absent = Unit {0}
Stands n scope (At m ty) = (i : ℕ) × (m ≡ n + i) × (slice_get (types scope) i ≡ Some ty)
Stands n scope Several = Unit {0}

later : (n : ℕ) (c : ScopeColumn) (scope : Scope) (f : Found) → Stands (suc n) scope f → Stands n (c ∷ scope) f
later n c scope Absent h = tt
later n c scope (At m ty) h = (suc h.0, (let q : m ≡ suc n + h.0 = h.1 in omega arith), h.2)
later n c scope Several h = tt

one_more : (n : ℕ) (c : ScopeColumn) (scope : Scope) (f : Found) → Stands n (c ∷ scope) (also n c.ty f)
one_more n c scope Absent = (0, omega arith, refl)
one_more n c scope (At m ty) = tt
one_more n c scope Several = tt

which : (n : ℕ) (c : ScopeColumn) (scope : Scope) (b : Bool) (f : Found) → Stands (suc n) scope f → Stands n (c ∷ scope) (cond b (also n c.ty f) f)
which n c scope true f h = one_more n c scope f
which n c scope false f h = later n c scope f h

pub found_stands : (n : ℕ) (scope : Scope) (of : Option t.Text) (name : t.Text) → Stands n scope (find_from n scope of name)
found_stands n [] of name = tt
found_stands n (c ∷ scope) of name = which n c scope (is_named of name c) (find_from (suc n) scope of name) (found_stands (suc n) scope of name)

-- a column that is there has its type
pub column_typed : (cols : List ColTy) (n : ℕ) (ty : ColTy) → slice_get cols n ≡ Some ty → type_of (e.Column n ty.ty) cols ≡ Some ty
column_typed cols n ty h = ap (option_and_then (λ c. cond (same_ty c.ty ty.ty) (Some c) None)) h ∙ ap (λ b. cond b (Some ty) None) (same_itself ty.ty)

-- ---- trees whose names stand for columns by a look-up

abbrev pub SameRow : Row → Row → Type 0
SameRow r g = r ≡ g

-- what is found is a column that is there, of its type
abbrev pub IsThere : List ColTy → Found → Type 0
IsThere cols Absent = Unit {0}
IsThere cols (At n ty) = slice_get cols n ≡ Some ty
IsThere cols Several = Unit {0}

abbrev pub LooksUp : List ColTy → Lookup → Type 0
LooksUp cols look = (of : Option t.Text) (name : t.Text) → IsThere cols (look of name)

at_place : (scope : Scope) (more : List ColTy) (f : Found) → Stands 0 scope f → IsThere (types scope ++ more) f
at_place scope more Absent h = tt
at_place scope more (At n ty) h =
    let q : n ≡ 0 + h.0 = h.1 in
    let p : h.0 ≡ n = omega arith in
    let there : slice_get (types scope) n ≡ Some ty = subst (λ m. slice_get (types scope) m ≡ Some ty) p h.2 in
    slice_before (types scope) more n (slice_there (types scope) n ty there) ∙ there
at_place scope more Several h = tt

-- more columns may stand behind those in reach
pub finds_before : (scope : Scope) (more : List ColTy) → LooksUp (types scope ++ more) (find scope)
finds_before scope more of name = at_place scope more (find scope of name) (found_stands 0 scope of name)

pub finds : (scope : Scope) → LooksUp (types scope) (find scope)
finds scope = subst (λ cols. LooksUp cols (find scope)) (append-nil (types scope)) (finds_before scope [])

behind : (outside own : Scope) (f : Found) → Stands (length outside) own f → IsThere (types outside ++ types own) f
behind outside own Absent h = tt
behind outside own (At n ty) h =
    ap (slice_get (types outside ++ types own)) (let q : n ≡ length outside + h.0 = h.1 in let w = map_length (λ c. c.ty) outside in let p : n ≡ length (types outside) + h.0 = omega arith in p)
    ∙ slice_past (types outside) (types own) h.0 ∙ h.2
behind outside own Several h = tt

either : (cols : List ColTy) (f g : Found) → IsThere cols f → IsThere cols g → IsThere cols (or_outside f g)
either cols Absent g h k = k
either cols (At n ty) g h k = h
either cols Several g h k = tt

pub finds_linked : (outside own : Scope) → LooksUp (types outside ++ types own) (find_linked outside own)
finds_linked outside own of name =
    either (types outside ++ types own) (find_from (length outside) own of name) (find outside of name)
    (behind outside own (find_from (length outside) own of name) (found_stands (length outside) own of name)) (finds_before outside (types own) of name)

pub column_there : (cols : List ColTy) (n : ℕ) (ty : ColTy) → slice_get cols n ≡ Some ty → k.Is cols SameRow (column n ty) (column_at (At n ty))
column_there cols n ty h = (refl, column_typed cols n ty h, λ r g q i. Some (cell n (q i)))

module _ (cols : List ColTy) (look : Lookup) (there : LooksUp cols look) where
  name_is : (changing : Bool) (f : Found) → IsThere cols f → IfOk (found_column changing f >>= λ x. Ok (Some x)) (λ o. k.MayBe cols SameRow o (Some (column_at f)))
  name_is true Absent h = tt
  name_is false Absent h = tt
  name_is changing (At n ty) h = column_there cols n ty h
  name_is changing Several h = tt

  names_fit : (n : ℕ) (x : Tree) → IfOk (names_by look n x) (λ o. k.MayBe cols SameRow o (named look x))
  names_fit n (t.Name of name quoted) = name_is (may_change of name quoted) (look of name) (there of name)
  names_fit n _ = tt

  abbrev Nothing : ℕ → Call → Type 0
  Nothing n c = Unit {0}

  none_known : (n : ℕ) (cs : List Call) → Known cols SameRow (named look) (names_by look) Nothing n cs
  none_known n [] = tt
  none_known n (c ∷ cs) = (tt, none_known (suc n) cs)

  pub by_means : (x : Tree) → IfOk (bound_by look x) (λ y. k.Is cols SameRow y (by look x))
  by_means x = bound_means cols SameRow (named look) (names_by look) Nothing (λ n y h. names_fit n y) x 0 (none_known 0 (calls x))

  pub args_by : (args : t.Args) → IfOk (args_bound (names_by look) 0 args) (λ ys. k.AllAre cols SameRow ys (args_stand (named look) args))
  args_by args = args_mean cols SameRow (named look) (names_by look) Nothing (λ n y h. names_fit n y) args 0 (none_known 0 _)

module _ (scope : Scope) where
  -- over rows of the columns in reach
  abbrev pub Same : Row → Row → Type 0
  Same r g = r ≡ g

  abbrev pub Is : Bound → Typed → Type 0
  Is = k.Is (types scope) Same

  abbrev pub AllAre : List Bound → List Typed → Type 0
  AllAre = k.AllAre (types scope) Same

  abbrev pub MayBe : Option Bound → Option Typed → Type 0
  MayBe = k.MayBe (types scope) Same

  pub column_is : (n : ℕ) (ty : ColTy) → slice_get (types scope) n ≡ Some ty → Is (column n ty) (column_at (At n ty))
  column_is n ty h = column_there (types scope) n ty h

  pub over_means : (x : Tree) → IfOk (bound_over scope x) (λ y. Is y (over scope x))
  over_means x = by_means (types scope) (find scope) (finds scope) x

  pub args_over : (args : t.Args) → IfOk (args_bound (names scope) 0 args) (λ ys. AllAre ys (args_stand (named (find scope)) args))
  args_over args = args_by (types scope) (find scope) (finds scope) args

  pub each_means : (xs : List Tree) → IfOk (each_bound scope xs) (λ ys. AllAre ys (map (over scope) xs))
  each_means [] = tt
  each_means (x ∷ xs) =
      bind (bound_over scope x) _ (λ y. Is y (over scope x)) _ (over_means x) (λ y p.
      bind (each_bound scope xs) _ (λ ys. AllAre ys (map (over scope) xs)) _ (each_means xs) (λ ys q. (p, q)))

  -- ---- conditions

  pub all_append : (xs ys : List Bound) (zs ws : List Typed) → AllAre xs zs → AllAre ys ws → AllAre (xs ++ ys) (zs ++ ws)
  all_append [] ys [] ws h l = l
  all_append [] ys (z ∷ zs) ws h l = absurd h
  all_append (x ∷ xs) ys [] ws h l = absurd h
  all_append (x ∷ xs) ys (z ∷ zs) ws h l = (h.0, all_append xs ys zs ws h.1 l)

  -- those that are BOOLEAN are themselves
  abbrev pub AreTruths : List Bound → Type 0
  AreTruths ys = (c : ColTy) × (all_truths (node_of.columns ys) ≡ Some c)

  pub conditions_are : (ys : List Bound) (P : List Bound → Type 0) → P ys → IfOk (conditions ys) (λ zs. P zs × AreTruths zs)
  conditions_are ys P h = go (all_truths (node_of.columns ys)) refl
    where
      go : (o : Option ColTy) → all_truths (node_of.columns ys) ≡ o → IfOk (truths ys o) (λ zs. P zs × AreTruths zs)
      go None q = tt
      go (Some c) q = (h, (c, q))

-- ---- conditions as one

module _ (cols : List ColTy) where
  true_of : (w : Value) → is_true w ≡ is_true (v.and_of (Truth true) w)
  true_of Null = refl
  true_of (Truth true) = refl
  true_of (Truth false) = refl
  true_of (Num n) = refl
  true_of (Text x) = refl

  alone : (o : Option Value) → option_map is_true o ≡ option_map is_true (both_of (λ a w. Some (v.and_of a w)) (Some (Truth true)) o)
  alone None = refl
  alone (Some w) = ap Some (true_of w)

  -- the condition of a Filter keeps what all conjuncts keep
  pub all_hold : (ys : List Bound) (zs : List Typed) → k.AllAre cols SameRow ys zs → holds (eval (all_of ys)) ≡ holds (conjunction zs).value
  all_hold [] [] h = refl
  all_hold [] (z ∷ zs) h = absurd h
  all_hold (y ∷ ys) [] h = absurd h
  all_hold (y ∷ []) (z ∷ []) h = λ i row. (ap (option_map is_true) (h.0.2 row row refl) ∙ alone (z.value row)) i
  all_hold (y ∷ []) (z ∷ w ∷ zs) h = absurd h.1
  all_hold (y ∷ x ∷ ys) (z ∷ []) h = absurd h.1
  all_hold (y ∷ x ∷ ys) (z ∷ w ∷ zs) h = λ i row. option_map is_true (v.conjunction (k.evals_are cols SameRow (y ∷ x ∷ ys) (z ∷ w ∷ zs) h row row refl i))

  -- and it is BOOLEAN
  abbrev pub IsTruths : List Bound → Type 0
  IsTruths ys = (c : ColTy) × (all_truths (node_of.columns ys) ≡ Some c)

  boolean_of : (c : ColTy) → c.ty ≡ Truths → is_truths c.ty ≡ true
  boolean_of c q = ap is_truths q

  pub all_boolean : (ys : List Bound) (zs : List Typed) → k.AllAre cols SameRow ys zs → IsTruths ys → is_condition cols (all_of ys) ≡ true
  all_boolean [] [] h l = let q : None ≡ Some l.0 = l.1 in absurd (cc)
  all_boolean [] (z ∷ zs) h l = absurd h
  all_boolean (y ∷ []) [] h l = absurd h
  all_boolean (y ∷ []) (z ∷ zs) h l = ap is_boolean h.0.1 ∙ cond_true (is_truths y.column.ty) (col Truths y.column.nullable) l.0 l.1
  all_boolean (y ∷ x ∷ ys) zs h l =
      ap is_boolean (ap all_truths (k.types_are cols SameRow (y ∷ x ∷ ys) zs h) ∙ l.1) ∙ boolean_of l.0 (all_truths_are (node_of.columns (y ∷ x ∷ ys)) l.0 l.1)

-- over the columns in reach
pub all_of_holds : (scope : Scope) (ys : List Bound) (zs : List Typed) → AllAre scope ys zs → holds (eval (all_of ys)) ≡ holds (conjunction zs).value
all_of_holds scope = all_hold (types scope)

pub all_of_boolean : (scope : Scope) (ys : List Bound) (zs : List Typed) → AllAre scope ys zs → AreTruths scope ys → is_condition (types scope) (all_of ys) ≡ true
all_of_boolean scope = all_boolean (types scope)
