-- Node by node: an expression over operands that calculate nothing calculates nothing, unless it is a sum, a product, a sign or a cast.
use Rattle.std.proofs.Common.{◌≡◌, Bool, true, false, ◌&&◌, ◌||◌, not, List, [], ◌∷◌, map, Option, Some, None, cond, Err, IfOk, refl, option_map, ℤ}
use Rattle.ct_value.specs.declared.codes.ScriptCode.{ScriptCode}
use Rattle.ct_value.specs.declared.codes.ScriptCode.TheVariants.{Unsupported, NotGrouped}
use Rattle.ct_value.specs.declared.ty.ColTy.{ColTy}
use Rattle.ct_value.specs.declared.ty.Ty.{Ty}
use Rattle.ct_value.specs.declared.ty.Ty.TheVariants.{Bool as Truths}
use Rattle.ct_value.specs.declared.value.CompareOp.{CompareOp}
use Rattle.ct_value.specs.declared.value.CompareOp.TheVariants.{Le, Ge}
use Rattle.ct_value.specs.declared.value.Value.{Value}
use Rattle.ct_value.specs.declared.value.Value.TheVariants.{Null, Num}
use Rattle.ct_expr.specs.Expr.{Expr, whens, optional_expr}
use Rattle.ct_expr.specs.Expr as e
use Rattle.ct_expr.specs.Types as y
use Rattle.query_answer.specs.declared.function.Function.{Function}
use Rattle.query_answer.specs.declared.function.Function.TheVariants.{Aggregate, Coalesce, NullIf, CharLength, RowNumber, Changing, Unknown}
use Rattle.range_rules.specs.Tame.{is_short, is_tame, are_tame, whens_are_tame, is_none_or_tame}
use Rattle.binding.specs.Checked.{Checked}
use Rattle.binding.specs.Nodes.{Bound, CallForm, typed, operands}
use Rattle.binding.specs.Nodes as n
use Rattle.range_rules.proofs.Checked.{bind, tested}

abbrev pub Tame : Bound → Type 0
Tame x = is_tame x.expr ≡ true

abbrev pub AllTame : List Bound → Type 0
AllTame [] = Unit {0}
AllTame (x ∷ xs) = Tame x × AllTame xs

abbrev pub MayBe : Option Bound → Type 0
MayBe None = Unit {0}
MayBe (Some x) = Tame x

pub operands_tame : (xs : List Bound) → AllTame xs → are_tame (operands xs) ≡ true
operands_tame [] h = refl
operands_tame (x ∷ xs) h = λ i. h.0 i && operands_tame xs h.1 i

-- a node of its type
pub typed_tame : (o : Option ColTy) (x : Expr) → is_tame x ≡ true → IfOk (typed o x) Tame
typed_tame None x h = tt
typed_tame (Some c) x h = h

-- ---- literals

pub literal_tame : (value : Value) (ty : Ty) → is_short value ≡ true → IfOk (n.literal value ty) Tame
literal_tame value ty h = typed_tame (y.literal_col value ty) (e.Literal value ty) h

pub number_tame : (o : Option (ℤ × Ty)) → IfOk (n.number o) Tame
number_tame None = tt
number_tame (Some m) = literal_tame (Num m.0) m.1 refl

-- ---- tests

pub compare_tame : (op : CompareOp) (x w : Bound) → Tame x → Tame w → IfOk (n.compare op x w) Tame
compare_tame op x w h k = typed_tame (y.compare_col x.column w.column) (e.Compare op x.expr w.expr) (λ i. h i && k i)

pub conjunction_tame : (xs : List Bound) → AllTame xs → IfOk (n.conjunction xs) Tame
conjunction_tame xs h = typed_tame (y.all_truths (n.columns xs)) (e.And (operands xs)) (operands_tame xs h)

pub disjunction_tame : (xs : List Bound) → AllTame xs → IfOk (n.disjunction xs) Tame
disjunction_tame xs h = typed_tame (y.all_truths (n.columns xs)) (e.Or (operands xs)) (operands_tame xs h)

pub negation_tame : (x : Bound) → Tame x → IfOk (n.negation x) Tame
negation_tame x h = typed_tame (y.truth_col x.column) (e.Not x.expr) h

pub negated_tame : (negated : Bool) (x : Bound) → Tame x → IfOk (n.negated_if negated x) Tame
negated_tame true x h = negation_tame x h
negated_tame false x h = h

pub null_test_tame : (x : Bound) → Tame x → IfOk (n.null_test x) Tame
null_test_tame x h = typed_tame (y.null_test_col x.column) (e.IsNull x.expr) h

pub between_tame : (x low high : Bound) → Tame x → Tame low → Tame high → IfOk (n.between x low high) Tame
between_tame x low high h k l =
    bind (n.compare Ge x low) _ Tame _ (compare_tame Ge x low h k) (λ c p.
    bind (n.compare Le x high) _ Tame _ (compare_tame Le x high h l) (λ d q.
    conjunction_tame (c ∷ d ∷ []) (p, (q, tt))))

pub in_list_tame : (x : Bound) (xs : List Bound) → Tame x → AllTame xs → IfOk (n.in_list x xs) Tame
in_list_tame x xs h k = typed_tame (y.in_list_col x.column (n.columns xs)) (e.InList x.expr (operands xs)) (λ i. h i && operands_tame xs k i)

pub like_tame : (x w : Bound) → Tame x → Tame w → IfOk (n.like x w) Tame
like_tame x w h k = typed_tame (y.texts_col Truths x.column w.column) (e.Like x.expr w.expr) (λ i. h i && k i)

-- ---- functions

null_if_tame : (xs : List Bound) → AllTame xs → IfOk (n.applied NullIf xs) Tame
null_if_tame [] h = tt
null_if_tame (x ∷ []) h = tt
null_if_tame (x ∷ w ∷ []) h = typed_tame (y.null_if_col x.column w.column) (e.NullIf x.expr w.expr) (λ i. h.0 i && h.1.0 i)
null_if_tame (x ∷ w ∷ p ∷ q) h = tt

length_tame : (xs : List Bound) → AllTame xs → IfOk (n.applied CharLength xs) Tame
length_tame [] h = tt
length_tame (x ∷ []) h = typed_tame (y.char_length_col x.column) (e.CharLength x.expr) h.0
length_tame (x ∷ w ∷ xs) h = tt

either : (b : Bool) (c d : ScriptCode) → IfOk (cond b (Err c) (Err d)) Tame
either true c d = tt
either false c d = tt

scalar : (form : CallForm) (r : Checked Bound) → IfOk r Tame → IfOk (cond (form.distinct || (form.filter || form.over)) (Err Unsupported) r) Tame
scalar form r h = tested (form.distinct || (form.filter || form.over)) Unsupported r Tame h

-- outside of groups an aggregate is refused
pub call_tame : (f : Function) (form : CallForm) (xs : List Bound) → AllTame xs → IfOk (n.call f form xs) Tame
call_tame (Aggregate c) form xs h = either (form.over || (form.distinct && not (n.is_count c))) Unsupported NotGrouped
call_tame Coalesce form xs h = scalar form (n.applied Coalesce xs) (typed_tame (y.gather_some y.coalesce_col (n.columns xs)) (e.Coalesce (operands xs)) (operands_tame xs h))
call_tame NullIf form xs h = scalar form (n.applied NullIf xs) (null_if_tame xs h)
call_tame CharLength form xs h = scalar form (n.applied CharLength xs) (length_tame xs h)
call_tame RowNumber form xs h = tt
call_tame Changing form xs h = tt
call_tame Unknown form xs h = tt

-- ---- CASE; None stands for a literal NULL

abbrev pub Branches : List (Bound × Option Bound) → Type 0
Branches [] = Unit {0}
Branches (b ∷ bs) = Tame b.0 × MayBe b.1 × Branches bs

abbrev pub Otherwise : Option (Option Bound) → Type 0
Otherwise None = Unit {0}
Otherwise (Some o) = MayBe o

abbrev Pairs : List (Bound × Bound) → Type 0
Pairs [] = Unit {0}
Pairs (b ∷ bs) = Tame b.0 × Tame b.1 × Pairs bs

pairs_tame : (bs : List (Bound × Bound)) → Pairs bs → whens_are_tame (whens (map (λ b. (b.0.expr, b.1.expr)) bs)) ≡ true
pairs_tame [] h = refl
pairs_tame (b ∷ bs) h = λ i. h.0 i && (h.1 i && pairs_tame bs h.2 i)

otherwise_tame : (o : Option Bound) → MayBe o → is_none_or_tame (optional_expr (option_map (λ x. x.expr) o)) ≡ true
otherwise_tame None h = refl
otherwise_tame (Some x) h = h

choice_tame : (bs : List (Bound × Bound)) (o : Option Bound) → Pairs bs → MayBe o → IfOk (n.choice bs o) Tame
choice_tame bs o h k = typed_tame _ (e.Case (whens (map (λ b. (b.0.expr, b.1.expr)) bs)) (optional_expr (option_map (λ x. x.expr) o))) (λ i. pairs_tame bs h i && otherwise_tame o k i)

-- a literal NULL becomes one of the common type
or_null_tame : (common : Option ColTy) (o : Option Bound) → MayBe o → IfOk (n.or_null_of common o) Tame
or_null_tame None None h = tt
or_null_tame (Some c) None h = literal_tame Null c.ty refl
or_null_tame common (Some x) h = h

with_nulls_tame : (common : Option ColTy) (bs : List (Bound × Option Bound)) → Branches bs → IfOk (n.with_nulls common bs) Pairs
with_nulls_tame common [] h = tt
with_nulls_tame common (b ∷ bs) h =
    bind (n.or_null_of common b.1) _ Tame _ (or_null_tame common b.1 h.1) (λ x p.
    bind (n.with_nulls common bs) _ Pairs _ (with_nulls_tame common bs h.2) (λ xs q.
    (h.0, p, q)))

otherwise_with_null_tame : (common : Option ColTy) (o : Option (Option Bound)) → Otherwise o → IfOk (n.otherwise_with_null common o) MayBe
otherwise_with_null_tame common None h = tt
otherwise_with_null_tame common (Some x) h = bind (n.or_null_of common x) _ Tame _ (or_null_tame common x h) (λ z p. p)

pub case_tame : (bs : List (Bound × Option Bound)) (o : Option (Option Bound)) → Branches bs → Otherwise o → IfOk (n.case bs o) Tame
case_tame bs o h k =
    let common = y.gather_some y.case_col (n.known_columns (n.results_of bs o)) in
    bind (n.with_nulls common bs) _ Pairs _ (with_nulls_tame common bs h) (λ xs p.
    bind (n.otherwise_with_null common o) _ MayBe _ (otherwise_with_null_tame common o k) (λ x q.
    choice_tame xs x p q))
