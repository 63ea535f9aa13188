-- Columns gathered over lists, as far as a loop has come.
use Rattle.std.proofs.Common.{◌≡◌, ℕ, ◌+◌, ◌<◌, ◌≤◌, length, drop, get_or, List, [], ◌∷◌, ◌++◌, map, Option, Some, None, sym, ap, ◌∙◌, refl, append-nil, append_assoc}
use Rattle.std.specs.Prelude.{option_map, option_and_then}
use Rattle.std.proofs.lemmas.List.{at_drop_more, drop_all, map-append}
use Rattle.ct_value.specs.declared.ty.ColTy.{ColTy}
use Rattle.ct_expr.specs.Types.{gather, both_of, begun, joined, logic_col, compare_col, case_col, coalesce_col}
use Rattle.ct_expr.specs.Expr as e
use Rattle.ct_expr.specs.View.{expr_view, when_view, whens_view}
use Rattle.ct_expr.specs.declared.expr.When.{When}
use Rattle.ct_expr.proofs.laws.Views.{view_when}
use Rattle.binding.specs.Nodes as n
use Rattle.binding.specs.Nodes.{columns, known_columns, results_of}
use Rattle.bind_nodes.specs.declared.bound.Bound.{Bound}
use Rattle.bind_nodes.specs.declared.cases.Branch.{Branch}
use Rattle.bind_nodes.specs.declared.cases.Choice.{Choice}
use Rattle.bind_nodes.specs.Cases.{with_known}
use Rattle.bind_nodes.specs.Views.{bound_view, bounds_view, branches_view, choices_view}

gather_none : {A B : Type 0} (f : A → B → Option A) (os : List (Option B)) → gather f None os ≡ None
gather_none f [] = refl
gather_none f (o ∷ os) = gather_none f os

abbrev pub truths_from : Option ColTy → List Bound → Option ColTy
truths_from o xs = gather logic_col o (columns (bounds_view xs))

abbrev pub equal : ColTy → ColTy → ColTy → Option ColTy
equal c a d = both_of logic_col (Some a) (compare_col c d)

abbrev pub equalities_from : ColTy → Option ColTy → List Bound → Option ColTy
equalities_from c o xs = gather (equal c) o (columns (bounds_view xs))

abbrev pub coalesced_from : Option ColTy → List Bound → Option ColTy
coalesced_from o xs = joined coalesce_col o (columns (bounds_view xs))

abbrev pub conditions_from : Option ColTy → List Choice → Option ColTy
conditions_from o cs = gather logic_col o (map (λ b. Some b.0.column) (choices_view cs))

abbrev pub results_from : Option ColTy → List Choice → Option ColTy
results_from o cs = joined case_col o (map (λ b. Some b.1.column) (choices_view cs))

pub truths_out : (a : ColTy) (xs : List Bound) (i : ℕ) (x : Bound) → i < length xs → x ≡ get_or xs i x → None ≡ logic_col a x.column → None ≡ truths_from (Some a) (drop i xs)
truths_out a xs i x l h e =
    sym (at_drop_more (truths_from (Some a)) xs i x l ∙ ap (λ y. truths_from (Some a) (y ∷ drop (i + 1) xs)) (sym h)
    ∙ ap (λ o. truths_from o (drop (i + 1) xs)) (sym e) ∙ gather_none logic_col (columns (bounds_view (drop (i + 1) xs))))

pub in_list_out : (c a : ColTy) (xs : List Bound) (i : ℕ) (x : Bound) → i < length xs → x ≡ get_or xs i x → None ≡ equal c a x.column → None ≡ equalities_from c (Some a) (drop i xs)
in_list_out c a xs i x l h e =
    sym (at_drop_more (equalities_from c (Some a)) xs i x l ∙ ap (λ y. equalities_from c (Some a) (y ∷ drop (i + 1) xs)) (sym h)
    ∙ ap (λ o. equalities_from c o (drop (i + 1) xs)) (sym e) ∙ gather_none (equal c) (columns (bounds_view (drop (i + 1) xs))))

pub conditions_out : (a : ColTy) (cs : List Choice) (i : ℕ) (c : Choice) → i < length cs → c ≡ get_or cs i c → None ≡ logic_col a c.cond.column → None ≡ conditions_from (Some a) (drop i cs)
conditions_out a cs i c l h e =
    sym (at_drop_more (conditions_from (Some a)) cs i c l ∙ ap (λ y. conditions_from (Some a) (y ∷ drop (i + 1) cs)) (sym h)
    ∙ ap (λ o. conditions_from o (drop (i + 1) cs)) (sym e) ∙ gather_none logic_col (map (λ b. Some b.0.column) (choices_view (drop (i + 1) cs))))

pub coalesce_out : (o : Option ColTy) (xs : List Bound) (i : ℕ) (x : Bound) → i < length xs → x ≡ get_or xs i x → None ≡ begun coalesce_col o (Some x.column) → None ≡ coalesced_from o (drop i xs)
coalesce_out o xs i x l h e =
    sym (at_drop_more (coalesced_from o) xs i x l ∙ ap (λ y. coalesced_from o (y ∷ drop (i + 1) xs)) (sym h)
    ∙ ap (λ p. option_and_then (λ b. coalesced_from (Some b) (drop (i + 1) xs)) p) (sym e))

pub results_out : (o : Option ColTy) (cs : List Choice) (i : ℕ) (c : Choice) → i < length cs → c ≡ get_or cs i c → None ≡ begun case_col o (Some c.result.column) → None ≡ results_from o (drop i cs)
results_out o cs i c l h e =
    sym (at_drop_more (results_from o) cs i c l ∙ ap (λ y. results_from o (y ∷ drop (i + 1) cs)) (sym h)
    ∙ ap (λ p. option_and_then (λ b. results_from (Some b) (drop (i + 1) cs)) p) (sym e))

-- ---- results of which some may be the literal NULL, with those behind them

abbrev pub known_from : Option ColTy → List Branch → List (Option n.Bound) → Option ColTy
known_from o bs more = joined case_col o (known_columns (map (λ b. b.1) (branches_view bs) ++ more))

abbrev pub behind : Option (Option n.Bound) → List (Option n.Bound)
behind None = []
behind (Some x) = x ∷ []

pub results_behind : (bs : List (n.Bound × Option n.Bound)) (o : Option (Option n.Bound)) → results_of bs o ≡ map (λ b. b.1) bs ++ behind o
results_behind bs None = sym (append-nil (map (λ b. b.1) bs))
results_behind bs (Some x) = refl

through : (z : Option ColTy) (f : Option ColTy → Option ColTy) → option_and_then (λ b. f (Some b)) z ≡ option_and_then f (option_map Some z)
through None f = refl
through (Some b) f = refl

one_known : (o : Option ColTy) (r : Option n.Bound) (rs : List (Option n.Bound)) → joined case_col o (known_columns (r ∷ rs)) ≡ option_and_then (λ p. joined case_col p (known_columns rs)) (with_known o r)
one_known o None rs = refl
one_known o (Some x) rs = through (begun case_col o (Some x.column)) (λ p. joined case_col p (known_columns rs))

known_step : (o : Option ColTy) (bs : List Branch) (more : List (Option n.Bound)) (i : ℕ) (b : Branch) → i < length bs → b ≡ get_or bs i b
    → known_from o (drop i bs) more ≡ option_and_then (λ p. known_from p (drop (i + 1) bs) more) (with_known o (option_map bound_view b.result))
known_step o bs more i b l h =
    at_drop_more (λ cs. known_from o cs more) bs i b l ∙ ap (λ y. known_from o (y ∷ drop (i + 1) bs) more) (sym h)
    ∙ one_known o (option_map bound_view b.result) (map (λ b. b.1) (branches_view (drop (i + 1) bs)) ++ more)

pub known_more : (o p : Option ColTy) (bs : List Branch) (more : List (Option n.Bound)) (i : ℕ) (b : Branch) → i < length bs → b ≡ get_or bs i b → Some p ≡ with_known o (option_map bound_view b.result)
    → known_from o (drop i bs) more ≡ known_from p (drop (i + 1) bs) more
known_more o p bs more i b l h e = known_step o bs more i b l h ∙ ap (λ q. option_and_then (λ p. known_from p (drop (i + 1) bs) more) q) (sym e)

pub known_out : (o : Option ColTy) (bs : List Branch) (more : List (Option n.Bound)) (i : ℕ) (b : Branch) → i < length bs → b ≡ get_or bs i b → None ≡ with_known o (option_map bound_view b.result)
    → None ≡ known_from o (drop i bs) more
known_out o bs more i b l h e = sym (known_step o bs more i b l h ∙ ap (λ q. option_and_then (λ p. known_from p (drop (i + 1) bs) more) q) (sym e))

pub known_end : (o : Option ColTy) (bs : List Branch) (more : List (Option n.Bound)) (i : ℕ) → length bs ≤ i → known_from o (drop i bs) more ≡ joined case_col o (known_columns more)
known_end o bs more i l = ap (λ cs. known_from o cs more) (drop_all i bs l)

pub last_known : (o : Option ColTy) (r : Option n.Bound) → joined case_col o (known_columns (r ∷ [])) ≡ option_and_then (λ p. p) (with_known o r)
last_known o r = one_known o r []

-- ---- branches of a CASE without literal NULLs

abbrev pub pairs : List Choice → List (e.Expr × e.Expr)
pairs cs = map (λ b. (b.0.expr, b.1.expr)) (choices_view cs)

pub whens_turn : (ws more : List When) (w : When) (cs rest : List Choice) (c : Choice) (whole : List (e.Expr × e.Expr)) → whens_view ws ++ pairs cs ≡ whole → cs ≡ c ∷ rest → more ≡ ws ++ w ∷ []
    → w.cond ≡ c.cond.expr → w.result ≡ c.result.expr → whens_view more ++ pairs rest ≡ whole
whens_turn ws more w cs rest c whole same step pushed is_cond is_result =
    ap (λ v. whens_view v ++ pairs rest) pushed ∙ ap (λ xs. xs ++ pairs rest) (map-append when_view ws (w ∷ [])) ∙ append_assoc (whens_view ws) (when_view w ∷ []) (pairs rest)
    ∙ ap (λ p. whens_view ws ++ p ∷ pairs rest) (view_when w ∙ (λ i. (expr_view (is_cond i), expr_view (is_result i))))
    ∙ ap (λ xs. whens_view ws ++ pairs xs) (sym step) ∙ same
