-- A join is bound to the Join whose answer is that of the clause.
use Rattle.std.proofs.Common.{◌≡◌, ℕ, zero, suc, ◌+◌, ◌-◌, ◌<◌, ◌≤◌, Bool, true, false, ◌&&◌, ◌||◌, List, [], ◌∷◌, ◌++◌, map, length, Option, Some, None, cond, IfOk, refl, sym, ap, ◌∙◌, subst, option_map, slice_get, is_some, unwrap_or, arith, length-append}
use Rattle.std.proofs.Common.{nat_lt, nat_le, ltb-true, leb-true}
use Rattle.ct_value.specs.declared.codes.ScriptCode.TheVariants.{AmbiguousColumn}
use Rattle.ct_value.specs.declared.ty.ColTy.{ColTy}
use Rattle.ct_value.specs.declared.ty.Ty.{Ty}
use Rattle.ct_value.specs.declared.value.CompareOp.TheVariants.{Eq}
use Rattle.ct_change.specs.Changelog.{Rows}
use Rattle.ct_expr.specs.Expr.{Expr}
use Rattle.ct_expr.specs.Eval.{eval}
use Rattle.ct_expr.specs.Types.{both_of, common_ty}
use Rattle.rel_algebra.specs.declared.join.JoinKind.{JoinKind}
use Rattle.rel_algebra.specs.declared.join.Pair.{Pair}
use Rattle.rel_algebra.specs.Joins.{Matching, agree, matching, nulls, nullable_if, join_rows, join_columns, keeps_left, keeps_right}
use Rattle.rel_algebra.specs.Sums.{Each}
use Rattle.rel_algebra.proofs.laws.Joins.{each-join_rows}
use Rattle.rel_algebra.specs.Answer.{Table, answer, columns_in}
use Rattle.rel_algebra.specs.Rel as r
use Rattle.rel_algebra.specs.Types.{columns_if, match_fits, pairs_fit, pair_fits, common_column, is_condition_if}
use Rattle.sql_syntax.specs.Tree.{Tree}
use Rattle.sql_syntax.specs.Tree as t
use Rattle.query_answer.specs.declared.scope.Found.{Found}
use Rattle.query_answer.specs.declared.scope.Found.TheVariants.{Absent, At, Several}
use Rattle.query_answer.specs.Answer.{by, over, conjuncts, rest_meaning, types}
use Rattle.query_answer.specs.Answer as a
use Rattle.query_answer.specs.Joins.{plain_column, pair_at, or_pair, pair_found, pair_of, with_pair, pairs_of, rest_of, nullable_scope, join_scope}
use Rattle.query_answer.specs.Names.{Scope, Lookup, find}
use Rattle.binding.specs.Checked.{◌>>=◌}
use Rattle.binding.specs.Expressions.{each_bound, conditions, conjuncts_bound}
use Rattle.binding.specs.Queries.{Relation, all_of, rest_bound, on_bound, share_source}
use Rattle.binding.specs.Nodes.{Bound}
use Rattle.binding.specs.Queries as b
use Rattle.query_laws.proofs.Clauses.{Fine}
use Rattle.query_laws.proofs.Lists.{map_length, slice_before, slice_past, both_true}
use Rattle.query_laws.proofs.Names.{SameRow, IsThere, LooksUp, finds, IsTruths, all_hold, all_boolean, AllAre, AreTruths, each_means, conditions_are}
use Rattle.query_laws.proofs.Nodes as k
use Rattle.query_laws.proofs.Options.{bind, then, tested, map_append}
use Rattle.query_laws.proofs.Selects.{reach, FineAt}

-- ---- key pairs are columns of both sides with a common type

-- names being found in a row of both
module _ (left right : List ColTy) (look : Lookup) (there : LooksUp (left ++ right) look) where
  abbrev width : ℕ
  width = length left

  abbrev PairFits : Option Pair → Type 0
  PairFits None = Unit {0}
  PairFits (Some pair) = pair_fits left right pair ≡ true

  pub plain_there : (x : Tree) → IsThere (left ++ right) (plain_column look x)
  plain_there (t.Name of name quoted) = there of name
  plain_there (t.Paren x) = plain_there x
  plain_there _ = tt

  -- a column of the left, and one of the right
  left_there : (m : ℕ) (s : ColTy) → slice_get (left ++ right) m ≡ Some s → m < width → slice_get left m ≡ Some s
  left_there m s e l = sym (slice_before left right m l) ∙ e

  right_there : (n : ℕ) (u : ColTy) → slice_get (left ++ right) n ≡ Some u → width ≤ n → slice_get right (n - width) ≡ Some u
  right_there n u e l = sym (slice_past left right (n - width)) ∙ ap (λ m. slice_get (left ++ right) m) (let p : length left + (n - width) ≡ n = omega arith in p) ∙ e

  abbrev with_null : ColTy → ColTy → Ty → ColTy
  with_null s u ty = record { ty = ty; nullable = s.nullable || u.nullable }

  common_there : (s u : ColTy) → is_some (common_ty s.ty u.ty) ≡ true → is_some (common_column s u) ≡ true
  common_there s u e = go (common_ty s.ty u.ty) e
    where
      go : (o : Option Ty) → is_some o ≡ true → is_some (option_map (with_null s u) o) ≡ true
      go None e = absurd (cc)
      go (Some ty) e = refl

  at_fits : (m : ℕ) (s : ColTy) (n : ℕ) (u : ColTy) → slice_get (left ++ right) m ≡ Some s → slice_get (left ++ right) n ≡ Some u → PairFits (pair_at width m s n u)
  at_fits m s n u p q = go ((nat_lt m width && nat_le width n) && is_some (common_ty s.ty u.ty)) refl
    where
      go : (t : Bool) → ((nat_lt m width && nat_le width n) && is_some (common_ty s.ty u.ty)) ≡ t → PairFits (cond t (Some (record { left = m; right = n - width })) None)
      go false e = tt
      go true e =
          let h = both_true (nat_lt m width && nat_le width n) _ e in
          let k = both_true (nat_lt m width) _ h.0 in
          (λ i. is_some (both_of common_column (left_there m s p (ltb-true m width k.0) i) (right_there n u q (leb-true width n k.1) i))) ∙ common_there s u h.1

  or_fits : (o p : Option Pair) → PairFits o → PairFits p → PairFits (or_pair o p)
  or_fits None p h k = k
  or_fits (Some pair) p h k = h

  pub found_fits : (f g : Found) → IsThere (left ++ right) f → IsThere (left ++ right) g → PairFits (pair_found width f g)
  found_fits (At m s) (At n u) h k = or_fits (pair_at width m s n u) (pair_at width n u m s) (at_fits m s n u h k) (at_fits n u m s k h)
  found_fits (At m s) Absent h k = tt
  found_fits (At m s) Several h k = tt
  found_fits Absent g h k = tt
  found_fits Several g h k = tt

  pub pair_right : (c : Tree) → PairFits (pair_of width look c)
  pair_right (t.Compare Eq x y) = found_fits (plain_column look x) (plain_column look y) (plain_there x) (plain_there y)
  pair_right _ = tt

  pub pairs_right : (cs : List Tree) → pairs_fit left right (pairs_of width look cs) ≡ true
  pairs_right [] = refl
  pairs_right (c ∷ cs) = more (pair_of width look c) (pair_right c) (pairs_right cs)
    where
      more : (o : Option Pair) → PairFits o → pairs_fit left right (pairs_of width look cs) ≡ true → pairs_fit left right (with_pair o (pairs_of width look cs)) ≡ true
      more None h k = k
      more (Some pair) h k = λ i. h i && k i

-- ---- the rest

-- what the rest is bound to
abbrev pub RestIs : List ColTy → Lookup → List Tree → Option Expr → Type 0
RestIs cols look cs rest = (◌≡◌ {A = (List Pair → Matching)} (λ pairs. matching pairs (option_map eval rest)) (λ pairs. matching pairs (rest_meaning look cs))) × (is_condition_if cols rest ≡ true)

-- one condition or more
pub rest_is : (cols : List ColTy) (look : Lookup) (c : Tree) (cs : List Tree) (y : Bound) (ys : List Bound) → k.AllAre cols SameRow (y ∷ ys) (map (by look) (c ∷ cs)) → IsTruths cols (y ∷ ys) → RestIs cols look (c ∷ cs) (Some (all_of (y ∷ ys)))
rest_is cols look c cs y ys h l = (
  (λ i pairs left right. cond (agree pairs left right) (all_hold cols (y ∷ ys) (map (by look) (c ∷ cs)) h i (left ++ right)) (Some false)),
  all_boolean cols (y ∷ ys) (map (by look) (c ∷ cs)) h l,
)

pub rest_means : (scope : Scope) (cs : List Tree) → IfOk (rest_bound scope cs) (RestIs (types scope) (find scope) cs)
rest_means scope [] = (refl, refl)
rest_means scope (x ∷ xs) =
    let zs = map (over scope) (x ∷ xs) in
    bind (each_bound scope (x ∷ xs) >>= conditions) _ (λ ys. AllAre scope ys zs × AreTruths scope ys) _
    (bind (each_bound scope (x ∷ xs)) conditions (λ ys. AllAre scope ys zs) (λ ys. AllAre scope ys zs × AreTruths scope ys) (each_means scope (x ∷ xs)) (λ ys p. conditions_are scope ys (λ ws. AllAre scope ws zs) p)) (λ ys p. bound ys p.0 p.1)
  where
    bound : (ys : List Bound) → AllAre scope ys (map (over scope) (x ∷ xs)) → AreTruths scope ys → RestIs (types scope) (find scope) (x ∷ xs) (Some (all_of ys))
    bound [] h l = absurd h
    bound (y ∷ ys) h l = rest_is (types scope) (find scope) x xs y ys h l

-- ---- the columns of a join

nullable_types : (may : Bool) (scope : Scope) → types (nullable_scope may scope) ≡ map (nullable_if may) (types scope)
nullable_types may [] = refl
nullable_types may (c ∷ scope) = ap (λ cs. nullable_if may c.ty ∷ cs) (nullable_types may scope)

join_types : (kind : JoinKind) (left right : Scope) → types (join_scope kind left right) ≡ join_columns kind (types left) (types right)
join_types kind left right = map_append (λ c. c.ty) (nullable_scope (keeps_right kind) left) (nullable_scope (keeps_left kind) right) ∙ (λ i. nullable_types (keeps_right kind) left i ++ nullable_types (keeps_left kind) right i)

nulls_length : (n : ℕ) → length (nulls n) ≡ n
nulls_length zero = refl
nulls_length (suc n) = ap suc (nulls_length n)

module _ (tables : List Table) where
  join_fine : (kind : JoinKind) (x y : Relation) (pairs : List Pair) (rest : Option Expr) → FineAt tables x → FineAt tables y → pairs_fit (types x.scope) (types y.scope) pairs ≡ true → is_condition_if (types (x.scope ++ y.scope)) rest ≡ true
      → Fine tables (r.Join x.rel y.rel kind pairs rest) (types (join_scope kind x.scope y.scope))
  join_fine kind x y pairs rest f h p c = subst (λ cs. Fine tables (r.Join x.rel y.rel kind pairs rest) cs) (sym (join_types kind x.scope y.scope)) (record {
    typed =
        (λ i. both_of (λ l r. columns_if (match_fits l r pairs rest) (join_columns kind l r)) (f.typed i) (h.typed i))
        ∙ ap (λ t. cond t (Some (join_columns kind (types x.scope) (types y.scope))) None) (λ i. p i && (ap (λ cs. is_condition_if cs rest) (sym (map_append (λ c. c.ty) x.scope y.scope)) ∙ c) i);
    wide = λ rows q. wide_rows (answer tables x.rel) (answer tables y.rel) refl refl rows q;
    unions = λ i. f.unions i && h.unions i;
    projects = (λ i. f.projects i || h.projects i);
  })
    where
      n : ℕ
      n = length (join_columns kind (types x.scope) (types y.scope))

      l_of : columns_in tables x.rel ≡ types x.scope
      l_of = ap (λ o. unwrap_or o []) f.typed

      r_of : columns_in tables y.rel ≡ types y.scope
      r_of = ap (λ o. unwrap_or o []) h.typed

      width : length (join_columns kind (types x.scope) (types y.scope)) ≡ length (types x.scope) + length (types y.scope)
      width = let a1 = length-append (map (nullable_if (keeps_right kind)) (types x.scope)) (map (nullable_if (keeps_left kind)) (types y.scope)) in let a2 = map_length (nullable_if (keeps_right kind)) (types x.scope) in let a3 = map_length (nullable_if (keeps_left kind)) (types y.scope) in omega arith

      wide_rows : (o p : Option Rows) → answer tables x.rel ≡ o → answer tables y.rel ≡ p → (rows : Rows)
          → both_of (join_rows kind (length (columns_in tables x.rel)) (length (columns_in tables y.rel)) (matching pairs (option_map eval rest))) o p ≡ Some rows → Each (λ row. length row ≡ length (join_columns kind (types x.scope) (types y.scope))) rows
      wide_rows None p i j rows q = absurd (cc)
      wide_rows (Some l) None i j rows q = absurd (cc)
      wide_rows (Some l) (Some s) i j rows q =
          each-join_rows (λ row. length row ≡ length (types x.scope)) (λ row. length row ≡ length (types y.scope)) (λ row. length row ≡ length (join_columns kind (types x.scope) (types y.scope))) kind
          (length (columns_in tables x.rel)) (length (columns_in tables y.rel)) (matching pairs (option_map eval rest))
          (λ row other e d. let w = width in let u = length-append row other in omega arith)
          (λ row e k. let w = width in let u = length-append row (nulls (length (columns_in tables y.rel))) in let v = nulls_length (length (columns_in tables y.rel)) in let z = ap length r_of in omega arith)
          (λ other e k. let w = width in let u = length-append (nulls (length (columns_in tables x.rel))) other in let v = nulls_length (length (columns_in tables x.rel)) in let z = ap length l_of in omega arith)
          l s rows (f.wide l i) (h.wide s j) q

  pub joined_right : (kind : JoinKind) (x y : Relation) (on : Tree) → FineAt tables x → FineAt tables y → IfOk (b.joined kind x y on) (λ z. (reach tables z ≡ a.joined kind (reach tables x) (reach tables y) on) × FineAt tables z)
  joined_right kind x y on f h =
      let both = x.scope ++ y.scope in
      let cs = conjuncts on in
      let P : Relation → Type 0 = λ z. (reach tables z ≡ a.joined kind (reach tables x) (reach tables y) on) × FineAt tables z in
      tested (share_source x.scope y.scope) AmbiguousColumn (on_bound kind x y on) P
      (then (conjuncts_bound both on >>= conditions) _ P (λ all e.
      bind (rest_bound both (rest_of (length x.scope) (find both) cs)) _ (RestIs (types both) (find both) (rest_of (length x.scope) (find both) cs)) P (rest_means both (rest_of (length x.scope) (find both) cs)) (λ rest p. (
        λ i. record {
          scope = join_scope kind x.scope y.scope;
          rows = both_of (join_rows kind (widths x f i) (widths y h i) (p.0 i (pairs_of (length x.scope) (find (x.scope ++ y.scope)) (conjuncts on)))) (answer tables x.rel) (answer tables y.rel);
        },
        join_fine kind x y (pairs_of (length x.scope) (find both) cs) rest f h (pairs_both x.scope y.scope cs) p.1,
      ))))
    where
      widths : (z : Relation) → FineAt tables z → length (columns_in tables z.rel) ≡ length z.scope
      widths z g = ap (λ o. length (unwrap_or o [])) g.typed ∙ map_length (λ c. c.ty) z.scope

      pairs_both : (left right : Scope) (cs : List Tree) → pairs_fit (types left) (types right) (pairs_of (length left) (find (left ++ right)) cs) ≡ true
      pairs_both left right cs =
          subst (λ n. pairs_fit (types left) (types right) (pairs_of n (find (left ++ right)) cs) ≡ true) (map_length (λ c. c.ty) left)
          (pairs_right (types left) (types right) (find (left ++ right)) (subst (λ cols. LooksUp cols (find (left ++ right))) (map_append (λ c. c.ty) left right) (finds (left ++ right))) cs)
