-- WHERE: what its conjuncts are bound to keeps the rows that they keep, those with a subquery by semi joins.
use Rattle.std.proofs.Common.{◌≡◌, ℕ, ◌+◌, Bool, true, false, ◌&&◌, ◌||◌, List, [], ◌∷◌, ◌++◌, map, filter, length, Option, Some, None, cond, Ok, Err, IfOk, refl, sym, ap, ◌∙◌, subst, option_and_then, option_map, slice_get}
use Rattle.std.specs.List.{list_all}
use Rattle.ct_value.specs.declared.codes.ScriptCode.TheVariants.{TypeMismatch}
use Rattle.ct_value.specs.declared.ty.ColTy.{ColTy}
use Rattle.ct_value.specs.declared.ty.Ty.TheVariants.{Bool as Truths}
use Rattle.ct_value.specs.declared.value.CompareOp.TheVariants.{Eq}
use Rattle.ct_change.specs.Changelog.{Rows}
use Rattle.ct_expr.specs.Expr.{Expr}
use Rattle.ct_expr.specs.Expr as e
use Rattle.ct_expr.specs.Eval.{eval}
use Rattle.ct_expr.specs.Types.{both_of, gather, logic_col, is_truths, comparable, col}
use Rattle.rel_algebra.specs.declared.join.Pair.{Pair}
use Rattle.rel_algebra.specs.Clauses.{rows_where}
use Rattle.rel_algebra.specs.Joins.{matching, semi_join}
use Rattle.rel_algebra.specs.Sums.{Each}
use Rattle.rel_algebra.proofs.laws.Joins.{each-semi_join}
use Rattle.rel_algebra.specs.Answer.{Table, answer, types_in}
use Rattle.rel_algebra.specs.Batch.{semi_answer}
use Rattle.rel_algebra.specs.Rel.{Rel}
use Rattle.rel_algebra.specs.Rel as r
use Rattle.rel_algebra.specs.Types.{columns_of, columns_if, match_fits, pair_fits, pairs_fit, is_boolean}
use Rattle.sql_syntax.specs.Tree.{Tree}
use Rattle.query_answer.specs.declared.scope.Found.TheVariants.{At}
use Rattle.query_answer.specs.declared.scope.ScopeColumn.{ScopeColumn}
use Rattle.query_answer.specs.Answer.{Reach, by, over, types}
use Rattle.query_answer.specs.Answer as a
use Rattle.query_answer.specs.Joins.{plain_column, pair_found, pair_of, with_pair, unless_pair, pairs_of, rest_of}
use Rattle.query_answer.specs.Names.{Scope, Lookup, find, find_linked, column_at}
use Rattle.query_answer.specs.Outside.{looks_outside}
use Rattle.query_answer.specs.Table.{Typed}
use Rattle.query_answer.specs.Table as tab
use Rattle.binding.specs.Checked.{Checked, ◌>>=◌}
use Rattle.binding.specs.Expressions.{bound_by, bound_over, column}
use Rattle.binding.specs.Nodes.{Bound}
use Rattle.binding.specs.Nodes as node_of
use Rattle.binding.specs.Queries.{Relation, Outside, all_of, all_if, where_all, is_test, tests, owns, links, rests, unless_link, all_matched, own_part, linked_part, plain_part, own_value, only_column, matched_by, member_part}
use Rattle.binding.specs.Queries as b
use Rattle.query_laws.specs.Statement.{has_idle_project}
use Rattle.rel_algebra.specs.Unions.{has_full_unions}
use Rattle.query_laws.proofs.Clauses.{Fine}
use Rattle.query_laws.proofs.Joins.{plain_there, found_fits, pairs_right, RestIs, rest_is}
use Rattle.query_laws.proofs.Lists.{map_length, slice_behind, both_true}
use Rattle.query_laws.proofs.Names.{SameRow, finds_before, finds_linked, column_there, by_means, over_means, IsTruths, AllAre, all_hold, all_boolean}
use Rattle.query_laws.proofs.Nodes as k
use Rattle.query_laws.proofs.Options.{bind, both_ok, for_all, tested_else}
use Rattle.query_laws.proofs.Selects.{reach, FineAt, filter_fine}

-- ---- conditions that are BOOLEAN

abbrev pub AllTruths : List Bound → Type 0
AllTruths xs = list_all (λ x. is_truths x.column.ty) xs ≡ true

gathered : (d : ColTy) (xs : List Bound) → is_truths d.ty ≡ true → AllTruths xs → (c : ColTy) × (gather logic_col (Some d) (node_of.columns xs) ≡ Some c)
gathered d [] h l = (d, refl)
gathered d (x ∷ xs) h l =
    let p = both_true (is_truths x.column.ty) _ l in
    let next : ColTy = col Truths (d.nullable || x.column.nullable) in
    let rest = gathered next xs refl p.1 in
    (rest.0, (λ i. gather logic_col (cond (h i && p.0 i) (Some next) None) (node_of.columns xs)) ∙ rest.1)

truths_of : (cols : List ColTy) (x : Bound) (xs : List Bound) → AllTruths (x ∷ xs) → IsTruths cols (x ∷ xs)
truths_of cols x xs h = gathered (col Truths false) (x ∷ xs) refl h

owns_truths : (ps : List b.Part) → list_all is_test ps ≡ true → AllTruths (owns ps)
owns_truths [] h = refl
owns_truths (b.Own x ∷ ps) h = let p = both_true (is_truths x.column.ty) _ h in λ i. p.0 i && owns_truths ps p.1 i
owns_truths (b.Linked pair x ∷ ps) h = owns_truths ps (both_true (is_truths x.column.ty) _ h).1
owns_truths (b.Matched anti right pairs rest ∷ ps) h = owns_truths ps h

rests_truths : (ps : List b.Part) → list_all is_test ps ≡ true → AllTruths (rests ps)
rests_truths [] h = refl
rests_truths (b.Own x ∷ ps) h = rests_truths ps (both_true (is_truths x.column.ty) _ h).1
rests_truths (b.Linked None x ∷ ps) h = let p = both_true (is_truths x.column.ty) _ h in λ i. p.0 i && rests_truths ps p.1 i
rests_truths (b.Linked (Some pair) x ∷ ps) h = rests_truths ps (both_true (is_truths x.column.ty) _ h).1
rests_truths (b.Matched anti right pairs rest ∷ ps) h = rests_truths ps h

pub tests_pass : (ps : List b.Part) (P : List b.Part → Type 0) → P ps → IfOk (tests ps) (λ qs. P qs × (list_all is_test qs ≡ true))
tests_pass ps P h = tested_else (list_all is_test ps) (Ok ps) TypeMismatch (λ qs. P qs × (list_all is_test qs ≡ true)) (λ e. (h, e))

-- ---- the rest of linked conjuncts

rest_same : (cols : List ColTy) (look : Lookup) (xs : List Bound) (cs : List Tree) → k.AllAre cols SameRow xs (map (by look) cs) → AllTruths xs → RestIs cols look cs (all_if xs)
rest_same cols look [] [] h l = (refl, refl)
rest_same cols look [] (c ∷ cs) h l = absurd h
rest_same cols look (x ∷ xs) [] h l = absurd h
rest_same cols look (x ∷ xs) (c ∷ cs) h l = rest_is cols look c cs x xs h (truths_of cols x xs l)

module _ (T : List Table) where
  abbrev R : Relation → Reach
  R = reach T

  -- ---- a conjunct, and what it is bound to

  -- a conjunct with a subquery, over rows of these columns
  pub record Sub (own : Scope) (anti : Bool) (right : Rel) (pairs : List Pair) (rest : Option Expr) (p : a.Part) : Type 0 where
    pub told : (o : Option Rows) → both_of (semi_answer anti pairs rest) o (answer T right) ≡ a.met own p o
    pub not_plain : (ps : List a.Part) → a.plain_parts (p ∷ ps) ≡ a.plain_parts ps
    pub is_own : (ps : List a.Part) → a.own_parts own (p ∷ ps) ≡ p ∷ a.own_parts own ps
    pub columns : List ColTy
    pub typed : columns_of (types_in T) right ≡ Some columns
    pub fits : match_fits (types own) columns pairs rest ≡ true
    pub unions : has_full_unions right ≡ true
    pub projects : has_idle_project (types_in T) right ≡ false

  abbrev StaysInside : Outside → Scope → Tree → Type 0
  StaysInside None own c = Unit {0}
  StaysInside (Some outside) own c = looks_outside own c ≡ false

  abbrev LooksOut : Outside → Scope → Option Pair → Bound → Tree → Type 0
  LooksOut None own pair x c = ⊥
  LooksOut (Some outside) own pair x c =
      (looks_outside own c ≡ true) × (pair ≡ pair_of (length outside) (find_linked outside own) c) × k.Is (types outside ++ types own) SameRow x (by (find_linked outside own) c)

  abbrev pub PartIs : Outside → Scope → b.Part → a.Part → Type 0
  PartIs outside own (b.Own x) (a.Plain c) = k.Is (types own) SameRow x (over own c) × StaysInside outside own c
  PartIs outside own (b.Own x) (a.Exists anti q) = ⊥
  PartIs outside own (b.Own x) (a.Member c q) = ⊥
  PartIs outside own (b.Linked pair x) (a.Plain c) = LooksOut outside own pair x c
  PartIs outside own (b.Linked pair x) (a.Exists anti q) = ⊥
  PartIs outside own (b.Linked pair x) (a.Member c q) = ⊥
  PartIs outside own (b.Matched anti right pairs rest) p = Sub own anti right pairs rest p

  abbrev pub PartsAre : Outside → Scope → List b.Part → List a.Part → Type 0
  PartsAre outside own [] [] = Unit {0}
  PartsAre outside own [] (q ∷ qs) = ⊥
  PartsAre outside own (p ∷ ps) [] = ⊥
  PartsAre outside own (p ∷ ps) (q ∷ qs) = PartIs outside own p q × PartsAre outside own ps qs

  pub parts_append : (outside : Outside) (own : Scope) (ps ps' : List b.Part) (qs qs' : List a.Part) → PartsAre outside own ps qs → PartsAre outside own ps' qs' → PartsAre outside own (ps ++ ps') (qs ++ qs')
  parts_append outside own [] ps' [] qs' h l = l
  parts_append outside own [] ps' (q ∷ qs) qs' h l = absurd h
  parts_append outside own (p ∷ ps) ps' [] qs' h l = absurd h
  parts_append outside own (p ∷ ps) ps' (q ∷ qs) qs' h l = (h.0, parts_append outside own ps ps' qs qs' h.1 l)

  -- a condition
  pub plain_means : (outside : Outside) (own : Scope) (c : Tree) → IfOk (plain_part outside own c) (λ p. PartIs outside own p (a.Plain c))
  plain_means None own c = bind (bound_over own c) _ (λ x. k.Is (types own) SameRow x (over own c)) _ (over_means own c) (λ x h. (h, tt))
  plain_means (Some outside) own c = go (looks_outside own c) refl
    where
      go : (t : Bool) → looks_outside own c ≡ t → IfOk (cond t (linked_part outside own c) (own_part own c)) (λ p. PartIs (Some outside) own p (a.Plain c))
      go true e =
          bind (bound_by (find_linked outside own) c) _ (λ x. k.Is (types outside ++ types own) SameRow x (by (find_linked outside own) c)) _
          (by_means (types outside ++ types own) (find_linked outside own) (finds_linked outside own) c) (λ x h. (e, refl, h))
      go false e = bind (bound_over own c) _ (λ x. k.Is (types own) SameRow x (over own c)) _ (over_means own c) (λ x h. (h, e))

  -- ---- the conditions on the rows in reach

  -- the conjuncts that stay inside
  abbrev pub mine : Outside → Scope → List a.Part → List a.Part
  mine None own qs = qs
  mine (Some outside) own qs = a.own_parts own qs

  abbrev mine_trees : Outside → Scope → List a.Part → List Tree
  mine_trees outside own qs = a.plain_parts (mine outside own qs)

  one_more : (outside : Outside) (own : Scope) (c : Tree) (qs : List a.Part) → StaysInside outside own c → mine outside own (a.Plain c ∷ qs) ≡ a.Plain c ∷ mine outside own qs
  one_more None own c qs h = refl
  one_more (Some outside) own c qs h = ap (λ t. cond t (a.own_parts own qs) (a.Plain c ∷ a.own_parts own qs)) h

  left_out : (outside : Outside) (own : Scope) (pair : Option Pair) (x : Bound) (c : Tree) (qs : List a.Part) → LooksOut outside own pair x c → mine outside own (a.Plain c ∷ qs) ≡ mine outside own qs
  left_out None own pair x c qs h = absurd h
  left_out (Some outside) own pair x c qs h = ap (λ t. cond t (a.own_parts own qs) (a.Plain c ∷ a.own_parts own qs)) h.0

  sub_more : (outside : Outside) (own : Scope) (anti : Bool) (right : Rel) (pairs : List Pair) (rest : Option Expr) (q : a.Part) (qs : List a.Part) → Sub own anti right pairs rest q → mine outside own (q ∷ qs) ≡ q ∷ mine outside own qs
  sub_more None own anti right pairs rest q qs h = refl
  sub_more (Some outside) own anti right pairs rest q qs h = h.is_own qs

  owns_are : (outside : Outside) (own : Scope) (ps : List b.Part) (qs : List a.Part) → PartsAre outside own ps qs → k.AllAre (types own) SameRow (owns ps) (map (over own) (mine_trees outside own qs))
  owns_are None own [] [] h = tt
  owns_are (Some outside) own [] [] h = tt
  owns_are outside own [] (q ∷ qs) h = absurd h
  owns_are outside own (p ∷ ps) [] h = absurd h
  owns_are outside own (b.Own x ∷ ps) (a.Plain c ∷ qs) h =
      subst (λ (zs : List a.Part). k.AllAre (types own) SameRow (x ∷ owns ps) (map (over own) (a.plain_parts zs))) (sym (one_more outside own c qs h.0.1)) (h.0.0, owns_are outside own ps qs h.1)
  owns_are outside own (b.Own x ∷ ps) (a.Exists anti q ∷ qs) h = absurd h.0
  owns_are outside own (b.Own x ∷ ps) (a.Member c q ∷ qs) h = absurd h.0
  owns_are outside own (b.Linked pair x ∷ ps) (a.Plain c ∷ qs) h =
      subst (λ (zs : List a.Part). k.AllAre (types own) SameRow (owns ps) (map (over own) (a.plain_parts zs))) (sym (left_out outside own pair x c qs h.0)) (owns_are outside own ps qs h.1)
  owns_are outside own (b.Linked pair x ∷ ps) (a.Exists anti q ∷ qs) h = absurd h.0
  owns_are outside own (b.Linked pair x ∷ ps) (a.Member c q ∷ qs) h = absurd h.0
  owns_are outside own (b.Matched anti right pairs rest ∷ ps) (q ∷ qs) h =
      subst (λ (cs : List Tree). k.AllAre (types own) SameRow (owns ps) (map (over own) cs)) (sym (ap a.plain_parts (sub_more outside own anti right pairs rest q qs h.0) ∙ h.0.not_plain (mine outside own qs))) (owns_are outside own ps qs h.1)

  where_right : (own : Scope) (rel : Rel) (xs : List Bound) (cs : List Tree) → k.AllAre (types own) SameRow xs (map (over own) cs) → answer T (where_all xs rel) ≡ option_and_then (a.where_rows own cs) (answer T rel)
  where_right own rel [] [] h = same (answer T rel)
    where
      same : (o : Option Rows) → o ≡ option_and_then (λ rows. Some rows) o
      same None = refl
      same (Some rows) = refl
  where_right own rel [] (c ∷ cs) h = absurd h
  where_right own rel (x ∷ xs) [] h = absurd h
  where_right own rel (x ∷ xs) (c ∷ cs) h = λ i. option_and_then (λ rows. rows_where (all_hold (types own) (x ∷ xs) (map (over own) (c ∷ cs)) h i) rows) (answer T rel)

  where_fine : (own : Scope) (rel : Rel) (xs : List Bound) (zs : List Typed) → k.AllAre (types own) SameRow xs zs → AllTruths xs → Fine T rel (types own) → Fine T (where_all xs rel) (types own)
  where_fine own rel [] zs h l f = f
  where_fine own rel (x ∷ xs) zs h l f = filter_fine T rel (types own) (all_of (x ∷ xs)) f (all_boolean (types own) (x ∷ xs) zs h (truths_of (types own) x xs l))

  -- ---- semi joins, one after the other

  matched_right : (outside : Outside) (own : Scope) (ps : List b.Part) (qs : List a.Part) → PartsAre outside own ps qs → (rel : Rel) → answer T (all_matched ps rel) ≡ a.all_met own (mine outside own qs) (answer T rel)
  matched_right None own [] [] h rel = refl
  matched_right (Some outside) own [] [] h rel = refl
  matched_right outside own [] (q ∷ qs) h rel = absurd h
  matched_right outside own (p ∷ ps) [] h rel = absurd h
  matched_right outside own (b.Own x ∷ ps) (a.Plain c ∷ qs) h rel = matched_right outside own ps qs h.1 rel ∙ ap (λ zs. a.all_met own zs (answer T rel)) (sym (one_more outside own c qs h.0.1))
  matched_right outside own (b.Own x ∷ ps) (a.Exists anti q ∷ qs) h rel = absurd h.0
  matched_right outside own (b.Own x ∷ ps) (a.Member c q ∷ qs) h rel = absurd h.0
  matched_right outside own (b.Linked pair x ∷ ps) (a.Plain c ∷ qs) h rel = matched_right outside own ps qs h.1 rel ∙ ap (λ zs. a.all_met own zs (answer T rel)) (sym (left_out outside own pair x c qs h.0))
  matched_right outside own (b.Linked pair x ∷ ps) (a.Exists anti q ∷ qs) h rel = absurd h.0
  matched_right outside own (b.Linked pair x ∷ ps) (a.Member c q ∷ qs) h rel = absurd h.0
  matched_right outside own (b.Matched anti right pairs rest ∷ ps) (q ∷ qs) h rel =
      matched_right outside own ps qs h.1 (r.Semi rel right anti pairs rest)
      ∙ ap (a.all_met own (mine outside own qs)) (h.0.told (answer T rel))
      ∙ ap (λ zs. a.all_met own zs (answer T rel)) (sym (sub_more outside own anti right pairs rest q qs h.0))

  semi_fine : (own : Scope) (rel : Rel) (anti : Bool) (right : Rel) (pairs : List Pair) (rest : Option Expr) (q : a.Part) → Sub own anti right pairs rest q → Fine T rel (types own) → Fine T (r.Semi rel right anti pairs rest) (types own)
  semi_fine own rel anti right pairs rest q h f = record {
    typed =
        (λ i. both_of (λ l r. columns_if (match_fits l r pairs rest) l) (f.typed i) (h.typed i))
        ∙ ap (λ t. cond t (Some (types own)) None) h.fits;
    wide = λ rows e. kept (answer T rel) (answer T right) refl rows e;
    unions = λ i. f.unions i && h.unions i;
    projects = λ i. f.projects i || h.projects i;
  }
    where
      kept : (o p : Option Rows) → answer T rel ≡ o → (rows : Rows) → both_of (semi_answer anti pairs rest) o p ≡ Some rows → Each (λ row. length row ≡ length (types own)) rows
      kept None p i rows e = absurd (cc)
      kept (Some all) None i rows e = absurd (cc)
      kept (Some all) (Some others) i rows e = each-semi_join (λ row. length row ≡ length (types own)) anti (matching pairs (option_map eval rest)) all others rows (f.wide all i) e

  matched_fine : (outside : Outside) (own : Scope) (ps : List b.Part) (qs : List a.Part) → PartsAre outside own ps qs → (rel : Rel) → Fine T rel (types own) → Fine T (all_matched ps rel) (types own)
  matched_fine outside own [] qs h rel f = f
  matched_fine outside own (p ∷ ps) [] h rel f = absurd h
  matched_fine outside own (b.Own x ∷ ps) (q ∷ qs) h rel f = matched_fine outside own ps qs h.1 rel f
  matched_fine outside own (b.Linked pair x ∷ ps) (q ∷ qs) h rel f = matched_fine outside own ps qs h.1 rel f
  matched_fine outside own (b.Matched anti right pairs rest ∷ ps) (q ∷ qs) h rel f =
      matched_fine outside own ps qs h.1 (r.Semi rel right anti pairs rest) (semi_fine own rel anti right pairs rest q h.0 f)

  -- ---- the WHERE

  pub kept_right : (outside : Outside) (x : Relation) (ps : List b.Part) (qs : List a.Part) → PartsAre outside x.scope ps qs → list_all is_test ps ≡ true → FineAt T x
      → (R (b.kept ps x) ≡ a.filtered (mine outside x.scope qs) (R x)) × FineAt T (b.kept ps x)
  kept_right outside x ps qs h l f =
      let are = owns_are outside x.scope ps qs h in (
        λ i. record {
          scope = x.scope;
          rows = (
              matched_right outside x.scope ps qs h (where_all (owns ps) x.rel)
              ∙ ap (a.all_met x.scope (mine outside x.scope qs)) (where_right x.scope x.rel (owns ps) (mine_trees outside x.scope qs) are)) i;
        },
        matched_fine outside x.scope ps qs h (where_all (owns ps) x.rel) (where_fine x.scope x.rel (owns ps) (map (over x.scope) (mine_trees outside x.scope qs)) are (owns_truths ps l) f),
      )

  -- ---- EXISTS

  module _ (outside own : Scope) where
    abbrev look : Lookup
    look = find_linked outside own

    abbrev both : List ColTy
    both = types outside ++ types own

    abbrev linked : List a.Part → List Tree
    linked qs = filter (looks_outside own) (a.plain_parts qs)

    passed_over : (c : Tree) (cs : List Tree) → looks_outside own c ≡ false → filter (looks_outside own) (c ∷ cs) ≡ filter (looks_outside own) cs
    passed_over c cs e = ap (λ t. cond t (c ∷ filter (looks_outside own) cs) (filter (looks_outside own) cs)) e

    taken : (c : Tree) (cs : List Tree) → looks_outside own c ≡ true → filter (looks_outside own) (c ∷ cs) ≡ c ∷ filter (looks_outside own) cs
    taken c cs e = ap (λ t. cond t (c ∷ filter (looks_outside own) cs) (filter (looks_outside own) cs)) e

    links_are : (ps : List b.Part) (qs : List a.Part) → PartsAre (Some outside) own ps qs → links ps ≡ pairs_of (length outside) look (linked qs)
    links_are [] [] h = refl
    links_are [] (q ∷ qs) h = absurd h
    links_are (p ∷ ps) [] h = absurd h
    links_are (b.Own x ∷ ps) (a.Plain c ∷ qs) h = links_are ps qs h.1 ∙ ap (pairs_of (length outside) look) (sym (passed_over c (a.plain_parts qs) h.0.1))
    links_are (b.Own x ∷ ps) (a.Exists anti q ∷ qs) h = absurd h.0
    links_are (b.Own x ∷ ps) (a.Member c q ∷ qs) h = absurd h.0
    links_are (b.Linked pair x ∷ ps) (a.Plain c ∷ qs) h = (λ i. with_pair (h.0.1 i) (links_are ps qs h.1 i)) ∙ ap (pairs_of (length outside) look) (sym (taken c (a.plain_parts qs) h.0.0))
    links_are (b.Linked pair x ∷ ps) (a.Exists anti q ∷ qs) h = absurd h.0
    links_are (b.Linked pair x ∷ ps) (a.Member c q ∷ qs) h = absurd h.0
    links_are (b.Matched anti right pairs rest ∷ ps) (q ∷ qs) h = links_are ps qs h.1 ∙ ap (λ cs. pairs_of (length outside) look (filter (looks_outside own) cs)) (sym (h.0.not_plain qs))

    unless_are : (o : Option Pair) (x : Bound) (xs : List Bound) (c : Tree) (cs : List Tree) → k.Is both SameRow x (by look c) → k.AllAre both SameRow xs (map (by look) cs) → k.AllAre both SameRow (unless_link o x xs) (map (by look) (unless_pair o c cs))
    unless_are None x xs c cs h l = (h, l)
    unless_are (Some pair) x xs c cs h l = l

    rests_are : (ps : List b.Part) (qs : List a.Part) → PartsAre (Some outside) own ps qs → k.AllAre both SameRow (rests ps) (map (by look) (rest_of (length outside) look (linked qs)))
    rests_are [] [] h = tt
    rests_are [] (q ∷ qs) h = absurd h
    rests_are (p ∷ ps) [] h = absurd h
    rests_are (b.Own x ∷ ps) (a.Plain c ∷ qs) h =
        subst (λ (cs : List Tree). k.AllAre both SameRow (rests ps) (map (by look) (rest_of (length outside) look cs))) (sym (passed_over c (a.plain_parts qs) h.0.1)) (rests_are ps qs h.1)
    rests_are (b.Own x ∷ ps) (a.Exists anti q ∷ qs) h = absurd h.0
    rests_are (b.Own x ∷ ps) (a.Member c q ∷ qs) h = absurd h.0
    rests_are (b.Linked pair x ∷ ps) (a.Plain c ∷ qs) h =
        subst (λ (cs : List Tree). k.AllAre both SameRow (unless_link pair x (rests ps)) (map (by look) (rest_of (length outside) look cs))) (sym (taken c (a.plain_parts qs) h.0.0))
        (subst (λ (o : Option Pair). k.AllAre both SameRow (unless_link o x (rests ps)) (map (by look) (unless_pair (pair_of (length outside) look c) c (rest_of (length outside) look (linked qs))))) (sym h.0.1)
        (unless_are (pair_of (length outside) look c) x (rests ps) c (rest_of (length outside) look (linked qs)) h.0.2 (rests_are ps qs h.1)))
    rests_are (b.Linked pair x ∷ ps) (a.Exists anti q ∷ qs) h = absurd h.0
    rests_are (b.Linked pair x ∷ ps) (a.Member c q ∷ qs) h = absurd h.0
    rests_are (b.Matched anti right pairs rest ∷ ps) (q ∷ qs) h =
        subst (λ (cs : List Tree). k.AllAre both SameRow (rests ps) (map (by look) (rest_of (length outside) look (filter (looks_outside own) cs)))) (sym (h.0.not_plain qs)) (rests_are ps qs h.1)

    pairs_fit_both : (cs : List Tree) → pairs_fit (types outside) (types own) (pairs_of (length outside) look cs) ≡ true
    pairs_fit_both cs =
        subst (λ n. pairs_fit (types outside) (types own) (pairs_of n look cs) ≡ true) (map_length (λ c. c.ty) outside)
        (pairs_right (types outside) (types own) look (finds_linked outside own) cs)

  pub exists_right : (anti : Bool) (outside : Scope) (x : Relation) (w : Reach) (ps : List b.Part) (qs : List a.Part) → R x ≡ w → FineAt T x → PartsAre (Some outside) x.scope ps qs → list_all is_test ps ≡ true
      → Sub outside anti (b.kept ps x).rel (links ps) (all_if (rests ps)) (a.Exists anti (a.within qs w))
  exists_right anti outside x w ps qs same f h l =
      let inner = kept_right (Some outside) x ps qs h l f in
      let rest = rest_same (both outside x.scope) (look outside x.scope) (rests ps) (rest_of (length outside) (look outside x.scope) (linked outside x.scope qs)) (rests_are outside x.scope ps qs h) (rests_truths ps l) in
      subst (λ (z : Reach). Sub outside anti (b.kept ps x).rel (links ps) (all_if (rests ps)) (a.Exists anti (a.within qs z))) same (record {
        told = λ o i. both_of (semi_join anti (rest.0 i (links_are outside x.scope ps qs h i))) o (inner.0 i).rows;
        not_plain = λ ps. refl;
        is_own = λ ps. refl;
        columns = types x.scope;
        typed = inner.1.typed;
        fits = λ i. (ap (pairs_fit (types outside) (types x.scope)) (links_are outside x.scope ps qs h) ∙ pairs_fit_both outside x.scope (linked outside x.scope qs)) i && rest.1 i;
        unions = inner.1.unions;
        projects = inner.1.projects;
      })

  -- ---- IN over a query

  -- a tree that stays inside, also over rows that go on
  abbrev pub ValueIs : Scope → Tree → Bound → Type 0
  ValueIs own c x = (more : List ColTy) → k.Is (types own ++ more) SameRow x (over own c)

  value_over : (own : Scope) (c : Tree) → IfOk (own_part own c >>= own_value) (ValueIs own c)
  value_over own c =
      bind (own_part own c) own_value (λ p. (x : Bound) × (p ≡ b.Own x) × ValueIs own c x) (ValueIs own c)
      (bind (bound_over own c) _ (ValueIs own c) _ (for_all (bound_over own c) _ (λ more. by_means (types own ++ more) (find own) (finds_before own more) c)) (λ x h. (x, refl, h)))
      (λ p h. subst (λ z. IfOk (own_value z) (ValueIs own c)) (sym h.1) h.2)

  pub value_means : (outside : Outside) (own : Scope) (c : Tree) → IfOk (plain_part outside own c >>= own_value) (ValueIs own c)
  value_means None own c = value_over own c
  value_means (Some outside) own c = go (looks_outside own c)
    where
      refused : (o : Checked Bound) → IfOk (o >>= (λ x. Ok (b.Linked (pair_of (length outside) (find_linked outside own) c) x)) >>= own_value) (ValueIs own c)
      refused (Ok x) = tt
      refused (Err code) = tt

      go : (t : Bool) → IfOk (cond t (linked_part outside own c) (own_part own c) >>= own_value) (ValueIs own c)
      go true = refused (bound_by (find_linked outside own) c)
      go false = value_over own c

  equal_boolean : (x y : Bound) → IfOk (node_of.compare Eq x y) (λ w. is_truths w.column.ty ≡ true)
  equal_boolean x y = go (comparable x.column.ty y.column.ty)
    where
      go : (t : Bool) → IfOk (node_of.typed (cond t (Some (col Truths (x.column.nullable || y.column.nullable))) None) (e.Compare Eq x.expr y.expr)) (λ w. is_truths w.column.ty ≡ true)
      go true = refl
      go false = tt

  module _ (own : Scope) (c : Tree) (q : Relation) (s : ScopeColumn) (one : q.scope ≡ s ∷ []) (f : FineAt T q) where
    abbrev cols : List ColTy
    cols = types own ++ s.ty ∷ []

    width : length (types own) ≡ length own
    width = map_length (λ z. z.ty) own

    query_types : columns_of (types_in T) q.rel ≡ Some (s.ty ∷ [])
    query_types = f.typed ∙ ap (λ z. Some (types z)) one

    place : slice_get cols (length own) ≡ Some s.ty
    place = slice_behind (types own) [] s.ty (length own) width

    abbrev FitsIf : Option Pair → Type 0
    FitsIf None = Unit {0}
    FitsIf (Some pair) = pair_fits (types own) (s.ty ∷ []) pair ≡ true

    found : (n : ℕ) → length (types own) ≡ n → FitsIf (pair_found n (plain_column (find own) c) (At (length own) s.ty))
    found n e = subst (λ m. FitsIf (pair_found m (plain_column (find own) c) (At (length own) s.ty))) e
        (found_fits (types own) (s.ty ∷ []) (find own) (finds_before own (s.ty ∷ [])) (plain_column (find own) c) (At (length own) s.ty) (plain_there (types own) (s.ty ∷ []) (find own) (finds_before own (s.ty ∷ [])) c) place)

    abbrev equality : Typed
    equality = tab.compare Eq (over own c) (column_at (At (length own) s.ty))

    match_is : (o : Option Pair) → pair_found (length own) (plain_column (find own) c) (At (length own) s.ty) ≡ o → a.member_match own c q.scope ≡ a.equal_by o equality
    match_is o e = (λ i. a.member_match own c (one i)) ∙ (λ i. a.equal_by (e i) equality)

    of_pair : (o : Option Pair) → pair_found (length own) (plain_column (find own) c) (At (length own) s.ty) ≡ o → FitsIf o → (equal : Bound) → k.Is cols SameRow equal equality → is_truths equal.column.ty ≡ true
        → (outside : Outside) → PartIs outside own (matched_by o q.rel equal) (a.Member c (R q))
    of_pair None e fit equal h l outside = record {
      told = λ o. (λ i. both_of (semi_join false (matching [] (Some (λ row. h.2 row row refl i)))) o (answer T q.rel)) ∙ (λ i. both_of (semi_join false (sym (match_is None e) i)) o (answer T q.rel));
      not_plain = λ ps. refl;
      is_own = λ ps. refl;
      columns = s.ty ∷ [];
      typed = query_types;
      fits = ap is_boolean h.1 ∙ l;
      unions = f.unions;
      projects = f.projects;
    }
    of_pair (Some pair) e fit equal h l outside = record {
      told = λ o i. both_of (semi_join false (sym (match_is (Some pair) e) i)) o (answer T q.rel);
      not_plain = λ ps. refl;
      is_own = λ ps. refl;
      columns = s.ty ∷ [];
      typed = query_types;
      fits = λ i. (fit i && true) && true;
      unions = f.unions;
      projects = f.projects;
    }

    pub of_column : (x : Bound) → ValueIs own c x → IfOk (node_of.compare Eq x (column (length own) s.ty) >>= λ equal. Ok (matched_by (pair_found (length own) (plain_column (find own) c) (At (length own) s.ty)) q.rel equal)) (λ p. (outside : Outside) → PartIs outside own p (a.Member c (R q)))
    of_column x h =
        let y = column (length own) s.ty in
        bind (node_of.compare Eq x y) _ (λ equal. k.Is cols SameRow equal equality × (is_truths equal.column.ty ≡ true)) _
        (both_ok (node_of.compare Eq x y) _ _ (k.compare_is cols SameRow Eq x y (over own c) (column_at (At (length own) s.ty)) (h (s.ty ∷ [])) (column_there cols (length own) s.ty place)) (equal_boolean x y))
        (λ equal p. of_pair (pair_found (length own) (plain_column (find own) c) (At (length own) s.ty)) refl (found (length own) width) equal p.0 p.1)

  pub member_right : (own : Scope) (c : Tree) (x : Bound) (q : Relation) (w : Reach) → ValueIs own c x → R q ≡ w → FineAt T q → IfOk (member_part own c x q) (λ p. (outside : Outside) → PartIs outside own p (a.Member c w))
  member_right own c x q w h same f = subst (λ z. IfOk (member_part own c x q) (λ p. (outside : Outside) → PartIs outside own p (a.Member c z))) same (go q.scope refl)
    where
      go : (scope : Scope) → q.scope ≡ scope → IfOk (only_column scope >>= λ ty. node_of.compare Eq x (column (length own) ty) >>= λ equal. Ok (matched_by (pair_found (length own) (plain_column (find own) c) (At (length own) ty)) q.rel equal)) (λ p. (outside : Outside) → PartIs outside own p (a.Member c (R q)))
      go [] e = tt
      go (s ∷ []) e = of_column own c q s e f x h
      go (s ∷ z ∷ scope) e = tt
