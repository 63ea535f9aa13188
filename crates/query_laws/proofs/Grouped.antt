-- A grouped select over the rows of groups is the select over the groups.
use Rattle.std.proofs.Common.{◌≡◌, ℕ, zero, suc, Bool, true, false, List, [], ◌∷◌, ◌++◌, map, length, take, Option, Some, None, refl, sym, ap, ◌∙◌, option_and_then, option_map, is_some, unwrap_or, arith}
use Rattle.std.specs.List.{list_all}
use Rattle.ct_value.specs.Bag.{items, none, add}
use Rattle.ct_value.specs.Order.{row_cmp, row_total, row_exact}
use Rattle.ct_value.specs.declared.row.Row.{Row}
use Rattle.ct_value.specs.declared.value.Value.{Value}
use Rattle.ct_change.specs.Changelog.{Rows, same_row}
use Rattle.ct_expr.specs.Expr.{Expr}
use Rattle.ct_expr.specs.Eval.{eval}
use Rattle.rel_algebra.specs.Clauses.{Meaning, holds, row_of, collect, rows_where, filter_rows, project_rows}
use Rattle.rel_algebra.specs.Groups.{group_rows}
use Rattle.rel_algebra.specs.Keys.{keys_in, rows_of_key}
use Rattle.rel_algebra.specs.Sums.{one, kept, together, plus, distinct, mapped, restrict, sum_over, Each}
use Rattle.rel_algebra.proofs.laws.Bags.{by_items, sum_over-none, sum_over-add, sum_over-one, sum_over-same, is_some-sum_over, each-distinct, each-mapped, each-none, each-add, mapped-none, mapped-add, mapped-together, restrict-none, restrict-add}
use Rattle.rel_algebra.proofs.laws.Clauses.{length-collect, each-rows_where}
use Rattle.query_answer.specs.Groups.{meanings, key_of, groups_of, members, filter_if}
use Rattle.query_answer.specs.Table.{Typed}
use Rattle.query_laws.proofs.Bags.{restrict_mapped, restrict_same, mapped_mapped, mapped_same, made_one, made_all, sum_over_mapped, each_map, each_both}
use Rattle.query_laws.proofs.Lists.{map_length, take_front}
use Rattle.query_laws.proofs.Options.{map_parts}

-- values collected of two lists
pub collected_both : (os ps : List (Option Value)) (vs : Row) → collect (os ++ ps) ≡ Some vs → (us ws : Row) × (collect os ≡ Some us) × (vs ≡ us ++ ws)
collected_both [] ps vs e = ([], vs, refl, refl)
collected_both (None ∷ os) ps vs e = absurd (cc)
collected_both (Some v ∷ os) ps vs e =
    let p = map_parts (λ ws. v ∷ ws) (collect (os ++ ps)) vs e in
    let q = collected_both os ps p.0 p.1 in
    (v ∷ q.0, q.1, ap (option_map (λ ws. v ∷ ws)) q.2, sym p.2 ∙ ap (λ ws. v ∷ ws) q.3)

pub meanings_append : (xs ys : List Typed) → meanings (xs ++ ys) ≡ meanings xs ++ meanings ys
meanings_append [] ys = refl
meanings_append (x ∷ xs) ys = ap (λ zs. x.value ∷ zs) (meanings_append xs ys)

map_append_at : (x : Row) (fs gs : List Meaning) → map (λ f. f x) (fs ++ gs) ≡ map (λ f. f x) fs ++ map (λ f. f x) gs
map_append_at x [] gs = refl
map_append_at x (f ∷ fs) gs = ap (λ zs. f x ∷ zs) (map_append_at x fs gs)

pub meanings_length : (xs : List Typed) → length (meanings xs) ≡ length xs
meanings_length [] = refl
meanings_length (x ∷ xs) = ap suc (meanings_length xs)

-- the key of a row on which keys and operands are evaluated
pub key_made : (keys others : List Typed) (x v : Row) → row_of (meanings (keys ++ others)) x ≡ Some v → (row_of (meanings keys) x ≡ Some (take (length keys) v)) × (length (take (length keys) v) ≡ length keys)
key_made keys others x v e =
    let p = collected_both (map (λ f. f x) (meanings keys)) (map (λ f. f x) (meanings others)) v (ap collect (sym (ap (map (λ f. f x)) (meanings_append keys others) ∙ map_append_at x (meanings keys) (meanings others))) ∙ e) in
    let l : length p.0 ≡ length keys = length-collect (map (λ f. f x) (meanings keys)) p.0 p.2 ∙ map_length (λ f. f x) (meanings keys) ∙ meanings_length keys in
    let t : take (length keys) v ≡ p.0 = ap (take (length keys)) p.3 ∙ take_front p.0 p.1 (length keys) l in
    (p.2 ∙ ap Some (sym t), ap length t ∙ l)

-- ---- a Group

-- the row of a group, where its calls have the values V
abbrev pub entry : (Row → Option Row) → Row → Option Rows
entry V g = option_map (λ vs. one (g ++ vs)) (V g)

-- whether a group counts, and the row of its items, are told of groups or of their rows
abbrev pub Alike : {B : Type 0} → (Row → Option Row) → ℕ → (Row → B) → (Row → B) → Type 0
Alike V k of_row of_group = (g vs : Row) → length g ≡ k → V g ≡ Some vs → of_row (g ++ vs) ≡ of_group g

abbrev pub Having : (Row → Option Row) → ℕ → Option Expr → Option Meaning → Type 0
Having V k None None = Unit {0}
Having V k None (Some m) = ⊥
Having V k (Some x) None = ⊥
Having V k (Some x) (Some m) = Alike V k (holds (eval x)) (holds m)

abbrev pub filter_rel : Option Expr → Option Rows → Option Rows
filter_rel None o = o
filter_rel (Some x) o = option_and_then (filter_rows (eval x)) o

pub filter_none : (x : Option Expr) → filter_rel x None ≡ None
filter_none None = refl
filter_none (Some x) = refl

module _ (rows : Rows) (F : Row → Row) (E : Row → Type 0) (e : Each E rows) (V : Row → Option Row) where
  all_pass : (b : Rows) → restrict (λ row. true) b ≡ b
  all_pass b = by_items row_total row_exact (λ b. restrict (λ row. true) b ≡ b)
      (restrict-none row_total row_exact (λ row. true))
      (λ b x h. restrict-add row_total row_exact (λ row. true) b x ∙ ap (λ c. add c x) h)
      b

  -- of the rows that F makes of rows: the rows of the groups
  pub group_made : (keys : List Typed) (k : ℕ) (results : Rows → Option Row) → length keys ≡ k → ((x : Row) → E x → key_of (meanings keys) x ≡ take k (F x)) → ((g : Row) → results (mapped F (members (meanings keys) g rows)) ≡ V g)
      → group_rows k results (mapped F rows) ≡ sum_over (entry V) (groups_of (meanings keys) rows)
  group_made [] zero results l h r =
      ap (λ (c : Rows). option_map (one {R = row_cmp}) (results (mapped F c))) (sym (all_pass rows)) ∙ ap (option_map (one {R = row_cmp})) (r []) ∙ sym (sum_over-one row_total row_exact row_total row_exact (entry V) [])
  group_made [] (suc k) results l h r = absurd (omega arith)
  group_made (z ∷ keys) zero results l h r = absurd (omega arith)
  group_made (z ∷ keys) (suc k) results l h r =
      (λ i. sum_over (λ key. option_map (λ values. one (key ++ values)) (members_same key i)) (keys_in (take (suc k)) (mapped F rows)))
      ∙ ap (sum_over (entry V)) keys_same
    where
      members_same : (key : Row) → results (rows_of_key (take (suc k)) key (mapped F rows)) ≡ V key
      members_same key =
          ap results (restrict_mapped row_total row_exact row_total row_exact (λ y. same_row key (take (suc k) y)) F rows
          ∙ ap (mapped F) (restrict_same row_total row_exact (λ x. same_row key (take (suc k) (F x))) (λ x. same_row key (key_of (meanings (z ∷ keys)) x)) rows (each_map E _ (λ x p. ap (same_row key) (sym (h x p))) rows e)))
          ∙ r key

      keys_same : keys_in (take (suc k)) (mapped F rows) ≡ keys_in (key_of (meanings (z ∷ keys))) rows
      keys_same = ap distinct (mapped_mapped row_total row_exact row_total row_exact row_total row_exact (take (suc k)) F rows
          ∙ mapped_same row_total row_exact row_total row_exact (λ x. take (suc k) (F x)) (key_of (meanings (z ∷ keys))) rows (each_map E _ (λ x p. sym (h x p)) rows e))

  -- the groups are as wide as the keys
  pub groups_wide : (keys : List Typed) (k : ℕ) → length keys ≡ k → ((x : Row) → E x → length (key_of (meanings keys) x) ≡ k) → Each (λ g. length g ≡ k) (groups_of (meanings keys) rows)
  groups_wide [] k l h = each-add row_total row_exact (λ g. length g ≡ k) none [] l (each-none row_total row_exact (λ g. length g ≡ k))
  groups_wide (z ∷ keys) k l h = each-distinct row_total row_exact (λ g. length g ≡ k) (mapped (key_of (meanings (z ∷ keys))) rows) (each-mapped row_total row_exact row_total row_exact E (λ g. length g ≡ k) (key_of (meanings (z ∷ keys))) h rows e)

  -- ---- HAVING and the items over the rows of groups

  -- of the rows that f makes of a bag's items, those that pass
  kept_images : (test : Row → Option Bool) (f : Row → Row) (b : Rows) → sum_over (λ g. option_map (λ passes. kept {R = row_cmp} passes (f g)) (test g)) b ≡ option_map (mapped f) (rows_where test b)
  kept_images test f b = by_items row_total row_exact (λ b. sum_over (λ g. option_map (λ passes. kept {R = row_cmp} passes (f g)) (test g)) b ≡ option_map (mapped f) (rows_where test b))
      (sum_over-none row_total row_exact row_cmp _ ∙ sym (ap (option_map (mapped f)) (sum_over-none row_total row_exact row_cmp _) ∙ ap Some (mapped-none row_total row_exact row_cmp f)))
      (λ b x h. sum_over-add row_total row_exact row_total row_exact _ b x ∙ ap (plus (option_map (λ passes. kept {R = row_cmp} passes (f x)) (test x))) h ∙ joined x (test x) (rows_where test b) ∙ ap (option_map (mapped f)) (sym (sum_over-add row_total row_exact row_total row_exact _ b x)))
      b
    where
      one_kept : (x : Row) (t : Bool) → kept {R = row_cmp} t (f x) ≡ mapped f (kept {R = row_cmp} t x)
      one_kept x true = sym (mapped-add row_total row_exact row_total row_exact f none x ∙ ap (λ c. add c (f x)) (mapped-none row_total row_exact row_cmp f))
      one_kept x false = sym (mapped-none row_total row_exact row_cmp f)

      joined : (x : Row) (t : Option Bool) (o : Option Rows) → plus (option_map (λ passes. kept {R = row_cmp} passes (f x)) t) (option_map (mapped f) o) ≡ option_map (mapped f) (plus (option_map (λ passes. kept {R = row_cmp} passes x) t) o)
      joined x None o = refl
      joined x (Some t) None = refl
      joined x (Some t) (Some c) = ap Some (ap (λ d. together d (mapped f c)) (one_kept x t) ∙ sym (mapped-together row_total row_exact row_total row_exact f (kept t x) c))

  module _ (k : ℕ) (groups : Rows) (wide : Each (λ g. length g ≡ k) groups) where
    -- a group of known calls, and its row
    abbrev Known : Row → Type 0
    Known g = (length g ≡ k) × (V g ≡ Some (unwrap_or (V g) []))

    abbrev row_for : Row → Row
    row_for g = g ++ unwrap_or (V g) []

    items_over : (items' items : List Meaning) → Alike V k (row_of items') (row_of items) → (b : Rows) → Each Known b → project_rows items' (mapped row_for b) ≡ project_rows items b
    items_over items' items h b known =
        sum_over_mapped row_total row_exact row_total row_exact row_total row_exact (λ row. option_map (one {R = row_cmp}) (row_of items' row)) row_for b
        ∙ sum_over-same row_total row_exact row_total row_exact (λ g. option_map (one {R = row_cmp}) (row_of items' (row_for g))) (λ g. option_map (one {R = row_cmp}) (row_of items g)) b
        (each_map Known _ (λ g p. ap (option_map (one {R = row_cmp})) (h g (unwrap_or (V g) []) p.0 p.1)) b known)

    kept_over : (x : Expr) (m : Meaning) → Alike V k (holds (eval x)) (holds m) → (b : Rows) → Each Known b → filter_rows (eval x) (mapped row_for b) ≡ option_map (mapped row_for) (filter_rows m b)
    kept_over x m h b known =
        sum_over_mapped row_total row_exact row_total row_exact row_total row_exact (λ row. option_map (λ passes. kept {R = row_cmp} passes row) (holds (eval x) row)) row_for b
        ∙ sum_over-same row_total row_exact row_total row_exact (λ g. option_map (λ passes. kept {R = row_cmp} passes (row_for g)) (holds (eval x) (row_for g))) (λ g. option_map (λ passes. kept {R = row_cmp} passes (row_for g)) (holds m g)) b
        (each_map Known _ (λ g p. ap (option_map (λ passes. kept {R = row_cmp} passes (row_for g))) (h g (unwrap_or (V g) []) p.0 p.1)) b known)
        ∙ kept_images (holds m) row_for b

    both_over : (x : Option Expr) (m : Option Meaning) → Having V k x m → (items' items : List Meaning) → Alike V k (row_of items') (row_of items) → Each Known groups
        → option_and_then (project_rows items') (filter_rel x (Some (mapped row_for groups))) ≡ option_and_then (project_rows items) (filter_if m groups)
    both_over None None h items' items l known = items_over items' items l groups known
    both_over None (Some m) h items' items l known = absurd h
    both_over (Some x) None h items' items l known = absurd h
    both_over (Some x) (Some m) h items' items l known = ap (option_and_then (project_rows items')) (kept_over x m h groups known) ∙ go (filter_rows m groups) refl
      where
        go : (o : Option Rows) → filter_rows m groups ≡ o → option_and_then (project_rows items') (option_map (mapped row_for) o) ≡ option_and_then (project_rows items) o
        go None q = refl
        go (Some c) q = items_over items' items l c (each-rows_where Known (holds m) groups c known q)

    -- out of range alike
    some_alike : (o : Option Row) (g : Row) → is_some (option_map (λ vs. one {R = row_cmp} (g ++ vs)) o) ≡ is_some (option_map (one {R = row_cmp}) o)
    some_alike None g = refl
    some_alike (Some vs) g = refl

    is_out : (o : Option Rows) → is_some o ≡ false → o ≡ None
    is_out None q = refl
    is_out (Some c) q = absurd (cc)

    no_entries : sum_over (λ g. option_map (one {R = row_cmp}) (V g)) groups ≡ None → sum_over (entry V) groups ≡ None
    no_entries q = is_out (sum_over (entry V) groups)
        (is_some-sum_over row_total row_exact row_total row_exact (entry V) groups ∙ ap (λ t. list_all t (items groups)) (λ i g. some_alike (V g) g i)
        ∙ sym (is_some-sum_over row_total row_exact row_total row_exact (λ g. option_map (one {R = row_cmp}) (V g)) groups) ∙ ap is_some q)

    entry_twice : (g : Row) → entry V g ≡ option_map (one {R = row_cmp}) (option_map (λ vs. g ++ vs) (V g))
    entry_twice g = go (V g)
      where
        go : (o : Option Row) → option_map (λ vs. one {R = row_cmp} (g ++ vs)) o ≡ option_map (one {R = row_cmp}) (option_map (λ vs. g ++ vs) o)
        go None = refl
        go (Some vs) = refl

    pub over_groups : (x : Option Expr) (m : Option Meaning) → Having V k x m → (items' items : List Meaning) → Alike V k (row_of items') (row_of items)
        → option_and_then (project_rows items') (filter_rel x (sum_over (entry V) groups))
        ≡ option_and_then (λ _. option_and_then (project_rows items) (filter_if m groups)) (sum_over (λ g. option_map (one {R = row_cmp}) (V g)) groups)
    over_groups x m h items' items l = go (sum_over (λ g. option_map (one {R = row_cmp}) (V g)) groups) refl
      where
        go : (o : Option Rows) → sum_over (λ g. option_map (one {R = row_cmp}) (V g)) groups ≡ o
            → option_and_then (project_rows items') (filter_rel x (sum_over (entry V) groups)) ≡ option_and_then (λ _. option_and_then (project_rows items) (filter_if m groups)) o
        go None q = ap (λ o. option_and_then (project_rows items') (filter_rel x o)) (no_entries q) ∙ ap (option_and_then (project_rows items')) (filter_none x)
        go (Some c) q =
            let p = made_one row_total row_exact row_total row_exact V [] groups c q in
            let known : Each Known groups = each_both (λ g. length g ≡ k) (λ g. V g ≡ Some (unwrap_or (V g) [])) groups wide p.1 in
            let entries : sum_over (entry V) groups ≡ Some (mapped row_for groups) =
            (λ i. sum_over (λ g. entry_twice g i) groups)
            ∙ made_all row_total row_exact row_total row_exact (λ g. option_map (λ vs. g ++ vs) (V g)) row_for groups (each_map Known _ (λ g n. ap (option_map (λ vs. g ++ vs)) n.1) groups known) in
            ap (λ o. option_and_then (project_rows items') (filter_rel x o)) entries ∙ both_over x m h items' items l known
