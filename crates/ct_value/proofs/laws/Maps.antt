-- Laws of ordered maps seen as finite maps: what a look-up finds, one entry put, one gone.
use Rattle.std.proofs.Common.{◌≡◌, cond, List, [], ◌∷◌, Some, None, refl, sym, ap, ◌∙◌}
use Rattle.std.specs.declared.cmp.Ordering.{Ordering}
use Rattle.std.specs.Ordering.{eq_by_cmp}
use Rattle.std.specs.Cmp.{IsTotalOrder, eq_by_cmp_equiv}
use Rattle.std.specs.BTreeMap as tree
use Rattle.std.specs.BTreeMap.{BTreeMap, is_at}
use Rattle.std.specs.Map.{lookup}
use Rattle.ct_value.specs.Order.{row_cmp, row_total, row_exact}
use Rattle.ct_value.specs.declared.row.Row.{Row}
use Rattle.std.specs.FinMap.{IsAntisymmetric, find, get, insert, remove, get-from_entries, get-insert, get-remove, same_map}
use Rattle.ct_value.specs.Maps.{map_of, map_in}

module _ {K X : Type 0} {R : K → K → Ordering} (total : IsTotalOrder R) (exact : IsAntisymmetric R) where
  find-lookup : (es : List (K × X)) (q : K) → find R q es ≡ lookup (is_at (R q)) es
  find-lookup [] q = refl
  find-lookup (e ∷ es) q = ap (cond (is_at (R q) e.0) (Some e.1)) (find-lookup es q)

  pub get-map_of : (m : BTreeMap K X) (q : K) → get (map_of R m) q ≡ tree.get R m q
  get-map_of m q = get-from_entries total m.entries q ∙ find-lookup m.entries q

  pub put-map_of : (m n : BTreeMap K X) (k : K) (v : X) → ((q : K) → tree.get R n q ≡ cond (is_at (R k) q) (Some v) (tree.get R m q)) → map_of R n ≡ insert (map_of R m) k v
  put-map_of m n k v h = same_map total exact _ _ (λ q.
      get-map_of n q ∙ h q ∙ ap (λ b. cond b (Some v) (tree.get R m q)) ((eq_by_cmp_equiv total).symm k q)
      ∙ sym (get-insert total (map_of R m) k v q ∙ ap (cond (eq_by_cmp R q k) (Some v)) (get-map_of m q)))

  pub gone-map_of : (m n : BTreeMap K X) (k : K) → ((q : K) → tree.get R n q ≡ cond (is_at (R k) q) None (tree.get R m q)) → map_of R n ≡ remove (map_of R m) k
  gone-map_of m n k h = same_map total exact _ _ (λ q.
      get-map_of n q ∙ h q ∙ ap (λ b. cond b None (tree.get R m q)) ((eq_by_cmp_equiv total).symm k q)
      ∙ sym (get-remove total (map_of R m) k q ∙ ap (cond (eq_by_cmp R q k) None) (get-map_of m q)))

module _ {X : Type 0} where
  -- what a look-up finds
  pub get-map_in : (m : BTreeMap Row X) (q : Row) → get (map_in m) q ≡ tree.get row_cmp m q
  get-map_in m q = get-map_of row_total row_exact m q

  -- one entry put
  pub one_put : (m n : BTreeMap Row X) (k : Row) (v : X) → ((q : Row) → tree.get row_cmp n q ≡ cond (is_at (row_cmp k) q) (Some v) (tree.get row_cmp m q)) → map_in n ≡ insert (map_in m) k v
  one_put m n k v h = put-map_of row_total row_exact m n k v h

  -- one entry gone
  pub one_gone : (m n : BTreeMap Row X) (k : Row) → ((q : Row) → tree.get row_cmp n q ≡ cond (is_at (row_cmp k) q) None (tree.get row_cmp m q)) → map_in n ≡ remove (map_in m) k
  one_gone m n k h = gone-map_of row_total row_exact m n k h
