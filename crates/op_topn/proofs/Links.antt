-- The rows of an ordered map that keeps a partition are the partition's rows in rank order, also after one more or one less.
use Rattle.std.proofs.Common.{◌≡◌, ℕ, zero, suc, ◌+◌, ◌*◌, Bool, true, false, cond, T, not, ◌&&◌, List, [], ◌∷◌, ◌++◌, replicate, Option, Some, None, refl, sym, ap, subst, ◌∙◌, arith}
use Rattle.std.specs.List.{AllByRecursion}
use Rattle.std.specs.List.Sorted.{IsStrictlySortedBy}
use Rattle.std.specs.Map.{keys_of, lookup, remove_entry}
use Rattle.std.specs.Option.{unwrap_or}
use Rattle.std.specs.BTreeMap.{BTreeMap, keys, get, is_at, IsOrdered, insert_entry}
use Rattle.std.specs.declared.cmp.Ordering.{Ordering}
use Rattle.std.specs.declared.cmp.Ordering.TheVariants.{Less, Equal, Greater}
use Rattle.std.specs.Ordering.{is_eq, is_gt, eq_by_cmp, ordering_then, match_ordering}
use Rattle.std.specs.Cmp.{Equal-is, tied_itself, eq_by_cmp_equiv}
use Rattle.std.specs.Cmp.Lexicographic.{slice_cmp}
use Rattle.std.proofs.lemmas.Map.Keys.{sorted_head, sorted_tail, IsDistinct-from_sorted}
use Rattle.ct_value.specs.Bag.{items, items_in_order, bag_of, none, weigh, occurs, one_at, at_most_all, in_order, copies, add, remove}
use Rattle.ct_value.proofs.laws.Bags.{copies-none, same_bag, same_items, total-bag_of, weigh-append, copies-occurs, copies-add, copies-remove, one_at_itself, weigh-lookup}
use Rattle.ct_value.specs.Order.{value_cmp, row_cmp, row_total, row_exact}
use Rattle.ct_value.specs.declared.row.Row.{Row}
use Rattle.ct_value.specs.declared.value.Value.{Value}
use Rattle.ct_change.specs.Changelog.{Rows, same_row}
use Rattle.ct_field.specs.Typed.{cell}
use Rattle.rel_algebra.specs.declared.sort.SortCol.{SortCol}
use Rattle.rel_algebra.specs.Ranks.{directed, rank_cmp, in_rank_order}
use Rattle.rel_algebra.proofs.laws.Ranks.{rank_total, rank_exact}
use Rattle.op_topn.specs.Keys.{Key, key_cmp, key_total, directed_cmp, directed_of, rank_key, rows_in}
use Rattle.op_topn.specs.RankedRows.{IsRanked}

-- ---- keys compare as their rows

then-Equal : (o : Ordering) → ordering_then o Equal ≡ o
then-Equal Less = refl
then-Equal Equal = refl
then-Equal Greater = refl

then-then : (o p q : Ordering) → ordering_then (ordering_then o p) q ≡ ordering_then o (ordering_then p q)
then-then Less p q = refl
then-then Equal p q = refl
then-then Greater p q = refl

directed-same : (down : Bool) (a b : Value) → directed_cmp (directed_of down a) (directed_of down b) ≡ directed down a b
directed-same true a b = refl
directed-same false a b = then-Equal (value_cmp a b)

pub key-rank : (sorts : List SortCol) (a b : Row) → key_cmp (rank_key sorts a) (rank_key sorts b) ≡ rank_cmp sorts a b
key-rank [] a b = refl
key-rank (sort ∷ sorts) a b =
    let first = directed_cmp (directed_of sort.desc (cell sort.col a)) (directed_of sort.desc (cell sort.col b)) in
    then-then first (slice_cmp directed_cmp (rank_key sorts a).0 (rank_key sorts b).0) (row_cmp a b)
    ∙ ap (ordering_then first) (key-rank sorts a b)
    ∙ ap (λ o. ordering_then o (rank_cmp sorts a b)) (directed-same sort.desc (cell sort.col a) (cell sort.col b))

-- ---- the rows are in rank order

both : (a b : Bool) → T a → T b → T (a && b)
both true b p q = q
both false b p q = p

module _ (sorts : List SortCol) where
  itself : (row : Row) → T (not (is_gt (rank_cmp sorts row row)))
  itself row = subst (λ o. T (not (is_gt o))) (sym (tied_itself (rank_total sorts) row)) tt

  abbrev AreKeyed : List (Key × ℕ) → Type 0
  AreKeyed entries = AllByRecursion (λ entry. entry.0 ≡ rank_key sorts entry.0.1) entries

  below_copies : (low row : Row) (count : ℕ) (rows : List Row) → is_gt (rank_cmp sorts low row) ≡ false → T (at_most_all (rank_cmp sorts) low rows) → T (at_most_all (rank_cmp sorts) low (replicate count row ++ rows))
  below_copies low row zero rows l h = h
  below_copies low row (suc count) rows l h = both _ _ (subst (λ b. T (not b)) (sym l) tt) (below_copies low row count rows l h)

  below_all : (low : Key) (entries : List (Key × ℕ)) → low ≡ rank_key sorts low.1 → AreKeyed entries → AllByRecursion (λ key. key_cmp low key ≡ Less) (keys_of entries) → T (at_most_all (rank_cmp sorts) low.1 (rows_in entries))
  below_all low [] k are h = tt
  below_all low (entry ∷ entries) k are h =
      let less : rank_cmp sorts low.1 entry.0.1 ≡ Less = sym (key-rank sorts low.1 entry.0.1) ∙ ap (λ x. key_cmp x (rank_key sorts entry.0.1)) (sym k) ∙ ap (key_cmp low) (sym are.0) ∙ h.0 in
      below_copies low.1 entry.0.1 entry.1 (rows_in entries) (ap is_gt less) (below_all low entries k are.1 h.1)

  copies_sorted : (row : Row) (count : ℕ) (rows : List Row) → T (at_most_all (rank_cmp sorts) row rows) → T (in_order (rank_cmp sorts) rows) → T (in_order (rank_cmp sorts) (replicate count row ++ rows))
  copies_sorted row zero rows l h = h
  copies_sorted row (suc count) rows l h =
      both _ _ (below_copies row row count rows (ap is_gt (tied_itself (rank_total sorts) row)) l) (copies_sorted row count rows l h)

  pub rows_sorted : (entries : List (Key × ℕ)) → AreKeyed entries → IsStrictlySortedBy key_cmp (keys_of entries) → T (in_order (rank_cmp sorts) (rows_in entries))
  rows_sorted [] are s = tt
  rows_sorted (entry ∷ entries) are s =
      copies_sorted entry.0.1 entry.1 (rows_in entries)
      (below_all entry.0 entries are.0 are.1 (sorted_head key_cmp entry.0 (keys_of entries) s))
      (rows_sorted entries are.1 (sorted_tail key_cmp entry.0 (keys_of entries) s))

  -- ---- and each stands as often as its key counts

  weigh-copies : (f : Row → ℕ) (row : Row) (count : ℕ) → weigh f (replicate count row) ≡ count * f row
  weigh-copies f row zero = omega arith
  weigh-copies f row (suc count) = let h = weigh-copies f row count in omega arith

  pub occurs-rows_in : (row : Row) (entries : List (Key × ℕ)) → AreKeyed entries → occurs (rank_cmp sorts) row (rows_in entries) ≡ weigh (λ e. e.1 * one_at key_cmp (rank_key sorts row) e.0) entries
  occurs-rows_in row [] are = refl
  occurs-rows_in row (entry ∷ entries) are =
      let same : one_at (rank_cmp sorts) row entry.0.1 ≡ one_at key_cmp (rank_key sorts row) entry.0 =
      ap (λ o. cond (is_eq o) 1 0) (sym (key-rank sorts row entry.0.1)) ∙ ap (λ k. one_at key_cmp (rank_key sorts row) k) (sym are.0) in
      let here = weigh-copies (one_at (rank_cmp sorts) row) entry.0.1 entry.1 in
      let there = ap (λ n. entry.1 * n) same in
      omega (arith, weigh-append (one_at (rank_cmp sorts) row) (replicate entry.1 entry.0.1) (rows_in entries), occurs-rows_in row entries are.1)

  -- the rank order tells rows apart as the order of rows does
  pub one-rank : (row other : Row) → one_at (rank_cmp sorts) row other ≡ one_at row_cmp row other
  one-rank row other =
      elim (same_row row other) as (λ b. same_row row other ≡ b → one_at (rank_cmp sorts) row other ≡ cond b 1 0) [
        | true ↦ λ e. ap (λ r. one_at (rank_cmp sorts) row r) (sym (row_exact row other ((Equal-is (row_cmp row other)).0 e))) ∙ ap (λ o. cond (is_eq o) 1 0) (tied_itself (rank_total sorts) row)
        | false ↦ λ e. elim (eq_by_cmp (rank_cmp sorts) row other) as (λ b. eq_by_cmp (rank_cmp sorts) row other ≡ b → ◌≡◌ {A = ℕ} (cond b 1 0) 0) [
          | true ↦ λ t. absurd (
              let same : row ≡ other = rank_exact sorts row other ((Equal-is (rank_cmp sorts row other)).0 t) in
              let yes_ : same_row row other ≡ true = ap (λ r. same_row row r) (sym same) ∙ (Equal-is (row_cmp row row)).1 (tied_itself row_total row) in cc)
          | false ↦ λ t. refl
        ] refl
      ] refl

-- the rows of a map that keeps a partition
pub kept_rows : (order : List SortCol) (counts : BTreeMap Key ℕ) (rows : Rows) → IsRanked order counts rows → rows_in counts.entries ≡ in_rank_order order rows
kept_rows order counts rows keeps =
    same_items (rank_cmp order) (rank_total order) (rank_exact order) (rows_in counts.entries) (in_rank_order order rows)
    (rows_sorted order counts.entries keeps.keyed keeps.ordered) (items_in_order (bag_of {R = rank_cmp order} (items rows)))
    (λ row.
    occurs-rows_in order row counts.entries keeps.keyed
    ∙ weigh-lookup key_total (rank_key order row) counts.entries (IsDistinct-from_sorted key_cmp (keys counts) keeps.ordered)
    ∙ keeps.counted row
    ∙ copies-occurs rows row
    ∙ sym (total-bag_of {R = rank_cmp order} (rank_total order) (one_at (rank_cmp order) row) (items rows) ∙ same_ones row (items rows)))
  where
    same_ones : (row : Row) (xs : List Row) → occurs (rank_cmp order) row xs ≡ occurs row_cmp row xs
    same_ones row [] = refl
    same_ones row (x ∷ xs) = omega (arith, one-rank order row x, same_ones row xs)

-- ---- one more copy of a row

keyed-insert : (sorts : List SortCol) (entries : List (Key × ℕ)) (key : Key) (count : ℕ) → key ≡ rank_key sorts key.1 → AreKeyed sorts entries → AreKeyed sorts (insert_entry key_cmp entries key count)
keyed-insert sorts [] key count k are = (k, tt)
keyed-insert sorts (entry ∷ entries) key count k are =
    elim (key_cmp key entry.0) as (λ o. AreKeyed sorts (match_ordering o ((key, count) ∷ entry ∷ entries) ((entry.0, count) ∷ entries) (entry ∷ insert_entry key_cmp entries key count))) [
      | Less ↦ (k, are)
      | Equal ↦ (are.0, are.1)
      | Greater ↦ (are.0, keyed-insert sorts entries key count k are.1)
    ]

-- a key is a row's exactly where the rows are one
key-is : (sorts : List SortCol) (key : Key) (row : Row) → key ≡ rank_key sorts key.1 → is_at (key_cmp key) (rank_key sorts row) ≡ same_row row key.1
key-is sorts key row k =
    let rank : key_cmp key (rank_key sorts row) ≡ rank_cmp sorts key.1 row = ap (λ x. key_cmp x (rank_key sorts row)) k ∙ key-rank sorts key.1 row in
    ap is_eq rank ∙ (eq_by_cmp_equiv (rank_total sorts)).symm key.1 row ∙ elim (same_row row key.1) as (λ b. same_row row key.1 ≡ b → eq_by_cmp (rank_cmp sorts) row key.1 ≡ b) [
      | true ↦ λ e. ap (λ r. eq_by_cmp (rank_cmp sorts) row r) (sym (row_exact row key.1 ((Equal-is (row_cmp row key.1)).0 e))) ∙ (Equal-is (rank_cmp sorts row row)).1 (tied_itself (rank_total sorts) row)
      | false ↦ λ e. elim (eq_by_cmp (rank_cmp sorts) row key.1) as (λ b. eq_by_cmp (rank_cmp sorts) row key.1 ≡ b → b ≡ false) [
        | true ↦ λ t. absurd (
            let same : row ≡ key.1 = rank_exact sorts row key.1 ((Equal-is (rank_cmp sorts row key.1)).0 t) in
            let yes_ : same_row row key.1 ≡ true = ap (λ r. same_row row r) (sym same) ∙ (Equal-is (row_cmp row row)).1 (tied_itself row_total row) in cc)
        | false ↦ λ t. refl
      ] refl
    ] refl

-- another count of a row
keeps-write : (order : List SortCol) (m n : BTreeMap Key ℕ) (key : Key) (rows others : Rows) (w : Option ℕ) → key ≡ rank_key order key.1
    → unwrap_or w 0 ≡ copies others key.1 → ((row : Row) → same_row row key.1 ≡ false → copies rows row ≡ copies others row) → IsOrdered key_cmp n → AreKeyed order n.entries
    → ((q : Key) → get key_cmp n q ≡ cond (is_at (key_cmp key) q) w (get key_cmp m q)) → IsRanked order m rows → IsRanked order n others
keeps-write order m n key rows others w k size stays sorted keyed writes keeps = record {
  ordered = sorted;
  keyed = keyed;
  counted = λ row.
      ap (λ o. unwrap_or o 0) (writes (rank_key order row) ∙ ap (λ b. cond b w (get key_cmp m (rank_key order row))) (key-is order key row k))
      ∙ elim (same_row row key.1) as (λ b. same_row row key.1 ≡ b → unwrap_or (cond b w (get key_cmp m (rank_key order row))) 0 ≡ copies others row) [
        | true ↦ λ e.
            let same : row ≡ key.1 = row_exact row key.1 ((Equal-is (row_cmp row key.1)).0 e) in
            size ∙ ap (copies others) (sym same)
        | false ↦ λ e. keeps.counted row ∙ stays row e
      ] refl;
}

-- what the map has at the key of a row
pub count-here : (order : List SortCol) (m : BTreeMap Key ℕ) (key : Key) (rows : Rows) → key ≡ rank_key order key.1 → IsRanked order m rows → unwrap_or (get key_cmp m key) 0 ≡ copies rows key.1
count-here order m key rows k keeps = ap (λ q. unwrap_or (get key_cmp m q) 0) k ∙ keeps.counted key.1

elsewhere-none : (row other : Row) → same_row row other ≡ false → one_at row_cmp row other ≡ 0
elsewhere-none row other e = ap (λ b. cond b 1 0) e

pub keeps-add : (order : List SortCol) (m n : BTreeMap Key ℕ) (key : Key) (rows : Rows) (count : ℕ) → key ≡ rank_key order key.1
    → count ≡ unwrap_or (get key_cmp m key) 0 + 1 → IsOrdered key_cmp n → n.entries ≡ insert_entry key_cmp m.entries key count
    → ((q : Key) → get key_cmp n q ≡ cond (is_at (key_cmp key) q) (Some count) (get key_cmp m q)) → IsRanked order m rows → IsRanked order n (add rows key.1)
keeps-add order m n key rows count k size sorted entries writes keeps =
    keeps-write order m n key rows (add rows key.1) (Some count) k
    (let e1 : count ≡ copies (add rows key.1) key.1 = omega (arith, size, count-here order m key rows k keeps, copies-add row_total rows key.1 key.1, one_at_itself row_cmp row_total key.1) in e1)
    (λ row e. omega (arith, copies-add row_total rows key.1 row, elsewhere-none row key.1 e))
    sorted (subst (AreKeyed order) (sym entries) (keyed-insert order m.entries key count k keeps.keyed)) writes keeps

-- one copy less, of which some are left
pub keeps-less : (order : List SortCol) (m n : BTreeMap Key ℕ) (key : Key) (rows : Rows) (count : ℕ) → key ≡ rank_key order key.1
    → count + 1 ≡ unwrap_or (get key_cmp m key) 0 → IsOrdered key_cmp n → n.entries ≡ insert_entry key_cmp m.entries key count
    → ((q : Key) → get key_cmp n q ≡ cond (is_at (key_cmp key) q) (Some count) (get key_cmp m q)) → IsRanked order m rows → IsRanked order n (remove rows key.1)
keeps-less order m n key rows count k size sorted entries writes keeps =
    let here = count-here order m key rows k keeps in
    let gone = λ (row : Row). copies-remove row_total row_exact rows key.1 row (omega arith) in
    keeps-write order m n key rows (remove rows key.1) (Some count) k
    (let e1 : count ≡ copies (remove rows key.1) key.1 = omega (arith, size, here, gone key.1, one_at_itself row_cmp row_total key.1) in e1)
    (λ row e. omega (arith, gone row, elsewhere-none row key.1 e))
    sorted (subst (AreKeyed order) (sym entries) (keyed-insert order m.entries key count k keeps.keyed)) writes keeps

keyed-remove : (order : List SortCol) (test : Key → Bool) (entries : List (Key × ℕ)) → AreKeyed order entries → AreKeyed order (remove_entry test entries)
keyed-remove order test [] are = tt
keyed-remove order test (entry ∷ entries) are = elim (test entry.0) as (λ b. AreKeyed order (cond b entries (entry ∷ remove_entry test entries))) [ true ↦ are.1 | false ↦ (are.0, keyed-remove order test entries are.1) ]

-- the last copy goes
pub keeps-gone : (order : List SortCol) (m n : BTreeMap Key ℕ) (key : Key) (rows : Rows) → key ≡ rank_key order key.1
    → unwrap_or (get key_cmp m key) 0 ≡ 1 → IsOrdered key_cmp n → n.entries ≡ remove_entry (is_at (key_cmp key)) m.entries
    → ((q : Key) → get key_cmp n q ≡ cond (is_at (key_cmp key) q) None (get key_cmp m q)) → IsRanked order m rows → IsRanked order n (remove rows key.1)
keeps-gone order m n key rows k size sorted entries writes keeps =
    let here = count-here order m key rows k keeps in
    let gone = λ (row : Row). copies-remove row_total row_exact rows key.1 row (omega arith) in
    keeps-write order m n key rows (remove rows key.1) None k
    (let e1 : 0 ≡ copies (remove rows key.1) key.1 = omega (arith, size, here, gone key.1, one_at_itself row_cmp row_total key.1) in e1)
    (λ row e. omega (arith, gone row, elsewhere-none row key.1 e))
    sorted (subst (AreKeyed order) (sym entries) (keyed-remove order (is_at (key_cmp key)) m.entries keeps.keyed)) writes keeps

-- a map without entries keeps no rows, and is kept of none
pub nothing_kept : (order : List SortCol) (counts : BTreeMap Key ℕ) → counts.entries ≡ [] → IsOrdered key_cmp counts → IsRanked order counts none
nothing_kept order counts e sorted = record {
  ordered = sorted;
  keyed = subst (AreKeyed order) (sym e) tt;
  counted = λ row. ap (λ es. unwrap_or (lookup (is_at (key_cmp (rank_key order row))) es) 0) e ∙ sym (copies-none row_total row);
}

pub kept_nothing : (order : List SortCol) (counts : BTreeMap Key ℕ) (rows : Rows) → counts.entries ≡ [] → IsRanked order counts rows → rows ≡ none
kept_nothing order counts rows e keeps = same_bag row_total row_exact _ _ (λ row.
    sym (keeps.counted row) ∙ ap (λ es. unwrap_or (lookup (is_at (key_cmp (rank_key order row))) es) 0) e ∙ sym (copies-none row_total row))
