-- What is known of each change that is told: its row and its kind.
use Rattle.std.proofs.Common.{◌≡◌, ℕ, suc, pos, ◌+◌, ◌<◌, ◌≤◌, ◌^◌, ◌==◌, Bool, true, false, cond, ◌||◌, List, [], ◌∷◌, length, map, Some, refl, ap, arith}
use Rattle.std.specs.List.{AllByRecursion}
use Rattle.ct_value.specs.Bag.{occurs, drop_one}
use Rattle.ct_value.specs.Order.{row_cmp}
use Rattle.ct_value.specs.declared.row.Row.{Row}
use Rattle.ct_value.specs.declared.ty.Ty.TheVariants.{BigInt}
use Rattle.ct_value.specs.declared.value.Value.TheVariants.{Num}
use Rattle.ct_field.specs.Numbers.{in_range}
use Rattle.ct_field.specs.Typed.{col_fits}
use Rattle.ct_change.specs.declared.kind.Kind.{Kind}
use Rattle.ct_change.specs.declared.kind.Kind.TheVariants.{I, UB, UA, D}
use Rattle.ct_change.specs.declared.kind.KindSet.{KindSet}
use Rattle.ct_change.specs.declared.change.Change.{Change}
use Rattle.ct_change.specs.Changelog.{Mode, append, retract, upsert, same_row, adds, has, admits, AreOf}
use Rattle.ct_change.specs.Emission.{emission, update}
use Rattle.ct_change.proofs.laws.Emissions.{Tell, both-emission}
use Rattle.rel_algebra.specs.Clauses.{Fits}
use Rattle.rel_algebra.specs.Ranks.{ranked_from, shown, rank_column, rank_columns}
use Rattle.rel_algebra.proofs.laws.Averages.{within_pos}
use Rattle.rel_algebra.proofs.laws.Fits.{both, fits-append}
use Rattle.op_rules.proofs.laws.Histories.{all-append}
use Rattle.emission_rules.specs.TopFits.{output_kinds}
use Rattle.ct_change.specs.Kinds.{has_more_than_inserts}
use Rattle.emission_rules.specs.Ranking.{Ranking, told_by_rank, beyond, told_by_row, by_rank, told}

-- ---- rows that are shown have the answer's columns

shown_fits : (ranked : Bool) (r : Ranking) (row : Row) (rank : ℕ) → Fits r.columns row → rank < 2 ^ 63 → Fits (rank_columns ranked r.columns) (shown ranked (row, rank))
shown_fits false r row rank p l = p
shown_fits true r row rank p l = fits-append r.columns (rank_column ∷ []) row (Num (pos rank) ∷ []) p
    (both (col_fits rank_column (Num (pos rank))) true (both (in_range BigInt (pos rank)) true (within_pos (2 ^ 63) rank l) refl) refl)

pub all_fit : (r : Ranking) (rank : ℕ) (rows : List Row) → AllByRecursion (Fits r.columns) rows → rank + length rows ≤ 2 ^ 63 → AllByRecursion (Fits (rank_columns r.ranked r.columns)) (map (shown r.ranked) (ranked_from rank rows))
all_fit r rank [] fits few = tt
all_fit r rank (row ∷ rows) fits few = (shown_fits r.ranked r row rank fits.0 (omega arith), all_fit r (suc rank) rows fits.1 (omega arith))

-- ---- rows

module _ (P : Row → Type 0) (Q : Change → Type 0) where
  rows_by_rank : (ranked : Bool) (output : Mode) → Tell P Q output → (rank : ℕ) (olds news : List Row) → AllByRecursion P (map (shown ranked) (ranked_from rank olds)) → AllByRecursion P (map (shown ranked) (ranked_from rank news)) → AllByRecursion Q (told_by_rank ranked output rank olds news)
  rows_by_rank ranked output to rank [] [] p q = tt
  rows_by_rank ranked output to rank [] (new ∷ news) p q = (to I (shown ranked (new, rank)) q.0, rows_by_rank ranked output to (suc rank) [] news tt q.1)
  rows_by_rank ranked output to rank (old ∷ olds) [] p q = (to D (shown ranked (old, rank)) p.0, rows_by_rank ranked output to (suc rank) olds [] p.1 tt)
  rows_by_rank ranked output to rank (old ∷ olds) (new ∷ news) p q =
      all-append Q (emission output (Some (shown ranked (old, rank))) (Some (shown ranked (new, rank)))) (told_by_rank ranked output (suc rank) olds news)
      (both-emission P Q output to (shown ranked (old, rank)) (shown ranked (new, rank)) p.0 q.0) (rows_by_rank ranked output to (suc rank) olds news p.1 q.1)

all-beyond : (P : Row → Type 0) (rows others : List Row) → AllByRecursion P rows → AllByRecursion P (beyond rows others)
all-beyond P [] others p = tt
all-beyond P (row ∷ rows) others p =
    elim (occurs row_cmp row others == 0) as (λ b. AllByRecursion P (cond b (row ∷ beyond rows others) (beyond rows (drop_one row_cmp row others)))) [
      | true ↦ (p.0, all-beyond P rows others p.1)
      | false ↦ all-beyond P rows (drop_one row_cmp row others) p.1
    ]

rows_of_kind : (P : Row → Type 0) (Q : Change → Type 0) (kind : Kind) → ((row : Row) → P row → Q (record { kind = kind; row = row })) → (rows : List Row) → AllByRecursion P rows → AllByRecursion Q (map (λ row. record { kind = kind; row = row }) rows)
rows_of_kind P Q kind to [] p = tt
rows_of_kind P Q kind to (row ∷ rows) p = (to row p.0, rows_of_kind P Q kind to rows p.1)

-- without ranks rows are shown as they are
pub shown_plain : (rank : ℕ) (rows : List Row) → map (shown false) (ranked_from rank rows) ≡ rows
shown_plain rank [] = refl
shown_plain rank (row ∷ rows) = ap (λ xs. row ∷ xs) (shown_plain (suc rank) rows)

-- what holds of all rows that are shown before and after holds of all changes that tell them; row by row they are told as they are
pub rows_told : (P : Row → Type 0) (Q : Change → Type 0) (r : Ranking) → Tell P Q r.output → (by_rank r ≡ false → (row : Row) → P row → Q (record { kind = D; row = row })) → (olds news : List Row)
    → AllByRecursion P (map (shown r.ranked) (ranked_from 1 olds)) → AllByRecursion P (map (shown r.ranked) (ranked_from 1 news)) → AllByRecursion Q (told r olds news)
rows_told P Q r to goes olds news =
    elim r.ranked as (λ b. r.ranked ≡ b → AllByRecursion P (map (shown b) (ranked_from 1 olds)) → AllByRecursion P (map (shown b) (ranked_from 1 news)) → AllByRecursion Q (cond (b || (r.bound == 1)) (told_by_rank b r.output 1 olds news) (told_by_row olds news))) [
      | true ↦ λ e p q. rows_by_rank P Q true r.output to 1 olds news p q
      | false ↦ λ e p q. elim (r.bound == 1) as (λ b. (r.bound == 1) ≡ b → AllByRecursion Q (cond b (told_by_rank false r.output 1 olds news) (told_by_row olds news))) [
        | true ↦ λ f. rows_by_rank P Q false r.output to 1 olds news p q
        | false ↦ λ f.
            all-append Q (map (λ row. record { kind = D; row = row }) (beyond olds news)) (map (λ row. record { kind = I; row = row }) (beyond news olds))
            (rows_of_kind P Q D (goes (λ i. e i || f i)) (beyond olds news) (all-beyond P olds news (plain olds p)))
            (rows_of_kind P Q I (to I) (beyond news olds) (all-beyond P news olds (plain news q)))
      ] refl
    ] refl
  where
    plain : (rows : List Row) → AllByRecursion P (map (shown false) (ranked_from 1 rows)) → AllByRecursion P rows
    plain rows p = go 1 rows p
      where
        go : (rank : ℕ) (rows : List Row) → AllByRecursion P (map (shown false) (ranked_from rank rows)) → AllByRecursion P rows
        go rank [] p = tt
        go rank (row ∷ rows) p = (p.0, go (suc rank) rows p.1)

-- ---- kinds

abbrev by_rank_kinds : Mode → Bool → KindSet
by_rank_kinds output shrinks = record { i = true; ub = admits output UB; ua = admits output UA; d = shrinks }

kinds_update : (output : Mode) (shrinks : Bool) (old new : Row) (b : Bool) → AreOf (by_rank_kinds output shrinks) (cond b [] (update output old new))
kinds_update output shrinks old new true = tt
kinds_update append shrinks old new false = tt
kinds_update retract shrinks old new false = (refl, (refl, tt))
kinds_update (upsert key) shrinks old new false = (refl, tt)

kinds_by_rank : (ranked : Bool) (output : Mode) (shrinks : Bool) (rank : ℕ) (olds news : List Row) → (shrinks ≡ false → length olds ≤ length news) → AreOf (by_rank_kinds output shrinks) (told_by_rank ranked output rank olds news)
kinds_by_rank ranked output shrinks rank [] [] h = tt
kinds_by_rank ranked output shrinks rank [] (new ∷ news) h = (refl, kinds_by_rank ranked output shrinks (suc rank) [] news (λ e. omega arith))
kinds_by_rank ranked output shrinks rank (old ∷ olds) [] h =
    let fewer : shrinks ≡ true = elim shrinks as (λ b. shrinks ≡ b → b ≡ true) [ true ↦ λ e. refl | false ↦ λ e. absurd (let a = h e in omega arith) ] refl in
    (fewer, kinds_by_rank ranked output shrinks (suc rank) olds [] (λ e. absurd (cc)))
kinds_by_rank ranked output shrinks rank (old ∷ olds) (new ∷ news) h =
    all-append (λ change. has (by_rank_kinds output shrinks) change.kind ≡ true) (emission output (Some (shown ranked (old, rank))) (Some (shown ranked (new, rank)))) (told_by_rank ranked output (suc rank) olds news)
    (kinds_update output shrinks (shown ranked (old, rank)) (shown ranked (new, rank)) (same_row (shown ranked (old, rank)) (shown ranked (new, rank))))
    (kinds_by_rank ranked output shrinks (suc rank) olds news (λ e. let a = h e in omega arith))

kinds_of_kind : (kinds : KindSet) (kind : Kind) → has kinds kind ≡ true → (rows : List Row) → AreOf kinds (map (λ row. record { kind = kind; row = row }) rows)
kinds_of_kind kinds kind e [] = tt
kinds_of_kind kinds kind e (row ∷ rows) = (e, kinds_of_kind kinds kind e rows)

-- where the input has inserts alone, each change adds
pub only_inserts : (kinds : KindSet) (kind : Kind) → has_more_than_inserts kinds ≡ false → has kinds kind ≡ true → adds kind ≡ true
only_inserts kinds I e h = refl
only_inserts kinds UB e h = absurd (some_kind kinds.ub (kinds.ua || kinds.d) h e)
  where
    some_kind : (a b : Bool) → a ≡ true → (a || b) ≡ false → ⊥
    some_kind true b h e = cc
    some_kind false b h e = cc
only_inserts kinds UA e h = refl
only_inserts kinds D e h = absurd (last_kind kinds.ub kinds.ua kinds.d e h)
  where
    last_kind : (a b c : Bool) → (a || (b || c)) ≡ false → c ≡ true → ⊥
    last_kind true b c e h = cc
    last_kind false true c e h = cc
    last_kind false false c e h = cc

pub kinds_told : (r : Ranking) (kinds : KindSet) (olds news : List Row) → (has_more_than_inserts kinds ≡ false → length olds ≤ length news) → AreOf (output_kinds r kinds) (told r olds news)
kinds_told r kinds olds news h =
    elim (by_rank r) as (λ b. AreOf (cond b (by_rank_kinds r.output (has_more_than_inserts kinds)) (record { i = true; ub = false; ua = false; d = true })) (cond b (told_by_rank r.ranked r.output 1 olds news) (told_by_row olds news))) [
      | true ↦ kinds_by_rank r.ranked r.output (has_more_than_inserts kinds) 1 olds news h
      | false ↦ all-append _ (map (λ row. record { kind = D; row = row }) (beyond olds news)) (map (λ row. record { kind = I; row = row }) (beyond news olds)) (kinds_of_kind _ D refl (beyond olds news)) (kinds_of_kind _ I refl (beyond news olds))
    ]
