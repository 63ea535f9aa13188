-- What a change makes of partitions, as the rule of Top-N says it.
use Rattle.std.proofs.Common.{◌≡◌, ℕ, zero, suc, pos, ◌<◌, ◌≤◌, ◌+◌, ◌^◌, ◌++◌, Bool, true, false, cond, List, [], ◌∷◌, length, take, Option, Some, None, is_some, Ok, refl, sym, ap, subst, ◌∙◌, arith, length-append, append-nil, slice_index_or}
use Rattle.std.specs.List.{AllByRecursion}
use Rattle.std.specs.BTreeMap.{BTreeMap, IsOrdered, IsEmpty, is_at}
use Rattle.std.specs.Cmp.{eq_by_cmp_equiv}
use Rattle.std.specs.Map.{lookup}
use Rattle.ct_value.specs.Bag.{items, copies, total, none, weigh}
use Rattle.ct_value.proofs.laws.Bags.{total-none, copies-none}
use Rattle.ct_value.specs.Order.{row_cmp, row_total, row_exact}
use Rattle.ct_value.specs.Rows.{project}
use Rattle.ct_value.specs.declared.row.Row.{Row}
use Rattle.ct_value.specs.declared.value.Value.TheVariants.{Null, Num}
use Rattle.ct_change.specs.declared.change.Change.{Change}
use Rattle.ct_change.specs.Changelog.{Mode, append, retract, upsert, Rows, same_row, apply, fold, MayCome}
use Rattle.ct_change.specs.Emission.{difference, row_of, replaced, CanTell}
use Rattle.ct_change.proofs.laws.Folds.{fold-push, total-apply, weight-come}
use Rattle.rel_algebra.specs.Ranks.{in_rank_order}
use Rattle.rel_algebra.proofs.laws.Bags.{restrict-none, total-restrict}
use Rattle.op_rules.specs.History.{Arrival, arrival, at_port}
use Rattle.op_rules.specs.Rules.{Answer, MayArrive}
use Rattle.op_rules.specs.Values.{types_fit}
use Rattle.op_rules.proofs.laws.Values.{types-length}
use Rattle.op_rules.proofs.laws.Histories.{at_port-push, at_port-one}
use Rattle.emission_rules.specs.Ranking.{Ranking, key_of, members, first, told, tells, tells_all, topn_rule, names, TellsRanks, IsSound}
use Rattle.emission_rules.proofs.laws.TopAnswers.{IsWide}
use Rattle.emission_rules.proofs.laws.TopHistories.{length-take}
use Rattle.emission_rules.proofs.laws.Places.{entry, key-entry, cell-behind, project-at}
use Rattle.emission_rules.proofs.laws.Ranked.{all-first, all_after, other_members, cond-le}
use Rattle.op_topn.specs.declared.rows.RankedRows.{RankedRows}
use Rattle.op_topn.specs.declared.partitions.Firsts.{Firsts}
use Rattle.op_topn.specs.Kept.{HasRow, KeptAt, AreFirsts, AreKept, IsTurned}
use Rattle.op_topn.specs.Tells.{shown_at, CanTellFrom, AreRanked}
use Rattle.op_topn.specs.Tops.{IsHeld, MayTake}
use Rattle.op_topn.proofs.Behind.{nothing_told}
use Rattle.op_topn.proofs.Members.{gone_member, own_members}
use Rattle.op_topn.proofs.Walks.{first_ranked}

-- ---- first rows that are told, or stay

pub some_firsts : (olds news : List Row) (told : Option Firsts) (firsts : Firsts) → told ≡ Some firsts → AreFirsts told olds news → (firsts.olds.items ≡ olds) × (firsts.news.items ≡ news)
some_firsts olds news told firsts e are = subst (λ o. AreFirsts o olds news) e are

pub same_firsts : (olds news : List Row) (told : Option Firsts) → told ≡ None → AreFirsts told olds news → news ≡ olds
same_firsts olds news told e are = subst (λ o. AreFirsts o olds news) e are

-- ---- each rank can be told

module _ (r : Ranking) (sound : IsSound r) (key : Row) where
  abbrev pub IsIn : Row → Type 0
  IsIn row = (key ≡ key_of r row) × IsWide r row

  rank_cell : (row : Row) (rank : ℕ) → IsWide r row → slice_index_or (entry row rank) (length r.columns) Null ≡ Num (pos rank)
  rank_cell row rank wide = ap (λ n. slice_index_or (entry row rank) n Null) (sym wide) ∙ cell-behind row (Num (pos rank))

  -- rows of one partition at one rank have one name
  same_name : (mode : Mode) (columns : List ℕ) → TellsRanks r (upsert columns) → (old new : Row) (rank : ℕ) → IsIn old → IsIn new → CanTell (upsert columns) (shown_at r.ranked rank (Some old)) (shown_at r.ranked rank (Some new))
  same_name mode columns tells old new rank p q = go r.ranked refl tells.2
    where
      go : (b : Bool) → r.ranked ≡ b → ((a c : Row) → project (names r) a ≡ project (names r) c → project columns a ≡ project columns c) → CanTell (upsert columns) (shown_at b rank (Some old)) (shown_at b rank (Some new))
      go true e lies = lies (entry old rank) (entry new rank) (
          subst (λ b. project (cond b (r.partition ++ length r.columns ∷ []) r.partition) (entry old rank) ≡ project (cond b (r.partition ++ length r.columns ∷ []) r.partition) (entry new rank)) (sym e)
          (project-at r.partition (length r.columns) (entry old rank) (entry new rank)
          (key-entry r sound.within old rank p.1 ∙ sym p.0 ∙ q.0 ∙ sym (key-entry r sound.within new rank q.1)) (rank_cell old rank p.1 ∙ sym (rank_cell new rank q.1))))
      go false e lies = lies old new (
          subst (λ b. project (cond b (r.partition ++ length r.columns ∷ []) r.partition) old ≡ project (cond b (r.partition ++ length r.columns ∷ []) r.partition) new) (sym e)
          (sym p.0 ∙ q.0))

  can_from : (mode : Mode) → TellsRanks r mode → (rank : ℕ) (olds news : List Row) → AllByRecursion IsIn olds → AllByRecursion IsIn news → CanTellFrom mode r.ranked rank olds news
  can_from append tells rank olds news p q = absurd tells
  can_from retract tells rank [] [] p q = tt
  can_from retract tells rank [] (new ∷ news) p q = (tt, can_from retract tells (suc rank) [] news tt q.1)
  can_from retract tells rank (old ∷ olds) [] p q = (tt, can_from retract tells (suc rank) olds [] p.1 tt)
  can_from retract tells rank (old ∷ olds) (new ∷ news) p q = (tt, can_from retract tells (suc rank) olds news p.1 q.1)
  can_from (upsert columns) tells rank [] [] p q = tt
  can_from (upsert columns) tells rank [] (new ∷ news) p q = (tt, can_from (upsert columns) tells (suc rank) [] news tt q.1)
  can_from (upsert columns) tells rank (old ∷ olds) [] p q = (tt, can_from (upsert columns) tells (suc rank) olds [] p.1 tt)
  can_from (upsert columns) tells rank (old ∷ olds) (new ∷ news) p q = (same_name (upsert columns) columns tells old new rank p.0 q.0, can_from (upsert columns) tells (suc rank) olds news p.1 q.1)

-- ---- one change

-- each of a list's columns is there
pub all_at : (width : ℕ) (columns : List ℕ) → AllByRecursion (λ column. column < width) columns → (k d : ℕ) → k < length columns → slice_index_or columns k d < width
all_at width [] h k d l = absurd (omega arith)
all_at width (column ∷ columns) h zero d l = h.0
all_at width (column ∷ columns) h (suc k) d l = all_at width columns h.1 k d (omega arith)

module _ (r : Ranking) (rows : Rows) (partitions : BTreeMap Row RankedRows) (held : ℕ) (change : Change) (m : MayTake r rows partitions held change) where
  abbrev key : Row
  key = key_of r change.row

  abbrev after : Rows
  after = apply r.input rows change

  abbrev gone_row : Option Row
  gone_row = row_of (difference r.input rows change).gone

  abbrev come_row : Option Row
  come_row = row_of (difference r.input rows change).come

  pub columns_there : AllByRecursion (λ column. column < length change.row) r.partition
  columns_there = subst (λ n. AllByRecursion (λ column. column < n) r.partition) (sym (types-length r.columns change.row m.fits)) m.sound.within

  few_members : total (λ _. 1) (members r key rows) ≤ total (λ _. 1) rows
  few_members = le_by (total-restrict row_total row_exact (λ _. 1) (λ other. same_row key (key_of r other)) rows) (fewer (items rows))
    where
      fewer : (xs : List Row) → weigh (λ x. cond {A = ℕ} (same_row key (key_of r x)) 1 0) xs ≤ weigh (λ _. 1) xs
      fewer [] = omega arith
      fewer (x ∷ xs) = let l = fewer xs in let c = cond-le (same_row key (key_of r x)) 1 in omega arith

      le_by : {a b c : ℕ} → a ≡ b → b ≤ c → a ≤ c
      le_by e l = omega (arith, e, l)

  fits_after : (row : Row) → 0 < copies after row → types_fit r.columns row ≡ true
  fits_after = all_after r rows change m.sound.keeps m.may (λ row. types_fit r.columns row ≡ true) m.is_held.fits (λ adding. m.fits)

  turned : IsTurned key (λ k. members r k rows) (λ k. members r k after) gone_row come_row
  turned = record {
    own = own_members r m.sound.keeps rows change m.may;
    others = λ other e. other_members r rows change m.sound.keeps m.may other ((eq_by_cmp_equiv row_total).symm other key ∙ e);
  }

  pub held_after : (new : BTreeMap Row RankedRows) → AreKept r.order new (λ k. members r k (apply r.input rows change)) → IsHeld r (apply r.input rows change) new (held + 1)
  held_after new kept = record {
    kept = kept;
    fits = fits_after;
    few = let e = total-apply (λ _. 1) r.input rows change m.may in let b = weight-come (λ _. 1) r.input rows change in let c = cond-le (is_some (difference r.input rows change).come) 1 in omega (arith, m.is_held.few);
  }

  are_in : (all : Rows) → ((row : Row) → 0 < copies all row → types_fit r.columns row ≡ true) → AllByRecursion (IsIn r m.sound key) (first r key all)
  are_in all fits = all-first r (IsWide r) key all (λ row there. types-length r.columns row (fits row there))

  can_tell : CanTellFrom r.output r.ranked 1 (first r key rows) (first r key after)
  can_tell = can_from r m.sound key r.output m.sound.tells 1 (first r key rows) (first r key after) (are_in rows m.is_held.fits) (are_in after fits_after)

  -- of a key, a row that goes and one that comes which are the change's
  module _ (k : Row) (o p : Option Row) (is_key : k ≡ project r.partition change.row) (is_gone : o ≡ row_of (difference r.input rows change).gone) (is_come : p ≡ row_of (difference r.input rows change).come) where
    pub has_at : HasRow (members r k rows) o
    has_at = subst (λ q. HasRow (members r q rows) o) (sym is_key) (subst (HasRow (members r key rows)) (sym is_gone) (gone_member r m.sound.keeps rows change m.may))

    pub room_at : total (λ _. 1) (members r k rows) + 1 < 2 ^ 64
    room_at = subst (λ q. total (λ _. 1) (members r q rows) + 1 < 2 ^ 64) (sym is_key) (let l = few_members in omega (arith, m.is_held.few, m.few))

    pub turned_at : IsTurned k (λ q. members r q rows) (λ q. members r q (apply r.input rows change)) o p
    turned_at =
        subst (λ q. IsTurned q (λ n. members r n rows) (λ n. members r n after) o p) (sym is_key)
        (subst (λ q. IsTurned key (λ n. members r n rows) (λ n. members r n after) q p) (sym is_gone) (subst (λ q. IsTurned key (λ n. members r n rows) (λ n. members r n after) gone_row q) (sym is_come) turned))

    -- the first rows before and after it
    module _ (olds news : List Row) (old_is : olds ≡ take r.bound (in_rank_order r.order (members r k rows))) (new_is : news ≡ take r.bound (in_rank_order r.order (replaced (members r k rows) o p))) where
      olds_at : olds ≡ first r key rows
      olds_at = old_is ∙ ap (λ q. take r.bound (in_rank_order r.order (members r q rows))) is_key

      news_at : news ≡ first r key after
      news_at = new_is ∙ ap (λ (all : Rows). take r.bound (in_rank_order r.order all)) (sym turned_at.own) ∙ ap (λ q. take r.bound (in_rank_order r.order (members r q after))) is_key

      pub can_at : CanTellFrom r.output r.ranked 1 olds news
      can_at = subst (λ xs. CanTellFrom r.output r.ranked 1 xs news) (sym olds_at) (subst (CanTellFrom r.output r.ranked 1 (first r key rows)) (sym news_at) can_tell)

      pub few_at : (length olds < 2 ^ 63) × (length news < 2 ^ 63)
      few_at = (
        short olds (in_rank_order r.order (members r k rows)) old_is,
        short news (in_rank_order r.order (replaced (members r k rows) o p)) new_is,
      )
        where
          short : (xs ys : List Row) → xs ≡ take r.bound ys → length xs < 2 ^ 63
          short xs ys e = let l = length-take r.bound ys in let n = ap length e in omega (arith, m.sound.few)

      pub ranked_at : AreRanked r.order olds × AreRanked r.order news
      ranked_at = (subst (AreRanked r.order) (sym old_is) (first_ranked r.order r.bound (members r k rows)), subst (AreRanked r.order) (sym new_is) (first_ranked r.order r.bound (replaced (members r k rows) o p)))

      pub told_at : told r olds news ≡ tells r rows change
      told_at = (λ i. told r (olds_at i) (news_at i))

      pub nothing_at : news ≡ olds → [] ≡ tells r rows change
      nothing_at same = sym (ap (told r olds) same ∙ nothing_told r olds) ∙ told_at

-- ---- as a history's

port-first : (port : ℕ) → port < 1 → port ≡ 0
port-first port less = omega arith

module _ (r : Ranking) (before : List Arrival) (port from : ℕ) (change : Change) (may : MayArrive (topn_rule r) before (arrival port from change)) where
  at_first : port ≡ 0
  at_first = port-first port may.port

  pub may_take : (partitions : BTreeMap Row RankedRows) → IsSound r → IsHeld r (fold r.input (at_port 0 before)) partitions (length before) → length before + 1 < 2 ^ 32
      → MayTake r (fold r.input (at_port 0 before)) partitions (length before) change
  may_take partitions sound held few = record {
    sound = sound;
    is_held = held;
    may = subst (λ p. MayCome r.input (fold r.input (at_port p before)) change) at_first may.change;
    fits = may.fits;
    key = may.key;
    few = few;
  }

  pub fold_arrives : fold r.input (at_port 0 (before ++ arrival port from change ∷ [])) ≡ apply r.input (fold r.input (at_port 0 before)) change
  fold_arrives = ap (fold r.input) (at_port-push 0 before (arrival port from change) at_first) ∙ fold-push r.input (at_port 0 before) change

  pub emits_arrives : (sent : List Change) → sent ≡ tells r (fold r.input (at_port 0 before)) change → (topn_rule r).emits before (arrival port from change ∷ []) ≡ Ok sent
  emits_arrives sent e =
      ap (λ changes. let a : Answer = Ok (tells_all r (fold r.input (at_port 0 before)) changes) in a) (at_port-one 0 (arrival port from change) at_first)
      ∙ ap (λ xs. let a : Answer = Ok xs in a) (append-nil (tells r (fold r.input (at_port 0 before)) change) ∙ sym e)

  pub held_arrives : (partitions : BTreeMap Row RankedRows) → IsHeld r (apply r.input (fold r.input (at_port 0 before)) change) partitions (length before + 1)
      → IsHeld r (fold r.input (at_port 0 (before ++ arrival port from change ∷ []))) partitions (length (before ++ arrival port from change ∷ []))
  held_arrives partitions held = rw (fold_arrives, length-append) held

-- ---- no rows

pub held_none : (r : Ranking) (partitions : BTreeMap Row RankedRows) → IsOrdered row_cmp partitions → IsEmpty partitions → IsHeld r none partitions 0
held_none r partitions ordered empty = record {
  kept = record { ordered = ordered; each = λ key. subst (KeptAt r.order (members r key none)) (sym (ap (lookup (is_at (row_cmp key))) empty)) (restrict-none {R = row_cmp} row_total row_exact (λ row. same_row key (key_of r row))) };
  fits = λ row there. absurd (let e = copies-none row_total row in omega arith);
  few = let e = total-none {R = row_cmp} row_total (λ _. 1) in omega arith;
}
