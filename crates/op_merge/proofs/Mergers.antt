-- Calls of which the first ones took a partial row, and what the calls then stand for.
use Rattle.std.proofs.Common.{◌≡◌, ℕ, zero, suc, ◌<◌, ◌≤◌, ◌+◌, ◌&&◌, ◌++◌, true, false, List, [], ◌∷◌, drop, take, length, Option, Some, None, refl, sym, ap, subst, ◌∙◌, arith, append_assoc, slice_index_or, slice_set}
use Rattle.std.specs.Prelude.{is_some, option_map}
use Rattle.std.specs.List.{AllByRecursion}
use Rattle.std.proofs.lemmas.Bool.{and_from, and_parts, and_right}
use Rattle.std.proofs.lemmas.List.{length-map, map-append, take_all, take_more}
use Rattle.ct_value.specs.declared.row.Row.{Row}
use Rattle.ct_value.specs.declared.ty.ColTy.{ColTy}
use Rattle.ct_value.specs.declared.ty.Ty.{Ty}
use Rattle.ct_value.specs.declared.value.Value.{Value}
use Rattle.rel_algebra.specs.declared.agg.Agg.{Agg}
use Rattle.rel_algebra.specs.Clauses.{collect}
use Rattle.agg_fns.specs.MergedPartials.{StandsForPartials}
use Rattle.agg_fns.specs.Partial.{has_partial, partials_sum}
use Rattle.agg_fns.specs.PartialResults.{result_fits, result_of}
use Rattle.agg_fns.specs.Reading.{parts_by, all_blank}
use Rattle.agg_fns.proofs.laws.Blanks.{blank_stands}
use Rattle.phase_rules.specs.LocalGrouping.{parts_of_calls}
use Rattle.phase_rules.specs.Merging.{argument_type, sums_of_calls}
use Rattle.op_merge.specs.declared.merger.Merger.{Merger}
use Rattle.op_merge.specs.Kept.{StandAll, behind_call, calls}
use Rattle.op_merge.proofs.Partials.{blank_cons, values, values_cons, within, within_cons, behind_push}

abbrev pub width : Merger → ℕ
width merger = length (parts_by merger.agg.call)

-- what stands behind the columns of so many first calls, in a row and in rows
abbrev pub row_at : ℕ → List Merger → List Value → List Value
row_at zero mergers row = row
row_at (suc n) [] row = row
row_at (suc n) (merger ∷ mergers) row = row_at n mergers (drop (width merger) row)

abbrev pub rows_at : ℕ → List Merger → List (List Value) → List (List Value)
rows_at zero mergers rows = rows
rows_at (suc n) [] rows = rows
rows_at (suc n) (merger ∷ mergers) rows = rows_at n mergers (behind_call merger.agg rows)

-- a call that took a partial
pub record IsMerged (row : List Value) (old new : Merger) : Type 0 where
  pub agg : new.agg ≡ old.agg
  pub stands : (ty : Ty) (rows : List (List Value)) → StandsForPartials old.agg.call ty old.acc rows → StandsForPartials old.agg.call ty new.acc (rows ++ row ∷ [])
  pub fits : (ty : Ty) (rows : List (List Value)) → StandsForPartials old.agg.call ty old.acc rows → result_fits old.agg.call ty (partials_sum old.agg.call (rows ++ row ∷ [])) ≡ true

-- of the first so many each took the partial in its columns, and the others are as before
abbrev pub Upto : ℕ → List Value → List Merger → List Merger → Type 0
Upto n row [] [] = Unit {0}
Upto n row [] (new ∷ news) = ⊥
Upto n row (old ∷ olds) [] = ⊥
Upto zero row (old ∷ olds) (new ∷ news) = (old ≡ new) × Upto zero row olds news
Upto (suc n) row (old ∷ olds) (new ∷ news) = IsMerged row old new × Upto n (drop (width old) row) olds news

pub upto_none : (row : List Value) (mergers : List Merger) → Upto 0 row mergers mergers
upto_none row [] = tt
upto_none row (merger ∷ mergers) = (refl, upto_none row mergers)

upto_next : (n : ℕ) (row : List Value) (olds news : List Merger) (d x : Merger) → Upto n row olds news → n < length olds → ((old : Merger) → old ≡ slice_index_or news n d → IsMerged (row_at n olds row) old x) → Upto (suc n) row olds (slice_set news n x)
upto_next n row [] [] d x u l h = absurd (omega arith)
upto_next n row [] (new ∷ news) d x u l h = absurd u
upto_next n row (old ∷ olds) [] d x u l h = absurd u
upto_next zero row (old ∷ olds) (new ∷ news) d x u l h = (h old u.0, again row (drop (width old) row) olds news u.1)
  where
    again : (row other : List Value) (olds news : List Merger) → Upto 0 row olds news → Upto 0 other olds news
    again row other [] [] u = tt
    again row other [] (new ∷ news) u = absurd u
    again row other (old ∷ olds) [] u = absurd u
    again row other (old ∷ olds) (new ∷ news) u = (u.0, again row other olds news u.1)
upto_next (suc n) row (old ∷ olds) (new ∷ news) d x u l h = (u.0, upto_next n (drop (width old) row) olds news d x u.1 (omega arith) h)

pub upto_more : (n : ℕ) (row : List Value) (olds news : List Merger) (d x : Merger) → Upto n row olds news → n < length olds → ((old : Merger) → old ≡ slice_index_or news n d → IsMerged (row_at n olds row) old x) → Upto (n + 1) row olds (slice_set news n x)
upto_more n row olds news d x u l h = subst (λ m. Upto m row olds (slice_set news n x)) (let e : suc n ≡ n + 1 = omega arith in e) (upto_next n row olds news d x u l h)

row_next : (n : ℕ) (row : List Value) (olds news : List Merger) (d : Merger) → Upto n row olds news → n < length olds → row_at (suc n) olds row ≡ drop (width (slice_index_or news n d)) (row_at n olds row)
row_next n row [] [] d u l = absurd (omega arith)
row_next n row [] (new ∷ news) d u l = absurd u
row_next n row (old ∷ olds) [] d u l = absurd u
row_next zero row (old ∷ olds) (new ∷ news) d u l = ap (λ m. drop (width m) row) u.0
row_next (suc n) row (old ∷ olds) (new ∷ news) d u l = row_next n (drop (width old) row) olds news d u.1 (omega arith)

pub row_more : (n : ℕ) (row : List Value) (olds news : List Merger) (d : Merger) → Upto n row olds news → n < length olds → row_at (n + 1) olds row ≡ drop (width (slice_index_or news n d)) (row_at n olds row)
row_more n row olds news d u l = ap (λ m. row_at m olds row) (let e : n + 1 ≡ suc n = omega arith in e) ∙ row_next n row olds news d u l

pub calls_all : (n : ℕ) (row : List Value) (olds news : List Merger) → Upto n row olds news → length olds ≤ n → calls news ≡ calls olds
calls_all n row [] [] u l = refl
calls_all n row [] (new ∷ news) u l = absurd u
calls_all n row (old ∷ olds) [] u l = absurd u
calls_all zero row (old ∷ olds) (new ∷ news) u l = absurd (omega arith)
calls_all (suc n) row (old ∷ olds) (new ∷ news) u l = λ i. (u.0).agg i ∷ calls_all n (drop (width old) row) olds news u.1 (omega arith) i

module _ (columns : List ColTy) where
  abbrev ty : Merger → Ty
  ty merger = argument_type columns merger.agg

  pub stand_all : (n : ℕ) (row : List Value) (rows : List (List Value)) (olds news : List Merger) → Upto n row olds news → length olds ≤ n → StandAll columns olds rows → StandAll columns news (rows ++ row ∷ [])
  stand_all n row rows [] [] u l all = tt
  stand_all n row rows [] (new ∷ news) u l all = absurd u
  stand_all n row rows (old ∷ olds) [] u l all = absurd u
  stand_all zero row rows (old ∷ olds) (new ∷ news) u l all = absurd (omega arith)
  stand_all (suc n) row rows (old ∷ olds) (new ∷ news) u l all =
      subst (λ a. StandsForPartials a.call (argument_type columns a) new.acc (rows ++ row ∷ []) × StandAll columns news (behind_call a (rows ++ row ∷ []))) (sym (u.0).agg)
      ((u.0).stands (ty old) rows all.0, subst (StandAll columns news) (sym (behind_push old.agg rows row)) (stand_all n (drop (width old) row) (behind_call old.agg rows) olds news u.1 (omega arith) all.1))

  pub within_all : (n : ℕ) (row : List Value) (rows : List (List Value)) (olds news : List Merger) → Upto n row olds news → length olds ≤ n → StandAll columns olds rows → within columns (calls olds) (rows ++ row ∷ []) ≡ true
  within_all n row rows [] [] u l all = refl
  within_all n row rows [] (new ∷ news) u l all = absurd u
  within_all n row rows (old ∷ olds) [] u l all = absurd u
  within_all zero row rows (old ∷ olds) (new ∷ news) u l all = absurd (omega arith)
  within_all (suc n) row rows (old ∷ olds) (new ∷ news) u l all =
      within_cons columns old.agg (calls olds) (rows ++ row ∷ [])
      ∙ and_from (result_fits old.agg.call (ty old) (partials_sum old.agg.call (rows ++ row ∷ []))) (within columns (calls olds) (behind_call old.agg (rows ++ row ∷ []))) ((u.0).fits (ty old) rows all.0)
      (ap (within columns (calls olds)) (behind_push old.agg rows row) ∙ within_all n (drop (width old) row) (behind_call old.agg rows) olds news u.1 (omega arith) all.1)

  pub past_one : (n : ℕ) (row : List Value) (rows : List (List Value)) (olds news : List Merger) (d : Merger) → Upto n row olds news → n < length olds → StandAll columns olds rows
      → ((rows : List (List Value)) → StandsForPartials (slice_index_or news n d).agg.call (ty (slice_index_or news n d)) (slice_index_or news n d).acc rows
      → result_fits (slice_index_or news n d).agg.call (ty (slice_index_or news n d)) (partials_sum (slice_index_or news n d).agg.call (rows ++ row_at n olds row ∷ [])) ≡ false)
      → within columns (calls olds) (rows ++ row ∷ []) ≡ false
  past_one n row rows [] [] d u l all h = absurd (omega arith)
  past_one n row rows [] (new ∷ news) d u l all h = absurd u
  past_one n row rows (old ∷ olds) [] d u l all h = absurd u
  past_one zero row rows (old ∷ olds) (new ∷ news) d u l all h =
      within_cons columns old.agg (calls olds) (rows ++ row ∷ [])
      ∙ ap (λ b. b && within columns (calls olds) (behind_call old.agg (rows ++ row ∷ [])))
      (subst (λ m. (rows : List (List Value)) → StandsForPartials m.agg.call (ty m) m.acc rows → result_fits m.agg.call (ty m) (partials_sum m.agg.call (rows ++ row ∷ [])) ≡ false) (sym u.0) h rows all.0)
  past_one (suc n) row rows (old ∷ olds) (new ∷ news) d u l all h =
      within_cons columns old.agg (calls olds) (rows ++ row ∷ [])
      ∙ and_right (result_fits old.agg.call (ty old) (partials_sum old.agg.call (rows ++ row ∷ []))) (within columns (calls olds) (behind_call old.agg (rows ++ row ∷ [])))
      (ap (within columns (calls olds)) (behind_push old.agg rows row) ∙ past_one n (drop (width old) row) (behind_call old.agg rows) olds news d u.1 (omega arith) all.1 h)

  -- ---- results

  pub item_of : (n : ℕ) (rows : List (List Value)) (mergers : List Merger) (d : Merger) → n < length mergers → StandAll columns mergers rows
      → StandsForPartials (slice_index_or mergers n d).agg.call (ty (slice_index_or mergers n d)) (slice_index_or mergers n d).acc (rows_at n mergers rows)
  item_of n rows [] d l all = absurd (omega arith)
  item_of zero rows (merger ∷ mergers) d l all = all.0
  item_of (suc n) rows (merger ∷ mergers) d l all = item_of n (behind_call merger.agg rows) mergers d (omega arith) all.1

  abbrev result_at : ℕ → List (List Value) → List Merger → Merger → Option Value
  result_at n rows mergers d = result_of (slice_index_or mergers n d).agg.call (ty (slice_index_or mergers n d)) (partials_sum (slice_index_or mergers n d).agg.call (rows_at n mergers rows))

  value_next : (n : ℕ) (rows : List (List Value)) (mergers : List Merger) (d : Merger) (o : Option Value) → n < length mergers → result_at n rows mergers d ≡ o
      → take (suc n) (values columns (calls mergers) rows) ≡ take n (values columns (calls mergers) rows) ++ o ∷ []
  value_next n rows [] d o l e = absurd (omega arith)
  value_next zero rows (merger ∷ mergers) d o l e = ap (take 1) (values_cons columns merger.agg (calls mergers) rows) ∙ ap (λ q. q ∷ []) e
  value_next (suc n) rows (merger ∷ mergers) d o l e =
      let cons = values_cons columns merger.agg (calls mergers) rows in
      ap (take (suc (suc n))) cons
      ∙ ap (λ q. result_of merger.agg.call (ty merger) (partials_sum merger.agg.call rows) ∷ q) (value_next n (behind_call merger.agg rows) mergers d o (omega arith) e)
      ∙ sym (ap (λ q. take (suc n) q ++ o ∷ []) cons)

  collect_push : (os : List (Option Value)) (v : Value) → collect (os ++ Some v ∷ []) ≡ option_map (λ values. values ++ v ∷ []) (collect os)
  collect_push [] v = refl
  collect_push (None ∷ os) v = refl
  collect_push (Some x ∷ os) v = ap (option_map (λ values. x ∷ values)) (collect_push os v) ∙ turned (collect os)
    where
      turned : (o : Option Row) → option_map (λ values. x ∷ values) (option_map (λ values. values ++ v ∷ []) o) ≡ option_map (λ values. values ++ v ∷ []) (option_map (λ values. x ∷ values) o)
      turned None = refl
      turned (Some values) = refl

  pub result_more : (n : ℕ) (rows : List (List Value)) (mergers : List Merger) (d : Merger) (key row : Row) (v : Value) → n < length mergers
      → result_of (slice_index_or mergers n d).agg.call (argument_type columns (slice_index_or mergers n d).agg) (partials_sum (slice_index_or mergers n d).agg.call (rows_at n mergers rows)) ≡ Some v
      → option_map (λ values. key ++ values) (collect (take n (values columns (calls mergers) rows))) ≡ Some row
      → option_map (λ values. key ++ values) (collect (take (n + 1) (values columns (calls mergers) rows))) ≡ Some (row ++ v ∷ [])
  result_more n rows mergers d key row v l e h =
      ap (λ m. option_map (λ values. key ++ values) (collect (take m (values columns (calls mergers) rows)))) (let q : n + 1 ≡ suc n = omega arith in q)
      ∙ ap (λ os. option_map (λ values. key ++ values) (collect os)) (value_next n rows mergers d (Some v) l e)
      ∙ ap (option_map (λ values. key ++ values)) (collect_push (take n (values columns (calls mergers) rows)) v)
      ∙ go (collect (take n (values columns (calls mergers) rows))) h
    where
      go : (o : Option Row) → option_map (λ values. key ++ values) o ≡ Some row → option_map (λ values. key ++ values) (option_map (λ values. values ++ v ∷ []) o) ≡ Some (row ++ v ∷ [])
      go None q = absurd (cc)
      go (Some values) q = let is : key ++ values ≡ row = cc in ap Some (sym (append_assoc key values (v ∷ [])) ∙ ap (λ r. r ++ v ∷ []) is)

  after_none : (o : Option Value) (os : List (Option Value)) → is_some (collect os) ≡ false → is_some (collect (o ∷ os)) ≡ false
  after_none None os e = refl
  after_none (Some v) os e = go (collect os) e
    where
      go : (q : Option Row) → is_some q ≡ false → is_some (option_map (λ values. v ∷ values) q) ≡ false
      go None f = refl
      go (Some values) f = absurd (cc)

  pub result_out : (n : ℕ) (rows : List (List Value)) (mergers : List Merger) (d : Merger) → n < length mergers
      → result_of (slice_index_or mergers n d).agg.call (argument_type columns (slice_index_or mergers n d).agg) (partials_sum (slice_index_or mergers n d).agg.call (rows_at n mergers rows)) ≡ None
      → is_some (collect (values columns (calls mergers) rows)) ≡ false
  result_out n rows [] d l e = absurd (omega arith)
  result_out zero rows (merger ∷ mergers) d l e = ap (λ os. is_some (collect os)) (values_cons columns merger.agg (calls mergers) rows) ∙ ap (λ o. is_some (collect (o ∷ values columns (calls mergers) (behind_call merger.agg rows)))) e
  result_out (suc n) rows (merger ∷ mergers) d l e =
      ap (λ os. is_some (collect os)) (values_cons columns merger.agg (calls mergers) rows)
      ∙ after_none (result_of merger.agg.call (ty merger) (partials_sum merger.agg.call rows)) (values columns (calls mergers) (behind_call merger.agg rows)) (result_out n (behind_call merger.agg rows) mergers d (omega arith) e)

  length-values : (rows : List (List Value)) (mergers : List Merger) → length (values columns (calls mergers) rows) ≡ length mergers
  length-values rows [] = refl
  length-values rows (merger ∷ mergers) = ap length (values_cons columns merger.agg (calls mergers) rows) ∙ ap suc (length-values (behind_call merger.agg rows) mergers)

  pub values_all : (n : ℕ) (rows : List (List Value)) (mergers : List Merger) → length mergers ≤ n → take n (values columns (calls mergers) rows) ≡ values columns (calls mergers) rows
  values_all n rows mergers l = take_all n (values columns (calls mergers) rows) (let e = length-values rows mergers in omega arith)

  -- ---- what is worth nothing

  -- the first so many calls are blank
  abbrev pub BlankUpto : ℕ → List (List Value) → List Merger → Type 0
  BlankUpto zero rows mergers = Unit {0}
  BlankUpto (suc n) rows [] = Unit {0}
  BlankUpto (suc n) rows (merger ∷ mergers) = (all_blank (parts_by merger.agg.call) (partials_sum merger.agg.call rows) ≡ true) × BlankUpto n (behind_call merger.agg rows) mergers

  blank_next : (n : ℕ) (rows : List (List Value)) (mergers : List Merger) (d : Merger) → n < length mergers
      → all_blank (parts_by (slice_index_or mergers n d).agg.call) (partials_sum (slice_index_or mergers n d).agg.call (rows_at n mergers rows)) ≡ true → BlankUpto n rows mergers → BlankUpto (suc n) rows mergers
  blank_next n rows [] d l e u = absurd (omega arith)
  blank_next zero rows (merger ∷ mergers) d l e u = (e, tt)
  blank_next (suc n) rows (merger ∷ mergers) d l e u = (u.0, blank_next n (behind_call merger.agg rows) mergers d (omega arith) e u.1)

  pub blank_more : (n : ℕ) (rows : List (List Value)) (mergers : List Merger) (d : Merger) → n < length mergers
      → all_blank (parts_by (slice_index_or mergers n d).agg.call) (partials_sum (slice_index_or mergers n d).agg.call (rows_at n mergers rows)) ≡ true → BlankUpto n rows mergers → BlankUpto (n + 1) rows mergers
  blank_more n rows mergers d l e u = subst (λ m. BlankUpto m rows mergers) (let q : suc n ≡ n + 1 = omega arith in q) (blank_next n rows mergers d l e u)

  pub blank_all : (n : ℕ) (rows : List (List Value)) (mergers : List Merger) → length mergers ≤ n → BlankUpto n rows mergers → all_blank (parts_of_calls (calls mergers)) (sums_of_calls (calls mergers) rows) ≡ true
  blank_all n rows [] l u = refl
  blank_all zero rows (merger ∷ mergers) l u = absurd (omega arith)
  blank_all (suc n) rows (merger ∷ mergers) l u =
      blank_cons merger.agg (calls mergers) rows
      ∙ and_from (all_blank (parts_by merger.agg.call) (partials_sum merger.agg.call rows)) _ u.0 (blank_all n (behind_call merger.agg rows) mergers (omega arith) u.1)

  pub not_blank : (n : ℕ) (rows : List (List Value)) (mergers : List Merger) (d : Merger) → n < length mergers
      → all_blank (parts_by (slice_index_or mergers n d).agg.call) (partials_sum (slice_index_or mergers n d).agg.call (rows_at n mergers rows)) ≡ false → all_blank (parts_of_calls (calls mergers)) (sums_of_calls (calls mergers) rows) ≡ false
  not_blank n rows [] d l e = absurd (omega arith)
  not_blank zero rows (merger ∷ mergers) d l e = blank_cons merger.agg (calls mergers) rows ∙ ap (λ b. b && all_blank (parts_of_calls (calls mergers)) (sums_of_calls (calls mergers) (behind_call merger.agg rows))) e
  not_blank (suc n) rows (merger ∷ mergers) d l e =
      blank_cons merger.agg (calls mergers) rows ∙ and_right (all_blank (parts_by merger.agg.call) (partials_sum merger.agg.call rows)) _ (not_blank n (behind_call merger.agg rows) mergers d (omega arith) e)

-- what calls keep of no partials stands for any that are worth nothing
pub stand_blank : (columns : List ColTy) (mergers : List Merger) (rows : List (List Value)) → StandAll columns mergers [] → all_blank (parts_of_calls (calls mergers)) (sums_of_calls (calls mergers) rows) ≡ true → StandAll columns mergers rows
stand_blank columns [] rows all e = tt
stand_blank columns (merger ∷ mergers) rows all e =
    let parts = and_parts (all_blank (parts_by merger.agg.call) (partials_sum merger.agg.call rows)) (all_blank (parts_of_calls (calls mergers)) (sums_of_calls (calls mergers) (behind_call merger.agg rows))) (sym (blank_cons merger.agg (calls mergers) rows) ∙ e) in
    (blank_stands merger.agg.call (argument_type columns merger.agg) merger.acc rows all.0 parts.0, stand_blank columns mergers (behind_call merger.agg rows) all.1 parts.1)

-- ---- new calls

pub none_push : (columns : List ColTy) (mergers : List Merger) (merger : Merger) → StandAll columns mergers [] → StandsForPartials merger.agg.call (argument_type columns merger.agg) merger.acc [] → StandAll columns (mergers ++ merger ∷ []) []
none_push columns [] merger all one = (one, tt)
none_push columns (m ∷ ms) merger all one = (all.0, none_push columns ms merger all.1 one)

pub calls_more : (n : ℕ) (aggs : List Agg) (d : Agg) (mergers : List Merger) (merger : Merger) → n < length aggs → calls mergers ≡ take n aggs → merger.agg ≡ slice_index_or aggs n d → calls (mergers ++ merger ∷ []) ≡ take (n + 1) aggs
calls_more n aggs d mergers merger l before is = map-append (λ (m : Merger). m.agg) mergers (merger ∷ []) ∙ (λ i. before i ++ is i ∷ []) ∙ sym (take_more aggs n d l)

pub fresh_stands : (columns : List ColTy) (agg : Agg) (merger : Merger) → merger.agg ≡ agg → StandsForPartials agg.call (argument_type columns agg) merger.acc [] → StandsForPartials merger.agg.call (argument_type columns merger.agg) merger.acc []
fresh_stands columns agg merger is stands = subst (λ a. StandsForPartials a.call (argument_type columns a) merger.acc []) (sym is) stands

pub has_at : (n : ℕ) (aggs : List Agg) (d : Agg) → n < length aggs → AllByRecursion (λ agg. has_partial agg.call ≡ true) aggs → has_partial (slice_index_or aggs n d).call ≡ true
has_at n [] d l all = absurd (omega arith)
has_at zero (agg ∷ aggs) d l all = all.0
has_at (suc n) (agg ∷ aggs) d l all = has_at n aggs d (omega arith) all.1

-- equally many calls are of equally many
pub as_many : (xs ys : List Merger) → calls xs ≡ calls ys → length xs ≡ length ys
as_many xs ys e = sym (length-map xs (λ (m : Merger). m.agg)) ∙ ap length e ∙ length-map ys (λ (m : Merger). m.agg)
