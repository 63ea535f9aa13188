-- A project fits between its edges.
use Rattle.std.proofs.Common.{◌≡◌, ℕ, Bool, true, false, cond, ◌&&◌, List, [], ◌∷◌, length, map, Option, Some, None, Ok, refl, sym, ap, subst, ◌∙◌}
use Rattle.std.specs.Prelude.{option_map, option_and_then}
use Rattle.std.specs.List.{AllByRecursion, Contains}
use Rattle.ct_value.specs.declared.row.Row.{Row}
use Rattle.ct_value.specs.declared.value.Value.{Value}
use Rattle.ct_value.specs.declared.ty.ColTy.{ColTy}
use Rattle.ct_field.specs.Typed.{col_fits}
use Rattle.ct_change.specs.declared.kind.Kind.{Kind}
use Rattle.ct_change.specs.declared.kind.KindSet.{KindSet}
use Rattle.ct_change.specs.declared.change.Change.{Change}
use Rattle.ct_change.specs.Changelog.{adds, has}
use Rattle.ct_catalog.specs.declared.table.TableDef.{TableDef}
use Rattle.ct_expr.specs.Eval.{eval}
use Rattle.ct_expr.specs.View.{expr_view}
use Rattle.ct_expr.specs.declared.expr.Expr.{Expr}
use Rattle.rel_algebra.specs.Clauses.{Fits, MeanTypes, row_of, collect}
use Rattle.rel_algebra.proofs.laws.Fits.{both, first}
use Rattle.typing_laws.proofs.laws.Items.{items_mean}
use Rattle.phys_plan.specs.declared.edge.Exchange.TheVariants.{Forward}
use Rattle.ct_change.specs.declared.update.Update.{Update}
use Rattle.ct_change.specs.declared.update.Update.TheVariants.{Absent, After, Both}
use Rattle.phys_plan.specs.declared.node.KeyInfo.{KeyInfo}
use Rattle.phys_plan.specs.declared.node.Op.TheVariants as op
use Rattle.op_rules.specs.Edges.{Meaning, bag, last_rows, KeepsKeys}
use Rattle.stream_model.specs.KeysTold.{told_fits}
use Rattle.emission_rules.specs.Changes.{after_key, mode_after}
use Rattle.emission_rules.specs.Project.{IsImage, ProjectFits, WritesImage, row_after, row_gone, row_made, with_row}
use Rattle.column_sets.specs.Sets.{family, is_within}
use Rattle.column_sets.specs.Places.{image, images}
use Rattle.phys_plan.specs.Columns.{plain_columns}
use Rattle.upsert_keys.specs.Keys.{project_keys}
use Rattle.upsert_keys.specs.Seen.{families, seen_over}
use Rattle.mode_infer.specs.Modes.{edge_kinds}
use Rattle.mode_infer.specs.Updates.{is_after, in_full, told}
use Rattle.plan_rules.specs.Plans.{change_fits, exchange_of, key_alone, meaning_by}
use Rattle.plan_rules.proofs.laws.ChangeFits.{fits_width}
use Rattle.plan_rules.specs.Around.{project_of}
use Rattle.sound_plans.specs.Outputs.{Output, AreTold, AreWithin, IsProper, around_by, edge_of}
use Rattle.sound_plans.specs.Agrees.{Agrees, taken_by}
use Rattle.sound_plans.specs.RowFits.{ProjectsFit}
use Rattle.sound_plans.proofs.laws.RowFamilies.{same_itself}
use Rattle.sound_plans.proofs.laws.Gone.{gone_fits}
use Rattle.sound_plans.proofs.laws.Images.{image_is, image_of_items, image_within, family_part, family_stays, family_within, as_many}
use Rattle.sound_plans.proofs.laws.RowInputs.{comes_by, comes_keyed}
use Rattle.sound_plans.proofs.laws.Told.{keeps_told}
use Rattle.sound_plans.proofs.laws.Updates.{told_untaken, meaning_after, kinds_admitted, mode_keyed}

-- ---- rows

-- the values of the items at a row of the input are a row of the items' columns
items_fit : (columns made : List ColTy) (meanings : List (Row → Option Value)) (row values : Row) → MeanTypes columns meanings made → Fits columns row → row_of meanings row ≡ Some values → Fits made values
items_fit columns [] [] row values m h e = let i : [] ≡ values = cc in subst (λ v. Fits [] v) i refl
items_fit columns (column ∷ made) [] row values m h e = absurd m
items_fit columns [] (meaning ∷ meanings) row values m h e = absurd m
items_fit columns (column ∷ made) (meaning ∷ meanings) row values m h e = go (λ others i. items_fit columns made meanings row others m.1 h i) (meaning row) refl e
  where
    rest : ((others : Row) → row_of meanings row ≡ Some others → Fits made others) → (o : Option Row) → row_of meanings row ≡ o → (value : Value) → meaning row ≡ Some value → option_map (λ others. value ∷ others) o ≡ Some values
        → Fits (column ∷ made) values
    rest more None i value j k = absurd (cc)
    rest more (Some others) i value j k =
        let l : value ∷ others ≡ values = cc in
        subst (λ v. Fits (column ∷ made) v) l (both (col_fits column value) _ (m.0 row value h j) (more others i))

    go : ((others : Row) → row_of meanings row ≡ Some others → Fits made others) → (o : Option Value) → meaning row ≡ o → collect (o ∷ map (λ f. f row) meanings) ≡ Some values → Fits (column ∷ made) values
    go more None i k = absurd (cc)
    go more (Some value) i k = rest more (row_of meanings row) refl value i k

-- ---- updates

-- both edges tell updates in full, or the one by the new rows of a key and the other by those of the key's image
abbrev IsAlike : List Expr → KindSet → Update → Update → Type 0
IsAlike items sent from to =
    WritesImage (map expr_view items) (after_key from) (meaning_by to)
    × ((kind : Kind) → has (edge_kinds sent from) kind ≡ true → has (edge_kinds sent to) kind ≡ true)

alike_full : (items : List Expr) (sent : KindSet) → IsAlike items sent (in_full sent) (in_full sent)
alike_full items sent = elim sent.ua as (λ b. IsAlike items sent (cond b Both Absent) (cond b Both Absent)) [ true ↦ (refl, λ kind h. h) | false ↦ (refl, λ kind h. h) ]

alike_after : (items : List Expr) (sent : KindSet) (key own : List ℕ) → image (plain_columns items) key ≡ Some own → IsAlike items sent (After key) (After own)
alike_after items sent key own is = ((own, image_is items key own is, refl), λ kind h. h)

-- without an image nothing is taken, and with one nothing where the project's own edge tells updates in full
not_by_none : (own : Update) → is_after own None ≡ false
not_by_none Absent = refl
not_by_none (After key) = refl
not_by_none Both = refl

not_in_full : (sent : KindSet) (set : Option (List ℕ)) → is_after (in_full sent) set ≡ false
not_in_full sent set = elim sent.ua as (λ b. is_after (cond b Both Absent) set ≡ false) [ true ↦ refl | false ↦ refl ]

module _ (sink : TableDef) (items : List Expr) (sent : KindSet) (taken : Bool) where
  abbrev Told : Update → Update → Option (List ℕ) → Option (List ℕ) → Type 0
  Told from to key own = (from ≡ told sent key (taken_by sink (op.Project items) 0 to key)) × (to ≡ told sent own taken)

  -- told in full, by a key that has an image, by a key, and however
  both_full : (from to : Update) → from ≡ in_full sent → to ≡ in_full sent → IsAlike items sent from to
  both_full from to e f = subst (λ (u : Update). IsAlike items sent u to) (sym e) (subst (λ (u : Update). IsAlike items sent (in_full sent) u) (sym f) (alike_full items sent))

  by_image : (from to : Update) (key own : List ℕ) → image (plain_columns items) key ≡ Some own → from ≡ told sent (Some key) (is_after to (Some own)) → (b : Bool) → (sent.ua && taken) ≡ b → to ≡ cond b (After own) (in_full sent)
      → IsAlike items sent from to
  by_image from to key own is e false is_b f =
      let untaken : is_after to (Some own) ≡ false = ap (λ (u : Update). is_after u (Some own)) f ∙ not_in_full sent (Some own) in
      both_full from to (e ∙ ap (told sent (Some key)) untaken ∙ told_untaken sent (Some key)) f
  by_image from to key own is e true is_b f =
      let taken_so : is_after to (Some own) ≡ true = ap (λ (u : Update). is_after u (Some own)) f ∙ same_itself own in
      let updates : sent.ua ≡ true = first sent.ua taken is_b in
      let from_is : from ≡ After key = e ∙ ap (told sent (Some key)) taken_so ∙ ap (λ b. cond (b && true) (After key) (in_full sent)) updates in
      subst (λ (u : Update). IsAlike items sent u to) (sym from_is) (subst (λ (u : Update). IsAlike items sent (After key) u) (sym f) (alike_after items sent key own is))

  by_key : (from to : Update) (key : List ℕ) (o : Option (List ℕ)) → image (plain_columns items) key ≡ o → from ≡ told sent (Some key) (is_after to o) → to ≡ told sent o taken → IsAlike items sent from to
  by_key from to key None is e f = both_full from to (e ∙ ap (told sent (Some key)) (not_by_none to) ∙ told_untaken sent (Some key)) f
  by_key from to key (Some own) is e f = by_image from to key own is e (sent.ua && taken) refl f

  told_alike : (from to : Update) (key : Option (List ℕ)) → Told from to key (option_and_then (image (plain_columns items)) key) → IsAlike items sent from to
  told_alike from to None h = both_full from to h.0 h.1
  told_alike from to (Some key) h = by_key from to key (image (plain_columns items) key) refl h.0 h.1

-- images of sets that lie in the key of an after-only edge lie in the key's image
tells_image : (items : List Expr) (from to : Update) (sets own : List (List ℕ)) → WritesImage (map expr_view items) (after_key from) (meaning_by to) → AreTold from sets → own ≡ family (images (plain_columns items) sets) → AreTold to own
tells_image items from Absent sets own writes all is = tt
tells_image items from Both sets own writes all is = tt
tells_image items Absent (After key) sets own writes all is = absurd (let wrong : last_rows key ≡ bag = writes in cc)
tells_image items Both (After key) sets own writes all is = absurd (let wrong : last_rows key ≡ bag = writes in cc)
tells_image items (After from) (After key) sets own writes all is =
    let same : key ≡ writes.0 = (let reads : last_rows key ≡ last_rows writes.0 = writes.2 in cc) in
    subst (λ (k : List ℕ). AllByRecursion (λ set. is_within set k ≡ true) own) (sym same)
    (family_part (plain_columns items) from writes.0 sets own (image_of_items items from writes.0 writes.1) all is)

-- ---- changes

-- the change that is sent has the row that is made
abbrev with_made : Change → Row → Change
with_made change made = record { kind = change.kind; row = made }

what_is_sent : (change sent : Change) (o : Option Row) → with_row change o ≡ Ok (sent ∷ []) → (made : Row) × (o ≡ Some made) × (with_made change made ≡ sent)
what_is_sent change sent None e = absurd (cc)
what_is_sent change sent (Some made) e = let same : with_made change made ≡ sent = cc (e) in (made, refl, same)

-- ---- the node

module _ (many : ℕ) (sources : List TableDef) (sink : TableDef) (items : List Expr) (input own : Output) (agrees : Agrees sources sink (op.Project items) (input ∷ []) own) where
  -- rows come as they are, and each key as its image
  forwards : input.edge.exchange ≡ Forward
  forwards = comes_by sink (op.Project items) own.edge.update 0 input agrees.inputs_asked.0 None refl

  keys : own.keys ≡ families (images (plain_columns items) input.keys.unique) (images (plain_columns items) input.keys.local) (images (plain_columns items) input.keys.fixing)
  keys = agrees.keyed ∙ ap (λ x. project_keys (plain_columns items) (seen_over x input.columns input.keys)) forwards

  -- how its own edge tells updates, by what comes
  own_told : own.edge.update ≡ told input.sent (option_and_then (image (plain_columns items)) input.update_key) agrees.taken
  own_told = agrees.tells ∙ (λ i. told (agrees.sends i) (agrees.updates i) agrees.taken)

  own_carries : own.edge.kinds ≡ edge_kinds input.sent own.edge.update
  own_carries = agrees.carries ∙ ap (λ (k : KindSet). edge_kinds k own.edge.update) agrees.sends

  alike : IsAlike items input.sent input.edge.update own.edge.update
  alike = told_alike sink items input.sent agrees.taken input.edge.update own.edge.update input.update_key (agrees.inputs_asked.0.tells, own_told)

  comes_of : (kind : Kind) → has input.edge.kinds kind ≡ true → has (edge_kinds input.sent input.edge.update) kind ≡ true
  comes_of kind h = subst (λ (k : KindSet). has k kind ≡ true) agrees.inputs_asked.0.carries h

  -- rows made are of the items' columns
  made_fits : (row values : Row) → Fits input.columns row → row_of (map eval (map expr_view items)) row ≡ Some values → Fits own.columns values
  made_fits row values h e = items_fit input.columns own.columns (map eval (map expr_view items)) row values (items_mean input.columns (map expr_view items) own.columns agrees.typed) h e

  -- of a change that comes in full
  sent_in_full : (change sent : Change) → Fits input.columns change.row → with_row change (row_made (map expr_view items) change.row) ≡ Ok (sent ∷ []) → Fits own.columns sent.row
  sent_in_full change sent h e =
      let made = what_is_sent change sent (row_made (map expr_view items) change.row) e in
      subst (λ (x : Change). Fits own.columns x.row) made.2 (made_fits change.row made.0 h made.1)

  -- and over an after-only edge, where a row comes, or goes
  sent_after : (key places : List ℕ) → IsImage (map expr_view items) key places → (change sent : Change) (comes : Bool) → adds change.kind ≡ comes → told_fits (key_alone (Some key) comes) input.columns change.row ≡ true
      → with_row change (row_after (Some key) (map expr_view items) comes change.row) ≡ Ok (sent ∷ []) → change_fits (last_rows places) own.columns sent ≡ true
  sent_after key places is change sent true comes h e =
      let made = what_is_sent change sent (row_made (map expr_view items) change.row) e in
      subst (λ (x : Change). change_fits (last_rows places) own.columns x ≡ true) made.2
      (subst (λ b. told_fits (key_alone (Some places) b) own.columns made.0 ≡ true) (sym comes) (made_fits change.row made.0 h made.1))
  sent_after key places is change sent false comes h e =
      let made = what_is_sent change sent (Some (row_gone (map expr_view items) key change.row)) e in
      let gone : row_gone (map expr_view items) key change.row ≡ made.0 = cc (made.1) in
      subst (λ (x : Change). change_fits (last_rows places) own.columns x ≡ true) made.2
      (subst (λ b. told_fits (key_alone (Some places) b) own.columns made.0 ≡ true) (sym comes)
      (subst (λ (row : Row). told_fits (Some places) own.columns row ≡ true) gone
      (gone_fits input.columns (map expr_view items) own.columns key places change.row agrees.typed is h)))

  sent_fits : (from to : Update) → WritesImage (map expr_view items) (after_key from) (meaning_by to) → (change sent : Change) → change_fits (meaning_by from) input.columns change ≡ true
      → with_row change (row_after (after_key from) (map expr_view items) (adds change.kind) change.row) ≡ Ok (sent ∷ []) → change_fits (meaning_by to) own.columns sent ≡ true
  sent_fits Absent to writes change sent h e = subst (λ (m : Meaning). change_fits m own.columns sent ≡ true) (sym writes) (sent_in_full change sent h e)
  sent_fits (After key) to writes change sent h e =
      subst (λ (m : Meaning). change_fits m own.columns sent ≡ true) (sym writes.2) (sent_after key writes.0 writes.1 change sent (adds change.kind) refl h e)
  sent_fits Both to writes change sent h e = subst (λ (m : Meaning). change_fits m own.columns sent ≡ true) (sym writes) (sent_in_full change sent h e)

  -- a fixing set is the image of one that the key tells
  fixing_stays : (set : List ℕ) → Contains own.keys.fixing set
      → (from : List ℕ) × Contains input.keys.fixing from × KeepsKeys (mode_after (after_key input.edge.update)) from × IsImage (map expr_view items) from set
  fixing_stays set c =
      let from = family_stays items input.keys.fixing own.keys.fixing (ap (λ (k : KeyInfo). k.fixing) keys) set c in
      (from.0, from.1, keeps_told input.edge.update input.keys.fixing agrees.inputs_asked.0.proper.told from.0 from.1, from.2)

  project_fits : ProjectFits (project_of (map expr_view items) (around_by sink (input ∷ []) own)) (edge_of many input) (edge_of many own)
  project_fits = record {
    forwards = ap exchange_of forwards;
    reads = meaning_after input.edge.update;
    writes = alike.0;
    admitted = λ kind h. kinds_admitted input.sent input.edge.update kind (comes_of kind h);
    keyed = λ change h.
        mode_keyed input.columns input.update_key input.edge.update (comes_keyed sink (op.Project items) own.edge.update 0 input agrees.inputs_asked.0)
        agrees.inputs_asked.0.proper.update_key change.row (fits_width (meaning_by input.edge.update) input.columns change h);
    kinds = λ kind h. subst (λ (k : KindSet). has k kind ≡ true) (sym own_carries) (alike.1 kind (comes_of kind h));
    fits = λ change sent h e. sent_fits input.edge.update own.edge.update alike.0 change sent h e;
    holds = λ row made h e. made_fits row made h e;
    unique = λ key h. family_stays items input.keys.unique own.keys.unique (ap (λ (k : KeyInfo). k.unique) keys) key h;
    local = λ key h. family_stays items input.keys.local own.keys.local (ap (λ (k : KeyInfo). k.local) keys) key h;
    fixing = fixing_stays;
  }

  -- places of items are columns
  width : length (plain_columns items) ≡ length own.columns
  width = as_many input.columns items own.columns agrees.typed

  there : (sets mine : List (List ℕ)) → mine ≡ family (images (plain_columns items) sets) → AllByRecursion (AreWithin (length own.columns)) mine
  there sets mine is = subst (λ n. AllByRecursion (AreWithin n) mine) width (family_within (plain_columns items) sets mine is)

  key_there : (from : Option (List ℕ)) (key : List ℕ) → option_and_then (image (plain_columns items)) from ≡ Some key → AreWithin (length own.columns) key
  key_there None key is = absurd (cc)
  key_there (Some set) key is = subst (λ n. AreWithin n key) width (image_within (plain_columns items) set key is)

  project_proper : IsProper own
  project_proper = record {
    unique = there input.keys.unique own.keys.unique (ap (λ (k : KeyInfo). k.unique) keys);
    local = there input.keys.local own.keys.local (ap (λ (k : KeyInfo). k.local) keys);
    fixing = there input.keys.fixing own.keys.fixing (ap (λ (k : KeyInfo). k.fixing) keys);
    update_key = λ key is. key_there input.update_key key (sym agrees.updates ∙ is);
    told = tells_image items input.edge.update own.edge.update input.keys.fixing own.keys.fixing alike.0 agrees.inputs_asked.0.proper.told (ap (λ (k : KeyInfo). k.fixing) keys);
    inserts = ap (λ (k : KindSet). k.i) agrees.sends ∙ agrees.inputs_asked.0.proper.inserts;
    replaces = λ h. ap (λ (k : KindSet). k.ua) agrees.sends ∙ agrees.inputs_asked.0.proper.replaces (sym (ap (λ (k : KindSet). k.ub) agrees.sends) ∙ h);
  }

pub projects_fit : ProjectsFit
projects_fit many sources sink items input own agrees = (project_fits many sources sink items input own agrees, project_proper many sources sink items input own agrees)
