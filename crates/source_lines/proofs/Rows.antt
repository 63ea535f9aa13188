-- The rows of folds, one after the other.
use Rattle.std.proofs.Common.{◌≡◌, suc, List, [], ◌∷◌, ◌++◌, refl, sym, ◌∙◌, ap, append_assoc, append-nil}
use Rattle.ct_change.specs.declared.change.Change.{Change}
use Rattle.ct_change.specs.Changelog.{Rows, fold}
use Rattle.ct_catalog.specs.declared.table.TableDef.{TableDef}
use Rattle.ct_catalog.specs.Columns.{table_mode}
use Rattle.source_lines.specs.Folding.{FoldStands}
use Rattle.source_lines.specs.declared.folds.SourceFold.{SourceFold}
use Rattle.source_lines.specs.Standing.{StandAll}
use Rattle.source_lines.specs.Taken.{Taken, rows_of}

-- the bags of the first folds are there, and these folds are left
pub record Reached (sources : List TableDef) (taken : Taken) (folds : List SourceFold) (bags : List Rows) : Type 0 where
  pub later : List TableDef
  pub changes : Taken
  pub stand : StandAll later folds changes
  pub so_far : rows_of sources taken ≡ bags ++ rows_of later changes

pub reached_start : (sources : List TableDef) (taken : Taken) (folds : List SourceFold) → StandAll sources folds taken → Reached sources taken folds []
reached_start sources taken folds stand = record { later = sources; changes = taken; stand = stand; so_far = refl }

first_in : (later : List TableDef) (changes : Taken) (folded : SourceFold) (folds : List SourceFold) → StandAll later (folded ∷ folds) changes → (table : TableDef) × (one : List Change) × FoldStands table folded one
first_in [] changes folded folds stand = absurd stand
first_in (table ∷ later) changes folded folds stand = (table, changes 0, stand.0)

pub first_stands : (sources : List TableDef) (taken : Taken) (all : List SourceFold) (folded : SourceFold) (folds : List SourceFold) (bags : List Rows) → Reached sources taken all bags → all ≡ folded ∷ folds → (table : TableDef) × (one : List Change) × FoldStands table folded one
first_stands sources taken all folded folds bags r is = first_in r.later r.changes folded folds (rw (sym is) r.stand)

next_in : (sources : List TableDef) (taken : Taken) (folded : SourceFold) (folds : List SourceFold) (bags : List Rows) (bag : Rows) (later : List TableDef) (changes : Taken) → StandAll later (folded ∷ folds) changes → rows_of sources taken ≡ bags ++ rows_of later changes
    → ((table : TableDef) (one : List Change) → FoldStands table folded one → bag ≡ fold (table_mode table) one) → Reached sources taken folds (bags ++ bag ∷ [])
next_in sources taken folded folds bags bag [] changes stand so_far told = absurd stand
next_in sources taken folded folds bags bag (table ∷ later) changes stand so_far told = record {
  later = later;
  changes = λ source. changes (suc source);
  stand = stand.1;
  so_far = so_far ∙ ap (λ (x : Rows). bags ++ x ∷ rows_of later (λ source. changes (suc source))) (sym (told table (changes 0) stand.0)) ∙ sym (append_assoc bags (bag ∷ []) (rows_of later (λ source. changes (suc source))));
}

pub reached_next : (sources : List TableDef) (taken : Taken) (all : List SourceFold) (folded : SourceFold) (folds : List SourceFold) (bags : List Rows) (bag : Rows) → Reached sources taken all bags → all ≡ folded ∷ folds
    → ((table : TableDef) (one : List Change) → FoldStands table folded one → bag ≡ fold (table_mode table) one) → Reached sources taken folds (bags ++ bag ∷ [])
reached_next sources taken all folded folds bags bag r is told = next_in sources taken folded folds bags bag r.later r.changes (rw (sym is) r.stand) r.so_far told

end_in : (sources : List TableDef) (taken : Taken) (bags : List Rows) (later : List TableDef) (changes : Taken) → StandAll later [] changes → rows_of sources taken ≡ bags ++ rows_of later changes → bags ≡ rows_of sources taken
end_in sources taken bags [] changes stand so_far = sym (so_far ∙ append-nil bags)
end_in sources taken bags (table ∷ later) changes stand so_far = absurd stand

pub reached_end : (sources : List TableDef) (taken : Taken) (folds : List SourceFold) (bags : List Rows) → Reached sources taken folds bags → folds ≡ [] → bags ≡ rows_of sources taken
reached_end sources taken folds bags r is = end_in sources taken bags r.later r.changes (rw (sym is) r.stand) r.so_far
