-- Folds of sources: one more of them, one of them with one more change, and their rows.
use Rattle.std.proofs.Common.{◌≡◌, ◌≤◌, ◌<◌, ◌+◌, ℕ, zero, suc, Bool, true, false, cond, List, [], ◌∷◌, ◌++◌, length, take, set, get_or, slice_get, Option, Some, refl, sym, ap, subst, arith, length-append, eqb}
use Rattle.std.proofs.lemmas.Bool.{eq-eqb, ne_eqb}
use Rattle.ct_change.specs.declared.change.Change.{Change}
use Rattle.ct_catalog.specs.declared.table.TableDef.{TableDef}
use Rattle.job_text.specs.declared.line.Line.{Line}
use Rattle.source_lines.specs.Folding.{FoldStands}
use Rattle.source_lines.specs.Kept.{refusal_after}
use Rattle.source_lines.specs.declared.folds.SourceFold.{SourceFold}
use Rattle.source_lines.specs.Standing.{AreFew, StandAll}
use Rattle.source_lines.specs.Taken.{Taken, line_refusal, nothing_taken, refusal_in, with_line}

-- one more source of which nothing is taken
pub stand_more : (sources : List TableDef) (i : ℕ) (folds : List SourceFold) (table : TableDef) (folded : SourceFold) → StandAll (take i sources) folds nothing_taken → slice_get sources i ≡ Some table → FoldStands table folded []
    → StandAll (take (suc i) sources) (folds ++ folded ∷ []) nothing_taken
stand_more [] zero folds table folded stand at one = absurd (cc (at))
stand_more [] (suc i) folds table folded stand at one = absurd (cc (at))
stand_more (x ∷ xs) zero [] table folded stand at one = let same : table ≡ x = cc (at) in (subst (λ t. FoldStands t folded []) same one, tt)
stand_more (x ∷ xs) zero (f ∷ fs) table folded stand at one = absurd stand
stand_more (x ∷ xs) (suc i) [] table folded stand at one = absurd stand
stand_more (x ∷ xs) (suc i) (f ∷ fs) table folded stand at one = (stand.0, stand_more xs i fs table folded stand.1 at one)

-- the fold at a place is of the source there
pub found : (sources : List TableDef) (folds : List SourceFold) (taken : Taken) (i : ℕ) (folded : SourceFold) → StandAll sources folds taken → i < length folds → folded ≡ get_or folds i folded
    → (table : TableDef) × (slice_get sources i ≡ Some table) × FoldStands table folded (taken i)
found [] [] taken i folded stand h is = absurd (omega (arith, h))
found [] (f ∷ fs) taken i folded stand h is = absurd stand
found (t ∷ ts) [] taken i folded stand h is = absurd stand
found (t ∷ ts) (f ∷ fs) taken zero folded stand h is = (t, refl, subst (λ x. FoldStands t x (taken 0)) (sym is) stand.0)
found (t ∷ ts) (f ∷ fs) taken (suc i) folded stand h is = found ts fs (λ k. taken (suc k)) i folded stand.1 (omega (arith, h)) is

moved : (sources : List TableDef) (folds : List SourceFold) (taken more : Taken) → ((k : ℕ) → more k ≡ taken k) → StandAll sources folds taken → StandAll sources folds more
moved [] [] taken more same stand = tt
moved [] (f ∷ fs) taken more same stand = absurd stand
moved (t ∷ ts) [] taken more same stand = absurd stand
moved (t ∷ ts) (f ∷ fs) taken more same stand = (subst (FoldStands t f) (sym (same 0)) stand.0, moved ts fs (λ k. taken (suc k)) (λ k. more (suc k)) (λ k. same (suc k)) stand.1)

changed_to : (sources : List TableDef) (folds : List SourceFold) (taken more : Taken) (table : TableDef) (i : ℕ) (folded : SourceFold) → StandAll sources folds taken → slice_get sources i ≡ Some table
    → FoldStands table folded (more i) → ((k : ℕ) → (k ≡ i → ⊥) → more k ≡ taken k) → StandAll sources (set folds i folded) more
changed_to [] [] taken more table i folded stand at one others = absurd (cc (at))
changed_to [] (f ∷ fs) taken more table i folded stand at one others = absurd stand
changed_to (t ∷ ts) [] taken more table i folded stand at one others = absurd stand
changed_to (t ∷ ts) (f ∷ fs) taken more table zero folded stand at one others =
    let same : table ≡ t = cc (at) in
    (subst (λ x. FoldStands x folded (more 0)) same one, moved ts fs (λ k. taken (suc k)) (λ k. more (suc k)) (λ k. others (suc k) (λ e. omega (arith, e))) stand.1)
changed_to (t ∷ ts) (f ∷ fs) taken more table (suc i) folded stand at one others =
    (subst (FoldStands t f) (sym (others 0 (λ e. omega (arith, e)))) stand.0, changed_to ts fs (λ k. taken (suc k)) (λ k. more (suc k)) table i folded stand.1 at one (λ k other. others (suc k) (λ e. other (omega (arith, e)))))

pub with_here : (taken : Taken) (line : Line) → with_line taken line line.table ≡ taken line.table ++ line.change ∷ []
with_here taken line = let q : eqb line.table line.table ≡ true = eq-eqb line.table line.table refl in rw q refl

pub with_other : (taken : Taken) (line : Line) (k : ℕ) → (k ≡ line.table → ⊥) → with_line taken line k ≡ taken k
with_other taken line k other = let q : eqb k line.table ≡ false = ne_eqb k line.table other in rw q refl

-- one change more of the source at a place
pub changed : (sources : List TableDef) (folds : List SourceFold) (taken : Taken) (table : TableDef) (line : Line) (folded : SourceFold) → StandAll sources folds taken → slice_get sources line.table ≡ Some table
    → FoldStands table folded (taken line.table ++ line.change ∷ []) → StandAll sources (set folds line.table folded) (with_line taken line)
changed sources folds taken table line folded stand at one =
    changed_to sources folds taken (with_line taken line) table line.table folded stand at (subst (FoldStands table folded) (sym (with_here taken line)) one) (with_other taken line)

-- why a change of the source at a place is refused
pub refusal_at : (sources : List TableDef) (taken : Taken) (line : Line) (table : TableDef) → slice_get sources line.table ≡ Some table → line_refusal sources taken line ≡ refusal_after table (taken line.table) line.change
refusal_at sources taken line table at = ap (λ (o : Option TableDef). refusal_in o (taken line.table) line.change) at

few_in : (test : Bool) (changes : List Change) (change : Change) → length (cond test (changes ++ change ∷ []) changes) ≤ length changes + 1
few_in true changes change = omega (arith, length-append changes (change ∷ []))
few_in false changes change = omega arith

pub few_more : (taken : Taken) (line : Line) → AreFew 1 taken (with_line taken line)
few_more taken line = λ source. few_in _ (taken source) line.change
