-- Items of a run in pieces.
use Rattle.std.specs.Prelude.{◌≡◌, ℕ, ◌+◌, Bool, List, ◌++◌}
use Rattle.std.proofs.Common.{[], ◌∷◌, refl, ap, ◌∙◌}
use Rattle.ct_catalog.specs.declared.table.TableDef.{TableDef}
use Rattle.stream_model.specs.Network.{Network}
use Rattle.stream_model.specs.Machine.{State}
use Rattle.stream_model.specs.Runs.{Item, after, quiet, step_item}
use Rattle.stream_model.specs.Drain.{Stage, drain, drain_stages, moves, stage_items, stages}
use Rattle.source_lines.specs.Run as run
use Rattle.source_lines.specs.Run.{At, Went, and_then, halts, job_of, on}
use Rattle.source_lines.proofs.laws.Along.{along_leads, leads_after}
use Rattle.run_laws.proofs.laws.Early.{moves_first}

module _ (g : Network) (limit : ℕ) (sources : List TableDef) (by_table : Bool) where
  abbrev Along : At State → List Item → Went (At State)
  Along p items = run.go_along (job_of g limit) sources by_table p items

  -- what stands behind what was gone along
  both_then : (p : At State) (ys : List Item) (w : Went (At State)) (next : At State → Went (At State)) (others : At State → Went (At State)) → ((q : At State) → next q ≡ and_then (others q) (λ r. Along r ys)) → and_then w next ≡ and_then (and_then w others) (λ r. Along r ys)
  both_then p ys (on q) next others same = same q
  both_then p ys (halts cause q) next others same = refl

  pub along_both : (p : At State) (xs ys : List Item) → Along p (xs ++ ys) ≡ and_then (Along p xs) (λ q. Along q ys)
  along_both p [] ys = refl
  along_both p (x ∷ xs) ys = both_then p ys (run.stepped (job_of g limit) sources by_table p (step_item g limit p.state x)) (λ q. Along q (xs ++ ys)) (λ q. Along q xs) (λ q. along_both q xs ys)

  -- one item is a step
  then_on : {A : Type 0} (w : Went A) → and_then w on ≡ w
  then_on (on p) = refl
  then_on (halts cause p) = refl

  pub along_one : (p : At State) (item : Item) → Along p (item ∷ []) ≡ run.stepped (job_of g limit) sources by_table p (step_item g limit p.state item)
  along_one p item = then_on (run.stepped (job_of g limit) sources by_table p (step_item g limit p.state item))

  pub along_moves : (p : At State) (e i j first rest all : ℕ) → all ≡ first + rest → Along p (moves e i j all) ≡ and_then (Along p (moves e i j first)) (λ q. Along q (moves e i j rest))
  along_moves p e i j first rest all is = ap (Along p) (moves_first e i j first rest all is) ∙ along_both p (moves e i j first) (moves e i j rest)

  -- ---- a drain by its stages

  -- what is left of the stages
  abbrev pub Staged : At State → List Stage → Went (At State)
  Staged p all = Along p (drain_stages g limit p.state all)

  -- what is left behind a stage, where that was gone along
  abbrev pub behind_stage : At State → Stage → List Stage → At State → Went (At State)
  behind_stage p stage others q = Along q (drain_stages g limit (after g limit p.state (stage_items p.state stage)) others)

  pub staged_next : (p : At State) (stage : Stage) (others : List Stage) → Staged p (stage ∷ others) ≡ and_then (Along p (stage_items p.state stage)) (behind_stage p stage others)
  staged_next p stage others = along_both p (stage_items p.state stage) (drain_stages g limit (after g limit p.state (stage_items p.state stage)) others)

  pub behind_is : (p q : At State) (stage : Stage) (others : List Stage) → Along p (stage_items p.state stage) ≡ on q → behind_stage p stage others q ≡ Staged q others
  behind_is p q stage others goes =
      ap (λ s. Along q (drain_stages g limit s others)) (leads_after g limit p.state (stage_items p.state stage) q.state (along_leads g limit sources by_table p q (stage_items p.state stage) goes))

  -- the quiet item behind them
  abbrev pub then_quiet : At State → Went (At State)
  then_quiet q = Along q (quiet ∷ [])

  pub drain_next : (p : At State) → Along p (drain g limit p.state) ≡ and_then (Staged p (stages g)) then_quiet
  drain_next p = along_both p (drain_stages g limit p.state (stages g)) (quiet ∷ [])
