-- A filter meets its facts.
use Rattle.std.proofs.Common.{◌≡◌, ℕ, ◌<◌, Bool, true, false, List, Option, Some, None, refl, sym, ap, subst, ◌∙◌, arith, inl}
use Rattle.std.specs.Prelude.{option_map}
use Rattle.ct_value.specs.Rows.{project}
use Rattle.ct_value.specs.declared.row.Row.{Row}
use Rattle.ct_change.specs.declared.kind.Kind.{Kind}
use Rattle.ct_change.specs.declared.kind.Kind.TheVariants.{I, UB, UA, D}
use Rattle.ct_change.specs.declared.change.Change.{Change}
use Rattle.ct_change.specs.Changelog.{Rows, adds, retract, admits}
use Rattle.ct_expr.specs.Eval.{eval}
use Rattle.rel_algebra.specs.Clauses.{holds}
use Rattle.rel_algebra.specs.Sums.{kept, sum_over}
use Rattle.rel_algebra.specs.Batch.{filter_answer}
use Rattle.op_rules.specs.Edges.{Meaning, bag, Edge}
use Rattle.op_rules.specs.Ports.{IsReadIn, Takes}
use Rattle.emission_rules.specs.Filter.{Filter, kept_where, filter_change, filter_rule, FilterFits, FiltersStand, FiltersTake}
use Rattle.emission_rules.proofs.laws.Moved.{Fate, moved, shown, image, Carries}
use Rattle.emission_rules.proofs.laws.RowFacts.{Moves, LeavesOne, row_facts}
use Rattle.emission_rules.proofs.laws.RowReads.{reads_bag, bag_whole}

-- a row where the condition is TRUE
abbrev passing : Row → Option Bool → Fate
passing row None = None
passing row (Some true) = Some (Some row)
passing row (Some false) = Some None

same_answer : (change : Change) (o : Option Bool) → kept_where change o ≡ moved change.kind change.row (passing change.row o)
same_answer change None = refl
same_answer change (Some true) = refl
same_answer change (Some false) = refl

same_rows : (row : Row) (o : Option Bool) → option_map (λ passes. kept passes row) o ≡ option_map shown (passing row o)
same_rows row None = refl
same_rows row (Some true) = refl
same_rows row (Some false) = refl

same_row : (row made : Row) (o : Option Bool) → passing row o ≡ Some (Some made) → row ≡ made
same_row row made None e = absurd (cc)
same_row row made (Some true) e = cc
same_row row made (Some false) e = absurd (cc)

-- an edge of bags may be read as a retract changelog
pub reads_retract : (m : Meaning) → m ≡ bag → IsReadIn m retract
reads_retract m is = subst (λ x. IsReadIn x retract) (sym is) tt

pub retracts_all : (kind : Kind) → admits retract kind ≡ true
retracts_all I = refl
retracts_all UB = refl
retracts_all UA = refl
retracts_all D = refl

pub from_first : (P : ℕ → Type 0) → P 0 → (p : ℕ) → p < 1 → P p
from_first P at p l = let is : 0 ≡ p = omega arith in subst P is at

module _ (filter : Filter) where
  -- whether it comes or goes
  abbrev fate : Bool → Row → Fate
  fate comes row = passing row (holds (eval filter.condition) row)

  abbrev turn : Kind → Kind
  turn kind = kind

  stays : (kind : Kind) → adds (turn kind) ≡ adds kind
  stays kind = refl

  batch_is : (rows : Rows) → filter_answer filter.condition rows ≡ image fate turn stays rows
  batch_is rows = ap (λ (f : Row → Option Rows). sum_over f rows) (λ i row. same_rows row (holds (eval filter.condition) row) i)

  keeps : (set : List ℕ) → Carries fate turn stays set set
  keeps set x y a b fa fb is_a is_b same =
      ap (project set) (same_row a fa (holds (eval filter.condition) a) is_a) ∙ same ∙ ap (project set) (sym (same_row b fb (holds (eval filter.condition) b) is_b))

  module _ (many : ℕ) (from : ℕ → Edge) (to : Edge) (fits : FilterFits (from 0) to) where
    is : (change : Change) → filter_change filter change ≡ moved (turn change.kind) change.row (fate (adds change.kind) change.row)
    is change = same_answer change (holds (eval filter.condition) change.row)

    leaves : (m : Meaning) → m ≡ bag → LeavesOne fate turn stays (filter_change filter) is (filter_answer filter.condition) batch_is retract many from to m
    leaves m is_bag = subst (LeavesOne fate turn stays (filter_change filter) is (filter_answer filter.condition) batch_is retract many from to) (sym is_bag) tt

    moves : Moves fate turn stays (filter_change filter) is (filter_answer filter.condition) batch_is retract many from to
    moves = record {
      forwards = fits.forwards;
      reads = λ j history ready known n. reads_bag fate turn stays (filter_answer filter.condition) batch_is (from 0) to (λ row. refl) fits.reads fits.writes _ known n;
      whole = bag_whole to.meaning fits.writes;
      leaves = leaves to.meaning fits.writes;
      kinds = fits.kinds;
      fits = λ change row h is_row.
          fits.fits (record { kind = change.kind; row = row })
          (subst (λ r. (from 0).fits (record { kind = change.kind; row = r }) ≡ true) (same_row change.row row (holds (eval filter.condition) change.row) is_row) h);
      holds = λ row made h is_row. fits.holds made (subst (λ r. (from 0).holds r ≡ true) (same_row row made (holds (eval filter.condition) row) is_row) h);
      unique = λ key has. (key, inl (fits.unique key has), keeps key true true);
      local = λ key has. (key, fits.local key has, keeps key true true);
      fixing = λ set has. (set, fits.fixing set has, keeps set);
    }

pub filters_stand : FiltersStand
filters_stand filter many from to fits = row_facts (fate filter) (turn filter) (stays filter) (filter_change filter) (is filter many from to fits) (filter_answer filter.condition) (batch_is filter) retract many from to (moves filter many from to fits)

pub filters_take : FiltersTake
filters_take filter many from to fits = (
  refl,
  from_first (λ p. Takes (filter_rule filter) p (from p)) (record {
    reads = reads_retract (from 0).meaning fits.reads;
    kinds = λ kind h. retracts_all kind;
    fits = λ change h. refl;
    keyed = λ change h. tt;
  }),
)
