-- What is laid of a node of a tree, by what stands there.
use Rattle.std.specs.Prelude.{◌≡◌, ℕ, List, Result, IfOk, IfErr}
use Rattle.std.specs.Borrow.{Bor}
use Rattle.std.proofs.Common.{sym, subst}
use Rattle.std.proofs.lemmas.Bool.{or_right}
use Rattle.rel_algebra.specs.declared.rel.Rel.{Rel as CodeRel}
use Rattle.rel_algebra.specs.Rel as r
use Rattle.rel_algebra.specs.Rel.{Unary, Binary, Rel, Rels, One, Two, rels}
use Rattle.rel_algebra.specs.View.{rel_view, rels_view}
use Rattle.phys_plan.specs.declared.edge.Exchange.TheVariants.{Forward}
use Rattle.phys_plan.specs.declared.node.Op.{Op}
use Rattle.plan_rules.specs.Roles.{unary_way, binary_way}
use Rattle.plan_laying.specs.declared.laying_fault.LayingFault.{LayingFault}
use Rattle.plan_laying.specs.declared.laying_fault.LayingFault.TheVariants.{NoTable, Memory}
use Rattle.plan_laying.specs.declared.laying.Laid.{Laid}
use Rattle.plan_laying.specs.declared.laying.Laying.{Laying}
use Rattle.plan_laying.specs.declared.steps.Step.{Step}
use Rattle.plan_laying.specs.declared.steps.Step.TheVariants as s
use Rattle.plan_laying.specs.Faults.{lacks_table}
use Rattle.plan_laying.specs.Laying.{Fails, Lays, Tops}
use Rattle.plan_laying.specs.Steps.{IsStep}
use Rattle.plan_laying.proofs.laws.Answered.{if_err, if_ok}

-- a tree without inputs, or a union
alone : (mid new : Laying) (below root : Laid) (source : ℕ) → Lays mid new Forward (r.Scan source) root → Tops mid new below (r.Scan source) root
alone mid new below root source l = record { tops = λ old same. subst (λ (start : Laying). Lays start new Forward (r.Scan source) root) (sym same) l }

together : (mid new : Laying) (below root : Laid) (inputs : Rels) → Lays mid new Forward (r.Union inputs) root → Tops mid new below (r.Union inputs) root
together mid new below root inputs l = record { tops = λ old same. subst (λ (start : Laying). Lays start new Forward (r.Union inputs) root) (sym same) l }

-- what the second input of a tree lacks, the tree lacks
second_fails : (l : Laying) (how : Binary) (left right : Rel) (fault : LayingFault) → Fails l right fault → Fails l (Two how left right) fault
second_fails l how left right NoTable f = or_right (lacks_table l.sources left) (lacks_table l.sources right) f
second_fails l how left right Memory f = tt

module _ (result : Result Laid LayingFault) (mid new : Laying) (below : Laid) (size : ℕ) (rel : Rel) (step : Step) (is : IsStep size rel step) where
  abbrev Laid_is : Type 0
  Laid_is = IfOk result (λ root. Tops mid new below rel root)

  abbrev Fails_so : Type 0
  Fails_so = IfErr result (λ fault. Fails mid rel fault)

  -- the tree is this one
  laid_as : (other : Rel) → rel ≡ other → IfOk result (λ root. Tops mid new below other root) → Laid_is
  laid_as other same p = subst (λ (t : Rel). IfOk result (λ root. Tops mid new below t root)) (sym same) p

  fails_as : (other : Rel) → rel ≡ other → IfErr result (λ fault. Fails mid other fault) → Fails_so
  fails_as other same p = subst (λ (t : Rel). IfErr result (λ fault. Fails mid t fault)) (sym same) p

  module _ (source : ℕ) (there : step ≡ s.Table source) where
    same_table : rel ≡ r.Scan source
    same_table = subst (λ (t : Step). IsStep size rel t) there is

    pub table_laid : IfOk result (λ root. Lays mid new Forward (r.Scan source) root) → Laid_is
    table_laid p = laid_as (r.Scan source) same_table (if_ok result _ _ (λ root l. alone mid new below root source l) p)

    pub table_fails : IfErr result (λ fault. Fails mid (r.Scan source) fault) → Fails_so
    table_fails p = fails_as (r.Scan source) same_table p

  module _ (inputs : Bor (List CodeRel)) (there : step ≡ s.All inputs) where
    same_all : rel ≡ r.Union (rels (rels_view inputs.now))
    same_all = subst (λ (t : Step). IsStep size rel t) there is

    pub all_laid : IfOk result (λ root. Lays mid new Forward (r.Union (rels (rels_view inputs.now))) root) → Laid_is
    all_laid p = laid_as (r.Union (rels (rels_view inputs.now))) same_all (if_ok result _ _ (λ root l. together mid new below root (rels (rels_view inputs.now)) l) p)

    pub all_fail : IfErr result (λ fault. Fails mid (r.Union (rels (rels_view inputs.now))) fault) → Fails_so
    all_fail p = fails_as (r.Union (rels (rels_view inputs.now))) same_all p

  module _ (o : Op) (there : step ≡ s.One o) where
    one_is : IsStep size rel (s.One o)
    one_is = subst (λ (t : Step). IsStep size rel t) there is

    pub one_laid : IfOk result (λ root. (how : Unary) (input : Rel) → o ≡ (unary_way how).op size → Tops mid new below (One how input) root) → Laid_is
    one_laid p = laid_as (One one_is.0 one_is.1) one_is.2 (if_ok result _ _ (λ root t. t one_is.0 one_is.1 one_is.3) p)

  module _ (o : Op) (right : Bor CodeRel) (there : step ≡ s.Two o right) where
    two_is : IsStep size rel (s.Two o right)
    two_is = subst (λ (t : Step). IsStep size rel t) there is

    pub two_laid : IfOk result (λ root. (how : Binary) (left : Rel) → o ≡ (binary_way how).op → Tops mid new below (Two how left (rel_view right.now)) root) → Laid_is
    two_laid p = laid_as (Two two_is.0 two_is.1 (rel_view right.now)) two_is.2 (if_ok result _ _ (λ root t. t two_is.0 two_is.1 two_is.3) p)

    pub two_fail : IfErr result (λ fault. Fails mid (rel_view right.now) fault) → Fails_so
    two_fail p = fails_as (Two two_is.0 two_is.1 (rel_view right.now)) two_is.2 (if_err result _ _ (λ fault f. second_fails mid two_is.0 two_is.1 (rel_view right.now) fault f) p)
