use Rattle.std.proofs.Common.{◌+◌, ◌++◌, ◌∙◌, ap, arith, length, refl, subst, sym}
use Rattle.job_text.specs.Lines.{records_of}
use Rattle.job_run.specs.Loads.{line_count}
use Rattle.job_run.specs.Sums.{TakesAs}
use Rattle.job_run.proofs.RunningSums.{ends_fit, few_gone, let_go}
use Rattle.job_run.proofs.running_sums.Sums.let_go.Goals as goal

pub overflow_add-self-2 : goal.overflow_add-self-2
overflow_add-self-2 c =
    let r = c.requires.sums in
    let same = ap length (c.as_slice.ensures ∙ c.replace-block.ensures.value) in
    omega (arith, ends_fit c.args.self.now r.0 r.1 c.line_count.result (length c.as_slice.result.now) c.line_count.ensures.few same c.requires.within)

pub taken-requires : goal.taken-requires
taken-requires c =
    let r = c.requires.sums in
    (records_of r.1.gone, subst (λ t. TakesAs t (records_of r.1.gone)) (sym c.replace-taking.ensures.value) r.1.taken, few_gone c.args.self.now r.0 r.1 (length c.replace-block.result) (ap length c.replace-block.ensures.value) c.requires.within)

pub returns : goal.returns
returns c = λ bytes s.
    let self = c.args.self.now in
    let value = c.replace-block.ensures.value in
    let_go self bytes s c.requires.room c.requires.within c.requires.cut _ (c.replace-block.ensures.after ∙ c.replace-held.ensures.value) (c.replace-held.ensures.after ∙ c.new.ensures)
    (ap (λ n. self.count + n) (c.len.ensures ∙ ap length value)) (ap (λ n. self.ends + n) (c.line_count.ensures.count ∙ ap line_count (c.as_slice.ensures ∙ value))) refl
    (λ records takes. subst (λ part. TakesAs c.taken.result (records ++ records_of part)) value (c.taken.ensures records (subst (λ t. TakesAs t records) (sym c.replace-taking.ensures.value) takes)))
