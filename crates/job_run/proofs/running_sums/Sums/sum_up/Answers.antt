use Rattle.std.proofs.Common.{◌≡◌, ◌≤◌, ◌+◌, ◌-◌, ◌++◌, ◌∷◌, ◌∙◌, [], ℕ, List, ap, arith, length, subst, sym, take}
use Rattle.std.proofs.lemmas.Result.{err_from_is_err_and}
use Rattle.job_text.specs.Printed.{but_last, quiet_line}
use Rattle.job_ending.specs.declared.ending.Ending.TheVariants.{Done}
use Rattle.job_ending.specs.Outcome.{Outcome}
use Rattle.job_ending.specs.Runs.{IsBefore}
use Rattle.job_run.specs.declared.running_sums.Sums.{Sums}
use Rattle.job_run.specs.Loads.{line_count, summary}
use Rattle.job_run.specs.Outcome.{behind, summed, sums_answer}
use Rattle.job_run.specs.Sums.{AreSums}
use Rattle.job_run.proofs.RunningSums.{ends_more, feed_is, few_ends, few_quiet, rest_is}
use Rattle.job_run.proofs.Summed.{summed_is}
use Rattle.job_run.proofs.running_sums.Sums.sum_up.Goals as goal

-- the line behind the sums
abbrev line_of : ℕ → ℕ → ℕ → List ℕ → Outcome
line_of lines changes hash sums = record { ending = Done; bytes = summary lines changes (but_last sums) hash }

sum_is : (self : Sums) (printed : List ℕ) (s : AreSums self printed) (lines tail more : ℕ) (rest : List ℕ) → tail ≡ length (quiet_line (lines ∷ [])) → tail ≤ 32 → rest ≡ take (length (self.block ++ self.held) - tail) (self.block ++ self.held)
    → more ≡ line_count rest → summed lines printed ≡ behind (line_of lines (self.ends + more) self.hash) (sums_answer (s.gone ++ rest))
sum_is self printed s lines tail more rest is_tail small is_rest counted =
    let all = ends_more s.gone rest in
    let changes : self.ends + more ≡ line_count (s.gone ++ rest) = omega (arith, all, s.ends_are, counted) in
    summed_is lines printed (s.gone ++ rest) self.hash (self.ends + more) (feed_is self printed s tail small lines is_tail ∙ ap (λ xs. s.gone ++ xs) (sym is_rest)) s.hash_is changes

pub overflow_add-changes : goal.overflow_add-changes
overflow_add-changes c =
    let s = c.requires.1 in
    omega (arith, c.line_count.ensures.small, s.ends_are, few_ends s.gone, s.few)

pub answered-requires : goal.answered-requires
answered-requires c =
    let r = c.requires in
    let small : c.in-Ok.tail ≤ 32 = omega (arith, c.in-Ok.ensures, few_quiet c.args.lines c.ranges.lines.fits) in
    (r.1.gone, rest_is c.args.self r.0 r.1 c.in-Ok.tail small c.in-Ok-rest_of.rest c.in-Ok-rest_of.ensures)

pub returns-in_err-sums-clause-halts : goal.returns-in_err-sums-clause-halts
returns-in_err-sums-clause-halts c =
    let p = err_from_is_err_and c.from_residual.result c.from_residual.ensures.1 in
    let small : c.in-Ok.tail ≤ 32 = omega (arith, c.in-Ok.ensures, few_quiet c.args.lines c.ranges.lines.fits) in
    let counted = c.line_count.ensures.count ∙ ap line_count c.as_slice.ensures in
    rw (p.1, p.2) (λ printed s.
    subst (IsBefore c.in_err-sums.field-0.0) (sym (sum_is c.args.self printed s c.args.lines c.in-Ok.tail c.line_count.result c.in-Ok-rest_of.rest c.in-Ok.ensures small c.in-Ok-rest_of.ensures counted))
    (c.in_err-sums.ensures.halts s.gone (rest_is c.args.self printed s c.in-Ok.tail small c.in-Ok-rest_of.rest c.in-Ok-rest_of.ensures) (line_of c.args.lines (c.args.self.ends + c.line_count.result) c.args.self.hash)))

pub returns-in-Ok-summary-clause-ok : goal.returns-in-Ok-summary-clause-ok
returns-in-Ok-summary-clause-ok c = λ printed s.
    let small : c.in-Ok.tail ≤ 32 = omega (arith, c.in-Ok.ensures, few_quiet c.args.lines c.ranges.lines.fits) in
    let counted = c.line_count.ensures.count ∙ ap line_count c.as_slice.ensures in
    let changes = c.args.self.ends + c.line_count.result in
    sum_is c.args.self printed s c.args.lines c.in-Ok.tail c.line_count.result c.in-Ok-rest_of.rest c.in-Ok.ensures small c.in-Ok-rest_of.ensures counted
    ∙ c.in_ok-sums.ensures.ok s.gone (rest_is c.args.self printed s c.in-Ok.tail small c.in-Ok-rest_of.rest c.in-Ok-rest_of.ensures) (line_of c.args.lines changes c.args.self.hash)
    ∙ ap (λ (sums : List ℕ). (let o : Outcome = record { ending = Done; bytes = summary c.args.lines changes sums c.args.self.hash } in o)) (sym c.without_last.ensures)
    ∙ ap (λ (bytes : List ℕ). (let o : Outcome = record { ending = Done; bytes = bytes } in o)) (sym c.in-Ok-summary.ensures)
