use Rattle.std.proofs.Common.{sym, ◌∙◌}
use Rattle.stream_model.proofs.laws.Theorems.{printed_folds_to_answer}
use Rattle.session_core.specs.Stands.{reached}
use Rattle.session_core.proofs.QuietStates.{all_empty, is_quiet}
use Rattle.session_core.proofs.session.Session.is_quiet.Goals as goal

pub returns-clause-quiet : goal.returns-clause-quiet
returns-clause-quiet b c = λ g limit handed items stands told.
    let s = reached g limit items in
    let keeps = stands.keeps in
    is_quiet g c.args.self.now.operators.width s keeps.laid.wired keeps.width_is keeps.outside (c.is_quiet.ensures.quiet g limit handed s keeps.laid keeps.carries c.if-not-is_quiet.false) (c.are_empty.ensures.empty g s.pieces s.bundle keeps.runs keeps.nodes_are told)

pub returns-clause-answers : goal.returns-clause-answers
returns-clause-answers b c = λ told g limit handed items stands mode facts printing.
    let s = reached g limit items in
    let keeps = stands.keeps in
    let prints = printed_folds_to_answer g stands.keeps.laid.wired facts mode printing.meaning printing.kinds printing.keyed limit items stands.typed in
    let quiet = is_quiet g c.args.self.now.operators.width s keeps.laid.wired keeps.width_is keeps.outside (c.is_quiet.ensures.quiet g limit handed s keeps.laid keeps.carries c.if-not-is_quiet.false) (c.are_empty.ensures.empty g s.pieces s.bundle keeps.runs keeps.nodes_are told) in
    record { valid = prints.valid; answer = prints.folds quiet }

pub returns-clause-busy : goal.returns-clause-busy
returns-clause-busy b c = λ g limit handed items stands quiet.
    let s = reached g limit items in
    c.are_empty.ensures.busy g s.pieces s.bundle stands.keeps.runs stands.keeps.nodes_are (all_empty g c.args.self.now.operators.width s stands.keeps.width_is quiet)

pub returns-then-not-is_quiet-clause-busy : goal.returns-then-not-is_quiet-clause-busy
returns-then-not-is_quiet-clause-busy b c = λ g limit handed items stands quiet.
    sym c.if-not-is_quiet.true ∙ c.is_quiet.ensures.busy g limit handed (reached g limit items) stands.keeps.laid stands.keeps.carries (λ e i j feed fed li lj. quiet.flight e i j feed fed li lj)
