use Rattle.std.proofs.Common.{ℕ, [], refl, sym, subst, ◌∙◌, arith}
use Rattle.std.proofs.lemmas.Result.{err_from_is_err_and}
use Rattle.stream_model.specs.declared.events.Event.TheVariants.{Flush}
use Rattle.stream_model.specs.Machine.{flush}
use Rattle.stream_model.specs.Runs.{happens}
use Rattle.session_subtasks.specs.Subtasks.{holds_some}
use Rattle.session_core.specs.Runs.{AllHaveRun}
use Rattle.session_core.specs.Stands.{next_if}
use Rattle.session_subtasks.proofs.laws.Outcomes.{if_err, on_ok}
use Rattle.session_core.proofs.Steps.{flush_next, open_after, place_there, stops_out, stops_same}
use Rattle.session_core.proofs.session.Session.flush.Goals as goal

pub returns-in_err-find_bundle-clause-err : goal.returns-in_err-find_bundle-clause-err
returns-in_err-find_bundle-clause-err b c = let p = err_from_is_err_and c.from_residual.result c.from_residual.ensures.1 in rw (p.1, p.2) (λ g limit handed s keeps. c.in_err-find_bundle.ensures.err g limit s keeps.laid)

pub flush_at-requires-clause-node : goal.flush_at-requires-clause-node
flush_at-requires-clause-node b c =
    let r = c.requires.ready in
    let has = c.in_ok-find_bundle.ensures.ok r.0 r.1 r.4.laid in
    let at = place_there r.0 c.args.node c.args.subtask has.place in
    omega (arith, r.4.nodes_are, at.0)

pub flush_at-requires-clause-typed : goal.flush_at-requires-clause-typed
flush_at-requires-clause-typed b c =
    let r = c.requires.ready in
    let has = c.in_ok-find_bundle.ensures.ok r.0 r.1 r.4.laid in
    let at = place_there r.0 c.args.node c.args.subtask has.place in
    omega (arith, r.4.laid.types_many, at.0)

pub flush_at-requires-clause-subtask : goal.flush_at-requires-clause-subtask
flush_at-requires-clause-subtask b c =
    let r = c.requires.ready in
    let has = c.in_ok-find_bundle.ensures.ok r.0 r.1 r.4.laid in
    let at = place_there r.0 c.args.node c.args.subtask has.place in
    omega (arith, r.4.width_is, at.1)

pub flush_at-requires-clause-ready : goal.flush_at-requires-clause-ready
flush_at-requires-clause-ready b c =
    let r = c.requires.ready in
    let g = r.0 in
    let limit = r.1 in
    let s = r.3 in
    let keeps = r.4 in
    let v = c.args.node in
    let j = c.args.subtask in
    let has = c.in_ok-find_bundle.ensures.ok g limit keeps.laid in
    let at = place_there g v j has.place in
    (g, s.pieces, s.bundle, record { there = at.0; all = keeps.runs; size = has.size; bundled = has.bundled; ready = keeps.opens.ready [] tt s refl v j at.1 })

pub returns-in_err-flush_at-clause-err : goal.returns-in_err-flush_at-clause-err
returns-in_err-flush_at-clause-err b c = let p = err_from_is_err_and c.from_residual-in_err-flush_at.result c.from_residual-in_err-flush_at.ensures.1 in rw (p.1, p.2) (λ g limit handed s keeps.
    let v = c.args.node in
    let j = c.args.subtask in
    let has = c.in_ok-find_bundle.ensures.ok g limit keeps.laid in
    let at = place_there g v j has.place in
    stops_out g limit v j (holds_some (s.bundle v j)) s (flush g limit s v j) c.in_err-flush_at.field-0.0 (flush_next g limit s v j has)
    (c.in_err-flush_at.ensures.err g s.pieces s.bundle (record { there = at.0; all = keeps.runs; size = has.size; bundled = has.bundled; ready = keeps.opens.ready [] tt s refl v j at.1 }) limit keeps.laid))

pub hand_out-requires : goal.hand_out-requires
hand_out-requires b c =
    let r = c.requires.ready in
    let g = r.0 in
    let limit = r.1 in
    let handed = r.2 in
    let s = r.3 in
    let keeps = r.4 in
    let v = c.args.node in
    let j = c.args.subtask in
    let has = c.in_ok-find_bundle.ensures.ok g limit keeps.laid in
    let at = place_there g v j has.place in
    let due = holds_some (s.bundle v j) in
    let is = flush_next g limit s v j has in
    let told = c.in_ok-flush_at.ensures.ok g s.pieces s.bundle (record { there = at.0; all = keeps.runs; size = has.size; bundled = has.bundled; ready = keeps.opens.ready [] tt s refl v j at.1 }) in
    record {
      ready = (
        due,
        g,
        limit,
        handed,
        s,
        record {
          laid = keeps.laid;
          nodes_are = c.flush_at.ensures.nodes ∙ keeps.nodes_are;
          width_is = c.flush_at.ensures.width ∙ keeps.width_is;
          carries = keeps.carries;
          runs = subst (λ (w : ℕ). AllHaveRun b.O.Operator.rule b.O.Operator.broken b.O.Operator.stands_for b.O.PieceOperator.takes_pieces due g w c.flush_at.new.operators.items.items s.pieces s.bundle v j c.flush_at.new.to) (sym c.flush_at.ensures.width) told;
          sources = keeps.sources;
          outside = keeps.outside;
          subtask = at.1;
          opens = λ next done. open_after g limit s (happens (Flush v j)) next (is ∙ done) tt keeps.opens;
        },
      );
    }

pub returns-clause-ok : goal.returns-clause-ok
returns-clause-ok b c = on_ok _ _ c.hand_out.result c.hand_out.ensures.ok (λ handed_out g limit handed s keeps.
    let v = c.args.node in
    let j = c.args.subtask in
    let has = c.in_ok-find_bundle.ensures.ok g limit keeps.laid in
    let at = place_there g v j has.place in
    let due = holds_some (s.bundle v j) in
    let is = flush_next g limit s v j has in
    let told = c.in_ok-flush_at.ensures.ok g s.pieces s.bundle (record { there = at.0; all = keeps.runs; size = has.size; bundled = has.bundled; ready = keeps.opens.ready [] tt s refl v j at.1 }) in
    let done = handed_out due g limit handed s (record {
      laid = keeps.laid;
      nodes_are = c.flush_at.ensures.nodes ∙ keeps.nodes_are;
      width_is = c.flush_at.ensures.width ∙ keeps.width_is;
      carries = keeps.carries;
      runs = subst (λ (w : ℕ). AllHaveRun b.O.Operator.rule b.O.Operator.broken b.O.Operator.stands_for b.O.PieceOperator.takes_pieces due g w c.flush_at.new.operators.items.items s.pieces s.bundle v j c.flush_at.new.to) (sym c.flush_at.ensures.width) told;
      sources = keeps.sources;
      outside = keeps.outside;
      subtask = at.1;
      opens = λ next done. open_after g limit s (happens (Flush v j)) next (is ∙ done) tt keeps.opens;
    }) in
    (done.0, is ∙ done.1, done.2))

pub returns-clause-err : goal.returns-clause-err
returns-clause-err b c = if_err _ _ c.hand_out.result c.hand_out.ensures.err (λ fault stops g limit handed s keeps.
    let v = c.args.node in
    let j = c.args.subtask in
    let has = c.in_ok-find_bundle.ensures.ok g limit keeps.laid in
    let at = place_there g v j has.place in
    let due = holds_some (s.bundle v j) in
    let is = flush_next g limit s v j has in
    let told = c.in_ok-flush_at.ensures.ok g s.pieces s.bundle (record { there = at.0; all = keeps.runs; size = has.size; bundled = has.bundled; ready = keeps.opens.ready [] tt s refl v j at.1 }) in
    stops_same (flush g limit s v j) (next_if due g limit v j s) fault is (stops due g limit handed s (record {
      laid = keeps.laid;
      nodes_are = c.flush_at.ensures.nodes ∙ keeps.nodes_are;
      width_is = c.flush_at.ensures.width ∙ keeps.width_is;
      carries = keeps.carries;
      runs = subst (λ (w : ℕ). AllHaveRun b.O.Operator.rule b.O.Operator.broken b.O.Operator.stands_for b.O.PieceOperator.takes_pieces due g w c.flush_at.new.operators.items.items s.pieces s.bundle v j c.flush_at.new.to) (sym c.flush_at.ensures.width) told;
      sources = keeps.sources;
      outside = keeps.outside;
      subtask = at.1;
      opens = λ next done. open_after g limit s (happens (Flush v j)) next (is ∙ done) tt keeps.opens;
    })))
