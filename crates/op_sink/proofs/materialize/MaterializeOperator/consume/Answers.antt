use Rattle.op_sink.proofs.Turns.{has_columns}
use Rattle.op_sink.proofs.materialize.MaterializeOperator.consume.Goals as goal

pub take-requires : goal.take-requires
take-requires g c = has_columns c.args.self.now.key c.args.change.row c.requires.may.3.fits
