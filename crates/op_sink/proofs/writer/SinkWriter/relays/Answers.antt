use Rattle.std.proofs.Common.{refl, sym, ap}
use Rattle.emission_rules.specs.Changes.{after_key}
use Rattle.emission_rules.specs.Sink as r
use Rattle.op_sink.specs.Relays.{relays}
use Rattle.op_sink.proofs.writer.SinkWriter.relays.Goals as goal

pub returns-in-Append-clause-declared : goal.returns-in-Append-clause-declared
returns-in-Append-clause-declared c = (record { declared = c.args.self.now.declared; key = c.args.self.now.key; after = after_key c.args.self.now.update }, refl, sym (ap relays c.in-Append.is))

pub returns-in-Retract-clause-declared : goal.returns-in-Retract-clause-declared
returns-in-Retract-clause-declared c = (record { declared = c.args.self.now.declared; key = c.args.self.now.key; after = after_key c.args.self.now.update }, refl, sym (ap relays c.in-Retract.is))

pub returns-in-Upsert-clause-declared : goal.returns-in-Upsert-clause-declared
returns-in-Upsert-clause-declared c = (record { declared = c.args.self.now.declared; key = c.args.self.now.key; after = after_key c.args.self.now.update }, refl, sym (ap relays c.in-Upsert.is))
