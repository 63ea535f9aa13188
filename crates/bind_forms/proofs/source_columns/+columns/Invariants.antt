use Rattle.std.proofs.Common.{◌≡◌, drop}
use Rattle.bind_forms.specs.Meant.{meant_by}
use Rattle.bind_forms.proofs.Owns.{joins_from}
use Rattle.bind_forms.proofs.source_columns.+columns.Given as goal

abbrev pub invariant-joins_have-loop-join : goal.invariant-joins_have-loop-join
invariant-joins_have-loop-join l = joins_from l.fn.sources (meant_by l.fn.meant) l.fn.name l.fn.joins ≡ joins_from l.fn.sources (meant_by l.fn.meant) l.fn.name (drop l.join-index l.join-items)
