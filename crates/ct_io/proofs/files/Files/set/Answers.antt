use Rattle.std.proofs.Common.{ap, ◌∙◌}
use Rattle.std.specs.FinMap as map
use Rattle.ct_io.proofs.ByName.{put-by_name}
use Rattle.ct_io.proofs.files.Files.set.Goals as goal

pub returns-clause-ok : goal.returns-clause-ok
returns-clause-ok c = put-by_name c.self.inside.by_name c.insert.new.self c.args.name c.args.bytes c.in_ok-insert.ensures.updates.0 ∙ ap (λ m. map.insert m c.args.name c.args.bytes) c.self.view_is
