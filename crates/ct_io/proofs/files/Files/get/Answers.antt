use Rattle.std.proofs.Common.{sym, ap, ◌∙◌}
use Rattle.std.specs.FinMap as map
use Rattle.ct_io.proofs.ByName.{get-by_name}
use Rattle.ct_io.proofs.files.Files.get.Goals as goal

pub returns : goal.returns
returns c = c.get.ensures.value ∙ sym (get-by_name c.self.inside.by_name c.args.name.now) ∙ ap (λ m. map.get m c.args.name.now) c.self.view_is
