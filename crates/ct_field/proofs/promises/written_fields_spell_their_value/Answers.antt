use Rattle.ct_field.proofs.laws.Writing.{written}
use Rattle.ct_field.proofs.promises.written_fields_spell_their_value.Goals as goal

pub returns : goal.returns
returns c ty value t h u = written ty value t h u
