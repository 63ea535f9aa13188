use Rattle.ct_field.proofs.laws.Reading.{field_read, field_is_read}
use Rattle.ct_field.proofs.promises.fields_are_read_as_they_are_spelled.Goals as goal

pub returns : goal.returns
returns c ty value bytes = (field_read ty value bytes, field_is_read ty value bytes)
