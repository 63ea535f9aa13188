-- Characters of texts.
use Rattle.std.proofs.lemmas.Str.{chars_from_encodes}

pub ruleset counted = chars_from_encodes
