use Rattle.std.proofs.Common.{rules, sym, subst}
use Rattle.std.specs.Str.{IsUtf8}
use Rattle.ct_field.proofs.Ascii.{number_utf8}
use Rattle.ct_field.proofs.write.text_of.Goals as goal

pub unreachable-requires : goal.unreachable-requires
unreachable-requires c = c.from_bytes.ensures.not_utf8 (search rules) (subst IsUtf8 (sym c.requires) (number_utf8 c.args.scale c.args.number c.ranges.number))
