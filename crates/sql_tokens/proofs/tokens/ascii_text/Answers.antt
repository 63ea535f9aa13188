use Rattle.std.proofs.Common.{Err, ap}
use Rattle.std.proofs.lemmas.Str.{IsUtf8-from_ascii}
use Rattle.sql_tokens.proofs.tokens.ascii_text.Goals as goal

pub unreachable-requires : goal.unreachable-requires
unreachable-requires c = c.in-Err-NotUtf8.ensures.not_utf8 (ap Err c.in-Err-NotUtf8.field-0-is) (IsUtf8-from_ascii c.args.bytes.now c.requires)
