use Rattle.std.proofs.Common.{Err, ap}
use Rattle.sql_tokens.proofs.Ascii.{text_if_utf8, none_if_not_utf8}
use Rattle.sql_tokens.proofs.tokens.utf8_text.Goals as goal

pub returns-in-Ok : goal.returns-in-Ok
returns-in-Ok c = text_if_utf8 c.args.bytes.now c.as_slice.result.now c.in-Ok.text c.as_slice.ensures c.in-Ok.ensures.text c.in-Ok.ensures.utf8

pub returns-in-Err-NotUtf8 : goal.returns-in-Err-NotUtf8
returns-in-Err-NotUtf8 c = none_if_not_utf8 c.args.bytes.now c.as_slice.result.now c.as_slice.ensures (c.in-Err-NotUtf8.ensures.not_utf8 (ap Err c.in-Err-NotUtf8.field-0-is))
