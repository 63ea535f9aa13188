use Rattle.std.proofs.Common.{ℕ, ◌<◌, List, length, get_or, IsUtf8, arith}
use Rattle.std.proofs.lemmas.Str.{IsUtf8-from_ascii}
use Rattle.std.proofs.lemmas.Str.Ascii.{IsAscii-from_reads}
use Rattle.ct_value.proofs.text.Text.from_bytes.Goals as goal

-- ASCII is UTF-8
utf8 : (bytes : List ℕ) → ((k : ℕ) → k < length bytes → get_or bytes k 0 < 128) → IsUtf8 bytes
utf8 bytes are = IsUtf8-from_ascii bytes (IsAscii-from_reads bytes (length bytes) (omega arith) are)

pub near-requires-clause-utf8 : goal.near-requires-clause-utf8
near-requires-clause-utf8 c = utf8 c.args.bytes.now (c.is_ascii.ensures.0 c.if-is_ascii.true)

pub returns-then-is_ascii-clause-utf8 : goal.returns-then-is_ascii-clause-utf8
returns-then-is_ascii-clause-utf8 c = utf8 c.args.bytes.now (c.is_ascii.ensures.0 c.if-is_ascii.true)
