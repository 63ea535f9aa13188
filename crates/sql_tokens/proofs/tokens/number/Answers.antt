use Rattle.sql_tokens.proofs.Ascii.{number_is_ascii}
use Rattle.sql_tokens.proofs.tokens.number.Goals as goal

pub ascii_text-requires : goal.ascii_text-requires
ascii_text-requires c = number_is_ascii c.args.text.now _ _ c.split_at.ensures.front c.number_len.ensures.value
