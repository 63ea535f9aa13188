use Rattle.sql_tokens.proofs.Ascii.{word_is_ascii}
use Rattle.sql_tokens.proofs.tokens.word.Goals as goal

pub word_token-requires : goal.word_token-requires
word_token-requires c = word_is_ascii c.args.text.now _ _ c.split_at.ensures.front c.run_len.ensures.value
