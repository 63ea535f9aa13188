-- Natural numbers below 2^256, in two halves.
use Rattle.std.specs.Prelude.{ℕ, ◌+◌, ◌*◌, ◌^◌}
use Rattle.agg_results.specs.declared.wide.Wide.{Wide}

abbrev pub wide_number : Wide → ℕ
wide_number wide = wide.high * 2 ^ 128 + wide.low
