-- The places of sources, found by name.
use Rattle.std.specs.Prelude.{ℕ, Option, Vec}
use Rattle.std.specs.BTreeMap.{BTreeMap, get_by}
use Rattle.std.specs.Cmp.Lexicographic.{slice_cmp}
use Rattle.std.specs.Ordering.{nat_cmp}
use Rattle.std.specs.declared.alloc.Global.{Global}
use Rattle.job_text.specs.Lines.{Field}

-- the place that is kept of a name
abbrev pub place_of : BTreeMap (Vec ℕ Global) ℕ → Field → Option ℕ
place_of places name = get_by (λ k. slice_cmp nat_cmp name k.items) places
