-- The theorems of this crate, put together of its lemmas.
use Rattle.std.proofs.Common.{refl}
use Rattle.std.specs.Prelude.{◌≡◌, map}
use Rattle.run_examples.specs.InferenceExamples.{examples}
use Rattle.run_examples.specs.Plans.{kinds_of, keys_of, updates_of}
use Rattle.run_examples.specs.Asked.{asked, way_asked}

-- The kinds that each plan's edges carry are those that stand beside it.
pub examples_have_their_kinds : map kinds_of examples ≡ map (λ e. e.kinds) examples
examples_have_their_kinds = refl

-- The keys of each plan's nodes are those that stand beside it.
pub examples_have_their_keys : map keys_of examples ≡ map (λ e. e.keys) examples
examples_have_their_keys = refl

-- Each plan's edges tell updates as it stands beside it.
pub examples_have_their_updates : map updates_of examples ≡ map (λ e. e.updates) examples
examples_have_their_updates = refl

-- An upsert sink takes what nodes of some of the plans send in the way that stands beside it.
pub sinks_take_examples_so : map way_asked asked ≡ map (λ a. a.way) asked
sinks_take_examples_so = refl
