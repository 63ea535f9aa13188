-- What a session tells, and why an order's line can't begin.
use Rattle.std.specs.Prelude.{◌≡◌, ℕ, cond, length, Bool, Option}
use Rattle.std.proofs.Common.{true, false, refl, Some, None}
use Rattle.ct_value.specs.declared.codes.OrderCode.TheVariants.{NoSuchPlace}
use Rattle.stream_model.specs.Network.{Network}
use Rattle.stream_model.specs.Machine.{State, is_place}
use Rattle.stream_model.specs.Looks.{flush_refusal, no_bundle}
use Rattle.session_core.specs.declared.session.Buffer.TheVariants.{NoPlace}
use Rattle.session_core.specs.Stands.{buffer_at, buffer_in}
use Rattle.job_stream.specs.Stops.{buffer_refusal}

in_place : (o : Option ℕ) (held : ℕ) (b : Bool) → buffer_refusal (cond b (buffer_in o held) NoPlace) ≡ cond b (no_bundle o) (Some NoSuchPlace)
in_place o held false = refl
in_place None held true = refl
in_place (Some size) held true = refl

-- by a bundle, whether it can be flushed
pub flush_refused : (g : Network) (s : State) (v j : ℕ) → buffer_refusal (buffer_at g s v j) ≡ flush_refusal g v j
flush_refused g s v j = in_place (g.bundle v) (length (s.bundle v j)) (is_place g v j)
