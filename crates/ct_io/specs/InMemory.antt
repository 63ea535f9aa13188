-- What shelves and sinks in memory are, and what a call makes of them.
use Rattle.std.specs.Prelude.{ℕ, ◌+◌, Bool, false, ◌||◌, not, cond, nat_le, List, ◌++◌, length, Option, Some, None}
use Rattle.std.specs.Coded.{Coded, code_by, coded×, coded_ℕ, coded_list}
use Rattle.std.proofs.Common.{refl}
use Rattle.ct_io.specs.Counts.{next, is_listed}
use Rattle.ct_io.specs.Holdings.{FileMap, Holdings, coded_files}

-- a shelf of files: its listed calls fail, and it counts its calls and its faults
pub record ShelfState : Type 0 where
  pub files : FileMap
  pub fails : List ℕ
  pub calls : ℕ
  pub faults : ℕ

abbrev pub coded_shelf : Coded ShelfState
coded_shelf =
    code_by (FileMap × (List ℕ × (ℕ × ℕ))) (coded× coded_files (coded× (coded_list coded_ℕ) (coded× coded_ℕ coded_ℕ)))
    (λ s. (s.files, (s.fails, (s.calls, s.faults)))) (λ p. record { files = p.0; fails = p.1.0; calls = p.1.1.0; faults = p.1.1.1 }) (λ _. refl)

-- it holds its files and no other name
abbrev pub holdings_of : ShelfState → Holdings
holdings_of s = record { files = s.files; others = false }

-- whether its next call is listed
abbrev pub fails_next : ShelfState → Bool
fails_next s = is_listed s.fails (next s.calls)

-- a load counts as a call, and exactly a listed one as a fault
abbrev pub after_load : ShelfState → ShelfState
after_load s = record s { calls = next s.calls; faults = cond (fails_next s) (next s.faults) s.faults }

-- how many bytes a sink in memory takes in all: 1 MiB
abbrev pub room : ℕ
room = 1048576

-- a sink that keeps what was written: its listed calls fail, and it counts its calls and its faults
pub record SinkState : Type 0 where
  pub bytes : List ℕ
  pub fails : List ℕ
  pub calls : ℕ
  pub faults : ℕ

-- a piece is refused at a listed call, and where it would pass the room
abbrev pub refuses : SinkState → List ℕ → Bool
refuses s piece = is_listed s.fails (next s.calls) || not (nat_le (length s.bytes + length piece) room)

abbrev pub after_refusal : SinkState → SinkState
after_refusal s = record s { calls = next s.calls; faults = next s.faults }

abbrev pub after_piece : SinkState → List ℕ → SinkState
after_piece s piece = record s { bytes = s.bytes ++ piece; calls = next s.calls }

abbrev pub after_put : SinkState → List ℕ → SinkState
after_put s piece = cond (refuses s piece) (after_refusal s) (after_piece s piece)

-- a sink that grows with what is written: its bytes, and how often it had no room
pub record GrowingState : Type 0 where
  pub bytes : List ℕ
  pub faults : ℕ

-- a sink that never fails: the bytes that it holds, and whether these are all that was written
pub record SureState : Type 0 where
  pub bytes : List ℕ
  pub told : Bool

abbrev pub told_bytes : SureState → Option (List ℕ)
told_bytes s = cond s.told (Some s.bytes) None

-- a piece that would pass the room is taken and not held, and from then on nothing is told
abbrev pub after_sure_put : SureState → List ℕ → SureState
after_sure_put s piece = cond (nat_le (length s.bytes + length piece) room) (record s { bytes = s.bytes ++ piece }) (record s { told = false })
