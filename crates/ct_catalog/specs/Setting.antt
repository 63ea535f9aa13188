-- What SET sets.
use Rattle.std.specs.Prelude.{ℕ, Bool, true, false, ◌&&◌, ◌==◌, List, [], ◌∷◌, Option, Some, None, option_map, if◌then◌else◌, codes, Result, Ok, Err}
use Rattle.std.specs.Char.{is_ascii_alphabetic}
use Rattle.std.specs.List.{list_all}
use Rattle.std.specs.Str.{byte, bytes_eq, str_eq_ignore_ascii_case}
use Rattle.ct_value.specs.declared.codes.ScriptCode.{ScriptCode}
use Rattle.ct_value.specs.declared.codes.ScriptCode.TheVariants.{StateTtl, BadSetting}
use Rattle.ct_catalog.specs.Numbers.{count_up_to}
use Rattle.ct_catalog.specs.declared.settings.Materialize.{Materialize}
use Rattle.ct_catalog.specs.declared.settings.Materialize.TheVariants as m
use Rattle.ct_catalog.specs.declared.settings.Key.{Key}
use Rattle.ct_catalog.specs.declared.settings.Key.TheVariants.{Batching, BatchSize, Phases, Sinks, StateTime, Parallelism, RuntimeMode, Free}
use Rattle.ct_catalog.specs.declared.settings.Settings.{Settings}

abbrev pub defaults : Settings
defaults = record { batching = false; batch_size = 1000; two_phase = false; materialize = m.Auto; parallelism = 1 }

-- a key is read exactly as it is written; a free one takes any value, which has no effect
abbrev pub keys : List (List ℕ × Key)
keys =
    (codes "table.exec.mini-batch.enabled", Batching) ∷
    (codes "table.exec.mini-batch.size", BatchSize) ∷
    (codes "table.exec.mini-batch.allow-latency", Free) ∷
    (codes "table.optimizer.agg-phase-strategy", Phases) ∷
    (codes "table.exec.sink.upsert-materialize", Sinks) ∷
    (codes "table.exec.state.ttl", StateTime) ∷
    (codes "table.exec.resource.default-parallelism", Parallelism) ∷
    (codes "execution.runtime-mode", RuntimeMode) ∷
    (codes "pipeline.name", Free) ∷
    (codes "execution.checkpointing.interval", Free) ∷ []

abbrev pub key_in : List (List ℕ × Key) → List ℕ → Option Key
key_in [] key = None
key_in (e ∷ es) key = if bytes_eq e.0 key then Some e.1 else key_in es key

unfoldable pub key_of : List ℕ → Option Key
key_of = key_in keys

-- words are read in any case of letters
abbrev pub truth_of : List ℕ → Option Bool
truth_of word =
    if str_eq_ignore_ascii_case word (codes "true") then Some true
    else (if str_eq_ignore_ascii_case word (codes "false") then Some false
    else None)

-- whether there are two phases
abbrev pub phases_of : List ℕ → Option Bool
phases_of word =
    if str_eq_ignore_ascii_case word (codes "AUTO") then Some false
    else (if str_eq_ignore_ascii_case word (codes "ONE_PHASE") then Some false
    else (if str_eq_ignore_ascii_case word (codes "TWO_PHASE") then Some true
    else None))

abbrev pub materialize_of : List ℕ → Option Materialize
materialize_of word =
    if str_eq_ignore_ascii_case word (codes "NONE") then Some m.None
    else (if str_eq_ignore_ascii_case word (codes "AUTO") then Some m.Auto
    else (if str_eq_ignore_ascii_case word (codes "FORCE") then Some m.Force
    else None))

abbrev pub after_spaces : List ℕ → List ℕ
after_spaces [] = []
after_spaces (b ∷ text) = if b == byte " " then after_spaces text else b ∷ text

-- one or more letters
abbrev pub is_unit : List ℕ → Bool
is_unit [] = false
is_unit (b ∷ text) = list_all is_ascii_alphabetic (b ∷ text)

-- nothing, or any number of spaces and a unit
abbrev pub may_follow_zero : List ℕ → Bool
may_follow_zero [] = true
may_follow_zero (b ∷ text) = is_unit (after_spaces (b ∷ text))

-- `0`, also followed by a unit of letters, with any number of spaces or none between them
abbrev pub is_zero_time : List ℕ → Bool
is_zero_time [] = false
is_zero_time (b ∷ text) = b == byte "0" && may_follow_zero text

-- the settings with this value, where it is one of the key's values
abbrev pub with_value : Key → List ℕ → Settings → Option Settings
with_value Batching value s = option_map (λ x. record s { batching = x }) (truth_of value)
with_value BatchSize value s = option_map (λ x. record s { batch_size = x }) (count_up_to 1000000 value)
with_value Phases value s = option_map (λ x. record s { two_phase = x }) (phases_of value)
with_value Sinks value s = option_map (λ x. record s { materialize = x }) (materialize_of value)
with_value StateTime value s = if is_zero_time value then Some s else None
with_value Parallelism value s = option_map (λ x. record s { parallelism = x }) (count_up_to 16 value)
with_value RuntimeMode value s = if str_eq_ignore_ascii_case value (codes "streaming") then Some s else None
with_value Free value s = Some s

-- what a value that is none of the key's is refused as
abbrev pub fault_of : Key → ScriptCode
fault_of StateTime = StateTtl
fault_of key = BadSetting

abbrev pub or_fault : Key → Option Settings → Result Settings ScriptCode
or_fault key None = Err (fault_of key)
or_fault key (Some s) = Ok s

abbrev pub set_key : Option Key → List ℕ → Settings → Result Settings ScriptCode
set_key None value s = Err BadSetting
set_key (Some key) value s = or_fault key (with_value key value s)

-- the settings after SET, or why it is refused
abbrev pub set_of : List ℕ → List ℕ → Settings → Result Settings ScriptCode
set_of key value s = set_key (key_of key) value s
