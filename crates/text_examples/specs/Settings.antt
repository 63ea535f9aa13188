-- What scripts set, and settings that are refused.
use Rattle.std.specs.Prelude.{ℕ, true, List, [], ◌∷◌, ◌++◌, codes}
use Rattle.ct_catalog.specs.Setting.{defaults}
use Rattle.ct_catalog.specs.declared.settings.Materialize.TheVariants.{None, Force}
use Rattle.ct_catalog.specs.declared.settings.Settings.{Settings}

-- the key, the value, and the settings
abbrev pub settings : List (List ℕ × List ℕ × Settings)
settings =
    (codes "table.exec.mini-batch.enabled", codes "true", record defaults { batching = true }) ∷
    (codes "table.exec.mini-batch.enabled", codes "TRUE", record defaults { batching = true }) ∷
    (codes "table.exec.mini-batch.enabled", codes "False", defaults) ∷
    (codes "table.exec.mini-batch.size", codes "1", record defaults { batch_size = 1 }) ∷
    (codes "table.exec.mini-batch.size", codes "1000000", record defaults { batch_size = 1000000 }) ∷
    (codes "table.exec.mini-batch.allow-latency", [], defaults) ∷ (codes "table.exec.mini-batch.allow-latency", codes "5 s", defaults) ∷
    (codes "table.optimizer.agg-phase-strategy", codes "auto", defaults) ∷
    (codes "table.optimizer.agg-phase-strategy", codes "One_Phase", defaults) ∷
    (codes "table.optimizer.agg-phase-strategy", codes "TWO_PHASE", record defaults { two_phase = true }) ∷
    (codes "table.optimizer.agg-phase-strategy", codes "two_phase", record defaults { two_phase = true }) ∷
    (codes "table.exec.sink.upsert-materialize", codes "AUTO", defaults) ∷
    (codes "table.exec.sink.upsert-materialize", codes "none", record defaults { materialize = None }) ∷
    (codes "table.exec.sink.upsert-materialize", codes "Force", record defaults { materialize = Force }) ∷
    (codes "table.exec.state.ttl", codes "0", defaults) ∷ (codes "table.exec.state.ttl", codes "0 ms", defaults) ∷
    (codes "table.exec.state.ttl", codes "0s", defaults) ∷ (codes "table.exec.state.ttl", codes "0   Days", defaults) ∷
    (codes "table.exec.state.ttl", codes "0 parsecs", defaults) ∷ (codes "table.exec.resource.default-parallelism", codes "1", defaults) ∷
    (codes "table.exec.resource.default-parallelism", codes "16", record defaults { parallelism = 16 }) ∷
    (codes "execution.runtime-mode", codes "streaming", defaults) ∷ (codes "execution.runtime-mode", codes "STREAMING", defaults) ∷
    (codes "pipeline.name", [], defaults) ∷ (codes "pipeline.name", codes "my job", defaults) ∷
    (codes "execution.checkpointing.interval", [], defaults) ∷ (codes "execution.checkpointing.interval", codes "3 min", defaults) ∷ []

-- the text, and the settings behind it: the last value of a key counts
abbrev pub last_settings : List (List ℕ × Settings)
last_settings =
    ([], defaults) ∷ (codes "SET 'table.exec.mini-batch.enabled' = 'true'; SET 'table.exec.mini-batch.enabled' = 'false';", defaults) ∷
    (codes "SET 'table.exec.mini-batch.size' = '5'; SET 'table.exec.mini-batch.size' = '7'; SET 'pipeline.name' = '';", record defaults { batch_size = 7 }) ∷
    (codes "SET 'table.optimizer.agg-phase-strategy' = 'TWO_PHASE'; SET 'table.optimizer.agg-phase-strategy' = 'AUTO';", defaults) ∷
    (codes "SET 'table.exec.resource.default-parallelism' = '4'; CREATE TABLE t (a INT);SET 'table.exec.sink.upsert-materialize' = 'NONE'; SET 'table.exec.mini-batch.size' = '10';SET 'table.optimizer.agg-phase-strategy' = 'TWO_PHASE'; SET 'table.exec.mini-batch.enabled' = 'true';", record defaults { batching = true; batch_size = 10; two_phase = true; materialize = None; parallelism = 4 }) ∷
    []

-- a key, and a value that it doesn't take
abbrev pub bad_settings : List (List ℕ × List ℕ)
bad_settings =
    ([], []) ∷ (codes "table.exec", codes "1") ∷ (codes "Pipeline.Name", codes "x") ∷ (codes "TABLE.EXEC.STATE.TTL", codes "1 h") ∷
    (codes "pipeline.name ", codes "x") ∷ (codes "table.exec.mini-batch.enabled", []) ∷
    (codes "table.exec.mini-batch.enabled", codes "yes") ∷ (codes "table.exec.mini-batch.enabled", codes "true ") ∷
    (codes "table.exec.mini-batch.size", []) ∷ (codes "table.exec.mini-batch.size", codes "0") ∷
    (codes "table.exec.mini-batch.size", codes "01") ∷ (codes "table.exec.mini-batch.size", codes "+1") ∷
    (codes "table.exec.mini-batch.size", codes "-1") ∷ (codes "table.exec.mini-batch.size", codes "1.0") ∷
    (codes "table.exec.mini-batch.size", codes " 1") ∷ (codes "table.exec.mini-batch.size", codes "1000001") ∷
    (codes "table.exec.mini-batch.size", codes "18446744073709551617") ∷ (codes "table.optimizer.agg-phase-strategy", codes "TWO PHASE") ∷
    (codes "table.optimizer.agg-phase-strategy", []) ∷ (codes "table.exec.sink.upsert-materialize", codes "true") ∷
    (codes "table.exec.resource.default-parallelism", codes "0") ∷ (codes "table.exec.resource.default-parallelism", codes "17") ∷
    (codes "table.exec.resource.default-parallelism", codes "4 ") ∷ (codes "execution.runtime-mode", codes "batch") ∷
    (codes "execution.runtime-mode", []) ∷ []

-- a time for which state is kept is zero
abbrev pub kept_states : List (List ℕ × List ℕ)
kept_states =
    (codes "table.exec.state.ttl", codes "1 h") ∷ (codes "table.exec.state.ttl", []) ∷ (codes "table.exec.state.ttl", codes "ms") ∷
    (codes "table.exec.state.ttl", codes "00") ∷ (codes "table.exec.state.ttl", codes "0.0") ∷ (codes "table.exec.state.ttl", codes "-0") ∷
    (codes "table.exec.state.ttl", codes " 0") ∷ (codes "table.exec.state.ttl", codes "0 ") ∷ (codes "table.exec.state.ttl", codes "0 1") ∷
    (codes "table.exec.state.ttl", codes "0 ms ") ∷ (codes "table.exec.state.ttl", (codes "0" ++ (9 ∷ codes "ms"))) ∷
    (codes "table.exec.state.ttl", codes "0 m s") ∷ []
