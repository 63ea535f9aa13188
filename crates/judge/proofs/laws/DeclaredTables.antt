-- The theorems of this crate, put together of its lemmas.
use Rattle.judge.specs.WellDeclared.{HasTypes, HasKeyColumns}
use Rattle.judge.proofs.Created.{has_types_of, has_key_columns_of}
use Rattle.judge.proofs.Walk.{kept_asked}
use Rattle.std.specs.Prelude.{◌≡◌, ℕ, List, Ok}
use Rattle.std.specs.List.{AllByRecursion}
use Rattle.judge.specs.Judgement.{Asked, asked_of}

-- Each column of the tables that a script asks for has a type that exists.
pub tables_are_well_declared_types : (text : List ℕ) (asked : Asked) → asked_of text ≡ Ok asked → AllByRecursion HasTypes asked.catalogue.tables
tables_are_well_declared_types = kept_asked HasTypes (λ tables name elements options is. has_types_of name elements options)

-- The key of each table that a script asks for names columns that are there.
pub tables_are_well_declared_keys : (text : List ℕ) (asked : Asked) → asked_of text ≡ Ok asked → AllByRecursion HasKeyColumns asked.catalogue.tables
tables_are_well_declared_keys = kept_asked HasKeyColumns has_key_columns_of
