-- The files of a job, where its script is accepted.
use Rattle.std.specs.Prelude.{◌≡◌, ℕ, ◌-◌, Bool, List, [], ◌∷◌, length, Option, Some, None, Ok}
use Rattle.ct_catalog.specs.declared.table.TableDef.{TableDef}
use Rattle.command_line.specs.Words.{FileNames, Input, changes, feeds}
use Rattle.ct_io.specs.Holdings.{Holdings, Whole, loaded}
use Rattle.job_text.specs.Orders.{orders_of}
use Rattle.job_text.specs.declared.orders.OrderLine.{OrderLine}
use Rattle.source_lines.specs.Supply.{is_by_table}
use Rattle.source_lines.specs.declared.supply.ChangeFiles.{ChangeFiles}
use Rattle.source_lines.specs.declared.supply.ChangeFiles.TheVariants.{One, Each}
use Rattle.job_judgement.specs.Judgement.{Accepted, judgement}
use Rattle.job_run.specs.Outcome.{script_limit, changes_limit, order_limit, feed_name}

-- the feed of each table is held, within what those before it leave of a limit
abbrev pub AreFeeds : Holdings → List ℕ → ℕ → List TableDef → List (List ℕ) → Type 0
AreFeeds holdings prefix limit [] [] = Unit {0}
AreFeeds holdings prefix limit [] (bytes ∷ files) = ⊥
AreFeeds holdings prefix limit (table ∷ tables) [] = ⊥
AreFeeds holdings prefix limit (table ∷ tables) (bytes ∷ files) = (loaded holdings (feed_name prefix table) limit ≡ Whole bytes) × AreFeeds holdings prefix (limit - length bytes) tables files

-- the change files that are named are held: one, or one of each source
abbrev pub IsInput : Holdings → Input → List TableDef → ChangeFiles → Type 0
IsInput holdings (changes name) sources (One bytes) = loaded holdings name changes_limit ≡ Whole bytes
IsInput holdings (changes name) sources (Each files) = ⊥
IsInput holdings (feeds prefix) sources (One bytes) = ⊥
IsInput holdings (feeds prefix) sources (Each files) = AreFeeds holdings prefix changes_limit sources files

-- the order that is named is held, and each of its lines can be read; where none is named there are no lines
abbrev pub IsOrder : Holdings → Option (List ℕ) → Bool → List OrderLine → Type 0
IsOrder holdings None by_table orders = orders ≡ []
IsOrder holdings (Some name) by_table orders = (bytes : List ℕ) × (loaded holdings name order_limit ≡ Whole bytes) × (orders_of by_table bytes ≡ Ok orders)

-- all files are held, each within its limit, and the script is accepted
pub record AreHeld (names : FileNames) (order : Option (List ℕ)) (holdings : Holdings) (script : Accepted) (sources : List TableDef) (files : ChangeFiles) (orders : List OrderLine) : Type 0 where
  pub script_text : List ℕ
  pub script_held : loaded holdings names.script script_limit ≡ Whole script_text
  pub accepted : judgement script_text ≡ Ok script
  pub input_held : IsInput holdings names.input sources files
  pub order_held : IsOrder holdings order (is_by_table files) orders
