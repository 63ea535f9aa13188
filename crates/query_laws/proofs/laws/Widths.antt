-- Tables whose rows have their columns have the tables' widths.
use Rattle.std.proofs.Common.{◌≡◌, List, [], ◌∷◌, length}
use Rattle.rel_algebra.specs.Answer.{Table, AreTyped}
use Rattle.rel_algebra.specs.Clauses.{Fits}
use Rattle.rel_algebra.proofs.laws.Fits.{fits-length}
use Rattle.query_laws.specs.Statement.{HaveWidths}
use Rattle.query_laws.proofs.Bags.{each_map}

pub typed_are_wide : (tables : List Table) → AreTyped tables → HaveWidths tables
typed_are_wide [] typed = tt
typed_are_wide (table ∷ tables) typed = (each_map (Fits table.columns) (λ row. length row ≡ length table.columns) (λ row fits. fits-length table.columns row fits) table.rows typed.0, typed_are_wide tables typed.1)
