-- What a call that reads answers, in one clause.
use Rattle.std.specs.Prelude.{◌≡◌, List, Option, Some, None, Result, Ok, Err}
use Rattle.std.specs.Borrow.{Bor}
use Rattle.sql_tokens.specs.declared.token.Token.{Token}
use Rattle.sql_reading.specs.declared.words.Stop.{Stop}
use Rattle.sql_reading.specs.declared.words.Stop.TheVariants as stops

-- a refusal is that the rule's reading reads nothing; where memory ran out, nothing is said
abbrev pub Stops : {B : Type 0} → Stop → Option B → Type 0
Stops stops.Refused reading = reading ≡ None
Stops stops.Memory reading = Unit {0}

-- what was read, as definitions see it, and what is left are what the rule's reading reads
abbrev pub Gives : {A B : Type 0} → (A → B) → Result (A × Bor (List Token)) Stop → Option (B × List Token) → Type 0
Gives view (Ok x) reading = reading ≡ Some (view x.0, x.1.now)
Gives view (Err e) reading = Stops e reading

-- the same of what definitions see as it is
abbrev pub Answers : {A : Type 0} → Result (A × Bor (List Token)) Stop → Option (A × List Token) → Type 0
Answers (Ok x) reading = reading ≡ Some (x.0, x.1.now)
Answers (Err e) reading = Stops e reading

-- the same of a word that says only that it is there
abbrev pub Passes : Result (Bor (List Token)) Stop → Option (Unit {0} × List Token) → Type 0
Passes (Ok rest) reading = reading ≡ Some (tt, rest.now)
Passes (Err e) reading = Stops e reading

-- the same of a call that answers several things, which are seen together as one
abbrev pub Parts : {X B : Type 0} → (X → B × List Token) → Result X Stop → Option (B × List Token) → Type 0
Parts view (Ok x) reading = reading ≡ Some (view x)
Parts view (Err e) reading = Stops e reading
