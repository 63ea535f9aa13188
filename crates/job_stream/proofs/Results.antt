-- What holds of the one outcome of a call, and of the other.
use Rattle.std.specs.Prelude.{Option, Result, IfOk, IfErr, IfSome}
use Rattle.std.proofs.Common.{Ok, Err, Some, None}

pub ok_weaker : {T E : Type 0} {P Q : T → Type 0} (r : Result T E) → IfOk r P → ((x : T) → P x → Q x) → IfOk r Q
ok_weaker (Ok x) h f = f x h
ok_weaker (Err y) h f = tt

pub err_weaker : {T E : Type 0} {P Q : E → Type 0} (r : Result T E) → IfErr r P → ((y : E) → P y → Q y) → IfErr r Q
err_weaker (Ok x) h f = tt
err_weaker (Err y) h f = f y h

pub some_weaker : {T : Type 0} {P Q : T → Type 0} (o : Option T) → IfSome o P → ((x : T) → P x → Q x) → IfSome o Q
some_weaker (Some x) h f = f x h
some_weaker None h f = tt
