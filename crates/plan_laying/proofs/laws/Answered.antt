-- What is answered, of what was answered below.
use Rattle.std.specs.Prelude.{Result, IfOk, IfErr}
use Rattle.std.proofs.Common.{Ok, Err}

pub if_ok : {T E : Type 0} (r : Result T E) (P Q : T → Type 0) → ((x : T) → P x → Q x) → IfOk r P → IfOk r Q
if_ok (Ok x) P Q more p = more x p
if_ok (Err e) P Q more p = tt

pub if_err : {T E : Type 0} (r : Result T E) (P Q : E → Type 0) → ((e : E) → P e → Q e) → IfErr r P → IfErr r Q
if_err (Ok x) P Q more p = tt
if_err (Err e) P Q more p = more e p

-- what is answered of each is answered of one
pub if_each : {T E I : Type 0} (r : Result T E) (P : I → T → Type 0) (i : I) → IfOk r (λ x. (j : I) → P j x) → IfOk r (P i)
if_each (Ok x) P i p = p i
if_each (Err e) P i p = tt
