-- A call, its operands being bound.
use Rattle.std.proofs.Common.{◌≡◌, Bool, Option, Some, None, Ok, refl, ap, ◌∙◌}
use Rattle.std.specs.Prelude.{is_some, option_map}
use Rattle.ct_value.specs.declared.codes.ScriptCode.TheVariants.{TypeMismatch}
use Rattle.ct_value.specs.declared.ty.ColTy.{ColTy}
use Rattle.query_answer.specs.Calls.{Call}
use Rattle.query_answer.specs.Names.{Scope}
use Rattle.binding.specs.Checked.{◌>>=◌, or_code}
use Rattle.binding.specs.Nodes as n
use Rattle.binding.specs.InGroups.{column_of, operands_bound, optional_over}
use Rattle.bind_nodes.specs.declared.bound.Bound.{Bound}
use Rattle.bind_nodes.specs.Views.{bound_view}

pub some_viewed : (o : Option Bound) → is_some (option_map bound_view o) ≡ is_some o
some_viewed None = refl
some_viewed (Some x) = refl

pub found : (scope : Scope) (global : Bool) (c : Call) (arg filter : Option n.Bound) (ty : ColTy) → optional_over scope c.arg ≡ Ok arg → optional_over scope c.filter ≡ Ok filter → column_of global c.call arg filter ≡ Some ty
    → operands_bound scope global c ≡ Ok (record { arg = arg; filter = filter; column = ty })
found scope global c arg filter ty h k m =
    (λ i. h i >>= λ a. k i >>= λ f. or_code TypeMismatch (column_of global c.call a f) >>= λ t. Ok (record { arg = a; filter = f; column = t }))
    ∙ ap (λ o. or_code TypeMismatch o >>= λ t. Ok (record { arg = arg; filter = filter; column = t })) m
