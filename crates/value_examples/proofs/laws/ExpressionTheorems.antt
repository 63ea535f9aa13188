-- The examples, computed.
use Rattle.std.proofs.Common.{◌≡◌, map, Some, None, refl, []}
use Rattle.std.specs.Str.{is_utf8, chars}
use Rattle.std.specs.Fmt.{digits}
use lib.Utf8.{encode}
use Rattle.ct_field.specs.Fields.{field_value, field_text}
use Rattle.ct_field.specs.Numbers.{rescale}
use Rattle.ct_expr.specs.Eval.{eval}
use Rattle.ct_expr.specs.Types.{type_of, col}
use Rattle.value_examples.specs.Expressions.{spellings, misspellings, rescalings, pairs, casts, logic, lazy, others, untyped}

pub spellings_are_read : map (λ e. field_value e.ty e.field) spellings ≡ map (λ e. Some e.value) spellings
unfolding is_utf8 chars encode
spellings_are_read = refl

pub spellings_are_written : map (λ e. field_text e.ty e.value) spellings ≡ map (λ e. e.written) spellings
unfolding digits
spellings_are_written = refl

pub misspellings_are_refused : map (λ e. field_value e.ty e.field) misspellings ≡ map (λ e. None) misspellings
unfolding is_utf8 chars encode
misspellings_are_refused = refl

pub numbers_are_rescaled : map (λ e. rescale e.num e.from e.to) rescalings ≡ map (λ e. e.there) rescalings
numbers_are_rescaled = refl

pub values_of_pairs : map (λ e. eval e.expr []) pairs ≡ map (λ e. e.value) pairs
unfolding chars digits
values_of_pairs = refl

pub types_of_pairs : map (λ e. type_of e.expr []) pairs ≡ map (λ e. Some (col e.ty e.nullable)) pairs
types_of_pairs = refl

pub values_of_casts : map (λ e. eval e.expr []) casts ≡ map (λ e. e.value) casts
unfolding chars digits
values_of_casts = refl

pub types_of_casts : map (λ e. type_of e.expr []) casts ≡ map (λ e. Some (col e.ty e.nullable)) casts
types_of_casts = refl

pub values_of_logic : map (λ e. eval e.expr []) logic ≡ map (λ e. e.value) logic
unfolding chars digits
values_of_logic = refl

pub types_of_logic : map (λ e. type_of e.expr []) logic ≡ map (λ e. Some (col e.ty e.nullable)) logic
types_of_logic = refl

pub values_of_lazy : map (λ e. eval e.expr []) lazy ≡ map (λ e. e.value) lazy
unfolding chars digits
values_of_lazy = refl

pub types_of_lazy : map (λ e. type_of e.expr []) lazy ≡ map (λ e. Some (col e.ty e.nullable)) lazy
types_of_lazy = refl

pub values_of_others : map (λ e. eval e.expr []) others ≡ map (λ e. e.value) others
unfolding chars digits
values_of_others = refl

pub types_of_others : map (λ e. type_of e.expr []) others ≡ map (λ e. Some (col e.ty e.nullable)) others
types_of_others = refl

pub untyped_has_no_type : map (λ e. type_of e []) untyped ≡ map (λ e. None) untyped
untyped_has_no_type = refl
