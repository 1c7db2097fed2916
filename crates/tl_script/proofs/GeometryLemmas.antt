-- The geometry that the numbers of a script make.
use Rattle.std.proofs.Common.{◌≡◌, Option, Some, None, Result, Ok, Err, ap, sym, ◌∙◌}
use Rattle.tl_map.specs.declared.numbers.GeometryError.{GeometryError}
use Rattle.tl_map.specs.declared.numbers.GeometryNumbers.{GeometryNumbers}
use Rattle.tl_map.specs.Numbers.{Numbers}
use Rattle.tl_map.specs.Refusals.{refusal_of, numbers_of}
use Rattle.tl_script.specs.declared.error.ScriptError.{ScriptError}
use Rattle.tl_script.specs.declared.error.ScriptError.TheVariants as error
use Rattle.tl_script.specs.Numbers.{unsigned_of, unless_refused, geometry_of}

-- numbers that nothing refuses make a geometry
pub made : (n : GeometryNumbers) (g : Numbers) → refusal_of n ≡ None → numbers_of g ≡ n → geometry_of n ≡ Ok g
unfolding geometry_of
made n g none same =
    let whole : unsigned_of n ≡ g = ap (λ (m : GeometryNumbers). unsigned_of m) (sym same) in
    ap (λ (o : Option GeometryError). unless_refused o (unsigned_of n)) none ∙ ap (λ (m : Numbers). let r : Result Numbers ScriptError = Ok m in r) whole

-- numbers that are refused make none
pub refused : (n : GeometryNumbers) (cause : GeometryError) → refusal_of n ≡ Some cause → geometry_of n ≡ Err (error.Geometry cause)
unfolding geometry_of
refused n cause some = ap (λ (o : Option GeometryError). unless_refused o (unsigned_of n)) some
