-- Where lines may stand: the class line, interfaces, fields, methods, and bodies among the methods. A method line with
-- the two numbers opens a body, which goes on up to the next `end`.
use Rattle.std.specs.Prelude.{ℕ, List, [], ◌∷◌, fold, Bool, true, false, Option, Some, None, if◌then◌else◌}
use Rattle.et_listing.specs.declared.line.Line.{Line}
use Rattle.et_listing.specs.declared.line.Line.TheVariants as line
use Rattle.et_listing.specs.declared.line.Parsed.{Parsed}
use Rattle.et_asm.specs.declared.order.Stage.{Stage}
use Rattle.et_asm.specs.declared.order.Stage.TheVariants as stage

abbrev pub opens : Line → Bool
opens (line.Method name descriptor flags (Some limits)) = true
opens other = false

abbrev pub is_end_line : Line → Bool
is_end_line line.End = true
is_end_line other = false

-- the lines of a body, of the lines behind the one that opens it
abbrev pub lines_of_body : List Parsed → List Parsed
lines_of_body [] = []
lines_of_body (p ∷ more) = if is_end_line p.line then [] else p ∷ lines_of_body more

-- what stood last, behind a line outside of bodies
abbrev pub stage_behind : Stage → Line → Stage
stage_behind at (line.Class name super flags) = stage.Interfaces
stage_behind at (line.Interface name) = stage.Interfaces
stage_behind at (line.Field name descriptor flags constant) = stage.Fields
stage_behind at (line.Method name descriptor flags None) = stage.Methods
stage_behind at (line.Method name descriptor flags (Some limits)) = stage.Body
stage_behind at other = at

abbrev pub step : Stage → Line → Stage
step stage.Body l = if is_end_line l then stage.Methods else stage.Body
step at l = stage_behind at l

-- what stood last in lines
abbrev pub stage_of : List Parsed → Stage
stage_of lines = fold (λ at p. step at p.line) stage.Start lines

abbrev pub is_inside : Stage → Bool
is_inside stage.Body = true
is_inside other = false

-- a listing may not end before the class line or in a body
abbrev pub is_finished : Stage → Bool
is_finished stage.Start = false
is_finished stage.Body = false
is_finished other = true

abbrev pub may_stand : Stage → Line → Bool
may_stand at line.Blank = true
may_stand stage.Start (line.Class name super flags) = true
may_stand stage.Interfaces (line.Interface name) = true
may_stand stage.Interfaces (line.Field name descriptor flags constant) = true
may_stand stage.Fields (line.Field name descriptor flags constant) = true
may_stand stage.Interfaces (line.Method name descriptor flags limits) = true
may_stand stage.Fields (line.Method name descriptor flags limits) = true
may_stand stage.Methods (line.Method name descriptor flags limits) = true
may_stand stage.Body (line.Label name) = true
may_stand stage.Body (line.Instruction i) = true
may_stand stage.Body (line.Catch from to handler class) = true
may_stand stage.Body line.End = true
may_stand other at = false
