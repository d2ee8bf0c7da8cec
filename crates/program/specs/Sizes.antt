-- How many statements, expressions, parameters and globals a program has.
use Rattle.std.specs.Prelude.{ℕ, suc, ◌+◌, length, map, Option, None, Some, sum_by}
use Rattle.program.specs.declared.body.Body.{Body}
use Rattle.program.specs.declared.body.Body.TheVariants as body
use Rattle.program.specs.declared.numbered.Class.{Class}
use Rattle.program.specs.declared.numbered.Constructor.{Constructor}
use Rattle.program.specs.declared.numbered.Method.{Method}
use Rattle.program.specs.declared.numbered.MethodBody.{MethodBody}
use Rattle.program.specs.declared.numbered.MethodBody.TheVariants as does
use Rattle.program.specs.declared.numbered.Function.{Function}
use Rattle.program.specs.Bodies as c
use Rattle.program.specs.Bodies.{Exp, Exps, Pieces, Calls, Links, Target, Update, First, Sta, Stas}
use Rattle.program.specs.Parts.{Parts}

abbrev mutual
  -- a postfix is as many expressions as it has calls
  pub exp_size : Exp → ℕ
  exp_size (c.constant k) = 1
  exp_size c.this = 1
  exp_size (c.local k) = 1
  exp_size (c.global k) = 1
  exp_size (c.interpolation units more) = suc (pieces_size more)
  exp_size (c.call_function f args) = suc (exps_size args)
  exp_size (c.print e) = suc (exp_size e)
  exp_size (c.new k args) = suc (exps_size args)
  exp_size (c.super m args) = suc (exps_size args)
  exp_size (c.list_of items) = suc (exps_size items)
  exp_size (c.postfix e more) = exp_size e + calls_size more
  exp_size (c.chain e more) = suc (exp_size e + links_size more)
  exp_size (c.not e) = suc (exp_size e)
  exp_size (c.is e denied k) = suc (exp_size e)
  exp_size (c.conditional x y z) = suc (exp_size x + exp_size y + exp_size z)
  exp_size (c.assign to e) = suc (target_size to + exp_size e)
  exp_size (c.compound_assign to op e) = suc (update_size to + exp_size e)
  exp_size (c.increment before op to) = suc (update_size to)
  exp_size (c.throw e) = suc (exp_size e)

  pub exps_size : Exps → ℕ
  exps_size c.no_more = 0
  exps_size (c.also e more) = exp_size e + exps_size more

  pub pieces_size : Pieces → ℕ
  pieces_size c.no_piece = 0
  pieces_size (c.piece s e after more) = exp_size e + pieces_size more

  pub calls_size : Calls → ℕ
  calls_size c.no_call = 0
  calls_size (c.call s args more) = suc (exps_size args + calls_size more)

  pub links_size : Links → ℕ
  links_size c.no_link = 0
  links_size (c.link op e more) = exp_size e + links_size more

  pub target_size : Target → ℕ
  target_size (c.to_local k) = 0
  target_size (c.to_global k) = 0
  target_size (c.to_super m) = 0
  target_size (c.to_member e s) = exp_size e
  target_size (c.to_element e i s) = exp_size e + exp_size i

  pub update_size : Update → ℕ
  update_size (c.of_local k) = 0
  update_size (c.of_global k) = 0
  update_size (c.of_super g m) = 0
  update_size (c.of_member e g s) = exp_size e
  update_size (c.of_element e i g s) = exp_size e + exp_size i

abbrev pub first_size : First → ℕ
first_size c.no_first = 0
first_size (c.first_declares e) = exp_size e
first_size (c.first_runs e) = exp_size e

abbrev mutual
  pub sta_size : Sta → ℕ
  sta_size (c.block all) = suc (stas_size all)
  sta_size (c.declare e) = suc (exp_size e)
  sta_size (c.run e) = suc (exp_size e)
  sta_size c.empty = 1
  sta_size (c.when e x) = suc (exp_size e + sta_size x)
  sta_size (c.when_else e x y) = suc (exp_size e + sta_size x + sta_size y)
  sta_size (c.while e x) = suc (exp_size e + sta_size x)
  sta_size (c.for start e last x) = suc (first_size start + exp_size e + exps_size last + sta_size x)
  sta_size (c.do_while x e) = suc (sta_size x + exp_size e)
  sta_size c.break = 1
  sta_size c.continue = 1
  sta_size (c.return e) = suc (exp_size e)

  pub stas_size : Stas → ℕ
  stas_size c.end_of = 0
  stas_size (c.next x more) = sta_size x + stas_size more

abbrev pub body_size : Body → ℕ
body_size (body.Arrow e) = exp_size (c.exp e)
body_size (body.Block all) = stas_size (c.stas (map c.sta all))

-- a built-in member and a field have no code
abbrev pub code_size : MethodBody → ℕ
code_size (does.Code b) = body_size b
code_size _ = 0

-- a member's parameters and its code
abbrev pub method_size : Method → ℕ
method_size m = m.required + length m.defaults + code_size m.body

abbrev pub function_size : Function → ℕ
function_size f = f.required + length f.defaults + body_size f.body

-- a written constructor's parameters, what it passes on, and its body
abbrev pub constructor_size : Option Constructor → ℕ
constructor_size None = 0
constructor_size (Some b) = b.required + length b.defaults + exps_size (c.exps (map c.exp b.passes)) + stas_size (c.stas (map c.sta b.body))

-- all statements, expressions, parameters and globals
unfoldable pub size : Parts → ℕ
size p =
    sum_by method_size p.methods + sum_by function_size p.functions + sum_by (λ (k : Class). constructor_size k.constructor) p.classes + length p.globals
