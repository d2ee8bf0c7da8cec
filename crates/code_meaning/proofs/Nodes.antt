-- A part of a program has at most sixteen times as many instructions as it has nodes.
use Rattle.std.proofs.Common.{ℕ, ◌+◌, ◌*◌, ◌≤◌, List, [], ◌∷◌, length, arith}
use Rattle.std.specs.Prelude.{Bool, true, false, nat_eq, Option, Some, None}
use Rattle.program.specs.declared.body.Joint.{Joint}
use Rattle.program.specs.declared.body.Joint.TheVariants as joint
use Rattle.program.specs.declared.body.BinaryOperator.{BinaryOperator}
use Rattle.program.specs.declared.body.BinaryOperator.TheVariants as b
use Rattle.program.specs.Bodies as c
use Rattle.program.specs.Bodies.{Exp, Exps, Pieces, Calls, Links, Target, Update, First, Sta, Stas, count}
use Rattle.program.specs.Sizes as nodes
use Rattle.dart_meaning.specs.Run.{choose}
use Rattle.program_code.specs.Sizes.{size, sizes, pieces_size, calls_size, links_size, joint_size, operator_size, make_size, is_size, place_size, update_size, read_size, keep_size, set_size, written, first_size, drops_size, sta_size, stas_size, sets_size, above_size}

operator_small : (op : BinaryOperator) → operator_size op ≤ 3
operator_small b.Equal = omega arith
operator_small b.NotEqual = omega arith
operator_small _ = omega arith

joint_small : (op : Joint) → joint_size op ≤ 5
joint_small joint.And = omega arith
joint_small joint.Or = omega arith
joint_small (joint.Operator k) = omega (arith, operator_small k.operator)

make_small : (class n : ℕ) → make_size class n ≤ n + n + 2
make_small class n = by (nat_eq class 0)
  where
    by : (o : Bool) → choose o 1 (n + n + 2) ≤ n + n + 2
    by true = omega arith
    by false = omega arith

is_small : (denied : Bool) → is_size denied ≤ 2
is_small true = omega arith
is_small false = omega arith

read_small : (to : Update) → read_size to ≤ 2
read_small (c.of_local k) = omega arith
read_small (c.of_global k) = omega arith
read_small (c.of_super g m) = omega arith
read_small (c.of_member e g s) = omega arith
read_small (c.of_element e i g s) = omega arith

write_small : (to : Target) → keep_size to + set_size to ≤ 5
write_small (c.to_local k) = omega arith
write_small (c.to_global k) = omega arith
write_small (c.to_super m) = omega arith
write_small (c.to_member e s) = omega arith
write_small (c.to_element e i s) = omega arith

-- An expression leaves room for what its neighbours need beside it.
mutual
  pub exp_small : (e : Exp) → size e + 5 ≤ 16 * nodes.exp_size e
  exp_small (c.constant k) = omega arith
  exp_small c.this = omega arith
  exp_small (c.local k) = omega arith
  exp_small (c.global k) = omega arith
  exp_small (c.interpolation units more) = omega (arith, pieces_small more)
  exp_small (c.call_function f args) = omega (arith, exps_small args)
  exp_small (c.print e) = omega (arith, exp_small e)
  exp_small (c.new class args) = omega (arith, exps_small args, make_small class (count args))
  exp_small (c.super m args) = omega (arith, exps_small args)
  exp_small (c.list_of items) = omega (arith, exps_small items)
  exp_small (c.postfix e more) = omega (arith, exp_small e, calls_small more)
  exp_small (c.chain e more) = omega (arith, exp_small e, links_small more)
  exp_small (c.not e) = omega (arith, exp_small e)
  exp_small (c.is e denied class) = omega (arith, exp_small e, is_small denied)
  exp_small (c.conditional x y z) = omega (arith, exp_small x, exp_small y, exp_small z)
  exp_small (c.assign to e) = omega (arith, target_small to, exp_small e, write_small to)
  exp_small (c.compound_assign to op e) = omega (arith, update_small to, exp_small e, read_small to, write_small (written to))
  exp_small (c.increment is_before op to) = omega (arith, update_small to, read_small to, write_small (written to))
  exp_small (c.throw e) = omega (arith, exp_small e)

  pub exps_small : (es : Exps) → sizes es + 5 * count es ≤ 16 * nodes.exps_size es
  exps_small c.no_more = omega arith
  exps_small (c.also e more) = omega (arith, exp_small e, exps_small more)

  pieces_small : (ps : Pieces) → pieces_size ps ≤ 16 * nodes.pieces_size ps
  pieces_small c.no_piece = omega arith
  pieces_small (c.piece s e after more) = omega (arith, exp_small e, pieces_small more)

  calls_small : (ks : Calls) → calls_size ks ≤ 16 * nodes.calls_size ks
  calls_small c.no_call = omega arith
  calls_small (c.call s args more) = omega (arith, exps_small args, calls_small more)

  links_small : (ls : Links) → links_size ls ≤ 16 * nodes.links_size ls
  links_small c.no_link = omega arith
  links_small (c.link op e more) = omega (arith, joint_small op, exp_small e, links_small more)

  target_small : (to : Target) → place_size to ≤ 1 + 16 * nodes.target_size to
  target_small (c.to_local k) = omega arith
  target_small (c.to_global k) = omega arith
  target_small (c.to_super m) = omega arith
  target_small (c.to_member e s) = omega (arith, exp_small e)
  target_small (c.to_element e i s) = omega (arith, exp_small e, exp_small i)

  update_small : (to : Update) → update_size to ≤ 1 + 16 * nodes.update_size to
  update_small (c.of_local k) = omega arith
  update_small (c.of_global k) = omega arith
  update_small (c.of_super g m) = omega arith
  update_small (c.of_member e g s) = omega (arith, exp_small e)
  update_small (c.of_element e i g s) = omega (arith, exp_small e, exp_small i)

first_small : (x : First) → first_size x ≤ 16 * nodes.first_size x
first_small c.no_first = omega arith
first_small (c.first_declares e) = omega (arith, exp_small e)
first_small (c.first_runs e) = omega (arith, exp_small e)

drops_small : (es : Exps) → drops_size es ≤ 16 * nodes.exps_size es
drops_small c.no_more = omega arith
drops_small (c.also e more) = omega (arith, exp_small e, drops_small more)

-- `return` takes three instructions at most.
module _ (leave : ℕ) (few : leave ≤ 3) where
  mutual
    sta_small : (x : Sta) → sta_size leave x ≤ 16 * nodes.sta_size x
    sta_small (c.block all) = omega (arith, stas_small all)
    sta_small (c.declare e) = omega (arith, exp_small e)
    sta_small (c.run e) = omega (arith, exp_small e)
    sta_small c.empty = omega arith
    sta_small (c.when e x) = omega (arith, exp_small e, sta_small x)
    sta_small (c.when_else e x y) = omega (arith, exp_small e, sta_small x, sta_small y)
    sta_small (c.while e x) = omega (arith, exp_small e, sta_small x)
    sta_small (c.for start e last x) = omega (arith, first_small start, exp_small e, drops_small last, sta_small x)
    sta_small (c.do_while x e) = omega (arith, sta_small x, exp_small e)
    sta_small c.break = omega arith
    sta_small c.continue = omega arith
    sta_small (c.return e) = omega (arith, exp_small e, few)

    pub stas_small : (xs : Stas) → stas_size leave xs ≤ 16 * nodes.stas_size xs
    stas_small c.end_of = omega arith
    stas_small (c.next x more) = omega (arith, sta_small x, stas_small more)

pub sets_small : (sets : List (Option ℕ)) → sets_size sets ≤ 3 * length sets
sets_small [] = omega arith
sets_small (None ∷ more) = omega (arith, sets_small more)
sets_small (Some field ∷ more) = omega (arith, sets_small more)

pub above_small : (above : ℕ) (passes : Exps) → above_size above passes ≤ 3 + 16 * nodes.exps_size passes
above_small above passes = by (nat_eq above 0)
  where
    by : (o : Bool) → choose o 0 (1 + (sizes passes + 2)) ≤ 3 + 16 * nodes.exps_size passes
    by true = omega arith
    by false = omega (arith, exps_small passes)
