-- The trees of an `if`.
use Rattle.std.proofs.Common.{◌≡◌, Some, None, ◌∙◌}
use Rattle.dart_syntax.specs.declared.tree.Expr.{Expr}
use Rattle.dart_syntax.specs.declared.tree.Stmt.{Stmt}
use Rattle.dart_syntax.specs.declared.tree.Stmt.TheVariants as st
use Rattle.dart_syntax.specs.declared.tree.Stmt.TheFolds.{fold_out-Stmt}
use Rattle.dart_syntax.specs.Syntax as tree
use Rattle.dart_syntax.specs.Syntax.{Sta}
use Rattle.dart_syntax.specs.View.{exp, sta, sta_step}

pub sta_when : (c : Expr) (a : Stmt) → sta (st.If c a None) ≡ tree.when (exp c) (sta a)
sta_when c a = fold_out-Stmt Sta sta_step (st.If c a None) ∙ rw (st.outs-If c a None)

pub sta_when_else : (c : Expr) (a b : Stmt) → sta (st.If c a (Some b)) ≡ tree.when_else (exp c) (sta a) (sta b)
sta_when_else c a b = fold_out-Stmt Sta sta_step (st.If c a (Some b)) ∙ rw (st.outs-If c a (Some b))
