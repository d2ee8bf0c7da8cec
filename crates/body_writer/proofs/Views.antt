-- What a value of a recursive enum stands for, a lemma a variant.
use Rattle.std.proofs.Common.{◌≡◌, ℕ, Bool, List, Some, refl, ◌∙◌}
use Rattle.program.specs.declared.body.OperatorCall.{OperatorCall}
use Rattle.program.specs.declared.body.Expression.{Expression}
use Rattle.program.specs.declared.body.Expression.TheVariants as e
use Rattle.program.specs.declared.body.Expression.TheFolds.{fold_out-Expression}
use Rattle.program.specs.declared.body.Piece.{Piece}
use Rattle.program.specs.declared.body.SiteCall.{SiteCall}
use Rattle.program.specs.declared.body.Link.{Link}
use Rattle.program.specs.declared.body.AssignmentTarget.{AssignmentTarget}
use Rattle.program.specs.declared.body.AssignmentTarget.TheVariants as to
use Rattle.program.specs.declared.body.UpdateTarget.{UpdateTarget}
use Rattle.program.specs.declared.body.UpdateTarget.TheVariants as up
use Rattle.program.specs.declared.body.Statement.{Statement}
use Rattle.program.specs.declared.body.Statement.TheVariants as st
use Rattle.program.specs.declared.body.Statement.TheFolds.{fold_out-Statement}
use Rattle.program.specs.Bodies as c
use Rattle.program.specs.Bodies.{Exp, Sta, exp_step, sta_step}
use Rattle.code_writer.specs.Views.{pieces_of, calls_of, links_of, target_of, update_of}

pub interpolation_is : (us : List ℕ) (more : List (Piece Expression)) → c.exp (e.Interpolation us more) ≡ c.interpolation us (pieces_of more)
interpolation_is us more = fold_out-Expression Exp exp_step (e.Interpolation us more) ∙ rw (e.outs-Interpolation us more) refl

pub postfix_is : (x : Expression) (more : List (SiteCall Expression)) → c.exp (e.Postfix x more) ≡ c.postfix (c.exp x) (calls_of more)
postfix_is x more = fold_out-Expression Exp exp_step (e.Postfix x more) ∙ rw (e.outs-Postfix x more) refl

pub chain_is : (x : Expression) (more : List (Link Expression)) → c.exp (e.Chain x more) ≡ c.chain (c.exp x) (links_of more)
chain_is x more = fold_out-Expression Exp exp_step (e.Chain x more) ∙ rw (e.outs-Chain x more) refl

pub assign_is : (t : AssignmentTarget Expression) (x : Expression) → c.exp (e.Assign t x) ≡ c.assign (target_of t) (c.exp x)
assign_is (to.Local k) x = fold_out-Expression Exp exp_step (e.Assign (to.Local k) x) ∙ rw (e.outs-Assign (to.Local k) x) refl
assign_is (to.Global k) x = fold_out-Expression Exp exp_step (e.Assign (to.Global k) x) ∙ rw (e.outs-Assign (to.Global k) x) refl
assign_is (to.Super m) x = fold_out-Expression Exp exp_step (e.Assign (to.Super m) x) ∙ rw (e.outs-Assign (to.Super m) x) refl
assign_is (to.Member r s) x = fold_out-Expression Exp exp_step (e.Assign (to.Member r s) x) ∙ rw (e.outs-Assign (to.Member r s) x) refl
assign_is (to.Element r i s) x = fold_out-Expression Exp exp_step (e.Assign (to.Element r i s) x) ∙ rw (e.outs-Assign (to.Element r i s) x) refl

pub compound_is : (t : UpdateTarget Expression) (op : OperatorCall) (x : Expression) → c.exp (e.CompoundAssign t op x) ≡ c.compound_assign (update_of t) op (c.exp x)
compound_is (up.Local k) op x = fold_out-Expression Exp exp_step (e.CompoundAssign (up.Local k) op x) ∙ rw (e.outs-CompoundAssign (up.Local k) op x) refl
compound_is (up.Global k) op x = fold_out-Expression Exp exp_step (e.CompoundAssign (up.Global k) op x) ∙ rw (e.outs-CompoundAssign (up.Global k) op x) refl
compound_is (up.Super g m) op x = fold_out-Expression Exp exp_step (e.CompoundAssign (up.Super g m) op x) ∙ rw (e.outs-CompoundAssign (up.Super g m) op x) refl
compound_is (up.Member r g s) op x = fold_out-Expression Exp exp_step (e.CompoundAssign (up.Member r g s) op x) ∙ rw (e.outs-CompoundAssign (up.Member r g s) op x) refl
compound_is (up.Element r i g s) op x = fold_out-Expression Exp exp_step (e.CompoundAssign (up.Element r i g s) op x) ∙ rw (e.outs-CompoundAssign (up.Element r i g s) op x) refl

pub increment_is : (before : Bool) (op : OperatorCall) (t : UpdateTarget Expression) → c.exp (e.Increment before op t) ≡ c.increment before op (update_of t)
increment_is before op (up.Local k) = fold_out-Expression Exp exp_step (e.Increment before op (up.Local k)) ∙ rw (e.outs-Increment before op (up.Local k)) refl
increment_is before op (up.Global k) = fold_out-Expression Exp exp_step (e.Increment before op (up.Global k)) ∙ rw (e.outs-Increment before op (up.Global k)) refl
increment_is before op (up.Super g m) = fold_out-Expression Exp exp_step (e.Increment before op (up.Super g m)) ∙ rw (e.outs-Increment before op (up.Super g m)) refl
increment_is before op (up.Member r g s) = fold_out-Expression Exp exp_step (e.Increment before op (up.Member r g s)) ∙ rw (e.outs-Increment before op (up.Member r g s)) refl
increment_is before op (up.Element r i g s) = fold_out-Expression Exp exp_step (e.Increment before op (up.Element r i g s)) ∙ rw (e.outs-Increment before op (up.Element r i g s)) refl

pub if_else_is : (test : Expression) (then other : Statement) → c.sta (st.If test then (Some other)) ≡ c.when_else (c.exp test) (c.sta then) (c.sta other)
if_else_is test then other = fold_out-Statement Sta sta_step (st.If test then (Some other)) ∙ rw (st.outs-If test then (Some other)) refl
