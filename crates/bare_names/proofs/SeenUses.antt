-- What a use says of its name is what the scope knows.
use Rattle.std.proofs.Common.{◌≡◌, Bool, true, false, List, [], ◌∷◌, ◌++◌, refl}
use Rattle.std.specs.Prelude.{Option, Some, None, is_some, if◌then◌else◌}
use Rattle.dart_syntax.specs.declared.token.Span.{Span}
use Rattle.dart_syntax.specs.declared.tree.Unary.{Unary}
use Rattle.dart_syntax.specs.declared.tree.Unary.TheVariants as unary
use Rattle.dart_syntax.specs.Syntax as t
use Rattle.program.specs.declared.body.BinaryOperator.{BinaryOperator}
use Rattle.dart_meaning.specs.Operators.{operator_of, compound, step_operator}
use Rattle.dart_meaning.specs.Uses as uses
use Rattle.dart_meaning.specs.Uses.{Use, Scope, changes, operator_use, prefix_use, has_more, is_number}
use Rattle.text_trees.specs.Written.{Each}

abbrev pub SeenBy : Scope → Use → Type 0
SeenBy scope (uses.reads n seen) = seen ≡ scope n.text
SeenBy scope (uses.writes n seen) = seen ≡ scope n.text
SeenBy scope (uses.calls n seen k) = seen ≡ scope n.text
SeenBy scope _ = Unit {0}

each_both : {A : Type 0} (P : A → Type 0) (xs ys : List A) → Each P xs → Each P ys → Each P (xs ++ ys)
each_both P [] ys h k = k
each_both P (x ∷ more) ys (a, h) k = (a, each_both P more ys h k)

module _ (scope : Scope) where
  abbrev All : List Use → Type 0
  All = Each (SeenBy scope)

  both : (xs ys : List Use) → All xs → All ys → All (xs ++ ys)
  both = each_both (SeenBy scope)

  seen_changes : (b : Bool) (r w : Use) → SeenBy scope r → SeenBy scope w → All (changes b r w)
  seen_changes false r w h k = (k, tt)
  seen_changes true r w h k = (h, (k, tt))

  seen_operator : (o : Option BinaryOperator) (at : Span) → All (operator_use o at)
  seen_operator None at = tt
  seen_operator (Some op) at = (tt, tt)

  seen_minus : (b : Bool) (at : Span) → All (if b then [] else uses.prefixes unary.Minus at ∷ [])
  seen_minus true at = tt
  seen_minus false at = (tt, tt)

  seen_prefix : (op : Unary) (at : Span) (e : t.Exp) → All (prefix_use op at e)
  seen_prefix unary.Not at e = tt
  seen_prefix unary.Minus at e = seen_minus (is_number e) at
  seen_prefix unary.Complement at e = (tt, tt)

  seen_if : (b : Bool) (xs ys : List Use) → All xs → All ys → All (if b then xs else ys)
  seen_if true xs ys h k = h
  seen_if false xs ys h k = k

  mutual
    pub seen_exp : (e : t.Exp) → All (uses.exp scope e)
    seen_exp (t.this at) = (tt, tt)
    seen_exp (t.joined units at more) = seen_pieces more at
    seen_exp (t.bare n) = (refl, tt)
    seen_exp (t.call n args) = (refl, seen_exps args)
    seen_exp (t.super_get at n) = (tt, tt)
    seen_exp (t.super_call at n args) = (tt, seen_exps args)
    seen_exp (t.paren e) = seen_exp e
    seen_exp (t.list at items) = seen_exps items
    seen_exp (t.postfix e more) = both (uses.exp scope e) (uses.selectors scope more) (seen_exp e) (seen_selectors more)
    seen_exp (t.step before op at to) = both (uses.target scope true to) (uses.operates (step_operator op) at ∷ []) (seen_target to true) (tt, tt)
    seen_exp (t.unary op at e) = both (prefix_use op at e) (uses.exp scope e) (seen_prefix op at e) (seen_exp e)
    seen_exp (t.chain e more) = both (uses.exp scope e) (uses.links scope more) (seen_exp e) (seen_links more)
    seen_exp (t.is e denied at n) = both (uses.exp scope e) (uses.names_class n ∷ []) (seen_exp e) (tt, tt)
    seen_exp (t.choice c x y) =
        both (uses.exp scope c) (uses.exp scope x ++ uses.exp scope y) (seen_exp c) (both (uses.exp scope x) (uses.exp scope y) (seen_exp x) (seen_exp y))
    seen_exp (t.assign to op at e) =
        both (uses.target scope (is_some (compound op)) to) (operator_use (compound op) at ++ uses.exp scope e) (seen_target to (is_some (compound op)))
        (both (operator_use (compound op) at) (uses.exp scope e) (seen_operator (compound op) at) (seen_exp e))
    seen_exp (t.throw at e) = seen_exp e
    seen_exp _ = tt

    pub seen_exps : (es : t.Exps) → All (uses.exps scope es)
    seen_exps t.no_more = tt
    seen_exps (t.also e more) = both (uses.exp scope e) (uses.exps scope more) (seen_exp e) (seen_exps more)

    seen_pieces : (ps : t.Pieces) (at : Span) → All (uses.pieces scope at ps)
    seen_pieces t.no_piece at = tt
    seen_pieces (t.piece e units next more) at = (tt, both (uses.exp scope e) (uses.pieces scope next more) (seen_exp e) (seen_pieces more next))

    seen_links : (ls : t.Links) → All (uses.links scope ls)
    seen_links t.no_link = tt
    seen_links (t.link op at e more) =
        both (operator_use (operator_of op) at) (uses.exp scope e ++ uses.links scope more) (seen_operator (operator_of op) at)
        (both (uses.exp scope e) (uses.links scope more) (seen_exp e) (seen_links more))

    seen_selector : (s : t.Selector) → All (uses.selector scope s)
    seen_selector (t.get n) = (tt, tt)
    seen_selector (t.send n args) = (tt, seen_exps args)
    seen_selector (t.index at e) = (tt, seen_exp e)

    seen_selectors : (ss : t.Selectors) → All (uses.selectors scope ss)
    seen_selectors t.no_selector = tt
    seen_selectors (t.select s more) = both (uses.selector scope s) (uses.selectors scope more) (seen_selector s) (seen_selectors more)

    seen_changed : (s : t.Selector) (b : Bool) → All (uses.changed scope b s)
    seen_changed (t.get n) b = seen_changes b (uses.member_reads n) (uses.member_writes n) tt tt
    seen_changed (t.send n args) b = tt
    seen_changed (t.index at e) b =
        both (uses.exp scope e) (changes b (uses.index_reads at) (uses.index_writes at)) (seen_exp e) (seen_changes b (uses.index_reads at) (uses.index_writes at) tt tt)

    seen_up_to : (ss : t.Selectors) (b : Bool) → All (uses.up_to_changed scope b ss)
    seen_up_to t.no_selector b = tt
    seen_up_to (t.select s more) b =
        seen_if (has_more more) (uses.selector scope s ++ uses.up_to_changed scope b more) (uses.changed scope b s)
        (both (uses.selector scope s) (uses.up_to_changed scope b more) (seen_selector s) (seen_up_to more b)) (seen_changed s b)

    seen_target : (to : t.Exp) (b : Bool) → All (uses.target scope b to)
    seen_target (t.bare n) b = seen_changes b (uses.reads n (scope n.text)) (uses.writes n (scope n.text)) refl refl
    seen_target (t.super_get at n) b = seen_changes b (uses.super_reads at n) (uses.super_writes at n) tt tt
    seen_target (t.postfix e more) b = both (uses.exp scope e) (uses.up_to_changed scope b more) (seen_exp e) (seen_up_to more b)
    seen_target _ b = tt

  pub seen_value : (e : Option t.Exp) → All (uses.exp_if scope e)
  seen_value None = tt
  seen_value (Some e) = seen_exp e
