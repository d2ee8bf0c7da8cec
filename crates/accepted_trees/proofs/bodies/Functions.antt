-- The functions of the numbered program of an accepted tree have sound bodies, which stand for those of the tree.
use Rattle.std.proofs.Common.{◌≡◌, ℕ, refl, ap, sym, ◌∙◌, subst, slice_get}
use Rattle.std.specs.Prelude.{Option, Some, None}
use Rattle.std.specs.Option.{option_map}
use Rattle.std.proofs.lemmas.Option.{slice_get-map}
use Rattle.dart_syntax.specs.Syntax as t
use Rattle.dart_syntax.specs.Syntax.{Tree, Top, Member, Param, ClassDecl}
use Rattle.program.specs.declared.numbered.Function.{Function}
use Rattle.program.specs.Parts.{Parts}
use Rattle.program.specs.Whole as whole
use Rattle.dart_values.specs.Values.{Text}
use Rattle.dart_meaning.specs.Classes.{function_at, functions}
use Rattle.dart_meaning.specs.Agree.{BothOrNone, IsFunction}
use Rattle.dart_meaning.specs.Sites.{site_of}
use Rattle.dart_meaning.specs.Forms.{function_form}
use Rattle.dart_meaning.specs.NumberedForm.{IsNumberedOf, numbered_function}
use Rattle.text_trees.specs.Written.{Each}
use Rattle.accepted_trees.proofs.bodies.Bodies.{GoodCode, code_is, sound_code}
use Rattle.accepted_trees.proofs.bodies.Each.{each_get, kept_each}
use Rattle.accepted_trees.proofs.bodies.Declarations.{GoodTop}

module _ (tree : Tree) (p : Parts) where
  abbrev pub GoodFunction : t.Function → Type 0
  GoodFunction f = GoodCode tree p None None f.params f.body

  function_at_is : (top : Top) (f : t.Function) → function_at top ≡ Some f → GoodTop tree p top → GoodFunction f
  function_at_is (t.a_function g) f e h = let same : g ≡ f = cc in subst GoodFunction same h
  function_at_is (t.a_class c) f e h = absurd cc
  function_at_is (t.a_variable v) f e h = absurd cc

  pub functions_good : Each (GoodTop tree p) tree.tops → Each GoodFunction (functions tree)
  functions_good h = kept_each (GoodTop tree p) GoodFunction function_at tree.tops function_at_is h

  abbrev BothGood : Option t.Function → Option Function → Type 0
  BothGood o q = whole.IsFunction p q × BothOrNone (IsFunction tree (site_of tree) p) o q

  function_is : (f : t.Function) (k : Function) → function_form k ≡ numbered_function tree f → GoodFunction f → BothGood (Some f) (Some k)
  function_is f k e good = (
    sound_code tree p None None f.params f.body k.required k.defaults k.body good (ap (λ x. x.required) e) (ap (λ x. x.defaults) e) (ap (λ x. x.body) e),
    code_is tree p None None f.params f.body k.required k.defaults k.body good (ap (λ x. x.required) e) (ap (λ x. x.defaults) e) (ap (λ x. x.body) e),
  )

  both_are : (o : Option t.Function) (q : Option Function) → option_map function_form q ≡ option_map (numbered_function tree) o → ((f : t.Function) → o ≡ Some f → GoodFunction f) → BothGood o q
  both_are None None e good = (tt, tt)
  both_are None (Some k) e good = absurd cc
  both_are (Some f) None e good = absurd cc
  both_are (Some f) (Some k) e good = let same : function_form k ≡ numbered_function tree f = cc in function_is f k same (good f refl)

  functions_are : (text : Text) → IsNumberedOf text tree p → Each (GoodTop tree p) tree.tops → (i : ℕ) → BothGood (slice_get (functions tree) i) (slice_get p.functions i)
  functions_are text is good i =
      both_are (slice_get (functions tree) i) (slice_get p.functions i)
      (sym (slice_get-map function_form p.functions i) ∙ (ap (λ f. slice_get f.functions i) is.form ∙ slice_get-map (numbered_function tree) (functions tree) i))
      (λ f e. each_get GoodFunction (functions tree) (functions_good good) i f e)

  pub sound_functions : (text : Text) → IsNumberedOf text tree p → Each (GoodTop tree p) tree.tops → (i : ℕ) → whole.IsFunction p (slice_get p.functions i)
  sound_functions text is good i = (functions_are text is good i).0

  pub agree_functions : (text : Text) → IsNumberedOf text tree p → Each (GoodTop tree p) tree.tops → (i : ℕ) → BothOrNone (IsFunction tree (site_of tree) p) (slice_get (functions tree) i) (slice_get p.functions i)
  agree_functions text is good i = (functions_are text is good i).1
