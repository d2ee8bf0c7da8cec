-- A program with a body stands for its tree:
--   void main() { print(1.toString()); }
use Rattle.std.proofs.Common.{◌≡◌, ℕ, ◌<◌, [], ◌∷◌, refl, ap, ◌∙◌}
use Rattle.std.specs.Prelude.{false, pos, zero, suc, slice_get, Some, codes}
use Rattle.std.specs.Option.{option_map}
use Rattle.std.specs.Fmt.{digits}
use Rattle.dart_syntax.specs.declared.token.Span.{Span}
use Rattle.dart_syntax.specs.Syntax as t
use Rattle.dart_syntax.specs.Syntax.{Tree}
use Rattle.program.specs.declared.body.Body.TheVariants as body
use Rattle.program.specs.declared.body.Expression.{Expression}
use Rattle.program.specs.declared.body.Expression.TheVariants as expression
use Rattle.program.specs.declared.body.Expression.TheFolds.{fold_out-Expression}
use Rattle.program.specs.declared.body.Statement.{Statement}
use Rattle.program.specs.declared.body.Statement.TheVariants as statement
use Rattle.program.specs.declared.body.Statement.TheFolds.{fold_out-Statement}
use Rattle.program.specs.declared.literal.Literal.TheVariants as l
use Rattle.program.specs.declared.numbered.Function.{Function}
use Rattle.program.specs.declared.numbered.SitePlace.TheVariants as place
use Rattle.program.specs.Bodies as c
use Rattle.program.specs.BuiltIn.{built_in_classes, built_in_members, to_string, to_string_at}
use Rattle.program.specs.Parts.{Parts, parts}
use Rattle.dart_meaning.specs.Classes.{of_tree}
use Rattle.dart_meaning.specs.Entry.{Meaning, enter}
use Rattle.dart_meaning.specs.Numbered.{of_numbered, entry_meaning_n}
use Rattle.dart_meaning.specs.Sites.{site_of, text_sites}
use Rattle.dart_meaning.specs.Agree.{Agree, BothOrNone, IsCode, IsFunction}
use Rattle.dart_meaning.proofs.BodiesAgree.{numbered_is_same}
use Rattle.dart_meaning.proofs.BuiltInAgree.{each_class, looks_up, name_of, subtypes, no_fields}

abbrev span : ℕ → ℕ → Span
span from until = record { start = from; end = until }

abbrev main : t.Function
main = record {
  name = record { text = codes "main"; span = span 5 9 };
  is_entry = false;
  params = [];
  body =
      t.code
      (t.next
      (t.run
      (t.call (record { text = codes "print"; span = span 14 19 })
      (t.also (t.postfix (t.int (pos 1) (span 20 21)) (t.select (t.send (record { text = codes "toString"; span = span 22 30 }) t.no_more) t.no_selector)) t.no_more)))
      t.done);
}

abbrev tree : Tree
tree = record { tops = t.a_function main ∷ [] }

abbrev one : Expression
one = expression.Constant (l.Int (pos 1))

abbrev shown : Expression
shown = expression.Postfix one (record { site = record { 0 = 0 }; arguments = [] } ∷ [])

abbrev printed : Expression
printed = expression.Print shown

abbrev line : Statement
line = statement.Run printed

abbrev numbered_main : Function
numbered_main = record { name = codes "main"; is_entry = false; required = 0; defaults = []; body = body.Block (line ∷ []) }

abbrev program : Parts
program =
    parts built_in_classes built_in_members (numbered_main ∷ []) (to_string ∷ [])
    (to_string_at (place.At 1 23) ∷ to_string_at place.Print ∷ to_string_at place.List ∷ []) []

one_is : c.exp one ≡ c.constant (l.Int (pos 1))
one_is = fold_out-Expression c.Exp c.exp_step one ∙ rw (expression.outs-Constant (l.Int (pos 1))) refl

abbrev shown_form : c.Exp
shown_form = c.postfix (c.constant (l.Int (pos 1))) (c.call 0 c.no_more c.no_call)

shown_is : c.exp shown ≡ shown_form
shown_is =
    fold_out-Expression c.Exp c.exp_step shown
    ∙ (rw (expression.outs-Postfix one (record { site = record { 0 = 0 }; arguments = [] } ∷ [])) refl ∙ ap (λ e. c.postfix e (c.call 0 c.no_more c.no_call)) one_is)

printed_is : c.exp printed ≡ c.print shown_form
printed_is = fold_out-Expression c.Exp c.exp_step printed ∙ (rw (expression.outs-Print shown) refl ∙ ap c.print shown_is)

line_is : c.sta line ≡ c.run (c.print shown_form)
line_is = fold_out-Statement c.Sta c.sta_step line ∙ (rw (statement.outs-Run printed) refl ∙ ap c.run printed_is)

main_is : IsFunction tree (site_of tree) program main numbered_main
unfolding text_sites
main_is = (refl, (ap (λ x. c.next x c.end_of) line_is, ((refl, ((tt, ((refl, tt), tt)), tt)), tt)))

functions_are : (f : ℕ) → BothOrNone (IsFunction tree (site_of tree) program) (slice_get (main ∷ []) f) (slice_get (numbered_main ∷ []) f)
functions_are zero = main_is
functions_are (suc f) = tt

constructors : (c : ℕ) → c < 7 → BothOrNone (IsCode tree (site_of tree) program) ((of_tree tree).constructor c) ((of_numbered program).constructor c)
constructors =
    each_class tree (site_of tree) program (λ c. BothOrNone (IsCode tree (site_of tree) program) ((of_tree tree).constructor c) ((of_numbered program).constructor c))
    tt (refl, refl) (refl, refl) (refl, refl) (refl, refl) (refl, refl) (refl, refl)

pub example_agrees : Agree tree (site_of tree) program
unfolding text_sites
example_agrees = record {
  lookup = λ c h sel. looks_up tree (site_of tree) program sel c h;
  class_name = λ i c. name_of tree (site_of tree) program c i;
  is_subtype = λ c d h k. subtypes tree (site_of tree) program c h d k;
  fields = λ c h. no_fields tree (site_of tree) program c h;
  constructor = λ c h. constructors c h;
  functions = functions_are;
  globals = refl;
  print_site = refl;
  list_site = refl;
}

-- So the numbered program prints what the tree prints.
example_prints : option_map (λ (m : Meaning). m.lines) (entry_meaning_n program 0 1) ≡ Some (codes "1" ∷ [])
unfolding enter text_sites digits
example_prints = ap (option_map (λ (m : Meaning). m.lines)) (numbered_is_same tree (site_of tree) program example_agrees 0 1)
