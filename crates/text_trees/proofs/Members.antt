-- Members, classes, functions and variables.
use Rattle.std.proofs.Common.{ℕ, ◌≤◌, Bool, List, [], ◌∷◌, flat_map, None, arith}
use Rattle.std.specs.List.{list_any}
use Rattle.dart_syntax.specs.Syntax as tree
use Rattle.dart_syntax.specs.Syntax.{Exp, Sta, Member, ClassDecl, Top, class_of}
use Rattle.dart_syntax.specs.Words.{Tokens}
use Rattle.dart_syntax.specs.Operators.{named}
use Rattle.dart_syntax.specs.Grammar.{Reading, Many}
use Rattle.dart_syntax.specs.Grammar as gr
use Rattle.dart_syntax.specs.Derivation.{Marked, MemberText, ClassText, Declared, TopText}
use Rattle.dart_syntax.specs.Derivation as de
use Rattle.dart_meaning.specs.Uses.{nothing_seen, with_params, member_parts, class_parts, constructor_parts, is_constructor, top_parts}
use Rattle.dart_printer.specs.ReadsBack.{ArePossible}
use Rattle.text_trees.specs.Nodes.{all_nodes, member_nodes, top_nodes}
use Rattle.text_trees.specs.Written.{IsWrittenMember, IsWrittenTop, Each}
use Rattle.text_trees.proofs.Weights.{Weight, split, weigh_parts, join_parts, Fine}
use Rattle.text_trees.proofs.Expressions.{AreFine}
use Rattle.text_trees.proofs.Statements.{AreFineStas}
use Rattle.text_trees.proofs.Names.{name_is}
use Rattle.text_trees.proofs.Parts.{ret_fine, metas_fine, operator_fine, parent_fine, interfaces_fine, literal_fine, value_fine, plain_fine, plain_params, own_params, body_fine, some_body_fine, rest_fine}

module _ (p : Weight) (I : Reading Sta) (inner : AreFineStas p I) (W : Reading Exp) (whole : AreFine p W) where
  abbrev FineMember : Member → Tokens → Tokens → Type 0
  FineMember m = Fine p (λ (c : ClassDecl). weigh_parts p (member_parts c m)) (member_nodes m) (IsWrittenMember m)

  member_fine : {class : List ℕ} {ts rest : Tokens} {m : Member} → MemberText I W class ts m rest → ArePossible ts → FineMember m ts rest
  member_fine (de.MemberText.field {n = n} is d) ok =
      let a = value_fine p d ok.1.1 in
      record { weight = λ c. omega (arith, a.weight tt); size = omega (arith, a.size); is = (name_is n ok.1.0, a.is); behind = a.behind }
  member_fine (de.MemberText.method {n = n} {ps = ps} ret stands d e) ok =
      let start = ret_fine p ret ok in
      let a = plain_params p d start.behind.1.1 in
      let b = some_body_fine p I inner W whole e a.behind in
      record {
        weight = λ c. omega (arith, start.weight tt, a.weight tt, b.weight (c, ps));
        size = omega (arith, start.size, a.size, b.size);
        is = (name_is n start.behind.0, a.is, b.is);
        behind = b.behind;
      }
  member_fine (de.MemberText.getter {n = n} ret d) ok =
      let start = ret_fine p ret ok in
      let a = some_body_fine p I inner W whole d start.behind.1.1 in
      record {
        weight = λ c. omega (arith, start.weight tt, a.weight (c, []));
        size = omega (arith, start.size, a.size);
        is = (name_is n start.behind.1.0, a.is);
        behind = a.behind;
      }
  member_fine (de.MemberText.setter {n = n} {p = q} ret d e) ok =
      let start = ret_fine p ret ok in
      let a = plain_fine p d start.behind.1.1.1 in
      let b = some_body_fine p I inner W whole e a.behind.1 in
      record {
        weight = λ c. omega (arith, start.weight tt, a.weight tt, b.weight (c, q ∷ []));
        size = omega (arith, start.size, a.size, b.size);
        is = (name_is n start.behind.1.0, a.is, b.is);
        behind = b.behind;
      }
  member_fine (de.MemberText.operator {ps = ps} ret d e few f) ok =
      let start = ret_fine p ret ok in
      let a = operator_fine p d start.behind.1 in
      let b = plain_params p e a.behind.1 in
      let c = some_body_fine p I inner W whole f b.behind in
      record {
        weight = λ k. omega (arith, start.weight tt, a.weight tt, b.weight tt, c.weight (k, ps));
        size = omega (arith, start.size, a.size, b.size, c.size);
        is = (b.is, c.is);
        behind = c.behind;
      }
  member_fine (de.MemberText.constructor {ps = ps} own d e) ok =
      let a = own_params p d ok.1.1 in
      let b = rest_fine p I inner W whole e a.behind in
      record {
        weight = λ c. omega (arith, a.weight tt, b.weight (c, ps));
        size = omega (arith, a.size, b.size);
        is = (a.is, b.is.0, b.is.1);
        behind = b.behind;
      }

  members_fine : {class : List ℕ} {ts rest : Tokens} {ms : List Member} → Many (Marked (MemberText I W class)) ts ms rest → ArePossible ts
      → Fine p (λ (c : ClassDecl). weigh_parts p (flat_map (member_parts c) ms)) (all_nodes member_nodes ms) (Each IsWrittenMember ms) ts rest
  members_fine gr.Many.none ok = record { weight = λ c. omega arith; size = omega arith; is = tt; behind = ok }
  members_fine (gr.Many.more {x = m} {xs = ms} (de.Marked.marked metas d) ds) ok =
      let start = metas_fine p metas ok in
      let a = member_fine d start.behind in
      let b = members_fine ds a.behind in
      record {
        weight = λ c. omega (arith, start.weight tt, a.weight c, b.weight c, join_parts p (member_parts c m) (flat_map (member_parts c) ms));
        size = omega (arith, start.size, a.size, b.size);
        is = (a.is, b.is);
        behind = b.behind;
      }

  abbrev FineTop : Top → Tokens → Tokens → Type 0
  FineTop x = Fine p (λ (i : Unit {0}). weigh_parts p (top_parts x)) (top_nodes x) (IsWrittenTop x)

  -- A constructor that is not written uses nothing.
  class_weight : (c : ClassDecl) → weigh_parts p (class_parts c) ≤ weigh_parts p (flat_map (member_parts c) c.members)
  class_weight c = split (list_any is_constructor c.members)
      (λ e. rw e (omega arith))
      (λ e. rw e (omega (arith, join_parts p (constructor_parts c [] None None) (flat_map (member_parts c) c.members))))

  class_fine : {is_abstract : Bool} {ts rest : Tokens} {c : ClassDecl} → ClassText I W is_abstract ts c rest → ArePossible ts → FineTop (tree.a_class c) ts rest
  class_fine {is_abstract = is_abstract} (de.ClassText.class {n = n} {a = at} {p = o} {is = is} {ms = ms} d e ds) ok =
      let a = parent_fine p d ok.1 in
      let b = interfaces_fine p e a.behind in
      let c = members_fine ds b.behind.1 in
      let class = class_of is_abstract (named n at) o is ms in
      record {
        weight = λ i. omega (arith, a.weight tt, b.weight tt, c.weight class, class_weight class);
        size = omega (arith, a.size, b.size, c.size);
        is = (name_is n ok.0, c.is);
        behind = c.behind.1;
      }

  declared_fine : {entry : Bool} {ts rest : Tokens} {x : Top} → Declared I W entry ts x rest → ArePossible ts → FineTop x ts rest
  declared_fine (de.Declared.class d) ok =
      let a = class_fine d ok.1 in
      record { weight = λ i. omega (arith, a.weight tt); size = omega (arith, a.size); is = a.is; behind = a.behind }
  declared_fine (de.Declared.abstract d) ok =
      let a = class_fine d ok.1.1 in
      record { weight = λ i. omega (arith, a.weight tt); size = omega (arith, a.size); is = a.is; behind = a.behind }
  declared_fine (de.Declared.variable {n = n} is d) ok =
      let a = value_fine p d ok.1.1 in
      record { weight = λ i. omega (arith, a.weight tt); size = omega (arith, a.size); is = (name_is n ok.1.0, a.is); behind = a.behind }
  declared_fine (de.Declared.final {n = n} d) ok =
      let a = literal_fine p d ok.1.1.1 in
      record { weight = λ i. omega (arith, a.weight tt); size = omega (arith, a.size); is = (name_is n ok.1.0, a.is); behind = a.behind.1 }
  declared_fine (de.Declared.function {n = n} {ps = ps} ret d e) ok =
      let start = ret_fine p ret ok in
      let a = plain_params p d start.behind.1.1 in
      let b = body_fine p I inner W whole e a.behind in
      record {
        weight = λ i. omega (arith, start.weight tt, a.weight tt, b.weight (with_params ps nothing_seen));
        size = omega (arith, start.size, a.size, b.size);
        is = (name_is n start.behind.0, a.is, b.is);
        behind = b.behind;
      }

  pub tops_fine : {ts rest : Tokens} {xs : List Top} → Many (TopText I W) ts xs rest → ArePossible ts
      → Fine p (λ (i : Unit {0}). weigh_parts p (flat_map top_parts xs)) (all_nodes top_nodes xs) (Each IsWrittenTop xs) ts rest
  tops_fine gr.Many.none ok = record { weight = λ i. omega arith; size = omega arith; is = tt; behind = ok }
  tops_fine (gr.Many.more {x = x} {xs = xs} (de.TopText.top metas d) ds) ok =
      let start = metas_fine p metas ok in
      let a = declared_fine d start.behind in
      let b = tops_fine ds a.behind in
      record {
        weight = λ i. omega (arith, start.weight tt, a.weight tt, b.weight tt, join_parts p (top_parts x) (flat_map top_parts xs));
        size = omega (arith, start.size, a.size, b.size);
        is = (a.is, b.is);
        behind = b.behind;
      }
