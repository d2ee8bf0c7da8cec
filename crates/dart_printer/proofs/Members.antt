-- The members of classes.
use Rattle.std.proofs.Common.{◌≡◌, ℕ, Bool, true, false, not, ◌||◌, if◌then◌else◌, List, [], ◌∷◌, ◌++◌, length, map, flat_map, Some, refl, ap, sym, ◌∙◌, codes}
use Rattle.std.proofs.lemmas.List.{length-map}
use Rattle.dart_syntax.specs.declared.token.Span.{Span}
use Rattle.dart_syntax.specs.declared.token.Sign.TheVariants as s
use Rattle.dart_syntax.specs.declared.token.TokenKind.TheVariants as tk
use Rattle.dart_syntax.specs.declared.token.Keyword.{Keyword}
use Rattle.dart_syntax.specs.declared.token.Keyword.TheVariants as k
use Rattle.dart_syntax.specs.Syntax as tree
use Rattle.dart_syntax.specs.Syntax.{Exp, Sta, Param, Member, a_local}
use Rattle.dart_syntax.specs.Words.{Tokens}
use Rattle.dart_syntax.specs.Operators.{named}
use Rattle.dart_syntax.specs.Text.{word, param_text, params_text, listed, variable_word, member_text}
use Rattle.dart_syntax.specs.Grammar.{Reading, Many}
use Rattle.dart_syntax.specs.Grammar as gr
use Rattle.dart_syntax.specs.Derivation.{same_text, final_or_var, Ret, takes, Marked, MemberText}
use Rattle.dart_syntax.specs.Derivation as de
use Rattle.dart_printer.specs.Spans.{nowhere, bare_param, bare_params, bare_member}
use Rattle.dart_printer.specs.ReadsBack.{ArePossible}
use Rattle.dart_printer.proofs.Lists.{Kinds, nothing, one, both, put}
use Rattle.dart_printer.proofs.Cuts.{Cuts, cuts_of, cuts_none, cuts_then}
use Rattle.dart_printer.proofs.Marks.{name_word}
use Rattle.dart_printer.proofs.Keywords.{final_word, var_word, void_word, get_word, set_word, operator_word}
use Rattle.dart_printer.proofs.SignTexts.{paren_open, paren_close}
use Rattle.dart_printer.proofs.Back.{found, Back, GivesBack, many_back}
use Rattle.dart_printer.proofs.Statements.{GivesStaBack}
use Rattle.dart_printer.proofs.Parts.{value_back, param_back, params_back, ret_behind, metas_behind, operator_back, some_body_back, rest_back}

-- ---- the word before a variable

record VariableBack (is_final : Bool) : Type 0 where
  word : Keyword
  is : final_or_var word ≡ Some is_final
  cuts : Cuts (variable_word is_final) (one (tk.Keyword word))

variable_back : (is_final : Bool) → VariableBack is_final
variable_back true = record { word = k.Final; is = refl; cuts = cuts_of final_word }
variable_back false = record { word = k.Var; is = refl; cuts = cuts_of var_word }

-- ---- `void` before a method that has its class's own name

record VoidBack (same : Bool) : Type 0 where
  kinds : Kinds
  cuts : Cuts (if same then word (codes "void") else []) kinds
  ret : Bool
  reads : (f : Tokens → Span) (more : Tokens) → Ret (put f kinds more) ret more
  stands : (ret || not same) ≡ true

void_back : (same : Bool) → VoidBack same
void_back true = record { kinds = one (tk.Keyword k.Void); cuts = cuts_of void_word; ret = true; reads = λ f more. de.Ret.some refl; stands = refl }
void_back false = record { kinds = nothing; cuts = cuts_none; ret = false; reads = λ f more. de.Ret.none; stands = refl }

-- as many parameters
as_many : (ps qs : List Param) → bare_params qs ≡ bare_params ps → length qs ≡ length ps
as_many ps qs e = sym (length-map qs bare_param) ∙ ap length e ∙ length-map ps bare_param

pub params_cuts : (ps : List Param) {kinds : Kinds} → Cuts (listed param_text ps ++ word (codes ")")) kinds → Cuts (params_text ps) (both (one (tk.Sign s.ParenOpen)) kinds)
params_cuts ps h = cuts_then (cuts_of paren_open) h

module _ (I : Reading Sta) (inner : GivesStaBack I) (W : Reading Exp) (whole : GivesBack W) (class : List ℕ) where
  member_back : {ts rest : Tokens} {m : Member} → MemberText I W class ts m rest → ArePossible ts → Back (MemberText I W class) (Cuts (member_text class m)) (λ o. bare_member o ≡ bare_member m) rest
  member_back (de.MemberText.field {f = is_final} {n = n} is d) ok =
      let v = variable_back is_final in
      let a = value_back d ok.1.1 in
      record {
        kinds = both (one (tk.Keyword v.word)) (both (one (tk.Name n)) a.kinds);
        cuts = cuts_then v.cuts (cuts_then (cuts_of (name_word n ok.1.0)) (cuts_of a.cuts));
        reads = λ f more. let p = a.reads f more in found _ (de.MemberText.field v.is p.reads) (λ i. tree.field (a_local is_final (named n nowhere) (p.same i)));
        behind = a.behind;
      }
  member_back (de.MemberText.method {n = n} {ps = ps} ret stands d d1) ok =
      let start = ret_behind ret ok in
      let v = void_back (same_text n class) in
      let a = params_back d start.1.1 in
      let b = some_body_back I inner W whole d1 a.behind in
      record {
        kinds = both v.kinds (both (one (tk.Name n)) (both (both (one (tk.Sign s.ParenOpen)) a.kinds) b.kinds));
        cuts = cuts_then v.cuts (cuts_then (cuts_of (name_word n start.0)) (cuts_then (params_cuts ps a.cuts) b.cuts));
        reads = λ f more. let q = b.reads f more in let p = a.reads f (put f b.kinds more) in
            found _ (de.MemberText.method (v.reads f _) v.stands p.reads q.reads) (λ i. tree.method (named n nowhere) (p.same i) (q.same i));
        behind = b.behind;
      }
  member_back (de.MemberText.getter {n = n} ret d) ok =
      let start = ret_behind ret ok in
      let a = some_body_back I inner W whole d start.1.1 in
      record {
        kinds = both (one (tk.Keyword k.Get)) (both (one (tk.Name n)) a.kinds);
        cuts = cuts_then (cuts_of get_word) (cuts_then (cuts_of (name_word n start.1.0)) a.cuts);
        reads = λ f more. let p = a.reads f more in found _ (de.MemberText.getter de.Ret.none p.reads) (λ i. tree.getter (named n nowhere) (p.same i));
        behind = a.behind;
      }
  member_back (de.MemberText.setter {n = n} ret d d1) ok =
      let start = ret_behind ret ok in
      let a = param_back d start.1.1.1 in
      let b = some_body_back I inner W whole d1 a.behind.1 in
      record {
        kinds = both (one (tk.Keyword k.Set)) (both (one (tk.Name n)) (both (one (tk.Sign s.ParenOpen)) (both a.kinds (both (one (tk.Sign s.ParenClose)) b.kinds))));
        cuts = cuts_then (cuts_of set_word) (cuts_then (cuts_of (name_word n start.1.0)) (cuts_then (cuts_of paren_open) (cuts_then a.cuts (cuts_then (cuts_of paren_close) b.cuts))));
        reads = λ f more. let q = b.reads f more in let p = a.reads f (put f (both (one (tk.Sign s.ParenClose)) b.kinds) more) in
            found _ (de.MemberText.setter {a = f (put f (both (one (tk.Name n)) (both (one (tk.Sign s.ParenOpen)) (both a.kinds (both (one (tk.Sign s.ParenClose)) b.kinds)))) more)} de.Ret.none p.reads q.reads) (λ i. tree.setter (named n nowhere) (p.same i) (q.same i));
        behind = b.behind;
      }
  member_back (de.MemberText.operator {o = o} {ps = ps} ret d d1 few d2) ok =
      let start = ret_behind ret ok in
      let a = operator_back d start.1 in
      let b = params_back d1 a.behind.1 in
      let c = some_body_back I inner W whole d2 b.behind in
      record {
        kinds = both (one (tk.Keyword k.Operator)) (both a.kinds (both (both (one (tk.Sign s.ParenOpen)) b.kinds) c.kinds));
        cuts = cuts_then (cuts_of operator_word) (cuts_then a.cuts (cuts_then (params_cuts ps b.cuts) c.cuts));
        reads = λ f more. let r = c.reads f more in let q = b.reads f (put f c.kinds more) in let p = a.reads f _ (put f (both b.kinds c.kinds) more) in
            found _ (de.MemberText.operator de.Ret.none p.1 q.reads (ap (takes o) (as_many ps q.it q.same) ∙ few) r.reads) (λ i. tree.operator o nowhere (q.same i) (r.same i));
        behind = c.behind;
      }
  member_back (de.MemberText.constructor {n = n} {ps = ps} {xs = xs} {y = y} own d d1) ok =
      let a = params_back d ok.1.1 in
      let b = rest_back I inner W whole d1 a.behind in
      record {
        kinds = both (one (tk.Name n)) (both (both (one (tk.Sign s.ParenOpen)) a.kinds) b.kinds);
        cuts = cuts_then (cuts_of (name_word n ok.0)) (cuts_then (params_cuts ps a.cuts) b.cuts);
        reads = λ f more. let q = b.reads f more in let p = a.reads f (put f b.kinds more) in
            found _ (de.MemberText.constructor own p.reads q.reads) (λ i. tree.constructor (named n nowhere) (p.same i) (q.same_passed i) (q.same_body i));
        behind = b.behind;
      }

  -- behind its metas, which are dropped
  marked_back : (ts rest : Tokens) (m : Member) → Marked (MemberText I W class) ts m rest → ArePossible ts → Back (Marked (MemberText I W class)) (Cuts (member_text class m)) (λ o. bare_member o ≡ bare_member m) rest
  marked_back _ _ _ (de.Marked.marked ds d) ok =
      let a = member_back d (metas_behind ds ok) in
      record { kinds = a.kinds; cuts = a.cuts; reads = λ f more. let p = a.reads f more in found _ (de.Marked.marked gr.Many.none p.reads) p.same; behind = a.behind }

  pub members_back : {ts rest : Tokens} {ms : List Member} → Many (Marked (MemberText I W class)) ts ms rest → ArePossible ts
      → Back (Many (Marked (MemberText I W class))) (Cuts (flat_map (member_text class) ms)) (λ os. map bare_member os ≡ map bare_member ms) rest
  members_back = many_back (Marked (MemberText I W class)) (member_text class) (flat_map (member_text class)) (λ o m. bare_member o ≡ bare_member m) (λ os ms. map bare_member os ≡ map bare_member ms)
      cuts_none (λ m ms ks ls a b. cuts_then a b) refl (λ o m os ms p q i. p i ∷ q i) marked_back
