-- Classes, functions and variables at the top, and whole texts.
use Rattle.std.proofs.Common.{◌≡◌, Bool, true, false, if◌then◌else◌, List, [], ◌∷◌, ◌++◌, map, flat_map, Some, refl, ◌∙◌, codes, arith, append-nil}
use Rattle.dart_syntax.specs.declared.token.Span.{Span}
use Rattle.dart_syntax.specs.declared.token.Sign.TheVariants as s
use Rattle.dart_syntax.specs.declared.token.TokenKind.TheVariants as tk
use Rattle.dart_syntax.specs.declared.token.Keyword.TheVariants as k
use Rattle.dart_syntax.specs.Syntax as tree
use Rattle.dart_syntax.specs.Syntax.{Exp, Sta, ClassDecl, Top, a_local, class_of, function_of}
use Rattle.dart_syntax.specs.Words.{Tokens}
use Rattle.dart_syntax.specs.Bytes.{Text}
use Rattle.dart_syntax.specs.Names.{keyword_of, is_reserved}
use Rattle.dart_syntax.specs.Operators.{named}
use Rattle.dart_syntax.specs.Text.{word, exp_text, class_text, entry_text, top_text}
use Rattle.dart_syntax.specs.Grammar.{Reading, Many}
use Rattle.dart_syntax.specs.Grammar as gr
use Rattle.dart_syntax.specs.Derivation.{any, Ret, Meta, ClassText, Declared, TopText}
use Rattle.dart_syntax.specs.Derivation as de
use Rattle.dart_printer.specs.Spans.{nowhere, bare_class, bare_top}
use Rattle.dart_printer.specs.ReadsBack.{ArePossible}
use Rattle.dart_printer.proofs.Lists.{Kinds, nothing, one, both, put}
use Rattle.dart_printer.proofs.Cuts.{cut_then, cut_nothing, Cuts, Closed, cuts_of, cuts_none, cuts_then, closed_then, closed_left}
use Rattle.dart_printer.proofs.Marks.{name_word}
use Rattle.dart_printer.proofs.Keywords.{abstract_word, class_word, var_word, final_word}
use Rattle.dart_printer.proofs.SignTexts.{at, paren_open, paren_close, assign, in_braces, braces}
use Rattle.dart_printer.proofs.StringTexts.{string_word}
use Rattle.dart_printer.proofs.Back.{found, Back, GivesBack}
use Rattle.dart_printer.proofs.Statements.{GivesStaBack}
use Rattle.dart_printer.proofs.Parts.{given_back, value_back, params_back, ret_behind, metas_behind, parent_back, interfaces_back, body_back}
use Rattle.dart_printer.proofs.Members.{members_back, params_cuts}

-- ---- what stands before `class`, and with it

abbrev lead : Bool → Kinds
lead true = both (one (tk.Keyword k.Abstract)) (one (tk.Keyword k.Class))
lead false = both nothing (one (tk.Keyword k.Class))

lead_closed : (b : Bool) {text : Text} {kinds : Kinds} → Closed text kinds → Closed ((if b then word (codes "abstract") else []) ++ (word (codes "class") ++ text)) (both (lead b) kinds)
lead_closed true x = closed_then (cuts_then (cuts_of abstract_word) (cuts_of class_word)) x
lead_closed false x = closed_then (cuts_then cuts_none (cuts_of class_word)) x

-- ---- what marks an entry

record EntryBack (is_entry : Bool) : Type 0 where
  kinds : Kinds
  cuts : Cuts (if is_entry then entry_text else []) kinds
  marks : List Bool
  reads : (f : Tokens → Span) (more : Tokens) → Many Meta (put f kinds more) marks more
  are : any marks ≡ is_entry

pragma_word : Closed (word (codes "pragma")) (one (tk.Name (codes "pragma")))
unfolding keyword_of is_reserved
pragma_word = name_word (codes "pragma") refl

entry_word : Closed (word (codes "'vm:entry-point'")) (one (tk.Str (codes "vm:entry-point")))
entry_word = string_word (codes "vm:entry-point") (omega arith, (omega arith, (omega arith, (omega arith, (omega arith, (omega arith, (omega arith, (omega arith, (omega arith, (omega arith, (omega arith, (omega arith, (omega arith, (omega arith, tt))))))))))))))

entry_back : (is_entry : Bool) → EntryBack is_entry
entry_back true = record {
  kinds = both (one (tk.Sign s.At)) (both (one (tk.Name (codes "pragma"))) (both (one (tk.Sign s.ParenOpen)) (both (one (tk.Str (codes "vm:entry-point"))) (one (tk.Sign s.ParenClose)))));
  cuts = cuts_then (cuts_of at) (cuts_then (cuts_of pragma_word) (cuts_then (cuts_of paren_open) (cuts_then (cuts_of entry_word) (cuts_of paren_close))));
  marks = true ∷ [];
  reads = λ f more. gr.Many.more de.Meta.pragma gr.Many.none;
  are = refl;
}
entry_back false = record { kinds = nothing; cuts = cuts_none; marks = []; reads = λ f more. gr.Many.none; are = refl }

-- ---- one behind the other

-- A text that a line feed may end: nothing, or one that ends in a space.
pub data Ended : Text → Kinds → Type 0 where
  empty : Ended [] nothing
  closed : {text : Text} {kinds : Kinds} → Closed text kinds → Ended text kinds

closed_end : (text : Text) {kinds : Kinds} → Closed text kinds → Closed (text ++ []) (both kinds nothing)
closed_end text x = record {
  core = x.core;
  is = append-nil text ∙ x.is;
  ascii = rw (append-nil text) x.ascii;
  cut = λ n o b rest blank. cut_then (x.cut n o b rest blank) cut_nothing;
}

ended_then : (a b : Text) (ks ls : Kinds) → Closed a ks → Ended b ls → Closed (a ++ b) (both ks ls)
ended_then a _ ks _ x empty = closed_end a x
ended_then a _ ks _ x (closed y) = closed_then (cuts_of x) y

module _ (I : Reading Sta) (inner : GivesStaBack I) (W : Reading Exp) (whole : GivesBack W) where
  class_back : {b : Bool} {ts rest : Tokens} {c : ClassDecl} → ClassText I W b ts c rest → ArePossible ts
      → Back (ClassText I W b) (λ kinds. Closed (class_text c) (both (lead b) kinds)) (λ d. bare_class d ≡ bare_class c) rest
  class_back {b} (de.ClassText.class {n = n} {ms = ms} d d1 ds) ok =
      let p = parent_back d ok.1 in
      let i = interfaces_back d1 p.behind in
      let m = members_back I inner W whole n ds i.behind.1 in
      record {
        kinds = both (one (tk.Name n)) (both p.kinds (both i.kinds (in_braces m.kinds)));
        cuts = lead_closed b (closed_then (cuts_of (name_word n ok.0)) (closed_then p.cuts (closed_then i.cuts (braces m.cuts))));
        reads = λ f more. let x = m.reads f (put f (one (tk.Sign s.BraceClose)) more) in let y = i.reads f (put f (in_braces m.kinds) more) in let z = p.reads f (put f (both i.kinds (in_braces m.kinds)) more) in
            found _ (de.ClassText.class z.reads y.reads x.reads) (λ j. class_of b (named n nowhere) (z.same j) (y.same j) (x.same j));
        behind = m.behind.1;
      }

  declared_back : {e : Bool} {ts rest : Tokens} {x : Top} → Declared I W e ts x rest → ArePossible ts → Back (TopText I W) (Closed (top_text x)) (λ y. bare_top y ≡ bare_top x) rest
  declared_back (de.Declared.class d) ok =
      let a = class_back d ok.1 in
      record {
        kinds = both (lead false) a.kinds;
        cuts = a.cuts;
        reads = λ f more. let p = a.reads f more in found _ (de.TopText.top gr.Many.none (de.Declared.class p.reads)) (λ i. tree.a_class (p.same i));
        behind = a.behind;
      }
  declared_back (de.Declared.abstract d) ok =
      let a = class_back d ok.1.1 in
      record {
        kinds = both (lead true) a.kinds;
        cuts = a.cuts;
        reads = λ f more. let p = a.reads f more in found _ (de.TopText.top gr.Many.none (de.Declared.abstract p.reads)) (λ i. tree.a_class (p.same i));
        behind = a.behind;
      }
  declared_back (de.Declared.variable {n = n} is d) ok =
      let a = value_back d ok.1.1 in
      record {
        kinds = both (one (tk.Keyword k.Var)) (both (one (tk.Name n)) a.kinds);
        cuts = closed_then (cuts_of var_word) (closed_then (cuts_of (name_word n ok.1.0)) a.cuts);
        reads = λ f more. let p = a.reads f more in found _ (de.TopText.top gr.Many.none (de.Declared.variable refl p.reads)) (λ i. tree.a_variable (a_local false (named n nowhere) (p.same i)));
        behind = a.behind;
      }
  declared_back (de.Declared.final {n = n} {x = x} d) ok =
      let a = given_back d ok.1.1.1 in
      record {
        kinds = both (one (tk.Keyword k.Final)) (both (one (tk.Name n)) (both (one (tk.Sign s.Assign)) a.kinds));
        cuts = closed_then (cuts_of final_word) (closed_then (cuts_of (name_word n ok.1.0)) (closed_left (word (codes "=")) (exp_text x) (word (codes ";")) (closed_then (cuts_of assign) a.cuts)));
        reads = λ f more. let p = a.reads f more in found _ (de.TopText.top gr.Many.none (de.Declared.final p.1.reads)) (λ i. tree.a_variable (a_local true (named n nowhere) (Some (p.1.same i))));
        behind = a.behind;
      }
  declared_back (de.Declared.function {e = e} {n = n} {ps = ps} ret d d1) ok =
      let start = ret_behind ret ok in
      let v = entry_back e in
      let a = params_back d start.1.1 in
      let b = body_back I inner W whole d1 a.behind in
      record {
        kinds = both v.kinds (both (one (tk.Name n)) (both (both (one (tk.Sign s.ParenOpen)) a.kinds) b.kinds));
        cuts = closed_then v.cuts (closed_then (cuts_of (name_word n start.0)) (closed_then (params_cuts ps a.cuts) b.cuts));
        reads = λ f more. let q = b.reads f more in let p = a.reads f (put f b.kinds more) in
            found _ (de.TopText.top (v.reads f _) (de.Declared.function de.Ret.none p.reads q.reads)) (λ i. tree.a_function (function_of (v.are i) (named n nowhere) (p.same i) (q.same i)));
        behind = b.behind;
      }

  top_back : {ts rest : Tokens} {x : Top} → TopText I W ts x rest → ArePossible ts → Back (TopText I W) (Closed (top_text x)) (λ y. bare_top y ≡ bare_top x) rest
  top_back (de.TopText.top ds d) ok = declared_back d (metas_behind ds ok)

  pub tops_back : {ts rest : Tokens} {xs : List Top} → Many (TopText I W) ts xs rest → ArePossible ts → Back (Many (TopText I W)) (Ended (flat_map top_text xs)) (λ ys. map bare_top ys ≡ map bare_top xs) rest
  tops_back gr.Many.none ok = record { kinds = nothing; cuts = empty; reads = λ f more. found _ gr.Many.none refl; behind = ok }
  tops_back (gr.Many.more {x = x} {xs = xs} d ds) ok =
      let a = top_back d ok in
      let b = tops_back ds a.behind in
      record {
        kinds = both a.kinds b.kinds;
        cuts = closed (ended_then (top_text x) (flat_map top_text xs) a.kinds b.kinds a.cuts b.cuts);
        reads = λ f more. let q = b.reads f more in let p = a.reads f (put f b.kinds more) in found _ (gr.Many.more p.reads q.reads) (λ i. p.same i ∷ q.same i);
        behind = b.behind;
      }
