-- What a reading gives back: kinds of tokens that the canonical text has, and that are read as the same again.
use Rattle.std.proofs.Common.{◌≡◌, Bool, true, false, List, [], ◌∷◌}
use Rattle.dart_syntax.specs.declared.token.Span.{Span}
use Rattle.dart_syntax.specs.declared.token.TokenKind.{TokenKind}
use Rattle.dart_syntax.specs.declared.token.TokenKind.TheVariants as tk
use Rattle.dart_syntax.specs.declared.token.Keyword.TheVariants as k
use Rattle.dart_syntax.specs.Words.{Tokens}
use Rattle.dart_syntax.specs.Bytes.{Text}
use Rattle.dart_syntax.specs.Operators.{first_kind}
use Rattle.dart_syntax.specs.Syntax.{Exp}
use Rattle.dart_syntax.specs.Text.{exp_text}
use Rattle.dart_syntax.specs.Grammar.{Reading, Many}
use Rattle.dart_syntax.specs.Grammar as gr
use Rattle.dart_printer.specs.Spans.{bare_exp}
use Rattle.dart_printer.specs.ReadsBack.{ArePossible}
use Rattle.dart_printer.proofs.Lists.{Kinds, nothing, both, put}
use Rattle.dart_printer.proofs.Cuts.{Cuts}

abbrev pub is_else : TokenKind → Bool
is_else (tk.Keyword k.Else) = true
is_else _ = false

abbrev pub starts_else : Tokens → Bool
starts_else [] = false
starts_else (t ∷ ts) = is_else t.kind

-- something that is read between two lists
pub record Found {A : Type 0} (R : Reading A) (S : A → Type 0) (ts rest : Tokens) : Type 0 where
  pub it : A
  pub reads : R ts it rest
  pub same : S it

pub found : {A : Type 0} {R : Reading A} {S : A → Type 0} {ts rest : Tokens} (x : A) → R ts x rest → S x → Found R S ts rest
found x r h = record { it = x; reads = r; same = h }

-- Kinds that a text has, by C, and that are read as one of S. Rest is what stands behind the first reading.
pub record Back {A : Type 0} (R : Reading A) (C : Kinds → Type 0) (S : A → Type 0) (rest : Tokens) : Type 0 where
  pub kinds : Kinds
  pub cuts : C kinds
  pub reads : (f : Tokens → Span) (more : Tokens) → Found R S (put f kinds more) more
  pub behind : ArePossible rest

-- the same of an expression, which begins with the same token, and with no `else`
pub record ExpBack (R : Reading Exp) (x : Exp) (ts rest : Tokens) : Type 0 where
  pub kinds : Kinds
  pub cuts : Cuts (exp_text x) kinds
  pub reads : (f : Tokens → Span) (more : Tokens) → Found R (λ y. bare_exp y ≡ bare_exp x) (put f kinds more) more
  pub first : (f : Tokens → Span) (more : Tokens) → first_kind (put f kinds more) ≡ first_kind ts
  pub no_else : (f : Tokens → Span) (more : Tokens) → starts_else (put f kinds more) ≡ false
  pub behind : ArePossible rest

pub record GivesBack (R : Reading Exp) : Type 0 where
  pub back : {ts rest : Tokens} {x : Exp} → R ts x rest → ArePossible ts → ExpBack R x ts rest

-- readings that are readings of another kind
pub exp_as : {R Q : Reading Exp} {ts rest : Tokens} {x : Exp} → ((us vs : Tokens) (y : Exp) → R us y vs → Q us y vs) → ExpBack R x ts rest → ExpBack Q x ts rest
exp_as g b = record {
  kinds = b.kinds;
  cuts = b.cuts;
  reads = λ f more. let r = b.reads f more in record { it = r.it; reads = g _ _ _ r.reads; same = r.same };
  first = b.first;
  no_else = b.no_else;
  behind = b.behind;
}

module _ {A : Type 0} (R : Reading A) (T : A → Text) (TT : List A → Text) (S : A → A → Type 0) (SS : List A → List A → Type 0)
    (nil_text : Cuts (TT []) nothing) (cons_text : (x : A) (xs : List A) (ks ls : Kinds) → Cuts (T x) ks → Cuts (TT xs) ls → Cuts (TT (x ∷ xs)) (both ks ls))
    (nil_same : SS [] []) (cons_same : (y x : A) (ys xs : List A) → S y x → SS ys xs → SS (y ∷ ys) (x ∷ xs))
    (item : (ts rest : Tokens) (x : A) → R ts x rest → ArePossible ts → Back R (Cuts (T x)) (λ y. S y x) rest) where
  -- one behind the other
  pub many_back : {ts rest : Tokens} {xs : List A} → Many R ts xs rest → ArePossible ts → Back (Many R) (Cuts (TT xs)) (λ ys. SS ys xs) rest
  many_back gr.Many.none ok = record { kinds = nothing; cuts = nil_text; reads = λ f more. found _ gr.Many.none nil_same; behind = ok }
  many_back (gr.Many.more {x = x} {xs = xs} d ds) ok =
      let a = item _ _ x d ok in
      let b = many_back ds a.behind in
      record {
        kinds = both a.kinds b.kinds;
        cuts = cons_text x xs a.kinds b.kinds a.cuts b.cuts;
        reads = λ f more. let p = a.reads f (put f b.kinds more) in let q = b.reads f more in found _ (gr.Many.more p.reads q.reads) (cons_same p.it x q.it xs p.same q.same);
        behind = b.behind;
      }
