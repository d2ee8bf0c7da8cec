-- An entered body leaves the variables and `this`.
use Rattle.std.proofs.Common.{ℕ, zero, suc, List, [], refl}
use Rattle.std.specs.Prelude.{map, reverse, Option, Some, None}
use Rattle.program.specs.Bodies as c
use Rattle.program.specs.declared.numbered.Constructor.{Constructor}
use Rattle.program.specs.Parts.{Parts}
use Rattle.dart_values.specs.Values.{Value}
use Rattle.dart_meaning.specs.Calls as calls
use Rattle.dart_meaning.specs.Numbered as n
use Rattle.dart_meaning.specs.Numbered.{Code, the_function, the_method, the_constructor, Coded, coded_at, constructor_of, parameters, enter}
use Rattle.dart_meaning.specs.Program.{Entry, running, listing}
use Rattle.dart_meaning.specs.Run.{Run, Store, Result, went, ended, M, and_then, ◌>>◌, pure, stop, stack_overflow, change, spend_from, framed}
use Rattle.meaning_laws.specs.Laws.{IfWent, SameFrame, EntriesLeaveTheFrame}

-- what puts them back
restored : {A : Type 0} (r : Run Value) (x : Result Value A) → IfWent (and_then x (λ a. change (λ s. record s { vars = r.vars; this = r.this }) >> pure a)) (SameFrame r)
restored r (went a s) = record { vars = refl; this = refl }
restored r (ended e s) = tt

framed_restores : {A : Type 0} (vars : List Value) (this : Value) (m : M Value A) (r : Run Value) → IfWent (framed vars this m r) (SameFrame r)
framed_restores vars this m r = restored r (m (record r { vars = vars; this = this }))

module _ (p : Parts) (enter : Entry Code → M Value Value) where
  constructed : (class : ℕ) (o : Option Constructor) (me : Value) (args : List Value) (r : Run Value) → IfWent (n.construct p enter class o me args r) (SameFrame r)
  constructed class None me args r = framed_restores [] me (n.building p enter class [] c.no_more c.end_of me []) r
  constructed class (Some b) me args r =
      framed_restores (reverse (parameters b.required b.defaults args)) me (n.building p enter class b.sets (c.exps (map c.exp b.passes)) (c.stas (map c.sta b.body)) me (parameters b.required b.defaults args)) r

  coded_restores : (o : Option Coded) (me : Value) (args : List Value) (r : Run Value) → IfWent (n.run_coded p enter o me args r) (SameFrame r)
  coded_restores None me args r = record { vars = refl; this = refl }
  coded_restores (Some k) me args r = framed_restores (reverse (parameters k.required k.defaults args)) me (n.body_value p enter k.body) r

  pub inside_restores : (x : Entry Code) (r : Run Value) → IfWent (n.inside p enter x r) (SameFrame r)
  inside_restores (running (the_function f) me args) r = coded_restores (coded_at p (the_function f)) me args r
  inside_restores (running (the_method m) me args) r = coded_restores (coded_at p (the_method m)) me args r
  inside_restores (running (the_constructor class) me args) r = constructed class (constructor_of p class) me args r
  inside_restores (listing v) r = framed_restores [] v (calls.list_text (n.world p enter) v) r

-- a turn that is spent is none of the frame
of_frame : (r : Run Value) (s : Store) (x : Result Value Value) → IfWent x (SameFrame (record r { store = s })) → IfWent x (SameFrame r)
of_frame r s (went v t) h = record { vars = h.vars; this = h.this }
of_frame r s (ended e t) h = tt

spent : (k : ℕ) (r : Run Value) (m : M Value Value) → ((r : Run Value) → IfWent (m r) (SameFrame r)) → IfWent (and_then (spend_from k r) (λ _. m)) (SameFrame r)
spent zero r m h = tt
spent (suc k) r m h = of_frame r (record r.store { turns = k }) (m (record r { store = record r.store { turns = k } })) (h (record r { store = record r.store { turns = k } }))

stopped : (k : ℕ) (r : Run Value) → IfWent (and_then (spend_from k r) (λ _. stop {A = Value} stack_overflow)) (SameFrame r)
stopped zero r = tt
stopped (suc k) r = tt

pub entries_leave_the_frame : EntriesLeaveTheFrame
unfolding enter
entries_leave_the_frame p zero x r = stopped r.store.turns r
entries_leave_the_frame p (suc depth) x r = spent r.store.turns r (n.inside p (enter p depth) x) (inside_restores p (enter p depth) x)
