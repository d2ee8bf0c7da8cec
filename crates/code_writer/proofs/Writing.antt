-- Code that is written behind other code: what it is from its first instruction on, what it needs, and how long it is.
use Rattle.std.proofs.Common.{◌≡◌, ℕ, zero, suc, ◌+◌, ◌-◌, ◌≤◌, List, [], ◌∷◌, ◌++◌, length, refl, sym, ◌∙◌, ap, subst, arith}
use Rattle.std.specs.Prelude.{slice_get, slice_set, max}
use Rattle.std.proofs.lemmas.List.{append_assoc, length-append}
use Rattle.std.proofs.Math.Seq.{set-append_seam}
use Rattle.program.specs.declared.literal.Literal.{Literal}
use Rattle.code_unit.specs.declared.instr.Instr.{Instr}
use Rattle.code_writer.specs.Constants.{number_in, with_literal}
use Rattle.code_writer.specs.Out.{Out, put, put_constant, with_room, patched, placed, turned}
use Rattle.code_writer.proofs.Tables.{keeps}
use Rattle.std.specs.Prelude.{pos, nat_eq, Bool, true, false, ◌*◌}
use Rattle.program.specs.declared.ids.SiteId.{SiteId}
use Rattle.program.specs.declared.literal.Literal.TheVariants as l
use Rattle.program.specs.declared.body.BinaryOperator.{BinaryOperator}
use Rattle.program.specs.declared.body.BinaryOperator.TheVariants as b
use Rattle.program.specs.declared.body.Joint.{Joint}
use Rattle.program.specs.declared.body.Joint.TheVariants as joint
use Rattle.program.specs.declared.body.OperatorCall.{OperatorCall}
use Rattle.program.specs.Bodies as c
use Rattle.program.specs.Bodies.{Exp, Exps, Pieces, Calls, Links, Target, Update, First, Sta, Stas, count}
use Rattle.program.specs.Sound.{after, after_first}
use Rattle.program.specs.declared.body.Body.{Body}
use Rattle.program.specs.declared.body.Body.TheVariants as body
use Rattle.std.specs.Prelude.{map, Option, Some, None}
use Rattle.program.specs.Parts.{Parts}
use Rattle.dart_meaning.specs.Run.{choose}
use Rattle.code_unit.specs.declared.instr.Instr.TheVariants.{Const, Local, SetLocal, Global, SetGlobal, SetField, Pop, Dup, Dup2, Jump, JumpIfFalse, ExpectBool, Not, LoopTurn, Call, Equal, CallStatic, CallMethod, New, MakeList, Concat, ExpectString, IsClass, Emit, Throw, Return}
use Rattle.program_code.specs.Code as d
use Rattle.program_code.specs.Code.{site, method, class_id}
use Rattle.program_code.specs.Sizes.{pieces_count, operator_size, joint_size, read_size, keep_size, set_size, written, make_size, is_size, size, sizes, pieces_size, calls_size, links_size, place_size, update_size, first_size, drops_size, sta_size, stas_size, sets_size, above_size}
use Rattle.program_code.specs.Needs.{Covers, CoversAll, CoversPieces, CoversCalls, CoversLinks, CoversTarget, CoversUpdate, CoversFirst, CoversSta, CoversStas, CoversBody}
use Rattle.code_writer.specs.declared.layout.Layout.{Layout}
use Rattle.code_writer.specs.Emitted as w
use Rattle.code_writer.specs.Laws as laws
use Rattle.code_writer.specs.Laws.{IsLayout}
use Rattle.code_writer.specs.Emitted.{destination}
use Rattle.code_writer.specs.EmittedStatements as w2

true_is_not_false : true ≡ false → ⊥
true_is_not_false e = cc

append_nothing : {A : Type 0} (xs : List A) → xs ++ [] ≡ xs
append_nothing [] = refl
append_nothing (x ∷ xs) = ap (λ ys. x ∷ ys) (append_nothing xs)

pub turned_append : (n : ℕ) (xs ys : List Instr) → turned n (xs ++ ys) ≡ turned n ys ++ turned n xs
turned_append n [] ys = sym (append_nothing (turned n ys))
turned_append n (x ∷ xs) ys =
    ap (λ zs. zs ++ placed n x ∷ []) (turned_append n xs ys) ∙ append_assoc (turned n ys) (turned n xs) (placed n x ∷ [])

pub turned_length : (n : ℕ) (xs : List Instr) → length (turned n xs) ≡ length xs
turned_length n [] = refl
turned_length n (x ∷ xs) = length-append (turned n xs) (placed n x ∷ []) ∙ omega (arith, turned_length n xs)

abbrev pub body_size : Body → ℕ
body_size (body.Arrow e) = size (c.exp e) + 1
body_size (body.Block all) = stas_size 1 (c.stas (map c.sta all)) + 2

abbrev pub constructor_size : ℕ → List (Option ℕ) → Exps → Stas → ℕ
constructor_size above sets passes all = sets_size sets + (above_size above passes + (stas_size 3 all + 2))

-- a unit of so many instructions, in a pool of these constants, with room for so many arguments
module _ (n_all : ℕ) (constants : List Literal) (room : ℕ) where
  -- What was written so far is a part of it.
  pub record IsPart (table : List Literal) (most : ℕ) : Type 0 where
    pub more : List Literal
    pub begins : constants ≡ table ++ more
    pub fits : most ≤ room

  abbrev pub Part : Out → Type 0
  Part s = IsPart s.table s.room

  -- Behind `s` so many instructions are written, which are these where the whole is a part of the unit; and then what they need is there.
  pub record Writes (s s' : Out) (xs : List Instr) (n : ℕ) (Needs : Type 0) : Type 0 where
    pub tail : List Instr
    pub is : s'.code ≡ s.code ++ tail
    pub long : length tail ≡ n
    pub gives : Part s' → turned n_all tail ≡ xs
    pub needs : Part s' → Needs
    pub part : Part s' → Part s

  pub nothing : (s : Out) → Writes s s [] 0 (Unit {0})
  nothing s = record { tail = []; is = sym (append_nothing s.code); long = refl; gives = λ k. refl; needs = λ k. tt; part = λ k. k }

  pub grown : {s s' : Out} {xs : List Instr} {n : ℕ} {A : Type 0} → Writes s s' xs n A → length s'.code ≡ length s.code + n
  grown {s} {s'} w = ap length w.is ∙ length-append s.code w.tail ∙ omega (arith, w.long)

  pub putting : {s s' : Out} {xs : List Instr} {n : ℕ} {A : Type 0} (i j : Instr) → placed n_all i ≡ j → Writes s s' xs n A → Writes s (put i s') (j ∷ xs) (suc n) A
  putting {s} {s'} {xs} i j same w = record {
    tail = w.tail ++ i ∷ [];
    is = ap (λ ys. ys ++ i ∷ []) w.is ∙ append_assoc s.code w.tail (i ∷ []);
    long = length-append w.tail (i ∷ []) ∙ omega (arith, w.long);
    gives = λ k. turned_append n_all w.tail (i ∷ []) ∙ ap (λ ys. placed n_all i ∷ ys) (w.gives k) ∙ ap (λ x. x ∷ xs) same;
    needs = λ k. w.needs k;
    part = λ k. w.part k;
  }

  pub both : {s s1 s2 : Out} {xs ys : List Instr} {m n : ℕ} {A B : Type 0} → Writes s s1 ys m B → Writes s1 s2 xs n A → Writes s s2 (xs ++ ys) (n + m) (A × B)
  both {s} {s1} {s2} {xs} {ys} w v = record {
    tail = w.tail ++ v.tail;
    is = v.is ∙ ap (λ zs. zs ++ v.tail) w.is ∙ append_assoc s.code w.tail v.tail;
    long = length-append w.tail v.tail ∙ omega (arith, w.long, v.long);
    gives = λ k. turned_append n_all w.tail v.tail ∙ ap (λ zs. zs ++ turned n_all w.tail) (v.gives k) ∙ ap (λ zs. xs ++ zs) (w.gives (v.part k));
    needs = λ k. (v.needs k, w.needs (v.part k));
    part = λ k. w.part (v.part k);
  }

  pub as_is : {s s' : Out} {xs ys : List Instr} {m n : ℕ} {A B : Type 0} → (A → B) → n ≡ m → xs ≡ ys → Writes s s' xs n A → Writes s s' ys m B
  as_is f size same w = record {
    tail = w.tail;
    is = w.is;
    long = w.long ∙ size;
    gives = λ k. w.gives k ∙ same;
    needs = λ k. f (w.needs k);
    part = λ k. w.part k;
  }

  abbrev IsKnown : Literal → Type 0
  IsKnown = laws.IsKnown constants

  pub constant : {s s' : Out} {xs : List Instr} {n : ℕ} {A : Type 0} (l : Literal) → Writes s s' xs n A → Writes s (put_constant l s') (Const (number_in constants l) ∷ xs) (suc n) (IsKnown l × A)
  constant {s} {s'} {xs} {n} {A} l w =
      let before : IsPart (with_literal l s'.table) s'.room → Part s'
      = λ k. let kept = keeps l s'.table k.more in record { more = kept.rest; begins = k.begins ∙ kept.begins; fits = k.fits } in
      let number : IsPart (with_literal l s'.table) s'.room → number_in s'.table l ≡ number_in constants l
      = λ k. (keeps l s'.table k.more).number ∙ ap (λ all. number_in all l) (sym k.begins) in
      let known : IsPart (with_literal l s'.table) s'.room → IsKnown l
      = λ k. subst (λ all. slice_get all (number_in all l) ≡ Some l) (sym k.begins) (keeps l s'.table k.more).there in
      record {
        tail = w.tail ++ Const (number_in s'.table l) ∷ [];
        is = ap (λ ys. ys ++ Const (number_in s'.table l) ∷ []) w.is ∙ append_assoc s.code w.tail (Const (number_in s'.table l) ∷ []);
        long = length-append w.tail (Const (number_in s'.table l) ∷ []) ∙ omega (arith, w.long);
        gives = λ k. turned_append n_all w.tail (Const (number_in s'.table l) ∷ []) ∙ ap (λ ys. Const (number_in s'.table l) ∷ ys) (w.gives (before k)) ∙ ap (λ x. Const x ∷ xs) (number k);
        needs = λ k. (known k, w.needs (before k));
        part = λ k. w.part (before k);
      }

  pub roomy : (s : Out) (n : ℕ) → Writes s (with_room n s) [] 0 (n ≤ room)
  roomy s n = record {
    tail = [];
    is = sym (append_nothing s.code);
    long = refl;
    gives = λ k. refl;
    needs = λ k. omega (arith, k.fits);
    part = λ k. record { more = k.more; begins = k.begins; fits = omega (arith, k.fits) };
  }

  -- The last instruction is a jump to a place that is known in the end.
  pub looping : {s s' : Out} {xs : List Instr} {n : ℕ} {A : Type 0} (d top : ℕ) → n_all - d ≡ top → Writes (put (Jump 0) s) s' xs n A → Writes s (patched (length s.code) d s') (xs ++ Jump top ∷ []) (n + 1) A
  looping {s} {s'} {xs} d top same w = record {
    tail = Jump d ∷ w.tail;
    is = ap (λ ys. slice_set ys (length s.code) (Jump d)) (w.is ∙ append_assoc s.code (Jump 0 ∷ []) w.tail) ∙ set-append_seam s.code (Jump 0) w.tail (Jump d);
    long = omega (arith, w.long);
    gives = λ k. ap (λ ys. ys ++ Jump (n_all - d) ∷ []) (w.gives k) ∙ ap (λ x. xs ++ Jump x ∷ []) same;
    needs = λ k. w.needs k;
    part = λ k. w.part k;
  }

  -- ---- expressions

  module _ (p : Parts) (layout : Layout) (is_layout : IsLayout p layout) where
    -- the code of src/ with these constants
    abbrev code : Exp → ℕ → List Instr
    code = d.code p (number_in constants) layout.first layout.scratch

    abbrev codes_of : Exps → ℕ → List Instr
    codes_of = d.codes_of p (number_in constants) layout.first layout.scratch

    abbrev links : Links → ℕ → List Instr
    links = d.links p (number_in constants) layout.first layout.scratch

    stash_writes : (k n : ℕ) (s : Out) → Writes s (w.put_stash layout k n s) (d.stash p (number_in constants) layout.first layout.scratch k n) n (Unit {0})
    stash_writes k zero s = nothing s
    stash_writes k (suc n) s = putting (SetLocal (layout.scratch + k)) (SetLocal (layout.scratch + k)) refl (stash_writes (suc k) n s)

    fetch_writes : (n : ℕ) (s : Out) → Writes s (w.put_fetch layout n s) (d.fetch p (number_in constants) layout.first layout.scratch n) n (Unit {0})
    fetch_writes zero s = nothing s
    fetch_writes (suc n) s = putting (Local (layout.scratch + n)) (Local (layout.scratch + n)) refl (fetch_writes n s)

    constructor_is : (class : ℕ) → w.constructor layout class ≡ d.constructor p (number_in constants) layout.first layout.scratch class
    constructor_is class = ap (λ k. k + (class - 7)) is_layout.functions

    make_writes : (is_object : Bool) (class n : ℕ) (s : Out)
        → Writes s
        (choose is_object (put (New (class_id class)) (with_room n s)) (w.put_stash layout 0 n (put (New (class_id class)) (w.put_fetch layout n (put (CallStatic (w.constructor layout class) (suc n)) (with_room n s))))))
        (choose is_object (New (class_id class) ∷ []) (d.stash p (number_in constants) layout.first layout.scratch 0 n ++ (New (class_id class) ∷ (d.fetch p (number_in constants) layout.first layout.scratch n ++ CallStatic (d.constructor p (number_in constants) layout.first layout.scratch class) (suc n) ∷ []))))
        (choose is_object 1 (n + n + 2)) (n ≤ room)
    make_writes true class n s = putting (New (class_id class)) (New (class_id class)) refl (roomy s n)
    make_writes false class n s =
        let called = putting (CallStatic (w.constructor layout class) (suc n)) _ (ap (λ k. CallStatic k (suc n)) (constructor_is class)) (roomy s n) in
        let fetched = putting (New (class_id class)) (New (class_id class)) refl (both called (fetch_writes n _)) in
        as_is (λ h. h.1.1) (omega arith) refl (both fetched (stash_writes 0 n _))

    read_writes : (to : Update) (s : Out) → Writes s (w.put_read layout to s) (d.read p (number_in constants) layout.first layout.scratch to) (read_size to) (Unit {0})
    read_writes (c.of_local k) s = putting (Local (layout.first + k)) (Local (layout.first + k)) refl (nothing s)
    read_writes (c.of_global k) s = putting (Global k) (Global k) refl (nothing s)
    read_writes (c.of_super g m) s = putting Dup Dup refl (putting (CallMethod (method g) 1) (CallMethod (method g) 1) refl (nothing s))
    read_writes (c.of_member e g x) s = putting Dup Dup refl (putting (Call (site g) 0) (Call (site g) 0) refl (nothing s))
    read_writes (c.of_element e i g x) s = putting Dup2 Dup2 refl (putting (Call (site g) 1) (Call (site g) 1) refl (nothing s))

    keep_writes : (to : Target) (s : Out) → Writes s (w.put_keep layout (destination to) s) (d.keep p (number_in constants) layout.first layout.scratch to) (keep_size to) (Unit {0})
    keep_writes (c.to_local k) s = putting Dup Dup refl (nothing s)
    keep_writes (c.to_global k) s = putting Dup Dup refl (nothing s)
    keep_writes (c.to_super m) s = putting Dup Dup refl (putting (SetLocal layout.scratch) (SetLocal layout.scratch) refl (nothing s))
    keep_writes (c.to_member e x) s = putting Dup Dup refl (putting (SetLocal layout.scratch) (SetLocal layout.scratch) refl (nothing s))
    keep_writes (c.to_element e i x) s = putting Dup Dup refl (putting (SetLocal layout.scratch) (SetLocal layout.scratch) refl (nothing s))

    kept_writes : (s : Out) → Writes s (put Pop (put (Local layout.scratch) s)) (Pop ∷ Local layout.scratch ∷ []) 2 (Unit {0})
    kept_writes s = putting Pop Pop refl (putting (Local layout.scratch) (Local layout.scratch) refl (nothing s))

    set_writes : (to : Target) (s : Out) → Writes s (w.put_set layout (destination to) s) (d.set p (number_in constants) layout.first layout.scratch to) (set_size to) (Unit {0})
    set_writes (c.to_local k) s = putting (SetLocal (layout.first + k)) (SetLocal (layout.first + k)) refl (nothing s)
    set_writes (c.to_global k) s = putting (SetGlobal k) (SetGlobal k) refl (nothing s)
    set_writes (c.to_super m) s = putting (CallMethod (method m) 2) (CallMethod (method m) 2) refl (kept_writes s)
    set_writes (c.to_member e x) s = putting (Call (site x) 1) (Call (site x) 1) refl (kept_writes s)
    set_writes (c.to_element e i x) s = putting (Call (site x) 2) (Call (site x) 2) refl (kept_writes s)

    operate_writes : {s s' : Out} {xs : List Instr} {n : ℕ} {A : Type 0} (k : OperatorCall) → Writes s s' xs n A → Writes s (w.put_operator layout k s') (Call k.site 1 ∷ xs) (suc n) A
    operate_writes k v = putting (Call k.site 1) (Call k.site 1) refl v

    step_writes : (before : Bool) (op : OperatorCall) (to : Update) (s : Out)
        → Writes s (w.put_step layout before op to s) (d.stepped p (number_in constants) layout.first layout.scratch before op to) (read_size to + (2 + (keep_size (written to) + set_size (written to)))) (IsKnown (l.Int (pos 1)))
    step_writes true op to s =
        let written_ = both (set_writes (written to) s) (keep_writes (written to) _) in
        as_is (λ h. h.1.0) (omega arith) refl (both (constant (l.Int (pos 1)) (operate_writes op written_)) (read_writes to _))
    step_writes false op to s =
        let added = constant (l.Int (pos 1)) (operate_writes op (set_writes (written to) s)) in
        as_is (λ h. h.1.1.0) (omega arith) refl (both (both added (keep_writes (written to) _)) (read_writes to _))

    combined_writes : (op : BinaryOperator) (x : SiteId) (s : Out) → Writes s (w.put_combined layout op x s) (d.combined p (number_in constants) layout.first layout.scratch op x) (operator_size op) (Unit {0})
    combined_writes b.Equal x s = putting (Equal x) (Equal x) refl (putting ExpectBool ExpectBool refl (nothing s))
    combined_writes b.NotEqual x s = putting (Equal x) (Equal x) refl (putting ExpectBool ExpectBool refl (putting Not Not refl (nothing s)))
    combined_writes b.Less x s = putting (Call x 1) (Call x 1) refl (nothing s)
    combined_writes b.LessEqual x s = putting (Call x 1) (Call x 1) refl (nothing s)
    combined_writes b.Greater x s = putting (Call x 1) (Call x 1) refl (nothing s)
    combined_writes b.GreaterEqual x s = putting (Call x 1) (Call x 1) refl (nothing s)
    combined_writes b.BitOr x s = putting (Call x 1) (Call x 1) refl (nothing s)
    combined_writes b.BitXor x s = putting (Call x 1) (Call x 1) refl (nothing s)
    combined_writes b.BitAnd x s = putting (Call x 1) (Call x 1) refl (nothing s)
    combined_writes b.ShiftLeft x s = putting (Call x 1) (Call x 1) refl (nothing s)
    combined_writes b.ShiftRight x s = putting (Call x 1) (Call x 1) refl (nothing s)
    combined_writes b.ShiftUnsigned x s = putting (Call x 1) (Call x 1) refl (nothing s)
    combined_writes b.Add x s = putting (Call x 1) (Call x 1) refl (nothing s)
    combined_writes b.Subtract x s = putting (Call x 1) (Call x 1) refl (nothing s)
    combined_writes b.Multiply x s = putting (Call x 1) (Call x 1) refl (nothing s)
    combined_writes b.Divide x s = putting (Call x 1) (Call x 1) refl (nothing s)
    combined_writes b.Remainder x s = putting (Call x 1) (Call x 1) refl (nothing s)

    mutual
      pub exp_writes : (e : Exp) (s : Out) (t : ℕ) → t + size e + length s.code ≡ n_all → Writes s (w.emit layout e s) (code e t) (size e) (Covers IsKnown room e)
      exp_writes (c.constant k) s t h = as_is (λ n. n.0) refl refl (constant k (nothing s))
      exp_writes c.this s t h = putting (Local 0) (Local 0) refl (nothing s)
      exp_writes (c.local k) s t h = putting (Local (layout.first + k)) (Local (layout.first + k)) refl (nothing s)
      exp_writes (c.global k) s t h = putting (Global k) (Global k) refl (nothing s)
      exp_writes (c.interpolation units more) s t h =
          let last = putting (Concat (1 + 2 * pieces_count more)) (Concat (1 + 2 * pieces_count more)) refl (nothing s) in
          as_is (λ n. (n.0, n.1.0)) (omega arith) refl (constant (l.Str units) (both last (pieces_write more _ (t + 1) (omega (arith, h, grown last)))))
      exp_writes (c.call_function f args) s t h =
          let last = putting (CallStatic f (count args)) (CallStatic f (count args)) refl (nothing s) in
          as_is (λ n. n.0) refl refl (both last (exps_write args _ t (omega (arith, h, grown last))))
      exp_writes (c.print e) s t h =
          let null = constant l.Null (nothing s) in
          let last = putting (Call (site layout.print_site) 0) _ (ap (λ k. Call (site k) 0) is_layout.print_site) (putting ExpectString ExpectString refl (putting Emit Emit refl null)) in
          as_is (λ n. n.0) refl refl (both last (exp_writes e _ t (omega (arith, h, grown last))))
      exp_writes (c.new class args) s t h =
          let last = make_writes (nat_eq class 0) class (count args) s in
          as_is (λ n. (n.1, n.0)) refl refl (both last (exps_write args _ t (omega (arith, h, grown last))))
      exp_writes (c.super m args) s t h =
          let last = putting (CallMethod (method m) (suc (count args))) (CallMethod (method m) (suc (count args))) refl (nothing s) in
          as_is (λ n. n.0) (omega arith) refl (putting (Local 0) (Local 0) refl (both last (exps_write args _ (t + 1) (omega (arith, h, grown last)))))
      exp_writes (c.list_of items) s t h =
          let last = putting (MakeList (count items)) (MakeList (count items)) refl (nothing s) in
          as_is (λ n. n.0) refl refl (both last (exps_write items _ t (omega (arith, h, grown last))))
      exp_writes (c.postfix e more) s t h =
          let last = calls_write more s (t + size e) (omega (arith, h)) in
          both last (exp_writes e _ t (omega (arith, h, grown last)))
      exp_writes (c.chain e more) s t h =
          let last = links_write more s (t + size e) (omega (arith, h)) in
          both last (exp_writes e _ t (omega (arith, h, grown last)))
      exp_writes (c.not e) s t h =
          let last = putting Not Not refl (nothing s) in
          as_is (λ n. n.0) refl refl (both last (exp_writes e _ t (omega (arith, h, grown last))))
      exp_writes (c.is e true class) s t h =
          let last = putting (IsClass (class_id class)) (IsClass (class_id class)) refl (putting Not Not refl (nothing s)) in
          as_is (λ n. n.0) refl refl (both last (exp_writes e _ t (omega (arith, h, grown last))))
      exp_writes (c.is e false class) s t h =
          let last = putting (IsClass (class_id class)) (IsClass (class_id class)) refl (nothing s) in
          as_is (λ n. n.0) refl refl (both last (exp_writes e _ t (omega (arith, h, grown last))))
      exp_writes (c.conditional x y z) s t h =
          let then_at : ℕ = t + size x + 1 in
          let else_at : ℕ = then_at + size y + 1 in
          let other = exp_writes z s else_at (omega (arith, h)) in
          let jump = putting (Jump (length s.code)) (Jump (else_at + size z)) (ap Jump (omega (arith, h))) other in
          let one = both jump (exp_writes y _ then_at (omega (arith, h, grown jump))) in
          let test = putting (JumpIfFalse (length (w.emit layout z s).code)) (JumpIfFalse else_at) (ap JumpIfFalse (omega (arith, h, grown other))) one in
          as_is (λ n. (n.0, n.1.0, n.1.1)) (omega arith) refl (both test (exp_writes x _ t (omega (arith, h, grown test))))
      exp_writes (c.assign to e) s t h =
          let last = both (set_writes to s) (keep_writes to _) in
          let right = both last (exp_writes e _ (t + place_size to) (omega (arith, h, grown last))) in
          as_is (λ n. (n.0, n.1.0)) refl refl (both right (target_writes to _ t (omega (arith, h, grown right))))
      exp_writes (c.compound_assign to op e) s t h =
          let last = operate_writes op (both (set_writes (written to) s) (keep_writes (written to) _)) in
          let right = both last (exp_writes e _ (t + update_size to + read_size to) (omega (arith, h, grown last))) in
          let old = both right (read_writes to _) in
          as_is (λ n. (n.0, n.1.1.0)) (omega arith) refl (both old (update_writes to _ t (omega (arith, h, grown old))))
      exp_writes (c.increment before op to) s t h =
          let last = step_writes before op to s in
          as_is (λ n. (n.1, n.0)) refl refl (both last (update_writes to _ t (omega (arith, h, grown last))))
      exp_writes (c.throw e) s t h =
          let last = putting Throw Throw refl (nothing s) in
          as_is (λ n. n.0) refl refl (both last (exp_writes e _ t (omega (arith, h, grown last))))

      pub exps_write : (es : Exps) (s : Out) (t : ℕ) → t + sizes es + length s.code ≡ n_all → Writes s (w.emit_all layout es s) (codes_of es t) (sizes es) (CoversAll IsKnown room es)
      exps_write c.no_more s t h = nothing s
      exps_write (c.also e more) s t h =
          let last = exps_write more s (t + size e) (omega (arith, h)) in
          both last (exp_writes e _ t (omega (arith, h, grown last)))

      pieces_write : (ps : Pieces) (s : Out) (t : ℕ) → t + pieces_size ps + length s.code ≡ n_all
          → Writes s (w.emit_pieces layout ps s) (d.pieces p (number_in constants) layout.first layout.scratch ps t) (pieces_size ps) (CoversPieces IsKnown room ps)
      pieces_write c.no_piece s t h = nothing s
      pieces_write (c.piece x e after more) s t h =
          let last = pieces_write more s (t + size e + 3) (omega (arith, h)) in
          let then = putting (Call (site x) 0) (Call (site x) 0) refl (putting ExpectString ExpectString refl (constant (l.Str after) last)) in
          as_is (λ n. (n.1.0, n.0, n.1.1)) (omega arith) refl (both then (exp_writes e _ t (omega (arith, h, grown then))))

      calls_write : (ks : Calls) (s : Out) (t : ℕ) → t + calls_size ks + length s.code ≡ n_all
          → Writes s (w.emit_calls layout ks s) (d.calls p (number_in constants) layout.first layout.scratch ks t) (calls_size ks) (CoversCalls IsKnown room ks)
      calls_write c.no_call s t h = nothing s
      calls_write (c.call x args more) s t h =
          let last = calls_write more s (t + sizes args + 1) (omega (arith, h)) in
          let call = putting (Call (site x) (count args)) (Call (site x) (count args)) refl last in
          as_is (λ n. n) (omega arith) refl (both call (exps_write args _ t (omega (arith, h, grown call))))

      links_write : (ls : Links) (s : Out) (t : ℕ) → t + links_size ls + length s.code ≡ n_all
          → Writes s (w.emit_links layout ls s) (links ls t) (links_size ls) (CoversLinks IsKnown room ls)
      links_write c.no_link s t h = nothing s
      links_write (c.link joint.And e more) s t h =
          let last = links_write more s (t + (size e + 4)) (omega (arith, h)) in
          let bool = putting ExpectBool ExpectBool refl last in
          let right = both bool (exp_writes e _ (t + 3) (omega (arith, h, grown bool))) in
          let test = putting (JumpIfFalse (length (w.emit_links layout more s).code)) (JumpIfFalse (t + 3 + size e + 1)) (ap JumpIfFalse (omega (arith, h, grown last))) (putting Pop Pop refl right) in
          as_is (λ n. n) (omega arith) (ap (λ xs. Dup ∷ JumpIfFalse (t + 3 + size e + 1) ∷ Pop ∷ xs) (sym (append_assoc (code e (t + 3)) (ExpectBool ∷ []) (links more (t + (size e + 4)))))) (putting Dup Dup refl test)
      links_write (c.link joint.Or e more) s t h =
          let last = links_write more s (t + (size e + 5)) (omega (arith, h)) in
          let bool = putting ExpectBool ExpectBool refl last in
          let right = both bool (exp_writes e _ (t + 4) (omega (arith, h, grown bool))) in
          let test = putting (JumpIfFalse (length (w.emit_links layout more s).code)) (JumpIfFalse (t + 4 + size e + 1)) (ap JumpIfFalse (omega (arith, h, grown last))) (putting Pop Pop refl right) in
          as_is (λ n. n) (omega arith) (ap (λ xs. Dup ∷ Not ∷ JumpIfFalse (t + 4 + size e + 1) ∷ Pop ∷ xs) (sym (append_assoc (code e (t + 4)) (ExpectBool ∷ []) (links more (t + (size e + 5)))))) (putting Dup Dup refl (putting Not Not refl test))
      links_write (c.link (joint.Operator k) e more) s t h =
          let last = links_write more s (t + (size e + operator_size k.operator)) (omega (arith, h)) in
          let call = both last (combined_writes k.operator k.site _) in
          as_is (λ n. (n.0, n.1.1)) (omega arith)
          (sym (append_assoc (code e t) (d.combined p (number_in constants) layout.first layout.scratch k.operator k.site) (links more (t + (size e + operator_size k.operator)))))
          (both call (exp_writes e _ t (omega (arith, h, grown call))))

      target_writes : (to : Target) (s : Out) (t : ℕ) → t + place_size to + length s.code ≡ n_all
          → Writes s (w.emit_place layout to s) (d.place p (number_in constants) layout.first layout.scratch to t) (place_size to) (CoversTarget IsKnown room to)
      target_writes (c.to_local k) s t h = nothing s
      target_writes (c.to_global k) s t h = nothing s
      target_writes (c.to_super m) s t h = putting (Local 0) (Local 0) refl (nothing s)
      target_writes (c.to_member e x) s t h = exp_writes e s t h
      target_writes (c.to_element e i x) s t h =
          let last = exp_writes i s (t + size e) (omega (arith, h)) in
          both last (exp_writes e _ t (omega (arith, h, grown last)))

      update_writes : (to : Update) (s : Out) (t : ℕ) → t + update_size to + length s.code ≡ n_all
          → Writes s (w.emit_update layout to s) (d.update_place p (number_in constants) layout.first layout.scratch to t) (update_size to) (CoversUpdate IsKnown room to)
      update_writes (c.of_local k) s t h = nothing s
      update_writes (c.of_global k) s t h = nothing s
      update_writes (c.of_super g m) s t h = putting (Local 0) (Local 0) refl (nothing s)
      update_writes (c.of_member e g x) s t h = exp_writes e s t h
      update_writes (c.of_element e i g x) s t h =
          let last = exp_writes i s (t + size e) (omega (arith, h)) in
          both last (exp_writes e _ t (omega (arith, h, grown last)))

    -- ---- statements

    drops_write : (es : Exps) (s : Out) (t : ℕ) → t + drops_size es + length s.code ≡ n_all
        → Writes s (w2.emit_drops layout es s) (d.drops p (number_in constants) layout.first layout.scratch es t) (drops_size es) (CoversAll IsKnown room es)
    drops_write c.no_more s t h = nothing s
    drops_write (c.also e more) s t h =
        let last = putting Pop Pop refl (drops_write more s (t + size e + 1) (omega (arith, h))) in
        as_is (λ n. n) (omega arith) refl (both last (exp_writes e _ t (omega (arith, h, grown last))))

    first_writes : (x : First) (n : ℕ) (s : Out) (t : ℕ) → t + first_size x + length s.code ≡ n_all
        → Writes s (w2.emit_first layout x n s) (d.first_code p (number_in constants) layout.first layout.scratch x n t) (first_size x) (CoversFirst IsKnown room x)
    first_writes c.no_first n s t h = nothing s
    first_writes (c.first_declares e) n s t h =
        let last = putting (SetLocal (layout.first + n)) (SetLocal (layout.first + n)) refl (nothing s) in
        as_is (λ n. n.0) refl refl (both last (exp_writes e _ t (omega (arith, h, grown last))))
    first_writes (c.first_runs e) n s t h =
        let last = putting Pop Pop refl (nothing s) in
        as_is (λ n. n.0) refl refl (both last (exp_writes e _ t (omega (arith, h, grown last))))

    module _ (leave : List Instr) (leaves : (s : Out) → Writes s (w2.put_leave layout s) leave (length leave) (Unit {0})) where
      abbrev ss : Sta → ℕ
      ss = sta_size (length leave)

      abbrev sta : Sta → ℕ → ℕ → ℕ → ℕ → List Instr
      sta = d.sta p (number_in constants) layout.first layout.scratch leave

      mutual
        pub sta_writes : (x : Sta) (n brk cont b k : ℕ) (s : Out) (t : ℕ) → b + brk ≡ n_all → k + cont ≡ n_all → t + ss x + length s.code ≡ n_all
            → Writes s (w2.emit_sta layout x n brk cont s) (sta x n b k t) (ss x) (CoversSta IsKnown room x)
        sta_writes (c.block all) n brk cont b k s t hb hk h = stas_write all n brk cont b k s t hb hk h
        sta_writes (c.declare e) n brk cont b k s t hb hk h =
            let last = putting (SetLocal (layout.first + n)) (SetLocal (layout.first + n)) refl (nothing s) in
            as_is (λ n. n.0) refl refl (both last (exp_writes e _ t (omega (arith, h, grown last))))
        sta_writes (c.run e) n brk cont b k s t hb hk h =
            let last = putting Pop Pop refl (nothing s) in
            as_is (λ n. n.0) refl refl (both last (exp_writes e _ t (omega (arith, h, grown last))))
        sta_writes c.empty n brk cont b k s t hb hk h = nothing s
        sta_writes (c.when e x) n brk cont b k s t hb hk h =
            let then_at : ℕ = t + size e + 1 in
            let then = sta_writes x n brk cont b k s then_at hb hk (omega (arith, h)) in
            let test = putting (JumpIfFalse (length s.code)) (JumpIfFalse (then_at + ss x)) (ap JumpIfFalse (omega (arith, h))) then in
            as_is (λ n. n) (omega arith) refl (both test (exp_writes e _ t (omega (arith, h, grown test))))
        sta_writes (c.when_else e x y) n brk cont b k s t hb hk h =
            let then_at : ℕ = t + size e + 1 in
            let else_at : ℕ = then_at + ss x + 1 in
            let other = sta_writes y n brk cont b k s else_at hb hk (omega (arith, h)) in
            let jump = putting (Jump (length s.code)) (Jump (else_at + ss y)) (ap Jump (omega (arith, h))) other in
            let one = both jump (sta_writes x n brk cont b k _ then_at hb hk (omega (arith, h, grown jump))) in
            let test = putting (JumpIfFalse (length (w2.emit_sta layout y n brk cont s).code)) (JumpIfFalse else_at) (ap JumpIfFalse (omega (arith, h, grown other))) one in
            as_is (λ n. (n.0, n.1.0, n.1.1)) (omega arith) refl (both test (exp_writes e _ t (omega (arith, h, grown test))))
        sta_writes (c.while e x) n brk cont b k s t hb hk h =
            let body_at : ℕ = t + size e + 2 in
            let last_at : ℕ = body_at + ss x in
            let end : ℕ = last_at + 1 in
            let jump = putting (Jump 0) (Jump (n_all - 0)) refl (nothing s) in
            let body = sta_writes x n (length s.code) (length (put (Jump 0) s).code) end last_at (put (Jump 0) s) body_at (omega (arith, h)) (omega (arith, h, grown jump)) (omega (arith, h, grown jump)) in
            let test = putting (JumpIfFalse (length s.code)) (JumpIfFalse end) (ap JumpIfFalse (omega (arith, h))) (putting LoopTurn LoopTurn refl body) in
            let whole = both test (exp_writes e _ t (omega (arith, h, grown test, grown jump))) in
            as_is (λ n. n) (omega arith) (append_assoc (code e t) (JumpIfFalse end ∷ LoopTurn ∷ sta x n end last_at body_at) (Jump t ∷ []))
            (looping _ t (omega (arith, h, grown whole, grown jump)) whole)
        sta_writes (c.for start e more x) n brk cont b k s t hb hk h =
            let m : ℕ = after_first n start in
            let top : ℕ = t + first_size start in
            let body_at : ℕ = top + size e + 2 in
            let last_at : ℕ = body_at + ss x in
            let end : ℕ = last_at + drops_size more + 1 in
            let jump = putting (Jump 0) (Jump (n_all - 0)) refl (nothing s) in
            let drop = drops_write more (put (Jump 0) s) last_at (omega (arith, h, grown jump)) in
            let body = both drop (sta_writes x m (length s.code) (length (w2.emit_drops layout more (put (Jump 0) s)).code) end last_at _ body_at (omega (arith, h)) (omega (arith, h, grown jump, grown drop)) (omega (arith, h, grown jump, grown drop))) in
            let test = putting (JumpIfFalse (length s.code)) (JumpIfFalse end) (ap JumpIfFalse (omega (arith, h))) (putting LoopTurn LoopTurn refl body) in
            let whole = both test (exp_writes e _ top (omega (arith, h, grown test, grown jump))) in
            let loop = looping _ top (omega (arith, h, grown whole, grown jump)) whole in
            let drops : List Instr = d.drops p (number_in constants) layout.first layout.scratch more last_at in
            let loop_is : (code e top ++ (JumpIfFalse end ∷ LoopTurn ∷ (sta x m end last_at body_at ++ drops))) ++ Jump top ∷ [] ≡ code e top ++ (JumpIfFalse end ∷ LoopTurn ∷ (sta x m end last_at body_at ++ (drops ++ Jump top ∷ [])))
            = append_assoc (code e top) (JumpIfFalse end ∷ LoopTurn ∷ (sta x m end last_at body_at ++ drops)) (Jump top ∷ [])
            ∙ ap (λ zs. code e top ++ (JumpIfFalse end ∷ LoopTurn ∷ zs)) (append_assoc (sta x m end last_at body_at) drops (Jump top ∷ [])) in
            as_is (λ q. (q.0, q.1.0, q.1.1.1, q.1.1.0)) (omega arith) (ap (λ zs. d.first_code p (number_in constants) layout.first layout.scratch start n t ++ zs) loop_is)
            (both loop (first_writes start n _ t (omega (arith, h, grown loop))))
        sta_writes (c.do_while x e) n brk cont b k s t hb hk h =
            let body_at : ℕ = t + 1 in
            let test_at : ℕ = body_at + ss x in
            let end : ℕ = test_at + size e + 2 in
            let jump = putting (Jump 0) (Jump (n_all - 0)) refl (nothing s) in
            let go = putting (JumpIfFalse (length s.code)) (JumpIfFalse end) (ap JumpIfFalse (omega (arith, h))) (nothing (put (Jump 0) s)) in
            let test = both go (exp_writes e _ test_at (omega (arith, h, grown go, grown jump))) in
            let body = both test (sta_writes x n (length s.code) (length (w.emit layout e (put (JumpIfFalse (length s.code)) (put (Jump 0) s))).code) end test_at _ body_at (omega (arith, h)) (omega (arith, h, grown test, grown jump)) (omega (arith, h, grown test, grown jump))) in
            let whole = putting LoopTurn LoopTurn refl body in
            let loop = looping _ t (omega (arith, h, grown whole, grown jump)) whole in
            as_is (λ q. (q.0, q.1.0)) (omega arith)
            (ap (λ zs. LoopTurn ∷ zs) (append_assoc (sta x n end test_at body_at) (code e test_at ++ JumpIfFalse end ∷ []) (Jump t ∷ []) ∙ ap (λ zs. sta x n end test_at body_at ++ zs) (append_assoc (code e test_at) (JumpIfFalse end ∷ []) (Jump t ∷ []))))
            loop
        sta_writes c.break n brk cont b k s t hb hk h = putting (Jump brk) (Jump b) (ap Jump (omega (arith, hb))) (nothing s)
        sta_writes c.continue n brk cont b k s t hb hk h = putting (Jump cont) (Jump k) (ap Jump (omega (arith, hk))) (nothing s)
        sta_writes (c.return e) n brk cont b k s t hb hk h =
            let last = leaves s in
            as_is (λ n. n.0) refl refl (both last (exp_writes e _ t (omega (arith, h, grown last))))

        pub stas_write : (xs : Stas) (n brk cont b k : ℕ) (s : Out) (t : ℕ) → b + brk ≡ n_all → k + cont ≡ n_all → t + stas_size (length leave) xs + length s.code ≡ n_all
            → Writes s (w2.emit_stas layout xs n brk cont s) (d.stas p (number_in constants) layout.first layout.scratch leave xs n b k t) (stas_size (length leave) xs) (CoversStas IsKnown room xs)
        stas_write c.end_of n brk cont b k s t hb hk h = nothing s
        stas_write (c.next x more) n brk cont b k s t hb hk h =
            let last = stas_write more (after n x) brk cont b k s (t + ss x) hb hk (omega (arith, h)) in
            both last (sta_writes x n brk cont b k _ t hb hk (omega (arith, h, grown last)))

    -- ---- bodies

    value_leaves : layout.of_constructor ≡ false → (s : Out) → Writes s (w2.put_leave layout s) (Return ∷ []) 1 (Unit {0})
    value_leaves e s =
        subst (λ b. Writes s (choose b (put Pop (put (Local 0) (put Return s))) (put Return s)) (Return ∷ []) 1 (Unit {0})) (sym e) (putting Return Return refl (nothing s))

    object_leaves : layout.of_constructor ≡ true → (s : Out) → Writes s (w2.put_leave layout s) (Pop ∷ Local 0 ∷ Return ∷ []) 3 (Unit {0})
    object_leaves e s =
        subst (λ b. Writes s (choose b (put Pop (put (Local 0) (put Return s))) (put Return s)) (Pop ∷ Local 0 ∷ Return ∷ []) 3 (Unit {0})) (sym e)
        (putting Pop Pop refl (putting (Local 0) (Local 0) refl (putting Return Return refl (nothing s))))

    pub body_writes : layout.of_constructor ≡ false → (x : Body) (n : ℕ) (s : Out) → body_size x + length s.code ≡ n_all
        → Writes s (w2.emit_body layout x n s) (d.body_code p (number_in constants) layout.first layout.scratch x n) (body_size x) (CoversBody IsKnown room x)
    body_writes plain (body.Arrow e) n s h =
        let last = putting Return Return refl (nothing s) in
        as_is (λ q. q.0) refl refl (both last (exp_writes (c.exp e) _ 0 (omega (arith, h, grown last))))
    body_writes plain (body.Block all) n s h =
        let last = constant l.Null (putting Return Return refl (nothing s)) in
        let end : ℕ = stas_size 1 (c.stas (map c.sta all)) in
        as_is (λ q. q.0) refl refl
        (both last (stas_write (Return ∷ []) (value_leaves plain) (c.stas (map c.sta all)) n (length (put_constant l.Null (put Return s)).code) (length (put_constant l.Null (put Return s)).code) end end _ 0 (omega (arith, h, grown last)) (omega (arith, h, grown last)) (omega (arith, h, grown last))))

    sets_write : (sets : List (Option ℕ)) (i : ℕ) (s : Out) → Writes s (w2.emit_sets layout sets i s) (d.sets_code p (number_in constants) layout.first layout.scratch sets i) (sets_size sets) (Unit {0})
    sets_write [] i s = nothing s
    sets_write (None ∷ more) i s = sets_write more (suc i) s
    sets_write (Some field ∷ more) i s =
        as_is (λ q. q) (omega arith) refl (putting (Local 0) (Local 0) refl (putting (Local i) (Local i) refl (putting (SetField field) (SetField field) refl (sets_write more (suc i) s))))

    above_writes : (is_object : Bool) (above : ℕ) (passes : Exps) (s : Out) (t : ℕ) → t + choose is_object 0 (1 + (sizes passes + 2)) + length s.code ≡ n_all
        → Writes s
        (choose is_object s (put (Local 0) (w.emit_all layout passes (put (CallStatic (w.constructor layout above) (suc (count passes))) (put Pop s)))))
        (choose is_object [] (Local 0 ∷ (codes_of passes (t + 1) ++ CallStatic (d.constructor p (number_in constants) layout.first layout.scratch above) (suc (count passes)) ∷ Pop ∷ [])))
        (choose is_object 0 (1 + (sizes passes + 2))) (is_object ≡ false → CoversAll IsKnown room passes)
    above_writes true above passes s t h = as_is (λ q e. absurd (true_is_not_false e)) refl refl (nothing s)
    above_writes false above passes s t h =
        let last = putting (CallStatic (w.constructor layout above) (suc (count passes))) _ (ap (λ k. CallStatic k (suc (count passes))) (constructor_is above)) (putting Pop Pop refl (nothing s)) in
        as_is (λ q e. q.0) (omega arith) refl (putting (Local 0) (Local 0) refl (both last (exps_write passes _ (t + 1) (omega (arith, h, grown last)))))

    pub constructor_writes : layout.of_constructor ≡ true → (above : ℕ) (sets : List (Option ℕ)) (passes : Exps) (all : Stas) (n : ℕ) (s : Out) → constructor_size above sets passes all + length s.code ≡ n_all
        → Writes s (w2.emit_constructor layout above sets passes all n s) (d.constructor_code p (number_in constants) layout.first layout.scratch above sets passes all n) (constructor_size above sets passes all)
        ((nat_eq above 0 ≡ false → CoversAll IsKnown room passes) × CoversStas IsKnown room all)
    constructor_writes made above sets passes all n s h =
        let body_at : ℕ = sets_size sets + above_size above passes in
        let end : ℕ = body_at + stas_size 3 all in
        let last = putting (Local 0) (Local 0) refl (putting Return Return refl (nothing s)) in
        let done = both last (stas_write (Pop ∷ Local 0 ∷ Return ∷ []) (object_leaves made) all n (length (put (Local 0) (put Return s)).code) (length (put (Local 0) (put Return s)).code) end end _ body_at (omega (arith, h, grown last)) (omega (arith, h, grown last)) (omega (arith, h, grown last))) in
        let up = both done (above_writes (nat_eq above 0) above passes _ (sets_size sets) (omega (arith, h, grown done))) in
        as_is (λ q. (q.1.0, q.1.1.0)) (omega arith) refl (both up (sets_write sets layout.first _))

pub written_exp : (p : Parts) (layout : Layout) → IsLayout p layout → (e : Exp) (s : Out) → s.code ≡ [] → (more : List Literal)
    → (turned (size e) (w.emit layout e s).code ≡ d.code p (number_in ((w.emit layout e s).table ++ more)) layout.first layout.scratch e 0)
    × Covers (laws.IsKnown ((w.emit layout e s).table ++ more)) (w.emit layout e s).room e
written_exp p layout is_layout e s empty more =
    let constants : List Literal = (w.emit layout e s).table ++ more in
    let room : ℕ = (w.emit layout e s).room in
    let v = exp_writes (size e) constants room p layout is_layout e s 0 (omega (arith, ap length empty)) in
    let part : IsPart (size e) constants room (w.emit layout e s).table (w.emit layout e s).room = record { more = more; begins = refl; fits = omega arith } in
    (ap (turned (size e)) (v.is ∙ ap (λ c. c ++ v.tail) empty) ∙ v.gives part, v.needs part)
