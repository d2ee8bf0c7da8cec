-- Bodies, entries and programs do the same as their numbered forms.
use Rattle.std.proofs.Common.{◌≡◌, ℕ, suc, zero, List, [], ◌∷◌, ◌++◌, map, refl, ap, sym, ◌∙◌, subst}
use Rattle.std.specs.Prelude.{Bool, true, false, if◌then◌else◌, reverse, slice_get, Option, Some, None, unwrap_or}
use Rattle.std.specs.Option.{option_map, option_and_then}
use Rattle.std.proofs.lemmas.List.{map-append, reverse-append}
use Rattle.std.proofs.lemmas.List.Elements.{All-nil}
use Rattle.dart_syntax.specs.Syntax as t
use Rattle.dart_syntax.specs.Syntax.{Tree, Param}
use Rattle.program.specs.declared.literal.Literal.{Literal}
use Rattle.program.specs.declared.body.Body.{Body}
use Rattle.program.specs.declared.body.Body.TheVariants as body
use Rattle.program.specs.declared.numbered.Constructor.{Constructor}
use Rattle.program.specs.declared.numbered.Function.{Function}
use Rattle.program.specs.Parts.{Parts}
use Rattle.dart_values.specs.Values.{Text, Value, null}
use Rattle.dart_meaning.specs.Place.{Place}
use Rattle.dart_meaning.specs.Program.{Entry, running, listing}
use Rattle.dart_meaning.specs.Run.{Run, Result, went, ended, M, ◌>>=◌, ◌>>◌, pure, stack_overflow, change, choose, framed, set_field, and_then, Flow, answer}
use Rattle.dart_meaning.specs.Classes as classes
use Rattle.dart_meaning.specs.Classes.{Code, body_of, constructing, field_place, functions, no_constructor, of_tree}
use Rattle.dart_meaning.specs.Meaning.{Bound, bind, unnamed}
use Rattle.dart_meaning.specs.Meaning as m
use Rattle.dart_meaning.specs.Entry as entry
use Rattle.dart_meaning.specs.Entry.{Meaning, seen, start, greatest_depth, globals_of, entry_meaning}
use Rattle.dart_meaning.specs.Numbered as n
use Rattle.dart_meaning.specs.Literals.{literal, literal_or_null}
use Rattle.dart_meaning.specs.Numbered.{filled, parameters, of_numbered, entry_meaning_n}
use Rattle.dart_meaning.specs.Numbering as num
use Rattle.dart_meaning.specs.Agree.{Agree, BothOrNone, AreParams, IsBody, MayBeConstructor, IsCoded, IsCode, IsFunction, ExpsCall, StasCall, above, NumberedIsSame}
use Rattle.dart_meaning.proofs.Simulation.{Sim, SameAs, Stands, AreClasses, IsClass, names_of, erase, sim_pure, sim_stop, sim_bind, sim_then, sim_spend, sim_set_field}
use Rattle.dart_meaning.proofs.CallsAgree as agreeing
use Rattle.dart_meaning.proofs.CallsAgree.{Enters, user_classes, number_in}
use Rattle.dart_meaning.proofs.ExpsAgree as exps
use Rattle.dart_meaning.proofs.StasAgree as stas
use Rattle.dart_meaning.proofs.Blocks.{SimFlow, SameFlow}

-- Both do the same, whatever names are open afterwards.
abbrev pub SameEnd : {A : Type 0} → ℕ → Result Bound A → Result Value A → Type 0
SameEnd count (went a r) y = (y ≡ went a (erase r)) × AreClasses count r.store.heap
SameEnd count (ended e r) y = y ≡ ended e (erase r)

pub record SimEnd {A : Type 0} (count : ℕ) (names : List Text) (m : M Bound A) (n : M Value A) : Type 0 where
  pub same : (r : Run Bound) → Stands count names r → SameEnd count (m r) (n (erase r))

end_as : {A : Type 0} (count : ℕ) (names : List Text) (x : Result Bound A) (y : Result Value A) → SameAs count names x y → SameEnd count x y
end_as count names (went a r) y (e, h) = (e, h.1)
end_as count names (ended e r) y s = s

end_of : {A : Type 0} {count : ℕ} {names : List Text} {m : M Bound A} {n : M Value A} → Sim count names m n → SimEnd count names m n
end_of {count = count} {names = names} {m = m} {n = n} s = record { same = λ r h. end_as count names (m r) (n (erase r)) (s.same r h) }

flow_end_as : (count : ℕ) (names after : List Text) (x : Result Bound Flow) (y : Result Value Flow) → SameFlow count names after x y → SameEnd count x y
flow_end_as count names after (went f r) y (e, now, h) = (e, h)
flow_end_as count names after (ended e r) y s = s

flow_end : {count : ℕ} {names after : List Text} {m : M Bound Flow} {n : M Value Flow} → SimFlow count names after m n → SimEnd count names m n
flow_end {count = count} {names = names} {after = after} {m = m} {n = n} s = record { same = λ r h. flow_end_as count names after (m r) (n (erase r)) (s.same r h) }

pure_as : {A B : Type 0} (count : ℕ) (f : A → B) (x : Result Bound A) (y : Result Value A) → SameEnd count x y → SameEnd count (and_then x (λ a. pure (f a))) (and_then y (λ a. pure (f a)))
pure_as count f (went a r) y (e, h) = rw e (refl, h)
pure_as count f (ended e r) y i = rw i refl

-- an answer that is made of another
pure_end : {A B : Type 0} {count : ℕ} {names : List Text} {m : M Bound A} {n : M Value A} (f : A → B) → SimEnd count names m n → SimEnd count names (m >>= (λ a. pure (f a))) (n >>= (λ a. pure (f a)))
pure_end {count = count} {m = m} {n = n} f s = record { same = λ r h. pure_as count f (m r) (n (erase r)) (s.same r h) }

end_then_as : {A B : Type 0} (count : ℕ) (names : List Text) (f : A → M Bound B) (g : A → M Value B) → ((a : A) → SimEnd count names (f a) (g a))
    → (x : Result Bound A) (y : Result Value A) → SameAs count names x y → SameEnd count (and_then x f) (and_then y g)
end_then_as count names f g k (went a r) y (e, h) = rw e ((k a).same r h)
end_then_as count names f g k (ended e r) y h = rw h refl

end_bind : {A B : Type 0} {count : ℕ} {names : List Text} {m : M Bound A} {n : M Value A} {f : A → M Bound B} {g : A → M Value B}
    → Sim count names m n → ((a : A) → SimEnd count names (f a) (g a)) → SimEnd count names (m >>= f) (n >>= g)
end_bind {count = count} {names = names} {m = m} {n = n} {f = f} {g = g} s k = record { same = λ r h. end_then_as count names f g k (m r) (n (erase r)) (s.same r h) }

end_then : {A B : Type 0} {count : ℕ} {names : List Text} {m : M Bound A} {n : M Value A} {f : M Bound B} {g : M Value B}
    → Sim count names m n → SimEnd count names f g → SimEnd count names (m >> f) (n >> g)
end_then {count = count} {names = names} {m = m} {n = n} {f = f} {g = g} s k =
    record { same = λ r h. end_then_as count names (λ _. f) (λ _. g) (λ _. k) (m r) (n (erase r)) (s.same r h) }

-- A body in its own frame leaves the names as they were.
back : {A : Type 0} (count : ℕ) (names : List Text) (r : Run Bound) → names_of r ≡ names → (x : Result Bound A) (y : Result Value A) → SameEnd count x y
    → SameAs count names (and_then x (λ a s. went a (record s { vars = r.vars; this = r.this }))) (and_then y (λ a s. went a (record s { vars = map (λ b. b.holds) r.vars; this = r.this })))
back count names r h (went a s) y (e, k) = rw e (refl, (h, k))
back count names r h (ended e s) y i = rw i refl

sim_framed : {A : Type 0} {count : ℕ} {names inner : List Text} {m : M Bound A} {n : M Value A} (vars : List Bound) (this : Value) → map (λ b. b.name) vars ≡ inner → SimEnd count inner m n
    → Sim count names (framed vars this m) (framed (map (λ b. b.holds) vars) this n)
sim_framed {count = count} {names = names} {m = m} {n = n} vars this e s = record {
  same = λ r h.
      back count names r h.0 (m (record r { vars = vars; this = this })) (n (record (erase r) { vars = map (λ b. b.holds) vars; this = this })) (s.same (record r { vars = vars; this = this }) (e, h.1));
}

-- with the values that the variables hold
framed_on : {A : Type 0} {count : ℕ} {names inner : List Text} {m : M Bound A} {n : M Value A} (vars : List Bound) (held : List Value) (this : Value)
    → map (λ b. b.name) vars ≡ inner → map (λ b. b.holds) vars ≡ held → SimEnd count inner m n → Sim count names (framed vars this m) (framed held this n)
framed_on {count = count} {names = names} {m = m} {n = n} vars held this e h s = subst (λ l. Sim count names (framed vars this m) (framed l this n)) h (sim_framed vars this e s)

-- ---- parameters

map-reverse : {A B : Type 0} (f : A → B) (xs : List A) → map f (reverse xs) ≡ reverse (map f xs)
map-reverse f [] = refl
map-reverse f (x ∷ xs) =
    ap (map f) (reverse-append (x ∷ []) xs) ∙ (map-append f (reverse xs) (x ∷ []) ∙ (ap (λ l. l ++ f x ∷ []) (map-reverse f xs) ∙ sym (reverse-append (f x ∷ []) (map f xs))))

bind_names : (params : List Param) (args : List Value) → map (λ b. b.name) (bind params args) ≡ map (λ (k : Param). k.name.text) params
bind_names [] args = refl
bind_names (k ∷ more) [] = ap (λ l. k.name.text ∷ l) (bind_names more [])
bind_names (k ∷ more) (z ∷ args) = ap (λ l. k.name.text ∷ l) (bind_names more args)

bind_filled : (params : List Param) (args : List Value) → map (λ b. b.holds) (bind params args) ≡ filled (map (λ (k : Param). literal_or_null k.default) params) args
bind_filled [] args = refl
bind_filled (k ∷ more) [] = ap (λ l. literal_or_null k.default ∷ l) (bind_filled more [])
bind_filled (k ∷ more) (z ∷ args) = ap (λ l. z ∷ l) (bind_filled more args)

reversed_names : (params : List Param) (args : List Value) → map (λ b. b.name) (reverse (bind params args)) ≡ num.param_names params
reversed_names params args = map-reverse (λ b. b.name) (bind params args) ∙ ap reverse (bind_names params args)

-- ---- the variables of a constructor's body

one_holds : (f : Bool) (b : Bound) → (choose f (record b { name = [] }) b).holds ≡ b.holds
one_holds true b = refl
one_holds false b = refl

unnamed_holds : (params : List Param) (vars : List Bound) → map (λ b. b.holds) (unnamed params vars) ≡ map (λ b. b.holds) vars
unnamed_holds [] vars = refl
unnamed_holds (k ∷ more) [] = refl
unnamed_holds (k ∷ more) (b ∷ vars) = λ i. one_holds k.is_field b i ∷ unnamed_holds more vars i

one_name : (f : Bool) (b : Bound) (x : Text) → b.name ≡ x → (choose f (record b { name = [] }) b).name ≡ (if f then [] else x)
one_name true b x e = refl
one_name false b x e = e

unnamed_names : (params : List Param) (vars : List Bound) → map (λ b. b.name) vars ≡ map (λ (k : Param). k.name.text) params
    → map (λ b. b.name) (unnamed params vars) ≡ map num.body_name params
unnamed_names [] [] e = refl
unnamed_names [] (b ∷ vars) e = cc
unnamed_names (k ∷ more) [] e = cc
unnamed_names (k ∷ more) (b ∷ vars) e =
    let first : b.name ≡ k.name.text = cc in
    let rest : map (λ b. b.name) vars ≡ map (λ (k : Param). k.name.text) more = cc in
    λ i. one_name k.is_field b k.name.text first i ∷ unnamed_names more vars rest i

-- Where a `this.x` has lost its name the values are the same.
end_unnamed : {A : Type 0} {count : ℕ} {m : M Bound A} {n : M Value A} (params : List Param) → SimEnd count (num.body_names params) m n
    → SimEnd count (num.param_names params) (change (λ r. record r { vars = unnamed (reverse params) r.vars }) >> m) n
end_unnamed {count = count} {m = m} {n = n} params s = record {
  same = λ r h.
      let r' : Run Bound = record r { vars = unnamed (reverse params) r.vars } in
      let names : names_of r' ≡ num.body_names params = unnamed_names (reverse params) r.vars (h.0 ∙ sym (map-reverse (λ (k : Param). k.name.text) params)) ∙ map-reverse num.body_name params in
      subst (λ q. SameEnd count (m r') (n q)) (ap (λ held. record (erase r) { vars = held }) (unnamed_holds (reverse params) r.vars)) (s.same r' (names, h.1));
}

module _ (tree : Tree) (site_of : Place → ℕ) (p : Parts) (agree : Agree tree site_of p)
    (enter : Entry Code → M Bound Value) (enter' : Entry n.Code → M Value Value) (enters : Enters tree site_of p enter enter') where
  abbrev count : ℕ
  count = user_classes tree

  bind_holds : (params : List Param) (required : ℕ) (defaults : List Literal) → AreParams tree site_of p params required defaults → (args : List Value)
      → map (λ b. b.holds) (bind params args) ≡ parameters required defaults args
  bind_holds params required defaults is args = bind_filled params args ∙ ap (λ l. filled l args) (sym is)

  sim_body : (here : Option Text) (names : List Text) (b : t.Body) (x : Body) → IsBody tree site_of p here names b x → SimEnd count names (m.body_value tree site_of here enter b) (n.body_value p enter' x)
  sim_body here names (t.arrow e) (body.Arrow x) (is, calls) =
      subst (λ y. SimEnd count names (m.value tree site_of here enter e) (n.value p enter' y)) (sym is) (end_of (exps.sim_exp tree site_of p agree enter enter' enters here e names calls))
  sim_body here names (t.code all) (body.Block x) (is, calls) =
      subst (λ y. SimEnd count names (m.body_value tree site_of here enter (t.code all)) (n.doing_all p enter' y >>= (λ f. pure (answer f)))) (sym is)
      (pure_end answer (flow_end (stas.sim_stas tree site_of p agree enter enter' enters here all names calls)))
  sim_body here names (t.arrow e) (body.Block x) is = absurd is
  sim_body here names (t.code all) (body.Arrow x) is = absurd is

  -- ---- constructors

  module _ (class : Text) where
    abbrev set_of : Param → Option ℕ
    set_of k = if k.is_field then Some (field_place tree class k.name.text) else None

    abbrev tree_set : Value → List Param → List Bound → M Bound (Unit {0})
    tree_set = m.set_fields tree site_of (Some class) enter class

    abbrev code_set : Value → List (Option ℕ) → List Value → M Value (Unit {0})
    code_set = n.set_fields p enter'

    set_one : (me x : Value) (is_field : Bool) (k : ℕ) {names : List Text} {a : M Bound (Unit {0})} (more : List (Option ℕ)) (vars : List Value) → Sim count names a (code_set me more vars)
        → Sim count names (choose is_field (set_field me k x) (pure tt) >> a) (code_set me ((if is_field then Some k else None) ∷ more) (x ∷ vars))
    set_one me x true k more vars s = sim_then (sim_set_field me k x) s
    set_one me x false k more vars s = s

    none_left : (me : Value) (is_field : Bool) (k : ℕ) {names : List Text} (more : List (Option ℕ)) → Sim count names (pure tt) (code_set me ((if is_field then Some k else None) ∷ more) [])
    none_left me true k more = sim_pure tt
    none_left me false k more = sim_pure tt

    sim_set_fields : (me : Value) (params : List Param) (vars : List Bound) (names : List Text) → Sim count names (tree_set me params vars) (code_set me (num.sets tree class params) (map (λ b. b.holds) vars))
    sim_set_fields me [] vars names = sim_pure tt
    sim_set_fields me (k ∷ more) [] names = none_left me k.is_field (field_place tree class k.name.text) (num.sets tree class more)
    sim_set_fields me (k ∷ more) (b ∷ vars) names =
        set_one me b.holds k.is_field (field_place tree class k.name.text) (num.sets tree class more) (map (λ b. b.holds) vars) (sim_set_fields me more vars names)

    sim_above : (number : ℕ) → n.class_above p number ≡ above tree (Some class) → (names : List Text) (me : Value) (args : List Value)
        → Sim count names (Rattle.dart_meaning.specs.Calls.construct (m.world tree site_of (Some class) enter) ((of_tree tree).constructor (above tree (Some class))) me args)
        (Rattle.dart_meaning.specs.Calls.construct (n.world p enter') (n.constructor_at (n.class_above p number)) me args)
    sim_above number is names me args =
        agreeing.sim_construct tree site_of p agree enter enter' enters (Some class) names ((of_tree tree).constructor (above tree (Some class))) (n.constructor_at (n.class_above p number))
        (subst (λ k. BothOrNone (IsCode tree site_of p) ((of_tree tree).constructor (above tree (Some class))) (n.constructor_at k)) (sym is)
        (agree.constructor (above tree (Some class)) (number_in tree (unwrap_or (option_and_then (classes.parent tree) (Some class)) classes.object)))) me args

    sim_building : (k : classes.Constructor) (number : ℕ) → n.class_above p number ≡ above tree (Some class)
        → ExpsCall tree site_of p (Some class) (num.param_names k.params) k.passes → StasCall tree site_of p (Some class) (num.body_names k.params) k.body → (me : Value) (vars : List Bound)
        → SimEnd count (num.param_names k.params) (m.building tree site_of (Some class) enter class k me vars)
        (n.building p enter' number (num.sets tree class k.params) (num.exps tree site_of (Some class) (num.param_names k.params) k.passes)
        (num.stas tree site_of (Some class) (num.body_names k.params) k.body) me (map (λ b. b.holds) vars))
    sim_building k number is a b me vars =
        end_then (sim_set_fields me k.params vars (num.param_names k.params))
        (end_bind (exps.sim_exps tree site_of p agree enter enter' enters (Some class) k.passes (num.param_names k.params) a) (λ passed.
        end_then (sim_above number is (num.param_names k.params) me passed)
        (end_unnamed k.params (pure_end (λ _. me) (flow_end (stas.sim_stas tree site_of p agree enter enter' enters (Some class) k.body (num.body_names k.params) b))))))

    sim_build : (k : classes.Constructor) (number : ℕ) → n.class_above p number ≡ above tree (Some class)
        → ExpsCall tree site_of p (Some class) (num.param_names k.params) k.passes → StasCall tree site_of p (Some class) (num.body_names k.params) k.body → (me : Value) (args : List Value) (names : List Text)
        → Sim count names (m.build tree site_of (Some class) enter class k me (bind k.params args))
        (n.build p enter' number (num.sets tree class k.params) (num.exps tree site_of (Some class) (num.param_names k.params) k.passes)
        (num.stas tree site_of (Some class) (num.body_names k.params) k.body) me (map (λ b. b.holds) (bind k.params args)))
    sim_build k number is a b me args names =
        framed_on (reverse (bind k.params args)) (reverse (map (λ b. b.holds) (bind k.params args))) me (reversed_names k.params args)
        (map-reverse (λ b. b.holds) (bind k.params args)) (sim_building k number is a b me (bind k.params args))

    sim_constructor : (k : classes.Constructor) (number : ℕ) → n.class_above p number ≡ above tree (Some class) → (o : Option Constructor) → MayBeConstructor tree site_of p class k o → (me : Value) (args : List Value) (names : List Text)
        → Sim count names (m.build tree site_of (Some class) enter class k me (bind k.params args)) (n.construct p enter' number o me args)
    sim_constructor k number is None none me args names =
        subst (λ x. Sim count names (m.build tree site_of (Some class) enter class x me (bind x.params args)) (n.construct p enter' number None me args)) (sym none)
        (sim_build no_constructor number is tt tt me args names)
    sim_constructor k number is (Some b) all me args names =
        rw (all.sets, all.passes, all.body, sym (bind_holds k.params b.required b.defaults all.params args)) (sim_build k number is all.passes_call all.body_calls me args names)

  sim_coded : (here : Option Text) (params : List Param) (b : t.Body) (o : Option n.Coded) → IsCoded tree site_of p here params b o → (me : Value) (args : List Value) (names : List Text)
      → Sim count names (entry.inside tree site_of enter (running (body_of here params b) me args)) (n.run_coded p enter' o me args)
  sim_coded here params b None is me args names = absurd is
  sim_coded here params b (Some k) (is, calls) me args names =
      framed_on (reverse (bind params args)) (reverse (parameters k.required k.defaults args)) me (reversed_names params args)
      (map-reverse (λ b. b.holds) (bind params args) ∙ ap reverse (bind_holds params k.required k.defaults is args)) (sim_body here (num.param_names params) b k.body calls)

  pub sim_code : (k : Code) (k' : n.Code) → IsCode tree site_of p k k' → (me : Value) (args : List Value) (names : List Text)
      → Sim count names (entry.inside tree site_of enter (running k me args)) (n.inside p enter' (running k' me args))
  sim_code (body_of here params b) (n.the_function f) is me args names = sim_coded here params b (n.coded_at p (n.the_function f)) is me args names
  sim_code (body_of here params b) (n.the_method f) is me args names = sim_coded here params b (n.coded_at p (n.the_method f)) is me args names
  sim_code (body_of here params b) (n.the_constructor number) is me args names = absurd is
  sim_code (constructing class k) (n.the_constructor number) (a, b) me args names = sim_constructor class k number b (n.constructor_of p number) a me args names
  sim_code (constructing class k) (n.the_function f) is me args names = absurd is
  sim_code (constructing class k) (n.the_method f) is me args names = absurd is

  pub sim_list : (z : Value) (names : List Text) → Sim count names (entry.inside tree site_of enter (listing z)) (n.inside p enter' (listing z))
  sim_list z names = framed_on [] [] z refl refl (end_of (agreeing.sim_list_text tree site_of p agree enter enter' enters None [] z))

-- what is entered, at every depth
pub enters_at : (tree : Tree) (site_of : Place → ℕ) (p : Parts) → Agree tree site_of p → (left : ℕ) → Enters tree site_of p (entry.enter tree site_of left) (n.enter p left)
unfolding entry.enter n.enter
enters_at tree site_of p agree zero = record {
  codes = λ k k' is me args names. sim_then sim_spend (sim_stop stack_overflow);
  lists = λ z names. sim_then sim_spend (sim_stop stack_overflow);
}
enters_at tree site_of p agree (suc left) = record {
  codes = λ k k' is me args names. sim_then sim_spend (sim_code tree site_of p agree (entry.enter tree site_of left) (n.enter p left) (enters_at tree site_of p agree left) k k' is me args names);
  lists = λ z names. sim_then sim_spend (sim_list tree site_of p agree (entry.enter tree site_of left) (n.enter p left) (enters_at tree site_of p agree left) z names);
}

same_seen : (count : ℕ) (x : Result Bound Value) (y : Result Value Value) → SameAs count [] x y → seen y ≡ seen x
same_seen count (went a r) y s = rw s.0 refl
same_seen count (ended e r) y s = rw s refl

same_entry : (tree : Tree) (site_of : Place → ℕ) (p : Parts) → Agree tree site_of p → (f turns : ℕ) (o : Option t.Function) (o' : Option Function) → slice_get p.functions f ≡ o'
    → BothOrNone (IsFunction tree site_of p) o o'
    → option_map (λ _. seen (n.entry_run p greatest_depth f turns)) o' ≡ option_map (λ k. entry_meaning tree site_of k turns) o
same_entry tree site_of p agree f turns (Some g) (Some k) e is =
    ap Some
    (subst (λ held. seen (n.enter p greatest_depth (running (n.the_function f) null []) (start held turns)) ≡ entry_meaning tree site_of g turns) (sym agree.globals)
    (same_seen (user_classes tree) _ _
    (((enters_at tree site_of p agree greatest_depth).codes (body_of None g.params g.body) (n.the_function f)
    (subst (λ o. IsCoded tree site_of p None g.params g.body (option_map n.function_coded o)) (sym e) is) null [] []).same (start (globals_of tree) turns) (refl, All-nil (IsClass (user_classes tree))))))
same_entry tree site_of p agree f turns None None e is = refl
same_entry tree site_of p agree f turns (Some g) None e is = absurd is
same_entry tree site_of p agree f turns None (Some k) e is = absurd is

-- What an entry of a numbered program does is what the entry of its tree does.
pub numbered_is_same : NumberedIsSame
numbered_is_same tree site_of p agree f turns = same_entry tree site_of p agree f turns (slice_get (functions tree) f) (slice_get p.functions f) refl (agree.functions f)
