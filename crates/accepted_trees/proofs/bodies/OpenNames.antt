-- What a scope knows of names, and the names that are open.
use Rattle.std.proofs.Common.{◌≡◌, ℕ, suc, Bool, true, false, List, [], ◌∷◌, ◌++◌, map, reverse, refl, ap, sym, ◌∙◌, subst, append-nil, append_assoc}
use Rattle.std.specs.Prelude.{Option, Some, None, if◌then◌else◌, ◌||◌}
use Rattle.std.specs.Option.{option_map}
use Rattle.std.specs.Str.{bytes_eq}
use Rattle.std.proofs.lemmas.List.{reverse-append}
use Rattle.dart_syntax.specs.declared.tree.Name.{Name}
use Rattle.dart_syntax.specs.Syntax.{Param}
use Rattle.dart_values.specs.Values.{Text}
use Rattle.dart_meaning.specs.declared.seen.Seen.{Seen}
use Rattle.dart_meaning.specs.declared.seen.Seen.TheVariants.{Late, Ready}
use Rattle.dart_meaning.specs.Numbering.{index_of, param_names, body_name, body_names}
use Rattle.dart_meaning.specs.Uses.{Scope, nothing_seen, with_seen, opened, with_param, with_params, with_passed}
use Rattle.text_trees.specs.Written.{Each, IsPlainParam}

-- A name that is known and ready is open.
abbrev pub KnownBy : Option Seen → Option ℕ → Type 0
KnownBy (Some (Ready is_final)) None = ⊥
KnownBy _ _ = Unit {0}

abbrev pub Knows : Scope → List Text → Type 0
Knows scope names = (q : Text) → KnownBy (scope q) (index_of q names)

pub knows_nothing : Knows nothing_seen []
knows_nothing q = tt

later : (s : Option Seen) (o : Option ℕ) → KnownBy s o → KnownBy s (option_map suc o)
later None None h = tt
later None (Some k) h = tt
later (Some Late) None h = tt
later (Some Late) (Some k) h = tt
later (Some (Ready f)) (Some k) h = tt
later (Some (Ready f)) None h = absurd h

ready_step : (b f : Bool) (s : Option Seen) (o : Option ℕ) → KnownBy s o → KnownBy (if b then Some (Ready f) else s) (if b then Some 0 else option_map suc o)
ready_step true f s o h = tt
ready_step false f s o h = later s o h

pub knows_ready : (n : Name) (f : Bool) (scope : Scope) (names : List Text) → Knows scope names → Knows (with_seen n (Ready f) scope) (n.text ∷ names)
knows_ready n f scope names h q = ready_step (bytes_eq n.text q) f (scope q) (index_of q names) (h q)

late_step : (b : Bool) (s : Option Seen) (o : Option ℕ) → KnownBy s o → KnownBy (if b then Some Late else s) o
late_step true s None h = tt
late_step true s (Some k) h = tt
late_step false s o h = h

pub knows_late : (n : Name) (scope : Scope) (names : List Text) → Knows scope names → Knows (with_seen n Late scope) names
knows_late n scope names h q = late_step (bytes_eq n.text q) (scope q) (index_of q names) (h q)

pub knows_opened : (all : List Name) (scope : Scope) (names : List Text) → Knows scope names → Knows (opened all scope) names
knows_opened [] scope names h = h
knows_opened (n ∷ more) scope names h = knows_opened more (with_seen n Late scope) names (knows_late n scope names h)

-- ---- parameters

reversed : (x : Text) (xs names : List Text) → reverse xs ++ (x ∷ names) ≡ reverse (x ∷ xs) ++ names
reversed x xs names = sym (append_assoc (reverse xs) (x ∷ []) names) ∙ ap (λ l. l ++ names) (sym (reverse-append (x ∷ []) xs))

abbrev KnowsIn : Scope → List Text → List Text → Type 0
KnowsIn scope xs names = Knows scope (reverse xs ++ names)

more_step : (b : Bool) (s : Option Seen) (o : Option ℕ) → KnownBy s o → KnownBy s (if b then Some 0 else option_map suc o)
more_step true None o h = tt
more_step true (Some Late) o h = tt
more_step true (Some (Ready f)) o h = tt
more_step false s o h = later s o h

-- one more name is open
knows_more : (name : Text) (scope : Scope) (names : List Text) → Knows scope names → Knows scope (name ∷ names)
knows_more name scope names h q = more_step (bytes_eq name q) (scope q) (index_of q names) (h q)

param_step : (k : Param) (is_field : Bool) (scope : Scope) (names : List Text) → Knows scope names
    → Knows (if is_field then scope else with_seen k.name (Ready k.is_final) scope) ((if is_field then [] else k.name.text) ∷ names)
param_step k true scope names h = knows_more [] scope names h
param_step k false scope names h = knows_ready k.name k.is_final scope names h

body_from : (params : List Param) (scope : Scope) (names : List Text) → Knows scope names → KnowsIn (with_params params scope) (map body_name params) names
body_from [] scope names h = h
body_from (k ∷ more) scope names h =
    subst (λ l. Knows (with_params more (with_param k scope)) l) (reversed (body_name k) (map body_name more) names)
    (body_from more (with_param k scope) (body_name k ∷ names) (param_step k k.is_field scope names h))

-- in the body of a constructor
pub knows_body : (params : List Param) → Knows (with_params params nothing_seen) (body_names params)
knows_body params = subst (λ l. Knows (with_params params nothing_seen) l) (append-nil (body_names params)) (body_from params nothing_seen [] knows_nothing)

-- in what a constructor passes to its superclass
passed_from : (params : List Param) (scope : Scope) (names : List Text) → Knows scope names → KnowsIn (with_passed params scope) (map (λ (k : Param). k.name.text) params) names
passed_from [] scope names h = h
passed_from (k ∷ more) scope names h =
    subst (λ l. Knows (with_passed more (with_seen k.name (Ready (k.is_field || k.is_final)) scope)) l) (reversed k.name.text (map (λ (x : Param). x.name.text) more) names)
    (passed_from more (with_seen k.name (Ready (k.is_field || k.is_final)) scope) (k.name.text ∷ names) (knows_ready k.name (k.is_field || k.is_final) scope names h))

pub knows_passed : (params : List Param) → Knows (with_passed params nothing_seen) (param_names params)
knows_passed params = subst (λ l. Knows (with_passed params nothing_seen) l) (append-nil (param_names params)) (passed_from params nothing_seen [] knows_nothing)

-- in another body, where each parameter is plain
plain_one : (k : Param) (b : Bool) → b ≡ false → (if b then [] else k.name.text) ≡ k.name.text
plain_one k false e = refl
plain_one k true e = absurd cc

plain_all : (params : List Param) → Each IsPlainParam params → map body_name params ≡ map (λ (k : Param). k.name.text) params
plain_all [] h = refl
plain_all (k ∷ more) (h, rest) = rw (plain_one k k.is_field h.no_field, plain_all more rest) refl

pub knows_params : (params : List Param) → Each IsPlainParam params → Knows (with_params params nothing_seen) (param_names params)
knows_params params h = subst (λ l. Knows (with_params params nothing_seen) (reverse l)) (plain_all params h) (knows_body params)
