-- The text knows of a name exactly where a variable of it is open, but for a local before its declaration.
use Rattle.std.proofs.Common.{◌≡◌, ℕ, suc, Bool, true, false, List, [], ◌∷◌, ◌++◌, map, reverse, refl, ap, sym, ◌∙◌, subst, append-nil, append_assoc}
use Rattle.std.specs.Prelude.{Option, Some, None, if◌then◌else◌, ◌||◌}
use Rattle.std.specs.Option.{option_map}
use Rattle.std.specs.Str.{bytes_eq}
use Rattle.std.proofs.lemmas.List.{reverse-append}
use Rattle.dart_syntax.specs.declared.tree.Name.{Name}
use Rattle.dart_syntax.specs.Syntax as t
use Rattle.dart_syntax.specs.Syntax.{Param}
use Rattle.dart_values.specs.Values.{Text}
use Rattle.dart_meaning.specs.declared.seen.Seen.{Seen}
use Rattle.dart_meaning.specs.declared.seen.Seen.TheVariants.{Late, Ready}
use Rattle.dart_meaning.specs.Numbering as run
use Rattle.dart_meaning.specs.Numbering.{index_of, param_names, body_name, body_names}
use Rattle.dart_meaning.specs.Uses as uses
use Rattle.dart_meaning.specs.Uses.{Scope, nothing_seen, with_seen, opened, with_param, with_params, with_passed}
use Rattle.text_trees.specs.Written.{Each, IsPlainParam}

abbrev pub OpenBy : Option Seen → Option ℕ → Type 0
OpenBy None (Some k) = ⊥
OpenBy (Some (Ready is_final)) None = ⊥
OpenBy _ _ = Unit {0}

-- the name of a variable; a parameter `this.x` is open in a constructor's body without one
abbrev pub IsNamed : Text → Type 0
IsNamed q = q ≡ [] → ⊥

-- so for each name
abbrev pub Opens : Scope → List Text → Type 0
Opens scope names = (q : Text) → IsNamed q → OpenBy (scope q) (index_of q names)

later : (s : Option Seen) (o : Option ℕ) → OpenBy s o → OpenBy s (option_map suc o)
later s None h = h
later None (Some k) h = h
later (Some Late) (Some k) h = h
later (Some (Ready f)) (Some k) h = h

ready_step : (b f : Bool) (s : Option Seen) (o : Option ℕ) → OpenBy s o → OpenBy (if b then Some (Ready f) else s) (if b then Some 0 else option_map suc o)
ready_step true f s o h = tt
ready_step false f s o h = later s o h

late_open : (o : Option ℕ) → OpenBy (Some Late) o
late_open None = tt
late_open (Some k) = tt

late_step : (b : Bool) (s : Option Seen) (o : Option ℕ) → OpenBy s o → OpenBy (if b then Some Late else s) o
late_step true s o h = late_open o
late_step false s o h = h

unnamed_step : (q : Text) (names : List Text) (s : Option Seen) → (q ≡ [] → ⊥) → OpenBy s (index_of q names) → OpenBy s (index_of q ([] ∷ names))
unnamed_step [] names s ne h = absurd (ne refl)
unnamed_step (b ∷ bs) names s ne h = later s (index_of (b ∷ bs) names) h

reversed : (x : Text) (xs names : List Text) → reverse xs ++ (x ∷ names) ≡ reverse (x ∷ xs) ++ names
reversed x xs names = sym (append_assoc (reverse xs) (x ∷ []) names) ∙ ap (λ l. l ++ names) (sym (reverse-append (x ∷ []) xs))

abbrev text_of : Param → Text
text_of k = k.name.text

plain_one : (k : Param) (b : Bool) → b ≡ false → (if b then [] else k.name.text) ≡ k.name.text
plain_one k false e = refl
plain_one k true e = absurd cc

plain_all : (params : List Param) → Each IsPlainParam params → map body_name params ≡ map text_of params
plain_all [] h = refl
plain_all (k ∷ more) (h, rest) = rw (plain_one k k.is_field h.no_field, plain_all more rest) refl

none_open : Opens nothing_seen []
none_open q ne = tt

pub opens_ready : (n : Name) (f : Bool) (scope : Scope) (names : List Text) → Opens scope names → Opens (with_seen n (Ready f) scope) (n.text ∷ names)
opens_ready n f scope names h q ne = ready_step (bytes_eq n.text q) f (scope q) (index_of q names) (h q ne)

pub opens_late : (n : Name) (scope : Scope) (names : List Text) → Opens scope names → Opens (with_seen n Late scope) names
opens_late n scope names h q ne = late_step (bytes_eq n.text q) (scope q) (index_of q names) (h q ne)

pub opens_locals : (all : List Name) (scope : Scope) (names : List Text) → Opens scope names → Opens (opened all scope) names
opens_locals [] scope names h = h
opens_locals (n ∷ more) scope names h = opens_locals more (with_seen n Late scope) names (opens_late n scope names h)

-- ---- behind a statement

pub opens_after : (s : t.Sta) (scope : Scope) (names : List Text) → Opens scope names → Opens (uses.after s scope) (run.after names s)
opens_after (t.local x) scope names h = opens_ready x.name x.is_final scope names h
opens_after _ scope names h = h

pub opens_first : (s : t.First) (scope : Scope) (names : List Text) → Opens scope names → Opens (uses.after_first s scope) (run.after_first names s)
opens_first (t.local_first x) scope names h = opens_ready x.name x.is_final scope names h
opens_first _ scope names h = h

-- ---- parameters

param_step : (k : Param) (is_field : Bool) (scope : Scope) (names : List Text) → Opens scope names
    → Opens (if is_field then scope else with_seen k.name (Ready k.is_final) scope) ((if is_field then [] else k.name.text) ∷ names)
param_step k true scope names h q ne = unnamed_step q names (scope q) ne (h q ne)
param_step k false scope names h q ne = opens_ready k.name k.is_final scope names h q ne

body_from : (params : List Param) (scope : Scope) (names : List Text) → Opens scope names → Opens (with_params params scope) (reverse (map body_name params) ++ names)
body_from [] scope names h = h
body_from (k ∷ more) scope names h =
    subst (λ l. Opens (with_params more (with_param k scope)) l) (reversed (body_name k) (map body_name more) names)
    (body_from more (with_param k scope) (body_name k ∷ names) (param_step k k.is_field scope names h))

-- in a body
pub opens_body : (params : List Param) → Opens (with_params params nothing_seen) (body_names params)
opens_body params = subst (λ l. Opens (with_params params nothing_seen) l) (append-nil (body_names params)) (body_from params nothing_seen [] none_open)

passed_from : (params : List Param) (scope : Scope) (names : List Text) → Opens scope names → Opens (with_passed params scope) (reverse (map text_of params) ++ names)
passed_from [] scope names h = h
passed_from (k ∷ more) scope names h =
    subst (λ l. Opens (with_passed more (with_seen k.name (Ready (k.is_field || k.is_final)) scope)) l) (reversed k.name.text (map text_of more) names)
    (passed_from more (with_seen k.name (Ready (k.is_field || k.is_final)) scope) (k.name.text ∷ names) (opens_ready k.name (k.is_field || k.is_final) scope names h))

-- in what a constructor passes to its superclass
pub opens_passed : (params : List Param) → Opens (with_passed params nothing_seen) (param_names params)
opens_passed params = subst (λ l. Opens (with_passed params nothing_seen) l) (append-nil (param_names params)) (passed_from params nothing_seen [] none_open)

-- in a body where each parameter is plain
pub opens_params : (params : List Param) → Each IsPlainParam params → Opens (with_params params nothing_seen) (param_names params)
opens_params params h = subst (λ l. Opens (with_params params nothing_seen) (reverse l)) (plain_all params h) (opens_body params)
