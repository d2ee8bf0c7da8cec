-- The first class of each name.
use Rattle.std.proofs.Common.{◌≡◌, Bool, true, false, List, ◌∷◌, Option, None, Some, is_some, option_map, if◌then◌else◌, refl, sym, ◌∙◌, ap, map, bytes_eq}
use Rattle.std.proofs.lemmas.Slice.Eq.{bytes_eq-Decides}
use Rattle.dart_syntax.specs.Bytes.{Text}
use Rattle.dart_syntax.specs.Syntax.{ClassDecl}
use Rattle.dart_meaning.specs.Classes.{first_some, if_so}
use Rattle.declaration_rules.specs.Finding.{Find, named_of, or_first}

pub or_first_assoc : (a b c : Option ClassDecl) → or_first (or_first a b) c ≡ or_first a (or_first b c)
or_first_assoc None b c = refl
or_first_assoc (Some a) b c = refl

first_more : (o : Option ClassDecl) (more : List (Option ClassDecl)) → first_some (o ∷ more) ≡ or_first o (first_some more)
first_more None more = refl
first_more (Some a) more = refl

pub named_more : (c : ClassDecl) (cs : List ClassDecl) (q : Text) → named_of (c ∷ cs) q ≡ or_first (if_so (bytes_eq c.name.text q) c) (named_of cs q)
named_more c cs q = first_more (if_so (bytes_eq c.name.text q) c) (map (λ (d : ClassDecl). if_so (bytes_eq d.name.text q) d) cs)

map_if : {A B : Type 0} (f : A → B) (b : Bool) (x : A) (o : Option A) → option_map f (if b then Some x else o) ≡ (if b then Some (f x) else option_map f o)
map_if f true x o = refl
map_if f false x o = refl

some_map : {A B : Type 0} (f : A → B) (o : Option A) → is_some (option_map f o) ≡ is_some o
some_map f None = refl
some_map f (Some x) = refl

or_none : (o : Option ClassDecl) → o ≡ or_first o None
or_none None = refl
or_none (Some c) = refl

none_is : (o : Option ClassDecl) → is_some o ≡ false → o ≡ None
none_is None h = refl
none_is (Some c) h = absurd cc

pub keep_new : (find : Find) (n q : Text) (d : ClassDecl) → is_some (find n) ≡ false → (if bytes_eq n q then Some d else find q) ≡ or_first (find q) (if_so (bytes_eq n q) d)
keep_new find n q d none = elim (bytes_eq n q) as (λ b. bytes_eq n q ≡ b → (if b then Some d else find q) ≡ or_first (find q) (if_so b d)) [
  | true ↦ λ e. sym (ap (λ o. or_first o (Some d)) (ap find (sym ((bytes_eq-Decides n q).0 e)) ∙ none_is (find n) none))
  | false ↦ λ e. or_none (find q)
] refl

pub kept_first : {A : Type 0} (view : A → ClassDecl) (get : Text → Option A) (n q : Text) (x : A) (now : Option A) → is_some (get n) ≡ false → now ≡ (if bytes_eq n q then Some x else get q)
    → option_map view now ≡ or_first (option_map view (get q)) (if_so (bytes_eq n q) (view x))
kept_first view get n q x now none is =
    ap (option_map view) is ∙ map_if view (bytes_eq n q) x (get q) ∙ keep_new (λ t. option_map view (get t)) n q (view x) (some_map view (get n) ∙ none)
