-- Names in lists.
use Rattle.std.proofs.Common.{◌≡◌, Bool, true, false, ◌||◌, List, [], ◌∷◌, Option, refl, ◌∙◌, ap, map, is_some}
use Rattle.std.specs.List.{list_any}
use Rattle.std.specs.Str.{bytes_eq}
use Rattle.dart_syntax.specs.Syntax.{ClassDecl, Tree}
use Rattle.dart_syntax.specs.Bytes.{Text}
use Rattle.dart_meaning.specs.Classes.{first_some, if_so, class_named, classes}
use Rattle.declaration_rules.specs.Known.{is_declared}

pub list_any-map : {A B : Type 0} (p : B → Bool) (f : A → B) (xs : List A) → list_any p (map f xs) ≡ list_any (λ x. p (f x)) xs
list_any-map p f [] = refl
list_any-map p f (x ∷ xs) = ap (λ b. p (f x) || b) (list_any-map p f xs)

found_some : {A : Type 0} (b : Bool) (x : A) (more : List (Option A)) → is_some (first_some (if_so b x ∷ more)) ≡ (b || is_some (first_some more))
found_some true x more = refl
found_some false x more = refl

found_any : {A : Type 0} (p : A → Bool) (xs : List A) → is_some (first_some (map (λ x. if_so (p x) x) xs)) ≡ list_any p xs
found_any p [] = refl
found_any p (x ∷ xs) = found_some (p x) x _ ∙ ap (λ b. p x || b) (found_any p xs)

-- a class is declared by its name where there is one of that name
pub declared_named : (tree : Tree) (q : Text) → is_some (class_named tree q) ≡ is_declared (classes tree) q
declared_named tree q = found_any (λ (c : ClassDecl). bytes_eq c.name.text q) (classes tree)

pub turned : (b h r : Bool) → ((b || h) || r) ≡ (h || (b || r))
turned true true r = refl
turned true false r = refl
turned false true r = refl
turned false false r = refl
