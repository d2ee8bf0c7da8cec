-- Classes and declarations, by their names.
use Rattle.std.proofs.Common.{◌≡◌, Bool, true, false, cond, List, [], ◌∷◌, map, option_map, Option, None, Some, refl, ◌∙◌, ap, bytes_eq}
use Rattle.std.specs.Prelude.{find}
use Rattle.dart_syntax.specs.Syntax.{ClassDecl, Top}
use Rattle.dart_syntax.specs.Bytes.{Text}
use Rattle.dart_meaning.specs.Classes.{first_some, if_so}
use Rattle.dart_meaning.specs.Means.{top_name}
use Rattle.declaration_rules.specs.Finding.{named_of}
use Rattle.text_names.specs.Maps.{Known, nothing_known, or_first, with_first}
use Rattle.text_names.specs.Around.{Around, around, also_classes}
use Rattle.text_names.specs.Tops.{also_tops}

or_assoc : {V : Type 0} (a b c : Option V) → or_first (or_first a b) c ≡ or_first a (or_first b c)
or_assoc None b c = refl
or_assoc (Some v) b c = refl

or_none : {V : Type 0} (o : Option V) → o ≡ or_first o None
or_none None = refl
or_none (Some v) = refl

first_around : (b : Bool) (c : ClassDecl) (more : List (Option ClassDecl)) → or_first (if_so b (around c)) (option_map around (first_some more)) ≡ option_map around (first_some (if_so b c ∷ more))
first_around true c more = refl
first_around false c more = refl

also_are : (cs : List ClassDecl) (known : Known Around) (q : Text) → also_classes cs known q ≡ or_first (known q) (option_map around (named_of cs q))
also_are [] known q = or_none (known q)
also_are (c ∷ cs) known q =
    also_are cs (with_first c.name.text (around c) known) q
    ∙ or_assoc (known q) (if_so (bytes_eq c.name.text q) (around c)) (option_map around (named_of cs q))
    ∙ ap (or_first (known q)) (first_around (bytes_eq c.name.text q) c (map (λ (d : ClassDecl). if_so (bytes_eq d.name.text q) d) cs))

-- the first class of a name
pub classes_are : (cs : List ClassDecl) (q : Text) → also_classes cs nothing_known q ≡ option_map around (named_of cs q)
classes_are cs q = also_are cs nothing_known q

first_top : (b : Bool) (t : Top) (o : Option Top) → or_first (if_so b t) o ≡ cond b (Some t) o
first_top true t o = refl
first_top false t o = refl

also_found : (ts : List Top) (known : Known Top) (q : Text) → also_tops ts known q ≡ or_first (known q) (find (λ top. bytes_eq (top_name top).text q) ts)
also_found [] known q = or_none (known q)
also_found (t ∷ ts) known q =
    let rest = find (λ top. bytes_eq (top_name top).text q) ts in
    also_found ts (with_first (top_name t).text t known) q
    ∙ or_assoc (known q) (if_so (bytes_eq (top_name t).text q) t) rest
    ∙ ap (or_first (known q)) (first_top (bytes_eq (top_name t).text q) t rest)

-- the first declaration of a name
pub tops_are : (ts : List Top) (q : Text) → also_tops ts nothing_known q ≡ find (λ top. bytes_eq (top_name top).text q) ts
tops_are ts q = also_found ts nothing_known q
