-- Members with a body, by kind and name.
use Rattle.std.proofs.Common.{◌≡◌, ℕ, Bool, true, false, not, ◌&&◌, List, [], ◌∷◌, map, option_map, is_some, Option, None, Some, refl, sym, ◌∙◌, ap, bytes_eq, if◌then◌else◌}
use Rattle.dart_syntax.specs.Syntax as t
use Rattle.dart_syntax.specs.Syntax.{Member, Param, Body}
use Rattle.dart_syntax.specs.Bytes.{Text}
use Rattle.program.specs.declared.numbered.SelectorKind.{SelectorKind}
use Rattle.program.specs.declared.numbered.SelectorKind.TheVariants.{Call, Get, Set}
use Rattle.dart_meaning.specs.Classes.{if_so, Taking, taking, first_some, in_member, with_body}
use Rattle.dart_meaning.specs.Program.{reads, writes}
use Rattle.dart_meaning.specs.Operators.{operator_name}
use Rattle.text_names.specs.declared.reached.Takes.{Takes}
use Rattle.text_names.specs.Maps.{Known, nothing_known, or_first}
use Rattle.text_names.specs.Reached.{takes_of, fixed, one_taken, Reached, reaching, reached, with_reached, also_reached}

-- what a member is for a name
abbrev chosen : Option Reached → Text → Option Takes
chosen None q = None
chosen (Some r) q = if_so (bytes_eq r.name q) r.takes

or_assoc : {V : Type 0} (a b c : Option V) → or_first (or_first a b) c ≡ or_first a (or_first b c)
or_assoc None b c = refl
or_assoc (Some v) b c = refl

or_none : {V : Type 0} (o : Option V) → o ≡ or_first o None
or_none None = refl
or_none (Some v) = refl

first_is : {V : Type 0} (o : Option V) (more : List (Option V)) → first_some (o ∷ more) ≡ or_first o (first_some more)
first_is None more = refl
first_is (Some n) more = refl

with_is : (o : Option Reached) (known : Known Takes) (q : Text) → with_reached o known q ≡ or_first (known q) (chosen o q)
with_is None known q = or_none (known q)
with_is (Some r) known q = refl

also_is : (kind : SelectorKind) (ms : List Member) (known : Known Takes) (q : Text) → also_reached kind ms known q ≡ or_first (known q) (first_some (map (λ m. chosen (reached kind m) q) ms))
also_is kind [] known q = or_none (known q)
also_is kind (m ∷ ms) known q =
    let rest = first_some (map (λ m. chosen (reached kind m) q) ms) in
    also_is kind ms (with_reached (reached kind m) known) q
    ∙ ap (λ o. or_first o rest) (with_is (reached kind m) known q)
    ∙ or_assoc (known q) (chosen (reached kind m) q) rest
    ∙ ap (or_first (known q)) (sym (first_is (chosen (reached kind m) q) (map (λ m. chosen (reached kind m) q) ms)))

-- a member with a body, if it is of the kind and has the name
coded_is : (class q n : Text) (params : List Param) (b : Option Body) → chosen (if_so (is_some b) (reaching n (fixed params))) q ≡ option_map takes_of (if bytes_eq n q then with_body class params b else None)
coded_is class q n params None = elim (bytes_eq n q) as (λ same. None ≡ option_map takes_of (if same then None else None)) [ true ↦ refl | false ↦ refl ]
coded_is class q n params (Some x) = elim (bytes_eq n q) as (λ same. if_so same (fixed params) ≡ option_map takes_of (if same then with_body class params (Some x) else None)) [ true ↦ refl | false ↦ refl ]

map_so : {A B : Type 0} (f : A → B) (b : Bool) (x : A) → if_so b (f x) ≡ option_map f (if_so b x)
map_so f true x = refl
map_so f false x = refl

set_is : (g : Bool) (n q : Text) (m : Taking) → takes_of m ≡ one_taken → chosen (if_so g (reaching n one_taken)) q ≡ option_map takes_of (if_so (bytes_eq n q && g) m)
set_is true n q m e = elim (bytes_eq n q) as (λ x. if_so x one_taken ≡ option_map takes_of (if_so (x && true) m)) [ true ↦ ap Some (sym e) | false ↦ refl ]
set_is false n q m e = elim (bytes_eq n q) as (λ x. None ≡ option_map takes_of (if_so (x && false) m)) [ true ↦ refl | false ↦ refl ]

member_is : (place : Text → ℕ) (class : Text) (kind : SelectorKind) (q : Text) (m : Member) → chosen (reached kind m) q ≡ option_map takes_of (in_member place class kind q m)
member_is place class Get q (t.field l) = map_so takes_of (bytes_eq l.name.text q) (taking 0 0 (reads (place q)))
member_is place class Set q (t.field l) = set_is (not l.is_final) l.name.text q (taking 1 1 (writes (place q))) refl
member_is place class Call q (t.field l) = refl
member_is place class Get q (t.method n params b) = refl
member_is place class Set q (t.method n params b) = refl
member_is place class Call q (t.method n params b) = coded_is class q n.text params b
member_is place class Get q (t.getter n b) = coded_is class q n.text [] b
member_is place class Set q (t.getter n b) = refl
member_is place class Call q (t.getter n b) = refl
member_is place class Get q (t.setter n param b) = refl
member_is place class Set q (t.setter n param b) = coded_is class q n.text (param ∷ []) b
member_is place class Call q (t.setter n param b) = refl
member_is place class Get q (t.operator op at params b) = refl
member_is place class Set q (t.operator op at params b) = refl
member_is place class Call q (t.operator op at params b) = coded_is class q (operator_name op params) params b
member_is place class Get q (t.constructor n params passed b) = refl
member_is place class Set q (t.constructor n params passed b) = refl
member_is place class Call q (t.constructor n params passed b) = refl

pub firsts : {A B C : Type 0} (f : B → C) (g : A → Option C) (h : A → Option B) (xs : List A) → ((x : A) → g x ≡ option_map f (h x)) → first_some (map g xs) ≡ option_map f (first_some (map h xs))
firsts f g h [] same = refl
firsts f g h (x ∷ xs) same =
    ap (λ o. first_some (o ∷ map g xs)) (same x)
    ∙ (elim (h x) as (λ o. first_some (option_map f o ∷ map g xs) ≡ option_map f (first_some (o ∷ map h xs))) [
      | None ↦ firsts f g h xs same
      | Some y ↦ refl
    ])

-- the first member of a kind, by its name
pub reached_are : (place : Text → ℕ) (class : Text) (kind : SelectorKind) (ms : List Member) (q : Text) → also_reached kind ms nothing_known q ≡ option_map takes_of (first_some (map (in_member place class kind q) ms))
reached_are place class kind ms q = also_is kind ms nothing_known q ∙ firsts takes_of (λ m. chosen (reached kind m) q) (in_member place class kind q) ms (member_is place class kind q)
