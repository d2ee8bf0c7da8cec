-- The entry points of a numbered program are those of the tree.
use Rattle.std.proofs.Common.{◌≡◌, ◌+◌, ◌∙◌, ℕ, zero, suc, Bool, true, false, cond, ◌&&◌, ◌||◌, nat_eq, List, [], ◌∷◌, length, map, is_some, Some, refl, sym, ap, codes, arith}
use Rattle.std.proofs.lemmas.Bool.Decides.{nat_tests}
use Rattle.std.specs.Prelude.{Option, None, slice_get}
use Rattle.std.specs.Option.{option_map, option_and_then}
use Rattle.std.specs.List.{position_from}
use Rattle.std.specs.Str.{bytes_eq}
use Rattle.dart_syntax.specs.Syntax.{Tree, Param, Function}
use Rattle.program.specs.declared.numbered.Function as program
use Rattle.program.specs.declared.numbered.Numbered.{Numbered}
use Rattle.program.specs.Program as of_program
use Rattle.program.specs.Program.{entry_named, parts_of}
use Rattle.dart_meaning.specs.Classes.{functions, required}
use Rattle.dart_meaning.specs.Literals.{literal}
use Rattle.dart_meaning.specs.Agree.{BothOrNone}
use Rattle.dart_meaning.specs.Entry as entry
use Rattle.dart_meaning.specs.Entry.{entry_meaning, has_entry, is_entry_point}
use Rattle.dart_meaning.specs.Numbered.{entry_meaning_n}
use Rattle.dart_meaning.specs.Sites.{site_of}
use Rattle.dart_meaning.proofs.ExpsAgree.{StandsAt, first_place, from_front}
use Rattle.dart_meaning.specs.Forms.{Form, FunctionForm, function_form}
use Rattle.dart_meaning.specs.NumberedForm.{IsNumberedOf, defaults, numbered_function}
use Rattle.accepted_trees.proofs.members.Declared.{params_count}
use Rattle.resolver.specs.Entries.{EntriesMean}

-- ---- one function

abbrev form_named : List ℕ → FunctionForm → Bool
form_named name f = (nat_eq f.required 0 && (nat_eq (length f.defaults) 0 && (f.is_entry || bytes_eq f.name (codes "main")))) && bytes_eq f.name name

as_many : {A B : Type 0} (f : A → B) (xs : List A) → length (map f xs) ≡ length xs
as_many f [] = refl
as_many f (x ∷ xs) = ap suc (as_many f xs)

by_form : (name : List ℕ) (f : program.Function) → of_program.is_entry_named name f ≡ form_named name (function_form f)
by_form name f = ap (λ n. (nat_eq f.required 0 && (nat_eq n 0 && (f.is_entry || bytes_eq f.name (codes "main")))) && bytes_eq f.name name) (sym (as_many literal f.defaults))

both : (a b c d : Bool) → ((a && (b && c)) && d) ≡ (((a && b) && c) && d)
both true true c d = refl
both true false c d = refl
both false b c d = refl

not_none : (n : ℕ) → nat_eq (suc n) 0 ≡ false
not_none n = grind (arith, nat_tests)

none_of : (a b : ℕ) → (nat_eq a 0 && nat_eq b 0) ≡ nat_eq (a + b) 0
none_of zero b = let e : b ≡ zero + b = omega arith in ap (λ n. nat_eq n 0) e
none_of (suc a) b = let e : suc (a + b) ≡ suc a + b = omega arith in ap (λ x. x && nat_eq b 0) (not_none a) ∙ sym (not_none (a + b)) ∙ ap (λ n. nat_eq n 0) e

no_params : (params : List Param) → (nat_eq (required params) 0 && nat_eq (length (defaults params)) 0) ≡ nat_eq (length params) 0
no_params params = none_of (required params) (length (defaults params)) ∙ ap (λ n. nat_eq n 0) (params_count params)

-- an entry point of this name, of a tree
abbrev is_named : List ℕ → Function → Bool
is_named name f = is_entry_point f && bytes_eq f.name.text name

numbered_named : (tree : Tree) (name : List ℕ) (f : Function) → form_named name (numbered_function tree f) ≡ is_named name f
numbered_named tree name f =
    let is_open = f.is_entry || bytes_eq f.name.text (codes "main") in
    both (nat_eq (required f.params) 0) (nat_eq (length (defaults f.params)) 0) is_open (bytes_eq f.name.text name)
    ∙ ap (λ b. (b && is_open) && bytes_eq f.name.text name) (no_params f.params)

-- ---- all functions

same_place : {A B : Type 0} (f : A → B) (q : A → Bool) (r : B → Bool) → ((a : A) → q a ≡ r (f a)) → (n : ℕ) (xs : List A) → position_from q n xs ≡ position_from r n (map f xs)
same_place f q r same n [] = refl
same_place f q r same n (x ∷ xs) = λ i. cond (same x i) (Some n) (same_place f q r same (n + 1) xs i)

-- The entry point of a name has the number of its function.
pub entry_place : (text : List ℕ) (tree : Tree) (p : Numbered) → IsNumberedOf text tree (parts_of p) → (name : List ℕ)
    → entry_named p name ≡ position_from (is_named name) 0 (functions tree)
unfolding entry_named
entry_place text tree p is name =
    same_place function_form (of_program.is_entry_named name) (form_named name) (by_form name) 0 p.functions
    ∙ ap (λ (f : Form). position_from (form_named name) 0 f.functions) is.form
    ∙ sym (same_place (numbered_function tree) (is_named name) (form_named name) (λ f. sym (numbered_named tree name f)) 0 (functions tree))

at_place : (tree : Tree) (name : List ℕ) → BothOrNone (StandsAt (functions tree)) (entry.entry_named tree name) (position_from (is_named name) 0 (functions tree))
at_place tree name = from_front (functions tree) (entry.entry_named tree name) (position_from (is_named name) 0 (functions tree)) (first_place (is_named name) 0 (functions tree))

both_there : {A B : Type 0} (R : A → B → Type 0) (o : Option A) (u : Option B) → BothOrNone R o u → is_some u ≡ is_some o
both_there R (Some a) (Some b) h = refl
both_there R None None h = refl
both_there R (Some a) None h = absurd h
both_there R None (Some b) h = absurd h

pub entries_are : (text : List ℕ) (tree : Tree) (p : Numbered) → IsNumberedOf text tree (parts_of p) → (name : List ℕ) → is_some (entry_named p name) ≡ has_entry tree name
entries_are text tree p is name =
    ap is_some (entry_place text tree p is name) ∙ both_there (StandsAt (functions tree)) (entry.entry_named tree name) (position_from (is_named name) 0 (functions tree)) (at_place tree name)

meant : {M : Type 0} (fs : List Function) (run : ℕ → Option M) (means : Function → M) → ((f : ℕ) → run f ≡ option_map means (slice_get fs f))
    → (o : Option Function) (u : Option ℕ) → BothOrNone (StandsAt fs) o u → option_and_then run u ≡ option_map means o
meant fs run means same (Some f) (Some i) at = same i ∙ ap (option_map means) at
meant fs run means same None None at = refl
meant fs run means same (Some f) None at = absurd at
meant fs run means same None (Some i) at = absurd at

-- The entry point of a name does what the tree's does.
pub entries_mean : (text : List ℕ) (tree : Tree) (p : Numbered) → IsNumberedOf text tree (parts_of p)
    → ((f turns : ℕ) → entry_meaning_n (parts_of p) f turns ≡ option_map (λ k. entry_meaning tree (site_of tree) k turns) (slice_get (functions tree) f)) → EntriesMean tree p
entries_mean text tree p is same name turns =
    ap (option_and_then (λ e. entry_meaning_n (parts_of p) e turns)) (entry_place text tree p is name)
    ∙ meant (functions tree) (λ e. entry_meaning_n (parts_of p) e turns) (λ f. entry_meaning tree (site_of tree) f turns) (λ f. same f turns)
    (entry.entry_named tree name) (position_from (is_named name) 0 (functions tree)) (at_place tree name)
