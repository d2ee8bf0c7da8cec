-- The order of the classes is that of the definition.
use Rattle.std.proofs.Common.{◌≡◌, ℕ, ◌+◌, ◌*◌, ◌<◌, ◌≤◌, arith, map, length, zero, suc, Bool, true, false, if◌then◌else◌, cond, List, [], ◌∷◌, ◌++◌, Option, None, Some, refl, sym, ◌∙◌, ap, bytes_eq, unwrap_or}
use Rattle.std.specs.Prelude.{flat_map, filter_map, Vec}
use Rattle.std.specs.Borrow.{Bor}
use Rattle.std.specs.List.{cons_option}
use Rattle.std.proofs.lemmas.Slice.Eq.{bytes_eq-Decides}
use Rattle.std.proofs.lemmas.List.{length-map, length-append}
use Rattle.dart_syntax.specs.Syntax.{ClassDecl, Tree}
use Rattle.dart_syntax.specs.Bytes.{Text}
use Rattle.dart_meaning.specs.Classes.{if_so, classes, parent, children, preorder}
use Rattle.tree_numbers.specs.declared.order.Waiting.{Waiting}
use Rattle.tree_numbers.specs.Parts.{texts}
use Rattle.tree_numbers.specs.Order.{Below, names_in, no_children, with_child, also_below, ordered, waiting_names, todo_before, todo}

append-nil : {A : Type 0} (xs : List A) → xs ≡ xs ++ []
append-nil [] = refl
append-nil (x ∷ xs) = ap (λ t. x ∷ t) (append-nil xs)

append-append : {A : Type 0} (xs ys zs : List A) → (xs ++ ys) ++ zs ≡ xs ++ (ys ++ zs)
append-append [] ys zs = refl
append-append (x ∷ xs) ys zs = ap (λ t. x ∷ t) (append-append xs ys zs)

-- a name that comes to those below another one
pub comes_below : (old new : Below) (above name : Text) → ((q : Text) → new q ≡ cond (bytes_eq above q) (old above ++ name ∷ []) (old q)) → new ≡ with_child above name old
comes_below old new above name each i q = each q i

step : (below : Below) (p q name : Text) (rest : List Text) (b : Bool) → (b ≡ true → p ≡ q) → (if b then below p ++ name ∷ [] else below q) ++ rest ≡ below q ++ cons_option (if_so b name) rest
step below p q name rest true h = ap (λ t. (below t ++ name ∷ []) ++ rest) (h refl) ∙ append-append (below q) (name ∷ []) rest
step below p q name rest false h = refl

also_are : (above : Text → Option Text) (cs : List ClassDecl) (below : Below) (q : Text) → also_below above cs below q ≡ below q ++ filter_map (λ (c : ClassDecl). if_so (bytes_eq (unwrap_or (above c.name.text) []) q) c.name.text) cs
also_are above [] below q = append-nil (below q)
also_are above (c ∷ cs) below q =
    let p = unwrap_or (above c.name.text) [] in
    also_are above cs (with_child p c.name.text below) q
    ∙ step below p q c.name.text (filter_map (λ (d : ClassDecl). if_so (bytes_eq (unwrap_or (above d.name.text) []) q) d.name.text) cs) (bytes_eq p q) (bytes_eq-Decides p q).0

-- the classes below each are those of the tree
pub children_are : (tree : Tree) → also_below (parent tree) (classes tree) no_children ≡ children tree
children_are tree i q = also_are (parent tree) (classes tree) no_children q i

-- the order by levels is the preorder
pub preorder_is : (tree : Tree) (n : ℕ) (name : Text) → ordered n (children tree) name ≡ preorder n tree name
preorder_is tree zero name = refl
preorder_is tree (suc n) name = ap (λ f. name ∷ flat_map f (children tree name)) (λ i x. preorder_is tree n x i)

pub todo_last : (below : Below) (later : List Text) (ws : List Waiting) (w : Waiting) → todo_before below later (ws ++ w ∷ []) ≡ waiting_names below w ++ todo_before below later ws
todo_last below later [] w = refl
todo_last below later (v ∷ ws) w = todo_last below (waiting_names below v ++ later) ws w

pub nothing_below : (below : Below) (names : List Text) → flat_map (ordered 0 below) names ≡ []
nothing_below below [] = refl
nothing_below below (x ∷ xs) = nothing_below below xs

pub taken_and_put : {A : Type 0} (b : Bool) (v : Vec (Bor Text) A) (o : Option (Vec (Bor Text) A)) → names_in (cond b (Some v) (cond b None o)) ≡ cond b (texts v.items) (names_in o)
taken_and_put true v o = refl
taken_and_put false v o = refl

pub texts_last : (xs : List (Bor Text)) (x : Bor Text) → texts (xs ++ x ∷ []) ≡ texts xs ++ x.now ∷ []
texts_last [] x = refl
texts_last (y ∷ ys) x = ap (λ t. y.now ∷ t) (texts_last ys x)

-- names that wait on top
pub placed : (below : Below) (ws : List Waiting) (w : Waiting) (n : ℕ) (names : List Text) → suc w.levels ≡ n → texts w.names.now ≡ names → todo below (ws ++ w ∷ []) ≡ flat_map (ordered n below) names ++ todo below ws
placed below ws w n names e f =
    todo_last below [] ws w ∙ ap (λ k. flat_map (ordered k below) (texts w.names.now) ++ todo below ws) e ∙ ap (λ xs. flat_map (ordered n below) xs ++ todo below ws) f

pub nothing_placed : (below : Below) (n : ℕ) (names later : List Text) → n ≡ 0 → later ≡ flat_map (ordered n below) names ++ later
nothing_placed below n names later e = sym (ap (λ k. flat_map (ordered k below) names ++ later) e ∙ ap (λ xs. xs ++ later) (nothing_below below names))

pub first_placed : (os kids rest later : List Text) (name : Text) → (os ++ name ∷ []) ++ (kids ++ (rest ++ later)) ≡ os ++ (((name ∷ kids) ++ rest) ++ later)
first_placed os kids rest later name = append-append os (name ∷ []) (kids ++ (rest ++ later)) ∙ ap (λ t. os ++ (name ∷ t)) (sym (append-append kids rest later))

-- a step that places a class, or takes off one that waits, leaves less to do
pub fewer : {A B : Type 0} (f : A → B) (placed next : List A) (whole was now : List B) (all popped waits : List Waiting) (w : Waiting) → whole ≡ was → all ≡ popped ++ w ∷ [] → map f next ++ now ≡ map f placed ++ was → length waits + 2 * length placed ≤ length popped + 2 * length next → 2 * length now + length waits < 2 * length whole + length all
fewer f placed next whole was now all popped waits w e more same most =
    let both : length next + length now ≡ length placed + length was =
    ap (λ n. n + length now) (sym (length-map next f)) ∙ sym (length-append (map f next) now) ∙ ap length same ∙ length-append (map f placed) was ∙ ap (λ n. n + length was) (length-map placed f) in
    let all_more : length all ≡ length popped + 1 = ap length more ∙ length-append popped (w ∷ []) in
    let wholes : length whole ≡ length was = ap length e in
    omega (arith, both, most, all_more, wholes)
