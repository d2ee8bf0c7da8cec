-- Steps of loops that list.
use Rattle.std.proofs.Common.{◌≡◌, ℕ, ◌+◌, ◌<◌, List, ◌∷◌, ◌++◌, length, map, flat_map, drop, get_or, sym, ◌∙◌, ap, append_assoc, add-one, drop-cons}

-- What one more item gives goes behind what is there.
pub one_more : {A B C D : Type 0} (f : C → List D) (v : B → C) (w : A → B) (xs : List A) (i : ℕ) (x : A) (old new all : List D)
    → i < length xs → x ≡ get_or xs i x → new ≡ old ++ f (v (w x)) → old ++ flat_map f (map v (map w (drop i xs))) ≡ all → new ++ flat_map f (map v (map w (drop (i + 1) xs))) ≡ all
one_more f v w xs i x old new all lt is put before =
    let whole : drop i xs ≡ get_or xs i x ∷ drop (i + 1) xs = rw (add-one, drop-cons xs i x) in
    let here : drop i xs ≡ x ∷ drop (i + 1) xs = whole ∙ ap (λ y. y ∷ drop (i + 1) xs) (sym is) in
    ap (λ ys. ys ++ flat_map f (map v (map w (drop (i + 1) xs)))) put ∙ rw append_assoc (sym (ap (λ ys. old ++ flat_map f (map v (map w ys))) here) ∙ before)
