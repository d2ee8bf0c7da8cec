-- What a program's soundness says of the lists that a class table is made of.
use Rattle.std.proofs.Common.{◌≡◌, ℕ, suc, ◌<◌, ◌≤◌, Bool, List, [], ◌∷◌, ◌++◌, length, map, slice_get, get_or, Option, None, Some, option_map, option_to_list, unwrap_or, All, IsTrue, refl, sym, ◌∙◌, ap, subst, arith}
use Rattle.std.proofs.lemmas.List.Elements.{All-cons}
use Rattle.std.proofs.lemmas.List.{length-map}
use Rattle.std.proofs.lemmas.Option.{slice_get-map, slice_get_read}
use Rattle.std.specs.Str.{IsUtf8}
use Rattle.program.specs.declared.ids.ClassId.{ClassId}
use Rattle.program.specs.declared.numbered.Class.{Class}
use Rattle.program.specs.Hierarchy.{Parents, Supers, IsPreorder, supers_in, ends_within}
use Rattle.program.specs.Parts.{Parts, parents, supers, named_above}
use Rattle.program.specs.Whole.{IsSound}
use Rattle.program.proofs.Facts.{parent_there, interface_there, acyclic, order, few_classes, class_text}
use Rattle.program.proofs.Always.{length-parents}
use Rattle.class_table.specs.Lasts.{AreLasts}
use Rattle.class_table.specs.Table.{IsTable}
use Rattle.class_table.specs.Rows.{AreWithin, AllEnd, AreRows, IsFilled}

none_within : (n : ℕ) → All (λ e. e < n) []
none_within n = λ k d lt. absurd (omega arith)

interfaces_within : (n : ℕ) (is : List ClassId) → ((i : ℕ) (d : ClassId) → slice_get is i ≡ Some d → d.0 < n) → All (λ e. e < n) (map (λ i. i.0) is)
interfaces_within n [] h = none_within n
interfaces_within n (x ∷ is) h = All-cons (λ e. e < n) x.0 (map (λ i. i.0) is) (h 0 x refl) (interfaces_within n is (λ i d e. h (suc i) d e))

parent_first : (n : ℕ) (o : Option ClassId) (es : List ℕ) → ((d : ClassId) → o ≡ Some d → d.0 < n) → All (λ e. e < n) es → All (λ e. e < n) (option_to_list (option_map (λ p. p.0) o) ++ es)
parent_first n None es h all = all
parent_first n (Some d) es h all = All-cons (λ e. e < n) d.0 es (h d refl) all

named_within : (p : Parts) (sound : ∥ IsSound p ∥₁) (class : ℕ) (k : Class) → slice_get p.classes class ≡ Some k → All (λ e. e < length p.classes) (named_above k)
named_within p sound class k here =
    parent_first (length p.classes) k.parent (map (λ i. i.0) k.interfaces) (λ d is. parent_there p sound class k d here is)
    (interfaces_within (length p.classes) k.interfaces (λ i d is. interface_there p sound class i k d here is))

length-supers : (classes : List Class) → length (supers classes) ≡ length classes
length-supers classes = simp length-map

length-names : (classes : List Class) → length (map (λ (k : Class). k.name) classes) ≡ length classes
length-names classes = simp length-map

length-abstracts : (classes : List Class) → length (map (λ (k : Class). k.is_abstract) classes) ≡ length classes
length-abstracts classes = simp length-map

pub supers_within : (p : Parts) → ∥ IsSound p ∥₁ → AreWithin (supers p.classes)
supers_within p sound c =
    subst (λ (n : ℕ). All (λ e. e < n) (supers_in (supers p.classes) c)) (sym (length-supers p.classes))
    (subst (λ (o : Option (List ℕ)). All (λ e. e < length p.classes) (unwrap_or o [])) (sym (slice_get-map named_above p.classes c))
    ((elim (slice_get p.classes c) as (λ o. slice_get p.classes c ≡ o → All (λ e. e < length p.classes) (unwrap_or (option_map named_above o) [])) [
      | None ↦ λ is. none_within (length p.classes)
      | Some k ↦ λ is. named_within p sound c k is
    ]) refl))

pub supers_end : (p : Parts) → ∥ IsSound p ∥₁ → AllEnd (supers p.classes)
supers_end p sound c = subst (λ (n : ℕ). IsTrue (ends_within n (supers p.classes) c)) (sym (length-supers p.classes)) (acyclic p sound c)

-- A table of the lists of a program keeps what a class table keeps.
pub table_sound : (p : Parts) → ∥ IsSound p ∥₁ → {names : List (List ℕ)} {up : Parents} {abstracts : List Bool} {named : Supers} {last : List ℕ} {above : List (List ℕ)}
    → names ≡ map (λ k. k.name) p.classes → up ≡ parents p.classes → abstracts ≡ map (λ k. k.is_abstract) p.classes → named ≡ supers p.classes
    → AreLasts up last → length above ≡ length named → AreRows named above → ((d : ℕ) → d < length named → IsFilled above d)
    → IsTable names up abstracts named last above
table_sound p sound {names} {up} {abstracts} {named} {last} {above} n u a s lasts same rows filled =
    let classes : length up ≡ length p.classes = ap (λ (xs : Parents). length xs) u ∙ length-parents p.classes in
    let each_named : length named ≡ length p.classes = ap (λ (xs : Supers). length xs) s ∙ length-supers p.classes in
    let few : length p.classes ≤ 2048 = few_classes p sound in
    record {
      order = subst IsPreorder (sym u) (order p sound);
      few = omega arith;
      each_name = ap (λ (xs : List (List ℕ)). length xs) n ∙ length-names p.classes ∙ sym classes;
      each_flag = ap (λ (xs : List Bool). length xs) a ∙ length-abstracts p.classes ∙ sym classes;
      each_named = each_named ∙ sym classes;
      lasts = lasts;
      each_row = same ∙ each_named ∙ sym classes;
      rows = rows;
      filled = λ c lt. filled c (omega arith);
    }

-- The name of a class that is read is text.
pub name_text : (p : Parts) → ∥ IsSound p ∥₁ → (classes : List Class) (i : ℕ) (k : Class) → classes ≡ p.classes → i < length classes → k ≡ get_or classes i k → IsUtf8 k.name
name_text p sound classes i k same lt is =
    class_text p sound i k (subst (λ (ks : List Class). slice_get ks i ≡ Some k) same (slice_get_read classes (length classes) i k refl lt is))
