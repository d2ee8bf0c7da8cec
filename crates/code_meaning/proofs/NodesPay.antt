-- The nodes of a program bound its units.
use Rattle.std.proofs.Common.{◌≡◌, ℕ, zero, suc, ◌+◌, ◌*◌, ◌≤◌, List, [], ◌∷◌, ◌++◌, length, map, ap, subst, arith, length-append}
use Rattle.std.specs.Prelude.{nat_eq, slice_get, sum_by, Option, Some, None}
use Rattle.std.proofs.lemmas.List.Sums.{sum_by-cons}
use Rattle.program.specs.declared.literal.Literal.{Literal}
use Rattle.program.specs.declared.literal.Literal.TheVariants as literals
use Rattle.program.specs.declared.body.Body.{Body}
use Rattle.program.specs.declared.body.Body.TheVariants as body
use Rattle.program.specs.declared.numbered.Class.{Class}
use Rattle.program.specs.declared.numbered.Constructor.{Constructor}
use Rattle.program.specs.Bodies as c
use Rattle.program.specs.Bodies.{Exps, Stas}
use Rattle.program.specs.Parts.{Parts}
use Rattle.program.specs.Sizes as nodes
use Rattle.program.specs.Whole.{IsSound, IsClass, HasSoundConstructor}
use Rattle.dart_meaning.specs.Numbered.{class_above}
use Rattle.code_unit.specs.declared.instr.Instr.TheVariants.{Const, Local, Pop, Return}
use Rattle.code_pool.specs.Pool.{Pool}
use Rattle.program_code.specs.Code as d
use Rattle.program_code.specs.IsCode.{required_of, defaults_of, sets_of, passes_of, body_of}
use Rattle.program_code.specs.Sizes.{stas_size, sets_size, above_size}
use Rattle.program_code.proofs.Lengths.{code_length, stas_length, sets_length, above_length}
use Rattle.code_meaning.specs.Laws.{paid_for}
use Rattle.code_meaning.proofs.Nodes.{exp_small, stas_small, sets_small, above_small}
use Rattle.code_meaning.proofs.Units.{Pays}

-- one of the items is no more than their sum
one_of : {A : Type 0} (f : A → ℕ) (xs : List A) (i : ℕ) (x : A) → slice_get xs i ≡ Some x → f x ≤ sum_by f xs
one_of f [] i x e = absurd (cc)
one_of f (a ∷ xs) zero x e = let same : a ≡ x = cc in omega (arith, sum_by-cons f a xs, ap f same)
one_of f (a ∷ xs) (suc i) x e = omega (arith, sum_by-cons f a xs, one_of f xs i x e)

module _ (p : Parts) (constant : Literal → ℕ) (first scratch : ℕ) where
  body_length : (b : Body) (n : ℕ) → length (d.body_code p constant first scratch b n) ≤ 16 * nodes.body_size b + 2
  body_length (body.Arrow e) n =
      omega (arith, length-append (d.code p constant first scratch (c.exp e) 0) (Return ∷ []), code_length p constant first scratch (c.exp e) 0, exp_small (c.exp e))
  body_length (body.Block all) n =
      let xs : Stas = c.stas (map c.sta all) in
      let end : ℕ = stas_size 1 xs in
      omega (arith, length-append (d.stas p constant first scratch (Return ∷ []) xs n end end 0) (Const (constant literals.Null) ∷ Return ∷ []), stas_length p constant first scratch (Return ∷ []) xs n end end 0, stas_small 1 (omega arith) xs)

  constructor_length : (above : ℕ) (sets : List (Option ℕ)) (passes : Exps) (all : Stas) (n : ℕ)
      → length (d.constructor_code p constant first scratch above sets passes all n) ≤ 3 * length sets + (3 + 16 * nodes.exps_size passes) + 16 * nodes.stas_size all + 2
  constructor_length above sets passes all n =
      let body_at : ℕ = sets_size sets + above_size above passes in
      let end : ℕ = body_at + stas_size 3 all in
      let body = d.stas p constant first scratch (Pop ∷ Local 0 ∷ Return ∷ []) all n end end body_at in
      let up = d.above_code p constant first scratch above passes (sets_size sets) in
      omega (
        arith,
        length-append (d.sets_code p constant first scratch sets first) (up ++ (body ++ Local 0 ∷ Return ∷ [])),
        length-append up (body ++ Local 0 ∷ Return ∷ []),
        length-append body (Local 0 ∷ Return ∷ []),
        sets_length p constant first scratch sets first,
        above_length p constant first scratch (nat_eq above 0) above passes (sets_size sets),
        stas_length p constant first scratch (Pop ∷ Local 0 ∷ Return ∷ []) all n end end body_at,
        sets_small sets,
        above_small above passes,
        stas_small 3 (omega arith) all,
      )

-- a constructor, written or not
made_of : (p : Parts) (class : ℕ) (o : Option Constructor) → HasSoundConstructor p class o
    → 3 * length (sets_of o) + (3 + 16 * nodes.exps_size (passes_of o)) + 16 * nodes.stas_size (body_of o) + 2 ≤ 16 * nodes.constructor_size o + 5
made_of p class None h = omega arith
made_of p class (Some b) h = omega (arith, h.each)

-- Sixteen instructions for each node, and those of a list's text, are enough for each unit.
pub nodes_pay : (p : Parts) → IsSound p → (pool : Pool) (constant : Literal → ℕ) → Pays p pool constant (paid_for p)
unfolding nodes.size
nodes_pay p sound pool constant = record {
  functions = λ f k u there H. omega (arith, ap length H.is.code, body_length p constant 0 H.is.scratch k.body (k.required + length k.defaults), one_of nodes.function_size p.functions f k there);
  methods = λ m k b u there is H. omega (arith, ap length H.is.code, body_length p constant 1 H.is.scratch b (k.required + length k.defaults), one_of nodes.method_size p.methods m k there, ap nodes.code_size is);
  constructors = λ class k u there H. omega (
    arith,
    ap length H.is.code,
    constructor_length p constant 1 H.is.scratch (class_above p class) (sets_of k.constructor) (passes_of k.constructor) (body_of k.constructor) (required_of k.constructor + length (defaults_of k.constructor)),
    made_of p class k.constructor (subst (IsClass p class) there (sound.classes class)).constructor,
    one_of (λ (k : Class). nodes.constructor_size k.constructor) p.classes class k there,
  );
  lists = λ u H. omega (arith, ap length H.is.code);
}
