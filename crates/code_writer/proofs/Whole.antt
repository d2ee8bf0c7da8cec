-- The code of whole units.
use Rattle.std.proofs.Common.{◌≡◌, ℕ, zero, suc, ◌+◌, ◌-◌, ◌≤◌, List, [], ◌∷◌, ◌++◌, length, refl, sym, ◌∙◌, ap, subst, arith}
use Rattle.std.specs.Prelude.{false, true, pos, codes, map, max, Option, Some, None, nat_eq}
use Rattle.program.specs.declared.literal.Literal.{Literal}
use Rattle.program.specs.declared.literal.Literal.TheVariants as l
use Rattle.program.specs.declared.body.Body.{Body}
use Rattle.program.specs.declared.body.Body.TheVariants as body
use Rattle.program.specs.Bodies as c
use Rattle.program.specs.Bodies.{Exps, Sta, Stas}
use Rattle.program.specs.Parts.{Parts}
use Rattle.program.specs.Sound.{after, after_first}
use Rattle.code_unit.specs.declared.instr.Instr.{Instr}
use Rattle.code_unit.specs.declared.instr.Instr.TheVariants.{Local, SetLocal, Pop, Jump, LoopTurn, Call, Concat, ExpectString, ElementOr, Return}
use Rattle.program_code.specs.Code as d
use Rattle.program_code.specs.Code.{site}
use Rattle.program_code.specs.Needs.{CoversAll, CoversBody, CoversStas, Roomy, RoomyAll, RoomyBody}
use Rattle.code_writer.specs.declared.layout.Layout.{Layout}
use Rattle.code_writer.specs.Constants.{number_in}
use Rattle.code_writer.specs.Out.{Out, put, put_constant, turned, started}
use Rattle.code_writer.specs.Laws.{IsLayout, IsKnown}
use Rattle.code_writer.specs.EmittedStatements as w
use Rattle.code_writer.specs.EmittedStatements.{most_open, most_open_all, most_of}
use Rattle.code_writer.proofs.Writing.{Writes, IsPart, putting, constant, nothing, body_size, constructor_size, body_writes, constructor_writes}

-- what is known of a unit whose constants are these and some more
pub record IsWritten (s s' : Out) (xs : List Instr) (all : List Literal) (Needs : Type 0) : Type 0 where
  pub code : turned (length s'.code) s'.code ≡ xs
  pub needs : Needs
  pub rest : List Literal
  pub begins : all ≡ s.table ++ rest

whole : {n : ℕ} {all : List Literal} {room : ℕ} {s s' : Out} {xs : List Instr} {A : Type 0} → Writes n all room (started s) s' xs n A → IsPart n all room s'.table s'.room → IsWritten s s' xs all A
whole {n} {all} {room} {s} {s'} w part =
    let size : length s'.code ≡ n = ap length w.is ∙ w.long in
    record {
      code = ap (λ k. turned k s'.code) size ∙ ap (turned n) w.is ∙ w.gives part;
      needs = w.needs part;
      rest = (w.part part).more;
      begins = (w.part part).begins;
    }

part_of : (n : ℕ) (s : Out) (more : List Literal) → IsPart n (s.table ++ more) s.room s.table s.room
part_of n s more = record { more = more; begins = refl; fits = omega arith }

-- a body that is written with more constants to come
pub body_written : (p : Parts) (layout : Layout) → IsLayout p layout → layout.of_constructor ≡ false → (b : Body) (n : ℕ) (s : Out) (more : List Literal)
    → IsWritten s (w.emit_body layout b n (started s)) (d.body_code p (number_in ((w.emit_body layout b n (started s)).table ++ more)) layout.first layout.scratch b n)
    ((w.emit_body layout b n (started s)).table ++ more) (CoversBody (IsKnown ((w.emit_body layout b n (started s)).table ++ more)) (w.emit_body layout b n (started s)).room b)
body_written p layout is_layout plain b n s more =
    let s' : Out = w.emit_body layout b n (started s) in
    whole (body_writes (body_size b) (s'.table ++ more) s'.room p layout is_layout plain b n (started s) (omega arith)) (part_of (body_size b) s' more)

pub constructor_written : (p : Parts) (layout : Layout) → IsLayout p layout → layout.of_constructor ≡ true → (above : ℕ) (sets : List (Option ℕ)) (passes : Exps) (all : Stas) (n : ℕ) (s : Out) (more : List Literal)
    → IsWritten s (w.emit_constructor layout above sets passes all n (started s))
    (d.constructor_code p (number_in ((w.emit_constructor layout above sets passes all n (started s)).table ++ more)) layout.first layout.scratch above sets passes all n)
    ((w.emit_constructor layout above sets passes all n (started s)).table ++ more)
    ((nat_eq above 0 ≡ false → CoversAll (IsKnown ((w.emit_constructor layout above sets passes all n (started s)).table ++ more)) (w.emit_constructor layout above sets passes all n (started s)).room passes)
    × CoversStas (IsKnown ((w.emit_constructor layout above sets passes all n (started s)).table ++ more)) (w.emit_constructor layout above sets passes all n (started s)).room all)
constructor_written p layout is_layout made above sets passes all n s more =
    let s' : Out = w.emit_constructor layout above sets passes all n (started s) in
    let size : ℕ = constructor_size above sets passes all in
    whole (constructor_writes size (s'.table ++ more) s'.room p layout is_layout made above sets passes all n (started s) (omega arith)) (part_of size s' more)

list_writes : (all : List Literal) (room : ℕ) (p : Parts) (list_site : ℕ) → list_site ≡ length p.sites - 1 → (s : Out)
    → Writes 21 all room s (w.emit_list_text list_site s) (d.list_text_code p (number_in all) 1 1) 21
    (IsKnown all (l.Str (codes "[")) × (IsKnown all (l.Int (pos 0)) × (IsKnown all (l.Str []) × (IsKnown all (l.Str (codes ", ")) × (IsKnown all (l.Str (codes "]")) × Unit {0})))))
list_writes all room p list_site site_is s =
    constant 21 all room (l.Str (codes "[")) (constant 21 all room (l.Int (pos 0)) (putting 21 all room (SetLocal 1) (SetLocal 1) refl (constant 21 all room (l.Str []) (putting 21 all room (SetLocal 2) (SetLocal 2) refl
    (putting 21 all room (Local 2) (Local 2) refl (putting 21 all room (Local 0) (Local 0) refl (putting 21 all room (Local 1) (Local 1) refl (putting 21 all room (ElementOr 17) (ElementOr 17) refl (putting 21 all room (SetLocal 1) (SetLocal 1) refl
    (putting 21 all room LoopTurn LoopTurn refl (putting 21 all room (Call (site list_site) 0) (Call (site (length p.sites - 1)) 0) (ap (λ k. Call (site k) 0) site_is) (putting 21 all room ExpectString ExpectString refl (putting 21 all room (Concat 3) (Concat 3) refl
    (constant 21 all room (l.Str (codes ", ")) (putting 21 all room (SetLocal 2) (SetLocal 2) refl (putting 21 all room (Jump 16) (Jump 5) refl
    (putting 21 all room Pop Pop refl (constant 21 all room (l.Str (codes "]")) (putting 21 all room (Concat 2) (Concat 2) refl (putting 21 all room Return Return refl (nothing 21 all room s)))))))))))))))))))))

pub list_written : (p : Parts) (list_site : ℕ) → list_site ≡ length p.sites - 1 → (s : Out) (more : List Literal)
    → IsWritten s (w.emit_list_text list_site (started s)) (d.list_text_code p (number_in ((w.emit_list_text list_site (started s)).table ++ more)) 1 1)
    ((w.emit_list_text list_site (started s)).table ++ more)
    (IsKnown ((w.emit_list_text list_site (started s)).table ++ more) (l.Str (codes "[")) × (IsKnown ((w.emit_list_text list_site (started s)).table ++ more) (l.Int (pos 0)) × (IsKnown ((w.emit_list_text list_site (started s)).table ++ more) (l.Str []) × (IsKnown ((w.emit_list_text list_site (started s)).table ++ more) (l.Str (codes ", ")) × (IsKnown ((w.emit_list_text list_site (started s)).table ++ more) (l.Str (codes "]")) × Unit {0})))))
list_written p list_site site_is s more =
    let s' : Out = w.emit_list_text list_site (started s) in
    whole (list_writes (s'.table ++ more) s'.room p list_site site_is (started s)) (part_of 21 s' more)

-- ---- variables

mutual
  sta_roomy : (big n : ℕ) (x : Sta) → most_open n x ≤ big → Roomy big n x
  sta_roomy big n (c.block all) h = stas_roomy big n all h
  sta_roomy big n (c.declare e) h = h
  sta_roomy big n (c.run e) h = tt
  sta_roomy big n c.empty h = tt
  sta_roomy big n (c.when e x) h = sta_roomy big n x h
  sta_roomy big n (c.when_else e x y) h = (sta_roomy big n x (omega (arith, h)), sta_roomy big n y (omega (arith, h)))
  sta_roomy big n (c.while e x) h = sta_roomy big n x h
  sta_roomy big n (c.for start e last x) h = (omega (arith, h), sta_roomy big (after_first n start) x (omega (arith, h)))
  sta_roomy big n (c.do_while x e) h = sta_roomy big n x h
  sta_roomy big n c.break h = tt
  sta_roomy big n c.continue h = tt
  sta_roomy big n (c.return e) h = tt

  stas_roomy : (big n : ℕ) (xs : Stas) → most_open_all n xs ≤ big → RoomyAll big n xs
  stas_roomy big n c.end_of h = tt
  stas_roomy big n (c.next x more) h =
      (sta_roomy big n x (omega (arith, h)), omega (arith, h, least (after n x) more), stas_roomy big (after n x) more (omega (arith, h)))

  grows : (n : ℕ) (x : Sta) → n ≤ after n x
  grows n (c.block all) = omega arith
  grows n (c.declare e) = omega arith
  grows n (c.run e) = omega arith
  grows n c.empty = omega arith
  grows n (c.when e x) = omega arith
  grows n (c.when_else e x y) = omega arith
  grows n (c.while e x) = omega arith
  grows n (c.for start e last x) = omega arith
  grows n (c.do_while x e) = omega arith
  grows n c.break = omega arith
  grows n c.continue = omega arith
  grows n (c.return e) = omega arith

  pub least : (n : ℕ) (xs : Stas) → n ≤ most_open_all n xs
  least n c.end_of = omega arith
  least n (c.next x more) = omega (arith, grows n x, least (after n x) more)

pub all_roomy : (n : ℕ) (xs : Stas) → RoomyAll (most_open_all n xs) n xs
all_roomy n xs = stas_roomy (most_open_all n xs) n xs (omega arith)

pub body_roomy : (n : ℕ) (b : Body) → RoomyBody (most_of n b) n b
body_roomy n (body.Arrow e) = tt
body_roomy n (body.Block all) = all_roomy n (c.stas (map c.sta all))

pub body_least : (n : ℕ) (b : Body) → n ≤ most_of n b
body_least n (body.Arrow e) = omega arith
body_least n (body.Block all) = least n (c.stas (map c.sta all))
