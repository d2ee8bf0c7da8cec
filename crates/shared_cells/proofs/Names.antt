-- What is true of a call's names is true of its arguments.
use Rattle.std.proofs.Common.{◌≡◌, ℕ, ◌<◌, IsTrue, length, [], sym, ap, ◌∙◌, subst, arith}
use Rattle.program.specs.Parts.{is_concrete}
use Rattle.program.specs.declared.numbered.Target.{Target}
use Rattle.method_lookup.specs.declared.linked.Linked.{Linked}
use Rattle.miss_handler.specs.States.{LawfulState, Move}
use Rattle.program.specs.Lookup.{resolve}
use Rattle.program.specs.Program.{parts_of}
use Rattle.miss_handler.specs.declared.state.CallState.{CallState}
use Rattle.miss_handler.specs.declared.state.CallState.TheVariants.{Unlinked, Mono, Single, Cached, Mega}
use Rattle.miss_handler.specs.Sites.{receivers, receivers_at, selector_of, IsNamed}
use Rattle.miss_handler.proofs.Moves.{move_lawful_state}
use Rattle.cell_rule.specs.About.{About, about_of}
use Rattle.cell_rule.proofs.Programs.{sound_of}

pub call_site : (p : About) (linked : Linked) (x site : ℕ) → p ≡ about_of linked → x ≡ site → x < p.sites → site < length linked.program.sites
call_site p linked x site is same inside = let sites = ap (λ (q : About). q.sites) is in omega arith

pub call_class : (p : About) (linked : Linked) (x c class : ℕ) → p ≡ about_of linked → c ≡ class → IsTrue ((p.at x).concrete c) → class < length linked.program.classes
call_class p linked x c class is same concrete = let small = (sound_of linked).there x c (subst (λ (q : About). IsTrue ((q.at x).concrete c)) is concrete) in omega arith

pub call_concrete : (p : About) (linked : Linked) (x c class : ℕ) → p ≡ about_of linked → c ≡ class → IsTrue ((p.at x).concrete c) → IsTrue (is_concrete linked.program.classes class)
unfolding receivers
call_concrete p linked x c class is same concrete = subst (λ (z : About × ℕ). IsTrue ((z.0.at x).concrete z.1)) (λ j. (is j, same j)) concrete

-- a target that was looked up is the call's
pub call_target : (p : About) (linked : Linked) (x site c class : ℕ) → p ≡ about_of linked → x ≡ site → c ≡ class → (receivers_at linked site).resolve class ≡ (p.at x).resolve c
call_target p linked x site c class is at same = λ j. ((sym is j).at (sym at j)).resolve (sym same j)

-- the other way round
pub concrete_call : (linked : Linked) (x c : ℕ) → IsTrue (is_concrete linked.program.classes c) → IsTrue (((about_of linked).at x).concrete c)
unfolding receivers
concrete_call linked x c concrete = concrete

-- a lawful state names a class of the program
pub lawful_named : (linked : Linked) (x : ℕ) (s : CallState) → LawfulState (receivers_at linked x) s → IsNamed (length linked.program.classes) s
unfolding receivers
lawful_named linked x Unlinked l = tt
lawful_named linked x (Mono a) l = l
lawful_named linked x (Single low high own) l = tt
lawful_named linked x Cached l = tt
lawful_named linked x Mega l = tt

pub looked_up : (linked : Linked) (site class sel : ℕ) (t : Target) → t ≡ resolve (parts_of linked.program) class sel → sel ≡ selector_of linked.program.sites site → t ≡ (receivers_at linked site).resolve class
unfolding receivers
looked_up linked site class sel t e s = e ∙ ap (resolve (parts_of linked.program) class) s

-- the state after a transition is lawful
pub next_lawful : (linked : Linked) (site class : ℕ) (s u : CallState) → IsTrue (is_concrete linked.program.classes class) → LawfulState (receivers_at linked site) s → Move (receivers_at linked site) s [] class u → LawfulState (receivers_at linked site) u
next_lawful linked site class s u concrete l m =
    let sound = sound_of linked in let small = sound.there site class (concrete_call linked site class concrete) in let same = sound.same site in
    move_lawful_state (receivers_at linked site) s [] class u l (omega arith) m
