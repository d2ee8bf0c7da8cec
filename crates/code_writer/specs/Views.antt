-- What parts of expressions of src/ stand for.
use Rattle.std.specs.Prelude.{List, map}
use Rattle.program.specs.declared.body.Expression.{Expression}
use Rattle.program.specs.declared.body.Piece.{Piece}
use Rattle.program.specs.declared.body.SiteCall.{SiteCall}
use Rattle.program.specs.declared.body.Link.{Link}
use Rattle.program.specs.declared.body.AssignmentTarget.{AssignmentTarget}
use Rattle.program.specs.declared.body.AssignmentTarget.TheVariants as to
use Rattle.program.specs.declared.body.UpdateTarget.{UpdateTarget}
use Rattle.program.specs.declared.body.UpdateTarget.TheVariants as up
use Rattle.program.specs.declared.body.Statement.{Statement}
use Rattle.program.specs.Bodies as c

-- expressions from left to right
abbrev pub exps_of : List Expression → c.Exps
exps_of xs = c.exps (map c.exp xs)

-- an interpolation
abbrev pub piece_of : Piece Expression → Piece c.Exp
piece_of p = record { site = p.site; value = c.exp p.value; then = p.then }

-- the interpolations of a string
abbrev pub pieces_of : List (Piece Expression) → c.Pieces
pieces_of xs = c.pieces (map piece_of xs)

-- a call through a site
abbrev pub call_of : SiteCall Expression → SiteCall c.Exp
call_of k = record { site = k.site; arguments = map c.exp k.arguments }

-- the calls behind a receiver
abbrev pub calls_of : List (SiteCall Expression) → c.Calls
calls_of xs = c.calls (map call_of xs)

-- an operator with its right side
abbrev pub link_of : Link Expression → Link c.Exp
link_of l = record { joint = l.joint; operand = c.exp l.operand }

-- operators of one level
abbrev pub links_of : List (Link Expression) → c.Links
links_of xs = c.links (map link_of xs)

-- what a plain assignment writes
abbrev pub target_of : AssignmentTarget Expression → c.Target
target_of (to.Local k) = c.to_local k
target_of (to.Global k) = c.to_global k
target_of (to.Super m) = c.to_super m.0
target_of (to.Member e s) = c.to_member (c.exp e) s.0
target_of (to.Element e i s) = c.to_element (c.exp e) (c.exp i) s.0

-- what is read and then written
abbrev pub update_of : UpdateTarget Expression → c.Update
update_of (up.Local k) = c.of_local k
update_of (up.Global k) = c.of_global k
update_of (up.Super g m) = c.of_super g.0 m.0
update_of (up.Member e g s) = c.of_member (c.exp e) g.0 s.0
update_of (up.Element e i g s) = c.of_element (c.exp e) (c.exp i) g.0 s.0

-- statements one after the other
abbrev pub stas_of : List Statement → c.Stas
stas_of xs = c.stas (map c.sta xs)
