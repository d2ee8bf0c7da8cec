-- The texts of the keywords that the canonical text has.
use Rattle.std.proofs.Common.{refl, codes}
use Rattle.dart_syntax.specs.declared.token.TokenKind.TheVariants as tk
use Rattle.dart_syntax.specs.declared.token.Keyword.TheVariants as k
use Rattle.dart_syntax.specs.Names.{keyword_of, is_reserved}
use Rattle.dart_syntax.specs.Text.{word}
use Rattle.dart_printer.proofs.Lists.{one}
use Rattle.dart_printer.proofs.Cuts.{Closed}
use Rattle.dart_printer.proofs.Marks.{keyword_word}

pub abstract_word : Closed (word (codes "abstract")) (one (tk.Keyword k.Abstract))
unfolding keyword_of is_reserved
abstract_word = keyword_word (codes "abstract") k.Abstract refl refl refl

pub break_word : Closed (word (codes "break")) (one (tk.Keyword k.Break))
unfolding keyword_of is_reserved
break_word = keyword_word (codes "break") k.Break refl refl refl

pub class_word : Closed (word (codes "class")) (one (tk.Keyword k.Class))
unfolding keyword_of is_reserved
class_word = keyword_word (codes "class") k.Class refl refl refl

pub continue_word : Closed (word (codes "continue")) (one (tk.Keyword k.Continue))
unfolding keyword_of is_reserved
continue_word = keyword_word (codes "continue") k.Continue refl refl refl

pub do_word : Closed (word (codes "do")) (one (tk.Keyword k.Do))
unfolding keyword_of is_reserved
do_word = keyword_word (codes "do") k.Do refl refl refl

pub else_word : Closed (word (codes "else")) (one (tk.Keyword k.Else))
unfolding keyword_of is_reserved
else_word = keyword_word (codes "else") k.Else refl refl refl

pub extends_word : Closed (word (codes "extends")) (one (tk.Keyword k.Extends))
unfolding keyword_of is_reserved
extends_word = keyword_word (codes "extends") k.Extends refl refl refl

pub false_word : Closed (word (codes "false")) (one (tk.Keyword k.False))
unfolding keyword_of is_reserved
false_word = keyword_word (codes "false") k.False refl refl refl

pub final_word : Closed (word (codes "final")) (one (tk.Keyword k.Final))
unfolding keyword_of is_reserved
final_word = keyword_word (codes "final") k.Final refl refl refl

pub for_word : Closed (word (codes "for")) (one (tk.Keyword k.For))
unfolding keyword_of is_reserved
for_word = keyword_word (codes "for") k.For refl refl refl

pub get_word : Closed (word (codes "get")) (one (tk.Keyword k.Get))
unfolding keyword_of is_reserved
get_word = keyword_word (codes "get") k.Get refl refl refl

pub if_word : Closed (word (codes "if")) (one (tk.Keyword k.If))
unfolding keyword_of is_reserved
if_word = keyword_word (codes "if") k.If refl refl refl

pub implements_word : Closed (word (codes "implements")) (one (tk.Keyword k.Implements))
unfolding keyword_of is_reserved
implements_word = keyword_word (codes "implements") k.Implements refl refl refl

pub is_word : Closed (word (codes "is")) (one (tk.Keyword k.Is))
unfolding keyword_of is_reserved
is_word = keyword_word (codes "is") k.Is refl refl refl

pub null_word : Closed (word (codes "null")) (one (tk.Keyword k.Null))
unfolding keyword_of is_reserved
null_word = keyword_word (codes "null") k.Null refl refl refl

pub operator_word : Closed (word (codes "operator")) (one (tk.Keyword k.Operator))
unfolding keyword_of is_reserved
operator_word = keyword_word (codes "operator") k.Operator refl refl refl

pub return_word : Closed (word (codes "return")) (one (tk.Keyword k.Return))
unfolding keyword_of is_reserved
return_word = keyword_word (codes "return") k.Return refl refl refl

pub set_word : Closed (word (codes "set")) (one (tk.Keyword k.Set))
unfolding keyword_of is_reserved
set_word = keyword_word (codes "set") k.Set refl refl refl

pub super_word : Closed (word (codes "super")) (one (tk.Keyword k.Super))
unfolding keyword_of is_reserved
super_word = keyword_word (codes "super") k.Super refl refl refl

pub this_word : Closed (word (codes "this")) (one (tk.Keyword k.This))
unfolding keyword_of is_reserved
this_word = keyword_word (codes "this") k.This refl refl refl

pub throw_word : Closed (word (codes "throw")) (one (tk.Keyword k.Throw))
unfolding keyword_of is_reserved
throw_word = keyword_word (codes "throw") k.Throw refl refl refl

pub true_word : Closed (word (codes "true")) (one (tk.Keyword k.True))
unfolding keyword_of is_reserved
true_word = keyword_word (codes "true") k.True refl refl refl

pub var_word : Closed (word (codes "var")) (one (tk.Keyword k.Var))
unfolding keyword_of is_reserved
var_word = keyword_word (codes "var") k.Var refl refl refl

pub void_word : Closed (word (codes "void")) (one (tk.Keyword k.Void))
unfolding keyword_of is_reserved
void_word = keyword_word (codes "void") k.Void refl refl refl

pub while_word : Closed (word (codes "while")) (one (tk.Keyword k.While))
unfolding keyword_of is_reserved
while_word = keyword_word (codes "while") k.While refl refl refl
