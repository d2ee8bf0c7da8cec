use Rattle.dart_lexer.specs.Model as lexer
use Rattle.dart_expr.specs.Input as input
use Rattle.dart_expr.specs.Model as expressions
use Rattle.dart_parser.specs.Statements as statements
use Rattle.dart_parser.specs.Members as members
use Rattle.dart_parser.specs.Tops as units
use Rattle.dart_syntax.specs.Names as names
use Rattle.dart_syntax.specs.Signs as signs
use Rattle.dart_syntax.specs.Numbers as numbers
use Rattle.dart_syntax.specs.Strings as strings
use Rattle.dart_meaning.specs.Sites as sites
use Rattle.dart_meaning.specs.Entry as entry
use Rattle.std.specs.Int as int
use Rattle.std.specs.Fmt as fmt
use Rattle.std.proofs.Common.{refl}
use Rattle.worked_programs.proofs.apart.fields_before_super.Goals as goal

pub returns : goal.returns
unfolding lexer.braced lexer.unicode lexer.escape lexer.escaped_one lexer.one lexer.raw lexer.simple lexer.segment lexer.slash lexer.word lexer.string lexer.closing lexer.hex_number lexer.number lexer.step lexer.lex input.same input.same_keyword input.sees input.sees_keyword input.after input.after_keyword input.is_end input.expect expressions.name expressions.more_from expressions.args expressions.piece expressions.pieces_from expressions.pieces expressions.named_term expressions.joined expressions.super_term expressions.parenthesized expressions.list expressions.primary expressions.member expressions.index expressions.selector expressions.selectors expressions.postfix expressions.target expressions.signed expressions.before expressions.stepped expressions.unary expressions.under expressions.tested expressions.link expressions.links expressions.followed expressions.chained expressions.chain expressions.branches expressions.cond expressions.assigned expressions.expression expressions.expr expressions.operand statements.item statements.ended statements.valued statements.initial statements.block statements.variable statements.constant statements.local statements.first statements.comma_item statements.comma_items statements.last statements.condition statements.branches statements.repeated statements.do_repeated statements.counted_by statements.counted statements.broken statements.continued statements.returned statements.statement statements.stmt statements.is_last members.minus members.literal members.given members.value members.param_name members.param members.listed members.param_item members.param_items members.params members.bracketed members.operator members.statements members.block members.body members.some_body members.some_block members.method members.passed members.constructor members.getter members.setter members.counted members.operator_params members.operator_member members.field members.function_member members.plain members.named_member members.dynamic members.member units.pragma units.meta units.metas units.parent units.comma_name units.more_names units.interfaces units.marked_member units.member_item units.members units.class units.function units.variable units.named_function units.dynamic_top units.constant units.abstract_class units.declared units.top units.top_item units.tops units.whole_unit names.is_reserved names.keyword_of signs.signs numbers.decimal_kind numbers.hex_kind strings.character sites.text_sites entry.enter int.int_wrap fmt.digits
returns c = refl
