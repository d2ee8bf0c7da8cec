use Rattle.cell_rule.proofs.Parts.{starts_with_zero, is_shared, listed}
use Rattle.cell_rule.proofs.laws.rule_has_parts.Goals as goal

pub returns-clause-zero : goal.returns-clause-zero
returns-clause-zero c = starts_with_zero

pub returns-clause-shares : goal.returns-clause-shares
returns-clause-shares c = is_shared

pub returns-clause-sites : goal.returns-clause-sites
returns-clause-sites c = listed
