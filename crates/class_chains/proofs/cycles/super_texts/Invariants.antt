use Rattle.std.proofs.Common.{◌≡◌, ◌++◌, drop}
use Rattle.dart_syntax.specs.View.{class}
use Rattle.class_chains.specs.Ranking.{name_texts, texts}
use Rattle.static_rules.specs.Supers.{supers}
use Rattle.class_chains.proofs.cycles.super_texts.Given as goal

abbrev pub invariant-loop-name : goal.invariant-loop-name
invariant-loop-name l = texts l.all.items ++ name_texts (drop l.name-index l.c.interfaces) ≡ name_texts (supers (class l.c))
